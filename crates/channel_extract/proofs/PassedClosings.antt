-- What a file of bytes holds that is passed to its end can be written: its entries, and its closing.
use Rattle.std.proofs.Common.{◌≡◌, ℕ, ◌<◌, inl, inr, Bool, true, false, Option, Some, None, List, [], ◌∷◌, length}
use Rattle.std.proofs.Common.{refl, sym, ap, ◌∙◌, subst, arith, true≢false}
use Rattle.std.specs.Prelude.{if◌then◌else◌, ◌==◌, ◌+◌, nat_lt}
use Rattle.std.specs.Option.{option_map, option_map_or}
use Rattle.std.proofs.lemmas.Bool.{ne_eqb}
use Rattle.std.proofs.lemmas.Option.{same_Some, none-some}
use Rattle.scalar_types.specs.declared.Order.{Order}
use Rattle.dictionary.specs.declared.entries.Entry.{Entry}
use Rattle.dictionary.specs.Dictionary.{step}
use Rattle.file_grammar.specs.declared.kind.Kind.{Kind}
use Rattle.file_grammar.specs.declared.kind.Kind.TheVariants.{FrSH, FrSE, FrameH, FrEndOfFrame, FrTOC, FrEndOfFile}
use Rattle.file_grammar.specs.declared.kind.Kind.TheVariants.{Other}
use Rattle.file_grammar.specs.declared.reason.Reason.{Reason}
use Rattle.file_grammar.specs.declared.reason.Reason.TheVariants.{RecordLimit, FrameLimit, BodyShort, BodyLong, BadText}
use Rattle.file_grammar.specs.declared.reason.Reason.TheVariants.{LooseLink}
use Rattle.file_grammar.specs.Structure.{Structure, size_of, record_limit}
use Rattle.file_grammar.specs.Kind.{kind_of, is_target_kind, is_end_kind}
use Rattle.file_grammar.specs.Record.{weight_of, first_loose}
use Rattle.file_grammar.specs.Item.{Item, EntryItem, OtherItem, Before, nothing_yet, dictionary_by, after_kind}
use Rattle.file_grammar.specs.MayStand.{KindMayStand, FileEndMayStand, MayStand}
use Rattle.file_grammar.specs.Fault.{Here, Spot, length_there, kind, load, here, fault_spot, fault_at, reasons}
use Rattle.file_grammar.specs.Fault.{first_of}
use Rattle.file_grammar.specs.Fault.{structure, entries_before}
use Rattle.file_grammar.specs.Described.{entry_from}
use Rattle.file_grammar.specs.Steps.{item_by, item_here}
use Rattle.file_grammar.proofs.Standing.{may-stand}
use Rattle.canonical_file.specs.Ranges.{AreBytes}
use Rattle.canonical_laws.proofs.DictionarySteps.{Stepped, after-gives}
use Rattle.canonical_laws.proofs.SourceEntries.{IsSourceEntry, entry-source, AreSources, no-sources, source-push}
use Rattle.canonical_laws.proofs.SourceStored.{held-kind}
use Rattle.canonical_laws.proofs.SourceClosings.{HasFileEnd, source-closing}
use Rattle.channel_extract.specs.Passing.{is_passed_over, judged_passing, first_passing, pass_fault_by, pass_fault}
use Rattle.channel_extract.specs.Passing.{after_passing, Pass}
use Rattle.channel_extract.specs.TableLaws.{PassedClosingsAreWritable}

-- ---- a structure that is read in passing is judged as any

if-other : {X : Type 0} (b : Bool) (x y : X) → b ≡ false → (if b then x else y) ≡ y
if-other true x y is = absurd (cc)
if-other false x y is = refl

same-reason : (reason : Reason) (h : Here) → is_target_kind (kind h) ≡ false → is_end_kind (kind h) ≡ false
    → judged_passing reason h ≡ fault_spot reason h
same-reason RecordLimit h read unended =
    if-other (is_passed_over h) (here h (nat_lt record_limit (length_there h))) (fault_spot RecordLimit h) read
same-reason FrameLimit h read unended =
    if-other (is_passed_over h) (here h (nat_lt record_limit (load h + length_there h))) (fault_spot FrameLimit h) read
same-reason BodyShort h read unended = if-other (is_passed_over h) None (fault_spot BodyShort h) read
same-reason BodyLong h read unended = if-other (is_passed_over h) None (fault_spot BodyLong h) read
same-reason BadText h read unended = if-other (is_passed_over h) None (fault_spot BadText h) read
same-reason LooseLink h read unended =
    sym (if-other (is_end_kind (kind h))
    (first_loose h.order (entries_before h) h.before.frame h.before.frame) None unended)
same-reason reason h read unended = refl

same-first : (rs : List Reason) (h : Here) → is_target_kind (kind h) ≡ false → is_end_kind (kind h) ≡ false
    → first_passing rs h ≡ first_of rs h
same-first [] h read unended = refl
same-first (r ∷ rs) h read unended =
    λ i. option_map_or (λ (spot : Spot). Some (fault_at r spot)) (same-reason r h read unended i)
    (same-first rs h read unended i)

-- where no fault is found in passing, the end of the file does not stand before the place, and no reason holds
no-reason : (h : Here) (closed ends : Bool) → ends ≡ false → pass_fault_by closed ends h ≡ None
    → (closed ≡ false) × (first_passing reasons h ≡ None)
no-reason h false false not_end none = (refl, none)
no-reason h true false not_end none = absurd (none-some _ (sym none))
no-reason h false true not_end none = absurd (cc)
no-reason h true true not_end none = absurd (cc)

cleared : (h : Here) → h.before.place < length h.file → pass_fault h ≡ None
    → (h.before.closed ≡ false) × (first_passing reasons h ≡ None)
cleared h within none =
    no-reason h h.before.closed (h.before.place == length h.file)
    (ne_eqb h.before.place (length h.file) (λ e. absurd (omega (arith, e, within)))) none

stands : (h : Here) (item : Item) → h.before.place < length h.file → pass_fault h ≡ None → item_here h ≡ Some item
    → is_target_kind (kind h) ≡ false → is_end_kind (kind h) ≡ false → MayStand h.order h.file h.before item
stands h item within none is read unended =
    let clear = cleared h within none in
    let may = may-stand h clear.0 within (sym (same-first reasons h read unended) ∙ clear.1) in
    subst (MayStand h.order h.file h.before) (same_Some may.0 item (sym may.1 ∙ is)) may.2

-- ---- one item

-- an entry is an FrSH, and any other item is the structure that stands there
entry-kind : (h : Here) (k : Kind) (head : Structure) (run : List Structure) (e : Entry)
    → item_by k h ≡ Some (EntryItem head run e) → k ≡ FrSH
entry-kind h FrSH head run e is = refl
entry-kind h FrSE head run e is = absurd (cc)
entry-kind h FrameH head run e is = absurd (cc)
entry-kind h FrEndOfFrame head run e is = absurd (cc)
entry-kind h FrTOC head run e is = absurd (cc)
entry-kind h FrEndOfFile head run e is = absurd (cc)
entry-kind h Other head run e is = absurd (cc)

no-entry : (h : Here) (run : List Structure) (o : Option Entry) (s : Structure)
    → option_map (λ entry. EntryItem (structure h) run entry) o ≡ Some (OtherItem s) → s ≡ structure h
no-entry h run None s is = absurd (none-some (OtherItem s) is)
no-entry h run (Some e) s is = absurd (cc)

structure-of : Item → Structure
structure-of (EntryItem head run e) = head
structure-of (OtherItem s) = s

other-is : (h : Here) (s : Structure) → ◌≡◌ {A = Option Item} (Some (OtherItem (structure h))) (Some (OtherItem s))
    → s ≡ structure h
unfolding structure-of
other-is h s is = ap structure-of (sym (same_Some (OtherItem (structure h)) (OtherItem s) is))

other-here : (h : Here) (k : Kind) (s : Structure) → item_by k h ≡ Some (OtherItem s) → s ≡ structure h
other-here h FrSH s is = no-entry h _ (entry_from h.order h.file (structure h)) s is
other-here h FrSE s is = other-is h s is
other-here h FrameH s is = other-is h s is
other-here h FrEndOfFrame s is = other-is h s is
other-here h FrTOC s is = other-is h s is
other-here h FrEndOfFile s is = other-is h s is
other-here h Other s is = other-is h s is

sources-after : (entries_before : List Entry) (e : Entry) → AreSources entries_before → IsSourceEntry e
    → AreSources (dictionary_by entries_before (step entries_before e))
sources-after entries_before e sources is =
    by (dictionary_by entries_before (step entries_before e)) (after-gives entries_before e)
  where
    by : (next : List Entry) → Stepped entries_before e next → AreSources next
    by next (inl same) = subst AreSources (sym same) sources
    by next (inr both) = subst AreSources (sym both.1) (source-push entries_before e sources is both.0)

kept-held : (k : Kind) (b : Before) (s : Structure) (weight : ℕ) → (after_kind k b s weight).dictionary ≡ b.dictionary
kept-held FrSH b s weight = refl
kept-held FrSE b s weight = refl
kept-held FrameH b s weight = refl
kept-held FrEndOfFrame b s weight = refl
kept-held FrTOC b s weight = refl
kept-held FrEndOfFile b s weight = refl
kept-held Other b s weight = refl

end-kind : (k : Kind) (b : Before) (s : Structure) (weight : ℕ) → b.closed ≡ false
    → (after_kind k b s weight).closed ≡ true → k ≡ FrEndOfFile
end-kind FrEndOfFile b s weight unended closed = refl
end-kind FrSH b s weight unended closed = absurd (true≢false (sym closed ∙ unended))
end-kind FrSE b s weight unended closed = absurd (true≢false (sym closed ∙ unended))
end-kind FrameH b s weight unended closed = absurd (true≢false (sym closed ∙ unended))
end-kind FrEndOfFrame b s weight unended closed = absurd (true≢false (sym closed ∙ unended))
end-kind FrTOC b s weight unended closed = absurd (true≢false (sym closed ∙ unended))
end-kind Other b s weight unended closed = absurd (true≢false (sym closed ∙ unended))

-- what is known before a place
record IsKnown (b : Before) : Type 0 where
  sources : AreSources b.dictionary
  end : b.closed ≡ true → HasFileEnd b.dictionary

file-end : (order : Order) (b : Before) (s : Structure) → AreSources b.dictionary
    → kind_of b.dictionary s.class ≡ FrEndOfFile → FileEndMayStand order b s → HasFileEnd b.dictionary
file-end order b s sources is may = record {
  class = s.class;
  entry = may.entry;
  held_is = may.held;
  kind = sym (held-kind b.dictionary s.class may.entry sources may.held) ∙ is;
  closing = may.layout;
}

known-after : (order : Order) (file : List ℕ) (b : Before) (item : Item) → AreBytes file → b.place < length file
    → pass_fault (record { order = order; file = file; before = b }) ≡ None
    → item_here (record { order = order; file = file; before = b }) ≡ Some item → IsKnown b
    → IsKnown (after_passing order b item)
known-after order file b (EntryItem head run e) bytes within none is known =
    let h : Here = record { order = order; file = file; before = b } in
    let own : kind h ≡ FrSH = entry-kind h (kind h) head run e is in
    let may = stands h (EntryItem head run e) within none is (ap is_target_kind own) (ap is_end_kind own) in
    record {
      sources = sources-after b.dictionary e known.sources (entry-source order file head run e bytes may.1.described);
      end = λ closed. absurd (true≢false (sym closed ∙ may.0));
    }
known-after order file b (OtherItem s) bytes within none is known =
    let h : Here = record { order = order; file = file; before = b } in
    let k = kind_of b.dictionary s.class in
    let weight = if is_target_kind k then size_of s else weight_of order b.dictionary s in
    let stays : (after_kind k b s weight).dictionary ≡ b.dictionary = kept-held k b s weight in
    let own : kind h ≡ k = ap (λ (t : Structure). kind_of b.dictionary t.class) (sym (other-here h (kind h) s is)) in
    record {
      sources = subst AreSources (sym stays) known.sources;
      end = λ closed.
          let ends : k ≡ FrEndOfFile = end-kind k b s weight (cleared h within none).0 closed in
          let may = stands h (OtherItem s) within none is (ap is_target_kind (own ∙ ends))
          (ap is_end_kind (own ∙ ends)) in
          subst HasFileEnd (sym stays)
          (file-end order b s known.sources ends (subst (λ x. KindMayStand x order b s) ends may.1.kind));
    }

known-items : (order : Order) (file : List ℕ) (b : Before) (items : List Item) (last : Before) → AreBytes file
    → Pass order file b items last → IsKnown b → IsKnown last
known-items order file b [] last bytes pass known = subst IsKnown (sym pass) known
known-items order file b (item ∷ items) last bytes pass known =
    known-items order file (after_passing order b item) items last bytes pass.3
    (known-after order file b item bytes pass.0 pass.1 pass.2 known)

pub passed_closing : PassedClosingsAreWritable
passed_closing file order items last bytes passed =
    let known = known-items order file nothing_yet items last bytes passed.to.pass
    (record { sources = no-sources; end = λ closed. absurd (cc) }) in
    source-closing last.dictionary known.sources (known.end passed.closed)
