-- The closing of a well-formed file of bytes can be written.
use Rattle.std.proofs.Common.{◌≡◌, ℕ, Bool, true, false, cond, Option, Some, None, IfSome, IsSomeAnd, List, [], ◌∷◌}
use Rattle.std.proofs.Common.{map, find}
use Rattle.std.proofs.Common.{codes, refl, sym, ap, ◌∙◌, subst, true≢false}
use Rattle.std.specs.Prelude.{◌==◌, option_and_then}
use Rattle.std.specs.Option.{option_map, option_map_or}
use Rattle.std.specs.Str.{bytes_eq}
use Rattle.std.proofs.lemmas.Bool.{eq-eqb}
use Rattle.std.proofs.lemmas.Option.{none-some, same_Some}
use Rattle.std.proofs.lemmas.Slice.Eq.{bytes_eq-Decides}
use Rattle.scalar_types.specs.declared.Order.{Order}
use Rattle.dictionary.specs.declared.entries.Entry.{Entry}
use Rattle.dictionary.specs.Dictionary.{entry_of, class_named, IsDictionary}
use Rattle.file_grammar.specs.declared.kind.Kind.{Kind}
use Rattle.file_grammar.specs.declared.kind.Kind.TheVariants.{FrSH, FrSE, FrameH, FrEndOfFrame, FrTOC, FrEndOfFile}
use Rattle.file_grammar.specs.declared.kind.Kind.TheVariants.{Other}
use Rattle.file_grammar.specs.Structure.{Structure}
use Rattle.file_grammar.specs.Kind.{kind_named, kind_of}
use Rattle.file_grammar.specs.Record.{weight_of}
use Rattle.file_grammar.specs.Closing.{closes}
use Rattle.file_grammar.specs.Item.{Item, EntryItem, OtherItem, Before, after_kind, after}
use Rattle.file_grammar.specs.MayStand.{KindMayStand, StructureMayStand, MayStand, Stand}
use Rattle.frame_content.specs.Labels.{printed_entry, no_entry}
use Rattle.contents_table.specs.Fit.{is_fit}
use Rattle.canonical_file.specs.Ranges.{AreBytes}
use Rattle.canonical_laws.specs.Content.{entry_named, if_fit, closing_by}
use Rattle.canonical_laws.specs.Writable.{IsWritableFileEnd, IsWritableTable, IsWritableClosing}
use Rattle.canonical_file.proofs.Printing.{entry-twice}
use Rattle.canonical_laws.proofs.PrintedDictionaries.{entry_of-printed}
use Rattle.canonical_laws.proofs.PrintedClosings.{closes-printed, fit-printed}
use Rattle.canonical_laws.proofs.SourceEntries.{AreSources, source-held, entry-printed}
use Rattle.canonical_laws.proofs.SourceStored.{held-class, held-kind}
use Rattle.canonical_laws.proofs.SourceItems.{IsSourceBefore, item-source}

-- ---- the entry of a name

-- two searches find one element, where each finds what passes the other's test
pub find-both : {X : Type 0} (p q : X → Bool) (xs : List X) (a b : X) → find p xs ≡ Some a → find q xs ≡ Some b
    → p b ≡ true → q a ≡ true → a ≡ b
find-both p q [] a b first second other one = absurd (none-some a first)
find-both p q (x ∷ xs) a b first second other one =
    by (p x) (q x) refl refl first second (λ f s. find-both p q xs a b f s other one)
  where
    by : (c d : Bool) → p x ≡ c → q x ≡ d → cond c (Some x) (find p xs) ≡ Some a → cond d (Some x) (find q xs) ≡ Some b
        → (find p xs ≡ Some a → find q xs ≡ Some b → a ≡ b) → a ≡ b
    by true true pass too first second rest = sym (same_Some x a first) ∙ same_Some x b second
    by true false pass too first second rest =
        absurd (true≢false (sym one ∙ ap q (sym (same_Some x a first)) ∙ too))
    by false true pass too first second rest =
        absurd (true≢false (sym other ∙ ap p (sym (same_Some x b second)) ∙ pass))
    by false false pass too first second rest = rest first second

same-name : (e : Entry) (name : List ℕ) → e.name ≡ name → bytes_eq name name ≡ true → bytes_eq name e.name ≡ true
same-name e name is self = ap (bytes_eq name) is ∙ self

-- an entry that is found by its name is held of its class
pub named-held : (held : List Entry) (name : List ℕ) (e : Entry) → IsDictionary held → bytes_eq name name ≡ true
    → entry_named held name ≡ Some e → entry_of held e.class ≡ Some e
named-held held name e sound self is =
    by (entry_of held e.class) refl
    (sound.names name e.class (ap (option_map (λ (x : Entry). x.class)) is))
  where
    by : (o : Option Entry) → entry_of held e.class ≡ o → IsSomeAnd o (λ (x : Entry). x.name ≡ name)
        → entry_of held e.class ≡ Some e
    by None found some = absurd some
    by (Some x) found named =
        found ∙ ap Some (sym (find-both (λ (y : Entry). bytes_eq name y.name)
        (λ (y : Entry). e.class == y.class) held e x
        is found (same-name x name named self) (eq-eqb e.class e.class refl)))

-- an entry that is held is found by its name
pub held-named : (held : List Entry) (name : List ℕ) (class : ℕ) (e : Entry) → IsDictionary held
    → bytes_eq name name ≡ true
    → e.name ≡ name → entry_of held class ≡ Some e → entry_named held name ≡ Some e
held-named held name class e sound self named is =
    by (entry_named held name) refl (ap (class_named held) (sym named) ∙ (sound.entries class e is).name)
  where
    by : (o : Option Entry) → entry_named held name ≡ o → option_map (λ (x : Entry). x.class) o ≡ Some e.class
        → entry_named held name ≡ Some e
    by None found some = absurd (none-some e.class some)
    by (Some x) found some =
        let own : entry_of held x.class ≡ Some x = named-held held name x sound self found in
        let class_is : x.class ≡ class = same_Some x.class e.class some ∙ sym (held-class held class e is) in
        found ∙ sym own ∙ ap (entry_of held) class_is ∙ is

pub named-name : (held : List Entry) (name : List ℕ) (e : Entry) → IsDictionary held → bytes_eq name name ≡ true
    → entry_named held name ≡ Some e → e.name ≡ name
named-name held name e sound self is =
    subst (λ o. IsSomeAnd o (λ (x : Entry). x.name ≡ name)) (named-held held name e sound self is)
    (sound.names name e.class (ap (option_map (λ (x : Entry). x.class)) is))

-- the name of FrEndOfFile
pub end-named : (name : List ℕ) → kind_named name ≡ FrEndOfFile → name ≡ codes "FrEndOfFile"
end-named name is =
    (bytes_eq-Decides name (codes "FrEndOfFile")).0
    (by (bytes_eq name (codes "FrameH")) (bytes_eq name (codes "FrEndOfFrame")) (bytes_eq name (codes "FrTOC"))
    (bytes_eq name (codes "FrEndOfFile")) is)
  where
    by : (a b c d : Bool)
        → cond a FrameH (cond b FrEndOfFrame (cond c FrTOC (cond d FrEndOfFile Other))) ≡ FrEndOfFile → d ≡ true
    by true b c d is = cc
    by false true c d is = cc
    by false false true d is = cc
    by false false false true is = refl
    by false false false false is = cc

-- ---- the end of the file

-- an entry is held of the layout that FrEndOfFile has to have
pub record HasFileEnd (held : List Entry) : Type 0 where
  pub class : ℕ
  pub entry : Entry
  pub held_is : entry_of held class ≡ Some entry
  pub kind : kind_named entry.name ≡ FrEndOfFile
  pub closing : closes entry.elements ≡ true

kind-end : (order : Order) (file : List ℕ) (b : Before) (s : Structure) → IsSourceBefore order b → b.closed ≡ false
    → StructureMayStand order file b s → (kind : Kind) → kind_of b.dictionary s.class ≡ kind
    → KindMayStand kind order b s → (after_kind kind b s (weight_of order b.dictionary s)).closed ≡ true
    → HasFileEnd (after_kind kind b s (weight_of order b.dictionary s)).dictionary
kind-end order file b s is unclosed may FrEndOfFile kind_is standing closed = record {
  class = s.class;
  entry = standing.entry;
  held_is = standing.held;
  kind = sym (held-kind b.dictionary s.class standing.entry is.sources standing.held) ∙ kind_is;
  closing = standing.layout;
}
kind-end order file b s is unclosed may FrameH kind_is standing closed = absurd (true≢false (sym closed ∙ unclosed))
kind-end order file b s is unclosed may FrEndOfFrame kind_is standing closed =
    absurd (true≢false (sym closed ∙ unclosed))
kind-end order file b s is unclosed may FrTOC kind_is standing closed = absurd (true≢false (sym closed ∙ unclosed))
kind-end order file b s is unclosed may FrSH kind_is standing closed = absurd (true≢false (sym closed ∙ unclosed))
kind-end order file b s is unclosed may FrSE kind_is standing closed = absurd (true≢false (sym closed ∙ unclosed))
kind-end order file b s is unclosed may Other kind_is standing closed = absurd (true≢false (sym closed ∙ unclosed))

item-end : (order : Order) (file : List ℕ) (b : Before) (item : Item) → IsSourceBefore order b
    → MayStand order file b item → (after order b item).closed ≡ true → HasFileEnd (after order b item).dictionary
item-end order file b (EntryItem head run e) is may closed = absurd (true≢false (sym closed ∙ may.0))
item-end order file b (OtherItem s) is may closed =
    kind-end order file b s is may.0 may.1 (kind_of b.dictionary s.class) refl may.1.kind closed

pub stand-end : (order : Order) (file : List ℕ) (b last : Before) (items : List Item) → AreBytes file
    → Stand order file b items last → IsSourceBefore order b → (b.closed ≡ true → HasFileEnd b.dictionary)
    → last.closed ≡ true → HasFileEnd last.dictionary
stand-end order file b last [] bytes stand is end closed =
    subst (λ (x : Before). HasFileEnd x.dictionary) (sym stand)
    (end (ap (λ (x : Before). x.closed) (sym stand) ∙ closed))
stand-end order file b last (item ∷ items) bytes stand is end closed =
    stand-end order file (after order b item) last items bytes stand.1 (item-source order file b item bytes stand.0 is)
    (item-end order file b item is stand.0) closed

-- ---- the closing

end-writable : (held : List Entry) → AreSources held → (end : HasFileEnd held)
    → IsWritableFileEnd (map printed_entry held) (printed_entry end.entry)
end-writable held sources end = record {
  entry = entry-printed end.entry (source-held held end.class end.entry sources end.held_is);
  kind = end.kind;
  printed = entry-twice end.entry;
  closes = closes-printed end.entry.elements ∙ end.closing;
  held = entry_of-printed held end.entry.class ∙ ap (option_map printed_entry)
      (ap (entry_of held) (sym (held-class held end.class end.entry end.held_is)) ∙ end.held_is);
}

table-writable : (held : List Entry) (e : Entry) → AreSources held → entry_named held (codes "FrTOC") ≡ Some e
    → is_fit e ≡ true → IsWritableTable (map printed_entry held) (printed_entry e)
table-writable held e sources is fit =
    let own : entry_of held e.class ≡ Some e = named-held held (codes "FrTOC") e sources.sound refl is in
    record {
      entry = entry-printed e (source-held held e.class e sources own);
      kind = ap kind_named (named-name held (codes "FrTOC") e sources.sound refl is);
      printed = entry-twice e;
      fit = fit-printed e ∙ fit;
      held = entry_of-printed held e.class ∙ ap (option_map printed_entry) own;
    }

tables-writable : (held : List Entry) → AreSources held
    → IfSome (closing_by held).table (IsWritableTable (map printed_entry held))
tables-writable held sources = by (entry_named held (codes "FrTOC")) refl
  where
    of : (e : Entry) → entry_named held (codes "FrTOC") ≡ Some e → (b : Bool) → is_fit e ≡ b
        → IfSome (option_map printed_entry (cond b (Some e) None)) (IsWritableTable (map printed_entry held))
    of e is true fit = table-writable held e sources is fit
    of e is false unfit = tt

    by : (o : Option Entry) → entry_named held (codes "FrTOC") ≡ o
        → IfSome (option_map printed_entry (option_and_then if_fit o)) (IsWritableTable (map printed_entry held))
    by None is = tt
    by (Some e) is = of e is (is_fit e) refl

pub source-closing : (held : List Entry) → AreSources held → HasFileEnd held
    → IsWritableClosing (map printed_entry held) (closing_by held)
source-closing held sources end = record {
  end = subst (λ o. IsWritableFileEnd (map printed_entry held) (option_map_or printed_entry o no_entry))
      (sym (held-named held (codes "FrEndOfFile") end.class end.entry sources.sound refl
      (end-named end.entry.name end.kind) end.held_is)) (end-writable held sources end);
  table = tables-writable held sources;
}
