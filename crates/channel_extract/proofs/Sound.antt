-- In a well-formed file each record of a frame reads, within the limits, and its links have targets.
use Rattle.std.proofs.Common.{◌≡◌, ℕ, zero, suc, ◌+◌, ◌<◌, ◌≤◌, inl, inr, Bool, true, false, Option}
use Rattle.std.proofs.Common.{Some, None, List, [], ◌∷◌, ◌++◌, length, sum_by, refl, sym, ap, ◌∙◌, subst, arith}
use Rattle.std.proofs.Common.{true≢false, cond, get_or}
use Rattle.std.specs.Prelude.{Result, Ok, Err, Any, option_and_then, find}
use Rattle.std.specs.List.{AllByRecursion}
use Rattle.std.specs.Option.{option_map, option_map_or}
use Rattle.std.specs.Result.{result_ok, result_err}
use Rattle.std.proofs.lemmas.List.Sums.{sum_by-cons, sum_by_push}
use Rattle.std.proofs.lemmas.Option.{none-some}
use Rattle.scalar_types.specs.declared.Order.{Order}
use Rattle.record_values.specs.declared.values.Value.{Value}
use Rattle.dictionary.specs.declared.entries.Entry.{Entry}
use Rattle.layout_plan.specs.declared.fields.Field.{Field}
use Rattle.layout_plan.specs.declared.faults.BodyFault.{BodyFault}
use Rattle.layout_plan.specs.declared.links.FieldLink.{FieldLink}
use Rattle.layout_plan.specs.Links.{field_links}
use Rattle.layout_plan.specs.Reading.{body_in, fault_of}
use Rattle.file_grammar.specs.declared.kind.Kind.{Kind}
use Rattle.file_grammar.specs.declared.kind.Kind.TheVariants.{FrSH, FrSE, FrameH, FrEndOfFrame, FrTOC, FrEndOfFile}
use Rattle.file_grammar.specs.declared.kind.Kind.TheVariants.{Other}
use Rattle.file_grammar.specs.declared.fault.Fault.{Fault}
use Rattle.file_grammar.specs.Structure.{Structure, record_limit}
use Rattle.file_grammar.specs.Kind.{kind_of}
use Rattle.file_grammar.specs.Record.{Reading, layout_in, reading_by, reading_of, values_of, weight_of, is_loose}
use Rattle.file_grammar.specs.Record.{loose_field, first_loose, AreLinked}
use Rattle.file_grammar.specs.Item.{Item, EntryItem, OtherItem, Before, nothing_yet, after_kind, after}
use Rattle.file_grammar.specs.MayStand.{KindMayStand, MayStand, Stand}
use Rattle.file_grammar.proofs.Linked.{no_loose-linked}
use Rattle.file_content.specs.Stored.{structures_brought, brought_in}
use Rattle.canonical_laws.proofs.DictionarySteps.{StaysIn, reading-stays, weight-stays}
use Rattle.canonical_laws.proofs.SourceItems.{item-stays}
use Rattle.channel_extract.specs.Placed.{PlacedFrame, placed_of_kind, placed_ended, placed_in}
use Rattle.channel_extract.specs.OtherFiles.{IsFaultOf, IsLooseIn, load_of}
use Rattle.channel_extract.specs.TableLaws.{NoRecordHasAFault}
use Rattle.channel_extract.proofs.Rising.{all-joined}

pub record Reads (order : Order) (held : List Entry) (s : Structure) : Type 0 where
  pub reading : Reading
  pub is : reading_of order held s ≡ Some reading
  pub small : weight_of order held s ≤ record_limit

-- the records of the open frame read by the dictionary, and their weights together are the load
record AreKept (order : Order) (held : List Entry) (frame : List Structure) (load : ℕ) : Type 0 where
  read : AllByRecursion (Reads order held) frame
  sum : sum_by (weight_of order held) frame ≡ load

kept-grows : (order : Order) (held next : List Entry) (frame : List Structure) (load : ℕ) → StaysIn held next
    → AreKept order held frame load → AreKept order next frame load
kept-grows order held next frame load stays kept = record {
  read = all frame kept.read;
  sum = same frame kept.read ∙ kept.sum;
}
  where
    all : (ss : List Structure) → AllByRecursion (Reads order held) ss → AllByRecursion (Reads order next) ss
    all [] read = tt
    all (s ∷ ss) read = (
      record {
        reading = read.0.reading;
        is = reading-stays order held next s read.0.reading stays read.0.is;
        small = subst (λ n. n ≤ record_limit) (sym (weight-stays order held next s read.0.reading stays read.0.is))
            read.0.small;
      },
      all ss read.1,
    )

    same : (ss : List Structure) → AllByRecursion (Reads order held) ss
        → sum_by (weight_of order next) ss ≡ sum_by (weight_of order held) ss
    same [] read = refl
    same (s ∷ ss) read =
        sum_by-cons (weight_of order next) s ss
        ∙ (λ i. weight-stays order held next s read.0.reading stays read.0.is i + same ss read.1 i)
        ∙ sym (sum_by-cons (weight_of order held) s ss)

all-pushed : (order : Order) (held : List Entry) (frame : List Structure) (s : Structure)
    → AllByRecursion (Reads order held) frame → Reads order held s → AllByRecursion (Reads order held) (frame ++ s ∷ [])
all-pushed order held [] s all one = (one, tt)
all-pushed order held (t ∷ ts) s all one = (all.0, all-pushed order held ts s all.1 one)

kept-pushed : (order : Order) (held : List Entry) (frame : List Structure) (load : ℕ) (s : Structure)
    → AreKept order held frame load → Reads order held s
    → AreKept order held (frame ++ s ∷ []) (load + weight_of order held s)
kept-pushed order held frame load s kept one = record {
  read = all-pushed order held frame s kept.read one;
  sum = sum_by_push (weight_of order held) frame s ∙ ap (λ n. n + weight_of order held s) kept.sum;
}

kept-kind : (k : Kind) (order : Order) (b : Before) (s : Structure) → KindMayStand k order b s
    → AreKept order b.dictionary b.frame b.load
    → AreKept order (after_kind k b s (weight_of order b.dictionary s)).dictionary
    (after_kind k b s (weight_of order b.dictionary s)).frame (after_kind k b s (weight_of order b.dictionary s)).load
kept-kind FrameH order b s may kept =
    kept-pushed order b.dictionary b.frame b.load s kept
    (record { reading = may.0.reading; is = may.0.reads; small = may.0.weight })
kept-kind Other order b s may kept =
    kept-pushed order b.dictionary b.frame b.load s kept
    (record { reading = may.0.reading; is = may.0.reads; small = may.0.weight })
kept-kind FrEndOfFrame order b s may kept = record { read = tt; sum = refl }
kept-kind FrTOC order b s may kept = kept
kept-kind FrEndOfFile order b s may kept = kept
kept-kind FrSH order b s may kept = absurd may
kept-kind FrSE order b s may kept = absurd may

kept-item : (order : Order) (file : List ℕ) (b : Before) (item : Item) → MayStand order file b item
    → AreKept order b.dictionary b.frame b.load
    → AreKept order (after order b item).dictionary (after order b item).frame (after order b item).load
kept-item order file b (EntryItem head run entry) may kept =
    kept-grows order b.dictionary (after order b (EntryItem head run entry)).dictionary b.frame b.load
    (item-stays order b (EntryItem head run entry)) kept
kept-item order file b (OtherItem s) may kept =
    kept-kind (kind_of b.dictionary s.class) order b s may.1.kind kept

-- ---- frames

pub record IsSound (p : PlacedFrame) : Type 0 where
  pub read : AllByRecursion (Reads p.order p.held) p.records
  pub load : load_of p ≤ record_limit
  pub linked : AreLinked p.order p.held p.records p.records

sound-kind : (k : Kind) (order : Order) (b : Before) (s : Structure) → KindMayStand k order b s
    → AreKept order b.dictionary b.frame b.load → AllByRecursion IsSound (placed_of_kind order k b s)
sound-kind FrEndOfFrame order b s may kept = (
  record {
    read = kept.read;
    load = subst (λ n. n + weight_of order b.dictionary s ≤ record_limit) (sym kept.sum) may.0.load;
    linked = may.2;
  },
  tt,
)
sound-kind FrameH order b s may kept = tt
sound-kind Other order b s may kept = tt
sound-kind FrTOC order b s may kept = tt
sound-kind FrEndOfFile order b s may kept = tt
sound-kind FrSH order b s may kept = tt
sound-kind FrSE order b s may kept = tt

sound-item : (order : Order) (file : List ℕ) (b : Before) (item : Item) → MayStand order file b item
    → AreKept order b.dictionary b.frame b.load
    → AllByRecursion IsSound (structures_brought (placed_ended order) b item)
sound-item order file b (EntryItem head run entry) may kept = tt
sound-item order file b (OtherItem s) may kept =
    sound-kind (kind_of b.dictionary s.class) order b s may.1.kind kept

sound-items : (order : Order) (file : List ℕ) (b : Before) (items : List Item) (last : Before)
    → Stand order file b items last → AreKept order b.dictionary b.frame b.load
    → AllByRecursion IsSound (brought_in (placed_ended order) order b items)
sound-items order file b [] last stand kept = tt
sound-items order file b (item ∷ items) last stand kept =
    all-joined IsSound (structures_brought (placed_ended order) b item)
    (brought_in (placed_ended order) order (after order b item) items) (sound-item order file b item stand.0 kept)
    (sound-items order file (after order b item) items last stand.1 (kept-item order file b item stand.0 kept))

pub sound : (order : Order) (file : List ℕ) (items : List Item) (last : Before)
    → Stand order file nothing_yet items last → AllByRecursion IsSound (placed_in order items)
sound order file items last stand =
    sound-items order file nothing_yet items last stand (record { read = tt; sum = refl })

-- ---- no fault

body-clear : (order : Order) (body : List ℕ) (o : Option (List Field)) (r : Reading) (f : BodyFault)
    → option_and_then (reading_by order body) o ≡ Some r
    → option_and_then (λ fields. fault_of order fields body) o ≡ Some f → ⊥
body-clear order body None r f read wrong = none-some f wrong
body-clear order body (Some fields) r f read wrong = by (body_in order fields body) read wrong
  where
    by : (x : Result (List Value × List ℕ) BodyFault)
        → option_map (λ (found : List Value × List ℕ). record { fields = fields; values = found.0; tail = found.1 })
        (result_ok x) ≡ Some r → result_err x ≡ Some f → ⊥
    by (Ok found) read wrong = none-some f wrong
    by (Err fault) read wrong = none-some r read

none-found : (b : Bool) (l : FieldLink) (o : Option FieldLink)
    → option_map (λ (found : FieldLink). found.field) (cond b (Some l) o) ≡ None
    → (b ≡ false) × (option_map (λ (found : FieldLink). found.field) o ≡ None)
none-found true l o none = absurd (none-some l.field (sym none))
none-found false l o none = (refl, none)

tight : (p : PlacedFrame) (field : ℕ) (links : List FieldLink) → loose_field p.records links ≡ None
    → Any (IsLooseIn p field) links → ⊥
tight p field [] none (i, x, within, is, loose) = omega (arith, within)
tight p field (l ∷ ls) none (zero, x, within, is, loose) =
    let free = (none-found (is_loose p.records l.link) l
    (find (λ (found : FieldLink). is_loose p.records found.link) ls) none).0 in
    true≢false (sym loose.1 ∙ ap (λ (y : FieldLink). is_loose p.records y.link) (sym is) ∙ free)
tight p field (l ∷ ls) none (suc i, x, within, is, loose) =
    tight p field ls (none-found (is_loose p.records l.link) l
    (find (λ (found : FieldLink). is_loose p.records found.link) ls) none).1
    (i, x, omega (arith, within), is, loose)

-- no link of the record is loose
abbrev IsTight : PlacedFrame → Structure → Type 0
IsTight p s = loose_field p.records (field_links 0 (values_of p.order p.held s)) ≡ None

loose-parts : (o : Option ℕ) (at : ℕ) (rest : Option (ℕ × ℕ)) → option_map_or (λ field. Some (at, field)) o rest ≡ None
    → (o ≡ None) × (rest ≡ None)
loose-parts None at rest none = (refl, none)
loose-parts (Some k) at rest none = absurd (none-some (at, k) (sym none))

all-tight : (p : PlacedFrame) (ss : List Structure) → first_loose p.order p.held p.records ss ≡ None
    → AllByRecursion (IsTight p) ss
all-tight p [] none = tt
all-tight p (s ∷ ss) none =
    let parts = loose-parts (loose_field p.records (field_links 0 (values_of p.order p.held s))) s.at
    (first_loose p.order p.held p.records ss) none in
    (parts.0, all-tight p ss parts.1)

clear : (p : PlacedFrame) (s : Structure) (fault : Fault) → Reads p.order p.held s → load_of p ≤ record_limit
    → IsTight p s → IsFaultOf p fault s → ⊥
clear p s fault read load free (inl (f, wrong, is)) =
    body-clear p.order s.body (layout_in p.held s.class) read.reading f read.is wrong
clear p s fault read load free (inr (inl (some, heavy, is))) = omega (arith, heavy, read.small)
clear p s fault read load free (inr (inr (inl (heavy, is)))) = omega (arith, heavy, load)
clear p s fault read load free (inr (inr (inr (field, loose, is)))) =
    tight p field (field_links 0 (values_of p.order p.held s)) free loose

-- what holds of each holds of some
pub of-some : {X : Type 0} (P : X → Type 0) (xs : List X) (k : ℕ) (x : X) → AllByRecursion P xs → k < length xs
    → get_or xs k x ≡ x → P x
of-some P [] k x all within is = absurd (omega (arith, within))
of-some P (y ∷ ys) zero x all within is = subst P is all.0
of-some P (y ∷ ys) (suc k) x all within is = of-some P ys k x all.1 (omega (arith, within)) is

pub no-faults : NoRecordHasAFault
no-faults file order items last fault well (k, p, within, is, (j, s, inside, there, wrong)) =
    let all = sound order file items last well.begins.stand in
    let one : IsSound p = of-some IsSound (placed_in order items) k p all within is in
    let read : Reads p.order p.held s = of-some (Reads p.order p.held) p.records j s one.read inside there in
    let free : IsTight p s =
    of-some (IsTight p) p.records j s
    (all-tight p p.records (no_loose-linked p.order p.held p.records p.records one.linked)) inside there in
    clear p s fault read one.load free wrong
