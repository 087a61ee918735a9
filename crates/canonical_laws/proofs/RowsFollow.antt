-- The rows of a frame may stand one after another.
use Rattle.std.proofs.Common.{◌≡◌, ℕ, suc, ◌+◌, ◌^◌, ◌<◌, ◌≤◌, ◌⊎◌, inl, inr, false, Option, Some, None, List, [], ◌∷◌}
use Rattle.std.proofs.Common.{◌++◌}
use Rattle.std.proofs.Common.{length, map, get_or, drop, refl, sym, ap, ◌∙◌, subst, arith, add-one, length-append}
use Rattle.std.proofs.Common.{length-drop}
use Rattle.std.proofs.Common.{drop-cons}
use Rattle.std.specs.Prelude.{sum_by}
use Rattle.std.specs.List.{AllByRecursion, enumerate_from}
use Rattle.std.proofs.Math.Seq.{get_or-append_seam}
use Rattle.std.proofs.Math.ListN.{get_or-append}
use Rattle.std.proofs.lemmas.Bool.{cases_lt}
use Rattle.std.proofs.lemmas.List.Sums.{sum_by-cons}
use Rattle.dictionary.specs.declared.entries.Entry.{Entry}
use Rattle.dictionary.specs.Dictionary.{entry_of, IsDictionary}
use Rattle.file_grammar.specs.declared.kind.Kind.{Kind}
use Rattle.file_grammar.specs.declared.kind.Kind.TheVariants.{FrSH, FrSE, FrameH, FrEndOfFrame, FrTOC, FrEndOfFile}
use Rattle.file_grammar.specs.declared.kind.Kind.TheVariants.{Other}
use Rattle.file_grammar.specs.Structure.{Structure, record_limit}
use Rattle.file_grammar.specs.Kind.{kind_of}
use Rattle.file_grammar.specs.Item.{Before}
use Rattle.file_grammar.specs.MayStand.{IsNewIn, HasHeader}
use Rattle.item_reader.proofs.Growing.{entry_of-stays, entry_of-own}
use Rattle.frame_content.specs.Frames.{Row, Frame, no_row, row_at, label_at}
use Rattle.canonical_file.specs.Ordered.{class_at, instance_at}
use Rattle.canonical_file.specs.Records.{Record, record_bytes, row_record, added_by, entries_after}
use Rattle.canonical_laws.specs.Writable.{IsRowOfKind, IsWritableRow, record_at, kind_at, size_of_record}
use Rattle.canonical_laws.proofs.Instances.{instance-less}
use Rattle.canonical_laws.proofs.WrittenRecords.{record_structure, kind-held, IsRowKind, MayFollow, Agrees}
use Rattle.canonical_laws.proofs.RecordsInTurn.{before_record, after_piece, after_pieces, AllFollow}
use Rattle.canonical_laws.proofs.AgreeingEntries.{AreIn, agrees-in, added-in, entries-longer}

-- an entry that stands stays, and one that is added stands
pub stays-added : (o : Option Entry) (held : List Entry) (e : Entry) (class : ℕ) (x : Entry)
    → entry_of held class ≡ Some x → entry_of (added_by o held e) class ≡ Some x
stays-added (Some old) held e class x there = there
stays-added None held e class x there = entry_of-stays held e class x there

pub own-added : (o : Option Entry) (held : List Entry) (e : Entry) → entry_of held e.class ≡ o → Agrees o held e
    → entry_of (added_by o held e) e.class ≡ Some e
own-added (Some old) held e is agrees = is ∙ ap Some agrees
own-added None held e is agrees = entry_of-own held e is

-- the rows can be written
abbrev pub AreWritable : List Entry → Frame → Type 0
AreWritable dictionary f = (k : ℕ) → k < length f.rows → IsWritableRow dictionary f k

-- the entries of the first rows stand
abbrev pub AreHeld : List Entry → Frame → ℕ → Type 0
AreHeld held f n = (k : ℕ) → k < n → entry_of held (class_at f k) ≡ Some (label_at f k).entry

-- So many rows stand.
pub record Going (dictionary : List Entry) (f : Frame) (n : ℕ) (b : Before) : Type 0 where
  pub within : n ≤ length f.rows
  pub entries : AreIn dictionary b.dictionary
  pub size : length b.frame ≡ n
  pub is : (k : ℕ) (d : Structure) → k < n → (at : ℕ) × (get_or b.frame k d ≡ record_structure at (record_at f k))
  pub held : AreHeld b.dictionary f n
  pub unclosed : b.closed ≡ false
  pub no_table : b.table ≡ false

-- What is known where row n is to stand.
pub record Next (dictionary : List Entry) (f : Frame) (n : ℕ) (b : Before) : Type 0 where
  pub sound : IsDictionary dictionary
  pub are : AreWritable dictionary f
  pub going : Going dictionary f n b
  pub more : n < length f.rows

-- what stands once the entry of row n does
abbrev next_of : Frame → ℕ → Before → Before
next_of f n b = before_record b (record_at f n)

-- the entry of row n agrees, and stands
row-agrees : (dictionary : List Entry) (f : Frame) (n : ℕ) (b : Before) → Next dictionary f n b
    → Agrees (entry_of b.dictionary (class_at f n)) b.dictionary (label_at f n).entry
row-agrees dictionary f n b next =
    agrees-in dictionary b.dictionary (label_at f n).entry next.sound next.going.entries (next.are n next.more).held

next-held : (dictionary : List Entry) (f : Frame) (n : ℕ) (b : Before) → Next dictionary f n b
    → AreHeld (next_of f n b).dictionary f (suc n)
next-held dictionary f n b next k less = by (cases_lt k n)
  where
    found : Option Entry
    found = entry_of b.dictionary (class_at f n)

    by : (k < n) ⊎ (n ≤ k) → entry_of (next_of f n b).dictionary (class_at f k) ≡ Some (label_at f k).entry
    by (inl before) =
        stays-added (entry_of b.dictionary (class_at f n)) b.dictionary (label_at f n).entry (class_at f k)
        (label_at f k).entry (next.going.held k before)
    by (inr here) =
        let same : n ≡ k = omega arith in
        subst (λ j. entry_of (next_of f n b).dictionary (class_at f j) ≡ Some (label_at f j).entry) same
        (own-added (entry_of b.dictionary (class_at f n)) b.dictionary (label_at f n).entry refl
        (row-agrees dictionary f n b next))

-- no row before has its class and instance
row-new : (dictionary : List Entry) (f : Frame) (n at : ℕ) (b : Before) → Going dictionary f n b → n < length f.rows
    → IsNewIn b.frame (record_structure at (record_at f n))
row-new dictionary f n at b going more (k, t, within, same, both) =
    let less : k < n = omega (arith, within, going.size) in
    let found = going.is k t less in
    let is : t ≡ record_structure found.0 (record_at f k) = sym same ∙ found.1 in
    let classes : class_at f k ≡ class_at f n = sym (ap (λ (s : Structure). s.class) is) ∙ both.0 in
    let instances : instance_at f k ≡ instance_at f n = sym (ap (λ (s : Structure). s.instance) is) ∙ both.1 in
    omega (arith, instance-less f k n less more classes, instances)

-- a FrameH has none before it
row-kind : (dictionary : List Entry) (f : Frame) (n : ℕ) (b : Before) → Next dictionary f n b → (kind : Kind)
    → IsRowOfKind kind f n → IsRowKind kind (next_of f n b)
row-kind dictionary f n b next Other is = tt
row-kind dictionary f n b next FrameH is = second
  where
    second : HasHeader (next_of f n b).dictionary b.frame → ⊥
    second (k, t, within, same, kind) =
        let less : k < n = omega (arith, within, next.going.size) in
        let found = next.going.is k t less in
        let structure : t ≡ record_structure found.0 (record_at f k) = sym same ∙ found.1 in
        let held : List Entry = (next_of f n b).dictionary in
        let low = (next.are k (omega (arith, less, next.more))).writable.entry.low in
        let named : kind_of held (class_at f k) ≡ kind_at f k =
        kind-held held (label_at f k).entry low (next-held dictionary f n b next k (omega arith)) in
        is k less (sym named ∙ ap (λ (s : Structure). kind_of held s.class) (sym structure) ∙ kind)
row-kind dictionary f n b next FrSH is = absurd is
row-kind dictionary f n b next FrSE is = absurd is
row-kind dictionary f n b next FrEndOfFrame is = absurd is
row-kind dictionary f n b next FrTOC is = absurd is
row-kind dictionary f n b next FrEndOfFile is = absurd is

row-follows : (dictionary : List Entry) (f : Frame) (n : ℕ) (b : Before) → Next dictionary f n b
    → b.load + length (record_bytes (record_at f n)) ≤ record_limit → MayFollow (next_of f n b) (record_at f n)
row-follows dictionary f n b next load = record {
  held = next-held dictionary f n b next n (omega arith);
  unclosed = next.going.unclosed;
  no_table = next.going.no_table;
  kind = row-kind dictionary f n b next (kind_at f n) (next.are n next.more).kind;
  new = row-new dictionary f n (next_of f n b).place b next.going next.more;
  load = load;
}

-- one more row stands
row-more : (dictionary : List Entry) (f : Frame) (n : ℕ) (b : Before) → Next dictionary f n b
    → Going dictionary f (suc n) (after_piece b (record_at f n))
row-more dictionary f n b next =
    let here : Structure = record_structure (next_of f n b).place (record_at f n) in
    record {
      within = omega (arith, next.more);
      entries = added-in dictionary b.dictionary (entry_of b.dictionary (class_at f n)) (label_at f n).entry
          next.going.entries (next.are n next.more).held;
      size = omega (arith, length-append b.frame (here ∷ []), next.going.size);
      is = is;
      held = next-held dictionary f n b next;
      unclosed = next.going.unclosed;
      no_table = next.going.no_table;
    }
  where
    is : (k : ℕ) (d : Structure) → k < suc n → (at : ℕ)
        × (get_or (b.frame ++ record_structure (next_of f n b).place (record_at f n) ∷ []) k d
        ≡ record_structure at (record_at f k))
    is k d less = by (cases_lt k n)
      where
        one : Structure
        one = record_structure (next_of f n b).place (record_at f n)

        by : (k < n) ⊎ (n ≤ k) → (at : ℕ)
            × (get_or (b.frame ++ record_structure (next_of f n b).place (record_at f n) ∷ []) k d
            ≡ record_structure at (record_at f k))
        by (inl before) =
            let found = next.going.is k d before in (
              found.0,
              get_or-append b.frame (record_structure (next_of f n b).place (record_at f n) ∷ []) d k
                  (omega (arith, next.going.size))
                  ∙ found.1,
            )
        by (inr here) =
            let place : length b.frame ≡ k = omega (arith, next.going.size) in
            let same : n ≡ k = omega arith in
            let at : ℕ = (next_of f n b).place in (
              at,
              ap (λ j. get_or (b.frame ++ record_structure at (record_at f n) ∷ []) j d) (sym place)
                  ∙ get_or-append_seam b.frame (record_structure at (record_at f n)) [] d
                  ∙ ap (λ j. record_structure at (record_at f j)) same,
            )

-- ---- all rows from one on

abbrev pub records_from : Frame → ℕ → List Row → List Record
records_from f n rest = map (row_record f) (enumerate_from n rest)

-- the first of the rows from n on, and the others
pub record Splits (f : Frame) (n : ℕ) (x : Row) (xs : List Row) : Type 0 where
  pub more : n < length f.rows
  pub first : row_at f n ≡ x
  pub others : drop (n + 1) f.rows ≡ xs

pub splits : (f : Frame) (n : ℕ) (x : Row) (xs : List Row) → n ≤ length f.rows → drop n f.rows ≡ x ∷ xs
    → Splits f n x xs
splits f n x xs within rest =
    let more : n < length f.rows = omega (arith, length-drop n f.rows, ap length rest, within) in
    let split : row_at f n ∷ drop (suc n) f.rows ≡ x ∷ xs = sym (drop-cons f.rows n no_row more) ∙ rest in
    let first : row_at f n ≡ x = cc in
    let others : drop (suc n) f.rows ≡ xs = cc in
    record { more = more; first = first; others = ap (λ m. drop m f.rows) (add-one n) ∙ others }

-- what holds of the record of each row holds of all
pub all-records : (P : Record → Type 0) (f : Frame) (n : ℕ) (rest : List Row)
    → ((k : ℕ) → k < length f.rows → P (record_at f k)) → n ≤ length f.rows → drop n f.rows ≡ rest
    → AllByRecursion P (records_from f n rest)
all-records P f n [] each within same = tt
all-records P f n (x ∷ xs) each within same =
    let s = splits f n x xs within same in
    let Q : Row → Type 0 = λ y. P (row_record f (n, y)) in
    (subst Q s.first (each n s.more), all-records P f (n + 1) xs each (omega (arith, s.more)) s.others)

-- The rows from n on may follow, and then all stand.
pub record RowsFollow (dictionary : List Entry) (f : Frame) (b : Before) (rs : List Record) : Type 0 where
  pub follow : AllFollow b rs
  pub going : Going dictionary f (length f.rows) (after_pieces b rs)

pub rows-follow : (dictionary : List Entry) (f : Frame) (n : ℕ) (rest : List Row) (b : Before) → IsDictionary dictionary
    → AreWritable dictionary f → Going dictionary f n b → drop n f.rows ≡ rest
    → b.load + sum_by size_of_record (records_from f n rest) ≤ record_limit
    → length (entries_after b.dictionary (records_from f n rest)) < 256 ^ 4
    → RowsFollow dictionary f b (records_from f n rest)
rows-follow dictionary f n [] b sound are going rest load few =
    let all : length f.rows ≡ n = omega (arith, length-drop n f.rows, ap length rest, going.within) in
    record { follow = tt; going = subst (λ m. Going dictionary f m b) (sym all) going }
rows-follow dictionary f n (x ∷ xs) b sound are going rest load few =
    let s = splits f n x xs going.within rest in
    let r : Record = record_at f n in
    let rs : List Record = records_from f (n + 1) xs in
    let Loads : Row → Type 0 = λ y. b.load + sum_by size_of_record (row_record f (n, y) ∷ rs) ≤ record_limit in
    let Few : Row → Type 0 = λ y. length (entries_after b.dictionary (row_record f (n, y) ∷ rs)) < 256 ^ 4 in
    let Follows : Row → Type 0 = λ y. RowsFollow dictionary f b (row_record f (n, y) ∷ rs) in
    let load_here : Loads (row_at f n) = subst Loads (sym s.first) load in
    let few_here : Few (row_at f n) = subst Few (sym s.first) few in
    let sizes = sum_by-cons size_of_record r rs in
    let next : Next dictionary f n b = record { sound = sound; are = are; going = going; more = s.more } in
    let Goes : ℕ → Type 0 = λ m. Going dictionary f m (after_piece b r) in
    let later = rows-follow dictionary f (n + 1) xs (after_piece b r) sound are
    (subst Goes (sym (add-one n)) (row-more dictionary f n b next)) s.others (omega (arith, load_here, sizes))
    few_here in
    let follows : Follows (row_at f n) = record {
      follow = (
        row-agrees dictionary f n b next,
        row-follows dictionary f n b next (omega (arith, load_here, sizes)),
        omega (arith, few_here, entries-longer b.dictionary (r ∷ rs)),
        later.follow,
      );
      going = later.going;
    } in
    subst Follows s.first follows
