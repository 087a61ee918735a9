-- A frame under the entries that are used can be written by a dictionary that begins with them.
use Rattle.std.proofs.Common.{◌≡◌, ℕ, zero, suc, ◌+◌, ◌<◌, ◌≤◌, ◌==◌, cond, Option, Some, None, IfSome, List, []}
use Rattle.std.proofs.Common.{◌∷◌, ◌++◌, map, take, length, get_or, refl, sym, ap, ◌∙◌, subst, arith, append_assoc}
use Rattle.std.specs.Prelude.{sum_by, count_by, unwrap_or, codes, filter_map}
use Rattle.std.specs.List.{AllByRecursion, enumerate_from, take-map, cons_option}
use Rattle.std.specs.Str.{bytes_eq}
use Rattle.std.proofs.lemmas.List.{map-append, length-map, get_or-map}
use Rattle.std.proofs.lemmas.List.Sums.{sum_by-cons}
use Rattle.record_values.specs.Links.{with_links}
use Rattle.dictionary.specs.declared.entries.Entry.{Entry}
use Rattle.dictionary.specs.Dictionary.{entry_of}
use Rattle.file_grammar.specs.declared.kind.Kind.{Kind}
use Rattle.file_grammar.specs.declared.kind.Kind.TheVariants.{FrSH, FrSE, FrameH, FrEndOfFrame, FrTOC, FrEndOfFile}
use Rattle.file_grammar.specs.declared.kind.Kind.TheVariants.{Other}
use Rattle.file_grammar.specs.Structure.{record_limit}
use Rattle.file_grammar.specs.Kind.{kind_named}
use Rattle.frame_content.specs.Labels.{Label}
use Rattle.frame_content.specs.Frames.{Row, Frame, no_row, row_at, label_at}
use Rattle.canonical_file.specs.Ordered.{class_of, class_at, is_of_class, instance_at, new_link}
use Rattle.canonical_file.specs.Records.{Record, end_record, records_of, added_by, with_record, entries_after}
use Rattle.canonical_file.specs.Written.{Written, after_frame, after_frames}
use Rattle.canonical_file.specs.Splices.{entry_under, label_under, row_under, frame_under}
use Rattle.canonical_file.proofs.UsedEntries.{record_under, IsAlike, Agree, class-under, found-front, found-pushed}
use Rattle.canonical_file.proofs.UsedEntries.{entries-front}
use Rattle.canonical_file.proofs.UsedFrames.{AgreeAll, frames-front}
use Rattle.canonical_laws.specs.Writable.{IsWritable, IsLabel, IsRow, record_at, kind_at, IsRowOfKind, IsWritableRow}
use Rattle.canonical_laws.specs.Writable.{IsWritableEnd, IsWritableFrame, size_of_record, number_if}
use Rattle.canonical_laws.specs.Writable.{rows_named, as_read}
use Rattle.canonical_laws.proofs.LikeEntries.{with_own, size-alike, writable-alike, label_with, label-alike}
use Rattle.canonical_laws.proofs.RowsFollow.{records_from}
use Rattle.canonical_laws.proofs.FrameEntries.{found-all}
use Rattle.canonical_laws.proofs.UsedTogether.{IsUsable}

-- ---- entries that stand for others

-- one of its class is used, and is like it
pub record IsUnder (used : List Entry) (e : Entry) : Type 0 where
  pub own : Entry
  pub found : entry_of used e.class ≡ Some own
  pub alike : IsAlike own e

abbrev pub AreUnder : List Entry → List Record → Type 0
AreUnder used records = AllByRecursion (λ (r : Record). IsUnder used r.entry) records

-- that is the one under which it is written
pub under-is : (used : List Entry) (e : Entry) (u : IsUnder used e) → entry_under used e ≡ u.own
under-is used e u = ap (λ found. unwrap_or found e) u.found

under-one : (entries rest : List Entry) (e : Entry) (o : Option Entry) → entry_of entries e.class ≡ o
    → IfSome o (λ old. IsAlike old e) → IsUnder (added_by o entries e ++ rest) e
under-one entries rest e (Some old) found alike =
    record { own = old; found = found-front entries rest e.class old found; alike = alike }
under-one entries rest e None none alike = record {
  own = e;
  found = found-front (entries ++ e ∷ []) rest e.class e (found-pushed entries e none);
  alike = refl;
}

under-records : (entries used rest : List Entry) (rs : List Record) → used ≡ entries_after entries rs ++ rest
    → Agree entries rs → AreUnder used rs
under-records entries used rest [] split agree = tt
under-records entries used rest (r ∷ rs) split agree =
    let front = entries-front (with_record entries r) rs in
    let own : used ≡ with_record entries r ++ (front.0 ++ rest) =
    split ∙ ap (λ xs. xs ++ rest) front.1 ∙ append_assoc (with_record entries r) front.0 rest in
    let one : IsUnder (with_record entries r ++ (front.0 ++ rest)) r.entry =
    under-one entries (front.0 ++ rest) r.entry (entry_of entries r.entry.class) refl agree.0 in (
      subst (λ used. IsUnder used r.entry) (sym own) one,
      under-records (with_record entries r) used rest rs split agree.1,
    )

-- each record of the frames stands under the entries that all of them use
pub under-frames : (w : Written) (used rest : List Entry) (fs : List Frame)
    → used ≡ (after_frames w fs).entries ++ rest → AgreeAll w fs
    → AllByRecursion (λ (f : Frame). AreUnder used (records_of f)) fs
under-frames w used rest [] split agree = tt
under-frames w used rest (f ∷ fs) split agree =
    let front = frames-front (after_frame w f) fs in
    let own : used ≡ (after_frame w f).entries ++ (front.0 ++ rest) =
    split ∙ ap (λ xs. xs ++ rest) front.1 ∙ append_assoc (after_frame w f).entries front.0 rest in (
      under-records w.entries used (front.0 ++ rest) (records_of f) own agree.0,
      under-frames (after_frame w f) used rest fs split agree.1,
    )

-- ---- the rows of a frame and its end

rows-under : (used : List Entry) (f : Frame) (n : ℕ) (rows : List Row) (more : List Record)
    → AreUnder used (records_from f n rows ++ more)
    → ((k : ℕ) → k < length rows → IsUnder used (get_or rows k no_row).label.entry) × AreUnder used more
rows-under used f n [] more all = (λ k less. absurd (omega arith), all)
rows-under used f n (r ∷ rows) more all =
    let later = rows-under used f (n + 1) rows more all.1 in
    (at later.0, later.1)
  where
    at : ((k : ℕ) → k < length rows → IsUnder used (get_or rows k no_row).label.entry)
        → (k : ℕ) → k < length (r ∷ rows) → IsUnder used (get_or (r ∷ rows) k no_row).label.entry
    at later zero less = all.0
    at later (suc k) less = later k (omega arith)

-- What is known of a frame whose entries are used.
pub record IsUnderUsed (used : List Entry) (f : Frame) : Type 0 where
  pub rows : (k : ℕ) → k < length f.rows → IsUnder used (label_at f k).entry
  pub end : IsUnder used f.end.entry

frame-of : (used : List Entry) (f : Frame) → AreUnder used (records_of f) → IsUnderUsed used f
frame-of used f all =
    let both = rows-under used f 0 f.rows (end_record f ∷ []) all in
    record { rows = both.0; end = both.1.0 }

-- ---- the records of the frame under entries

class-row : (used : List Entry) (rows : List Row) (n : ℕ)
    → class_of (get_or (map (row_under used) rows) n no_row) ≡ class_of (get_or rows n no_row)
class-row used [] n = refl
class-row used (r ∷ rows) zero = class-under used r.label.entry
class-row used (r ∷ rows) (suc n) = class-row used rows n

count-rows : (used : List Entry) (class : ℕ) (rows : List Row)
    → count_by (is_of_class class) (map (row_under used) rows) ≡ count_by (is_of_class class) rows
count-rows used class [] = refl
count-rows used class (r ∷ rows) =
    sum_by-cons (λ (r : Row). cond (is_of_class class r) 1 0) (row_under used r) (map (row_under used) rows)
    ∙ (λ i. cond (class-under used r.label.entry i == class) 1 0 + count-rows used class rows i)
    ∙ sym (sum_by-cons (λ (r : Row). cond (is_of_class class r) 1 0) r rows)

instance-same : (used : List Entry) (f : Frame) (k : ℕ) → instance_at (frame_under used f) k ≡ instance_at f k
instance-same used f k =
    (λ i. count_by (is_of_class (class-row used f.rows k i)) (take-map (row_under used) k f.rows i))
    ∙ count-rows used (class_at f k) (take k f.rows)

link-same : (used : List Entry) (f : Frame) → new_link (frame_under used f) ≡ new_link f
link-same used f = λ i link. by link i
  where
    by : (link : Option ℕ) → new_link (frame_under used f) link ≡ new_link f link
    by None = refl
    by (Some k) = λ i. record { class = class-row used f.rows k i; instance = instance-same used f k i }

-- a row of the frame under entries is the row under them
pub row-is : (used : List Entry) (f : Frame) (k : ℕ) → k < length f.rows
    → row_at (frame_under used f) k ≡ row_under used (row_at f k)
row-is used f k less = get_or-map (row_under used) f.rows k no_row no_row less

record-is : (used : List Entry) (f : Frame) (k : ℕ) → k < length f.rows
    → record_at (frame_under used f) k ≡ record_under used (record_at f k)
record-is used f k less =
    let row = row-is used f k less in
    let link = link-same used f in
    λ i. record {
      entry = (row i).label.entry;
      instance = instance-same used f k i;
      values = with_links (row i).label.values (map (link i) (row i).links);
    }

records-are : (used : List Entry) (f : Frame) (n : ℕ) (rows : List Row)
    → records_from (frame_under used f) n (map (row_under used) rows)
    ≡ map (record_under used) (records_from f n rows)
records-are used f n [] = refl
records-are used f n (r ∷ rows) =
    λ i. record {
      entry = entry_under used r.label.entry;
      instance = instance-same used f n i;
      values = with_links r.label.values (map (link-same used f i) r.links);
    } ∷ records-are used f (n + 1) rows i

all-records-are : (used : List Entry) (f : Frame)
    → records_of (frame_under used f) ≡ map (record_under used) (records_of f)
all-records-are used f =
    ap (λ records. records ++ end_record (frame_under used f) ∷ []) (records-are used f 0 f.rows)
    ∙ sym (map-append (record_under used) (records_from f 0 f.rows) (end_record f ∷ []))

-- ---- they can be written

record-writable : (used : List Entry) (r : Record) → AllByRecursion IsUsable used → IsUnder used r.entry → IsWritable r
    → IsWritable (record_under used r)
record-writable used r usable u w =
    subst (λ e. IsWritable (with_own e r)) (sym (under-is used r.entry u))
    (writable-alike u.own r u.alike (found-all IsUsable used r.entry.class u.own usable u.found).writable w)

label-under : (used : List Entry) (l : Label) → AllByRecursion IsUsable used → IsUnder used l.entry
    → IsLabel l → IsLabel (label_under used l)
label-under used l usable u is =
    subst (λ e. IsLabel (label_with e l)) (sym (under-is used l.entry u))
    (label-alike u.own l u.alike (found-all IsUsable used l.entry.class u.own usable u.found).printed is)

-- the dictionary holds the entry
held-under : (used more : List Entry) (e : Entry) → IsUnder used e
    → entry_of (used ++ more) (entry_under used e).class ≡ Some (entry_under used e)
held-under used more e u =
    ap (entry_of (used ++ more)) (class-under used e)
    ∙ found-front used more e.class u.own u.found
    ∙ ap Some (sym (under-is used e u))

name-under : (used : List Entry) (e : Entry) → IsUnder used e → (entry_under used e).name ≡ e.name
name-under used e u = ap (λ (e : Entry). e.name) (under-is used e u) ∙ ap (λ (e : Entry). e.name) u.alike

kind-under : (used : List Entry) (f : Frame) → IsUnderUsed used f → (k : ℕ) → k < length f.rows
    → kind_at (frame_under used f) k ≡ kind_at f k
kind-under used f u k less =
    ap (λ (r : Row). kind_named r.label.entry.name) (row-is used f k less)
    ∙ ap kind_named (name-under used (label_at f k).entry (u.rows k less))

row-kind-under : (used : List Entry) (f : Frame) → IsUnderUsed used f → (k : ℕ) → k < length f.rows → (kind : Kind)
    → IsRowOfKind kind f k → IsRowOfKind kind (frame_under used f) k
row-kind-under used f u k less Other is = is
row-kind-under used f u k less FrameH is =
    λ j before same. is j before (sym (kind-under used f u j (omega (arith, less, before))) ∙ same)
row-kind-under used f u k less FrEndOfFrame is = is
row-kind-under used f u k less FrTOC is = is
row-kind-under used f u k less FrEndOfFile is = is
row-kind-under used f u k less FrSH is = is
row-kind-under used f u k less FrSE is = is

is-row-under : (used : List Entry) (rows : ℕ) (r : Row) → AllByRecursion IsUsable used → IsUnder used r.label.entry
    → IsRow rows r → IsRow rows (row_under used r)
is-row-under used rows r usable u is = record {
  label = label-under used r.label usable u is.label;
  as_many = is.as_many;
  within = is.within;
}

row-writable : (dictionary used more : List Entry) (f : Frame) (k : ℕ) → AllByRecursion IsUsable used
    → IsUnderUsed used f → k < length f.rows → IsWritableRow dictionary f k
    → IsWritableRow (used ++ more) (frame_under used f) k
row-writable dictionary used more f k usable u less w =
    let row : row_at (frame_under used f) k ≡ row_under used (row_at f k) = row-is used f k less in
    let many : length f.rows ≡ length (map (row_under used) f.rows) = sym (length-map f.rows (row_under used)) in
    let own = u.rows k less in
    let Held : Row → Type 0 = λ r. entry_of (used ++ more) r.label.entry.class ≡ Some r.label.entry in
    record {
      held = subst Held (sym row) (held-under used more (label_at f k).entry own);
      kind = subst (λ kind. IsRowOfKind kind (frame_under used f) k) (sym (kind-under used f u k less))
          (row-kind-under used f u k less (kind_at f k) w.kind);
      writable = subst IsWritable (sym (record-is used f k less))
          (record-writable used (record_at f k) usable own w.writable);
      row = subst (λ n. IsRow n (row_at (frame_under used f) k)) many
          (subst (IsRow (length f.rows)) (sym row) (is-row-under used (length f.rows) (row_at f k) usable own w.row));
    }

end-writable : (dictionary used more : List Entry) (f : Frame) → AllByRecursion IsUsable used
    → IsUnder used f.end.entry → IsWritableEnd dictionary f → IsWritableEnd (used ++ more) (frame_under used f)
end-writable dictionary used more f usable u w = record {
  held = held-under used more f.end.entry u;
  kind = ap kind_named (name-under used f.end.entry u) ∙ w.kind;
  writable = record-writable used (end_record f) usable u w.writable;
  label = label-under used f.end usable u w.label;
}

sizes-under : (used : List Entry) (rs : List Record) → AreUnder used rs
    → sum_by size_of_record (map (record_under used) rs) ≡ sum_by size_of_record rs
sizes-under used [] all = refl
sizes-under used (r ∷ rs) all =
    let one : size_of_record (record_under used r) ≡ size_of_record r =
    ap (λ e. size_of_record (with_own e r)) (under-is used r.entry all.0) ∙ size-alike all.0.own r all.0.alike in
    let later = sizes-under used rs all.1 in
    sum_by-cons size_of_record (record_under used r) (map (record_under used) rs)
    ∙ (λ i. one i + later i)
    ∙ sym (sum_by-cons size_of_record r rs)

-- The frame can be written under them.
pub frame-under-writable : (dictionary used more : List Entry) (f : Frame) → AllByRecursion IsUsable used
    → AreUnder used (records_of f) → IsWritableFrame dictionary f
    → IsWritableFrame (used ++ more) (frame_under used f)
frame-under-writable dictionary used more f usable all w =
    let u : IsUnderUsed used f = frame-of used f all in
    let many : length (map (row_under used) f.rows) ≡ length f.rows = length-map f.rows (row_under used) in
    let load : sum_by size_of_record (records_of (frame_under used f)) ≡ sum_by size_of_record (records_of f) =
    ap (sum_by size_of_record) (all-records-are used f) ∙ sizes-under used (records_of f) all in
    record {
      rows = λ k less. row-writable dictionary used more f k usable u (subst (λ n. k < n) many less)
          (w.rows k (subst (λ n. k < n) many less));
      end = end-writable dictionary used more f usable u.end w.end;
      header = w.header;
      header_within = subst (λ n. w.header < n) (sym many) w.header_within;
      header_is = kind-under used f u w.header w.header_within ∙ w.header_is;
      load = subst (λ n. n ≤ record_limit) (sym load) w.load;
    }

-- ---- it reads back as it is

named-under : (used : List Entry) (name : List ℕ) (n : ℕ) (rows : List Row)
    → ((k : ℕ) → k < length rows → IsUnder used (get_or rows k no_row).label.entry)
    → filter_map (number_if name) (enumerate_from n (map (row_under used) rows))
    ≡ filter_map (number_if name) (enumerate_from n rows)
named-under used name n [] all = refl
named-under used name n (r ∷ rows) all =
    let own = name-under used r.label.entry (all 0 (omega arith)) in
    let later = named-under used name (n + 1) rows (λ k less. all (suc k) (omega arith)) in
    λ i. cons_option (cond (bytes_eq (own i) name) (Some n) None) (later i)

-- The frame reads back as it is, where the frame does whose entries it had.
pub as_read-under : (used : List Entry) (f : Frame) → AreUnder used (records_of f) → as_read f ≡ f
    → as_read (frame_under used f) ≡ frame_under used f
as_read-under used f all same =
    let u : IsUnderUsed used f = frame-of used f all in
    let named = λ (name : List ℕ). named-under used name 0 f.rows u.rows in
    let roots : rows_named (codes "FrameH") f ++ rows_named (codes "FrStatData") f ≡ f.roots =
    ap (λ (f : Frame). f.roots) same in
    ap (λ roots. record (frame_under used f) { roots = roots })
    ((λ i. named (codes "FrameH") i ++ named (codes "FrStatData") i) ∙ roots)
