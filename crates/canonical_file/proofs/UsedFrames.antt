-- Frames under the entries that are used first: the same parts are written of them.
use Rattle.std.proofs.Common.{◌≡◌, ℕ, zero, suc, ◌+◌, cond, Option, Some, None, List, [], ◌∷◌, ◌++◌, map, take}
use Rattle.std.proofs.Common.{length, flat_map, get_or, refl, sym, ap, ◌∙◌, append_assoc}
use Rattle.std.specs.Prelude.{◌==◌, count_by, fold}
use Rattle.std.specs.List.{AllByRecursion, enumerate_from, take-map}
use Rattle.std.specs.Option.{option_map_or}
use Rattle.std.proofs.lemmas.List.{map-append, append-nil}
use Rattle.std.proofs.lemmas.List.Sums.{sum_by-cons}
use Rattle.record_values.specs.Links.{with_links}
use Rattle.dictionary.specs.declared.entries.Entry.{Entry}
use Rattle.frame_content.specs.Frames.{Row, Frame, no_row}
use Rattle.contents_table.specs.declared.kind.Kind.{Kind}
use Rattle.contents_table.specs.declared.kind.Kind.TheVariants.{Adc, Proc, Sim, Ser}
use Rattle.contents_table.specs.Channels.{named_channels, header_of}
use Rattle.contents_table.specs.Built.{Built, with_frame}
use Rattle.canonical_file.specs.Ordered.{class_of, class_at, is_of_class, instance_at, new_link}
use Rattle.canonical_file.specs.Records.{Record, row_record, end_record, records_of, entries_after, piece_bytes}
use Rattle.canonical_file.specs.Records.{pieces_of, record_places}
use Rattle.contents_table.specs.Built.{place_of, with_named, with_channels, with_frame_at}
use Rattle.canonical_file.specs.Written.{Written, frame_pieces}
use Rattle.canonical_file.specs.Written.{frame_part, after_frame, after_frames, frame_parts}
use Rattle.canonical_file.specs.Splices.{entry_under, row_under, frame_under}
use Rattle.canonical_file.proofs.RenumberedTable.{all-kinds}
use Rattle.canonical_file.proofs.BareFrames.{bare_row, bare_frame, header-bare, names-bare}
use Rattle.canonical_file.proofs.UsedEntries.{record_under, IsAlike, Agree, class-under, entries-front, AreUnder}
use Rattle.canonical_file.proofs.UsedEntries.{are-under}

-- ---- the records of the frame under entries

class-row : (entries : List Entry) (rows : List Row) (n : ℕ)
    → class_of (get_or (map (row_under entries) rows) n no_row) ≡ class_of (get_or rows n no_row)
class-row entries [] n = refl
class-row entries (r ∷ rows) zero = class-under entries r.label.entry
class-row entries (r ∷ rows) (suc n) = class-row entries rows n

count-rows : (entries : List Entry) (class : ℕ) (rows : List Row)
    → count_by (is_of_class class) (map (row_under entries) rows) ≡ count_by (is_of_class class) rows
count-rows entries class [] = refl
count-rows entries class (r ∷ rows) =
    sum_by-cons (λ (r : Row). cond (is_of_class class r) 1 0) (row_under entries r) (map (row_under entries) rows)
    ∙ (λ i. cond (class-under entries r.label.entry i == class) 1 0 + count-rows entries class rows i)
    ∙ sym (sum_by-cons (λ (r : Row). cond (is_of_class class r) 1 0) r rows)

instance-same : (entries : List Entry) (f : Frame) (k : ℕ)
    → instance_at (frame_under entries f) k ≡ instance_at f k
instance-same entries f k =
    (λ i. count_by (is_of_class (class-row entries f.rows k i)) (take-map (row_under entries) k f.rows i))
    ∙ count-rows entries (class_at f k) (take k f.rows)

link-same : (entries : List Entry) (f : Frame) → new_link (frame_under entries f) ≡ new_link f
link-same entries f = λ i link. by link i
  where
    by : (link : Option ℕ) → new_link (frame_under entries f) link ≡ new_link f link
    by None = refl
    by (Some k) =
        λ i. record { class = class-row entries f.rows k i; instance = instance-same entries f k i }

rows-under : (entries : List Entry) (f : Frame) (n : ℕ) (rows : List Row)
    → map (row_record (frame_under entries f)) (enumerate_from n (map (row_under entries) rows))
    ≡ map (record_under entries) (map (row_record f) (enumerate_from n rows))
rows-under entries f n [] = refl
rows-under entries f n (r ∷ rows) =
    λ i. record {
      entry = entry_under entries r.label.entry;
      instance = instance-same entries f n i;
      values = with_links r.label.values (map (link-same entries f i) r.links);
    } ∷ rows-under entries f (n + 1) rows i

records-under : (entries : List Entry) (f : Frame)
    → records_of (frame_under entries f) ≡ map (record_under entries) (records_of f)
records-under entries f =
    ap (λ records. records ++ end_record (frame_under entries f) ∷ []) (rows-under entries f 0 f.rows)
    ∙ sym (map-append (record_under entries) (map (row_record f) (enumerate_from 0 f.rows)) (end_record f ∷ []))

-- ---- what a contents table lists of it

bare-rows : (entries : List Entry) (f : Frame) (n : ℕ) (rows : List Row)
    → AllByRecursion (λ (r : Record). IsAlike (entry_under entries r.entry) r.entry)
    (map (row_record f) (enumerate_from n rows) ++ end_record f ∷ [])
    → (map bare_row (map (row_under entries) rows) ≡ map bare_row rows)
    × IsAlike (entry_under entries f.end.entry) f.end.entry
bare-rows entries f n [] alike = (refl, alike.0)
bare-rows entries f n (r ∷ rows) alike =
    let later = bare-rows entries f (n + 1) rows alike.1 in
    let row : bare_row (row_under entries r) ≡ bare_row r =
    λ i. record { label = record { entry = alike.0 i; values = r.label.values }; links = r.links } in
    (λ i. row i ∷ later.0 i, later.1)

bare-under : (entries : List Entry) (f : Frame)
    → AllByRecursion (λ (r : Record). IsAlike (entry_under entries r.entry) r.entry) (records_of f)
    → bare_frame (frame_under entries f) ≡ bare_frame f
bare-under entries f alike =
    let same = bare-rows entries f 0 f.rows alike in
    λ i. record { rows = same.0 i; roots = f.roots; end = record { entry = same.1 i; values = f.end.values } }

table-same : (f g : Frame) (places : List ℕ) (built : Built) → bare_frame f ≡ bare_frame g
    → with_frame_at places f built ≡ with_frame_at places g built
table-same f g places built same =
    let header : header_of f ≡ header_of g = sym (header-bare f) ∙ ap header_of same ∙ header-bare g in
    ap (λ found. fold (with_channels places f) (with_frame (option_map_or (place_of places) found 0) built)
    (Adc ∷ Proc ∷ Sim ∷ Ser ∷ [])) header
    ∙ all-kinds (with_channels places f) (with_channels places g)
    (λ built kind. ap (fold (with_named kind places) built) (names kind)) (Adc ∷ Proc ∷ Sim ∷ Ser ∷ [])
    (with_frame (option_map_or (place_of places) (header_of g) 0) built)
  where
    names : (kind : Kind) → named_channels f kind ≡ named_channels g kind
    names kind = sym (names-bare f kind) ∙ ap (λ f. named_channels f kind) same ∙ names-bare g kind

-- ---- parts

frame-same : (w : Written) (all rest : List Entry) (f : Frame) → all ≡ entries_after w.entries (records_of f) ++ rest
    → Agree w.entries (records_of f)
    → (frame_part w (frame_under all f) ≡ frame_part w f) × (after_frame w (frame_under all f) ≡ after_frame w f)
frame-same w all rest f split agree =
    let under : AreUnder w.entries all (records_of f) = are-under w.entries all rest (records_of f) split agree in
    let pieces : frame_pieces w (frame_under all f) ≡ frame_pieces w f =
    ap (pieces_of w.entries) (records-under all f) ∙ under.pieces in
    let table = (λ i. with_frame_at (record_places w.size (pieces i)) (frame_under all f) w.built)
    ∙ table-same (frame_under all f) f (record_places w.size (frame_pieces w f)) w.built
    (bare-under all f under.alike) in
    let entries = ap (entries_after w.entries) (records-under all f) ∙ under.entries_are in (
      ap (flat_map piece_bytes) pieces,
      λ i. record {
        size = w.size + length (flat_map piece_bytes (pieces i));
        entries = entries i;
        built = table i;
        frames = w.frames + 1;
      },
    )

-- the frames agree, each with the entries that stand before it
abbrev pub AgreeAll : Written → List Frame → Type 0
AgreeAll w [] = Unit {0}
AgreeAll w (f ∷ fs) = Agree w.entries (records_of f) × AgreeAll (after_frame w f) fs

pub frames-front : (w : Written) (frames : List Frame) → (more : List Entry)
    × ((after_frames w frames).entries ≡ w.entries ++ more)
frames-front w [] = ([], sym (append-nil w.entries))
frames-front w (f ∷ fs) =
    let one = entries-front w.entries (records_of f) in
    let later = frames-front (after_frame w f) fs in
    (one.0 ++ later.0, later.1 ∙ ap (λ front. front ++ later.0) one.1 ∙ append_assoc w.entries one.0 later.0)

pub frames-same : (w : Written) (all rest : List Entry) (frames : List Frame)
    → all ≡ (after_frames w frames).entries ++ rest → AgreeAll w frames
    → (frame_parts w (map (frame_under all) frames) ≡ frame_parts w frames)
    × (after_frames w (map (frame_under all) frames) ≡ after_frames w frames)
frames-same w all rest [] split agree = (refl, refl)
frames-same w all rest (f ∷ fs) split agree =
    let front = frames-front (after_frame w f) fs in
    let one = frame-same w all (front.0 ++ rest) f
    (split ∙ ap (λ xs. xs ++ rest) front.1 ∙ append_assoc (after_frame w f).entries front.0 rest) agree.0 in
    let later = frames-same (after_frame w f) all rest fs split agree.1 in (
      λ i. one.0 i ∷ (ap (λ w. frame_parts w (map (frame_under all) fs)) one.1 ∙ later.0) i,
      ap (λ w. after_frames w (map (frame_under all) fs)) one.1 ∙ later.1,
    )
