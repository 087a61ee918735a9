-- The sizes that are told of canonical files, and the places of their records.
use Rattle.std.proofs.Common.{◌≡◌, ℕ, zero, suc, ◌+◌, true, Some, List, []}
use Rattle.std.proofs.Common.{◌∷◌, ◌++◌, length, flat_map, refl, sym, ap, ◌∙◌, subst, append_assoc, arith}
use Rattle.std.specs.Prelude.{slice_get}
use Rattle.std.proofs.lemmas.List.{length-append}
use Rattle.std.proofs.lemmas.Option.{none-some, same_Some}
use Rattle.scalar_types.specs.Number.{little_bytes}
use Rattle.frame_head.specs.Header.{header_bytes}
use Rattle.dictionary.specs.declared.entries.Entry.{Entry}
use Rattle.file_grammar.specs.Closing.{closes}
use Rattle.frame_content.specs.Frames.{Frame}
use Rattle.canonical_file.specs.declared.closing.Closing.{Closing}
use Rattle.canonical_file.specs.Records.{Record, record_bytes, records_of, new_entry, with_record, Piece}
use Rattle.canonical_file.specs.Records.{piece_of, piece_bytes, pieces_of, record_places}
use Rattle.canonical_file.specs.Written.{Written, header_alone, frame_pieces, frame_part, after_frame, after_frames}
use Rattle.canonical_file.specs.Written.{frame_parts}
use Rattle.canonical_file.specs.Written.{table_piece, after_table, end_bytes, end_size, closed_size, way_back}
use Rattle.contents_table.specs.Built.{place_of}
use Rattle.canonical_file.specs.Written.{closing_part, canonical_head, canonical_file}
use Rattle.canonical_file.specs.Sizes.{StandsAt}
use Rattle.canonical_file.proofs.EndSizes.{end-length}

-- ---- heads

parts-size : (w : Written) (frames : List Frame)
    → w.size + length (flat_map (λ part. part) (frame_parts w frames)) ≡ (after_frames w frames).size
parts-size w [] = omega arith
parts-size w (f ∷ fs) =
    let later = parts-size (after_frame w f) fs in
    let both = length-append (frame_part w f) (flat_map (λ part. part) (frame_parts (after_frame w f) fs)) in
    omega arith

header-size : length header_bytes ≡ 40
unfolding little_bytes
header-size = refl

pub head-size : (frames : List Frame) → length (canonical_head frames) ≡ (after_frames header_alone frames).size
head-size frames =
    let both = length-append header_bytes (flat_map (λ part. part) (frame_parts header_alone frames)) in
    let parts = parts-size header_alone frames in
    omega (arith, both, parts, header-size)

-- ---- files

closing-size : (w : Written) (c : Closing) → closes c.end.elements ≡ true
    → w.size + length (closing_part w c) ≡ closed_size (after_table w c) c.end
closing-size w c closing =
    let after : Written = after_table w c in
    let table : List ℕ = piece_bytes (table_piece w c) in
    let seek : ℕ = way_back (end_size after c.end) (length (table_piece w c).record_itself) in
    let entry : List ℕ = new_entry after.entries c.end in
    let end : List ℕ = end_bytes c.end after.frames (closed_size after c.end) seek in
    omega (
      arith,
      length-append table (entry ++ end),
      length-append entry end,
      end-length c.end after.frames (closed_size after c.end) seek closing,
    )

pub file-size : (c : Closing) (frames : List Frame) → closes c.end.elements ≡ true
    → length (canonical_file c frames) ≡ closed_size (after_table (after_frames header_alone frames) c) c.end
file-size c frames closing =
    let last : Written = after_frames header_alone frames in
    length-append (canonical_head frames) (closing_part last c)
    ∙ ap (λ n. n + length (closing_part last c)) (head-size frames)
    ∙ closing-size last c closing

-- ---- places

stands : (entries : List Entry) (records : List Record) (at k : ℕ) (r : Record) → slice_get records k ≡ Some r
    → StandsAt at (flat_map piece_bytes (pieces_of entries records))
    (place_of (record_places at (pieces_of entries records)) k) (record_bytes r)
stands entries [] at k r is = absurd (none-some r is)
stands entries (x ∷ xs) at zero r is =
    let p : Piece = piece_of entries x in
    let rest : List ℕ = flat_map piece_bytes (pieces_of (with_record entries x) xs) in
    subst (λ r. StandsAt at (piece_bytes p ++ rest) (at + length p.entry) (record_bytes r)) (same_Some x r is) (record {
      front = p.entry;
      rest = rest;
      split = append_assoc p.entry p.record_itself rest;
      place_is = refl;
    })
stands entries (x ∷ xs) at (suc k) r is =
    let p : Piece = piece_of entries x in
    let later = stands (with_record entries x) xs (at + length (piece_bytes p)) k r is in
    record {
      front = piece_bytes p ++ later.front;
      rest = later.rest;
      split = ap (λ bytes. piece_bytes p ++ bytes) later.split
          ∙ sym (append_assoc (piece_bytes p) later.front (record_bytes r ++ later.rest));
      place_is = omega (arith, later.place_is, length-append (piece_bytes p) later.front);
    }

pub stands-in_frame : (w : Written) (f : Frame) (k : ℕ) (r : Record) → slice_get (records_of f) k ≡ Some r
    → StandsAt w.size (frame_part w f) (place_of (record_places w.size (frame_pieces w f)) k) (record_bytes r)
stands-in_frame w f k r is = stands w.entries (records_of f) w.size k r is
