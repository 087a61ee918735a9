-- The canonical head of frames that stand is a part of what is due where more of them come.
use Rattle.std.proofs.Common.{◌≡◌, ℕ, ◌+◌, ◌<◌, ◌≤◌, min, List, [], ◌∷◌, ◌++◌, length, take, Option, Some, refl, sym}
use Rattle.std.proofs.Common.{ap, ◌∙◌, append_assoc, arith}
use Rattle.std.specs.Prelude.{flat_map}
use Rattle.std.proofs.lemmas.List.{length-append, take-append-le, take_min}
use Rattle.std.proofs.lemmas.Grind.{flat_map-append}
use Rattle.frame_head.specs.Header.{header_bytes}
use Rattle.frame_outside.specs.Shelf.{Files, holding}
use Rattle.frame_content.specs.Frames.{Frame}
use Rattle.canonical_file.specs.declared.closing.Closing.{Closing}
use Rattle.canonical_file.specs.Records.{piece_bytes, new_entry, entry_fields}
use Rattle.canonical_file.specs.Bytes.{body_bytes}
use Rattle.contents_table.specs.Told.{values_told}
use Rattle.canonical_file.specs.Written.{Written, header_alone, after_frame, after_frames, frame_part, frame_parts}
use Rattle.canonical_file.specs.Written.{table_piece, after_table, end_told, end_bytes, end_size, closed_size, way_back}
use Rattle.canonical_file.specs.Written.{closing_part, canonical_head}
use Rattle.canonical_file.proofs.EndSizes.{structure-size}
use Rattle.splicer.specs.Due.{Due, Writes, Stops, is_whole, output_of}
use Rattle.splicer.specs.Left.{IsPart, LeavesPart}
use Rattle.splicer.proofs.Dues.{frames_of}

parts-append : (w : Written) (fs gs : List Frame)
    → frame_parts w (fs ++ gs) ≡ frame_parts w fs ++ frame_parts (after_frames w fs) gs
parts-append w [] gs = refl
parts-append w (f ∷ fs) gs = ap (λ parts. frame_part w f ∷ parts) (parts-append (after_frame w f) fs gs)

-- the head of more frames begins with that of the first ones
head-append : (stood more : List Frame)
    → (rest : List ℕ) × (canonical_head (stood ++ more) ≡ canonical_head stood ++ rest)
head-append stood more =
    let first : List (List ℕ) = frame_parts header_alone stood in
    let second : List (List ℕ) = frame_parts (after_frames header_alone stood) more in
    let front : List ℕ = flat_map (λ part. part) first in
    let back : List ℕ = flat_map (λ part. part) second in (
      back,
      ap (λ parts. header_bytes ++ flat_map (λ part. part) parts) (parts-append header_alone stood more)
          ∙ ap (λ bytes. header_bytes ++ bytes) (flat_map-append (λ part. part) first second)
          ∙ sym (append_assoc header_bytes front back),
    )

-- The closing part has some bytes.
pub closing-some : (w : Written) (c : Closing) → 0 < length (closing_part w c)
closing-some w c =
    let after : Written = after_table w c in
    let table : List ℕ = piece_bytes (table_piece w c) in
    let bytes : ℕ = closed_size after c.end in
    let seek : ℕ = way_back (end_size after c.end) (length (table_piece w c).record_itself) in
    let entry : List ℕ = new_entry after.entries c.end in
    let end : List ℕ = end_bytes c.end after.frames bytes seek in
    let fields = entry_fields c.end in
    let body : List ℕ = body_bytes fields (values_told (end_told c.end.elements after.frames bytes seek) fields) in
    let sized : length end ≡ 14 + length body = structure-size c.end.class 0 body in
    omega (arith, length-append table (entry ++ end), length-append entry end, sized)

-- As many frames are counted as were written.
pub frames-counted : (w : Written) (frames : List Frame) → (after_frames w frames).frames ≡ w.frames + length frames
frames-counted w [] = omega arith
frames-counted w (f ∷ fs) = let later = frames-counted (after_frame w f) fs in omega arith

-- The first bytes of what stands are those of what is due, and where that is a whole file, not all of it.
part-of_due : (stood more : List Frame) (due : Due) (n : ℕ) → frames_of due ≡ stood ++ more
    → n ≤ length (canonical_head stood)
    → IsPart (is_whole due) n (output_of due) × (take n (canonical_head stood) ≡ take n (output_of due))
part-of_due stood more (Writes closing frames) n are within =
    let head : List ℕ = canonical_head stood in
    let whole = head-append stood more in
    let rest : List ℕ = whole.0 in
    let part : List ℕ = closing_part (after_frames header_alone frames) closing in
    let is : canonical_head frames ≡ head ++ rest = ap canonical_head are ∙ whole.1 in
    let size : length (canonical_head frames) ≡ length head + length rest =
    ap (λ (bytes : List ℕ). length bytes) is ∙ length-append head rest in (
      omega (
        arith,
        within,
        size,
        length-append (canonical_head frames) part,
        closing-some (after_frames header_alone frames) closing,
      ),
      sym (take-append-le n head rest within) ∙ ap (take n) (sym is)
          ∙ sym (take-append-le n (canonical_head frames) part (omega (arith, within, size))),
    )
part-of_due stood more (Stops error frames) n are within =
    let head : List ℕ = canonical_head stood in
    let whole = head-append stood more in
    let rest : List ℕ = whole.0 in
    let is : canonical_head frames ≡ head ++ rest = ap canonical_head are ∙ whole.1 in
    (tt, sym (take-append-le n head rest within) ∙ ap (take n) (sym is))

-- A file that holds some first bytes of what stands holds a part of what is due.
pub leaves-part : (files : Files) (new : Option Files) (to : List ℕ) (stood more : List Frame) (due : Due) (count : ℕ)
    → frames_of due ≡ stood ++ more → new ≡ Some (holding to (take count (canonical_head stood)) files)
    → LeavesPart files new to (is_whole due) (output_of due)
leaves-part files new to stood more due count are is =
    let head : List ℕ = canonical_head stood in
    let n : ℕ = min count (length head) in
    let part = part-of_due stood more due n are (omega arith) in
    record {
      count = n;
      part = part.0;
      files_are = is ∙ ap (λ bytes. Some (holding to bytes files)) (sym (take_min count head) ∙ part.1);
    }
