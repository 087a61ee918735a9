-- What a contents table lists of the frames of a canonical file is what it is built from.
use Rattle.std.proofs.Common.{◌≡◌, ℕ, List, [], ◌∷◌, length, ap, ◌∙◌}
use Rattle.scalar_types.specs.declared.Order.TheVariants.{Little}
use Rattle.dictionary.specs.declared.entries.Entry.{Entry}
use Rattle.file_grammar.specs.Item.{Before}
use Rattle.frame_content.specs.Frames.{Frame}
use Rattle.contents_table.specs.Built.{Built, places_of, with_frame_at}
use Rattle.canonical_file.specs.Records.{end_record, records_of, pieces_of, record_places}
use Rattle.file_content.specs.Contents.{with_stored}
use Rattle.canonical_laws.specs.Writable.{as_read}
use Rattle.canonical_laws.proofs.FrameEnds.{stored_frame}
use Rattle.canonical_laws.proofs.FrameRecords.{nodes_of}
use Rattle.canonical_laws.proofs.WholeFrames.{rows_of, after_rows, before_end, end_structure, MayStandAt, follow}
use Rattle.canonical_laws.proofs.WholeFrames.{reads-back}
use Rattle.canonical_laws.proofs.ChannelRows.{has-channels}
use Rattle.canonical_laws.proofs.ListedPlaces.{SamePlaces, frame-listed}
use Rattle.canonical_laws.proofs.RowPlaces.{first-places}

-- the places of a frame's records, from what stands before it
abbrev pub frame_places : Before → Frame → List ℕ
frame_places b f = record_places b.place (pieces_of b.dictionary (records_of f))

-- A frame that is read back is listed as the frame was, with its records at their places.
pub stored-listed : (dictionary : List Entry) (file : List ℕ) (b : Before) (f : Frame) (built : Built)
    → MayStandAt dictionary file b f
    → with_stored Little built (stored_frame (before_end b f) (end_structure b f))
    ≡ with_frame_at (frame_places b f) f built
stored-listed dictionary file b f built may =
    let held : List Entry = (before_end b f).dictionary in
    let places : List ℕ = places_of (nodes_of held (after_rows b f)) in
    let same : SamePlaces (length f.rows) places (frame_places b f) =
    first-places held b (rows_of f) (end_record f ∷ []) (length f.rows) may.between.frame
    (follow dictionary file b f may).going.size in
    ap (λ g. with_frame_at places g built) (reads-back dictionary file b f may)
    ∙ frame-listed f (as_read f).roots places (frame_places b f) built same (has-channels dictionary f may.writable)
