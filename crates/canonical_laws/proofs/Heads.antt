-- The parts of frames one after another are those frames of the file.
use Rattle.std.proofs.Common.{◌≡◌, ℕ, ◌+◌, ◌^◌, ◌<◌, ◌≤◌, List, [], ◌∷◌, ◌++◌, length, map, fold, flat_map, refl, sym}
use Rattle.std.proofs.Common.{ap}
use Rattle.std.proofs.Common.{◌∙◌, subst, arith, add-zero}
use Rattle.std.specs.List.{AllByRecursion}
use Rattle.std.proofs.lemmas.List.{map-append}
use Rattle.scalar_types.specs.declared.Order.TheVariants.{Little}
use Rattle.dictionary.specs.declared.entries.Entry.{Entry}
use Rattle.dictionary.specs.Dictionary.{IsDictionary}
use Rattle.file_grammar.specs.Structure.{file_limit}
use Rattle.file_grammar.specs.Item.{Item, Before}
use Rattle.file_grammar.specs.MayStand.{frames_limit, Stand}
use Rattle.frame_content.specs.Frames.{Frame}
use Rattle.contents_table.specs.Built.{with_frame_at}
use Rattle.canonical_file.specs.Records.{records_of, entries_after, pieces_of, record_places}
use Rattle.canonical_file.specs.Written.{Written, frame_part, after_frame, after_frames, frame_parts}
use Rattle.file_content.specs.Stored.{StoredFrame, frame_ended, table_here, seek_told}
use Rattle.file_content.specs.Contents.{content_frame, with_stored}
use Rattle.canonical_laws.specs.Writable.{IsWritableFrame, as_read}
use Rattle.canonical_laws.proofs.Holding.{Holds, holds-left, holds-right, holds-at}
use Rattle.canonical_laws.proofs.AgreeingEntries.{entries-longer}
use Rattle.canonical_laws.proofs.RecordsInTurn.{stand-append, bytes_of}
use Rattle.canonical_laws.proofs.FrameEnds.{brings, frames_from, brings-append, stored_frame}
use Rattle.canonical_laws.proofs.WholeFrames.{IsBetween, before_end, end_structure, after_end, frame_items}
use Rattle.canonical_laws.proofs.WholeFrames.{FrameStands, MayStandAt, frame-stored, frame-stands}
use Rattle.canonical_laws.proofs.FramesListed.{stored-listed}

-- What is written tells what stands before a place.
pub record Tells (w : Written) (b : Before) : Type 0 where
  pub size : w.size ≡ b.place
  pub entries : w.entries ≡ b.dictionary
  pub count : w.frames ≡ b.frames

abbrev pub part_bytes : Written → List Frame → List ℕ
part_bytes w fs = flat_map (λ part. part) (frame_parts w fs)

abbrev pub after_all : Before → List Frame → Before
after_all b fs = fold after_end b fs

abbrev pub frames_items : Before → List Frame → List Item
frames_items b [] = []
frames_items b (f ∷ fs) = frame_items b f ++ frames_items (after_end b f) fs

-- what items bring, as it is read
abbrev pub read_from : Before → List Item → List Frame
read_from b items = map (content_frame Little) (frames_from b items)

pub read-append : (file : List ℕ) (b mid : Before) (items more : List Item) → Stand Little file b items mid
    → read_from b (items ++ more) ≡ read_from b items ++ read_from mid more
read-append file b mid items more stand =
    ap (map (content_frame Little)) (brings-append frame_ended file b mid items more stand)
    ∙ map-append (content_frame Little) (frames_from b items) (frames_from mid more)

-- The frames stand, are those of their items, and the state after them tells what stands before the place after them.
pub record HeadStands (dictionary : List Entry) (file : List ℕ) (w : Written) (b : Before)
    (fs : List Frame) : Type 0 where
  pub stand : Stand Little file b (frames_items b fs) (after_all b fs)
  pub frames : read_from b (frames_items b fs) ≡ map as_read fs
  pub between : IsBetween dictionary (after_all b fs)
  pub tells : Tells (after_frames w fs) (after_all b fs)
  pub tables : brings table_here b (frames_items b fs) ≡ []
  pub seeks : brings (seek_told Little) b (frames_items b fs) ≡ []
  pub listed : fold (with_stored Little) w.built (frames_from b (frames_items b fs)) ≡ (after_frames w fs).built

-- entries are never fewer
frames-longer : (w : Written) (fs : List Frame) → length w.entries ≤ length (after_frames w fs).entries
frames-longer w [] = omega arith
frames-longer w (f ∷ fs) = omega (arith, entries-longer w.entries (records_of f), frames-longer (after_frame w f) fs)

pub head-stands : (dictionary : List Entry) (file : List ℕ) (w : Written) (b : Before) (fs : List Frame)
    → IsDictionary dictionary → AllByRecursion (IsWritableFrame dictionary) fs → IsBetween dictionary b → Tells w b
    → b.frames + length fs ≤ frames_limit → length (after_frames w fs).entries < 256 ^ 4 → length file ≤ file_limit
    → Holds file b.place (part_bytes w fs) → HeadStands dictionary file w b fs
head-stands dictionary file w b [] sound all between tells few_frames few limit h =
    record {
      stand = refl;
      frames = refl;
      between = between;
      tells = tells;
      tables = refl;
      seeks = refl;
      listed = refl;
    }
head-stands dictionary file w b (f ∷ fs) sound all between tells few_frames few limit h =
    let part : List ℕ = frame_part w f in
    let more : List ℕ = part_bytes (after_frame w f) fs in
    let next : Before = after_end b f in
    let state : Written = after_frame w f in
    let same : part ≡ bytes_of b.dictionary (records_of f) = ap (λ es. bytes_of es (records_of f)) tells.entries in
    let entries : state.entries ≡ entries_after b.dictionary (records_of f) =
    ap (λ es. entries_after es (records_of f)) tells.entries in
    let may : MayStandAt dictionary file b f = record {
      sound = sound;
      writable = all.0;
      between = between;
      below = omega (arith, few_frames);
      few = omega (arith, few, frames-longer state fs, ap length entries);
      limit = limit;
      holds = subst (Holds file b.place) same (holds-left file b.place part more h);
    } in
    let one : FrameStands dictionary file b f = frame-stands dictionary file b f may in
    let later : List StoredFrame = frames_from next (frames_items next fs) in
    let here : with_stored Little w.built (stored_frame (before_end b f) (end_structure b f)) ≡ state.built =
    stored-listed dictionary file b f w.built may
    ∙ (λ i. with_frame_at
    (record_places (sym tells.size i) (pieces_of (sym tells.entries i) (records_of f))) f w.built) in
    let told : Tells state next = record {
      size = omega (arith, tells.size, one.place, ap length same);
      entries = entries ∙ sym one.entries;
      count = omega (arith, tells.count, one.count);
    } in
    let place : b.place + length part ≡ next.place = omega (arith, one.place, ap length same) in
    let rest : HeadStands dictionary file state next fs =
    head-stands dictionary file state next fs sound all.1 one.between told (omega (arith, one.count, few_frames)) few
    limit (holds-at file (b.place + length part) next.place more place (holds-right file b.place part more h)) in
    record {
      stand = stand-append Little file b next (after_all next fs) (frame_items b f) (frames_items next fs) one.stand
          rest.stand;
      frames = read-append file b next (frame_items b f) (frames_items next fs) one.stand
          ∙ (λ i. one.frames i ++ rest.frames i);
      between = rest.between;
      tells = rest.tells;
      tables = brings-append table_here file b next (frame_items b f) (frames_items next fs) one.stand
          ∙ (λ i. one.tables i ++ rest.tables i);
      seeks = brings-append (seek_told Little) file b next (frame_items b f) (frames_items next fs) one.stand
          ∙ (λ i. one.seeks i ++ rest.seeks i);
      listed = ap (fold (with_stored Little) w.built)
          (brings-append frame_ended file b next (frame_items b f) (frames_items next fs) one.stand
          ∙ ap (λ frames. frames ++ later) (frame-stored dictionary file b f may))
          ∙ ap (λ built. fold (with_stored Little) built later) here
          ∙ rest.listed;
    }

pub count-frames : (w : Written) (fs : List Frame) → (after_frames w fs).frames ≡ w.frames + length fs
count-frames w [] = sym (add-zero w.frames)
count-frames w (f ∷ fs) = omega (arith, count-frames (after_frame w f) fs)
