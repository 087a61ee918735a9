-- The canonical file of frames and of a closing that can be written is well-formed, and its content is these.
use Rattle.std.proofs.Common.{◌≡◌, ℕ, ◌≤◌, Ok, Option, List, [], ◌∷◌, ◌++◌, length, map, take, refl, sym, ap, ◌∙◌}
use Rattle.std.proofs.Common.{subst, arith, append_assoc, append-nil, length-append}
use Rattle.std.specs.Prelude.{IfSome}
use Rattle.std.specs.List.{AllByRecursion}
use Rattle.std.proofs.lemmas.List.{take_at}
use Rattle.scalar_types.specs.declared.Order.TheVariants.{Little}
use Rattle.frame_head.specs.Header.{header_bytes, header_of}
use Rattle.frame_head.proofs.HeaderBytes.{header_bytes-length, header_of-bytes}
use Rattle.dictionary.specs.declared.entries.Entry.{Entry}
use Rattle.dictionary.specs.Dictionary.{IsDictionary}
use Rattle.file_grammar.specs.Structure.{file_limit}
use Rattle.file_grammar.specs.Item.{Item, Before, nothing_yet}
use Rattle.file_grammar.specs.MayStand.{frames_limit, IsWellFormed}
use Rattle.frame_content.specs.Frames.{Frame}
use Rattle.file_content.specs.Stored.{StoredFrame, frame_ended, table_here, seek_told, frames_in}
use Rattle.file_content.specs.Contents.{built_of}
use Rattle.canonical_file.specs.declared.closing.Closing.{Closing}
use Rattle.canonical_file.specs.Written.{Written, header_alone, after_frames, after_table, closing_part, canonical_head}
use Rattle.canonical_file.specs.Written.{canonical_file}
use Rattle.canonical_file.proofs.Sizes.{head-size, file-size}
use Rattle.canonical_laws.specs.Content.{closing_by}
use Rattle.canonical_laws.specs.Writable.{IsWritableFrame, as_read, IsWritableFileEnd, IsWritableTable}
use Rattle.canonical_laws.specs.Laws.{ReadsBack, WrittenFilesAreReadBack}
use Rattle.canonical_laws.proofs.Holding.{Holds}
use Rattle.canonical_laws.proofs.RecordsInTurn.{stand-append}
use Rattle.canonical_laws.proofs.FrameEnds.{brings, frames_from, brings-append}
use Rattle.canonical_laws.proofs.WholeFrames.{IsBetween}
use Rattle.canonical_laws.proofs.Heads.{Tells, part_bytes, after_all, frames_items, read_from, read-append, HeadStands}
use Rattle.canonical_laws.proofs.Heads.{head-stands, count-frames}
use Rattle.canonical_laws.proofs.FrameEntries.{AreNeeded, frames-needed, none-needed, few-needed}
use Rattle.canonical_laws.proofs.FileEnds.{end-place}
use Rattle.canonical_laws.proofs.ClosingParts.{past_closing, Closes, past-table, told_bytes, told_seek}
use Rattle.canonical_laws.proofs.ClosingParts.{ends-file}
use Rattle.canonical_laws.proofs.ClosingParts.{all_items, after_closing, closing-stands}
use Rattle.canonical_laws.proofs.ClosingsBack.{closing-back}
use Rattle.canonical_laws.proofs.ClosingBrings.{written_table, closing-frames, closing-tables, closing-seeks}

-- ---- the head

pub header-read : (rest more : List ℕ) → header_of (take 40 (header_bytes ++ rest ++ more)) ≡ Ok Little
header-read rest more =
    ap (λ xs. header_of (take 40 xs)) (append_assoc header_bytes rest more)
    ∙ ap header_of (take_at header_bytes (rest ++ more) 40 header_bytes-length)
    ∙ header_of-bytes

pub nothing-between : (dictionary : List Entry) → IsBetween dictionary nothing_yet
nothing-between dictionary =
    record { entries = tt; frame = refl; load = refl; unclosed = refl; no_table = refl }

pub begun-tells : Tells header_alone nothing_yet
begun-tells = record { size = refl; entries = refl; count = refl }

-- What is known of frames that are to be written.
pub record AreWritten (dictionary : List Entry) (fs : List Frame) : Type 0 where
  pub sound : IsDictionary dictionary
  pub frames : AllByRecursion (IsWritableFrame dictionary) fs
  pub few : length fs ≤ frames_limit

pub needed : (dictionary : List Entry) (fs : List Frame) → AreWritten dictionary fs
    → AreNeeded dictionary (after_frames header_alone fs).entries
needed dictionary fs all = frames-needed dictionary header_alone fs (none-needed dictionary) all.frames

-- the head of a file that begins with it
pub whole-head : (dictionary : List Entry) (fs : List Frame) (more : List ℕ) → AreWritten dictionary fs
    → length (canonical_head fs ++ more) ≤ file_limit
    → HeadStands dictionary (canonical_head fs ++ more) header_alone nothing_yet fs
whole-head dictionary fs more all limit =
    let parts : List ℕ = part_bytes header_alone fs in
    let few = few-needed dictionary (after_frames header_alone fs).entries all.sound (needed dictionary fs all) in
    let h : Holds (canonical_head fs ++ more) 40 parts = record {
      front = header_bytes;
      rest = more;
      split = append_assoc header_bytes parts more;
      place = header_bytes-length;
    } in
    head-stands dictionary (canonical_head fs ++ more) header_alone nothing_yet fs all.sound all.frames
    (nothing-between dictionary) begun-tells (omega (arith, all.few)) (omega (arith, few)) limit h

-- ---- the file

-- what is known where the closing part is to stand
pub closes : (dictionary : List Entry) (fs : List Frame) (e : Entry) (table : Option Entry) → AreWritten dictionary fs
    → IsWritableFileEnd dictionary e → IfSome table (IsWritableTable dictionary)
    → length (canonical_file (record { end = e; table = table }) fs) ≤ file_limit
    → Closes dictionary (canonical_file (record { end = e; table = table }) fs) (after_frames header_alone fs)
    (after_all nothing_yet fs) e table
closes dictionary fs e table all end table_is limit =
    let c : Closing = record { end = e; table = table } in
    let w : Written = after_frames header_alone fs in
    let closing : List ℕ = closing_part w c in
    let head = whole-head dictionary fs closing all limit in
    let b : Before = after_all nothing_yet fs in
    let front : length (canonical_head fs) ≡ b.place = head-size fs ∙ head.tells.size in
    record {
      sound = all.sound;
      between = head.between;
      tells = head.tells;
      needed = subst (AreNeeded dictionary) head.tells.entries (needed dictionary fs all);
      frames = omega (arith, count-frames header_alone fs, all.few);
      end = end;
      table_is = table_is;
      limit = limit;
      holds = record {
        front = canonical_head fs;
        rest = [];
        split = ap (λ xs. canonical_head fs ++ xs) (sym (append-nil closing));
        place = front;
      };
      whole = file-size c fs end.closes;
    }

-- the entries, the items and the end of the whole file
abbrev pub all_entries : List Frame → Closing → List Entry
all_entries fs c = (after_table (after_frames header_alone fs) c).entries ++ c.end ∷ []

abbrev pub file_items : List Frame → Entry → Option Entry → List Item
file_items fs e table =
    frames_items nothing_yet fs ++ all_items (after_frames header_alone fs) (after_all nothing_yet fs) e table

abbrev pub file_last : List Frame → Entry → Option Entry → Before
file_last fs e table = after_closing (after_frames header_alone fs) (after_all nothing_yet fs) e table

-- What is known of the whole file.
pub record StandsAs (fs : List Frame) (e : Entry) (table : Option Entry) : Type 0 where
  pub well_formed : IsWellFormed (canonical_file (record { end = e; table = table }) fs) Little
      (file_items fs e table) (file_last fs e table)
  pub frames : read_from nothing_yet (file_items fs e table) ≡ map as_read fs
  pub dictionary : (file_last fs e table).dictionary ≡ all_entries fs (record { end = e; table = table })
  pub tables : brings table_here nothing_yet (file_items fs e table)
      ≡ written_table (after_frames header_alone fs) (after_all nothing_yet fs) table
  pub seeks : brings (seek_told Little) nothing_yet (file_items fs e table)
      ≡ told_seek (after_frames header_alone fs) e table ∷ []
  pub channels : built_of Little (frames_in Little (file_items fs e table)) ≡ (after_frames header_alone fs).built
  pub count : (file_last fs e table).frames ≡ (after_frames header_alone fs).frames

pub file-stands : (dictionary : List Entry) (fs : List Frame) (e : Entry) (table : Option Entry)
    → AreWritten dictionary fs
    → IsWritableFileEnd dictionary e → IfSome table (IsWritableTable dictionary)
    → length (canonical_file (record { end = e; table = table }) fs) ≤ file_limit
    → StandsAs fs e table
file-stands dictionary fs e table all end table_is limit =
    let c : Closing = record { end = e; table = table } in
    let file : List ℕ = canonical_file c fs in
    let w : Written = after_frames header_alone fs in
    let closing : List ℕ = closing_part w c in
    let b : Before = after_all nothing_yet fs in
    let head = whole-head dictionary fs closing all limit in
    let may = closes dictionary fs e table all end table_is limit in
    let past = past-table dictionary file w b e table may in
    let mid : Before = past_closing w b table in
    let more : List Item = all_items w b e table in
    let stand = closing-stands dictionary file w b e table may in
    let ends = ends-file dictionary file w b e table may in
    let front : length (canonical_head fs) ≡ b.place = head-size fs ∙ head.tells.size in
    let ended : frames_from b more ≡ [] = closing-frames dictionary file w b e table may in
    let none : read_from b more ≡ [] = ap (map _) ended in
    let first : List StoredFrame = frames_from nothing_yet (frames_items nothing_yet fs) in
    record {
      well_formed = record {
        begins = record {
          size = omega (
            arith,
            length-append (canonical_head fs) closing,
            length-append header_bytes (part_bytes header_alone fs),
            header_bytes-length,
          );
          header = header-read (part_bytes header_alone fs) closing;
          stand = stand-append Little file nothing_yet b (after_closing w b e table) (frames_items nothing_yet fs) more
              head.stand stand;
        };
        closed = refl;
        ends = sym (may.whole
            ∙ end-place dictionary file mid e w.frames (told_bytes w e table) (told_seek w e table) ends);
      };
      frames = read-append file nothing_yet b (frames_items nothing_yet fs) more head.stand
          ∙ (λ i. head.frames i ++ none i)
          ∙ append-nil (map as_read fs);
      dictionary = ap (λ es. es ++ e ∷ []) (sym past.tells.entries);
      tables = brings-append table_here file nothing_yet b (frames_items nothing_yet fs) more head.stand
          ∙ (λ i. head.tables i ++ closing-tables dictionary file w b e table may i);
      seeks = brings-append (seek_told Little) file nothing_yet b (frames_items nothing_yet fs) more head.stand
          ∙ (λ i. head.seeks i ++ closing-seeks dictionary file w b e table may i);
      channels = ap (built_of Little)
          (brings-append frame_ended file nothing_yet b (frames_items nothing_yet fs) more head.stand
          ∙ ap (λ frames. first ++ frames) ended
          ∙ append-nil first)
          ∙ head.listed;
      count = sym past.tells.count;
    }

-- ---- it reads back

pub read_back : WrittenFilesAreReadBack
read_back dictionary fs closing sound frames writable few limit =
    by closing.end closing.table writable.end writable.table limit
  where
    by : (e : Entry) (table : Option Entry) → IsWritableFileEnd dictionary e → IfSome table (IsWritableTable dictionary)
        → length (canonical_file (record { end = e; table = table }) fs) ≤ file_limit
        → ReadsBack (canonical_file (record { end = e; table = table }) fs) (record { end = e; table = table }) fs
    by e table end table_is limit =
        let all : AreWritten dictionary fs = record { sound = sound; frames = frames; few = few } in
        let es : List Entry = (after_frames header_alone fs).entries in
        let stands = file-stands dictionary fs e table all end table_is limit in
        let closing_is : closing_by (file_last fs e table).dictionary ≡ record { end = e; table = table } =
        ap closing_by stands.dictionary ∙ closing-back dictionary es e table (needed dictionary fs all) end table_is in
        record {
          items = file_items fs e table;
          last = file_last fs e table;
          well_formed = stands.well_formed;
          content_is = λ i. record { closing = closing_is i; frames = stands.frames i };
        }
