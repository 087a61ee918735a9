-- How much of an input is drawn while its frames are read and written.
use Rattle.std.proofs.Common.{◌≡◌, ℕ, suc, ◌+◌, ◌≤◌, List, [], ◌∷◌, ◌++◌, length, take, Option, Some}
use Rattle.std.proofs.Common.{None, Result, Ok, Err, inl, inr, refl, sym, ap, subst, ◌∙◌, arith, option_map}
use Rattle.std.proofs.lemmas.List.{length-append}
use Rattle.std.proofs.lemmas.Option.{same_Some}
use Rattle.frame_head.specs.Header.{header_of}
use Rattle.frame_outside.specs.Counts.{counted_by}
use Rattle.frame_outside.specs.Shelf.{Outside, Reading, Told, reading_at, reading_past}
use Rattle.frame_outside.specs.SlotReader.{Draws, DrawsAtMost}
use Rattle.frame_outside.proofs.Slots.{reading_at-pass}
use Rattle.structure_source.specs.Source.{Position, Stands, GoesOn as Passes, bytes_drawn}
use Rattle.file_grammar.specs.declared.fault.Fault.{Fault}
use Rattle.file_grammar.specs.Item.{nothing_yet}
use Rattle.file_grammar.specs.MayStand.{Begins}
use Rattle.file_grammar.specs.Fault.{IsHeaderFault}
use Rattle.file_grammar.proofs.Headers.{same_order, begins-unfaulted}
use Rattle.frame_content.specs.Frames.{Frame}
use Rattle.file_content.proofs.WholeFiles.{file_of-drawn}
use Rattle.item_reader.specs.declared.item.ReadError.{ReadError}
use Rattle.item_reader.specs.declared.item.ReadError.TheVariants as read
use Rattle.item_reader.specs.Looked.{IsWithinLook}
use Rattle.item_reader.specs.Reader.{Reader, Reads, file_of}
use Rattle.item_reader.proofs.Ahead.{no-further}
use Rattle.item_reader.proofs.Looking.{look-least}
use Rattle.canonical_file.specs.declared.closing.Closing.{Closing}
use Rattle.canonical_writer.specs.declared.errors.WriteError.{WriteError}
use Rattle.canonical_writer.specs.Writer.{Writer}
use Rattle.frame_reader.specs.Gives.{Breaks, Gives}
use Rattle.frame_reader.specs.Given.{Frames, HasGiven, GoesOn, HasLooked}
use Rattle.splicer.specs.declared.errors.InputError.{InputError}
use Rattle.splicer.specs.declared.errors.InputError.TheVariants as input
use Rattle.splicer.specs.Errors.{error_of_read}
use Rattle.splicer.specs.Put.{HasPut, IsEnded, PutsNext}
use Rattle.splicer.specs.Drawn.{Took, HasRead, HasReached, DrawsInput, DrawsToFault, ReachesIn}
use Rattle.splicer.proofs.LaterLooks.{within-along, stand-rest}

-- ---- what was taken

-- bytes that were drawn are taken once more
took-more : (old now new : Outside) (n more all : ℕ) → Took old now n → new.taken ≡ counted_by now.taken more
    → n + more ≡ all → Took old new all
took-more old now new n more all took is sum = omega (arith, took, is, sum)

-- what a source has drawn is of its file
drawn-within : (o : Outside) (p : Position) (file : List ℕ) → file_of o p.slot ≡ Some file → Stands o p
    → bytes_drawn p ≤ length file
drawn-within o p file told stands = by (reading_at o.slots p.slot) refl told
  where
    by : (found : Option Reading) → reading_at o.slots p.slot ≡ found
        → option_map (λ reading. reading.opened) found ≡ Some file → bytes_drawn p ≤ length file
    by None is told = absurd cc
    by (Some reading) is told =
        let at = stands.place reading is in
        omega (arith, at.drawn_is, at.within, ap (λ (f : List ℕ). length f) (same_Some reading.opened file told))

-- once the header is read, all that was drawn for it was taken
pub read-begun : (first now : Outside) (r : Reader) (slot : ℕ) (file : List ℕ) → file_of first slot ≡ Some file
    → Told (reading_at first.slots slot) (λ reading. reading.at ≡ 0) → (draws : Draws first now slot)
    → r.position.slot ≡ slot → Stands now r.position → HasRead file first now r
read-begun first now r slot file told beginning draws same stands = by (reading_at first.slots slot) refl told
  where
    within : bytes_drawn r.position ≤ length file
    within = drawn-within now r.position file (ap (file_of now) same ∙ file_of-drawn first now slot draws ∙ told) stands

    by : (found : Option Reading) → reading_at first.slots slot ≡ found
        → option_map (λ reading. reading.opened) found ≡ Some file → HasRead file first now r
    by None is told = absurd cc
    by (Some reading) is told =
        let now_is : reading_at now.slots r.position.slot ≡ Some (reading_past draws.drawn reading) =
        ap (reading_at now.slots) same ∙ ap (λ slots. reading_at slots slot) draws.passes.slots
        ∙ reading_at-pass first.slots slot draws.drawn ∙ ap (option_map (reading_past draws.drawn)) is in
        let at = stands.place (reading_past draws.drawn reading) now_is in
        let start = beginning reading is in
        record { took = omega (arith, draws.passes.taken, at.drawn_is, start); within = within }

-- All that the reader has drawn up to now was taken.
unfoldable pub ReadsOn : Outside → Outside → Reader → Reader → Type 0
ReadsOn start now before r =
    (first : Outside) (file : List ℕ) → file_of start before.position.slot ≡ Some file
    → HasRead file first start before → HasRead file first now r

pub reads_on-init : (o : Outside) (r : Reader) → ReadsOn o o r r
unfolding ReadsOn
reads_on-init o r = λ first file told read. read

pub reads_on-drawn : (start now middle : Outside) (before r new : Reader) → ReadsOn start now before r
    → Passes now middle r.position new.position → Stands middle new.position
    → file_of middle new.position.slot ≡ file_of start before.position.slot → ReadsOn start middle before new
unfolding ReadsOn
reads_on-drawn start now middle before r new on passes stands same = λ first file told read.
    let so_far = on first file told read in
    record {
      took = took-more first now middle (bytes_drawn r.position) passes.draws.drawn
          (bytes_drawn new.position) so_far.took
          passes.draws.passes.taken passes.balance;
      within = drawn-within middle new.position file (same ∙ told) stands;
    }

-- what is written takes nothing
pub reads_on-written : (start middle last : Outside) (before r : Reader) → ReadsOn start middle before r
    → last.taken ≡ middle.taken → ReadsOn start last before r
unfolding ReadsOn
reads_on-written start middle last before r on same = λ first file told read.
    let so_far = on first file told read in
    record { took = omega (arith, same, so_far.took); within = so_far.within }

pub reads_on-read : (start now : Outside) (before r : Reader) → ReadsOn start now before r → (first : Outside)
    (file : List ℕ) → file_of start before.position.slot ≡ Some file → HasRead file first start before
    → HasRead file first now r
unfolding ReadsOn
reads_on-read start now before r on = on

-- ---- how far it was read

-- what was looked at after given frames is no further than what stands at the fault, or after the item there
to-fault : (file : List ℕ) (frames : List Frame) (fault : Fault) (n : ℕ) → HasLooked file frames n
    → Gives file frames (Breaks fault) → DrawsToFault file fault n
to-fault file frames fault n looked (inl none) =
    absurd (begins-unfaulted file looked.order looked.items looked.last fault looked.begins none.1)
to-fault file frames fault n looked (inr until) =
    let is = until.is_fault in
    let same : looked.order ≡ is.order =
    same_order (header_of (take 40 file)) looked.order is.order looked.begins.header is.begins.header in
    let begins : Begins file is.order looked.items looked.last =
    subst (λ order. Begins file order looked.items looked.last) same looked.begins in
    let rest = stand-rest is.order file nothing_yet looked.last is.last looked.items is.items begins.stand
    is.begins.stand (inr (fault, record { holds = is.holds })) in
    inr (
      is,
      within-along is.order file looked.last is.last rest.0 n rest.1
          (subst (λ order. IsWithinLook order file looked.last.place n) same looked.within),
    )

-- the header was not read
pub draws-unbegun : (file : List ℕ) (closing : Option Closing) (stood : List Frame) (first now : Outside) (slot : ℕ)
    (error : ReadError) → file_of first slot ≡ Some file → DrawsAtMost first now slot 65576
    → ((fault : Fault) → error ≡ read.Fault fault → IsHeaderFault file fault)
    → DrawsInput file closing stood first now (Err (error_of_read error))
draws-unbegun file closing stood first now slot error told most header = record {
  drawn = most.draws.drawn;
  took = omega (arith, most.draws.passes.taken);
  within = found (reading_at first.slots slot) refl told;
  reaches = by error header;
}
  where
    found : (found : Option Reading) → reading_at first.slots slot ≡ found
        → option_map (λ reading. reading.opened) found ≡ Some file → most.draws.drawn ≤ length file
    found None is told = absurd cc
    found (Some reading) is told =
        let few = most.draws.passes.within reading is in
        omega (arith, few, ap (λ (f : List ℕ). length f) (same_Some reading.opened file told))

    by : (error : ReadError) → ((fault : Fault) → error ≡ read.Fault fault → IsHeaderFault file fault)
        → ReachesIn file closing stood most.draws.drawn (Err (error_of_read error))
    by (read.Fault fault) header = inl (header fault refl, most.limit)
    by read.Device header = inl most.limit
    by read.NoMemory header = inl most.limit

-- no further frame was given
pub draws-unread : (file : List ℕ) (r new : Frames) (closing : Option Closing) (stood : List Frame)
    (old now first last : Outside) (name : List ℕ) (inputs : ℕ) (w : Writer) (error : ReadError)
    → HasPut file r closing stood old now name inputs w → HasRead file first last new.reader
    → ((frames : List Frame) → HasGiven file frames r → GoesOn file frames new (Err error))
    → ((frames : List Frame) → HasGiven file frames r → HasLooked file frames (bytes_drawn new.reader.position))
    → DrawsInput file closing stood first last (Err (error_of_read error))
draws-unread file r new closing stood old now first last name inputs w error put has goes ahead = record {
  drawn = bytes_drawn new.reader.position;
  took = has.took;
  within = has.within;
  reaches = by error (goes put.frames put.given);
}
  where
    looked : HasLooked file put.frames (bytes_drawn new.reader.position)
    looked = ahead put.frames put.given

    reached : HasReached file closing stood (bytes_drawn new.reader.position)
    reached = record {
      frames = put.frames;
      ordered = put.ordered;
      then_stand = put.then_stand;
      in_order = put.in_order;
      passes = put.passes;
      looked = inl looked;
    }

    by : (error : ReadError) → GoesOn file put.frames new (Err error)
        → ReachesIn file closing stood (bytes_drawn new.reader.position) (Err (error_of_read error))
    by (read.Fault fault) gives = to-fault file put.frames fault (bytes_drawn new.reader.position) looked gives
    by read.Device gives = inr reached
    by read.NoMemory gives = inr reached

-- all frames were given
pub draws-all : (file : List ℕ) (r : Reader) (closing : Option Closing) (stood : List Frame) (first last : Outside)
    → HasRead file first last r → DrawsInput file closing stood first last (Ok tt)
draws-all file r closing stood first last has =
    record { drawn = bytes_drawn r.position; took = has.took; within = has.within; reaches = tt }

-- a frame was given that is not written
pub draws-next : (file : List ℕ) (frame : Frame) (r : Frames) (closing : Option Closing) (stood : List Frame)
    (old now there first last : Outside) (name : List ℕ) (inputs : ℕ) (w : Writer) (error : WriteError)
    → PutsNext file frame r closing stood old now name inputs w → HasRead file first last r.reader
    → Reads there r.reader → r.reader.error ≡ None → file_of there r.reader.position.slot ≡ Some file
    → DrawsInput file closing stood first last (Err (input.Write error))
draws-next file frame r closing stood old now there first last name inputs w error put has reads none told = record {
  drawn = bytes_drawn r.reader.position;
  took = has.took;
  within = has.within;
  reaches = inr (record {
    frames = put.frames;
    ordered = put.ordered;
    then_stand = put.then_stand;
    in_order = put.in_order;
    passes = put.passes;
    looked = inr (record {
      to = record {
        order = r.reader.order;
        earlier = put.gives.earlier;
        taken = put.gives.taken;
        last = r.reader.before;
        begins = put.gives.begins;
        before = ap (λ (fs : List Frame). length fs) (sym put.gives.before_are);
        with_it = ap (λ (fs : List Frame). length fs) (sym put.gives.frames_are) ∙ longer;
        within = no-further file r.reader reads.stands.few (reads.read none file told);
      };
      before_are = put.gives.before_are;
    });
  });
}
  where
    longer : length (put.frames ++ frame ∷ []) ≡ suc (length put.frames)
    longer = omega (arith, length-append put.frames (frame ∷ []))

-- all was written, or memory failed after that
pub draws-ended : (file : List ℕ) (r : Frames) (closing : Option Closing) (stood : List Frame)
    (old now first last : Outside) (name : List ℕ) (inputs : ℕ) (w : Writer) (result : Result Unit InputError)
    → HasPut file r closing stood old now name inputs w → IsEnded file r
    → DrawsInput file closing stood first last (Ok tt) → ((fault : Fault) → result ≡ Err (input.Fault fault) → ⊥)
    → DrawsInput file closing stood first last result
draws-ended file r closing stood old now first last name inputs w result put ended all no_fault = record {
  drawn = all.drawn;
  took = all.took;
  within = all.within;
  reaches = by result no_fault;
}
  where
    by : (result : Result Unit InputError) → ((fault : Fault) → result ≡ Err (input.Fault fault) → ⊥)
        → ReachesIn file closing stood all.drawn result
    by (Ok x) no_fault = tt
    by (Err (input.Fault fault)) no_fault = absurd (no_fault fault refl)
    by (Err (input.Write error)) no_fault =
        inr (record {
          frames = put.frames;
          ordered = put.ordered;
          then_stand = put.then_stand;
          in_order = put.in_order;
          passes = put.passes;
          looked = inl (record {
            order = r.reader.order;
            items = put.given.items;
            last = r.reader.before;
            begins = put.given.begins;
            frames_are = put.given.frames_are;
            within = inl (omega (
              arith,
              all.within,
              ended.1.whole.ends,
              look-least r.reader.order file r.reader.before.place,
            ));
          });
        })
