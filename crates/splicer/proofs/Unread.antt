-- A file of which a reader gives no further frame: all frames before its fault are written.
use Rattle.std.proofs.Common.{◌≡◌, ℕ, List, [], length, Option, Err, inl, inr, refl, sym, subst, arith}
use Rattle.std.proofs.lemmas.List.{take_all}
use Rattle.std.specs.List.{AllZip}
use Rattle.frame_outside.specs.Shelf.{Outside}
use Rattle.file_grammar.specs.declared.fault.Fault.{Fault}
use Rattle.file_grammar.specs.Fault.{IsHeaderFault}
use Rattle.frame_content.specs.Frames.{Frame}
use Rattle.item_reader.specs.declared.item.ReadError.{ReadError}
use Rattle.item_reader.specs.declared.item.ReadError.TheVariants as read
use Rattle.canonical_file.specs.declared.closing.Closing.{Closing}
use Rattle.canonical_file.specs.Ordered.{IsInOrder}
use Rattle.canonical_file.specs.Written.{canonical_head}
use Rattle.canonical_writer.specs.Writer.{Writer}
use Rattle.frame_reader.specs.Given.{Frames, HasGiven, GoesOn, AreFirst}
use Rattle.splicer.specs.Errors.{error_of_read}
use Rattle.splicer.specs.Made.{HasMade}
use Rattle.splicer.specs.Put.{HasPut, Puts, PutsPart, PutsUntilFault}

-- ---- the header

-- the fault is that of its header, and nothing of it was put
puts-unbegun : (file : List ℕ) (closing : Option Closing) (stood : List Frame) (old now : Outside) (name : List ℕ)
    (inputs slot : ℕ) (fault : Fault) → IsHeaderFault file fault
    → HasMade old now name inputs slot (canonical_head stood)
    → PutsUntilFault file closing stood old now name inputs slot fault
puts-unbegun file closing stood old now name inputs slot fault is made = record {
  frames = [];
  ordered = [];
  then_stand = stood;
  gives = inl (refl, is);
  in_order = tt;
  passes = refl;
  made = made;
}

-- before the first item the frames that stood are written
part-unbegun : (file : List ℕ) (closing : Option Closing) (stood : List Frame) (old now : Outside) (name : List ℕ)
    (inputs slot : ℕ) → HasMade old now name inputs slot (canonical_head stood)
    → PutsPart file closing stood old now name inputs slot
part-unbegun file closing stood old now name inputs slot made =
    let head : List ℕ = canonical_head stood in
    record {
      ordered = [];
      then_stand = stood;
      count = length head;
      first = inl refl;
      passes = refl;
      made = subst (λ bytes. HasMade old now name inputs slot bytes) (sym (take_all (length head) head (omega arith)))
          made;
    }

-- whatever error the reader gives at the header
pub unbegun-unread : (file : List ℕ) (closing : Option Closing) (stood : List Frame) (old now : Outside)
    (name : List ℕ) (inputs : ℕ) (w : Writer) (error : ReadError)
    → ((fault : Fault) → error ≡ read.Fault fault → IsHeaderFault file fault)
    → HasMade old now name inputs w.slot (canonical_head stood)
    → Puts file closing stood old now name inputs w (Err (error_of_read error))
unbegun-unread file closing stood old now name inputs w (read.Fault fault) header made =
    puts-unbegun file closing stood old now name inputs w.slot fault (header fault refl) made
unbegun-unread file closing stood old now name inputs w read.Device header made =
    part-unbegun file closing stood old now name inputs w.slot made
unbegun-unread file closing stood old now name inputs w read.NoMemory header made =
    part-unbegun file closing stood old now name inputs w.slot made

-- ---- a further frame

-- the frames that were put are the first of the file
pub put-first : (file : List ℕ) (r : Frames) (closing : Option Closing) (stood : List Frame) (old now : Outside)
    (name : List ℕ) (inputs : ℕ) (w : Writer) (put : HasPut file r closing stood old now name inputs w)
    → AreFirst file put.ordered
put-first file r closing stood old now name inputs w put = record {
  order = r.reader.order;
  items = put.given.items;
  last = r.reader.before;
  begins = put.given.begins;
  in_order = subst (λ frames. AllZip IsInOrder frames put.ordered) put.given.frames_are put.in_order;
}

-- where no more was written, just these are written
pub puts-part : (file : List ℕ) (r : Frames) (closing : Option Closing) (stood : List Frame) (old now : Outside)
    (name : List ℕ) (inputs : ℕ) (w : Writer) → HasPut file r closing stood old now name inputs w
    → PutsPart file closing stood old now name inputs w.slot
puts-part file r closing stood old now name inputs w put =
    let head : List ℕ = canonical_head put.then_stand in
    record {
      ordered = put.ordered;
      then_stand = put.then_stand;
      count = length head;
      first = inr (put-first file r closing stood old now name inputs w put);
      passes = put.passes;
      made = subst (λ bytes. HasMade old now name inputs w.slot bytes) (sym (take_all (length head) head (omega arith)))
          put.written.made;
    }

-- whatever error the reader gives after them
pub puts-unread : (file : List ℕ) (r new : Frames) (closing : Option Closing) (stood : List Frame) (old now : Outside)
    (name : List ℕ) (inputs : ℕ) (w : Writer) (error : ReadError)
    → ((frames : List Frame) → HasGiven file frames r → GoesOn file frames new (Err error))
    → HasPut file r closing stood old now name inputs w
    → Puts file closing stood old now name inputs w (Err (error_of_read error))
puts-unread file r new closing stood old now name inputs w (read.Fault fault) goes put = record {
  frames = put.frames;
  ordered = put.ordered;
  then_stand = put.then_stand;
  gives = goes put.frames put.given;
  in_order = put.in_order;
  passes = put.passes;
  made = put.written.made;
}
puts-unread file r new closing stood old now name inputs w read.Device goes put =
    puts-part file r closing stood old now name inputs w put
puts-unread file r new closing stood old now name inputs w read.NoMemory goes put =
    puts-part file r closing stood old now name inputs w put
