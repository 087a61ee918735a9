-- What is put of a file before its first frame.
use Rattle.std.proofs.Common.{◌≡◌, ℕ, ◌≤◌, Bool, true, false, zero, suc, List, [], length, replicate, slice_get, Some}
use Rattle.std.proofs.Common.{refl, sym, subst}
use Rattle.frame_outside.specs.Shelf.{Outside}
use Rattle.frame_outside.specs.SlotReader.{Draws}
use Rattle.dictionary.specs.Dictionary.{IsDictionary}
use Rattle.frame_content.specs.Frames.{Frame}
use Rattle.canonical_writer.specs.Writer.{Writer, none_met}
use Rattle.canonical_file.specs.Written.{canonical_head}
use Rattle.frame_reader.specs.Given.{Frames, HasGiven}
use Rattle.splicer.specs.Made.{HasMade}
use Rattle.splicer.specs.Put.{HasPut, Comes}
use Rattle.splicer.proofs.Making.{made-draws}

-- no entries are a dictionary
pub none-held : IsDictionary []
none-held = record { entries = λ class e is. absurd cc; names = λ name class is. absurd cc }

-- no class is met
none-there : (n class : ℕ) → slice_get (replicate n false) class ≡ Some true → ⊥
none-there zero class is = cc
none-there (suc n) zero is = cc
none-there (suc n) (suc class) is = none-there n class is

-- the frames before the input stand, while its header was read
pub comes-drawn : (file : List ℕ) (stood : List Frame) (old first now : Outside) (name : List ℕ) (inputs read : ℕ)
    (is_first : Bool) (w : Writer) → length old.slots ≤ read → Draws first now read
    → Comes file stood old first name inputs is_first w → HasMade old now name inputs w.slot (canonical_head stood)
comes-drawn file stood old first now name inputs read is_first w past draws comes =
    made-draws old first now name inputs w.slot read (canonical_head stood) comes.written.made past draws

-- A reader has read the header alone, and a writer was told of the file.
pub puts-begun : (file : List ℕ) (stood : List Frame) (old first now : Outside) (name : List ℕ) (inputs read : ℕ)
    (is_first : Bool) (w v : Writer) (r : Frames) → length old.slots ≤ read → Draws first now read
    → Comes file stood old first name inputs is_first w → v ≡ record w { met = none_met } → HasGiven file [] r
    → HasPut file r v.closing stood old now name inputs v
puts-begun file stood old first now name inputs read is_first w v r past draws comes is given =
    subst (λ (v : Writer). HasPut file r v.closing stood old now name inputs v) (sym is) (record {
      frames = [];
      ordered = [];
      then_stand = stood;
      given = given;
      in_order = tt;
      passes = refl;
      written = record {
        made = comes-drawn file stood old first now name inputs read is_first w past draws comes;
        written = comes.written.written;
        error = comes.written.error;
        agree = comes.written.agree;
      };
      closing_is = refl;
      met = λ class is. absurd (none-there 256 class is);
      none_stood = comes.none_stood;
    })
