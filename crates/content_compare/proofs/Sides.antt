-- Two files side by side: what stops them, and what is known of both.
use Rattle.std.proofs.Common.{◌≡◌, ℕ, zero, suc, List, ◌++◌, Some, Result, Ok, Err, refl}
use Rattle.frame_outside.specs.Shelf.{Outside}
use Rattle.frame_content.specs.Frames.{Frame}
use Rattle.item_reader.specs.declared.item.ReadError.{ReadError}
use Rattle.item_reader.specs.declared.item.ReadError.TheVariants as read
use Rattle.item_reader.specs.Reader.{file_of}
use Rattle.canonical_file.specs.Ranges.{AreBytes}
use Rattle.canonical_laws.specs.Content.{closing_by}
use Rattle.frame_reader.specs.Given.{Frames}
use Rattle.frame_reader.proofs.Ended.{all-given}
use Rattle.content_compare.specs.declared.answers.CompareError.{CompareError}
use Rattle.content_compare.specs.declared.answers.CompareError.TheVariants as error
use Rattle.content_compare.specs.Answers.{error_of_read}
use Rattle.content_compare.specs.Sides.{IsSide, EndsAs, Stops}
use Rattle.content_compare.proofs.ReadingOn.{NextDoes, next-breaks}

-- the first has a fault
pub stops-first : (now : Outside) (old new : Frames) (file second : List ℕ) (frames : List Frame) (error : ReadError)
    → NextDoes now old new (Err error) → file_of now old.reader.position.slot ≡ Some file → AreBytes file
    → IsSide file frames old → Stops file second (error_of_read 0 error)
stops-first now old new file second frames (read.Fault fault) does told bytes side =
    (frames, next-breaks now old new file frames fault does told bytes side)
stops-first now old new file second frames read.Device does told bytes side = tt
stops-first now old new file second frames read.NoMemory does told bytes side = tt

-- which is found on its way to the end
pub stops-before : (file second : List ℕ) (frames : List Frame) (r : Frames) (e : CompareError)
    → EndsAs 0 file frames r (Err e) → Stops file second e
stops-before file second frames r (error.Fault zero fault) (same, all, gives) = (all, gives)
stops-before file second frames r (error.Fault (suc n) fault) (same, all, gives) = absurd cc
stops-before file second frames r error.Device ends = tt
stops-before file second frames r error.NoMemory ends = tt

-- the second has one, and the first is well-formed
pub stops-second : (now : Outside) (old new r : Frames) (file second : List ℕ) (frames others : List Frame)
    (error : ReadError) → EndsAs 0 file frames r (Ok tt) → NextDoes now old new (Err error)
    → file_of now old.reader.position.slot ≡ Some second → AreBytes second → IsSide second others old
    → Stops file second (error_of_read 1 error)
stops-second now old new r file second frames others (read.Fault fault) ends does told bytes side = (
  refl,
  frames ++ ends.0,
  others,
  closing_by r.reader.before.dictionary,
  all-given file (frames ++ ends.0) r ends.1,
  next-breaks now old new second others fault does told bytes side,
)
stops-second now old new r file second frames others read.Device ends does told bytes side = tt
stops-second now old new r file second frames others read.NoMemory ends does told bytes side = tt

-- which is found on its way to the end
pub stops-after : (file second : List ℕ) (frames others : List Frame) (r s : Frames) (e : CompareError)
    → EndsAs 0 file frames r (Ok tt) → EndsAs 1 second others s (Err e) → Stops file second e
stops-after file second frames others r s (error.Fault zero fault) ends (same, all, gives) = absurd cc
stops-after file second frames others r s (error.Fault (suc n) fault) ends (same, all, gives) = (
  let only : n ≡ 0 = cc in only,
  frames ++ ends.0,
  all,
  closing_by r.reader.before.dictionary,
  all-given file (frames ++ ends.0) r ends.1,
  gives,
)
stops-after file second frames others r s error.Device ends also = tt
stops-after file second frames others r s error.NoMemory ends also = tt

-- ---- errors

-- an error that was passed on
pub passed-on : {T E : Type 0} (result : Result T E) (e x y : E) → result ≡ Err e → e ≡ x → result ≡ Err y → x ≡ y
passed-on result e x y one two three = cc
