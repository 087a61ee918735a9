-- Two readers that are begun, each of its slot.
use Rattle.std.proofs.Common.{◌≡◌, ℕ, zero, suc, ◌<◌, ◌≤◌, true, false, List, [], ◌∷◌, Some, Ok, inl, refl, sym, ap}
use Rattle.std.proofs.Common.{◌∙◌, subst, arith}
use Rattle.frame_outside.specs.Counts.{Rose}
use Rattle.frame_outside.specs.Shelf.{Outside, Slot, Told, IsSource, reading_at, pass}
use Rattle.frame_outside.specs.SlotReader.{Draws}
use Rattle.frame_outside.proofs.Slots.{IsSource-pass}
use Rattle.structure_source.specs.Source.{Position, GoesOn}
use Rattle.file_grammar.specs.declared.fault.Fault.{Fault}
use Rattle.file_grammar.specs.Fault.{IsHeaderFault}
use Rattle.item_reader.specs.declared.item.ReadError.{ReadError}
use Rattle.item_reader.specs.declared.item.ReadError.TheVariants as read
use Rattle.item_reader.specs.Reader.{Reader, Reads, file_of}
use Rattle.item_reader.proofs.ReadsStay.{reads-passes}
use Rattle.canonical_laws.specs.Content.{closing_by}
use Rattle.frame_reader.specs.Given.{Frames, HasGiven}
use Rattle.frame_reader.proofs.Ended.{all-given}
use Rattle.content_compare.specs.declared.answers.CompareError.{CompareError}
use Rattle.content_compare.specs.declared.answers.CompareError.TheVariants as error
use Rattle.content_compare.specs.Answers.{error_of_read, IsOfTwo}
use Rattle.content_compare.specs.Sides.{IsSide, OnlyDraws, EndsAs, Stops}
use Rattle.content_compare.proofs.Draws.{draws-only, only-more, file-stays}

-- ---- one reader

-- it has given nothing yet
pub begun-side : (file : List ℕ) (r : Frames) → HasGiven file [] r → r.reader.before.closed ≡ false → IsSide file [] r
begun-side file r given still = record {
  given = given;
  ended = λ closed. let no : true ≡ false = sym closed ∙ still in absurd cc;
}

-- the first has a wrong header
pub header-stops : (file second : List ℕ) (e : ReadError)
    → ((fault : Fault) → e ≡ read.Fault fault → IsHeaderFault file fault) → Stops file second (error_of_read 0 e)
header-stops file second (read.Fault fault) is = ([], inl (refl, is fault refl))
header-stops file second read.Device is = tt
header-stops file second read.NoMemory is = tt

-- or the second, and the first is well-formed
pub header-stops_second : (file second : List ℕ) (r : Frames) (e : ReadError) → EndsAs 0 file [] r (Ok tt)
    → ((fault : Fault) → e ≡ read.Fault fault → IsHeaderFault second fault) → Stops file second (error_of_read 1 e)
header-stops_second file second r (read.Fault fault) ends is = (
  refl,
  ends.0,
  [],
  closing_by r.reader.before.dictionary,
  all-given file ends.0 r ends.1,
  inl (refl, is fault refl),
)
header-stops_second file second r read.Device ends is = tt
header-stops_second file second r read.NoMemory ends is = tt

-- what fails in a file is a call of the shelf
pub unread-device : (number : ℕ) (e : ReadError) → error_of_read number e ≡ error.Device → e ≡ read.Device
unread-device number (read.Fault fault) is = cc
unread-device number read.Device is = refl
unread-device number read.NoMemory is = cc

-- the file that it names is one of the two
pub unread-of_two : (number : ℕ) (e : ReadError) → number < 2 → IsOfTwo (error_of_read number e)
unread-of_two number (read.Fault fault) few = few
unread-of_two number read.Device few = tt
unread-of_two number read.NoMemory few = tt

pub named-of_two : (number : ℕ) (e : CompareError) → number < 2
    → ((other : ℕ) (fault : Fault) → e ≡ error.Fault other fault → other ≡ number) → IsOfTwo e
named-of_two number (error.Fault other fault) few named =
    subst (λ n. n < 2) (sym (named other fault refl)) few
named-of_two number error.Device few named = tt
named-of_two number error.NoMemory few named = tt

-- ---- the other slot

-- a slot gave bytes: what is told of another stays
other-reading : (slots : List Slot) (slot n other : ℕ) → (slot ≡ other → ⊥)
    → reading_at (pass slots slot n) other ≡ reading_at slots other
other-reading [] slot n other apart = refl
other-reading (first ∷ others) zero n zero apart = absurd (apart refl)
other-reading (first ∷ others) zero n (suc other) apart = refl
other-reading (first ∷ others) (suc slot) n zero apart = refl
other-reading (first ∷ others) (suc slot) n (suc other) apart =
    other-reading others slot n other (λ same. apart (ap (λ k. suc k) same))

pub other-beginning : (old new : Outside) (slot other : ℕ) → Draws old new slot → (slot ≡ other → ⊥)
    → Told (reading_at old.slots other) (λ reading. reading.at ≡ 0)
    → Told (reading_at new.slots other) (λ reading. reading.at ≡ 0)
other-beginning old new slot other draws apart begins = λ reading told.
    begins reading
    (sym (other-reading old.slots slot draws.drawn other apart)
    ∙ sym (ap (λ slots. reading_at slots other) draws.passes.slots) ∙ told)

-- it stays a source
pub other-source : (old new : Outside) (slot other : ℕ) → Draws old new slot → IsSource old.slots other
    → IsSource new.slots other
other-source old new slot other draws source =
    subst (λ slots. IsSource slots other) (sym draws.passes.slots)
    (IsSource-pass old.slots slot draws.drawn other source)

-- its reader still reads
pub other-reads : (old new : Outside) (slot other : ℕ) (r : Reader) → Draws old new other → r.position.slot ≡ slot
    → (slot ≡ other → ⊥) → Reads old r → Reads new r
other-reads old new slot other r draws is apart reads =
    reads-passes old new other draws.drawn r (λ same. apart (sym is ∙ same)) draws.passes reads

-- ---- what was drawn

-- of both slots
pub both-drawn : (one two three : Outside) (slot other from : ℕ) → Draws one two slot → Draws two three other
    → from ≤ slot → from ≤ other → OnlyDraws one three from
both-drawn one two three slot other from draws also few less =
    only-more one two three from (draws-only one two slot from draws few) (draws-only two three other from also less)

-- and then of the first again
pub again-drawn : (one two three four : Outside) (slot other from : ℕ) (p q : Position) → Draws one two slot
    → Draws two three other → GoesOn three four p q → p.slot ≡ slot → from ≤ slot → from ≤ other
    → OnlyDraws one four from
again-drawn one two three four slot other from p q draws also goes is few less =
    only-more one three four from (both-drawn one two three slot other from draws also few less)
    (draws-only three four p.slot from goes.draws (subst (λ n. from ≤ n) (sym is) few))

-- each slot has the file that it had
pub both-told : (one two three : Outside) (slot other at place : ℕ) (file : List ℕ) → Draws one two slot
    → Draws two three other → place ≡ at → file_of one at ≡ Some file → file_of three place ≡ Some file
both-told one two three slot other at place file draws also is told =
    ap (file_of three) is ∙ file-stays two three other at also ∙ file-stays one two slot at draws ∙ told

-- a count that rose in the middle rose
pub rose-between : (one two three four : ℕ) → one ≤ two → Rose two three → three ≤ four → Rose one four
rose-between one two three four before rose after = omega (arith, before, rose, after)
