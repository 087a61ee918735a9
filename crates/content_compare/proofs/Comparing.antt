-- Two files that are compared frame by frame.
use Rattle.std.proofs.Common.{◌≡◌, ℕ, zero, suc, ◌+◌, Bool, true, false, List, [], ◌∷◌, ◌++◌, length, take, replicate}
use Rattle.std.proofs.Common.{max}
use Rattle.std.proofs.Common.{Option, Some, None, Ok, IsSomeAnd, IsTrue, ◌↔◌, refl, sym, ap, ◌∙◌, subst, arith}
use mathlib.Core.Bool.{not, beq}
use Rattle.std.specs.List.{AllZip, slice_get}
use Rattle.std.proofs.lemmas.List.{length-append, length-map}
use Rattle.std.proofs.lemmas.List.Elements.{AllZip-push, length_all_zip}
use Rattle.dictionary.specs.declared.entries.Entry.{Entry}
use Rattle.dictionary.specs.Dictionary.{entry_of}
use Rattle.file_grammar.specs.Item.{nothing_yet}
use Rattle.frame_outside.specs.Shelf.{Outside, Told}
use Rattle.frame_content.specs.Labels.{printed_entry}
use Rattle.frame_content.specs.Frames.{Frame}
use Rattle.file_content.specs.Stored.{frames_in}
use Rattle.file_content.specs.Contents.{content_frame}
use Rattle.item_reader.specs.Reader.{file_of}
use Rattle.canonical_file.specs.Ranges.{AreBytes}
use Rattle.canonical_file.specs.Ordered.{SameFrame}
use Rattle.canonical_file.specs.Contents.{Differ}
use Rattle.canonical_laws.proofs.FramesCounted.{stand-counted}
use Rattle.canonical_writer.specs.Alike.{AreAlike}
use Rattle.canonical_writer.specs.Writer.{none_met}
use Rattle.frame_reader.specs.Given.{Frames, HasGiven, GivesFrame, Keeps}
use Rattle.content_compare.specs.Sides.{IsSide, ReadOn, FirstDiffer, Finds, Moves}
use Rattle.content_compare.proofs.Draws.{told-first, told-second}
use Rattle.content_compare.proofs.ReadingOn.{side-all, side-lent, side-none}

-- ---- dictionaries

-- the entries of a class in two dictionaries that have one
one-entry : (held other : Option Entry)
    → IsSomeAnd held (λ e. IsSomeAnd other (λ o. printed_entry e ≡ printed_entry o))
    → (e o : Entry) × (held ≡ Some e) × (other ≡ Some o) × (printed_entry e ≡ printed_entry o)
one-entry None other have = absurd have
one-entry (Some e) None have = absurd have
one-entry (Some e) (Some o) have = (e, o, refl, refl, have)

have-one : (held other : Option Entry) (e o : Entry) → held ≡ Some e → other ≡ Some o
    → printed_entry e ≡ printed_entry o
    → IsSomeAnd held (λ e. IsSomeAnd other (λ o. printed_entry e ≡ printed_entry o))
have-one held other e o is also same =
    subst (λ (h : Option Entry). IsSomeAnd h (λ e. IsSomeAnd other (λ o. printed_entry e ≡ printed_entry o))) (sym is)
    (subst (λ (h : Option Entry). IsSomeAnd h (λ o. printed_entry e ≡ printed_entry o)) (sym also) same)

-- what is alike stays so while the dictionaries grow
alike-grows : (met : List Bool) (held other old new : List Entry) → Keeps held old → Keeps other new
    → AreAlike met held other → AreAlike met old new
alike-grows met held other old new keeps also alike = λ class is.
    let one = one-entry (entry_of held class) (entry_of other class) (alike class is) in
    have-one (entry_of old class) (entry_of new class) one.0 one.1 (keeps class one.0 one.2) (also class one.1 one.3)
    one.4

-- where no class was met nothing is asked
none-replicated : (n class : ℕ) → slice_get (replicate n false) class ≡ Some true → ⊥
none-replicated zero class is = cc
none-replicated (suc n) zero is = cc
none-replicated (suc n) (suc class) is = none-replicated n class is

none-alike : (held other : List Entry) → AreAlike none_met held other
none-alike held other = λ class is. absurd (none-replicated 256 class is)

-- ---- frames and their numbers

-- as many frames were given as are counted
counted : (file : List ℕ) (frames : List Frame) (r : Frames) → HasGiven file frames r
    → r.reader.before.frames ≡ length frames
counted file frames r given =
    let told = (stand-counted r.reader.order file nothing_yet r.reader.before given.items (omega arith)
    given.begins.stand).told in
    let many : length frames ≡ length (frames_in r.reader.order given.items) =
    ap length given.frames_are ∙ length-map (frames_in r.reader.order given.items) (content_frame r.reader.order) in
    omega (arith, told, many)

-- the frame after so many
get-after : (fs more : List Frame) → slice_get (fs ++ more) (length fs) ≡ slice_get more 0
get-after [] more = refl
get-after (f ∷ fs) more = get-after fs more

-- the frames before it
take-before : (fs more : List Frame) → take (length fs) (fs ++ more) ≡ fs
take-before [] more = refl
take-before (f ∷ fs) more = ap (λ gs. f ∷ gs) (take-before fs more)

-- Equal frames, and after them what differs.
differ-after : (file second : List ℕ) (q p : Frames) (frames others more rest : List Frame) (place : ℕ)
    → AllZip SameFrame frames others → IsSide file (frames ++ more) q → IsSide second (others ++ rest) p
    → place ≡ suc (length frames) → Differ (slice_get more 0) (slice_get rest 0)
    → (slice_get more 0 ≡ None → q.reader.before.closed ≡ true)
    → (slice_get rest 0 ≡ None → p.reader.before.closed ≡ true) → FirstDiffer file second place q p
differ-after file second q p frames others more rest place same side beside place_is differ ended also =
    let long : length others ≡ length frames = sym (length_all_zip SameFrame frames others same) in
    let second_get : slice_get (others ++ rest) (length frames) ≡ slice_get rest 0 =
    ap (slice_get (others ++ rest)) (sym long) ∙ get-after others rest in
    let second_take : take (length frames) (others ++ rest) ≡ others =
    ap (λ n. take n (others ++ rest)) (sym long) ∙ take-before others rest in
    record {
      frames = frames ++ more;
      others = others ++ rest;
      first = side;
      also = beside;
      number = length frames;
      place_is = place_is;
      same = subst (λ fs. AllZip SameFrame fs (take (length frames) (others ++ rest))) (sym (take-before frames more))
          (subst (AllZip SameFrame frames) (sym second_take) same);
      differ = subst (λ f. Differ f (slice_get (others ++ rest) (length frames))) (sym (get-after frames more))
          (subst (Differ (slice_get more 0)) (sym second_get) differ);
      first_ended = λ none. ended (sym (get-after frames more) ∙ none);
      also_ended = λ none. also (sym second_get ∙ none);
    }

-- ---- two readers

-- Both have given equal frames, and of the classes that were met they have one entry.
pub record Abreast (file second : List ℕ) (r s : Frames) (met : List Bool) : Type 0 where
  pub frames : List Frame
  pub others : List Frame
  pub first : IsSide file frames r
  pub also : IsSide second others s
  pub same : AllZip SameFrame frames others
  pub alike : AreAlike met r.reader.before.dictionary s.reader.before.dictionary

-- Then both have read on.
pub record BothOn (file second : List ℕ) (r s : Frames) (more also : Bool) (met : List Bool) : Type 0 where
  pub frames : List Frame
  pub others : List Frame
  pub first : Moves file frames r more
  pub second_moves : Moves second others s also
  pub same : AllZip SameFrame frames others
  pub alike : AreAlike met r.reader.before.dictionary s.reader.before.dictionary

pub both-on : (file second : List ℕ) (r s q p : Frames) (more also : Bool) (met : List Bool)
    → Abreast file second r s met
    → ((frames others : List Frame) → IsSide file frames r → IsSide second others s
    → Moves file frames q more × Moves second others p also)
    → Keeps r.reader.before.dictionary q.reader.before.dictionary
    → Keeps s.reader.before.dictionary p.reader.before.dictionary → BothOn file second q p more also met
both-on file second r s q p more also met abreast moves keeps too =
    let m = moves abreast.frames abreast.others abreast.first abreast.also in
    record {
      frames = abreast.frames;
      others = abreast.others;
      first = m.0;
      second_moves = m.1;
      same = abreast.same;
      alike = alike-grows met r.reader.before.dictionary s.reader.before.dictionary q.reader.before.dictionary
          p.reader.before.dictionary keeps too abreast.alike;
    }

-- one of them has a frame more
pub one-more : (file second : List ℕ) (q p : Frames) (more also : Bool) (met : List Bool)
    → BothOn file second q p more also met → (more ≡ also → ⊥)
    → FirstDiffer file second (max q.reader.before.frames p.reader.before.frames) q p
one-more file second q p true true met on apart = absurd (apart refl)
one-more file second q p false false met on apart = absurd (apart refl)
one-more file second q p true false met on apart =
    let side = side-lent file on.frames on.first.1 q on.first.0 on.first.2 in
    let beside = side-none second on.others p on.second_moves.1 in
    let count = counted file (on.frames ++ on.first.1 ∷ []) q side.given in
    let other = counted second on.others p on.second_moves.1.given in
    differ-after file second q p on.frames on.others (on.first.1 ∷ []) []
    (max q.reader.before.frames p.reader.before.frames) on.same side beside
    (omega (
      arith,
      count,
      other,
      length-append on.frames (on.first.1 ∷ []),
      length_all_zip SameFrame on.frames on.others on.same,
    )) tt (λ none. absurd cc) (λ none. on.second_moves.0)
one-more file second q p false true met on apart =
    let side = side-none file on.frames q on.first.1 in
    let beside = side-lent second on.others on.second_moves.1 p on.second_moves.0 on.second_moves.2 in
    let count = counted file on.frames q on.first.1.given in
    let other = counted second (on.others ++ on.second_moves.1 ∷ []) p beside.given in
    differ-after file second q p on.frames on.others [] (on.second_moves.1 ∷ [])
    (max q.reader.before.frames p.reader.before.frames) on.same side beside
    (omega (
      arith,
      count,
      other,
      length-append on.others (on.second_moves.1 ∷ []),
      length_all_zip SameFrame on.frames on.others on.same,
    )) tt (λ none. on.first.0) (λ none. absurd cc)

-- both have ended
pub both-end : (file second : List ℕ) (q p : Frames) (met : List Bool) → BothOn file second q p false false met
    → Finds file second q p (Ok None)
both-end file second q p met on = (
  on.first.0,
  on.second_moves.0,
  record {
    frames = on.frames;
    others = on.others;
    first = side-all file on.frames q on.first.1;
    also = side-all second on.others p on.second_moves.1;
    same = on.same;
  },
)

-- whether two lent frames are equal, as it is judged
abbrev pub Judges : List ℕ → List ℕ → Frames → Frames → List Bool → Bool → Type 0
Judges file second q p met same =
    (frames others : List Frame) (frame another : Frame) → GivesFrame file frames frame q
    → GivesFrame second others another p → AreAlike met q.reader.before.dictionary p.reader.before.dictionary
    → IsTrue same ↔ SameFrame frame another

-- the frames that they lend are not equal
pub not-same : (file second : List ℕ) (q p : Frames) (met : List Bool) → BothOn file second q p true true met
    → Judges file second q p met false → FirstDiffer file second q.reader.before.frames q p
not-same file second q p met on judges =
    let side = side-lent file on.frames on.first.1 q on.first.0 on.first.2 in
    let beside = side-lent second on.others on.second_moves.1 p on.second_moves.0 on.second_moves.2 in
    let count = counted file (on.frames ++ on.first.1 ∷ []) q side.given in
    differ-after file second q p on.frames on.others (on.first.1 ∷ []) (on.second_moves.1 ∷ []) q.reader.before.frames
    on.same side beside (omega (arith, count, length-append on.frames (on.first.1 ∷ [])))
    (λ same. let is = (judges on.frames on.others on.first.1 on.second_moves.1 on.first.2 on.second_moves.2 on.alike).1
    same in absurd cc)
    (λ none. absurd cc) (λ none. absurd cc)

-- or they are
pub both-same : (file second : List ℕ) (q p : Frames) (met new : List Bool) → BothOn file second q p true true met
    → Judges file second q p met true → AreAlike new q.reader.before.dictionary p.reader.before.dictionary
    → Abreast file second q p new
both-same file second q p met new on judges alike = record {
  frames = on.frames ++ on.first.1 ∷ [];
  others = on.others ++ on.second_moves.1 ∷ [];
  first = side-lent file on.frames on.first.1 q on.first.0 on.first.2;
  also = side-lent second on.others on.second_moves.1 p on.second_moves.0 on.second_moves.2;
  same = AllZip-push SameFrame on.frames on.others on.first.1 on.second_moves.1 on.same
      ((judges on.frames on.others on.first.1 on.second_moves.1 on.first.2 on.second_moves.2 on.alike).0 refl);
  alike = alike;
}

-- ---- on the way

-- of files of bytes of which no frame was given before
unfoldable pub AbreastOn : Outside → Frames → Frames → Frames → Frames → List Bool → Type 0
AbreastOn first r s q p met =
    (file second : List ℕ) → file_of first r.reader.position.slot ≡ Some file
    → file_of first s.reader.position.slot ≡ Some second → AreBytes file → AreBytes second → IsSide file [] r
    → IsSide second [] s → Abreast file second q p met

pub abreast-init : (o : Outside) (r s : Frames) (met : List Bool) → met ≡ none_met → AbreastOn o r s r s met
unfolding AbreastOn
abreast-init o r s met is = λ file second told also bytes too side beside. record {
  frames = [];
  others = [];
  first = side;
  also = beside;
  same = tt;
  alike = subst (λ m. AreAlike m r.reader.before.dictionary s.reader.before.dictionary) (sym is)
      (none-alike r.reader.before.dictionary s.reader.before.dictionary);
}

pub abreast-told : (first : Outside) (r s q p : Frames) (met : List Bool) → AbreastOn first r s q p met
    → (file second : List ℕ) → file_of first r.reader.position.slot ≡ Some file
    → file_of first s.reader.position.slot ≡ Some second → AreBytes file → AreBytes second → IsSide file [] r
    → IsSide second [] s → Abreast file second q p met
unfolding AbreastOn
abreast-told first r s q p met on = on

-- what both do next
pub both-told : (first now : Outside) (r s q p now_q now_p : Frames) (more also : Bool) (met : List Bool)
    → AbreastOn first r s q p met → ReadOn first now r.reader s.reader q.reader p.reader
    → ((file second : List ℕ) (frames others : List Frame) → file_of now q.reader.position.slot ≡ Some file
    → file_of now p.reader.position.slot ≡ Some second → AreBytes file → AreBytes second → IsSide file frames q
    → IsSide second others p → Moves file frames now_q more × Moves second others now_p also)
    → Told (file_of now q.reader.position.slot)
    (λ file. Keeps q.reader.before.dictionary now_q.reader.before.dictionary)
    × Told (file_of now p.reader.position.slot)
    (λ file. Keeps p.reader.before.dictionary now_p.reader.before.dictionary)
    → (file second : List ℕ) → file_of first r.reader.position.slot ≡ Some file
    → file_of first s.reader.position.slot ≡ Some second → AreBytes file → AreBytes second → IsSide file [] r
    → IsSide second [] s → BothOn file second now_q now_p more also met
unfolding AbreastOn
both-told first now r s q p now_q now_p more also met on reads moves keeps file second told too bytes both side beside =
    let here = told-first first now r.reader s.reader q.reader p.reader file reads told in
    let there = told-second first now r.reader s.reader q.reader p.reader second reads too in
    both-on file second q p now_q now_p more also met (on file second told too bytes both side beside)
    (λ frames others side beside. moves file second frames others here there bytes both side beside)
    (keeps.0 file here) (keeps.1 second there)

-- both have a frame more, or neither
pub both-at : (file second : List ℕ) (q p : Frames) (more also is : Bool) (met : List Bool)
    → BothOn file second q p more also met → more ≡ also → more ≡ is → BothOn file second q p is is met
both-at file second q p more also is met on same told =
    let one : BothOn file second q p more more met =
    subst (λ a. BothOn file second q p more a met) (sym same) on in
    subst (λ a. BothOn file second q p a a met) told one

pub abreast-on : (first : Outside) (r s q p : Frames) (met : List Bool)
    → ((file second : List ℕ) → file_of first r.reader.position.slot ≡ Some file
    → file_of first s.reader.position.slot ≡ Some second → AreBytes file → AreBytes second → IsSide file [] r
    → IsSide second [] s → Abreast file second q p met) → AbreastOn first r s q p met
unfolding AbreastOn
abreast-on first r s q p met on = on

-- two answers that are not equal, as code tells
pub not-equal : (more also : Bool) → not (beq more also) ≡ true → more ≡ also → ⊥
not-equal true true is same = cc
not-equal true false is same = cc
not-equal false true is same = cc
not-equal false false is same = cc

-- or are
pub equal : (more also : Bool) → not (beq more also) ≡ false → more ≡ also
equal true true is = refl
equal true false is = cc
equal false true is = cc
equal false false is = refl
