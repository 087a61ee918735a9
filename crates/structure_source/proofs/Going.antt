-- How a source goes on through a file. Crates that pass several structures cite `goes-more`, `at-now`,
-- `within-file`, `stands_begun` and `stands_opened`.
use Rattle.std.proofs.Common.{◌≡◌, ℕ, ◌+◌, ◌-◌, ◌<◌, ◌≤◌, List, [], ◌∷◌, ◌++◌, length, take, drop, Option}
use Rattle.std.proofs.Common.{Some, None, option_map}
use Rattle.std.specs.Prelude.{option_and_then}
use Rattle.std.proofs.Common.{refl, sym, ap, ◌∙◌, subst, add-zero, arith, append-nil, length-append}
use Rattle.std.proofs.Common.{length-drop, length-take}
use Rattle.std.specs.Prelude.{true, false, Result, Ok, Err, is_ok, is_err}
use Rattle.std.proofs.lemmas.List.{drop-drop, take-append-le, append_assoc, take_at}
use Rattle.std.proofs.Math.Seq.{take-add}
use borrow.Rule.Slice.PartMut.{put_mid, post_of}
use Rattle.frame_outside.specs.Shelf.{Outside, Reading, Source, Told, IsSource, Passes, left_of, reading_past}
use Rattle.frame_outside.specs.Shelf.{reading_at}
use Rattle.frame_outside.specs.Shelf.{Opens, beginning, beginning_of}
use Rattle.frame_outside.specs.SlotReader.{Buffered, Advances}
use Rattle.frame_outside.proofs.Slots.{reading_at-pass, reading_at-given, IsSource-opens}
use Rattle.frame_outside.proofs.Reading.{passes_none, passes_more, gone_once, advances_given}
use Rattle.link_graph.specs.Collected.{Collected, Becomes}
use Rattle.structure_source.specs.Source.{Position, bytes_drawn, IsAt, Stands, GoesOn, IsBounded}
use Rattle.structure_source.specs.Source.{PassesNext}
use Rattle.structure_source.specs.Source.{Appends, Brings}

-- a source as the buffered reader that it has
abbrev pub buffered : Position → Buffered
buffered p = record { slot = p.slot; ahead = p.ahead }

Some-same : {X : Type 0} (x y : X) → ◌≡◌ {A = Option X} (Some x) (Some y) → x ≡ y
Some-same x y e = cc

-- n bytes further on in a reading
at-later : (before : Option Reading) (reading : Reading) (p q : Position) (more n : ℕ)
    → Told before (λ reading. IsAt reading p)
    → Told before (λ reading. more ≤ length reading.opened - reading.at)
    → option_map (reading_past more) before ≡ Some reading
    → length p.ahead + more ≡ n + length q.ahead → q.at ≡ p.at + n
    → option_map (λ reading. q.ahead ++ left_of reading) (Some reading)
    ≡ option_map (drop n) (option_map (λ reading. p.ahead ++ left_of reading) before)
    → IsAt reading q
at-later None reading p q more n at within told balance moved rest = cc
at-later (Some old) reading p q more n at within told balance moved rest =
    let was : IsAt old p = at old refl in
    let is : reading_past more old ≡ reading = Some-same (reading_past more old) reading told in
    let opened : reading.opened ≡ old.opened = ap (λ (r : Reading). r.opened) (sym is) in
    let place : reading.at ≡ old.at + more = ap (λ (r : Reading). r.at) (sym is) in
    let fits = within old refl in
    let front : q.ahead ++ left_of reading ≡ drop n (p.ahead ++ left_of old) =
    Some-same (q.ahead ++ left_of reading) (drop n (p.ahead ++ left_of old)) rest in
    record {
      drawn_is = omega (arith, place, was.drawn_is, balance, moved);
      within = omega (arith, place, fits, was.within, ap length opened);
      rest = front ∙ ap (drop n) was.rest ∙ drop-drop n p.at old.opened
          ∙ ap (λ k. drop k old.opened) (sym moved)
          ∙ ap (drop q.at) (sym opened);
    }

-- the reader went on by n bytes, and the place with it
goes-on : (old new : Outside) (before after : Position) (n : ℕ)
    → Advances old new (buffered before) (buffered after) n
    → after.at ≡ before.at + n → GoesOn old new before after
goes-on old new before after n advances moved = record {
  slot = advances.slot;
  forward = omega (arith, moved);
  draws = advances.draws;
  balance = omega (arith, advances.balance, moved);
}

-- and stands there
stands-on : (old new : Outside) (before after : Position) (n : ℕ) → Stands old before
    → Advances old new (buffered before) (buffered after) n → after.at ≡ before.at + n → Stands new after
stands-on old new before after n stands advances moved = record {
  source = (gone_once old new (buffered before) (buffered after) n stands.source advances).source;
  few = omega (arith, advances.bounded, stands.few);
  place = λ reading told.
      let seen : option_map (reading_past advances.draws.drawn) (reading_at old.slots before.slot) ≡ Some reading =
      sym (reading_at-pass old.slots before.slot advances.draws.drawn)
      ∙ ap (λ slots. reading_at slots before.slot) (sym advances.draws.passes.slots)
      ∙ ap (reading_at new.slots) (sym advances.slot) ∙ told in
      let rest : option_map (λ reading. after.ahead ++ left_of reading) (Some reading)
      ≡ option_map (drop n) (option_map (λ reading. before.ahead ++ left_of reading)
      (reading_at old.slots before.slot)) =
      ap (option_map (λ (r : Reading). after.ahead ++ left_of r)) (sym told) ∙ advances.rest in
      at-later (reading_at old.slots before.slot) reading before after advances.draws.drawn n stands.place
      advances.draws.passes.within seen advances.balance moved rest;
}

-- it stays where it is
pub goes-none : (outside : Outside) (p : Position) → GoesOn outside outside p p
goes-none outside p = record {
  slot = refl;
  forward = omega arith;
  draws = record { drawn = 0; passes = passes_none outside p.slot };
  balance = omega arith;
}

-- two steps are one
pub goes-more : (first middle last : Outside) (a b c : Position) → GoesOn first middle a b
    → GoesOn middle last b c
    → GoesOn first last a c
goes-more first middle last a b c p q = record {
  slot = q.slot ∙ p.slot;
  forward = omega (arith, p.forward, q.forward);
  draws = record {
    drawn = p.draws.drawn + q.draws.drawn;
    passes = passes_more first middle last a.slot p.draws.drawn q.draws.drawn p.draws.passes
        (subst (λ slot. Passes middle last slot q.draws.drawn) p.slot q.draws.passes);
  };
  balance = omega (arith, p.balance, q.balance);
}

-- the shelf was asked for more
pub goes-asked : (old new : Outside) (before : Position) (reader ready : Buffered) (at : ℕ)
    → record { slot = reader.slot; ahead = reader.ahead; at = at } ≡ before → Advances old new reader ready 0
    → GoesOn old new before (record { slot = ready.slot; ahead = ready.ahead; at = at })
goes-asked old new before reader ready at is advances =
    let same : reader ≡ buffered before = ap buffered is in
    goes-on old new before (record { slot = ready.slot; ahead = ready.ahead; at = at }) 0
    (subst (λ (b : Buffered). Advances old new b ready 0) same advances)
    (omega (arith, ap (λ (p : Position). p.at) is))

pub stands-asked : (old new : Outside) (before : Position) (reader ready : Buffered) (at : ℕ)
    → record { slot = reader.slot; ahead = reader.ahead; at = at } ≡ before → Stands old before
    → Advances old new reader ready 0 → Stands new
    (record { slot = ready.slot; ahead = ready.ahead; at = at })
stands-asked old new before reader ready at is stands advances =
    let same : reader ≡ buffered before = ap buffered is in
    stands-on old new before (record { slot = ready.slot; ahead = ready.ahead; at = at }) 0 stands
    (subst (λ (b : Buffered). Advances old new b ready 0) same advances)
    (omega (arith, ap (λ (p : Position). p.at) is))

-- n bytes that are ahead are passed
abbrev pub after_passing : ℕ → Position → Position
after_passing n p = record { slot = p.slot; ahead = drop n p.ahead; at = p.at + n }

goes-passed : (outside : Outside) (p : Position) (n : ℕ) → n ≤ length p.ahead
    → GoesOn outside outside p (after_passing n p)
goes-passed outside p n within =
    goes-on outside outside p (after_passing n p) n (advances_given outside (buffered p) n within) refl

stands-passed : (outside : Outside) (p : Position) (n : ℕ) → Stands outside p → n ≤ length p.ahead
    → Stands outside (after_passing n p)
stands-passed outside p n stands within =
    stands-on outside outside p (after_passing n p) n stands (advances_given outside (buffered p) n within)
    refl

opened-later : (before : Option Reading) (reading : Reading) (more : ℕ) → before ≡ Some reading
    → option_map (reading_past more) before ≡ Some (reading_past more reading)
opened-later before reading more told = ap (option_map (reading_past more)) told

-- what is told of the slot afterwards: the same bytes, from the place on
pub at-now : (old new : Outside) (before after : Position) (reading : Reading) → GoesOn old new before after
    → Stands new after → reading_at old.slots before.slot ≡ Some reading
    → (next : Reading) × (reading_at new.slots after.slot ≡ Some next) × (next.opened ≡ reading.opened)
    × IsAt next after
at-now old new before after reading goes stands told =
    let next : Reading = reading_past goes.draws.drawn reading in
    let seen : reading_at new.slots after.slot ≡ Some next =
    ap (reading_at new.slots) goes.slot ∙ ap (λ slots. reading_at slots before.slot) goes.draws.passes.slots
    ∙ reading_at-pass old.slots before.slot goes.draws.drawn ∙ opened-later _ reading goes.draws.drawn told in
    (next, seen, refl, stands.place next seen)

-- no place is beyond the end of the file
pub within-file : (first last : Outside) (start now : Position) (reading : Reading)
    → GoesOn first last start now
    → Stands last now → reading_at first.slots start.slot ≡ Some reading → now.at ≤ length reading.opened
within-file first last start now reading goes stands told =
    let here = at-now first last start now reading goes stands told in
    omega (arith, here.3.drawn_is, here.3.within, ap length here.2)

-- the next bytes that are ahead, by where the source began
pub next-of : (first last : Outside) (start now : Position) (reading : Reading) (n count : ℕ)
    → GoesOn first last start now
    → Stands last now → now.at ≡ start.at + n → count ≤ length now.ahead
    → reading_at first.slots start.slot ≡ Some reading
    → take count now.ahead ≡ take count (drop n (drop start.at reading.opened))
next-of first last start now reading n count goes stands moved within told =
    let here = at-now first last start now reading goes stands told in
    sym (take-append-le count now.ahead (left_of here.0) within)
    ∙ ap (take count)
    (here.3.rest ∙ ap (drop now.at) here.2 ∙ ap (λ k. drop k reading.opened) moved
    ∙ sym (drop-drop n start.at reading.opened))

-- ---- reading ahead

bounded-none : (p : Position) (n : ℕ) → IsBounded p n p
bounded-none p n = record { none = λ _. refl; few = omega arith }

-- ---- n bytes that are passed in pieces

-- So many of the n bytes are left to be passed.
pub record Underway (first now : Outside) (start cur : Position) (n left : ℕ) : Type 0 where
  pub within : left ≤ n
  pub goes : GoesOn first now start cur
  pub stands : Stands now cur
  pub moved : cur.at + left ≡ start.at + n
  pub bounded : IsBounded start n cur

pub underway-none : (outside : Outside) (p : Position) (n left : ℕ) → left ≡ n → Stands outside p
    → Underway outside outside p p n left
underway-none outside p n left all stands = record {
  within = omega (arith, all);
  goes = goes-none outside p;
  stands = stands;
  moved = omega (arith, all);
  bounded = bounded-none p n;
}

-- the next ones are ahead
pub underway-ready : (first middle last : Outside) (start cur ready : Position) (n left : ℕ)
    → Underway first middle start cur n left → 0 < left → ready.at ≡ cur.at → GoesOn middle last cur ready
    → Stands last ready → IsBounded cur 1 ready → Underway first last start ready n left
underway-ready first middle last start cur ready n left way some still goes stands bounded = record {
  within = way.within;
  goes = goes-more first middle last start cur ready way.goes goes;
  stands = stands;
  moved = omega (arith, way.moved, still);
  bounded = record {
    none = λ enough.
        let same = way.bounded.none enough in
        bounded.none (omega (arith, same, enough, way.moved, some)) ∙ same;
    few = omega (arith, way.bounded.few, bounded.few, way.moved, some);
  };
}

-- and are passed
pub underway-passed : (first last : Outside) (start ready after : Position) (n left count : ℕ)
    → Underway first last start ready n left → count ≤ length ready.ahead → count ≤ left
    → after ≡ after_passing count ready → Underway first last start after n (left - count)
underway-passed first last start ready after n left count way within few is =
    let reading_past : GoesOn first last start (after_passing count ready) =
    goes-more first last last start ready (after_passing count ready) way.goes
    (goes-passed last ready count within) in
    let same : bytes_drawn (after_passing count ready) ≡ bytes_drawn ready = omega
    (arith, length-drop count ready.ahead, within) in
    let made : Underway first last start (after_passing count ready) n (left - count) = record {
      within = omega (arith, way.within);
      goes = reading_past;
      stands = stands-passed last ready count way.stands within;
      moved = omega (arith, way.moved, few);
      bounded = record {
        none = λ enough. same ∙ way.bounded.none enough;
        few = omega (arith, way.bounded.few, same);
      };
    } in
    subst (λ (p : Position). Underway first last start p n (left - count)) (sym is) made

pub underway-same : (first now : Outside) (start cur : Position) (n left m k : ℕ)
    → Underway first now start cur n left
    → m ≡ n → k ≡ left → Underway first now start cur m k
underway-same first now start cur n left m k way all rest = record {
  within = omega (arith, way.within, all, rest);
  goes = way.goes;
  stands = way.stands;
  moved = omega (arith, way.moved, all, rest);
  bounded = subst (λ (bytes : ℕ). IsBounded start bytes cur) (sym all) way.bounded;
}

-- nothing is left in the file, and so the n bytes are not there
pub passes-short : (first now : Outside) (start cur ready : Position) (n left : ℕ)
    → Underway first now start cur n left → 0 < left
    → Told (reading_at now.slots cur.slot) (λ reading. length reading.opened ≤ cur.at) → ready.at ≡ cur.at
    → PassesNext (reading_at first.slots start.slot) start ready n false
passes-short first now start cur ready n left way some ends still = record {
  all = (λ e. cc, λ same. absurd (omega (arith, way.moved, some, same, still)));
  there = λ reading told.
      let end : cur.at ≡ length reading.opened = ends-here reading told in
      (λ e. cc, λ enough. absurd (omega (arith, way.moved, way.goes.forward, some, end, enough)));
  end = λ _ reading told. still ∙ ends-here reading told;
}
  where
    ends-here : (reading : Reading) → reading_at first.slots start.slot ≡ Some reading
        → cur.at ≡ length reading.opened
    ends-here reading told =
        let here = at-now first now start cur reading way.goes way.stands told in
        let past : length here.0.opened ≤ cur.at = ends here.0 here.1 in
        let within = within-file first now start cur reading way.goes way.stands told in
        omega (arith, past, ap length here.2, within)

-- ---- a list that grows by what is passed

pub appends-none : (told : Option Reading) (p : Position) (xs : List ℕ) → Appends told p p xs xs
appends-none told p xs =
    record {
      bytes = [];
      passed = record { size = omega arith; same = λ _ _. refl };
      after_is = sym
          (append-nil xs);
    }

-- a piece of what is ahead was put and passed
pub appends-more : (first last : Outside) (start cur ready after : Position) (old now new : List ℕ)
    (count : ℕ)
    → Appends (reading_at first.slots start.slot) start cur old now → ready.at ≡ cur.at
    → GoesOn first last start ready → Stands last ready → count ≤ length ready.ahead
    → new ≡ now ++ take count ready.ahead
    → after.at ≡ ready.at + count → Appends (reading_at first.slots start.slot) start after old new
appends-more first last start cur ready after old now new count appends still goes stands within put moved =
    let piece : List ℕ = take count ready.ahead in
    let size : length piece ≡ count = omega (arith, length-take count ready.ahead, within) in
    let whole : length (appends.bytes ++ piece) ≡ length appends.bytes + count =
    omega (arith, length-append appends.bytes piece, size) in
    let here : ready.at ≡ start.at + length appends.bytes = still ∙ sym appends.passed.size in
    record {
      bytes = appends.bytes ++ piece;
      passed = record {
        size = omega (arith, whole, here, moved);
        same = λ reading told.
            let rest : List ℕ = drop start.at reading.opened in
            let next : piece ≡ take count (drop (length appends.bytes) rest) =
            next-of first last start ready reading (length appends.bytes) count goes stands here within told
            in
            ap (λ (xs : List ℕ). xs ++ piece) (appends.passed.same reading told)
            ∙ ap (λ (xs : List ℕ). take (length appends.bytes) rest ++ xs) next
            ∙ sym (take-add (length appends.bytes) count rest) ∙ ap (λ k. take k rest) (sym whole);
      };
      after_is = put ∙ ap (λ (xs : List ℕ). xs ++ piece) appends.after_is
          ∙ append_assoc old appends.bytes piece;
    }

-- ---- a segment whose pending body grows by what is passed

pub brings-none : (told : Option Reading) (p : Position) (s : Collected) → Brings told p p s s
brings-none told p s = record {
  pending = appends-none told p s.pending;
  given = refl;
  rest = record { order = refl; nodes = refl; end_record = refl; pending = refl; given = refl };
}

-- a piece of what is ahead was put and passed
pub brings-more : (first last : Outside) (start cur ready after : Position) (old now room new : Collected)
    (piece : List ℕ) (count spare : ℕ) → Brings (reading_at first.slots start.slot) start cur old now
    → ready.at ≡ cur.at → GoesOn first last start ready → Stands last ready → count ≤ length ready.ahead
    → Becomes room now
    → piece ≡ take count ready.ahead
    → new ≡ record room { pending = room.pending ++ piece; given = room.given + length piece; spare = spare }
    → after.at ≡ ready.at + count → Brings (reading_at first.slots start.slot) start after old new
brings-more first last start cur ready after old now room new piece count spare brings still goes stands
    within same is put moved =
    let size : length piece ≡ count = omega (arith, ap length is, length-take count ready.ahead, within) in
    let grown : new.pending ≡ now.pending ++ take count ready.ahead =
    ap (λ (s : Collected). s.pending) put ∙ ap (λ (xs : List ℕ). xs ++ piece) same.pending
    ∙ ap (λ (xs : List ℕ). now.pending ++ xs) is in
    record {
      pending = appends-more first last start cur ready after old.pending now.pending new.pending count
          brings.pending
          still goes stands within grown moved;
      given = omega (
        arith,
        ap (λ (s : Collected). s.given) put,
        same.given,
        size,
        brings.given,
        still,
        moved,
      );
      rest = record {
        order = ap (λ (s : Collected). s.order) put ∙ same.order ∙ brings.rest.order;
        nodes = ap (λ (s : Collected). s.nodes) put ∙ same.nodes ∙ brings.rest.nodes;
        end_record = ap (λ (s : Collected). s.end_record) put ∙ same.end_record ∙ brings.rest.end_record;
        pending = refl;
        given = refl;
      };
    }

-- ---- a slice that is filled by what is passed

-- what is filled with a piece more
take-written : (at k n : ℕ) (xs ys : List ℕ) → at ≤ length xs → length ys ≡ n
    → take (at + n) (put_mid at k xs ys) ≡ take at xs ++ ys
take-written at k n xs ys within size =
    ap (take (at + n)) (sym (append_assoc (take at xs) ys (post_of at k xs)))
    ∙ take_at (take at xs ++ ys) (post_of at k xs) (at + n)
    (omega (arith, length-append (take at xs) ys, length-take at xs, size))

pub filled-more : (first last : Outside) (start ready : Position) (reading : Reading) (filled count k : ℕ)
    (xs ys : List ℕ) → GoesOn first last start ready → Stands last ready → ready.at ≡ start.at + filled
    → count ≤ length ready.ahead
    → reading_at first.slots start.slot ≡ Some reading → filled ≤ length xs → ys ≡ take count ready.ahead
    → take filled xs ≡ take filled (drop start.at reading.opened)
    → take (filled + count) (put_mid filled k xs ys) ≡ take (filled + count) (drop start.at reading.opened)
filled-more first last start ready reading filled count k xs ys goes stands moved within told room is was =
    let rest : List ℕ = drop start.at reading.opened in
    let size : length ys ≡ count = omega (arith, ap length is, length-take count ready.ahead, within) in
    take-written filled k count xs ys room size
    ∙ ap (λ (front : List ℕ). front ++ ys) was
    ∙ ap (λ (back : List ℕ). take filled rest ++ back)
    (is ∙ next-of first last start ready reading filled count goes stands moved within told)
    ∙ sym (take-add filled count rest)

-- ---- calls that are refused

same-come : (told : Option Reading) (ahead : List ℕ)
    → option_map (λ reading. ahead ++ left_of reading) (option_map (reading_past 0) told)
    ≡ option_map (drop 0) (option_map (λ reading. ahead ++ left_of reading) told)
same-come None ahead = refl
same-come (Some reading) ahead = ap (λ n. Some (ahead ++ drop n reading.opened)) (add-zero reading.at)

refused-same : (old new : Outside) (reader : Buffered) → Passes old new reader.slot 0
    → Advances old new reader reader 0
refused-same old new reader passes = record {
  slot = refl;
  draws = record { drawn = 0; passes = passes };
  balance = omega arith;
  rest = ap (λ slots. option_map (λ (r : Reading). reader.ahead ++ left_of r)
      (reading_at slots reader.slot)) passes.slots
      ∙ ap (option_map (λ (r : Reading). reader.ahead ++ left_of r)) (reading_at-pass old.slots reader.slot 0)
      ∙ same-come (reading_at old.slots reader.slot) reader.ahead;
  bounded = omega arith;
}

-- the shelf was asked for more and refused
pub refused-none : (old new : Outside) (before after : Buffered) → Passes old new before.slot 0
    → after ≡ before
    → Advances old new before after 0
refused-none old new before after passes same =
    subst (λ (reader : Buffered). Advances old new before reader 0) (sym same)
    (refused-same old new before passes)

-- ---- a slot that has given nothing yet

-- a source at the beginning of its file stands there
pub stands_begun : (outside : Outside) (slot : ℕ) → IsSource outside.slots slot
    → Told (reading_at outside.slots slot) (λ reading. reading.at ≡ 0)
    → Stands outside (record { slot = slot; ahead = []; at = 0 })
stands_begun outside slot source begins = record {
  source = source;
  few = omega arith;
  place = λ reading told.
      let none : reading.at ≡ 0 = begins reading told in
      record { drawn_is = none; within = omega (arith, none); rest = ap (λ n. drop n reading.opened) none };
}

-- and so does one of a slot that was opened just now
pub stands_opened : (old new : Outside) (name : List ℕ) (slot : ℕ) → Opens old new name slot
    → Stands new (record { slot = slot; ahead = []; at = 0 })
stands_opened old new name slot opens =
    stands_begun new slot (IsSource-opens old new name slot opens) (λ reading told.
    let opened : reading_at new.slots slot ≡ beginning_of old.files name =
    ap (λ slots. reading_at slots slot) opens.slots
    ∙ ap (reading_at (old.slots ++ Source (beginning_of old.files name) ∷ [])) opens.number
    ∙ reading_at-given old.slots (beginning_of old.files name) in
    at_beginning (option_and_then (λ held. held name) old.files) reading (sym opened ∙ told))
  where
    at_beginning : (file : Option (List ℕ)) (reading : Reading) → option_map beginning file ≡ Some reading
        → reading.at ≡ 0
    at_beginning None reading told = cc
    at_beginning (Some bytes) reading told =
        ap (λ (r : Reading). r.at) (sym (Some-same (beginning bytes) reading told))

-- a call whose answer is no error answers Ok
pub ok-unless : {T E : Type 0} (r : Result T E) → is_err r ≡ false → is_ok r ≡ true
ok-unless (Ok x) e = refl
ok-unless (Err x) e = cc
