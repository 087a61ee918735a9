-- Each step by the lemma of its name on n bytes that are passed in pieces.
use Rattle.std.proofs.Common.{◌≡◌, ℕ, ◌+◌, ◌-◌, ◌<◌, ◌≤◌, length, take, ap, ◌∙◌, refl, arith, rules}
use Rattle.std.proofs.Common.{length-take}
use Rattle.std.proofs.lemmas.Grind.{common_steps}
use borrow.Rule.Slice.PartMut.{put_mid}
use Rattle.frame_outside.specs.Shelf.{Outside}
use Rattle.structure_source.specs.Source.{Position, Stands}
use Rattle.structure_source.proofs.Going.{Underway, after_passing}
use Rattle.structure_source.proofs.Going.{goes-more, underway-none, underway-ready, underway-passed}
use Rattle.structure_source.proofs.Going.{underway-same, passes-short, filled-more}
use Rattle.structure_source.proofs.source.StructureSource.fill.Goals as goal

-- all of it from the bytes that were ahead
given-ahead : (outside : Outside) (before after : Position) (n : ℕ) → Stands outside before
    → n ≤ length before.ahead → after ≡ after_passing n before
    → Underway outside outside before after n (n - n)
given-ahead outside before after n stands within passed =
    underway-passed outside outside before before after n n n (underway-none outside before n n refl stands)
    within (omega arith) passed

pub loop-filled-init : goal.loop-filled-init
loop-filled-init g c = record {
  room = omega arith;
  way = underway-none _ _ (length c.args.into.now) (length c.args.into.now - 0) (omega arith)
      c.requires.stands;
  filled = λ _ _. refl;
}

pub returns-then-into-ahead-clause-stands : goal.returns-then-into-ahead-clause-stands
returns-then-into-ahead-clause-stands g c =
    (given-ahead (g.S.Shelf.outside c.args.shelf.now) c.args.self.now c.give.new.self (length c.args.into.now)
    c.requires.stands (search rules) c.give.ensures.passed).stands

pub returns-then-into-ahead-clause-on : goal.returns-then-into-ahead-clause-on
returns-then-into-ahead-clause-on g c =
    (given-ahead (g.S.Shelf.outside c.args.shelf.now) c.args.self.now c.give.new.self (length c.args.into.now)
    c.requires.stands (search rules) c.give.ensures.passed).goes

pub returns-in_err-count-clause-on : goal.returns-in_err-count-clause-on
returns-in_err-count-clause-on g c = goes-more _ _ _ _ _ _ c.loop-filled.invariant.way.goes
    c.in_err-count.ensures.on

pub returns-then-count-eq0-clause-on : goal.returns-then-count-eq0-clause-on
returns-then-count-eq0-clause-on g c =
    goes-more _ _ _ _ _ _ c.loop-filled.invariant.way.goes c.in_ok-count.ensures.on

pub returns-then-count-eq0-clause-count : goal.returns-then-count-eq0-clause-count
returns-then-count-eq0-clause-count g c = λ reading told.
    let some : 0 < length c.loop-filled.into - c.loop-filled.filled = omega (arith, c.loop-filled-test.true)
    in
    let end : c.ready.new.self.at ≡ length reading.opened =
    (passes-short _ _ _ _ c.ready.new.self (length c.loop-filled.into)
    (length c.loop-filled.into - c.loop-filled.filled)
    c.loop-filled.invariant.way some (c.in_ok-count.ensures.end c.if-count-eq0.true)
    c.in_ok-count.ensures.still).end
    refl reading told in
    omega (
      arith,
      end,
      c.in_ok-count.ensures.still,
      c.loop-filled.invariant.way.moved,
      c.loop-filled.invariant.room,
    )

pub loop-filled-preserved : goal.loop-filled-preserved
loop-filled-preserved g c =
    let filled = c.loop-filled.filled in
    let count = c.in_ok-count.count in
    let left : ℕ = length c.loop-filled.into - filled in
    let some : 0 < left = omega (arith, c.loop-filled-test.true) in
    let way = underway-ready _ _ _ _ _ c.ready.new.self (length c.loop-filled.into) left
    c.loop-filled.invariant.way some
    c.in_ok-count.ensures.still c.in_ok-count.ensures.on c.in_ok-count.ensures.stands
    c.in_ok-count.ensures.bounded in
    let within : count ≤ length c.ready.new.self.ahead = omega (arith, c.in_ok-count.ensures.count) in
    let few : count ≤ left = omega (arith, c.in_ok-count.ensures.count) in
    let seen : c.ahead-in-loop-filled.result.now ≡ c.ready.new.self.ahead =
    c.ahead-in-loop-filled.ensures ∙ ap (λ (p : Position). p.ahead) c.self-in-loop-filled.view_is in
    let written : c.copy_from_slice.new.self ≡ take count c.ready.new.self.ahead =
    c.copy_from_slice.ensures.after ∙ grind (arith, common_steps, seen) in
    let size : length c.copy_from_slice.new.self ≡ count =
    omega (arith, ap length written, length-take count c.ready.new.self.ahead, within) in
    let fits : filled + count ≤ length c.loop-filled.into = omega (arith, few, c.loop-filled.invariant.room)
    in
    let same : length (put_mid filled (filled + count - filled) c.loop-filled.into c.copy_from_slice.new.self)
    ≡ length c.loop-filled.into =
    grind (arith, common_steps, fits, size) in
    let here : c.ready.new.self.at ≡ c.args.self.now.at + filled =
    omega (arith, way.moved, c.loop-filled.invariant.room) in
    record {
      room = omega (arith, same, fits);
      way = underway-same _ _ _ _ _ _ _ _
          (underway-passed _ _ _ _ _ (length c.loop-filled.into) left count way within few c.pass.ensures)
          same
          (omega (arith, same));
      filled = λ reading told.
          filled-more _ _ _ c.ready.new.self reading filled count _ c.loop-filled.into
          c.copy_from_slice.new.self way.goes
          way.stands here within told c.loop-filled.invariant.room written
          (c.loop-filled.invariant.filled reading told);
    }
