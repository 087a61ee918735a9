-- Each step by the lemma of its name on n bytes that are passed in pieces, and on a list that grows by them.
use Rattle.std.proofs.Common.{◌≡◌, ℕ, ◌+◌, ◌≤◌, List, ◌++◌, length, take, ap, sym, ◌∙◌, refl, arith}
use Rattle.std.specs.Prelude.{is_ok}
use Rattle.std.proofs.lemmas.Bool.{cond-true}
use Rattle.std.proofs.lemmas.Grind.{common_steps}
use Rattle.structure_source.specs.Source.{Position}
use Rattle.structure_source.proofs.Going.{goes-more, underway-none, underway-ready, underway-passed}
use Rattle.structure_source.proofs.Going.{passes-short, appends-none, appends-more, ok-unless}
use Rattle.structure_source.proofs.source.StructureSource.bring_bytes.Goals as goal

pub loop-left-init : goal.loop-left-init
loop-left-init g c = record {
  way = underway-none _ _ c.args.n _ refl c.requires.stands;
  appends = appends-none _ _ _;
}

pub returns-in-Ok-eq0-clause-passes : goal.returns-in-Ok-eq0-clause-passes
returns-in-Ok-eq0-clause-passes g c =
    passes-short _ _ _ _ _ c.args.n c.loop-left.left c.loop-left.invariant.way c.loop-left-test.true
    (c.in-Ok-eq0.ensures.end c.in-Ok-eq0.field-0-test) c.in-Ok-eq0.ensures.still

pub returns-in-Ok-eq0-clause-on : goal.returns-in-Ok-eq0-clause-on
returns-in-Ok-eq0-clause-on g c = goes-more _ _ _ _ _ _ c.loop-left.invariant.way.goes c.in-Ok-eq0.ensures.on

pub returns-in-Err-clause-on : goal.returns-in-Err-clause-on
returns-in-Err-clause-on g c = goes-more _ _ _ _ _ _ c.loop-left.invariant.way.goes c.in-Err.ensures.on

pub returns-then-is_err-clause-on : goal.returns-then-is_err-clause-on
returns-then-is_err-clause-on g c = goes-more _ _ _ _ _ _ c.loop-left.invariant.way.goes c.in-Ok.ensures.on

pub loop-left-preserved : goal.loop-left-preserved
loop-left-preserved g c =
    let way = underway-ready _ _ _ _ _ _ c.args.n c.loop-left.left c.loop-left.invariant.way
    c.loop-left-test.true
    c.in-Ok.ensures.still c.in-Ok.ensures.on c.in-Ok.ensures.stands c.in-Ok.ensures.bounded in
    let within : c.in-Ok.count ≤ length c.ready.new.self.ahead = omega (arith, c.in-Ok.ensures.count) in
    let few : c.in-Ok.count ≤ c.loop-left.left = omega (arith, c.in-Ok.ensures.count) in
    let seen : c.ahead.result.now ≡ c.ready.new.self.ahead =
    c.ahead.ensures ∙ ap (λ (p : Position). p.ahead) c.self.view_is in
    let moved : c.pass.new.self.at ≡ c.ready.new.self.at + c.in-Ok.count = ap (λ (p : Position). p.at)
    c.pass.ensures in
    let put : c.extend_from_slice.new.self.items ≡ c.loop-left.bytes.items ++ take c.in-Ok.count
    c.ready.new.self.ahead =
    c.extend_from_slice.ensures.items
    ∙ cond-true (is_ok c.extend_from_slice.result) _ c.loop-left.bytes.items
    (ok-unless c.extend_from_slice.result (sym c.is_err.ensures.value ∙ c.if-is_err.false))
    ∙ ap (λ (xs : List ℕ). c.loop-left.bytes.items ++ xs) (grind (arith, common_steps, seen)) in
    record {
      way = underway-passed _ _ _ _ _ c.args.n c.loop-left.left c.in-Ok.count way within few c.pass.ensures;
      appends = appends-more _ _ _ _ c.ready.new.self c.pass.new.self _ _ _ c.in-Ok.count
          c.loop-left.invariant.appends
          c.in-Ok.ensures.still way.goes way.stands within put moved;
    }
