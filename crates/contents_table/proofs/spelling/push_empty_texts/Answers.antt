use Rattle.std.proofs.Common.{◌≡◌, [], replicate, refl, subst, arith}
use Rattle.std.proofs.lemmas.Grind.{replicate_next}
use Rattle.scalar_types.specs.declared.Order.TheVariants.{Little}
use Rattle.record_values.specs.Spelling.{IsClosedText, AreItems}
use Rattle.layout_plan.specs.Appends.{Appends}
use Rattle.layout_plan.proofs.AppendLemmas.{Appends-none, Appends-refused}
use Rattle.contents_table.proofs.Items.{list_push}
use Rattle.contents_table.proofs.spelling.push_empty_texts.Goals as goal

pub loop-init : goal.loop-init
loop-init c = Appends-none (AreItems (IsClosedText Little) (replicate 0 [])) c.args.into.now.items refl

pub returns-in_err-push_text : goal.returns-in_err-push_text
returns-in_err-push_text c =
    Appends-refused _ _ _ _ _ _ _ c.from_residual.ensures.0 c.loop.invariant c.push_text.ensures

pub loop-preserved : goal.loop-preserved
loop-preserved c =
    list_push (IsClosedText Little) (replicate c.loop.counter []) [] _ _ _ _
    (replicate_next c.loop.counter [])
    c.loop.invariant c.in_ok-push_text.ensures

pub returns : goal.returns
returns c =
    let all : c.loop.counter ≡ c.args.count = omega arith in
    subst (λ n. Appends (AreItems (IsClosedText Little) (replicate n [])) c.args.into.now.items
    c.loop.into.items) all
    c.loop.invariant
