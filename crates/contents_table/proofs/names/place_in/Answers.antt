use Rattle.std.proofs.Common.{rules, arith, ◌≡◌, length, get_or, sym, ◌≤◌, ap, ◌∙◌}
use Rattle.std.proofs.lemmas.List.{get_or_default}
use Rattle.contents_table.specs.declared.names.Found.{Found}
use Rattle.std.proofs.lemmas.Bool.{ltb-true}
use Rattle.contents_table.proofs.InOrder.{around-above, around-below, around-met, place-likely, place-sought}
use Rattle.contents_table.proofs.InOrder.{place-none}
use Rattle.contents_table.proofs.names.place_in.Goals as goal

pub returns-then-likely-frame : goal.returns-then-likely-frame
returns-then-likely-frame c = sym (place-likely c.requires.0 c.args.frame c.args.found.now c.args.frame
    c.in-Some.likely.now c.requires.1 (search (rules, ltb-true)) (search rules) c.if-likely-frame.true)

pub loop-low-preserved-then-found-middle : goal.loop-low-preserved-then-found-middle
loop-low-preserved-then-found-middle c =
    around-above c.requires.0 c.args.frame c.args.found.now c.loop-low.low _ _ _
    c.requires.1 c.loop-low.invariant (omega arith) (omega arith) c.if-found-middle.true

pub loop-low-preserved : goal.loop-low-preserved
loop-low-preserved c =
    around-below c.requires.0 c.args.frame c.args.found.now c.loop-low.low _ c.loop-low.high _
    c.requires.1 c.loop-low.invariant (omega arith) (omega arith) c.if-found-middle.false

pub returns-in-Some-get : goal.returns-in-Some-get
returns-in-Some-get c = sym (place-sought c.args.frame c.args.found.now c.loop-low.low c.in-Some-get.found.now
    (around-met _ _ _ _ c.loop-low.invariant c.loop-low-test.false) (search (rules, ltb-true)) (search rules)
    c.if-found-frame.true)

pub returns-in_default-get-2 : goal.returns-in_default-get-2
returns-in_default-get-2 c =
    let past : length c.args.found.now ≤ c.loop-low.low = grind arith in
    sym (place-none c.requires.0 c.args.frame c.args.found.now c.loop-low.low c.requires.1
    (around-met _ _ _ _ c.loop-low.invariant c.loop-low-test.false)
    (λ d within. absurd (omega (arith, within, past))))

pub returns-in_default-get : goal.returns-in_default-get
returns-in_default-get c =
    let read : c.in-Some-get.found.now ≡ get_or c.args.found.now c.loop-low.low c.in-Some-get.found.now =
    search rules in
    sym (place-none c.requires.0 c.args.frame c.args.found.now c.loop-low.low c.requires.1
    (around-met _ _ _ _ c.loop-low.invariant c.loop-low-test.false)
    (λ d within e. c.if-found-frame.false
    (ap (λ (f : Found). f.frame) (read ∙ get_or_default c.args.found.now c.loop-low.low _ d within) ∙ e)))
