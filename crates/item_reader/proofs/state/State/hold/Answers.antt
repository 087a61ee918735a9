use Rattle.std.proofs.Common.{◌≡◌, ◌≤◌, None, Ok, true, false, is_some, sym, ap, ◌∙◌}
use Rattle.dictionary.specs.Dictionary.{entry_of, step, IsHeld}
use Rattle.layout_plan.proofs.LayoutLemmas.{copied-None, copied-is_some}
use Rattle.item_reader.specs.declared.item.ReadError.TheVariants as errors
use Rattle.item_reader.proofs.Holding.{step-added, class-stepped, unchanged-none, unchanged-known}
use Rattle.item_reader.proofs.Holding.{holds-unchanged}
use Rattle.item_reader.proofs.Holding.{holds-grown, answers-refused, answers-beyond, answers-taken}
use Rattle.item_reader.proofs.state.State.hold.Goals as goal

pub returns-in-Err-clause-answers : goal.returns-in-Err-clause-answers
returns-in-Err-clause-answers c =
    answers-refused c.args.self.now c.args.head c.args.entry c.add.result c.in-Err.fault c.refusal.result
    c.held.ensures.sound c.requires.kind c.in-Err.is c.add.ensures.refused c.add.ensures.only_memory
    c.refusal.ensures

pub returns-then-is_beyond-clause-answers : goal.returns-then-is_beyond-clause-answers
returns-then-is_beyond-clause-answers c =
    let s = c.args.self.now in
    let e = c.args.entry in
    let stepped : step s.dictionary e ≡ Ok c.add.new.self =
    step-added s.dictionary e c.add.result c.add.new.self c.in_default.field-0 c.add.ensures.refused
    c.add.ensures.accepted c.in_default.is in
    answers-beyond s c.args.head e c.add.new.self c.into.result c.held.ensures.sound c.requires.kind stepped
    (sym c.is_beyond.ensures ∙ c.if-is_beyond.true) (c.into.ensures ∙ ap errors.Fault c.fault.ensures)

pub learn-requires : goal.learn-requires
learn-requires c =
    let s = c.args.self.now in
    let e = c.args.entry in
    let stepped : step s.dictionary e ≡ Ok c.add.new.self =
    step-added s.dictionary e c.add.result c.add.new.self c.in_default.field-0 c.add.ensures.refused
    c.add.ensures.accepted c.in_default.is in
    let high : e.class ≤ 255 = class-stepped s.dictionary e c.add.new.self stepped in
    let held : IsHeld c.add.new.self c.in-Some.entry.now =
    (c.held-2.ensures.sound high).entries e.class c.in-Some.entry.now (sym (c.in-Some.ensures.found high)) in
    record { low = held.low; high = held.high; short = held.short }

pub returns-in_ok-learn-in-Some-clause-answers : goal.returns-in_ok-learn-in-Some-clause-answers
returns-in_ok-learn-in-Some-clause-answers c =
    let s = c.args.self.now in
    let e = c.args.entry in
    let stepped : step s.dictionary e ≡ Ok c.add.new.self =
    step-added s.dictionary e c.add.result c.add.new.self c.in_default.field-0 c.add.ensures.refused
    c.add.ensures.accepted c.in_default.is in
    answers-taken s c.args.head e c.add.new.self c.held.ensures.sound c.requires.kind stepped
    (sym c.is_beyond.ensures ∙ c.if-is_beyond.false)

pub returns-in_ok-learn-in-Some-clause-holds : goal.returns-in_ok-learn-in-Some-clause-holds
returns-in_ok-learn-in-Some-clause-holds c =
    let s = c.args.self.now in
    let e = c.args.entry in
    let stepped : step s.dictionary e ≡ Ok c.add.new.self =
    step-added s.dictionary e c.add.result c.add.new.self c.in_default.field-0 c.add.ensures.refused
    c.add.ensures.accepted c.in_default.is in
    let high : e.class ≤ 255 = class-stepped s.dictionary e c.add.new.self stepped in
    let known : is_some c.held.result ≡ false = sym c.is_some-known.ensures ∙ c.if-not-known.true in
    let fresh : entry_of s.dictionary e.class ≡ None = sym (c.held.ensures.found high)
    ∙ copied-None c.held.result known in
    holds-grown s e c.in-Some.entry.now c.add.new.self c.learn.new.self c.requires.sound.plans
    c.held.ensures.sound
    stepped fresh (sym (c.in-Some.ensures.found high)) c.in_ok-learn-in-Some.ensures.read
    c.learn.ensures.unread

pub returns-in_default-held-clause-answers : goal.returns-in_default-held-clause-answers
returns-in_default-held-clause-answers c =
    let s = c.args.self.now in
    let e = c.args.entry in
    let stepped : step s.dictionary e ≡ Ok c.add.new.self =
    step-added s.dictionary e c.add.result c.add.new.self c.in_default.field-0 c.add.ensures.refused
    c.add.ensures.accepted c.in_default.is in
    answers-taken s c.args.head e c.add.new.self c.held.ensures.sound c.requires.kind stepped
    (sym c.is_beyond.ensures ∙ c.if-is_beyond.false)

pub returns-in_default-held-clause-holds : goal.returns-in_default-held-clause-holds
returns-in_default-held-clause-holds c =
    let s = c.args.self.now in
    let e = c.args.entry in
    let stepped : step s.dictionary e ≡ Ok c.add.new.self =
    step-added s.dictionary e c.add.result c.add.new.self c.in_default.field-0 c.add.ensures.refused
    c.add.ensures.accepted c.in_default.is in
    let high : e.class ≤ 255 = class-stepped s.dictionary e c.add.new.self stepped in
    let known : is_some (entry_of s.dictionary e.class) ≡ true = ap is_some (sym (c.held.ensures.found high))
    ∙ copied-is_some c.held.result ∙ sym c.is_some-known.ensures ∙ c.if-not-known.false in
    holds-unchanged s e c.add.new.self c.requires.sound.plans c.held.ensures.sound stepped
    (unchanged-known s.dictionary e c.add.new.self stepped known)

pub returns-in_default-held-2-clause-answers : goal.returns-in_default-held-2-clause-answers
returns-in_default-held-2-clause-answers c =
    let s = c.args.self.now in
    let e = c.args.entry in
    let stepped : step s.dictionary e ≡ Ok c.add.new.self =
    step-added s.dictionary e c.add.result c.add.new.self c.in_default.field-0 c.add.ensures.refused
    c.add.ensures.accepted c.in_default.is in
    answers-taken s c.args.head e c.add.new.self c.held.ensures.sound c.requires.kind stepped
    (sym c.is_beyond.ensures ∙ c.if-is_beyond.false)

pub returns-in_default-held-2-clause-holds : goal.returns-in_default-held-2-clause-holds
returns-in_default-held-2-clause-holds c =
    let s = c.args.self.now in
    let e = c.args.entry in
    let stepped : step s.dictionary e ≡ Ok c.add.new.self =
    step-added s.dictionary e c.add.result c.add.new.self c.in_default.field-0 c.add.ensures.refused
    c.add.ensures.accepted c.in_default.is in
    let high : e.class ≤ 255 = class-stepped s.dictionary e c.add.new.self stepped in
    let none : entry_of c.add.new.self e.class ≡ None = sym (c.held-2.ensures.found high)
    ∙ copied-None c.held-2.result (ap is_some c.in_default-held.is) in
    holds-unchanged s e c.add.new.self c.requires.sound.plans c.held.ensures.sound stepped
    (unchanged-none s.dictionary e c.add.new.self stepped none)
