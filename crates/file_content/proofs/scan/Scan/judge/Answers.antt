-- A table lists something exactly where its layout is fit and its body spells it.
use Rattle.std.proofs.Common.{rules, ◌≡◌, Some, None, IsTrue, IsSome, IfOk, ap, subst, sym, ◌∙◌}
use Rattle.layout_plan.specs.Body.{HasBody}
use Rattle.contents_table.specs.Fit.{is_fit}
use Rattle.file_content.specs.declared.state.TableState.TheVariants.{Unread}
use Rattle.file_content.specs.Contents.{IsJudged, listed_in, if_frames}
use Rattle.file_content.proofs.Judging.{IsRead, unfit-listed, unspelled-listed, read-listed}
use Rattle.file_content.proofs.scan.Scan.judge.Goals as goal

pub returns-in_default-of : goal.returns-in_default-of
returns-in_default-of c =
    let r = c.args.reader.now in
    let read : IsRead r.before.dictionary c.args.class c.in-Some.entry.now c.in-Some-plan.plan.now =
    record { entry = search rules; layout = search rules } in
    let unfit : IsTrue (is_fit c.in-Some.entry.now) → ⊥ = λ fit. search rules in
    subst (λ t. IsJudged t c.args.self.now.channels Unread)
    (sym (unfit-listed r.order r.before.frames r.before.dictionary c.args.class r.body c.in-Some.entry.now
    c.in-Some-plan.plan.now read unfit)) search rules

pub returns-in-Some-read : goal.returns-in-Some-read
returns-in-Some-read c =
    let r = c.args.reader.now in
    let e = c.in-Some.entry.now in
    let plan = c.in-Some-plan.plan.now in
    let read : IsRead r.before.dictionary c.args.class e plan =
    record { entry = search rules; layout = search rules } in
    let fit : IsTrue (is_fit e) = search rules in
    let some : IsSome c.read.result = search rules in
    let lent : HasBody c.order.result plan c.body.result.now = c.read.ensures.read.0 some in
    let listed : listed_in r.order r.before.frames r.before.dictionary c.args.class r.body
    ≡ if_frames r.before.frames c.in-Some-read.table =
    ap (λ order. listed_in order r.before.frames r.before.dictionary c.args.class r.body) (sym c.order.ensures)
    ∙ ap (λ body. listed_in c.order.result r.before.frames r.before.dictionary c.args.class body) (sym c.body.ensures.body)
    ∙ read-listed c.order.result r.before.frames r.before.dictionary c.args.class c.body.result.now e plan
    c.in-Some-of.layout c.in-Some-read.table read fit search rules lent c.in-Some-read.ensures.table in
    subst (λ t. IfOk c.judge_view.result (λ state. IsJudged t c.args.self.now.channels state)) (sym listed)
    (subst (λ n. IfOk c.judge_view.result
    (λ state. IsJudged (if_frames n c.in-Some-read.table) c.args.self.now.channels state))
    c.frames.ensures c.judge_view.ensures)

pub returns-in-None : goal.returns-in-None
returns-in-None c =
    let r = c.args.reader.now in
    let e = c.in-Some.entry.now in
    let plan = c.in-Some-plan.plan.now in
    let read : IsRead r.before.dictionary c.args.class e plan =
    record { entry = search rules; layout = search rules } in
    let unspelled : HasBody r.order plan r.body → ⊥ = λ spelled. search rules in
    subst (λ t. IsJudged t c.args.self.now.channels Unread)
    (sym (unspelled-listed r.order r.before.frames r.before.dictionary c.args.class r.body e plan read unspelled))
    search rules
