-- A contents table.
use Rattle.std.proofs.Common.{◌≡◌, ◌+◌, Ok, None, refl, sym, ap, ◌∙◌, subst}
use Rattle.file_grammar.specs.declared.kind.Kind.TheVariants.{FrTOC}
use Rattle.file_grammar.specs.Fault.{Here, place, kind, first_of}
use Rattle.item_reader.specs.Placed.{body_of}
use Rattle.item_reader.specs.State.{HasRows, here_in}
use Rattle.item_reader.proofs.Located.{kind-here, fault-kind}
use Rattle.item_reader.proofs.Parts.{table-parts}
use Rattle.item_reader.specs.declared.cursor.Cursor.{Cursor}
use Rattle.item_reader.specs.declared.state.State.{State}
use Rattle.item_reader.specs.Placed.{StandsIn}
use Rattle.item_reader.specs.Judged.{InEachFile, Answers, table_reasons}
use Rattle.item_reader.proofs.Giving.{passed-over, gives-table, looked-nothing}
use Rattle.item_reader.proofs.Giving.{refused-in, err-within}
use Rattle.item_reader.proofs.cursor.Cursor.take_table.Goals as goal

pub returns-in-Some-clause-answers : goal.returns-in-Some-clause-answers
returns-in-Some-clause-answers g c = λ reading told.
    let s = c.args.self.now.state in
    let p = c.args.table in
    let h : Here = here_in s reading.opened in
    passed-over h c.pass_over.result c.pass_over.new.self c.in-Some.fault p
    (λ other is. c.pass_over.ensures.fault other is reading told)
    (λ placed.
    let is : kind h ≡ FrTOC = kind-here h p placed ∙ c.requires.kind in
    fault-kind h p c.requires.passed.unclosed placed ∙ table-parts h is
    ∙ c.in-Some.ensures.fault (body_of reading.opened p) reading.opened
    (record { placed = placed; body_is = refl }))

pub returns-in_err-bring_table-clause-answers : goal.returns-in_err-bring_table-clause-answers
returns-in_err-bring_table-clause-answers g c =
    refused-in (g.S.Shelf.outside c.args.shelf.now) c.args.self.now c.from_residual.result
    c.in_err-bring_table.field-0.0 c.bring_table.new.self c.from_residual.ensures.1 c.in_err-bring_table.ensures.cut

pub returns-in_err-bring_table-clause-ahead : goal.returns-in_err-bring_table-clause-ahead
returns-in_err-bring_table-clause-ahead g c =
    err-within c.from_residual.result (g.S.Shelf.outside c.args.shelf.now) c.args.self.now
    c.bring_table.new.self.source c.in_err-bring_table.ensures.ahead

pub returns-clause-on : goal.returns-clause-on
returns-clause-on g c = c.in_ok-bring_table.ensures.on

pub returns-clause-answers : goal.returns-clause-answers
returns-clause-answers g c = λ reading told.
    let s = c.args.self.now.state in
    let p = c.args.table in
    let h : Here = here_in s reading.opened in
    let body = body_of reading.opened p in
    let state_is : c.bring_table.new.self.state ≡ s =
    ap (λ (x : Cursor). x.state) c.in_ok-bring_table.ensures.rest in
    let placed = c.in_ok-bring_table.ensures.placed reading told in
    let stands : StandsIn h.order (place h) p body h.file = record { placed = placed; body_is = refl } in
    let is : kind h ≡ FrTOC = kind-here h p placed ∙ c.requires.kind in
    let answers = subst (λ (x : State). InEachFile x p body
    (λ h. first_of table_reasons h ≡ None → Answers h (Ok c.take_table.result) c.take_table.new.self)) state_is
    (c.take_table.ensures.answers body) in
    let takes = answers reading.opened stands (c.in_default.ensures.fault body reading.opened stands) in
    let kept = c.take_table.ensures.kept (ap (λ (x : State). x.segment.pending) state_is
    ∙ c.requires.passed.pending) in
    let new : Cursor = record c.bring_table.new.self { state = c.take_table.new.self } in
    gives-table h c.take_table.result new takes p is placed (c.in_ok-bring_table.ensures.body reading told)
    (kept.order ∙ ap (λ (x : State). x.segment.order) state_is)
    kept.sound kept.pending
    (c.take_table.ensures.frame.numbering ∙ ap (λ (x : State). x.numbering) state_is ∙ c.requires.passed.frame)
    (looked-nothing h.order h.file c.take_table.new.self.at c.bring_table.new.self.source.at
    c.bring_table.new.self.looked
    (ap (λ (x : Cursor). x.looked) c.in_ok-bring_table.ensures.rest ∙ c.requires.passed.looked)
    (c.in_ok-bring_table.ensures.place ∙ sym (c.take_table.ensures.moved
    ∙ ap (λ (x : State). x.at + p.length) state_is)))
    c.take_table.ensures.closed
    (ap (λ (x : Cursor). x.instance) c.in_ok-bring_table.ensures.rest ∙ c.requires.passed.instance)

pub returns-clause-rows : goal.returns-clause-rows
returns-clause-rows g c =
    let has : HasRows c.bring_table.new.self.state c.bring_table.new.self.links =
    subst (λ (x : Cursor). HasRows x.state x.links) (sym c.in_ok-bring_table.ensures.rest) c.requires.passed.rows in
    c.take_table.ensures.rows c.bring_table.new.self.links has
