-- The end record of a frame.
use Rattle.std.proofs.Common.{◌≡◌, ◌+◌, sym, ap, ◌∙◌, subst}
use Rattle.file_grammar.specs.Fault.{Here, place}
use Rattle.item_reader.specs.declared.cursor.Cursor.{Cursor}
use Rattle.item_reader.specs.declared.state.State.{State}
use Rattle.item_reader.specs.Placed.{StandsIn}
use Rattle.item_reader.specs.Judged.{Answers}
use Rattle.item_reader.specs.State.{HasRows, here_in}
use Rattle.item_reader.proofs.Located.{kind-here}
use Rattle.item_reader.proofs.Giving.{refused-in, err-within, looked-nothing}
use Rattle.item_reader.proofs.Recording.{gives-answers, gives-frame_end, on-ok}
use Rattle.item_reader.proofs.Rows.{rows-same}
use Rattle.item_reader.proofs.cursor.Cursor.take_frame_end.Goals as goal

pub returns-in_err-bring_record-clause-answers : goal.returns-in_err-bring_record-clause-answers
returns-in_err-bring_record-clause-answers g c =
    refused-in (g.S.Shelf.outside c.args.shelf.now) c.args.self.now c.from_residual.result
    c.in_err-bring_record.field-0.0 c.bring_record.new.self c.from_residual.ensures.1
    c.in_err-bring_record.ensures.fault

pub returns-in_err-bring_record-clause-ahead : goal.returns-in_err-bring_record-clause-ahead
returns-in_err-bring_record-clause-ahead g c =
    err-within c.from_residual.result (g.S.Shelf.outside c.args.shelf.now) c.args.self.now
    c.bring_record.new.self.source c.in_err-bring_record.ensures.ahead

pub returns-clause-ahead : goal.returns-clause-ahead
returns-clause-ahead g c =
    err-within c.take_frame_end.result (g.S.Shelf.outside c.args.shelf.now) c.args.self.now
    c.bring_record.new.self.source c.in_ok-bring_record.ensures.ahead

pub returns-clause-answers : goal.returns-clause-answers
returns-clause-answers g c = λ reading told.
    let s = c.args.self.now.state in
    let p = c.args.placed in
    let h : Here = here_in s reading.opened in
    let brought : State = c.bring_record.new.self.state in
    let new : Cursor = record c.bring_record.new.self { state = c.take_frame_end.new.self; links = c.take_frame_end.new.links } in
    let here_is : here_in brought reading.opened ≡ h = λ i. record {
      order = c.in_ok-bring_record.ensures.segment.0 i;
      file = reading.opened;
      before = c.in_ok-bring_record.ensures.before i;
    } in
    let stands = c.in_ok-bring_record.ensures.body reading told in
    let standing = subst (λ (x : Here). StandsIn x.order (place x) p brought.segment.pending x.file) (sym here_is)
    stands in
    let answers = subst (λ x. Answers x c.take_frame_end.result c.take_frame_end.new.self) here_is
    (c.take_frame_end.ensures.answers reading.opened standing) in
    let rest = c.in_ok-bring_record.ensures.rest in
    let frame = ap (λ (x : Cursor). x.state.numbering) rest ∙ c.requires.passed.frame in
    gives-answers h c.take_frame_end.result new answers (λ item is takes.
    let kept = on-ok c.take_frame_end.result item _ is c.take_frame_end.ensures.kept in
    gives-frame_end h item new takes p brought
    (kind-here h p stands.placed ∙ c.requires.kind)
    (sym c.in_ok-bring_record.ensures.before) (sym c.in_ok-bring_record.ensures.segment.0) stands
    c.in_ok-bring_record.ensures.sound frame
    (on-ok c.take_frame_end.result item _ is c.take_frame_end.ensures.frame) kept
    (looked-nothing h.order h.file c.take_frame_end.new.self.at c.bring_record.new.self.source.at
    c.bring_record.new.self.looked
    (ap (λ (x : Cursor). x.looked) rest ∙ c.requires.passed.looked)
    (c.in_ok-bring_record.ensures.place
    ∙ sym (on-ok c.take_frame_end.result item _ is c.take_frame_end.ensures.moved
    ∙ ap (λ (x : Cursor). x.state.at + p.length) rest)))
    (rw is at c.take_frame_end.ensures.closed)
    (ap (λ (x : Cursor). x.instance) rest ∙ c.requires.passed.instance))

pub take_frame_end-requires-clause-rows : goal.take_frame_end-requires-clause-rows
take_frame_end-requires-clause-rows g c =
    let old : Cursor = c.args.self.now in
    let new : Cursor = c.bring_record.new.self in
    let rest = c.in_ok-bring_record.ensures.rest in
    let segment = c.in_ok-bring_record.ensures.segment in
    subst (HasRows new.state) (sym (ap (λ (x : Cursor). x.links) rest))
    (rows-same old.state new.state (ap (λ (x : Cursor). x.state.plans) rest) segment.0 segment.1
    (ap (λ (x : Cursor). x.state.numbering) rest) old.links c.requires.passed.rows)
