use Rattle.std.proofs.Common.{◌+◌, ◌≤◌, ◌∙◌, false, sym, subst}
use Rattle.link_graph.specs.Collected.{Collected, Becomes, with_end}
use Rattle.file_grammar.specs.Structure.{file_limit}
use Rattle.item_reader.specs.declared.item.ReadError.TheVariants as errors
use Rattle.item_reader.specs.State.{here_in, HasRows}
use Rattle.item_reader.specs.declared.item.Item.TheVariants as given
use Rattle.item_reader.specs.declared.state.State.{State}
use Rattle.item_reader.specs.declared.structure.Placed.{Placed}
use Rattle.item_reader.specs.Judged.{weighing_reasons, frame_end_reasons, Takes, IsKept, node_by}
use Rattle.item_reader.proofs.Kept.{frame_end-below, sound-frame_end}
use Rattle.item_reader.proofs.Rows.{rows-frame_end}
use Rattle.item_reader.proofs.Parts.{first_of-front}
use Rattle.item_reader.proofs.Taken.{answers-passed, frame_end-judged, frame_end-refused, takes-frame_end}
use Rattle.item_reader.proofs.state.State.take_frame_end.Goals as goal

pub returns-in_err-weigh-clause-answers : goal.returns-in_err-weigh-clause-answers
returns-in_err-weigh-clause-answers c = λ file stands.
    let s = c.args.self.now in
    answers-passed (here_in s file) s c.from_residual.result (errors.Fault c.in_err-weigh.field-0.0)
    c.from_residual.ensures.1
    (frame_end-judged s c.args.placed file s.segment.pending c.requires.open stands c.requires.kind
    ∙ first_of-front weighing_reasons frame_end_reasons (here_in s file) c.in_err-weigh.field-0.0
    (c.in_err-weigh.ensures.fault file stands))

pub returns-in_err-close_frame-clause-answers : goal.returns-in_err-close_frame-clause-answers
returns-in_err-close_frame-clause-answers c = λ file stands.
    let s = c.args.self.now in
    let error = c.in_err-close_frame.field-0.0 in
    answers-passed (here_in s file) c.close_frame.new.self c.from_residual-in_err-close_frame.result error
    c.from_residual-in_err-close_frame.ensures.1
    (frame_end-refused s c.args.placed c.in_ok-weigh.field-0 c.close_frame.result error
    c.close_frame.new.self file
    s.segment.pending
    c.requires.open stands c.requires.kind (c.in_ok-weigh.ensures.ok file stands) c.in_err-close_frame.was
    (λ fault failed. c.close_frame.ensures.fault s.segment.pending fault failed file stands)
    c.close_frame.ensures.no_device)

-- the state after the end of a frame, of what stands before it
abbrev ended : State → Placed → Collected → State
ended w p segment = record w {
  at = w.at + p.length;
  segment = segment;
  header = false;
  load = 0;
  frames = w.frames + 1;
  records = w.records + 1;
}

pub returns-clause-answers : goal.returns-clause-answers
returns-clause-answers c = λ file stands.
    let s = c.args.self.now in
    let p = c.args.placed in
    let w = c.close_frame.new.self in
    subst (λ (w : State). Takes (here_in s file) (given.FrameEnd p.at p.class) (ended w p c.set_end.new.self))
    (sym c.close_frame.ensures.rest)
    (takes-frame_end s p c.in_ok-weigh.field-0 c.set_end.new.self w.numbering
    c.in_ok-close_frame.ensures.order.numbers file s.segment.pending c.in_ok-close_frame.ensures.order.is
    c.requires.open stands c.requires.kind (c.in_ok-weigh.ensures.ok file stands)
    (c.in_ok-close_frame.ensures.none s.segment.pending file stands))

pub returns-clause-kept : goal.returns-clause-kept
returns-clause-kept c =
    let s = c.args.self.now in
    let p = c.args.placed in
    let w = c.close_frame.new.self in
    let low : p.at + p.length ≤ file_limit =
    frame_end-below s p s.segment.pending c.requires.here c.requires.size (assumption c.well_formed)
    (c.in_ok-close_frame.ensures.none s.segment.pending) in
    let becomes : Becomes c.set_end.new.self (with_end (node_by s.dictionary p) s.segment) =
    subst (λ (w : State). Becomes c.set_end.new.self (with_end (node_by w.dictionary p) w.segment))
    c.close_frame.ensures.rest
    (subst (λ n. Becomes c.set_end.new.self (with_end n w.segment)) c.node.ensures c.set_end.ensures) in
    subst (λ (w : State). IsKept s (ended w p c.set_end.new.self)) (sym c.close_frame.ensures.rest)
    (sound-frame_end s p c.set_end.new.self w.numbering c.in_ok-close_frame.ensures.order.numbers
    c.in_ok-close_frame.ensures.order.is c.requires.sound c.requires.here low
    c.in_ok-close_frame.ensures.few becomes)

pub close_frame-requires-clause-rows : goal.close_frame-requires-clause-rows
close_frame-requires-clause-rows c = c.requires.rows.open_is c.requires.frame

pub returns-clause-rows : goal.returns-clause-rows
returns-clause-rows c =
    let s = c.args.self.now in
    let p = c.args.placed in
    let w = c.close_frame.new.self in
    subst (λ (w : State). HasRows (ended w p c.set_end.new.self) c.clear.new.self) (sym c.close_frame.ensures.rest)
    (rows-frame_end s p c.set_end.new.self w.numbering c.in_ok-close_frame.ensures.order.numbers c.clear.new.self
    c.in_ok-close_frame.ensures.order.is c.clear.ensures)
