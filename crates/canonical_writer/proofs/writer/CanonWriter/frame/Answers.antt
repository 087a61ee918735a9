-- The source of the call is that of the part.
use Rattle.std.proofs.Common.{◌≡◌, Err, subst}
use Rattle.std.proofs.lemmas.Result.{on_ok_weaker}
use Rattle.canonical_file.specs.Written.{frame_part, after_frame}
use Rattle.canonical_writer.specs.declared.frame_part.FrameSource.{FrameSource}
use Rattle.canonical_writer.specs.Parts.{IsReady, frame_in_order}
use Rattle.canonical_writer.specs.Writer.{IsAnswer, frame_due}
use Rattle.canonical_writer.proofs.WriterSteps.{source-of}
use Rattle.canonical_writer.proofs.writer.CanonWriter.frame.Goals as goal

pub returns-in-Err-clause-answer : goal.returns-in-Err-clause-answer
returns-in-Err-clause-answer g c = λ none are can ready.
    let source : FrameSource =
    record {
      segment = c.args.segment;
      plans = c.args.plans;
      dictionary = c.args.dictionary;
      order = c.sequence.result;
    } in
    subst (λ numbers. IsAnswer {X = Unit {0}} (Err c.in-Err.error)
    (frame_due c.args.self.now.closing c.args.self.now.written
    (frame_in_order c.args.dictionary.now c.args.segment.now numbers))) c.sequence.ensures
    (c.in-Err.ensures.answer are
    (source-of source c.args.layouts.now c.args.numbering.now c.sequence.ensures are can) ready)

pub returns-in-Err-clause-puts : goal.returns-in-Err-clause-puts
returns-in-Err-clause-puts g c = λ none.
    let source : FrameSource =
    record {
      segment = c.args.segment;
      plans = c.args.plans;
      dictionary = c.args.dictionary;
      order = c.sequence.result;
    } in
    let puts = c.in-Err.ensures.puts in (
      puts.0,
      puts.1,
      λ are can ready.
          subst (λ numbers. puts.0 ≡ frame_part c.args.self.now.written
          (frame_in_order c.args.dictionary.now c.args.segment.now numbers)) c.sequence.ensures
          (puts.2 (source-of source c.args.layouts.now c.args.numbering.now c.sequence.ensures are can) ready),
    )

pub returns-in_default-result-clause-answer : goal.returns-in_default-result-clause-answer
returns-in_default-result-clause-answer g c = λ none are can ready.
    let source : FrameSource =
    record {
      segment = c.args.segment;
      plans = c.args.plans;
      dictionary = c.args.dictionary;
      order = c.sequence.result;
    } in
    subst (λ numbers. IsAnswer {X = Unit {0}} c.put_frame-result.result (frame_due c.args.self.now.closing
    c.args.self.now.written (frame_in_order c.args.dictionary.now c.args.segment.now numbers))) c.sequence.ensures
    (c.put_frame-result.ensures.answer are
    (source-of source c.args.layouts.now c.args.numbering.now c.sequence.ensures are can) ready)

pub returns-in_default-result-clause-puts : goal.returns-in_default-result-clause-puts
returns-in_default-result-clause-puts g c = λ none.
    let source : FrameSource =
    record {
      segment = c.args.segment;
      plans = c.args.plans;
      dictionary = c.args.dictionary;
      order = c.sequence.result;
    } in
    let puts = c.put_frame-result.ensures.puts in (
      puts.0,
      puts.1,
      λ are can ready.
          subst (λ numbers. puts.0 ≡ frame_part c.args.self.now.written
          (frame_in_order c.args.dictionary.now c.args.segment.now numbers)) c.sequence.ensures
          (puts.2 (source-of source c.args.layouts.now c.args.numbering.now c.sequence.ensures are can) ready),
    )

pub returns-in_default-result-clause-written : goal.returns-in_default-result-clause-written
returns-in_default-result-clause-written g c =
    let source : FrameSource =
    record {
      segment = c.args.segment;
      plans = c.args.plans;
      dictionary = c.args.dictionary;
      order = c.sequence.result;
    } in
    let new = c.put_frame-result.new.self in let held = c.args.dictionary.now in
    on_ok_weaker c.put_frame-result.result
    (λ put are can ready.
    subst (λ numbers. (new.written
    ≡ after_frame c.args.self.now.written (frame_in_order held c.args.segment.now numbers))
    × IsReady new.met new.closing new.written.entries held) c.sequence.ensures
    (put are (source-of source c.args.layouts.now c.args.numbering.now c.sequence.ensures are can) ready))
    c.put_frame-result.ensures.written
