-- A frame's part is written, and the table lists the frame by the places of its records.
use Rattle.std.proofs.Common.{inl, inr, arith, Option, refl, sym, ap, ◌∙◌, subst}
use Rattle.std.specs.Option.{option_copied}
use Rattle.std.proofs.lemmas.Result.{err_from_is_err_and}
use Rattle.frame_content.specs.Frames.{frame_of as segment_frame}
use Rattle.canonical_file.specs.declared.closing.Closing.{Closing}
use Rattle.canonical_file.specs.Written.{Written, frame_part, after_frame}
use Rattle.contents_table.specs.Built.{with_frame_at}
use Rattle.canonical_writer.specs.Parts.{IsReady}
use Rattle.canonical_writer.specs.Filled.{frame_of}
use Rattle.canonical_writer.specs.Writer.{Writer}
use Rattle.canonical_writer.proofs.WriterSteps.{stays-same, puts-refused, frame-written}
use Rattle.canonical_writer.proofs.writer.CanonWriter.put_frame.Goals as goal

pub returns-then-self-ge-FRAMES_LIMIT-clause-puts : goal.returns-then-self-ge-FRAMES_LIMIT-clause-puts
returns-then-self-ge-FRAMES_LIMIT-clause-puts g c = (
  frame_part c.args.self.now.written (frame_of c.args.frame.now),
  stays-same (g.S.Shelf.outside c.args.shelf.now),
  λ is ready. refl,
)

pub returns-in_err-fill-clause-puts : goal.returns-in_err-fill-clause-puts
returns-in_err-fill-clause-puts g c =
    let p = err_from_is_err_and c.from_residual.result c.from_residual.ensures.1 in
    let bytes = frame_part c.args.self.now.written (frame_of c.args.frame.now) in (
      bytes,
      puts-refused (g.S.Shelf.outside c.args.shelf.now) c.args.self.now.slot bytes c.from_residual.result
          (elim c.in_err-fill.ensures.errors [
            | inl is ↦ inl (let q = p.1 in let r = p.2 in cc)
            | inr clash ↦ inr (clash.0, let q = p.1 in let r = p.2 in let s = clash.1 in cc)
          ]),
      λ is ready. refl,
    )

pub returns-clause-written : goal.returns-clause-written
returns-clause-written g c = λ are is ready.
    let v = c.self.inside in let source = c.args.frame.now in let held = source.dictionary.now in
    let closing : Option Closing = option_copied c.as_ref.result in
    let w : Written = record { size = v.size; entries = v.used; built = v.built; frames = v.frames } in
    let first : IsReady v.part.met v.closing v.used held =
    subst (λ (x : Writer). IsReady x.met x.closing x.written.entries held) (sym c.self.view_is) ready in
    let begun : IsReady v.part.met closing v.used held =
    subst (λ closing. IsReady v.part.met closing v.used held) (sym c.as_ref.ensures.value) first in
    let filled = c.in_ok-fill.ensures.filled is begun in
    let listed = c.in_ok-add_segment_at.ensures held are in (
      frame-written w closing c.fill.new.used source c.fill.new.self c.add_segment_at.new.self c.len.result is filled
          (listed ∙ ap (λ places. with_frame_at places
          (segment_frame held source.segment.now) v.built) c.as_slice.ensures.value)
          (omega (arith, c.len.ensures, c.fill.new.self.bytes.ok.0))
          ∙ ap (λ (x : Writer). after_frame x.written (frame_of source)) c.self.view_is,
      subst (λ closing. IsReady c.fill.new.self.met closing c.fill.new.used held) c.as_ref.ensures.value filled.ready,
    )
