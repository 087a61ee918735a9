-- After the last item the dictionary can close a file.
use Rattle.std.proofs.Common.{◌≡◌, Ok, sym, ap, ◌∙◌, true≢false}
use Rattle.frame_reader.specs.Closings.{is_closed}
use Rattle.frame_reader.specs.Given.{Frames}
use Rattle.frame_reader.proofs.Ended.{all-closed}
use Rattle.frame_reader.proofs.reader.FrameReader.closing.Goals as goal

pub returns-in-None-clause-fault : goal.returns-in-None-clause-fault
returns-in-None-clause-fault c = λ fault is file frames bytes all.
    let unclosed = c.closing_of.ensures.none (c.in_ok-closing.was ∙ ap Ok c.in-None.is) in
    let same : c.dictionary.result.now ≡ c.args.self.now.reader.before.dictionary =
    c.dictionary.ensures ∙ ap (λ (r : Frames). r.reader.before.dictionary) c.self.view_is in
    true≢false (sym (all-closed file frames c.args.self.now bytes all) ∙ sym (ap is_closed same) ∙ unclosed)
