use Rattle.std.proofs.Common.{ap, ◌∙◌, sym}
use Rattle.file_grammar.specs.Record.{layout_in}
use Rattle.item_reader.specs.Reader.{Reader}
use Rattle.item_reader.proofs.FrameLinks.{all-read}
use Rattle.item_reader.proofs.reader.ItemReader.segment.Goals as goal

pub returns-clause-bodies : goal.returns-clause-bodies
returns-clause-bodies c = λ none plans same.
    let s = c.self.inside.cursor.state in
    all-read plans s.segment.order s.dictionary s.segment.nodes
    (λ class. same class ∙ sym (ap (λ (r : Reader). layout_in r.before.dictionary class) c.self.view_is))
    (c.self.invariant (ap (λ (r : Reader). r.error) c.self.view_is ∙ none)).sound.nodes
