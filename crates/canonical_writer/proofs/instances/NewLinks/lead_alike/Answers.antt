-- one link that is written otherwise
use Rattle.std.proofs.Common.{◌≡◌, not, sym, ap, ◌∙◌, eq-eqb}
use Rattle.std.specs.Prelude.{◌&&◌}
use Rattle.std.proofs.lemmas.Bool.{false≢true}
use Rattle.type_text.specs.declared.types.Link.{Link}
use Rattle.canonical_writer.specs.NewLinks.{link_to}
use Rattle.canonical_writer.proofs.BodyLinks.{alike-at}
use Rattle.canonical_writer.proofs.instances.NewLinks.lead_alike.Goals as goal

pub returns-then-ne : goal.returns-then-ne
returns-then-ne c = (
  λ is. absurd (false≢true is),
  λ lead.
      let one = c.link_to.result in let two = c.link_to-in-loop-found.result in
      let same : one ≡ two = c.link_to.ensures
      ∙ alike-at (link_to c.args.segment.now.nodes c.args.self.now) (link_to c.args.other.now.nodes c.args.others.now)
      c.args.read.now c.loop-found.found-index
      (record { field = 0; link = record { class = 0; instance = 0 } }) c.loop-found-test.true lead
      ∙ sym c.link_to-in-loop-found.ensures in
      let class = eq-eqb one.class two.class (ap (λ (l : Link). l.class) same) in
      let instance = eq-eqb one.instance two.instance (ap (λ (l : Link). l.instance) same) in
      absurd (false≢true (sym (sym c.if-ne.true ∙ c.ne.ensures ∙ (λ i. not (class i && instance i))))),
)
