-- The plans and the layouts are those of the dictionary.
use Rattle.std.proofs.Common.{ap, ◌∙◌}
use Rattle.layout_plan.specs.Plans.{plan_of}
use Rattle.contents_table.specs.Layouts.{layouts_of}
use Rattle.link_graph.specs.Collected.{Collected}
use Rattle.sample_file.proofs.Learnt.{plans-are}
use Rattle.sample_file.proofs.frames.SampleFrame.new.Goals as goal

pub returns : goal.returns
returns c = record {
  dictionary = c.in_ok-dictionary.ensures;
  plans = λ class. ap (λ plans. plan_of plans class) c.in_ok-plans.ensures ∙ plans-are class;
  layouts = c.of-layouts.ensures.layouts ∙ ap layouts_of c.in_ok-dictionary.ensures;
  order = ap (λ (s : Collected). s.order) c.new.ensures;
}
