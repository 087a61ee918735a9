-- A frame of the sample file as it is lent to the writer.
use Rattle.std.specs.Prelude.{◌≡◌, ℕ, List, All}
use Rattle.scalar_types.specs.declared.Order.TheVariants.{Little}
use Rattle.layout_plan.specs.Plans.{plan_of}
use Rattle.link_graph.specs.Graph.{ReadsBy}
use Rattle.file_grammar.specs.Record.{layout_in}
use Rattle.contents_table.specs.Layouts.{layouts_of, AreOf}
use Rattle.canonical_writer.specs.Parts.{CanBeWritten, frame_in_order}
use Rattle.sample_file.specs.declared.frames.SampleFrame.{SampleFrame}
use Rattle.sample_file.specs.Entries.{sample_entries}
use Rattle.sample_file.specs.Sample.{sample_frame}

-- what a frame is read by: the dictionary of the sample file, its plans and its layouts of channels
pub record IsSampleRoom (f : SampleFrame) : Type 0 where
  pub dictionary : f.dictionary ≡ sample_entries
  pub plans : (class : ℕ) → plan_of f.plans class ≡ layout_in sample_entries class
  pub layouts : f.layouts ≡ layouts_of sample_entries
  pub order : f.segment.order ≡ Little

-- It is frame k, in this order of its records, and can be written.
pub record IsSampleFrame (k : ℕ) (f : SampleFrame) (numbers : List ℕ) : Type 0 where
  pub bodies : All (ReadsBy f.plans f.segment.order) f.segment.nodes
  pub layouts : AreOf f.dictionary f.plans f.layouts
  pub can : CanBeWritten f.dictionary f.plans f.segment numbers
  pub is : frame_in_order f.dictionary f.segment numbers ≡ sample_frame k
