-- The end record makes the frame whole.
use Rattle.std.proofs.Common.{◌∙◌}
use Rattle.sample_file.specs.Drafts.{end_fields}
use Rattle.sample_file.proofs.Learnt.{end-layout}
use Rattle.sample_file.proofs.PutDrafts.{end-can, ends-whole}
use Rattle.sample_file.proofs.frames.SampleFrame.put_end.Goals as goal

pub write-requires-clause-can : goal.write-requires-clause-can
write-requires-clause-can c =
    end-can c.args.k c.frame_end.result c.args.self.now.segment c.requires.small c.frame_end.ensures c.requires.held

pub set_end-requires : goal.set_end-requires
set_end-requires c =
    (c.in_ok-write.ensures.pending end_fields end-layout).end_record ∙ c.requires.held.end_record

pub returns-clause-whole : goal.returns-clause-whole
returns-clause-whole c =
    ends-whole c.args.k c.frame_end.result c.node.result c.args.self.now.segment c.write.new.self.segment
    c.set_end.new.self c.requires.small c.frame_end.ensures c.node.ensures c.requires.held
    (c.in_ok-write.ensures.pending end_fields end-layout) c.set_end.ensures
