-- Both records may be put, and are held then.
use Rattle.std.proofs.Common.{[], ◌∷◌, refl, lit≤}
use Rattle.std.proofs.lemmas.Result.{on_ok_weaker}
use Rattle.sample_file.specs.Drafts.{Holds, Puts, header_draft, raw_draft, drafts_before}
use Rattle.sample_file.proofs.SoundDrafts.{header-sound, raw-sound}
use Rattle.sample_file.proofs.PutDrafts.{can-be-put, was-put}
use Rattle.sample_file.proofs.frames.SampleFrame.put_heads.Goals as goal

pub put-requires-clause-can : goal.put-requires-clause-can
put-requires-clause-can c =
    can-be-put [] (header_draft c.args.k) c.node.result c.in_ok-header.header c.args.self.now.segment c.node.ensures
    c.in_ok-header.ensures (header-sound c.args.k c.requires.small) c.requires.held refl (lit≤ tt)

pub put-requires-2-clause-can : goal.put-requires-2-clause-can
put-requires-2-clause-can c =
    let one = was-put [] (header_draft c.args.k) c.node.result c.in_ok-header.header c.args.self.now.segment
    c.put.new.self.segment c.node.ensures c.in_ok-header.ensures (header-sound c.args.k c.requires.small)
    c.requires.held c.in_ok-put.ensures.held in
    can-be-put (header_draft c.args.k ∷ []) raw_draft c.node-2.result c.in_ok-raw_data.raw_data c.put.new.self.segment
    c.node-2.ensures c.in_ok-raw_data.ensures raw-sound one refl (lit≤ tt)

pub returns-clause-held : goal.returns-clause-held
returns-clause-held c =
    let one = was-put [] (header_draft c.args.k) c.node.result c.in_ok-header.header c.args.self.now.segment
    c.put.new.self.segment c.node.ensures c.in_ok-header.ensures (header-sound c.args.k c.requires.small)
    c.requires.held c.in_ok-put.ensures.held in
    on_ok_weaker {P = Puts c.node-2.result c.in_ok-raw_data.raw_data c.put.new.self.segment c.put-2.new.self.segment}
    {Q = Holds (drafts_before c.args.k 0) c.put-2.new.self.segment} c.put-2.result
    (was-put (header_draft c.args.k ∷ []) raw_draft c.node-2.result c.in_ok-raw_data.raw_data c.put.new.self.segment
    c.put-2.new.self.segment c.node-2.ensures c.in_ok-raw_data.ensures raw-sound one) c.put-2.ensures.held
