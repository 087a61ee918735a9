-- Both records are new among those before them, and are held then.
use Rattle.std.proofs.Common.{[], ◌∷◌, ◌++◌, ◌+◌, ◌≤◌, length, subst, arith}
use Rattle.std.proofs.lemmas.List.{length-append}
use Rattle.std.proofs.lemmas.Result.{on_ok_weaker}
use Rattle.sample_file.specs.Drafts.{Holds, Puts, channel_draft, vector_draft, drafts_before}
use Rattle.sample_file.proofs.SoundDrafts.{channel-sound, vector-sound}
use Rattle.sample_file.proofs.PutDrafts.{few-before, channel-new, vector-new, channel-more, can-be-put, was-put}
use Rattle.sample_file.proofs.frames.SampleFrame.put_channel.Goals as goal

pub put-requires-clause-can : goal.put-requires-clause-can
put-requires-clause-can c =
    let few : length (drafts_before c.args.k c.args.j) ≤ 90 = few-before c.args.k c.args.j c.requires.channel in
    can-be-put (drafts_before c.args.k c.args.j) (channel_draft c.args.j) c.node.result c.in_ok-channel.channel
    c.args.self.now.segment c.node.ensures c.in_ok-channel.ensures (channel-sound c.args.j c.requires.channel)
    c.requires.held (channel-new c.args.k c.args.j c.requires.channel) (omega (arith, few))

pub put-requires-2-clause-can : goal.put-requires-2-clause-can
put-requires-2-clause-can c =
    let one = was-put (drafts_before c.args.k c.args.j) (channel_draft c.args.j) c.node.result c.in_ok-channel.channel
    c.args.self.now.segment c.put.new.self.segment c.node.ensures c.in_ok-channel.ensures
    (channel-sound c.args.j c.requires.channel) c.requires.held c.in_ok-put.ensures.held in
    let few : length (drafts_before c.args.k c.args.j) ≤ 90 = few-before c.args.k c.args.j c.requires.channel in
    let more = length-append (drafts_before c.args.k c.args.j) (channel_draft c.args.j ∷ []) in
    can-be-put (drafts_before c.args.k c.args.j ++ channel_draft c.args.j ∷ []) (vector_draft c.args.k c.args.j)
    c.node-2.result c.in_ok-vector.vector c.put.new.self.segment c.node-2.ensures c.in_ok-vector.ensures
    (vector-sound c.args.k c.args.j) one (vector-new c.args.k c.args.j c.requires.channel) (omega (arith, few, more))

pub returns-clause-held : goal.returns-clause-held
returns-clause-held c =
    let one = was-put (drafts_before c.args.k c.args.j) (channel_draft c.args.j) c.node.result c.in_ok-channel.channel
    c.args.self.now.segment c.put.new.self.segment c.node.ensures c.in_ok-channel.ensures
    (channel-sound c.args.j c.requires.channel) c.requires.held c.in_ok-put.ensures.held in
    on_ok_weaker {P = Puts c.node-2.result c.in_ok-vector.vector c.put.new.self.segment c.put-2.new.self.segment}
    {Q = Holds (drafts_before c.args.k (c.args.j + 1)) c.put-2.new.self.segment} c.put-2.result
    (λ puts. subst (λ ds. Holds ds c.put-2.new.self.segment) (channel-more c.args.k c.args.j)
    (was-put (drafts_before c.args.k c.args.j ++ channel_draft c.args.j ∷ []) (vector_draft c.args.k c.args.j)
    c.node-2.result c.in_ok-vector.vector c.put.new.self.segment c.put-2.new.self.segment c.node-2.ensures
    c.in_ok-vector.ensures (vector-sound c.args.k c.args.j) one puts)) c.put-2.ensures.held
