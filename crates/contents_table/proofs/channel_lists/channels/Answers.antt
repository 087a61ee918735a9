use Rattle.std.proofs.Common.{◌≡◌, ◌<◌, false, Some, length, get_or, refl, sym, ap, ◌∙◌, subst, replicate, arith}
use Rattle.std.proofs.lemmas.List.{get_or_read, length_push}
use Rattle.frame_content.specs.Frames.{frame_of}
use Rattle.contents_table.proofs.ChannelWalk.{IsWalked, walked-none, walked-more, walked-met, walked-end}
use Rattle.contents_table.proofs.ChannelWalk.{walked-room}
use Rattle.contents_table.proofs.ChannelWalk.{walked-within, no-channels, none-below}
use Rattle.contents_table.proofs.channel_lists.channels.Goals as goal
use Rattle.contents_table.proofs.channel_lists.channels.Goals.{In-Some-at, in-Some-at+then-index, in_default-at}

pub returns-in_default-clause-channels : goal.returns-in_default-clause-channels
returns-in_default-clause-channels c = λ held are.
    c.new-nodes.ensures
    ∙ sym (no-channels (frame_of held c.args.segment.now) c.args.kind (sym (c.in_default.ensures.first held are)))

pub returns-in_default-clause-within : goal.returns-in_default-clause-within
returns-in_default-clause-within c = none-below c.args.segment.now c.new-nodes.result c.new-nodes.ensures

pub loop-at-init : goal.loop-at-init
loop-at-init c =
    walked-none c.args.plans.now c.args.layouts.now c.args.segment.now c.args.kind c.in_ok-met.met.items
    c.new-nodes.result c.in-Some.first
    (c.in_ok-met.ensures.items_if_clones_equal (λ y e. e) ∙ ap (λ n. replicate n false) c.len.ensures)
    c.new-nodes.ensures c.in-Some.ensures.first c.in-Some.ensures.named c.in-Some.ensures.within

-- the record reached is one of the segment, and its mark can be read
within : (c : In-Some-at) → c.in-Some-at.node < length c.loop-at.met.items
within c =
    walked-within c.args.plans.now c.args.layouts.now c.args.segment.now c.args.kind c.loop-at.met.items
    c.loop-at.nodes
    c.loop-at.at c.in-Some-at.node c.loop-at.invariant c.in-Some-at.is

walked : (c : In-Some-at) → IsWalked c.args.plans.now c.args.layouts.now c.args.segment.now c.args.kind
    c.loop-at.met.items c.loop-at.nodes (Some c.in-Some-at.node)
walked c =
    subst (IsWalked c.args.plans.now c.args.layouts.now c.args.segment.now c.args.kind c.loop-at.met.items
    c.loop-at.nodes)
    c.in-Some-at.is c.loop-at.invariant

pub index-requires : goal.index-requires
index-requires c =
    omega (arith, c.loop-at.met.ok.0, within (goal.at.index-requires c).In-Some-at)

pub index_mut-requires : goal.index_mut-requires
index_mut-requires c =
    omega (arith, c.loop-at.met.ok.0, within (goal.at.index_mut-requires c).In-Some-at)

pub loop-at-smaller : goal.loop-at-smaller
loop-at-smaller c =
    let before = (goal.at.loop-at-smaller c).In-Some-at in
    let lt = within before in
    let free : get_or c.loop-at.met.items c.in-Some-at.node false ≡ false =
    sym (get_or_read c.loop-at.met.items c.in-Some-at.node c.index.result.now lt c.index.ensures false)
    ∙ c.if-index.false in
    let room = walked-room c.args.plans.now c.args.layouts.now c.args.segment.now c.args.kind c.loop-at.met.items
    c.loop-at.nodes c.in-Some-at.node (walked before) lt free in
    omega (
      arith,
      room,
      ap length c.in_ok-push.ensures.ok
          ∙ length_push c.loop-at.nodes c.in-Some-at.node,
    )

pub loop-at-preserved : goal.loop-at-preserved
loop-at-preserved c =
    let before = (goal.at.loop-at-preserved c).In-Some-at in
    let lt = within before in
    let free : get_or c.loop-at.met.items c.in-Some-at.node false ≡ false =
    sym (get_or_read c.loop-at.met.items c.in-Some-at.node c.index.result.now lt c.index.ensures false)
    ∙ c.if-index.false in
    walked-more c.args.plans.now c.args.layouts.now c.args.segment.now c.args.kind c.loop-at.met.items _
    c.loop-at.nodes
    c.push.new.self c.in-Some-at.node c.next_channel-at.result (walked before) lt free refl c.in_ok-push.ensures.ok
    c.next_channel-at.ensures.next c.next_channel-at.ensures.named c.next_channel-at.ensures.within

pub returns-clause-channels : goal.returns-clause-channels
returns-clause-channels c = λ held are.
    elim c.match-at.branch [
      | in-Some-at+then-index w ↦
          let is = subst (IsWalked c.args.plans.now c.args.layouts.now c.args.segment.now c.args.kind
          c.loop-at.met.items
          c.loop-at.nodes) w.in-Some-at.is c.loop-at.invariant in
          let lt = walked-within c.args.plans.now c.args.layouts.now c.args.segment.now c.args.kind
          c.loop-at.met.items
          c.loop-at.nodes c.loop-at.at w.in-Some-at.node c.loop-at.invariant w.in-Some-at.is in
          walked-met c.args.plans.now c.args.layouts.now c.args.segment.now c.args.kind c.loop-at.met.items
          c.loop-at.nodes
          w.in-Some-at.node held is are lt
          (sym (get_or_read c.loop-at.met.items w.in-Some-at.node w.index.result.now lt w.index.ensures false)
          ∙ w.if-index.true)
      | in_default-at w ↦
          walked-end c.args.plans.now c.args.layouts.now c.args.segment.now c.args.kind c.loop-at.met.items
          c.loop-at.nodes held (subst (IsWalked c.args.plans.now c.args.layouts.now c.args.segment.now c.args.kind
          c.loop-at.met.items c.loop-at.nodes) w.in_default-at.is c.loop-at.invariant) are
    ]

pub returns-clause-within : goal.returns-clause-within
returns-clause-within c = c.loop-at.invariant.below
