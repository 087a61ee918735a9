use Rattle.std.proofs.Common.{◌≡◌, ◌+◌, ◌*◌, ◌<◌, true, false, ap, sym, ◌∙◌, subst, arith, get_or}
use Rattle.std.specs.Prelude.{if◌then◌else◌}
use Rattle.contents_table.specs.Listed.{KindTable, position_at}
use Rattle.contents_table.specs.Views.{numbers_by}
use Rattle.contents_table.proofs.ItemLemmas.{listed-length}
use Rattle.contents_table.proofs.PlaceLemmas.{counts-below, place-below, place-within}
use Rattle.contents_table.proofs.kind_view.KindView.position.Goals as goal
use Rattle.contents_table.proofs.kind_view.KindView.position.Goals.{then-self, else-self}

pub overflow_mul-place : goal.overflow_mul-place
overflow_mul-place c =
    let below = counts-below c.self.inside.order c.self.inside.count c.self.inside.frames c.self.inside.names.now
    c.args.self.now c.args.k c.args.frame (ap (λ (t : KindTable). t.names) c.self.view_is)
    (ap (λ (t : KindTable). t.frames) c.self.view_is) c.self.invariant.0 c.requires.name c.requires.frame in
    omega (
      arith,
      place-within c.self.inside.order c.self.inside.positions.now true c.self.inside.count
          c.self.inside.frames c.args.k c.args.frame c.self.invariant.1 below,
    )

pub overflow_add-place : goal.overflow_add-place
overflow_add-place c =
    let below = counts-below c.self.inside.order c.self.inside.count c.self.inside.frames c.self.inside.names.now
    c.args.self.now c.args.k c.args.frame (ap (λ (t : KindTable). t.names) c.self.view_is)
    (ap (λ (t : KindTable). t.frames) c.self.view_is) c.self.invariant.0 c.requires.name c.requires.frame in
    omega (
      arith,
      place-within c.self.inside.order c.self.inside.positions.now true c.self.inside.count
          c.self.inside.frames c.args.k c.args.frame c.self.invariant.1 below,
    )

pub overflow_mul-place-else-self : goal.overflow_mul-place-else-self
overflow_mul-place-else-self c =
    let below = counts-below c.self.inside.order c.self.inside.count c.self.inside.frames c.self.inside.names.now
    c.args.self.now c.args.k c.args.frame (ap (λ (t : KindTable). t.names) c.self.view_is)
    (ap (λ (t : KindTable). t.frames) c.self.view_is) c.self.invariant.0 c.requires.name c.requires.frame in
    omega (
      arith,
      place-within c.self.inside.order c.self.inside.positions.now false c.self.inside.count
          c.self.inside.frames c.args.k c.args.frame c.self.invariant.1 below,
    )

pub overflow_add-place-else-self : goal.overflow_add-place-else-self
overflow_add-place-else-self c =
    let below = counts-below c.self.inside.order c.self.inside.count c.self.inside.frames c.self.inside.names.now
    c.args.self.now c.args.k c.args.frame (ap (λ (t : KindTable). t.names) c.self.view_is)
    (ap (λ (t : KindTable). t.frames) c.self.view_is) c.self.invariant.0 c.requires.name c.requires.frame in
    omega (
      arith,
      place-within c.self.inside.order c.self.inside.positions.now false c.self.inside.count
          c.self.inside.frames c.args.k c.args.frame c.self.invariant.1 below,
    )

pub number_in-requires : goal.number_in-requires
number_in-requires c =
    let below = counts-below c.self.inside.order c.self.inside.count c.self.inside.frames c.self.inside.names.now
    c.args.self.now c.args.k c.args.frame (ap (λ (t : KindTable). t.names) c.self.view_is)
    (ap (λ (t : KindTable). t.frames) c.self.view_is) c.self.invariant.0 c.requires.name c.requires.frame in
    let first = place-below true c.self.inside.count c.self.inside.frames c.args.k c.args.frame below.0 below.1 in
    let second = place-below false c.self.inside.count c.self.inside.frames c.args.k c.args.frame below.0 below.1 in (
      c.self.inside.count * c.self.inside.frames,
      c.self.invariant.1,
      elim c.if-self.branch [
        | then-self w ↦ omega (arith, first, w.place-is)
        | else-self w ↦ omega (arith, second, w.place-is)
      ],
    )

pub returns : goal.returns
returns c =
    let below = counts-below c.self.inside.order c.self.inside.count c.self.inside.frames c.self.inside.names.now
    c.args.self.now c.args.k c.args.frame (ap (λ (t : KindTable). t.names) c.self.view_is)
    (ap (λ (t : KindTable). t.frames) c.self.view_is) c.self.invariant.0 c.requires.name c.requires.frame in
    let in_names = c.args.k * c.self.inside.frames + c.args.frame in
    let in_frames = c.args.frame * c.self.inside.count + c.args.k in
    let place_is : c.if-self.place ≡ (if c.self.inside.by_name then in_names else in_frames) =
    elim c.if-self.branch [
      | then-self w ↦ w.place-is ∙ ap (λ b. if b then in_names else in_frames) (sym w.if-self.true)
      | else-self w ↦ w.place-is ∙ ap (λ b. if b then in_names else in_frames) (sym w.if-self.false)
    ] in
    let counted = listed-length c.self.inside.order c.self.inside.count c.self.inside.names.now c.self.invariant.0 in
    let numbers = numbers_by c.self.inside.order (c.self.inside.count * c.self.inside.frames)
    c.self.inside.positions.now in
    subst (λ (t : KindTable). c.number_in.result ≡ position_at t c.args.frame c.args.k) c.self.view_is
    (c.number_in.ensures (c.self.inside.count * c.self.inside.frames) c.self.invariant.1
    (subst (λ p. p < c.self.inside.count * c.self.inside.frames) (sym place_is)
    (place-below c.self.inside.by_name c.self.inside.count c.self.inside.frames c.args.k c.args.frame below.0 below.1))
    ∙ ap (λ p. get_or numbers p 0) (place_is
    ∙ ap (λ n. if c.self.inside.by_name then in_names else c.args.frame * n + c.args.k) (sym counted)))
