use Rattle.std.proofs.Common.{◌≡◌, ◌+◌, ◌-◌, ◌∷◌, [], ◌∙◌, refl, arith, ap, take, drop}
use Rattle.layout_plan.proofs.AppendLemmas.{Appends-more}
use Rattle.layout_plan.proofs.RespelledLemmas.{text-room, text-empty, text-kept}
use Rattle.layout_plan.proofs.respelled.push_text.Goals as goal

pub returns-then-length-eq0-clause-appends : goal.returns-then-length-eq0-clause-appends
returns-then-length-eq0-clause-appends c = record {
  items = 1 ∷ 0 ∷ 0 ∷ [];
  whole = c.in_ok-extend_from_slice.ensures.items;
  related = text-empty c.args.order c.args.bytes.now (1 ∷ 0 ∷ 0 ∷ []) c.read_num-length.result
      c.read_num-length.ensures.value c.if-length-eq0.true refl;
}

pub slice_bounds-extend_from_slice-end-2 : goal.slice_bounds-extend_from_slice-end-2
slice_bounds-extend_from_slice-end-2 c =
    omega (
      arith,
      text-room c.args.order c.args.bytes.now c.read_num-length.result
          c.read_num-length.ensures.value c.requires,
    )

pub returns-clause-appends : goal.returns-clause-appends
returns-clause-appends c =
    let n = c.read_num-length.result in
    let same : 2 + n - 2 ≡ n = omega arith in
    let kept = ap (λ k. take k (drop 2 c.args.bytes.now)) same in
    Appends-more _ (λ ys. ys ≡ take (2 + n - 2) (drop 2 c.args.bytes.now)) _ _ c.push_number.new.into.items _
    c.in_ok-push_number.ensures
    (record {
      items = take (2 + n - 2) (drop 2 c.args.bytes.now);
      whole = c.in_ok-extend_from_slice-2.ensures.items;
      related = refl;
    }) (λ xs ys r s. text-kept c.args.order c.args.bytes.now xs ys n c.read_num-length.ensures.value
    (omega (arith, c.if-length-eq0.false)) r (s ∙ kept))
