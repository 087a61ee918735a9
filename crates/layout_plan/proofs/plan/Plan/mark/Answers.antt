use Rattle.std.proofs.Common.{length, get_or, ap, ◌∙◌, arith}
use Rattle.layout_plan.specs.Marks.{first_mark, mark_of}
use Rattle.layout_plan.proofs.MarkLemmas.{marks_from-at, length-marks_from}
use Rattle.layout_plan.proofs.plan.Plan.mark.Goals as goal

pub bounds-as_slice-k : goal.bounds-as_slice-k
bounds-as_slice-k c =
    omega (
      arith,
      ap length c.as_slice.ensures,
      ap length c.self.invariant.marks_are,
      length-marks_from first_mark c.self.inside.fields,
      ap length c.self.view_is,
    )

pub returns-clause-mark : goal.returns-clause-mark
returns-clause-mark c =
    let le = rw (← c.self.view_is) at c.requires in
    ap (λ marks. get_or marks c.args.k first_mark) (c.as_slice.ensures ∙ c.self.invariant.marks_are)
    ∙ marks_from-at first_mark c.self.inside.fields c.args.k first_mark le
    ∙ ap (λ fields. mark_of fields c.args.k) c.self.view_is
