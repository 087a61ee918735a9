use Rattle.std.proofs.Common.{◌≡◌, ◌+◌, drop, length, refl, ap, arith}
use Rattle.std.proofs.lemmas.List.{drop_all}
use Rattle.std.proofs.lemmas.Option.{slice_get_read}
use Rattle.layout_plan.specs.Body.{value_length, values_length}
use Rattle.contents_table.specs.Told.{table_values}
use Rattle.contents_table.specs.Tells.{field_value}
use Rattle.contents_table.proofs.TableSizes.{suits-at, size-at}
use Rattle.contents_table.proofs.builder.TableBuilder.is_within_limit.Goals as goal
use Rattle.contents_table.proofs.builder.TableBuilder.is_within_limit.Goals.{After-field_size-size}

pub loop-k-init : goal.loop-k-init
loop-k-init c = record { so_far = refl; small = omega arith }

pub field_size-size-requires : goal.field_size-size-requires
field_size-size-requires c =
    let is = slice_get_read c.args.fields.now (length c.args.fields.now) c.loop-k.k c.index-fields-k.result
    refl
    c.loop-k-test.true c.index-fields-k.is in
    rw c.told_by.ensures
    (suits-at c.args.fields.now c.args.layout.now c.args.self.now c.args.numbers.now c.requires c.loop-k.k
    c.index-fields-k.result is)

-- the sum so far and the size of this field are within the whole sum, or capped
more : (c : After-field_size-size)
    → values_length (drop c.loop-k.k c.args.fields.now)
    (drop c.loop-k.k (table_values c.args.layout.now c.args.fields.now c.args.self.now))
    ≡ value_length c.index-fields-k.result.form
    (field_value c.args.numbers.now c.args.self.now c.told_by.result c.index-fields-k.result)
    + values_length (drop (c.loop-k.k + 1) c.args.fields.now)
    (drop (c.loop-k.k + 1) (table_values c.args.layout.now c.args.fields.now c.args.self.now))
more c =
    let is = slice_get_read c.args.fields.now (length c.args.fields.now) c.loop-k.k c.index-fields-k.result
    refl
    c.loop-k-test.true c.index-fields-k.is in
    rw c.told_by.ensures
    (size-at c.args.fields.now c.args.layout.now c.args.self.now c.args.numbers.now c.requires c.loop-k.k
    c.index-fields-k.result is)

pub overflow_add-size : goal.overflow_add-size
overflow_add-size c = omega (arith, c.loop-k.invariant.small, c.field_size-size.ensures)

pub returns-then-size-gt-RECORD_LIMIT : goal.returns-then-size-gt-RECORD_LIMIT
returns-then-size-gt-RECORD_LIMIT c = (
  λ no. cc,
  λ small. absurd
      (omega (
        arith,
        small,
        more (goal.at.returns-then-size-gt-RECORD_LIMIT c).After-field_size-size,
        c.field_size-size.ensures,
        c.loop-k.invariant.so_far,
        c.if-size-gt-RECORD_LIMIT.true,
      )),
)

pub loop-k-preserved : goal.loop-k-preserved
loop-k-preserved c =
    let next = more (goal.at.loop-k-preserved c).After-field_size-size in
    record {
      so_far = omega (
        arith,
        next,
        c.field_size-size.ensures,
        c.loop-k.invariant.so_far,
        c.if-size-gt-RECORD_LIMIT.false,
      );
      small = omega (arith, c.if-size-gt-RECORD_LIMIT.false);
    }

pub returns : goal.returns
returns c =
    let none = ap (λ fs. values_length fs (drop c.loop-k.k
    (table_values c.args.layout.now c.args.fields.now c.args.self.now)))
    (drop_all c.loop-k.k c.args.fields.now c.loop-k-test.false) in
    (λ yes. omega (arith, none, c.loop-k.invariant.so_far, c.loop-k.invariant.small), λ small. refl)
