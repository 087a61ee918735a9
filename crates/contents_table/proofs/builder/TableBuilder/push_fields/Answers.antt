use Rattle.std.proofs.Common.{◌≡◌, ◌+◌, ◌∷◌, [], drop, length, refl, inl, arith}
use Rattle.std.proofs.lemmas.List.{drop_all}
use Rattle.std.proofs.lemmas.Option.{slice_get_read}
use Rattle.scalar_types.specs.declared.Order.TheVariants.{Little}
use Rattle.record_values.specs.Spelling.{IsClosedText}
use Rattle.layout_plan.proofs.AppendLemmas.{Appends-refused}
use Rattle.record_writer.proofs.Rests.{fields_none, fields_more, fields_all}
use Rattle.contents_table.specs.Told.{table_values}
use Rattle.contents_table.specs.Tells.{field_value}
use Rattle.contents_table.proofs.ToldValues.{drop-at, table-at, table-length}
use Rattle.contents_table.proofs.TableSizes.{suits-at, few-at, room-at}
use Rattle.contents_table.proofs.builder.TableBuilder.push_fields.Goals as goal

pub loop-k-init : goal.loop-k-init
loop-k-init c =
    fields_none (IsClosedText Little) Little c.args.numbers.now c.args.fields.now
    (table_values c.args.layout.now c.args.fields.now c.args.self.now) c.args.into.now.items

pub push-requires-clause-suits : goal.push-requires-clause-suits
push-requires-clause-suits c =
    let is = slice_get_read c.args.fields.now (length c.args.fields.now) c.loop-k.k c.index-fields-k.result
    refl
    c.loop-k-test.true c.index-fields-k.is in
    rw c.told_by.ensures
    (suits-at c.args.fields.now c.args.layout.now c.args.self.now c.args.numbers.now c.requires.table
    c.loop-k.k
    c.index-fields-k.result is)

pub push-requires-clause-few : goal.push-requires-clause-few
push-requires-clause-few c =
    let is = slice_get_read c.args.fields.now (length c.args.fields.now) c.loop-k.k c.index-fields-k.result
    refl
    c.loop-k-test.true c.index-fields-k.is in
    rw c.told_by.ensures
    (few-at c.args.fields.now c.args.layout.now c.args.self.now c.args.numbers.now c.requires.table
    c.requires.small
    c.loop-k.k c.index-fields-k.result is)

pub push-requires-clause-room : goal.push-requires-clause-room
push-requires-clause-room c =
    let is = slice_get_read c.args.fields.now (length c.args.fields.now) c.loop-k.k c.index-fields-k.result
    refl
    c.loop-k-test.true c.index-fields-k.is in
    room-at c.args.fields.now c.args.layout.now c.args.self.now c.args.numbers.now c.requires.table
    c.requires.small
    c.loop-k.k c.index-fields-k.result is

pub returns-in_err-push : goal.returns-in_err-push
returns-in_err-push c =
    Appends-refused _ _ _ _ _ _ _ c.from_residual.ensures.0 c.loop-k.invariant c.push.ensures

pub loop-k-preserved : goal.loop-k-preserved
loop-k-preserved c =
    let values = table_values c.args.layout.now c.args.fields.now c.args.self.now in
    let is = slice_get_read c.args.fields.now (length c.args.fields.now) c.loop-k.k c.index-fields-k.result
    refl
    c.loop-k-test.true c.index-fields-k.is in
    let next : drop c.loop-k.k values
    ≡ field_value c.args.numbers.now c.args.self.now c.told_by.result c.index-fields-k.result
    ∷ drop (c.loop-k.k + 1) values =
    rw c.told_by.ensures
    (table-at c.args.fields.now c.args.layout.now c.args.self.now c.args.numbers.now c.requires.table
    c.loop-k.k
    c.index-fields-k.result is) in
    fields_more (IsClosedText Little) Little c.args.numbers.now c.args.fields.now values
    (drop c.loop-k.k c.args.fields.now) (drop c.loop-k.k values) c.index-fields-k.result
    (field_value c.args.numbers.now c.args.self.now c.told_by.result c.index-fields-k.result)
    (drop (c.loop-k.k + 1) c.args.fields.now) (drop (c.loop-k.k + 1) values) _ _ _
    (drop-at c.args.fields.now c.loop-k.k c.index-fields-k.result is, next) c.loop-k.invariant
    c.in_ok-push.ensures

pub returns : goal.returns
returns c =
    let values = table_values c.args.layout.now c.args.fields.now c.args.self.now in
    let no_field : drop c.loop-k.k c.args.fields.now ≡ [] =
    drop_all c.loop-k.k c.args.fields.now c.loop-k-test.false in
    let no_value : drop c.loop-k.k values ≡ [] =
    drop_all c.loop-k.k values
    (omega (arith, table-length c.args.fields.now c.args.layout.now c.args.self.now, c.loop-k-test.false)) in
    fields_all (λ f v. Unit {0}) (IsClosedText Little) Little c.args.numbers.now c.args.fields.now values
    (drop c.loop-k.k c.args.fields.now) (drop c.loop-k.k values) _ _ (inl no_field)
    (rw (no_field, no_value) tt)
    c.loop-k.invariant
