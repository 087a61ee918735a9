use Rattle.std.proofs.Common.{◌≡◌, ◌*◌, ℕ, List, [], Ok, map}
use Rattle.scalar_types.specs.declared.Width.TheVariants.{Eight}
use Rattle.record_values.specs.declared.values.Value.{Value}
use Rattle.layout_plan.specs.Body.{number_of, IsBody}
use Rattle.layout_plan.specs.Reading.{number_in, text_in, items_in}
use Rattle.layout_plan.proofs.LentLemmas.{AreFields-length}
use Rattle.contents_table.specs.Listed.{texts_at, numbers_at}
use Rattle.contents_table.proofs.SpanLemmas.{listed-texts, listed-positions, items_by-is, items_by-are, number_at-is}
use Rattle.contents_table.proofs.kind_view.KindView.of.Goals as goal
use Rattle.contents_table.proofs.kind_view.KindView.of.Goals.{After-bytes_of-2}

module _ (c : After-bytes_of-2) (values : List Value) (tail : List ℕ)
    (body : IsBody c.args.order c.args.plan.now values tail c.args.body.now) where
  names : items_in (text_in c.args.order) c.num_at-2.result c.bytes_of.result.now
      ≡ Ok (texts_at values c.args.fields.names, [])
  names =
      listed-texts c.args.order c.args.plan.now values c.args.fields.names c.args.fields.count c.num_at-2.result
      c.bytes_of.result.now
      (AreFields-length c.args.order (map number_of values) c.args.plan.now values body.front body.spelled)
      c.requires.fields.names (c.num_at-2.ensures values tail body) (c.bytes_of.ensures values tail body)

  positions : items_in (number_in c.args.order Eight) (c.num_at-2.result * c.num_at.result) c.bytes_of-2.result.now
      ≡ Ok (numbers_at values c.args.fields.positions, [])
  positions =
      listed-positions c.args.order c.args.plan.now values c.args.frames c.args.fields c.num_at-2.result
      c.num_at.result c.bytes_of-2.result.now
      (AreFields-length c.args.order (map number_of values) c.args.plan.now values body.front body.spelled)
      c.requires.fields.positions (c.num_at-2.ensures values tail body) (c.num_at.ensures values tail body)
      (c.bytes_of-2.ensures values tail body)

pub invariant_of-result : goal.invariant_of-result
invariant_of-result c =
    let b = c.requires.body in (
      items_by-are (text_in c.args.order) c.num_at-2.result c.bytes_of.result.now _ (names c b.0 b.1 b.2),
      items_by-are (number_in c.args.order Eight) (c.num_at-2.result * c.num_at.result) c.bytes_of-2.result.now _
          (positions c b.0 b.1 b.2),
    )

pub returns : goal.returns
returns c = λ values tail body i. record {
  frames = number_at-is values c.args.frames c.num_at.result (c.num_at.ensures values tail body) i;
  names = items_by-is (text_in c.args.order) c.num_at-2.result c.bytes_of.result.now _ (names c values tail body) i;
  positions = items_by-is (number_in c.args.order Eight) (c.num_at-2.result * c.num_at.result)
      c.bytes_of-2.result.now _ (positions c values tail body) i;
  by_name = c.args.fields.by_name;
}
