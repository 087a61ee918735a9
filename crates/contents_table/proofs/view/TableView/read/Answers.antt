use Rattle.std.proofs.Common.{rules, IsOk, ◌≡◌, ℕ, List, [], Ok, Some, None, IfSome, Option, map, ap, sym, ◌∙◌, subst}
use Rattle.std.specs.Option.{option_map}
use Rattle.scalar_types.specs.declared.Width.TheVariants.{Eight}
use Rattle.record_values.specs.declared.values.Value.{Value}
use Rattle.layout_plan.specs.declared.fields.Count.TheVariants.{Of}
use Rattle.layout_plan.specs.Body.{number_of, IsBody}
use Rattle.layout_plan.specs.Reading.{number_in, items_in}
use Rattle.layout_plan.proofs.LentLemmas.{AreFields-length}
use Rattle.contents_table.specs.declared.fit.KindFields.{KindFields}
use Rattle.contents_table.specs.Listed.{KindTable, kind_table, numbers_at, number_at}
use Rattle.contents_table.proofs.SpanLemmas.{listed-numbers, single-count, items_by-is, items_by-are, number_at-is}
use Rattle.contents_table.proofs.view.TableView.read.Goals as goal
use Rattle.contents_table.proofs.view.TableView.read.Goals.{Joined-layout, in-Some, in-None}

module _ (c : Joined-layout) (values : List Value) (tail : List ℕ)
    (body : IsBody c.args.order c.args.plan.now values tail c.args.body.now) where
  frames : c.num_at.result ≡ number_at values c.args.layout.now.frames
  frames = number_at-is values c.args.layout.now.frames c.num_at.result (c.num_at.ensures values tail body)

  heads : items_in (number_in c.args.order Eight) c.num_at.result c.bytes_of.result.now
      ≡ Ok (numbers_at values c.args.layout.now.heads, [])
  heads =
      listed-numbers c.args.order c.args.plan.now values c.args.layout.now.heads (Of c.args.layout.now.frames) []
      c.num_at.result c.bytes_of.result.now
      (AreFields-length c.args.order (map number_of values) c.args.plan.now values body.front body.spelled)
      c.requires.heads
      (single-count values c.args.layout.now.frames c.num_at.result (c.num_at.ensures values tail body))
      (c.bytes_of.ensures values tail body)

  ser : c.match-layout.result ≡ option_map (kind_table values c.args.layout.now.frames) c.args.layout.now.ser
  ser = elim c.match-layout.branch [
    | in-Some w ↦ w.result-is ∙ ap (λ t. Some t) (w.of-in-Some.ensures values tail body)
        ∙ ap (option_map (kind_table values c.args.layout.now.frames)) (sym w.in-Some.is)
    | in-None w ↦ w.result-is ∙ ap (option_map (kind_table values c.args.layout.now.frames)) (sym w.in-None.is)
  ]

  -- each kind is of as many frames
  of_frames : (fields : KindFields) (t : KindTable) → t ≡ kind_table values c.args.layout.now.frames fields
      → t.frames ≡ c.num_at.result
  of_frames fields t same = ap (λ (t : KindTable). t.frames) same ∙ sym frames

  ser_frames : IfSome c.match-layout.result (λ k. k.frames ≡ c.num_at.result)
  ser_frames =
      subst (λ o. IfSome o (λ (k : KindTable). k.frames ≡ c.num_at.result)) (sym ser) (by c.args.layout.now.ser)
    where
      by : (o : Option KindFields)
          → IfSome (option_map (kind_table values c.args.layout.now.frames) o) (λ k. k.frames ≡ c.num_at.result)
      by (Some fields) = sym frames
      by None = tt

pub invariant_of-result : goal.invariant_of-result
invariant_of-result c =
    let ok : IsOk c.measure.result = search rules in
    let b = c.measure.ensures.ok.0 ok in (
      items_by-are (number_in c.args.order Eight) c.num_at.result c.bytes_of.result.now _ (heads c b.0 b.1 b.2),
      of_frames c b.0 b.1 b.2 c.args.layout.now.adc c.of.result (c.of.ensures b.0 b.1 b.2),
      of_frames c b.0 b.1 b.2 c.args.layout.now.proc c.of-2.result (c.of-2.ensures b.0 b.1 b.2),
      of_frames c b.0 b.1 b.2 c.args.layout.now.sim c.of-3.result (c.of-3.ensures b.0 b.1 b.2),
      ser_frames c b.0 b.1 b.2,
    )

pub returns-clause-table : goal.returns-clause-table
returns-clause-table c = λ values tail body i. record {
  frames = frames c values tail body i;
  heads = items_by-is (number_in c.args.order Eight) c.num_at.result c.bytes_of.result.now _
      (heads c values tail body) i;
  adc = c.of.ensures values tail body i;
  proc = c.of-2.ensures values tail body i;
  sim = c.of-3.ensures values tail body i;
  ser = ser c values tail body i;
}
