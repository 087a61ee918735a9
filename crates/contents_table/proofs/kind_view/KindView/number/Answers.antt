use Rattle.std.proofs.Common.{ap, sym, ◌∙◌, [], arith, below_more}
use Rattle.std.proofs.lemmas.Option.{get_or_from_slice_get}
use Rattle.std.specs.Str.{bytes_eq}
use Rattle.layout_plan.specs.Reading.{text_in}
use Rattle.contents_table.specs.Listed.{KindTable}
use Rattle.contents_table.proofs.ItemLemmas.{AreLeft-all, AreLeft-reads, AreLeft-after}
use Rattle.contents_table.proofs.PlaceLemmas.{position-here, position-none}
use Rattle.contents_table.proofs.kind_view.KindView.number.Goals as goal

pub loop-k-init : goal.loop-k-init
loop-k-init c = record {
  left = AreLeft-all (text_in c.self.inside.order) c.self.inside.count _ c.args.self.now.names
      c.self.inside.names.now (ap (λ (t : KindTable). t.names) c.self.view_is) c.self.invariant.0;
  apart = λ j lt. absurd (omega arith);
}

pub next_text-requires : goal.next_text-requires
next_text-requires c =
    AreLeft-reads (text_in c.self.inside.order) c.self.inside.count c.args.self.now.names c.loop-k.k c.loop-k.rest.now
    c.loop-k-test.true c.loop-k.invariant.left

pub returns-then-eq : goal.returns-then-eq
returns-then-eq c =
    let next = AreLeft-after (text_in c.self.inside.order) c.self.inside.count c.args.self.now.names c.loop-k.k
    c.loop-k.rest.now c.next_text.result.0.now c.next_text.result.1.now c.loop-k-test.true c.loop-k.invariant.left
    c.next_text.ensures in
    sym (position-here (bytes_eq c.args.name.now) c.args.self.now.names c.loop-k.k c.next_text.result.0.now []
    next.0 c.loop-k.invariant.apart (sym c.eq.ensures ∙ c.if-eq.true))

pub loop-k-preserved : goal.loop-k-preserved
loop-k-preserved c =
    let next = AreLeft-after (text_in c.self.inside.order) c.self.inside.count c.args.self.now.names c.loop-k.k
    c.loop-k.rest.now c.next_text.result.0.now c.next_text.result.1.now c.loop-k-test.true c.loop-k.invariant.left
    c.next_text.ensures in
    record {
      left = next.1;
      apart = below_more _ _ c.loop-k.invariant.apart
          (ap (bytes_eq c.args.name.now)
          (get_or_from_slice_get c.args.self.now.names c.loop-k.k c.next_text.result.0.now [] next.0)
          ∙ sym c.eq.ensures ∙ c.if-eq.false);
    }

pub returns : goal.returns
returns c =
    sym (position-none (bytes_eq c.args.name.now) c.args.self.now.names c.loop-k.k []
    (omega (arith, c.loop-k.invariant.left.count, c.loop-k-test.false)) c.loop-k.invariant.apart)
