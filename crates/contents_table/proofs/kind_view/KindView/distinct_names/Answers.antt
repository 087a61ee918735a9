use Rattle.std.proofs.Common.{rules, ◌≡◌, Bool, true, false, ap, sym, ◌∙◌, refl}
use Rattle.std.specs.Prelude.{◌&&◌, not}
use Rattle.layout_plan.specs.Reading.{text_in}
use Rattle.contents_table.specs.Listed.{KindTable}
use Rattle.contents_table.specs.Views.{holds}
use Rattle.contents_table.proofs.ItemLemmas.{AreLeft-all, AreLeft-reads, AreLeft-after}
use Rattle.contents_table.proofs.NameSetLemmas.{distinct-twice, distinct-more, holds-more}
use Rattle.contents_table.proofs.kind_view.KindView.distinct_names.Goals as goal

pub loop-k-init : goal.loop-k-init
loop-k-init c = record {
  left = AreLeft-all (text_in c.self.inside.order) c.self.inside.count _ c.args.self.now.names
      c.self.inside.names.now (ap (λ (t : KindTable). t.names) c.self.view_is) c.self.invariant.0;
  distinct = refl;
  names = λ name. search rules;
}

pub next_text-requires : goal.next_text-requires
next_text-requires c =
    AreLeft-reads (text_in c.self.inside.order) c.self.inside.count c.args.self.now.names c.loop-k._k c.loop-k.rest.now
    c.loop-k-test.true c.loop-k.invariant.left

not-false : (b c : Bool) → c ≡ not b → c ≡ false → b ≡ true
not-false true c e f = refl
not-false false c e f = cc

not-true : (b c : Bool) → c ≡ not b → c ≡ true → b ≡ false
not-true true c e f = cc
not-true false c e f = refl

pub returns-then-not-branch-clause-distinct : goal.returns-then-not-branch-clause-distinct
returns-then-not-branch-clause-distinct c =
    let next = AreLeft-after (text_in c.self.inside.order) c.self.inside.count c.args.self.now.names c.loop-k._k
    c.loop-k.rest.now c.next_text.result.0.now c.next_text.result.1.now c.loop-k-test.true c.loop-k.invariant.left
    c.next_text.ensures in
    let name = c.next_text.result.0.now in
    let met = not-false (holds c.loop-k.met name) c.in_ok-insert.field-0 c.in_ok-insert.ensures.added
    c.if-not-branch.true in (
      λ none. cc,
      λ distinct. absurd (distinct-twice c.args.self.now.names c.loop-k._k name next.0
          (sym (c.loop-k.invariant.names name) ∙ met) distinct),
    )

pub loop-k-preserved : goal.loop-k-preserved
loop-k-preserved c =
    let next = AreLeft-after (text_in c.self.inside.order) c.self.inside.count c.args.self.now.names c.loop-k._k
    c.loop-k.rest.now c.next_text.result.0.now c.next_text.result.1.now c.loop-k-test.true c.loop-k.invariant.left
    c.next_text.ensures in
    let name = c.next_text.result.0.now in
    let apart = not-true (holds c.loop-k.met name) c.in_ok-insert.field-0 c.in_ok-insert.ensures.added
    c.if-not-branch.false in
    record {
      left = next.1;
      distinct = distinct-more c.args.self.now.names c.loop-k._k name next.0
          ∙ (λ i. c.loop-k.invariant.distinct i && not ((sym (c.loop-k.invariant.names name) ∙ apart) i));
      names = holds-more c.args.self.now.names c.loop-k._k c.loop-k.met c.insert.new.self c.next_text.result.0 next.0
          c.in_ok-insert.ensures.updates c.loop-k.invariant.names;
    }
