use Rattle.std.proofs.Common.{ap, sym, ◌∙◌}
use Rattle.std.specs.Prelude.{◌&&◌}
use Rattle.std.proofs.lemmas.List.Folds.{list_all_at, list_all_more}
use Rattle.std.proofs.lemmas.Option.{get_or_from_slice_get, slice_get_within}
use Rattle.contents_table.specs.declared.names.Listed.{Listed}
use Rattle.contents_table.specs.Views.{holds}
use Rattle.contents_table.proofs.kind_view.has_all.Goals as goal

pub returns-then-not-contains : goal.returns-then-not-contains
returns-then-not-contains c =
    let listed = c.listed.result.now in
    let is = get_or_from_slice_get c.args.built.now c.loop-j.j listed listed c.listed.ensures in
    sym (list_all_at (λ (listed : Listed). holds c.args.names.now listed.name) c.args.built.now c.loop-j.j listed
    (slice_get_within c.args.built.now c.loop-j.j listed c.listed.ensures)
    (ap (λ (listed : Listed). holds c.args.names.now listed.name) is
    ∙ ap (holds c.args.names.now) (sym c.bytes.ensures) ∙ sym c.contains.ensures ∙ c.if-not-contains.true))

pub loop-j-preserved : goal.loop-j-preserved
loop-j-preserved c =
    let listed = c.listed.result.now in
    let is = get_or_from_slice_get c.args.built.now c.loop-j.j listed listed c.listed.ensures in
    list_all_more (λ (listed : Listed). holds c.args.names.now listed.name) c.args.built.now c.loop-j.j listed
    (slice_get_within c.args.built.now c.loop-j.j listed c.listed.ensures)
    ∙ (λ i. c.loop-j.invariant i && (ap (λ (listed : Listed). holds c.args.names.now listed.name) is
    ∙ ap (holds c.args.names.now) (sym c.bytes.ensures) ∙ sym c.contains.ensures ∙ c.if-not-contains.false) i)
