use Rattle.std.proofs.Common.{◌<◌, ℕ, get_or}
use Rattle.contents_table.specs.declared.kind.Kind.TheVariants.{Adc}
use Rattle.contents_table.specs.Listed.{IsGoodOf}
use Rattle.contents_table.proofs.view.TableView.judge.Given as goal

abbrev pub invariant-loop-kind : goal.invariant-loop-kind
invariant-loop-kind l = (j : ℕ) → j < l.kind-index → IsGoodOf l.self l.built (get_or l.kind-items j Adc)
