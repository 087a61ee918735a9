-- The names that are there are of earlier frames.
use Rattle.std.proofs.Common.{rules, ◌≡◌, ◌≤◌, ◌++◌, ◌∷◌, [], length, arith, ap}
use Rattle.std.proofs.lemmas.List.{length_push}
use Rattle.contents_table.proofs.Adding.{names-more}
use Rattle.contents_table.proofs.builder.TableBuilder.add_frame.Goals as goal

pub invariant_of-self-2 : goal.invariant_of-self-2
invariant_of-self-2 c =
    let pushed : c.push.new.self.items ≡ c.self.inside.heads.items ++ c.args.at ∷ [] = search rules in
    let grown : length c.self.inside.heads.items ≤ length c.push.new.self.items =
    omega (arith, ap length pushed, length_push c.self.inside.heads.items c.args.at) in (
      names-more _ _ _ grown c.self.invariant.0,
      names-more _ _ _ grown c.self.invariant.1,
      names-more _ _ _ grown c.self.invariant.2,
      names-more _ _ _ grown c.self.invariant.3,
    )
