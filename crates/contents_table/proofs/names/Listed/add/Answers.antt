-- The last channel is of an earlier frame, or there is none.
use Rattle.std.proofs.Common.{◌≡◌, ◌-◌, Some, None, length, ap, sym, ◌∙◌, List}
use Rattle.std.specs.Option.{option_copied}
use Rattle.std.specs.List.{slice_get}
use Rattle.link_graph.proofs.Found.{ok-map, Some-same}
use Rattle.contents_table.specs.declared.names.Found.{Found}
use Rattle.contents_table.proofs.Adding.{pushed-found}
use Rattle.contents_table.proofs.names.Listed.add.Goals as goal
use Rattle.contents_table.proofs.names.Listed.add.Goals.{in-Some+else-last-found, in_default}

pub returns-clause-ok : goal.returns-clause-ok
returns-clause-ok c =
    let l = c.args.self.now in
    let at : slice_get c.args.self.now.found (length c.args.self.now.found - 1)
    ≡ option_copied c.last.result =
    ap (λ (found : List Found). slice_get found (length found - 1)) (sym c.as_slice.ensures)
    ∙ sym c.last.ensures.value in
    elim c.match-last.branch [
      | in-Some+else-last-found w ↦ ok-map c.push.result
          (pushed-found c.args.found c.args.self.now c.match-last.self c.push.new.self
          (Some w.in-Some.last.now) c.requires
          (at ∙ ap option_copied w.in-Some.is)
          (λ f is e. w.if-last-found.false
          (ap (λ (f : Found). f.frame) (Some-same w.in-Some.last.now f is) ∙ e))
          w.self-is)
          c.push.ensures.ok
      | in_default w ↦ ok-map c.push.result
          (pushed-found c.args.found c.args.self.now c.match-last.self c.push.new.self None c.requires
          (at ∙ ap option_copied w.in_default.is) (λ f is e. cc) w.self-is)
          c.push.ensures.ok
    ]
