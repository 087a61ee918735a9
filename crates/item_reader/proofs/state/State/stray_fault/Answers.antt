use Rattle.std.proofs.Common.{◌≡◌, [], ◌∷◌, Some, sym, ap, ◌∙◌}
use Rattle.std.proofs.lemmas.Bool.{eq-eqb}
use Rattle.file_grammar.specs.declared.kind.Kind.TheVariants.{FrSE}
use Rattle.file_grammar.specs.declared.reason.Reason.TheVariants.{StrayElement}
use Rattle.file_grammar.specs.Fault.{place, here, entries_before, class, kind, fields, fields_by}
use Rattle.file_grammar.specs.Record.{layout_in}
use Rattle.file_grammar.proofs.Classes.{class-FrSE}
use Rattle.file_grammar.proofs.Firsts.{first_of-holds}
use Rattle.item_reader.specs.State.{here_in}
use Rattle.item_reader.specs.Judged.{body_reasons}
use Rattle.item_reader.proofs.Located.{fault-kind, kind-here}
use Rattle.item_reader.proofs.Parts.{element-parts, first_of-front, first_of-back}
use Rattle.item_reader.proofs.state.State.stray_fault.Goals as goal

pub returns-in-Ok : goal.returns-in-Ok
returns-in-Ok c =
    λ file stands.
    let s = c.args.self.now in
    let p = c.args.element in
    let h = here_in s file in
    let is : kind h ≡ FrSE = kind-here h p stands.placed ∙ c.requires.kind in
    let plan : fields h ≡ Some s.built_in.element = ap (λ k. fields_by k (layout_in (entries_before h) (class h))) is
    ∙ ap Some (sym c.requires.sound.built_in.element) in
    let read = c.in-Ok.ensures.ok file stands plan in
    let two = eq-eqb (class h) 2 (class-FrSE (entries_before h) (class h) is) in
    fault-kind h p c.requires.open stands.placed
    ∙ element-parts h is
    ∙ first_of-back body_reasons (StrayElement ∷ []) h read.none
    ∙ first_of-holds StrayElement [] h (place h, 0) (ap (here h) two)
    ∙ ap Some (sym c.fault.ensures)

pub returns-in-Err : goal.returns-in-Err
returns-in-Err c =
    λ file stands.
    let s = c.args.self.now in
    let p = c.args.element in
    let h = here_in s file in
    let is : kind h ≡ FrSE = kind-here h p stands.placed ∙ c.requires.kind in
    let plan : fields h ≡ Some s.built_in.element = ap (λ k. fields_by k (layout_in (entries_before h) (class h))) is
    ∙ ap Some (sym c.requires.sound.built_in.element) in
    fault-kind h p c.requires.open stands.placed
    ∙ element-parts h is
    ∙ first_of-front body_reasons (StrayElement ∷ []) h c.in-Err.fault
    (c.in-Err.ensures.fault file stands plan)
