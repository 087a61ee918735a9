use Rattle.std.proofs.Common.{◌≡◌, false, sym, ◌∙◌}
use Rattle.std.specs.Prelude.{not, ◌&&◌}
use Rattle.file_grammar.specs.declared.kind.Kind.TheVariants.{FrTOC}
use Rattle.file_grammar.specs.declared.reason.Reason.TheVariants.{OpenFrame}
use Rattle.file_grammar.specs.Kind.{is_closing_kind}
use Rattle.file_grammar.specs.Fault.{here, kind, is_empty}
use Rattle.file_grammar.proofs.Firsts.{first_of-passes}
use Rattle.item_reader.specs.State.{here_in, frame_of}
use Rattle.item_reader.specs.Judged.{place_reasons}
use Rattle.item_reader.proofs.Located.{kind-here}
use Rattle.item_reader.proofs.state.State.table_fault.Goals as goal

pub returns-clause-fault : goal.returns-clause-fault
returns-clause-fault c =
    λ body file stands.
    let s = c.args.self.now in
    let p = c.args.table in
    let h = here_in s file in
    let is : kind h ≡ FrTOC = kind-here h p stands.placed ∙ c.requires.kind in
    let closed : not (is_empty (frame_of s)) ≡ false = sym c.has_records.ensures ∙ c.if-has_records.false in
    first_of-passes OpenFrame place_reasons h (λ i. here h (is_closing_kind (is i) && closed i))
    ∙ c.place_fault.ensures.fault body file stands
