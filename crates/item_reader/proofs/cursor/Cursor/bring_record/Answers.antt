-- The body of a record of a frame, or the fault of one that is longer than the frame may weigh.
use Rattle.std.proofs.Common.{◌≡◌, ◌+◌, inl, inr, sym, ap, ◌∙◌}
use Rattle.std.specs.Prelude.{Some}
use Rattle.std.proofs.lemmas.Bool.{ltb-true}
use Rattle.file_grammar.specs.Structure.{record_limit}
use Rattle.file_grammar.specs.Kind.{is_frame_kind}
use Rattle.file_grammar.specs.Fault.{Here}
use Rattle.item_reader.specs.declared.item.ReadError.TheVariants as error
use Rattle.item_reader.specs.State.{here_in}
use Rattle.item_reader.proofs.Located.{kind-here}
use Rattle.item_reader.proofs.Giving.{overfull-fault}
use Rattle.item_reader.proofs.cursor.Cursor.bring_record.Goals as goal

pub returns-then-is_overfull-clause-fault : goal.returns-then-is_overfull-clause-fault
returns-then-is_overfull-clause-fault g c = λ fault is.
    let same : c.pass_over.result ≡ error.Fault fault = cc in
    λ reading told.
    let s = c.args.self.now.state in
    let p = c.args.placed in
    let h : Here = here_in s reading.opened in
    elim (c.pass_over.ensures.fault fault same reading told) [
      | inl there ↦ there
      | inr whole ↦ overfull-fault h p c.requires.passed.unclosed whole.1
          (ap is_frame_kind (kind-here h p whole.1) ∙ c.requires.kind)
          (ltb-true record_limit (s.load + p.length) (sym c.is_overfull.ensures ∙ c.if-is_overfull.true))
          ∙ ap Some (sym (whole.0 ∙ c.fault-fault.ensures))
    ]
