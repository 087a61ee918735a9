-- The fault of the body of an FrSH.
use Rattle.std.proofs.Common.{◌≡◌, Some, sym, ap, ◌∙◌, subst}
use Rattle.file_grammar.specs.declared.kind.Kind.TheVariants.{FrSH}
use Rattle.file_grammar.specs.Fault.{class, entries_before, kind, fields, fields_by, first_of}
use Rattle.file_grammar.specs.Record.{layout_in}
use Rattle.item_reader.specs.State.{here_in}
use Rattle.item_reader.specs.Judged.{InEachFile, body_reasons, entry_reasons}
use Rattle.item_reader.proofs.Located.{kind-here, fault-kind}
use Rattle.item_reader.proofs.Parts.{entry-parts, first_of-front}
use Rattle.item_reader.proofs.cursor.Cursor.begin_entry.Goals as goal

pub returns-in_err-read_by-clause-fault : goal.returns-in_err-read_by-clause-fault
returns-in_err-read_by-clause-fault c = λ fault same file stands.
    let s = c.args.self.now.state in
    let p = c.args.head in
    let h = here_in s file in
    let is : kind h ≡ FrSH = kind-here h p stands.placed ∙ c.requires.kind in
    let plan : fields h ≡ Some s.built_in.structure = ap (λ k. fields_by k (layout_in (entries_before h) (class h))) is
    ∙ ap Some (sym c.requires.sound.built_in.structure) in
    let told = subst (λ l. InEachFile s p l (λ h. fields h ≡ Some s.built_in.structure
    → first_of body_reasons h ≡ Some c.in_err-read_by.field-0.0)) c.as_slice-body.ensures.value
    c.in_err-read_by.ensures.fault file stands plan in
    let there = fault-kind h p c.requires.unclosed stands.placed ∙ entry-parts h is
    ∙ first_of-front body_reasons entry_reasons h c.in_err-read_by.field-0.0 told in
    let passed = rw same at c.from_residual.ensures.1 in
    cc
