use Rattle.std.proofs.Common.{◌≡◌, List, ℕ, true, Some, ap, ◌∙◌, subst, arith}
use Rattle.file_grammar.specs.Kind.{is_frame_kind}
use Rattle.file_grammar.specs.Fault.{kind, first_of}
use Rattle.item_reader.specs.State.{here_in}
use Rattle.item_reader.specs.Judged.{InEachFile, IsRead, IsWeighed, weighing_reasons}
use Rattle.item_reader.proofs.Located.{whole-here, told-here, kind-here}
use Rattle.item_reader.proofs.Parts.{passed-on, weigh-unread, ok-with, err-with}
use Rattle.item_reader.proofs.state.State.weigh.Goals as goal

pub returns-in_err-measured-clause-fault : goal.returns-in_err-measured-clause-fault
returns-in_err-measured-clause-fault c =
    let s = c.args.self.now in
    let p = c.args.placed in
    let f = c.in_err-measured.field-0.0 in
    passed-on c.from_residual.result f
    (λ fault. InEachFile s p s.segment.pending (λ h. first_of weighing_reasons h ≡ Some fault))
    c.from_residual.ensures.1 (λ file stands.
    let h = here_in s file in
    let told_is = told-here h p stands.placed in
    let frame : is_frame_kind (kind h) ≡ true =
    ap is_frame_kind (kind-here h p stands.placed) ∙ c.requires.kind in
    weigh-unread h f (whole-here h p stands.placed) frame (omega (arith, told_is, c.requires.fits))
    (rw c.pending.ensures at c.in_err-measured.ensures.fault file stands))

pub returns-clause-ok : goal.returns-clause-ok
returns-clause-ok c =
    let s = c.args.self.now in
    let p = c.args.placed in
    let m = c.in_ok-measured.measured in
    ok-with c.weight.result
    (λ weight. (body : List ℕ) → InEachFile s p body (λ h. IsRead h m.zero_texts → IsWeighed h weight))
    (λ weight. InEachFile s p s.segment.pending (λ h. IsWeighed h weight))
    (λ weight said file stands. said s.segment.pending file stands
    (subst (λ (body : List ℕ). InEachFile s p body (λ h. IsRead h m.zero_texts)) c.pending.ensures
    c.in_ok-measured.ensures.ok file stands))
    c.weight.ensures.ok

pub returns-clause-fault : goal.returns-clause-fault
returns-clause-fault c =
    let s = c.args.self.now in
    let p = c.args.placed in
    let m = c.in_ok-measured.measured in
    err-with c.weight.result
    (λ fault. (body : List ℕ)
    → InEachFile s p body (λ h. IsRead h m.zero_texts → first_of weighing_reasons h ≡ Some fault))
    (λ fault. InEachFile s p s.segment.pending (λ h. first_of weighing_reasons h ≡ Some fault))
    (λ fault said file stands. said s.segment.pending file stands
    (subst (λ (body : List ℕ). InEachFile s p body (λ h. IsRead h m.zero_texts)) c.pending.ensures
    c.in_ok-measured.ensures.ok file stands))
    c.weight.ensures.fault
