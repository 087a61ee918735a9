use Rattle.std.proofs.Common.{◌≡◌, true, Some, sym, ap, ◌∙◌, subst, arith}
use Rattle.std.specs.Prelude.{Result, Err, IsErrAnd, ℕ}
use Rattle.file_grammar.specs.declared.fault.Fault.{Fault}
use Rattle.file_grammar.specs.Kind.{is_frame_kind}
use Rattle.file_grammar.specs.Fault.{kind}
use Rattle.item_reader.specs.declared.item.ReadError.{ReadError}
use Rattle.item_reader.specs.declared.item.ReadError.TheVariants as errors
use Rattle.item_reader.specs.State.{here_in}
use Rattle.item_reader.proofs.Located.{whole-here, told-here, kind-here}
use Rattle.item_reader.proofs.Parts.{weigh-unread}
use Rattle.item_reader.proofs.state.State.weigh_links.Goals as goal

pub returns-in_err-measured-clause-fault : goal.returns-in_err-measured-clause-fault
returns-in_err-measured-clause-fault c =
    λ fault same file stands.
    let s = c.args.self.now in
    let p = c.args.placed in
    let h = here_in s file in
    let error = c.in_err-measured.field-0.0 in
    let is : errors.Fault fault ≡ error =
    subst (λ (r : Result ℕ ReadError). IsErrAnd r (λ e. e ≡ error)) same c.from_residual.ensures.1 in
    let told_is = told-here h p stands.placed in
    let frame : is_frame_kind (kind h) ≡ true =
    ap is_frame_kind (kind-here h p stands.placed) ∙ c.requires.kind in
    weigh-unread h fault (whole-here h p stands.placed) frame (omega (arith, told_is, c.requires.fits))
    (c.read_links.ensures.fault fault (c.in_err-measured.was ∙ ap Err (sym is)) file stands)

-- the fault that an error is
fault_in : Fault → ReadError → Fault
fault_in other (errors.Fault fault) = fault
fault_in other errors.Device = other
fault_in other errors.NoMemory = other

pub returns-in_err-weight-clause-fault : goal.returns-in_err-weight-clause-fault
unfolding fault_in
returns-in_err-weight-clause-fault c =
    λ fault same file stands.
    let s = c.args.self.now in
    let f = c.in_err-weight.field-0.0 in
    let is : errors.Fault fault ≡ errors.Fault f =
    subst (λ (r : Result ℕ ReadError). IsErrAnd r (λ e. e ≡ errors.Fault f)) same
    c.from_residual-in_err-weight.ensures.1 in
    c.in_err-weight.ensures.fault s.segment.pending file stands (c.in_ok-measured.ensures.ok file stands)
    ∙ ap Some (sym (ap (fault_in f) is))

pub returns-clause-ok : goal.returns-clause-ok
returns-clause-ok c =
    λ file stands.
    c.in_ok-weight.ensures.ok c.args.self.now.segment.pending file stands (c.in_ok-measured.ensures.ok file stands)
