use Rattle.std.proofs.Common.{◌≡◌, ℕ, ◌+◌, true, Some, sym, ap, ◌∙◌}
use Rattle.std.specs.Prelude.{◌==◌, ◌||◌, nat_lt, codes}
use Rattle.std.specs.Bool.{then_some}
use Rattle.std.proofs.lemmas.Bool.{eq-eqb, ne_eqb}
use Rattle.file_grammar.specs.Structure.{end_of, file_limit}
use Rattle.file_grammar.specs.Kind.{is_file_end_kind}
use Rattle.file_grammar.specs.declared.reason.Reason.TheVariants.{FrameCount, ByteCount}
use Rattle.file_grammar.specs.Fault.{kind, structure, number, fault_at}
use Rattle.item_reader.specs.State.{here_in}
use Rattle.item_reader.proofs.Located.{after-here, told-here, kind-here}
use Rattle.item_reader.proofs.Numbers.{elements_in, closes-named}
use Rattle.item_reader.proofs.Parts.{frames-wrong, bytes-told, told-right}
use Rattle.item_reader.proofs.state.State.count_fault.Goals as goal
use Rattle.item_reader.proofs.state.State.count_fault.Goals.{else-bytes-ne0-via-then-bytes-ne0+else-bytes-end}
use Rattle.item_reader.proofs.state.State.count_fault.Goals.{else-bytes-ne0-via-else-bytes-ne0}

pub number-field-requires-clause-named : goal.number-field-requires-clause-named
number-field-requires-clause-named c =
    (closes-named (elements_in c.args.self.now.dictionary c.args.end.class) c.requires.layout).frames

pub number-field-requires-2-clause-named : goal.number-field-requires-2-clause-named
number-field-requires-2-clause-named c =
    (closes-named (elements_in c.args.self.now.dictionary c.args.end.class) c.requires.layout).bytes

pub returns-then-frames-self : goal.returns-then-frames-self
returns-then-frames-self c =
    λ file stands.
    let s = c.args.self.now in
    let h = here_in s file in
    let end : is_file_end_kind (kind h) ≡ true =
    ap is_file_end_kind (kind-here h c.args.end stands.placed ∙ c.requires.kind) in
    let told = c.number-field.ensures file stands in
    let field = ap (λ (t : ℕ × ℕ). t.0) told in
    frames-wrong h end (λ same. c.if-frames-self.true (ap (λ (t : ℕ × ℕ). t.1) told ∙ same))
    ∙ ap Some (ap (λ field. fault_at FrameCount (s.at, field)) (sym field) ∙ sym c.field_fault.ensures)

pub returns-then-bytes-end : goal.returns-then-bytes-end
returns-then-bytes-end c =
    λ file stands.
    let s = c.args.self.now in
    let p = c.args.end in
    let h = here_in s file in
    let end : is_file_end_kind (kind h) ≡ true =
    ap is_file_end_kind (kind-here h p stands.placed ∙ c.requires.kind) in
    let frames : number h (codes "nFrames") ≡ s.frames =
    sym (ap (λ (t : ℕ × ℕ). t.1) (c.number-field.ensures file stands)) ∙ c.if-frames-self.false in
    let told = c.number-field-2.ensures file stands in
    let field = ap (λ (t : ℕ × ℕ). t.0) told in
    let bytes = ap (λ (t : ℕ × ℕ). t.1) told in
    let after : p.at + p.length ≡ end_of (structure h) = after-here h p stands.placed in
    let some = ne_eqb (number h (codes "nBytes")) 0 (λ same. c.if-bytes-ne0.true (bytes ∙ same)) in
    let other = ne_eqb (number h (codes "nBytes")) (end_of (structure h))
    (λ same. c.if-bytes-end.true (bytes ∙ same ∙ sym after)) in
    bytes-told h end frames (λ i. some i || other i)
    ∙ ap Some
    (ap (λ field. fault_at ByteCount (s.at, field)) (sym field) ∙ sym c.field_fault-then-bytes-end.ensures)

pub returns : goal.returns
returns c =
    λ file stands.
    let s = c.args.self.now in
    let p = c.args.end in
    let h = here_in s file in
    let end : is_file_end_kind (kind h) ≡ true =
    ap is_file_end_kind (kind-here h p stands.placed ∙ c.requires.kind) in
    let frames : number h (codes "nFrames") ≡ s.frames =
    sym (ap (λ (t : ℕ × ℕ). t.1) (c.number-field.ensures file stands)) ∙ c.if-frames-self.false in
    let bytes = ap (λ (t : ℕ × ℕ). t.1) (c.number-field-2.ensures file stands) in
    let after : p.at + p.length ≡ end_of (structure h) = after-here h p stands.placed in
    let right : (number h (codes "nBytes") == 0 || number h (codes "nBytes") == end_of (structure h)) ≡ true =
    elim c.else-bytes-ne0.branch [
      | else-bytes-ne0-via-then-bytes-ne0+else-bytes-end w ↦
          (λ i. ne_eqb (number h (codes "nBytes")) 0 (λ same. w.if-bytes-ne0.true (bytes ∙ same)) i
          || eq-eqb (number h (codes "nBytes")) (end_of (structure h))
          (sym bytes ∙ w.if-bytes-end.false ∙ after) i)
      | else-bytes-ne0-via-else-bytes-ne0 w ↦
          ap (λ b. b || number h (codes "nBytes") == end_of (structure h))
          (eq-eqb (number h (codes "nBytes")) 0 (sym bytes ∙ w.if-bytes-ne0.false))
    ] in
    told-right h end frames right
    ∙ (λ i. then_some (nat_lt file_limit (sym stands.placed.place i + told-here h p stands.placed i))
    (sym c.fault.ensures i))
    ∙ ap (λ b. then_some b c.fault.result) (sym c.is_beyond.ensures)
    ∙ sym c.then_some.ensures
