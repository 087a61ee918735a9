use Rattle.std.proofs.Common.{◌≡◌, sym, ap, ◌∙◌}
use denote.Enum.Bare.{same_false}
use Rattle.file_grammar.specs.declared.kind.Kind.TheVariants.{FrameH}
use Rattle.file_grammar.specs.contracts.kind.Kind.{the_type}
use Rattle.file_grammar.specs.Kind.{kind_of, is_header_kind}
use Rattle.file_grammar.specs.Fault.{kind, first_of}
use Rattle.item_reader.specs.Judged.{later_record_reasons, place_reasons}
use Rattle.item_reader.specs.State.{here_in}
use Rattle.item_reader.proofs.Located.{class-here}
use Rattle.item_reader.proofs.FrameParts.{header-kept, no-header_kind, later-plain, later-first}
use Rattle.item_reader.proofs.state.State.record_fault.Goals.{else-eq-via-then-eq+else-self}
use Rattle.item_reader.proofs.state.State.record_fault.Goals.{else-eq-via-else-eq}
use Rattle.item_reader.proofs.state.State.record_fault.Goals as goal

pub returns : goal.returns
returns c = λ body file stands.
    let s = c.args.self.now in
    let p = c.args.placed in
    let h = here_in s file in
    let kind_is : kind h ≡ c.args.kind =
    ap (kind_of s.dictionary) (class-here h p stands.placed) ∙ sym c.requires.kind in
    let judged : first_of later_record_reasons h ≡ first_of place_reasons h =
    elim c.else-eq.branch [
      | else-eq-via-then-eq+else-self w ↦
          later-first h (sym (header-kept s c.requires.sound c.requires.«open») ∙ w.if-self.false)
      | else-eq-via-else-eq w ↦
          later-plain h (ap is_header_kind kind_is
          ∙ no-header_kind c.args.kind
          (same_false the_type c.args.kind FrameH (sym c.eq.ensures ∙ w.if-eq.false)))
    ] in
    judged ∙ c.place_fault.ensures.fault body file stands
