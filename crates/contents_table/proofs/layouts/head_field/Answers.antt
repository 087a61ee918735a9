use Rattle.std.proofs.Common.{◌≡◌, true, refl, sym, ap, ◌∙◌, arith}
use Rattle.std.specs.Str.{bytes_eq}
use Rattle.std.proofs.lemmas.Option.{slice_get_read}
use Rattle.file_grammar.specs.Closing.{is_single}
use Rattle.contents_table.specs.Channels.{is_link_to}
use Rattle.contents_table.proofs.ElementFields.{passes_by, single-base}
use Rattle.contents_table.proofs.Positions.{position-here, position-none}
use Rattle.contents_table.proofs.layouts.head_field.Goals as goal

pub returns-then-eq : goal.returns-then-eq
returns-then-eq c =
    let passes = is_link_to c.args.name.now in
    let e = c.index-elements-i.result in
    let here : is_single passes e ≡ true =
    single-base passes e ∙ ap (passes_by passes) (sym c.in-Some-Ptr.ensures) ∙ ap passes c.in-Some-Ptr.field-0-is
    ∙ ap (bytes_eq c.args.name.now) (sym c.bytes.ensures) ∙ sym c.if-eq.ensures in
    position-here (is_single passes) c.args.elements.now c.loop-i.i e
    (slice_get_read c.args.elements.now _ c.loop-i.i e refl (omega arith) c.index-elements-i.is) here
    c.loop-i.invariant

pub returns : goal.returns
returns c =
    position-none (is_single (is_link_to c.args.name.now)) c.args.elements.now c.loop-i.i c.loop-i-test.false
    c.loop-i.invariant
