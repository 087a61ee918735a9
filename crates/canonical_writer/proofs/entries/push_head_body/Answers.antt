use Rattle.std.proofs.Common.{subst}
use Rattle.scalar_types.specs.declared.Order.TheVariants.{Little}
use Rattle.scalar_types.specs.declared.Width.TheVariants.{Two}
use Rattle.record_values.specs.Spelling.{IsNumber}
use Rattle.layout_plan.specs.Appends.{Appends}
use Rattle.canonical_writer.proofs.EntryBytes.{head-appended, text-as}
use Rattle.canonical_writer.proofs.entries.push_head_body.Goals as goal

pub returns : goal.returns
returns c =
    head-appended _ c.args.entry.now _ _ _ _ _ c.type_inv.into
    (text-as _ _ _ _ c.bytes.ensures c.in_ok-push_text.ensures)
    (subst (λ n. Appends (IsNumber Little Two n) c.push_text.new.into.items c.push_number.new.into.items) c.from.ensures
    c.in_ok-push_number.ensures)
    (text-as _ _ _ _ c.bytes-2.ensures c.in_ok-push_text-2.ensures) c.push_number-2.ensures
