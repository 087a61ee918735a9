use Rattle.std.proofs.Common.{◌∙◌}
use Rattle.canonical_writer.proofs.EntryBytes.{size-written, text-appended}
use Rattle.canonical_writer.proofs.entries.push_text.Goals as goal

pub returns : goal.returns
returns c =
    text-appended c.args.text.now c.args.into.now.items c.push_number.new.into.items c.extend_from_slice.new.self.items
    c.push.new.self.items c.from.result c.type_inv.into
    (λ short. size-written c.try_from.result _ c.unwrap_or.result c.from.result c.try_from.ensures c.unwrap_or.ensures
    (c.from.ensures ∙ c.saturating_add-length.ensures) short)
    c.in_ok-push_number.ensures c.in_ok-extend_from_slice.ensures.items c.in_ok-push.ensures.items
