use Rattle.canonical_writer.proofs.EntryBytes.{element-appended, text-as}
use Rattle.canonical_writer.proofs.entries.push_element_body.Goals as goal

pub returns : goal.returns
returns c =
    element-appended _ c.args.element.now _ _ _ _ _ c.type_inv.into
    (text-as _ _ _ _ c.bytes.ensures c.in_ok-push_text.ensures)
    (text-as _ _ _ _ c.bytes-2.ensures c.in_ok-push_text-2.ensures)
    (text-as _ _ _ _ c.bytes-3.ensures c.in_ok-push_text-3.ensures) c.push_number.ensures
