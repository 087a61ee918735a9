use Rattle.layout_plan.specs.declared.fields.Form.TheVariants.{Number, Pair, Link}
use Rattle.frame_content.specs.Labels.{null_link}
use Rattle.canonical_writer.proofs.EntryBytes.{number-last}
use Rattle.canonical_writer.proofs.EndBytes.{item-last, pair-last, link-last}
use Rattle.canonical_writer.proofs.end_values.push_single.Goals as goal

pub returns-in-Number : goal.returns-in-Number
returns-in-Number c =
    item-last _ c.args.form (Number c.in-Number.width) c.args.n _ _ c.in-Number.is
    (number-last c.push_number.result c.in-Number.width c.args.n _ _ c.type_inv.into c.push_number.ensures)

pub returns-in_ok-push_number-in-Pair : goal.returns-in_ok-push_number-in-Pair
returns-in_ok-push_number-in-Pair c =
    item-last _ c.args.form (Pair c.in-Pair.width) c.args.n _ _ c.in-Pair.is
    (pair-last c.push_number-in-Pair-2.result c.in-Pair.width _ _ _ c.type_inv.into c.in_ok-push_number-in-Pair.ensures
    c.push_number-in-Pair-2.ensures)

pub returns-in-Link : goal.returns-in-Link
returns-in-Link c =
    item-last _ c.args.form Link c.args.n _ _ c.in-Link.is
    (link-last c.push_link.result null_link _ _ c.type_inv.into c.push_link.ensures)
