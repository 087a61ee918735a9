-- What is read at the front of the bytes is the item there.
use Rattle.std.proofs.Common.{◌≡◌, ◌++◌}
use Rattle.record_values.specs.declared.values.Value.TheVariants as value
use Rattle.dumper.specs.Printed.{value_text}
use Rattle.dumper.proofs.FrontItems.{first-has, first-text, first-link}
use Rattle.dumper.proofs.values.push_item.Goals as goal

pub returns-in_ok-put_quoted-in-Text : goal.returns-in_ok-put_quoted-in-Text
returns-in_ok-put_quoted-in-Text c =
    let bytes = c.args.bytes.now in
    let size = c.text_length-length.result in
    let text = c.text_of.result.now in
    first-has c.args.order c.args.form bytes (value.Text text) size
    (λ v. c.put_quoted.new.text.items ≡ c.args.text.now.items ++ value_text c.args.base.now v)
    (first-text c.args.order c.args.form bytes text size c.in-Text.is c.text_length-length.ensures.text
    c.text_of.ensures)
    c.in_ok-put_quoted-in-Text.ensures

pub returns-in_ok-push_link-in-Link : goal.returns-in_ok-push_link-in-Link
returns-in_ok-push_link-in-Link c =
    first-has c.args.order c.args.form c.args.bytes.now (value.Link c.link_of.result) 6
    (λ v. c.push_link.new.text.items ≡ c.args.text.now.items ++ value_text c.args.base.now v)
    (first-link c.args.order c.args.form c.args.bytes.now c.link_of.result c.in-Link.is c.link_of.ensures)
    c.in_ok-push_link-in-Link.ensures
