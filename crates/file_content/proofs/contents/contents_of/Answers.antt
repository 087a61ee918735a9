-- What was kept of all items is what the file holds.
use Rattle.std.proofs.Common.{◌≡◌, ℕ, subst, ◌∙◌}
use Rattle.file_content.specs.Contents.{IsState}
use Rattle.file_content.specs.Stored.{table_in}
use Rattle.file_content.proofs.WholeContents.{whole}
use Rattle.file_content.proofs.contents.contents_of.Goals as goal

pub returns : goal.returns
returns c = λ file scanned ended (at, class, length, last).
    let r = c.args.reader.now in
    let state = subst
    (λ n. IsState r.order n r.before.frames c.args.scan.channels (table_in r.order scanned.items) c.args.seek
    c.state.result) c.place-2.ensures
    (c.state.ensures r.order r.before.frames (table_in r.order scanned.items) scanned.table_is) in
    rw c.order.ensures (rw c.frames.ensures (rw c.records.ensures (rw c.place.ensures
    (whole file r c.args.scan at class length c.args.seek c.state.result scanned ended last state))))
