-- The file that was read to its end is well-formed, and what was kept is what it holds.
use Rattle.std.proofs.Common.{◌≡◌, Some, Err, rules, ◌∙◌}
use Rattle.item_reader.specs.declared.item.ReadError.TheVariants as error
use Rattle.item_reader.specs.Reader.{file_of}
use Rattle.file_content.proofs.Begun.{scanned-begun}
use Rattle.file_content.proofs.WholeFiles.{draws_more, file_of-drawn}
use Rattle.file_content.proofs.contents.read_contents.Goals as goal

pub returns-clause-contents : goal.returns-clause-contents
returns-clause-contents g c = λ file told.
    let r = c.in_ok-reader.reader in
    let b = c.in_ok-reader.ensures in
    let here : file_of (g.S.Shelf.outside c.begin.new.shelf) r.position.slot ≡ Some file =
    rw b.slot (file_of-drawn _ _ _ c.begin.ensures.draws.draws ∙ told) in
    c.contents_of.ensures file
    (c.in_ok-seek.ensures.scanned file here
    (scanned-begun file r c.new-scan.result c.dictionary.result.now (b.reads.read b.begun.3 file here) b.begun.2
    c.dictionary.ensures c.new-scan.ensures.sound c.new-scan.ensures.layouts c.new-scan.ensures.channels
    c.new-scan.ensures.table))
    (c.in_ok-seek.ensures.end file here) c.in_ok-seek.ensures.last

pub returns-in_err-seek-clause-fault : goal.returns-in_err-seek-clause-fault
returns-in_err-seek-clause-fault g c = λ fault is file told.
    let was : c.take_items.result ≡ Err (error.Fault fault) = search rules in
    let here : file_of (g.S.Shelf.outside c.begin.new.shelf) c.in_ok-reader.reader.position.slot ≡ Some file =
    rw c.in_ok-reader.ensures.slot (file_of-drawn _ _ _ c.begin.ensures.draws.draws ∙ told) in
    c.take_items.ensures.fault fault was file here

pub returns-in_err-seek-clause-draws : goal.returns-in_err-seek-clause-draws
returns-in_err-seek-clause-draws g c =
    draws_more _ _ _ _ _ c.begin.ensures.draws.draws c.in_ok-reader.ensures.slot c.take_items.ensures.draws

pub returns-clause-draws : goal.returns-clause-draws
returns-clause-draws g c =
    draws_more _ _ _ _ _ c.begin.ensures.draws.draws c.in_ok-reader.ensures.slot c.take_items.ensures.draws
