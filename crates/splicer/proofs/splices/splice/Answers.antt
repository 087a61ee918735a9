-- The first input is opened, the file is made, and the rest is what the writing of all inputs leaves.
use Rattle.std.proofs.Common.{◌≡◌, ◌≢◌, [], length, map, drop, string_bytes, Some, None, arith, subst}
use Rattle.std.proofs.lemmas.List.Elements.{All-map}
use Rattle.std.proofs.lemmas.Result.{err_from_is_err_and}
use Rattle.frame_head.specs.Header.{header_bytes}
use Rattle.frame_outside.specs.Shelf.{Files}
use Rattle.frame_reader.specs.Gives.{HoldBytes}
use Rattle.splicer.specs.Due.{Due, IsDue, IsDueFrom}
use Rattle.splicer.specs.Made.{IsMade}
use Rattle.splicer.specs.Spliced.{TellsFiles, HasOpened, Ends, LeavesShelf}
use Rattle.splicer.proofs.DrawnInputs.{drawn-none}
use Rattle.splicer.proofs.Making.{made-begun}
use Rattle.splicer.proofs.Splicing.{ends-unopened}
use Rattle.splicer.proofs.SpliceErrors.{refused-failed, begun-failed}
use Rattle.splicer.proofs.FirstInput.{names-at, first-source, first-beginning, first-target, opened-first, ends-unbegun}
use Rattle.splicer.proofs.FirstInput.{unbegun-taken, one-unbegun}
use Rattle.splicer.proofs.splices.splice.Goals as goal

pub returns-in_err-slot-clause-misses : goal.returns-in_err-slot-clause-misses
returns-in_err-slot-clause-misses g c = λ files told more due is.
    let names = names-at string_bytes c.args.from.now 0 c.index-from-0.result c.as_str.result.now (omega arith)
    c.index-from-0.is c.as_str.ensures.value in
    (ends-unopened files (g.S.Shelf.outside c.args.shelf.now) (g.S.Shelf.outside c.source.new.self) c.args.to.now
    c.as_str.result.now _ due _ told (refused-failed c.in_err-slot.field-0.0) c.in_err-slot.ensures.refused
    (subst (λ ns. IsDueFrom files None [] 0 ns due) names is.from)).misses more

pub returns-in_err-slot-clause-taken : goal.returns-in_err-slot-clause-taken
returns-in_err-slot-clause-taken g c = λ files told bytes.
    let refused = c.in_err-slot.ensures.refused in
    drawn-none files (map string_bytes c.args.from.now) (g.S.Shelf.outside c.args.shelf.now)
    (g.S.Shelf.outside c.source.new.self) (omega (arith, refused.taken))

pub returns-in_err-writer-clause-leaves : goal.returns-in_err-writer-clause-leaves
returns-in_err-writer-clause-leaves g c = λ files told due is.
    let p = err_from_is_err_and c.from_residual-in_err-writer.result c.from_residual-in_err-writer.ensures.1 in
    rw (p.1, p.2) (ends-unbegun files (map string_bytes c.args.from.now) (g.S.Shelf.outside c.args.shelf.now)
    (g.S.Shelf.outside c.source.new.self) (g.S.Shelf.outside c.begin.new.shelf) c.args.to.now c.as_str.result.now
    c.in_ok-slot.slot due _ told (begun-failed c.in_err-writer.field-0.0 c.in_err-writer.ensures.errors)
    c.in_ok-slot.ensures.ok c.in_err-writer.ensures.refused is.from).leaves

pub returns-in_err-writer-clause-taken : goal.returns-in_err-writer-clause-taken
returns-in_err-writer-clause-taken g c = λ files told bytes.
    drawn-none files (map string_bytes c.args.from.now) (g.S.Shelf.outside c.args.shelf.now)
    (g.S.Shelf.outside c.begin.new.shelf)
    (unbegun-taken _ _ _ c.as_str.result.now c.args.to.now c.in_ok-slot.slot c.in_ok-slot.ensures.ok
    c.in_err-writer.ensures.refused)

pub returns-in_err-writer-clause-shelf : goal.returns-in_err-writer-clause-shelf
returns-in_err-writer-clause-shelf g c =
    one-unbegun _ _ _ c.args.to.now _ _ (length c.args.from.now) c.in_ok-slot.ensures.ok c.in_err-writer.ensures.refused
    (omega arith)

pub splice_into-requires-clause-source : goal.splice_into-requires-clause-source
splice_into-requires-clause-source g c = first-source _ _ _ _ _ _ _ c.in_ok-slot.ensures.ok c.in_ok-writer.ensures.made

pub splice_into-requires-clause-beginning : goal.splice_into-requires-clause-beginning
splice_into-requires-clause-beginning g c =
    first-beginning _ _ _ _ _ _ _ c.in_ok-slot.ensures.ok c.in_ok-writer.ensures.made

pub splice_into-requires-clause-target : goal.splice_into-requires-clause-target
splice_into-requires-clause-target g c = first-target _ _ _ _ c.in_ok-writer.ensures.made

opened : (g : _) (c : goal.After-splice_into g) (files : Files)
    → (g.S.Shelf.outside c.args.shelf.now).files ≡ Some files → HoldBytes files
    → HasOpened files (map string_bytes c.args.from.now) (g.S.Shelf.outside c.args.shelf.now)
    (g.S.Shelf.outside c.begin.new.shelf) c.args.to.now 0 c.in_ok-slot.slot c.in_ok-writer.writer
opened g c files told bytes =
    let old = g.S.Shelf.outside c.args.shelf.now in
    let to = c.args.to.now in
    let all = map string_bytes c.args.from.now in
    let names = names-at string_bytes c.args.from.now 0 c.index-from-0.result c.as_str.result.now (omega arith)
    c.index-from-0.is c.as_str.ensures.value in
    let tells : TellsFiles files all old to = record {
      told = told;
      bytes = bytes;
      apart = All-map (λ name. name ≢ to) string_bytes c.args.from.now c.requires.apart;
    } in
    opened-first files all old (g.S.Shelf.outside c.source.new.self) (g.S.Shelf.outside c.begin.new.shelf) to
    c.as_str.result.now (drop 1 all) c.in_ok-slot.slot c.in_ok-writer.writer tells names
    (λ missing. let failed = c.source.ensures.missing files told missing in let was = c.in_ok-slot.was in cc)
    c.in_ok-slot.ensures.ok c.in_ok-writer.ensures.made c.in_ok-writer.ensures.begun

ended : (g : _) (c : goal.After-splice_into g) (files : Files)
    → (g.S.Shelf.outside c.args.shelf.now).files ≡ Some files → (due : Due)
    → IsDue files (map string_bytes c.args.from.now) due
    → Ends files (g.S.Shelf.outside c.args.shelf.now) (g.S.Shelf.outside c.splice_into.new.shelf) c.args.to.now due
    c.splice_into.result
ended g c files told due is =
    c.splice_into.ensures.ends (g.S.Shelf.outside c.args.shelf.now) c.args.to.now files (opened g c files told is.bytes)
    due is.from

pub returns-clause-answer : goal.returns-clause-answer
returns-clause-answer g c = λ files told due is. (ended g c files told due is).answer

pub returns-clause-leaves : goal.returns-clause-leaves
returns-clause-leaves g c = λ files told due is. (ended g c files told due is).leaves

pub returns-clause-misses : goal.returns-clause-misses
returns-clause-misses g c = λ files told more due is. (ended g c files told due is).misses more

pub returns-clause-taken : goal.returns-clause-taken
returns-clause-taken g c = λ files told bytes.
    c.splice_into.ensures.taken (g.S.Shelf.outside c.args.shelf.now) c.args.to.now files (opened g c files told bytes)

left : (g : _) (c : goal.After-splice_into g)
    → LeavesShelf (g.S.Shelf.outside c.args.shelf.now) (g.S.Shelf.outside c.splice_into.new.shelf) c.args.to.now
    (length c.args.from.now) c.splice_into.result
left g c =
    let old = g.S.Shelf.outside c.args.shelf.now in
    let made : IsMade old (g.S.Shelf.outside c.begin.new.shelf) c.args.to.now 1 c.in_ok-writer.writer.slot = record {
      bytes = header_bytes;
      made = made-begun old (g.S.Shelf.outside c.source.new.self) (g.S.Shelf.outside c.begin.new.shelf)
          c.as_str.result.now c.args.to.now c.in_ok-slot.slot c.in_ok-writer.writer.slot c.in_ok-slot.ensures.ok
          c.in_ok-writer.ensures.made;
    } in
    c.splice_into.ensures.leaves old c.args.to.now (omega (arith, c.in_ok-slot.ensures.ok.number)) made

pub returns-clause-shelf : goal.returns-clause-shelf
returns-clause-shelf g c = (left g c).shelf

pub returns-clause-device : goal.returns-clause-device
returns-clause-device g c = (left g c).device
