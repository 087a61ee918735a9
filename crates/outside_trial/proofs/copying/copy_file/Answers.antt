-- The file was held, since it was opened, and what was copied of it stands in the other.
use Rattle.std.proofs.Common.{inl, inr}
use Rattle.frame_outside.specs.Shelf.{Told}
use Rattle.outside_trial.specs.Copying.{CopiesAll, CopiesFront, IsCopied, KeepsOthers}
use Rattle.outside_trial.proofs.WholeFile.{IsReady, file_copied, file_copied_in_part, file_too_long}
use Rattle.outside_trial.proofs.WholeFile.{rose_before, if_ok, if_err}
use Rattle.outside_trial.proofs.copying.copy_file.Goals as goal

ready : (g : _) (c : goal.After-copy g) →
    IsReady (g.S.Shelf.outside c.args.shelf.now) (g.S.Shelf.outside c.target.new.self)
    c.args.from.now c.args.to.now c.in_ok-source.source c.in_ok-target.target
ready g c = record {
  is_held = λ files told missing. let failed = c.source.ensures.missing files told missing in let was =
      c.in_ok-source.was in cc;
  opened = g.S.Shelf.outside c.source.new.self;
  opens = c.in_ok-source.ensures.ok;
  makes = c.in_ok-target.ensures.ok;
}

pub returns-clause-ok : goal.returns-clause-ok
returns-clause-ok g c =
    let first = g.S.Shelf.outside c.args.shelf.now in
    let made = g.S.Shelf.outside c.target.new.self in
    let last = g.S.Shelf.outside c.copy.new.shelf in
    if_ok (CopiesAll made last c.in_ok-source.source c.in_ok-target.target)
    (λ count. Told first.files (λ files. IsCopied files last.files c.args.from.now c.args.to.now count))
    c.copy.result
    (λ count copies files told. file_copied first made last c.args.from.now c.args.to.now
    c.in_ok-source.source c.in_ok-target.target count files (ready g c) told copies)
    c.copy.ensures.all

pub returns-clause-err : goal.returns-clause-err
returns-clause-err g c =
    let first = g.S.Shelf.outside c.args.shelf.now in
    let made = g.S.Shelf.outside c.target.new.self in
    let last = g.S.Shelf.outside c.copy.new.shelf in
    if_err (CopiesFront made last c.in_ok-source.source c.in_ok-target.target)
    (KeepsOthers first last c.args.from.now c.args.to.now) c.copy.result
    (λ copies. file_copied_in_part first made last c.args.from.now c.args.to.now
    c.in_ok-source.source c.in_ok-target.target (ready g c) copies)
    c.copy.ensures.front

pub returns-clause-failed : goal.returns-clause-failed
returns-clause-failed g c = λ failed.
    let first = g.S.Shelf.outside c.args.shelf.now in
    let made = g.S.Shelf.outside c.target.new.self in
    let last = g.S.Shelf.outside c.copy.new.shelf in
    elim (c.copy.ensures.failed failed) [
      | inl rose ↦ inl (rose_before first made c.args.from.now c.args.to.now
          c.in_ok-source.source c.in_ok-target.target last.faults (ready g c) rose)
      | inr many ↦ inr (file_too_long first made last c.args.from.now c.args.to.now
          c.in_ok-source.source c.in_ok-target.target (ready g c) many)
    ]
