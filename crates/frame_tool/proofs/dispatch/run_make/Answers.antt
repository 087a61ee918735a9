-- The reply that is due is that of the file that was made.
use Rattle.std.proofs.Common.{Err, inl, inr, refl, ap, ◌∙◌}
use Rattle.frame_tool.specs.declared.outcome.Outcome.TheVariants.{Device, NoMemory}
use Rattle.frame_outside.specs.declared.traits.ShelfError.TheVariants.{Failed, NoMemory as NoRoom}
use Rattle.frame_tool.proofs.Making.{replies_checked, replies_unmade, made_by}
use Rattle.frame_tool.proofs.dispatch.run_make.Goals as goal

pub returns-in-Ok : goal.returns-in-Ok
returns-in-Ok g c =
    replies_checked _ _ _ _ _ c.args.frames c.args.to.now _ c.run_report.result c.make_file.ensures.shelf
    (made_by _ _ c.args.frames c.args.to.now c.make_file.result _ c.in-Ok.is c.make_file.ensures.made)
    c.run_report.ensures

pub returns-in-Err-Failed : goal.returns-in-Err-Failed
returns-in-Err-Failed g c =
    let is = c.in-Err-Failed.is ∙ ap Err c.in-Err-Failed.field-0-is in
    replies_unmade _ _ _ c.args.frames c.args.to.now Failed Device c.make_file.ensures.shelf
    (made_by _ _ c.args.frames c.args.to.now c.make_file.result _ is c.make_file.ensures.made) (inl refl)
    (λ same. c.make_file.ensures.failed is)

pub returns-in-Err-NoMemory : goal.returns-in-Err-NoMemory
returns-in-Err-NoMemory g c =
    let is = c.in-Err-NoMemory.is ∙ ap Err c.in-Err-NoMemory.field-0-is in
    replies_unmade _ _ _ c.args.frames c.args.to.now NoRoom NoMemory c.make_file.ensures.shelf
    (made_by _ _ c.args.frames c.args.to.now c.make_file.result _ is c.make_file.ensures.made) (inr refl)
    (λ same. absurd cc)
