-- The link to the next channel is where the layouts have it.
use Rattle.std.proofs.Common.{sym}
use Rattle.contents_table.proofs.HeadFields.{next-none, next-there}
use Rattle.contents_table.proofs.layouts.ChannelLayouts.next_field.Goals as goal

pub returns-in_err-list : goal.returns-in_err-list
returns-in_err-list c = λ held plans s n k under.
    next-none held plans c.args.self.now s c.args.kind n k c.from_residual.result (sym c.in_err-list.ensures) under

pub returns : goal.returns
returns c = λ held plans s n k under.
    next-there held plans c.args.self.now s c.args.kind n k c.in_ok-list.field-0 c.in_ok-list.ensures under
