-- Whatever frame is whole is the one of its number, and can be written.
use Rattle.sample_file.proofs.LentFrames.{whole-read, not-loose, sample-lent}
use Rattle.sample_file.proofs.frames.SampleFrame.number.Goals as goal

pub close-requires : goal.close-requires
close-requires c = whole-read c.args.self.now c.requires.whole.0 c.requires.room c.requires.whole.1

pub unreachable-requires : goal.unreachable-requires
unreachable-requires c =
    not-loose c.args.self.now c.requires.whole.0 c.in-Err-LooseLink.field-0-0 c.in-Err-LooseLink.field-0-1
    c.requires.room c.requires.whole.1
    (c.close.ensures.loose c.in-Err-LooseLink.field-0-0 c.in-Err-LooseLink.field-0-1 (cc))

pub returns-in-Ok : goal.returns-in-Ok
returns-in-Ok c = λ k whole.
    sample-lent c.orders_are_unique.ensures c.args.self.now k c.in-Ok.numbering c.requires.room c.get.ensures.sound
    whole c.in-Ok.ensures.order
