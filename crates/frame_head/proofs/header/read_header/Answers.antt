-- `accepted` holds of whatever the header is read as, which the other clause says.
use Rattle.std.proofs.Common.{rules, ◌≡◌, Ok, Err}
use Rattle.frame_head.specs.Header.{header_of}
use Rattle.frame_head.proofs.Accepted.{accepted_at}
use Rattle.frame_head.proofs.header.read_header.Goals as goal

pub returns-in-Some : goal.returns-in-Some
returns-in-Some c =
    let value : Err (record { at = c.into.result }) ≡ header_of c.args.bytes.now = search rules in
    record { value = value; accepted = accepted_at c.args.bytes.now c.told-bytes _ value }

pub returns-in-None : goal.returns-in-None
returns-in-None c =
    let value : Ok c.if-is_right.order ≡ header_of c.args.bytes.now = search rules in
    record { value = value; accepted = accepted_at c.args.bytes.now c.told-bytes _ value }
