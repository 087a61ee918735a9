-- The header as it was read.
use Rattle.std.proofs.Common.{◌≡◌, ◌∙◌, Err, ap, arith}
use Rattle.frame_head.specs.Header.{header_of}
use Rattle.file_grammar.specs.declared.reason.Reason.TheVariants.{BadHeader}
use Rattle.file_grammar.specs.Fault.{fault_at}
use Rattle.item_reader.proofs.HeaderRead.{cut-header, is-front, bad-header}
use Rattle.item_reader.proofs.opening.read_order.Goals as goal

pub returns-then-read-lt-HEADER_SIZE-clause-fault : goal.returns-then-read-lt-HEADER_SIZE-clause-fault
returns-then-read-lt-HEADER_SIZE-clause-fault g c = λ fault is reading told.
    cut-header reading.opened c.in_ok-read.read c.args.source.now.at fault c.requires.beginning
    (omega (arith, c.in_ok-read.ensures.count reading told)) c.if-read-lt-HEADER_SIZE.true cc

pub returns-then-read-lt-HEADER_SIZE-clause-device : goal.returns-then-read-lt-HEADER_SIZE-clause-device
returns-then-read-lt-HEADER_SIZE-clause-device g c = λ is. absurd cc

pub returns-in-Err-clause-device : goal.returns-in-Err-clause-device
returns-in-Err-clause-device g c = λ is. absurd cc

pub returns-in-Ok-clause-order : goal.returns-in-Ok-clause-order
returns-in-Ok-clause-order g c = λ reading told.
    let front = is-front reading.opened c.fill.new.into c.in_ok-read.read c.args.source.now.at
    c.requires.beginning
    (omega arith) (c.in_ok-read.ensures.count reading told) (c.in_ok-read.ensures.filled reading told)
    c.if-read-lt-HEADER_SIZE.false in
    (front.size, ap header_of front.front ∙ cc)

pub returns-in-Err-clause-fault : goal.returns-in-Err-clause-fault
returns-in-Err-clause-fault g c = λ fault is reading told.
    let front = is-front reading.opened c.fill.new.into c.in_ok-read.read c.args.source.now.at
    c.requires.beginning
    (omega arith) (c.in_ok-read.ensures.count reading told) (c.in_ok-read.ensures.filled reading told)
    c.if-read-lt-HEADER_SIZE.false in
    let wrong : header_of c.fill.new.into ≡ Err (record { at = c.in-Err.fault.at }) = cc in
    let told : fault ≡ fault_at BadHeader (c.in-Err.fault.at, 0) = cc in
    bad-header reading.opened c.fill.new.into c.in-Err.fault.at fault front wrong told
