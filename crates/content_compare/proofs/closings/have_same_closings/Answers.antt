-- Of a file that has ended the closing is told.
use Rattle.std.proofs.Common.{Err, ap}
use Rattle.item_reader.specs.declared.item.ReadError.{ReadError}
use Rattle.content_compare.proofs.ReadFaults.{fault-read}
use Rattle.content_compare.proofs.closings.have_same_closings.Goals as goal

pub returns-in-Err-clause-fault : goal.returns-in-Err-clause-fault
returns-in-Err-clause-fault c number fault is file other frames others bytes also_bytes gives also =
    c.in-Err.ensures.fault fault
    (ap (λ (e : ReadError). Err e) (fault-read 0 c.in-Err.error c.of_file.result number fault c.of_file.ensures is))
    file frames bytes gives

pub returns-clause-fault : goal.returns-clause-fault
returns-clause-fault c number fault is file other frames others bytes also_bytes gives also =
    c.in-Err-closing.ensures.fault fault
    (ap (λ (e : ReadError). Err e)
    (fault-read 1 c.in-Err-closing.error c.of_file-in-Err-closing.result number fault
    c.of_file-in-Err-closing.ensures is))
    other others also_bytes also
