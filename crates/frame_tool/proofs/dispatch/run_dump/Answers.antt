-- The reply that is due is that of the lines that were printed.
use Rattle.std.proofs.Common.{Err, ap, ◌∙◌}
use Rattle.frame_tool.proofs.Replies.{prints_faults}
use Rattle.frame_tool.proofs.Dumping.{replies_whole, replies_fault, replies_device, replies_memory}
use Rattle.frame_tool.proofs.dispatch.run_dump.Goals as goal

pub returns-in-Ok : goal.returns-in-Ok
returns-in-Ok g c =
    replies_whole _ _ _ _ c.args.file.now c.dump_file.result (record {
      answer = c.dump_file.ensures.answer;
      missing = c.dump_file.ensures.missing;
      shelf = c.dump_file.ensures.shelf;
      sink = c.dump_file.ensures.sink;
    }) c.in-Ok.is

pub returns-in-Err-Fault : goal.returns-in-Err-Fault
returns-in-Err-Fault g c =
    replies_fault _ _ _ _ _ c.args.file.now c.dump_file.result c.in-Err-Fault.fault c.answer_line.result (record {
      answer = c.dump_file.ensures.answer;
      missing = c.dump_file.ensures.missing;
      shelf = c.dump_file.ensures.shelf;
      sink = c.dump_file.ensures.sink;
    }) (c.in-Err-Fault.is ∙ ap Err c.in-Err-Fault.field-0-is) c.answer_line.ensures.answer c.answer_line.ensures.text
    (prints_faults _ _ _ _ c.answer_line.ensures.text) c.answer_line.ensures.device

pub returns-in-Err-Device : goal.returns-in-Err-Device
returns-in-Err-Device g c =
    let is = c.in-Err-Device.is ∙ ap Err c.in-Err-Device.field-0-is in
    replies_device _ _ _ _ c.args.file.now c.dump_file.result (record {
      answer = c.dump_file.ensures.answer;
      missing = c.dump_file.ensures.missing;
      shelf = c.dump_file.ensures.shelf;
      sink = c.dump_file.ensures.sink;
    }) is (c.dump_file.ensures.device is)

pub returns-in-Err-NoMemory : goal.returns-in-Err-NoMemory
returns-in-Err-NoMemory g c =
    replies_memory _ _ _ _ c.args.file.now c.dump_file.result (record {
      answer = c.dump_file.ensures.answer;
      missing = c.dump_file.ensures.missing;
      shelf = c.dump_file.ensures.shelf;
      sink = c.dump_file.ensures.sink;
    }) (c.in-Err-NoMemory.is ∙ ap Err c.in-Err-NoMemory.field-0-is)
