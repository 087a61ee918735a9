-- Words are run as the command that they are.
use Rattle.std.proofs.Common.{◌≡◌, ◌+◌, length, Option, Some, None, sym, ap, ◌∙◌, arith}
use Rattle.std.proofs.lemmas.List.{length-map}
use Rattle.std.specs.String.{string_bytes}
use Rattle.frame_tool.specs.declared.command.Command.{Command}
use Rattle.frame_tool.specs.Words.{Form, WalkFile, CheckFile, ListFile, SameFiles, SpliceFiles, DumpFile, MakeFile}
use Rattle.frame_tool.specs.Words.{form_of, command_of, texts}
use Rattle.frame_tool.proofs.Replies.{replies_usage, runs_by}
use Rattle.frame_tool.proofs.SpliceWords.{two_words, splice_read, all_others}
use Rattle.frame_tool.proofs.MakeWords.{make_read}
use Rattle.frame_tool.proofs.dispatch.run.Goals as goal

-- the words are a command that is known better
read_as : (words : Option Form) (command same : Command) → Some (form_of command) ≡ words → command ≡ same
    → Some (form_of same) ≡ words
read_as words command same read is = sym (ap (λ (c : Command). Some (form_of c)) is) ∙ read

pub returns-in-None : goal.returns-in-None
returns-in-None g c =
    runs_by (texts c.args.words.now) None 0 _ _ _ _ _ c.in-None.ensures (omega arith)
    (replies_usage 0 _ _ _ _ c.answer_line.ensures.answer c.answer_line.ensures.text c.answer_line.ensures.device)

pub returns-in-Some-Walk : goal.returns-in-Some-Walk
returns-in-Some-Walk g c =
    let words = texts c.args.words.now in
    let read = read_as (command_of words) _ _ c.in-Some-Walk.ensures c.in-Some-Walk.field-0-is in
    runs_by words (Some (WalkFile c.in-Some-Walk.file.now)) 1 _ _ _ _ _ read
    (omega (arith, two_words words _ (sym read))) c.run_walk.ensures

pub returns-in-Some-Check : goal.returns-in-Some-Check
returns-in-Some-Check g c =
    let words = texts c.args.words.now in
    let read = read_as (command_of words) _ _ c.in-Some-Check.ensures c.in-Some-Check.field-0-is in
    runs_by words (Some (CheckFile c.in-Some-Check.file.now)) 1 _ _ _ _ _ read
    (omega (arith, two_words words _ (sym read))) c.run_report.ensures

pub returns-in-Some-List : goal.returns-in-Some-List
returns-in-Some-List g c =
    let words = texts c.args.words.now in
    let read = read_as (command_of words) _ _ c.in-Some-List.ensures c.in-Some-List.field-0-is in
    runs_by words (Some (ListFile c.in-Some-List.file.now)) 1 _ _ _ _ _ read
    (omega (arith, two_words words _ (sym read))) c.run_report-in-Some-List.ensures

pub returns-in-Some-Same : goal.returns-in-Some-Same
returns-in-Some-Same g c =
    let words = texts c.args.words.now in
    let read = read_as (command_of words) _ _ c.in-Some-Same.ensures c.in-Some-Same.field-0-is in
    runs_by words (Some (SameFiles c.in-Some-Same.first.now c.in-Some-Same.second.now)) 2 _ _ _ _ _ read
    (two_words words _ (sym read)) c.run_same.ensures

pub run_splice-requires-clause-some : goal.run_splice-requires-clause-some
run_splice-requires-clause-some g c =
    let words = texts c.args.words.now in
    let from = c.in-Some-Splice.from.now in
    let read = read_as (command_of words) _ _ c.in-Some-Splice.ensures c.in-Some-Splice.field-0-is in
    omega (arith, (splice_read words _ _ (sym read)).some, length-map from string_bytes)

pub run_splice-requires-clause-few : goal.run_splice-requires-clause-few
run_splice-requires-clause-few g c =
    let words = texts c.args.words.now in
    let from = c.in-Some-Splice.from.now in
    let read = read_as (command_of words) _ _ c.in-Some-Splice.ensures c.in-Some-Splice.field-0-is in
    omega (arith, (splice_read words _ _ (sym read)).few, length-map from string_bytes)

pub run_splice-requires-clause-apart : goal.run_splice-requires-clause-apart
run_splice-requires-clause-apart g c =
    let words = texts c.args.words.now in
    let read = read_as (command_of words) _ _ c.in-Some-Splice.ensures c.in-Some-Splice.field-0-is in
    all_others c.in-Some-Splice.to.now c.in-Some-Splice.from.now (splice_read words _ _ (sym read)).others

pub returns-in-Some-Splice : goal.returns-in-Some-Splice
returns-in-Some-Splice g c =
    let words = texts c.args.words.now in
    let from = c.in-Some-Splice.from.now in
    let read = read_as (command_of words) _ _ c.in-Some-Splice.ensures c.in-Some-Splice.field-0-is in
    let more = (splice_read words _ _ (sym read)).enough in
    runs_by words (Some (SpliceFiles c.in-Some-Splice.to.now (texts from))) (length from + 1) _ _ _ _ _ read
    (omega (arith, more, length-map from string_bytes)) c.run_splice.ensures

pub returns-in-Some-Dump : goal.returns-in-Some-Dump
returns-in-Some-Dump g c =
    let words = texts c.args.words.now in
    let read = read_as (command_of words) _ _ c.in-Some-Dump.ensures c.in-Some-Dump.field-0-is in
    runs_by words (Some (DumpFile c.in-Some-Dump.file.now)) 1 _ _ _ _ _ read
    (omega (arith, two_words words _ (sym read))) c.run_dump.ensures

pub run_make-requires : goal.run_make-requires
run_make-requires g c =
    let words = texts c.args.words.now in
    let read = read_as (command_of words) _ _ c.in-Some-Make.ensures c.in-Some-Make.field-0-is in
    make_read words c.in-Some-Make.frames c.in-Some-Make.to.now (sym read)

pub returns-in-Some-Make : goal.returns-in-Some-Make
returns-in-Some-Make g c =
    let words = texts c.args.words.now in
    let read = read_as (command_of words) _ _ c.in-Some-Make.ensures c.in-Some-Make.field-0-is in
    runs_by words (Some (MakeFile c.in-Some-Make.frames c.in-Some-Make.to.now)) 2 _ _ _ _ _ read
    (two_words words _ (sym read)) c.run_make.ensures
