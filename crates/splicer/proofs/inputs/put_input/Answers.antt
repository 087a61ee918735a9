-- The header is read, and what is put from there on is what is put of the input.
use Rattle.std.proofs.Common.{◌≡◌, ◌≤◌, Ok, Err, Result, ◌⊎◌, length, Some, OnOk, IsTrue, IsSome, sym, ap, subst, ◌∙◌}
use Rattle.std.proofs.lemmas.Result.{err_from_is_err_and}
use Rattle.frame_outside.specs.Shelf.{IsTarget}
use Rattle.item_reader.specs.Reader.{file_of}
use Rattle.file_content.proofs.WholeFiles.{file_of-drawn}
use Rattle.canonical_writer.specs.Writer.{Writer}
use Rattle.splicer.specs.declared.errors.InputError.{InputError}
use Rattle.splicer.specs.Errors.{error_of_read}
use Rattle.splicer.specs.Made.{IsMade}
use Rattle.splicer.specs.Put.{HasPut, Puts}
use Rattle.splicer.specs.Drawn.{DrawsInput}
use Rattle.splicer.proofs.OnlyWritten.{target-drawn}
use Rattle.splicer.proofs.PutsOn.{is_made-drawn}
use Rattle.splicer.proofs.ReadsOn.{read-begun, draws-unbegun, draws-ended}
use Rattle.splicer.proofs.Unread.{unbegun-unread}
use Rattle.splicer.proofs.FirstPut.{comes-drawn, puts-begun}
use Rattle.splicer.proofs.inputs.put_input.Goals as goal

-- what holds anyway holds where all is well
ok-there : {P : Type 0} (result : Result Unit InputError) → P → OnOk result P
ok-there (Ok x) p = p
ok-there (Err error) p = tt

-- ---- the header is not read

pub returns-in_err-frames-clause-puts : goal.returns-in_err-frames-clause-puts
returns-in_err-frames-clause-puts g c = λ old name inputs stood file told past comes.
    let first = g.S.Shelf.outside c.args.shelf.now in
    let now = g.S.Shelf.outside c.begin.new.shelf in
    let w = c.args.writer.now in
    let error = c.in_err-frames.field-0.0 in
    let p = err_from_is_err_and c.from_residual.result c.from_residual.ensures.1 in
    let is : c.from_residual.result ≡ Err (error_of_read error) = p.1 ∙ ap (λ e. Err e) p.2 in
    subst (λ result. Puts file w.closing stood old now name inputs w result) (sym is)
    (unbegun-unread file w.closing stood old now name inputs w error
    (λ fault is. c.begin.ensures.fault fault (c.in_err-frames.was ∙ ap (λ e. Err e) is) file told)
    (comes-drawn file stood old first now name inputs c.args.slot c.args.is_first w past c.begin.ensures.draws.draws
    comes))

pub returns-in_err-frames-clause-draws : goal.returns-in_err-frames-clause-draws
returns-in_err-frames-clause-draws g c = λ old name inputs stood file told past comes.
    let first = g.S.Shelf.outside c.args.shelf.now in
    let now = g.S.Shelf.outside c.begin.new.shelf in
    let w = c.args.writer.now in
    let error = c.in_err-frames.field-0.0 in
    let p = err_from_is_err_and c.from_residual.result c.from_residual.ensures.1 in
    let is : c.from_residual.result ≡ Err (error_of_read error) = p.1 ∙ ap (λ e. Err e) p.2 in
    subst (λ result. DrawsInput file w.closing stood first now result) (sym is)
    (draws-unbegun file w.closing stood first now c.args.slot error told c.begin.ensures.draws
    (λ fault is. c.begin.ensures.fault fault (c.in_err-frames.was ∙ ap (λ e. Err e) is) file told))

pub returns-in_err-frames-clause-made : goal.returns-in_err-frames-clause-made
returns-in_err-frames-clause-made g c = λ old name inputs past made.
    is_made-drawn old (g.S.Shelf.outside c.args.shelf.now) (g.S.Shelf.outside c.begin.new.shelf) name inputs
    c.args.writer.now.slot c.args.slot past c.begin.ensures.draws.draws made

-- ---- the frames

pub put_frames-requires-clause-target : goal.put_frames-requires-clause-target
put_frames-requires-clause-target g c =
    subst (λ (v : Writer). IsTarget (g.S.Shelf.outside c.begin.new.shelf).slots v.slot) (sym c.begin_source.ensures)
    (target-drawn (g.S.Shelf.outside c.args.shelf.now) (g.S.Shelf.outside c.begin.new.shelf) c.args.slot
    c.args.writer.now.slot c.begin.ensures.draws.draws c.requires.target)

pub returns-in_err-put_frames-clause-puts : goal.returns-in_err-put_frames-clause-puts
returns-in_err-put_frames-clause-puts g c = λ old name inputs stood file told past comes.
    let first = g.S.Shelf.outside c.args.shelf.now in
    let now = g.S.Shelf.outside c.begin.new.shelf in
    let last = g.S.Shelf.outside c.put_frames.new.shelf in
    let r = c.in_ok-frames.frames in
    let b = c.in_ok-frames.ensures in
    let w = c.args.writer.now in
    let v = c.begin_source.new.self in
    let u = c.put_frames.new.writer in
    let draws = c.begin.ensures.draws.draws in
    let here : file_of now r.reader.position.slot ≡ Some file =
    ap (file_of now) b.begun.0 ∙ file_of-drawn first now c.args.slot draws ∙ told in
    let past_here : length old.slots ≤ r.reader.position.slot =
    subst (λ slot. length old.slots ≤ slot) (sym b.begun.0) past in
    let closing : v.closing ≡ w.closing = ap (λ (v : Writer). v.closing) c.begin_source.ensures in
    let put = puts-begun file stood old first now name inputs c.args.slot c.args.is_first w v r past draws comes
    c.begin_source.ensures (b.given file told) in
    let p = err_from_is_err_and c.from_residual-in_err-put_frames.result
    c.from_residual-in_err-put_frames.ensures.1 in
    let is : c.from_residual-in_err-put_frames.result ≡ Err c.in_err-put_frames.field-0.0 =
    p.1 ∙ ap (λ e. Err e) p.2 in
    subst (λ result. Puts file w.closing stood old last name inputs u result) (sym is)
    (subst (λ closing. Puts file closing stood old last name inputs u (Err c.in_err-put_frames.field-0.0)) closing
    (c.in_err-put_frames.ensures.puts old name inputs stood file here past_here comes.bytes put))

pub returns-in_err-put_frames-clause-draws : goal.returns-in_err-put_frames-clause-draws
returns-in_err-put_frames-clause-draws g c = λ old name inputs stood file told past comes.
    let first = g.S.Shelf.outside c.args.shelf.now in
    let now = g.S.Shelf.outside c.begin.new.shelf in
    let last = g.S.Shelf.outside c.put_frames.new.shelf in
    let r = c.in_ok-frames.frames in
    let b = c.in_ok-frames.ensures in
    let w = c.args.writer.now in
    let v = c.begin_source.new.self in
    let draws = c.begin.ensures.draws.draws in
    let here : file_of now r.reader.position.slot ≡ Some file =
    ap (file_of now) b.begun.0 ∙ file_of-drawn first now c.args.slot draws ∙ told in
    let past_here : length old.slots ≤ r.reader.position.slot =
    subst (λ slot. length old.slots ≤ slot) (sym b.begun.0) past in
    let closing : v.closing ≡ w.closing = ap (λ (v : Writer). v.closing) c.begin_source.ensures in
    let put = puts-begun file stood old first now name inputs c.args.slot c.args.is_first w v r past draws comes
    c.begin_source.ensures (b.given file told) in
    let has = read-begun first now r.reader c.args.slot file told c.requires.beginning draws b.begun.0
    b.reads.stands in
    let p = err_from_is_err_and c.from_residual-in_err-put_frames.result
    c.from_residual-in_err-put_frames.ensures.1 in
    let is : c.from_residual-in_err-put_frames.result ≡ Err c.in_err-put_frames.field-0.0 =
    p.1 ∙ ap (λ e. Err e) p.2 in
    subst (λ result. DrawsInput file w.closing stood first last result) (sym is)
    (subst (λ closing. DrawsInput file closing stood first last (Err c.in_err-put_frames.field-0.0)) closing
    (c.in_err-put_frames.ensures.draws old name inputs stood file here past_here comes.bytes put first has))

pub returns-in_err-put_frames-clause-made : goal.returns-in_err-put_frames-clause-made
returns-in_err-put_frames-clause-made g c = λ old name inputs past made.
    let now = g.S.Shelf.outside c.begin.new.shelf in
    let b = c.in_ok-frames.ensures in
    c.put_frames.ensures.made old name inputs (subst (λ slot. length old.slots ≤ slot) (sym b.begun.0) past)
    (subst (λ (v : Writer). IsMade old now name inputs v.slot) (sym c.begin_source.ensures)
    (is_made-drawn old (g.S.Shelf.outside c.args.shelf.now) now name inputs c.args.writer.now.slot c.args.slot past
    c.begin.ensures.draws.draws made))

-- ---- the end

pub returns-clause-puts : goal.returns-clause-puts
returns-clause-puts g c = λ old name inputs stood file told past comes.
    let first = g.S.Shelf.outside c.args.shelf.now in
    let now = g.S.Shelf.outside c.begin.new.shelf in
    let last = g.S.Shelf.outside c.put_frames.new.shelf in
    let r = c.in_ok-frames.frames in
    let b = c.in_ok-frames.ensures in
    let w = c.args.writer.now in
    let v = c.begin_source.new.self in
    let u = c.put_frames.new.writer in
    let draws = c.begin.ensures.draws.draws in
    let here : file_of now r.reader.position.slot ≡ Some file =
    ap (file_of now) b.begun.0 ∙ file_of-drawn first now c.args.slot draws ∙ told in
    let past_here : length old.slots ≤ r.reader.position.slot =
    subst (λ slot. length old.slots ≤ slot) (sym b.begun.0) past in
    let closing : v.closing ≡ w.closing = ap (λ (v : Writer). v.closing) c.begin_source.ensures in
    let put = puts-begun file stood old first now name inputs c.args.slot c.args.is_first w v r past draws comes
    c.begin_source.ensures (b.given file told) in
    let both = c.in_ok-put_frames.ensures.puts old name inputs stood file here past_here comes.bytes put in
    c.end_input.ensures.ended file w.closing stood old last name inputs comes.bytes both.1 comes.first
    (subst (λ closing. HasPut file c.put_frames.new.frames closing stood old last name inputs u) closing both.0)

pub returns-clause-draws : goal.returns-clause-draws
returns-clause-draws g c = λ old name inputs stood file told past comes.
    let first = g.S.Shelf.outside c.args.shelf.now in
    let now = g.S.Shelf.outside c.begin.new.shelf in
    let last = g.S.Shelf.outside c.put_frames.new.shelf in
    let r = c.in_ok-frames.frames in
    let b = c.in_ok-frames.ensures in
    let w = c.args.writer.now in
    let v = c.begin_source.new.self in
    let u = c.put_frames.new.writer in
    let draws = c.begin.ensures.draws.draws in
    let here : file_of now r.reader.position.slot ≡ Some file =
    ap (file_of now) b.begun.0 ∙ file_of-drawn first now c.args.slot draws ∙ told in
    let past_here : length old.slots ≤ r.reader.position.slot =
    subst (λ slot. length old.slots ≤ slot) (sym b.begun.0) past in
    let closing : v.closing ≡ w.closing = ap (λ (v : Writer). v.closing) c.begin_source.ensures in
    let put = puts-begun file stood old first now name inputs c.args.slot c.args.is_first w v r past draws comes
    c.begin_source.ensures (b.given file told) in
    let has = read-begun first now r.reader c.args.slot file told c.requires.beginning draws b.begun.0
    b.reads.stands in
    let both = c.in_ok-put_frames.ensures.puts old name inputs stood file here past_here comes.bytes put in
    let all = c.in_ok-put_frames.ensures.draws old name inputs stood file here past_here comes.bytes put first has in
    subst (λ closing. DrawsInput file closing stood first last c.end_input.result) closing
    (draws-ended file c.put_frames.new.frames v.closing stood old last first last name inputs u c.end_input.result
    both.0 both.1 all (λ fault is. c.end_input.ensures.fault file fault is comes.bytes both.1))

pub returns-clause-made : goal.returns-clause-made
returns-clause-made g c = λ old name inputs past made.
    let now = g.S.Shelf.outside c.begin.new.shelf in
    let last = g.S.Shelf.outside c.put_frames.new.shelf in
    let b = c.in_ok-frames.ensures in
    subst (λ slot. IsMade old last name inputs slot) (sym c.end_input.ensures.rest.0)
    (c.put_frames.ensures.made old name inputs (subst (λ slot. length old.slots ≤ slot) (sym b.begun.0) past)
    (subst (λ (v : Writer). IsMade old now name inputs v.slot) (sym c.begin_source.ensures)
    (is_made-drawn old (g.S.Shelf.outside c.args.shelf.now) now name inputs c.args.writer.now.slot c.args.slot past
    c.begin.ensures.draws.draws made)))

pub returns-clause-target : goal.returns-clause-target
returns-clause-target g c =
    ok-there c.end_input.result
    (subst (λ slot. IsTarget (g.S.Shelf.outside c.put_frames.new.shelf).slots slot) (sym c.end_input.ensures.rest.0)
    c.in_ok-put_frames.ensures.target)

pub returns-clause-no_error : goal.returns-clause-no_error
returns-clause-no_error g c =
    ok-there c.end_input.result (c.end_input.ensures.rest.1 ∙ c.in_ok-put_frames.ensures.no_error)

pub returns-clause-holds : goal.returns-clause-holds
returns-clause-holds g c =
    subst (λ closing. OnOk c.end_input.result (IsTrue c.args.is_first ⊎ IsSome closing
    → IsSome c.end_input.new.writer.closing))
    (c.put_frames.ensures.kept.1 ∙ ap (λ (v : Writer). v.closing) c.begin_source.ensures) c.end_input.ensures.holds
