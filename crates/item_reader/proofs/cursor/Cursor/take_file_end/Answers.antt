-- The end of the file, and the byte after it.
use Rattle.std.proofs.Common.{◌≡◌, ◌+◌, sym, ap, ◌∙◌, subst, arith}
use Rattle.std.specs.Prelude.{Err}
use Rattle.structure_source.proofs.Going.{goes-more}
use Rattle.file_grammar.specs.declared.kind.Kind.TheVariants.{FrEndOfFile}
use Rattle.file_grammar.specs.Fault.{Here, kind}
use Rattle.item_reader.specs.declared.cursor.Cursor.{Cursor}
use Rattle.item_reader.specs.declared.state.State.{State}
use Rattle.item_reader.specs.State.{HasRows, here_in}
use Rattle.item_reader.specs.Cursor.{GivesNext}
use Rattle.item_reader.proofs.Located.{kind-here}
use Rattle.item_reader.proofs.Giving.{refused-in, within, err-within, looked-nothing}
use Rattle.item_reader.proofs.Ending.{beyond-look, no_more, one_more, end-takes, gives-end, trailing-fault}
use Rattle.item_reader.proofs.cursor.Cursor.take_file_end.Goals as goal

pub returns-in_err-bring_own-clause-answers : goal.returns-in_err-bring_own-clause-answers
returns-in_err-bring_own-clause-answers g c =
    refused-in (g.S.Shelf.outside c.args.shelf.now) c.args.self.now c.from_residual.result
    c.in_err-bring_own.field-0.0 c.bring_own.new.self c.from_residual.ensures.1 c.in_err-bring_own.ensures.cut

pub returns-in_err-bring_own-clause-ahead : goal.returns-in_err-bring_own-clause-ahead
returns-in_err-bring_own-clause-ahead g c =
    err-within c.from_residual.result (g.S.Shelf.outside c.args.shelf.now) c.args.self.now
    c.bring_own.new.self.source c.in_err-bring_own.ensures.ahead

pub returns-in_err-item-clause-ahead : goal.returns-in_err-item-clause-ahead
returns-in_err-item-clause-ahead g c =
    err-within c.from_residual-in_err-item.result (g.S.Shelf.outside c.args.shelf.now) c.args.self.now
    c.bring_own.new.self.source c.in_ok-bring_own.ensures.ahead

pub returns-in_err-skip-clause-on : goal.returns-in_err-skip-clause-on
returns-in_err-skip-clause-on g c =
    goes-more _ _ _ _ _ _ c.in_ok-bring_own.ensures.on c.in_err-skip.ensures.on

pub returns-in_err-skip-clause-ahead : goal.returns-in_err-skip-clause-ahead
returns-in_err-skip-clause-ahead g c =
    err-within c.from_residual-in_err-skip.result (g.S.Shelf.outside c.args.shelf.now) c.args.self.now
    c.skip.new.self
    (beyond-look (g.S.Shelf.outside c.args.shelf.now) c.args.self.now c.args.end c.bring_own.new.self.source
    c.skip.new.self c.requires.passed c.in_ok-bring_own.ensures.ahead c.in_ok-bring_own.ensures.place
    c.in_err-skip.ensures.bounded)

pub returns-then-branch-clause-on : goal.returns-then-branch-clause-on
returns-then-branch-clause-on g c =
    goes-more _ _ _ _ _ _ c.in_ok-bring_own.ensures.on c.in_ok-skip.ensures.on

pub returns-then-branch-clause-ahead : goal.returns-then-branch-clause-ahead
returns-then-branch-clause-ahead g c =
    within (g.S.Shelf.outside c.args.shelf.now) c.args.self.now c.skip.new.self
    (beyond-look (g.S.Shelf.outside c.args.shelf.now) c.args.self.now c.args.end c.bring_own.new.self.source
    c.skip.new.self c.requires.passed c.in_ok-bring_own.ensures.ahead c.in_ok-bring_own.ensures.place
    c.in_ok-skip.ensures.bounded)

pub returns-then-branch-clause-answers : goal.returns-then-branch-clause-answers
returns-then-branch-clause-answers g c = λ reading told.
    let s = c.args.self.now.state in
    let p = c.args.end in
    let h : Here = here_in s reading.opened in
    let state_is : c.bring_own.new.self.state ≡ s =
    ap (λ (x : Cursor). x.state) c.in_ok-bring_own.ensures.rest in
    let stands = c.in_ok-bring_own.ensures.body reading told in
    let is : kind h ≡ FrEndOfFile = kind-here h p stands.placed ∙ c.requires.kind in
    let takes = end-takes s c.bring_own.new.self.state p c.bring_own.new.self.own.items c.as_slice.result.now
    c.in_ok-item.item c.take_file_end.new.self state_is c.as_slice.ensures.value c.in_ok-item.ensures.answers
    reading.opened stands in
    let moved : c.take_file_end.new.self.at ≡ c.bring_own.new.self.source.at = c.in_ok-item.ensures.moved
    ∙ ap (λ (x : State). x.at + p.length) state_is ∙ sym c.in_ok-bring_own.ensures.place in
    let more = one_more (g.S.Shelf.outside c.args.shelf.now) (g.S.Shelf.outside c.bring_own.new.shelf)
    c.args.self.now.source c.bring_own.new.self.source c.skip.new.self reading c.in_ok-bring_own.ensures.on
    c.in_ok-bring_own.ensures.stands told (rw c.if-branch.true at c.in_ok-skip.ensures.passes) in
    let new : Cursor = record c.bring_own.new.self {
      source = c.skip.new.self;
      state = c.take_file_end.new.self;
    } in
    subst (λ e. GivesNext h (Err e) new) (sym c.into.ensures)
    (trailing-fault h c.in_ok-item.item c.take_file_end.new.self takes is c.in_ok-item.ensures.closed
    (omega (arith, moved, more)) c.fault.result c.fault.ensures)

pub returns-clause-on : goal.returns-clause-on
returns-clause-on g c =
    goes-more _ _ _ _ _ _ c.in_ok-bring_own.ensures.on c.in_ok-skip.ensures.on

pub returns-clause-answers : goal.returns-clause-answers
returns-clause-answers g c = λ reading told.
    let s = c.args.self.now.state in
    let p = c.args.end in
    let h : Here = here_in s reading.opened in
    let state_is : c.bring_own.new.self.state ≡ s =
    ap (λ (x : Cursor). x.state) c.in_ok-bring_own.ensures.rest in
    let stands = c.in_ok-bring_own.ensures.body reading told in
    let is : kind h ≡ FrEndOfFile = kind-here h p stands.placed ∙ c.requires.kind in
    let takes = end-takes s c.bring_own.new.self.state p c.bring_own.new.self.own.items c.as_slice.result.now
    c.in_ok-item.item c.take_file_end.new.self state_is c.as_slice.ensures.value c.in_ok-item.ensures.answers
    reading.opened stands in
    let kept = c.in_ok-item.ensures.kept (ap (λ (x : State). x.segment.pending) state_is
    ∙ c.requires.passed.pending) in
    let moved : c.take_file_end.new.self.at ≡ s.at + p.length = c.in_ok-item.ensures.moved
    ∙ ap (λ (x : State). x.at + p.length) state_is in
    let last = no_more (g.S.Shelf.outside c.args.shelf.now) (g.S.Shelf.outside c.bring_own.new.shelf)
    c.args.self.now.source c.bring_own.new.self.source c.skip.new.self reading c.in_ok-bring_own.ensures.on
    c.in_ok-bring_own.ensures.stands told (rw c.if-branch.false at c.in_ok-skip.ensures.passes)
    c.in_ok-skip.ensures.on.forward c.in_ok-skip.ensures.within in
    let there = sym (moved ∙ sym c.in_ok-bring_own.ensures.place) in
    let new : Cursor = record c.bring_own.new.self {
      source = c.skip.new.self;
      state = c.take_file_end.new.self;
    } in
    gives-end h c.in_ok-item.item new takes p is stands
    (kept.order ∙ ap (λ (x : State). x.segment.order) state_is) kept.sound kept.pending
    (c.in_ok-item.ensures.frame.numbering ∙ ap (λ (x : State). x.numbering) state_is
    ∙ c.requires.passed.frame)
    (looked-nothing h.order h.file c.take_file_end.new.self.at c.skip.new.self.at c.bring_own.new.self.looked
    (ap (λ (x : Cursor). x.looked) c.in_ok-bring_own.ensures.rest ∙ c.requires.passed.looked)
    (last.0 ∙ there))
    (sym there ∙ last.1)
    (ap (λ (x : Cursor). x.instance) c.in_ok-bring_own.ensures.rest ∙ c.requires.passed.instance)

pub returns-clause-rows : goal.returns-clause-rows
returns-clause-rows g c =
    let has : HasRows c.bring_own.new.self.state c.bring_own.new.self.links =
    subst (λ (x : Cursor). HasRows x.state x.links) (sym c.in_ok-bring_own.ensures.rest) c.requires.passed.rows in
    c.in_ok-item.ensures.rows c.bring_own.new.self.links has
