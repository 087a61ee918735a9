-- Each item by what it brings to the frames that were given.
use Rattle.std.proofs.Common.{◌≡◌, ℕ, List, true, false, Some, Ok, Err, OnErr, refl, sym, ap, subst, ◌∙◌, arith}
use Rattle.std.proofs.Common.{◌≤◌}
use Rattle.std.proofs.lemmas.Result.{err_from_is_err_and}
use Rattle.structure_source.specs.Source.{GoesOn as Passes, bytes_drawn}
use Rattle.structure_source.proofs.Going.{goes-none}
use Rattle.frame_content.specs.Frames.{Frame}
use Rattle.item_reader.specs.declared.item.Item.TheVariants as item
use Rattle.item_reader.specs.Reader.{Reader, Reads, IsFileEnd, file_of}
use Rattle.frame_reader.specs.Given.{Frames, HasGiven, HasLooked, GoesOn}
use Rattle.frame_reader.proofs.Giving.{given_on-init, given_on-given}
use Rattle.frame_reader.proofs.Giving.{frame-given, end-given, looked-on, unread-goes}
use Rattle.frame_reader.proofs.OnTheWay.{known, item-goes, start-again, entries-keep}
use Rattle.frame_reader.proofs.OnTheWay.{not-again, still-open, place-on, given-on}
use Rattle.frame_reader.proofs.reader.FrameReader.next.Goals as goal

pub items-init : goal.items-init
items-init g c = record {
  reads = c.requires.reads;
  error = c.requires.error;
  again = λ closed. refl;
  unclosed = λ unclosed. unclosed;
  passes = goes-none (g.S.Shelf.outside c.args.shelf.now) c.args.self.now.reader.position;
  order = refl;
  place = omega arith;
  given = given_on-init (g.S.Shelf.outside c.args.shelf.now) c.args.self.now;
}

pub returns-in_err-item-clause-goes : goal.returns-in_err-item-clause-goes
returns-in_err-item-clause-goes g c = λ file frames told bytes still given.
    let o = g.S.Shelf.outside in
    let new : Frames = record { reader = c.next.new.self; layouts = c.self.inside.layouts } in
    let r : Frames = record { reader = c.self.inside.items; layouts = c.self.inside.layouts } in
    let k =
    known (o c.args.shelf.now) (o c.items.shelf) (o c.next.new.shelf) c.args.self.now c.items.self r
    c.next.new.self c.self.view_is c.items.invariant.unclosed c.items.invariant.error c.items.invariant.given
    c.items.invariant.passes c.next.ensures.draws in
    let has =
    given_on-given (o c.args.shelf.now) c.args.self.now r file frames k.given told still given in
    let p = err_from_is_err_and c.from_residual.result c.from_residual.ensures.1 in
    subst (GoesOn file frames new) (sym (p.1 ∙ ap (λ e. Err e) p.2))
    (unread-goes file frames r new c.in_err-item.field-0.0 has (k.still still)
    (λ fault is. c.next.ensures.at fault (c.in_err-item.was ∙ ap (λ e. Err e) is) k.error file (k.told file told)))

pub returns-in_err-item-clause-ahead : goal.returns-in_err-item-clause-ahead
returns-in_err-item-clause-ahead g c =
    let o = g.S.Shelf.outside in
    let r : Frames = record { reader = c.self.inside.items; layouts = c.self.inside.layouts } in
    let k =
    known (o c.args.shelf.now) (o c.items.shelf) (o c.next.new.shelf) c.args.self.now c.items.self r
    c.next.new.self c.self.view_is c.items.invariant.unclosed c.items.invariant.error c.items.invariant.given
    c.items.invariant.passes c.next.ensures.draws in
    let p = err_from_is_err_and c.from_residual.result c.from_residual.ensures.1 in
    subst (λ result. OnErr result ((file : List ℕ) (frames : List Frame)
    → file_of (o c.args.shelf.now) c.args.self.now.reader.position.slot ≡ Some file
    → c.args.self.now.reader.before.closed ≡ false → HasGiven file frames c.args.self.now
    → HasLooked file frames (bytes_drawn c.next.new.self.position))) (sym p.1) (λ file frames told still given.
    looked-on file frames r (bytes_drawn c.next.new.self.position)
    (given_on-given (o c.args.shelf.now) c.args.self.now r file frames k.given told still given)
    (c.in_err-item.ensures.ahead k.error file (k.told file told)))

pub returns-in_err-item-clause-draws : goal.returns-in_err-item-clause-draws
returns-in_err-item-clause-draws g c =
    let o = g.S.Shelf.outside in
    let r : Frames = record { reader = c.self.inside.items; layouts = c.self.inside.layouts } in
    (known (o c.args.shelf.now) (o c.items.shelf) (o c.next.new.shelf) c.args.self.now c.items.self r
    c.next.new.self c.self.view_is c.items.invariant.unclosed c.items.invariant.error c.items.invariant.given
    c.items.invariant.passes c.next.ensures.draws).passes

pub returns-in-FrameEnd-clause-goes : goal.returns-in-FrameEnd-clause-goes
returns-in-FrameEnd-clause-goes g c = λ file frames told bytes still given.
    let o = g.S.Shelf.outside in
    let r : Frames = record { reader = c.self.inside.items; layouts = c.self.inside.layouts } in
    let k =
    known (o c.args.shelf.now) (o c.items.shelf) (o c.next.new.shelf) c.args.self.now c.items.self r
    c.next.new.self c.self.view_is c.items.invariant.unclosed c.items.invariant.error c.items.invariant.given
    c.items.invariant.passes c.next.ensures.draws in
    frame-given file r c.next.new.self c.in-FrameEnd.at c.in-FrameEnd.class frames bytes
    (item-goes (o c.args.shelf.now) (o c.items.shelf)
    (o c.next.new.shelf) c.args.self.now r c.next.new.self c.next.result
    (item.FrameEnd c.in-FrameEnd.at c.in-FrameEnd.class) k (c.in_ok-item.was ∙ ap Ok c.in-FrameEnd.is)
    c.next.ensures.item still file told)
    (sym c.next.ensures.order)
    (given_on-given (o c.args.shelf.now) c.args.self.now r file frames k.given told still given)

pub returns-in-FrameEnd-clause-keeps : goal.returns-in-FrameEnd-clause-keeps
returns-in-FrameEnd-clause-keeps g c =
    let o = g.S.Shelf.outside in
    let r : Frames = record { reader = c.self.inside.items; layouts = c.self.inside.layouts } in
    entries-keep (o c.args.shelf.now) (o c.items.shelf) (o c.next.new.shelf) c.args.self.now r c.next.new.self
    c.next.result c.in_ok-item.item
    (known (o c.args.shelf.now) (o c.items.shelf) (o c.next.new.shelf) c.args.self.now c.items.self r
    c.next.new.self c.self.view_is c.items.invariant.unclosed c.items.invariant.error c.items.invariant.given
    c.items.invariant.passes c.next.ensures.draws)
    c.in_ok-item.was c.next.ensures.item (λ closed.
    start-again c.args.self.now c.items.self r c.next.new.self c.next.result c.self.view_is
    (c.items.invariant.again closed) c.items.invariant.error c.self.invariant c.next.ensures.end_again closed)

pub returns-in-FrameEnd-clause-draws : goal.returns-in-FrameEnd-clause-draws
returns-in-FrameEnd-clause-draws g c =
    let o = g.S.Shelf.outside in
    let r : Frames = record { reader = c.self.inside.items; layouts = c.self.inside.layouts } in
    (known (o c.args.shelf.now) (o c.items.shelf) (o c.next.new.shelf) c.args.self.now c.items.self r
    c.next.new.self c.self.view_is c.items.invariant.unclosed c.items.invariant.error c.items.invariant.given
    c.items.invariant.passes c.next.ensures.draws).passes

pub returns-in-FileEnd-clause-goes : goal.returns-in-FileEnd-clause-goes
returns-in-FileEnd-clause-goes g c = λ file frames told bytes still given.
    let o = g.S.Shelf.outside in
    let r : Frames = record { reader = c.self.inside.items; layouts = c.self.inside.layouts } in
    let k =
    known (o c.args.shelf.now) (o c.items.shelf) (o c.next.new.shelf) c.args.self.now c.items.self r
    c.next.new.self c.self.view_is c.items.invariant.unclosed c.items.invariant.error c.items.invariant.given
    c.items.invariant.passes c.next.ensures.draws in
    let e = c.in-FileEnd in
    end-given file r c.next.new.self e.at e.class e.length e.seek frames
    (item-goes (o c.args.shelf.now) (o c.items.shelf)
    (o c.next.new.shelf) c.args.self.now r c.next.new.self c.next.result
    (item.FileEnd e.at e.class e.length e.seek) k (c.in_ok-item.was ∙ ap Ok e.is) c.next.ensures.item still file told)
    (sym c.next.ensures.order)
    (c.in_ok-item.ensures.end (subst IsFileEnd (sym e.is) tt) file (k.told file told))
    (given_on-given (o c.args.shelf.now) c.args.self.now r file frames k.given told still given)

pub returns-in-FileEnd-clause-keeps : goal.returns-in-FileEnd-clause-keeps
returns-in-FileEnd-clause-keeps g c =
    let o = g.S.Shelf.outside in
    let r : Frames = record { reader = c.self.inside.items; layouts = c.self.inside.layouts } in
    entries-keep (o c.args.shelf.now) (o c.items.shelf) (o c.next.new.shelf) c.args.self.now r c.next.new.self
    c.next.result c.in_ok-item.item
    (known (o c.args.shelf.now) (o c.items.shelf) (o c.next.new.shelf) c.args.self.now c.items.self r
    c.next.new.self c.self.view_is c.items.invariant.unclosed c.items.invariant.error c.items.invariant.given
    c.items.invariant.passes c.next.ensures.draws)
    c.in_ok-item.was c.next.ensures.item (λ closed.
    start-again c.args.self.now c.items.self r c.next.new.self c.next.result c.self.view_is
    (c.items.invariant.again closed) c.items.invariant.error c.self.invariant c.next.ensures.end_again closed)

pub returns-in-FileEnd-clause-draws : goal.returns-in-FileEnd-clause-draws
returns-in-FileEnd-clause-draws g c =
    let o = g.S.Shelf.outside in
    let r : Frames = record { reader = c.self.inside.items; layouts = c.self.inside.layouts } in
    (known (o c.args.shelf.now) (o c.items.shelf) (o c.next.new.shelf) c.args.self.now c.items.self r
    c.next.new.self c.self.view_is c.items.invariant.unclosed c.items.invariant.error c.items.invariant.given
    c.items.invariant.passes c.next.ensures.draws).passes

pub items-preserved : goal.items-preserved
items-preserved g c =
    let o = g.S.Shelf.outside in
    let r : Frames = record { reader = c.self.inside.items; layouts = c.self.inside.layouts } in
    let k =
    known (o c.args.shelf.now) (o c.items.shelf) (o c.next.new.shelf) c.args.self.now c.items.self r
    c.next.new.self c.self.view_is c.items.invariant.unclosed c.items.invariant.error c.items.invariant.given
    c.items.invariant.passes c.next.ensures.draws in
    let never : c.args.self.now.reader.before.closed ≡ true → ⊥ = λ closed.
    not-again c.next.result c.args.self.now.reader c.next.new.self c.in_ok-item.item c.in_ok-item.was
    c.in_default-item.not-FileEnd
    (start-again c.args.self.now c.items.self r c.next.new.self c.next.result c.self.view_is
    (c.items.invariant.again closed) c.items.invariant.error c.self.invariant c.next.ensures.end_again closed) in
    let moved = sym c.follow.ensures.reader in
    record {
      reads = subst (Reads (o c.next.new.shelf)) moved c.next.ensures.reads;
      error = ap (λ (x : Reader). x.error) c.follow.ensures.reader ∙ c.in_ok-item.ensures.no_error;
      again = λ closed. absurd (never closed);
      unclosed = λ unclosed. ap (λ (x : Reader). x.before.closed) c.follow.ensures.reader
          ∙ still-open c.in_ok-item.item c.next.new.self c.in_default-item.not-FileEnd c.in_ok-item.ensures.closed.1;
      passes = subst (λ (x : Reader). Passes (o c.args.shelf.now) (o c.next.new.shelf)
          c.args.self.now.reader.position x.position) moved k.passes;
      order = ap (λ (x : Reader). x.order) c.follow.ensures.reader ∙ c.next.ensures.order
          ∙ ap (λ (x : Frames). x.reader.order) c.self.view_is ∙ c.items.invariant.order;
      place = subst (λ (x : Reader). c.args.self.now.reader.before.place ≤ x.before.place) moved
          (place-on c.args.self.now r c.next.new.self
          (subst (λ (x : Frames). c.args.self.now.reader.before.place ≤ x.reader.before.place) (sym c.self.view_is)
          c.items.invariant.place) never k.still c.in_ok-item.ensures.on);
      given = given-on (o c.args.shelf.now) (o c.items.shelf)
          (o c.next.new.shelf) c.args.self.now r c.follow.new.self c.next.new.self c.next.result
          c.in_ok-item.item k c.in_ok-item.was c.next.ensures.item (sym c.next.ensures.order)
          c.in_default.not-FrameEnd c.follow.ensures.reader c.follow.ensures.layouts;
    }
