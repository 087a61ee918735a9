-- The next item, or the fault that stands there.
use Rattle.std.proofs.Common.{◌≡◌, ◌+◌, ◌≤◌, Some, refl, sym, ap, ◌∙◌, subst, arith}
use Rattle.structure_source.specs.Source.{bytes_drawn}
use Rattle.structure_source.proofs.Going.{goes-more}
use Rattle.file_grammar.specs.Item.{Before}
use Rattle.file_grammar.specs.Fault.{fault_here}
use Rattle.item_reader.specs.declared.cursor.Cursor.{Cursor}
use Rattle.item_reader.specs.declared.state.State.{State}
use Rattle.item_reader.specs.declared.structure.Placed.{Placed}
use Rattle.item_reader.specs.State.{IsSound, HasRows, before_of}
use Rattle.item_reader.specs.Placed.{placed_at}
use Rattle.item_reader.specs.Looked.{look, IsWithinLook}
use Rattle.item_reader.specs.Cursor.{GivesNext, IsHeadOf}
use Rattle.item_reader.proofs.Giving.{refused-in, err-within}
use Rattle.item_reader.proofs.Advancing.{in-file-before, in-file-later, in-file-same, size-none, on-err}
use Rattle.item_reader.proofs.cursor.Cursor.advance.Goals as goal

pub returns-in_err-common-clause-answers : goal.returns-in_err-common-clause-answers
returns-in_err-common-clause-answers g c =
    let old : Cursor = c.args.self.now in
    let opened : Cursor = record old { state = c.open_frame.new.self } in
    refused-in (g.S.Shelf.outside c.args.shelf.now) old c.from_residual.result c.in_err-common.field-0.0
    c.head.new.self c.from_residual.ensures.1
    (λ fault is. in-file-same (g.S.Shelf.outside c.args.shelf.now) old opened
    (λ h. fault_here h ≡ Some fault) refl c.open_frame.ensures.order
    c.open_frame.ensures.before (c.in_err-common.ensures.fault fault is))

pub returns-in_err-common-clause-ahead : goal.returns-in_err-common-clause-ahead
returns-in_err-common-clause-ahead g c =
    let old : Cursor = c.args.self.now in
    let opened : Cursor = record old { state = c.open_frame.new.self } in
    err-within c.from_residual.result (g.S.Shelf.outside c.args.shelf.now) old c.head.new.self.source
    (in-file-same (g.S.Shelf.outside c.args.shelf.now) old opened
    (λ h. bytes_drawn c.head.new.self.source ≤ look h.order h.file h.before.place) refl c.open_frame.ensures.order
    c.open_frame.ensures.before c.in_err-common.ensures.ahead)

pub take-requires : goal.take-requires
take-requires g c =
    let outside = g.S.Shelf.outside c.args.shelf.now in
    let old : Cursor = c.args.self.now in
    let opened : Cursor = record old { state = c.open_frame.new.self } in
    let rest = c.in_ok-common.ensures.rest in
    let ready : Cursor = record c.head.new.self { instance = c.placed_at-placed.result.instance } in
    let state_is : c.head.new.self.state ≡ c.open_frame.new.self = ap (λ (x : Cursor). x.state) rest in
    let size = size-none c.in_ok-common.common.length (sym c.size_reason.ensures ∙ c.in_default.is) in
    record {
      stands = c.in_ok-common.ensures.stands;
      sound = subst IsSound (sym state_is) c.open_frame.ensures.sound;
      rows = subst (λ (x : Cursor). HasRows x.state x.links) (sym rest)
          (c.open_frame.ensures.rows old.links c.requires.rows);
      pending = ap (λ (s : State). s.segment.pending) state_is ∙ c.open_frame.ensures.pending c.requires.pending;
      unclosed = ap (λ (s : State). s.closed) state_is
          ∙ ap (λ (b : Before). b.closed) c.open_frame.ensures.before ∙ c.requires.unclosed;
      frame = ap (λ (s : State). s.numbering) state_is ∙ c.open_frame.ensures.«open»;
      place = c.in_ok-common.ensures.place ∙ ap (λ (s : State). s.at + 14) (sym state_is);
      looked = c.in_ok-common.ensures.looked;
      here = record {
        place = ap (λ (p : Placed). p.at) c.placed_at-placed.ensures;
        head = omega (arith, size.0, ap (λ (p : Placed). p.length) c.placed_at-placed.ensures);
        small = omega (arith, size.1, ap (λ (p : Placed). p.length) c.placed_at-placed.ensures);
      };
      instance = refl;
      head = in-file-later outside (g.S.Shelf.outside c.head.new.shelf) opened ready
          (λ h. IsHeadOf h c.placed_at-placed.result) c.in_ok-common.ensures.on
          (ap (λ (s : State). s.segment.order) state_is) (ap before_of state_is)
          (λ reading seen. record {
            common = c.in_ok-common.common;
            placed = c.placed_at-placed.ensures ∙ ap (λ (s : State). placed_at s.at c.in_ok-common.common) state_is;
            head = c.in_ok-common.ensures.head reading seen;
          });
    }

pub returns-clause-on : goal.returns-clause-on
returns-clause-on g c =
    goes-more (g.S.Shelf.outside c.args.shelf.now) (g.S.Shelf.outside c.head.new.shelf)
    (g.S.Shelf.outside c.take.new.shelf) c.args.self.now.source c.head.new.self.source c.take.new.self.source
    c.in_ok-common.ensures.on c.take.ensures.on

pub returns-clause-answers : goal.returns-clause-answers
returns-clause-answers g c =
    let state_is = ap (λ (x : Cursor). x.state) c.in_ok-common.ensures.rest in
    in-file-before (g.S.Shelf.outside c.args.shelf.now) (g.S.Shelf.outside c.head.new.shelf) c.args.self.now
    c.head.new.self (λ h. GivesNext h c.take.result c.take.new.self) c.in_ok-common.ensures.on
    c.in_ok-common.ensures.stands (ap (λ (s : State). s.segment.order) state_is ∙ c.open_frame.ensures.order)
    (ap before_of state_is ∙ c.open_frame.ensures.before) c.take.ensures.answers

pub returns-clause-ahead : goal.returns-clause-ahead
returns-clause-ahead g c =
    let state_is = ap (λ (x : Cursor). x.state) c.in_ok-common.ensures.rest in
    on-err c.take.result _ _
    (in-file-before (g.S.Shelf.outside c.args.shelf.now) (g.S.Shelf.outside c.head.new.shelf) c.args.self.now
    c.head.new.self (λ h. IsWithinLook h.order h.file h.before.place (bytes_drawn c.take.new.self.source))
    c.in_ok-common.ensures.on c.in_ok-common.ensures.stands
    (ap (λ (s : State). s.segment.order) state_is ∙ c.open_frame.ensures.order)
    (ap before_of state_is ∙ c.open_frame.ensures.before)) c.take.ensures.ahead
