-- The frame that was handed out.
use Rattle.std.proofs.Common.{◌≡◌, ℕ, List, [], Option, None, sym, subst}
use Rattle.link_graph.specs.Collected.{Collected}
use Rattle.item_reader.specs.declared.cursor.Cursor.{Cursor}
use Rattle.item_reader.specs.Reader.{Reader}
use Rattle.item_reader.proofs.LentBody.{shown, lifted}
use Rattle.item_reader.proofs.reader.ItemReader.lift.Goals as goal

pub returns-clause-rest : goal.returns-clause-rest
returns-clause-rest c =
    let s = c.self.inside in
    let old : Reader = c.args.self.now in
    let given : Collected → Cursor =
    λ segment. record s.cursor { state = record s.cursor.state { segment = segment; numbering = None } } in
    let ended : shown (given c.replace.new.dest) s.last s.error
    ≡ record old { segment = c.args.empty; numbering = None; body = [] } =
    subst (λ segment. shown (given segment) s.last s.error
    ≡ record old { segment = c.args.empty; numbering = None; body = [] }) (sym c.replace.ensures.after)
    (lifted s.cursor s.last s.error old c.args.empty c.self.view_is c.requires.last c.requires.ended
    c.requires.empty) in
    subst (λ (numbering : Option (List ℕ)). shown (record s.cursor {
      state = record s.cursor.state { segment = c.replace.new.dest; numbering = numbering };
    }) s.last s.error ≡ record old { segment = c.args.empty; numbering = None; body = [] })
    (sym c.forget.ensures) ended
