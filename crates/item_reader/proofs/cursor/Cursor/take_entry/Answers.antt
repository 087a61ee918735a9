-- An entry: its FrSH, and its run.
use Rattle.std.proofs.Common.{◌≡◌, ℕ, List, Some, None, refl, sym, ap, ◌∙◌, subst}
use Rattle.structure_source.specs.Source.{bytes_drawn}
use Rattle.structure_source.proofs.Going.{goes-more}
use Rattle.dictionary.specs.declared.entries.Entry.{Entry}
use Rattle.file_grammar.specs.declared.kind.Kind.TheVariants.{FrSH}
use Rattle.file_grammar.specs.Fault.{Here, kind, first_of, fault_here}
use Rattle.item_reader.specs.declared.cursor.Cursor.{Cursor}
use Rattle.item_reader.specs.declared.state.State.{State}
use Rattle.item_reader.specs.Placed.{StandsIn}
use Rattle.item_reader.specs.Entries.{IsRun, Begins}
use Rattle.item_reader.specs.State.{HasRows, here_in}
use Rattle.item_reader.specs.Judged.{InEachFile, DescribesEntry, Answers, body_reasons}
use Rattle.item_reader.proofs.Located.{kind-here}
use Rattle.item_reader.proofs.Giving.{refused-in, err-said, err-within}
use Rattle.item_reader.proofs.Entering.{told-later, describes-entry, entry-ahead, gives-entry}
use Rattle.item_reader.proofs.Entering.{lent-beside, lends-one}
use Rattle.item_reader.proofs.Parts.{on_ok-with}
use Rattle.item_reader.proofs.cursor.Cursor.take_entry.Goals as goal

pub returns-in_err-bring_own-clause-answers : goal.returns-in_err-bring_own-clause-answers
returns-in_err-bring_own-clause-answers g c =
    refused-in (g.S.Shelf.outside c.args.shelf.now) c.args.self.now c.from_residual.result
    c.in_err-bring_own.field-0.0 c.bring_own.new.self c.from_residual.ensures.1 c.in_err-bring_own.ensures.cut

pub returns-in_err-bring_own-clause-ahead : goal.returns-in_err-bring_own-clause-ahead
returns-in_err-bring_own-clause-ahead g c =
    err-within c.from_residual.result (g.S.Shelf.outside c.args.shelf.now) c.args.self.now
    c.bring_own.new.self.source c.in_err-bring_own.ensures.ahead

pub returns-in_err-entry-clause-answers : goal.returns-in_err-entry-clause-answers
returns-in_err-entry-clause-answers g c =
    let p = c.args.head in
    let state_is : c.bring_own.new.self.state ≡ c.args.self.now.state =
    ap (λ (x : Cursor). x.state) c.in_ok-bring_own.ensures.rest in
    refused-in (g.S.Shelf.outside c.args.shelf.now) c.args.self.now c.from_residual-in_err-entry.result
    c.in_err-entry.field-0.0 c.bring_own.new.self c.from_residual-in_err-entry.ensures.1
    (λ fault same. λ reading told.
    subst (λ (x : State). InEachFile x p c.bring_own.new.self.own.items (λ h. fault_here h ≡ Some fault))
    state_is (c.in_err-entry.ensures.fault fault same) reading.opened (c.in_ok-bring_own.ensures.body reading told))

pub returns-in_err-elements-clause-on : goal.returns-in_err-elements-clause-on
returns-in_err-elements-clause-on g c =
    goes-more _ _ _ _ _ _ c.in_ok-bring_own.ensures.on c.read_run.ensures.on

pub returns-in_err-elements-clause-ahead : goal.returns-in_err-elements-clause-ahead
returns-in_err-elements-clause-ahead g c =
    err-said c.from_residual-in_err-elements.result _
    (entry-ahead (g.S.Shelf.outside c.args.shelf.now) (g.S.Shelf.outside c.bring_own.new.shelf)
    c.args.self.now c.args.head c.bring_own.new.self.own.items c.bring_own.new.self.source c.in_ok-entry.entry
    (bytes_drawn c.read_run.new.source) c.bring_own.new.self.state c.order-order.result
    (ap (λ (x : Cursor). x.state) c.in_ok-bring_own.ensures.rest) c.order-order.ensures
    c.in_ok-bring_own.ensures.on c.in_ok-bring_own.ensures.stands c.in_ok-bring_own.ensures.place
    c.in_ok-bring_own.ensures.body c.requires.kind c.in_ok-entry.ensures.begins c.read_run.ensures.bounded)

pub returns-in_err-self-clause-on : goal.returns-in_err-self-clause-on
returns-in_err-self-clause-on g c =
    goes-more _ _ _ _ _ _ c.in_ok-bring_own.ensures.on c.read_run.ensures.on

pub returns-in_err-self-clause-ahead : goal.returns-in_err-self-clause-ahead
returns-in_err-self-clause-ahead g c =
    err-said c.from_residual-in_err-self.result _
    (entry-ahead (g.S.Shelf.outside c.args.shelf.now) (g.S.Shelf.outside c.bring_own.new.shelf)
    c.args.self.now c.args.head c.bring_own.new.self.own.items c.bring_own.new.self.source c.in_ok-entry.entry
    (bytes_drawn c.read_run.new.source) c.bring_own.new.self.state c.order-order.result
    (ap (λ (x : Cursor). x.state) c.in_ok-bring_own.ensures.rest) c.order-order.ensures
    c.in_ok-bring_own.ensures.on c.in_ok-bring_own.ensures.stands c.in_ok-bring_own.ensures.place
    c.in_ok-bring_own.ensures.body c.requires.kind c.in_ok-entry.ensures.begins c.read_run.ensures.bounded)

pub returns-clause-answers : goal.returns-clause-answers
returns-clause-answers g c = λ reading told.
    let s = c.args.self.now.state in
    let p = c.args.head in
    let h : Here = here_in s reading.opened in
    let now = g.S.Shelf.outside c.bring_own.new.shelf in
    let body = c.bring_own.new.self.own.items in
    let middle = c.bring_own.new.self.source in
    let run = c.in_ok-elements.field-0 in
    let read = c.read_run.new.source.at in
    let entry : Entry = record c.in_ok-entry.entry { elements = run.elements } in
    let state_is : c.bring_own.new.self.state ≡ s =
    ap (λ (x : Cursor). x.state) c.in_ok-bring_own.ensures.rest in
    let order_is : c.order-order.result ≡ s.segment.order =
    c.order-order.ensures ∙ ap (λ (x : State). x.segment.order) state_is in
    let stands = c.in_ok-bring_own.ensures.body reading told in
    let is : kind h ≡ FrSH = kind-here h p stands.placed ∙ c.requires.kind in
    let begins = subst (λ (x : State). Begins x.segment.order body c.in_ok-entry.entry) state_is
    c.in_ok-entry.ensures.begins in
    let good = subst (λ (x : State). InEachFile x p body (λ h. first_of body_reasons h ≡ None)) state_is
    c.in_ok-entry.ensures.reads reading.opened stands in
    let there = told-later (g.S.Shelf.outside c.args.shelf.now) now c.args.self.now.source middle
    (λ file. IsRun c.order-order.result file middle.at run read)
    c.in_ok-bring_own.ensures.on c.in_ok-bring_own.ensures.stands c.in_ok-elements.ensures.run reading told in
    let runs = subst (λ at. IsRun s.segment.order reading.opened at run read) c.in_ok-bring_own.ensures.place
    (subst (λ order. IsRun order reading.opened middle.at run read) order_is there) in
    let d = describes-entry h p body c.in_ok-entry.entry run read stands begins runs in
    let answers = subst (λ (x : State). (file body : List ℕ) → StandsIn x.segment.order x.at p body file
    → first_of body_reasons (here_in x file) ≡ None → DescribesEntry x.segment.order file x.at entry run.end
    → Answers (here_in x file) c.take_entry.result c.take_entry.new.self) state_is
    c.take_entry.ensures.answers reading.opened body stands good
    d in
    gives-entry h c.bring_own.new.self.state run.end c.take_entry.result (record {
      source = c.read_run.new.source;
      state = c.take_entry.new.self;
      links = c.bring_own.new.self.links;
      own = c.read_run.new.own;
      looked = run.looked;
      kept = c.in_ok-self.field-0;
      instance = 0;
    }) entry is (ap (λ (x : State). x.segment.order) state_is)
    (ap (λ (x : State). x.segment.pending) state_is ∙ c.requires.passed.pending)
    (ap (λ (x : State). x.numbering) state_is ∙ c.requires.passed.frame) runs.looked answers
    c.take_entry.ensures.moved c.take_entry.ensures.closed c.take_entry.ensures.kept
    c.take_entry.ensures.frame d c.take_entry.ensures.short
    (lent-beside c.take_entry.result entry c.bring_own.new.self.state.dictionary c.in_ok-self.field-0
    c.take_entry.new.self.dictionary c.take_entry.ensures.lent c.in_ok-self.ensures)
    refl

pub returns-clause-on : goal.returns-clause-on
returns-clause-on g c =
    goes-more _ _ _ _ _ _ c.in_ok-bring_own.ensures.on c.read_run.ensures.on

pub returns-clause-ahead : goal.returns-clause-ahead
returns-clause-ahead g c =
    err-said c.take_entry.result _
    (entry-ahead (g.S.Shelf.outside c.args.shelf.now) (g.S.Shelf.outside c.bring_own.new.shelf)
    c.args.self.now c.args.head c.bring_own.new.self.own.items c.bring_own.new.self.source c.in_ok-entry.entry
    (bytes_drawn c.read_run.new.source) c.bring_own.new.self.state c.order-order.result
    (ap (λ (x : Cursor). x.state) c.in_ok-bring_own.ensures.rest) c.order-order.ensures
    c.in_ok-bring_own.ensures.on c.in_ok-bring_own.ensures.stands c.in_ok-bring_own.ensures.place
    c.in_ok-bring_own.ensures.body c.requires.kind c.in_ok-entry.ensures.begins c.read_run.ensures.bounded)

pub returns-clause-lends : goal.returns-clause-lends
returns-clause-lends g c =
    let entry : Entry = record c.in_ok-entry.entry { elements = c.in_ok-elements.field-0.elements } in
    lends-one c.take_entry.result entry c.in_ok-self.field-0 c.take_entry.new.self.dictionary
    (lent-beside c.take_entry.result entry c.bring_own.new.self.state.dictionary c.in_ok-self.field-0
    c.take_entry.new.self.dictionary c.take_entry.ensures.lent c.in_ok-self.ensures)

pub returns-clause-rows : goal.returns-clause-rows
returns-clause-rows g c =
    let has : HasRows c.bring_own.new.self.state c.bring_own.new.self.links =
    subst (λ (x : Cursor). HasRows x.state x.links) (sym c.in_ok-bring_own.ensures.rest) c.requires.passed.rows in
    on_ok-with c.take_entry.result _ _ (λ keeps. keeps c.bring_own.new.self.links has) c.take_entry.ensures.rows
