use Rattle.std.proofs.Common.{◌≡◌, ℕ, map, Some, sym, ap, ◌∙◌, subst}
use Rattle.layout_plan.specs.Links.{HasLink, HasLinkIn}
use Rattle.file_grammar.specs.Record.{first_loose as first_loose_of}
use Rattle.link_graph.specs.Graph.{first_loose}
use Rattle.item_reader.specs.declared.state.State.{State}
use Rattle.item_reader.specs.State.{IsSound, structure_of, open_records}
use Rattle.item_reader.proofs.FrameLinks.{IsFirstLoose, first-loose, loose-within, holds-loose, loose-link}
use Rattle.item_reader.proofs.FrameLinks.{loose-field, no-plan}
use Rattle.item_reader.proofs.state.State.loose_fault.Goals as goal

-- the first loose link of the segment is one of the frame
loose : (s : State) → IsSound s → (node k : ℕ) → first_loose s.plans s.segment ≡ Some (node, k)
    → IsFirstLoose s.segment.order s.dictionary (map structure_of s.segment.nodes) 0 s.segment.nodes node k
loose s sound node k is =
    first-loose s.plans s.segment.order s.dictionary s.segment.nodes sound.plans node k is

pub node-record-requires : goal.node-record-requires
node-record-requires c =
    let s = c.args.self.now in
    let l = loose s c.requires.sound c.args.node c.args.link c.requires.loose in
    loose-within s.segment.order s.dictionary s.segment.nodes c.args.node c.args.link l

pub body-requires : goal.body-requires
body-requires c =
    let s = c.args.self.now in
    let l = loose s c.requires.sound c.args.node c.args.link c.requires.loose in
    loose-within s.segment.order s.dictionary s.segment.nodes c.args.node c.args.link l

pub link_field-field-requires : goal.link_field-field-requires
link_field-field-requires c =
    let s = c.args.self.now in
    let node = c.node-record.result.now in
    let fields = c.in-Some.plan.now in
    let body = c.body.result.now in
    let l = loose s c.requires.sound c.args.node c.args.link c.requires.loose in
    let h = holds-loose s.segment.order s.dictionary s.segment.nodes c.args.node c.args.link node body
    c.requires.sound.nodes l c.node-record.ensures c.body.ensures.body in
    subst (λ o. HasLink o fields body c.args.link) (sym c.order.ensures)
    (loose-link s.segment.order s.dictionary _ node body c.args.link fields h
    (sym (c.in-Some.ensures ∙ c.requires.sound.plans node.class)))

pub unreachable-requires : goal.unreachable-requires
unreachable-requires c =
    let s = c.args.self.now in
    let node = c.node-record.result.now in
    let l = loose s c.requires.sound c.args.node c.args.link c.requires.loose in
    no-plan s.segment.order s.dictionary s.segment.nodes c.args.node c.args.link node
    c.requires.sound.nodes l c.node-record.ensures
    (sym (c.in-None.ensures ∙ c.requires.sound.plans node.class))

pub returns-clause-place : goal.returns-clause-place
returns-clause-place c =
    let s = c.args.self.now in
    let node = c.node-record.result.now in
    let fields = c.in-Some.plan.now in
    let body = c.body.result.now in
    let field = c.link_field-field.result in
    let l = loose s c.requires.sound c.args.node c.args.link c.requires.loose in
    let h = holds-loose s.segment.order s.dictionary s.segment.nodes c.args.node c.args.link node body
    c.requires.sound.nodes l c.node-record.ensures c.body.ensures.body in
    let placed = subst (λ o. HasLinkIn o fields body c.args.link field) c.order.ensures
    c.link_field-field.ensures in
    subst (λ frame. first_loose_of s.segment.order s.dictionary frame frame ≡ Some (node.at, field))
    (sym (ap (λ numbers. open_records numbers s.segment) c.requires.«open»))
    (loose-field s.segment.order s.dictionary _ node body c.args.link fields field h
    (sym (c.in-Some.ensures ∙ c.requires.sound.plans node.class)) placed)
