use denote.Enum.Bare.{sameb}
use Rattle.std.proofs.Common.{◌≡◌, ◌+◌, ◌≤◌, Bool, ◌||◌, true, false, Some, refl, sym, ap, ◌∙◌, subst}
use Rattle.std.proofs.lemmas.Bool.{false≢true}
use Rattle.file_grammar.specs.contracts.kind.Kind.{the_type}
use Rattle.file_grammar.specs.declared.kind.Kind.{Kind}
use Rattle.file_grammar.specs.declared.kind.Kind.TheVariants.{FrSH, FrSE, FrameH, FrEndOfFrame, FrTOC}
use Rattle.file_grammar.specs.declared.kind.Kind.TheVariants.{FrEndOfFile}
use Rattle.file_grammar.specs.declared.kind.Kind.TheVariants.{Other}
use Rattle.file_grammar.specs.Structure.{file_limit}
use Rattle.file_grammar.specs.Kind.{kind_of, is_target_kind, is_header_kind}
use Rattle.link_graph.specs.Collected.{Becomes, with_node, is_held}
use Rattle.item_reader.specs.State.{here_in}
use Rattle.item_reader.specs.Judged.{node_by}
use Rattle.item_reader.proofs.Kept.{record-below, sound-record}
use Rattle.item_reader.proofs.Taken.{answers-fault, answers-passed, record-judged, record-held}
use Rattle.item_reader.proofs.Taken.{record-new_here}
use Rattle.item_reader.proofs.Taken.{takes-record, added-new, refused-held, record-refused}
use Rattle.item_reader.proofs.Rows.{rows-record}
use Rattle.item_reader.proofs.state.State.take_record.Goals as goal

pub returns-in_err-weight-clause-answers : goal.returns-in_err-weight-clause-answers
returns-in_err-weight-clause-answers c = λ file stands.
    let s = c.args.self.now in
    let error = c.in_err-weight.field-0.0 in
    let target : is_target_kind (kind_of s.dictionary c.args.placed.class) ≡ true =
    ap is_target_kind (sym c.requires.kind) ∙ c.requires.target in
    answers-passed (here_in s file) s c.from_residual.result error c.from_residual.ensures.1
    (record-refused s c.args.placed c.weigh_links.result error s file s.segment.pending c.requires.open
    stands target c.in_err-weight.was (λ fault failed. c.weigh_links.ensures.fault fault failed file stands)
    c.weigh_links.ensures.no_device)

pub returns-in-Err-InstanceTwice-clause-answers : goal.returns-in-Err-InstanceTwice-clause-answers
returns-in-Err-InstanceTwice-clause-answers c = λ file stands.
    let s = c.args.self.now in
    let p = c.args.placed in
    let target : is_target_kind (kind_of s.dictionary p.class) ≡ true =
    ap is_target_kind (sym c.requires.kind) ∙ c.requires.target in
    let twice : is_held s.segment.nodes (node_by s.dictionary p) ≡ true =
    ap (is_held s.segment.nodes) (sym c.node.ensures)
    ∙ refused-held c.add.result c.in-Err-InstanceTwice.field-0 (is_held s.segment.nodes c.node.result)
    c.in-Err-InstanceTwice.is c.in-Err-InstanceTwice.field-0-is c.add.ensures.twice.0 in
    answers-fault (here_in s file) c.fault.result c.into.result (record s { segment = c.add.new.self })
    c.into.ensures
    (record-held s p c.in_ok-weight.weight file s.segment.pending c.requires.open c.requires.frame stands
    target
    (c.in_ok-weight.ensures.ok file stands) twice ∙ ap Some (sym c.fault.ensures))

pub returns-in-Some-clause-answers : goal.returns-in-Some-clause-answers
returns-in-Some-clause-answers c = λ file stands.
    let s = c.args.self.now in
    let p = c.args.placed in
    let target : is_target_kind (kind_of s.dictionary p.class) ≡ true =
    ap is_target_kind (sym c.requires.kind) ∙ c.requires.target in
    let new : is_held s.segment.nodes (node_by s.dictionary p) ≡ false =
    ap (is_held s.segment.nodes) (sym c.node.ensures)
    ∙ added-new c.add.result c.in-Ok.number (is_held s.segment.nodes c.node.result) c.in-Ok.is
    c.add.ensures.twice.1 in
    answers-fault (here_in s file) c.in-Some.fault c.into-in-Some.result
    (record s { segment = c.add.new.self })
    c.into-in-Some.ensures
    (record-new_here s p c.in_ok-weight.weight file s.segment.pending c.requires.open c.requires.frame stands
    target
    (c.in_ok-weight.ensures.ok file stands) new
    ∙ c.record_fault-later.ensures s.segment.pending file stands ∙ c.in-Some.is)

pub returns-clause-answers : goal.returns-clause-answers
returns-clause-answers c = λ file stands.
    let s = c.args.self.now in
    let p = c.args.placed in
    let target : is_target_kind (kind_of s.dictionary p.class) ≡ true =
    ap is_target_kind (sym c.requires.kind) ∙ c.requires.target in
    let new : is_held s.segment.nodes (node_by s.dictionary p) ≡ false =
    ap (is_held s.segment.nodes) (sym c.node.ensures)
    ∙ added-new c.add.result c.in-Ok.number (is_held s.segment.nodes c.node.result) c.in-Ok.is
    c.add.ensures.twice.1 in
    takes-record s p c.in_ok-weight.weight c.in-Ok.number c.if-self.self c.add.new.self file c.requires.open
    c.requires.frame stands target (c.in_ok-weight.ensures.ok file stands) new
    (c.record_fault-later.ensures s.segment.pending file stands ∙ c.in_default.is) c.in-Ok.ensures.number
    (subst (λ n. Becomes c.add.new.self (with_node n s.segment)) c.node.ensures c.in-Ok.ensures.ok)

or-then : (a b : Bool) → a ≡ true → a ≡ (a || b)
or-then true b e = refl
or-then false b e = absurd (false≢true e)

or-else : (a b : Bool) → a ≡ false → b ≡ (a || b)
or-else true b e = absurd (false≢true (sym e))
or-else false b e = refl

kind-header : (k : Kind) → sameb the_type k FrameH ≡ is_header_kind k
kind-header FrSH = refl
kind-header FrSE = refl
kind-header FrameH = refl
kind-header FrEndOfFrame = refl
kind-header FrTOC = refl
kind-header FrEndOfFile = refl
kind-header Other = refl

pub returns-clause-kept : goal.returns-clause-kept
returns-clause-kept c =
    let s = c.args.self.now in
    let p = c.args.placed in
    let own = is_header_kind (kind_of s.dictionary p.class) in
    let header : c.if-self.self ≡ (s.header || own) = elim c.if-self.branch [
      | goal.then-self w ↦ w.self-is ∙ or-then s.header own w.if-self.true
      | goal.else-self w ↦ w.self-is ∙ w.eq-self.ensures ∙ kind-header c.args.kind
          ∙ ap is_header_kind c.requires.kind ∙ or-else s.header own w.if-self.false
    ] in
    let low : p.at + p.length ≤ file_limit =
    record-below s p s.segment.pending c.requires.here c.requires.size (assumption c.well_formed.1)
    (λ file stands. c.record_fault-later.ensures s.segment.pending file stands ∙ c.in_default.is) in
    sound-record s p c.in_ok-weight.weight c.if-self.self c.add.new.self c.requires.sound c.requires.frame
    c.requires.here c.requires.size c.in_ok-weight.ensures.reads c.in_ok-weight.ensures.within.0
    c.in_ok-weight.ensures.within.1 low header
    (subst (λ n. Becomes c.add.new.self (with_node n s.segment)) c.node.ensures c.in-Ok.ensures.ok)

pub returns-clause-rows : goal.returns-clause-rows
returns-clause-rows c =
    let s = c.args.self.now in
    rows-record s c.args.placed c.in_ok-weight.weight c.if-self.self c.add.new.self c.args.links.now
    c.weigh_links.new.links c.requires.rows c.requires.frame c.in_ok-weight.ensures.row
    (subst (λ n. Becomes c.add.new.self (with_node n s.segment)) c.node.ensures c.in-Ok.ensures.ok)
