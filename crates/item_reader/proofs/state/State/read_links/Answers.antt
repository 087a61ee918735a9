-- The links of the pending body are those of the record that it is of.
use Rattle.std.proofs.Common.{◌≡◌, List, ℕ, [], ◌∷◌, ◌++◌, true, Some, sym, ap, ◌∙◌, subst}
use Rattle.std.specs.Prelude.{Option, Result, IfOk, IfErr, is_ok, is_err, option_and_then}
use Rattle.std.specs.Option.{option_map_or}
use Rattle.layout_plan.specs.declared.faults.BodyFault.{BodyFault}
use Rattle.layout_plan.specs.declared.faults.Measured.{Measured}
use Rattle.layout_plan.specs.Body.{HasBody, IsMeasured}
use Rattle.layout_plan.specs.Reading.{fault_of}
use Rattle.layout_plan.specs.declared.fields.Field.{Field}
use Rattle.link_graph.specs.Graph.{links_by}
use Rattle.link_graph.proofs.Found.{on-ok}
use Rattle.file_grammar.specs.Fault.{entries_before, class, kind, structure}
use Rattle.file_grammar.specs.Record.{layout_in}
use Rattle.file_grammar.proofs.Judging.{first_of-bad_body}
use Rattle.item_reader.specs.State.{here_in}
use Rattle.item_reader.specs.Judged.{is_read_kind}
use Rattle.item_reader.proofs.BodyHere.{spelled-reads, body-stands, size-stands}
use Rattle.item_reader.proofs.Located.{class-here, kind-here}
use Rattle.item_reader.proofs.Parts.{fields-described, read-described, layout-known, measured-read}
use Rattle.item_reader.proofs.state.State.read_links.Goals as goal

pub returns-in-Ok-clause-ok : goal.returns-in-Ok-clause-ok
returns-in-Ok-clause-ok c =
    λ file stands.
    let s = c.args.self.now in
    let h = here_in s file in
    let p = c.args.placed in
    let plan = c.in-Some.plan.now in
    let body = s.segment.pending in
    let m = c.in-Ok.measured in
    let known : is_read_kind (kind h) ≡ true =
    ap is_read_kind (kind-here h p stands.placed) ∙ c.requires.kind in
    let layout : layout_in (entries_before h) (class h) ≡ Some plan =
    ap (layout_in s.dictionary) (class-here h p stands.placed)
    ∙ sym (c.requires.sound.plans p.class)
    ∙ sym c.in-Some.ensures in
    let told : IsMeasured c.order.result plan c.pending.result.now m.links m.zero_texts =
    subst (λ (told : Result Measured BodyFault). IfOk told
    (λ m. IsMeasured c.order.result plan c.pending.result.now m.links m.zero_texts)) c.in-Ok.is
    c.in_ok-measured.ensures.measured in
    let ordered : IsMeasured s.segment.order plan c.pending.result.now m.links m.zero_texts =
    subst (λ order. IsMeasured order plan c.pending.result.now m.links m.zero_texts) c.order.ensures told in
    let measured : IsMeasured s.segment.order plan body m.links m.zero_texts =
    subst (λ (body : List ℕ). IsMeasured s.segment.order plan body m.links m.zero_texts) c.pending.ensures
    ordered in
    read-described h plan m.zero_texts known layout
    (measured-read h plan m.links m.zero_texts (size-stands h p body stands c.requires.size)
    (fields-described h known ∙ layout)
    (subst (λ (body : List ℕ). IsMeasured s.segment.order plan body m.links m.zero_texts)
    (sym (body-stands h p body stands)) measured))

pub returns-in-Ok-clause-reads : goal.returns-in-Ok-clause-reads
returns-in-Ok-clause-reads c =
    let s = c.args.self.now in
    let p = c.args.placed in
    let plan = c.in-Some.plan.now in
    let told : HasBody c.order.result plan c.pending.result.now =
    c.in_ok-measured.ensures.ok.0 (ap is_ok c.in-Ok.is) in
    let ordered : HasBody s.segment.order plan c.pending.result.now =
    subst (λ order. HasBody order plan c.pending.result.now) c.order.ensures told in
    spelled-reads s.segment.order s.dictionary p s.segment.pending plan
    (sym (c.requires.sound.plans p.class) ∙ sym c.in-Some.ensures)
    (subst (HasBody s.segment.order plan) c.pending.ensures ordered)

pub returns-in-Ok-clause-row : goal.returns-in-Ok-clause-row
returns-in-Ok-clause-row c =
    let s = c.args.self.now in
    let plan = c.in-Some.plan.now in
    on-ok c.in_ok-measured.field-0 (ap is_err c.in-Ok.is) c.in_ok-measured.ensures.row
    ∙ (λ i. c.args.links.now ++ links_by (c.order.ensures i) plan (c.pending.ensures i) ∷ [])
    ∙ ap (λ (o : Option (List Field)). c.args.links.now
    ++ option_map_or (λ fields. links_by s.segment.order fields s.segment.pending) o [] ∷ []) c.in-Some.ensures

pub returns-in-Err-clause-fault : goal.returns-in-Err-clause-fault
returns-in-Err-clause-fault c =
    λ fault same file stands.
    let s = c.args.self.now in
    let h = here_in s file in
    let p = c.args.placed in
    let plan = c.in-Some.plan.now in
    let body = s.segment.pending in
    let known : is_read_kind (kind h) ≡ true =
    ap is_read_kind (kind-here h p stands.placed) ∙ c.requires.kind in
    let layout : layout_in (entries_before h) (class h) ≡ Some plan =
    ap (layout_in s.dictionary) (class-here h p stands.placed)
    ∙ sym (c.requires.sound.plans p.class)
    ∙ sym c.in-Some.ensures in
    let told : fault_of c.order.result plan c.pending.result.now ≡ Some c.in-Err.fault =
    subst (λ (told : Result Measured BodyFault). IfErr told
    (λ f. fault_of c.order.result plan c.pending.result.now ≡ Some f)) c.in-Err.is
    c.in_ok-measured.ensures.fault in
    let wrong : fault_of s.segment.order plan (structure h).body ≡ Some c.in-Err.fault =
    (λ i. fault_of (sym c.order.ensures i) plan (structure h).body)
    ∙ ap (fault_of c.order.result plan) (body-stands h p body stands ∙ sym c.pending.ensures)
    ∙ told in
    let said : c.body_fault.result ≡ fault = cc in
    layout-known h plan known layout
    ∙ first_of-bad_body h [] c.in-Err.fault
    (ap (option_and_then (λ fields. fault_of h.order fields (structure h).body))
    (fields-described h known ∙ layout) ∙ wrong)
    ∙ ap Some (sym c.body_fault.ensures ∙ said)

pub returns-in_default-clause-fault : goal.returns-in_default-clause-fault
returns-in_default-clause-fault c =
    λ fault same file stands.
    let said : c.unread_fault.result ≡ fault = cc in
    c.unread_fault.ensures c.args.self.now.segment.pending file stands ∙ ap Some said
