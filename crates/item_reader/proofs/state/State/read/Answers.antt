use Rattle.std.proofs.Common.{◌≡◌, true, Some, sym, ap, ◌∙◌}
use Rattle.std.proofs.lemmas.Result.{IfOk-weaker, IfErr-weaker, on_ok_weaker}
use Rattle.file_grammar.specs.Fault.{entries_before, class, kind, fields, first_of}
use Rattle.file_grammar.specs.Record.{layout_in}
use Rattle.item_reader.specs.State.{here_in}
use Rattle.item_reader.specs.Judged.{InEachFile, IsRead, IsReadBy, is_read_kind, body_reasons}
use Rattle.item_reader.specs.Judged.{reading_reasons}
use Rattle.item_reader.proofs.BodyHere.{spelled-reads}
use Rattle.item_reader.proofs.Located.{class-here, kind-here}
use Rattle.item_reader.proofs.Parts.{fields-described, read-described, layout-known}
use Rattle.item_reader.proofs.state.State.read.Goals as goal

pub returns-in-Some-clause-ok : goal.returns-in-Some-clause-ok
returns-in-Some-clause-ok c =
    let s = c.args.self.now in
    let p = c.args.structure in
    let body = c.args.body.now in
    let plan = c.in-Some.plan.now in
    IfOk-weaker c.read_by.result
    (λ m. InEachFile s p body (λ h. fields h ≡ Some plan → IsReadBy h plan m.zero_texts))
    (λ m. InEachFile s p body (λ h. IsRead h m.zero_texts)) (λ m read file stands.
    let h = here_in s file in
    let known : is_read_kind (kind h) ≡ true =
    ap is_read_kind (kind-here h p stands.placed) ∙ c.requires.kind in
    let layout : layout_in (entries_before h) (class h) ≡ Some plan =
    ap (layout_in s.dictionary) (class-here h p stands.placed)
    ∙ sym (c.requires.sound.plans p.class)
    ∙ sym c.in-Some.ensures in
    read-described h plan m.zero_texts known layout (read file stands (fields-described h known ∙ layout)))
    c.read_by.ensures.ok

pub returns-in-Some-clause-fault : goal.returns-in-Some-clause-fault
returns-in-Some-clause-fault c =
    let s = c.args.self.now in
    let p = c.args.structure in
    let body = c.args.body.now in
    let plan = c.in-Some.plan.now in
    IfErr-weaker c.read_by.result
    (λ fault. InEachFile s p body (λ h. fields h ≡ Some plan → first_of body_reasons h ≡ Some fault))
    (λ fault. InEachFile s p body (λ h. first_of reading_reasons h ≡ Some fault)) (λ fault unread file stands.
    let h = here_in s file in
    let known : is_read_kind (kind h) ≡ true =
    ap is_read_kind (kind-here h p stands.placed) ∙ c.requires.kind in
    let layout : layout_in (entries_before h) (class h) ≡ Some plan =
    ap (layout_in s.dictionary) (class-here h p stands.placed)
    ∙ sym (c.requires.sound.plans p.class)
    ∙ sym c.in-Some.ensures in
    layout-known h plan known layout ∙ unread file stands (fields-described h known ∙ layout))
    c.read_by.ensures.fault

pub returns-in-Some-clause-reads : goal.returns-in-Some-clause-reads
returns-in-Some-clause-reads c =
    let s = c.args.self.now in
    let p = c.args.structure in
    on_ok_weaker c.read_by.result
    (spelled-reads s.segment.order s.dictionary p c.args.body.now c.in-Some.plan.now
    (sym (c.requires.sound.plans p.class) ∙ sym c.in-Some.ensures)) c.read_by.ensures.reads

pub returns-in-None-clause-fault : goal.returns-in-None-clause-fault
returns-in-None-clause-fault c = c.unread_fault.ensures c.args.body.now
