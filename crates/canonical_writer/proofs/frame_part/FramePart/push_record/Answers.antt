-- The record of a number is put behind the entry of its class.
use Rattle.std.proofs.Common.{ℕ, ◌+◌, List, ◌++◌, length, set, Vec, ap, ◌∙◌, subst}
use Rattle.std.specs.declared.alloc.Global.{Global}
use Rattle.std.specs.Prelude.{IfSome, slice_get}
use Rattle.std.specs.Option.{option_copied}
use Rattle.std.proofs.lemmas.Result.{err_from_is_err_and}
use Rattle.type_text.specs.declared.types.Link.{Link}
use Rattle.link_graph.specs.Collected.{Bodied}
use Rattle.canonical_file.specs.Ranges.{AreBytes}
use Rattle.canonical_file.specs.Splices.{entries_used}
use Rattle.canonical_writer.specs.NewLinks.{link_of, link_to}
use Rattle.canonical_writer.specs.Parts.{IsRecordOf}
use Rattle.canonical_writer.proofs.FrameUses.{row-uses, row-place, row-clash, bytes-behind}
use Rattle.canonical_writer.proofs.frame_part.FramePart.push_record.Goals as goal

pub returns-in_err-push_entry-clause-clash : goal.returns-in_err-push_entry-clause-clash
returns-in_err-push_entry-clause-clash c = λ class k was placed ready.
    let p = err_from_is_err_and c.from_residual.result c.from_residual.ensures.1 in
    row-clash (entries_used c.args.used.now (option_copied c.args.closing)) c.args.frame.now c.args.self.now.links
    c.args.node k class c.node.result.now placed c.node.ensures
    (λ e there. c.in_err-push_entry.ensures.clash class e (let q = p.1 in let r = p.2 in cc) there ready)

pub returns-clause-places : goal.returns-clause-places
returns-clause-places c = λ k placed ready.
    row-place (option_copied c.args.closing) c.args.used.now c.push_entry.new.used c.args.frame.now c.args.self.now.links
    c.args.node k c.args.at c.node.result.now c.args.self.now c.push_entry.new.self c.note_place.new.self.places.items
    placed c.node.ensures
    (λ e there short. c.in_ok-push_entry.ensures.used placed.source_is.sound e there short ready)
    (c.note_place.ensures.place
    ∙ ap (λ (v : Vec ℕ Global). set v.items c.args.node (c.args.at + length c.push_entry.new.self.bytes.items))
    c.push_entry.ensures.kept.0)

pub returns-clause-used : goal.returns-clause-used
returns-clause-used c = λ k placed ready.
    let s = c.args.frame.now.segment.now in let plan = c.in-Some.plan.now in
    let items : List ℕ = c.in_ok-push_record.ensures.items in
    let links = c.note_place.ensures.kept.2 ∙ c.push_entry.ensures.kept.1 in
    row-uses (option_copied c.args.closing) c.args.used.now c.push_entry.new.used c.args.frame.now c.args.self.now.links
    c.args.node k c.node.result.now plan items c.args.self.now c.push_entry.new.self _ placed c.node.ensures
    c.in-Some.ensures
    (λ e there short. c.in_ok-push_entry.ensures.used placed.source_is.sound e there short ready)
    (c.in_ok-push_record.ensures.whole ∙ ap (λ (v : Vec ℕ Global). v.items ++ items) c.note_place.ensures.kept.0)
    c.note_place.ensures.kept.1
    (bytes-behind c.note_place.new.self.bytes.items items c.push_record.new.into.items c.in_ok-push_record.ensures.whole
    (subst AreBytes c.as_slice.ensures.value c.are_bytes.ensures))
    (subst (λ (links : List Link). IfSome (slice_get s.nodes c.args.node) (λ (r : Bodied). IsRecordOf s.order plan
    (link_to s.nodes links) r.node.class (link_of links c.args.node).instance r.body items)) links
    c.in_ok-push_record.ensures.related)
