use Rattle.std.proofs.Common.{length, List, subst, sym}
use Rattle.type_text.specs.declared.types.Link.{Link}
use Rattle.layout_plan.specs.Links.{HasLinks}
use Rattle.canonical_writer.proofs.Structures.{record-placed}
use Rattle.canonical_writer.proofs.records.LinkRoom.push_structure.Goals as goal

pub rewrite-requires-clause-links : goal.rewrite-requires-clause-links
rewrite-requires-clause-links c =
    subst (λ (links : List Link). HasLinks c.args.order c.args.plan.now c.args.body.now (length links))
    (sym c.as_slice.ensures.value) c.requires.links

pub returns : goal.returns
returns c =
    record-placed c.args.order c.args.plan.now c.args.self.now.written.items c.as_slice.result.now c.args.class
    c.args.instance c.in_ok-start.start c.args.body.now c.args.into.now.items c.begin_structure.new.into.items
    c.rewrite.new.into.items c.end_structure.new.into.items c.as_slice.ensures.value c.in_ok-start.ensures.start
    c.in_ok-start.ensures.room c.in_ok-rewrite.ensures.ok c.end_structure.ensures
