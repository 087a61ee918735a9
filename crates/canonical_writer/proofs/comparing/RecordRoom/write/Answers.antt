-- The record of a number is written alone.
use Rattle.std.proofs.Common.{◌≡◌, ℕ, List, ◌++◌, sym, ap, ◌∙◌, subst}
use Rattle.canonical_file.specs.Ranges.{AreBytes}
use Rattle.canonical_writer.specs.Alike.{IsWrittenAs}
use Rattle.canonical_writer.specs.Filled.{record_at}
use Rattle.canonical_writer.proofs.RecordBytes.{row-bytes}
use Rattle.canonical_writer.proofs.comparing.RecordRoom.write.Goals as goal

pub returns-clause-written : goal.returns-clause-written
returns-clause-written c = λ k placed.
    let items : List ℕ = c.in_ok-push_record.ensures.items in
    let whole : c.push_record.new.into.items ≡ items =
    c.in_ok-push_record.ensures.whole ∙ ap (λ xs. xs ++ items) c.clear.ensures.items in
    subst (IsWrittenAs (record_at c.args.frame.now k)) (sym whole)
    (row-bytes c.args.frame.now c.args.self.now.links c.args.node k c.node.result.now c.in-Some.plan.now items placed
    c.node.ensures c.in-Some.ensures
    (subst AreBytes whole (subst AreBytes c.as_slice.ensures.value c.are_bytes.ensures))
    c.in_ok-push_record.ensures.related)
