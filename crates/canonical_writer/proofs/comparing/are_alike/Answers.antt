-- the same, with the same comments
use Rattle.std.proofs.Common.{sym, ap, ◌∙◌}
use Rattle.std.proofs.lemmas.Bool.{false≢true}
use Rattle.std.proofs.lemmas.Slice.Eq.{bytes_eq-Decides}
use Rattle.canonical_writer.proofs.AlikeEntries.{entries-alike, alike-same, comments}
use Rattle.canonical_writer.proofs.comparing.are_alike.Goals as goal
use Rattle.canonical_writer.proofs.comparing.are_alike.Goals.{then-same_entry, else-same_entry}

pub returns-then-eq : goal.returns-then-eq
returns-then-eq c =
    let e = c.args.first.now in let o = c.args.second.now in (
      λ is. elim c.if-same_entry.branch [
        | then-same_entry w ↦ entries-alike e o c.requires.first c.requires.second (record {
          same = c.same_entry.ensures.exact.0 w.if-same_entry.true;
          comment = sym w.bytes.ensures
              ∙ (bytes_eq-Decides w.bytes.result.now w.bytes-then-same_entry.result.now).0
              (sym w.eq.ensures ∙ sym w.value-is ∙ c.if-eq.true) ∙ w.bytes-then-same_entry.ensures;
          comments_are = ap comments (sym c.as_slice.ensures) ∙ c.have_same_comments.ensures.0 is
              ∙ ap comments c.as_slice-then-eq.ensures;
        })
        | else-same_entry w ↦ absurd (false≢true (sym w.if-same_entry.false ∙ sym w.value-is ∙ c.if-eq.true))
      ],
      λ alike. c.have_same_comments.ensures.1 (ap comments c.as_slice.ensures
          ∙ (alike-same e o c.requires.first c.requires.second alike).comments_are
          ∙ ap comments (sym c.as_slice-then-eq.ensures)),
    )

pub returns-else-eq : goal.returns-else-eq
returns-else-eq c = (
  λ is. absurd (false≢true (sym c.if-eq.false ∙ is)),
  λ alike. let all = alike-same c.args.first.now c.args.second.now c.requires.first c.requires.second alike in
      elim c.if-same_entry.branch [
        | then-same_entry w ↦ w.value-is ∙ w.eq.ensures
            ∙ (bytes_eq-Decides w.bytes.result.now w.bytes-then-same_entry.result.now).1
            (w.bytes.ensures ∙ all.comment ∙ sym w.bytes-then-same_entry.ensures)
        | else-same_entry w ↦ w.value-is ∙ c.same_entry.ensures.exact.1 all.same
      ],
)
