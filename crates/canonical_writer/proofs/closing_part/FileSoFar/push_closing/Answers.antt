use Rattle.std.proofs.Common.{◌≡◌, ℕ, List, length, Vec, Global, IfSome, ap, ◌∙◌, subst}
use Rattle.canonical_file.specs.Records.{piece_bytes}
use Rattle.canonical_file.specs.Written.{table_piece_by}
use Rattle.canonical_writer.specs.Closed.{written_of}
use Rattle.canonical_writer.specs.Parts.{IsShortEntry, IsUsableTable}
use Rattle.canonical_writer.proofs.ClosingBytes.{from-empty, closing-with, closing-without}
use Rattle.canonical_writer.proofs.closing_part.FileSoFar.push_closing.Goals as goal
use Rattle.canonical_writer.proofs.closing_part.FileSoFar.push_closing.Goals.{in-Some+in_ok-table, in_default}

abbrev items_of : Vec ℕ Global → List ℕ
items_of v = v.items

pub returns : goal.returns
returns c =
    let so_far = written_of c.args.self.now in
    let closing = c.args.closing.now in
    elim c.match-closing.branch [
      | in-Some+in_ok-table w ↦ closing-with c.push_end.result so_far closing w.in-Some.entry c.match-closing.number
          c.match-closing.table c.match-closing.into.items c.push_end.new.into.items w.in-Some.is
          (subst (λ o. IfSome o (IsUsableTable closing.end)) w.in-Some.is c.requires.usable.table)
          (λ short. let made = from-empty (λ bytes. IsShortEntry w.in-Some.entry
          → (bytes ≡ piece_bytes (table_piece_by so_far w.in-Some.entry))
          × (w.in_ok-table.table ≡ length (table_piece_by so_far w.in-Some.entry).record_itself))
          c.args.into.now.items w.push_table.new.into.items c.match-closing.into.items c.requires.empty
          (ap items_of w.into-is) w.in_ok-table.ensures.written short in
          (made.0, w.table-is ∙ made.1))
          (w.number-is ∙ w.number_after-number.ensures) c.push_end.ensures
      | in_default w ↦ closing-without c.push_end.result so_far closing c.match-closing.number c.match-closing.table
          c.match-closing.into.items c.push_end.new.into.items w.in_default.is
          (ap items_of w.into-is ∙ c.requires.empty)
          (w.number-is ∙ c.count-number.ensures) w.table-is c.push_end.ensures
    ]
