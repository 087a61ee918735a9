-- The state of the contents table of a canonical file: none, where its record is not written.
use Rattle.std.proofs.Common.{◌≡◌, ℕ, ◌≤◌, Option, Some, None, List, [], length, ap, ◌∙◌, subst}
use Rattle.std.specs.Prelude.{IfSome}
use Rattle.std.specs.List.{last_or}
use Rattle.scalar_types.specs.declared.Order.TheVariants.{Little}
use Rattle.dictionary.specs.declared.entries.Entry.{Entry}
use Rattle.file_grammar.specs.Structure.{file_limit}
use Rattle.file_grammar.proofs.Prefixes.{items_unique}
use Rattle.file_content.specs.declared.state.TableState.TheVariants as state
use Rattle.file_content.specs.Stored.{table_in, seek_in}
use Rattle.file_content.specs.Contents.{IsState, seek_or_none, AreContents}
use Rattle.canonical_file.specs.Written.{Written, header_alone, after_frames, after_table, table_piece, end_size}
use Rattle.canonical_file.specs.Written.{way_back}
use Rattle.canonical_file.specs.Written.{canonical_file}
use Rattle.canonical_laws.specs.Writable.{IsWritableFileEnd, IsWritableTable}
use Rattle.canonical_laws.specs.Laws.{UnwrittenTablesAreNone}
use Rattle.canonical_laws.proofs.ClosingParts.{told_seek}
use Rattle.canonical_laws.proofs.WholeFiles.{AreWritten, file_items, file_last, file-stands}

pub unwritten : UnwrittenTablesAreNone
unwritten dictionary fs closing c sound frames writable few limit contents none =
    by closing.end closing.table writable.end writable.table limit contents none
  where
    by : (e : Entry) (table : Option Entry) → IsWritableFileEnd dictionary e → IfSome table (IsWritableTable dictionary)
        → length (canonical_file (record { end = e; table = table }) fs) ≤ file_limit
        → AreContents (canonical_file (record { end = e; table = table }) fs) c
        → (table_piece (after_frames header_alone fs) (record { end = e; table = table })).record_itself ≡ []
        → c.table ≡ state.None
    by e table end table_is limit contents none =
        let all : AreWritten dictionary fs = record { sound = sound; frames = frames; few = few } in
        let stands = file-stands dictionary fs e table all end table_is limit in
        let w : Written = after_frames header_alone fs in
        let file : List ℕ = canonical_file (record { end = e; table = table }) fs in
        let same = items_unique file c.order Little contents.items (file_items fs e table) contents.last
        (file_last fs e table) contents.well_formed stands.well_formed in
        let behind : ℕ = end_size (after_table w (record { end = e; table = table })) e in
        let zero_seek : told_seek w e table ≡ 0 = ap (λ (bytes : List ℕ). way_back behind (length bytes)) none in
        let seek : seek_in c.order contents.items ≡ Some 0 =
        (λ i. seek_in (same.0 i) (same.1 i)) ∙ ap (last_or None) stands.seeks ∙ ap Some zero_seek in
        let P : ℕ → Type 0 =
        λ n. IsState c.order c.bytes c.frames c.channels (table_in c.order contents.items) n c.table in
        subst P (ap seek_or_none seek) contents.table_is
