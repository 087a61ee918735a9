-- What the closing part of a canonical file brings: no frame, the contents table where its record is written, and the
-- way back to it.
use Rattle.std.proofs.Common.{◌≡◌, ℕ, Bool, true, false, cond, Option, Some, None, List, [], ◌∷◌, ◌++◌, length, refl}
use Rattle.std.proofs.Common.{ap}
use Rattle.std.proofs.Common.{◌∙◌, append-nil}
use Rattle.scalar_types.specs.declared.Order.TheVariants.{Little}
use Rattle.dictionary.specs.declared.entries.Entry.{Entry}
use Rattle.file_grammar.specs.Structure.{Structure}
use Rattle.file_grammar.specs.Item.{Before}
use Rattle.file_content.specs.Stored.{StoredTable, frame_of_kind, frame_ended, table_of_kind, table_here, seek_of_kind}
use Rattle.file_content.specs.Stored.{seek_told}
use Rattle.canonical_file.specs.Written.{Written}
use Rattle.canonical_laws.proofs.WrittenEntries.{head_structure}
use Rattle.canonical_laws.proofs.WrittenRecords.{record_structure, past_entry}
use Rattle.canonical_laws.proofs.FrameEnds.{brings, frames_from, brings-append}
use Rattle.canonical_laws.proofs.FileEnds.{end_items, end-frames, end-tables, end-seeks}
use Rattle.canonical_laws.proofs.TableParts.{table-stands, table-brings, table-kind}
use Rattle.canonical_laws.proofs.ClosingParts.{table_of, fits, closing_items, past_closing, Closes, told_bytes}
use Rattle.canonical_laws.proofs.ClosingParts.{told_seek}
use Rattle.canonical_laws.proofs.ClosingParts.{ends-file, all_items, has-table}

-- the record of the table, where it stands
abbrev pub table_structure : Written → Before → Entry → Structure
table_structure w b t = record_structure (past_entry None b t).place (table_of w t)

-- the items of the end
abbrev ends : {X : Type 0} → (Before → Structure → List X) → Written → Before → Entry → Option Entry → List X
ends from w b e table =
    brings from (past_closing w b table)
    (end_items (past_closing w b table) e w.frames (told_bytes w e table) (told_seek w e table))

-- What the table brings, and what the end does.
splits : {X : Type 0} (from : Before → Structure → List X) (dictionary : List Entry) (file : List ℕ) (w : Written)
    (b : Before) (e : Entry) (table : Option Entry) → Closes dictionary file w b e table
    → brings from b (all_items w b e table) ≡ brings from b (closing_items w b table) ++ ends from w b e table
splits from dictionary file w b e None may = refl
splits from dictionary file w b e (Some t) may =
    let mid : Before = past_closing w b (Some t) in
    let next : Structure = head_structure mid.place (length mid.dictionary) e in
    brings-append from file b mid (closing_items w b (Some t))
    (end_items mid e w.frames (told_bytes w e (Some t)) (told_seek w e (Some t)))
    (table-stands dictionary (fits w t) file b (table_of w t) next (has-table dictionary file w b e t may))

-- what its record does, where it is written
record-brings : {X : Type 0} (from : Before → Structure → List X) (dictionary : List Entry) (file : List ℕ)
    (w : Written) (b : Before) (e t : Entry) → Closes dictionary file w b e (Some t)
    → brings from b (closing_items w b (Some t))
    ≡ cond (fits w t) (from (past_entry None b t) (table_structure w b t)) []
record-brings from dictionary file w b e t may =
    let has = has-table dictionary file w b e t may in
    table-brings from dictionary (fits w t) b (table_of w t) has.writable has.class has.name

both : {X : Type 0} (b : Bool) (none : List X) → cond b none none ≡ none
both true none = refl
both false none = refl

-- ---- frames

pub closing-frames : (dictionary : List Entry) (file : List ℕ) (w : Written) (b : Before) (e : Entry)
    (table : Option Entry) → Closes dictionary file w b e table → frames_from b (all_items w b e table) ≡ []
closing-frames dictionary file w b e table may =
    splits frame_ended dictionary file w b e table may
    ∙ (λ i. none table may i
    ++ end-frames dictionary file (past_closing w b table) e w.frames (told_bytes w e table) (told_seek w e table)
    (ends-file dictionary file w b e table may) i)
  where
    none : (table : Option Entry) → Closes dictionary file w b e table
        → brings frame_ended b (closing_items w b table) ≡ []
    none None may = refl
    none (Some t) may =
        let has = has-table dictionary file w b e t may in
        let next : Before = past_entry None b t in
        record-brings frame_ended dictionary file w b e t may
        ∙ ap (λ k. cond (fits w t) (frame_of_kind k next (table_structure w b t)) [])
        (table-kind dictionary b (table_of w t) has.writable has.class)
        ∙ both (fits w t) []

-- ---- the table

abbrev pub stored_table : Written → Before → Entry → StoredTable
stored_table w b t = record { held = (past_entry None b t).dictionary; structure = table_structure w b t }

-- the table, where its record is written
abbrev pub written_table : Written → Before → Option Entry → List StoredTable
written_table w b None = []
written_table w b (Some t) = cond (fits w t) (stored_table w b t ∷ []) []

pub closing-tables : (dictionary : List Entry) (file : List ℕ) (w : Written) (b : Before) (e : Entry)
    (table : Option Entry) → Closes dictionary file w b e table
    → brings table_here b (all_items w b e table) ≡ written_table w b table
closing-tables dictionary file w b e table may =
    splits table_here dictionary file w b e table may
    ∙ (λ i. one table may i
    ++ end-tables dictionary file (past_closing w b table) e w.frames (told_bytes w e table) (told_seek w e table)
    (ends-file dictionary file w b e table may) i)
    ∙ append-nil (written_table w b table)
  where
    one : (table : Option Entry) → Closes dictionary file w b e table
        → brings table_here b (closing_items w b table) ≡ written_table w b table
    one None may = refl
    one (Some t) may =
        let has = has-table dictionary file w b e t may in
        let next : Before = past_entry None b t in
        record-brings table_here dictionary file w b e t may
        ∙ ap (λ k. cond (fits w t) (table_of_kind k next (table_structure w b t)) [])
        (table-kind dictionary b (table_of w t) has.writable has.class)

-- ---- the way back

pub closing-seeks : (dictionary : List Entry) (file : List ℕ) (w : Written) (b : Before) (e : Entry)
    (table : Option Entry) → Closes dictionary file w b e table
    → brings (seek_told Little) b (all_items w b e table) ≡ told_seek w e table ∷ []
closing-seeks dictionary file w b e table may =
    splits (seek_told Little) dictionary file w b e table may
    ∙ (λ i. none table may i
    ++ end-seeks dictionary file (past_closing w b table) e w.frames (told_bytes w e table) (told_seek w e table)
    (ends-file dictionary file w b e table may) i)
  where
    none : (table : Option Entry) → Closes dictionary file w b e table
        → brings (seek_told Little) b (closing_items w b table) ≡ []
    none None may = refl
    none (Some t) may =
        let has = has-table dictionary file w b e t may in
        let next : Before = past_entry None b t in
        record-brings (seek_told Little) dictionary file w b e t may
        ∙ ap (λ k. cond (fits w t) (seek_of_kind Little k next (table_structure w b t)) [])
        (table-kind dictionary b (table_of w t) has.writable has.class)
        ∙ both (fits w t) []
