-- The bytes after the frames of the sample file: no more than a record may have, and few beside.
use Rattle.std.proofs.Common.{◌≡◌, ℕ, ◌+◌, ◌≤◌, inl, inr, Bool, true, false, cond, Some, List, [], ◌++◌, length}
use Rattle.std.proofs.Common.{refl, ap, ◌∙◌, arith}
use Rattle.std.specs.Prelude.{nat_le}
use Rattle.std.proofs.lemmas.Bool.{leb-true}
use Rattle.std.proofs.lemmas.List.{length-append}
use Rattle.dictionary.specs.declared.entries.Entry.{Entry}
use Rattle.file_grammar.specs.Structure.{record_limit}
use Rattle.file_grammar.specs.Closing.{closes}
use Rattle.canonical_file.specs.declared.closing.Closing.{Closing}
use Rattle.canonical_file.specs.Records.{record_bytes, new_entry, with_entry}
use Rattle.canonical_file.specs.Written.{Written, table_record, if_within, after_table, end_bytes, end_size}
use Rattle.canonical_file.specs.Written.{closed_size, way_back, closing_part}
use Rattle.canonical_file.proofs.EndSizes.{end-length}
use Rattle.sample_file.specs.Entries.{sample_entries, contents_table, file_end}
use Rattle.sample_file.specs.Sample.{sample_closing}
use Rattle.sample_file.proofs.Computing.{computing}
use Rattle.sample_file.proofs.Counted.{AreUsed}

-- a record that is left out past the limit of records
within-limit : (bytes : List ℕ) → length (if_within bytes) ≤ record_limit
within-limit bytes = by (nat_le (length bytes) record_limit) refl
  where
    by : (short : Bool) → nat_le (length bytes) record_limit ≡ short
        → length (cond short bytes []) ≤ record_limit
    by true is = leb-true (length bytes) record_limit is
    by false is = omega arith

-- The bytes of a closing part, by those of its entries and of its last record.
part-size : (w : Written) (e end : Entry) (a b d : ℕ) → closes end.elements ≡ true
    → length (new_entry w.entries e) ≡ a → length (new_entry (with_entry w.entries e) end) ≡ b
    → length (end_bytes end 0 0 0) ≡ d
    → length (closing_part w (record { end = end; table = Some e })) ≤ a + record_limit + b + d
part-size w e end a b d closing first second last =
    let c : Closing = record { end = end; table = Some e } in
    let after : Written = after_table w c in
    let front : List ℕ = new_entry w.entries e in
    let table : List ℕ = if_within (record_bytes (table_record w.built e)) in
    let seek : ℕ = way_back (end_size after end) (length table) in
    let entry : List ℕ = new_entry after.entries end in
    let bytes : List ℕ = end_bytes end w.frames (closed_size after end) seek in
    let limit : length table ≤ record_limit = within-limit (record_bytes (table_record w.built e)) in
    let whole : length (closing_part w c) ≡ (length front + length table) + (length entry + length bytes) =
    length-append (front ++ table) (entry ++ bytes)
    ∙ (λ i. length-append front table i + length-append entry bytes i) in
    omega (arith, whole, limit, first, second, last, end-length end w.frames (closed_size after end) seek closing)

-- ---- the entries of the closing

closes-file : closes file_end.elements ≡ true
unfolding computing
closes-file = refl

table-first : length (new_entry [] contents_table) ≡ 631
unfolding computing
table-first = refl

table-later : length (new_entry sample_entries contents_table) ≡ 631
unfolding computing
table-later = refl

end-first : length (new_entry (with_entry [] contents_table) file_end) ≡ 195
unfolding computing
end-first = refl

end-later : length (new_entry (with_entry sample_entries contents_table) file_end) ≡ 195
unfolding computing
end-later = refl

end-record : length (end_bytes file_end 0 0 0) ≡ 38
unfolding computing
end-record = refl

-- The bytes after the frames.
pub closing-size : (w : Written) → AreUsed w.entries → length (closing_part w sample_closing) ≤ record_limit + 900
unfolding AreUsed sample_closing
closing-size w (inl none) =
    let first : length (new_entry w.entries contents_table) ≡ 631 =
    ap (λ es. length (new_entry es contents_table)) none ∙ table-first in
    let second : length (new_entry (with_entry w.entries contents_table) file_end) ≡ 195 =
    ap (λ es. length (new_entry (with_entry es contents_table) file_end)) none ∙ end-first in
    omega (arith, part-size w contents_table file_end 631 195 38 closes-file first second end-record)
closing-size w (inr all) =
    let first : length (new_entry w.entries contents_table) ≡ 631 =
    ap (λ es. length (new_entry es contents_table)) all ∙ table-later in
    let second : length (new_entry (with_entry w.entries contents_table) file_end) ≡ 195 =
    ap (λ es. length (new_entry (with_entry es contents_table) file_end)) all ∙ end-later in
    omega (arith, part-size w contents_table file_end 631 195 38 closes-file first second end-record)
