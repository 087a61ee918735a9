-- The closing part of a canonical file: FrTOC's entry and record where the closing has one, then those of FrEndOfFile.
use Rattle.std.proofs.Common.{◌≡◌, ℕ, zero, suc, ◌+◌, ◌≤◌, Bool, false, Option, Some, None, List, [], ◌∷◌}
use Rattle.std.proofs.Common.{◌++◌, length, refl, sym, ap, ◌∙◌, subst, arith, length-append}
use Rattle.std.specs.Prelude.{◌==◌, nat_le, IfSome}
use Rattle.std.proofs.lemmas.Bool.{cond-false, leb-true, ne_eqb}
use Rattle.std.proofs.lemmas.Option.{same_Some}
use Rattle.scalar_types.specs.declared.Order.TheVariants.{Little}
use Rattle.dictionary.specs.declared.entries.Entry.{Entry}
use Rattle.dictionary.specs.Dictionary.{entry_of, IsDictionary}
use Rattle.file_grammar.specs.declared.kind.Kind.{Kind}
use Rattle.file_grammar.specs.declared.kind.Kind.TheVariants.{FrTOC, FrEndOfFile}
use Rattle.file_grammar.specs.Structure.{Structure, record_limit, file_limit}
use Rattle.file_grammar.specs.Kind.{kind_named, is_frame_kind}
use Rattle.file_grammar.specs.Item.{Item, Before}
use Rattle.file_grammar.specs.MayStand.{frames_limit, Stand}
use Rattle.item_reader.proofs.Growing.{entry_of-new}
use Rattle.canonical_file.specs.declared.closing.Closing.{Closing}
use Rattle.canonical_file.specs.Bytes.{entry_bytes}
use Rattle.canonical_file.specs.Records.{Record, record_bytes, unless_held, new_entry, added_by, with_entry}
use Rattle.canonical_file.specs.Records.{piece_bytes}
use Rattle.canonical_file.specs.Written.{Written, table_record, table_piece, after_table, end_bytes, end_size}
use Rattle.canonical_file.specs.Written.{way_back}
use Rattle.canonical_file.specs.Written.{closed_size, end_part, closing_part}
use Rattle.canonical_laws.specs.Writable.{IsWritableFileEnd, IsWritableTable}
use Rattle.canonical_laws.proofs.Holding.{Holds, holds-left, holds-right, holds-at}
use Rattle.canonical_laws.proofs.WrittenEntries.{head_structure}
use Rattle.canonical_laws.proofs.AgreeingEntries.{AreIn, no_name, added-in}
use Rattle.canonical_laws.proofs.RecordsInTurn.{stand-append}
use Rattle.canonical_laws.proofs.WholeFrames.{IsBetween}
use Rattle.canonical_laws.proofs.Heads.{Tells}
use Rattle.canonical_laws.proofs.FileEnds.{AreEndNumbers, EndsFile, end_items, after_file, end-stands}
use Rattle.canonical_laws.proofs.FrameEntries.{AreNeeded, few-needed, not-needed}
use Rattle.canonical_laws.proofs.TableParts.{table_bytes, table_items, past_table, table-facts, HasTable, table-stands}

-- ---- an entry that is new

new-is : (held : List Entry) (e : Entry) → entry_of held e.class ≡ None
    → new_entry held e ≡ entry_bytes (length held) e
new-is held e none = ap (λ o. unless_held o held e) none

with-is : (held : List Entry) (e : Entry) → entry_of held e.class ≡ None → with_entry held e ≡ held ++ e ∷ []
with-is held e none = ap (λ o. added_by o held e) none

-- ---- the table

-- its record, and whether it is within the limit
abbrev pub table_of : Written → Entry → Record
table_of w t = table_record w.built t

abbrev pub fits : Written → Entry → Bool
fits w t = nat_le (length (record_bytes (table_of w t))) record_limit

abbrev pub closing_items : Written → Before → Option Entry → List Item
closing_items w b None = []
closing_items w b (Some t) = table_items (fits w t) b (table_of w t)

abbrev pub past_closing : Written → Before → Option Entry → Before
past_closing w b None = b
past_closing w b (Some t) = past_table (fits w t) b (table_of w t)

-- What is known where the closing is to stand.
pub record Closes (dictionary : List Entry) (file : List ℕ) (w : Written) (b : Before) (e : Entry)
    (table : Option Entry) : Type 0 where
  pub sound : IsDictionary dictionary
  pub between : IsBetween dictionary b
  pub tells : Tells w b
  pub needed : AreNeeded dictionary b.dictionary
  pub frames : w.frames ≤ frames_limit
  pub end : IsWritableFileEnd dictionary e
  pub table_is : IfSome table (IsWritableTable dictionary)
  pub limit : length file ≤ file_limit
  pub holds : Holds file b.place (closing_part w (record { end = e; table = table }))
  pub whole : length file ≡ closed_size (after_table w (record { end = e; table = table })) e

-- What stands after the table.
pub record PastTable (dictionary : List Entry) (w : Written) (b : Before) (e : Entry) (table : Option Entry) :
    Type 0 where
  pub tells : Tells (after_table w (record { end = e; table = table })) (past_closing w b table)
  pub entries : AreIn dictionary (past_closing w b table).dictionary
  pub class : entry_of (past_closing w b table).dictionary e.class ≡ None
  pub frame : (past_closing w b table).frame ≡ []
  pub unclosed : (past_closing w b table).closed ≡ false
  pub few : length (past_closing w b table).dictionary ≤ 257

-- the two entries of a closing have two classes
two_classes : (dictionary : List Entry) (t e : Entry) → IsWritableTable dictionary t → IsWritableFileEnd dictionary e
    → e.class ≡ t.class → ⊥
two_classes dictionary t e table end same =
    let one : e ≡ t = same_Some e t (sym end.held ∙ ap (entry_of dictionary) same ∙ table.held) in
    let kinds : kind_named e.name ≡ kind_named t.name = ap (λ (x : Entry). kind_named x.name) one in
    apart (kind_named e.name) (kind_named t.name) end.kind table.kind kinds
  where
    apart : (k j : Kind) → k ≡ FrEndOfFile → j ≡ FrTOC → k ≡ j → ⊥
    apart k j is other same = cc

end-class : (dictionary : List Entry) (file : List ℕ) (w : Written) (b : Before) (e : Entry) (table : Option Entry)
    → Closes dictionary file w b e table → entry_of b.dictionary e.class ≡ None
end-class dictionary file w b e table may =
    not-needed dictionary b.dictionary e may.needed may.end.held (ap is_frame_kind may.end.kind)

table-class : (dictionary : List Entry) (file : List ℕ) (w : Written) (b : Before) (e t : Entry)
    → Closes dictionary file w b e (Some t) → entry_of b.dictionary t.class ≡ None
table-class dictionary file w b e t may =
    not-needed dictionary b.dictionary t may.needed may.table_is.held (ap is_frame_kind may.table_is.kind)

-- the piece of the table
table-bytes : (w : Written) (b : Before) (e t : Entry) → Tells w b → entry_of b.dictionary t.class ≡ None
    → piece_bytes (table_piece w (record { end = e; table = Some t }))
    ≡ entry_bytes (length b.dictionary) t ++ table_bytes (fits w t) (table_of w t)
table-bytes w b e t tells class =
    let rest : List ℕ = table_bytes (fits w t) (table_of w t) in
    ap (λ es. new_entry es t ++ rest) tells.entries ∙ ap (λ xs. xs ++ rest) (new-is b.dictionary t class)

pub past-table : (dictionary : List Entry) (file : List ℕ) (w : Written) (b : Before) (e : Entry)
    (table : Option Entry) → Closes dictionary file w b e table → PastTable dictionary w b e table
past-table dictionary file w b e None may = record {
  tells = record { size = omega (arith, may.tells.size); entries = may.tells.entries; count = may.tells.count };
  entries = may.between.entries;
  class = end-class dictionary file w b e None may;
  frame = may.between.frame;
  unclosed = may.between.unclosed;
  few = omega (arith, few-needed dictionary b.dictionary may.sound may.needed);
}
past-table dictionary file w b e (Some t) may =
    let class : entry_of b.dictionary t.class ≡ None = table-class dictionary file w b e t may in
    let facts = table-facts (fits w t) b (table_of w t) in
    let piece : List ℕ = piece_bytes (table_piece w (record { end = e; table = Some t })) in
    let bytes = table-bytes w b e t may.tells class in
    let apart : (e.class == t.class) ≡ false =
    ne_eqb e.class t.class (two_classes dictionary t e may.table_is may.end) in
    let held : AreIn dictionary (b.dictionary ++ t ∷ []) =
    added-in dictionary b.dictionary None t may.between.entries may.table_is.held in
    let none : entry_of (b.dictionary ++ t ∷ []) e.class ≡ None =
    entry_of-new b.dictionary t e.class (end-class dictionary file w b e (Some t) may) ∙ cond-false _ _ _ apart in
    record {
      tells = record {
        size = omega (arith, may.tells.size, facts.place, ap length bytes);
        entries = ap (λ es. with_entry es t) may.tells.entries ∙ with-is b.dictionary t class ∙ sym facts.dictionary;
        count = may.tells.count ∙ sym facts.count;
      };
      entries = subst (AreIn dictionary) (sym facts.dictionary) held;
      class = ap (λ es. entry_of es e.class) facts.dictionary ∙ none;
      frame = facts.frame ∙ may.between.frame;
      unclosed = facts.closed ∙ may.between.unclosed;
      few = omega (
        arith,
        few-needed dictionary b.dictionary may.sound may.needed,
        ap length facts.dictionary,
        length-append b.dictionary (t ∷ []),
      );
    }

-- ---- the end

way_back-within : (behind table : ℕ) → way_back behind table ≤ table + behind
way_back-within behind zero = omega arith
way_back-within behind (suc n) = omega arith

-- the state after the table, and the numbers that the end tells
abbrev state : Written → Entry → Option Entry → Written
state w e table = after_table w (record { end = e; table = table })

abbrev table_length : Written → Entry → Option Entry → ℕ
table_length w e table = length (table_piece w (record { end = e; table = table })).record_itself

abbrev pub told_bytes : Written → Entry → Option Entry → ℕ
told_bytes w e table = closed_size (state w e table) e

abbrev pub told_seek : Written → Entry → Option Entry → ℕ
told_seek w e table = way_back (end_size (state w e table) e) (table_length w e table)

-- its entry is new
end-entry : (dictionary : List Entry) (w : Written) (b : Before) (e : Entry) (table : Option Entry)
    → PastTable dictionary w b e table
    → new_entry (state w e table).entries e ≡ entry_bytes (length (past_closing w b table).dictionary) e
end-entry dictionary w b e table past =
    ap (λ es. new_entry es e) past.tells.entries ∙ new-is (past_closing w b table).dictionary e past.class

end-numbers : (dictionary : List Entry) (file : List ℕ) (w : Written) (b : Before) (e : Entry) (table : Option Entry)
    → Closes dictionary file w b e table → AreEndNumbers w.frames (told_bytes w e table) (told_seek w e table)
end-numbers dictionary file w b e table may =
    let c : Closing = record { end = e; table = table } in
    let within = way_back-within (end_size (state w e table) e) (table_length w e table) in
    let piece = length-append (table_piece w c).entry (table_piece w c).record_itself in
    record {
      few = omega (arith, may.frames);
      short = omega (arith, may.whole, may.limit);
      near = omega (arith, may.whole, may.limit, within, piece);
    }

pub ends-file : (dictionary : List Entry) (file : List ℕ) (w : Written) (b : Before) (e : Entry)
    (table : Option Entry) → Closes dictionary file w b e table
    → EndsFile dictionary file (past_closing w b table) e w.frames (told_bytes w e table) (told_seek w e table)
ends-file dictionary file w b e table may =
    let past = past-table dictionary file w b e table may in
    let mid : Before = past_closing w b table in
    let c : Closing = record { end = e; table = table } in
    let piece : List ℕ = piece_bytes (table_piece w c) in
    let entry = end-entry dictionary w b e table past in
    let end : List ℕ = end_bytes e w.frames (told_bytes w e table) (told_seek w e table) in
    let behind : List ℕ = end_part (state w e table) (table_length w e table) e in
    let place : b.place + length piece ≡ mid.place = omega (arith, past.tells.size, may.tells.size) in
    let right : Holds file mid.place behind =
    holds-at file (b.place + length piece) mid.place behind place (holds-right file b.place piece behind may.holds) in
    record {
      writable = may.end;
      class = past.class;
      name = no_name dictionary mid.dictionary e may.sound past.entries may.end.held past.class;
      few_entries = omega (arith, past.few);
      unclosed = past.unclosed;
      frame = past.frame;
      frames = past.tells.count;
      ends = omega (arith, past.tells.size, ap length entry);
      numbers = end-numbers dictionary file w b e table may;
      limit = may.limit;
      holds = subst (λ xs. Holds file mid.place (xs ++ end)) entry right;
    }

-- ---- both

abbrev pub all_items : Written → Before → Entry → Option Entry → List Item
all_items w b e table =
    closing_items w b table
    ++ end_items (past_closing w b table) e w.frames (told_bytes w e table) (told_seek w e table)

abbrev pub after_closing : Written → Before → Entry → Option Entry → Before
after_closing w b e table =
    after_file (past_closing w b table) e w.frames (told_bytes w e table) (told_seek w e table)

pub has-table : (dictionary : List Entry) (file : List ℕ) (w : Written) (b : Before) (e t : Entry)
    → Closes dictionary file w b e (Some t)
    → HasTable dictionary (fits w t) file b (table_of w t)
    (head_structure (past_closing w b (Some t)).place (length (past_closing w b (Some t)).dictionary) e)
has-table dictionary file w b e t may =
    let class = table-class dictionary file w b e t may in
    let mid : Before = past_closing w b (Some t) in
    let c : Closing = record { end = e; table = Some t } in
    let piece : List ℕ = piece_bytes (table_piece w c) in
    let behind : List ℕ = end_part (state w e (Some t)) (table_length w e (Some t)) e in
    let stand = end-stands dictionary file mid e w.frames (told_bytes w e (Some t)) (told_seek w e (Some t))
    (ends-file dictionary file w b e (Some t) may) in
    record {
      writable = may.table_is;
      first = refl;
      class = class;
      name = no_name dictionary b.dictionary t may.sound may.between.entries may.table_is.held class;
      few_entries = omega (arith, few-needed dictionary b.dictionary may.sound may.needed);
      unclosed = may.between.unclosed;
      frame = may.between.frame;
      no_table = may.between.no_table;
      short = λ is. leb-true (length (record_bytes (table_of w t))) record_limit is;
      limit = may.limit;
      holds = subst (Holds file b.place) (table-bytes w b e t may.tells class)
          (holds-left file b.place piece behind may.holds);
      stands = stand.0.1.described.stands;
      place = refl;
      other = λ two. omega (arith, two);
    }

-- The closing stands.
pub closing-stands : (dictionary : List Entry) (file : List ℕ) (w : Written) (b : Before) (e : Entry)
    (table : Option Entry) → Closes dictionary file w b e table
    → Stand Little file b (all_items w b e table) (after_closing w b e table)
closing-stands dictionary file w b e None may =
    end-stands dictionary file b e w.frames (told_bytes w e None) (told_seek w e None)
    (ends-file dictionary file w b e None may)
closing-stands dictionary file w b e (Some t) may =
    let mid : Before = past_closing w b (Some t) in
    let n : ℕ = told_bytes w e (Some t) in
    let k : ℕ = told_seek w e (Some t) in
    let next : Structure = head_structure mid.place (length mid.dictionary) e in
    stand-append Little file b mid (after_closing w b e (Some t)) (closing_items w b (Some t))
    (end_items mid e w.frames n k)
    (table-stands dictionary (fits w t) file b (table_of w t) next (has-table dictionary file w b e t may))
    (end-stands dictionary file mid e w.frames n k (ends-file dictionary file w b e (Some t) may))
