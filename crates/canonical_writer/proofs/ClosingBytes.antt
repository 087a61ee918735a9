-- The closing part of a file, byte for byte.
use Rattle.std.proofs.Common.{◌≡◌, ℕ, zero, suc, ◌+◌, ◌*◌, ◌-◌, ◌≤◌, Bool, true, false, cond, List, [], ◌∷◌, ◌++◌}
use Rattle.std.proofs.Common.{length}
use Rattle.std.proofs.Common.{take, drop, flat_map, sum_by, Option, Some, None, refl, sym, ap, ◌∙◌, subst, arith}
use Rattle.std.proofs.Common.{append_assoc}
use Rattle.std.proofs.Common.{append-nil, Result, Ok, Err, OnOk, IfOk, IfSome}
use Rattle.std.specs.Prelude.{◌==◌, codes, nat_le, unwrap_or}
use Rattle.std.specs.Option.{option_or}
use Rattle.std.proofs.lemmas.Bool.{leb-true, le-leb}
use Rattle.std.proofs.lemmas.List.{length-append}
use Rattle.std.proofs.lemmas.List.Elements.{All-drop}
use Rattle.std.proofs.lemmas.List.Folds.{find-append}
use Rattle.std.proofs.lemmas.List.Sums.{sum_by-cons}
use Rattle.std.proofs.Math.Nat.{suc-mul, zero-mul}
use Rattle.std.proofs.Math.Seq.{take-append_seam, drop-append_seam, drop-append-add}
use Rattle.scalar_types.specs.declared.Order.TheVariants.{Little}
use Rattle.scalar_types.specs.declared.Width.{Width}
use Rattle.scalar_types.specs.declared.Width.TheVariants.{Two, Four}
use Rattle.scalar_types.specs.Number.{size_of}
use Rattle.scalar_types.proofs.NumberBytes.{bytes_of-length}
use Rattle.frame_head.specs.Structure.{common_bytes}
use Rattle.type_text.specs.declared.types.Link.{Link as StructLink}
use Rattle.record_values.specs.declared.values.Value.{Value}
use Rattle.record_values.specs.declared.values.Value.TheVariants as value
use Rattle.layout_plan.specs.declared.fields.Form.{Form}
use Rattle.layout_plan.specs.declared.fields.Form.TheVariants.{Number, Pair, Text, Link}
use Rattle.layout_plan.specs.declared.fields.Field.{Field}
use Rattle.layout_plan.specs.Body.{text_length, value_length, values_length}
use Rattle.layout_plan.specs.Written.{IsWritten}
use Rattle.layout_plan.specs.Appends.{Appends}
use Rattle.layout_plan.proofs.AppendLemmas.{Appends-more}
use Rattle.dictionary.specs.declared.entries.Entry.{Entry}
use Rattle.dictionary.specs.Dictionary.{entry_of}
use Rattle.layout_plan.specs.Layout.{layout_of}
use Rattle.file_grammar.specs.Structure.{record_limit}
use Rattle.file_grammar.specs.Closing.{closes, field_named}
use Rattle.contents_table.specs.declared.fit.TableLayout.{TableLayout}
use Rattle.contents_table.specs.Fit.{table_layout}
use Rattle.contents_table.specs.Built.{Built}
use Rattle.contents_table.specs.Told.{values_told, table_values, table_size}
use Rattle.canonical_file.specs.Ranges.{IsByte, AreBytes}
use Rattle.canonical_file.specs.Bytes.{number_bytes, pair_bytes, text_bytes, link_bytes, value_bytes, body_bytes}
use Rattle.canonical_file.specs.Bytes.{structure_bytes, entry_bytes}
use Rattle.canonical_file.specs.declared.closing.Closing.{Closing}
use Rattle.canonical_file.specs.Records.{unless_held, new_entry, added_by, with_entry, entry_fields, piece_bytes}
use Rattle.canonical_file.specs.Written.{Written, way_back, end_told, end_bytes, end_part}
use Rattle.canonical_file.specs.Written.{table_piece_by, closing_part}
use Rattle.canonical_file.proofs.EndSizes.{structure-size, end-length}
use Rattle.canonical_file.proofs.Spelled.{written-is}
use Rattle.canonical_writer.specs.declared.end_values.EndOfFile.{EndOfFile}
use Rattle.canonical_writer.specs.declared.end_values.EndFields.{EndFields}
use Rattle.canonical_writer.specs.Closed.{table_bytes}
use Rattle.canonical_writer.specs.EndOfFile.{told_of}
use Rattle.canonical_writer.specs.Parts.{IsShortEntry, IsShortClosing, IsUsableTable, last_by, last_entry}
use Rattle.canonical_writer.proofs.Clashes.{unlike}

-- ---- how long bodies are

-- items of one length
items-length : {X : Type 0} (f : X → List ℕ) (n : ℕ) → ((x : X) → length (f x) ≡ n) → (xs : List X)
    → length (flat_map f xs) ≡ length xs * n
items-length f n each [] = sym (zero-mul n)
items-length f n each (x ∷ xs) =
    omega (arith, length-append (f x) (flat_map f xs), each x, items-length f n each xs, suc-mul (length xs) n)

text-length : (text : List ℕ) → length (text_bytes text) ≡ text_length text
text-length text =
    omega (
      arith,
      length-append (number_bytes Two (length text + 1) ++ text) (0 ∷ []),
      length-append (number_bytes Two (length text + 1)) text,
      bytes_of-length Little Two (length text + 1),
    )

texts-length : (texts : List (List ℕ)) → length (flat_map text_bytes texts) ≡ sum_by text_length texts
texts-length [] = refl
texts-length (text ∷ texts) =
    omega (
      arith,
      length-append (text_bytes text) (flat_map text_bytes texts),
      text-length text,
      texts-length texts,
      sum_by-cons text_length text texts,
    )

pair-length : (width : Width) (pair : ℕ × ℕ) → length (pair_bytes width pair) ≡ 2 * size_of width
pair-length width pair =
    omega (
      arith,
      length-append (number_bytes width pair.0) (number_bytes width pair.1),
      bytes_of-length Little width pair.0,
      bytes_of-length Little width pair.1,
    )

link-length : (link : StructLink) → length (link_bytes link) ≡ 6
link-length link =
    omega (
      arith,
      length-append (number_bytes Two link.class) (number_bytes Four link.instance),
      bytes_of-length Little Two link.class,
      bytes_of-length Little Four link.instance,
    )

value-length : (form : Form) (v : Value) → length (value_bytes form v) ≡ value_length form v
value-length (Number width) (value.Num n) = bytes_of-length Little width n
value-length (Number width) (value.Bytes xs) =
    items-length (number_bytes width) (size_of width) (bytes_of-length Little width) xs
value-length (Number width) (value.Nums xs) =
    items-length (number_bytes width) (size_of width) (bytes_of-length Little width) xs
value-length (Pair width) (value.Pair a b) = pair-length width (a, b)
value-length (Pair width) (value.Pairs xs) = items-length (pair_bytes width) (2 * size_of width) (pair-length width) xs
value-length Text (value.Text text) = text-length text
value-length Text (value.Texts xs) = texts-length xs
value-length Link (value.Link link) = link-length link
value-length Link (value.Links xs) = items-length link_bytes 6 link-length xs
value-length form v = refl

pub body-length : (fields : List Field) (values : List Value)
    → length (body_bytes fields values) ≡ values_length fields values
body-length (f ∷ fs) (v ∷ vs) =
    omega (
      arith,
      length-append (value_bytes f.form v) (body_bytes fs vs),
      value-length f.form v,
      body-length fs vs,
    )
body-length fields values = refl

-- ---- the record of the contents table

abbrev table_record_bytes : ℕ → TableLayout → List Field → Built → List ℕ
table_record_bytes class layout fields built =
    structure_bytes class 0 (body_bytes fields (table_values layout fields built))

table-length : (class : ℕ) (layout : TableLayout) (fields : List Field) (built : Built)
    → length (table_record_bytes class layout fields built) ≡ table_size layout fields built
table-length class layout fields built =
    structure-size class 0 (body_bytes fields (table_values layout fields built))
    ∙ ap (λ n. 14 + n) (body-length fields (table_values layout fields built))

table-within : (class : ℕ) (layout : TableLayout) (fields : List Field) (built : Built)
    → table_size layout fields built ≤ 4294967295
    → table_bytes class layout fields built ≡ table_record_bytes class layout fields built
table-within class layout fields built small =
    let bytes = table_record_bytes class layout fields built in
    ap (λ b. cond b bytes [])
    (le-leb (length bytes) record_limit (omega (arith, table-length class layout fields built, small)))

table-beyond : (class : ℕ) (layout : TableLayout) (fields : List Field) (built : Built)
    → (table_size layout fields built ≤ 4294967295 → ⊥) → table_bytes class layout fields built ≡ []
table-beyond class layout fields built large =
    by (nat_le (length (table_record_bytes class layout fields built)) record_limit) refl
  where
    by : (b : Bool) → nat_le (length (table_record_bytes class layout fields built)) record_limit ≡ b
        → cond b (table_record_bytes class layout fields built) [] ≡ []
    by false is = refl
    by true is =
        absurd (large (omega (
          arith,
          table-length class layout fields built,
          leb-true (length (table_record_bytes class layout fields built)) record_limit is,
        )))

-- what is appended of it, and how many bytes that is
abbrev pub IsTable : ℕ → TableLayout → List Field → Built → ℕ → List ℕ → Type 0
IsTable class layout fields built size bytes =
    (bytes ≡ table_bytes class layout fields built) × (size ≡ length bytes)

pub table-refused : (class : ℕ) (layout : TableLayout) (fields : List Field) (built : Built) (start : ℕ)
    (old begun mid new : List ℕ) → (table_size layout fields built ≤ 4294967295 → ⊥) → start ≡ length old
    → Appends (λ bytes. length bytes ≡ 14) old begun → mid ≡ begun → new ≡ take start mid
    → Appends (IsTable class layout fields built 0) old new
table-refused class layout fields built start old begun mid new large start_is room same cut = record {
  items = [];
  whole = cut ∙ (λ i. take (start_is i) ((same ∙ room.whole) i)) ∙ take-append_seam old room.items
      ∙ sym (append-nil old);
  related = (sym (table-beyond class layout fields built large), refl);
}

-- a structure that was begun is ended
pub structure-ended : (class instance start : ℕ) (P : List ℕ → Type 0) (old begun mid new : List ℕ) → start ≡ length old
    → Appends (λ bytes. length bytes ≡ 14) old begun → Appends P begun mid
    → new ≡ take start mid ++ structure_bytes class instance (drop (start + 14) mid) → (body : List ℕ) × P body
    × (drop (start + 14) mid ≡ body) × (new ≡ old ++ structure_bytes class instance body)
    × (length mid ≡ start + (14 + length body))
structure-ended class instance start P old begun mid new start_is room body ended =
    let whole : mid ≡ old ++ (room.items ++ body.items) = body.whole ∙ ap (λ xs. xs ++ body.items) room.whole
    ∙ append_assoc old room.items body.items in
    let front : take start mid ≡ old = (λ i. take (start_is i) (whole i))
    ∙ take-append_seam old (room.items ++ body.items) in
    let back : drop (start + 14) mid ≡ body.items = (λ i. drop (start_is i + 14) (whole i))
    ∙ drop-append-add old (room.items ++ body.items) 14
    ∙ ap (λ n. drop n (room.items ++ body.items)) (sym room.related) ∙ drop-append_seam room.items body.items in
    let long = ap length whole ∙ length-append old (room.items ++ body.items) in
    let behind = length-append room.items body.items in (
      body.items,
      body.related,
      back,
      ended ∙ (λ i. front i ++ structure_bytes class instance (back i)),
      omega (arith, long, behind, start_is, room.related),
    )

-- the body of the last structure is bytes where the whole is
tail-bytes : (front body new : List ℕ) (class : ℕ) → new ≡ front ++ structure_bytes class 0 body → AreBytes new
    → AreBytes body
tail-bytes front body new class whole bytes =
    let common : List ℕ =
    common_bytes Little (record { length = 14 + length body; check = 0; class = class; instance = 0 }) in
    let split : new ≡ (front ++ common) ++ body = whole ∙ sym (append_assoc front common body) in
    subst AreBytes (ap (drop (length (front ++ common))) split ∙ drop-append_seam (front ++ common) body)
    (All-drop IsByte (length (front ++ common)) new bytes)

pub table-written : (class : ℕ) (layout : TableLayout) (fields : List Field) (built : Built) (start size : ℕ)
    (old begun mid new : List ℕ) → AreBytes new → table_size layout fields built ≤ 4294967295 → start ≡ length old
    → Appends (λ bytes. length bytes ≡ 14) old begun
    → Appends (IsWritten Little fields (table_values layout fields built)) begun mid
    → new ≡ take start mid ++ structure_bytes class 0 (drop (start + 14) mid) → size ≡ length mid - start
    → Appends (IsTable class layout fields built size) old new × (size ≤ record_limit)
table-written class layout fields built start size old begun mid new bytes small start_is room body ended size_is =
    let values = table_values layout fields built in
    let made = structure-ended class 0 start
    (IsWritten Little fields values) old begun mid new start_is room body ended in
    let own : AreBytes made.0 =
    subst AreBytes made.2 (tail-bytes (take start mid) (drop (start + 14) mid) new class ended bytes) in
    let is : made.0 ≡ body_bytes fields values = written-is fields values made.0 own made.1 in
    let whole : new ≡ old ++ table_record_bytes class layout fields built = made.3
    ∙ ap (λ body. old ++ structure_bytes class 0 body) is in
    let length_is = table-length class layout fields built in
    let own_length : size ≡ 14 + length (body_bytes fields values) =
    size_is ∙ omega (arith, made.4, ap length is) in
    let sized : size ≡ length (table_record_bytes class layout fields built) =
    own_length ∙ sym (structure-size class 0 (body_bytes fields values)) in (
      record {
        items = table_record_bytes class layout fields built;
        whole = whole;
        related = (sym (table-within class layout fields built small), sized);
      },
      omega (arith, sized, length_is, small),
    )

-- ---- the record of FrEndOfFile

pub way_back-some : (behind table : ℕ) → (table ≡ 0 → ⊥) → table + behind ≡ way_back behind table
way_back-some behind zero some = absurd (some refl)
way_back-some behind (suc length) some = refl

-- the entry is the same, by its number or by those before it
entry-as : (found : Option Entry) (after : List Entry) (number : ℕ) (e : Entry) → length after ≡ number
    → unless_held found after e ≡ last_by found number e
entry-as None after number e same = ap (λ n. entry_bytes n e) same
entry-as (Some old) after number e same = refl

-- what is known of the end where it is written
pub record IsEnd (e : Entry) (fields : List Field) (told : EndFields) (end : EndOfFile) (size : ℕ) : Type 0 where
  pub layout : layout_of e.elements ≡ Some fields
  pub closing : closes e.elements ≡ true
  pub frames : told.frames ≡ field_named e.elements (codes "nFrames")
  pub bytes : told.bytes ≡ field_named e.elements (codes "nBytes")
  pub seek : told.seek ≡ field_named e.elements (codes "seekTOC")
  pub sized : size ≡ length (body_bytes fields (values_told (told_of told end) fields))

-- the record is FrEndOfFile's, and has as many bytes as one that tells nothing
record-is : (e : Entry) (fields : List Field) (told : EndFields) (end : EndOfFile) (size : ℕ)
    → IsEnd e fields told end size
    → (structure_bytes e.class 0 (body_bytes fields (values_told (told_of told end) fields))
    ≡ end_bytes e end.frames end.bytes end.seek)
    × (length (end_bytes e 0 0 0) ≡ 14 + size)
record-is e fields told end size h =
    let own : fields ≡ entry_fields e = sym (ap (λ o. unwrap_or o []) h.layout) in
    let told_is : told_of told end ≡ end_told e.elements end.frames end.bytes end.seek =
    λ i. (h.frames i, value.Num end.frames) ∷ (h.bytes i, value.Num end.bytes) ∷ (h.seek i, value.Num end.seek) ∷ [] in
    let is : structure_bytes e.class 0 (body_bytes fields (values_told (told_of told end) fields))
    ≡ end_bytes e end.frames end.bytes end.seek =
    λ i. structure_bytes e.class 0 (body_bytes (own i) (values_told (told_is i) (own i))) in (
      is,
      sym (end-length e end.frames end.bytes end.seek h.closing) ∙ sym (ap length is)
          ∙ structure-size e.class 0 (body_bytes fields (values_told (told_of told end) fields))
          ∙ ap (λ n. 14 + n) (sym h.sized),
    )

pub longer : {R : List ℕ → Type 0} (old new : List ℕ) → Appends R old new → length old ≤ length new
longer old new part = omega (arith, ap length part.whole ∙ length-append old part.items)

pub whole-size : (size old mid len more : ℕ) → len ≡ mid → old ≤ mid
    → size + old + (mid - old) + more ≡ (size + len) + more
whole-size size old mid len more same le = omega arith

end-appended : (e : Entry) (fields : List Field) (told : EndFields) (end : EndOfFile) (size : ℕ) (so_far : Written)
    (used : List Entry) (number table : ℕ) (old mid new : List ℕ) → IsEnd e fields told end size
    → so_far.size + length old + (length mid - length old) + (14 + size) ≡ end.bytes → so_far.frames ≡ end.frames
    → way_back ((length mid - length old) + (14 + size)) table ≡ end.seek
    → Appends (λ bytes. IsShortEntry e → bytes ≡ last_entry used number e) old mid
    → Appends (λ bytes. bytes
    ≡ structure_bytes e.class 0 (body_bytes fields (values_told (told_of told end) fields))) mid new
    → Appends (λ bytes. IsShortEntry e → (after : List Entry) → length after ≡ number
    → entry_of after e.class ≡ entry_of used e.class
    → bytes ≡ end_part (record so_far { size = so_far.size + length old; entries = after }) table e) old new
end-appended e fields told end size so_far used number table old mid new h bytes_is frames_is seek_is first second =
    record {
      items = first.items ++ second.items;
      whole = second.whole ∙ ap (λ xs. xs ++ second.items) first.whole ∙ append_assoc old first.items second.items;
      related = λ short after many same.
          let made = record-is e fields told end size h in
          let entry : first.items ≡ new_entry after e = first.related short
          ∙ ap (λ o. last_by o number e) (sym same) ∙ sym (entry-as (entry_of after e.class) after number e many) in
          let long : length mid - length old ≡ length (new_entry after e) =
          apart (length old) (length mid) (length first.items) (ap length first.whole ∙ length-append old first.items)
          ∙ ap length entry in
          let behind : (length mid - length old) + (14 + size) ≡ length (new_entry after e) + length (end_bytes e 0 0 0) =
          λ i. long i + sym made.1 i in
          let bytes : end.bytes ≡ so_far.size + length old + (length (new_entry after e) + length (end_bytes e 0 0 0)) =
          sym bytes_is ∙ omega (arith, long, made.1) in
          let seek : end.seek ≡ way_back (length (new_entry after e) + length (end_bytes e 0 0 0)) table =
          sym seek_is ∙ ap (λ n. way_back n table) behind in
          (λ i. entry i ++ (second.related ∙ made.0) i)
          ∙ (λ i. new_entry after e ++ end_bytes e (sym frames_is i) (bytes i) (seek i));
    }
  where
    apart : (a b n : ℕ) → b ≡ a + n → b - a ≡ n
    apart a b n sum = omega arith

pub end-written : {A E : Type 0} (r : Result A E) (e : Entry) (fields : List Field) (told : EndFields) (end : EndOfFile)
    (size : ℕ) (so_far : Written) (used : List Entry) (number table : ℕ) (old mid new : List ℕ)
    → IsEnd e fields told end size
    → so_far.size + length old + (length mid - length old) + (14 + size) ≡ end.bytes → so_far.frames ≡ end.frames
    → way_back ((length mid - length old) + (14 + size)) table ≡ end.seek
    → Appends (λ bytes. IsShortEntry e → bytes ≡ last_entry used number e) old mid
    → Appends (λ bytes. OnOk r (bytes ≡ structure_bytes e.class 0
    (body_bytes fields (values_told (told_of told end) fields)))) mid new
    → Appends (λ bytes. OnOk r (IsShortEntry e → (after : List Entry) → length after ≡ number
    → entry_of after e.class ≡ entry_of used e.class
    → bytes ≡ end_part (record so_far { size = so_far.size + length old; entries = after }) table e)) old new
end-written (Ok x) e fields told end size so_far used number table old mid new h bytes frames seek first second =
    end-appended e fields told end size so_far used number table old mid new h bytes frames seek first second
end-written (Err x) e fields told end size so_far used number table old mid new h bytes frames seek first second =
    Appends-more (λ bytes. IsShortEntry e → bytes ≡ last_entry used number e) (λ xs. Unit {0})
    (λ xs. Unit {0}) old mid new
    first second (λ xs ys is t. tt)

-- ---- FrTOC's entry and record

pub table-appended : {E : Type 0} (r : Result ℕ E) (so_far : Written) (e : Entry) (number : ℕ) (layout : TableLayout)
    (fields : List Field) (old mid new : List ℕ) → layout_of e.elements ≡ Some fields → layout ≡ table_layout e.elements
    → number ≡ length so_far.entries
    → Appends (λ bytes. IsShortEntry e → bytes ≡ last_entry so_far.entries number e) old mid
    → Appends (λ bytes. IfOk r (λ size. IsTable e.class layout fields so_far.built size bytes)) mid new
    → Appends (λ bytes. IfOk r (λ size. IsShortEntry e → (bytes ≡ piece_bytes (table_piece_by so_far e))
    × (size ≡ length (table_piece_by so_far e).record_itself))) old new
table-appended (Ok size) so_far e number layout fields old mid new readable layout_is many first second =
    let own : fields ≡ entry_fields e = sym (ap (λ o. unwrap_or o []) readable) in
    let record_is : table_bytes e.class layout fields so_far.built ≡ (table_piece_by so_far e).record_itself =
    λ i. table_bytes e.class (layout_is i) (own i) so_far.built in
    Appends-more (λ bytes. IsShortEntry e → bytes ≡ last_entry so_far.entries number e)
    (IsTable e.class layout fields so_far.built size)
    (λ bytes. IsShortEntry e → (bytes ≡ piece_bytes (table_piece_by so_far e))
    × (size ≡ length (table_piece_by so_far e).record_itself)) old mid new first second
    (λ xs ys entry table short. (
      (λ i. (entry short ∙ sym (entry-as (entry_of so_far.entries e.class) so_far.entries number e (sym many))) i
          ++ (table.0 ∙ record_is) i),
      table.1 ∙ ap length (table.0 ∙ record_is),
    ))
table-appended (Err x) so_far e number layout fields old mid new readable layout_is many first second =
    Appends-more (λ bytes. IsShortEntry e → bytes ≡ last_entry so_far.entries number e) (λ xs. Unit {0})
    (λ xs. Unit {0})
    old mid new first second (λ xs ys is t. tt)

-- ---- the whole part

-- what is appended to nothing is all that is there
pub from-empty : (P : List ℕ → Type 0) (old new mid : List ℕ) → old ≡ [] → mid ≡ new → Appends P old new → P mid
from-empty P old new mid empty same part =
    subst P (sym (same ∙ part.whole ∙ ap (λ xs. xs ++ part.items) empty)) part.related

-- an entry of another class is found as before
other-entry : (entries : List Entry) (e : Entry) (class : ℕ) → (e.class ≡ class → ⊥)
    → entry_of (with_entry entries e) class ≡ entry_of entries class
other-entry entries e class other = by (entry_of entries e.class)
  where
    or-none : (found : Option Entry) → option_or found None ≡ found
    or-none None = refl
    or-none (Some x) = refl

    by : (found : Option Entry) → entry_of (added_by found entries e) class ≡ entry_of entries class
    by (Some old) = refl
    by None =
        find-append (λ (x : Entry). class == x.class) entries (e ∷ [])
        ∙ ap (λ b. option_or (entry_of entries class) (cond b (Some e) None))
        (unlike class e.class (λ same. other (sym same)))
        ∙ or-none (entry_of entries class)

-- what is known of the last part
abbrev pub IsLast : Written → Closing → ℕ → ℕ → ℕ → List ℕ → Type 0
IsLast so_far c number table more bytes =
    IsShortEntry c.end → (after : List Entry) → length after ≡ number
    → entry_of after c.end.class ≡ entry_of so_far.entries c.end.class
    → bytes ≡ end_part (record so_far { size = so_far.size + more; entries = after }) table c.end

-- the closing part, by whether there is a table
abbrev part_by : Written → Closing → Option Entry → List ℕ
part_by w c o = closing_part w (record c { table = o })

pub closing-without : {A E : Type 0} (r : Result A E) (so_far : Written) (c : Closing) (number table : ℕ)
    (mid new : List ℕ) → c.table ≡ None → mid ≡ [] → number ≡ length so_far.entries → table ≡ 0
    → Appends (λ bytes. OnOk r (IsLast so_far c number table (length mid) bytes)) mid new
    → OnOk r (IsShortClosing c → new ≡ closing_part so_far c)
closing-without (Ok x) so_far c number table mid new none empty many no_table last = λ short.
    last.whole ∙ ap (λ xs. xs ++ last.items) empty
    ∙ last.related short.end so_far.entries (sym many) refl
    ∙ (λ i. end_part (record so_far { size = so_far.size + length (empty i) }) (no_table i) c.end)
    ∙ ap (part_by so_far c) (sym none)
closing-without (Err x) so_far c number table mid new none empty many no_table last = tt

pub closing-with : {A E : Type 0} (r : Result A E) (so_far : Written) (c : Closing) (e : Entry) (number table : ℕ)
    (mid new : List ℕ) → c.table ≡ Some e → IsUsableTable c.end e
    → (IsShortEntry e → (mid ≡ piece_bytes (table_piece_by so_far e))
    × (table ≡ length (table_piece_by so_far e).record_itself))
    → number ≡ length (with_entry so_far.entries e)
    → Appends (λ bytes. OnOk r (IsLast so_far c number table (length mid) bytes)) mid new
    → OnOk r (IsShortClosing c → new ≡ closing_part so_far c)
closing-with (Ok x) so_far c e number table mid new some usable piece many last = λ short.
    let made = piece (subst (λ o. IfSome o IsShortEntry) some short.table) in
    last.whole
    ∙ ap (λ xs. mid ++ xs) (last.related short.end (with_entry so_far.entries e) (sym many)
    (other-entry so_far.entries e c.end.class usable.apart))
    ∙ (λ i. made.0 i
    ++ end_part (record so_far { size = so_far.size + length (made.0 i); entries = with_entry so_far.entries e })
    (made.1 i) c.end)
    ∙ ap (part_by so_far c) (sym some)
closing-with (Err x) so_far c e number table mid new some usable piece many last = tt
