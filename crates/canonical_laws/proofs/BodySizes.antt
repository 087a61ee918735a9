-- How many bytes values are, whether they fit their fields or not.
use Rattle.std.proofs.Common.{◌≡◌, ℕ, ◌+◌, ◌*◌, List, [], ◌∷◌, ◌++◌, length, flat_map, sum_by, refl, sym, ap, ◌∙◌}
use Rattle.std.proofs.Common.{arith}
use Rattle.std.proofs.Common.{length-append}
use Rattle.std.proofs.Math.Nat.{suc-mul, zero-mul}
use Rattle.std.proofs.lemmas.List.Sums.{sum_by-cons}
use Rattle.scalar_types.specs.declared.Order.TheVariants.{Little}
use Rattle.scalar_types.specs.declared.Width.{Width}
use Rattle.scalar_types.specs.declared.Width.TheVariants.{Two, Four}
use Rattle.scalar_types.specs.Number.{size_of}
use Rattle.scalar_types.proofs.NumberBytes.{bytes_of-length}
use Rattle.type_text.specs.declared.types.Link.{Link as StructLink}
use Rattle.record_values.specs.declared.values.Value.{Value}
use Rattle.record_values.specs.declared.values.Value.TheVariants as value
use Rattle.dictionary.specs.declared.entries.Entry.{Entry}
use Rattle.layout_plan.specs.declared.fields.Form.{Form}
use Rattle.layout_plan.specs.declared.fields.Form.TheVariants.{Number, Pair, Text, Link}
use Rattle.layout_plan.specs.declared.fields.Field.{Field}
use Rattle.layout_plan.specs.Body.{text_length, value_length, values_length}
use Rattle.contents_table.specs.Fit.{table_layout}
use Rattle.contents_table.specs.Built.{Built}
use Rattle.contents_table.specs.Told.{table_values, table_size}
use Rattle.canonical_file.specs.Bytes.{number_bytes, pair_bytes, text_bytes, link_bytes, value_bytes, body_bytes}
use Rattle.canonical_file.specs.Records.{entry_fields, record_bytes}
use Rattle.canonical_file.specs.Written.{table_record}
use Rattle.canonical_file.proofs.EndSizes.{structure-size}

-- items of one length
items-length : {X : Type 0} (f : X → List ℕ) (n : ℕ) → ((x : X) → length (f x) ≡ n) → (xs : List X)
    → length (flat_map f xs) ≡ length xs * n
items-length f n each [] = sym (zero-mul n)
items-length f n each (x ∷ xs) =
    omega (arith, length-append (f x) (flat_map f xs), each x, items-length f n each xs, suc-mul (length xs) n)

text-length : (text : List ℕ) → length (text_bytes text) ≡ text_length text
text-length text =
    omega (
      arith,
      length-append (number_bytes Two (length text + 1) ++ text) (0 ∷ []),
      length-append (number_bytes Two (length text + 1)) text,
      bytes_of-length Little Two (length text + 1),
    )

texts-length : (texts : List (List ℕ)) → length (flat_map text_bytes texts) ≡ sum_by text_length texts
texts-length [] = refl
texts-length (text ∷ texts) =
    omega (
      arith,
      length-append (text_bytes text) (flat_map text_bytes texts),
      text-length text,
      texts-length texts,
      sum_by-cons text_length text texts,
    )

pair-length : (width : Width) (pair : ℕ × ℕ) → length (pair_bytes width pair) ≡ 2 * size_of width
pair-length width pair =
    omega (
      arith,
      length-append (number_bytes width pair.0) (number_bytes width pair.1),
      bytes_of-length Little width pair.0,
      bytes_of-length Little width pair.1,
    )

link-length : (link : StructLink) → length (link_bytes link) ≡ 6
link-length link =
    omega (
      arith,
      length-append (number_bytes Two link.class) (number_bytes Four link.instance),
      bytes_of-length Little Two link.class,
      bytes_of-length Little Four link.instance,
    )

value-length : (form : Form) (v : Value) → length (value_bytes form v) ≡ value_length form v
value-length (Number width) (value.Num n) = bytes_of-length Little width n
value-length (Number width) (value.Bytes xs) =
    items-length (number_bytes width) (size_of width) (bytes_of-length Little width) xs
value-length (Number width) (value.Nums xs) =
    items-length (number_bytes width) (size_of width) (bytes_of-length Little width) xs
value-length (Pair width) (value.Pair a b) = pair-length width (a, b)
value-length (Pair width) (value.Pairs xs) = items-length (pair_bytes width) (2 * size_of width) (pair-length width) xs
value-length Text (value.Text text) = text-length text
value-length Text (value.Texts xs) = texts-length xs
value-length Link (value.Link link) = link-length link
value-length Link (value.Links xs) = items-length link_bytes 6 link-length xs
value-length form v = refl

body-length : (fields : List Field) (values : List Value)
    → length (body_bytes fields values) ≡ values_length fields values
body-length (f ∷ fs) (v ∷ vs) =
    omega (
      arith,
      length-append (value_bytes f.form v) (body_bytes fs vs),
      value-length f.form v,
      body-length fs vs,
    )
body-length fields values = refl

-- The bytes of a contents table's record are as many as are told of it.
pub table-bytes_size : (built : Built) (e : Entry)
    → length (record_bytes (table_record built e)) ≡ table_size (table_layout e.elements) (entry_fields e) built
table-bytes_size built e =
    let values : List Value = table_values (table_layout e.elements) (entry_fields e) built in
    structure-size e.class 0 (body_bytes (entry_fields e) values)
    ∙ ap (λ n. 14 + n) (body-length (entry_fields e) values)
