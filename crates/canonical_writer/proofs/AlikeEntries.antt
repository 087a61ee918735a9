-- Entries that are written alike: they are the same, comments too.
use Rattle.std.proofs.Common.{◌≡◌, ℕ, ◌+◌, ◌<◌, Bool, true, false, not, List, [], ◌∷◌, ◌++◌, map, take, length, get_or}
use Rattle.std.proofs.Common.{Option, Some, None, refl, sym, ap, ◌∙◌}
use Rattle.std.specs.Option.{option_map_or}
use Rattle.std.specs.Str.{bytes_eq}
use Rattle.std.proofs.lemmas.Bool.{false≢true}
use Rattle.std.proofs.lemmas.Slice.Eq.{bytes_eq-Decides}
use Rattle.std.proofs.lemmas.List.{take_more, map-append, get_or-map}
use Rattle.std.proofs.lemmas.List.Elements.{All-head, All-tail}
use Rattle.type_text.specs.declared.types.ElementType.{ElementType}
use Rattle.type_text.specs.TypeText.{printed_type}
use Rattle.dictionary.specs.declared.entries.Element.{Element}
use Rattle.dictionary.specs.declared.entries.Entry.{Entry}
use Rattle.dictionary.specs.Same.{IsRead, AreRead, Meaning, meaning_by, column_of, IsSameEntry}
use Rattle.frame_content.specs.Labels.{printed_element, printed_entry}

-- ---- comments, one by one

-- bytes by the test of them
pub bytes-same : (a b : List ℕ) → not (bytes_eq a b) ≡ false → a ≡ b
bytes-same a b is = (bytes_eq-Decides a b).0 (by (bytes_eq a b) is)
  where
    by : (t : Bool) → not t ≡ false → t ≡ true
    by true is = refl
    by false is = cc

pub bytes-differ : (a b : List ℕ) → not (bytes_eq a b) ≡ true → a ≡ b → ⊥
bytes-differ a b is same = by (bytes_eq a b) is ((bytes_eq-Decides a b).1 same)
  where
    by : (t : Bool) → not t ≡ true → t ≡ true → ⊥
    by true is same = false≢true is
    by false is same = false≢true same

abbrev pub comments : List Element → List (List ℕ)
comments es = map (λ e. e.comment) es

pub comments-more : (es os : List Element) (k : ℕ) (d z : Element) → k < length es → k < length os
    → (get_or es k d).comment ≡ (get_or os k z).comment → comments (take k es) ≡ comments (take k os)
    → comments (take (k + 1) es) ≡ comments (take (k + 1) os)
comments-more es os k d z within also here before =
    ap comments (take_more es k d within) ∙ map-append (λ e. e.comment) (take k es) (get_or es k d ∷ [])
    ∙ (λ i. before i ++ here i ∷ [])
    ∙ sym (ap comments (take_more os k z also) ∙ map-append (λ e. e.comment) (take k os) (get_or os k z ∷ []))

pub comments-at : (es os : List Element) (k : ℕ) (d z : Element) → k < length es → k < length os
    → comments es ≡ comments os → (get_or es k d).comment ≡ (get_or os k z).comment
comments-at es os k d z within also same =
    sym (get_or-map (λ e. e.comment) es k d [] within) ∙ ap (λ cs. get_or cs k []) same
    ∙ get_or-map (λ e. e.comment) os k z [] also

-- ---- elements

-- what a type and a text mean says how they are printed
meaning-type : (s t : Option ElementType) (a b : List ℕ) → meaning_by s a ≡ meaning_by t b → s ≡ t
meaning-type None None a b same = refl
meaning-type (Some s) (Some t) a b same = cc
meaning-type None (Some t) a b same = cc
meaning-type (Some s) None a b same = cc

meaning-text : (s t : Option ElementType) (a b : List ℕ) → meaning_by s a ≡ meaning_by t b
    → option_map_or printed_type s a ≡ option_map_or printed_type t b
meaning-text None None a b same = cc
meaning-text (Some s) (Some t) a b same = let types : s ≡ t = cc in ap printed_type types
meaning-text None (Some t) a b same = cc
meaning-text (Some s) None a b same = cc

element-alike : (e o : Element) → IsRead e → IsRead o → column_of e ≡ column_of o → e.comment ≡ o.comment
    → printed_element e ≡ printed_element o
element-alike e o read also column comment =
    let meaning : meaning_by e.ty e.text ≡ meaning_by o.ty o.text =
    ap (λ ty. meaning_by ty e.text) read ∙ ap (λ (c : List ℕ × Meaning). c.1) column
    ∙ ap (λ ty. meaning_by ty o.text) (sym also) in
    λ i. record {
      name = (column i).0;
      ty = meaning-type e.ty o.ty e.text o.text meaning i;
      text = meaning-text e.ty o.ty e.text o.text meaning i;
      comment = comment i;
    }

-- the column of an element that is printed so
abbrev shown : Element → List ℕ × Meaning
shown p = (p.name, meaning_by p.ty p.text)

column-shown : (e : Element) → IsRead e → column_of e ≡ shown (printed_element e)
column-shown e read =
    ap (λ ty. (e.name, meaning_by ty e.text)) (sym read) ∙ ap (λ (m : Meaning). (e.name, m)) (by e.ty)
  where
    by : (ty : Option ElementType) → meaning_by ty e.text ≡ meaning_by ty (option_map_or printed_type ty e.text)
    by None = refl
    by (Some ty) = refl

elements-alike : (es os : List Element) → AreRead es → AreRead os → map column_of es ≡ map column_of os
    → comments es ≡ comments os → map printed_element es ≡ map printed_element os
elements-alike [] [] read also columns same = refl
elements-alike [] (o ∷ os) read also columns same = cc
elements-alike (e ∷ es) [] read also columns same = cc
elements-alike (e ∷ es) (o ∷ os) read also columns same =
    let column : column_of e ≡ column_of o = cc in
    let comment : e.comment ≡ o.comment = cc in
    let others : map column_of es ≡ map column_of os = cc in
    let more : comments es ≡ comments os = cc in
    let first = element-alike e o (All-head IsRead e es read) (All-head IsRead o os also) column comment in
    let rest = elements-alike es os (All-tail IsRead e es read) (All-tail IsRead o os also) others more in
    λ i. first i ∷ rest i

columns-shown : (es : List Element) → AreRead es → map column_of es ≡ map shown (map printed_element es)
columns-shown [] read = refl
columns-shown (e ∷ es) read =
    let first = column-shown e (All-head IsRead e es read) in
    let rest = columns-shown es (All-tail IsRead e es read) in
    λ i. first i ∷ rest i

comments-shown : (es : List Element) → comments es ≡ comments (map printed_element es)
comments-shown [] = refl
comments-shown (e ∷ es) = ap (λ cs. e.comment ∷ cs) (comments-shown es)

-- ---- entries

-- the same entry, with the same comments
pub record HaveSameComments (e o : Entry) : Type 0 where
  pub same : IsSameEntry e o
  pub comment : e.comment ≡ o.comment
  pub comments_are : comments e.elements ≡ comments o.elements

pub entries-alike : (e o : Entry) → AreRead e.elements → AreRead o.elements → HaveSameComments e o
    → printed_entry e ≡ printed_entry o
entries-alike e o read also have = λ i. record {
  class = have.same.class i;
  name = have.same.name i;
  comment = have.comment i;
  elements = elements-alike e.elements o.elements read also have.same.columns have.comments_are i;
}

pub alike-same : (e o : Entry) → AreRead e.elements → AreRead o.elements → printed_entry e ≡ printed_entry o
    → HaveSameComments e o
alike-same e o read also alike =
    let elements : map printed_element e.elements ≡ map printed_element o.elements =
    ap (λ (x : Entry). x.elements) alike in
    record {
      same = record {
        class = ap (λ (x : Entry). x.class) alike;
        name = ap (λ (x : Entry). x.name) alike;
        columns = columns-shown e.elements read ∙ ap (map shown) elements ∙ sym (columns-shown o.elements also);
      };
      comment = ap (λ (x : Entry). x.comment) alike;
      comments_are = comments-shown e.elements ∙ ap comments elements ∙ sym (comments-shown o.elements);
    }
