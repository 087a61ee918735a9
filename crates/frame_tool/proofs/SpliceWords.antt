-- Words that are read as a command: those of a splice, and how many they are.
use Rattle.std.proofs.Common.{◌≡◌, ℕ, ◌+◌, ◌<◌, ◌≤◌, ◌^◌, Bool, true, false, cond, ◌||◌, leb, List, [], ◌∷◌, length}
use Rattle.std.proofs.Common.{Option, Some, None, String, All, codes, bytes_eq, string_bytes, option_map, ◌≢◌}
use Rattle.std.proofs.Common.{refl, sym, subst, ◌∙◌, arith, leb-false}
use Rattle.std.proofs.lemmas.Bool.{or_parts, true≢false, false≢true}
use Rattle.std.proofs.lemmas.Bool.Decides.{same_from_decides, Decides-like}
use Rattle.std.proofs.lemmas.List.Elements.{All-nil, All-cons}
use Rattle.std.proofs.lemmas.Slice.Eq.{bytes_eq-Decides}
use Rattle.std.specs.List.{list_any}
use Rattle.file_grammar.specs.Fault.{is_empty}
use Rattle.frame_tool.specs.Words.{Form, WalkFile, CheckFile, ListFile, SpliceFiles, DumpFile, MakeFile, texts}
use Rattle.frame_tool.specs.Words.{single, same_form, apart, copy_form, splice_form, frames_told, make_form, command_of}

-- A splice that words are: of one file or more, of fewer than 2^32, none of which is the output.
pub record IsRead (words : List (List ℕ)) (to : List ℕ) (from : List (List ℕ)) : Type 0 where
  pub some : 0 < length from
  pub few : length from < 2 ^ 32
  pub others : list_any (bytes_eq to) from ≡ false
  pub enough : length from + 2 ≤ length words

-- files and an output that are none of them
read_by : (words : List (List ℕ)) (out : List ℕ) (files : List (List ℕ)) (to : List ℕ) (from : List (List ℕ))
    → 0 < length files → length files < 2 ^ 32 → length files + 2 ≤ length words
    → apart out files ≡ Some (SpliceFiles to from) → IsRead words to from
read_by words out files to from some few enough is = by (list_any (bytes_eq out) files) refl is
  where
    by : (found : Bool) → list_any (bytes_eq out) files ≡ found
        → cond found None (Some (SpliceFiles out files)) ≡ Some (SpliceFiles to from) → IsRead words to from
    by true tells same = absurd cc
    by false tells same =
        let outs : out ≡ to = cc in
        let inputs : files ≡ from = cc in
        let P : List ℕ → Type 0 = λ o. list_any (bytes_eq o) files ≡ false in
        let Q : List (List ℕ) → Type 0 = λ fs. IsRead words to fs in
        subst Q inputs (record { some = some; few = few; others = subst P outs tells; enough = enough })

-- the words after `copy`
copied_read : (first : List ℕ) (words : List (List ℕ)) (to : List ℕ) (from : List (List ℕ))
    → copy_form words ≡ Some (SpliceFiles to from) → IsRead (first ∷ words) to from
copied_read first [] to from is = absurd cc
copied_read first (file ∷ []) to from is = absurd cc
copied_read first (file ∷ out ∷ []) to from is =
    read_by (first ∷ file ∷ out ∷ []) out (file ∷ []) to from (omega arith) (omega arith) (omega arith) is
copied_read first (file ∷ out ∷ more ∷ others) to from is = absurd cc

-- a list that is not empty is of one or more
some_files : {A : Type 0} (files : List A) → is_empty files ≡ false → 0 < length files
some_files [] is = absurd (true≢false is)
some_files (file ∷ files) is = omega arith

-- the words after `splice`
spliced_read : (first : List ℕ) (words : List (List ℕ)) (to : List ℕ) (from : List (List ℕ))
    → splice_form words ≡ Some (SpliceFiles to from) → IsRead (first ∷ words) to from
spliced_read first [] to from is = absurd cc
spliced_read first (out ∷ files) to from is = by (is_empty files) (leb (2 ^ 32) (length files)) refl refl is
  where
    by : (none many : Bool) → is_empty files ≡ none → leb (2 ^ 32) (length files) ≡ many
        → cond (none || many) None (apart out files) ≡ Some (SpliceFiles to from)
        → IsRead (first ∷ out ∷ files) to from
    by true many empty room same = absurd cc
    by false true empty room same = absurd cc
    by false false empty room same =
        read_by (first ∷ out ∷ files) out files to from (some_files files empty)
        (leb-false (2 ^ 32) (length files) room) (omega arith) same

-- a command of one word is no splice
one_word : (form : List ℕ → Form) (splice : Form) (word : Option (List ℕ)) → ((file : List ℕ) → form file ≡ splice → ⊥)
    → option_map form word ≡ Some splice → ⊥
one_word form splice None apart is = cc
one_word form splice (Some file) apart is = apart file cc

-- words that are compared are no splice
none_compared : (words : List (List ℕ)) (to : List ℕ) (from : List (List ℕ))
    → same_form words ≡ Some (SpliceFiles to from) → ⊥
none_compared [] to from is = cc
none_compared (file ∷ []) to from is = cc
none_compared (file ∷ other ∷ []) to from is = cc
none_compared (file ∷ other ∷ more ∷ others) to from is = cc

-- words of which a file is made are no splice
none_made : (words : List (List ℕ)) (to : List ℕ) (from : List (List ℕ)) → make_form words ≡ Some (SpliceFiles to from)
    → ⊥
none_made [] to from is = cc
none_made (frames ∷ []) to from is = cc
none_made (frames ∷ out ∷ []) to from is = by (frames_told frames) is
  where
    by : (told : Option ℕ) → option_map (λ n. MakeFile n out) told ≡ Some (SpliceFiles to from) → ⊥
    by None same = cc
    by (Some n) same = cc
none_made (frames ∷ out ∷ more ∷ others) to from is = cc

-- words that are a splice
pub splice_read : (words : List (List ℕ)) (to : List ℕ) (from : List (List ℕ))
    → command_of words ≡ Some (SpliceFiles to from) → IsRead words to from
splice_read [] to from is = absurd cc
splice_read (first ∷ words) to from is =
    by (bytes_eq first (codes "walk")) (bytes_eq first (codes "check")) (bytes_eq first (codes "list"))
    (bytes_eq first (codes "same")) (bytes_eq first (codes "copy")) (bytes_eq first (codes "splice"))
    (bytes_eq first (codes "dump")) (bytes_eq first (codes "make")) is
  where
    by : (walk check list same copy splice dump make : Bool)
        → cond walk (option_map WalkFile (single words))
        (cond check (option_map CheckFile (single words))
        (cond list (option_map ListFile (single words))
        (cond same (same_form words)
        (cond copy (copy_form words)
        (cond splice (splice_form words)
        (cond dump (option_map DumpFile (single words))
        (cond make (make_form words) None))))))) ≡ Some (SpliceFiles to from)
        → IsRead (first ∷ words) to from
    by true check list same copy splice dump make form =
        absurd (one_word WalkFile (SpliceFiles to from) (single words) (λ file no. cc) form)
    by false true list same copy splice dump make form =
        absurd (one_word CheckFile (SpliceFiles to from) (single words) (λ file no. cc) form)
    by false false true same copy splice dump make form =
        absurd (one_word ListFile (SpliceFiles to from) (single words) (λ file no. cc) form)
    by false false false true copy splice dump make form = absurd (none_compared words to from form)
    by false false false false true splice dump make form = copied_read first words to from form
    by false false false false false true dump make form = spliced_read first words to from form
    by false false false false false false true make form =
        absurd (one_word DumpFile (SpliceFiles to from) (single words) (λ file no. cc) form)
    by false false false false false false false true form = absurd (none_made words to from form)
    by false false false false false false false false form = absurd cc

-- one word is no command
none_alone : (word : List ℕ) → command_of (word ∷ []) ≡ None
none_alone word =
    by (bytes_eq word (codes "walk")) (bytes_eq word (codes "check")) (bytes_eq word (codes "list"))
    (bytes_eq word (codes "same")) (bytes_eq word (codes "copy")) (bytes_eq word (codes "splice"))
    (bytes_eq word (codes "dump")) (bytes_eq word (codes "make"))
  where
    none : Option Form
    none = None

    by : (walk check list same copy splice dump make : Bool)
        → cond walk none (cond check none (cond list none (cond same none (cond copy none (cond splice none
        (cond dump none (cond make none none))))))) ≡ None
    by true check list same copy splice dump make = refl
    by false true list same copy splice dump make = refl
    by false false true same copy splice dump make = refl
    by false false false true copy splice dump make = refl
    by false false false false true splice dump make = refl
    by false false false false false true dump make = refl
    by false false false false false false true make = refl
    by false false false false false false false true = refl
    by false false false false false false false false = refl

-- a command has two words or more
pub two_words : (words : List (List ℕ)) (form : Form) → command_of words ≡ Some form → 2 ≤ length words
two_words [] form is = absurd cc
two_words (word ∷ []) form is =
    let none = none_alone word in
    absurd cc
two_words (word ∷ other ∷ words) form is = omega arith

-- whether texts are equal does not go by their order
pub bytes_eq-sym : (xs ys : List ℕ) → bytes_eq xs ys ≡ bytes_eq ys xs
bytes_eq-sym xs ys =
    same_from_decides (bytes_eq xs ys) (bytes_eq ys xs) (bytes_eq-Decides xs ys)
    (Decides-like (bytes_eq ys xs) (λ e. sym e) (λ e. sym e) (bytes_eq-Decides ys xs))

-- whether a text is among texts, compared from either side
pub list_any-texts : {A : Type 0} (to : List ℕ) (from : List (String A))
    → list_any (λ name. bytes_eq (string_bytes name) to) from ≡ list_any (bytes_eq to) (texts from)
list_any-texts to [] = refl
list_any-texts to (name ∷ names) =
    let head = bytes_eq-sym (string_bytes name) to in
    let tail = list_any-texts to names in
    rw (head, tail) refl

-- a text that is not among texts is none of them
pub all_others : {A : Type 0} (to : List ℕ) (from : List (String A)) → list_any (bytes_eq to) (texts from) ≡ false
    → All (λ name. string_bytes name ≢ to) from
all_others to [] none = All-nil (λ name. string_bytes name ≢ to)
all_others to (name ∷ names) none =
    let parts = or_parts (bytes_eq to (string_bytes name)) (list_any (bytes_eq to) (texts names)) none in
    All-cons (λ name. string_bytes name ≢ to) name names
    (λ same. false≢true (sym parts.0 ∙ (bytes_eq-Decides to (string_bytes name)).1 (sym same)))
    (all_others to names parts.1)
