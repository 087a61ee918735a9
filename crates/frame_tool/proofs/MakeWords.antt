-- Words of which a file is made: they tell 100,000 frames at most.
use Rattle.std.proofs.Common.{◌≡◌, ℕ, ◌≤◌, Bool, true, false, cond, ◌||◌, leb, List, [], ◌∷◌, Option, Some, None}
use Rattle.std.proofs.Common.{codes, bytes_eq, option_map, refl, subst, leb-true, length, ◌^◌}
use Rattle.std.specs.Prelude.{not}
use Rattle.std.specs.Str.{all_ascii_digits}
use Rattle.std.specs.Str.Parse.{digits_value}
use Rattle.file_grammar.specs.Fault.{is_empty}
use Rattle.frame_tool.specs.Words.{Form, WalkFile, CheckFile, ListFile, SpliceFiles, DumpFile, MakeFile, single}
use Rattle.frame_tool.specs.Words.{same_form, apart, copy_form, splice_form, has_leading_zero, frames_told, make_form}
use Rattle.frame_tool.specs.Words.{command_of}
use Rattle.std.specs.List.{list_any}

-- a word tells 100,000 frames at most
told_few : (word : List ℕ) (n : ℕ) → frames_told word ≡ Some n → n ≤ 100000
told_few word n is =
    by (is_empty word || has_leading_zero word || not (all_ascii_digits word))
    (leb (digits_value 10 word) 100000) refl is
  where
    by : (wrong small : Bool) → leb (digits_value 10 word) 100000 ≡ small
        → cond wrong None (cond small (Some (digits_value 10 word)) None) ≡ Some n → n ≤ 100000
    by true small room same = absurd cc
    by false false room same = absurd cc
    by false true room same =
        let value : digits_value 10 word ≡ n = cc in
        let P : ℕ → Type 0 = λ m. m ≤ 100000 in
        subst P value (leb-true (digits_value 10 word) 100000 room)

made_few : (words : List (List ℕ)) (n : ℕ) (to : List ℕ) → make_form words ≡ Some (MakeFile n to) → n ≤ 100000
made_few [] n to is = absurd cc
made_few (frames ∷ []) n to is = absurd cc
made_few (frames ∷ out ∷ []) n to is = by (frames_told frames) refl is
  where
    by : (told : Option ℕ) → frames_told frames ≡ told → option_map (λ m. MakeFile m out) told ≡ Some (MakeFile n to)
        → n ≤ 100000
    by None tells same = absurd cc
    by (Some m) tells same =
        let value : m ≡ n = cc in
        let P : ℕ → Type 0 = λ k. k ≤ 100000 in
        subst P value (told_few frames m tells)
made_few (frames ∷ out ∷ more ∷ others) n to is = absurd cc

-- other words make no file
one_word : (form : List ℕ → Form) (make : Form) (word : Option (List ℕ)) → ((file : List ℕ) → form file ≡ make → ⊥)
    → option_map form word ≡ Some make → ⊥
one_word form make None apart is = cc
one_word form make (Some file) apart is = apart file cc

none_compared : (words : List (List ℕ)) (n : ℕ) (to : List ℕ) → same_form words ≡ Some (MakeFile n to) → ⊥
none_compared [] n to is = cc
none_compared (file ∷ []) n to is = cc
none_compared (file ∷ other ∷ []) n to is = cc
none_compared (file ∷ other ∷ more ∷ others) n to is = cc

none_apart : (out : List ℕ) (files : List (List ℕ)) (n : ℕ) (to : List ℕ) → apart out files ≡ Some (MakeFile n to) → ⊥
none_apart out files n to is = by (list_any (bytes_eq out) files) is
  where
    by : (found : Bool) → cond found None (Some (SpliceFiles out files)) ≡ Some (MakeFile n to) → ⊥
    by true same = cc
    by false same = cc

none_copied : (words : List (List ℕ)) (n : ℕ) (to : List ℕ) → copy_form words ≡ Some (MakeFile n to) → ⊥
none_copied [] n to is = cc
none_copied (file ∷ []) n to is = cc
none_copied (file ∷ out ∷ []) n to is = none_apart out (file ∷ []) n to is
none_copied (file ∷ out ∷ more ∷ others) n to is = cc

none_spliced : (words : List (List ℕ)) (n : ℕ) (to : List ℕ) → splice_form words ≡ Some (MakeFile n to) → ⊥
none_spliced [] n to is = cc
none_spliced (out ∷ files) n to is = by (is_empty files || leb (2 ^ 32) (length files)) is
  where
    by : (wrong : Bool) → cond wrong None (apart out files) ≡ Some (MakeFile n to) → ⊥
    by true same = cc
    by false same = none_apart out files n to same

-- words that make a file
pub make_read : (words : List (List ℕ)) (n : ℕ) (to : List ℕ) → command_of words ≡ Some (MakeFile n to) → n ≤ 100000
make_read [] n to is = absurd cc
make_read (first ∷ words) n to is =
    by (bytes_eq first (codes "walk")) (bytes_eq first (codes "check")) (bytes_eq first (codes "list"))
    (bytes_eq first (codes "same")) (bytes_eq first (codes "copy")) (bytes_eq first (codes "splice"))
    (bytes_eq first (codes "dump")) (bytes_eq first (codes "make")) is
  where
    by : (walk check list same copy splice dump make : Bool)
        → cond walk (option_map WalkFile (single words))
        (cond check (option_map CheckFile (single words))
        (cond list (option_map ListFile (single words))
        (cond same (same_form words)
        (cond copy (copy_form words)
        (cond splice (splice_form words)
        (cond dump (option_map DumpFile (single words))
        (cond make (make_form words) None))))))) ≡ Some (MakeFile n to) → n ≤ 100000
    by true check list same copy splice dump make form =
        absurd (one_word WalkFile (MakeFile n to) (single words) (λ file no. cc) form)
    by false true list same copy splice dump make form =
        absurd (one_word CheckFile (MakeFile n to) (single words) (λ file no. cc) form)
    by false false true same copy splice dump make form =
        absurd (one_word ListFile (MakeFile n to) (single words) (λ file no. cc) form)
    by false false false true copy splice dump make form = absurd (none_compared words n to form)
    by false false false false true splice dump make form = absurd (none_copied words n to form)
    by false false false false false true dump make form = absurd (none_spliced words n to form)
    by false false false false false false true make form =
        absurd (one_word DumpFile (MakeFile n to) (single words) (λ file no. cc) form)
    by false false false false false false false true form = made_few words n to form
    by false false false false false false false false form = absurd cc
