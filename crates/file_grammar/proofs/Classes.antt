-- The kinds of classes.
use Rattle.std.proofs.Common.{◌≡◌, ℕ, Bool, true, false, not, ◌&&◌, ◌||◌, cond, is_none, List, Option, Some, None, refl}
use Rattle.std.proofs.Common.{sym, ap, ◌∙◌}
use Rattle.std.specs.Prelude.{◌==◌, codes}
use Rattle.std.specs.Option.{option_map_or}
use Rattle.std.specs.Str.{bytes_eq}
use Rattle.std.proofs.lemmas.Bool.{false≢true, eqb-true}
use Rattle.dictionary.specs.declared.entries.Entry.{Entry}
use Rattle.dictionary.specs.Dictionary.{entry_of}
use Rattle.file_grammar.specs.declared.kind.Kind.{Kind}
use Rattle.file_grammar.specs.declared.kind.Kind.TheVariants.{FrSH, FrSE, FrameH, FrEndOfFrame, FrTOC, FrEndOfFile}
use Rattle.file_grammar.specs.declared.kind.Kind.TheVariants.{Other}
use Rattle.file_grammar.specs.Kind.{kind_named, kind_of, is_dictionary_kind}

-- no name is that of FrSH or FrSE
kind_named-dictionary : (name : List ℕ) → is_dictionary_kind (kind_named name) ≡ false
kind_named-dictionary name =
    by (bytes_eq name (codes "FrameH")) (bytes_eq name (codes "FrEndOfFrame")) (bytes_eq name (codes "FrTOC"))
    (bytes_eq name (codes "FrEndOfFile"))
  where
    by : (a b c d : Bool) → is_dictionary_kind
        (cond a FrameH (cond b FrEndOfFrame (cond c FrTOC (cond d FrEndOfFile Other)))) ≡ false
    by true b c d = refl
    by false true c d = refl
    by false false true d = refl
    by false false false true = refl
    by false false false false = refl

kind_found-dictionary : (found : Option Entry)
    → is_dictionary_kind (option_map_or (λ e. kind_named e.name) found Other) ≡ false
kind_found-dictionary None = refl
kind_found-dictionary (Some e) = kind_named-dictionary e.name

-- the kind by the tests of the class
abbrev kind_by : Bool → Bool → Option Entry → Kind
kind_by one two found = cond one FrSH (cond two FrSE (option_map_or (λ e. kind_named e.name) found Other))

-- FrSH is class 1, and FrSE class 2
pub class-FrSH : (held : List Entry) (class : ℕ) → kind_of held class ≡ FrSH → class ≡ 1
class-FrSH held class is = eqb-true class 1 (by (class == 1) (class == 2) (entry_of held class) is)
  where
    by : (one two : Bool) (found : Option Entry) → kind_by one two found ≡ FrSH → one ≡ true
    by true two found is = refl
    by false true found is = cc
    by false false found is =
        absurd (false≢true (sym (kind_found-dictionary found) ∙ ap is_dictionary_kind is))

pub class-FrSE : (held : List Entry) (class : ℕ) → kind_of held class ≡ FrSE → class ≡ 2
class-FrSE held class is = eqb-true class 2 (by (class == 1) (class == 2) (entry_of held class) is)
  where
    by : (one two : Bool) (found : Option Entry) → kind_by one two found ≡ FrSE → two ≡ true
    by true two found is = cc
    by false true found is = refl
    by false false found is =
        absurd (false≢true (sym (kind_found-dictionary found) ∙ ap is_dictionary_kind is))

-- a class of another kind is held where no layout is missing
pub held-unless : (held : List Entry) (class : ℕ) → is_dictionary_kind (kind_of held class) ≡ false
    → (not (class == 1 || class == 2) && is_none (entry_of held class)) ≡ false → (e : Entry)
    × (entry_of held class ≡ Some e)
held-unless held class other layout = by (class == 1) (class == 2) (entry_of held class) other layout
  where
    by : (one two : Bool) (found : Option Entry) → is_dictionary_kind (kind_by one two found) ≡ false
        → (not (one || two) && is_none found) ≡ false → (e : Entry) × (found ≡ Some e)
    by true two found k n = absurd (false≢true (sym k))
    by false true found k n = absurd (false≢true (sym k))
    by false false None k n = absurd (false≢true (sym n))
    by false false (Some e) k n = (e, refl)

-- whether a class of no kind of its own is held
pub layout-Other : (held : List Entry) (class : ℕ) → kind_of held class ≡ Other
    → (not (class == 1 || class == 2) && is_none (entry_of held class)) ≡ is_none (entry_of held class)
layout-Other held class is = by (class == 1) (class == 2) (entry_of held class) is
  where
    by : (one two : Bool) (found : Option Entry) → kind_by one two found ≡ Other
        → (not (one || two) && is_none found) ≡ is_none found
    by true two found e = cc
    by false true found e = cc
    by false false found e = refl
