-- Look-ups in a dictionary, and what an entry more or a copy leaves of them.
use Rattle.std.proofs.Common.{◌≡◌, ℕ, Bool, true, false, cond, eqb, List, [], ◌∷◌, ◌++◌, find, Option, Some, None}
use Rattle.std.proofs.Common.{IsSomeAnd, Result, Ok, Err, OnOk, OnErr, refl, sym, ◌∙◌, ap, subst, eq-eqb}
use Rattle.std.proofs.lemmas.List.{map-append}
use Rattle.std.proofs.lemmas.List.Folds.{find-append}
use Rattle.std.proofs.lemmas.Slice.Eq.{bytes_eq-Decides}
use Rattle.std.specs.Option.{option_map, option_or}
use Rattle.std.specs.List.{AllByRecursion}
use Rattle.std.specs.Map.{values_of, lookup}
use Rattle.std.specs.Str.{bytes_eq}
use Rattle.dictionary.specs.declared.entries.Entry.{Entry}
use Rattle.dictionary.specs.Same.{AreRead}
use Rattle.dictionary.specs.Dictionary.{entry_of, class_named, IsHeld, IsDictionary}
use Rattle.dictionary.specs.Kept.{IsByClass, IsKept}
use Rattle.dictionary.specs.Verdicts.{IsNew}

-- a look-up by class
pub lookup-entry_of : (es : List (ℕ × Entry)) (class : ℕ) → AllByRecursion IsByClass es
    → lookup (eqb class) es ≡ entry_of (values_of es) class
lookup-entry_of [] class keys = refl
lookup-entry_of (p ∷ es) class keys =
    ap (λ key. cond (eqb class key) (Some p.1) (lookup (eqb class) es)) keys.0
    ∙ ap (λ rest. cond (eqb class p.1.class) (Some p.1) rest) (lookup-entry_of es class keys.1)

-- the entries after one more
entry_of-push : (held : List Entry) (e : Entry) (class : ℕ)
    → entry_of (held ++ e ∷ []) class ≡ option_or (entry_of held class) (cond (eqb class e.class) (Some e) None)
entry_of-push held e class = find-append (λ x. eqb class x.class) held (e ∷ [])

class_named-push : (held : List Entry) (e : Entry) (name : List ℕ)
    → class_named (held ++ e ∷ []) name
    ≡ option_map (λ x. x.class)
    (option_or (find (λ x. bytes_eq name x.name) held) (cond (bytes_eq name e.name) (Some e) None))
class_named-push held e name = ap (option_map (λ x. x.class)) (find-append (λ x. bytes_eq name x.name) held (e ∷ []))

or-none : {A : Type 0} (o : Option A) → option_or o None ≡ o
or-none None = refl
or-none (Some x) = refl

map-none : {A B : Type 0} (f : A → B) (o : Option A) → option_map f o ≡ None → o ≡ None
map-none f None e = refl
map-none f (Some x) e = cc

bytes_eq-self : (name : List ℕ) → bytes_eq name name ≡ true
bytes_eq-self name = (bytes_eq-Decides name name).1 refl

-- a name that was held stays
class_named-stays : (held : List Entry) (e : Entry) (name : List ℕ) (class : ℕ) → class_named held name ≡ Some class
    → class_named (held ++ e ∷ []) name ≡ Some class
class_named-stays held e name class there = class_named-push held e name
    ∙ by (find (λ x. bytes_eq name x.name) held) there
  where
    by : (o : Option Entry) → option_map (λ x. x.class) o ≡ Some class
        → option_map (λ x. x.class) (option_or o (cond (bytes_eq name e.name) (Some e) None)) ≡ Some class
    by None there = cc
    by (Some x) there = there

-- and a new one has its class
class_named-new : (held : List Entry) (e : Entry) → class_named held e.name ≡ None
    → class_named (held ++ e ∷ []) e.name ≡ Some e.class
class_named-new held e fresh =
    class_named-push held e e.name
    ∙ rw (map-none (λ x. x.class) (find (λ x. bytes_eq e.name x.name) held) fresh, bytes_eq-self e.name) refl

-- the names after one more entry
pub class_named-more : (held : List Entry) (e : Entry) (name : List ℕ) → class_named held e.name ≡ None
    → class_named (held ++ e ∷ []) name ≡ cond (bytes_eq name e.name) (Some e.class) (class_named held name)
class_named-more held e name fresh = by (bytes_eq name e.name) refl
  where
    by : (b : Bool) → bytes_eq name e.name ≡ b
        → class_named (held ++ e ∷ []) name ≡ cond b (Some e.class) (class_named held name)
    by true same = ap (class_named (held ++ e ∷ [])) ((bytes_eq-Decides name e.name).0 same)
        ∙ class_named-new held e fresh
    by false other =
        class_named-push held e name
        ∙ ap (λ b. option_map (λ x. x.class)
        (option_or (find (λ x. bytes_eq name x.name) held) (cond b (Some e) None))) other
        ∙ ap (option_map (λ x. x.class)) (or-none (find (λ x. bytes_eq name x.name) held))

entry_of-stays : (held : List Entry) (e : Entry) (class : ℕ) (x : Entry) → entry_of held class ≡ Some x
    → entry_of (held ++ e ∷ []) class ≡ Some x
entry_of-stays held e class x there =
    entry_of-push held e class ∙ ap (λ o. option_or o (cond (eqb class e.class) (Some e) None)) there

entry_of-new : (held : List Entry) (e : Entry) → entry_of held e.class ≡ None
    → entry_of (held ++ e ∷ []) e.class ≡ Some e
entry_of-new held e fresh =
    entry_of-push held e e.class
    ∙ ap (λ o. option_or o (cond (eqb e.class e.class) (Some e) None)) fresh
    ∙ ap (λ b. cond b (Some e) None) (eq-eqb e.class e.class refl)

pub IsDictionary-new : (held : List Entry) (e : Entry) → IsDictionary held → IsNew held e → AreRead e.elements
    → IsDictionary (held ++ e ∷ [])
IsDictionary-new held e sound new read = record { entries = entries; names = names }
  where
    keeps : (x : Entry) → IsHeld held x → IsHeld (held ++ e ∷ []) x
    keeps x h = record {
      low = h.low;
      high = h.high;
      read = h.read;
      short = h.short;
      name = class_named-stays held e x.name x.class h.name;
    }

    here : IsHeld (held ++ e ∷ []) e
    here = record {
      low = new.low;
      high = new.high;
      read = read;
      short = new.short;
      name = class_named-new held e new.name;
    }

    found : (class : ℕ) (x : Entry) (o : Option Entry) (b : Bool) → entry_of held class ≡ o
        → option_or o (cond b (Some e) None) ≡ Some x → IsHeld (held ++ e ∷ []) x
    found class x (Some y) b was is = let same : y ≡ x = cc in keeps x (sound.entries class x (was ∙ ap Some same))
    found class x None true was is = let same : e ≡ x = cc in subst (IsHeld (held ++ e ∷ [])) same here
    found class x None false was is = cc

    entries : (class : ℕ) (x : Entry) → entry_of (held ++ e ∷ []) class ≡ Some x → IsHeld (held ++ e ∷ []) x
    entries class x is =
        found class x (entry_of held class) (eqb class e.class) refl (sym (entry_of-push held e class) ∙ is)

    at_new : (name : List ℕ) (class : ℕ) → name ≡ e.name → e.class ≡ class
        → IsSomeAnd (entry_of (held ++ e ∷ []) class) (λ x. x.name ≡ name)
    at_new name class same is =
        subst (λ c. IsSomeAnd (entry_of (held ++ e ∷ []) c) (λ x. x.name ≡ name)) is
        (rw (entry_of-new held e new.class) (sym same))

    at_old : (name : List ℕ) (class : ℕ) (o : Option Entry) → entry_of held class ≡ o → IsSomeAnd o (λ x. x.name ≡ name)
        → IsSomeAnd (entry_of (held ++ e ∷ []) class) (λ x. x.name ≡ name)
    at_old name class None was is = absurd is
    at_old name class (Some x) was is = rw (entry_of-stays held e class x was) is

    by : (name : List ℕ) (class : ℕ) (b : Bool) → bytes_eq name e.name ≡ b
        → cond b (Some e.class) (class_named held name) ≡ Some class
        → IsSomeAnd (entry_of (held ++ e ∷ []) class) (λ x. x.name ≡ name)
    by name class true same is = at_new name class ((bytes_eq-Decides name e.name).0 same) cc
    by name class false other is =
        at_old name class (entry_of held class) refl (sound.names name class is)

    names : (name : List ℕ) (class : ℕ) → class_named (held ++ e ∷ []) name ≡ Some class
        → IsSomeAnd (entry_of (held ++ e ∷ []) class) (λ x. x.name ≡ name)
    names name class is =
        by name class (bytes_eq name e.name) refl (sym (class_named-more held e name new.name) ∙ is)

-- What is kept after an entry more.
keys-push : (es : List (ℕ × Entry)) (p : ℕ × Entry) → AllByRecursion IsByClass es → IsByClass p
    → AllByRecursion IsByClass (es ++ p ∷ [])
keys-push [] p keys key = (key, tt)
keys-push (q ∷ es) p keys key = (keys.0, keys-push es p keys.1 key)

IsKept-new : (classes more : List (ℕ × Entry)) (names after : List ℕ → Option ℕ) (class : ℕ) (e : Entry)
    → IsKept classes names → IsNew (values_of classes) e → AreRead e.elements → class ≡ e.class
    → more ≡ classes ++ (class, e) ∷ []
    → ((name : List ℕ) → after name ≡ cond (bytes_eq name e.name) (Some class) (names name)) → IsKept more after
IsKept-new classes more names after class e kept new read is pushed put =
    let held : values_of more ≡ values_of classes ++ e ∷ [] = ap values_of pushed
    ∙ map-append (λ (p : ℕ × Entry). p.1) classes ((class, e) ∷ []) in
    record {
      keys = subst (AllByRecursion IsByClass) (sym pushed) (keys-push classes (class, e) kept.keys is);
      sound = subst IsDictionary (sym held) (IsDictionary-new (values_of classes) e kept.sound new read);
      named = λ name. put name ∙ (λ i. cond (bytes_eq name e.name) (Some (is i)) (kept.named name i))
          ∙ sym (class_named-more (values_of classes) e name new.name) ∙ ap (λ held. class_named held name) (sym held);
    }

IsKept-same : (classes more : List (ℕ × Entry)) (names after : List ℕ → Option ℕ) → IsKept classes names
    → more ≡ classes → ((name : List ℕ) → after name ≡ names name) → IsKept more after
IsKept-same classes more names after kept same stay = record {
  keys = subst (AllByRecursion IsByClass) (sym same) kept.keys;
  sound = subst (λ es. IsDictionary (values_of es)) (sym same) kept.sound;
  named = λ name. stay name ∙ kept.named name ∙ ap (λ es. class_named (values_of es) name) (sym same);
}

pub IsKept-put : {T E : Type 0} (r : Result T E) (classes more : List (ℕ × Entry)) (names after : List ℕ
    → Option ℕ) (class : ℕ) (e : Entry) → IsKept classes names → IsNew (values_of classes) e → AreRead e.elements
    → class ≡ e.class → OnOk r (more ≡ classes ++ (class, e) ∷ [])
    → OnOk r ((name : List ℕ) → after name ≡ cond (bytes_eq name e.name) (Some class) (names name))
    → OnErr r (more ≡ classes) → OnErr r ((name : List ℕ) → after name ≡ names name) → IsKept more after
IsKept-put (Ok x) classes more names after class e kept new read is pushed put same stay =
    IsKept-new classes more names after class e kept new read is pushed put
IsKept-put (Err x) classes more names after class e kept new read is pushed put same stay =
    IsKept-same classes more names after kept same stay

pub IsKept-copy : (classes more : List (ℕ × Entry)) (names after : List ℕ → Option ℕ) → IsKept classes names
    → more ≡ classes → ((name : List ℕ) → after name ≡ names name) → IsKept more after
IsKept-copy = IsKept-same
