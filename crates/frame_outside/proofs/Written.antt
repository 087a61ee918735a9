-- Where the bytes of a file lie that a slot still writes, after each change of the slots.
use Rattle.std.proofs.Common.{◌≡◌, ℕ, zero, suc, List, [], ◌∷◌, ◌++◌, Bool, true, false, cond, Option, Some}
use Rattle.std.proofs.Common.{None, IsSome, option_map, refl, sym, ap, ◌∙◌, subst, append-nil, map, get_or}
use Rattle.std.proofs.Common.{Result, Ok, Err, OnOk, OnErr}
use Rattle.std.proofs.Math.ListN.{set}
use Rattle.std.proofs.Math.Path.{fun_ext}
use Rattle.std.specs.Option.{option_or, option_map_or, IsNone}
use Rattle.std.specs.Str.{bytes_eq}
use Rattle.std.proofs.lemmas.Slice.Eq.{bytes_eq-Decides}
use Rattle.frame_outside.specs.Shelf.{Files, Writing, Slot, Source, Target, slot_wrote, write, holding}
use Rattle.frame_outside.specs.Shelf.{files_written, writing_at, slot_passed, pass, slot_released}
use Rattle.frame_outside.specs.Shelf.{writing_released, without_slot}
use Rattle.frame_outside.specs.Written.{written_by, written_under, AreApart}
use Rattle.frame_outside.proofs.Kept.{map-set-write, map-set-same, map-given}

abbrev nothing : Option (List ℕ)
nothing = None

cond_none : (b : Bool) → cond b nothing nothing ≡ nothing
cond_none true = refl
cond_none false = refl

to_none : (x : Option (List ℕ)) → IsNone x → x ≡ None
to_none None h = refl
to_none (Some x) h = cc

from_none : (x : Option (List ℕ)) → x ≡ None → IsNone x
from_none None h = refl
from_none (Some x) h = cc

bytes_eq-sym : (xs ys : List ℕ) (b c : Bool) → bytes_eq xs ys ≡ b → bytes_eq ys xs ≡ c → b ≡ c
bytes_eq-sym xs ys true true h k = refl
bytes_eq-sym xs ys false false h k = refl
bytes_eq-sym xs ys true false h k = let e =
    (bytes_eq-Decides ys xs).1 (sym ((bytes_eq-Decides xs ys).0 h)) in cc
bytes_eq-sym xs ys false true h k = let e =
    (bytes_eq-Decides xs ys).1 (sym ((bytes_eq-Decides ys xs).0 k)) in cc

-- a released name

released_case : (name q held bytes : List ℕ) (nh nq qh : Bool) → bytes_eq name held ≡ nh →
    bytes_eq name q ≡ nq → bytes_eq q held ≡ qh →
    cond (option_map_or (bytes_eq q) (cond nh None (Some held)) false) (Some bytes) None
    ≡ cond nq None (cond qh (Some bytes) None)
released_case name q held bytes true true qh a b c = refl
released_case name q held bytes true false false a b c = refl
released_case name q held bytes true false true a b c =
    let e = (bytes_eq-Decides name q).1
    ((bytes_eq-Decides name held).0 a ∙ sym ((bytes_eq-Decides q held).0 c)) in cc
released_case name q held bytes false true true a b c =
    let e = (bytes_eq-Decides name held).1
    ((bytes_eq-Decides name q).0 b ∙ (bytes_eq-Decides q held).0 c) in cc
released_case name q held bytes false true false a b c = ap (λ t. cond t (Some bytes) None) c
released_case name q held bytes false false qh a b c = ap (λ t. cond t (Some bytes) None) c

written_by-released : (name q : List ℕ) (slot : Slot) →
    written_by (slot_released name slot) q ≡ cond (bytes_eq name q) None (written_by slot q)
written_by-released name q (Source reading) = sym (cond_none (bytes_eq name q))
written_by-released name q (Target None) = sym (cond_none (bytes_eq name q))
written_by-released name q (Target (Some writing)) = named writing.name
  where
    named : (held : Option (List ℕ)) →
        written_by (Target (Some (writing_released name (record { written = writing.written; name = held }))))
        q ≡ cond (bytes_eq name q) None (written_by
        (Target (Some (record { written = writing.written; name = held }))) q)
    named None = sym (cond_none (bytes_eq name q))
    named (Some held) = released_case name q held writing.written (bytes_eq name held) (bytes_eq name q)
        (bytes_eq q held) refl refl refl

option_or-cond : (b : Bool) (x y : Option (List ℕ)) →
    option_or (cond b None x) (cond b None y) ≡ cond b None (option_or x y)
option_or-cond true x y = refl
option_or-cond false x y = refl

pub written_under-released : (name q : List ℕ) (slots : List Slot) →
    written_under (without_slot name slots) q ≡ cond (bytes_eq name q) None (written_under slots q)
written_under-released name q [] = sym (cond_none (bytes_eq name q))
written_under-released name q (first ∷ others) =
    ap (λ x. option_or x (written_under (without_slot name others) q)) (written_by-released name q first)
    ∙ ap (option_or (cond (bytes_eq name q) None (written_by first q))) (written_under-released name q others)
    ∙ option_or-cond (bytes_eq name q) (written_by first q) (written_under others q)

apart_case : (b : Bool) (x y : Option (List ℕ)) → (IsSome x → y ≡ None) → IsSome (cond b None x) →
    cond b None y ≡ None
apart_case true x y apart some = refl
apart_case false x y apart some = apart some

pub apart-released : (name : List ℕ) (slots : List Slot) → AreApart slots → AreApart (without_slot name slots)
apart-released name [] apart = apart
apart-released name (first ∷ others) apart = (
  λ q some. from_none (written_under (without_slot name others) q) (written_under-released name q others
      ∙ apart_case (bytes_eq name q) (written_by first q) (written_under others q)
      (λ h. to_none (written_under others q) (apart.0 q h))
      (subst IsSome (written_by-released name q first) some)),
  apart-released name others apart.1,
)

-- a slot more

option_or-assoc : (x y z : Option (List ℕ)) → option_or x (option_or y z) ≡ option_or (option_or x y) z
option_or-assoc None y z = refl
option_or-assoc (Some x) y z = refl

option_or-none : (x : Option (List ℕ)) → option_or x None ≡ x
option_or-none None = refl
option_or-none (Some x) = refl

pub written_under-given : (slots : List Slot) (slot : Slot) (q : List ℕ) →
    written_under (slots ++ slot ∷ []) q ≡ option_or (written_under slots q) (written_by slot q)
written_under-given [] slot q = option_or-none (written_by slot q)
written_under-given (first ∷ others) slot q =
    ap (option_or (written_by first q)) (written_under-given others slot q)
    ∙ option_or-assoc (written_by first q) (written_under others q) (written_by slot q)

given_case : (x y z : Option (List ℕ)) → IsSome x → y ≡ None → (IsSome z → option_or x y ≡ None) →
    option_or y z ≡ None
given_case (Some x) None None some none apart = refl
given_case (Some x) None (Some z) some none apart = let e = apart refl in cc
given_case (Some x) (Some y) z some none apart = cc
given_case None y z some none apart = cc

pub apart-given : (slots : List Slot) (slot : Slot) → AreApart slots →
    ((q : List ℕ) → IsSome (written_by slot q) → written_under slots q ≡ None) → AreApart (slots ++ slot ∷ [])
apart-given [] slot apart new = (λ q some. refl, tt)
apart-given (first ∷ others) slot apart new = (
  λ q some. from_none (written_under (others ++ slot ∷ []) q) (written_under-given others slot q
      ∙ given_case (written_by first q) (written_under others q) (written_by slot q) some
      (to_none (written_under others q) (apart.0 q some)) (new q)),
  apart-given others slot apart.1 (λ q some. last_none (written_by first q) (written_under others q)
      (new q some)),
)
  where
    last_none : (x y : Option (List ℕ)) → option_or x y ≡ None → y ≡ None
    last_none None y h = h
    last_none (Some x) y h = cc

-- a source more
pub written_under-opened : (slots : List Slot) (reading : _) (q : List ℕ) →
    written_under (slots ++ Source reading ∷ []) q ≡ written_under slots q
written_under-opened slots reading q =
    written_under-given slots (Source reading) q ∙ option_or-none (written_under slots q)

pub apart-opened : (slots : List Slot) (reading : _) → AreApart slots →
    AreApart (slots ++ Source reading ∷ [])
apart-opened slots reading apart = apart-given slots (Source reading) apart (λ q some. cc)

-- a target more, of a name that was released
made_case : (b c : Bool) (x held : Option (List ℕ)) → b ≡ c →
    option_or (option_or (cond b None x) (cond c (Some []) None)) held ≡ cond b (Some []) (option_or x held)
made_case true true x held h = refl
made_case false false None held h = refl
made_case false false (Some x) held h = refl
made_case true false x held h = cc
made_case false true x held h = cc

pub file_made : (name q : List ℕ) (slots : List Slot) (held : Option (List ℕ)) →
    option_or
    (written_under (without_slot name slots ++ Target (Some (record { written = []; name = Some name })) ∷ [])
    q) held ≡ cond (bytes_eq name q) (Some []) (option_or (written_under slots q) held)
file_made name q slots held =
    ap (λ x. option_or x held) (written_under-given (without_slot name slots) _ q
    ∙ ap (λ x. option_or x (cond (bytes_eq q name) (Some []) None)) (written_under-released name q slots))
    ∙ made_case (bytes_eq name q) (bytes_eq q name) (written_under slots q) held
    (bytes_eq-sym name q _ _ refl refl)

abbrev empty : List ℕ
empty = []

made_apart : (b c : Bool) (x : Option (List ℕ)) → b ≡ c → IsSome (cond c (Some empty) None) →
    cond b None x ≡ None
made_apart true c x h some = refl
made_apart false false x h some = cc
made_apart false true x h some = cc

pub apart-made : (name : List ℕ) (slots : List Slot) → AreApart slots →
    AreApart (without_slot name slots ++ Target (Some (record { written = []; name = Some name })) ∷ [])
apart-made name slots apart = apart-given (without_slot name slots) _ (apart-released name slots apart)
    (λ q some. written_under-released name q slots
    ∙ made_apart (bytes_eq name q) (bytes_eq q name) (written_under slots q)
    (bytes_eq-sym name q _ _ refl refl) some)

-- a file from elsewhere
placed_case : (b : Bool) (x held : Option (List ℕ)) (bytes : List ℕ) →
    option_or (cond b None x) (cond b (Some bytes) held) ≡ cond b (Some bytes) (option_or x held)
placed_case true x held bytes = refl
placed_case false x held bytes = refl

pub file_placed : (name q bytes : List ℕ) (slots : List Slot) (held : Option (List ℕ)) →
    option_or (written_under (without_slot name slots) q) (cond (bytes_eq name q) (Some bytes) held)
    ≡ cond (bytes_eq name q) (Some bytes) (option_or (written_under slots q) held)
file_placed name q bytes slots held =
    ap (λ x. option_or x (cond (bytes_eq name q) (Some bytes) held)) (written_under-released name q slots)
    ∙ placed_case (bytes_eq name q) (written_under slots q) held bytes

-- a slot that gave bytes
written_by-passed : (n : ℕ) (slot : Slot) (q : List ℕ) → written_by (slot_passed n slot) q ≡ written_by slot q
written_by-passed n (Source reading) q = refl
written_by-passed n (Target writing) q = refl

pub written_under-pass : (slots : List Slot) (slot n : ℕ) (q : List ℕ) →
    written_under (pass slots slot n) q ≡ written_under slots q
written_under-pass [] slot n q = refl
written_under-pass (first ∷ others) zero n q =
    ap (λ x. option_or x (written_under others q)) (written_by-passed n first q)
written_under-pass (first ∷ others) (suc slot) n q =
    ap (option_or (written_by first q)) (written_under-pass others slot n q)

pub apart-pass : (slots : List Slot) (slot n : ℕ) → AreApart slots → AreApart (pass slots slot n)
apart-pass [] slot n apart = apart
apart-pass (first ∷ others) zero n apart =
    (λ q some. apart.0 q (subst IsSome (written_by-passed n first q) some), apart.1)
apart-pass (first ∷ others) (suc slot) n apart = (
  λ q some. from_none (written_under (pass others slot n) q)
      (written_under-pass others slot n q ∙ to_none (written_under others q) (apart.0 q some)),
  apart-pass
      others slot n apart.1,
)

-- a slot that wrote bytes
wrote_case : (b : Bool) (x y : List ℕ) → IsSome (cond b (Some x) None) → IsSome (cond b (Some y) None)
wrote_case true x y h = refl
wrote_case false x y h = cc

written_by-wrote : (bytes : List ℕ) (slot : Slot) (q : List ℕ) →
    IsSome (written_by (slot_wrote bytes slot) q) → IsSome (written_by slot q)
written_by-wrote bytes (Source reading) q h = h
written_by-wrote bytes (Target None) q h = h
written_by-wrote bytes (Target (Some writing)) q h =
    wrote_case (option_map_or (bytes_eq q) writing.name false) (writing.written ++ bytes) writing.written h

none_case : (x y u v : Option (List ℕ)) → (IsSome y → IsSome x) → (u ≡ None → v ≡ None) →
    option_or x u ≡ None → option_or y v ≡ None
none_case None None u v h k none = k none
none_case None (Some y) u v h k none = let e = h refl in cc
none_case (Some x) y u v h k none = cc

none_written : (slots : List Slot) (slot : ℕ) (bytes q : List ℕ) → written_under slots q ≡ None →
    written_under (write slots slot bytes) q ≡ None
none_written [] slot bytes q none = none
none_written (first ∷ others) zero bytes q none =
    none_case (written_by first q) (written_by (slot_wrote bytes first) q) (written_under others q)
    (written_under others q) (written_by-wrote bytes first q) (λ h. h) none
none_written (first ∷ others) (suc slot) bytes q none =
    none_case (written_by first q) (written_by first q) (written_under others q)
    (written_under (write others slot bytes) q) (λ h. h) (none_written others slot bytes q) none

pub apart-write : (slots : List Slot) (slot : ℕ) (bytes : List ℕ) → AreApart slots →
    AreApart (write slots slot bytes)
apart-write [] slot bytes apart = apart
apart-write (first ∷ others) zero bytes apart =
    (λ q some. apart.0 q (written_by-wrote bytes first q some), apart.1)
apart-write (first ∷ others) (suc slot) bytes apart = (
  λ q some. from_none (written_under (write others slot bytes) q)
      (none_written others slot bytes q (to_none (written_under others q) (apart.0 q some))),
  apart-write
      others slot bytes apart.1,
)

-- what a file holds once a slot has written
after : Option Writing → List ℕ → Option (List ℕ) → Option (List ℕ)
after None q held = held
after (Some writing) q held = option_map_or (λ name. cond (bytes_eq name q) (Some writing.written) held)
    writing.name held

own_case : (b c : Bool) (bytes grown : List ℕ) (u held : Option (List ℕ)) → b ≡ c →
    option_or (option_or (cond c (Some grown) None) u) held
    ≡ cond b (Some grown) (option_or (option_or (cond c (Some bytes) None) u) held)
own_case true true bytes grown u held h = refl
own_case false false bytes grown u held h = refl
own_case true false bytes grown u held h = cc
own_case false true bytes grown u held h = cc

kept_case : (writing : Option Writing) (q x : List ℕ) → None ≡ after writing q None →
    Some x ≡ after writing q (Some x)
unfolding after
kept_case None q x h = refl
kept_case (Some writing) q x h = named writing.name h
  where
    bool_case : (b : Bool) → None ≡ cond b (Some writing.written) None →
        Some x ≡ cond b (Some writing.written) (Some x)
    bool_case true h = cc
    bool_case false h = refl

    named : (name : Option (List ℕ)) →
        None ≡ option_map_or (λ name. cond (bytes_eq name q) (Some writing.written) None) name None →
        Some x ≡ option_map_or (λ name. cond (bytes_eq name q) (Some writing.written) (Some x)) name (Some x)
    named None h = refl
    named (Some name) h = bool_case (bytes_eq name q) h

other_case : (writing : Option Writing) (q : List ℕ) (x u v held : Option (List ℕ)) →
    (IsSome x → v ≡ None) → (v ≡ None → u ≡ None) →
    ((held : Option (List ℕ)) → option_or u held ≡ after writing q (option_or v held)) →
    option_or (option_or x u) held ≡ after writing q (option_or (option_or x v) held)
other_case writing q None u v held apart none rest = rest held
other_case writing q (Some x) u v held apart none rest =
    let empty = apart refl in
    kept_case writing q x (ap (λ w. option_or w None) (sym (none empty)) ∙ rest None
    ∙ ap (λ w. after writing q (option_or w None)) empty)

file_written : (slots : List Slot) (slot : ℕ) (bytes q : List ℕ) → AreApart slots → (held : Option (List ℕ)) →
    option_or (written_under (write slots slot bytes) q) held
    ≡ after (writing_at (write slots slot bytes) slot) q (option_or (written_under slots q) held)
unfolding after
file_written [] slot bytes q apart held = refl
file_written (Source reading ∷ others) zero bytes q apart held = refl
file_written (Target None ∷ others) zero bytes q apart held = refl
file_written (Target (Some writing) ∷ others) zero bytes q apart held = named writing.name
  where
    named : (name : Option (List ℕ)) →
        option_or
        (option_or (cond (option_map_or (bytes_eq q) name false) (Some (writing.written ++ bytes)) None)
        (written_under others q)) held
        ≡ option_map_or (λ own. cond (bytes_eq own q) (Some (writing.written ++ bytes))
        (option_or (option_or (cond (option_map_or (bytes_eq q) name false) (Some writing.written) None)
        (written_under others q)) held)) name
        (option_or (option_or (cond (option_map_or (bytes_eq q) name false) (Some writing.written) None)
        (written_under others q)) held)
    named None = refl
    named (Some name) = own_case (bytes_eq name q) (bytes_eq q name) writing.written
        (writing.written ++ bytes) (written_under others q) held (bytes_eq-sym name q _ _ refl refl)
file_written (first ∷ others) (suc slot) bytes q apart held =
    other_case (writing_at (write others slot bytes) slot) q (written_by first q)
    (written_under (write others slot bytes) q) (written_under others q) held
    (λ some. to_none (written_under others q) (apart.0 q some)) (none_written others slot bytes q)
    (file_written others slot bytes q apart.1)

files_after : (writing : Option Writing) (old new : Files) →
    ((q : List ℕ) → new q ≡ after writing q (old q)) → Some new ≡ files_written writing (Some old)
unfolding after
files_after None old new same = ap Some (fun_ext same)
files_after (Some writing) old new same = named writing.name same
  where
    named : (name : Option (List ℕ)) → ((q : List ℕ) → new q
        ≡ option_map_or (λ name. cond (bytes_eq name q) (Some writing.written) (old q)) name (old q)) →
        Some new
        ≡ option_map_or (λ name. option_map (holding name writing.written) (Some old)) name (Some old)
    named None same = ap Some (fun_ext same)
    named (Some name) same = ap Some (fun_ext same)

-- the files once a slot of those that are apart has written
pub files_write : (slots : List Slot) (slot : ℕ) (bytes : List ℕ) (held : Files) → AreApart slots →
    Some (λ q. option_or (written_under (write slots slot bytes) q) (held q))
    ≡ files_written (writing_at (write slots slot bytes) slot)
    (Some (λ q. option_or (written_under slots q) (held q)))
files_write slots slot bytes held apart =
    files_after (writing_at (write slots slot bytes) slot) (λ q. option_or (written_under slots q) (held q))
    _ (λ q. file_written slots slot bytes q apart (held q))

-- a slot that wrote nothing is as it was, and its file is what it wrote before
wrote-none : (slot : Slot) → slot_wrote [] slot ≡ slot
wrote-none (Source reading) = refl
wrote-none (Target None) = refl
wrote-none (Target (Some writing)) = ap
    (λ (bytes : List ℕ). Target (Some (record { written = bytes; name = writing.name })))
    (append-nil writing.written)

pub write-none : (slots : List Slot) (slot : ℕ) → write slots slot [] ≡ slots
write-none [] slot = refl
write-none (first ∷ others) zero = ap (λ s. s ∷ others) (wrote-none first)
write-none (first ∷ others) (suc slot) = ap (λ ss. first ∷ ss) (write-none others slot)

pub files_write-none : (slots : List Slot) (slot : ℕ) (held : Files) → AreApart slots →
    Some (λ q. option_or (written_under slots q) (held q))
    ≡ files_written (writing_at slots slot) (Some (λ q. option_or (written_under slots q) (held q)))
files_write-none slots slot held apart =
    let P : List Slot → Type 0 = λ ss. Some (λ q. option_or (written_under ss q) (held q))
    ≡ files_written (writing_at ss slot) (Some (λ q. option_or (written_under slots q) (held q))) in
    subst P (write-none slots slot) (files_write slots slot [] held apart)

-- a slot that was to write, and did or did not
pub apart_put : {X T E : Type 0} (seen : X → Slot) (xs : List X) (slot : ℕ) (bytes : List ℕ) (old new : X)
    (r : Result T E) → AreApart (map seen xs) → old ≡ get_or xs slot old →
    OnOk r (seen new ≡ slot_wrote bytes (seen old)) → OnErr r (seen new ≡ seen old) →
    AreApart (map seen (set xs slot new))
apart_put seen xs slot bytes old new (Ok x) apart same ok err =
    subst AreApart (sym (map-set-write seen xs slot bytes old new same ok))
    (apart-write (map seen xs) slot bytes apart)
apart_put seen xs slot bytes old new (Err e) apart same ok err =
    subst AreApart (sym (map-set-same seen xs slot old new same err)) apart

-- a slot that was to be given, and was or was not
pub apart_pushed : {X : Type 0} (seen : X → Slot) (xs ys : List X) (x : X) (given : Bool) →
    ys ≡ cond given (xs ++ x ∷ []) xs → AreApart (map seen xs) →
    ((q : List ℕ) → written_by (seen x) q ≡ None) → AreApart (map seen ys)
apart_pushed seen xs ys x true so apart none =
    subst AreApart (sym (ap (map seen) so ∙ map-given seen xs x))
    (apart-given (map seen xs) (seen x) apart
    (λ q some. absurd (not_some (written_by (seen x) q) (none q) some)))
  where
    not_some : (o : Option (List ℕ)) → o ≡ None → IsSome o → ⊥
    not_some None h k = cc
    not_some (Some y) h k = cc
apart_pushed seen xs ys x false so apart none = subst AreApart (sym (ap (map seen) so)) apart
