-- One more channel among those of a kind.
use Rattle.std.proofs.Common.{◌≡◌, ℕ, zero, suc, ◌+◌, ◌-◌, ◌<◌, ◌≤◌, true, false, List, [], ◌∷◌, ◌++◌, length}
use Rattle.std.proofs.Common.{◌⊎◌, inl, inr, get_or, set, map, Option, Some, None, refl, sym, ap, ◌∙◌, subst}
use Rattle.std.proofs.Common.{arith}
use Rattle.std.specs.Prelude.{All, IfSome, Result, Ok, Err, OnOk, OnErr}
use Rattle.std.specs.List.{slice_get, list_any}
use Rattle.std.specs.Str.{bytes_eq}
use Rattle.std.proofs.lemmas.Bool.{cond-true, cond-false, cond_both, ne_eqb, eqb-false, cases_Bool}
use Rattle.std.proofs.lemmas.Option.{get_or_from_slice_get, slice_get_within, slice_get-get_or}
use Rattle.std.proofs.lemmas.Option.{slice_get_read}
use Rattle.std.proofs.lemmas.List.{length-map, map-append}
use Rattle.std.proofs.lemmas.List.Elements.{All-set, All-push, All-get_or, All-weaker}
use Rattle.std.proofs.lemmas.List.Quantifiers.{position-Some}
use Rattle.contents_table.specs.declared.names.Found.{Found}
use Rattle.contents_table.specs.declared.names.Listed.{Listed}
use Rattle.contents_table.specs.Built.{with_name, with_found, is_in, name_in, are_distinct, AreInOrder}
use Rattle.contents_table.specs.Built.{IsName, AreNames}
use Rattle.contents_table.specs.Kept.{number_in}
use Rattle.contents_table.proofs.Distinct.{position-None, none-passes, distinct-new}
use Rattle.contents_table.proofs.InOrder.{frames-below}

-- ---- channels

-- the last channel of a frame no earlier than the others tells whether there is one of that frame
pub none-of-frame : (frame : ℕ) (found : List Found) → AreInOrder (frame + 1) found →
    ((k : ℕ) (d : Found) → k + 1 ≡ length found → (get_or found k d).frame ≡ frame → ⊥) →
    list_any (is_in frame) found ≡ false
none-of-frame frame [] ordered last = refl
none-of-frame frame (f ∷ []) ordered last = rw (ne_eqb f.frame frame (last 0 f refl)) refl
none-of-frame frame (f ∷ g ∷ more) ordered last =
    let below : f.frame < g.frame = ordered.1 0 g (omega arith) in
    rw (ne_eqb f.frame frame (λ e. omega (arith, e, below, ordered.2.0)))
    (none-of-frame frame (g ∷ more) ordered.2 (λ k d is. last (suc k) d (omega arith)))

-- the channel stands behind the others
abbrev with_pushed : Found → Listed → Listed
with_pushed more l = record l { found = l.found ++ more ∷ [] }

-- a channel of a later frame than the last one is put behind the others
pub pushed-found : (more : Found) (l now : Listed) (pushed : List Found) (last : Option Found) →
    AreInOrder (more.frame + 1) l.found → slice_get l.found (length l.found - 1) ≡ last →
    ((f : Found) → last ≡ Some f → f.frame ≡ more.frame → ⊥) → now ≡ l → pushed ≡ now.found ++ more ∷ [] →
    ◌≡◌ {A = Listed} (record { name = now.name; found = pushed }) (with_found more l)
pushed-found more l now pushed last ordered at apart is put =
    let none : list_any (is_in more.frame) l.found ≡ false =
    none-of-frame more.frame l.found ordered
    (λ k d end e. let place : length l.found - 1 ≡ k = omega arith in
    apart (get_or l.found k d)
    (sym at ∙ ap (slice_get l.found) place ∙ slice_get-get_or l.found k d (omega arith)) e) in
    (λ i. record { name = (is i).name; found = (put ∙ ap (λ l. (with_pushed more l).found) is) i })
    ∙ sym (cond-false (list_any (is_in more.frame) l.found) l (with_pushed more l) none)

pub in-order-push : (frames : ℕ) (found : List Found) (f : Found) → AreInOrder frames found →
    f.frame < frames →
    All (λ g. g.frame < f.frame) found → AreInOrder frames (found ++ f ∷ [])
in-order-push frames [] f ordered below earlier = (below, λ k d h. absurd (omega (arith, h)), tt)
in-order-push frames (g ∷ more) f ordered below earlier = (
  ordered.0,
  All-push (λ later. g.frame < later.frame) more f ordered.1 (earlier 0 f (omega arith)),
  in-order-push frames more f ordered.2 below (λ k d within. earlier (suc k) d (omega arith)),
)

-- ---- the list of names

-- the name stands at a number
with_name-at : (name : List ℕ) (found : Found) (listed : List Listed) (k : ℕ) (d : Listed) →
    k < length listed → bytes_eq name (get_or (map name_in listed) k []) ≡ true →
    ((j : ℕ) → j < k → bytes_eq name (get_or (map name_in listed) j []) ≡ false) →
    with_name name found listed ≡ set listed k (with_found found (get_or listed k d))
unfolding with_name
with_name-at name found [] k d within here before = absurd (omega arith)
with_name-at name found (l ∷ more) zero d within here before =
    cond-true (bytes_eq name l.name) (with_found found l ∷ more) (l ∷ with_name name found more) here
with_name-at name found (l ∷ more) (suc k) d within here before =
    cond-false (bytes_eq name l.name) (with_found found l ∷ more) (l ∷ with_name name found more)
    (before 0 (omega arith))
    ∙ ap (λ rest. l ∷ rest)
    (with_name-at name found more k d (omega arith) here (λ j below. before (suc j) (omega arith)))

pub with_name-found : (name : List ℕ) (found : Found) (listed : List Listed) (k : ℕ) (l : Listed) →
    number_in listed name ≡ Some k → slice_get listed k ≡ Some l →
    with_name name found listed ≡ set listed k (with_found found l)
with_name-found name found listed k l number at =
    let is = position-Some (bytes_eq name) (map name_in listed) k [] number in
    with_name-at name found listed k l (slice_get_within listed k l at) is.1 is.2
    ∙ ap (λ (l : Listed). set listed k (with_found found l)) (get_or_from_slice_get listed k l l at)

pub with_name-new : (name : List ℕ) (found : Found) (listed : List Listed) → number_in listed name ≡ None →
    with_name name found listed ≡ listed ++ record { name = name; found = found ∷ [] } ∷ []
unfolding with_name
with_name-new name found listed none =
    by listed (λ k within. position-None (bytes_eq name) (map name_in listed) k [] none within)
  where
    by : (listed : List Listed) →
        ((k : ℕ) → k < length (map name_in listed) → bytes_eq name (get_or (map name_in listed) k [])
        ≡ false) →
        with_name name found listed ≡ listed ++ record { name = name; found = found ∷ [] } ∷ []
    by [] apart = refl
    by (l ∷ more) apart =
        cond-false (bytes_eq name l.name) (with_found found l ∷ more) (l ∷ with_name name found more)
        (apart 0 (omega arith))
        ∙ ap (λ rest. l ∷ rest) (by more (λ k within. apart (suc k) (omega arith)))

-- names stay where one of them gets other channels
pub names-set : (listed : List Listed) (k : ℕ) (l d : Listed) → (get_or listed k d).name ≡ l.name →
    map name_in (set listed k l) ≡ map name_in listed
names-set [] k l d is = refl
names-set (m ∷ more) zero l d is = ap (λ name. name ∷ map name_in more) (sym is)
names-set (m ∷ more) (suc k) l d is = ap (λ names. m.name ∷ names) (names-set more k l d is)

-- ---- what is kept

found-kept : (more : Found) (l : Listed) → AreInOrder (more.frame + 1) l.found →
    AreInOrder (more.frame + 1) (with_found more l).found
found-kept more l ordered = by (cases_Bool (list_any (is_in more.frame) l.found))
  where
    by : (list_any (is_in more.frame) l.found ≡ true) ⊎ (list_any (is_in more.frame) l.found ≡ false) →
        AreInOrder (more.frame + 1) (with_found more l).found
    by (inl e) =
        subst (λ (l : Listed). AreInOrder (more.frame + 1) l.found)
        (sym (cond-true (list_any (is_in more.frame) l.found) l (with_pushed more l) e)) ordered
    by (inr e) =
        subst (λ (l : Listed). AreInOrder (more.frame + 1) l.found)
        (sym (cond-false (list_any (is_in more.frame) l.found) l (with_pushed more l) e))
        (in-order-push (more.frame + 1) l.found more ordered (omega arith)
        (λ k d within. let other = none-passes (is_in more.frame) l.found k d e within in
        let below = frames-below (more.frame + 1) l.found k d ordered within in
        let apart : (get_or l.found k d).frame ≡ more.frame → ⊥ =
        eqb-false (get_or l.found k d).frame more.frame other in
        omega (arith, below, apart)))

pub name-kept : (more : Found) (l : Listed) → (with_found more l).name ≡ l.name
name-kept more l =
    cond_both (list_any (is_in more.frame) l.found) l (with_pushed more l) (λ m. m.name ≡ l.name)
    (λ _. refl) (λ _. refl)

pub names-kept-set : (more : Found) (listed : List Listed) (k : ℕ) (l : Listed) →
    AreNames (more.frame + 1) listed →
    slice_get listed k ≡ Some l → AreNames (more.frame + 1) (set listed k (with_found more l))
names-kept-set more listed k l names at =
    let is : get_or listed k l ≡ l = get_or_from_slice_get listed k l l at in
    let kept : IsName (more.frame + 1) l =
    subst (IsName (more.frame + 1)) is
    (All-get_or (IsName (more.frame + 1)) listed k l (slice_get_within listed k l at) names.names) in
    record {
      names = All-set (IsName (more.frame + 1)) listed k (with_found more l)
          (record {
            short = omega (arith, ap length (name-kept more l), kept.short);
            ordered = found-kept more l kept.ordered;
          })
          names.names;
      distinct = ap are_distinct (names-set listed k (with_found more l) l
          (ap (λ (l : Listed). l.name) is ∙ sym (name-kept more l)))
          ∙ names.distinct;
    }

pub names-kept-push : (more : Found) (listed : List Listed) (name : List ℕ) →
    AreNames (more.frame + 1) listed →
    length name ≤ 65534 → number_in listed name ≡ None →
    AreNames (more.frame + 1) (listed ++ record { name = name; found = more ∷ [] } ∷ [])
names-kept-push more listed name names short free = record {
  names = All-push (IsName (more.frame + 1)) listed (record { name = name; found = more ∷ [] }) names.names
      (record { short = short; ordered = (omega arith, λ k d h. absurd (omega (arith, h)), tt) });
  distinct = ap are_distinct (map-append name_in listed (record { name = name; found = more ∷ [] } ∷ []))
      ∙ distinct-new (map name_in listed) name names.distinct free;
}

-- what one more channel makes of the list
pub set-found : (more : Found) (listed items : List Listed) (k : ℕ) (l now : Listed) → items ≡ listed →
    k < length listed → l ≡ get_or items k l → now ≡ with_found more l →
    IfSome (slice_get listed k) (λ (m : Listed). set items k now ≡ set listed k (with_found more m))
set-found more listed items k l now same within read is =
    let at : slice_get listed k ≡ Some l =
    slice_get_read listed (length listed) k l refl within
    (read ∙ ap (λ (ls : List Listed). get_or ls k l) same) in
    subst (λ (o : Option Listed). IfSome o
    (λ (m : Listed). set items k now ≡ set listed k (with_found more m))) (sym at)
    (λ i. set (same i) k (is i))

-- one more channel of the name with a number
pub added-channel : (name : List ℕ) (more : Found) (listed new : List Listed) (k : ℕ) →
    number_in listed name ≡ Some k →
    IfSome (slice_get listed k) (λ (m : Listed). new ≡ set listed k (with_found more m)) →
    new ≡ with_name name more listed
added-channel name more listed new k number added = by (slice_get listed k) refl added
  where
    by : (o : Option Listed) → slice_get listed k ≡ o →
        IfSome o (λ (m : Listed). new ≡ set listed k (with_found more m)) → new ≡ with_name name more listed
    by (Some l) at is = is ∙ sym (with_name-found name more listed k l number at)
    by None at is =
        let none : Listed = record { name = name; found = [] } in
        let within = (position-Some (bytes_eq name) (map name_in listed) k [] number).0 in
        let there : slice_get listed k ≡ Some (get_or listed k none) =
        slice_get-get_or listed k none (omega (arith, within, length-map listed name_in)) in
        cc

-- the names are kept so
pub names-kept : (name : List ℕ) (more : Found) (listed : List Listed) → AreNames (more.frame + 1) listed →
    length name ≤ 65534 → AreNames (more.frame + 1) (with_name name more listed)
names-kept name more listed names short = by (number_in listed name) refl
  where
    by : (o : Option ℕ) → number_in listed name ≡ o → AreNames (more.frame + 1) (with_name name more listed)
    by None free =
        subst (AreNames (more.frame + 1)) (sym (with_name-new name more listed free))
        (names-kept-push more listed name names short free)
    by (Some k) number =
        let none : Listed = record { name = name; found = [] } in
        let within = (position-Some (bytes_eq name) (map name_in listed) k [] number).0 in
        let at : slice_get listed k ≡ Some (get_or listed k none) =
        slice_get-get_or listed k none (omega (arith, within, length-map listed name_in)) in
        subst (AreNames (more.frame + 1))
        (sym (with_name-found name more listed k (get_or listed k none) number at))
        (names-kept-set more listed k (get_or listed k none) names at)

-- also after a refusal
pub names-kept-either : {T E : Type 0} (r : Result T E) (name : List ℕ) (more : Found)
    (listed new : List Listed) →
    AreNames (more.frame + 1) listed → length name ≤ 65534 → OnOk r (new ≡ with_name name more listed) →
    OnErr r (new ≡ listed) → AreNames (more.frame + 1) new
names-kept-either (Ok x) name more listed new names short ok err =
    subst (AreNames (more.frame + 1)) (sym ok) (names-kept name more listed names short)
names-kept-either (Err x) name more listed new names short ok err =
    subst (AreNames (more.frame + 1)) (sym err) names

-- ---- more frames

in-order-more : (frames more : ℕ) (found : List Found) → frames ≤ more → AreInOrder frames found →
    AreInOrder more found
in-order-more frames more [] grown ordered = tt
in-order-more frames more (f ∷ rest) grown ordered =
    (omega (arith, ordered.0), ordered.1, in-order-more frames more rest grown ordered.2)

pub names-more : (frames more : ℕ) (listed : List Listed) → frames ≤ more → AreNames frames listed →
    AreNames more listed
names-more frames more listed grown names = record {
  names = All-weaker (IsName frames) (IsName more)
      (λ l name. record {
        short = name.short;
        ordered = in-order-more frames more l.found grown name.ordered;
      })
      listed names.names;
  distinct = names.distinct;
}
