-- The index of names: the number of each name, found by its bytes.
use Rattle.std.proofs.Common.{◌≡◌, ℕ, Bool, true, false, cond, List, [], ◌∷◌, ◌++◌, length, map, position}
use Rattle.std.proofs.Common.{get_or, set, ◌⊎◌, inl, inr, Option, Some, None, refl, sym, ap, ◌∙◌, subst}
use Rattle.std.specs.Option.{option_or}
use Rattle.std.specs.Ordering.{nat_cmp, is_eq}
use Rattle.std.specs.Str.{bytes_eq}
use Rattle.std.specs.Cmp.{eq_by_cmp_equiv}
use Rattle.std.specs.Cmp.Lexicographic.{slice_cmp, bytes_decides, nat_list_cmp_total, nat_list_eq_equiv}
use Rattle.std.specs.Map.{lookup, IsKeyTest, AreApart, KeepsOthers}
use Rattle.std.specs.BTreeMap.{BTreeMap, UpdatesBy, get_by}
use Rattle.std.specs.declared.vec.Vec.{Vec}
use Rattle.std.proofs.lemmas.Bool.{cases_Bool, cond-true, cond-false}
use Rattle.std.proofs.lemmas.List.{length-map, map-append}
use Rattle.std.proofs.lemmas.Map.Text.{is_eq-slice_cmp}
use Rattle.link_graph.proofs.Positions.{position-push}
use Rattle.contents_table.specs.declared.names.Listed.{Listed}
use Rattle.contents_table.specs.Built.{name_in, are_distinct}
use Rattle.contents_table.specs.Kept.{number_in, AreNumbered}
use Rattle.contents_table.proofs.Adding.{names-set}
use Rattle.contents_table.proofs.Distinct.{distinct-new}

-- ---- keys of bytes

apart : (bs cs ks : List ℕ) → bytes_eq bs cs ≡ false → bytes_eq bs ks ≡ true → bytes_eq cs ks ≡ false
apart bs cs ks n y = nat_list_eq_equiv.symm cs ks ∙ sym (nat_list_eq_equiv.congr bs ks cs y) ∙ n

apart_in_order : (bs cs ks : List ℕ) → bytes_eq bs cs ≡ false → is_eq (slice_cmp nat_cmp bs ks) ≡ true →
    is_eq (slice_cmp nat_cmp cs ks) ≡ false
apart_in_order bs cs ks n y = is_eq-slice_cmp cs ks ∙ apart bs cs ks n (sym (is_eq-slice_cmp bs ks) ∙ y)

other_entries : {K X : Type 0} (eq : K → K → Bool) (test : K → Bool) (old new : List (K × X)) →
    KeepsOthers eq test old new → (other : K → Bool) → IsKeyTest eq other → AreApart test other →
    lookup other new ≡ lookup other old
unfolding KeepsOthers
other_entries eq test old new h = h

-- what a change at the bytes bs leaves at any bytes
pub bytes_updates : {A X : Type 0} (bs : List ℕ) (old new : BTreeMap (Vec ℕ A) X) (w : Option X) →
    UpdatesBy (λ x y. slice_cmp nat_cmp x.items y.items) (λ k. slice_cmp nat_cmp bs k.items) old new w →
    (cs : List ℕ) → get_by (λ k. slice_cmp nat_cmp cs k.items) new
    ≡ cond (bytes_eq bs cs) w (get_by (λ k. slice_cmp nat_cmp cs k.items) old)
bytes_updates {A} {X} bs old new w updates cs = by (cases_Bool (bytes_eq bs cs))
  where
    found : List ℕ → BTreeMap (Vec ℕ A) X → Option X
    found ds m = get_by (λ (k : Vec ℕ A). slice_cmp nat_cmp ds k.items) m

    by : (bytes_eq bs cs ≡ true) ⊎ (bytes_eq bs cs ≡ false) → found cs new
        ≡ cond (bytes_eq bs cs) w (found cs old)
    by (inl y) = subst (λ ds. found ds new ≡ w) ((bytes_decides bs cs).0 y) updates.1
        ∙ sym (cond-true (bytes_eq bs cs) w (found cs old) y)
    by (inr n) =
        other_entries _ _ _ _ updates.3 _
        (λ x y. (eq_by_cmp_equiv nat_list_cmp_total).congr cs x.items y.items)
        (λ k. apart_in_order bs cs k.items n)
        ∙ sym (cond-false (bytes_eq bs cs) w (found cs old) n)

-- ---- the index of a list

-- the index of a list of the same names
pub numbered-set : {A : Type 0} (listed : List Listed) (k : ℕ) (l d : Listed)
    (numbers : BTreeMap (Vec ℕ A) ℕ) →
    AreNumbered listed numbers → (get_or listed k d).name ≡ l.name → AreNumbered (set listed k l) numbers
numbered-set listed k l d numbers kept is =
    let same : map name_in (set listed k l) ≡ map name_in listed = names-set listed k l d is in
    record {
      distinct = ap are_distinct same ∙ kept.distinct;
      found = λ name. kept.found name ∙ ap (position (bytes_eq name)) (sym same);
    }

choose : (e : Bool) (found : Option ℕ) (n : ℕ) → (e ≡ true → found ≡ None) →
    cond e (Some n) found ≡ option_or found (cond e (Some n) None)
choose true found n free = sym (ap (λ found. option_or found (Some n)) (free refl))
choose false None n free = refl
choose false (Some m) n free = refl

-- one name more in the index
pub numbered-push : {A : Type 0} (listed : List Listed) (l : Listed) (numbers more : BTreeMap (Vec ℕ A) ℕ)
    (key : Vec ℕ A) (n : ℕ) → AreNumbered listed numbers → number_in listed l.name ≡ None →
    key.items ≡ l.name → n ≡ length listed →
    UpdatesBy (λ x y. slice_cmp nat_cmp x.items y.items) (λ k. slice_cmp nat_cmp key.items k.items) numbers
    more (Some n) →
    AreNumbered (listed ++ l ∷ []) more
numbered-push listed l numbers more key n kept free is number updates =
    let names : map name_in (listed ++ l ∷ []) ≡ map name_in listed ++ l.name ∷ [] =
    map-append name_in listed (l ∷ []) in
    let size : length listed ≡ length (map name_in listed) = sym (length-map listed name_in) in
    record {
      distinct = ap are_distinct names ∙ distinct-new (map name_in listed) l.name kept.distinct free;
      found = λ name.
          bytes_updates key.items numbers more (Some n) updates name
          ∙ (λ i. cond (bytes_eq (is i) name) (Some ((number ∙ size) i)) (kept.found name i))
          ∙ choose (bytes_eq l.name name) (number_in listed name) (length (map name_in listed))
          (λ e. ap (number_in listed) (sym ((bytes_decides l.name name).0 e)) ∙ free)
          ∙ ap (λ b. option_or (number_in listed name) (cond b (Some (length (map name_in listed))) None))
          (nat_list_eq_equiv.symm l.name name)
          ∙ sym (position-push (bytes_eq name) (map name_in listed) l.name)
          ∙ ap (position (bytes_eq name)) (sym names);
    }
