-- The tree of links with one more, which hangs where the walk to it ended.
use Rattle.std.proofs.Common.{◌≡◌, ℕ, zero, suc, ◌+◌, ◌*◌, ◌/◌, ◌%◌}
use Rattle.std.proofs.Common.{◌<◌, ◌≤◌, ◌&&◌, ◌⊎◌, inl, inr, Bool, true, false}
use Rattle.std.proofs.Common.{cond, List, [], ◌∷◌, ◌++◌, length, set}
use Rattle.std.proofs.Common.{replicate, Option, Some, None, refl, sym, ap}
use Rattle.std.proofs.Common.{◌∙◌, subst, arith, get_or-set_other, get_or-set_same, length-append}
use Rattle.std.specs.Prelude.{◌==◌}
use Rattle.std.specs.Option.{option_or}
use Rattle.std.proofs.lemmas.Bool.{and_right, cases_eq, eqb-true, eqb-false, eq-eqb, ne_eqb}
use Rattle.std.proofs.lemmas.List.{length_push, length-set, nil_from_length}
use Rattle.type_text.specs.declared.types.Link.{Link}
use Rattle.link_graph.specs.declared.index.Spot.{Spot}
use Rattle.link_graph.specs.declared.index.Spot.TheVariants.{Taken, Free}
use Rattle.link_graph.specs.Index.{is_link, place_in, digits_of, is_at, child_at}
use Rattle.link_graph.specs.Index.{walk, spot_of, number_at_spot, IsForward, AreReached}
use Rattle.link_graph.proofs.Walks.{same-link, at-old, at-new, place-push, distinct-push, replicate-blank}
use Rattle.link_graph.proofs.Walks.{append-blank, past-blank, walk-taken, walk-on, child-forward, length-suc}

-- the places with 16 more, where a number hangs at one of the first
abbrev pub grown : List ℕ → ℕ → ℕ → List ℕ
grown children place count = set (children ++ replicate 16 0) place count

-- the number where a walk ends in the tree with one link more, of this number at this place
abbrev after : ℕ → ℕ → Link → Link → Spot → Option ℕ
after count place to link (Taken number) = Some number
after count place to link (Free other) = cond (other == place && is_link link to) (Some count) None

after-free : (count place : ℕ) (to link : Link) (other : ℕ) → other ≡ place →
    after count place to link (Free other) ≡ cond (is_link link to) (Some count) None
after-free count place to link other e =
    ap (λ b. cond (b && is_link link to) (Some count) None) (eq-eqb other place e)

after-apart : (count place : ℕ) (to link : Link) (other : ℕ) → (other ≡ place → ⊥) →
    after count place to link (Free other) ≡ None
after-apart count place to link other ne =
    ap (λ b. cond (b && is_link link to) (Some count) None) (ne_eqb other place ne)

module _ (links : List Link) (children : List ℕ) (to : Link) (place : ℕ)
    (size : length children ≡ length links * 16) (forward : IsForward (length links) children)
    (free : child_at children place ≡ 0) (within : place < length children) where
  child-same : child_at (grown children place (length links)) place ≡ length links
  child-same = get_or-set_same (children ++ replicate 16 0) place (length links) 0
      (omega (arith, within, length-append children (replicate 16 0)))

  child-other : (other : ℕ) → (other ≡ place → ⊥) →
      child_at (grown children place (length links)) other ≡ child_at children other
  child-other other ne =
      get_or-set_other (children ++ replicate 16 0) place other (length links) 0 ne
      ∙ append-blank children 16 other 0

  -- the walk that comes to the new link
  walk-new : (link : Link) (steps digits : ℕ) →
      number_at_spot (walk (links ++ to ∷ []) (grown children place (length links)) link (suc steps)
      (length links) digits) ≡ cond (is_link link to) (Some (length links)) None
  walk-new link steps digits = by (is_link link to) (at-new links to link)
    where
      blank : child_at (grown children place (length links))
          (length links * 16 + digits % 16) ≡ 0
      blank = child-other (length links * 16 + digits % 16) (λ e. omega (arith, e, within, size))
          ∙ past-blank children (length links * 16 + digits % 16) (omega (arith, size))

      by : (b : Bool) → is_at (links ++ to ∷ []) (length links) link ≡ b →
          number_at_spot (walk (links ++ to ∷ []) (grown children place (length links)) link (suc steps)
          (length links) digits) ≡ cond b (Some (length links)) None
      by true is = ap number_at_spot (walk-taken (links ++ to ∷ [])
          (grown children place (length links)) link steps (length links) digits is)
      by false is = ap number_at_spot (walk-on (links ++ to ∷ [])
          (grown children place (length links)) link steps (length links) digits is
          ∙ ap (λ b. cond b (Free (length links * 16 + digits % 16))
          (walk (links ++ to ∷ []) (grown children place (length links)) link steps
          (child_at (grown children place (length links)) (length links * 16 + digits % 16))
          (digits / 16))) (eq-eqb _ 0 blank))

  pub grown-walk : (link : Link) (steps number digits : ℕ) → number < length links →
      length links ≤ number + steps →
      number_at_spot (walk (links ++ to ∷ []) (grown children place (length links)) link (suc steps)
      number digits) ≡ after (length links) place to link (walk links children link steps number digits)
  grown-walk link zero number digits lt enough = absurd (omega (arith, lt, enough))
  grown-walk link (suc steps) number digits lt enough =
      at (is_at links number link) refl (λ child below far. grown-walk link steps child (digits / 16)
      below far)
    where
      down : (child : ℕ) → child_at children (number * 16 + digits % 16) ≡ child → (b : Bool) →
          (child == 0) ≡ b →
          (number * 16 + digits % 16 ≡ place → ⊥) →
          ((child : ℕ) → child < length links → length links ≤ child + steps →
          number_at_spot (walk (links ++ to ∷ []) (grown children place (length links)) link (suc steps)
          child (digits / 16)) ≡
          after (length links) place to link (walk links children link steps child (digits / 16))) →
          number_at_spot (cond (child == 0) (Free (number * 16 + digits % 16)) (walk (links ++ to ∷ [])
          (grown children place (length links)) link (suc steps) child (digits / 16))) ≡
          after (length links) place to link (cond (child == 0) (Free (number * 16 + digits % 16))
          (walk links children link steps child (digits / 16)))
      down child is true none apart more =
          ap (λ b. number_at_spot (cond b (Free (number * 16 + digits % 16)) (walk (links ++ to ∷ [])
          (grown children place (length links)) link (suc steps) child (digits / 16)))) none
          ∙ sym (ap (λ b. after (length links) place to link (cond b (Free (number * 16 + digits % 16))
          (walk links children link steps child (digits / 16)))) none
          ∙ after-apart (length links) place to link (number * 16 + digits % 16) apart)
      down child is false some apart more =
          let next = child-forward children (length links) number digits forward
          (λ e. eqb-false child 0 some (sym is ∙ e)) in
          let later : number < child = subst (λ (n : ℕ). number < n) is next.0 in
          let below : child < length links = subst (λ (n : ℕ). n < length links) is next.1 in
          ap (λ b. number_at_spot (cond b (Free (number * 16 + digits % 16)) (walk (links ++ to ∷ [])
          (grown children place (length links)) link (suc steps) child (digits / 16)))) some
          ∙ more child below (omega (arith, later, enough))
          ∙ sym (ap (λ b. after (length links) place to link (cond b (Free (number * 16 + digits % 16))
          (walk links children link steps child (digits / 16)))) some)

      on : (number * 16 + digits % 16 ≡ place) ⊎ (number * 16 + digits % 16 ≡ place → ⊥) →
          ((child : ℕ) → child < length links → length links ≤ child + steps →
          number_at_spot (walk (links ++ to ∷ []) (grown children place (length links)) link (suc steps)
          child (digits / 16)) ≡
          after (length links) place to link (walk links children link steps child (digits / 16))) →
          number_at_spot (cond (child_at (grown children place (length links))
          (number * 16 + digits % 16) == 0) (Free (number * 16 + digits % 16)) (walk (links ++ to ∷ [])
          (grown children place (length links)) link (suc steps)
          (child_at (grown children place (length links)) (number * 16 + digits % 16))
          (digits / 16))) ≡
          after (length links) place to link (cond (child_at children (number * 16 + digits % 16) == 0)
          (Free (number * 16 + digits % 16))
          (walk links children link steps (child_at children (number * 16 + digits % 16)) (digits / 16)))
      on (inl e) more =
          let child : child_at (grown children place (length links))
          (number * 16 + digits % 16) ≡ length links =
          ap (child_at (grown children place (length links))) e ∙ child-same in
          let none : child_at children (number * 16 + digits % 16) ≡ 0 = ap (child_at children) e ∙ free in
          ap (λ (c : ℕ). number_at_spot (cond (c == 0) (Free (number * 16 + digits % 16)) (walk (links ++ to ∷ [])
          (grown children place (length links)) link (suc steps) c (digits / 16)))) child
          ∙ ap (λ b. number_at_spot (cond b (Free (number * 16 + digits % 16)) (walk (links ++ to ∷ [])
          (grown children place (length links)) link (suc steps) (length links)
          (digits / 16)))) (ne_eqb (length links) 0 (λ z. omega (arith, z, lt)))
          ∙ walk-new link steps (digits / 16)
          ∙ sym (ap (λ b. after (length links) place to link (cond b (Free (number * 16 + digits % 16))
          (walk links children link steps (child_at children (number * 16 + digits % 16)) (digits / 16))))
          (eq-eqb (child_at children (number * 16 + digits % 16)) 0 none)
          ∙ after-free (length links) place to link (number * 16 + digits % 16) e)
      on (inr apart) more =
          ap (λ (c : ℕ). number_at_spot (cond (c == 0) (Free (number * 16 + digits % 16)) (walk (links ++ to ∷ [])
          (grown children place (length links)) link (suc steps) c (digits / 16))))
          (child-other (number * 16 + digits % 16) apart)
          ∙ down (child_at children (number * 16 + digits % 16)) refl
          (child_at children (number * 16 + digits % 16) == 0) refl apart more

      at : (b : Bool) → is_at links number link ≡ b →
          ((child : ℕ) → child < length links → length links ≤ child + steps →
          number_at_spot (walk (links ++ to ∷ []) (grown children place (length links)) link (suc steps)
          child (digits / 16)) ≡
          after (length links) place to link (walk links children link steps child (digits / 16))) →
          number_at_spot (walk (links ++ to ∷ []) (grown children place (length links)) link
          (suc (suc steps)) number digits) ≡ after (length links) place to link
          (walk links children link (suc steps) number digits)
      at true is more = ap number_at_spot (walk-taken (links ++ to ∷ [])
          (grown children place (length links)) link (suc steps) number digits
          (at-old links to link number lt ∙ is))
          ∙ sym (ap (after (length links) place to link) (walk-taken links children link steps number
          digits is))
      at false is more = ap number_at_spot (walk-on (links ++ to ∷ [])
          (grown children place (length links)) link (suc steps) number digits
          (at-old links to link number lt ∙ is))
          ∙ on (cases_eq (number * 16 + digits % 16) place) more
          ∙ sym (ap (after (length links) place to link) (walk-on links children link steps number digits is))

-- ---- the place where a walk ends

pub free-spot : (links : List Link) (children : List ℕ) (to : Link) (place : ℕ)
    (steps number digits : ℕ) → length children ≡ length links * 16 → IsForward (length links) children →
    number < length links → length links ≤ number + steps →
    walk links children to steps number digits ≡ Free place →
    (child_at children place ≡ 0) × (place < length children)
free-spot links children to place zero number digits size forward lt enough e =
    absurd (omega (arith, lt, enough))
free-spot links children to place (suc steps) number digits size forward lt enough e =
    at (is_at links number to) refl
    (λ child below far same. free-spot links children to place steps child (digits / 16) size forward
    below far same)
  where
    down : (b : Bool) → (child_at children (number * 16 + digits % 16) == 0) ≡ b →
        cond b (Free (number * 16 + digits % 16))
        (walk links children to steps (child_at children (number * 16 + digits % 16)) (digits / 16)) ≡
        Free place →
        ((child : ℕ) → child < length links → length links ≤ child + steps →
        walk links children to steps child (digits / 16) ≡ Free place →
        (child_at children place ≡ 0) × (place < length children)) →
        (child_at children place ≡ 0) × (place < length children)
    down true none same more =
        let e : number * 16 + digits % 16 ≡ place = cc in (
          ap (child_at children) (sym e) ∙ eqb-true (child_at children (number * 16 + digits % 16)) 0 none,
          omega (arith, e, lt, size),
        )
    down false some same more =
        let next = child-forward children (length links) number digits forward
        (eqb-false (child_at children (number * 16 + digits % 16)) 0 some) in
        more (child_at children (number * 16 + digits % 16)) next.1 (omega (arith, next.0, enough)) same

    at : (b : Bool) → is_at links number to ≡ b →
        ((child : ℕ) → child < length links → length links ≤ child + steps →
        walk links children to steps child (digits / 16) ≡ Free place →
        (child_at children place ≡ 0) × (place < length children)) →
        (child_at children place ≡ 0) × (place < length children)
    at true is more = let number_at_spot = sym (walk-taken links children to steps number digits is) ∙ e in absurd cc
    at false is more = down (child_at children (number * 16 + digits % 16) == 0) refl
        (sym (walk-on links children to steps number digits is) ∙ e) more

-- ---- the whole tree

settle : (count place : ℕ) (to link : Link) (spot : Spot) (b : Bool) → is_link link to ≡ b →
    (b ≡ true → spot ≡ Free place) →
    after count place to link spot ≡ option_or (number_at_spot spot) (cond b (Some count) None)
settle count place to link spot true is ended =
    ap (after count place to link) (ended refl) ∙ after-free count place to link place refl
    ∙ ap (λ b. cond b (Some count) None) is
    ∙ sym (ap (λ (s : Spot). option_or (number_at_spot s) (Some count)) (ended refl))
settle count place to link (Taken number) false is ended = refl
settle count place to link (Free other) false is ended =
    ap (λ b. cond b (Some count) None) (and_right (other == place) (is_link link to) is)

-- one link more, which is not among them
pub reached-push : (links : List Link) (children : List ℕ) (to : Link) (place : ℕ) →
    AreReached links children → 0 < length links → length links < 4294967295 →
    spot_of links children to ≡ Free place →
    AreReached (links ++ to ∷ []) (grown children place (length links))
reached-push links children to place reached some few spot =
    let found = free-spot links children to place (length links) 0 (digits_of to) reached.size reached.forward
    some (omega arith) spot in
    let free : place_in links to ≡ None = sym (reached.reached to) ∙ ap number_at_spot spot in
    record {
      few = omega (arith, length_push links to, few);
      size = length-set (children ++ replicate 16 0) place (length links)
          ∙ length-append children (replicate 16 0)
          ∙ omega (arith, reached.size, length_push links to);
      forward = λ other. forward found.1 other (cases_eq other place);
      distinct = distinct-push links to reached.distinct free;
      reached = λ link.
          ap (λ (k : ℕ). number_at_spot (walk (links ++ to ∷ [])
          (grown children place (length links)) link k 0 (digits_of link))) (length-suc links to)
          ∙ grown-walk links children to place reached.size reached.forward found.0 found.1 link (length
          links) 0
          (digits_of link) some (omega arith)
          ∙ settle (length links) place to link (spot_of links children link) (is_link link to) refl
          (λ is. ap (spot_of links children) (same-link link to is) ∙ spot)
          ∙ ap (λ (o : Option ℕ). option_or o (cond (is_link link to) (Some (length links)) None))
          (reached.reached link)
          ∙ sym (place-push links to link);
    }
  where
    forward : place < length children → (other : ℕ) → (other ≡ place) ⊎ (other ≡ place → ⊥) →
        (child_at (grown children place (length links)) other ≡ 0)
        ⊎ ((other < child_at (grown children place (length links)) other * 16)
        × (child_at (grown children place (length links)) other < length (links ++ to ∷ [])))
    forward within other (inl e) =
        let child : child_at (grown children place (length links)) other ≡ length links =
        ap (child_at (grown children place (length links))) e
        ∙ get_or-set_same (children ++ replicate 16 0) place (length links) 0
        (omega (arith, within, length-append children (replicate 16 0))) in
        inr (omega (arith, child, e, within, reached.size), omega (arith, child, length_push links to))
    forward within other (inr apart) =
        let same : child_at (grown children place (length links)) other ≡ child_at children other =
        get_or-set_other (children ++ replicate 16 0) place other (length links) 0 apart
        ∙ append-blank children 16 other 0 in
        elim (reached.forward other) [
          | inl none ↦ inl (same ∙ none)
          | inr next ↦ inr (omega (arith, same, next.0), omega (arith, same, next.1, length_push links to))
        ]

-- the first link
pub first-reached : (links : List Link) (children : List ℕ) (to : Link) → AreReached links children →
    length links ≡ 0 → AreReached (links ++ to ∷ []) (children ++ replicate 16 0)
first-reached links children to reached none =
    let no_links : links ≡ [] = nil_from_length links none in
    let no_children : children ≡ [] = nil_from_length children (omega (arith, reached.size, none)) in
    subst (λ (ls : List Link). AreReached (ls ++ to ∷ []) (children ++ replicate 16 0)) (sym no_links)
    (subst (λ (cs : List ℕ). AreReached (to ∷ []) (cs ++ replicate 16 0)) (sym no_children) (record {
      few = omega arith;
      size = refl;
      forward = λ place. inl (replicate-blank 16 place 0);
      distinct = distinct-push [] to (λ k link e. absurd cc) refl;
      reached = λ link. by link (is_link link to) refl ∙ sym (place-push [] to link);
    }))
  where
    by : (link : Link) (b : Bool) → is_link link to ≡ b →
        number_at_spot (walk (to ∷ []) (replicate 16 0) link 1 0 (digits_of link)) ≡ cond b (Some 0) None
    by link true is = ap number_at_spot (walk-taken (to ∷ []) (replicate 16 0) link 0 0 (digits_of link) is)
    by link false is = ap number_at_spot (walk-on (to ∷ []) (replicate 16 0) link 0 0 (digits_of link) is
        ∙ ap (λ b. cond b (Free (0 * 16 + digits_of link % 16)) (Free 0))
        (eq-eqb _ 0 (replicate-blank 16 (0 * 16 + digits_of link % 16) 0)))
