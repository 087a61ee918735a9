-- Text that goes to a sink by way of a page: steps one after another, and where they stop.
use Rattle.std.proofs.Common.{◌≡◌, ℕ, ◌≤◌, min, List, [], ◌++◌, length, take, drop, Option, Some, None}
use Rattle.std.proofs.Common.{Result, Ok, Err, OnOk, OnErr, IsErrAnd, is_ok, if◌then◌else◌, refl, sym, ap, subst, ◌∙◌}
use Rattle.std.proofs.Common.{append_assoc, append-nil, arith}
use Rattle.std.proofs.lemmas.List.{take_at, take_min, take-append-le, take-append-drop}
use Rattle.std.proofs.lemmas.Result.{err_from_is_err_and}
use Rattle.frame_outside.specs.Counts.{Rose}
use Rattle.frame_outside.specs.Sink.{Output, Appends, Grows}
use Rattle.frame_outside.specs.declared.traits.ShelfError.{ShelfError}
use Rattle.frame_outside.specs.declared.traits.ShelfError.TheVariants.{Failed, NoMemory}
use Rattle.dumper.specs.Page.{AppendsPrefix, Carries, CarriesOrStops}

-- ---- what a sink gets

-- nothing was appended
pub appends-nothing : (o : Output) → Appends o o []
appends-nothing o = record { faults = omega arith; written = by o.written }
  where
    by : (written : Option (List ℕ)) → Grows written written []
    by None = tt
    by (Some written) = sym (append-nil written)

grows-then : (a b c : Option (List ℕ)) (xs ys : List ℕ) → Grows a b xs → Grows b c ys → Grows a c (xs ++ ys)
grows-then None None None xs ys g h = tt
grows-then None None (Some c) xs ys g h = absurd h
grows-then None (Some b) c xs ys g h = absurd g
grows-then (Some a) None c xs ys g h = absurd g
grows-then (Some a) (Some b) None xs ys g h = absurd h
grows-then (Some a) (Some b) (Some c) xs ys g h = h ∙ ap (λ bytes. bytes ++ ys) g ∙ append_assoc a xs ys

-- bytes, and then others
pub appends-then : (a b c : Output) (xs ys : List ℕ) → Appends a b xs → Appends b c ys → Appends a c (xs ++ ys)
appends-then a b c xs ys g h = record {
  faults = omega (arith, g.faults, h.faults);
  written = grows-then a.written b.written c.written xs ys g.written h.written;
}

-- a prefix of a text is one of a longer text
pub prefix-longer : (a b : Output) (xs ys : List ℕ) → AppendsPrefix a b xs → AppendsPrefix a b (xs ++ ys)
prefix-longer a b xs ys g = record {
  count = min g.count (length xs);
  appends =
      subst (Appends a b) (sym (take-append-le (min g.count (length xs)) xs ys (omega arith) ∙ take_min g.count xs))
      g.appends;
}

-- a text, and then a prefix of another
pub prefix-then : (a b c : Output) (xs ys : List ℕ) → Appends a b xs → AppendsPrefix b c ys
    → AppendsPrefix a c (xs ++ ys)
prefix-then a b c xs ys g h =
    let front : List ℕ = take h.count ys in
    let whole : (xs ++ front) ++ drop h.count ys ≡ xs ++ ys =
    append_assoc xs front (drop h.count ys) ∙ ap (λ zs. xs ++ zs) (take-append-drop h.count ys) in
    let same : xs ++ front ≡ take (length (xs ++ front)) (xs ++ ys) =
    sym (ap (take (length (xs ++ front))) (sym whole)
    ∙ take_at (xs ++ front) (drop h.count ys) (length (xs ++ front)) refl) in
    record {
      count = length (xs ++ front);
      appends = subst (Appends a c) same (appends-then a b c xs front g h.appends);
    }

-- no byte of a text
pub prefix-none : (a b : Output) (xs : List ℕ) → Appends a b [] → AppendsPrefix a b xs
prefix-none a b xs g = record { count = 0; appends = g }

-- ---- steps

rose-later : (old mid new : ℕ) → old ≤ mid → Rose mid new → Rose old new
rose-later old mid new grown rose = omega arith

-- a step that went on, and then another
pub carried-then : (old mid new : Output) (p q r t u : List ℕ) → Carries old mid p q t → Carries mid new q r u
    → Carries old new p r (t ++ u)
carried-then old mid new p q r t u g h = record {
  put = g.put ++ h.put;
  appends = appends-then old mid new g.put h.put g.appends h.appends;
  split =
      append_assoc g.put h.put r ∙ ap (λ xs. g.put ++ xs) h.split ∙ sym (append_assoc g.put q u)
      ∙ ap (λ xs. xs ++ u) g.split ∙ append_assoc p t u;
}

stopped-then : (old mid new : Output) (p q t u : List ℕ) → Carries old mid p q t → AppendsPrefix mid new (q ++ u)
    → AppendsPrefix old new (p ++ (t ++ u))
stopped-then old mid new p q t u g h =
    subst (AppendsPrefix old new)
    (sym (append_assoc g.put q u) ∙ ap (λ xs. xs ++ u) g.split ∙ append_assoc p t u)
    (prefix-then old mid new g.put (q ++ u) g.appends h)

-- a step, and then another, whatever that one gives
pub prints-then : {Y : Type 0} (old mid new : Output) (p q r t u : List ℕ) (result : Result Y ShelfError)
    → Carries old mid p q t → CarriesOrStops mid new q r u result → CarriesOrStops old new p r (t ++ u) result
prints-then old mid new p q r t u (Ok x) g h = carried-then old mid new p q r t u g h
prints-then old mid new p q r t u (Err Failed) g h =
    (stopped-then old mid new p q t u g h.0, rose-later old.faults mid.faults new.faults g.appends.faults h.1)
prints-then old mid new p q r t u (Err NoMemory) g h = stopped-then old mid new p q t u g h

stopped-sooner : {Y : Type 0} (old new : Output) (p q r t u : List ℕ) (e : ShelfError) (result : Result Y ShelfError)
    → result ≡ Err e → CarriesOrStops old new p q t result → CarriesOrStops old new p r (t ++ u) result
stopped-sooner old new p q r t u e (Ok x) is h = cc
stopped-sooner old new p q r t u e (Err Failed) is h =
    (subst (AppendsPrefix old new) (append_assoc p t u) (prefix-longer old new (p ++ t) u h.0), h.1)
stopped-sooner old new p q r t u e (Err NoMemory) is h =
    subst (AppendsPrefix old new) (append_assoc p t u) (prefix-longer old new (p ++ t) u h)

same-stop : {X Y : Type 0} (old new : Output) (p q t : List ℕ) (e : ShelfError) (stop : Result X ShelfError)
    (result : Result Y ShelfError) → stop ≡ Err e → result ≡ Err e → CarriesOrStops old new p q t stop
    → CarriesOrStops old new p q t result
same-stop old new p q t e (Ok x) result is same h = cc
same-stop old new p q t e stop (Ok y) is same h = cc
same-stop old new p q t e (Err Failed) (Err Failed) is same h = h
same-stop old new p q t e (Err NoMemory) (Err NoMemory) is same h = h
same-stop old new p q t e (Err Failed) (Err NoMemory) is same h = cc
same-stop old new p q t e (Err NoMemory) (Err Failed) is same h = cc

-- a step that stopped, and what was still to be printed; `result` is that step's stop, handed on
pub prints-stopped : {X Y : Type 0} (old new : Output) (p q r t u : List ℕ) (e : ShelfError)
    (stop : Result X ShelfError) (result : Result Y ShelfError) → stop ≡ Err e → result ≡ Err e
    → CarriesOrStops old new p q t stop → CarriesOrStops old new p r (t ++ u) result
prints-stopped old new p q r t u e stop result is same h =
    stopped-sooner old new p q r t u e result same (same-stop old new p q t e stop result is same h)

-- the same text, of a step that went on
pub carries-is : (old new : Output) (p q t u : List ℕ) → t ≡ u → Carries old new p q t → Carries old new p q u
carries-is old new p q t u same h = subst (Carries old new p q) same h

-- a step that went on
pub carried : {X : Type 0} (old new : Output) (p q t : List ℕ) (x : X) (result : Result X ShelfError) → result ≡ Ok x
    → CarriesOrStops old new p q t result → Carries old new p q t
carried {X} old new p q t x result is h =
    let P : Result X ShelfError → Type 0 = λ answer. CarriesOrStops old new p q t answer in
    subst P is h

-- what `?` hands on
pub handed-on : {X : Type 0} (e : ShelfError) (result : Result X ShelfError) → IsErrAnd result (λ y. y ≡ e)
    → result ≡ Err e
handed-on e result h =
    let from = err_from_is_err_and result h in
    from.1 ∙ ap (λ y. Err y) from.2

-- the same text
pub prints-is : {X : Type 0} (old new : Output) (p q t u : List ℕ) (result : Result X ShelfError) → t ≡ u
    → CarriesOrStops old new p q t result → CarriesOrStops old new p q u result
prints-is old new p q t u result same h =
    let P : List ℕ → Type 0 = λ text. CarriesOrStops old new p q text result in
    subst P same h

-- ---- composed text

-- what was composed is pending
pub composed-prints : (o : Output) (p q t : List ℕ) → q ≡ p ++ t → Carries o o p q t
composed-prints o p q t is = record { put = []; appends = appends-nothing o; split = is }

-- what was not composed, for want of memory
pub refused-prints : {X : Type 0} (o : Output) (p r t : List ℕ) (result : Result X ShelfError) → result ≡ Err NoMemory
    → CarriesOrStops o o p r t result
refused-prints o p r t (Ok x) is = cc
refused-prints o p r t (Err Failed) is = cc
refused-prints o p r t (Err NoMemory) is = prefix-none o o (p ++ t) (appends-nothing o)

-- what std says of a text that was pushed, or not
pub pushed : {X Y : Type 0} (p q t : List ℕ) (r : Result X Y) → q ≡ (if is_ok r then p ++ t else p)
    → OnOk r (q ≡ p ++ t)
pushed p q t (Ok x) is = is
pushed p q t (Err e) is = tt

-- text that was composed, or not, and then settled
pub settled : {X Y : Type 0} (old new : Output) (p q r t : List ℕ) (composed : Result X Y)
    (result : Result (Unit {0}) ShelfError) → OnOk composed (q ≡ p ++ t)
    → OnOk composed (CarriesOrStops old new q r [] result)
    → OnErr composed ((result ≡ Err NoMemory) × (new ≡ old)) → CarriesOrStops old new p r t result
settled old new p q r t (Ok x) result is prints stops =
    prints-is old new p r (t ++ []) t result (append-nil t)
    (prints-then old old new p q r t [] result (composed-prints old p q t is) prints)
settled old new p q r t (Err e) result is prints stops =
    let P : Output → Type 0 = λ o. CarriesOrStops old o p r t result in
    subst P (sym stops.1) (refused-prints old p r t result stops.0)
