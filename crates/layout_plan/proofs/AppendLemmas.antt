-- Items that are put at the end, one part after another.
use Rattle.std.proofs.Common.{◌≡◌, List, ◌++◌, [], Result, Ok, Err, IsErr, is_ok, OnOk, IfOk, sym, ap, ◌∙◌}
use Rattle.std.proofs.Common.{append_assoc, append-nil}
use Rattle.std.specs.Prelude.{if◌then◌else◌}
use Rattle.layout_plan.specs.Appends.{Appends}

-- nothing is put there yet
pub Appends-none : {X : Type 0} (R : List X → Type 0) (old : List X) → R [] → Appends R old old
Appends-none R old r = record { items = []; whole = sym (append-nil old); related = r }

-- one part, and another after it
pub Appends-more : {X : Type 0} (R S T : List X → Type 0) (old mid new : List X) → Appends R old mid → Appends S mid new
    → ((xs ys : List X) → R xs → S ys → T (xs ++ ys)) → Appends T old new
Appends-more R S T old mid new first second both = record {
  items = first.items ++ second.items;
  whole = second.whole ∙ ap (λ front. front ++ second.items) first.whole ∙ append_assoc old first.items second.items;
  related = both first.items second.items first.related second.related;
}

-- the same parts, of which something else is known
pub Appends-as : {X : Type 0} (R S : List X → Type 0) (old new : List X) → Appends R old new
    → ((xs : List X) → R xs → S xs) → Appends S old new
Appends-as R S old new part more =
    record { items = part.items; whole = part.whole; related = more part.items part.related }

-- one part and another, and then the end is refused
pub Appends-refused : {X A E : Type 0} (Q S P : List X → Type 0) (r : Result A E) (old mid new : List X) → IsErr r
    → Appends Q old mid → Appends S mid new → Appends (λ xs. OnOk r (P xs)) old new
Appends-refused Q S P (Ok x) old mid new refused first second = cc
Appends-refused Q S P (Err e) old mid new refused first second =
    Appends-more Q S (λ xs. Unit {0}) old mid new first second (λ xs ys q s. tt)

-- a part, and then the end is refused
pub Appends-failed : {X A E : Type 0} (S : List X → Type 0) (P : List X → A
    → Type 0) (r : Result A E) (old new : List X) → IsErr r → Appends S old new → Appends (λ xs. IfOk r (P xs)) old new
Appends-failed S P (Ok x) old new refused part = cc
Appends-failed S P (Err e) old new refused part = Appends-as S (λ xs. Unit {0}) old new part (λ xs s. tt)

-- one part and another, and then the end is refused
pub Appends-broken : {X A E : Type 0} (Q S : List X → Type 0) (P : List X → A
    → Type 0) (r : Result A E) (old mid new : List X) → IsErr r → Appends Q old mid → Appends S mid new
    → Appends (λ xs. IfOk r (P xs)) old new
Appends-broken Q S P r old mid new refused first second =
    Appends-failed (λ xs. Unit {0}) P r old new refused
    (Appends-more Q S (λ xs. Unit {0}) old mid new first second (λ xs ys q s. tt))

-- these items, or none where they are refused
pub Appends-items : {X A E : Type 0} (P : List X → Type 0) (r : Result A E) (xs old new : List X)
    → new ≡ (if is_ok r then old ++ xs else old) → P xs → Appends (λ ys. OnOk r (P ys)) old new
Appends-items P (Ok x) xs old new put p = record { items = xs; whole = put; related = p }
Appends-items P (Err e) xs old new put p = record { items = []; whole = put ∙ sym (append-nil old); related = tt }
