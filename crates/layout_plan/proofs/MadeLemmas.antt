-- What is made of items in turn, one part after another.
use Rattle.std.proofs.Common.{◌≡◌, List, [], ◌∷◌, ◌++◌, Result, Ok, Err, OnOk, refl, sym, subst}
use Rattle.std.specs.List.{AllZip, each_same}
use Rattle.layout_plan.specs.Appends.{Appends}
use Rattle.layout_plan.specs.Made.{IsMadeOf}

zip-append : {X Y : Type 0} (gives : X → Y → Type 0) (xs others : List X) (ys more : List Y) → AllZip gives xs ys
    → AllZip gives others more → AllZip gives (xs ++ others) (ys ++ more)
zip-append gives [] others [] more first second = second
zip-append gives [] others (y ∷ ys) more first second = absurd first
zip-append gives (x ∷ xs) others [] more first second = absurd first
zip-append gives (x ∷ xs) others (y ∷ ys) more first second =
    (first.0, zip-append gives xs others ys more first.1 second)

-- of no item nothing
pub made-none : {X Y : Type 0} (gives : X → Y → Type 0) (R : List X → Type 0) → R [] → IsMadeOf gives R []
made-none gives R r = record { items = []; related = r; each = tt }

-- of one item
pub made-one : {X Y : Type 0} (gives : X → Y → Type 0) (x : X) (y : Y) → gives x y
    → IsMadeOf gives (λ xs. xs ≡ x ∷ []) (y ∷ [])
made-one gives x y given = record { items = x ∷ []; related = refl; each = (given, tt) }

-- of one part, and of another after it
pub made-more : {X Y : Type 0} (gives : X → Y → Type 0) (R S T : List X → Type 0)
    → ((xs others : List X) → R xs → S others → T (xs ++ others)) → (ys more : List Y) → IsMadeOf gives R ys
    → IsMadeOf gives S more → IsMadeOf gives T (ys ++ more)
made-more gives R S T both ys more first second = record {
  items = first.items ++ second.items;
  related = both first.items second.items first.related second.related;
  each = zip-append gives first.items second.items ys more first.each second.each;
}

-- of the same items, of which something else is known
pub made-as : {X Y : Type 0} (gives : X → Y → Type 0) (R S : List X → Type 0) → ((xs : List X) → R xs → S xs)
    → (ys : List Y) → IsMadeOf gives R ys → IsMadeOf gives S ys
made-as gives R S more ys made = record {
  items = made.items;
  related = more made.items made.related;
  each = made.each;
}

-- of each item the item itself
pub made-same : {X A E : Type 0} (R : List X → Type 0) (r : Result A E) (old new : List X)
    → Appends (λ ys. OnOk r (IsMadeOf (λ x y. y ≡ x) R ys)) old new → Appends (λ ys. OnOk r (R ys)) old new
made-same R (Ok x) old new put = record {
  items = put.items;
  whole = put.whole;
  related = subst R (sym (each_same put.related.items put.items put.related.each)) put.related.related;
}
made-same R (Err e) old new put = record { items = put.items; whole = put.whole; related = tt }
