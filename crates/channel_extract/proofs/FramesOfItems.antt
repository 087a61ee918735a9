-- The frames of items, with their places, are those that a file's content has.
use Rattle.std.proofs.Common.{◌≡◌, ℕ, ◌+◌, List, [], ◌∷◌, ◌++◌, length, map, refl, sym, ap, ◌∙◌, arith}
use Rattle.std.proofs.lemmas.List.{length-append}
use Rattle.scalar_types.specs.declared.Order.{Order}
use Rattle.file_grammar.specs.declared.kind.Kind.{Kind}
use Rattle.file_grammar.specs.declared.kind.Kind.TheVariants.{FrSH, FrSE, FrameH, FrEndOfFrame, FrTOC, FrEndOfFile}
use Rattle.file_grammar.specs.declared.kind.Kind.TheVariants.{Other}
use Rattle.file_grammar.specs.Structure.{Structure}
use Rattle.file_grammar.specs.Kind.{kind_of}
use Rattle.file_grammar.specs.Record.{weight_of}
use Rattle.file_grammar.specs.Item.{Item, EntryItem, OtherItem, Before, nothing_yet, after_kind, after}
use Rattle.file_grammar.specs.MayStand.{Stand}
use Rattle.file_content.specs.Stored.{structures_brought, brought_in, frame_of_kind, frame_ended, frames_in}
use Rattle.file_content.specs.Contents.{content_frame}
use Rattle.channel_extract.specs.Placed.{PlacedFrame, stored, frame, placed_of_kind, placed_ended, placed_in}
use Rattle.channel_extract.proofs.BuiltPlaces.{AreOfOrder}

map-joined : {A B : Type 0} (g : A → B) (xs ys : List A) → map g (xs ++ ys) ≡ map g xs ++ map g ys
map-joined g [] ys = refl
map-joined g (x ∷ xs) ys = ap (λ (rest : List _). g x ∷ rest) (map-joined g xs ys)

stored-kind : (k : Kind) (order : Order) (b : Before) (s : Structure)
    → map stored (placed_of_kind order k b s) ≡ frame_of_kind k b s
stored-kind FrEndOfFrame order b s = refl
stored-kind FrameH order b s = refl
stored-kind Other order b s = refl
stored-kind FrTOC order b s = refl
stored-kind FrEndOfFile order b s = refl
stored-kind FrSH order b s = refl
stored-kind FrSE order b s = refl

stored-item : (order : Order) (b : Before) (item : Item)
    → map stored (structures_brought (placed_ended order) b item) ≡ structures_brought frame_ended b item
stored-item order b (EntryItem head run entry) = refl
stored-item order b (OtherItem s) = stored-kind (kind_of b.dictionary s.class) order b s

stored-items : (order : Order) (b : Before) (items : List Item)
    → map stored (brought_in (placed_ended order) order b items) ≡ brought_in frame_ended order b items
stored-items order b [] = refl
stored-items order b (item ∷ items) =
    map-joined stored (structures_brought (placed_ended order) b item)
    (brought_in (placed_ended order) order (after order b item) items)
    ∙ (λ i. stored-item order b item i ++ stored-items order (after order b item) items i)

pub stored-are : (order : Order) (items : List Item) → map stored (placed_in order items) ≡ frames_in order items
stored-are order items = stored-items order nothing_yet items

-- ---- their byte order

order-joined : (order : Order) (ps qs : List PlacedFrame) → AreOfOrder order ps → AreOfOrder order qs
    → AreOfOrder order (ps ++ qs)
order-joined order [] qs left right = right
order-joined order (p ∷ ps) qs left right = (left.0, order-joined order ps qs left.1 right)

order-kind : (k : Kind) (order : Order) (b : Before) (s : Structure) → AreOfOrder order (placed_of_kind order k b s)
order-kind FrEndOfFrame order b s = (refl, tt)
order-kind FrameH order b s = tt
order-kind Other order b s = tt
order-kind FrTOC order b s = tt
order-kind FrEndOfFile order b s = tt
order-kind FrSH order b s = tt
order-kind FrSE order b s = tt

order-item : (order : Order) (b : Before) (item : Item)
    → AreOfOrder order (structures_brought (placed_ended order) b item)
order-item order b (EntryItem head run entry) = tt
order-item order b (OtherItem s) = order-kind (kind_of b.dictionary s.class) order b s

order-items : (order : Order) (b : Before) (items : List Item)
    → AreOfOrder order (brought_in (placed_ended order) order b items)
order-items order b [] = tt
order-items order b (item ∷ items) =
    order-joined order (structures_brought (placed_ended order) b item)
    (brought_in (placed_ended order) order (after order b item) items) (order-item order b item)
    (order-items order (after order b item) items)

pub of-order : (order : Order) (items : List Item) → AreOfOrder order (placed_in order items)
of-order order items = order-items order nothing_yet items

own-frames : (order : Order) (ps : List PlacedFrame) → AreOfOrder order ps
    → map (content_frame order) (map stored ps) ≡ map frame ps
own-frames order [] own = refl
own-frames order (p ∷ ps) own =
    let here : content_frame order (stored p) ≡ frame p = ap (λ o. content_frame o (stored p)) (sym own.0) in
    let rest = own-frames order ps own.1 in
    λ i. here i ∷ rest i

-- they are the frames of the content
pub frames-are : (order : Order) (items : List Item)
    → map (content_frame order) (frames_in order items) ≡ map frame (placed_in order items)
frames-are order items =
    ap (map (content_frame order)) (sym (stored-are order items))
    ∙ own-frames order (placed_in order items) (of-order order items)

-- ---- how many they are

count-kind : (k : Kind) (order : Order) (b : Before) (s : Structure) (weight : ℕ)
    → (after_kind k b s weight).frames ≡ b.frames + length (placed_of_kind order k b s)
count-kind FrEndOfFrame order b s weight = refl
count-kind FrameH order b s weight = omega arith
count-kind Other order b s weight = omega arith
count-kind FrTOC order b s weight = omega arith
count-kind FrEndOfFile order b s weight = omega arith
count-kind FrSH order b s weight = omega arith
count-kind FrSE order b s weight = omega arith

count-item : (order : Order) (b : Before) (item : Item)
    → (after order b item).frames ≡ b.frames + length (structures_brought (placed_ended order) b item)
count-item order b (EntryItem head run entry) = omega arith
count-item order b (OtherItem s) =
    count-kind (kind_of b.dictionary s.class) order b s (weight_of order b.dictionary s)

count-items : (order : Order) (file : List ℕ) (b : Before) (items : List Item) (last : Before)
    → Stand order file b items last
    → last.frames ≡ b.frames + length (brought_in (placed_ended order) order b items)
count-items order file b [] last stand =
    let same = ap (λ (x : Before). x.frames) stand in
    omega (arith, same)
count-items order file b (item ∷ items) last stand =
    omega (
      arith,
      count-items order file (after order b item) items last stand.1,
      count-item order b item,
      length-append (structures_brought (placed_ended order) b item)
          (brought_in (placed_ended order) order (after order b item) items),
    )

pub counted : (order : Order) (file : List ℕ) (items : List Item) (last : Before)
    → Stand order file nothing_yet items last → last.frames ≡ length (placed_in order items)
counted order file items last stand = let is = count-items order file nothing_yet items last stand in omega (arith, is)
