-- In a frame whose links have targets none leads past the last record.
use Rattle.std.proofs.Common.{◌≡◌, ℕ, ◌⊎◌, inl, inr, Bool, true, false, cond, nat_lt, Option, Some, None, List, [], ◌∷◌}
use Rattle.std.proofs.Common.{length, map, refl, sym, ap, ◌∙◌, subst, arith}
use Rattle.std.specs.Prelude.{All, position, if◌then◌else◌, ◌==◌}
use Rattle.std.specs.List.{list_any, position_or_len}
use Rattle.std.specs.Option.{option_map_or}
use Rattle.std.proofs.lemmas.List.Folds.{list_any-from_Any}
use Rattle.type_text.specs.declared.types.Link.{Link}
use Rattle.record_values.specs.Links.{links_in}
use Rattle.link_graph.specs.Collected.{Bodied, is_named, place_of, target_of}
use Rattle.file_grammar.specs.Structure.{Structure}
use Rattle.file_grammar.specs.Record.{values_of, is_target, HasTarget}
use Rattle.file_grammar.proofs.Places.{All-first, All-others}
use Rattle.item_reader.specs.State.{bodied_of}
use Rattle.frame_content.specs.Frames.{Row, Frame, label_of, row_of}
use Rattle.contents_table.proofs.Positions.{position-map}
use Rattle.canonical_file.specs.Ordered.{IsInOrder}
use Rattle.channel_extract.specs.Cuts.{cut}
use Rattle.channel_extract.specs.Placed.{PlacedFrame, stored, frame, placed_in}
use Rattle.channel_extract.specs.OtherFiles.{marked_number, marked_row, marked}
use Rattle.channel_extract.specs.TableLaws.{ReadyFramesAreCut}
use Rattle.channel_extract.proofs.Sound.{IsSound, sound, of-some}
use Rattle.channel_extract.proofs.GoodPositions.{none-any}

eq-yes : (a b : ℕ) → a ≡ b → (a == b) ≡ true
eq-yes a b same = grind (arith, same)

if-same : (b : Bool) (o p : Option ℕ) → (b ≡ true) ⊎ (o ≡ p) → (if b then None else o) ≡ (if b then None else p)
if-same true o p h = refl
if-same false o p (inl h) = absurd (cc)
if-same false o p (inr h) = h

target-is : (link : Link) (s : Structure) → (s.class ≡ link.class) × (s.instance ≡ link.instance)
    → is_target link s ≡ true
target-is link s same =
    grind (arith, eq-yes s.class link.class same.0, eq-yes s.instance link.instance same.1)

found : (link : Link) (records : List Structure) → list_any (is_target link) records ≡ true
    → ◌≡◌ {A = Option ℕ} (Some (position_or_len (is_target link) records)) (position (is_target link) records)
found link records some = by (nat_lt (position_or_len (is_target link) records) (length records)) refl
  where
    by : (b : Bool) → nat_lt (position_or_len (is_target link) records) (length records) ≡ b
        → ◌≡◌ {A = Option ℕ} (Some (position_or_len (is_target link) records)) (position (is_target link) records)
    by true is =
        sym (ap (λ c. cond c (Some (position_or_len (is_target link) records)) None) is)
    by false is =
        let none = none-any (is_target link) records
        (ap (λ c. cond c (Some (position_or_len (is_target link) records)) None) is) in
        absurd (cc)

number-same : (p : PlacedFrame) (link : Link) → HasTarget p.records link
    → marked_number p.records link ≡ target_of (stored p).nodes link
number-same p link (inl zero_class) =
    if-same (link.class == 0) (Some (position_or_len (is_target link) p.records)) (place_of (stored p).nodes link)
    (inl (eq-yes link.class 0 zero_class))
number-same p link (inr (k, s, within, is, same)) =
    if-same (link.class == 0) (Some (position_or_len (is_target link) p.records)) (place_of (stored p).nodes link)
    (inr (found link p.records
    (list_any-from_Any (is_target link) p.records (k, s, within, is, target-is link s same))
    ∙ sym (position-map (λ (r : Bodied). is_named link r.node) (bodied_of p.held) p.records)))

map-same : {A B : Type 0} (P : A → Type 0) (f g : A → B) → ((x : A) → P x → f x ≡ g x) → (xs : List A) → All P xs
    → map f xs ≡ map g xs
map-same P f g each [] all = refl
map-same P f g each (x ∷ xs) all =
    let here = each x (All-first P x xs all) in
    let rest = map-same P f g each xs (All-others P x xs all) in
    λ i. here i ∷ rest i

row-same : (p : PlacedFrame) (s : Structure) → All (HasTarget p.records) (links_in (values_of p.order p.held s))
    → marked_row p s ≡ row_of p.order p.held (stored p).nodes (bodied_of p.held s)
row-same p s all =
    let links = map-same (HasTarget p.records) (marked_number p.records) (target_of (stored p).nodes) (number-same p)
    (links_in (values_of p.order p.held s)) all in
    λ i. record { label = label_of p.order p.held (bodied_of p.held s); links = links i }

map-both : {A B C : Type 0} (g : A → B) (h : B → C) (xs : List A) → map (λ x. h (g x)) xs ≡ map h (map g xs)
map-both g h [] = refl
map-both g h (x ∷ xs) = ap (λ (rest : List _). h (g x) ∷ rest) (map-both g h xs)

marked-same : (p : PlacedFrame) → IsSound p → marked p ≡ frame p
marked-same p is =
    let row : Structure → Row = λ s. row_of p.order p.held (stored p).nodes (bodied_of p.held s) in
    let rows = map-same (λ s. All (HasTarget p.records) (links_in (values_of p.order p.held s))) (marked_row p) row
    (row-same p) p.records is.linked in
    ap (λ (rs : List Row). record (frame p) { rows = rs })
    (rows ∙ map-both (bodied_of p.held) (row_of p.order p.held (stored p).nodes) p.records)

pub are_cut : ReadyFramesAreCut
are_cut file order items last kind name p o well (k, within, is) ready =
    let all = sound order file items last well.begins.stand in
    let one : IsSound p.placed = of-some IsSound (placed_in order items) k p.placed all within is in
    record {
      frame = cut (frame p.placed) kind ready.channel;
      is = ap (λ x. option_map_or (λ j. cut (frame p.placed) kind j ∷ []) x []) ready.stands;
      in_order = subst (λ (f : Frame). IsInOrder (cut f kind ready.channel) o) (marked-same p.placed one)
          ready.in_order;
    }
