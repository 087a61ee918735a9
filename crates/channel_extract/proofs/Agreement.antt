-- By a good table the extraction is that by reading all.
use Rattle.std.proofs.Common.{◌≡◌, ℕ, Option, Some, None, List, [], length, map, fold, refl, sym, ap, ◌∙◌, subst}
use Rattle.std.specs.Prelude.{position, IfSome}
use Rattle.std.specs.List.{AllByRecursion}
use Rattle.std.specs.Option.{option_map, option_map_or}
use Rattle.std.specs.Str.{bytes_eq}
use Rattle.scalar_types.specs.declared.Order.{Order}
use Rattle.file_grammar.specs.Item.{Item, Before, nothing_yet}
use Rattle.contents_table.specs.declared.kind.Kind.{Kind}
use Rattle.contents_table.specs.Built.{Built, nothing_built, listed_of, numbers_below}
use Rattle.contents_table.specs.Listed.{KindTable, Table, position_at, IsGoodKind}
use Rattle.file_content.specs.Stored.{frames_in, table_in, seek_in}
use Rattle.file_content.specs.Contents.{with_stored, built_of, seek_or_none}
use Rattle.channel_extract.specs.Cuts.{extraction}
use Rattle.channel_extract.specs.Placed.{PlacedFrame, stored, frame, head_place, channel_place, placed_in}
use Rattle.channel_extract.specs.ByTable.{NoTable, NoChannel, ended, whole_of, by_positions, by_names, by_listing}
use Rattle.channel_extract.specs.ByTable.{by_reading}
use Rattle.channel_extract.specs.TableLaws.{HasGoodTable, TableAndReadingAgree}
use Rattle.channel_extract.proofs.Rising.{IsOrderly, orderly, stand-in_turn}
use Rattle.channel_extract.proofs.BuiltPlaces.{listed_at, frames_at, built-heads, built-places}
use Rattle.channel_extract.proofs.FramesOfItems.{stored-are, of-order, frames-are, counted}
use Rattle.channel_extract.proofs.Following.{right-positions}
use Rattle.channel_extract.proofs.GoodPositions.{good-positions, good-absent}
use Rattle.channel_extract.proofs.TableFacts.{table-facts, kind-counted}

-- What is known of a good table that lists the kind: the places of the FrameHs, and for each name that it lists those
-- of its channels.
pub record HasRightPlaces (kind : Kind) (name : List ℕ) (ps : List PlacedFrame) (table : Table) (t : KindTable) : Type 0
  where
    pub heads : table.heads ≡ map head_place ps
    pub frames : t.frames ≡ length ps
    pub positions : (k : ℕ) → position (bytes_eq name) t.names ≡ Some k
        → map (λ i. position_at t i k) (numbers_below t.frames) ≡ map (channel_place kind name) ps
    pub absent : position (bytes_eq name) t.names ≡ None → extraction kind name (map frame ps) ≡ []

pub right-places : (file : List ℕ) (order : Order) (items : List Item) (last : Before) (kind : Kind) (name : List ℕ)
    → (is : HasGoodTable file order items last kind)
    → HasRightPlaces kind name (placed_in order items) is.table is.listed
right-places file order items last kind name is =
    let ps = placed_in order items in
    let built : Built = built_of order (frames_in order items) in
    let from : built ≡ fold (with_stored order) nothing_built (map stored ps) =
    ap (fold (with_stored order) nothing_built) (sym (stored-are order items)) in
    let facts = table-facts order last.place last.frames (table_in order items) (seek_or_none (seek_in order items))
    is.table is.is in
    let own : (i : ℕ) → listed_at (listed_of built kind) name i ≡ frames_at kind name ps 0 i =
    λ i. ap (λ (b : Built). listed_at (listed_of b kind) name i) from
    ∙ built-places order kind name ps i (of-order order items) in
    let good : IsGoodKind (listed_of built kind) is.listed =
    subst (λ o. IfSome o (IsGoodKind (listed_of built kind))) is.lists (is.good.kinds kind) in
    let frames : is.listed.frames ≡ length ps =
    kind-counted last.frames is.table kind is.listed facts is.lists
    ∙ counted order file items last is.well_formed.begins.stand in
    record {
      heads = is.good.heads ∙ ap (λ (b : Built). b.heads) from
          ∙ built-heads order ps nothing_built (of-order order items);
      frames = frames;
      positions = λ k found. good-positions kind name ps (listed_of built kind) is.listed k good frames own found;
      absent = λ none. good-absent kind name ps (listed_of built kind) is.listed good own none;
    }

pub agree : TableAndReadingAgree
agree file order items last kind name is =
    let ps = placed_in order items in
    let rights = right-places file order items last kind name is in
    let orders = orderly order items (stand-in_turn order file nothing_yet items last is.well_formed.begins.stand) in
    ap (λ o. option_map_or (by_listing kind name ps) o (ended NoTable)) is.is
    ∙ ap (λ o. option_map_or (by_names kind name ps is.table.heads) o (ended NoTable)) is.lists
    ∙ by rights orders (position (bytes_eq name) is.listed.names) refl
    ∙ ap (by_reading kind name) (sym (frames-are order items))
  where
    by : HasRightPlaces kind name (placed_in order items) is.table is.listed
        → AllByRecursion IsOrderly (placed_in order items)
        → (o : Option ℕ) → position (bytes_eq name) is.listed.names ≡ o
        → by_names kind name (placed_in order items) is.table.heads is.listed
        ≡ by_reading kind name (map frame (placed_in order items))
    by rights orders None none =
        ap (λ o. option_map_or (by_positions kind name (placed_in order items) is.table.heads)
        (option_map (λ k. map (λ i. position_at is.listed i k) (numbers_below is.listed.frames)) o) (ended NoChannel))
        none ∙ ap whole_of (sym (rights.absent none))
    by rights orders (Some k) some =
        ap (λ o. option_map_or (by_positions kind name (placed_in order items) is.table.heads)
        (option_map (λ k. map (λ i. position_at is.listed i k) (numbers_below is.listed.frames)) o) (ended NoChannel))
        some
        ∙ (λ j. by_positions kind name (placed_in order items) (rights.heads j) (rights.positions k some j))
        ∙ right-positions kind name (placed_in order items) orders
