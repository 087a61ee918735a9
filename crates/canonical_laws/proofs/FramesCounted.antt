-- The frames of the items of a file are as many as are counted, and no more than a file may have.
use Rattle.std.proofs.Common.{◌≡◌, ℕ, ◌+◌, ◌≤◌, List, [], ◌∷◌, length, refl, ap, arith, length-append}
use Rattle.scalar_types.specs.declared.Order.{Order}
use Rattle.file_grammar.specs.declared.kind.Kind.{Kind}
use Rattle.file_grammar.specs.declared.kind.Kind.TheVariants.{FrSH, FrSE, FrameH, FrEndOfFrame, FrTOC, FrEndOfFile}
use Rattle.file_grammar.specs.declared.kind.Kind.TheVariants.{Other}
use Rattle.file_grammar.specs.Structure.{Structure}
use Rattle.file_grammar.specs.Kind.{kind_of}
use Rattle.file_grammar.specs.Record.{weight_of}
use Rattle.file_grammar.specs.Item.{Item, EntryItem, OtherItem, Before, after_kind, after}
use Rattle.file_grammar.specs.MayStand.{frames_limit, KindMayStand, MayStand, Stand}
use Rattle.file_content.specs.Stored.{structures_brought, brought_in, frame_of_kind, frame_ended}

-- so many frames are counted, and they are within the limit
pub record AreCounted (before after new : ℕ) : Type 0 where
  pub told : after ≡ before + new
  pub few : after ≤ frames_limit

kind-counted : (order : Order) (b : Before) (s : Structure) (weight : ℕ) (kind : Kind) → b.frames ≤ frames_limit
    → KindMayStand kind order b s
    → AreCounted b.frames (after_kind kind b s weight).frames (length (frame_of_kind kind b s))
kind-counted order b s weight FrEndOfFrame few (standing, header, linked, less) =
    record { told = refl; few = omega (arith, less) }
kind-counted order b s weight FrameH few may = record { told = omega arith; few = few }
kind-counted order b s weight FrTOC few may = record { told = omega arith; few = few }
kind-counted order b s weight FrEndOfFile few may = record { told = omega arith; few = few }
kind-counted order b s weight FrSH few may = record { told = omega arith; few = few }
kind-counted order b s weight FrSE few may = record { told = omega arith; few = few }
kind-counted order b s weight Other few may = record { told = omega arith; few = few }

item-counted : (order : Order) (file : List ℕ) (b : Before) (item : Item) → b.frames ≤ frames_limit
    → MayStand order file b item
    → AreCounted b.frames (after order b item).frames (length (structures_brought frame_ended b item))
item-counted order file b (EntryItem head run e) few may = record { told = omega arith; few = few }
item-counted order file b (OtherItem s) few may =
    kind-counted order b s (weight_of order b.dictionary s) (kind_of b.dictionary s.class) few may.1.kind

pub stand-counted : (order : Order) (file : List ℕ) (b last : Before) (items : List Item) → b.frames ≤ frames_limit
    → Stand order file b items last
    → AreCounted b.frames last.frames (length (brought_in frame_ended order b items))
stand-counted order file b last [] few stand =
    let same : last.frames ≡ b.frames = ap (λ (x : Before). x.frames) stand in
    record { told = omega (arith, same); few = omega (arith, same, few) }
stand-counted order file b last (item ∷ items) few stand =
    let here = item-counted order file b item few stand.0 in
    let rest = stand-counted order file (after order b item) last items here.few stand.1 in
    record {
      told = omega (
        arith,
        here.told,
        rest.told,
        length-append (structures_brought frame_ended b item)
            (brought_in frame_ended order (after order b item) items),
      );
      few = rest.few;
    }
