-- Of what kind a structure is, by what a reader gives of it.
use Rattle.std.proofs.Common.{◌≡◌, ℕ, ◌⊎◌, inl, inr, refl, ap, ◌∙◌, List, Bool, codes}
use Rattle.scalar_types.specs.declared.Order.{Order}
use Rattle.file_grammar.specs.declared.kind.Kind.{Kind}
use Rattle.file_grammar.specs.declared.kind.Kind.TheVariants.{FrSH, FrSE, FrameH, FrEndOfFrame, FrTOC, FrEndOfFile}
use Rattle.file_grammar.specs.declared.kind.Kind.TheVariants.{Other}
use Rattle.file_grammar.specs.Structure.{Structure, structure_at}
use Rattle.file_grammar.specs.Item.{Before, OtherItem}
use Rattle.file_grammar.specs.MayStand.{MayStand}
use Rattle.file_grammar.specs.Fault.{Here, structure, number}
use Rattle.item_reader.specs.declared.item.Item.TheVariants as given
use Rattle.item_reader.specs.Given.{TellsKind}

-- the structure that may stand at a place is the one there
pub structure-here : (order : Order) (file : List ℕ) (b : Before) (s : Structure) → MayStand order file b (OtherItem s)
    → s ≡ structure (record { order = order; file = file; before = b })
structure-here order file b s may = may.1.stands.is ∙ ap (structure_at order file) may.1.here

pub no-entry : (k : Kind) (h : Here) (s : Structure) (at class : ℕ) (changed : Bool)
    → TellsKind k h s (given.Entry at class changed) → ⊥
no-entry FrSH h s at class changed tells = absurd tells
no-entry FrSE h s at class changed tells = absurd tells
no-entry FrameH h s at class changed tells = absurd tells
no-entry FrEndOfFrame h s at class changed tells = absurd tells
no-entry FrTOC h s at class changed tells = absurd tells
no-entry FrEndOfFile h s at class changed tells = absurd tells
no-entry Other h s at class changed tells = absurd tells

pub ends-frame : (k : Kind) (h : Here) (s : Structure) (at class : ℕ) → TellsKind k h s (given.FrameEnd at class)
    → k ≡ FrEndOfFrame
ends-frame FrSH h s at class tells = absurd tells
ends-frame FrSE h s at class tells = absurd tells
ends-frame FrameH h s at class tells = absurd tells
ends-frame FrEndOfFrame h s at class tells = refl
ends-frame FrTOC h s at class tells = absurd tells
ends-frame FrEndOfFile h s at class tells = absurd tells
ends-frame Other h s at class tells = absurd tells

pub is-table : (k : Kind) (h : Here) (s : Structure) (at class length : ℕ)
    → TellsKind k h s (given.Table at class length)
    → (k ≡ FrTOC) × (at ≡ s.at) × (class ≡ s.class)
is-table FrSH h s at class length tells = absurd tells
is-table FrSE h s at class length tells = absurd tells
is-table FrameH h s at class length tells = absurd tells
is-table FrEndOfFrame h s at class length tells = absurd tells
is-table FrTOC h s at class length tells = (refl, tells.0, tells.1)
is-table FrEndOfFile h s at class length tells = absurd tells
is-table Other h s at class length tells = absurd tells

pub is-record : (k : Kind) (h : Here) (s : Structure) (at class instance node : ℕ)
    → TellsKind k h s (given.Plain at class instance node) → (k ≡ FrameH) ⊎ (k ≡ Other)
is-record FrSH h s at class instance node tells = absurd tells
is-record FrSE h s at class instance node tells = absurd tells
is-record FrameH h s at class instance node tells = inl refl
is-record FrEndOfFrame h s at class instance node tells = absurd tells
is-record FrTOC h s at class instance node tells = absurd tells
is-record FrEndOfFile h s at class instance node tells = absurd tells
is-record Other h s at class instance node tells = inr refl

pub ends-file : (k : Kind) (h : Here) (s : Structure) (at class length seek : ℕ)
    → TellsKind k h s (given.FileEnd at class length seek) → (k ≡ FrEndOfFile) × (seek ≡ number h (codes "seekTOC"))
ends-file FrSH h s at class length seek tells = absurd tells
ends-file FrSE h s at class length seek tells = absurd tells
ends-file FrameH h s at class length seek tells = absurd tells
ends-file FrEndOfFrame h s at class length seek tells = absurd tells
ends-file FrTOC h s at class length seek tells = absurd tells
ends-file FrEndOfFile h s at class length seek tells = (refl, tells.3)
ends-file Other h s at class length seek tells = absurd tells
