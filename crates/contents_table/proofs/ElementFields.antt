-- Elements without dimension, and the fields that they have in a layout.
use Rattle.std.proofs.Common.{◌≡◌, ℕ, Bool, true, false, ◌&&◌, cond, List, Option, Some, None, refl, subst}
use Rattle.std.specs.Prelude.{slice_get, option_and_then}
use Rattle.std.specs.Option.{option_map_or}
use Rattle.std.proofs.lemmas.Option.{option_and_then_some, cond_some}
use Rattle.type_text.specs.declared.types.Base.{Base}
use Rattle.type_text.specs.declared.types.ElementType.{ElementType}
use Rattle.dictionary.specs.declared.entries.Element.{Element}
use Rattle.layout_plan.specs.declared.fields.Field.{Field}
use Rattle.layout_plan.specs.Layout.{form_of, has_no_dims, layout_of}
use Rattle.layout_plan.specs.Lent.{IsSingleField}
use Rattle.file_grammar.specs.Closing.{base_by, single_base, is_single}
use Rattle.contents_table.proofs.LayoutFields.{typed-field}

-- whether one passes is told by its base
abbrev pub passes_by : (Base → Bool) → Option Base → Bool
passes_by passes base = option_map_or passes base false

pub single-base : (passes : Base → Bool) (e : Element) → is_single passes e ≡ passes_by passes (single_base e)
single-base passes e = by e.ty
  where
    at : (passing single : Bool) (base : Base) → passing ≡ passes base
        → (passing && single) ≡ passes_by passes (cond single (Some base) None)
    at true true base is = is
    at false true base is = is
    at true false base is = refl
    at false false base is = refl

    by : (o : Option ElementType) → option_map_or (λ ty. passes ty.base && has_no_dims ty.dims) o false
        ≡ passes_by passes (option_and_then base_by o)
    by None = refl
    by (Some ty) = at (passes ty.base) (has_no_dims ty.dims) ty.base refl

-- the field of one
pub single-field : (es : List Element) (fs : List Field) (i : ℕ) (e : Element) (base : Base)
    → layout_of es ≡ Some fs → slice_get es i ≡ Some e → single_base e ≡ Some base
    → IsSingleField fs i (form_of base)
single-field es fs i e base layout at single =
    option_and_then_some base_by e.ty base single (λ ty typed based.
    let parts = cond_some (has_no_dims ty.dims) ty.base base based in
    subst (λ base. IsSingleField fs i (form_of base)) parts.1 (typed-field es fs i e ty layout at typed parts.0))
