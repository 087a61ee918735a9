use Rattle.std.proofs.Common.{◌≡◌, ◌++◌, take}
use Rattle.std.specs.List.{flat_map}
use Rattle.type_text.specs.TypeText.{base_text, dim_text}
use Rattle.type_text.proofs.printing.printed_bytes.Given as goal

abbrev pub invariant-loop-dim : goal.invariant-loop-dim
invariant-loop-dim l = l.text.items ≡ base_text l.ty.base ++ flat_map dim_text (take l.dim-index l.ty.dims)
