-- The length of a printed text.
use Rattle.std.proofs.Common.{◌≡◌, ℕ, ◌+◌, ◌/◌, ◌^◌, ◌<◌, ◌≤◌, false, nat_le, length, take, get_or, add-one, append-nil}
use Rattle.std.proofs.Common.{sym, ◌∙◌, ap, arith, length-append}
use Rattle.std.proofs.lemmas.Bool.Decides.{nat_tests}
use Rattle.std.proofs.lemmas.Fmt.{decimal_step, decimal_nonempty, length-decimal-le}
use Rattle.std.proofs.Math.Seq.{take-suc}
use Rattle.std.proofs.lemmas.List.{take_all}
use Rattle.std.proofs.lemmas.Grind.{flat_map-append}
use Rattle.std.proofs.lemmas.List.Folds.{length-flat_map-take}
use Rattle.std.specs.Fmt.{decimal}
use Rattle.std.specs.List.{flat_map}
use Rattle.type_text.specs.declared.types.Dim.{Dim}
use Rattle.type_text.specs.declared.types.Dim.TheVariants.{Numeral}
use Rattle.type_text.specs.declared.types.ElementType.{ElementType}
use Rattle.type_text.specs.TypeText.{printed_type, base_text, dim_text}

-- the length with the first dimensions alone
abbrev pub length_with : ElementType → ℕ → ℕ
length_with ty i = length (base_text ty.base) + length (flat_map dim_text (take i ty.dims))

pub digits-more : (n : ℕ) → 10 ≤ n → n < 2 ^ 32 → length (decimal n) ≡ length (decimal (n / 10)) + 1
digits-more n large fits =
    ap length (decimal_step n large (omega arith)) ∙ length-append (decimal (n / 10)) _

pub digits-one : (n : ℕ) → n < 10 → length (decimal n) ≡ 1
digits-one n small = omega (
  arith,
  length-decimal-le 1 n (omega arith) small (omega arith),
  decimal_nonempty n (omega arith),
)

pub digits-few : (n : ℕ) → n < 2 ^ 32 → length (decimal n) ≤ 10
digits-few n fits = length-decimal-le 10 n (omega arith) (omega arith) (omega arith)

pub ruleset digits = (digits-more, digits-one, digits-few)

pub length_with-all : (ty : ElementType) (i : ℕ) → length ty.dims ≤ i → length (printed_type ty) ≡ length_with ty i
unfolding printed_type
length_with-all ty i all =
    length-append (base_text ty.base) (flat_map dim_text ty.dims)
    ∙ ap (λ ds. length (base_text ty.base) + length (flat_map dim_text ds)) (sym (take_all i ty.dims all))

pub length_with-more : (ty : ElementType) (i : ℕ) (d : Dim) → i < length ty.dims
    → length_with ty (i + 1) ≡ length_with ty i + length (dim_text (get_or ty.dims i d))
length_with-more ty i d lt =
    rw (add-one, take-suc ty.dims i d lt, flat_map-append, append-nil (dim_text (get_or ty.dims i d)))
    (omega (arith, length-append (flat_map dim_text (take i ty.dims)) (dim_text (get_or ty.dims i d))))

pub length_with-over : (ty : ElementType) (i : ℕ) → i < length ty.dims → 4096 < length_with ty i
    → nat_le (length (printed_type ty)) 4096 ≡ false
length_with-over ty i lt over =
    let before = length-flat_map-take dim_text ty.dims i (get_or ty.dims i (Numeral 0)) lt in
    long (length (printed_type ty))
    (omega (
      arith,
      before,
      length_with-all ty (length ty.dims) (omega arith),
      ap (λ ds. length (flat_map dim_text ds)) (take_all (length ty.dims) ty.dims (omega arith)),
    ))
  where
    long : (n : ℕ) → 4096 < n → nat_le n 4096 ≡ false
    long n h = grind (arith, nat_tests)

pub ruleset lengths = (length_with-all, length_with-more, length_with-over)
