-- How far a reader reads ahead: no further than the look of the place that it has reached.
use Rattle.std.proofs.Common.{◌≡◌, ℕ, ◌+◌, ◌≤◌, ◌&&◌, Bool, true, false, cond, List, length, refl}
use Rattle.std.proofs.Common.{arith}
use Rattle.std.specs.Prelude.{nat_le}
use Rattle.std.proofs.lemmas.Bool.{leb-true}
use Rattle.scalar_types.specs.declared.Order.{Order}
use Rattle.file_grammar.specs.Structure.{record_limit, common_at, left_at}
use Rattle.item_reader.specs.declared.looked.Looked.{Looked}
use Rattle.item_reader.specs.declared.looked.Looked.TheVariants.{Nothing, Seen, Wrong}
use Rattle.item_reader.specs.Looked.{look, IsLooked}
use Rattle.item_reader.specs.Reader.{Reader, HasRead, DrawsNoFurther, LooksReachBeyond}

by-tests : (a b c : Bool) (place told : ℕ) → (b ≡ true → 14 ≤ told)
    → place + 65550 ≤ cond (a && (b && c)) (place + told + 65536) (place + 65550)
by-tests false b c place told h = omega arith
by-tests true false c place told h = omega arith
by-tests true true false place told h = omega arith
by-tests true true true place told h = omega (arith, h refl)

-- a look reaches beyond the first 14 bytes of its place
pub looks-reach : LooksReachBeyond
looks-reach order file place =
    let told : ℕ = (common_at order file place).length in
    by-tests (nat_le 8 (left_at file place)) (nat_le 14 told) (nat_le told record_limit) place told
    (leb-true 14 told)

-- what was looked at lies within the look
pub looked-within : (order : Order) (file : List ℕ) (place read : ℕ) (looked : Looked)
    → IsLooked order file place read looked → read + 65536 ≤ look order file place
looked-within order file place read Nothing is = omega (arith, is, looks-reach order file place)
looked-within order file place read (Seen common) is = omega (arith, is.0, looks-reach order file place)
looked-within order file place read (Wrong fault) is = is.2

-- with at most 65,536 bytes ahead
pub no-further : (file : List ℕ) (r : Reader) → length r.position.ahead ≤ 65536 → HasRead file r
    → DrawsNoFurther file r
no-further file r few read =
    omega (arith, few, looked-within r.order file r.before.place r.position.at r.looked read.looked)
