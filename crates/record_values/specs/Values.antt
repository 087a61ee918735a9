-- What is asked of a value.
use Rattle.std.specs.Prelude.{ℕ}
use Rattle.record_values.specs.declared.values.Value.{Value}
use Rattle.record_values.specs.declared.values.Value.TheVariants as value

-- the number that a value is, where it is a single one
abbrev pub number_of : Value → ℕ
number_of (value.Num n) = n
number_of (value.Pair a b) = 0
number_of (value.Text text) = 0
number_of (value.Nums xs) = 0
number_of (value.Pairs xs) = 0
number_of (value.Texts xs) = 0
number_of (value.Bytes xs) = 0
number_of (value.Link link) = 0
number_of (value.Links xs) = 0
