-- Numbers in a byte order, and the widths that they have in a frame file.
use Rattle.std.specs.Prelude.{ℕ, zero, suc, ◌+◌, ◌*◌, ◌/◌, ◌%◌, ◌^◌, List, [], ◌∷◌, length, reverse}
use Rattle.scalar_types.specs.declared.Order.{Order}
use Rattle.scalar_types.specs.declared.Order.TheVariants.{Big, Little}
use Rattle.scalar_types.specs.declared.Width.{Width}
use Rattle.scalar_types.specs.declared.Width.TheVariants.{One, Two, Four, Eight}

-- the sum of the bytes times powers of 256, the first byte with the greatest power
abbrev pub big_number : List ℕ → ℕ
big_number [] = 0
big_number (byte ∷ rest) = byte * 256 ^ length rest + big_number rest

-- the sum of the bytes times powers of 256, the first byte with the least power
abbrev pub little_number : List ℕ → ℕ
little_number [] = 0
little_number (byte ∷ rest) = byte + 256 * little_number rest

-- the number that bytes are in a byte order
abbrev pub number : Order → List ℕ → ℕ
number Big bytes = big_number bytes
number Little bytes = little_number bytes

-- how many bytes a width takes: those of INT_1, INT_2, INT_4 and INT_8 (LIGO-T970130 v8, data types)
abbrev pub size_of : Width → ℕ
size_of One = 1
size_of Two = 2
size_of Four = 4
size_of Eight = 8

-- so many bytes of a number, the least first
unfoldable pub little_bytes : ℕ → ℕ → List ℕ
little_bytes zero n = []
little_bytes (suc size) n = n % 256 ∷ little_bytes size (n / 256)

-- the bytes of a number of a width in a byte order
abbrev pub bytes_of : Order → Width → ℕ → List ℕ
bytes_of Big width n = reverse (little_bytes (size_of width) n)
bytes_of Little width n = little_bytes (size_of width) n
