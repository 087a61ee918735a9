-- The header that is written, byte for byte, and that it is read.
use Rattle.std.proofs.Common.{◌≡◌, [], ◌∷◌, length, Ok, refl}
use Rattle.scalar_types.specs.declared.Order.TheVariants.{Little}
use Rattle.scalar_types.specs.Number.{little_bytes}
use Rattle.frame_head.specs.Header.{header_bytes, header_of}

pub header_bytes-worked : header_bytes
    ≡ 0x49 ∷ 0x47 ∷ 0x57 ∷ 0x44 ∷ 0 ∷ 8 ∷ 0 ∷ 2 ∷ 4 ∷ 8 ∷ 4 ∷ 8 ∷ 0x34 ∷ 0x12 ∷ 0x78 ∷ 0x56 ∷ 0x34 ∷ 0x12
    ∷ 0xEF ∷ 0xCD ∷ 0xAB ∷ 0x89 ∷ 0x67 ∷ 0x45 ∷ 0x23 ∷ 0x01 ∷ 0xDB ∷ 0x0F ∷ 0x49 ∷ 0x40
    ∷ 0x18 ∷ 0x2D ∷ 0x44 ∷ 0x54 ∷ 0xFB ∷ 0x21 ∷ 0x09 ∷ 0x40 ∷ 0 ∷ 0 ∷ []
unfolding little_bytes
header_bytes-worked = refl

pub header_bytes-length : length header_bytes ≡ 40
unfolding little_bytes
header_bytes-length = refl

pub header_of-bytes : header_of header_bytes ≡ Ok Little
unfolding little_bytes
header_of-bytes = refl
