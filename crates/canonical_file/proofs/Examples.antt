-- Canonical files without a frame, by their bytes and by their sizes.
use Rattle.std.proofs.Common.{◌≡◌, ℕ, List, [], ◌∷◌, ◌++◌, None, codes, length, refl}
use Rattle.canonical_file.specs.declared.closing.Closing.{Closing}
use Rattle.canonical_file.specs.Written.{Written, header_alone, closing_part, canonical_file}
use Rattle.canonical_file.proofs.Sample.{computing, hex, table_entry, file_end_entry, end_alone, closing}

-- no frame, and the end of the file alone
none_bytes : List ℕ
unfolding computing
none_bytes =
    hex "494757440008000204080408341278563412efcdab8967452301db0f4940182d4454fb21094000002500000000000000"
    ++ hex "0001000000000c004672456e644f6646696c65000b0001000000000000280000000000000000020000000008006e4672"
    ++ hex "616d6573000700494e545f34550001000000000000270000000000000000020100000007006e4279746573000700494e"
    ++ hex "545f38550001000000000000280000000000000000020200000008007365656b544f43000700494e545f385500010000"
    ++ hex "000000002700000000000000000203000000070063686b53756d000700494e545f345500010000000000002600000000"
    ++ hex "000000000b00000000000000001101000000000000000000000000000000000000"

none_size : length (canonical_file end_alone []) ≡ 273
unfolding computing
none_size = refl

none : canonical_file end_alone [] ≡ none_bytes
unfolding computing none_bytes
none = refl

-- no frame, and a contents table of none
empty_size : length (canonical_file closing []) ≡ 938
unfolding computing
empty_size = refl

-- a comment of three bytes makes it three bytes longer
commented : Closing
unfolding computing
commented = record { end = record file_end_entry { comment = codes "end" }; table = None }

commented_size : length (canonical_file commented []) ≡ 276
unfolding computing commented
commented_size = refl

-- entries that stand already do not stand again: the table's record of 34 bytes and the end's of 38
standing : Written
unfolding computing
standing = record header_alone { entries = table_entry ∷ file_end_entry ∷ [] }

closing_size : length (closing_part standing closing) ≡ 72
unfolding computing standing
closing_size = refl
