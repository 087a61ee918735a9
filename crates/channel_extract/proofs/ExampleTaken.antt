-- The bytes that the extraction of one channel takes of a file of one frame with three channels, by the lengths of its
-- structures.
use Rattle.std.proofs.Common.{◌≡◌, ℕ, ◌+◌, ◌-◌, List, [], ◌∷◌, codes, replicate, refl}
use Prim.Native.String.{String}
use Rattle.scalar_types.specs.declared.Order.TheVariants.{Little}
use Rattle.dictionary.specs.Dictionary.{step}
use Rattle.file_grammar.specs.Structure.{Structure}
use Rattle.file_grammar.specs.Item.{Item, EntryItem, OtherItem}
use Rattle.channel_extract.specs.Placed.{PlacedFrame}
use Rattle.channel_extract.specs.Taken.{pass_bytes, bodies}

-- a structure of so many bytes
abbrev structure : ℕ → ℕ → Structure
structure class bytes = record { at = 0; class = class; instance = 0; body = replicate (bytes - 14) 0 }

-- an entry, whose structures have so many bytes together
abbrev entry : ℕ → String → ℕ → Item
entry class name bytes =
    EntryItem (structure 1 bytes) [] (record { class = class; name = codes name; comment = []; elements = [] })

-- FrameH, FrRawData and FrDetector, and each channel with its vector
abbrev records : List Structure
records =
    structure 3 71 ∷ structure 4 30 ∷ structure 8 51 ∷ structure 5 49 ∷ structure 7 90 ∷ structure 5 49
    ∷ structure 7 90 ∷ structure 5 49 ∷ structure 7 90 ∷ []

items : List Item
items =
    entry 3 "FrameH" 529 ∷ OtherItem (structure 3 71) ∷ entry 4 "FrRawData" 169 ∷ OtherItem (structure 4 30)
    ∷ entry 8 "FrDetector" 290 ∷ OtherItem (structure 8 51) ∷ entry 5 "FrAdcData" 305 ∷ OtherItem (structure 5 49)
    ∷ entry 7 "FrVect" 603 ∷ OtherItem (structure 7 90) ∷ OtherItem (structure 5 49) ∷ OtherItem (structure 7 90)
    ∷ OtherItem (structure 5 49) ∷ OtherItem (structure 7 90) ∷ entry 9 "FrEndOfFrame" 151
    ∷ OtherItem (structure 9 26) ∷ entry 10 "FrTOC" 631 ∷ OtherItem (structure 10 91) ∷ entry 11 "FrEndOfFile" 195
    ∷ OtherItem (structure 11 38) ∷ []

passing : pass_bytes Little items ≡ 3194
unfolding items step
passing = refl

placed : PlacedFrame
placed = record { order = Little; held = []; records = records; end = structure 9 26 }

-- FrameH, FrRawData, the second channel and its vector
written : bodies placed (0 ∷ 1 ∷ 5 ∷ 6 ∷ []) ≡ 184
unfolding placed
written = refl

together : pass_bytes Little items + bodies placed (0 ∷ 1 ∷ 5 ∷ 6 ∷ []) ≡ 3378
unfolding items placed step
together = refl
