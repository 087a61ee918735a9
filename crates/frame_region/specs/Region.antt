-- A region of bytes, and spans that name parts of it until it is cleared.
use Rattle.std.specs.Prelude.{◌≡◌, ℕ, ◌+◌, ◌-◌, ◌≤◌, ◌⊎◌, List, ◌++◌, length, take, drop}
use Rattle.frame_region.specs.declared.span.Span.{Span}

-- the most bytes that a region holds
abbrev pub most_bytes : ℕ
most_bytes = 4294967295

-- What callers know of a region: the bytes held, how many more may be put before memory is needed, and how often it
-- was cleared.
pub record Held : Type 0 where
  pub bytes : List ℕ
  pub spare : ℕ
  pub clears : ℕ

-- a piece put after the bytes held, which lowers the spare by as much
abbrev pub with_piece : Held → List ℕ → Held
with_piece region piece = record {
  bytes = region.bytes ++ piece;
  spare = region.spare - length piece;
  clears = region.clears;
}

-- The span is live: the region was not cleared since it was given, and its bytes are held.
pub record IsLive (region : Held) (span : Span) : Type 0 where
  pub era : span.era ≡ region.clears
  pub within : span.at + span.length ≤ length region.bytes

-- the bytes that a span names
abbrev pub bytes_of : Held → Span → List ℕ
bytes_of region span = take span.length (drop span.at region.bytes)

-- bytes with a piece written over those from a place on
abbrev pub overwrite_at : ℕ → List ℕ → List ℕ → List ℕ
overwrite_at at piece bytes = take at bytes ++ (piece ++ drop (at + length piece) bytes)

-- a piece written over the bytes held from a place on
abbrev pub with_written : Held → ℕ → List ℕ → Held
with_written region at piece = record {
  bytes = overwrite_at at piece region.bytes;
  spare = region.spare;
  clears = region.clears;
}

-- the span is live and names these bytes
pub record Gives (region : Held) (span : Span) (bytes : List ℕ) : Type 0 where
  pub live : IsLive region span
  pub bytes_are : bytes_of region span ≡ bytes

-- each live span stays live, and names the bytes that it named
abbrev pub KeepsSpans : Held → Held → Type 0
KeepsSpans old new = (span : Span) → IsLive old span → Gives new span (bytes_of old span)

-- all stays but the spare
pub record KeepsBytes (old new : Held) : Type 0 where
  pub bytes : new.bytes ≡ old.bytes
  pub clears : new.clears ≡ old.clears

-- so many bytes of a span, from a place in it on
abbrev pub part_of : Span → ℕ → ℕ → Span
part_of span at size = record { at = span.at + at; length = size; era = span.era }

-- the two spans have no byte in common
abbrev pub AreApart : Span → Span → Type 0
AreApart span other = (span.at + span.length ≤ other.at) ⊎ (other.at + other.length ≤ span.at)

-- no span that was live is live
abbrev pub EndsSpans : Held → Held → Type 0
EndsSpans old new = (span : Span) → IsLive old span → IsLive new span → ⊥
