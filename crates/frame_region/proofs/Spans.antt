-- What spans name as a region grows and is written.
use Rattle.std.proofs.Common.{◌≡◌, ℕ, ◌+◌, ◌-◌, ◌≤◌, ◌⊎◌, inl, inr, List, ◌++◌, length, take, drop, refl, sym, ap, ◌∙◌}
use Rattle.std.proofs.Common.{arith, length-append, length-drop, length-take}
use Rattle.std.proofs.lemmas.List.{take-append-le, drop-append-le, take_all, drop-drop, drop-take, append_assoc}
use Rattle.std.proofs.lemmas.List.{drop_at, take-take}
use Rattle.std.proofs.Math.Seq.{take-append-add, drop-append-add}
use Rattle.frame_region.specs.declared.span.Span.{Span}
use Rattle.frame_region.specs.Region.{Held, IsLive, bytes_of, overwrite_at, part_of, Gives, KeepsSpans, AreApart}

-- bytes put behind are not seen
named_before : (at n : ℕ) (bytes more : List ℕ) → at + n ≤ length bytes
    → take n (drop at (bytes ++ more)) ≡ take n (drop at bytes)
named_before at n bytes more within =
    ap (take n) (drop-append-le at bytes more (omega arith))
    ∙ take-append-le n (drop at bytes) more (omega (arith, length-drop at bytes))

-- a region with more bytes behind keeps its spans
pub kept_grown : (old new : Held) (more : List ℕ) → new.bytes ≡ old.bytes ++ more → new.clears ≡ old.clears
    → KeepsSpans old new
kept_grown old new more grown clears span live = record {
  live = record {
    era = live.era ∙ sym clears;
    within = omega (arith, live.within, ap length grown, length-append old.bytes more);
  };
  bytes_are = ap (λ bytes. take span.length (drop span.at bytes)) grown
      ∙ named_before span.at span.length old.bytes more live.within;
}

-- a span is longer by the bytes that were put behind it
pub extended : (at n : ℕ) (bytes more : List ℕ) → at + n ≡ length bytes
    → take (n + length more) (drop at (bytes ++ more)) ≡ take n (drop at bytes) ++ more
extended at n bytes more ends =
    let size : length (drop at bytes) ≡ n = omega (arith, length-drop at bytes, ends) in
    ap (take (n + length more)) (drop-append-le at bytes more (omega (arith, ends)))
    ∙ ap (λ k. take (k + length more) (drop at bytes ++ more)) (sym size)
    ∙ take-append-add (drop at bytes) more (length more)
    ∙ ap (λ back. drop at bytes ++ back) (take_all (length more) more (omega arith))
    ∙ ap (λ front. front ++ more) (sym (take_all n (drop at bytes) (omega (arith, size))))

-- what was put is named by its span
pub put_named : (bytes piece : List ℕ) → take (length piece) (drop (length bytes) (bytes ++ piece)) ≡ piece
put_named bytes piece = ap (take (length piece)) (drop_at bytes piece (length bytes) refl)
    ∙ take_all (length piece) piece (omega arith)

-- a piece is written over as many bytes as it has
pub length-overwritten : (at : ℕ) (piece bytes : List ℕ) → at + length piece ≤ length bytes
    → length (overwrite_at at piece bytes) ≡ length bytes
length-overwritten at piece bytes within =
    omega (
      arith,
      length-append (take at bytes) (piece ++ drop (at + length piece) bytes),
      length-append piece (drop (at + length piece) bytes),
      length-take at bytes,
      length-drop (at + length piece) bytes,
    )

-- what follows the written bytes stays
behind_written : (at : ℕ) (piece bytes : List ℕ) (from : ℕ) → at + length piece ≤ length bytes
    → at + length piece ≤ from → drop from (overwrite_at at piece bytes) ≡ drop from bytes
behind_written at piece bytes from within behind =
    let front : List ℕ = take at bytes ++ piece in
    let size : length front ≡ at + length piece =
    omega (arith, length-append (take at bytes) piece, length-take at bytes) in
    let rest : ℕ = from - (at + length piece) in
    let split : overwrite_at at piece bytes ≡ front ++ drop (at + length piece) bytes =
    sym (append_assoc (take at bytes) piece (drop (at + length piece) bytes)) in
    let place : from ≡ length front + rest = omega (arith, size) in
    ap (drop from) split
    ∙ ap (λ k. drop k (front ++ drop (at + length piece) bytes)) place
    ∙ drop-append-add front (drop (at + length piece) bytes) rest
    ∙ drop-drop rest (at + length piece) bytes
    ∙ ap (λ k. drop k bytes) (omega arith)

-- and what stands before them
before_written : (at : ℕ) (piece bytes : List ℕ) (n : ℕ) → at ≤ length bytes → n ≤ at
    → take n (overwrite_at at piece bytes) ≡ take n bytes
before_written at piece bytes n within before =
    take-append-le n (take at bytes) (piece ++ drop (at + length piece) bytes) (omega (arith, length-take at bytes))
    ∙ take-take n at bytes before

-- a part as take and drop in the other order
part : (from n : ℕ) (bytes : List ℕ) → take n (drop from bytes) ≡ drop from (take (from + n) bytes)
part from n bytes = sym (drop-take from n bytes)

-- a span apart from the written one names what it named
pub written_apart : (at : ℕ) (piece bytes : List ℕ) (from n : ℕ) → at + length piece ≤ length bytes
    → (at + length piece ≤ from) ⊎ (from + n ≤ at) →
    take n (drop from (overwrite_at at piece bytes)) ≡ take n (drop from bytes)
written_apart at piece bytes from n within (inl behind) = ap (take n) (behind_written at piece bytes from within behind)
written_apart at piece bytes from n within (inr before) =
    part from n (overwrite_at at piece bytes)
    ∙ ap (drop from) (before_written at piece bytes (from + n) (omega arith) before) ∙ sym (part from n bytes)

-- the written span names its bytes with the piece written over
pub written_in : (from n at : ℕ) (piece bytes : List ℕ) → at + length piece ≤ n → from + n ≤ length bytes →
    take n (drop from (overwrite_at (from + at) piece bytes)) ≡ overwrite_at at piece (take n (drop from bytes))
written_in from n at piece bytes within span =
    let rest : ℕ = n - (at + length piece) in
    let back : List ℕ = drop (from + at + length piece) bytes in
    let front : drop from (take (from + at) bytes) ≡ take at (drop from bytes) = drop-take from at bytes in
    let behind : drop (at + length piece) (take n (drop from bytes)) ≡ take rest back =
    ap (λ k. drop (at + length piece) (take k (drop from bytes))) (omega arith)
    ∙ drop-take (at + length piece) rest (drop from bytes)
    ∙ ap (take rest) (drop-drop (at + length piece) from bytes ∙ ap (λ k. drop k bytes) (omega arith)) in
    let size : length (take at (drop from bytes)) ≡ at =
    omega (arith, length-take at (drop from bytes), length-drop from bytes) in
    let shown : drop from (overwrite_at (from + at) piece bytes) ≡ (take at (drop from bytes) ++ piece) ++ back =
    drop-append-le from (take (from + at) bytes) (piece ++ back) (omega (arith, length-take (from + at) bytes))
    ∙ ap (λ xs. xs ++ (piece ++ back)) front
    ∙ sym (append_assoc (take at (drop from bytes)) piece back) in
    let whole : length (take at (drop from bytes) ++ piece) ≡ at + length piece =
    omega (arith, length-append (take at (drop from bytes)) piece, size) in
    ap (take n) shown
    ∙ ap (λ k. take k ((take at (drop from bytes) ++ piece) ++ back)) (omega (arith, whole))
    ∙ take-append-add (take at (drop from bytes) ++ piece) back rest
    ∙ ap (λ xs. (take at (drop from bytes) ++ piece) ++ xs) (sym behind)
    ∙ append_assoc (take at (drop from bytes)) piece (drop (at + length piece) (take n (drop from bytes)))
    ∙ ap (λ xs. xs ++ (piece ++ drop (at + length piece) (take n (drop from bytes))))
    (sym (take-take at n (drop from bytes) (omega arith)))

-- all spans stay live where a piece is written within the bytes held
pub live_written : (old new : Held) (from : ℕ) (piece : List ℕ) (span : Span) → from + length piece ≤ length old.bytes
    → new.bytes ≡ overwrite_at from piece old.bytes →
    new.clears ≡ old.clears → IsLive old span → IsLive new span
live_written old new from piece span within written clears live = record {
  era = live.era ∙ sym clears;
  within = omega (arith, live.within, ap length written, length-overwritten from piece old.bytes within);
}

-- the span that is written
pub gives_written : (old new : Held) (span : Span) (at : ℕ) (piece : List ℕ) → IsLive old span
    → at + length piece ≤ span.length →
    new.bytes ≡ overwrite_at (span.at + at) piece old.bytes → new.clears ≡ old.clears
    → Gives new span (overwrite_at at piece (bytes_of old span))
gives_written old new span at piece live within written clears = record {
  live = live_written old new (span.at + at) piece span (omega (arith, live.within)) written clears live;
  bytes_are = ap (λ bytes. take span.length (drop span.at bytes)) written
      ∙ written_in span.at span.length at piece old.bytes within live.within;
}

-- a span apart from the bytes written
pub others_written : (old new : Held) (span other : Span) (at : ℕ) (piece : List ℕ) → IsLive old span
    → at + length piece ≤ span.length →
    new.bytes ≡ overwrite_at (span.at + at) piece old.bytes → AreApart (part_of span at (length piece)) other
    → bytes_of new other ≡ bytes_of old other
others_written old new span other at piece live within written apart =
    ap (λ bytes. take other.length (drop other.at bytes)) written
    ∙ written_apart (span.at + at) piece old.bytes other.at other.length (omega (arith, live.within)) apart
