-- Bytes written over others in the body of one record, and what the others keep.
use Rattle.std.proofs.Common.{◌≡◌, ℕ, zero, suc, ◌+◌, ◌<◌, ◌≤◌, inl, inr, List, [], ◌∷◌, length}
use Rattle.std.proofs.Common.{map, get_or, Option, Some, None, IfSome, refl, sym, ap, ◌∙◌}
use Rattle.std.proofs.Common.{arith}
use Rattle.std.specs.Prelude.{All, slice_set}
use Rattle.std.specs.Option.{option_map}
use Rattle.frame_region.specs.declared.span.Span.{Span}
use Rattle.frame_region.specs.Region.{Held, IsLive, AreApart, bytes_of, overwrite_at, part_of, with_written}
use Rattle.frame_region.specs.Region.{Gives}
use Rattle.frame_region.proofs.Spans.{length-overwritten}
use Rattle.link_graph.specs.declared.nodes.Kept.{Kept}
use Rattle.link_graph.specs.Kept.{bodied, Follow, IsBeside, AreKept}

-- What a write within a span leaves of the others.
pub record Writes (old new : Held) (span : Span) (at : ℕ) (piece : List ℕ) : Type 0 where
  pub within : at + length piece ≤ span.length
  pub gives : Gives new span (overwrite_at at piece (bytes_of old span))
  pub live : (other : Span) → IsLive old other → IsLive new other
  pub others : (other : Span) → IsLive old other → AreApart (part_of span at (length piece)) other →
      bytes_of new other ≡ bytes_of old other
  pub size : length new.bytes ≡ length old.bytes
  pub spare : new.spare ≡ old.spare

-- a span that ends before the written one begins, and one that begins after it ends
pub after-part : (old new : Held) (span : Span) (at : ℕ) (piece : List ℕ) (other : Span) →
    Writes old new span at piece → IsLive old other → AreApart span other →
    bytes_of new other ≡ bytes_of old other
after-part old new span at piece other writes live (inl behind) =
    writes.others other live (inl (omega (arith, writes.within, behind)))
after-part old new span at piece other writes live (inr before) =
    writes.others other live (inr (omega (arith, before)))

-- the first span begins no earlier than they all
first-after : (start : ℕ) (records : List Kept) (last : ℕ) (n : ℕ) (d : Kept) → Follow start records last →
    n < length records → start ≤ (get_or records n d).span.at
first-after start [] last n d follow lt = absurd (omega (arith, lt))
first-after start (kept ∷ rest) last zero d follow lt = follow.0
first-after start (kept ∷ rest) last (suc n) d follow lt =
    let on = first-after (kept.span.at + kept.span.length) rest last n d follow.1 (omega (arith, lt)) in
    omega (arith, on, follow.0)

rest-kept : (old new : Held) (span : Span) (at : ℕ) (piece : List ℕ) (start last : ℕ) (records : List Kept)
    → Writes old new span at piece → Follow start records last →
    span.at + span.length ≤ start → All (λ kept. IsLive old kept.span) records →
    map (bodied new) records ≡ map (bodied old) records
rest-kept old new span at piece start last [] writes follow after live = refl
rest-kept old new span at piece start last (kept ∷ rest) writes follow after live =
    let same : bytes_of new kept.span ≡ bytes_of old kept.span =
    after-part old new span at piece kept.span writes (live 0 kept (omega arith))
    (inl (omega (arith, after, follow.0))) in
    let others : map (bodied new) rest ≡ map (bodied old) rest =
    rest-kept old new span at piece (kept.span.at + kept.span.length) last rest writes follow.1
    (omega (arith, after, follow.0)) (λ k d h. live (suc k) d (omega arith)) in
    cc

-- the records after a write in the body of one of them
pub written-bodied : (old new : Held) (at : ℕ) (piece : List ℕ) (start last : ℕ) (records : List Kept)
    (n : ℕ) (d : Kept) → n < length records →
    Writes old new (get_or records n d).span at piece → Follow start records last →
    All (λ kept. IsLive old kept.span) records →
    map (bodied new) records ≡ slice_set (map (bodied old) records) n (bodied new (get_or records n d))
written-bodied old new at piece start last [] n d lt writes follow live = absurd (omega (arith, lt))
written-bodied old new at piece start last (kept ∷ rest) zero d lt writes follow live =
    ap (λ rs. bodied new kept ∷ rs)
    (rest-kept old new kept.span at piece (kept.span.at + kept.span.length) last rest writes follow.1
    (omega arith) (λ k d h. live (suc k) d (omega arith)))
written-bodied old new at piece start last (kept ∷ rest) (suc n) d lt writes follow live =
    let inner : n < length rest = omega (arith, lt) in
    let on = first-after (kept.span.at + kept.span.length) rest last n d follow.1 inner in
    let same : bytes_of new kept.span ≡ bytes_of old kept.span =
    after-part old new (get_or rest n d).span at piece kept.span writes (live 0 kept (omega arith))
    (inr on) in
    let others : map (bodied new) rest ≡ slice_set (map (bodied old) rest) n (bodied new (get_or rest n d)) =
    written-bodied old new at piece (kept.span.at + kept.span.length) last rest n d inner writes follow.1
    (λ k d h. live (suc k) d (omega arith)) in
    cc

-- the end record after it
pub written-end : (old new : Held) (at : ℕ) (piece : List ℕ) (last : ℕ) (records : List Kept) (n : ℕ) (d : Kept)
    (end_kept : Option Kept) → n < length records →
    Writes old new (get_or records n d).span at piece → IfSome end_kept (IsBeside old records last) →
    option_map (bodied new) end_kept ≡ option_map (bodied old) end_kept
written-end old new at piece last records n d None lt writes beside = refl
written-end old new at piece last records n d (Some kept) lt writes beside =
    let same : bytes_of new kept.span ≡ bytes_of old kept.span =
    after-part old new (get_or records n d).span at piece kept.span writes beside.live
    (beside.apart n d lt) in
    cc

beside-written : (old new : Held) (records : List Kept) (last : ℕ) (end_kept : Option Kept) →
    ((other : Span) → IsLive old other → IsLive new other) →
    IfSome end_kept (IsBeside old records last) → IfSome end_kept (IsBeside new records last)
beside-written old new records last None live beside = tt
beside-written old new records last (Some kept) live beside =
    record { live = live kept.span beside.live; before = beside.before; apart = beside.apart }

-- all is kept after a write
pub kept-written : (old new : Held) (records : List Kept) (end_kept : Option Kept) (pending span : Span)
    (at : ℕ) (piece : List ℕ) → AreKept old records end_kept pending →
    Writes old new span at piece → AreKept new records end_kept pending
kept-written old new records end_kept pending span at piece kept writes = record {
  live = λ k d h. writes.live _ (kept.live k d h);
  apart = kept.apart;
  end_beside = beside-written old new records pending.at end_kept writes.live kept.end_beside;
  pending_live = writes.live pending kept.pending_live;
  last = kept.last ∙ sym writes.size;
}

-- what `write` ensures
pub writes-from : (old new : Held) (span : Span) (at : ℕ) (piece : List ℕ) → IsLive old span →
    at + length piece ≤ span.length → new ≡ with_written old (span.at + at) piece →
    Gives new span (overwrite_at at piece (bytes_of old span)) →
    ((other : Span) → IsLive old other → IsLive new other) →
    ((other : Span) → IsLive old other → AreApart (part_of span at (length piece)) other →
    bytes_of new other ≡ bytes_of old other) → Writes old new span at piece
writes-from old new span at piece live within after gives lives others = record {
  within = within;
  gives = gives;
  live = lives;
  others = others;
  size = ap (λ (r : Held). length r.bytes) after
      ∙ length-overwritten (span.at + at) piece old.bytes (omega (arith, live.within, within));
  spare = ap (λ (r : Held). r.spare) after;
}
