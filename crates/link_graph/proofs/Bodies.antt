-- The bodies of a segment stay where the spans of its region do.
use Rattle.std.proofs.Common.{◌≡◌, ℕ, zero, suc, ◌+◌, ◌-◌, ◌≤◌, inl, inr, List, [], ◌∷◌, ◌++◌, length}
use Rattle.std.proofs.Common.{map, drop, Option, Some, None, IfSome, refl, sym, ap, ◌∙◌, subst, arith}
use Rattle.std.proofs.Common.{length-append, append-nil, length-take}
use Rattle.std.specs.Prelude.{All, slice_get}
use Rattle.std.specs.Option.{option_map}
use Rattle.std.proofs.lemmas.Option.{slice_get-map, get_or_from_slice_get, slice_get_within}
use Rattle.std.proofs.lemmas.List.Elements.{All-push}
use Rattle.std.proofs.lemmas.List.{map-append}
use Rattle.scalar_types.specs.declared.Order.{Order}
use Rattle.frame_region.specs.declared.span.Span.{Span}
use Rattle.frame_region.specs.Region.{Held, IsLive, AreApart, bytes_of, with_piece, Gives, KeepsSpans}
use Rattle.link_graph.specs.declared.nodes.Node.{Node}
use Rattle.link_graph.specs.declared.nodes.Kept.{Kept}
use Rattle.link_graph.specs.Collected.{Bodied, Collected, Becomes, with_node, with_end, without_stat}
use Rattle.link_graph.specs.Kept.{without_stat_kept, bodied, Follow, IsBeside, AreKept, segment_view}

abbrev with_body : Node → List ℕ → Bodied
with_body node body = record { node = node; body = body }

abbrev ends_at : Span → ℕ
ends_at span = span.at + span.length

-- ---- spans one after another

pub follow-on : (start : ℕ) (records : List Kept) (last more : ℕ) → Follow start records last →
    last ≤ more → Follow start records more
follow-on start [] last more follow forward = omega (arith, follow)
follow-on start (kept ∷ rest) last more follow forward =
    (follow.0, follow-on (ends_at kept.span) rest last more follow.1 forward)

follow-push : (start : ℕ) (records : List Kept) (kept : Kept) (last : ℕ) →
    Follow start records kept.span.at → ends_at kept.span ≤ last → Follow start (records ++ kept ∷ []) last
follow-push start [] kept last follow forward = (follow, forward)
follow-push start (first ∷ rest) kept last follow forward =
    (follow.0, follow-push (ends_at first.span) rest kept last follow.1 forward)

pub follow-last : (start : ℕ) (records : List Kept) (last : ℕ) → Follow start records last → start ≤ last
follow-last start [] last follow = follow
follow-last start (kept ∷ rest) last follow = let on = follow-last (ends_at kept.span) rest last follow.1 in
    omega (arith, on, follow.0)

-- all end before the last place
pub follow-before : (start : ℕ) (records : List Kept) (last : ℕ) → Follow start records last →
    All (λ kept. kept.span.at + kept.span.length ≤ last) records
follow-before start [] last follow k d h = absurd (omega (arith, h))
follow-before start (kept ∷ rest) last follow zero d h = follow-last (ends_at kept.span) rest last follow.1
follow-before start (kept ∷ rest) last follow (suc k) d h =
    follow-before (ends_at kept.span) rest last follow.1 k d (omega (arith, h))

-- ---- a region that grows

pub bodied-kept : (old new : Held) (records : List Kept) → KeepsSpans old new →
    All (λ kept. IsLive old kept.span) records →
    map (bodied new) records ≡ map (bodied old) records
bodied-kept old new [] keeps live = refl
bodied-kept old new (kept ∷ rest) keeps live =
    let first : bytes_of new kept.span ≡ bytes_of old kept.span =
    (keeps kept.span (live 0 kept (omega arith))).bytes_are in
    let others : map (bodied new) rest ≡ map (bodied old) rest =
    bodied-kept old new rest keeps (λ k d h. live (suc k) d (omega arith)) in
    cc

pub end-kept : (old new : Held) (records : List Kept) (last : ℕ) (end_kept : Option Kept) →
    KeepsSpans old new → IfSome end_kept (IsBeside old records last) →
    option_map (bodied new) end_kept ≡ option_map (bodied old) end_kept
end-kept old new records last None keeps beside = refl
end-kept old new records last (Some kept) keeps beside =
    let same : bytes_of new kept.span ≡ bytes_of old kept.span = (keeps kept.span beside.live).bytes_are in
    cc

beside-grown : (old new : Held) (records : List Kept) (last more : ℕ) (end_kept : Option Kept) →
    KeepsSpans old new → last ≤ more →
    IfSome end_kept (IsBeside old records last) → IfSome end_kept (IsBeside new records more)
beside-grown old new records last more None keeps forward beside = tt
beside-grown old new records last more (Some kept) keeps forward beside = record {
  live = (keeps kept.span beside.live).live;
  before = omega (arith, beside.before, forward);
  apart = beside.apart;
}

beside-push : (region : Held) (records : List Kept) (last : ℕ) (kept : Kept) (end_kept : Option Kept) →
    last ≤ kept.span.at →
    IfSome end_kept (IsBeside region records last) →
    IfSome end_kept (IsBeside region (records ++ kept ∷ []) last)
beside-push region records last kept None after beside = tt
beside-push region records last kept (Some ended) after beside = record {
  live = beside.live;
  before = beside.before;
  apart = All-push (λ other. AreApart other.span ended.span) records kept beside.apart
      (inr (omega (arith, beside.before, after)));
}

-- where the bytes of nothing stand, which were put behind the others
pub nothing-put : (old new : Held) (next : Span) → new ≡ with_piece old [] →
    next ≡ record { at = length old.bytes; length = 0; era = old.clears } →
    (next.at ≡ length old.bytes) × (next.at + next.length ≡ length new.bytes)
nothing-put old new next after is =
    let at : next.at ≡ length old.bytes = ap (λ (p : Span). p.at) is in
    let size : next.length ≡ 0 = ap (λ (p : Span). p.length) is in
    let grown : length new.bytes ≡ length (old.bytes ++ []) = ap (λ (r : Held). length r.bytes) after in
    (at, omega (arith, at, size, grown, length-append old.bytes []))

-- all is kept with another pending body, which ends where the region does
pub kept-grown : (old new : Held) (records : List Kept) (end_kept : Option Kept) (pending next : Span) →
    KeepsSpans old new → AreKept old records end_kept pending →
    pending.at ≤ next.at → IsLive new next → next.at + next.length ≡ length new.bytes →
    AreKept new records end_kept next
kept-grown old new records end_kept pending next keeps kept forward live last = record {
  live = λ k d h. (keeps _ (kept.live k d h)).live;
  apart = follow-on 0 records pending.at next.at kept.apart forward;
  end_beside = beside-grown old new records pending.at next.at end_kept keeps forward kept.end_beside;
  pending_live = live;
  last = last;
}

-- one more record is kept, whose body was the pending one
pub kept-added : (old new : Held) (records : List Kept) (end_kept : Option Kept) (pending next : Span)
    (node : Node) → KeepsSpans old new → AreKept old records end_kept pending →
    pending.at + pending.length ≤ next.at → IsLive new next → next.at + next.length ≡ length new.bytes →
    AreKept new (records ++ record { node = node; span = pending } ∷ []) end_kept next
kept-added old new records end_kept pending next node keeps kept forward live last =
    let added : Kept = record { node = node; span = pending } in
    record {
      live = All-push (λ kept. IsLive new kept.span) records added
          (λ k d h. (keeps _ (kept.live k d h)).live) (keeps pending kept.pending_live).live;
      apart = follow-push 0 records added next.at kept.apart forward;
      end_beside = beside-grown old new (records ++ added ∷ []) pending.at next.at end_kept keeps
          (omega (arith, forward))
          (beside-push old records pending.at added end_kept (omega arith) kept.end_beside);
      pending_live = live;
      last = last;
    }

-- the end record is kept, whose body was the pending one
pub kept-ended : (old new : Held) (records : List Kept) (end_kept : Option Kept) (pending next : Span)
    (node : Node) → KeepsSpans old new → AreKept old records end_kept pending →
    pending.at + pending.length ≤ next.at → IsLive new next → next.at + next.length ≡ length new.bytes →
    AreKept new records (Some (record { node = node; span = pending })) next
kept-ended old new records end_kept pending next node keeps kept forward live last = record {
  live = λ k d h. (keeps _ (kept.live k d h)).live;
  apart = follow-on 0 records pending.at next.at kept.apart (omega (arith, forward));
  end_beside = record {
    live = (keeps pending kept.pending_live).live;
    before = forward;
    apart = λ k d h. inl (follow-before 0 records pending.at kept.apart k d h);
  };
  pending_live = live;
  last = last;
}

-- ---- what callers see

-- a piece was put behind the pending body
pub piece-put : (order : Order) (old new : Held) (records : List Kept) (end_kept : Option Kept)
    (pending next : Span) (piece : List ℕ) (s : Collected) →
    AreKept old records end_kept pending → KeepsSpans old new →
    Gives new next (bytes_of old pending ++ piece) →
    new ≡ record { bytes = old.bytes ++ piece; spare = old.spare - length piece; clears = old.clears } →
    segment_view order old records end_kept pending ≡ s →
    segment_view order new records end_kept next ≡ record s {
      pending = s.pending ++ piece;
      given =
          s.given + length piece;
      spare = s.spare - length piece;
    }
piece-put order old new records end_kept pending next piece s kept keeps gives grown is =
    let nodes : map (bodied new) records ≡ map (bodied old) records =
    bodied-kept old new records keeps kept.live in
    let ends : option_map (bodied new) end_kept ≡ option_map (bodied old) end_kept =
    end-kept old new records pending.at end_kept keeps kept.end_beside in
    let given : length new.bytes ≡ length old.bytes + length piece = ap (λ (r : Held). length r.bytes) grown
    ∙ length-append old.bytes piece in
    let spare : new.spare ≡ old.spare - length piece = ap (λ (r : Held). r.spare) grown in
    let made : segment_view order new records end_kept next ≡ record
    (segment_view order old records end_kept pending) {
      pending = bytes_of old pending ++ piece;
      given =
          length old.bytes + length piece;
      spare = old.spare - length piece;
    } =
    λ i. record {
      order = order;
      nodes = nodes i;
      end_record = ends i;
      pending = gives.bytes_are i;
      given =
          given i;
      spare = spare i;
    } in
    made ∙ ap (λ (s : Collected). record s {
      pending = s.pending ++ piece;
      given =
          s.given + length piece;
      spare = s.spare - length piece;
    }) is

-- the pending body became that of a new record, and none is pending
pub node-added : (order : Order) (old new : Held) (records : List Kept) (end_kept : Option Kept)
    (pending next : Span) (node : Node) (s : Collected) →
    AreKept old records end_kept pending → KeepsSpans old new → Gives new next [] →
    new.bytes ≡ old.bytes ++ [] → segment_view order old records end_kept pending ≡ s →
    Becomes (segment_view order new (records ++ record { node = node; span = pending } ∷ []) end_kept next)
    (with_node node s)
node-added order old new records end_kept pending next node s kept keeps gives grown is =
    let added : Kept = record { node = node; span = pending } in
    let same : bytes_of new pending ≡ bytes_of old pending = (keeps pending kept.pending_live).bytes_are in
    let seen : map (bodied new) (records ++ added ∷ []) ≡ map (bodied old) records ++ with_body node
    (bytes_of old pending) ∷ [] =
    map-append (bodied new) records (added ∷ [])
    ∙ (λ i. bodied-kept old new records keeps kept.live i ++ with_body node (same i) ∷ []) in
    record {
      order = ap (λ (s : Collected). s.order) is;
      nodes = seen ∙ ap (λ (s : Collected). s.nodes ++ with_body node s.pending ∷ []) is;
      end_record = end-kept old new records pending.at end_kept keeps kept.end_beside
          ∙ ap (λ (s : Collected). s.end_record) is;
      pending = gives.bytes_are;
      given = ap length (grown ∙ append-nil old.bytes) ∙ ap (λ (s : Collected). s.given) is;
    }

-- the same for the end record
pub end-set : (order : Order) (old new : Held) (records : List Kept) (end_kept : Option Kept)
    (pending next : Span) (node : Node) (s : Collected) →
    AreKept old records end_kept pending → KeepsSpans old new → Gives new next [] →
    new.bytes ≡ old.bytes ++ [] → segment_view order old records end_kept pending ≡ s →
    Becomes (segment_view order new records (Some (record { node = node; span = pending })) next)
    (with_end node s)
end-set order old new records end_kept pending next node s kept keeps gives grown is =
    let same : bytes_of new pending ≡ bytes_of old pending = (keeps pending kept.pending_live).bytes_are in
    record {
      order = ap (λ (s : Collected). s.order) is;
      nodes = bodied-kept old new records keeps kept.live ∙ ap (λ (s : Collected). s.nodes) is;
      end_record = (λ i. Some (with_body node (same i)))
          ∙ ap (λ (s : Collected). Some (with_body node s.pending)) is;
      pending = gives.bytes_are;
      given = ap length (grown ∙ append-nil old.bytes) ∙ ap (λ (s : Collected). s.given) is;
    }

-- none is pending
pub none-pending : (order : Order) (old new : Held) (records : List Kept) (end_kept : Option Kept)
    (pending next : Span) (s : Collected) →
    AreKept old records end_kept pending → KeepsSpans old new → Gives new next [] →
    new.bytes ≡ old.bytes ++ [] → segment_view order old records end_kept pending ≡ s →
    Becomes (segment_view order new records end_kept next) (record s { pending = [] })
none-pending order old new records end_kept pending next s kept keeps gives grown is = record {
  order = ap (λ (s : Collected). s.order) is;
  nodes = bodied-kept old new records keeps kept.live ∙ ap (λ (s : Collected). s.nodes) is;
  end_record = end-kept old new records pending.at end_kept keeps kept.end_beside
      ∙ ap (λ (s : Collected). s.end_record) is;
  pending = gives.bytes_are;
  given = ap length (grown ∙ append-nil old.bytes) ∙ ap (λ (s : Collected). s.given) is;
}

-- the record of a number, and its body
pub node-at : (region : Held) (records : List Kept) (nodes : List Bodied) (k : ℕ) (kept : Kept) →
    map (bodied region) records ≡ nodes → slice_get records k ≡ Some kept →
    slice_get nodes k ≡ Some (bodied region kept)
node-at region records nodes k kept is at =
    ap (λ (nodes : List Bodied). slice_get nodes k) (sym is) ∙ slice_get-map (bodied region) records k
    ∙ ap (option_map (bodied region)) at

-- the bytes of a span are no more than it names
pub few-bytes : (region : Held) (span : Span) → length (bytes_of region span) ≤ span.length
few-bytes region span = omega (arith, length-take span.length (drop span.at region.bytes))

-- ---- marked records

all-stat : (P : Span → Type 0) (records : List Kept) → All (λ kept. P kept.span) records →
    All (λ kept. P kept.span) (map without_stat_kept records)
all-stat P [] all k d h = absurd (omega (arith, h))
all-stat P (kept ∷ rest) all zero d h = all 0 kept (omega arith)
all-stat P (kept ∷ rest) all (suc k) d h =
    all-stat P rest (λ j e g. all (suc j) e (omega arith)) k d (omega (arith, h))

follow-stat : (start : ℕ) (records : List Kept) (last : ℕ) → Follow start records last →
    Follow start (map without_stat_kept records) last
follow-stat start [] last follow = follow
follow-stat start (kept ∷ rest) last follow = (follow.0, follow-stat (ends_at kept.span) rest last follow.1)

beside-stat : (region : Held) (records : List Kept) (last : ℕ) (end_kept : Option Kept) →
    IfSome end_kept (IsBeside region records last) →
    IfSome end_kept (IsBeside region (map without_stat_kept records) last)
beside-stat region records last None beside = tt
beside-stat region records last (Some kept) beside = record {
  live = beside.live;
  before = beside.before;
  apart = all-stat (λ span. AreApart span kept.span) records beside.apart;
}

pub kept-stat : (region : Held) (records : List Kept) (end_kept : Option Kept) (pending : Span) →
    AreKept region records end_kept pending →
    AreKept region (map without_stat_kept records) end_kept pending
kept-stat region records end_kept pending kept = record {
  live = all-stat (IsLive region) records kept.live;
  apart = follow-stat 0 records pending.at kept.apart;
  end_beside = beside-stat region records pending.at end_kept kept.end_beside;
  pending_live = kept.pending_live;
  last = kept.last;
}

pub bodied-stat : (region : Held) (records : List Kept) →
    map (bodied region) (map without_stat_kept records) ≡ map without_stat (map (bodied region) records)
bodied-stat region [] = refl
bodied-stat region (kept ∷ rest) =
    ap (λ more. without_stat (bodied region kept) ∷ more) (bodied-stat region rest)

-- the span of the record of a number is live
pub live-at : (region : Held) (records : List Kept) (k : ℕ) (kept : Kept) →
    All (λ kept. IsLive region kept.span) records → slice_get records k ≡ Some kept →
    IsLive region kept.span
live-at region records k kept live at =
    subst (λ (kept : Kept). IsLive region kept.span) (get_or_from_slice_get records k kept kept at)
    (live k kept (slice_get_within records k kept at))
