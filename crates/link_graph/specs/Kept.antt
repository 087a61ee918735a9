-- How a segment is kept: its records in order with an index by class and instance, and their bodies as
-- spans of one region, of which no two have a byte in common.
use Rattle.std.specs.Prelude.{◌≡◌, ℕ, ◌+◌, ◌≤◌, List, [], ◌∷◌, map, length, position, All, Option, IfSome}
use Rattle.std.specs.Option.{option_map}
use Rattle.scalar_types.specs.declared.Order.{Order}
use Rattle.type_text.specs.declared.types.Link.{Link}
use Rattle.frame_region.specs.declared.span.Span.{Span}
use Rattle.frame_region.specs.Region.{Held, IsLive, AreApart, bytes_of}
use Rattle.link_graph.specs.declared.nodes.Kept.{Kept}
use Rattle.link_graph.specs.Collected.{Bodied, Collected, is_named, link_to, without_stat_node}

-- the number of the first record kept with a link's class and instance
abbrev pub number_in : List Kept → Link → Option ℕ
number_in records link = position (λ kept. is_named link kept.node) records

-- static data are no root
abbrev pub without_stat_kept : Kept → Kept
without_stat_kept kept = record { node = without_stat_node kept.node; span = kept.span }

-- the link that leads to a record kept
abbrev pub link_of : Kept → Link
link_of kept = link_to kept.node

-- the index has the link of each record
pub record AreNumbered (records : List Kept) (index : List Link) : Type 0 where
  pub few : length records ≤ 4294967295
  pub links : index ≡ map link_of records

-- a record with the body that its span names
abbrev pub bodied : Held → Kept → Bodied
bodied region kept = record { node = kept.node; body = bytes_of region kept.span }

-- the spans stand one after another from a place on, up to another
abbrev pub Follow : ℕ → List Kept → ℕ → Type 0
Follow start [] last = start ≤ last
Follow start (kept ∷ more) last = (start ≤ kept.span.at) × Follow (kept.span.at + kept.span.length) more last

-- the span of the end record is live, ends before a place, and is apart from those of the records
pub record IsBeside (region : Held) (records : List Kept) (last : ℕ) (kept : Kept) : Type 0 where
  pub live : IsLive region kept.span
  pub before : kept.span.at + kept.span.length ≤ last
  pub apart : All (λ other. AreApart other.span kept.span) records

-- all bodies are there, apart from one another, and the pending one stands at the end of the region
pub record AreKept (region : Held) (records : List Kept) (end_kept : Option Kept) (pending : Span) : Type 0
  where
    pub live : All (λ kept. IsLive region kept.span) records
    pub apart : Follow 0 records pending.at
    pub end_beside : IfSome end_kept (IsBeside region records pending.at)
    pub pending_live : IsLive region pending
    pub last : pending.at + pending.length ≡ length region.bytes

-- what callers see of what is kept
abbrev pub segment_view : Order → Held → List Kept → Option Kept → Span → Collected
segment_view order region records end_kept pending = record {
  order = order;
  nodes = map (bodied region) records;
  end_record = option_map (bodied region) end_kept;
  pending = bytes_of region pending;
  given = length region.bytes;
  spare = region.spare;
}
