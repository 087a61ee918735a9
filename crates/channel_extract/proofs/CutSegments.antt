-- A segment after each of the changes of a cut: its frame is the cut.
use Rattle.std.proofs.Common.{◌≡◌, ℕ, ◌<◌, ◌⊎◌, inl, inr, List, ◌++◌, length, map, Option, Some, None, IsSomeAnd, false}
use Rattle.std.proofs.Common.{sym, ap, ◌∙◌, subst}
use Rattle.std.specs.Prelude.{All}
use Rattle.std.proofs.lemmas.Bool.{cases_eq}
use Rattle.std.proofs.lemmas.List.{length-map, length-set}
use Rattle.dictionary.specs.declared.entries.Entry.{Entry}
use Rattle.link_graph.specs.declared.nodes.Root.TheVariants.{Head, Stat}
use Rattle.link_graph.specs.Collected.{Collected, without_stat}
use Rattle.link_graph.specs.Graph.{Layouts, ReadsBy}
use Rattle.frame_content.specs.Frames.{Frame, frame_of, row_of, row_at, label_at}
use Rattle.contents_table.specs.declared.kind.Kind.{Kind}
use Rattle.contents_table.specs.declared.layouts.ChannelLayouts.{ChannelLayouts}
use Rattle.contents_table.specs.Channels.{structure_of, is_under_raw_data, frame_header, raw_data, head_field}
use Rattle.contents_table.specs.Channels.{header_of, upper}
use Rattle.contents_table.specs.Layouts.{AreOf, IsNamed, IsUnder, IsRawData, IsHeadField, IsNextField, upper_of}
use Rattle.contents_table.proofs.ListHeads.{structure-some}
use Rattle.channel_extract.specs.Cuts.{cut, only_link, head_link}
use Rattle.channel_extract.specs.Cutting.{IsChannelIn, KeepsRecords, IsTarget, HaveSameNodes, with_roots}
use Rattle.channel_extract.specs.Cutting.{linked_row, relinked_at}
use Rattle.channel_extract.proofs.Relinking.{roots-same}
use Rattle.channel_extract.proofs.ChannelTargets.{IsLedTo, target-led, channel-led, channel-first, raw-led}
use Rattle.channel_extract.proofs.ChannelTargets.{first-upper, first-header}
use Rattle.channel_extract.proofs.ChannelTargets.{channel-of_kind, channel-apart}
use Rattle.channel_extract.proofs.CutRows.{AreCutSteps, upper_links, raw_links, last_links, label-on}
use Rattle.channel_extract.proofs.CutRows.{rows-cut, end-cut}
use Rattle.channel_extract.proofs.KeptRecords.{is-target-kept, head-kept, next-kept, frame-without}

-- a record leads to another alone
pub record IsLed (plans : Layouts) (node : ℕ) (field : Option ℕ) (to : ℕ) (old new : Collected) : Type 0 where
  pub links : (held : List Entry) (of : ChannelLayouts) (name : List ℕ) → (node ≡ to → ⊥) → AreOf held plans of
      → IsSomeAnd field (IsHeadField held plans old name node) → IsTarget old to
      → frame_of held new ≡ relinked_at (frame_of held old) node
      (only_link (head_link name (label_at (frame_of held old) node)) to (row_at (frame_of held old) node).links)
  pub same : node ≡ to → new ≡ old
  pub nodes : HaveSameNodes old new
  pub records : KeepsRecords plans old new

-- a list ends at a record
pub record IsEnded (plans : Layouts) (node : ℕ) (field : Option ℕ) (old new : Collected) : Type 0 where
  pub links : (held : List Entry) (of : ChannelLayouts) → AreOf held plans of → IsNextField held plans old node field
      → frame_of held new ≡ relinked_at (frame_of held old) node (last_links (frame_of held old) node)
  pub nodes : HaveSameNodes old new
  pub records : KeepsRecords plans old new

-- FrameH and the record above the channels, their fields, and the segment before the changes and after each
pub record AreSegmentsCut (held : List Entry) (plans : Layouts) (layouts : ChannelLayouts) (kind : Kind) (k h u : ℕ)
    (head raw next : Option ℕ) (s0 s1 s2 s3 : Collected) : Type 0 where
  pub reads : All (ReadsBy plans s0.order) s0.nodes
  pub channel_in : k < length s0.nodes
  pub header_is : Some h ≡ header_of (frame_of held s0)
  pub header_named : IsNamed held s0 frame_header h
  pub header_in : h < length s0.nodes
  pub upper_is : Some u ≡ upper (frame_of held s0) kind
  pub upper_named : IsNamed held s0 (upper_of kind) u
  pub upper_in : u < length s0.nodes
  pub head_is : (held : List Entry) (plans : Layouts) (s : Collected) (n k : ℕ)
      → IsUnder held plans layouts s kind n k → IsSomeAnd head (IsHeadField held plans s (structure_of kind) n)
  pub raw_is : (held : List Entry) (plans : Layouts) (s : Collected) (n m : ℕ)
      → IsRawData held plans layouts s n m → IsSomeAnd raw (IsHeadField held plans s raw_data n)
  pub next_is : (held : List Entry) (plans : Layouts) (s : Collected) (n k : ℕ)
      → IsUnder held plans layouts s kind n k → IsNextField held plans s k next
  pub first : IsLed plans u head k s0 s1
  pub second : IsLed plans h raw u s1 s2
  pub third : IsEnded plans k next s2 s3

some-kept : {X : Type 0} (P Q : X → Type 0) (o : Option X) → ((x : X) → P x → Q x) → IsSomeAnd o P → IsSomeAnd o Q
some-kept P Q None f is = is
some-kept P Q (Some x) f is = f x is

module _ (held : List Entry) (plans : Layouts) (layouts : ChannelLayouts) (kind : Kind) (k h u : ℕ)
    (head raw next : Option ℕ) (s0 s1 s2 s3 : Collected) (channel : IsChannelIn held plans layouts s0 kind k)
    (steps : AreSegmentsCut held plans layouts kind k h u head raw next s0 s1 s2 s3) where
  led : IsLedTo held s0 (structure_of kind) k
  led = channel-led held s0 kind channel.name k channel.named

  channel-named : IsNamed held s0 (structure_of kind) k
  channel-named =
      channel-of_kind held plans layouts s0 (structure_of kind) k channel.are steps.reads (structure-some kind) led

  under : IsUnder held plans layouts s0 kind u k
  under = record {
    are = channel.are;
    reads = steps.reads;
    upper_is = sym steps.upper_is;
    upper_named = steps.upper_named;
    first = channel-first (frame_of held s0) kind channel.name k channel.named;
    named = channel-named;
  }

  not-upper : k ≡ u → ⊥
  not-upper =
      channel-apart held s0 kind (is_under_raw_data kind) k u channel.are.sound channel-named steps.upper_named

  not-header : k ≡ h → ⊥
  not-header = channel-apart held s0 kind false k h channel.are.sound channel-named steps.header_named

  within : (n : ℕ) → n < length s0.nodes → n < length (frame_of held s0).rows
  within n less = subst (λ m. n < m) (sym (length-map s0.nodes (row_of s0.order held s0.nodes))) less

  first-is : frame_of held s1 ≡ relinked_at (frame_of held s0) u (upper_links (frame_of held s0) kind u k)
  first-is =
      steps.first.links held layouts (structure_of kind) (λ e. not-upper (sym e)) channel.are
      (steps.head_is held plans s0 u k under) led.target

  first-label : (n : ℕ) → label_at (frame_of held s1) n ≡ label_at (frame_of held s0) n
  first-label n =
      ap (λ f. label_at f n) first-is
      ∙ label-on (frame_of held s0) u n (upper_links (frame_of held s0) kind u k) (within u steps.upper_in)

  second-is : (h ≡ u → ⊥)
      → frame_of held s2 ≡ relinked_at (frame_of held s1) h (raw_links (frame_of held s1) h u)
  second-is apart =
      let leads = raw-led (frame_of held s0) kind h u (sym steps.header_is) (sym steps.upper_is) apart in
      let field = steps.raw_is held plans s0 h u (record {
        are = channel.are;
        reads = steps.reads;
        named = steps.header_named;
        leads = leads;
      }) in
      steps.second.links held layouts raw_data apart channel.are
      (some-kept (IsHeadField held plans s0 raw_data h) (IsHeadField held plans s1 raw_data h) raw
      (λ field is. head-kept held plans s0 s1 raw_data h field steps.first.records.records (first-label h) is) field)
      (is-target-kept s0 s1 u steps.first.records.records
      (target-led held s0 raw_data h u (head_field raw_data (label_at (frame_of held s0) h).entry.elements)
      leads).target)

  first-many : length (frame_of held s1).rows ≡ length (frame_of held s0).rows
  first-many =
      ap (λ (f : Frame). length f.rows) first-is
      ∙ length-set (frame_of held s0).rows u
      (linked_row (row_at (frame_of held s0) u) (upper_links (frame_of held s0) kind u k))

  second-label : (n : ℕ) → label_at (frame_of held s2) n ≡ label_at (frame_of held s1) n
  second-label n = by (cases_eq h u)
    where
      by : (h ≡ u) ⊎ (h ≡ u → ⊥) → label_at (frame_of held s2) n ≡ label_at (frame_of held s1) n
      by (inl same) = ap (λ s. label_at (frame_of held s) n) (steps.second.same same)
      by (inr apart) =
          ap (λ f. label_at f n) (second-is apart)
          ∙ label-on (frame_of held s1) h n (raw_links (frame_of held s1) h u)
          (subst (λ m. h < m) (sym first-many) (within h steps.header_in))

  third-is : frame_of held s3 ≡ relinked_at (frame_of held s2) k (last_links (frame_of held s2) k)
  third-is =
      steps.third.links held layouts channel.are
      (next-kept held plans s0 s2 k next (steps.second.records.records ∙ steps.first.records.records)
      (second-label k ∙ first-label k) (steps.next_is held plans s0 u k under))

  cut-steps : AreCutSteps (frame_of held s0) (frame_of held s1) (frame_of held s2) (frame_of held s3) kind h u k
  cut-steps = record {
    header_is = sym steps.header_is;
    upper_is = sym steps.upper_is;
    header_in = within h steps.header_in;
    upper_in = within u steps.upper_in;
    channel_in = within k steps.channel_in;
    channel_upper = not-upper;
    channel_header = not-header;
    first = first-is;
    same = λ e. ap (frame_of held) (steps.second.same e);
    second = second-is;
    third = third-is;
  }

  pub nodes-stay : HaveSameNodes s0 s3
  nodes-stay = steps.third.nodes ∙ steps.second.nodes ∙ steps.first.nodes

  pub links-cut : frame_of held s3 ≡ with_roots (frame_of held s0).roots (cut (frame_of held s0) kind k)
  links-cut =
      let f0 = frame_of held s0 in
      let f1 = frame_of held s1 in
      let f2 = frame_of held s2 in
      let f3 = frame_of held s3 in
      λ i. record {
        rows = rows-cut f0 f1 f2 f3 kind h u k cut-steps i;
        roots = roots-same Head 0 s0.nodes s3.nodes nodes-stay i ++ roots-same Stat 0 s0.nodes s3.nodes nodes-stay i;
        end = end-cut f0 f1 f2 f3 kind h u k cut-steps i;
      }

-- the head is the only root then
pub segment-cut : (held : List Entry) (plans : Layouts) (layouts : ChannelLayouts) (kind : Kind) (k : ℕ)
    (s0 s3 s4 : Collected) → IsChannelIn held plans layouts s0 kind k → HaveSameNodes s0 s3
    → frame_of held s3 ≡ with_roots (frame_of held s0).roots (cut (frame_of held s0) kind k)
    → s4 ≡ record s3 { nodes = map without_stat s3.nodes } → frame_of held s4 ≡ cut (frame_of held s0) kind k
segment-cut held plans layouts kind k s0 s3 s4 channel same links whole =
    frame-without held s3 s4 whole
    ∙ (λ i. with_roots ((roots-same Head 0 s0.nodes s3.nodes same ∙ channel.heads) i) (links i))

-- where the frame has the channel, it has FrameH and the record above the channels
pub header-there : (held : List Entry) (plans : Layouts) (layouts : ChannelLayouts) (s : Collected) (kind : Kind)
    (k : ℕ)
    → IsChannelIn held plans layouts s kind k → header_of (frame_of held s) ≡ None → ⊥
header-there held plans layouts s kind k channel =
    first-header (frame_of held s) kind (channel-first (frame_of held s) kind channel.name k channel.named)

pub upper-there : (held : List Entry) (plans : Layouts) (layouts : ChannelLayouts) (s : Collected) (kind : Kind)
    (k : ℕ)
    → IsChannelIn held plans layouts s kind k → upper (frame_of held s) kind ≡ None → ⊥
upper-there held plans layouts s kind k channel =
    first-upper (frame_of held s) kind (channel-first (frame_of held s) kind channel.name k channel.named)
