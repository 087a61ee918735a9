-- A frame that is put together whole is the frame of its number, and can be written.
use Rattle.std.proofs.Common.{◌≡◌, ℕ, Bool, true, false, cond, List, [], ◌∷◌, Option, Some, None, All, refl, sym, ap}
use Rattle.std.proofs.Common.{◌∙◌, subst}
use Rattle.std.specs.Prelude.{◌==◌, IsSomeAnd}
use Rattle.std.specs.List.{AllByRecursion}
use Rattle.std.proofs.lemmas.Option.{same_Some, none-some}
use Rattle.scalar_types.specs.declared.Order.TheVariants.{Little}
use Rattle.dictionary.specs.declared.entries.Entry.{Entry}
use Rattle.dictionary.specs.Dictionary.{entry_of, IsDictionary}
use Rattle.rooted_graph.specs.BreadthOrder.{IsBreadthOrder}
use Rattle.rooted_graph.specs.GraphLaws.{OrdersAreUnique}
use Rattle.link_graph.specs.Collected.{Bodied}
use Rattle.link_graph.specs.Graph.{ReadsBy, graph_of, first_loose}
use Rattle.file_grammar.specs.Record.{layout_in}
use Rattle.frame_content.specs.Frames.{frame_by, frame_of}
use Rattle.canonical_file.specs.Ordered.{ordered}
use Rattle.canonical_file.specs.Renumbered.{HasOneHeader}
use Rattle.contents_table.specs.Layouts.{layouts_of, AreOf}
use Rattle.canonical_writer.specs.Parts.{IsShortEntry, CanBeWritten}
use Rattle.sample_file.specs.declared.frames.SampleFrame.{SampleFrame}
use Rattle.sample_file.specs.Entries.{sample_entries, frame_header, raw_data, channel, vector, frame_end}
use Rattle.sample_file.specs.Sample.{sample_frame}
use Rattle.sample_file.specs.Drafts.{IsOf, IsWhole, drafts_before, end_draft}
use Rattle.sample_file.specs.Lent.{IsSampleRoom, IsSampleFrame}
use Rattle.sample_file.proofs.InOrder.{sample_order, sample_graph, sample-breadth}
use Rattle.sample_file.proofs.SampleClosings.{short-entry}
use Rattle.sample_file.proofs.DraftLemmas.{drafted_frame, reads, all-read, graph-is, first-loose, frame-is}
use Rattle.sample_file.proofs.SoundDrafts.{drafts-sound, end-sound, drafted-is, links-are, none-loose, sample-ordered}
use Rattle.sample_file.proofs.SoundDrafts.{one-header}

-- every body reads
pub whole-read : (f : SampleFrame) (k : ℕ) → IsSampleRoom f → IsWhole k f.segment
    → All (ReadsBy f.plans f.segment.order) f.segment.nodes
whole-read f k room whole =
    all-read f.plans room.plans f.segment.order room.order (drafts_before k 3) f.segment.nodes
    (drafts-sound k whole.small) whole.nodes

-- no link is loose
pub whole-linked : (f : SampleFrame) (k : ℕ) → IsSampleRoom f → IsWhole k f.segment
    → first_loose f.plans f.segment ≡ None
whole-linked f k room whole =
    first-loose f.plans f.segment (drafts_before k 3) room.plans room.order (drafts-sound k whole.small) whole.nodes
    ∙ none-loose k

pub not-loose : (f : SampleFrame) (k node link : ℕ) → IsSampleRoom f → IsWhole k f.segment
    → first_loose f.plans f.segment ≡ Some (node, link) → ⊥
not-loose f k node link room whole loose = none-some (node, link) (sym (whole-linked f k room whole) ∙ loose)

-- the numbers are 0, 1 and so on
whole-order : OrdersAreUnique → (f : SampleFrame) (k : ℕ) (numbers : List ℕ) → IsSampleRoom f → IsWhole k f.segment
    → IsBreadthOrder (graph_of f.plans f.segment) numbers → numbers ≡ sample_order
whole-order unique f k numbers room whole breadth =
    let graph : graph_of f.plans f.segment ≡ sample_graph =
    graph-is f.plans f.segment (drafts_before k 3) room.plans room.order (drafts-sound k whole.small) whole.nodes
    ∙ links-are k in
    unique sample_graph numbers sample_order (subst (λ g. IsBreadthOrder g numbers) graph breadth) sample-breadth

whole-end : (f : SampleFrame) (k : ℕ) → IsSampleRoom f → IsWhole k f.segment
    → IsSomeAnd f.segment.end_record (ReadsBy f.plans f.segment.order)
whole-end f k room whole = by f.segment.end_record whole.end
  where
    by : (o : Option Bodied) → IsSomeAnd o (IsOf (end_draft k)) → IsSomeAnd o (ReadsBy f.plans f.segment.order)
    by None is = is
    by (Some last) is =
        reads f.plans room.plans f.segment.order room.order (end_draft k) last (end-sound k whole.small) is

-- it is the frame
whole-frame : (f : SampleFrame) (k : ℕ) → IsSampleRoom f → IsWhole k f.segment
    → frame_of f.dictionary f.segment ≡ sample_frame k
whole-frame f k room whole =
    (λ i. frame_by (room.order i) (room.dictionary i) f.segment.nodes f.segment.end_record)
    ∙ by f.segment.end_record whole.end ∙ drafted-is k
  where
    by : (o : Option Bodied) → IsSomeAnd o (IsOf (end_draft k))
        → frame_by Little sample_entries f.segment.nodes o ≡ drafted_frame (drafts_before k 3) (end_draft k)
    by None is = absurd is
    by (Some last) is =
        frame-is (drafts_before k 3) f.segment.nodes (end_draft k) last (drafts-sound k whole.small) whole.nodes
        (end-sound k whole.small) is

-- ---- short texts

entries-short : AllByRecursion IsShortEntry sample_entries
unfolding sample_entries
entries-short = (
  short-entry frame_header refl refl refl,
  (
    short-entry raw_data refl refl refl,
    (
      short-entry channel refl refl refl,
      (short-entry vector refl refl refl, (short-entry frame_end refl refl refl, tt)),
    ),
  ),
)

-- an entry that is held is one of the list
of-held : (held : List Entry) → AllByRecursion IsShortEntry held → (class : ℕ) (e : Entry)
    → entry_of held class ≡ Some e → IsShortEntry e
of-held [] all class e is = cc
of-held (x ∷ held) (first, others) class e is = by (class == x.class) (of-held held others class e) is
  where
    by : (b : Bool) → (entry_of held class ≡ Some e → IsShortEntry e)
        → cond b (Some x) (entry_of held class) ≡ Some e → IsShortEntry e
    by true later is = subst IsShortEntry (same_Some x e is) first
    by false later is = later is

texts-short : (held : List Entry) → held ≡ sample_entries → (class : ℕ) (e : Entry) → entry_of held class ≡ Some e
    → IsShortEntry e
texts-short held same class e is =
    of-held sample_entries entries-short class e (ap (λ h. entry_of h class) (sym same) ∙ is)

-- ---- the whole

can-be-written : (f : SampleFrame) (k : ℕ) (numbers : List ℕ) → IsSampleRoom f → IsWhole k f.segment
    → IsBreadthOrder (graph_of f.plans f.segment) numbers → CanBeWritten f.dictionary f.plans f.segment numbers
can-be-written f k numbers room whole breadth = record {
  bodies = whole-read f k room whole;
  end = whole-end f k room whole;
  breadth = breadth;
  texts = texts-short f.dictionary room.dictionary;
  header = subst HasOneHeader (sym (whole-frame f k room whole)) (one-header k);
}

are-of : (f : SampleFrame) → IsSampleRoom f → IsDictionary f.dictionary → AreOf f.dictionary f.plans f.layouts
are-of f room sound = record {
  sound = sound;
  plans_are = λ class. room.plans class ∙ ap (λ held. layout_in held class) (sym room.dictionary);
  layouts_are = room.layouts ∙ ap layouts_of (sym room.dictionary);
}

-- The frame of this number, as it is lent.
pub sample-lent : OrdersAreUnique → (f : SampleFrame) (k : ℕ) (numbers : List ℕ) → IsSampleRoom f
    → IsDictionary f.dictionary → IsWhole k f.segment → IsBreadthOrder (graph_of f.plans f.segment) numbers
    → IsSampleFrame k f numbers
sample-lent unique f k numbers room sound whole breadth = record {
  bodies = whole-read f k room whole;
  layouts = are-of f room sound;
  can = can-be-written f k numbers room whole breadth;
  is = ap (λ frame. ordered frame numbers) (whole-frame f k room whole)
      ∙ ap (ordered (sample_frame k)) (whole-order unique f k numbers room whole breadth) ∙ sample-ordered k;
}
