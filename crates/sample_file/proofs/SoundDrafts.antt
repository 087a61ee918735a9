-- The drafts of a frame are sound, and they make the frame.
use Rattle.std.proofs.Common.{◌≡◌, ℕ, zero, suc, ◌<◌, ◌≤◌, true, [], ◌∷◌, Some, None, refl}
use Rattle.std.proofs.Common.{lit≤, lit<, arith, subst}
use Rattle.std.specs.Prelude.{Contains}
use Rattle.std.specs.List.{AllByRecursion}
use Rattle.std.proofs.lemmas.Bool.{false≢true}
use Rattle.std.proofs.lemmas.Option.{same_Some}
use Rattle.rooted_graph.proofs.Places.{Contains_from_has}
use Rattle.frame_content.specs.Frames.{row_at}
use Rattle.contents_table.specs.Channels.{is_frame_header, header_of}
use Rattle.canonical_file.specs.Ordered.{ordered}
use Rattle.canonical_file.specs.Renumbered.{HasOneHeader}
use Rattle.sample_file.specs.Sample.{sample_frame}
use Rattle.sample_file.specs.Drafts.{IsSound, header_draft, raw_draft, channel_draft, vector_draft, end_draft}
use Rattle.sample_file.specs.Drafts.{drafts_before}
use Rattle.sample_file.proofs.Computing.{computing}
use Rattle.sample_file.proofs.InOrder.{sample_order, sample_graph}
use Rattle.sample_file.proofs.VectorValues.{vector-fits}
use Rattle.sample_file.proofs.Learnt.{header-layout, raw-layout, channel-layout, vector-layout, end-layout}
use Rattle.sample_file.proofs.DraftLemmas.{drafted_frame, drafted_graph, drafted_loose}

-- ---- each of them

pub header-sound : (k : ℕ) → k ≤ 100000 → IsSound (header_draft k)
header-sound k small = record {
  layout = header-layout;
  fits =
      (lit≤ tt, (lit< tt, (omega arith, (omega arith, (lit< tt, (lit< tt, (tt, (tt, (tt, (tt, (lit< tt, tt)))))))))));
  short = lit≤ tt;
}

pub raw-sound : IsSound raw_draft
raw-sound = record { layout = raw-layout; fits = (lit≤ tt, (tt, (lit< tt, tt))); short = lit≤ tt }

pub channel-sound : (j : ℕ) → j < 3 → IsSound (channel_draft j)
channel-sound j below = record {
  layout = channel-layout;
  fits = (lit≤ tt, (omega arith, (lit< tt, (tt, (tt, (lit< tt, tt))))));
  short = lit≤ tt;
}

pub vector-sound : (k j : ℕ) → IsSound (vector_draft k j)
vector-sound k j = record {
  layout = vector-layout;
  fits = vector-fits k j;
  short = lit≤ tt;
}

pub end-sound : (k : ℕ) → k ≤ 100000 → IsSound (end_draft k)
end-sound k small =
    record { layout = end-layout; fits = (lit< tt, (omega arith, (lit< tt, tt))); short = lit≤ tt }

pub drafts-sound : (k : ℕ) → k ≤ 100000 → AllByRecursion IsSound (drafts_before k 3)
drafts-sound k small = (
  header-sound k small,
  (
    raw-sound,
    (
      channel-sound 0 (lit< tt),
      (
        vector-sound k 0,
        (
          channel-sound 1 (lit< tt),
          (vector-sound k 1, (channel-sound 2 (lit< tt), (vector-sound k 2, tt))),
        ),
      ),
    ),
  ),
)

-- ---- what they make

pub drafted-is : (k : ℕ) → drafted_frame (drafts_before k 3) (end_draft k) ≡ sample_frame k
unfolding computing
drafted-is k = refl

pub links-are : (k : ℕ) → drafted_graph (drafts_before k 3) ≡ sample_graph
unfolding sample_graph sample_frame
links-are k = refl

pub none-loose : (k : ℕ) → drafted_loose (drafts_before k 3) 0 (drafts_before k 3) ≡ None
none-loose k = refl

pub sample-ordered : (k : ℕ) → ordered (sample_frame k) sample_order ≡ sample_frame k
unfolding sample_order sample_frame
sample-ordered k = refl

-- ---- its one header

only-header : (k n : ℕ) → is_frame_header (row_at (sample_frame k) n) ≡ true → header_of (sample_frame k) ≡ Some n
unfolding sample_frame
only-header k zero is = refl
only-header k (suc zero) is = absurd (false≢true is)
only-header k (suc (suc zero)) is = absurd (false≢true is)
only-header k (suc (suc (suc zero))) is = absurd (false≢true is)
only-header k (suc (suc (suc (suc zero)))) is = absurd (false≢true is)
only-header k (suc (suc (suc (suc (suc zero))))) is = absurd (false≢true is)
only-header k (suc (suc (suc (suc (suc (suc zero)))))) is = absurd (false≢true is)
only-header k (suc (suc (suc (suc (suc (suc (suc zero))))))) is = absurd (false≢true is)
only-header k (suc (suc (suc (suc (suc (suc (suc (suc n)))))))) is = absurd (false≢true is)

-- The frame has one FrameH, which is its root.
pub one-header : (k : ℕ) → HasOneHeader (sample_frame k)
unfolding sample_frame
one-header k = record {
  only = only-header k;
  root = λ n is. subst (Contains (0 ∷ [])) (same_Some 0 n is) (Contains_from_has (0 ∷ []) 0 refl);
}
