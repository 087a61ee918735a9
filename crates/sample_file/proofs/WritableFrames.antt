-- The frames of the sample file can be written.
use Rattle.std.proofs.Common.{◌≡◌, ℕ, zero, suc, ◌<◌, ◌≤◌, List, [], ◌∷◌, ◌++◌, map, Some, None}
use Rattle.std.proofs.Common.{refl, sym, arith, lit≤, lit<, subst}
use Rattle.std.specs.List.{AllByRecursion}
use Rattle.std.proofs.lemmas.List.Elements.{All-from_recursion, All-map, All-weaker}
use Rattle.std.proofs.lemmas.List.{map-append}
use Rattle.link_graph.specs.Table.{IsWithin}
use Rattle.canonical_file.specs.Ranges.{AreBytes, IsByte, IsInRange}
use Rattle.canonical_file.specs.Records.{entry_fields, end_record}
use Rattle.sample_file.specs.Entries.{frame_header, raw_data, channel, vector, frame_end}
use Rattle.sample_file.specs.Sample.{sample_closing, sample_frame, numbers_below, sample, vector_values}
use Rattle.sample_file.specs.Whole.{sample_frames}
use Rattle.canonical_laws.specs.Writable.{IsWritableFrame, IsWritableClosing, IsWritable}
use Rattle.canonical_laws.specs.Writable.{IsWritableRow, record_at}
use Rattle.sample_file.proofs.VectorValues.{vector-fits}
use Rattle.sample_file.proofs.WritableEntries.{all_entries}
use Rattle.sample_file.proofs.WritableEntries.{frame_header-writable, raw_data-writable, channel-writable}
use Rattle.sample_file.proofs.WritableEntries.{vector-writable, frame_end-writable, contents_table-writable}
use Rattle.sample_file.proofs.WritableEntries.{file_end-writable}
use Rattle.sample_file.proofs.Computing.{computing}

-- ---- the records of frame n

-- the samples are bytes
samples : (n j : ℕ) (is : List ℕ) → AreBytes (map (sample n j) is)
samples n j [] = All-from_recursion IsByte [] tt
samples n j (i ∷ is) = All-map IsByte (sample n j) (i ∷ is)
    (All-weaker (λ x. x ≡ x) (λ x. IsByte (sample n j x)) (λ x same. small x) (i ∷ is)
    (All-from_recursion (λ x. x ≡ x) (i ∷ is) (alike (i ∷ is))))
  where
    small : (x : ℕ) → IsByte (sample n j x)
    small x = omega arith

    alike : (xs : List ℕ) → AllByRecursion (λ x. x ≡ x) xs
    alike [] = tt
    alike (x ∷ xs) = (refl, alike xs)

-- so the values of a vector are in range
vector-range : (n j : ℕ) → AllByRecursion IsInRange (vector_values n j)
vector-range n j = (
  tt,
  (
    tt,
    (
      tt,
      (
        tt,
        (tt, (samples n j (numbers_below 64), (tt, (tt, (tt, (tt, (tt, (tt, ((lit< tt, lit< tt), (tt, tt)))))))))),
      ),
    ),
  ),
)

record-0 : (n : ℕ) → n ≤ 100000 → IsWritable (record_at (sample_frame n) 0)
unfolding computing
record-0 n small = record {
  entry = frame_header-writable;
  layout = entry_fields frame_header;
  is = refl;
  fits = (
    lit≤ tt,
    (
      lit< tt,
      (omega arith, (omega arith, (lit< tt, (lit< tt, (tt, (tt, (tt, (tt, (lit< tt, tt))))))))),
    ),
  );
  range = (
    tt,
    (
      tt,
      (
        tt,
        (
          tt,
          (tt, (tt, ((lit< tt, lit< tt), ((lit< tt, lit< tt), ((lit< tt, lit< tt), ((lit< tt, lit< tt), (tt, tt))))))),
        ),
      ),
    ),
  );
  instance = lit< tt;
  short = lit≤ tt;
}

record-1 : (n : ℕ) → n ≤ 100000 → IsWritable (record_at (sample_frame n) 1)
unfolding computing
record-1 n small = record {
  entry = raw_data-writable;
  layout = entry_fields raw_data;
  is = refl;
  fits = (lit≤ tt, (tt, (lit< tt, tt)));
  range = (tt, ((lit< tt, lit< tt), (tt, tt)));
  instance = lit< tt;
  short = lit≤ tt;
}

record-2 : (n : ℕ) → n ≤ 100000 → IsWritable (record_at (sample_frame n) 2)
unfolding computing
record-2 n small = record {
  entry = channel-writable;
  layout = entry_fields channel;
  is = refl;
  fits = (lit≤ tt, (lit< tt, (lit< tt, (tt, (tt, (lit< tt, tt))))));
  range = (tt, (tt, (tt, ((lit< tt, lit< tt), ((lit< tt, lit< tt), (tt, tt))))));
  instance = lit< tt;
  short = lit≤ tt;
}

record-3 : (n : ℕ) → n ≤ 100000 → IsWritable (record_at (sample_frame n) 3)
unfolding computing
record-3 n small = record {
  entry = vector-writable;
  layout = entry_fields vector;
  is = refl;
  fits = vector-fits n 0;
  range = vector-range n 0;
  instance = lit< tt;
  short = lit≤ tt;
}

record-4 : (n : ℕ) → n ≤ 100000 → IsWritable (record_at (sample_frame n) 4)
unfolding computing
record-4 n small = record {
  entry = channel-writable;
  layout = entry_fields channel;
  is = refl;
  fits = (lit≤ tt, (lit< tt, (lit< tt, (tt, (tt, (lit< tt, tt))))));
  range = (tt, (tt, (tt, ((lit< tt, lit< tt), ((lit< tt, lit< tt), (tt, tt))))));
  instance = lit< tt;
  short = lit≤ tt;
}

record-5 : (n : ℕ) → n ≤ 100000 → IsWritable (record_at (sample_frame n) 5)
unfolding computing
record-5 n small = record {
  entry = vector-writable;
  layout = entry_fields vector;
  is = refl;
  fits = vector-fits n 1;
  range = vector-range n 1;
  instance = lit< tt;
  short = lit≤ tt;
}

record-6 : (n : ℕ) → n ≤ 100000 → IsWritable (record_at (sample_frame n) 6)
unfolding computing
record-6 n small = record {
  entry = channel-writable;
  layout = entry_fields channel;
  is = refl;
  fits = (lit≤ tt, (lit< tt, (lit< tt, (tt, (tt, (lit< tt, tt))))));
  range = (tt, (tt, (tt, ((lit< tt, lit< tt), ((lit< tt, lit< tt), (tt, tt))))));
  instance = lit< tt;
  short = lit≤ tt;
}

record-7 : (n : ℕ) → n ≤ 100000 → IsWritable (record_at (sample_frame n) 7)
unfolding computing
record-7 n small = record {
  entry = vector-writable;
  layout = entry_fields vector;
  is = refl;
  fits = vector-fits n 2;
  range = vector-range n 2;
  instance = lit< tt;
  short = lit≤ tt;
}

record-end : (n : ℕ) → n ≤ 100000 → IsWritable (end_record (sample_frame n))
unfolding computing
record-end n small = record {
  entry = frame_end-writable;
  layout = entry_fields frame_end;
  is = refl;
  fits = (lit< tt, (omega arith, (lit< tt, tt)));
  range = (tt, (tt, (tt, tt)));
  instance = lit< tt;
  short = lit≤ tt;
}

-- ---- its rows

row-0 : (n : ℕ) → n ≤ 100000 → IsWritableRow all_entries (sample_frame n) 0
unfolding computing
row-0 n small = record {
  held = refl;
  kind = λ j below same. omega (arith, below);
  writable = record-0 n small;
  row = record {
    label = record { entry = refl; values = refl };
    as_many = refl;
    within = All-from_recursion (IsWithin 8) (Some 1 ∷ None ∷ None ∷ None ∷ []) (lit< tt, (tt, (tt, (tt, tt))));
  };
}

row-1 : (n : ℕ) → n ≤ 100000 → IsWritableRow all_entries (sample_frame n) 1
unfolding computing
row-1 n small = record {
  held = refl;
  kind = tt;
  writable = record-1 n small;
  row = record {
    label = record { entry = refl; values = refl };
    as_many = refl;
    within = All-from_recursion (IsWithin 8) (Some 2 ∷ []) (lit< tt, tt);
  };
}

row-2 : (n : ℕ) → n ≤ 100000 → IsWritableRow all_entries (sample_frame n) 2
unfolding computing
row-2 n small = record {
  held = refl;
  kind = tt;
  writable = record-2 n small;
  row = record {
    label = record { entry = refl; values = refl };
    as_many = refl;
    within = All-from_recursion (IsWithin 8) (Some 3 ∷ Some 4 ∷ []) (lit< tt, (lit< tt, tt));
  };
}

row-3 : (n : ℕ) → n ≤ 100000 → IsWritableRow all_entries (sample_frame n) 3
unfolding computing
row-3 n small = record {
  held = refl;
  kind = tt;
  writable = record-3 n small;
  row = record {
    label = record { entry = refl; values = refl };
    as_many = refl;
    within = All-from_recursion (IsWithin 8) (None ∷ []) (tt, tt);
  };
}

row-4 : (n : ℕ) → n ≤ 100000 → IsWritableRow all_entries (sample_frame n) 4
unfolding computing
row-4 n small = record {
  held = refl;
  kind = tt;
  writable = record-4 n small;
  row = record {
    label = record { entry = refl; values = refl };
    as_many = refl;
    within = All-from_recursion (IsWithin 8) (Some 5 ∷ Some 6 ∷ []) (lit< tt, (lit< tt, tt));
  };
}

row-5 : (n : ℕ) → n ≤ 100000 → IsWritableRow all_entries (sample_frame n) 5
unfolding computing
row-5 n small = record {
  held = refl;
  kind = tt;
  writable = record-5 n small;
  row = record {
    label = record { entry = refl; values = refl };
    as_many = refl;
    within = All-from_recursion (IsWithin 8) (None ∷ []) (tt, tt);
  };
}

row-6 : (n : ℕ) → n ≤ 100000 → IsWritableRow all_entries (sample_frame n) 6
unfolding computing
row-6 n small = record {
  held = refl;
  kind = tt;
  writable = record-6 n small;
  row = record {
    label = record { entry = refl; values = refl };
    as_many = refl;
    within = All-from_recursion (IsWithin 8) (Some 7 ∷ None ∷ []) (lit< tt, (tt, tt));
  };
}

row-7 : (n : ℕ) → n ≤ 100000 → IsWritableRow all_entries (sample_frame n) 7
unfolding computing
row-7 n small = record {
  held = refl;
  kind = tt;
  writable = record-7 n small;
  row = record {
    label = record { entry = refl; values = refl };
    as_many = refl;
    within = All-from_recursion (IsWithin 8) (None ∷ []) (tt, tt);
  };
}

rows : (n : ℕ) → n ≤ 100000 → (k : ℕ) → k < 8 → IsWritableRow all_entries (sample_frame n) k
rows n small zero below = row-0 n small
rows n small (suc zero) below = row-1 n small
rows n small (suc (suc zero)) below = row-2 n small
rows n small (suc (suc (suc zero))) below = row-3 n small
rows n small (suc (suc (suc (suc zero)))) below = row-4 n small
rows n small (suc (suc (suc (suc (suc zero))))) below = row-5 n small
rows n small (suc (suc (suc (suc (suc (suc zero)))))) below = row-6 n small
rows n small (suc (suc (suc (suc (suc (suc (suc zero))))))) below = row-7 n small
rows n small (suc (suc (suc (suc (suc (suc (suc (suc k)))))))) below = absurd (omega arith)

frame-writable : (n : ℕ) → n ≤ 100000 → IsWritableFrame all_entries (sample_frame n)
unfolding computing
frame-writable n small = record {
  rows = rows n small;
  end = record {
    held = refl;
    kind = refl;
    writable = record-end n small;
    label = record { entry = refl; values = refl };
  };
  header = 0;
  header_within = lit< tt;
  header_is = refl;
  load = lit≤ tt;
}

-- ---- the file

-- one more of a list
more-of : {X : Type 0} (P : X → Type 0) (xs : List X) (x : X) → AllByRecursion P xs → P x
    → AllByRecursion P (xs ++ x ∷ [])
more-of P [] x all one = (one, tt)
more-of P (y ∷ ys) x (first, others) one = (first, more-of P ys x others one)

pub frames-writable : (n : ℕ) → n ≤ 100000 → AllByRecursion (IsWritableFrame all_entries) (sample_frames n)
unfolding sample_frames
frames-writable zero small = tt
frames-writable (suc n) small =
    subst (AllByRecursion (IsWritableFrame all_entries)) (sym (map-append sample_frame (numbers_below n) (n ∷ [])))
    (more-of (IsWritableFrame all_entries) (map sample_frame (numbers_below n)) (sample_frame n)
    (frames-writable n (omega (arith, small))) (frame-writable n (omega (arith, small))))

pub closing-writable : IsWritableClosing all_entries sample_closing
unfolding computing
closing-writable = record {
  end = record { entry = file_end-writable; kind = refl; printed = refl; closes = refl; held = refl };
  table = record { entry = contents_table-writable; kind = refl; printed = refl; fit = refl; held = refl };
}
