-- Positions in rows: those of one name together, or those of one frame.
use Rattle.std.proofs.Common.{◌≡◌, ℕ, zero, suc, ◌+◌, ◌*◌, ◌/◌, ◌%◌, ◌<◌, Bool, true, false, List, [], ◌∷◌}
use Rattle.std.proofs.Common.{◌++◌, length, map, take, get_or, option_map, Some, inl, inr, refl, sym, ap, ◌∙◌, arith}
use Rattle.std.specs.Prelude.{flat_map, slice_get, if◌then◌else◌}
use Rattle.std.proofs.Math.Nat.{suc-mul, zero-mul, mul-zero, mul_comm}
use Rattle.std.proofs.lemmas.Bool.{cases_lt}
use Rattle.std.proofs.lemmas.List.{length-append, length-map, length-take-le, same_lists, get_or_default}
use Rattle.std.proofs.lemmas.List.Concat.{get_or-flat_map}
use Rattle.std.proofs.lemmas.Nat.{row_below_turned}
use Rattle.std.proofs.lemmas.Option.{slice_get-map, get_or_from_slice_get, slice_get_within, same_Some}
use Rattle.layout_plan.proofs.ReadingLemmas.{element-within}
use Rattle.contents_table.specs.declared.names.Listed.{Listed}
use Rattle.contents_table.specs.Built.{position_in, numbers_below}
use Rattle.contents_table.specs.Told.{positions_of}
use Rattle.contents_table.specs.Listed.{KindTable, position_at}
use Rattle.contents_table.proofs.Items.{length-numbers_below}

-- a row for each of xs, in which each of ys has a number
abbrev rows : {X Y : Type 0} → (X → Y → ℕ) → List X → List Y → List ℕ
rows g xs ys = flat_map (λ x. map (g x) ys) xs

length-rows : {X Y : Type 0} (g : X → Y → ℕ) (xs : List X) (ys : List Y) → length (rows g xs ys) ≡ length xs * length ys
length-rows g [] ys = sym (zero-mul (length ys))
length-rows g (x ∷ xs) ys =
    omega (
      arith,
      length-append (map (g x) ys) (rows g xs ys),
      length-map ys (g x),
      length-rows g xs ys,
      suc-mul (length xs) (length ys),
    )

row-at : {X Y : Type 0} (g : X → Y → ℕ) (xs : List X) (ys : List Y) (i j : ℕ) (x : X) (y : Y)
    → slice_get xs i ≡ Some x → slice_get ys j ≡ Some y → get_or (rows g xs ys) (i * length ys + j) 0 ≡ g x y
row-at g xs ys i j x y at here =
    let row = slice_get_within xs i x at in
    let column = slice_get_within ys j y here in
    let is = get_or_from_slice_get xs i x x at in
    let before : length (rows g (take i xs) ys) ≡ i * length ys =
    length-rows g (take i xs) ys ∙ ap (λ n. n * length ys) (length-take-le i xs (omega arith)) in
    ap (λ n. get_or (rows g xs ys) (n + j) 0) (sym before)
    ∙ get_or-flat_map (λ x. map (g x) ys) xs i j x 0 row (omega (arith, column, length-map ys (g (get_or xs i x))))
    ∙ ap (λ x. get_or (map (g x) ys) j 0) is
    ∙ get_or_from_slice_get (map (g x) ys) j (g x y) 0 (slice_get-map (g x) ys j ∙ ap (option_map (g x)) here)

-- a list that has each of these numbers in its place
rows-are : {X Y : Type 0} (g : X → Y → ℕ) (xs : List X) (ys : List Y) (zs : List ℕ)
    → length zs ≡ length xs * length ys
    → ((i j : ℕ) (x : X) (y : Y) → slice_get xs i ≡ Some x → slice_get ys j ≡ Some y
    → get_or zs (i * length ys + j) 0 ≡ g x y) → zs ≡ rows g xs ys
rows-are {X} {Y} g xs ys zs size each =
    same_lists zs (rows g xs ys) (size ∙ sym (length-rows g xs ys))
    (λ k d lt. get_or_default zs k d 0 lt ∙ by k (omega (arith, size))
    ∙ get_or_default (rows g xs ys) k 0 d (omega (arith, size, length-rows g xs ys)))
  where
    at : (k : ℕ) → (k / length ys) * length ys + k % length ys ≡ k
        → (x : X) × (slice_get xs (k / length ys) ≡ Some x) → (y : Y) × (slice_get ys (k % length ys) ≡ Some y)
        → get_or zs k 0 ≡ get_or (rows g xs ys) k 0
    at k place (x, row) (y, column) =
        ap (λ n. get_or zs n 0) (sym place)
        ∙ each (k / length ys) (k % length ys) x y row column
        ∙ sym (row-at g xs ys (k / length ys) (k % length ys) x y row column)
        ∙ ap (λ n. get_or (rows g xs ys) n 0) place

    by : (k : ℕ) → k < length xs * length ys → get_or zs k 0 ≡ get_or (rows g xs ys) k 0
    by k lt = elim (cases_lt 0 (length ys)) [
      | inl some ↦
          let row : k / length ys < length xs =
          (row_below_turned k (length ys) (length xs) (length ys) lt (omega arith)).1
          in
          let column : k % length ys < length ys = omega arith in
          at k (omega (arith, mul_comm (k / length ys) (length ys))) (element-within xs (k / length ys) row)
          (element-within ys (k % length ys) column)
      | inr none ↦
          let empty : length ys ≡ 0 = omega arith in
          absurd (omega (arith, lt, ap (λ n. length xs * n) empty, mul-zero (length xs)))
    ]

-- ---- the numbers of the frames

slice_get-front : {X : Type 0} (xs ys : List X) (k : ℕ) (x : X) → slice_get xs k ≡ Some x
    → slice_get (xs ++ ys) k ≡ Some x
slice_get-front [] ys k x e = cc
slice_get-front (z ∷ xs) ys zero x e = e
slice_get-front (z ∷ xs) ys (suc k) x e = slice_get-front xs ys k x e

slice_get-last : {X : Type 0} (xs : List X) (x : X) → slice_get (xs ++ x ∷ []) (length xs) ≡ Some x
slice_get-last [] x = refl
slice_get-last (z ∷ xs) x = slice_get-last xs x

number-below : (n j : ℕ) → j < n → slice_get (numbers_below n) j ≡ Some j
unfolding numbers_below
number-below zero j lt = absurd (omega arith)
number-below (suc n) j lt = elim (cases_lt j n) [
  | inl below ↦ slice_get-front (numbers_below n) (n ∷ []) j j (number-below n j below)
  | inr last ↦
      let is : j ≡ n = omega arith in
      ap (slice_get (numbers_below n ++ n ∷ [])) (is ∙ sym (length-numbers_below n))
      ∙ slice_get-last (numbers_below n) n ∙ ap (λ k. Some k) (sym is)
]

-- ---- the positions of a kind

-- each position is the place of that name's channel in that frame
abbrev pub ArePlaced : KindTable → List Listed → ℕ → Type 0
ArePlaced t built k =
    (j frame : ℕ) (name : List ℕ) → j < k → slice_get t.names j ≡ Some name → frame < t.frames
    → position_at t frame j ≡ position_in built name frame

-- where each is, they are those of the built channels
placed-all : (by_name : Bool) (frames : ℕ) (built : List Listed) (names : List (List ℕ)) (positions : List ℕ)
    → length positions ≡ length names * frames
    → ArePlaced (record { frames = frames; names = names; positions = positions; by_name = by_name }) built
    (length names)
    → positions ≡ positions_of by_name frames built names
placed-all true frames built names positions size placed =
    rows-are (position_in built) names (numbers_below frames) positions
    (size ∙ ap (λ n. length names * n) (sym (length-numbers_below frames)))
    (λ i j name frame row column.
    let lt : j < frames =
    omega (arith, slice_get_within (numbers_below frames) j frame column, length-numbers_below frames) in
    let is : j ≡ frame = same_Some j frame (sym (number-below frames j lt) ∙ column) in
    ap (λ n. get_or positions (i * n + j) 0) (length-numbers_below frames)
    ∙ placed i j name (slice_get_within names i name row) row lt ∙ ap (position_in built name) is)
placed-all false frames built names positions size placed =
    rows-are (λ frame name. position_in built name frame) (numbers_below frames) names positions
    (size ∙ mul_comm (length names) frames ∙ ap (λ n. n * length names) (sym (length-numbers_below frames)))
    (λ i j frame name row column.
    let lt : i < frames =
    omega (arith, slice_get_within (numbers_below frames) i frame row, length-numbers_below frames) in
    let is : i ≡ frame = same_Some i frame (sym (number-below frames i lt) ∙ row) in
    placed j i name (slice_get_within names j name column) column lt ∙ ap (position_in built name) is)

pub positions-placed : (t : KindTable) (built : List Listed) → length t.positions ≡ length t.names * t.frames
    → ArePlaced t built (length t.names) → t.positions ≡ positions_of t.by_name t.frames built t.names
positions-placed t built size placed = placed-all t.by_name t.frames built t.names t.positions size placed

-- where they are, each is
placed-each : (by_name : Bool) (frames : ℕ) (built : List Listed) (names : List (List ℕ)) (k frame : ℕ) (name : List ℕ)
    → slice_get names k ≡ Some name → frame < frames
    → get_or (positions_of by_name frames built names)
    (if by_name then k * frames + frame else frame * length names + k) 0 ≡ position_in built name frame
placed-each true frames built names k frame name is lt =
    ap (λ n. get_or (positions_of true frames built names) (k * n + frame) 0) (sym (length-numbers_below frames))
    ∙ row-at (position_in built) names (numbers_below frames) k frame name frame is (number-below frames frame lt)
placed-each false frames built names k frame name is lt =
    row-at (λ frame name. position_in built name frame) (numbers_below frames) names frame k frame name
    (number-below frames frame lt) is

pub position-placed : (t : KindTable) (built : List Listed) (k frame : ℕ) (name : List ℕ)
    → t.positions ≡ positions_of t.by_name t.frames built t.names → slice_get t.names k ≡ Some name → frame < t.frames
    → position_at t frame k ≡ position_in built name frame
position-placed t built k frame name are is lt =
    ap (λ ps. get_or ps (if t.by_name then k * t.frames + frame else frame * length t.names + k) 0) are
    ∙ placed-each t.by_name t.frames built t.names k frame name is lt

-- one more name
pub placed-more : (t : KindTable) (built : List Listed) (k : ℕ) (name : List ℕ) → slice_get t.names k ≡ Some name
    → ArePlaced t built k
    → ((frame : ℕ) → frame < t.frames → position_at t frame k ≡ position_in built name frame)
    → ArePlaced t built (k + 1)
placed-more t built k name is before here j frame other lt at below = elim (cases_lt j k) [
  | inl earlier ↦ before j frame other earlier at below
  | inr later ↦
      let last : j ≡ k = omega arith in
      let same : name ≡ other = same_Some name other (sym is ∙ ap (slice_get t.names) (sym last) ∙ at) in
      ap (position_at t frame) last ∙ here frame below ∙ ap (λ name. position_in built name frame) same
]
