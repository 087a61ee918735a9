-- The pieces of records one after another: their bytes and places, the entries that stand then, and the first clash.
use Rattle.std.proofs.Common.{◌≡◌, ℕ, zero, suc, ◌+◌, Bool, true, false, cond, List, [], ◌∷◌, ◌++◌, length, take, Some}
use Rattle.std.proofs.Common.{None, Option, refl, sym, ap, ◌∙◌, subst, append-nil, arith}
use Rattle.std.specs.Prelude.{flat_map, slice_get}
use Rattle.std.proofs.lemmas.List.{length-append}
use Rattle.std.proofs.lemmas.List.Concat.{flat_map-append}
use Rattle.std.proofs.lemmas.List.Sums.{fold_push}
use Rattle.std.proofs.lemmas.Option.{none-some, same_Some}
use Rattle.dictionary.specs.declared.entries.Entry.{Entry}
use Rattle.canonical_file.specs.declared.closing.Closing.{Closing}
use Rattle.canonical_file.specs.Records.{Record, record_bytes, new_entry, with_record, entries_after, Piece, piece_of}
use Rattle.canonical_file.specs.Records.{piece_bytes, pieces_of, record_places}
use Rattle.contents_table.specs.Built.{place_of}
use Rattle.canonical_file.specs.Splices.{entries_used, clashes, clash_from}

abbrev pub bytes_of : List Entry → List Record → List ℕ
bytes_of used records = flat_map piece_bytes (pieces_of used records)

-- ---- one record more

pieces-push : (used : List Entry) (rs : List Record) (r : Record)
    → pieces_of used (rs ++ r ∷ []) ≡ pieces_of used rs ++ piece_of (entries_after used rs) r ∷ []
pieces-push used [] r = refl
pieces-push used (x ∷ xs) r = ap (λ ps. piece_of used x ∷ ps) (pieces-push (with_record used x) xs r)

pub bytes-push : (used : List Entry) (rs : List Record) (r : Record)
    → bytes_of used (rs ++ r ∷ [])
    ≡ bytes_of used rs ++ (new_entry (entries_after used rs) r.entry ++ record_bytes r)
bytes-push used rs r =
    ap (flat_map piece_bytes) (pieces-push used rs r)
    ∙ flat_map-append piece_bytes (pieces_of used rs) (piece_of (entries_after used rs) r ∷ [])
    ∙ ap (λ bytes. bytes_of used rs ++ bytes) (append-nil (piece_bytes (piece_of (entries_after used rs) r)))

pub entries-push : (used : List Entry) (rs : List Record) (r : Record)
    → entries_after used (rs ++ r ∷ []) ≡ with_record (entries_after used rs) r
entries-push used rs r = fold_push with_record used rs r

-- ---- clashes

-- where none of the first records clashes, the first of the others does
pub clash-behind : (closing : Option Closing) (used : List Entry) (xs ys : List Record)
    → clash_from closing used xs ≡ None
    → clash_from closing used (xs ++ ys) ≡ clash_from closing (entries_after used xs) ys
clash-behind closing used [] ys none = refl
clash-behind closing used (x ∷ xs) ys none =
    by (clashes (entries_used used closing) x.entry) none (clash-behind closing (with_record used x) xs ys)
  where
    by : (b : Bool) → cond b (Some x.entry.class) (clash_from closing (with_record used x) xs) ≡ None
        → (clash_from closing (with_record used x) xs ≡ None
        → clash_from closing (with_record used x) (xs ++ ys)
        ≡ clash_from closing (entries_after (with_record used x) xs) ys)
        → cond b (Some x.entry.class) (clash_from closing (with_record used x) (xs ++ ys))
        ≡ clash_from closing (entries_after (with_record used x) xs) ys
    by true none later = absurd (none-some x.entry.class (sym none))
    by false none later = later none

pub clash-here : (closing : Option Closing) (used : List Entry) (r : Record) (rs : List Record)
    → clashes (entries_used used closing) r.entry ≡ true → clash_from closing used (r ∷ rs) ≡ Some r.entry.class
clash-here closing used r rs is = ap (λ b. cond b (Some r.entry.class) (clash_from closing (with_record used r) rs)) is

pub clash-push : (closing : Option Closing) (used : List Entry) (rs : List Record) (r : Record)
    → clash_from closing used rs ≡ None → clashes (entries_used (entries_after used rs) closing) r.entry ≡ false
    → clash_from closing used (rs ++ r ∷ []) ≡ None
clash-push closing used rs r none is =
    clash-behind closing used rs (r ∷ []) none ∙ ap (λ b. cond b (Some r.entry.class) None) is

-- ---- places

-- a record stands behind the pieces before it and its own entry
pub place-behind : (used : List Entry) (rs : List Record) (at k : ℕ) (r : Record) → slice_get rs k ≡ Some r
    → place_of (record_places at (pieces_of used rs)) k
    ≡ at + (length (bytes_of used (take k rs)) + length (new_entry (entries_after used (take k rs)) r.entry))
place-behind used [] at k r is = absurd (none-some r is)
place-behind used (x ∷ xs) at zero r is =
    subst (λ (r : Record). at + length (new_entry used x.entry) ≡ at + (0 + length (new_entry used r.entry)))
    (same_Some x r is) (omega arith)
place-behind used (x ∷ xs) at (suc k) r is =
    let p : Piece = piece_of used x in
    let later = place-behind (with_record used x) xs (at + length (piece_bytes p)) k r is in
    omega (arith, later, length-append (piece_bytes p) (bytes_of (with_record used x) (take k xs)))
