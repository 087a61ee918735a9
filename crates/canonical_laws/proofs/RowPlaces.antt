-- The records of a frame stand in the file where the canonical file has them.
use Rattle.std.proofs.Common.{◌≡◌, ℕ, zero, suc, ◌+◌, ◌<◌, ◌≤◌, List, [], ◌∷◌, ◌++◌, length, map, flat_map}
use Rattle.std.proofs.Common.{refl, sym, ap, ◌∙◌, arith, append_assoc, append-nil, length-append}
use Rattle.std.proofs.Math.ListN.{get_or-append}
use Rattle.std.proofs.lemmas.List.{map-append, length-map}
use Rattle.dictionary.specs.declared.entries.Entry.{Entry}
use Rattle.file_grammar.specs.Structure.{Structure}
use Rattle.file_grammar.specs.Item.{Before}
use Rattle.item_reader.specs.State.{bodied_of}
use Rattle.contents_table.specs.Built.{place_of, places_of}
use Rattle.canonical_file.specs.Records.{Record, entries_after, Piece, piece_of, piece_bytes, pieces_of}
use Rattle.canonical_file.specs.Records.{record_places}
use Rattle.canonical_laws.proofs.WrittenRecords.{record_structure}
use Rattle.canonical_laws.proofs.RecordsInTurn.{before_record, after_piece, after_pieces, place-after_piece}
use Rattle.canonical_laws.proofs.RecordsInTurn.{pieces-append}
use Rattle.canonical_laws.proofs.ListedPlaces.{SamePlaces}

abbrev place_at : Structure → ℕ
place_at s = s.at

-- the places of structures
abbrev pub places_at : List Structure → List ℕ
places_at ss = map place_at ss

-- the places of records of which each has its entry before it
pub records-at : (b : Before) (rs : List Record)
    → places_at (after_pieces b rs).frame ≡ places_at b.frame ++ record_places b.place (pieces_of b.dictionary rs)
records-at b [] = sym (append-nil (places_at b.frame))
records-at b (r ∷ rs) =
    let s : Structure = record_structure (before_record b r).place r in
    let next : Before = after_piece b r in
    let ps : List Piece = pieces_of next.dictionary rs in
    records-at next rs
    ∙ (λ i. map-append place_at b.frame (s ∷ []) i ++ record_places (sym (place-after_piece b r) i) ps)
    ∙ append_assoc (places_at b.frame) (s.at ∷ [])
    (record_places (b.place + length (piece_bytes (piece_of b.dictionary r))) ps)

-- as they are read
nodes-at : (held : List Entry) (ss : List Structure) → places_of (map (bodied_of held) ss) ≡ places_at ss
nodes-at held [] = refl
nodes-at held (s ∷ ss) = ap (λ places. s.at ∷ places) (nodes-at held ss)

-- the first of pieces stand where they do without the others
places-append : (at : ℕ) (ps qs : List Piece)
    → (rest : List ℕ) × (record_places at (ps ++ qs) ≡ record_places at ps ++ rest)
places-append at [] qs = (record_places at qs, refl)
places-append at (p ∷ ps) qs =
    let later = places-append (at + length (piece_bytes p)) ps qs in
    (later.0, ap (λ places. (at + length p.entry) ∷ places) later.1)

-- The first records stand there too where others follow them.
pub first-places : (held : List Entry) (b : Before) (rs more : List Record) (n : ℕ) → b.frame ≡ []
    → length (after_pieces b rs).frame ≡ n
    → SamePlaces n (places_of (map (bodied_of held) (after_pieces b rs).frame))
    (record_places b.place (pieces_of b.dictionary (rs ++ more)))
first-places held b rs more n empty size k less =
    let ss : List Structure = (after_pieces b rs).frame in
    let own : List ℕ = record_places b.place (pieces_of b.dictionary rs) in
    let first : places_at ss ≡ own = records-at b rs ∙ ap (λ ts. places_at ts ++ own) empty in
    let whole = places-append b.place (pieces_of b.dictionary rs)
    (pieces_of (entries_after b.dictionary rs) more) in
    let all : record_places b.place (pieces_of b.dictionary (rs ++ more)) ≡ own ++ whole.0 =
    ap (record_places b.place) (pieces-append b.dictionary rs more) ∙ whole.1 in
    let inside : k < length own = omega (arith, less, size, ap length first, length-map ss place_at) in
    ap (λ places. place_of places k) (nodes-at held ss ∙ first)
    ∙ sym (get_or-append own whole.0 0 k inside)
    ∙ sym (ap (λ places. place_of places k) all)

-- no place is behind the bytes
pub place-within : (at : ℕ) (ps : List Piece) (k : ℕ)
    → place_of (record_places at ps) k ≤ at + length (flat_map piece_bytes ps)
place-within at [] k = omega arith
place-within at (p ∷ ps) zero =
    omega (
      arith,
      length-append (piece_bytes p) (flat_map piece_bytes ps),
      length-append p.entry p.record_itself,
    )
place-within at (p ∷ ps) (suc k) =
    omega (
      arith,
      place-within (at + length (piece_bytes p)) ps k,
      length-append (piece_bytes p) (flat_map piece_bytes ps),
    )
