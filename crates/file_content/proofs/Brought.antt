-- What one more item of a file brings.
use Rattle.std.proofs.Common.{◌≡◌, ℕ, List, [], ◌∷◌, ◌++◌, Option, Some, None, refl, ap, sym, ◌∙◌, fold}
use Rattle.std.proofs.lemmas.List.{append_assoc, append-nil}
use Rattle.std.proofs.lemmas.List.Sums.{fold-append}
use Rattle.std.specs.List.{last_or}
use Rattle.scalar_types.specs.declared.Order.{Order}
use Rattle.file_grammar.specs.Structure.{Structure}
use Rattle.file_grammar.specs.Item.{Item, Before, nothing_yet, after}
use Rattle.file_grammar.specs.MayStand.{Stand, Begins}
use Rattle.contents_table.specs.Built.{Built, nothing_built}
use Rattle.file_content.specs.Stored.{StoredFrame, StoredTable, structures_brought, brought_in, frame_ended, table_here}
use Rattle.file_content.specs.Stored.{seek_told}
use Rattle.file_content.specs.Stored.{frames_in, table_in, seek_in}
use Rattle.file_content.specs.Contents.{built_of, with_stored}

brought-push : {X : Type 0} (from : Before → Structure → List X) (order : Order) (file : List ℕ) (b : Before)
    (items : List Item) (last : Before) (item : Item) → Stand order file b items last
    → brought_in from order b (items ++ item ∷ []) ≡ brought_in from order b items ++ structures_brought from last item
brought-push from order file b [] last item stand =
    append-nil (structures_brought from b item) ∙ ap (λ (b : Before). structures_brought from b item) (sym stand)
brought-push from order file b (first ∷ items) last item stand =
    ap (λ rest. structures_brought from b first ++ rest)
    (brought-push from order file (after order b first) items last item stand.1)
    ∙ sym (append_assoc (structures_brought from b first) (brought_in from order (after order b first) items)
    (structures_brought from last item))

last-append : {X : Type 0} (o : Option X) (xs ys : List X) → last_or o (xs ++ ys) ≡ last_or (last_or o xs) ys
last-append o [] ys = refl
last-append o (x ∷ xs) ys = last-append (Some x) xs ys

pub frames-push : (file : List ℕ) (order : Order) (items : List Item) (b : Before) (item : Item)
    → Begins file order items b
    → frames_in order (items ++ item ∷ []) ≡ frames_in order items ++ structures_brought frame_ended b item
frames-push file order items b item begins =
    brought-push frame_ended order file nothing_yet items b item begins.stand

pub table-push : (file : List ℕ) (order : Order) (items : List Item) (b : Before) (item : Item)
    → Begins file order items b
    → table_in order (items ++ item ∷ []) ≡ last_or (table_in order items) (structures_brought table_here b item)
table-push file order items b item begins =
    ap (last_or None) (brought-push table_here order file nothing_yet items b item begins.stand)
    ∙ last-append None (brought_in table_here order nothing_yet items) (structures_brought table_here b item)

pub seek-push : (file : List ℕ) (order : Order) (items : List Item) (b : Before) (item : Item)
    → Begins file order items b
    → seek_in order (items ++ item ∷ []) ≡ last_or (seek_in order items) (structures_brought (seek_told order) b item)
seek-push file order items b item begins =
    ap (last_or None) (brought-push (seek_told order) order file nothing_yet items b item begins.stand)
    ∙ last-append None (brought_in (seek_told order) order nothing_yet items)
    (structures_brought (seek_told order) b item)

-- one more frame
pub built-push : (order : Order) (frames : List StoredFrame) (f : StoredFrame)
    → built_of order (frames ++ f ∷ []) ≡ with_stored order (built_of order frames) f
built-push order frames f = fold-append (with_stored order) nothing_built frames (f ∷ [])
