-- What a contents table lists, by what its layout and its body are found to be.
use Rattle.std.proofs.Common.{◌≡◌, ℕ, Bool, true, false, cond, List, Option, Some, None, IsSome, IsTrue, ◌↔◌, refl, ap}
use Rattle.std.proofs.Common.{sym, ◌∙◌}
use Rattle.std.proofs.Common.{option_and_then, subst}
use Rattle.std.specs.Option.{option_map}
use Rattle.scalar_types.specs.declared.Order.{Order}
use Rattle.record_values.specs.declared.values.Value.{Value}
use Rattle.dictionary.specs.declared.entries.Entry.{Entry}
use Rattle.dictionary.specs.Dictionary.{entry_of}
use Rattle.layout_plan.specs.declared.fields.Field.{Field}
use Rattle.layout_plan.specs.Layout.{layout_of, AreSound}
use Rattle.layout_plan.specs.Body.{IsBody, HasBody}
use Rattle.layout_plan.proofs.LayoutLemmas.{layout_of-sound}
use Rattle.file_grammar.specs.Record.{Reading, reading_by, layout_in}
use Rattle.file_grammar.proofs.Bodies.{reading-found, reading-again}
use Rattle.contents_table.specs.declared.fit.TableLayout.{TableLayout}
use Rattle.contents_table.specs.Fit.{is_fit, table_layout}
use Rattle.contents_table.specs.Listed.{Table, table_of}
use Rattle.file_content.specs.Contents.{table_by, listed_by, if_frames, listed_in}

-- what is known where the class is held and its layout is readable
pub record IsRead (held : List Entry) (class : ℕ) (e : Entry) (fields : List Field) : Type 0 where
  pub entry : entry_of held class ≡ Some e
  pub layout : layout_in held class ≡ Some fields

layout-of : (held : List Entry) (class : ℕ) (e : Entry) (fields : List Field) → IsRead held class e fields
    → layout_of e.elements ≡ Some fields
layout-of held class e fields is =
    sym (ap (option_and_then (λ (e : Entry). layout_of e.elements)) is.entry) ∙ is.layout

listed-is : (order : Order) (frames : ℕ) (held : List Entry) (class : ℕ) (body : List ℕ) (e : Entry)
    (fields : List Field) → IsRead held class e fields
    → listed_in order frames held class body
    ≡ option_and_then (if_frames frames) (listed_by (reading_by order body fields) e)
listed-is order frames held class body e fields is =
    ap (λ o. option_and_then (if_frames frames)
    (option_and_then (listed_by (option_and_then (reading_by order body) o)) (entry_of held class))) is.layout
    ∙ ap (λ o. option_and_then (if_frames frames) (option_and_then (listed_by (reading_by order body fields)) o))
    is.entry

-- a layout that is not fit
pub unfit-listed : (order : Order) (frames : ℕ) (held : List Entry) (class : ℕ) (body : List ℕ) (e : Entry)
    (fields : List Field) → IsRead held class e fields → (IsTrue (is_fit e) → ⊥)
    → listed_in order frames held class body ≡ None
unfit-listed order frames held class body e fields is unfit =
    listed-is order frames held class body e fields is
    ∙ by (is_fit e) unfit
  where
    by : (fit : Bool) → (IsTrue fit → ⊥)
        → option_and_then (if_frames frames)
        (cond fit (option_map (table_by e) (reading_by order body fields)) None) ≡ None
    by true unfit = absurd (unfit refl)
    by false unfit = refl

-- a body that does not spell the layout
pub unspelled-listed : (order : Order) (frames : ℕ) (held : List Entry) (class : ℕ) (body : List ℕ) (e : Entry)
    (fields : List Field) → IsRead held class e fields → (HasBody order fields body → ⊥)
    → listed_in order frames held class body ≡ None
unspelled-listed order frames held class body e fields is unspelled =
    listed-is order frames held class body e fields is
    ∙ by (reading_by order body fields) refl (is_fit e)
  where
    by : (reading : Option Reading) → reading_by order body fields ≡ reading → (fit : Bool)
        → option_and_then (if_frames frames) (cond fit (option_map (table_by e) reading) None) ≡ None
    by None found true = refl
    by None found false = refl
    by (Some r) found fit =
        absurd (unspelled (
          r.values,
          r.tail,
          reading-found order body fields r
              (layout_of-sound e.elements fields (layout-of held class e fields is)) found,
        ))

-- a table that reads
pub read-listed : (order : Order) (frames : ℕ) (held : List Entry) (class : ℕ) (body : List ℕ) (e : Entry)
    (fields : List Field) (layout : TableLayout) (table : Table) → IsRead held class e fields → IsTrue (is_fit e)
    → layout ≡ table_layout e.elements → HasBody order fields body
    → ((values : List Value) (tail : List ℕ) → IsBody order fields values tail body → table ≡ table_of layout values)
    → listed_in order frames held class body ≡ if_frames frames table
read-listed order frames held class body e fields layout table is fit layout_is (values, tail, spelled) told =
    listed-is order frames held class body e fields is
    ∙ ap (λ b. option_and_then (if_frames frames)
    (cond b (option_map (table_by e) (reading_by order body fields)) None))
    fit
    ∙ ap (λ r. option_and_then (if_frames frames) (option_map (table_by e) r))
    (reading-again order body fields values tail
    (layout_of-sound e.elements fields (layout-of held class e fields is)) spelled)
    ∙ ap (if_frames frames)
    (sym (told values tail spelled ∙ ap (λ layout. table_of layout values) layout_is))
