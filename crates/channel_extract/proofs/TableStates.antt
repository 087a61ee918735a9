-- What the contents table lists is known where its state is good or bad; and a table that is named as lying is not
-- good.
use Rattle.std.proofs.Common.{◌≡◌, ℕ, zero, suc, ◌⊎◌, inl, inr, Bool, true, false, not, Option, Some, None, List, []}
use Rattle.std.proofs.Common.{◌∷◌, length, refl, sym, ap, ◌∙◌, subst, arith}
use Rattle.std.specs.Prelude.{if◌then◌else◌, ◌==◌, nat_le, nat_lt, Any, filter, option_and_then}
use Rattle.std.specs.List.{list_all}
use Rattle.std.specs.Option.{option_map_or}
use Rattle.scalar_types.specs.declared.Order.{Order}
use Rattle.file_grammar.specs.Structure.{file_limit}
use Rattle.file_grammar.specs.Item.{Item, Before}
use Rattle.file_grammar.proofs.Prefixes.{items_unique}
use Rattle.frame_content.specs.Frames.{Frame}
use Rattle.contents_table.specs.declared.kind.Kind.{Kind}
use Rattle.contents_table.specs.Built.{Built}
use Rattle.contents_table.specs.Listed.{KindTable, Table, table_of_kind, IsGood}
use Rattle.file_content.specs.declared.state.TableState.{TableState}
use Rattle.file_content.specs.declared.state.TableState.TheVariants as state
use Rattle.file_content.specs.Stored.{StoredTable, frames_in, table_in, seek_in}
use Rattle.file_content.specs.Contents.{built_of, is_listed, if_led, seek_or_none, IsJudged, IsStateOf, IsState}
use Rattle.canonical_file.specs.declared.closing.Closing.{Closing}
use Rattle.canonical_file.specs.Written.{canonical_file}
use Rattle.canonical_laws.specs.Content.{closing_by, content_of}
use Rattle.channel_extract.specs.Cuts.{extraction}
use Rattle.channel_extract.specs.Placed.{PlacedFrame, placed_in}
use Rattle.channel_extract.specs.Listing.{table_led, file_table, positions_for}
use Rattle.channel_extract.specs.ByTable.{Ending, NoTable, NoChannel, TableLies, Whole, Extraction, TableFrame}
use Rattle.channel_extract.specs.ByTable.{ended, lie}
use Rattle.channel_extract.specs.ByTable.{whole_of, cuts_at, or_lie, followed, table_frames, is_zero, by_positions}
use Rattle.channel_extract.specs.ByTable.{by_names, by_table}
use Rattle.channel_extract.specs.Answers.{Ended, TooLong, fitting, stops, ended_due, due_of, has_position}
use Rattle.channel_extract.specs.Answers.{frames_by_names, frames_with_position}
use Rattle.channel_extract.specs.TableLaws.{TablesAreAsJudged, IsPlaceOf, LyingTablesAreBad}
use Rattle.channel_extract.specs.TableLaws.{table_extraction}
use Rattle.channel_extract.proofs.Lies.{kept}
use Rattle.channel_extract.proofs.Agreement.{agree}
use Rattle.channel_extract.proofs.Answering.{are_due}

-- ---- the state of a table

abbrev IsKnown : Option Table → Built → TableState → Type 0
IsKnown table built s =
    ((table ≡ None) × ((s ≡ state.None) ⊎ ((s ≡ state.Lost) ⊎ (s ≡ state.Unread))))
    ⊎ ((t : Table) × (table ≡ Some t)
    × (((s ≡ state.Good) × IsGood t built) ⊎ ((s ≡ state.Bad) × (IsGood t built → ⊥))))

judged-known : (o : Option Table) (built : Built) (s : TableState) → IsJudged o built s → IsKnown o built s
judged-known None built s is = inl (refl, inr (inr is))
judged-known (Some t) built s is = inr (t, refl, is)

found-known : (order : Order) (frames : ℕ) (built : Built) (o : Option StoredTable) (s : TableState)
    → IsStateOf order frames built o s → IsKnown (option_and_then (is_listed order frames) o) built s
found-known order frames built None s is = inl (refl, inr (inl is))
found-known order frames built (Some t) s is = judged-known (is_listed order frames t) built s is

state-known : (order : Order) (bytes frames : ℕ) (built : Built) (table : Option StoredTable) (seek : ℕ)
    (s : TableState) → IsState order bytes frames built table seek s
    → IsKnown (table_led order bytes frames table seek) built s
state-known order bytes frames built table zero s is = inl (refl, inl is)
state-known order bytes frames built table (suc n) s is =
    found-known order frames built (option_and_then (if_led bytes (suc n)) table) s is

pub as_judged : TablesAreAsJudged
as_judged file order items last c well is =
    let one = items_unique file c.order order is.items items is.last last is.well_formed well in
    let bytes : c.bytes ≡ last.place = is.bytes_are ∙ sym well.ends in
    let frames : c.frames ≡ last.frames = is.frames_are ∙ ap (λ (b : Before). b.frames) one.2 in
    let built : c.channels ≡ built_of order (frames_in order items) =
    is.channels_are ∙ (λ i. built_of (one.0 i) (frames_in (one.0 i) (one.1 i))) in
    let moved : IsState order last.place last.frames (built_of order (frames_in order items)) (table_in order items)
    (seek_or_none (seek_in order items)) c.table =
    subst (λ (p : Order × (List Item × (ℕ × (ℕ × Built)))).
    IsState p.0 p.1.1.0 p.1.1.1.0 p.1.1.1.1 (table_in p.0 p.1.0) (seek_or_none (seek_in p.0 p.1.0)) c.table)
    (λ i. (one.0 i, (one.1 i, (bytes i, (frames i, built i))))) is.table_is in
    state-known order last.place last.frames (built_of order (frames_in order items)) (table_in order items)
    (seek_or_none (seek_in order items)) c.table moved

-- ---- a place that is not right

-- where the extraction ends at it, some frame has it
here-any : (at : ℕ) (p : TableFrame) (ps : List TableFrame) → IsPlaceOf at p → Any (IsPlaceOf at) (p ∷ ps)
here-any at p ps is = (0, p, omega arith, refl, is)

later-any : (at : ℕ) (p : TableFrame) (ps : List TableFrame) → Any (IsPlaceOf at) ps → Any (IsPlaceOf at) (p ∷ ps)
later-any at p ps (k, q, within, there, is) = (suc k, q, omega (arith, within), there, is)

followed-lie : (kind : Kind) (name : List ℕ) (ps : List TableFrame) (at : ℕ)
    → (followed kind name ps).ending ≡ TableLies at → Any (IsPlaceOf at) (filter has_position ps)
followed-lie kind name [] at is = absurd (cc)
followed-lie kind name (p ∷ ps) at is = by (p.at == 0) refl (followed-lie kind name ps at) is
  where
    same_lie : (a b : ℕ) → TableLies a ≡ TableLies b → a ≡ b
    same_lie a b same = cc

    lying : (o : Option ℕ) → lie kind name p ≡ o
        → ((followed kind name ps).ending ≡ TableLies at → Any (IsPlaceOf at) (filter has_position ps))
        → (or_lie o (cuts_at kind p) (followed kind name ps)).ending ≡ TableLies at
        → Any (IsPlaceOf at) (p ∷ filter has_position ps)
    lying (Some other) named rest is =
        here-any at p (filter has_position ps) (kept kind name p at (named ∙ ap Some (same_lie other at is)))
    lying None named rest is = later-any at p (filter has_position ps) (rest is)

    by : (b : Bool) → (p.at == 0) ≡ b
        → ((followed kind name ps).ending ≡ TableLies at → Any (IsPlaceOf at) (filter has_position ps))
        → (if b then followed kind name ps
        else or_lie (lie kind name p) (cuts_at kind p) (followed kind name ps)).ending ≡ TableLies at
        → Any (IsPlaceOf at) (if not b then p ∷ filter has_position ps else filter has_position ps)
    by true none rest is = rest is
    by false some rest is = lying (lie kind name p) refl rest is

-- ---- the answer

record IsLie (kind : Kind) (name : List ℕ) (frames : List PlacedFrame) (table : Option Table) (at : ℕ) : Type 0
  where
    found : Table
    is : table ≡ Some found
    listed : KindTable
    lists : table_of_kind found kind ≡ Some listed
    place : Any (IsPlaceOf at) (frames_with_position kind name frames table)

table-lie : (kind : Kind) (name : List ℕ) (frames : List PlacedFrame) (table : Option Table) (at : ℕ)
    → (by_table kind name frames table).ending ≡ TableLies at → IsLie kind name frames table at
table-lie kind name frames None at is = absurd (cc)
table-lie kind name frames (Some t) at is = by (table_of_kind t kind) refl is
  where
    positions : (qs : List ℕ) (b : Bool)
        → (if b then ended NoChannel else followed kind name (table_frames frames t.heads qs)).ending ≡ TableLies at
        → Any (IsPlaceOf at) (filter has_position (table_frames frames t.heads qs))
    positions qs true is = absurd (cc)
    positions qs false is = followed-lie kind name (table_frames frames t.heads qs) at is

    names : (o : Option (List ℕ))
        → (option_map_or (by_positions kind name frames t.heads) o (ended NoChannel)).ending ≡ TableLies at
        → Any (IsPlaceOf at) (filter has_position (option_map_or (table_frames frames t.heads) o []))
    names None is = absurd (cc)
    names (Some qs) is = positions qs (list_all is_zero qs) is

    by : (o : Option KindTable) → table_of_kind t kind ≡ o
        → (option_map_or (by_names kind name frames t.heads) o (ended NoTable)).ending ≡ TableLies at
        → IsLie kind name frames (Some t) at
    by None none is = absurd (cc)
    by (Some k) some is = record {
      found = t;
      is = refl;
      listed = k;
      lists = some;
      place = subst (λ o. Any (IsPlaceOf at)
          (filter has_position (option_map_or (frames_by_names name frames t.heads) o []))) (sym some)
          (names (positions_for name k) is);
    }

-- the answer tells the ending
whole-told : (closing : Closing) (frames : List Frame) (at : ℕ) (b : Bool)
    → (if b then record { answer = Ended Whole; output = canonical_file closing frames }
    else stops TooLong frames).answer ≡ Ended (TableLies at) → ⊥
whole-told closing frames at true is = cc
whole-told closing frames at false is = cc

ended-told : (closing : Closing) (ending : Ending) (frames : List Frame) (at : ℕ)
    → (ended_due closing ending frames).answer ≡ Ended (TableLies at) → ending ≡ TableLies at
ended-told closing NoTable frames at is = absurd (cc)
ended-told closing NoChannel frames at is = absurd (cc)
ended-told closing (TableLies other) frames at is = cc
ended-told closing Whole frames at is =
    absurd (whole-told closing frames at (nat_le (length (canonical_file closing frames)) file_limit) is)

told-ending : (closing : Closing) (ending : Ending) (frames : List Frame) (at : ℕ)
    → (due_of closing ending frames).answer ≡ Ended (TableLies at) → ending ≡ TableLies at
told-ending closing ending frames at is = by (nat_lt (length (fitting [] frames)) (length frames)) is
  where
    by : (b : Bool) → (if b then stops TooLong (fitting [] frames) else ended_due closing ending frames).answer
        ≡ Ended (TableLies at) → ending ≡ TableLies at
    by true is = absurd (cc)
    by false is = ended-told closing ending frames at is

no-reading : (cuts : List Frame) (at : ℕ) → (whole_of cuts).ending ≡ TableLies at → ⊥
no-reading [] at is = cc
no-reading (c ∷ cs) at is = cc

pub lying_bad : LyingTablesAreBad
lying_bad file order items last kind name at well may =
    let x = table_extraction order items last kind name in
    let due = are_due file order items last kind name (Ended (TableLies at)) well may in
    let ending : x.ending ≡ TableLies at =
    told-ending (closing_by last.dictionary) x.ending due.frames at (sym due.is) in
    let found = table-lie kind name (placed_in order items) (file_table order items last) at ending in (
      found.found,
      found.is,
      λ good. no-reading (extraction kind name (content_of order items last).frames) at
          (ap (λ (y : Extraction). y.ending) (sym (agree file order items last kind name (record {
            well_formed = well;
            table = found.found;
            is = found.is;
            good = good;
            listed = found.listed;
            lists = found.lists;
          }))) ∙ ending),
      found.place,
    )
