-- A well-formed file has one content.
use Rattle.std.proofs.Common.{◌≡◌, ℕ, zero, suc, ◌⊎◌, inl, inr, Bool, true, false, List, length, Option, Some, None}
use Rattle.std.proofs.Common.{IfSome}
use Rattle.std.proofs.Common.{option_and_then, refl, ap, sym, subst, ◌∙◌}
use Rattle.std.proofs.lemmas.Bool.{false≢true}
use Rattle.std.proofs.lemmas.Slice.Eq.{bytes_eq-Decides}
use Rattle.std.specs.Bool.{Decides}
use Rattle.std.specs.Str.{bytes_eq}
use Rattle.scalar_types.specs.declared.Order.{Order}
use Rattle.file_grammar.specs.Item.{Item, Before}
use Rattle.file_grammar.proofs.Prefixes.{items_unique}
use Rattle.contents_table.specs.declared.kind.Kind.{Kind}
use Rattle.contents_table.specs.declared.kind.Kind.TheVariants.{Adc, Proc, Sim, Ser}
use Rattle.contents_table.specs.declared.names.Listed.{Listed}
use Rattle.std.specs.List.{list_all}
use Rattle.contents_table.specs.Built.{Built, listed_of, are_distinct}
use Rattle.contents_table.specs.Told.{positions_of}
use Rattle.contents_table.specs.Listed.{Table, KindTable, IsGood, IsGoodOf, IsGoodKind, table_of_kind}
use Rattle.contents_table.specs.Listed.{is_listed as is_in}
use Rattle.file_content.specs.declared.state.TableState.{TableState}
use Rattle.file_content.specs.declared.state.TableState.TheVariants as state
use Rattle.file_content.specs.declared.contents.Contents.{Contents}
use Rattle.file_content.specs.Stored.{StoredTable, frames_in, table_in, seek_in}
use Rattle.file_content.specs.Contents.{built_of, is_listed, if_led, IsJudged, IsStateOf, IsState, AreContents}
use Rattle.file_content.specs.Contents.{seek_or_none, NoFileHasTwoContents, EachWellFormedFileHasContents}

-- ---- one state

one-judged : (t : Option Table) (built : Built) (x y : TableState) → IsJudged t built x → IsJudged t built y → x ≡ y
one-judged None built x y one two = one ∙ sym two
one-judged (Some t) built x y (inl (is, good)) (inl (also, same)) = is ∙ sym also
one-judged (Some t) built x y (inl (is, good)) (inr (other, bad)) = absurd (bad good)
one-judged (Some t) built x y (inr (is, bad)) (inl (other, good)) = absurd (bad good)
one-judged (Some t) built x y (inr (is, bad)) (inr (also, same)) = is ∙ sym also

one-of : (order : Order) (frames : ℕ) (built : Built) (t : Option StoredTable) (x y : TableState)
    → IsStateOf order frames built t x → IsStateOf order frames built t y → x ≡ y
one-of order frames built None x y one two = one ∙ sym two
one-of order frames built (Some t) x y one two = one-judged (is_listed order frames t) built x y one two

one-state : (order : Order) (bytes frames : ℕ) (built : Built) (t : Option StoredTable) (seek : ℕ) (x y : TableState)
    → IsState order bytes frames built t seek x → IsState order bytes frames built t seek y → x ≡ y
one-state order bytes frames built t zero x y one two = one ∙ sym two
one-state order bytes frames built t (suc n) x y one two =
    one-of order frames built (option_and_then (if_led bytes (suc n)) t) x y one two

-- the state of the table of these items
abbrev IsOf : Order → List Item → ℕ → ℕ → Built → TableState → Type 0
IsOf order items bytes frames built s =
    IsState order bytes frames built (table_in order items) (seek_or_none (seek_in order items)) s

one-table : (c d : Contents) (items others : List Item) → c.order ≡ d.order → items ≡ others → c.bytes ≡ d.bytes
    → c.frames ≡ d.frames → c.channels ≡ d.channels → IsOf c.order items c.bytes c.frames c.channels c.table
    → IsOf d.order others d.bytes d.frames d.channels d.table → c.table ≡ d.table
one-table c d items others order same bytes frames channels one two =
    one-state d.order d.bytes d.frames d.channels (table_in d.order others) (seek_or_none (seek_in d.order others))
    c.table d.table
    (subst (λ o. IsOf o others d.bytes d.frames d.channels c.table) order
    (subst (λ items. IsOf c.order items d.bytes d.frames d.channels c.table) same
    (subst (λ n. IsOf c.order items n d.frames d.channels c.table) bytes
    (subst (λ n. IsOf c.order items c.bytes n d.channels c.table) frames
    (subst (λ b. IsOf c.order items c.bytes c.frames b c.table) channels one)))))
    two

same-contents : (c d : Contents) → c.order ≡ d.order → c.frames ≡ d.frames → c.records ≡ d.records
    → c.bytes ≡ d.bytes → c.table ≡ d.table → c.channels ≡ d.channels → c ≡ d
same-contents c d order frames records bytes table channels =
    ap (λ x. record c { order = x }) order
    ∙ ap (λ x. record c { order = d.order; frames = x }) frames
    ∙ ap (λ x. record c { order = d.order; frames = d.frames; records = x }) records
    ∙ ap (λ x. record d { bytes = x; table = c.table; channels = c.channels }) bytes
    ∙ ap (λ x. record d { table = x; channels = c.channels }) table
    ∙ ap (λ x. record d { channels = x }) channels

pub no-two-contents : NoFileHasTwoContents
no-two-contents file c d a b =
    let same = items_unique file c.order d.order a.items b.items a.last b.last a.well_formed b.well_formed in
    let bytes : c.bytes ≡ d.bytes = a.bytes_are ∙ sym b.bytes_are in
    let frames : c.frames ≡ d.frames = a.frames_are ∙ ap (λ (l : Before). l.frames) same.2 ∙ sym b.frames_are in
    let channels : c.channels ≡ d.channels =
    a.channels_are ∙ ap (λ o. built_of o (frames_in o a.items)) same.0
    ∙ ap (λ items. built_of d.order (frames_in d.order items)) same.1 ∙ sym b.channels_are in
    same-contents c d same.0 frames
    (a.records_are ∙ ap (λ (l : Before). l.records) same.2 ∙ sym b.records_are) bytes
    (one-table c d a.items b.items same.0 same.1 bytes frames channels a.table_is b.table_is) channels

-- ---- some state

abbrev Decided : Type 0 → Type 0
Decided P = P ⊎ (P → ⊥)

by-test : (P : Type 0) (b : Bool) → Decides b P → Decided P
by-test P true decides = inl (decides.0 refl)
by-test P false decides = inr (λ holds. false≢true (decides.1 holds))

is-true : (b : Bool) → Decided (b ≡ true)
is-true true = inl refl
is-true false = inr false≢true

decided-lists : (xs ys : List ℕ) → Decided (xs ≡ ys)
decided-lists xs ys = by-test (xs ≡ ys) (bytes_eq xs ys) (bytes_eq-Decides xs ys)

decided-kind : (listed : List Listed) (t : KindTable) → Decided (IsGoodKind listed t)
decided-kind listed t = by (is-true _) (is-true _) (decided-lists _ _)
  where
    by : Decided (are_distinct t.names ≡ true) → Decided (list_all (is_in t.names) listed ≡ true)
        → Decided (t.positions ≡ positions_of t.by_name t.frames listed t.names) → Decided (IsGoodKind listed t)
    by (inl distinct) (inl whole) (inl positions) =
        inl (record { distinct = distinct; whole = whole; positions = positions })
    by (inr not) whole positions = inr (λ good. not good.distinct)
    by (inl distinct) (inr not) positions = inr (λ good. not good.whole)
    by (inl distinct) (inl whole) (inr not) = inr (λ good. not good.positions)

decided-of : (listed : List Listed) (t : Option KindTable) → Decided (IfSome t (IsGoodKind listed))
decided-of listed None = inl tt
decided-of listed (Some t) = decided-kind listed t

decided-good : (t : Table) (built : Built) → Decided (IsGood t built)
decided-good t built =
    by (decided-lists t.heads built.heads) (of Adc) (of Proc) (of Sim) (of Ser)
  where
    of : (kind : Kind) → Decided (IsGoodOf t built kind)
    of kind = decided-of (listed_of built kind) (table_of_kind t kind)

    all : IsGoodOf t built Adc → IsGoodOf t built Proc → IsGoodOf t built Sim → IsGoodOf t built Ser
        → (kind : Kind) → IsGoodOf t built kind
    all adc proc sim ser Adc = adc
    all adc proc sim ser Proc = proc
    all adc proc sim ser Sim = sim
    all adc proc sim ser Ser = ser

    by : Decided (t.heads ≡ built.heads) → Decided (IsGoodOf t built Adc) → Decided (IsGoodOf t built Proc)
        → Decided (IsGoodOf t built Sim) → Decided (IsGoodOf t built Ser) → Decided (IsGood t built)
    by (inr not) adc proc sim ser = inr (λ good. not good.heads)
    by (inl heads) (inr not) proc sim ser = inr (λ good. not (good.kinds Adc))
    by (inl heads) (inl adc) (inr not) sim ser = inr (λ good. not (good.kinds Proc))
    by (inl heads) (inl adc) (inl proc) (inr not) ser = inr (λ good. not (good.kinds Sim))
    by (inl heads) (inl adc) (inl proc) (inl sim) (inr not) = inr (λ good. not (good.kinds Ser))
    by (inl heads) (inl adc) (inl proc) (inl sim) (inl ser) =
        inl (record { heads = heads; kinds = all adc proc sim ser })

some-judged : (t : Option Table) (built : Built) → (s : TableState) × IsJudged t built s
some-judged None built = (state.Unread, refl)
some-judged (Some t) built = by (decided-good t built)
  where
    by : Decided (IsGood t built) → (s : TableState) × IsJudged (Some t) built s
    by (inl good) = (state.Good, inl (refl, good))
    by (inr bad) = (state.Bad, inr (refl, bad))

some-of : (order : Order) (frames : ℕ) (built : Built) (t : Option StoredTable)
    → (s : TableState) × IsStateOf order frames built t s
some-of order frames built None = (state.Lost, refl)
some-of order frames built (Some t) = some-judged (is_listed order frames t) built

some-state : (order : Order) (bytes frames : ℕ) (built : Built) (t : Option StoredTable) (seek : ℕ)
    → (s : TableState) × IsState order bytes frames built t seek s
some-state order bytes frames built t zero = (state.None, refl)
some-state order bytes frames built t (suc n) = some-of order frames built (option_and_then (if_led bytes (suc n)) t)

pub has-contents : EachWellFormedFileHasContents
has-contents file order items last well =
    let built = built_of order (frames_in order items) in
    let some = some-state order (length file) last.frames built (table_in order items)
    (seek_or_none (seek_in order items)) in (
      record {
        order = order;
        frames = last.frames;
        records = last.records;
        bytes = length file;
        table = some.0;
        channels = built;
      },
      record {
        items = items;
        last = last;
        well_formed = well;
        frames_are = refl;
        records_are = refl;
        bytes_are = refl;
        channels_are = refl;
        table_is = some.1;
      },
    )
