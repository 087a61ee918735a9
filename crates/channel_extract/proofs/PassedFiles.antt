-- A well-formed file is passed to its end by its items.
use Rattle.std.proofs.Common.{◌≡◌, ℕ, ◌+◌, ◌≤◌, Bool, true, false, ◌&&◌, ◌||◌, nat_lt, Option, Some, None, List, []}
use Rattle.std.proofs.Common.{◌∷◌, length, refl, sym, ap, ◌∙◌, subst, arith}
use Rattle.std.specs.Prelude.{option_and_then, nat_le, if◌then◌else◌, ◌==◌}
use Rattle.std.specs.Option.{option_map_or}
use Rattle.std.proofs.lemmas.Bool.{ne_eqb, le-ltb, ltb-false}
use Rattle.std.proofs.lemmas.Option.{none-some}
use Rattle.scalar_types.specs.declared.Order.{Order}
use Rattle.file_grammar.specs.declared.kind.Kind.{Kind}
use Rattle.file_grammar.specs.declared.kind.Kind.TheVariants.{FrSH, FrSE, FrameH, FrEndOfFrame, FrTOC, FrEndOfFile}
use Rattle.file_grammar.specs.declared.kind.Kind.TheVariants.{Other}
use Rattle.file_grammar.specs.declared.reason.Reason.{Reason}
use Rattle.file_grammar.specs.declared.reason.Reason.TheVariants.{CutRecord, LengthSmall, RecordLimit, FrameLimit}
use Rattle.file_grammar.specs.declared.reason.Reason.TheVariants.{BodyShort, BodyLong, BadText, LooseLink}
use Rattle.file_grammar.specs.declared.reason.Reason.TheVariants.{ClassRange, Redefined, NameTwice, ElementLimit}
use Rattle.dictionary.specs.declared.held.AddFault.{AddFault}
use Rattle.dictionary.specs.declared.held.AddFault.TheVariants as add
use Rattle.file_grammar.specs.declared.fault.Fault.{Fault}
use Rattle.file_grammar.specs.Structure.{Structure, size_of, record_limit}
use Rattle.file_grammar.specs.Kind.{kind_of, is_frame_kind, is_target_kind}
use Rattle.file_grammar.specs.Record.{weight_of}
use Rattle.file_grammar.specs.Item.{Item, EntryItem, OtherItem, Before, nothing_yet, after_kind, after}
use Rattle.file_grammar.specs.MayStand.{KindMayStand, MayStand, Stand}
use Rattle.file_grammar.specs.Fault.{Here, Spot, length_there, kind, load, weight, here, fault_spot, fault_at, reasons}
use Rattle.file_grammar.specs.Fault.{first_of, refusal_by, refusal, same_refusal}
use Rattle.file_grammar.specs.Steps.{item_by}
use Rattle.file_grammar.proofs.Unfaulted.{here-none}
use Rattle.file_grammar.proofs.Weights.{size-weight}
use Rattle.file_grammar.proofs.Standing.{is-judged}
use Rattle.channel_extract.specs.Passing.{is_passed_over, judged_passing, first_passing, pass_fault_by}
use Rattle.channel_extract.specs.Passing.{after_passing, Pass}
use Rattle.channel_extract.specs.TableLaws.{WellFormedFilesArePassed}

-- the same with another weight of the records so far
abbrev lighter : Here → ℕ → Here
lighter h l = record { order = h.order; file = h.file; before = record h.before { load = l } }

none-by : (o : Option Spot) (reason : Reason) (rest : Option Fault)
    → option_map_or (λ spot. Some (fault_at reason spot)) o rest ≡ None → (o ≡ None) × (rest ≡ None)
none-by None reason rest none = (refl, none)
none-by (Some spot) reason rest none = absurd (none-some (fault_at reason spot) (sym none))

each-none : (h : Here) (reason : Reason) (rs : List Reason) → first_of (reason ∷ rs) h ≡ None
    → (fault_spot reason h ≡ None) × (first_of rs h ≡ None)
each-none h reason rs none = none-by (fault_spot reason h) reason (first_of rs h) none

or-false : (a b : Bool) → (a || b) ≡ false → (a ≡ false) × (b ≡ false)
or-false true b h = absurd (cc)
or-false false b h = (refl, h)

or-both : (a b : Bool) → a ≡ false → b ≡ false → (a || b) ≡ false
or-both true b x y = absurd (cc)
or-both false b x y = y

and-second : (a b : Bool) → b ≡ false → (a && b) ≡ false
and-second true b y = y
and-second false b y = refl

-- what the two limits on weights leave, where the records so far weigh less
within-record : (frame : Bool) (before l size own : ℕ) → l ≤ before
    → (nat_lt record_limit size || (frame && (nat_le (before + size) record_limit && nat_lt record_limit own)))
    ≡ false → (frame && (nat_lt record_limit (before + size) || nat_lt record_limit (before + own))) ≡ false
    → (nat_lt record_limit size || (frame && (nat_le (l + size) record_limit && nat_lt record_limit own)))
    ≡ false
within-record false before l size own less one two = one
within-record true before l size own less one two =
    let small = (or-false (nat_lt record_limit size) (nat_le (before + size) record_limit
    && nat_lt record_limit own) one).0 in
    let whole = ltb-false record_limit (before + own)
    (or-false (nat_lt record_limit (before + size)) (nat_lt record_limit (before + own)) two).1 in
    or-both (nat_lt record_limit size) (nat_le (l + size) record_limit && nat_lt record_limit own) small
    (and-second (nat_le (l + size) record_limit) (nat_lt record_limit own)
    (le-ltb record_limit own (omega (arith, whole))))

less-size : (before l size : ℕ) → l ≤ before → nat_lt record_limit (before + size) ≡ false
    → nat_lt record_limit (l + size) ≡ false
less-size before l size less h =
    let within = ltb-false record_limit (before + size) h in
    le-ltb record_limit (l + size) (omega (arith, less, within))

within-frame : (frame : Bool) (before l size own : ℕ) → l ≤ before
    → (frame && (nat_lt record_limit (before + size) || nat_lt record_limit (before + own))) ≡ false
    → (frame && (nat_lt record_limit (l + size) || nat_lt record_limit (l + own))) ≡ false
within-frame false before l size own less two = refl
within-frame true before l size own less two =
    let both = or-false (nat_lt record_limit (before + size)) (nat_lt record_limit (before + own)) two in
    or-both (nat_lt record_limit (l + size)) (nat_lt record_limit (l + own)) (less-size before l size less both.0)
    (less-size before l own less both.1)

if-none : (h : Here) (c a b : Bool) → a ≡ false → b ≡ false → (if c then here h a else here h b) ≡ None
if-none h true a b x y = ap (here h) x
if-none h false a b x y = ap (here h) y

frame-if : (h : Here) (k : Kind) (a b : Bool) → (is_frame_kind k ≡ true → a ≡ false)
    → (is_frame_kind k && b) ≡ false → (if is_target_kind k then here h a else here h (is_frame_kind k && b)) ≡ None
frame-if h FrameH a b x y = ap (here h) (x refl)
frame-if h Other a b x y = ap (here h) (x refl)
frame-if h FrEndOfFrame a b x y = ap (here h) y
frame-if h FrTOC a b x y = refl
frame-if h FrEndOfFile a b x y = refl
frame-if h FrSH a b x y = refl
frame-if h FrSE a b x y = refl

or-none : (c : Bool) (o : Option Spot) → o ≡ None → (if c then None else o) ≡ None
or-none true o none = refl
or-none false o none = none

and-true : (a b : Bool) → (a && b) ≡ false → a ≡ true → b ≡ false
and-true true b h is = h
and-true false b h is = absurd (cc)

refusal-lighter : (h : Here) (l : ℕ) (k : Kind) → refusal_by k (lighter h l) ≡ refusal_by k h
refusal-lighter h l FrSH = refl
refusal-lighter h l FrSE = refl
refusal-lighter h l FrameH = refl
refusal-lighter h l FrEndOfFrame = refl
refusal-lighter h l FrTOC = refl
refusal-lighter h l FrEndOfFile = refl
refusal-lighter h l Other = refl

entry-lighter : (h : Here) (l : ℕ) (fault : AddFault)
    → option_and_then (λ f. here (lighter h l) (same_refusal f fault)) (refusal (lighter h l))
    ≡ option_and_then (λ f. here h (same_refusal f fault)) (refusal h)
entry-lighter h l fault =
    ap (λ o. option_and_then (λ f. here h (same_refusal f fault)) o) (refusal-lighter h l (kind h))

judged-none : (reason : Reason) (h : Here) (l : ℕ) → l ≤ load h → fault_spot RecordLimit h ≡ None
    → fault_spot FrameLimit h ≡ None → fault_spot reason h ≡ None → judged_passing reason (lighter h l) ≡ None
judged-none RecordLimit h l less one two none =
    let record_test = here-none h (nat_lt record_limit (length_there h)
    || (is_frame_kind (kind h) && (nat_le (load h + length_there h) record_limit && nat_lt record_limit (weight h))))
    one in
    let frame_test = here-none h (is_frame_kind (kind h)
    && (nat_lt record_limit (load h + length_there h) || nat_lt record_limit (load h + weight h))) two in
    if-none (lighter h l) (is_passed_over h) (nat_lt record_limit (length_there h))
    (nat_lt record_limit (length_there h)
    || (is_frame_kind (kind h) && (nat_le (l + length_there h) record_limit && nat_lt record_limit (weight h))))
    (or-false (nat_lt record_limit (length_there h)) (is_frame_kind (kind h)
    && (nat_le (load h + length_there h) record_limit && nat_lt record_limit (weight h))) record_test).0
    (within-record (is_frame_kind (kind h)) (load h) l (length_there h) (weight h) less record_test
    frame_test)
judged-none FrameLimit h l less one two none =
    let frame_test = here-none h (is_frame_kind (kind h)
    && (nat_lt record_limit (load h + length_there h) || nat_lt record_limit (load h + weight h))) two in
    frame-if (lighter h l) (kind h) (nat_lt record_limit (l + length_there h)) (nat_lt record_limit (l + length_there h)
    || nat_lt record_limit (l + weight h))
    (λ is. less-size (load h) l (length_there h) less
    (or-false (nat_lt record_limit (load h + length_there h)) (nat_lt record_limit (load h + weight h))
    (and-true (is_frame_kind (kind h)) (nat_lt record_limit (load h + length_there h)
    || nat_lt record_limit (load h + weight h)) frame_test is)).0)
    (within-frame (is_frame_kind (kind h)) (load h) l (length_there h) (weight h) less frame_test)
judged-none BodyShort h l less one two none = or-none (is_passed_over h) (fault_spot BodyShort h) none
judged-none BodyLong h l less one two none = or-none (is_passed_over h) (fault_spot BodyLong h) none
judged-none BadText h l less one two none = or-none (is_passed_over h) (fault_spot BadText h) none
judged-none LooseLink h l less one two none = refl
judged-none ClassRange h l less one two none = entry-lighter h l add.ClassRange ∙ none
judged-none Redefined h l less one two none = entry-lighter h l add.Redefined ∙ none
judged-none NameTwice h l less one two none = entry-lighter h l add.NameTwice ∙ none
judged-none ElementLimit h l less one two none = entry-lighter h l add.ElementLimit ∙ none
judged-none reason h l less one two none = none

first-judged : (rs : List Reason) (h : Here) (l : ℕ) → l ≤ load h → fault_spot RecordLimit h ≡ None
    → fault_spot FrameLimit h ≡ None → first_of rs h ≡ None → first_passing rs (lighter h l) ≡ None
first-judged [] h l less one two none = refl
first-judged (reason ∷ rs) h l less one two none =
    let each = each-none h reason rs none in
    ap (λ o. option_map_or (λ spot. Some (fault_at reason spot)) o (first_passing rs (lighter h l)))
    (judged-none reason h l less one two each.0) ∙ first-judged rs h l less one two each.1

abbrev rest_of : List Reason → List Reason
rest_of [] = []
rest_of (r ∷ rs) = rs

all-judged : (h : Here) (l : ℕ) → l ≤ load h → first_of reasons h ≡ None → first_passing reasons (lighter h l) ≡ None
all-judged h l less none =
    let first = each-none h CutRecord (rest_of reasons) none in
    let second = each-none h LengthSmall (rest_of (rest_of reasons)) first.1 in
    let third = each-none h RecordLimit (rest_of (rest_of (rest_of reasons))) second.1 in
    let fourth = each-none h FrameLimit (rest_of (rest_of (rest_of (rest_of reasons)))) third.1 in
    first-judged reasons h l less third.0 fourth.0 none

fault-by : (h : Here) (closed ends : Bool) → closed ≡ false → ends ≡ false → first_passing reasons h ≡ None
    → pass_fault_by closed ends h ≡ None
fault-by h false false x y none = none
fault-by h true ends x y none = absurd (cc)
fault-by h false true x y none = absurd (cc)

item-lighter : (h : Here) (l : ℕ) (k : Kind) → item_by k (lighter h l) ≡ item_by k h
item-lighter h l FrSH = refl
item-lighter h l FrSE = refl
item-lighter h l FrameH = refl
item-lighter h l FrEndOfFrame = refl
item-lighter h l FrTOC = refl
item-lighter h l FrEndOfFile = refl
item-lighter h l Other = refl

-- the same before, with another weight
abbrev with_load : Before → ℕ → Before
with_load b l = record b { load = l }

record Light (now : Before) (next : Before) : Type 0 where
  load : ℕ
  less : load ≤ next.load
  same : now ≡ with_load next load

light-kind : (k : Kind) (b : Before) (l : ℕ) (s : Structure) (own : ℕ) → l ≤ b.load
    → (is_target_kind k ≡ true → size_of s ≤ own)
    → Light (after_kind k (with_load b l) s (if is_target_kind k then size_of s else own))
    (after_kind k b s own)
light-kind FrameH b l s own less more = record {
  load = l + size_of s;
  less = omega (arith, less, more refl);
  same =
      refl;
}
light-kind Other b l s own less more = record {
  load = l + size_of s;
  less = omega (arith, less, more refl);
  same =
      refl;
}
light-kind FrEndOfFrame b l s own less more = record { load = 0; less = omega arith; same = refl }
light-kind FrTOC b l s own less more = record { load = l; less = less; same = refl }
light-kind FrEndOfFile b l s own less more = record { load = l; less = less; same = refl }
light-kind FrSH b l s own less more = record { load = l; less = less; same = refl }
light-kind FrSE b l s own less more = record { load = l; less = less; same = refl }

weighs-more : (k : Kind) (order : Order) (b : Before) (s : Structure) → KindMayStand k order b s
    → is_target_kind k ≡ true → size_of s ≤ weight_of order b.dictionary s
weighs-more FrameH order b s may is = size-weight order b.dictionary s may.0.reading may.0.reads
weighs-more Other order b s may is = size-weight order b.dictionary s may.0.reading may.0.reads
weighs-more FrEndOfFrame order b s may is = size-weight order b.dictionary s may.0.reading may.0.reads
weighs-more FrTOC order b s may is = absurd (cc)
weighs-more FrEndOfFile order b s may is = absurd (cc)
weighs-more FrSH order b s may is = absurd may
weighs-more FrSE order b s may is = absurd may

light-after : (order : Order) (file : List ℕ) (b : Before) (l : ℕ) (item : Item) → MayStand order file b item
    → l ≤ b.load → Light (after_passing order (with_load b l) item) (after order b item)
light-after order file b l (EntryItem head run entry) may less = record { load = l; less = less; same = refl }
light-after order file b l (OtherItem s) may less =
    let k = kind_of b.dictionary s.class in
    light-kind k b l s (weight_of order b.dictionary s) less (weighs-more k order b s may.1.kind)

record PassesLight (order : Order) (file : List ℕ) (b : Before) (items : List Item) (last : Before) : Type 0 where
  load : ℕ
  pass : Pass order file b items (with_load last load)

passes-on : (order : Order) (file : List ℕ) (b : Before) (l : ℕ) (items : List Item) (last : Before)
    → Stand order file b items last → l ≤ b.load → PassesLight order file (with_load b l) items last
passes-on order file b l [] last stand less =
    record { load = l; pass = ap (λ (x : Before). with_load x l) stand }
passes-on order file b l (item ∷ items) last stand less =
    let h : Here = record { order = order; file = file; before = b } in
    let is = is-judged order file b item stand.0 in
    let next = light-after order file b l item stand.0 less in
    let others = passes-on order file (after order b item) next.load items last stand.1 next.less in
    record {
      load = others.load;
      pass = (
        is.1,
        fault-by (lighter h l) b.closed (b.place == length file) is.0
            (ne_eqb b.place (length file) (λ e. absurd (omega (arith, e, is.1)))) (all-judged h l less is.2),
        item-lighter h l (kind h)
            ∙ is.3,
        subst (λ (x : Before). Pass order file x items (with_load last others.load))
            (sym next.same) others.pass,
      );
    }

pub are_passed : WellFormedFilesArePassed
are_passed file order items last well =
    let on = passes-on order file nothing_yet 0 items last well.begins.stand (omega arith) in
    record {
      end = with_load last on.load;
      passed = record {
        to = record { size = well.begins.size; header = well.begins.header; pass = on.pass };
        closed = well.closed;
        ends = well.ends;
      };
      same = refl;
    }
