-- What following the right positions through frames gives: the cuts that reading all gives.
use Rattle.std.proofs.Common.{◌≡◌, ℕ, Bool, true, false, Option, Some, None, List, [], ◌∷◌, map, refl, sym}
use Rattle.std.proofs.Common.{ap, ◌∙◌, arith}
use Rattle.std.specs.Prelude.{if◌then◌else◌, ◌==◌, ◌&&◌}
use Rattle.std.specs.List.{AllByRecursion, list_all}
use Rattle.std.specs.Option.{option_map_or}
use Rattle.std.proofs.lemmas.Bool.{ne_eqb}
use Rattle.frame_content.specs.Frames.{Frame}
use Rattle.contents_table.specs.declared.kind.Kind.{Kind}
use Rattle.channel_extract.specs.Cuts.{cut, cut_before, extraction}
use Rattle.channel_extract.specs.Placed.{PlacedFrame, frame, head_place, channel_place, record_at}
use Rattle.channel_extract.specs.ByTable.{NoChannel, Whole, Extraction, TableFrame, ended, whole_of, is_channel, lie}
use Rattle.channel_extract.specs.ByTable.{cuts_at, or_lie, followed, is_zero, table_frames, by_positions}
use Rattle.channel_extract.proofs.Rising.{IsOrderly}
use Rattle.channel_extract.proofs.ChannelPlaces.{Leads, Nowhere, To, leads}

-- a frame with its right places
abbrev pub right_frame : Kind → List ℕ → PlacedFrame → TableFrame
right_frame kind name p = record { placed = p; head = head_place p; at = channel_place kind name p }

pub right-frames : (kind : Kind) (name : List ℕ) (ps : List PlacedFrame)
    → table_frames ps (map head_place ps) (map (channel_place kind name) ps) ≡ map (right_frame kind name) ps
right-frames kind name [] = refl
right-frames kind name (p ∷ ps) =
    ap (λ (rest : List TableFrame). right_frame kind name p ∷ rest) (right-frames kind name ps)

eq-self : (n : ℕ) → (n == n) ≡ true
eq-self n = grind arith

no-lie : (b c : Bool) (q head : ℕ) → b ≡ true → c ≡ true
    → (if b then (if c then None else Some q) else Some head) ≡ None
no-lie true true q head x y = refl
no-lie false c q head x y = absurd (cc)
no-lie true false q head x y = absurd (cc)

zero-skipped : (b : Bool) (x y : Extraction) → b ≡ true → (if b then x else y) ≡ x
zero-skipped true x y h = refl
zero-skipped false x y h = absurd (cc)

not-skipped : (b : Bool) (x y : Extraction) → b ≡ false → (if b then x else y) ≡ y
not-skipped false x y h = refl
not-skipped true x y h = absurd (cc)

lie-none : (kind : Kind) (name : List ℕ) (p : PlacedFrame) (k : ℕ) → record_at p (channel_place kind name p) ≡ Some k
    → is_channel (frame p) kind name k ≡ true → lie kind name (right_frame kind name p) ≡ None
lie-none kind name p k at is =
    no-lie (head_place p == head_place p)
    (option_map_or (is_channel (frame p) kind name) (record_at p (channel_place kind name p)) false)
    (channel_place kind name p) (head_place p) (eq-self (head_place p))
    (ap (λ o. option_map_or (is_channel (frame p) kind name) o false) at ∙ is)

-- the cuts with that of one more frame
abbrev more : Kind → PlacedFrame → List Frame → Option ℕ → List Frame
more kind p rest o = option_map_or (cut_before (frame p) kind rest) o rest

follow-one : (kind : Kind) (name : List ℕ) (p : PlacedFrame) (ps : List PlacedFrame) → Leads p kind name
    → followed kind name (map (right_frame kind name) ps)
    ≡ record { cuts = extraction kind name (map frame ps); ending = Whole }
    → followed kind name (map (right_frame kind name) (p ∷ ps))
    ≡ record { cuts = extraction kind name (map frame (p ∷ ps)); ending = Whole }
follow-one kind name p ps (Nowhere none zero_place) rest =
    let q = channel_place kind name p in
    let s = right_frame kind name p in
    let others = followed kind name (map (right_frame kind name) ps) in
    zero-skipped (q == 0) others (or_lie (lie kind name s) (cuts_at kind s) others) (ap (λ n. n == 0) zero_place)
    ∙ rest ∙ (λ i. record { cuts = more kind p (extraction kind name (map frame ps)) (sym none i); ending = Whole })
follow-one kind name p ps (To k some above at is) rest =
    let q = channel_place kind name p in
    let s = right_frame kind name p in
    let others = followed kind name (map (right_frame kind name) ps) in
    not-skipped (q == 0) others (or_lie (lie kind name s) (cuts_at kind s) others)
    (ne_eqb q 0 (λ e. absurd (omega (arith, e, above))))
    ∙ (λ i. or_lie (lie-none kind name p k at is i) (option_map_or (λ j. cut (frame p) kind j ∷ []) (at i) [])
    (rest i))
    ∙ (λ i. record { cuts = more kind p (extraction kind name (map frame ps)) (sym some i); ending = Whole })

follow-right : (kind : Kind) (name : List ℕ) (ps : List PlacedFrame) → AllByRecursion IsOrderly ps
    → followed kind name (map (right_frame kind name) ps)
    ≡ record { cuts = extraction kind name (map frame ps); ending = Whole }
follow-right kind name [] all = refl
follow-right kind name (p ∷ ps) all =
    follow-one kind name p ps (leads p all.0.0 kind name all.0.1) (follow-right kind name ps all.1)

-- ---- all places are 0 where no frame has the channel, and there alone

data AnyOrNone (kind : Kind) (name : List ℕ) (ps : List PlacedFrame) : Type 0 where
  NoneHas : list_all is_zero (map (channel_place kind name) ps) ≡ true → extraction kind name (map frame ps) ≡ []
      → AnyOrNone kind name ps
  SomeHas : list_all is_zero (map (channel_place kind name) ps) ≡ false → (first : Frame) (others : List Frame)
      → extraction kind name (map frame ps) ≡ first ∷ others → AnyOrNone kind name ps

and-left : (a b : Bool) → a ≡ false → (a && b) ≡ false
and-left false b h = refl
and-left true b h = absurd (cc)

and-right : (a b : Bool) → a ≡ true → (a && b) ≡ b
and-right true b h = refl
and-right false b h = absurd (cc)

any-one : (kind : Kind) (name : List ℕ) (p : PlacedFrame) (ps : List PlacedFrame) → Leads p kind name
    → AnyOrNone kind name ps → AnyOrNone kind name (p ∷ ps)
any-one kind name p ps (Nowhere none zero_place) (NoneHas zeros empty) =
    let here : is_zero (channel_place kind name p) ≡ true = ap is_zero zero_place in
    NoneHas (and-right (is_zero (channel_place kind name p)) (list_all is_zero (map (channel_place kind name) ps)) here
    ∙ zeros) (ap (more kind p (extraction kind name (map frame ps))) none ∙ empty)
any-one kind name p ps (Nowhere none zero_place) (SomeHas other first others is) =
    let here : is_zero (channel_place kind name p) ≡ true = ap is_zero zero_place in
    SomeHas (and-right (is_zero (channel_place kind name p)) (list_all is_zero (map (channel_place kind name) ps)) here
    ∙ other) first others (ap (more kind p (extraction kind name (map frame ps))) none ∙ is)
any-one kind name p ps (To k some above at is) rest =
    SomeHas (and-left (is_zero (channel_place kind name p)) (list_all is_zero (map (channel_place kind name) ps))
    (ne_eqb (channel_place kind name p) 0 (λ e. absurd (omega (arith, e, above))))) (cut (frame p) kind k)
    (extraction kind name (map frame ps)) (ap (more kind p (extraction kind name (map frame ps))) some)

any-or-none : (kind : Kind) (name : List ℕ) (ps : List PlacedFrame) → AllByRecursion IsOrderly ps
    → AnyOrNone kind name ps
any-or-none kind name [] all = NoneHas refl refl
any-or-none kind name (p ∷ ps) all =
    any-one kind name p ps (leads p all.0.0 kind name all.0.1) (any-or-none kind name ps all.1)

-- The right positions give the cuts of the frames that have the channel.
pub right-positions : (kind : Kind) (name : List ℕ) (ps : List PlacedFrame) → AllByRecursion IsOrderly ps
    → by_positions kind name ps (map head_place ps) (map (channel_place kind name) ps)
    ≡ whole_of (extraction kind name (map frame ps))
right-positions kind name ps all =
    ap (λ fs. if list_all is_zero (map (channel_place kind name) ps) then ended NoChannel else followed kind name fs)
    (right-frames kind name ps) ∙ by (any-or-none kind name ps all)
  where
    by : AnyOrNone kind name ps
        → (if list_all is_zero (map (channel_place kind name) ps) then ended NoChannel
        else followed kind name (map (right_frame kind name) ps)) ≡ whole_of (extraction kind name (map frame ps))
    by (NoneHas zeros empty) =
        zero-skipped (list_all is_zero (map (channel_place kind name) ps)) (ended NoChannel)
        (followed kind name (map (right_frame kind name) ps)) zeros ∙ ap whole_of (sym empty)
    by (SomeHas other first others is) =
        not-skipped (list_all is_zero (map (channel_place kind name) ps)) (ended NoChannel)
        (followed kind name (map (right_frame kind name) ps)) other
        ∙ follow-right kind name ps all ∙ (λ i. record { cuts = is i; ending = Whole }) ∙ ap whole_of (sym is)
