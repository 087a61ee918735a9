-- What is built of frames for a contents table: each frame's FrameH, and of each name the place of its channel in each
-- frame.
use Rattle.std.proofs.Common.{◌≡◌, ℕ, ◌+◌, ◌-◌, Bool, true, false, cond, Option, Some, None}
use Rattle.std.proofs.Common.{List, [], ◌∷◌, ◌++◌, length, map, fold, refl, sym, ap, ◌∙◌, arith}
use Rattle.std.specs.Prelude.{find, if◌then◌else◌, ◌==◌, ◌||◌}
use Rattle.std.specs.List.{list_any}
use Rattle.std.specs.Option.{option_map, option_map_or}
use Rattle.std.specs.Str.{bytes_eq}
use Rattle.std.proofs.lemmas.Bool.{eqb-true}
use Rattle.std.proofs.lemmas.List.{append_assoc, append-nil, length-append}
use Rattle.std.proofs.lemmas.Slice.Eq.{bytes_eq-Decides}
use Rattle.scalar_types.specs.declared.Order.{Order}
use Rattle.file_grammar.specs.Structure.{Structure}
use Rattle.link_graph.specs.Collected.{Bodied}
use Rattle.item_reader.specs.State.{bodied_of}
use Rattle.frame_content.specs.Frames.{Frame}
use Rattle.contents_table.specs.declared.kind.Kind.{Kind}
use Rattle.contents_table.specs.declared.kind.Kind.TheVariants.{Adc, Proc, Sim, Ser}
use Rattle.contents_table.specs.declared.names.Found.{Found}
use Rattle.contents_table.specs.declared.names.Listed.{Listed}
use Rattle.contents_table.specs.Channels.{header_of, named_channels}
use Rattle.contents_table.specs.Built.{Built, nothing_built, listed_of, with_listed, with_frame, is_in, with_found}
use Rattle.contents_table.specs.Built.{with_name, last_frame, place_in, position_in, place_of, with_named}
use Rattle.contents_table.specs.Built.{with_channels, with_frame_at, places_of}
use Rattle.contents_table.proofs.Adding.{name-kept}
use Rattle.file_content.specs.Contents.{with_stored}
use Rattle.contents_table.specs.Channels.{channel_named}
use Rattle.channel_extract.specs.Cuts.{has_name}
use Rattle.channel_extract.specs.Placed.{PlacedFrame, stored, place_in_file, head_place}
use Rattle.channel_extract.specs.Placed.{frame as held_frame, places as frame_places}

-- ---- the place that is listed of a name in a frame

abbrev pub or_else : Option ℕ → Option ℕ → Option ℕ
or_else (Some x) o = Some x
or_else None o = o

abbrev pub or_zero : Option ℕ → ℕ
or_zero o = option_map_or (λ n. n) o 0

abbrev pub at_frame : ℕ → List Found → Option ℕ
at_frame frame [] = None
at_frame frame (f ∷ fs) = if is_in frame f then Some f.at else at_frame frame fs

abbrev pub listed_at : List Listed → List ℕ → ℕ → Option ℕ
listed_at [] name frame = None
listed_at (l ∷ ls) name frame = if bytes_eq name l.name then at_frame frame l.found else listed_at ls name frame

or_none : (o : Option ℕ) → or_else o None ≡ o
or_none None = refl
or_none (Some x) = refl

or_assoc : (a b c : Option ℕ) → or_else (or_else a b) c ≡ or_else a (or_else b c)
or_assoc (Some x) b c = refl
or_assoc None b c = refl

if_same : {X : Type 0} (b : Bool) (x y : X) → b ≡ true → (if b then x else y) ≡ x
if_same true x y is = refl
if_same false x y is = absurd (cc)

if_other : {X : Type 0} (b : Bool) (x y : X) → b ≡ false → (if b then x else y) ≡ y
if_other true x y is = absurd (cc)
if_other false x y is = refl

place-at : (frame : ℕ) (found : List Found) → place_in frame found ≡ or_zero (at_frame frame found)
place-at frame [] = refl
place-at frame (f ∷ fs) = by (is_in frame f) (place-at frame fs)
  where
    by : (b : Bool) → place_in frame fs ≡ or_zero (at_frame frame fs)
        → option_map_or (λ (g : Found). g.at) (cond b (Some f) (find (is_in frame) fs)) 0
        ≡ or_zero (if b then Some f.at else at_frame frame fs)
    by true rest = refl
    by false rest = rest

pub position-at : (listed : List Listed) (name : List ℕ) (frame : ℕ)
    → position_in listed name frame ≡ or_zero (listed_at listed name frame)
position-at [] name frame = refl
position-at (l ∷ ls) name frame = by (bytes_eq name l.name) (position-at ls name frame)
  where
    by : (b : Bool) → position_in ls name frame ≡ or_zero (listed_at ls name frame)
        → option_map_or (λ (x : Listed). place_in frame x.found)
        (cond b (Some l) (find (λ (x : Listed). bytes_eq name x.name) ls)) 0
        ≡ or_zero (if b then at_frame frame l.found else listed_at ls name frame)
    by true rest = place-at frame l.found
    by false rest = rest

-- ---- one more channel

-- its place, where it is one of this frame
abbrev new_at : ℕ → Found → Option ℕ
new_at frame f = if is_in frame f then Some f.at else None

at-append : (frame : ℕ) (found : List Found) (f : Found)
    → at_frame frame (found ++ f ∷ []) ≡ or_else (at_frame frame found) (new_at frame f)
at-append frame [] f = refl
at-append frame (g ∷ gs) f = by (is_in frame g) (at-append frame gs f)
  where
    by : (b : Bool) → at_frame frame (gs ++ f ∷ []) ≡ or_else (at_frame frame gs) (new_at frame f)
        → (if b then Some g.at else at_frame frame (gs ++ f ∷ []))
        ≡ or_else (if b then Some g.at else at_frame frame gs) (new_at frame f)
    by true rest = refl
    by false rest = rest

later : (a b : Bool) → (a || b) ≡ true → a ≡ false → b ≡ true
later true b some is = absurd (cc)
later false b some is = some

at-some : (frame : ℕ) (found : List Found) (o : Option ℕ) → list_any (is_in frame) found ≡ true
    → at_frame frame found ≡ or_else (at_frame frame found) o
at-some frame [] o some = absurd (cc)
at-some frame (g ∷ gs) o some = by (is_in frame g) refl (at-some frame gs o)
  where
    by : (b : Bool) → is_in frame g ≡ b
        → (list_any (is_in frame) gs ≡ true → at_frame frame gs ≡ or_else (at_frame frame gs) o)
        → (if b then Some g.at else at_frame frame gs) ≡ or_else (if b then Some g.at else at_frame frame gs) o
    by true is rest = refl
    by false is rest = rest (later (is_in frame g) (list_any (is_in frame) gs) some is)

found-at : (frame : ℕ) (f : Found) (l : Listed)
    → at_frame frame (with_found f l).found ≡ or_else (at_frame frame l.found) (new_at frame f)
found-at frame f l = by (list_any (is_in f.frame) l.found) refl (is_in frame f) refl
  where
    by : (b : Bool) → list_any (is_in f.frame) l.found ≡ b → (c : Bool) → is_in frame f ≡ c
        → at_frame frame (if b then l else record l { found = l.found ++ f ∷ [] }).found
        ≡ or_else (at_frame frame l.found) (if c then Some f.at else None)
    by false none c is =
        at-append frame l.found f ∙ ap (λ d. or_else (at_frame frame l.found) (if d then Some f.at else None)) is
    by true some false is = sym (or_none (at_frame frame l.found))
    by true some true is =
        at-some frame l.found (Some f.at)
        (ap (λ n. list_any (is_in n) l.found) (sym (eqb-true f.frame frame is)) ∙ some)

-- the place of a channel of this name
abbrev called_at : List ℕ → ℕ → List ℕ → Found → Option ℕ
called_at name frame other f = if bytes_eq name other then new_at frame f else None

same-name : (name other : List ℕ) → bytes_eq name other ≡ true → name ≡ other
same-name name other is = (bytes_eq-Decides name other).0 is

eq-name : (name other : List ℕ) → name ≡ other → bytes_eq name other ≡ true
eq-name name other same = (bytes_eq-Decides name other).1 same

name-at : (other : List ℕ) (f : Found) (listed : List Listed) (name : List ℕ) (frame : ℕ)
    → listed_at (with_name other f listed) name frame
    ≡ or_else (listed_at listed name frame) (called_at name frame other f)
unfolding with_name
name-at other f [] name frame = refl
name-at other f (l ∷ ls) name frame =
    by (bytes_eq other l.name) refl (bytes_eq name l.name) refl (bytes_eq name other) refl
    (name-at other f ls name frame)
  where
    by : (b : Bool) → bytes_eq other l.name ≡ b → (c : Bool) → bytes_eq name l.name ≡ c → (d : Bool)
        → bytes_eq name other ≡ d
        → listed_at (with_name other f ls) name frame
        ≡ or_else (listed_at ls name frame) (called_at name frame other f)
        → listed_at (if b then with_found f l ∷ ls else l ∷ with_name other f ls) name frame
        ≡ or_else (if c then at_frame frame l.found else listed_at ls name frame) (if d then new_at frame f else None)
    by true own true here true same rest =
        if_same (bytes_eq name (with_found f l).name) (at_frame frame (with_found f l).found) (listed_at ls name frame)
        (ap (bytes_eq name) (name-kept f l) ∙ here) ∙ found-at frame f l
    by true own false here false same rest =
        if_other (bytes_eq name (with_found f l).name) (at_frame frame (with_found f l).found) (listed_at ls name frame)
        (ap (bytes_eq name) (name-kept f l) ∙ here) ∙ sym (or_none (listed_at ls name frame))
    by true own true here false same rest =
        let is = eq-name name other (same-name name l.name here ∙ sym (same-name other l.name own)) in
        absurd (cc)
    by true own false here true same rest =
        let is = eq-name name l.name (same-name name other same ∙ same-name other l.name own) in
        absurd (cc)
    by false own true here true same rest =
        let is = eq-name other l.name (sym (same-name name other same) ∙ same-name name l.name here) in
        absurd (cc)
    by false own true here false same rest =
        if_same (bytes_eq name l.name) (at_frame frame l.found) (listed_at (with_name other f ls) name frame) here
        ∙ sym (or_none (at_frame frame l.found))
    by false own false here d same rest =
        if_other (bytes_eq name l.name) (at_frame frame l.found) (listed_at (with_name other f ls) name frame) here
        ∙ rest ∙ ap (λ e. or_else (listed_at ls name frame) (if e then new_at frame f else None)) same

-- ---- one more frame

abbrev is_same_kind : Kind → Kind → Bool
is_same_kind Adc Adc = true
is_same_kind Proc Proc = true
is_same_kind Sim Sim = true
is_same_kind Ser Ser = true
is_same_kind kind other = false

listed-with : (built : Built) (kind other : Kind) (listed : List Listed)
    → listed_of (with_listed built other listed) kind
    ≡ (if is_same_kind kind other then listed else listed_of built kind)
listed-with built Adc Adc listed = refl
listed-with built Adc Proc listed = refl
listed-with built Adc Sim listed = refl
listed-with built Adc Ser listed = refl
listed-with built Proc Adc listed = refl
listed-with built Proc Proc listed = refl
listed-with built Proc Sim listed = refl
listed-with built Proc Ser listed = refl
listed-with built Sim Adc listed = refl
listed-with built Sim Proc listed = refl
listed-with built Sim Sim listed = refl
listed-with built Sim Ser listed = refl
listed-with built Ser Adc listed = refl
listed-with built Ser Proc listed = refl
listed-with built Ser Sim listed = refl
listed-with built Ser Ser listed = refl

same-kind : (kind other : Kind) → is_same_kind kind other ≡ true → kind ≡ other
same-kind Adc Adc is = refl
same-kind Proc Proc is = refl
same-kind Sim Sim is = refl
same-kind Ser Ser is = refl
same-kind Adc Proc is = absurd (cc)
same-kind Adc Sim is = absurd (cc)
same-kind Adc Ser is = absurd (cc)
same-kind Proc Adc is = absurd (cc)
same-kind Proc Sim is = absurd (cc)
same-kind Proc Ser is = absurd (cc)
same-kind Sim Adc is = absurd (cc)
same-kind Sim Proc is = absurd (cc)
same-kind Sim Ser is = absurd (cc)
same-kind Ser Adc is = absurd (cc)
same-kind Ser Proc is = absurd (cc)
same-kind Ser Sim is = absurd (cc)

heads-with : (built : Built) (kind : Kind) (listed : List Listed) → (with_listed built kind listed).heads ≡ built.heads
heads-with built Adc listed = refl
heads-with built Proc listed = refl
heads-with built Sim listed = refl
heads-with built Ser listed = refl

heads-named : (kind : Kind) (places : List ℕ) (cs : List (List ℕ × ℕ)) (built : Built)
    → (fold (with_named kind places) built cs).heads ≡ built.heads
heads-named kind places [] built = refl
heads-named kind places (c ∷ cs) built =
    heads-named kind places cs (with_named kind places built c)
    ∙ heads-with built kind (with_name c.0 (record { frame = last_frame built; at = place_of places c.1 })
    (listed_of built kind))

-- the place of the first of these channels of a name
abbrev place_called : List ℕ → List ℕ → List (List ℕ × ℕ) → Option ℕ
place_called places name cs = option_map (λ (c : List ℕ × ℕ). place_of places c.1) (find (has_name name) cs)

-- where the frame that came last is this one
abbrev pub if_last : ℕ → ℕ → Option ℕ → Option ℕ
if_last last frame o = if last == frame then o else None

abbrev if_kind : Kind → Kind → Option ℕ → Option ℕ
if_kind kind other o = if is_same_kind kind other then o else None

first-called : (b d : Bool) (at : ℕ) (c : List ℕ × ℕ) (places : List ℕ) (o : Option (List ℕ × ℕ))
    → at ≡ place_of places c.1
    → or_else (if b then (if d then Some at else None) else None)
    (if d then option_map (λ (c : List ℕ × ℕ). place_of places c.1) o else None)
    ≡ (if d then option_map (λ (c : List ℕ × ℕ). place_of places c.1) (cond b (Some c) o) else None)
first-called true true at c places o is = ap Some is
first-called true false at c places o is = refl
first-called false true at c places o is = refl
first-called false false at c places o is = refl

own-channels : (kind : Kind) (places : List ℕ) (cs : List (List ℕ × ℕ)) (built : Built) (name : List ℕ) (frame : ℕ)
    → listed_at (listed_of (fold (with_named kind places) built cs) kind) name frame
    ≡ or_else (listed_at (listed_of built kind) name frame)
    (if_last (last_frame built) frame (place_called places name cs))
own-channels kind places [] built name frame =
    sym (or_none (listed_at (listed_of built kind) name frame))
    ∙ ap (or_else (listed_at (listed_of built kind) name frame)) (none (last_frame built == frame))
  where
    none : (b : Bool) → ◌≡◌ {A = Option ℕ} None (if b then None else None)
    none true = refl
    none false = refl
own-channels kind places (c ∷ cs) built name frame =
    let f : Found = record { frame = last_frame built; at = place_of places c.1 } in
    let old = listed_of built kind in
    let next = with_named kind places built c in
    let last : last_frame next ≡ last_frame built =
    ap (λ (hs : List ℕ). length hs - 1) (heads-with built kind (with_name c.0 f old)) in
    let own : listed_of next kind ≡ with_name c.0 f old =
    listed-with built kind kind (with_name c.0 f old)
    ∙ if_same (is_same_kind kind kind) (with_name c.0 f old) old (reflexive kind) in
    own-channels kind places cs next name frame
    ∙ (λ i. or_else (listed_at (own i) name frame) (if_last (last i) frame (place_called places name cs)))
    ∙ ap (λ o. or_else o (if_last (last_frame built) frame (place_called places name cs)))
    (name-at c.0 f old name frame)
    ∙ or_assoc (listed_at old name frame) (called_at name frame c.0 f)
    (if_last (last_frame built) frame (place_called places name cs))
    ∙ ap (or_else (listed_at old name frame))
    (first-called (bytes_eq name c.0) (last_frame built == frame) (place_of places c.1) c places
    (find (has_name name) cs) refl)
  where
    reflexive : (k : Kind) → is_same_kind k k ≡ true
    reflexive Adc = refl
    reflexive Proc = refl
    reflexive Sim = refl
    reflexive Ser = refl

other-channels : (kind other : Kind) (places : List ℕ) (cs : List (List ℕ × ℕ)) (built : Built)
    → is_same_kind kind other ≡ false → listed_of (fold (with_named other places) built cs) kind ≡ listed_of built kind
other-channels kind other places [] built differ = refl
other-channels kind other places (c ∷ cs) built differ =
    let new = with_name c.0 (record { frame = last_frame built; at = place_of places c.1 }) (listed_of built other) in
    other-channels kind other places cs (with_named other places built c) differ
    ∙ listed-with built kind other new
    ∙ if_other (is_same_kind kind other) new (listed_of built kind) differ

-- the channels of one kind
kind-channels : (kind other : Kind) (places : List ℕ) (f : Frame) (built : Built) (name : List ℕ) (frame : ℕ)
    → listed_at (listed_of (with_channels places f built other) kind) name frame
    ≡ or_else (listed_at (listed_of built kind) name frame)
    (if_kind kind other (if_last (last_frame built) frame (place_called places name (named_channels f kind))))
kind-channels kind other places f built name frame = by (is_same_kind kind other) refl
  where
    here : Option ℕ
    here = if_last (last_frame built) frame (place_called places name (named_channels f kind))

    by : (b : Bool) → is_same_kind kind other ≡ b
        → listed_at (listed_of (with_channels places f built other) kind) name frame
        ≡ or_else (listed_at (listed_of built kind) name frame)
        (if b then if_last (last_frame built) frame (place_called places name (named_channels f kind)) else None)
    by true is =
        ap (λ k. listed_at (listed_of (with_channels places f built k) kind) name frame) (sym (same-kind kind other is))
        ∙ own-channels kind places (named_channels f kind) built name frame
    by false is =
        ap (λ ls. listed_at ls name frame) (other-channels kind other places (named_channels f other) built is)
        ∙ sym (or_none (listed_at (listed_of built kind) name frame))

-- the place in this frame, where the frame is the one
abbrev frame_at : Kind → List ℕ → List ℕ → Frame → Option ℕ
frame_at kind places name f = place_called places name (named_channels f kind)

all-kinds : (kind : Kind) (o : Option ℕ)
    → or_else (or_else (or_else (if_kind kind Adc o) (if_kind kind Proc o)) (if_kind kind Sim o)) (if_kind kind Ser o)
    ≡ o
all-kinds Adc o = or_none (or_else (or_else o None) None) ∙ or_none (or_else o None) ∙ or_none o
all-kinds Proc o = or_none (or_else o None) ∙ or_none o
all-kinds Sim o = or_none o
all-kinds Ser o = refl

heads-channels : (places : List ℕ) (f : Frame) (built : Built) (kind : Kind)
    → (with_channels places f built kind).heads ≡ built.heads
heads-channels places f built kind = heads-named kind places (named_channels f kind) built

last-frame : (built : Built) (at : ℕ) → last_frame (with_frame at built) ≡ length built.heads
last-frame built at = let long = length-append built.heads (at ∷ []) in omega (arith, long)

-- What is listed of a name in a frame is what was, or else its place in the new frame, where that is the frame.
with-frame : (kind : Kind) (places : List ℕ) (f : Frame) (built : Built) (name : List ℕ) (frame : ℕ)
    → listed_at (listed_of (with_frame_at places f built) kind) name frame
    ≡ or_else (listed_at (listed_of built kind) name frame)
    (if_last (length built.heads) frame (frame_at kind places name f))
with-frame kind places f built name frame =
    let b0 = with_frame (option_map_or (place_of places) (header_of f) 0) built in
    let b1 = with_channels places f b0 Adc in
    let b2 = with_channels places f b1 Proc in
    let b3 = with_channels places f b2 Sim in
    let o : ℕ → Option ℕ = λ last. if_last last frame (frame_at kind places name f) in
    let own = length built.heads in
    let l0 : last_frame b0 ≡ own = last-frame built (option_map_or (place_of places) (header_of f) 0) in
    let l1 : last_frame b1 ≡ own = ap (λ (hs : List ℕ). length hs - 1) (heads-channels places f b0 Adc) ∙ l0 in
    let l2 : last_frame b2 ≡ own = ap (λ (hs : List ℕ). length hs - 1) (heads-channels places f b1 Proc) ∙ l1 in
    let l3 : last_frame b3 ≡ own = ap (λ (hs : List ℕ). length hs - 1) (heads-channels places f b2 Sim) ∙ l2 in
    let start = listed_at (listed_of built kind) name frame in
    let first : listed_of b0 kind ≡ listed_of built kind = kept kind in
    let s1 : listed_at (listed_of b1 kind) name frame ≡ or_else start (if_kind kind Adc (o own)) =
    kind-channels kind Adc places f b0 name frame
    ∙ (λ i. or_else (listed_at (first i) name frame) (if_kind kind Adc (o (l0 i)))) in
    let s2 : listed_at (listed_of b2 kind) name frame
    ≡ or_else (or_else start (if_kind kind Adc (o own))) (if_kind kind Proc (o own)) =
    kind-channels kind Proc places f b1 name frame ∙ (λ i. or_else (s1 i) (if_kind kind Proc (o (l1 i)))) in
    let s3 : listed_at (listed_of b3 kind) name frame
    ≡ or_else (or_else (or_else start (if_kind kind Adc (o own))) (if_kind kind Proc (o own)))
    (if_kind kind Sim (o own)) =
    kind-channels kind Sim places f b2 name frame ∙ (λ i. or_else (s2 i) (if_kind kind Sim (o (l2 i)))) in
    kind-channels kind Ser places f b3 name frame
    ∙ (λ i. or_else (s3 i) (if_kind kind Ser (o (l3 i))))
    ∙ regroup start (if_kind kind Adc (o own)) (if_kind kind Proc (o own)) (if_kind kind Sim (o own))
    (if_kind kind Ser (o own))
    ∙ ap (or_else start) (all-kinds kind (o own))
  where
    kept : (k : Kind)
        → listed_of (with_frame (option_map_or (place_of places) (header_of f) 0) built) k ≡ listed_of built k
    kept Adc = refl
    kept Proc = refl
    kept Sim = refl
    kept Ser = refl

    regroup : (x a b c d : Option ℕ)
        → or_else (or_else (or_else (or_else x a) b) c) d ≡ or_else x (or_else (or_else (or_else a b) c) d)
    regroup (Some x) a b c d = refl
    regroup None a b c d = refl

with-heads : (places : List ℕ) (f : Frame) (built : Built)
    → (with_frame_at places f built).heads ≡ built.heads ++ option_map_or (place_of places) (header_of f) 0 ∷ []
with-heads places f built =
    let b0 = with_frame (option_map_or (place_of places) (header_of f) 0) built in
    let b1 = with_channels places f b0 Adc in
    let b2 = with_channels places f b1 Proc in
    let b3 = with_channels places f b2 Sim in
    heads-channels places f b3 Ser ∙ heads-channels places f b2 Sim ∙ heads-channels places f b1 Proc
    ∙ heads-channels places f b0 Adc

-- ---- the frames of a file

abbrev pub built_from : Order → Built → List PlacedFrame → Built
built_from order built ps = fold (with_stored order) built (map stored ps)

all-places : (p : PlacedFrame) → places_of (stored p).nodes ≡ frame_places p
all-places p = by p.records
  where
    by : (ss : List Structure)
        → map (λ (r : Bodied). r.node.at) (map (bodied_of p.held) ss) ≡ map place_in_file ss
    by [] = refl
    by (s ∷ ss) = ap (λ (rest : List ℕ). s.at ∷ rest) (by ss)

-- the frames are of this byte order
abbrev pub AreOfOrder : Order → List PlacedFrame → Type 0
AreOfOrder order [] = Unit {0}
AreOfOrder order (p ∷ ps) = (p.order ≡ order) × AreOfOrder order ps

stored-frame : (order : Order) (p : PlacedFrame) (built : Built) → p.order ≡ order
    → with_stored order built (stored p) ≡ with_frame_at (frame_places p) (held_frame p) built
stored-frame order p built same =
    ap (λ o. with_stored o built (stored p)) (sym same)
    ∙ ap (λ ats. with_frame_at ats (held_frame p) built) (all-places p)

pub built-heads : (order : Order) (ps : List PlacedFrame) (built : Built) → AreOfOrder order ps
    → (built_from order built ps).heads ≡ built.heads ++ map head_place ps
built-heads order [] built own = sym (append-nil built.heads)
built-heads order (p ∷ ps) built own =
    let next = with_stored order built (stored p) in
    let one : next.heads ≡ built.heads ++ head_place p ∷ [] =
    ap (λ (b : Built). b.heads) (stored-frame order p built own.0) ∙ with-heads (frame_places p) (held_frame p) built in
    built-heads order ps next own.1
    ∙ ap (λ hs. hs ++ map head_place ps) one
    ∙ append_assoc built.heads (head_place p ∷ []) (map head_place ps)

-- the place of the channel of a name in the frame of a number, where the first frame has number n
abbrev pub channel_at : Kind → List ℕ → PlacedFrame → Option ℕ
channel_at kind name p = option_map (place_of (frame_places p)) (channel_named (held_frame p) kind name)

abbrev pub frames_at : Kind → List ℕ → List PlacedFrame → ℕ → ℕ → Option ℕ
frames_at kind name [] n frame = None
frames_at kind name (p ∷ ps) n frame =
    or_else (if_last n frame (channel_at kind name p)) (frames_at kind name ps (n + 1) frame)

map-map : {A B C : Type 0} (g : A → B) (h : B → C) (o : Option A)
    → option_map (λ x. h (g x)) o ≡ option_map h (option_map g o)
map-map g h None = refl
map-map g h (Some x) = refl

built-at : (order : Order) (kind : Kind) (name : List ℕ) (ps : List PlacedFrame) (built : Built) (frame : ℕ)
    → AreOfOrder order ps
    → listed_at (listed_of (built_from order built ps) kind) name frame
    ≡ or_else (listed_at (listed_of built kind) name frame) (frames_at kind name ps (length built.heads) frame)
built-at order kind name [] built frame own = sym (or_none (listed_at (listed_of built kind) name frame))
built-at order kind name (p ∷ ps) built frame own =
    let next = with_stored order built (stored p) in
    let start = listed_at (listed_of built kind) name frame in
    let n = length built.heads in
    let is = stored-frame order p built own.0 in
    let long : length next.heads ≡ n + 1 =
    ap (λ (b : Built). length b.heads) is ∙ ap length (with-heads (frame_places p) (held_frame p) built)
    ∙ length-append built.heads (head_place p ∷ []) in
    let one : listed_at (listed_of next kind) name frame ≡ or_else start (if_last n frame (channel_at kind name p)) =
    ap (λ (b : Built). listed_at (listed_of b kind) name frame) is
    ∙ with-frame kind (frame_places p) (held_frame p) built name frame
    ∙ ap (λ o. or_else start (if_last n frame o))
    (map-map (λ (c : List ℕ × ℕ). c.1) (place_of (frame_places p))
    (find (has_name name) (named_channels (held_frame p) kind))) in
    built-at order kind name ps next frame own.1
    ∙ (λ i. or_else (one i) (frames_at kind name ps (long i) frame))
    ∙ or_assoc start (if_last n frame (channel_at kind name p)) (frames_at kind name ps (n + 1) frame)

-- What is built of frames has of each name the place of its channel in each frame.
pub built-places : (order : Order) (kind : Kind) (name : List ℕ) (ps : List PlacedFrame) (frame : ℕ)
    → AreOfOrder order ps
    → listed_at (listed_of (built_from order nothing_built ps) kind) name frame ≡ frames_at kind name ps 0 frame
built-places order kind name ps frame own =
    built-at order kind name ps nothing_built frame own
    ∙ ap (λ o. or_else o (frames_at kind name ps 0 frame)) (empty kind)
  where
    empty : (k : Kind) → listed_at (listed_of nothing_built k) name frame ≡ None
    empty Adc = refl
    empty Proc = refl
    empty Sim = refl
    empty Ser = refl
