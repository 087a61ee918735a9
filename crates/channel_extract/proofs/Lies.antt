-- What is no right place by what was read is the place that the extraction names.
use Rattle.std.proofs.Common.{◌≡◌, ℕ, ◌⊎◌, inl, inr, Bool, true, false, not, ◌&&◌, is_some, is_none, Option, Some, None}
use Rattle.std.proofs.Common.{List, refl, sym, ap, ◌∙◌, arith}
use Rattle.std.specs.Prelude.{option_and_then, if◌then◌else◌, ◌==◌}
use Rattle.std.specs.Option.{option_map_or}
use Rattle.std.specs.Str.{bytes_eq}
use Rattle.std.proofs.lemmas.Bool.{ne_eqb}
use Rattle.std.proofs.lemmas.Option.{same_Some, none-some}
use Rattle.frame_content.specs.Frames.{Frame, label_at}
use Rattle.contents_table.specs.declared.kind.Kind.{Kind}
use Rattle.contents_table.specs.Channels.{structure_of, name_of, head, header_of, upper, first_channel}
use Rattle.channel_extract.specs.Placed.{PlacedFrame, frame, head_place, record_at}
use Rattle.channel_extract.specs.ByTable.{TableFrame, is_channel}
use Rattle.channel_extract.specs.OtherFiles.{reads_at, has_loose_upper, lacks_upper, has_name, lacks_name}
use Rattle.channel_extract.specs.OtherFiles.{is_of_kind, NoRecordOfKind, NoUpper, NoChannels, NoName}
use Rattle.channel_extract.specs.TableLaws.{LiesAreKept, LiesAreNamed, ReadyFramesHaveNone}

eq-yes : (a b : ℕ) → a ≡ b → (a == b) ≡ true
eq-yes a b same = grind (arith, same)

head-lie : (b : Bool) (inner : Option ℕ) (head : ℕ) → b ≡ false → (if b then inner else Some head) ≡ Some head
head-lie false inner head is = refl
head-lie true inner head is = absurd (cc)

place-lie : (b c : Bool) (head at : ℕ) → b ≡ true → c ≡ false
    → (if b then (if c then None else Some at) else Some head) ≡ Some at
place-lie true false head at x y = refl
place-lie false c head at x y = absurd (cc)
place-lie true true head at x y = absurd (cc)

no-lie : (b c : Bool) (head at : ℕ) → b ≡ true → c ≡ true
    → (if b then (if c then None else Some at) else Some head) ≡ None
no-lie true true head at x y = refl
no-lie false c head at x y = absurd (cc)
no-lie true false head at x y = absurd (cc)

and-left : (a b : Bool) → a ≡ false → (a && b) ≡ false
and-left false b h = refl
and-left true b h = absurd (cc)

and-right : (a b : Bool) → b ≡ false → (a && b) ≡ false
and-right false b h = refl
and-right true b h = h

both : (a b : Bool) → (a && b) ≡ true → (a ≡ true) × (b ≡ true)
both true b h = (refl, h)
both false b h = absurd (cc)

not-true : (b : Bool) → not b ≡ true → b ≡ false
not-true false h = refl
not-true true h = absurd (cc)

none-is : {X : Type 0} (o : Option X) → is_none o ≡ true → is_some o ≡ false
none-is None h = refl
none-is (Some x) h = absurd (cc)

no-upper : (f : Frame) (kind : Kind) (o : Option ℕ) → is_none o ≡ true
    → is_some (option_and_then (head f (structure_of kind)) o) ≡ false
no-upper f kind None h = refl
no-upper f kind (Some n) h = absurd (cc)

-- without first channel no record is one
first-fails : (f : Frame) (kind : Kind) (name : List ℕ) (o : Option ℕ) → is_some (first_channel f kind) ≡ false
    → option_map_or (is_channel f kind name) o false ≡ false
first-fails f kind name None h = refl
first-fails f kind name (Some k) h =
    and-right (bytes_eq (structure_of kind) (label_at f k).entry.name)
    (is_some (first_channel f kind) && option_map_or (bytes_eq name) (name_of (label_at f k)) false)
    (and-left (is_some (first_channel f kind)) (option_map_or (bytes_eq name) (name_of (label_at f k)) false) h)

kind-fails : (p : PlacedFrame) (kind : Kind) (name : List ℕ) (o : Option ℕ)
    → option_map_or (is_of_kind p kind) o false ≡ false → option_map_or (is_channel (frame p) kind name) o false ≡ false
kind-fails p kind name None h = refl
kind-fails p kind name (Some k) h =
    and-left (bytes_eq (structure_of kind) (label_at (frame p) k).entry.name)
    (is_some (first_channel (frame p) kind) && has_name p name k) h

name-fails : (p : PlacedFrame) (kind : Kind) (name : List ℕ) (o : Option ℕ)
    → option_map_or (lacks_name p kind name) o false ≡ true
    → option_map_or (is_channel (frame p) kind name) o false ≡ false
name-fails p kind name None h = refl
name-fails p kind name (Some k) h =
    let some = is_some (first_channel (frame p) kind) in
    let lacks = (both some (not (has_name p name k))
    (both (reads_at p k) (some && not (has_name p name k)) h).1).1 in
    and-right (bytes_eq (structure_of kind) (label_at (frame p) k).entry.name) (some && has_name p name k)
    (and-right some (has_name p name k) (not-true (has_name p name k) lacks))

upper-fails : (p : PlacedFrame) (kind : Kind) (o : Option ℕ) → option_map_or (lacks_upper p kind) o false ≡ true
    → is_none (upper (frame p) kind) ≡ true
upper-fails p kind None h = absurd (cc)
upper-fails p kind (Some header) h =
    let none = is_none (upper (frame p) kind) in
    (both none (not (has_loose_upper p header))
    (both (reads_at p header) (none && not (has_loose_upper p header)) h).1).0

abbrev test : Kind → List ℕ → TableFrame → Bool
test kind name p = option_map_or (is_channel (frame p.placed) kind name) (record_at p.placed p.at) false

pub named : LiesAreNamed
named kind name p at (inl head) =
    head-lie (p.head == head_place p.placed) (if test kind name p then None else Some p.at) p.head
    (ne_eqb p.head (head_place p.placed) head.1) ∙ ap (λ (n : ℕ). Some n) (sym head.0)
named kind name p at (inr (is, head, why)) =
    place-lie (p.head == head_place p.placed) (test kind name p) p.head p.at
    (eq-yes p.head (head_place p.placed) head) (fails why) ∙ ap (λ (n : ℕ). Some n) (sym is)
  where
    fails : NoRecordOfKind kind p ⊎ (NoUpper kind p ⊎ (NoChannels kind p ⊎ NoName kind name p))
        → test kind name p ≡ false
    fails (inl other) = kind-fails p.placed kind name (record_at p.placed p.at) other
    fails (inr (inl none)) =
        first-fails (frame p.placed) kind name (record_at p.placed p.at)
        (no-upper (frame p.placed) kind (upper (frame p.placed) kind)
        (upper-fails p.placed kind (header_of (frame p.placed)) none))
    fails (inr (inr (inl none))) =
        first-fails (frame p.placed) kind name (record_at p.placed p.at)
        (none-is (first_channel (frame p.placed) kind)
        (both (option_map_or (reads_at p.placed) (upper (frame p.placed) kind) false)
        (is_none (first_channel (frame p.placed) kind)) none).1)
    fails (inr (inr (inr lacks))) = name-fails p.placed kind name (record_at p.placed p.at) lacks

pub has_none : ReadyFramesHaveNone
has_none kind name p o ready =
    no-lie (p.head == head_place p.placed) (test kind name p) p.head p.at
    (eq-yes p.head (head_place p.placed) ready.head)
    (ap (λ x. option_map_or (is_channel (frame p.placed) kind name) x false) ready.stands ∙ ready.is)

one-of : (b c : Bool) (head at named : ℕ) → (if b then (if c then None else Some at) else Some head) ≡ Some named
    → (named ≡ head) ⊎ (named ≡ at)
one-of true true head at named is = absurd (none-some named is)
one-of true false head at named is = inr (sym (same_Some at named is))
one-of false c head at named is = inl (sym (same_Some head named is))

pub kept : LiesAreKept
kept kind name p at is = one-of (p.head == head_place p.placed) (test kind name p) p.head p.at at is
