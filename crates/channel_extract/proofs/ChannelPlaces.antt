-- In a frame whose places rise the place of a name's channel leads to it: the record there is the channel.
use Rattle.std.proofs.Common.{◌≡◌, ℕ, zero, suc, ◌<◌, ◌≤◌, ◌⊎◌, inl, inr, Bool, true, false, cond, Option, Some}
use Rattle.std.proofs.Common.{None, List, [], ◌∷◌, length, map, refl, sym, ap, ◌∙◌, subst, arith}
use Rattle.std.specs.Prelude.{position, find, filter_map, slice_get, option_and_then, is_some, if◌then◌else◌, ◌==◌}
use Rattle.std.specs.Prelude.{◌&&◌, slice_index_or}
use Rattle.std.specs.List.{AllByRecursion, cons_option}
use Rattle.std.specs.Option.{option_map, option_map_or}
use Rattle.std.specs.Str.{bytes_eq}
use Rattle.std.proofs.lemmas.List.{length-map}
use Rattle.std.proofs.lemmas.Option.{same_Some, none-some}
use Rattle.std.proofs.lemmas.List.Quantifiers.{position-Some}
use Rattle.scalar_types.specs.declared.Order.{Order}
use Rattle.type_text.specs.declared.types.Link.{Link}
use Rattle.record_values.specs.Links.{links_in}
use Rattle.dictionary.specs.declared.entries.Entry.{Entry}
use Rattle.rooted_graph.specs.BreadthOrder.{has}
use Rattle.link_graph.specs.declared.nodes.Root.TheVariants.{No}
use Rattle.link_graph.specs.Collected.{Bodied, is_named, target_of}
use Rattle.item_reader.specs.State.{bodied_of}
use Rattle.frame_content.specs.Frames.{Frame, no_row, row_at, label_at, values_in, row_of}
use Rattle.contents_table.specs.declared.kind.Kind.{Kind}
use Rattle.contents_table.specs.Channels.{structure_of, name_of, end_of_link, if_named, target, head, upper}
use Rattle.contents_table.specs.Channels.{first_channel, next_field, head_field, link_number, next_channel}
use Rattle.contents_table.specs.Channels.{channels_from, named_channel, named_channels}
use Rattle.contents_table.specs.Built.{place_of}
use Rattle.contents_table.specs.Channels.{channel_named}
use Rattle.channel_extract.specs.Cuts.{has_name}
use Rattle.channel_extract.specs.Placed.{PlacedFrame, stored, frame, places, channel_place, record_at}
use Rattle.channel_extract.specs.ByTable.{is_channel}
use Rattle.channel_extract.proofs.Rising.{Rise, place-above, position-at}

-- ---- links stay within the frame

-- a link that is not null leads to a row
abbrev pub LinksLead : Frame → Type 0
LinksLead f = (n k m : ℕ) → slice_get (row_at f n).links k ≡ Some (Some m) → m < length f.rows

got-map : {A B : Type 0} (g : A → B) (xs : List A) (k : ℕ) (y : B) → slice_get (map g xs) k ≡ Some y
    → (x : A) × (g x ≡ y)
got-map g [] k y h = absurd (none-some y h)
got-map g (x ∷ xs) zero y h = (x, same_Some (g x) y h)
got-map g (x ∷ xs) (suc k) y h = got-map g xs k y h

no_node : Bodied
no_node = record { node = record { at = 0; class = 0; instance = 0; root = No }; body = [] }

number-within : (all : List Bodied) (link : Link) (b : Bool) (m : ℕ)
    → (if b then None else position (λ (r : Bodied). is_named link r.node) all) ≡ Some m → m < length all
number-within all link true m h = absurd (none-some m h)
number-within all link false m h = (position-Some (λ (r : Bodied). is_named link r.node) all m no_node h).0

row-within : (order : Order) (held : List Entry) (all ss : List Bodied) (n k m : ℕ)
    → slice_get (slice_index_or (map (row_of order held all) ss) n no_row).links k ≡ Some (Some m) → m < length all
row-within order held all [] n k m h = absurd (none-some (Some m) h)
row-within order held all (s ∷ ss) zero k m h =
    let found = got-map (target_of all) (links_in (values_in order held s)) k (Some m) h in
    number-within all found.0 (found.0.class == 0) m found.1
row-within order held all (s ∷ ss) (suc n) k m h = row-within order held all ss n k m h

pub rows-of : (p : PlacedFrame) → length (frame p).rows ≡ length p.records
rows-of p =
    length-map (stored p).nodes (row_of p.order p.held (stored p).nodes) ∙ length-map p.records (bodied_of p.held)

links-lead : (p : PlacedFrame) → LinksLead (frame p)
links-lead p n k m h =
    omega (
      arith,
      length-map (stored p).nodes (row_of p.order p.held (stored p).nodes),
      row-within p.order p.held (stored p).nodes (stored p).nodes n k m h,
    )

-- ---- channels are rows of their kind

pub record IsOfKind (f : Frame) (name : List ℕ) (k : ℕ) : Type 0 where
  pub within : k < length f.rows
  pub named : bytes_eq name (label_at f k).entry.name ≡ true

if-some : (b : Bool) (m k : ℕ) → (if b then Some m else None) ≡ Some k → (b ≡ true) × (m ≡ k)
if-some true m k h = (refl, same_Some m k h)
if-some false m k h = absurd (none-some k h)

flat-some : (o : Option (Option ℕ)) (m : ℕ) → option_and_then (λ (l : Option ℕ). l) o ≡ Some m → o ≡ Some (Some m)
flat-some None m h = absurd (none-some m h)
flat-some (Some None) m h = absurd (none-some m h)
flat-some (Some (Some n)) m h = ap (λ (l : Option ℕ). Some l) h

target-by : (f : Frame) (name : List ℕ) (o : Option ℕ) (k : ℕ) → ((m : ℕ) → o ≡ Some m → m < length f.rows)
    → option_and_then (if_named f name) o ≡ Some k → IsOfKind f name k
target-by f name None k range h = absurd (none-some k h)
target-by f name (Some m) k range h =
    let found = if-some (bytes_eq name (label_at f m).entry.name) m k h in
    subst (IsOfKind f name) found.1 (record { within = range m refl; named = found.0 })

link-in : (f : Frame) (n : ℕ) (field : Option ℕ) (m : ℕ) → LinksLead f
    → option_and_then (end_of_link f n) field ≡ Some m → m < length f.rows
link-in f n None m lead h = absurd (none-some m h)
link-in f n (Some field) m lead h =
    lead n (link_number (label_at f n) field) m
    (flat-some (slice_get (row_at f n).links (link_number (label_at f n) field)) m h)

target-is : (f : Frame) (name : List ℕ) (n : ℕ) (field : Option ℕ) (k : ℕ) → LinksLead f
    → target f name n field ≡ Some k → IsOfKind f name k
target-is f name n field k lead h =
    target-by f name (option_and_then (end_of_link f n) field) k (λ m e. link-in f n field m lead e) h

first-by : (f : Frame) (name : List ℕ) (o : Option ℕ) (k : ℕ) → LinksLead f
    → option_and_then (head f name) o ≡ Some k → IsOfKind f name k
first-by f name None k lead h = absurd (none-some k h)
first-by f name (Some n) k lead h =
    target-is f name n (head_field name (label_at f n).entry.elements) k lead h

first-is : (f : Frame) (kind : Kind) (k : ℕ) → LinksLead f → first_channel f kind ≡ Some k
    → IsOfKind f (structure_of kind) k
first-is f kind k lead h = first-by f (structure_of kind) (upper f kind) k lead h

if-all : {X : Type 0} (P : X → Type 0) (b : Bool) (xs : List X) → AllByRecursion P xs
    → AllByRecursion P (if b then [] else xs)
if-all P true xs h = tt
if-all P false xs h = h

from-all : (n : ℕ) (f : Frame) (name met : List ℕ) (at : Option ℕ) → LinksLead f
    → ((k : ℕ) → at ≡ Some k → IsOfKind f name k) → AllByRecursion (IsOfKind f name) (channels_from n f name met at)
unfolding channels_from
from-all zero f name met at lead h = tt
from-all (suc n) f name met None lead h = tt
from-all (suc n) f name met (Some k) lead h =
    if-all (IsOfKind f name) (has met k) (k ∷ channels_from n f name (k ∷ met) (next_channel f name k)) (
      h k refl,
      from-all n f name (k ∷ met) (next_channel f name k) lead
          (λ m e. target-is f name k (next_field (label_at f k).entry.elements) m lead e),
    )

from-none : (n : ℕ) (f : Frame) (name met : List ℕ) → channels_from n f name met None ≡ []
unfolding channels_from
from-none zero f name met = refl
from-none (suc n) f name met = refl

-- ---- the channel of a name

record IsNamed (f : Frame) (kind : Kind) (name : List ℕ) (c : List ℕ × ℕ) : Type 0 where
  is : IsOfKind f (structure_of kind) c.1
  name_is : name_of (label_at f c.1) ≡ Some c.0
  same : bytes_eq name c.0 ≡ true

cond-found : {X : Type 0} (b : Bool) (x c : X) (o : Option X) → cond b (Some x) o ≡ Some c
    → ((b ≡ true) × (x ≡ c)) ⊎ (o ≡ Some c)
cond-found true x c o h = inl (refl, same_Some x c h)
cond-found false x c o h = inr h

find-by : (f : Frame) (kind : Kind) (name : List ℕ) (k : ℕ) (o : Option (List ℕ)) (ks : List ℕ) (c : List ℕ × ℕ)
    → name_of (label_at f k) ≡ o → IsOfKind f (structure_of kind) k
    → (find (has_name name) (filter_map (named_channel f) ks) ≡ Some c → IsNamed f kind name c)
    → find (has_name name) (cons_option (option_map (λ text. (text, k)) o) (filter_map (named_channel f) ks)) ≡ Some c
    → IsNamed f kind name c
find-by f kind name k None ks c is of rest h = rest h
find-by f kind name k (Some text) ks c is of rest h =
    by_case (cond-found (bytes_eq name text) (text, k) c (find (has_name name) (filter_map (named_channel f) ks)) h)
  where
    by_case : (((bytes_eq name text ≡ true) × ((text, k) ≡ c))
        ⊎ (find (has_name name) (filter_map (named_channel f) ks) ≡ Some c)) → IsNamed f kind name c
    by_case (inl found) =
        subst (IsNamed f kind name) found.1 (record { is = of; name_is = is; same = found.0 })
    by_case (inr later) = rest later

find-named : (f : Frame) (kind : Kind) (name : List ℕ) (ks : List ℕ) (c : List ℕ × ℕ)
    → AllByRecursion (IsOfKind f (structure_of kind)) ks
    → find (has_name name) (filter_map (named_channel f) ks) ≡ Some c → IsNamed f kind name c
find-named f kind name [] c all h = absurd (none-some c h)
find-named f kind name (k ∷ ks) c all h =
    find-by f kind name k (name_of (label_at f k)) ks c refl all.0 (λ e. find-named f kind name ks c all.1 e) h

-- it is one, and the frame has a first channel of the kind
record IsFound (f : Frame) (kind : Kind) (name : List ℕ) (c : List ℕ × ℕ) : Type 0 where
  named : IsNamed f kind name c
  first : is_some (first_channel f kind) ≡ true

found-by : (f : Frame) (kind : Kind) (name : List ℕ) (c : List ℕ × ℕ) (o : Option ℕ) → LinksLead f
    → first_channel f kind ≡ o
    → find (has_name name) (filter_map (named_channel f) (channels_from (length f.rows) f (structure_of kind) [] o))
    ≡ Some c → IsFound f kind name c
found-by f kind name c None lead is h =
    absurd (none-some c (sym (ap (λ ks. find (has_name name) (filter_map (named_channel f) ks))
    (from-none (length f.rows) f (structure_of kind) [])) ∙ h))
found-by f kind name c (Some k) lead is h = record {
  named = find-named f kind name (channels_from (length f.rows) f (structure_of kind) [] (Some k)) c
      (from-all (length f.rows) f (structure_of kind) [] (Some k) lead (λ m e. first-is f kind m lead (is ∙ e))) h;
  first = ap is_some is;
}

found-is : (f : Frame) (kind : Kind) (name : List ℕ) (c : List ℕ × ℕ) → LinksLead f
    → find (has_name name) (named_channels f kind) ≡ Some c → IsFound f kind name c
found-is f kind name c lead h = found-by f kind name c (first_channel f kind) lead refl h

all-true : (a b c : Bool) → a ≡ true → b ≡ true → c ≡ true → (a && (b && c)) ≡ true
all-true true true true x y z = refl
all-true false b c x y z = absurd (cc)
all-true true false c x y z = absurd (cc)
all-true true true false x y z = absurd (cc)

channel-is : (f : Frame) (kind : Kind) (name : List ℕ) (c : List ℕ × ℕ) → IsFound f kind name c
    → is_channel f kind name c.1 ≡ true
channel-is f kind name c found =
    all-true (bytes_eq (structure_of kind) (label_at f c.1).entry.name) (is_some (first_channel f kind))
    (option_map_or (bytes_eq name) (name_of (label_at f c.1)) false) found.named.is.named found.first
    (ap (λ o. option_map_or (bytes_eq name) o false) found.named.name_is ∙ found.named.same)

-- ---- its place

-- A frame and a name: the frame has no such channel and the place is 0, or it has one and the place leads to it.
pub data Leads (p : PlacedFrame) (kind : Kind) (name : List ℕ) : Type 0 where
  Nowhere : channel_named (frame p) kind name ≡ None → channel_place kind name p ≡ 0 → Leads p kind name
  To : (k : ℕ) → channel_named (frame p) kind name ≡ Some k → 40 ≤ channel_place kind name p
      → record_at p (channel_place kind name p) ≡ Some k → is_channel (frame p) kind name k ≡ true
      → Leads p kind name

leads-by : (p : PlacedFrame) (high : ℕ) (kind : Kind) (name : List ℕ) (o : Option (List ℕ × ℕ))
    → Rise 40 p.records high → find (has_name name) (named_channels (frame p) kind) ≡ o → Leads p kind name
leads-by p high kind name None rise is =
    let none : channel_named (frame p) kind name ≡ None = ap (option_map (λ (c : List ℕ × ℕ). c.1)) is in
    Nowhere none (ap (λ o. option_map_or (place_of (places p)) o 0) none)
leads-by p high kind name (Some c) rise is =
    let found = found-is (frame p) kind name c (links-lead p) is in
    let within : c.1 < length p.records = omega (arith, rows-of p, found.named.is.within) in
    let some : channel_named (frame p) kind name ≡ Some c.1 = ap (option_map (λ (d : List ℕ × ℕ). d.1)) is in
    let place : channel_place kind name p ≡ place_of (places p) c.1 =
    ap (λ o. option_map_or (place_of (places p)) o 0) some in
    let above : 40 ≤ place_of (places p) c.1 = place-above 40 p.records high c.1 rise within in
    To c.1 some (omega (arith, above, place)) (ap (record_at p) place ∙ position-at 40 p.records high c.1 rise within)
    (channel-is (frame p) kind name c found)

pub leads : (p : PlacedFrame) (high : ℕ) (kind : Kind) (name : List ℕ) → Rise 40 p.records high → Leads p kind name
leads p high kind name rise =
    leads-by p high kind name (find (has_name name) (named_channels (frame p) kind)) rise refl
