-- What a contents table is built from, of frames that can be written: the names of each kind are short, none of them is
-- there twice, and all places are within the bytes of the frames.
use Rattle.std.proofs.Common.{◌≡◌, ℕ, ◌+◌, ◌<◌, ◌≤◌, true, false, cond, Option, Some, None, List}
use Rattle.std.proofs.Common.{[], ◌∷◌, ◌++◌, length, fold, refl, sym, ap, ◌∙◌, subst, arith, length-append}
use Rattle.std.specs.Prelude.{find}
use Rattle.std.specs.List.{AllByRecursion, list_any}
use Rattle.std.specs.Option.{option_map_or}
use Rattle.std.specs.Str.{bytes_eq}
use Rattle.dictionary.specs.declared.entries.Entry.{Entry}
use Rattle.frame_content.specs.Frames.{Frame}
use Rattle.contents_table.specs.declared.kind.Kind.{Kind}
use Rattle.contents_table.specs.declared.kind.Kind.TheVariants.{Adc, Proc, Sim, Ser}
use Rattle.contents_table.specs.declared.names.Found.{Found}
use Rattle.contents_table.specs.declared.names.Listed.{Listed}
use Rattle.contents_table.specs.Channels.{header_of, named_channels}
use Rattle.contents_table.specs.Built.{Built, nothing_built, listed_of, with_listed, with_frame, is_in, with_found}
use Rattle.contents_table.specs.Built.{with_name, last_frame, with_channel, place_in, position_in, place_of, with_named}
use Rattle.contents_table.specs.Built.{with_channels, AreNames}
use Rattle.contents_table.proofs.Adding.{names-kept, names-more}
use Rattle.canonical_file.specs.Records.{record_places}
use Rattle.canonical_file.specs.Written.{Written, frame_pieces, after_frame, after_frames}
use Rattle.canonical_laws.specs.Writable.{IsWritableFrame}
use Rattle.canonical_laws.proofs.ChannelRows.{IsChannel, HasChannels, has-channels}
use Rattle.canonical_laws.proofs.RowPlaces.{place-within}

-- the channel stands within so many bytes
abbrev IsFoundWithin : ℕ → Found → Type 0
IsFoundWithin size found = found.at ≤ size

-- all channels of the name do
abbrev pub IsListedWithin : ℕ → Listed → Type 0
IsListedWithin size l = AllByRecursion (IsFoundWithin size) l.found

-- What is known of what was built, within so many bytes.
pub record IsBuilt (size : ℕ) (built : Built) : Type 0 where
  pub names : (kind : Kind) → AreNames (length built.heads) (listed_of built kind)
  pub heads : AllByRecursion (λ at. at ≤ size) built.heads
  pub places : (kind : Kind) → AllByRecursion (IsListedWithin size) (listed_of built kind)

-- ---- lists

all-push : {X : Type 0} (P : X → Type 0) (xs : List X) (x : X) → AllByRecursion P xs → P x
    → AllByRecursion P (xs ++ x ∷ [])
all-push P [] x all one = (one, tt)
all-push P (y ∷ xs) x all one = (all.0, all-push P xs x all.1 one)

all-weaker : {X : Type 0} (P Q : X → Type 0) (xs : List X) → ((x : X) → P x → Q x) → AllByRecursion P xs
    → AllByRecursion Q xs
all-weaker P Q [] weaker all = tt
all-weaker P Q (x ∷ xs) weaker all = (weaker x all.0, all-weaker P Q xs weaker all.1)

-- ---- one more channel of a name

found-within : (size : ℕ) (found : Found) (l : Listed) → found.at ≤ size → IsListedWithin size l
    → IsListedWithin size (with_found found l)
found-within size found l here all =
    elim (list_any (is_in found.frame) l.found)
    as (λ b. IsListedWithin size (cond b l (record l { found = l.found ++ found ∷ [] }))) [
      | true ↦ all
      | false ↦ all-push (IsFoundWithin size) l.found found all here
    ]

name-within : (size : ℕ) (name : List ℕ) (found : Found) (listed : List Listed) → found.at ≤ size
    → AllByRecursion (IsListedWithin size) listed → AllByRecursion (IsListedWithin size) (with_name name found listed)
unfolding with_name
name-within size name found [] here all = ((here, tt), tt)
name-within size name found (l ∷ more) here all =
    let added = found-within size found l here all.0 in
    let later = name-within size name found more here all.1 in
    elim (bytes_eq name l.name)
    as (λ b. AllByRecursion (IsListedWithin size)
    (cond b (with_found found l ∷ more) (l ∷ with_name name found more))) [
      | true ↦ (added, all.1)
      | false ↦ (all.0, later)
    ]

-- ---- one more channel of a kind

-- the places of the frames stay
heads-listed : (built : Built) (kind : Kind) (listed : List Listed)
    → (with_listed built kind listed).heads ≡ built.heads
heads-listed built Adc listed = refl
heads-listed built Proc listed = refl
heads-listed built Sim listed = refl
heads-listed built Ser listed = refl

-- what holds of the new list and of the old ones holds of each kind
listed-each : (P : List Listed → Type 0) (built : Built) (kind : Kind) (listed : List Listed) → P listed
    → ((other : Kind) → P (listed_of built other)) → (other : Kind)
    → P (listed_of (with_listed built kind listed) other)
listed-each P built Adc listed new old Adc = new
listed-each P built Adc listed new old Proc = old Proc
listed-each P built Adc listed new old Sim = old Sim
listed-each P built Adc listed new old Ser = old Ser
listed-each P built Proc listed new old Adc = old Adc
listed-each P built Proc listed new old Proc = new
listed-each P built Proc listed new old Sim = old Sim
listed-each P built Proc listed new old Ser = old Ser
listed-each P built Sim listed new old Adc = old Adc
listed-each P built Sim listed new old Proc = old Proc
listed-each P built Sim listed new old Sim = new
listed-each P built Sim listed new old Ser = old Ser
listed-each P built Ser listed new old Adc = old Adc
listed-each P built Ser listed new old Proc = old Proc
listed-each P built Ser listed new old Sim = old Sim
listed-each P built Ser listed new old Ser = new

-- a frame came already, and what was built is within the bytes
record HasFrame (size : ℕ) (built : Built) : Type 0 where
  pub some : 0 < length built.heads
  pub is : IsBuilt size built

channel-built : (size : ℕ) (kind : Kind) (name : List ℕ) (at : ℕ) (built : Built) → length name ≤ 65534 → at ≤ size
    → HasFrame size built → HasFrame size (with_channel kind name at built)
channel-built size kind name at built short here has =
    let found : Found = record { frame = last_frame built; at = at } in
    let old : List Listed = listed_of built kind in
    let new : List Listed = with_name name found old in
    let heads : (with_listed built kind new).heads ≡ built.heads = heads-listed built kind new in
    let frames : length built.heads ≡ last_frame built + 1 = omega (arith, has.some) in
    let kept : AreNames (length built.heads) new =
    subst (λ n. AreNames n new) (sym frames)
    (names-kept name found old (subst (λ n. AreNames n old) frames (has.is.names kind)) short) in
    record {
      some = omega (arith, has.some, ap length heads);
      is = record {
        names = λ other. subst (λ (ats : List ℕ). AreNames (length ats) (listed_of (with_listed built kind new) other))
            (sym heads) (listed-each (AreNames (length built.heads)) built kind new kept has.is.names other);
        heads = subst (AllByRecursion (λ at. at ≤ size)) (sym heads) has.is.heads;
        places = listed-each (AllByRecursion (IsListedWithin size)) built kind new
            (name-within size name found old here (has.is.places kind)) has.is.places;
      };
    }

-- ---- one more frame

channels-built : (size : ℕ) (f : Frame) (places : List ℕ) (kind : Kind) (channels : List (List ℕ × ℕ)) (built : Built)
    → ((k : ℕ) → place_of places k ≤ size) → AllByRecursion (IsChannel f) channels → HasFrame size built
    → HasFrame size (fold (with_named kind places) built channels)
channels-built size f places kind [] built within all has = has
channels-built size f places kind (c ∷ cs) built within all has =
    channels-built size f places kind cs (with_named kind places built c) within all.1
    (channel-built size kind c.0 (place_of places c.1) built all.0.short (within c.1) has)

kinds-built : (size : ℕ) (f : Frame) (places : List ℕ) (kinds : List Kind) (built : Built)
    → ((k : ℕ) → place_of places k ≤ size) → HasChannels f → HasFrame size built
    → HasFrame size (fold (with_channels places f) built kinds)
kinds-built size f places [] built within all has = has
kinds-built size f places (kind ∷ kinds) built within all has =
    kinds-built size f places kinds (with_channels places f built kind) within all
    (channels-built size f places kind (named_channels f kind) built within (all kind) has)

head-within : (size : ℕ) (places : List ℕ) (header : Option ℕ) → ((k : ℕ) → place_of places k ≤ size)
    → option_map_or (place_of places) header 0 ≤ size
head-within size places None within = omega arith
head-within size places (Some k) within = within k

-- what holds of the lists of each kind holds of them where one more frame came
listed-framed : (P : List Listed → Type 0) (built : Built) (at : ℕ) → ((kind : Kind) → P (listed_of built kind))
    → (kind : Kind) → P (listed_of (with_frame at built) kind)
listed-framed P built at all Adc = all Adc
listed-framed P built at all Proc = all Proc
listed-framed P built at all Sim = all Sim
listed-framed P built at all Ser = all Ser

within-more : (size more : ℕ) (l : Listed) → size ≤ more → IsListedWithin size l → IsListedWithin more l
within-more size more l grown all =
    all-weaker (IsFoundWithin size) (IsFoundWithin more) l.found (λ f low. omega (arith, low, grown)) all

started : (size more at : ℕ) (built : Built) → size ≤ more → at ≤ more → IsBuilt size built
    → HasFrame more (with_frame at built)
started size more at built grown here is =
    let one : length (built.heads ++ at ∷ []) ≡ length built.heads + 1 = length-append built.heads (at ∷ []) in
    let low : length built.heads ≤ length (built.heads ++ at ∷ []) = omega (arith, one) in
    record {
      some = omega (arith, one);
      is = record {
        names = listed-framed (AreNames (length (built.heads ++ at ∷ []))) built at
            (λ kind. names-more (length built.heads) (length (built.heads ++ at ∷ [])) (listed_of built kind) low
            (is.names kind));
        heads = all-push (λ place. place ≤ more) built.heads at
            (all-weaker (λ place. place ≤ size) (λ place. place ≤ more) built.heads
            (λ place low. omega (arith, low, grown)) is.heads)
            here;
        places = listed-framed (AllByRecursion (IsListedWithin more)) built at
            (λ kind. all-weaker (IsListedWithin size) (IsListedWithin more) (listed_of built kind)
            (λ l. within-more size more l grown) (is.places kind));
      };
    }

frame-built : (dictionary : List Entry) (w : Written) (f : Frame) → IsWritableFrame dictionary f
    → IsBuilt w.size w.built → IsBuilt (after_frame w f).size (after_frame w f).built
frame-built dictionary w f writable is =
    let size : ℕ = (after_frame w f).size in
    let places : List ℕ = record_places w.size (frame_pieces w f) in
    let within : (k : ℕ) → place_of places k ≤ size = place-within w.size (frame_pieces w f) in
    let at : ℕ = option_map_or (place_of places) (header_of f) 0 in
    (kinds-built size f places (Adc ∷ Proc ∷ Sim ∷ Ser ∷ []) (with_frame at w.built) within
    (has-channels dictionary f writable)
    (started w.size size at w.built (omega arith) (head-within size places (header_of f) within) is)).is

-- ---- all frames

pub frames-built : (dictionary : List Entry) (w : Written) (fs : List Frame)
    → AllByRecursion (IsWritableFrame dictionary) fs → IsBuilt w.size w.built
    → IsBuilt (after_frames w fs).size (after_frames w fs).built
frames-built dictionary w [] all is = is
frames-built dictionary w (f ∷ fs) all is =
    frames-built dictionary (after_frame w f) fs all.1 (frame-built dictionary w f all.0 is)

none-named : AreNames 0 []
none-named = record { names = λ k d within. absurd (omega (arith, within)); distinct = refl }

pub nothing-built : (size : ℕ) → IsBuilt size nothing_built
nothing-built size = record { names = names; heads = tt; places = places }
  where
    names : (kind : Kind) → AreNames 0 (listed_of nothing_built kind)
    names Adc = none-named
    names Proc = none-named
    names Sim = none-named
    names Ser = none-named

    places : (kind : Kind) → AllByRecursion (IsListedWithin size) (listed_of nothing_built kind)
    places Adc = tt
    places Proc = tt
    places Sim = tt
    places Ser = tt

-- ---- how many frames there are

heads-channels : (kind : Kind) (places : List ℕ) (channels : List (List ℕ × ℕ)) (built : Built)
    → (fold (with_named kind places) built channels).heads ≡ built.heads
heads-channels kind places [] built = refl
heads-channels kind places (c ∷ cs) built =
    let found : Found = record { frame = last_frame built; at = place_of places c.1 } in
    heads-channels kind places cs (with_named kind places built c)
    ∙ heads-listed built kind (with_name c.0 found (listed_of built kind))

heads-kinds : (f : Frame) (places : List ℕ) (kinds : List Kind) (built : Built)
    → (fold (with_channels places f) built kinds).heads ≡ built.heads
heads-kinds f places [] built = refl
heads-kinds f places (kind ∷ kinds) built =
    heads-kinds f places kinds (with_channels places f built kind)
    ∙ heads-channels kind places (named_channels f kind) built

-- as many as are counted
pub heads-counted : (w : Written) (fs : List Frame) → length w.built.heads ≡ w.frames
    → length (after_frames w fs).built.heads ≡ (after_frames w fs).frames
heads-counted w [] same = same
heads-counted w (f ∷ fs) same =
    let places : List ℕ = record_places w.size (frame_pieces w f) in
    let at : ℕ = option_map_or (place_of places) (header_of f) 0 in
    let heads = heads-kinds f places (Adc ∷ Proc ∷ Sim ∷ Ser ∷ []) (with_frame at w.built) in
    let more : length (after_frame w f).built.heads ≡ w.frames + 1 =
    ap length heads ∙ length-append w.built.heads (at ∷ []) ∙ ap (λ n. n + 1) same in
    heads-counted (after_frame w f) fs more

-- ---- positions

place-in_within : (size frame : ℕ) (found : List Found) → AllByRecursion (IsFoundWithin size) found
    → place_in frame found ≤ size
place-in_within size frame [] all = omega arith
place-in_within size frame (f ∷ fs) all =
    let later = place-in_within size frame fs all.1 in
    elim (is_in frame f)
    as (λ b. option_map_or (λ (f : Found). f.at) (cond b (Some f) (find (is_in frame) fs)) 0 ≤ size) [
      | true ↦ all.0
      | false ↦ later
    ]

-- each position is within the bytes
pub position-within : (size : ℕ) (listed : List Listed) (name : List ℕ) (frame : ℕ)
    → AllByRecursion (IsListedWithin size) listed → position_in listed name frame ≤ size
position-within size [] name frame all = omega arith
position-within size (l ∷ more) name frame all =
    let later = position-within size more name frame all.1 in
    elim (bytes_eq name l.name)
    as (λ b. option_map_or (λ (l : Listed). place_in frame l.found)
    (cond b (Some l) (find (λ (l : Listed). bytes_eq name l.name) more)) 0 ≤ size) [
      | true ↦ place-in_within size frame l.found all.0
      | false ↦ later
    ]
