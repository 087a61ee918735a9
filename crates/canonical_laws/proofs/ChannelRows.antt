-- The FrameH and the channels of a frame that can be written are among its rows, and its channels have short names.
use Rattle.std.proofs.Common.{◌≡◌, ℕ, zero, suc, ◌<◌, ◌≤◌, ◌⊎◌, inl, inr, true, false, cond, Option, Some, None}
use Rattle.std.proofs.Common.{List, [], ◌∷◌, length, map, take, drop, All, refl, sym, ap, ◌∙◌, subst}
use Rattle.std.specs.Prelude.{filter_map, slice_get, option_and_then}
use Rattle.std.specs.List.{AllByRecursion, AllZip, cons_option}
use Rattle.std.specs.Option.{option_map}
use Rattle.std.specs.Str.{bytes_eq}
use Rattle.std.proofs.lemmas.Bool.{cases_lt}
use Rattle.std.proofs.lemmas.List.{get_or_past}
use Rattle.std.proofs.lemmas.List.Elements.{All-get_or}
use Rattle.std.proofs.lemmas.List.Quantifiers.{position-Some}
use Rattle.std.proofs.lemmas.Option.{none-some, same_Some, slice_get_within, get_or_from_slice_get}
use Rattle.scalar_types.specs.declared.Width.TheVariants.{One, Two, Four, Eight}
use Rattle.type_text.specs.declared.types.Link.{Link as StructLink}
use Rattle.record_values.specs.declared.values.Value.{Value}
use Rattle.record_values.specs.declared.values.Value.TheVariants as value
use Rattle.record_values.specs.Links.{links_of, linked_value, with_links}
use Rattle.rooted_graph.specs.BreadthOrder.{has}
use Rattle.dictionary.specs.declared.entries.Entry.{Entry}
use Rattle.layout_plan.specs.declared.fields.Form.{Form}
use Rattle.layout_plan.specs.declared.fields.Form.TheVariants.{Number, Pair, Text, Link}
use Rattle.layout_plan.specs.declared.fields.Count.{Count}
use Rattle.layout_plan.specs.declared.fields.Field.{Field}
use Rattle.layout_plan.specs.Body.{number_of}
use Rattle.link_graph.specs.Table.{IsWithin}
use Rattle.record_writer.specs.Fit.{IsShortText, FitsField}
use Rattle.frame_content.specs.Labels.{Label}
use Rattle.frame_content.specs.Frames.{Row, Frame, no_row, row_at, label_at}
use Rattle.contents_table.specs.declared.kind.Kind.{Kind}
use Rattle.contents_table.specs.Channels.{structure_of, next_field, name_field, link_number, end_of_link, if_named}
use Rattle.contents_table.specs.Channels.{target}
use Rattle.contents_table.specs.Channels.{head_field, head, is_frame_header, header_of, upper, first_channel}
use Rattle.contents_table.specs.Channels.{next_channel}
use Rattle.contents_table.specs.Channels.{channels_from, channels, text_of, name_of, named_channel, named_channels}
use Rattle.canonical_file.specs.Ordered.{new_link}
use Rattle.canonical_laws.specs.Writable.{IsWritableFrame}

-- ---- where links lead

-- each link of a row leads to a row
abbrev LinksLead : Frame → Type 0
LinksLead f = (k : ℕ) → k < length f.rows → All (IsWithin (length f.rows)) (row_at f k).links

link-leads : (f : Frame) (n j m : ℕ) → LinksLead f → slice_get (row_at f n).links j ≡ Some (Some m)
    → m < length f.rows
link-leads f n j m lead is = by (cases_lt n (length f.rows))
  where
    links : List (Option ℕ)
    links = (row_at f n).links

    by : (n < length f.rows) ⊎ (length f.rows ≤ n) → m < length f.rows
    by (inl less) =
        subst (IsWithin (length f.rows)) (get_or_from_slice_get links j (Some m) None is)
        (All-get_or (IsWithin (length f.rows)) links j None (slice_get_within links j (Some m) is) (lead n less))
    by (inr past) =
        absurd (none-some (Some m)
        (sym (ap (λ (r : Row). slice_get r.links j) (get_or_past f.rows n no_row past)) ∙ is))

end-leads : (f : Frame) (n field : ℕ) → LinksLead f → IsWithin (length f.rows) (end_of_link f n field)
end-leads f n field lead = by (slice_get (row_at f n).links (link_number (label_at f n) field)) refl
  where
    by : (o : Option (Option ℕ)) → slice_get (row_at f n).links (link_number (label_at f n) field) ≡ o
        → IsWithin (length f.rows) (option_and_then (λ to. to) o)
    by None is = tt
    by (Some None) is = tt
    by (Some (Some m)) is = link-leads f n (link_number (label_at f n) field) m lead is

named-leads : (f : Frame) (name : List ℕ) (to : Option ℕ) → IsWithin (length f.rows) to
    → IsWithin (length f.rows) (option_and_then (if_named f name) to)
named-leads f name None within = tt
named-leads f name (Some m) within =
    elim (bytes_eq name (label_at f m).entry.name) as (λ b. IsWithin (length f.rows) (cond b (Some m) None)) [
      | true ↦ within
      | false ↦ tt
    ]

target-leads : (f : Frame) (name : List ℕ) (n : ℕ) (field : Option ℕ) → LinksLead f
    → IsWithin (length f.rows) (target f name n field)
target-leads f name n None lead = tt
target-leads f name n (Some field) lead = named-leads f name (end_of_link f n field) (end-leads f n field lead)

head-leads : (f : Frame) (name : List ℕ) (from : Option ℕ) → LinksLead f
    → IsWithin (length f.rows) (option_and_then (head f name) from)
head-leads f name None lead = tt
head-leads f name (Some n) lead = target-leads f name n (head_field name (label_at f n).entry.elements) lead

-- The FrameH is a row.
pub header-within : (f : Frame) → IsWithin (length f.rows) (header_of f)
header-within f = by (header_of f) refl
  where
    by : (o : Option ℕ) → header_of f ≡ o → IsWithin (length f.rows) o
    by None is = tt
    by (Some n) is = (position-Some is_frame_header f.rows n no_row is).0

-- each channel is a row
walk-within : (n : ℕ) (f : Frame) (name met : List ℕ) (at : Option ℕ) → LinksLead f → IsWithin (length f.rows) at
    → AllByRecursion (λ k. k < length f.rows) (channels_from n f name met at)
unfolding channels_from
walk-within zero f name met at lead within = tt
walk-within (suc n) f name met None lead within = tt
walk-within (suc n) f name met (Some k) lead within =
    let next : Option ℕ = next_channel f name k in
    let more = walk-within n f name (k ∷ met) next lead
    (target-leads f name k (next_field (label_at f k).entry.elements) lead) in
    elim (has met k)
    as (λ b. AllByRecursion (λ j. j < length f.rows) (cond b [] (k ∷ channels_from n f name (k ∷ met) next))) [
      | true ↦ tt
      | false ↦ (within, more)
    ]

channels-within : (f : Frame) (kind : Kind) → LinksLead f
    → AllByRecursion (λ k. k < length f.rows) (channels f kind)
channels-within f kind lead =
    walk-within (length f.rows) f (structure_of kind) [] (first_channel f kind) lead
    (head-leads f (structure_of kind) (upper f kind) lead)

-- ---- names

-- a text stays where links are put into the values
text-linked : (vs : List Value) (links : List StructLink) (i : ℕ) (text : List ℕ)
    → slice_get vs i ≡ Some (value.Text text) → slice_get (with_links vs links) i ≡ Some (value.Text text)
text-linked [] links i text is = absurd (none-some (value.Text text) is)
text-linked (v ∷ vs) links zero text is =
    ap (λ w. Some (linked_value w (take (length (links_of w)) links))) (same_Some v (value.Text text) is)
text-linked (v ∷ vs) links (suc i) text is = text-linked vs (drop (length (links_of v)) links) i text is

-- a text that fits a field is short
short-single : (numbers : List ℕ) (form : Form) (counts : List Count) (text : List ℕ)
    → FitsField numbers form counts (value.Text text) → IsShortText text
short-single numbers Text [] text fits = fits
short-single numbers (Number width) [] text fits = absurd fits
short-single numbers (Pair width) [] text fits = absurd fits
short-single numbers Link [] text fits = absurd fits
short-single numbers (Number One) (c ∷ cs) text fits = absurd fits
short-single numbers (Number Two) (c ∷ cs) text fits = absurd fits
short-single numbers (Number Four) (c ∷ cs) text fits = absurd fits
short-single numbers (Number Eight) (c ∷ cs) text fits = absurd fits
short-single numbers (Pair width) (c ∷ cs) text fits = absurd fits
short-single numbers Text (c ∷ cs) text fits = absurd fits
short-single numbers Link (c ∷ cs) text fits = absurd fits

short-text : (numbers : List ℕ) (fields : List Field) (values : List Value) (k : ℕ) (text : List ℕ)
    → AllZip (λ (f : Field) (v : Value). FitsField numbers f.form f.counts v) fields values
    → slice_get values k ≡ Some (value.Text text) → IsShortText text
short-text numbers [] [] k text fit at = absurd (none-some (value.Text text) at)
short-text numbers [] (v ∷ vs) k text fit at = absurd fit
short-text numbers (f ∷ fs) [] k text fit at = absurd fit
short-text numbers (f ∷ fs) (v ∷ vs) zero text fit at =
    short-single numbers f.form f.counts text
    (subst (FitsField numbers f.form f.counts) (same_Some v (value.Text text) at) fit.0)
short-text numbers (f ∷ fs) (v ∷ vs) (suc k) text fit at = short-text numbers fs vs k text fit.1 at

-- the name of a label is a text among its values
name-value : (l : Label) (name : List ℕ) → name_of l ≡ Some name
    → (i : ℕ) × (slice_get l.values i ≡ Some (value.Text name))
name-value l name is = by (name_field l.entry.elements) is
  where
    text : (v : Value) → text_of v ≡ Some name → v ≡ value.Text name
    text (value.Text t) is = ap value.Text (same_Some t name is)
    text (value.Num n) is = absurd (none-some name is)
    text (value.Pair a b) is = absurd (none-some name is)
    text (value.Nums xs) is = absurd (none-some name is)
    text (value.Pairs xs) is = absurd (none-some name is)
    text (value.Texts xs) is = absurd (none-some name is)
    text (value.Bytes xs) is = absurd (none-some name is)
    text (value.Link link) is = absurd (none-some name is)
    text (value.Links xs) is = absurd (none-some name is)

    at : (o : Option Value) → option_and_then text_of o ≡ Some name → o ≡ Some (value.Text name)
    at None is = absurd (none-some name is)
    at (Some v) is = ap Some (text v is)

    by : (field : Option ℕ) → option_and_then text_of (option_and_then (slice_get l.values) field) ≡ Some name
        → (i : ℕ) × (slice_get l.values i ≡ Some (value.Text name))
    by None is = absurd (none-some name is)
    by (Some i) is = (i, at (slice_get l.values i) is)

name-short : (dictionary : List Entry) (f : Frame) (k : ℕ) (name : List ℕ) → IsWritableFrame dictionary f
    → k < length f.rows → name_of (label_at f k) ≡ Some name → IsShortText name
name-short dictionary f k name w less is =
    let row : Row = row_at f k in
    let values : List Value = with_links row.label.values (map (new_link f) row.links) in
    let one = (w.rows k less).writable in
    let found = name-value row.label name is in
    short-text (map number_of values) one.layout values found.0 name one.fits
    (text-linked row.label.values (map (new_link f) row.links) found.0 name found.1)

-- ---- channels with their names

-- a channel of a frame, with its name
pub record IsChannel (f : Frame) (channel : List ℕ × ℕ) : Type 0 where
  pub short : IsShortText channel.0
  pub within : channel.1 < length f.rows

-- the frame's channels are such
abbrev pub HasChannels : Frame → Type 0
HasChannels f = (kind : Kind) → AllByRecursion (IsChannel f) (named_channels f kind)

named-within : (dictionary : List Entry) (f : Frame) (ks : List ℕ) → IsWritableFrame dictionary f
    → AllByRecursion (λ k. k < length f.rows) ks → AllByRecursion (IsChannel f) (filter_map (named_channel f) ks)
named-within dictionary f [] w all = tt
named-within dictionary f (k ∷ ks) w all = by (name_of (label_at f k)) refl (named-within dictionary f ks w all.1)
  where
    by : (name : Option (List ℕ)) → name_of (label_at f k) ≡ name
        → AllByRecursion (IsChannel f) (filter_map (named_channel f) ks)
        → AllByRecursion (IsChannel f)
        (cons_option (option_map (λ name. (name, k)) name) (filter_map (named_channel f) ks))
    by None is rest = rest
    by (Some name) is rest = (record { short = name-short dictionary f k name w all.0 is; within = all.0 }, rest)

pub has-channels : (dictionary : List Entry) (f : Frame) → IsWritableFrame dictionary f → HasChannels f
has-channels dictionary f w kind =
    named-within dictionary f (channels f kind) w (channels-within f kind (λ k less. (w.rows k less).row.within))
