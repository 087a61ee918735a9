-- Bytes that stand in a file at a place, and the structures that they are.
use Rattle.std.proofs.Common.{◌≡◌, ℕ, ◌+◌, ◌-◌, ◌^◌, ◌<◌, ◌≤◌, List, ◌++◌, length, take, drop, sym, ap, ◌∙◌, subst}
use Rattle.std.proofs.Common.{refl}
use Rattle.std.proofs.Common.{arith, append_assoc, length-append}
use Rattle.std.specs.Prelude.{slice_range}
use Rattle.std.proofs.Math.Seq.{drop-append_seam}
use Rattle.std.proofs.lemmas.List.{take_at, drop_at}
use Rattle.scalar_types.specs.declared.Order.TheVariants.{Little}
use Rattle.frame_head.specs.declared.structure.Common.{Common}
use Rattle.frame_head.specs.Structure.{common_of, common_bytes}
use Rattle.frame_head.proofs.CommonBytes.{common_bytes-length, common_of-bytes}
use Rattle.file_grammar.specs.Structure.{record_limit, file_limit, common_at, StandsWhole}
use Rattle.canonical_file.specs.Bytes.{structure_bytes}

-- these bytes stand in the file at a place
pub record Holds (file : List ℕ) (at : ℕ) (bytes : List ℕ) : Type 0 where
  pub front : List ℕ
  pub rest : List ℕ
  pub split : file ≡ front ++ (bytes ++ rest)
  pub place : length front ≡ at

pub holds-left : (file : List ℕ) (at : ℕ) (xs ys : List ℕ) → Holds file at (xs ++ ys) → Holds file at xs
holds-left file at xs ys h = record {
  front = h.front;
  rest = ys ++ h.rest;
  split = h.split ∙ ap (λ zs. h.front ++ zs) (append_assoc xs ys h.rest);
  place = h.place;
}

pub holds-right : (file : List ℕ) (at : ℕ) (xs ys : List ℕ) → Holds file at (xs ++ ys) → Holds file (at + length xs) ys
holds-right file at xs ys h = record {
  front = h.front ++ xs;
  rest = h.rest;
  split = h.split ∙ ap (λ zs. h.front ++ zs) (append_assoc xs ys h.rest) ∙ sym (append_assoc h.front xs (ys ++ h.rest));
  place = length-append h.front xs ∙ ap (λ n. n + length xs) h.place;
}

pub holds-at : (file : List ℕ) (at to : ℕ) (bytes : List ℕ) → at ≡ to → Holds file at bytes → Holds file to bytes
holds-at file at to bytes same h = subst (λ n. Holds file n bytes) same h

pub holds-within : (file : List ℕ) (at : ℕ) (bytes : List ℕ) → Holds file at bytes → at + length bytes ≤ length file
holds-within file at bytes h =
    omega (
      arith,
      h.place,
      ap length h.split,
      length-append h.front (bytes ++ h.rest),
      length-append bytes h.rest,
    )

-- ---- a structure

abbrev common_with : ℕ → ℕ → List ℕ → Common
common_with class instance body =
    record { length = 14 + length body; check = 0; class = class; instance = instance }

pub length-structure : (class instance : ℕ) (body : List ℕ)
    → length (structure_bytes class instance body) ≡ 14 + length body
length-structure class instance body =
    let common : Common = common_with class instance body in
    omega (arith, length-append (common_bytes Little common) body, common_bytes-length Little common)

-- Its bytes at a place are a structure that stands there whole.
pub stands-held : (file : List ℕ) (at class instance : ℕ) (body : List ℕ)
    → Holds file at (structure_bytes class instance body) → instance < 256 ^ 4 → 14 + length body ≤ record_limit
    → length file ≤ file_limit
    → StandsWhole Little file (record { at = at; class = class; instance = instance; body = body })
stands-held file at class instance body h small short limit =
    let common : Common = common_with class instance body in
    let head : List ℕ = common_bytes Little common in
    let bytes : List ℕ = head ++ body in
    let left : drop at file ≡ head ++ (body ++ h.rest) =
    ap (λ n. drop n file) (sym h.place)
    ∙ ap (drop (length h.front)) h.split
    ∙ drop-append_seam h.front (bytes ++ h.rest)
    ∙ append_assoc head body h.rest in
    let says : common_at Little file at ≡ common =
    ap (common_of Little) left ∙ common_of-bytes Little common (body ++ h.rest) (omega arith) small in
    let told : (common_at Little file at).length ≡ 14 + length body = ap (λ (c : Common). c.length) says in
    let rest : (common_at Little file at).length - 14 ≡ length body = omega (arith, told) in
    let taken : slice_range (drop at file) 14 (common_at Little file at).length ≡ body =
    ap (λ n. take n (drop 14 (drop at file))) rest
    ∙ ap (λ xs. take (length body) (drop 14 xs)) left
    ∙ ap (take (length body)) (drop_at head (body ++ h.rest) 14 (common_bytes-length Little common))
    ∙ take_at body h.rest (length body) refl in
    let class_is : class ≡ (common_at Little file at).class = sym (ap (λ (c : Common). c.class) says) in
    let instance_is : instance ≡ (common_at Little file at).instance = sym (ap (λ (c : Common). c.instance) says) in
    let within : at + (14 + length body) ≤ length file =
    omega (arith, holds-within file at bytes h, length-structure class instance body) in
    record {
      is = λ i. record { at = at; class = class_is i; instance = instance_is i; body = sym taken i };
      head = omega arith;
      whole = told;
      small = short;
      within = omega arith;
    }
