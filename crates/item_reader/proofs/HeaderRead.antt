-- The header of a file, by the 40 bytes that were read from its beginning.
use Rattle.std.proofs.Common.{◌≡◌, ℕ, ◌<◌, ◌≤◌, inl, inr, List, length, take, drop, Err, sym, ap, ◌∙◌}
use Rattle.std.proofs.Common.{arith}
use Rattle.std.proofs.lemmas.List.{take_all}
use Rattle.std.specs.Prelude.{min}
use Rattle.frame_head.specs.Header.{header_of}
use Rattle.structure_source.specs.Source.{left_at}
use Rattle.file_grammar.specs.declared.reason.Reason.TheVariants.{CutHeader, BadHeader}
use Rattle.file_grammar.specs.declared.fault.Fault.{Fault}
use Rattle.file_grammar.specs.Fault.{fault_at, IsHeaderFault}

-- fewer than 40 bytes were there
pub cut-header : (file : List ℕ) (n at : ℕ) (fault : Fault) → at ≡ 0 → n ≡ min 40 (left_at file at) → n < 40
    → fault ≡ fault_at CutHeader (n, 0) → IsHeaderFault file fault
cut-header file n at fault begins count short is =
    let size : n ≡ length file = omega (arith, begins, count, short) in
    inl (omega (arith, size, short), is ∙ ap (λ n. fault_at CutHeader (n, 0)) size)

-- the 40 bytes are the first of the file
pub record IsFront (file header : List ℕ) : Type 0 where
  pub size : 40 ≤ length file
  pub front : take 40 file ≡ header

pub is-front : (file header : List ℕ) (n at : ℕ) → at ≡ 0 → length header ≡ 40
    → n ≡ min (length header) (left_at file at) → take n header ≡ take n (drop at file) → 40 ≤ n
    → IsFront file header
is-front file header n at begins size count same long =
    let whole : n ≡ 40 = omega (arith, begins, size, count, long) in
    record {
      size = omega (arith, begins, size, count, long);
      front = sym (ap (λ at. take 40 (drop at file)) begins) ∙ sym (ap (λ n. take n (drop at file)) whole)
          ∙ sym same
          ∙ take_all n header (omega (arith, whole, size));
    }

-- a part of the header is wrong
pub bad-header : (file header : List ℕ) (place : ℕ) (fault : Fault) → IsFront file header
    → header_of header ≡ Err (record { at = place }) → fault ≡ fault_at BadHeader (place, 0)
    → IsHeaderFault file fault
bad-header file header place fault front wrong is =
    let size : 40 ≤ length file = front.size in
    inr (place, ap header_of front.front ∙ wrong, λ short. omega (arith, size, short), is)
