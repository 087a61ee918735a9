-- The fault of a rest of a file: which reasons hold there, and that the least of them is one.
use Rattle.std.proofs.Common.{◌≡◌, ℕ, ◌+◌, ◌<◌, ◌≤◌, ◌⊎◌, inl, inr, List, ◌++◌, length, take, refl, subst, arith}
use Rattle.std.proofs.Common.{length-append}
use Rattle.std.proofs.lemmas.List.{length-take-le}
use Rattle.std.proofs.lemmas.Bool.{cases_lt}
use Rattle.scalar_types.specs.declared.Order.{Order}
use Rattle.frame_head.specs.Structure.{common_of}
use Rattle.file_grammar.specs.declared.reason.Reason.{Reason}
use Rattle.file_grammar.specs.declared.reason.Reason.TheVariants.{CutRecord, LengthSmall, RecordLimit, FileLimit}
use Rattle.file_grammar.specs.Reason.{number_of}
use Rattle.frame_tool.specs.Walk.{record_limit, file_limit, MayStand, Holds, IsFault}
use Rattle.frame_tool.proofs.Structures.{told-structure, structure-take}

-- a structure of this length may stand at a place where so many bytes are left
pub record Fits (place left told : ℕ) : Type 0 where
  pub head : 14 ≤ told
  pub small : told ≤ record_limit
  pub whole : told ≤ left
  pub within : place + told ≤ file_limit

-- where a structure may stand no reason holds
fits-unheld : (place left told : ℕ) (reason : Reason) → Fits place left told → Holds reason place left told → ⊥
fits-unheld place left told CutRecord fits (some, inl short) = omega arith
fits-unheld place left told CutRecord fits (some, inr long) = omega arith
fits-unheld place left told LengthSmall fits holds = omega arith
fits-unheld place left told RecordLimit fits holds = omega arith
fits-unheld place left told FileLimit fits holds = omega arith
fits-unheld place left told _ fits holds = holds

-- where nothing is left no reason holds
pub none-unheld : (place told : ℕ) (reason : Reason) → Holds reason place 0 told → ⊥
none-unheld place told CutRecord holds = omega arith
none-unheld place told LengthSmall holds = omega arith
none-unheld place told RecordLimit holds = omega arith
none-unheld place told FileLimit holds = omega arith
none-unheld place told _ holds = holds

-- reasons that hold are told apart by their numbers
same_reason : (first second : Reason) (place left told : ℕ) → Holds first place left told → Holds second place left told
    → number_of first ≡ number_of second → first ≡ second
same_reason CutRecord CutRecord place left told one other same = refl
same_reason CutRecord LengthSmall place left told one other same = absurd (omega arith)
same_reason CutRecord RecordLimit place left told one other same = absurd (omega arith)
same_reason CutRecord FileLimit place left told one other same = absurd (omega arith)
same_reason CutRecord _ place left told one other same = absurd other
same_reason LengthSmall CutRecord place left told one other same = absurd (omega arith)
same_reason LengthSmall LengthSmall place left told one other same = refl
same_reason LengthSmall RecordLimit place left told one other same = absurd (omega arith)
same_reason LengthSmall FileLimit place left told one other same = absurd (omega arith)
same_reason LengthSmall _ place left told one other same = absurd other
same_reason RecordLimit CutRecord place left told one other same = absurd (omega arith)
same_reason RecordLimit LengthSmall place left told one other same = absurd (omega arith)
same_reason RecordLimit RecordLimit place left told one other same = refl
same_reason RecordLimit FileLimit place left told one other same = absurd (omega arith)
same_reason RecordLimit _ place left told one other same = absurd other
same_reason FileLimit CutRecord place left told one other same = absurd (omega arith)
same_reason FileLimit LengthSmall place left told one other same = absurd (omega arith)
same_reason FileLimit RecordLimit place left told one other same = absurd (omega arith)
same_reason FileLimit FileLimit place left told one other same = refl
same_reason FileLimit _ place left told one other same = absurd other
same_reason _ second place left told one other same = absurd one

-- a rest has one fault at most
pub same_fault : (order : Order) (place : ℕ) (rest : List ℕ) (first second : Reason)
    → IsFault order place rest first → IsFault order place rest second → first ≡ second
same_fault order place rest first second one other =
    let below : number_of first ≤ number_of second = one.least second other.holds in
    let above : number_of second ≤ number_of first = other.least first one.holds in
    same_reason first second place (length rest) (common_of order rest).length one.holds other.holds (omega arith)

-- a number is below those of the reasons that hold where it is for the four that may
least_of : (number place left told : ℕ)
    → (Holds CutRecord place left told → number ≤ 3)
    → (Holds LengthSmall place left told → number ≤ 4)
    → (Holds RecordLimit place left told → number ≤ 5)
    → (Holds FileLimit place left told → number ≤ 28)
    → (other : Reason) → Holds other place left told → number ≤ number_of other
least_of number place left told cut small limit file CutRecord holds = cut holds
least_of number place left told cut small limit file LengthSmall holds = small holds
least_of number place left told cut small limit file RecordLimit holds = limit holds
least_of number place left told cut small limit file FileLimit holds = file holds
least_of number place left told cut small limit file _ holds = absurd holds

-- the least of the reasons that hold
pub record IsLeast (place left told : ℕ) (reason : Reason) : Type 0 where
  pub holds : Holds reason place left told
  pub least : (other : Reason) → Holds other place left told → number_of reason ≤ number_of other

-- fewer than 14 bytes are left
pub cut_head : (place left told : ℕ) → 0 < left → left < 14 → IsLeast place left told CutRecord
cut_head place left told some short = record {
  holds = (some, inl short);
  least = least_of 3 place left told (λ h. omega arith) (λ h. omega arith) (λ h. omega arith) (λ h. omega arith);
}

-- what a cut structure shows where its head is whole
pub cut_behind_head : (place left told : ℕ) → 14 ≤ left → Holds CutRecord place left told → (14 ≤ told)
    × (told ≤ record_limit) × (left < told)
cut_behind_head place left told head (some, inl short) = absurd (omega arith)
cut_behind_head place left told head (some, inr long) = long

-- the length is below 14
pub small_length : (place left told : ℕ) → 14 ≤ left → told < 14 → IsLeast place left told LengthSmall
small_length place left told head small = record {
  holds = (head, small);
  least = least_of 4 place left told
      (λ h. let long = cut_behind_head place left told head h in omega arith)
      (λ h. omega arith)
      (λ h. omega arith)
      (λ h. omega arith);
}

-- the length is beyond that of any structure
pub large_length : (place left told : ℕ) → 14 ≤ left → record_limit < told → IsLeast place left told RecordLimit
large_length place left told head large = record {
  holds = (head, large);
  least = least_of 5 place left told
      (λ h. let long = cut_behind_head place left told head h in omega arith)
      (λ h. omega arith)
      (λ h. omega arith)
      (λ h. omega arith);
}

-- the length is that of a structure, and fewer bytes are left
pub cut_body : (place left told : ℕ) → 14 ≤ left → 14 ≤ told → told ≤ record_limit → left < told
    → IsLeast place left told CutRecord
cut_body place left told head enough small long = record {
  holds = (omega arith, inr (enough, small, long));
  least = least_of 3 place left told (λ h. omega arith) (λ h. omega arith) (λ h. omega arith) (λ h. omega arith);
}

-- a structure of this length is there and ends beyond the bytes of any file
pub far_end : (place left told : ℕ) → 14 ≤ told → told ≤ record_limit → told ≤ left → file_limit < place + told
    → IsLeast place left told FileLimit
far_end place left told enough small whole far = record {
  holds = (omega arith, far);
  least = least_of 28 place left told
      (λ h. let head : 14 ≤ left = omega arith in let long = cut_behind_head place left told head h in omega arith)
      (λ h. omega arith)
      (λ h. omega arith)
      (λ h. omega arith);
}

-- where bytes are left, a structure may stand or one of the reasons is the least
pub judged : (place left told : ℕ) → 0 < left → Fits place left told
    ⊎ ((reason : Reason) × IsLeast place left told reason)
judged place left told some =
    elim (cases_lt left 14) [
      | inl short ↦ inr (CutRecord, cut_head place left told some short)
      | inr head ↦ elim (cases_lt told 14) [
        | inl small ↦ inr (LengthSmall, small_length place left told head small)
        | inr enough ↦ elim (cases_lt record_limit told) [
          | inl large ↦ inr (RecordLimit, large_length place left told head large)
          | inr small ↦ elim (cases_lt left told) [
            | inl long ↦ inr (CutRecord, cut_body place left told head enough small long)
            | inr whole ↦ elim (cases_lt file_limit (place + told)) [
              | inl far ↦ inr (FileLimit, far_end place left told enough small whole far)
              | inr within ↦ inl (record { head = enough; small = small; whole = whole; within = within })
            ]
          ]
        ]
      ]
    ]

-- where a structure may stand no reason holds
pub structure-unheld : (order : Order) (place : ℕ) (structure others : List ℕ) (reason : Reason)
    → MayStand order place structure
    → Holds reason place (length (structure ++ others)) (common_of order (structure ++ others)).length → ⊥
structure-unheld order place structure others reason may holds =
    let told : (common_of order (structure ++ others)).length ≡ length structure =
    told-structure order structure others may.whole in
    let head : 14 ≤ length structure = may.whole.head in
    let small : length structure ≤ record_limit = may.small in
    let within : place + length structure ≤ file_limit = may.within in
    fits-unheld place (length (structure ++ others)) (common_of order (structure ++ others)).length reason
    (record {
      head = omega arith;
      small = omega arith;
      whole = omega (arith, length-append structure others);
      within = omega arith;
    })
    holds

-- the least of the reasons that hold of a rest is its fault
pub fault_of_least : (order : Order) (place : ℕ) (rest : List ℕ) (told : ℕ) (reason : Reason)
    → told ≡ (common_of order rest).length
    → IsLeast place (length rest) told reason → IsFault order place rest reason
fault_of_least order place rest told reason tells least =
    let P : ℕ → Type 0 = λ n. IsLeast place (length rest) n reason in
    let same : IsLeast place (length rest) (common_of order rest).length reason = subst P tells least in
    record { holds = same.holds; least = same.least }

-- the front of a rest that is as long as it tells may stand
pub stands_of_fits : (order : Order) (place : ℕ) (rest : List ℕ) (told : ℕ) → told ≡ (common_of order rest).length
    → Fits place (length rest) told → MayStand order place (take told rest)
stands_of_fits order place rest told tells fits =
    let long : length (take told rest) ≡ told = length-take-le told rest fits.whole in
    record {
      whole = structure-take order rest told tells fits.head fits.whole;
      small = omega (arith, fits.small);
      within = omega (arith, fits.within);
    }
