-- Each file has one verdict.
use Rattle.std.proofs.Common.{◌≡◌, ℕ, ◌+◌, ◌≤◌, inl, inr, List, [], ◌∷◌, ◌++◌, length, take, drop, Result, Ok, Err}
use Rattle.std.proofs.Common.{refl, sym, ap, subst, ◌∙◌, arith}
use Rattle.std.proofs.lemmas.Bool.{cases_lt}
use Rattle.std.specs.List.{concat}
use Rattle.scalar_types.specs.declared.Order.{Order}
use Rattle.frame_head.specs.declared.header.HeadFault.{HeadFault}
use Rattle.frame_head.specs.Header.{header_of}
use Rattle.frame_head.specs.Structure.{common_of}
use Rattle.file_grammar.specs.declared.reason.Reason.{Reason}
use Rattle.file_grammar.specs.declared.reason.Reason.TheVariants.{CutHeader, BadHeader}
use Rattle.file_grammar.proofs.Headers.{same_order}
use Rattle.frame_tool.specs.declared.verdict.Verdict.{Verdict}
use Rattle.frame_tool.specs.declared.verdict.Verdict.TheVariants.{Sound, Wrong}
use Rattle.frame_tool.specs.Walk.{StandFrom, IsFault, IsWalked, IsHeaderFault, IsStructureFault, IsSound, IsVerdict}
use Rattle.frame_tool.specs.Walk.{EachFileHasAVerdict, NoFileHasTwoVerdicts}
use Rattle.frame_tool.proofs.Faults.{same_fault, none-unheld}
use Rattle.frame_tool.proofs.Parting.{IsEnd, IsEnded, parted, same_parts}

-- a walk to an end
record IsWalk (file : List ℕ) (order : Order) (structures : List (List ℕ)) (rest : List ℕ) : Type 0 where
  pub size : 40 ≤ length file
  pub walked : IsWalked file order structures rest
  pub end : IsEnd order (40 + length (concat structures)) rest

-- what two readings of one header show
apart : (header : Result Order HeadFault) (order : Order) (fault : HeadFault) → header ≡ Ok order
    → header ≡ Err fault → ⊥
apart header order fault read refused = cc

same_head_fault : (header : Result Order HeadFault) (first second : HeadFault) → header ≡ Err first
    → header ≡ Err second
    → first ≡ second
same_head_fault header first second left right = cc

-- a header that is read has no fault
pub header-unfaulted : (file : List ℕ) (at : ℕ) (reason : Reason) (order : Order) → 40 ≤ length file
    → header_of (take 40 file) ≡ Ok order → IsHeaderFault file at reason → ⊥
header-unfaulted file at CutHeader order size read fault = omega (arith, size, fault.0)
header-unfaulted file at BadHeader order size read fault =
    apart (header_of (take 40 file)) order (record { at = at }) read fault.1
header-unfaulted file at _ order size read fault = fault

-- a header has one fault at most
same_header_fault : (file : List ℕ) (at place : ℕ) (reason other : Reason) → IsHeaderFault file at reason
    → IsHeaderFault file place other → Wrong at reason ≡ Wrong place other
same_header_fault file at place CutHeader CutHeader left right =
    ap (λ (n : ℕ). Wrong n CutHeader) (left.1 ∙ sym right.1)
same_header_fault file at place CutHeader BadHeader left right = absurd (omega (arith, left.0, right.0))
same_header_fault file at place CutHeader _ left right = absurd right
same_header_fault file at place BadHeader CutHeader left right = absurd (omega (arith, left.0, right.0))
same_header_fault file at place BadHeader BadHeader left right =
    let same : HeadFault → Verdict = λ fault. Wrong fault.at BadHeader in
    ap same (same_head_fault (header_of (take 40 file)) (record { at = at }) (record { at = place }) left.1 right.1)
same_header_fault file at place BadHeader _ left right = absurd right
same_header_fault file at place _ other left right = absurd left

-- two walks of one file to an end are one
record IsSameWalk (first second : Order) (fronts parts : List (List ℕ)) (left other : List ℕ) : Type 0 where
  pub order : first ≡ second
  pub structures : fronts ≡ parts
  pub rest : left ≡ other

same_walk : (file : List ℕ) (first second : Order) (structures parts : List (List ℕ)) (rest other : List ℕ)
    → IsWalk file first structures rest → IsWalk file second parts other
    → IsSameWalk first second structures parts rest other
same_walk file first second structures parts rest other left right =
    let order : first ≡ second =
    same_order (header_of (take 40 file)) first second left.walked.header right.walked.header in
    let P : Order → Type 0 = λ o. IsEnded o 40 structures rest in
    let one : IsEnded first 40 structures rest = record { stand = left.walked.stand; end = left.end } in
    let two : IsEnded second 40 parts other = record { stand = right.walked.stand; end = right.end } in
    let same : (structures ≡ parts) × (rest ≡ other) =
    same_parts second 40 structures parts rest other (sym left.walked.parts ∙ right.walked.parts)
    (subst P order one) two in
    record { order = order; structures = same.0; rest = same.1 }

-- what a verdict of structures says is a walk to an end
walk_of_sound : (file : List ℕ) (order : Order) (count : ℕ) (sound : IsSound file order count)
    → IsWalk file order sound.structures []
walk_of_sound file order count sound = record { size = sound.size; walked = sound.walked; end = inl refl }

walk_of_fault : (file : List ℕ) (at : ℕ) (reason : Reason) (fault : IsStructureFault file at reason)
    → IsWalk file fault.order fault.structures fault.rest
walk_of_fault file at reason fault =
    let P : ℕ → Type 0 = λ place. IsFault fault.order place fault.rest reason in
    record { size = fault.size; walked = fault.walked; end = inr (reason, subst P fault.place fault.fault) }

-- nothing is no rest with a fault
none-unfaulted : (order : Order) (place : ℕ) (rest : List ℕ) (reason : Reason) → [] ≡ rest
    → IsFault order place rest reason → ⊥
none-unfaulted order place [] reason none fault =
    none-unheld place (common_of order []).length reason fault.holds
none-unfaulted order place (byte ∷ others) reason none fault = cc

same_sound : (file : List ℕ) (first second : Order) (count number : ℕ) → IsSound file first count
    → IsSound file second number
    → Sound first count ≡ Sound second number
same_sound file first second count number left right =
    let same = same_walk file first second left.structures right.structures [] []
    (walk_of_sound file first count left) (walk_of_sound file second number right) in
    let order : first ≡ second = same.order in
    let counts : count ≡ number = left.counted ∙ ap length same.structures ∙ sym right.counted in
    ap (λ (o : Order). Sound o count) order ∙ ap (λ (n : ℕ). Sound second n) counts

sound-unfaulted : (file : List ℕ) (order : Order) (count at : ℕ) (reason : Reason) → IsSound file order count
    → IsStructureFault file at reason → ⊥
sound-unfaulted file order count at reason sound fault =
    let same = same_walk file order fault.order sound.structures fault.structures [] fault.rest
    (walk_of_sound file order count sound) (walk_of_fault file at reason fault) in
    none-unfaulted fault.order at fault.rest reason same.rest fault.fault

same_structure_fault : (file : List ℕ) (at place : ℕ) (reason other : Reason) → IsStructureFault file at reason
    → IsStructureFault file place other → Wrong at reason ≡ Wrong place other
same_structure_fault file at place reason other left right =
    let same = same_walk file left.order right.order left.structures right.structures left.rest right.rest
    (walk_of_fault file at reason left) (walk_of_fault file place other right) in
    let places : at ≡ place =
    left.place ∙ ap (λ (parts : List (List ℕ)). 40 + length (concat parts)) same.structures ∙ sym right.place in
    let P : ℕ → Type 0 = λ n. IsFault left.order n left.rest reason in
    let Q : Order → Type 0 = λ o. IsFault o place left.rest reason in
    let R : List ℕ → Type 0 = λ bytes. IsFault right.order place bytes reason in
    let reasons : reason ≡ other =
    same_fault right.order place right.rest reason other
    (subst R same.rest (subst Q same.order (subst P places left.fault))) right.fault in
    ap (λ (n : ℕ). Wrong n reason) places ∙ ap (λ (why : Reason). Wrong place why) reasons

pub no_two_verdicts : NoFileHasTwoVerdicts
no_two_verdicts file (Sound first count) (Sound second number) left right =
    same_sound file first second count number left right
no_two_verdicts file (Sound order count) (Wrong at reason) sound (inl fault) =
    absurd (header-unfaulted file at reason order sound.size sound.walked.header fault)
no_two_verdicts file (Sound order count) (Wrong at reason) sound (inr fault) =
    absurd (sound-unfaulted file order count at reason sound fault)
no_two_verdicts file (Wrong at reason) (Sound order count) (inl fault) sound =
    absurd (header-unfaulted file at reason order sound.size sound.walked.header fault)
no_two_verdicts file (Wrong at reason) (Sound order count) (inr fault) sound =
    absurd (sound-unfaulted file order count at reason sound fault)
no_two_verdicts file (Wrong at reason) (Wrong place other) (inl left) (inl right) =
    same_header_fault file at place reason other left right
no_two_verdicts file (Wrong at reason) (Wrong place other) (inl left) (inr right) =
    absurd (header-unfaulted file at reason right.order right.size right.walked.header left)
no_two_verdicts file (Wrong at reason) (Wrong place other) (inr left) (inl right) =
    absurd (header-unfaulted file place other left.order left.size left.walked.header right)
no_two_verdicts file (Wrong at reason) (Wrong place other) (inr left) (inr right) =
    same_structure_fault file at place reason other left right

-- the verdict of a file whose header is read
verdict_of_parts : (file : List ℕ) (order : Order) → 40 ≤ length file → header_of (take 40 file) ≡ Ok order
    → (structures : List (List ℕ)) (rest : List ℕ) → drop 40 file ≡ concat structures ++ rest
    → StandFrom order 40 structures → IsEnd order (40 + length (concat structures)) rest
    → (verdict : Verdict) × IsVerdict file verdict
verdict_of_parts file order size read structures rest parts stand (inl none) =
    let P : List ℕ → Type 0 = λ bytes. drop 40 file ≡ concat structures ++ bytes in (
      Sound order (length structures),
      record {
        structures = structures;
        size = size;
        walked = record { header = read; parts = subst P none parts; stand = stand };
        counted = refl;
      },
    )
verdict_of_parts file order size read structures rest parts stand (inr (reason, fault)) = (
  Wrong (40 + length (concat structures)) reason,
  inr (record {
    order = order;
    structures = structures;
    rest = rest;
    size = size;
    walked = record { header = read; parts = parts; stand = stand };
    place = refl;
    fault = fault;
  }),
)

verdict_of_header : (file : List ℕ) (header : Result Order HeadFault) → 40 ≤ length file
    → header_of (take 40 file) ≡ header
    → (verdict : Verdict) × IsVerdict file verdict
verdict_of_header file (Ok order) size read =
    let walk = parted (length (drop 40 file)) order 40 (drop 40 file) (omega arith) in
    verdict_of_parts file order size read walk.structures walk.rest walk.parts walk.ended.stand walk.ended.end
verdict_of_header file (Err fault) size read = (Wrong fault.at BadHeader, inl (size, read))

pub a_verdict : EachFileHasAVerdict
a_verdict file =
    elim (cases_lt (length file) 40) [
      | inl short ↦ (Wrong (length file) CutHeader, inl (short, refl))
      | inr size ↦ verdict_of_header file (header_of (take 40 file)) size refl
    ]
