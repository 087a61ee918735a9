-- How a walk goes on from structure to structure.
use Rattle.std.proofs.Common.{◌≡◌, ℕ, ◌+◌, ◌<◌, ◌≤◌, List, [], ◌∷◌, ◌++◌, length, take, drop, Some, Ok, Err, option_map}
use Rattle.std.proofs.Common.{inr, refl, sym, ap, ◌∙◌, subst, arith, length-take, length-drop, length-append}
use Rattle.std.proofs.Common.{append-nil}
use Rattle.std.proofs.lemmas.List.{take-append-le, take_all}
use Rattle.std.specs.List.{concat}
use Rattle.scalar_types.specs.declared.Order.{Order}
use Rattle.frame_head.specs.declared.header.HeadFault.{HeadFault}
use Rattle.frame_head.specs.Header.{header_of}
use Rattle.frame_outside.specs.Shelf.{Outside, Source, Told, Opens, beginning_of, pass, slot_passed}
use Rattle.frame_outside.specs.SlotReader.{Buffered, Draws, Advances, to_come}
use Rattle.frame_outside.proofs.Slots.{pass-given}
use Rattle.frame_outside.proofs.Reading.{HasGone}
use Rattle.frame_tool.proofs.Structures.{StandFrom-push, length-concat-take, rest-concat, take-concat-push}
use Rattle.file_grammar.specs.declared.reason.Reason.{Reason}
use Rattle.frame_tool.specs.declared.verdict.Verdict.{Verdict}
use Rattle.frame_tool.specs.declared.verdict.Verdict.TheVariants.{Sound, Wrong}
use Rattle.frame_tool.specs.declared.walk.Found.{Found}
use Rattle.frame_tool.specs.declared.walk.Found.TheVariants.{End, Structure, Fault}
use Rattle.frame_tool.specs.Walk.{MayStand, StandFrom, IsVerdict}
use Rattle.frame_tool.specs.WalkSteps.{IsFound, Stood, FaultAfter, FindsOn}
use Rattle.dumper.specs.Due.{ReadsOneFile}

pub stood_none : (order : Order) (rest : List ℕ) → Stood order rest 0 0
stood_none order rest = record { structures = []; within = omega arith; parts = refl; stand = tt; counted = refl }

-- one more structure was found
pub stood_more : (order : Order) (rest : List ℕ) (size count place more : ℕ) → place ≡ 40 + size →
    Stood order rest size count → IsFound order place (drop size rest) (Structure more)
    → Stood order rest (size + more) (count + 1)
stood_more order rest size count place more is_place stood found =
    let structure : List ℕ = take more (drop size rest) in
    let at : place ≡ 40 + length (concat stood.structures) =
    omega (arith, is_place, length-concat-take stood.structures rest size stood.within stood.parts) in
    record {
      structures = stood.structures ++ take more (drop size rest) ∷ [];
      within = omega (arith, stood.within, found.0, length-drop size rest);
      parts = take-concat-push stood.structures rest size more stood.parts;
      stand = StandFrom-push order 40 stood.structures (take more (drop size rest)) stood.stand
          (subst (λ p. MayStand order p (take more (drop size rest))) at found.1);
      counted = omega (arith, stood.counted, length-append stood.structures (take more (drop size rest) ∷ []));
    }

-- nothing more was found
pub stood_all : (order : Order) (rest : List ℕ) (size count place : ℕ) → Stood order rest size count
    → IsFound order place (drop size rest) End →
    Stood order rest (length rest) count
stood_all order rest size count place stood none =
    let all : size ≡ length rest = omega (arith, stood.within, length-drop size rest, ap length none) in
    subst (λ n. Stood order rest n count) all stood

-- a fault was found
pub fault_after : (order : Order) (rest : List ℕ) (size count place : ℕ) (reason : Reason) → place ≡ 40 + size →
    Stood order rest size count → IsFound order place (drop size rest) (Fault reason)
    → FaultAfter order rest place reason
fault_after order rest size count place reason is_place stood fault = record {
  structures = stood.structures;
  last = drop size rest;
  parts = rest-concat stood.structures rest size stood.parts;
  stand = stood.stand;
  place = omega (arith, is_place, length-concat-take stood.structures rest size stood.within stood.parts);
  fault = fault;
}

-- what was found is at the front of what is left of what was to come at first
pub found_later : (first middle : Outside) (before between : Buffered) (order : Order) (place size : ℕ)
    (found kind : Found) →
    HasGone first middle before between size → Told (to_come middle between) (λ rest. IsFound order place rest found)
    → found ≡ kind →
    Told (to_come first before) (λ rest. IsFound order place (drop size rest) kind)
found_later first middle before between order place size found kind gone told is rest came =
    subst (IsFound order place (drop size rest)) is
    (told (drop size rest) (gone.advances.rest ∙ ap (option_map (drop size)) came))

-- a header that is cut
pub cut_header : (file head : List ℕ) (read : ℕ) → length head ≡ 40 → read ≤ length head → read < 40
    → take read head ≡ take (length head) file →
    (length file < 40) × (read ≡ length file)
cut_header file head read size room short filled =
    let same = ap length filled in (
      omega (arith, same, length-take read head, length-take (length head) file, size),
      omega (arith, same, length-take read head, length-take (length head) file, size),
    )

-- a header that was read whole
whole_header : (file head : List ℕ) (read : ℕ) → length head ≡ 40 → read ≤ length head → 40 ≤ read
    → take read head ≡ take (length head) file →
    (40 ≤ length file) × (head ≡ take 40 file)
whole_header file head read size room enough filled =
    let same = ap length filled in (
      omega (arith, same, length-take read head, length-take (length head) file, size),
      sym (take_all read head (omega (arith, size, enough))) ∙ filled ∙ ap (λ n. take n file) size,
    )

-- the verdict on what stands after a header that is right
verdict_after : (file : List ℕ) (order : Order) (verdict : Verdict) → 40 ≤ length file
    → header_of (take 40 file) ≡ Ok order →
    FindsOn order (drop 40 file) verdict → IsVerdict file verdict
verdict_after file order (Sound told count) size header finds = record {
  structures = finds.1.structures;
  size = size;
  walked = record {
    header = header ∙ ap Ok (sym finds.0);
    parts = sym (take_all (length (drop 40 file)) (drop 40 file) (omega arith)) ∙ finds.1.parts
        ∙ sym (append-nil (concat finds.1.structures));
    stand = subst (λ o. StandFrom o 40 finds.1.structures) (sym finds.0) finds.1.stand;
  };
  counted = finds.1.counted;
}
verdict_after file order (Wrong at reason) size header finds = inr (record {
  order = order;
  structures = finds.structures;
  rest = finds.last;
  size = size;
  walked = record { header = header; parts = finds.parts; stand = finds.stand };
  place = finds.place;
  fault = finds.fault;
})

-- the verdict on a file whose header was read and is right
pub verdict_walked : (old middle : Outside) (before between : Buffered) (head : List ℕ) (read : ℕ) (order : Order)
    (verdict : Verdict) →
    length head ≡ 40 → read ≤ length head → 40 ≤ read → Advances old middle before between read →
    Told (to_come old before) (λ bytes. take read head ≡ take (length head) bytes) → Ok order ≡ header_of head →
    Told (to_come middle between) (λ rest. FindsOn order rest verdict)
    → Told (to_come old before) (λ file. IsVerdict file verdict)
verdict_walked old middle before between head read order verdict size room enough advances filled right
    finds file told =
    let whole = whole_header file head read size room enough (filled file told) in
    let all : read ≡ 40 = omega (arith, size, room, enough) in
    let next : to_come middle between ≡ Some (drop 40 file) = advances.rest ∙ ap (option_map (drop read)) told
    ∙ ap (λ n. Some (drop n file)) all in
    verdict_after file order verdict whole.0 (ap header_of (sym whole.1) ∙ sym right) (finds (drop 40 file) next)

-- the fault of a file whose header was read and is wrong
pub header_wrong : (file head : List ℕ) (read : ℕ) (fault : HeadFault) → length head ≡ 40
    → read ≤ length head → 40 ≤ read →
    take read head ≡ take (length head) file → Err fault ≡ header_of head → (40 ≤ length file)
    × (header_of (take 40 file) ≡ Err fault)
header_wrong file head read fault size room enough filled wrong =
    let whole = whole_header file head read size room enough filled in
    (whole.0, ap header_of (sym whole.1) ∙ sym wrong)

-- a file was opened, and bytes of its slot were drawn through a reader
pub reads_one : (old middle last : Outside) (name : List ℕ) (slot : ℕ) (reader : Buffered)
    → Opens old middle name slot →
    reader ≡ record { slot = slot; ahead = [] } → Draws middle last reader.slot → ReadsOneFile old last name
reads_one old middle last name slot reader opens made draws =
    let number : reader.slot ≡ length old.slots = ap (λ r. r.slot) made ∙ opens.number in
    let drawn : last.slots ≡ old.slots ++ slot_passed draws.drawn (Source (beginning_of old.files name)) ∷ [] =
    draws.passes.slots ∙ ap (λ slots. pass slots reader.slot draws.drawn) opens.slots
    ∙ ap (λ n. pass (old.slots ++ Source (beginning_of old.files name) ∷ []) n draws.drawn) number
    ∙ pass-given old.slots (Source (beginning_of old.files name)) draws.drawn in
    record {
      faults = omega (arith, opens.faults, draws.passes.faults);
      misses = omega (arith, opens.misses, draws.passes.misses);
      missed = λ _ _ _. draws.passes.misses ∙ opens.misses;
      slots = ap (take (length old.slots)) drawn
          ∙ take-append-le (length old.slots) old.slots
          (slot_passed draws.drawn (Source (beginning_of old.files name)) ∷ []) (omega arith)
          ∙ take_all (length old.slots) old.slots (omega arith);
      given = omega (
        arith,
        ap length drawn,
        length-append old.slots (slot_passed draws.drawn (Source (beginning_of old.files name)) ∷ []),
      );
      files = draws.passes.files ∙ opens.files;
    }
