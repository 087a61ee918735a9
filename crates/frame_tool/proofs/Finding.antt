-- What stands at a place, by what was read there.
use Rattle.std.proofs.Common.{◌≡◌, ℕ, ◌+◌, ◌-◌, ◌≤◌, min, List, [], ◌∷◌, length, take, drop, Some, option_map, refl}
use Rattle.std.proofs.Common.{sym, ap, ◌∙◌, subst, arith, length-take, length-drop}
use Rattle.std.proofs.lemmas.Bool.Decides.{nat_tests}
use Rattle.std.proofs.lemmas.List.{take_all}
use Rattle.scalar_types.specs.declared.Order.{Order}
use Rattle.frame_head.specs.Structure.{common_of}
use Rattle.frame_head.proofs.FirstBytes.{common_of-take}
use Rattle.frame_outside.specs.Shelf.{Outside, Told}
use Rattle.frame_outside.specs.SlotReader.{Buffered, Advances, to_come}
use Rattle.frame_tool.specs.declared.walk.Found.{Found}
use Rattle.frame_tool.specs.declared.walk.Found.TheVariants.{End, Structure, Fault}
use Rattle.frame_tool.specs.Walk.{record_limit}
use Rattle.frame_tool.proofs.Faults.{stands_of_fits}
use Rattle.frame_tool.specs.WalkSteps.{body_size_of, Judges, IsFound, Moves}

-- a body is passed over whole where its structure is not too long
body_size_of-small : (length : ℕ) → length ≤ record_limit → body_size_of length ≡ length - 14
body_size_of-small length small = grind (arith, nat_tests)

-- the reader passed over what was judged
pub moves_judged : (old new : Outside) (before after : Buffered) (place seen told : ℕ) (found : Found) →
    Advances old new before after seen → seen ≤ 14 + body_size_of told → Judges place seen told found
    → Moves old new before after place found
moves_judged old new before after place seen told End advances within judged = advances.draws
moves_judged old new before after place seen told (Fault reason) advances within judged = advances.draws
moves_judged old new before after place seen told (Structure size) advances within judged =
    let body : body_size_of told ≡ told - 14 = body_size_of-small told (omega (arith, judged.0, judged.3)) in
    let all : seen ≡ size = omega (arith, within, body, judged.0, judged.1, judged.2) in
    (subst (Advances old new before after) all advances, judged.1, judged.4)

nothing_left : (rest : List ℕ) → length rest ≡ 0 → rest ≡ []
nothing_left [] none = refl
nothing_left (byte ∷ rest) none = absurd (omega arith)

-- what was judged by the bytes that are left stands there
pub found_judged : (order : Order) (place : ℕ) (rest : List ℕ) (found : Found) →
    Judges place (length rest) (common_of order rest).length found → IsFound order place rest found
found_judged order place rest End judged = nothing_left rest judged
found_judged order place rest (Fault reason) judged = record { holds = judged.0; least = judged.1 }
found_judged order place rest (Structure size) judged = (
  judged.2,
  stands_of_fits order place rest size (sym judged.0)
      (record { head = judged.1; small = judged.3; whole = judged.2; within = judged.4 }),
)

-- how many bytes were seen where the head was read and the body passed over
pub seen_is : (head rest : List ℕ) (read passed body : ℕ) → length head ≡ 14 → read ≤ length head →
    take read head ≡ take (length head) rest → passed ≡ min body (length (drop read rest))
    → read + passed ≡ min (length rest) (14 + body)
seen_is head rest read passed body size room filled skipped =
    omega (arith, length-take read head, length-take (length head) rest, length-drop read rest, ap length filled, size)

-- the length that was read is the one that the rest tells
pub told_is : (order : Order) (head rest : List ℕ) (read : ℕ) → length head ≡ 14 → read ≤ length head →
    take read head ≡ take (length head) rest → 14 ≤ length rest
    → (common_of order rest).length ≡ (common_of order head).length
told_is order head rest read size room filled enough =
    let all : read ≡ 14 = omega (
      arith,
      length-take read head,
      length-take (length head) rest,
      ap length filled,
      size,
    ) in
    let same : head ≡ take 14 rest =
    sym (take_all read head (omega (arith, size, all))) ∙ filled ∙ ap (λ n. take n rest) size in
    sym (ap (λ (bytes : List ℕ). (common_of order bytes).length) same
    ∙ ap (λ c. c.length) (common_of-take order 14 rest (omega arith)))

-- what was judged by the head that was read and the body that was passed over stands there
pub found_read : (old middle : Outside) (before between : Buffered) (order : Order) (place : ℕ) (head rest : List ℕ)
    (read passed body length_read : ℕ) (found : Found) →
    length head ≡ 14 → read ≤ length head → length_read ≡ (common_of order head).length
    → body ≡ body_size_of length_read →
    Advances old middle before between read
    → Told (to_come old before) (λ bytes. take read head ≡ take (length head) bytes) →
    Told (to_come middle between) (λ bytes. passed ≡ min body (length bytes)) →
    ((left told : ℕ) → read + passed ≡ min left (14 + body_size_of length_read) → (14 ≤ left → told ≡ length_read)
    → Judges place left told found) →
    to_come old before ≡ Some rest → IsFound order place rest found
found_read old middle before between order place head rest read passed body length_read found size room is_read is_body
    advances filled skipped judged told =
    let front = filled rest told in
    let next : to_come middle between ≡ Some (drop read rest) = advances.rest ∙ ap (option_map (drop read)) told in
    let seen = seen_is head rest read passed body size room front (skipped (drop read rest) next) in
    found_judged order place rest found
    (judged (length rest) (common_of order rest).length (seen ∙ ap (λ n. min (length rest) (14 + n)) is_body)
    (λ enough. told_is order head rest read size room front enough ∙ sym is_read))
