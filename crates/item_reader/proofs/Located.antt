-- The whole structure at the place reached, as the code is told of it.
use Rattle.std.proofs.Common.{◌≡◌, ◌+◌, ◌<◌, ◌≤◌, false, length, None, sym, ap, ◌∙◌, arith}
use Rattle.std.specs.Prelude.{◌==◌}
use Rattle.std.proofs.lemmas.Bool.{ne_eqb}
use Rattle.item_reader.specs.declared.structure.Placed.{Placed}
use Rattle.file_grammar.specs.Structure.{Structure, size_of, end_of, record_limit}
use Rattle.file_grammar.specs.Kind.{kind_of}
use Rattle.file_grammar.specs.Fault.{Here, place, bytes_there, length_there, entries_before, class, kind, structure}
use Rattle.file_grammar.specs.Fault.{reasons, first_of}
use Rattle.file_grammar.specs.Fault.{fault_by, fault_here}
use Rattle.file_grammar.specs.Steps.{length_reason, reasons_of}
use Rattle.item_reader.specs.Placed.{body_of, IsPlaced}
use Rattle.file_grammar.proofs.Lengths.{Fits, fits-length}
use Rattle.file_grammar.proofs.Structures.{size-structure_at}
use Rattle.file_grammar.proofs.Judging.{first_of-kind}

pub told-here : (h : Here) (p : Placed) → IsPlaced h.order h.file (place h) p → length_there h ≡ p.length
told-here h p here = sym here.length_is

pub class-here : (h : Here) (p : Placed) → IsPlaced h.order h.file (place h) p → class h ≡ p.class
class-here h p here = ap (λ (s : Structure). s.class) here.is

pub kind-here : (h : Here) (p : Placed) → IsPlaced h.order h.file (place h) p
    → kind h ≡ kind_of (entries_before h) p.class
kind-here h p here = ap (kind_of (entries_before h)) (class-here h p here)

pub instance-here : (h : Here) (p : Placed) → IsPlaced h.order h.file (place h) p → (structure h).instance ≡ p.instance
instance-here h p here = ap (λ (s : Structure). s.instance) here.is

pub body-here : (h : Here) (p : Placed) → IsPlaced h.order h.file (place h) p → (structure h).body ≡ body_of h.file p
body-here h p here = ap (λ (s : Structure). s.body) here.is

pub fits-here : (h : Here) (p : Placed) → IsPlaced h.order h.file (place h) p → Fits (bytes_there h) (length_there h)
fits-here h p here =
    let same : length_there h ≡ p.length = told-here h p here in
    let head : 14 ≤ p.length = here.head in
    let small : p.length ≤ record_limit = here.small in
    let within : place h + p.length ≤ length h.file = here.within in
    record {
      head = omega (arith, head, within);
      enough = omega (arith, same, head);
      small = omega (arith, same, small);
      whole = omega (arith, same, head, within);
    }

pub whole-here : (h : Here) (p : Placed) → IsPlaced h.order h.file (place h) p
    → length_reason h.order h.file (place h) ≡ None
whole-here h p here = fits-length h.order h.file (place h) (fits-here h p here)

pub within-here : (h : Here) (p : Placed) → IsPlaced h.order h.file (place h) p → place h < length h.file
within-here h p here =
    let head : 14 ≤ p.length = here.head in
    let within : place h + p.length ≤ length h.file = here.within in
    omega (arith, head, within)

-- its size, and the place after it
pub size-here : (h : Here) (p : Placed) → IsPlaced h.order h.file (place h) p → size_of (structure h) ≡ p.length
size-here h p here =
    size-structure_at h.order h.file (place h) (fits-here h p here) ∙ told-here h p here

pub end-here : (h : Here) (p : Placed) → IsPlaced h.order h.file (place h) p → end_of (structure h) ≡ place h + p.length
end-here h p here = ap (λ n. place h + n) (size-here h p here)

-- the same by the place that it is told
pub after-here : (h : Here) (p : Placed) → IsPlaced h.order h.file (place h) p
    → p.at + p.length ≡ end_of (structure h)
after-here h p here = ap (λ n. n + p.length) here.place ∙ sym (end-here h p here)

-- ---- faults

-- where the file is not closed and does not end, the first reason is the fault
pub fault-open : (h : Here) → h.before.closed ≡ false → place h < length h.file → fault_here h ≡ first_of reasons h
fault-open h unclosed within =
    ap (λ closed. fault_by closed (place h == length h.file) h) unclosed
    ∙ ap (λ ends. fault_by false ends h) (ne_eqb (place h) (length h.file) (λ same. omega (arith, within, same)))

-- and where they are one, the first reason of its kind
pub fault-kind : (h : Here) (p : Placed) → h.before.closed ≡ false → IsPlaced h.order h.file (place h) p
    → fault_here h ≡ first_of (reasons_of (kind h)) h
fault-kind h p unclosed here =
    fault-open h unclosed (within-here h p here)
    ∙ first_of-kind h (within-here h p here) (whole-here h p here)
