-- A header is read as one byte order or has one fault.
use Rattle.std.proofs.Common.{◌≡◌, ℕ, inl, inr, List, take, Result, Ok, Err, sym, ap, ◌∙◌, arith}
use Rattle.scalar_types.specs.declared.Order.{Order}
use Rattle.frame_head.specs.declared.header.HeadFault.{HeadFault}
use Rattle.frame_head.specs.Header.{header_of}
use Rattle.file_grammar.specs.declared.reason.Reason.TheVariants.{BadHeader}
use Rattle.file_grammar.specs.declared.fault.Fault.{Fault}
use Rattle.file_grammar.specs.Item.{Item, Before}
use Rattle.file_grammar.specs.MayStand.{Begins}
use Rattle.file_grammar.specs.Fault.{fault_at, IsHeaderFault}

-- what two readings of one header show
header_apart : (header : Result Order HeadFault) (order : Order) (fault : HeadFault) → header ≡ Ok order
    → header ≡ Err fault → ⊥
header_apart header order fault read refused = cc

pub same_order : (header : Result Order HeadFault) (order other : Order) → header ≡ Ok order → header ≡ Ok other
    → order ≡ other
same_order header order other left right = cc

same_head_fault : (header : Result Order HeadFault) (fault other : HeadFault) → header ≡ Err fault → header ≡ Err other
    → fault ≡ other
same_head_fault header fault other left right = cc

-- a file that begins with a header has no fault in it
pub begins-unfaulted : (file : List ℕ) (order : Order) (items : List Item) (last : Before) (fault : Fault)
    → Begins file order items last → IsHeaderFault file fault → ⊥
begins-unfaulted file order items last fault begins (inl cut) = omega (arith, begins.size, cut.0)
begins-unfaulted file order items last fault begins (inr bad) =
    header_apart (header_of (take 40 file)) order (record { at = bad.0 }) begins.header bad.1

-- a header has one fault at most
pub same_header_fault : (file : List ℕ) (fault other : Fault) → IsHeaderFault file fault → IsHeaderFault file other
    → fault ≡ other
same_header_fault file fault other (inl left) (inl right) = left.1 ∙ sym right.1
same_header_fault file fault other (inl left) (inr right) = absurd (right.2 left.0)
same_header_fault file fault other (inr left) (inl right) = absurd (left.2 right.0)
same_header_fault file fault other (inr left) (inr right) =
    let fault_of_head : HeadFault → Fault = λ head. fault_at BadHeader (head.at, 0) in
    left.3
    ∙ ap fault_of_head (same_head_fault (header_of (take 40 file)) (record { at = left.0 }) (record { at = right.0 })
    left.1 right.1)
    ∙ sym right.3
