-- A body walked over whole, and its links put behind others.
use Rattle.std.proofs.Common.{◌≡◌, ℕ, ◌-◌, ◌↔◌, IsOk, false, List, length, drop, Result, Ok, Err, ap, ◌∙◌, arith}
use Rattle.std.specs.Prelude.{IfOk, OnOk}
use Rattle.std.specs.Result.{is_err}
use Rattle.std.specs.declared.alloc.AllocError.{AllocError}
use Rattle.std.proofs.lemmas.List.{length-append}
use Rattle.scalar_types.specs.declared.Order.{Order}
use Rattle.type_text.specs.declared.types.Link.{Link as StructLink}
use Rattle.layout_plan.specs.declared.fields.Field.{Field}
use Rattle.layout_plan.specs.declared.faults.BodyFault.{BodyFault}
use Rattle.layout_plan.specs.declared.faults.Measured.{Measured}
use Rattle.layout_plan.specs.declared.links.FieldLink.{FieldLink}
use Rattle.layout_plan.specs.declared.walking.Walked.{Walked}
use Rattle.layout_plan.specs.Appends.{Appends}
use Rattle.layout_plan.specs.Layout.{AreSound}
use Rattle.layout_plan.specs.Body.{HasBody, IsMeasured}
use Rattle.layout_plan.specs.Links.{AreLinks, AreBodyLinks}
use Rattle.layout_plan.specs.Made.{IsMadeOf}
use Rattle.layout_plan.specs.Walking.{IsWholeWalk, TellsLinks}
use Rattle.layout_plan.proofs.LinkLemmas.{plain-list}
use Rattle.layout_plan.proofs.WalkLemmas.{IsReached-body, IsReached-ends, TellsBody-ok}

-- what is walked over whole is a body
pub whole-body : (order : Order) (fields : List Field) (body : List ℕ) (ends : List ℕ) (w : Walked) → AreSound 0 fields
    → IsWholeWalk order fields body ends w → HasBody order fields body
whole-body order fields body ends w sound whole = (
  whole.reached.values,
  drop w.at body,
  IsReached-body order fields body w.at w.zero_texts sound whole.reached whole.ended,
)

-- its links stand behind the others, and are as many as have come
pub whole-put : {A E : Type 0} (order : Order) (fields : List Field) (body : List ℕ) (ends : List ℕ) (w : Walked)
    (r : Result A E) (old new : List StructLink) (n : ℕ) → AreSound 0 fields → IsWholeWalk order fields body ends w
    → false ≡ is_err r → n ≡ length new - length old
    → Appends (λ links. OnOk r (IsMadeOf (λ (found : FieldLink) link. link ≡ found.link) (AreLinks order fields body)
    links)) old new
    → IsMeasured order fields body n w.zero_texts
    × Appends (AreBodyLinks order fields body) old new
whole-put order fields body ends w (Err e) old new n sound whole fine many put = cc
whole-put order fields body ends w (Ok x) old new n sound whole fine many put = (
  IsReached-ends order fields body w.at w.zero_texts n sound whole.reached
      (λ values tail is. omega (
        arith,
        many,
        ap length (are values tail is),
        ap length put.whole ∙ length-append old put.items,
      )) whole.ended,
  record { items = put.items; whole = put.whole; related = are },
)
  where
    are : AreBodyLinks order fields body put.items
    are = plain-list order fields body put.items put.related

pub TellsLinks-ok : (order : Order) (fields : List Field) (bytes : List ℕ) (old new : List StructLink)
    (r : Result (Result Measured BodyFault) AllocError) → AreSound 0 fields → TellsLinks order fields bytes old new r
    → IfOk r (λ told. IsOk told ↔ HasBody order fields bytes)
TellsLinks-ok order fields bytes old new (Ok (Ok m)) sound told = TellsBody-ok order fields bytes (Ok m) sound told.0
TellsLinks-ok order fields bytes old new (Ok (Err fault)) sound told =
    TellsBody-ok order fields bytes (Err fault) sound told.0
TellsLinks-ok order fields bytes old new (Err e) sound told = tt
