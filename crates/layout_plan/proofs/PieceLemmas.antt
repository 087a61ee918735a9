-- A little-endian body written again in pieces.
use Rattle.std.proofs.Common.{◌≡◌, ℕ, ◌+◌, ◌-◌, ◌<◌, ◌≤◌, List, [], ◌++◌, length, take, drop, get_or, Some, refl}
use Rattle.std.proofs.Common.{sym, ap, ◌∙◌, subst, arith, append_assoc, append-nil, add-zero, Result, Ok, Err}
use Rattle.std.proofs.Common.{is_ok, OnOk}
use Rattle.std.proofs.Math.Seq.{take-add}
use Rattle.std.proofs.lemmas.List.{drop-drop}
use Rattle.std.proofs.lemmas.Option.{slice_get_read}
use Rattle.std.specs.Prelude.{slice_get, if◌then◌else◌}
use Rattle.scalar_types.specs.declared.Order.TheVariants.{Little}
use Rattle.type_text.specs.declared.types.Link.{Link as StructLink}
use Rattle.layout_plan.specs.declared.fields.Field.{Field}
use Rattle.layout_plan.specs.declared.marks.Mark.{Mark}
use Rattle.layout_plan.specs.Appends.{Appends}
use Rattle.layout_plan.specs.Layout.{IsLayout}
use Rattle.layout_plan.specs.Links.{HasLinks}
use Rattle.layout_plan.specs.Marks.{mark_of, place_of}
use Rattle.layout_plan.specs.Respelled.{RespellsField, RespellsAfter}
use Rattle.layout_plan.specs.Walking.{ArePlaces}
use Rattle.layout_plan.specs.Written.{IsRewritten}
use Rattle.layout_plan.proofs.ReachLemmas.{IsAt, ArePlaces-at}
use Rattle.layout_plan.proofs.LentLemmas.{placed, reached-forward}
use Rattle.layout_plan.proofs.RewriteLemmas.{AreRewrittenUpTo, IsFieldPlaced, rewritten-none}
use Rattle.layout_plan.proofs.RewriteLemmas.{rewritten-step, rewritten-all}

-- ---- where a field stands

-- field k stands from one place to another
pub record IsBetween (fields : List Field) (body : List ℕ) (k : ℕ) (f : Field) (at end : ℕ) : Type 0 where
  pub placed : IsFieldPlaced Little fields body k f (record { start = at; length = end - at })
  pub forward : at ≤ end
  pub within : end ≤ length body

pub field-between : (fields items : List Field) (body : List ℕ) (k : ℕ) (f : Field) (ends : List ℕ) (mark : Mark)
    (at end : ℕ) → IsLayout fields → items ≡ fields → k < length items → f ≡ get_or items k f
    → ArePlaces Little fields body (length items) ends → at ≡ place_of ends (mark_of fields k)
    → mark ≡ mark_of fields (k + 1) → end ≡ place_of ends mark → IsBetween fields body k f at end
field-between fields items body k f ends mark at end layout same lt is places at_is mark_is end_is = record {
  placed = record {
    is = subst (λ fields. slice_get fields k ≡ Some f) same (slice_get_read items (length items) k f refl lt is);
    placed = placed Little fields body k at end first.zero_texts second.zero_texts layout.sound within
        (first.here at_is) (second.here end_is);
  };
  forward = reached-forward Little fields body k at end first.zero_texts second.zero_texts within (first.here at_is)
      (second.here end_is);
  within = (second.here end_is).within;
}
  where
    within : k < length fields
    within = omega (arith, lt, ap length same)

    first : IsAt Little fields body k ends (mark_of fields k) at
    first = ArePlaces-at Little fields body (length items) k ends (mark_of fields k) at places (omega arith) refl

    second : IsAt Little fields body (k + 1) ends mark end
    second = ArePlaces-at Little fields body (length items) (k + 1) ends mark end places (omega arith) mark_is

-- ---- pieces

-- the piece from one place to another
abbrev pub piece : List ℕ → ℕ → ℕ → List ℕ
piece body from at = take (at - from) (drop from body)

pub piece-more : (body : List ℕ) (from at end : ℕ) → from ≤ at → at ≤ end
    → piece body from at ++ piece body at end ≡ piece body from end
piece-more body from at end le forward =
    let rest : at - from + from ≡ at = omega arith in
    let whole : at - from + (end - at) ≡ end - from = omega arith in
    let here : drop (at - from) (drop from body) ≡ drop at body =
    drop-drop (at - from) from body ∙ ap (λ n. drop n body) (omega arith) in
    ap (λ bytes. piece body from at ++ take (end - at) bytes) (sym here)
    ∙ sym (take-add (at - from) (end - at) (drop from body))
    ∙ ap (λ n. take n (drop from body)) whole

pub piece-none : (body : List ℕ) (at : ℕ) → piece body at at ≡ []
piece-none body at = let none : at - at ≡ 0 = omega arith in ap (λ n. take n (drop at body)) none

-- the fields so far, of which the last piece is not appended yet
abbrev pub ArePieces : List Field → List ℕ → List StructLink → ℕ → ℕ → ℕ → ℕ → List ℕ → List ℕ → Type 0
ArePieces fields body links k next from at old new =
    Appends (AreRewrittenUpTo Little fields body links k next) old (new ++ piece body from at)

pub pieces-none : (fields : List Field) (body : List ℕ) (links : List StructLink) (old : List ℕ)
    → HasLinks Little fields body (length links) → ArePieces fields body links 0 0 0 0 old old
pieces-none fields body links old many = record {
  items = [];
  whole = refl;
  related = rewritten-none Little fields body links many;
}

-- one more field that is spelled alike
pub pieces-alike : (fields : List Field) (body : List ℕ) (links : List StructLink) (k next from at end : ℕ)
    (old new : List ℕ) (f : Field) → IsLayout fields
    → IsFieldPlaced Little fields body k f (record { start = at; length = end - at }) → from ≤ at → at ≤ end
    → RespellsField Little f (piece body at end) (drop next links) 0 (piece body at end)
    → ArePieces fields body links k next from at old new → ArePieces fields body links (k + 1) next from end old new
pieces-alike fields body links k next from at end old new f layout placed le forward respells before = record {
  items = before.items ++ piece body at end;
  whole = ap (λ bytes. new ++ bytes) (sym (piece-more body from at end le forward))
      ∙ sym (append_assoc new (piece body from at) (piece body at end))
      ∙ ap (λ bytes. bytes ++ piece body at end) before.whole
      ∙ append_assoc old before.items (piece body at end);
  related = subst (λ n. AreRewrittenUpTo Little fields body links (k + 1) n (before.items ++ piece body at end))
      (add-zero next)
      (rewritten-step Little fields body links k next 0 before.items (piece body at end) f
      (record { start = at; length = end - at }) layout placed respells before.related);
}

-- one more field that is not
pub pieces-changed : (fields : List Field) (body : List ℕ) (links : List StructLink) (k next used from at end : ℕ)
    (old mid new : List ℕ) (f : Field) → IsLayout fields
    → IsFieldPlaced Little fields body k f (record { start = at; length = end - at })
    → Appends (RespellsAfter (piece body from at) f (piece body at end) (drop next links) used) mid new
    → ArePieces fields body links k next from at old mid
    → ArePieces fields body links (k + 1) (next + used) end end old new
pieces-changed fields body links k next used from at end old mid new f layout placed more before = record {
  items = before.items ++ more.related.0;
  whole = ap (λ bytes. new ++ bytes) (piece-none body end)
      ∙ append-nil new
      ∙ more.whole
      ∙ ap (λ bytes. mid ++ bytes) more.related.1
      ∙ sym (append_assoc mid (piece body from at) more.related.0)
      ∙ ap (λ bytes. bytes ++ more.related.0) before.whole
      ∙ append_assoc old before.items more.related.0;
  related = rewritten-step Little fields body links k next used before.items more.related.0 f
      (record { start = at; length = end - at }) layout placed more.related.2 before.related;
}

-- the last piece
pub pieces-end : {A E : Type 0} (r : Result A E) (fields : List Field) (body : List ℕ) (links : List StructLink)
    (k next from at : ℕ) (old mid new : List ℕ)
    → new ≡ (if is_ok r then mid ++ piece body from at else mid) → Appends (λ xs. Unit {0}) old mid → IsLayout fields
    → length fields ≤ k → ArePieces fields body links k next from at old mid
    → Appends (λ bytes. OnOk r (IsRewritten Little fields body links bytes)) old new
pieces-end (Ok x) fields body links k next from at old mid new put grown layout le before = record {
  items = before.items;
  whole = put ∙ before.whole;
  related = rewritten-all Little fields body links k next before.items layout le before.related;
}
pieces-end (Err e) fields body links k next from at old mid new put grown layout le before =
    record { items = grown.items; whole = put ∙ grown.whole; related = tt }
