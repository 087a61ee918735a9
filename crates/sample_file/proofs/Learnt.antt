-- The dictionary of the sample file and its plans, made entry by entry.
use Rattle.std.proofs.Common.{◌≡◌, ℕ, Bool, true, false, ◌==◌, cond, List, [], ◌∷◌, ◌++◌, Some, None, Ok, refl, sym}
use Rattle.std.proofs.Common.{Result, IfSome, OnOk, ap, ◌∙◌, subst, nat_eq}
use Rattle.std.specs.Prelude.{option_and_then, IsSome}
use Rattle.std.specs.declared.alloc.AllocError.{AllocError}
use Rattle.std.proofs.lemmas.Bool.{eqb-true}
use Rattle.std.proofs.lemmas.Option.{same_Some}
use Rattle.indexmap.specs.IndexMap.{insert_entry}
use Rattle.dictionary.specs.Dictionary.{IsDictionary, IsHeld, entry_of}
use Rattle.std.proofs.lemmas.List.Elements.{All-from_recursion}
use Rattle.dictionary.specs.declared.entries.Entry.{Entry}
use Rattle.dictionary.specs.Same.{AreRead, IsRead}
use Rattle.dictionary.specs.Dictionary.{step}
use Rattle.layout_plan.specs.declared.fields.Field.{Field}
use Rattle.layout_plan.specs.Layout.{layout_of}
use Rattle.layout_plan.specs.Plans.{plan_of}
use Rattle.file_grammar.specs.Record.{layout_in}
use Rattle.sample_file.specs.Entries.{sample_entries, frame_header, raw_data, channel, vector, frame_end}
use Rattle.sample_file.specs.Drafts.{sample_plans, header_fields, raw_fields, channel_fields, vector_fields, end_fields}
use Rattle.sample_file.proofs.Computing.{computing}

-- ---- entries

-- an entry that may be added, where both are known by equations
pub fresh-as : (old held : List Entry) (made e : Entry) → old ≡ held → made ≡ e → step held e ≡ Ok (held ++ e ∷ [])
    → step old made ≡ Ok (old ++ made ∷ [])
fresh-as old held made e same is fresh = rw (same, is) fresh

-- the dictionary after it
pub more-as : (new old held : List Entry) (made e : Entry) → new ≡ old ++ made ∷ [] → old ≡ held → made ≡ e
    → new ≡ held ++ e ∷ []
more-as new old held made e more same is = rw (more, same, is) refl

pub header-fresh : step [] frame_header ≡ Ok (frame_header ∷ [])
unfolding step
header-fresh = refl

pub raw-fresh : step (frame_header ∷ []) raw_data ≡ Ok (frame_header ∷ raw_data ∷ [])
unfolding step
raw-fresh = refl

pub channel-fresh : step (frame_header ∷ raw_data ∷ []) channel ≡ Ok (frame_header ∷ raw_data ∷ channel ∷ [])
unfolding step
channel-fresh = refl

pub vector-fresh : step (frame_header ∷ raw_data ∷ channel ∷ []) vector
    ≡ Ok (frame_header ∷ raw_data ∷ channel ∷ vector ∷ [])
unfolding step
vector-fresh = refl

pub end-fresh : step (frame_header ∷ raw_data ∷ channel ∷ vector ∷ []) frame_end
    ≡ Ok (frame_header ∷ raw_data ∷ channel ∷ vector ∷ frame_end ∷ [])
unfolding step
end-fresh = refl

-- the elements of a vector have the types that their texts read as
pub vector-read : (made : Entry) → made ≡ vector → AreRead made.elements
vector-read made is =
    rw is (All-from_recursion IsRead vector.elements
    (refl, (refl, (refl, (refl, (refl, (refl, (refl, (refl, (refl, (refl, (refl, (refl, (refl, (refl, tt)))))))))))))))

-- ---- layouts

pub header-layout : layout_in sample_entries 3 ≡ Some header_fields
unfolding computing
header-layout = refl

pub raw-layout : layout_in sample_entries 4 ≡ Some raw_fields
unfolding computing
raw-layout = refl

pub channel-layout : layout_in sample_entries 5 ≡ Some channel_fields
unfolding computing
channel-layout = refl

pub vector-layout : layout_in sample_entries 7 ≡ Some vector_fields
unfolding computing
vector-layout = refl

pub end-layout : layout_in sample_entries 9 ≡ Some end_fields
unfolding computing
end-layout = refl

-- a layout that is there
pub layout-some : (held : List Entry) (class : ℕ) (fields : List Field) → held ≡ sample_entries
    → layout_in sample_entries class ≡ Some fields → layout_in held class ≡ Some fields
layout-some held class fields same is = rw same is

-- The plans are those of the entries.
pub plans-are : (class : ℕ) → plan_of sample_plans class ≡ layout_in sample_entries class
unfolding computing
plans-are class = by (class == 3) (class == 4) (class == 5) (class == 7) (class == 9)
  where
    by : (a b c d e : Bool)
        → cond a (Some header_fields) (cond b (Some raw_fields) (cond c (Some channel_fields)
        (cond d (Some vector_fields) (cond e (Some end_fields) None))))
        ≡ option_and_then (λ (e : Entry). layout_of e.elements)
        (cond a (Some frame_header) (cond b (Some raw_data) (cond c (Some channel)
        (cond d (Some vector) (cond e (Some frame_end) None)))))
    by true b c d e = refl
    by false true c d e = refl
    by false false true d e = refl
    by false false false true e = refl
    by false false false false true = refl
    by false false false false false = refl

-- ---- one plan

found-class : (held : List Entry) (class : ℕ) (e : Entry) → entry_of held class ≡ Some e → e.class ≡ class
found-class [] class e is = cc
found-class (x ∷ held) class e is = by (class == x.class) refl (found-class held class e) is
  where
    by : (b : Bool) → (class == x.class) ≡ b → (entry_of held class ≡ Some e → e.class ≡ class)
        → cond b (Some x) (entry_of held class) ≡ Some e → e.class ≡ class
    by true same later is = ap (λ (y : Entry). y.class) (sym (same_Some x e is)) ∙ sym (eqb-true class x.class same)
    by false other later is = later is

-- the entry that is held of a class
pub held-entry : (held : List Entry) (class : ℕ) (e : Entry) → IsDictionary held → Some e ≡ entry_of held class
    → IsHeld held e
held-entry held class e sound is = sound.entries class e (sym is)

-- the plan of its class is kept
pub learnt : {A : Type 0} (held : List Entry) (class : ℕ) (e : Entry) (old new : List (ℕ × List Field))
    (r : Result A AllocError) → Some e ≡ entry_of held class
    → IfSome (layout_of e.elements) (λ fields. OnOk r (new ≡ insert_entry nat_eq old e.class fields))
    → IfSome (layout_in held class) (λ fields. OnOk r (new ≡ insert_entry nat_eq old class fields))
learnt held class e old new r is kept =
    let same : layout_in held class ≡ layout_of e.elements =
    ap (option_and_then (λ (x : Entry). layout_of x.elements)) (sym is) in
    subst (λ o. IfSome o (λ fields. OnOk r (new ≡ insert_entry nat_eq old class fields))) (sym same)
    (subst (λ k. IfSome (layout_of e.elements) (λ fields. OnOk r (new ≡ insert_entry nat_eq old k fields)))
    (found-class held class e (sym is)) kept)

-- ---- the plans in turn

-- a layout that is there
pub some-layout : (held : List Entry) (class : ℕ) (fields : List Field) → held ≡ sample_entries
    → layout_in sample_entries class ≡ Some fields → IsSome (layout_in held class)
some-layout held class fields same is = subst IsSome (sym (layout-some held class fields same is)) refl

one-more : (held : List Entry) (class : ℕ) (fields : List Field) (new old told : List (ℕ × List Field))
    → held ≡ sample_entries → layout_in sample_entries class ≡ Some fields → old ≡ told
    → IfSome (layout_in held class) (λ fields. new ≡ insert_entry nat_eq old class fields)
    → new ≡ insert_entry nat_eq told class fields
one-more held class fields new old told same is before kept =
    let here : new ≡ insert_entry nat_eq old class fields =
    subst (λ o. IfSome o (λ fields. new ≡ insert_entry nat_eq old class fields))
    (layout-some held class fields same is) kept in
    here ∙ ap (λ plans. insert_entry nat_eq plans class fields) before

-- the plans after all five
pub all-learnt : (held : List Entry) (none one two three four five : List (ℕ × List Field)) → held ≡ sample_entries
    → none ≡ [] → IfSome (layout_in held 3) (λ fields. one ≡ insert_entry nat_eq none 3 fields)
    → IfSome (layout_in held 4) (λ fields. two ≡ insert_entry nat_eq one 4 fields)
    → IfSome (layout_in held 5) (λ fields. three ≡ insert_entry nat_eq two 5 fields)
    → IfSome (layout_in held 7) (λ fields. four ≡ insert_entry nat_eq three 7 fields)
    → IfSome (layout_in held 9) (λ fields. five ≡ insert_entry nat_eq four 9 fields) → five ≡ sample_plans
all-learnt held none one two three four five same empty a b c d e =
    let first = one-more held 3 header_fields one none [] same header-layout empty a in
    let second = one-more held 4 raw_fields two one _ same raw-layout first b in
    let third = one-more held 5 channel_fields three two _ same channel-layout second c in
    let fourth = one-more held 7 vector_fields four three _ same vector-layout third d in
    one-more held 9 end_fields five four _ same end-layout fourth e
