-- The body at a place, by the layout of its kind: its fault and its reading.
use Rattle.std.proofs.Common.{◌≡◌, true, List, Some, None, refl, sym, ap, ◌∙◌, true≢false}
use Rattle.std.specs.Prelude.{option_and_then}
use Rattle.dictionary.specs.declared.entries.Entry.{Entry}
use Rattle.dictionary.specs.Dictionary.{step}
use Rattle.layout_plan.specs.declared.fields.Field.{Field}
use Rattle.layout_plan.specs.declared.faults.BodyFault.{BodyFault}
use Rattle.layout_plan.specs.Reading.{fault_of}
use Rattle.layout_plan.specs.BuiltIn.{structure_fields, element_fields}
use Rattle.file_grammar.specs.declared.reason.Reason.TheVariants.{UnreadLayout}
use Rattle.file_grammar.specs.declared.kind.Kind.{Kind}
use Rattle.file_grammar.specs.declared.kind.Kind.TheVariants.{FrSH, FrSE, FrameH, FrEndOfFrame, FrEndOfFile, Other}
use Rattle.file_grammar.specs.Record.{Reading, layout_in, reading_by, reading_of}
use Rattle.file_grammar.specs.Described.{entry_from}
use Rattle.file_grammar.specs.Fault.{Here, entries_before, class, kind, structure, fields, fields_by, body_fault}
use Rattle.file_grammar.specs.Fault.{err_of, refusal}
use Rattle.file_grammar.specs.Fault.{refusal_by}
use Rattle.file_grammar.proofs.Applying.{applies}
use Rattle.file_grammar.proofs.Bodies.{reading-unless_fault, unread-fault}

-- the layout of each kind's body
pub fields-FrSH : (h : Here) → kind h ≡ FrSH → fields h ≡ Some structure_fields
fields-FrSH h is = ap (λ k. fields_by k (layout_in (entries_before h) (class h))) is

pub fields-FrSE : (h : Here) → kind h ≡ FrSE → fields h ≡ Some element_fields
fields-FrSE h is = ap (λ k. fields_by k (layout_in (entries_before h) (class h))) is

pub fields-layout : (h : Here) → applies UnreadLayout (kind h) ≡ true
    → fields h ≡ layout_in (entries_before h) (class h)
fields-layout h applied = by (kind h) applied
  where
    by : (k : Kind) → applies UnreadLayout k ≡ true
        → fields_by k (layout_in (entries_before h) (class h)) ≡ layout_in (entries_before h) (class h)
    by FrameH e = refl
    by FrEndOfFrame e = refl
    by FrEndOfFile e = refl
    by Other e = refl
    by k e = absurd (true≢false (sym e))

-- the body's fault by its layout
pub body_fault-of : (h : Here) (fs : List Field) → fields h ≡ Some fs
    → body_fault h ≡ fault_of h.order fs (structure h).body
body_fault-of h fs is =
    ap (λ o. option_and_then (λ fields. fault_of h.order fields (structure h).body) o) is

-- the refusal of the entry that begins here
pub refusal-of : (h : Here) (entry : Entry) → kind h ≡ FrSH → entry_from h.order h.file (structure h) ≡ Some entry
    → refusal h ≡ err_of (step (entries_before h) entry)
refusal-of h entry is found =
    ap (λ k. refusal_by k h) is
    ∙ ap (λ o. option_and_then (λ (entry : Entry). err_of (step (entries_before h) entry)) o) found

-- a body without fault reads
pub reading-here : (h : Here) (fs : List Field) → layout_in (entries_before h) (class h) ≡ Some fs
    → fault_of h.order fs (structure h).body ≡ None → (r : Reading)
    × (reading_of h.order (entries_before h) (structure h) ≡ Some r)
reading-here h fs layout good =
    let read = reading-unless_fault h.order (structure h).body fs good in
    (read.0, ap (λ o. option_and_then (reading_by h.order (structure h).body) o) layout ∙ read.1)

-- one without layout or with a fault does not
pub unread-no_layout : (h : Here) → layout_in (entries_before h) (class h) ≡ None
    → reading_of h.order (entries_before h) (structure h) ≡ None
unread-no_layout h layout = ap (λ o. option_and_then (reading_by h.order (structure h).body) o) layout

pub unread-here : (h : Here) (fs : List Field) (f : BodyFault) → layout_in (entries_before h) (class h) ≡ Some fs
    → fault_of h.order fs (structure h).body ≡ Some f → reading_of h.order (entries_before h) (structure h) ≡ None
unread-here h fs f layout fault =
    ap (λ o. option_and_then (reading_by h.order (structure h).body) o) layout
    ∙ unread-fault h.order (structure h).body fs f fault
