-- Which reasons may hold of a whole structure of a kind.
use Rattle.std.proofs.Common.{◌≡◌, ℕ, Bool, true, false, not, ◌&&◌, ◌||◌, cond, is_none, List, Option, Some, None, refl}
use Rattle.std.proofs.Common.{ap, subst, true≢false}
use Rattle.std.specs.Prelude.{◌==◌, option_and_then}
use Rattle.std.specs.Option.{option_map_or}
use Rattle.std.proofs.lemmas.Bool.{cond-false, eqb-true, le-ltb, or_from, and_left, and_right}
use Rattle.dictionary.specs.declared.entries.Entry.{Entry}
use Rattle.dictionary.specs.declared.held.AddFault.TheVariants as add
use Rattle.dictionary.specs.Dictionary.{entry_of}
use Rattle.layout_plan.specs.declared.fields.Field.{Field}
use Rattle.layout_plan.specs.declared.faults.BodyReason.TheVariants as body
use Rattle.layout_plan.specs.Reading.{fault_of}
use Rattle.file_grammar.specs.declared.reason.Reason.{Reason}
use Rattle.file_grammar.specs.declared.reason.Reason.TheVariants.{CutRecord, LengthSmall, RecordLimit, FrameLimit}
use Rattle.file_grammar.specs.declared.reason.Reason.TheVariants.{NoLayout, UnreadLayout, BodyShort, BodyLong, BadText}
use Rattle.file_grammar.specs.declared.reason.Reason.TheVariants.{StrayElement, ClassRange, Redefined, NameTwice}
use Rattle.file_grammar.specs.declared.reason.Reason.TheVariants.{ElementLimit, InstanceTwice, FrameHTwice, NoFrameH}
use Rattle.file_grammar.specs.declared.reason.Reason.TheVariants.{LooseLink, OpenFrame, BadClosing, AfterTable}
use Rattle.file_grammar.specs.declared.reason.Reason.TheVariants.{FrameCount, ByteCount, FileLimit, FramesLimit}
use Rattle.file_grammar.specs.declared.kind.Kind.{Kind}
use Rattle.file_grammar.specs.declared.kind.Kind.TheVariants.{FrSH, FrSE, FrameH, FrEndOfFrame, FrTOC, FrEndOfFile}
use Rattle.file_grammar.specs.declared.kind.Kind.TheVariants.{Other}
use Rattle.file_grammar.specs.Structure.{record_limit}
use Rattle.file_grammar.specs.Kind.{kind_of, kind_named, is_frame_kind, is_target_kind, is_closing_kind, is_header_kind}
use Rattle.file_grammar.specs.Kind.{is_end_kind, is_table_kind, is_file_end_kind}
use Rattle.file_grammar.specs.Record.{layout_in}
use Rattle.file_grammar.specs.Fault.{Here, bytes_there, length_there, entries_before, class, kind, structure, fields_by}
use Rattle.file_grammar.specs.Fault.{refusal_by, body_fault}
use Rattle.file_grammar.specs.Fault.{here, here_at, same_reason, same_refusal, fault_spot}
use Rattle.file_grammar.proofs.Lengths.{is_uncut, Fits}

-- whether a reason may hold of a whole structure of a kind
abbrev pub applies : Reason → Kind → Bool
applies RecordLimit kind = is_frame_kind kind
applies FrameLimit kind = is_frame_kind kind
applies NoLayout Other = true
applies UnreadLayout FrameH = true
applies UnreadLayout FrEndOfFrame = true
applies UnreadLayout FrEndOfFile = true
applies UnreadLayout Other = true
applies BodyShort kind = not (is_table_kind kind)
applies BodyLong kind = not (is_table_kind kind)
applies BadText kind = not (is_table_kind kind)
applies StrayElement FrSE = true
applies ClassRange FrSH = true
applies Redefined FrSH = true
applies NameTwice FrSH = true
applies ElementLimit FrSH = true
applies InstanceTwice kind = is_target_kind kind
applies FrameHTwice kind = is_header_kind kind
applies NoFrameH kind = is_end_kind kind
applies LooseLink kind = is_end_kind kind
applies OpenFrame kind = is_closing_kind kind
applies BadClosing kind = is_file_end_kind kind
applies AfterTable kind = is_frame_kind kind || is_table_kind kind
applies FrameCount kind = is_file_end_kind kind
applies ByteCount kind = is_file_end_kind kind
applies FileLimit kind = true
applies FramesLimit kind = is_end_kind kind
applies reason kind = false

-- a class that is of a kind of its own is held
pub layout-unapplied : (one two : Bool) (found : Option Entry)
    → applies NoLayout (cond one FrSH (cond two FrSE (option_map_or (λ e. kind_named e.name) found Other))) ≡ false
    → (not (one || two) && is_none found) ≡ false
layout-unapplied true two found e = refl
layout-unapplied false true found e = refl
layout-unapplied false false (Some x) e = refl
layout-unapplied false false None e = absurd (true≢false e)

stray-unapplied : (entries_before : List Entry) (class : ℕ)
    → applies StrayElement (kind_of entries_before class) ≡ false
    → (class == 2) ≡ false
stray-unapplied entries_before class e = by (class == 2) refl
  where
    by : (b : Bool) → (class == 2) ≡ b → (class == 2) ≡ false
    by false is = is
    by true is =
        absurd (true≢false (subst (λ c. applies StrayElement (kind_of entries_before c) ≡ false)
        (eqb-true class 2 is) e))

unread-unapplied : (k : Kind) (found : Option (List Field)) → applies UnreadLayout k ≡ false
    → (not (is_table_kind k) && is_none (fields_by k found)) ≡ false
unread-unapplied FrSH found e = refl
unread-unapplied FrSE found e = refl
unread-unapplied FrTOC found e = refl
unread-unapplied k found e = absurd (true≢false e)

no-fields : (k : Kind) (found : Option (List Field)) → not (is_table_kind k) ≡ false → fields_by k found ≡ None
no-fields FrTOC found e = refl
no-fields k found e = absurd (true≢false e)

no-refusal : (k : Kind) (h : Here) → applies ClassRange k ≡ false → refusal_by k h ≡ None
no-refusal FrSH h e = absurd (true≢false e)
no-refusal k h e = refl

no-body_fault : (h : Here) → not (is_table_kind (kind h)) ≡ false → body_fault h ≡ None
no-body_fault h e =
    ap (λ o. option_and_then (λ fields. fault_of h.order fields (structure h).body) o)
    (no-fields (kind h) (layout_in (entries_before h) (class h)) e)

-- A reason that does not apply to the kind of a whole structure does not hold of it.
pub unapplied : (h : Here) → Fits (bytes_there h) (length_there h) → (reason : Reason) → applies reason (kind h) ≡ false
    → fault_spot reason h ≡ None
unapplied h fits CutRecord e =
    ap (here h) (is_uncut (bytes_there h) (length_there h) record_limit fits.head (λ more small. fits.whole))
unapplied h fits LengthSmall e = ap (here h) (le-ltb (length_there h) 14 fits.enough)
unapplied h fits RecordLimit e =
    ap (here h) (or_from _ _ (le-ltb record_limit (length_there h) fits.small) (and_left _ _ e))
unapplied h fits FrameLimit e = ap (here h) (and_left _ _ e)
unapplied h fits NoLayout e =
    ap (here h) (layout-unapplied (class h == 1) (class h == 2) (entry_of (entries_before h) (class h)) e)
unapplied h fits UnreadLayout e =
    ap (here h) (unread-unapplied (kind h) (layout_in (entries_before h) (class h)) e)
unapplied h fits BodyShort e =
    ap (option_and_then (λ f. here_at h f.field (same_reason f.reason body.BodyShort))) (no-body_fault h e)
unapplied h fits BodyLong e =
    ap (option_and_then (λ f. here_at h f.field (same_reason f.reason body.BodyLong))) (no-body_fault h e)
unapplied h fits BadText e =
    ap (option_and_then (λ f. here_at h f.field (same_reason f.reason body.BadText))) (no-body_fault h e)
unapplied h fits StrayElement e = ap (here h) (stray-unapplied (entries_before h) (class h) e)
unapplied h fits ClassRange e =
    ap (option_and_then (λ f. here h (same_refusal f add.ClassRange))) (no-refusal (kind h) h e)
unapplied h fits Redefined e =
    ap (option_and_then (λ f. here h (same_refusal f add.Redefined))) (no-refusal (kind h) h e)
unapplied h fits NameTwice e =
    ap (option_and_then (λ f. here h (same_refusal f add.NameTwice))) (no-refusal (kind h) h e)
unapplied h fits ElementLimit e =
    ap (option_and_then (λ f. here h (same_refusal f add.ElementLimit))) (no-refusal (kind h) h e)
unapplied h fits InstanceTwice e = ap (here h) (and_left _ _ e)
unapplied h fits FrameHTwice e = ap (here h) (and_left _ _ e)
unapplied h fits NoFrameH e = ap (here h) (and_left _ _ e)
unapplied h fits LooseLink e =
    cond-false _ _ _ e
unapplied h fits OpenFrame e = ap (here h) (and_left _ _ e)
unapplied h fits BadClosing e = ap (here h) (and_left _ _ e)
unapplied h fits AfterTable e = ap (here h) (and_right h.before.table _ e)
unapplied h fits FrameCount e = ap (here_at h _) (and_left _ _ e)
unapplied h fits ByteCount e = ap (here_at h _) (and_left _ _ e)
unapplied h fits FileLimit e = absurd (true≢false e)
unapplied h fits FramesLimit e = ap (here h) (and_left _ _ e)
unapplied h fits reason e = refl
