-- The tests of the reasons where the kind is known.
use Rattle.std.proofs.Common.{◌≡◌, ℕ, ◌+◌, Bool, true, false, cond, not, ◌&&◌, ◌||◌, is_none, List, ◌∷◌, Some, None}
use Rattle.std.proofs.Common.{refl, ap, ◌∙◌}
use Rattle.std.specs.Prelude.{◌==◌, nat_lt, nat_le, codes}
use Rattle.std.specs.Option.{option_map_or}
use Rattle.std.proofs.lemmas.Bool.{cond-true}
use Rattle.dictionary.specs.Dictionary.{entry_of}
use Rattle.file_grammar.specs.declared.reason.Reason.{Reason}
use Rattle.file_grammar.specs.declared.reason.Reason.TheVariants.{NoLayout, UnreadLayout, InstanceTwice, FrameHTwice}
use Rattle.file_grammar.specs.declared.reason.Reason.TheVariants.{NoFrameH, LooseLink, OpenFrame, BadClosing}
use Rattle.file_grammar.specs.declared.reason.Reason.TheVariants.{AfterTable}
use Rattle.file_grammar.specs.declared.reason.Reason.TheVariants.{FrameCount, ByteCount, FileLimit, FramesLimit}
use Rattle.file_grammar.specs.declared.kind.Kind.TheVariants.{Other}
use Rattle.file_grammar.specs.Structure.{end_of, file_limit}
use Rattle.file_grammar.specs.Kind.{is_frame_kind, is_table_kind, is_target_kind, is_header_kind, is_end_kind}
use Rattle.file_grammar.specs.Kind.{is_closing_kind, is_file_end_kind}
use Rattle.file_grammar.specs.Record.{first_loose}
use Rattle.file_grammar.specs.Closing.{closes, field_named}
use Rattle.file_grammar.specs.MayStand.{frames_limit}
use Rattle.file_grammar.specs.Fault.{Here, Spot, place, length_there, entries_before, class, kind, structure, elements}
use Rattle.file_grammar.specs.Fault.{number, fields}
use Rattle.file_grammar.specs.Fault.{here, here_at, has_twin, has_header, is_empty, fault_spot, fault_at, first_of}
use Rattle.file_grammar.proofs.Classes.{layout-Other}

-- a reason that is a test holds, or the first of the others is asked for
pub first_of-test : (reason : Reason) (rs : List Reason) (h : Here) (test : Bool) → fault_spot reason h ≡ here h test
    → first_of (reason ∷ rs) h ≡ cond test (Some (fault_at reason (place h, 0))) (first_of rs h)
first_of-test reason rs h test is =
    ap (λ o. option_map_or (λ (spot : Spot). Some (fault_at reason spot)) o (first_of rs h)) is ∙ by test
  where
    by : (b : Bool) → option_map_or (λ (spot : Spot). Some (fault_at reason spot)) (here h b) (first_of rs h)
        ≡ cond b (Some (fault_at reason (place h, 0))) (first_of rs h)
    by true = refl
    by false = refl

pub first_of-test_at : (reason : Reason) (rs : List Reason) (h : Here) (field : ℕ) (test : Bool)
    → fault_spot reason h ≡ here_at h field test
    → first_of (reason ∷ rs) h ≡ cond test (Some (fault_at reason (place h, field))) (first_of rs h)
first_of-test_at reason rs h field test is =
    ap (λ o. option_map_or (λ (spot : Spot). Some (fault_at reason spot)) o (first_of rs h)) is ∙ by test
  where
    by : (b : Bool) → option_map_or (λ (spot : Spot). Some (fault_at reason spot)) (here_at h field b) (first_of rs h)
        ≡ cond b (Some (fault_at reason (place h, field))) (first_of rs h)
    by true = refl
    by false = refl

-- a test of the kind that holds leaves the other test
leaves : (a b : Bool) → a ≡ true → (a && b) ≡ b
leaves a b is = λ i. is i && b

-- ---- the tests

pub test-NoLayout : (h : Here) → kind h ≡ Other
    → fault_spot NoLayout h ≡ here h (is_none (entry_of (entries_before h) (class h)))
test-NoLayout h is = ap (here h) (layout-Other (entries_before h) (class h) is)

pub test-UnreadLayout : (h : Here) → is_table_kind (kind h) ≡ false
    → fault_spot UnreadLayout h ≡ here h (is_none (fields h))
test-UnreadLayout h is = ap (here h) (leaves (not (is_table_kind (kind h))) (is_none (fields h)) (ap not is))

pub test-InstanceTwice : (h : Here) → is_target_kind (kind h) ≡ true
    → fault_spot InstanceTwice h ≡ here h (has_twin h.before.frame (structure h))
test-InstanceTwice h is = ap (here h) (leaves (is_target_kind (kind h)) (has_twin h.before.frame (structure h)) is)

pub test-FrameHTwice : (h : Here) → is_header_kind (kind h) ≡ true
    → fault_spot FrameHTwice h ≡ here h (has_header (entries_before h) h.before.frame)
test-FrameHTwice h is = ap (here h) (leaves (is_header_kind (kind h)) (has_header (entries_before h) h.before.frame) is)

pub test-NoFrameH : (h : Here) → is_end_kind (kind h) ≡ true
    → fault_spot NoFrameH h ≡ here h (not (has_header (entries_before h) h.before.frame))
test-NoFrameH h is = ap (here h) (leaves (is_end_kind (kind h)) (not (has_header (entries_before h) h.before.frame)) is)

pub test-LooseLink : (h : Here) → is_end_kind (kind h) ≡ true
    → fault_spot LooseLink h ≡ first_loose h.order (entries_before h) h.before.frame h.before.frame
test-LooseLink h is = cond-true (is_end_kind (kind h))
    (first_loose h.order (entries_before h) h.before.frame h.before.frame) None is

pub test-OpenFrame : (h : Here) → is_closing_kind (kind h) ≡ true
    → fault_spot OpenFrame h ≡ here h (not (is_empty h.before.frame))
test-OpenFrame h is = ap (here h) (leaves (is_closing_kind (kind h)) (not (is_empty h.before.frame)) is)

pub test-BadClosing : (h : Here) → is_file_end_kind (kind h) ≡ true
    → fault_spot BadClosing h ≡ here h (not (closes (elements h)))
test-BadClosing h is = ap (here h) (leaves (is_file_end_kind (kind h)) (not (closes (elements h))) is)

pub test-AfterTable : (h : Here) → (is_frame_kind (kind h) || is_table_kind (kind h)) ≡ true
    → fault_spot AfterTable h ≡ here h h.before.table
test-AfterTable h is = ap (here h) (by h.before.table (is_frame_kind (kind h) || is_table_kind (kind h)) is)
  where
    by : (a b : Bool) → b ≡ true → (a && b) ≡ a
    by true b e = e
    by false b e = refl

pub test-FrameCount : (h : Here) → is_file_end_kind (kind h) ≡ true
    → fault_spot FrameCount h ≡ here_at h (field_named (elements h) (codes "nFrames"))
    (not (number h (codes "nFrames") == h.before.frames))
test-FrameCount h is =
    ap (here_at h (field_named (elements h) (codes "nFrames")))
    (leaves (is_file_end_kind (kind h)) (not (number h (codes "nFrames") == h.before.frames)) is)

pub test-ByteCount : (h : Here) → is_file_end_kind (kind h) ≡ true
    → fault_spot ByteCount h ≡ here_at h (field_named (elements h) (codes "nBytes"))
    (not (number h (codes "nBytes") == 0 || number h (codes "nBytes") == end_of (structure h)))
test-ByteCount h is =
    ap (here_at h (field_named (elements h) (codes "nBytes")))
    (leaves (is_file_end_kind (kind h))
    (not (number h (codes "nBytes") == 0 || number h (codes "nBytes") == end_of (structure h))) is)

pub test-FileLimit : (h : Here) → fault_spot FileLimit h ≡ here h (nat_lt file_limit (place h + length_there h))
test-FileLimit h = refl

pub test-FramesLimit : (h : Here) → is_end_kind (kind h) ≡ true
    → fault_spot FramesLimit h ≡ here h (nat_le frames_limit h.before.frames)
test-FramesLimit h is = ap (here h) (leaves (is_end_kind (kind h)) (nat_le frames_limit h.before.frames) is)
