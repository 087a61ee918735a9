-- The reasons of a record beside those of its frame, and of the frame's end, where those before them do not
-- hold.
use Rattle.std.proofs.Common.{◌≡◌, ◌<◌, ◌≤◌, true, false, not, cond, [], ◌∷◌, ◌++◌, Some, None, refl, sym}
use Rattle.std.proofs.Common.{ap, ◌∙◌}
use Rattle.std.specs.Prelude.{nat_le}
use Rattle.std.proofs.lemmas.Bool.{le-leb, lt-leb, and_left, and_right}
use Rattle.file_grammar.specs.declared.reason.Reason.TheVariants.{FrameHTwice, NoFrameH, LooseLink}
use Rattle.file_grammar.specs.declared.reason.Reason.TheVariants.{FramesLimit}
use Rattle.file_grammar.specs.declared.fault.Fault.{Fault}
use Rattle.file_grammar.specs.declared.kind.Kind.{Kind}
use Rattle.file_grammar.specs.declared.kind.Kind.TheVariants.{FrSH, FrSE, FrameH, FrEndOfFrame}
use Rattle.file_grammar.specs.declared.kind.Kind.TheVariants.{FrTOC, FrEndOfFile, Other}
use Rattle.file_grammar.specs.Kind.{is_header_kind, is_end_kind}
use Rattle.file_grammar.specs.MayStand.{frames_limit}
use Rattle.file_grammar.specs.Record.{first_loose}
use Rattle.file_grammar.specs.Fault.{Here, place, entries_before, kind, here, has_header, fault_at, first_of}
use Rattle.file_grammar.proofs.Firsts.{first_of-passes}
use Rattle.file_grammar.proofs.Tests.{first_of-test, test-NoFrameH, test-LooseLink, test-FramesLimit}
use Rattle.item_reader.specs.declared.state.State.{State}
use Rattle.item_reader.specs.State.{IsSound, open_records, frame_of}
use Rattle.item_reader.specs.Judged.{place_reasons, later_record_reasons, frame_end_reasons}
use Rattle.item_reader.proofs.Parts.{first_of-front, first_of-back}

-- ---- the frame that is open

-- whether it has its header is kept
pub header-kept : (s : State) → IsSound s → s.numbering ≡ None
    → s.header ≡ has_header s.dictionary (frame_of s)
header-kept s sound unended =
    (sound.frame unended).header_is
    ∙ sym (ap (λ numbers. has_header s.dictionary (open_records numbers s.segment)) unended)

-- ---- a record beside those of its frame

-- only FrameH is a header
pub no-header_kind : (k : Kind) → (k ≡ FrameH → ⊥) → is_header_kind k ≡ false
no-header_kind FrameH other = absurd (other refl)
no-header_kind FrSH other = refl
no-header_kind FrSE other = refl
no-header_kind FrEndOfFrame other = refl
no-header_kind FrTOC other = refl
no-header_kind FrEndOfFile other = refl
no-header_kind Other other = refl

-- one that is no header
pub later-plain : (h : Here) → is_header_kind (kind h) ≡ false
    → first_of later_record_reasons h ≡ first_of place_reasons h
later-plain h plain =
    first_of-passes FrameHTwice place_reasons h
    (ap (here h) (and_left (is_header_kind (kind h)) (has_header (entries_before h) h.before.frame) plain))

-- one of a frame that has none
pub later-first : (h : Here) → has_header (entries_before h) h.before.frame ≡ false
    → first_of later_record_reasons h ≡ first_of place_reasons h
later-first h first =
    first_of-passes FrameHTwice place_reasons h
    (ap (here h) (and_right (is_header_kind (kind h)) (has_header (entries_before h) h.before.frame) first))

-- ---- the end of a frame

-- the frame has its header, and each link leads somewhere
pub end-linked : (h : Here) → is_end_kind (kind h) ≡ true → has_header (entries_before h) h.before.frame ≡ true
    → first_loose h.order (entries_before h) h.before.frame h.before.frame ≡ None
    → first_of frame_end_reasons h ≡ first_of (place_reasons ++ FramesLimit ∷ []) h
end-linked h ends header linked =
    first_of-passes NoFrameH (LooseLink ∷ place_reasons ++ FramesLimit ∷ []) h (test-NoFrameH h ends
    ∙ ap (λ b. here h (not b)) header)
    ∙ first_of-passes LooseLink (place_reasons ++ FramesLimit ∷ []) h (test-LooseLink h ends ∙ linked)

-- there it may not stand
pub end-misplaced : (h : Here) (f : Fault)
    → first_of frame_end_reasons h ≡ first_of (place_reasons ++ FramesLimit ∷ []) h
    → first_of place_reasons h ≡ Some f → first_of frame_end_reasons h ≡ Some f
end-misplaced h f linked fault = linked ∙ first_of-front place_reasons (FramesLimit ∷ []) h f fault

-- as many frames have ended as a file may have
pub end-full : (h : Here) → is_end_kind (kind h) ≡ true
    → first_of frame_end_reasons h ≡ first_of (place_reasons ++ FramesLimit ∷ []) h
    → first_of place_reasons h ≡ None
    → frames_limit ≤ h.before.frames → first_of frame_end_reasons h ≡ Some (fault_at FramesLimit (place h, 0))
end-full h ends linked placed full =
    linked
    ∙ first_of-back place_reasons (FramesLimit ∷ []) h placed
    ∙ first_of-test FramesLimit [] h (nat_le frames_limit h.before.frames) (test-FramesLimit h ends)
    ∙ ap (λ b. cond b (Some (fault_at FramesLimit (place h, 0))) None)
    (le-leb frames_limit h.before.frames full)

-- fewer have, and the frame ends
pub end-stands : (h : Here) → is_end_kind (kind h) ≡ true
    → first_of frame_end_reasons h ≡ first_of (place_reasons ++ FramesLimit ∷ []) h
    → first_of place_reasons h ≡ None
    → h.before.frames < frames_limit → first_of frame_end_reasons h ≡ None
end-stands h ends linked placed few =
    linked
    ∙ first_of-back place_reasons (FramesLimit ∷ []) h placed
    ∙ first_of-test FramesLimit [] h (nat_le frames_limit h.before.frames) (test-FramesLimit h ends)
    ∙ ap (λ b. cond b (Some (fault_at FramesLimit (place h, 0))) None)
    (lt-leb frames_limit h.before.frames few)
