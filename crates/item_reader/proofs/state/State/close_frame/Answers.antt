use Rattle.std.proofs.Common.{◌≡◌, ◌++◌, ◌∷◌, [], ℕ, List, Some, None, true, sym, ap, ◌∙◌, subst, length}
use Rattle.std.proofs.lemmas.List.{length-map}
use Rattle.type_text.specs.declared.types.Link.{Link}
use Rattle.file_grammar.specs.declared.reason.Reason.TheVariants.{FramesLimit}
use Rattle.file_grammar.specs.declared.kind.Kind.TheVariants.{FrEndOfFrame}
use Rattle.link_graph.specs.Graph.{links_of, first_loose as first_loose_of}
use Rattle.file_grammar.specs.Kind.{kind_of, is_end_kind}
use Rattle.file_grammar.specs.Fault.{kind, first_of}
use Rattle.file_grammar.specs.Record.{first_loose}
use Rattle.item_reader.specs.declared.state.State.{State}
use Rattle.item_reader.specs.declared.structure.Placed.{Placed}
use Rattle.item_reader.specs.Judged.{InEachFile, place_reasons, frame_end_reasons}
use Rattle.item_reader.specs.State.{IsSound, open_records, here_in}
use Rattle.item_reader.proofs.Located.{class-here}
use Rattle.item_reader.proofs.FrameLinks.{none-loose}
use Rattle.item_reader.proofs.FrameParts.{header-kept, end-linked, end-misplaced, end-full, end-stands}
use Rattle.item_reader.proofs.state.State.close_frame.Goals as goal

-- an open frame with a header, whose segment has no loose link
linked-end : (s : State) → IsSound s → s.numbering ≡ None → s.header ≡ true
    → first_loose_of s.plans s.segment ≡ None → (p : Placed) → kind_of s.dictionary p.class ≡ FrEndOfFrame
    → (body : List ℕ)
    → InEachFile s p body (λ h. (is_end_kind (kind h) ≡ true)
    × (first_of frame_end_reasons h ≡ first_of (place_reasons ++ FramesLimit ∷ []) h))
linked-end s sound unended header linked p kind_is body file stands =
    let h = here_in s file in
    let ends : is_end_kind (kind h) ≡ true =
    ap is_end_kind (ap (kind_of s.dictionary) (class-here h p stands.placed) ∙ kind_is) in (
      ends,
      end-linked h ends
          (sym (header-kept s sound unended) ∙ header)
          (ap (λ numbers. first_loose s.segment.order s.dictionary (open_records numbers s.segment)
          (open_records numbers s.segment)) unended
          ∙ none-loose s.plans s.segment.order s.dictionary s.segment.nodes sound.plans linked),
    )

pub close-requires : goal.close-requires
close-requires c =
    let s = c.args.self.now in
    ap (λ (rows : List (List Link)). length rows) c.requires.rows
    ∙ length-map s.segment.nodes (links_of s.plans s.segment.order)

pub returns-in-Some-clause-fault : goal.returns-in-Some-clause-fault
returns-in-Some-clause-fault c = λ body fault is file stands.
    let s = c.args.self.now in
    let h = here_in s file in
    let end = linked-end s c.requires.sound c.requires.«open» c.if-not-self.false
    (c.in-Ok.ensures.linked s.plans c.requires.rows) c.args.placed c.requires.kind body file stands in
    let same : c.in-Some.fault ≡ fault = cc in
    end-misplaced h fault end.1
    (c.place_fault-later.ensures.fault body file stands ∙ c.in-Some.is ∙ ap Some same)

pub returns-then-self-ge-FRAMES_LIMIT-clause-fault :
    goal.returns-then-self-ge-FRAMES_LIMIT-clause-fault
returns-then-self-ge-FRAMES_LIMIT-clause-fault c = λ body fault is file stands.
    let s = c.args.self.now in
    let h = here_in s file in
    let end = linked-end s c.requires.sound c.requires.«open» c.if-not-self.false
    (c.in-Ok.ensures.linked s.plans c.requires.rows) c.args.placed c.requires.kind body file stands in
    let same : c.fault-then-self-ge-FRAMES_LIMIT.result ≡ fault = cc in
    end-full h end.0 end.1 (c.place_fault-later.ensures.fault body file stands ∙ c.in_default.is)
    c.if-self-ge-FRAMES_LIMIT.true
    ∙ ap Some (sym c.fault-then-self-ge-FRAMES_LIMIT.ensures ∙ same)

pub returns-clause-none : goal.returns-clause-none
returns-clause-none c = λ body file stands.
    let s = c.args.self.now in
    let h = here_in s file in
    let end = linked-end s c.requires.sound c.requires.«open» c.if-not-self.false
    (c.in-Ok.ensures.linked s.plans c.requires.rows) c.args.placed c.requires.kind body file stands in
    end-stands h end.0 end.1 (c.place_fault-later.ensures.fault body file stands ∙ c.in_default.is)
    c.if-self-ge-FRAMES_LIMIT.false
