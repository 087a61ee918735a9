-- A file of bytes is copied whole where it is well-formed, and else up to its first fault.
use Rattle.std.proofs.Common.{◌≡◌, ◌≤◌, ℕ, Bool, if◌then◌else◌, List, [], ◌∷◌, length}
use Rattle.std.proofs.Common.{Option, Some, None, Ok, Err, inl, inr, refl, sym, ap, subst, ◌∙◌, arith}
use Rattle.std.proofs.Common.{length-append}
use Rattle.std.proofs.lemmas.Bool.{le-ltb}
use Rattle.std.specs.List.{AllZip}
use Rattle.file_grammar.specs.declared.fault.Fault.{Fault}
use Rattle.file_grammar.specs.Structure.{file_limit}
use Rattle.frame_content.specs.Frames.{Frame}
use Rattle.canonical_file.specs.declared.closing.Closing.{Closing}
use Rattle.canonical_file.specs.Ranges.{AreBytes}
use Rattle.canonical_file.specs.Ordered.{IsInOrder}
use Rattle.canonical_file.specs.Written.{header_alone, after_frames, canonical_head, closing_part, canonical_file}
use Rattle.canonical_file.specs.Contents.{Content}
use Rattle.canonical_laws.specs.Content.{HasContent}
use Rattle.canonical_writer.specs.declared.errors.WriteError.TheVariants as error
use Rattle.canonical_writer.specs.Writer.{size_with, closing_due}
use Rattle.frame_reader.specs.Gives.{Breaks, Gives}
use Rattle.frame_reader.specs.Given.{AreFirst}
use Rattle.splicer.specs.Due.{Passes, course, Due, Writes, closed_due, Next, IsDueAtEnd}
use Rattle.splicer.specs.Due.{IsDueOfHeld, output_of, is_whole}
use Rattle.splicer.specs.Laws.{CopiesAreDone, CopiesNameFaults}
use Rattle.splicer.proofs.Copies.{file-size}
use Rattle.splicer.proofs.Dues.{due-next, due-faulty}
use Rattle.splicer.proofs.OwnFrames.{own-pass}

-- what comes after the one input
abbrev at-end : Next
at-end closing stood due = IsDueAtEnd closing stood due

-- what is due of a file that is held is due of just that file
of-held : (held : Option (List ℕ)) (file : List ℕ) (due : Due) → held ≡ Some file
    → IsDueOfHeld held None [] 0 at-end due → IsDueOfHeld (Some file) None [] 0 at-end due
of-held held file due is due_is =
    let P : Option (List ℕ) → Type 0 = λ h. IsDueOfHeld h None [] 0 at-end due in subst P is due_is

-- ---- well-formed files

-- all frames of a well-formed file are first ones
pub all-first : (file : List ℕ) (c : Content) (ordered : List Frame) (has : HasContent file c)
    → AllZip IsInOrder c.frames ordered → AreFirst file ordered
all-first file c ordered has in_order = record {
  order = has.order;
  items = has.items;
  last = has.last;
  begins = has.well_formed.begins;
  in_order = subst (λ (d : Content). AllZip IsInOrder d.frames ordered) has.is in_order;
}

-- a closing is taken where the whole file is within the limit
closing-taken : (closing : Closing) (frames : List Frame) → length (canonical_file closing frames) ≤ file_limit
    → closed_due (closing_due (after_frames header_alone frames) closing) closing frames ≡ Writes closing frames
closing-taken closing frames short =
    let size : ℕ = size_with (after_frames header_alone frames) closing in
    ap (λ (long : Bool). closed_due (if long then Err error.OutputLimit
    else Ok (record { frames = (after_frames header_alone frames).frames; bytes = size })) closing frames)
    (le-ltb file_limit size (subst (λ n. n ≤ file_limit) (file-size closing frames) short))

-- A well-formed file is due to be copied whole, within the limit of files.
pub copies-done : CopiesAreDone
copies-done files name file c bytes due held has canonical short is =
    (ap output_of writes ∙ sym canonical.is, ap is_whole writes)
  where
    ordered : List Frame
    ordered = canonical.ordered

    whole : length (canonical_file c.closing ordered) ≤ file_limit
    whole = subst (λ xs. length xs ≤ file_limit) canonical.is short

    head : length (canonical_head ordered) ≤ file_limit
    head =
        omega (
          arith,
          whole,
          length-append (canonical_head ordered) (closing_part (after_frames header_alone ordered) c.closing),
        )

    passes : course None [] ordered ≡ Passes ordered
    passes = own-pass file ordered (is.bytes name file held) (all-first file c ordered has canonical.in_order) head

    writes : due ≡ Writes c.closing ordered
    writes =
        due-next file None [] c.frames ordered ordered c.closing 0 at-end due has canonical.in_order passes
        (of-held (files name) file due held is.from)
        ∙ closing-taken c.closing ordered whole

-- ---- files that are not

-- the frames before a fault pass
before-fault : (file : List ℕ) (frames ordered : List Frame) (fault : Fault) → AreBytes file
    → Gives file frames (Breaks fault) → AllZip IsInOrder frames ordered
    → length (canonical_head ordered) ≤ file_limit → course None [] ordered ≡ Passes ordered
before-fault file frames ordered fault bytes (inl none) in_order short =
    none-pass ordered (subst (λ fs. AllZip IsInOrder fs ordered) none.0 in_order)
  where
    none-pass : (os : List Frame) → AllZip IsInOrder [] os → course None [] os ≡ Passes os
    none-pass [] all = refl
    none-pass (o ∷ os) all = absurd all
before-fault file frames ordered fault bytes (inr until) in_order short =
    own-pass file ordered bytes (record {
      order = until.is_fault.order;
      items = until.is_fault.items;
      last = until.is_fault.last;
      begins = until.is_fault.begins;
      in_order = subst (λ fs. AllZip IsInOrder fs ordered) until.frames_are in_order;
    }) short

-- Of a file that is not well-formed the first fault is due, after the frames before it.
pub copies-name-faults : CopiesNameFaults
copies-name-faults files name file fault frames ordered due held gives in_order short is =
    due-faulty file None [] frames ordered ordered fault 0 at-end due gives in_order
    (before-fault file frames ordered fault (is.bytes name file held) gives in_order short)
    (of-held (files name) file due held is.from)
