-- What a copy writes is the canonical file of its source's content.
use Rattle.std.proofs.Common.{◌≡◌, ◌≤◌, ◌+◌, ℕ, nat_lt, true, false, Bool, if◌then◌else◌, length-append, List, []}
use Rattle.std.proofs.Common.{◌∷◌, length, Option, Some, None, Ok, Err, refl, sym, ap, subst, ◌∙◌}
use Rattle.std.specs.List.{AllZip}
use Rattle.frame_outside.specs.Shelf.{Files}
use Rattle.file_grammar.specs.Structure.{file_limit}
use Rattle.frame_content.specs.Frames.{Frame}
use Rattle.canonical_file.specs.declared.closing.Closing.{Closing}
use Rattle.canonical_file.specs.Ordered.{IsInOrder}
use Rattle.canonical_file.specs.Written.{header_alone, after_frames, canonical_head, closing_part, canonical_file}
use Rattle.canonical_file.specs.Contents.{Content, IsCanonical}
use Rattle.canonical_file.proofs.Sizes.{head-size}
use Rattle.canonical_laws.specs.Content.{HasContent}
use Rattle.canonical_writer.specs.declared.errors.WriteError.TheVariants as error
use Rattle.canonical_writer.specs.Writer.{size_with}
use Rattle.frame_reader.specs.Gives.{Ending, Closes, Breaks, Gives}
use Rattle.splicer.specs.Due.{Course, Passes, Refuses, course, Writes}
use Rattle.splicer.specs.Due.{closed_due, IsDueOfHeld, IsDueAfter, IsDue, IsDueAtEnd, Next}
use Rattle.canonical_laws.proofs.KeptContents.{kept_contents}
use Rattle.canonical_laws.proofs.TellingApart.{tells}
use Rattle.splicer.specs.Laws.{IsCopyOf, CopiesAreCanonical, CopiesTellContents}
use Rattle.std.proofs.lemmas.Bool.{ltb-false}
use Rattle.splicer.proofs.Courses.{passes-stood}

-- what follows the one input
abbrev at-end : Next
at-end closing stood due = IsDueAtEnd closing stood due

-- the bytes of a canonical file are those that were told before its closing part, and those of that
pub file-size : (closing : Closing) (frames : List Frame)
    → length (canonical_file closing frames) ≡ size_with (after_frames header_alone frames) closing
file-size closing frames =
    length-append (canonical_head frames) (closing_part (after_frames header_alone frames) closing)
    ∙ ap (λ n. n + length (closing_part (after_frames header_alone frames) closing)) (head-size frames)

-- what is due to be written whole at the end is the file of what is held and stands, which is within the limit
closed-writes : (long : Bool) (own closing : Closing) (stood frames : List Frame) → nat_lt file_limit
    (size_with (after_frames header_alone stood) own) ≡ long
    → Writes closing frames
    ≡ closed_due (if long then Err error.OutputLimit
    else Ok (record {
      frames = (after_frames header_alone stood).frames;
      bytes = size_with (after_frames header_alone stood) own;
    })) own stood
    → (closing ≡ own) × (frames ≡ stood) × (size_with (after_frames header_alone stood) own ≤ file_limit)
closed-writes true own closing stood frames long is = absurd cc
closed-writes false own closing stood frames long is = (cc, cc, ltb-false _ _ long)

-- a content has this canonical file, which is within the limit
record HasFile (file : List ℕ) (bytes : List ℕ) : Type 0 where
  content : Content
  has : HasContent file content
  canonical : IsCanonical content bytes
  short : length bytes ≤ file_limit

copied : (file : List ℕ) (closing : Closing) (frames given ordered : List Frame) (ending : Ending)
    → Gives file given ending → AllZip IsInOrder given ordered → (c : Course) → course None [] ordered ≡ c
    → IsDueAfter c ending None 0 at-end (Writes closing frames) → HasFile file (canonical_file closing frames)
copied file closing frames given ordered ending gives in_order (Refuses error stood) came is = absurd cc
copied file closing frames given ordered (Breaks fault) gives in_order (Passes stood) came is = absurd cc
copied file closing frames given ordered (Closes own) gives in_order (Passes stood) came is =
    let same = closed-writes
    (nat_lt file_limit (size_with (after_frames header_alone stood) own)) own closing stood frames
    refl is in
    let stood_is : stood ≡ ordered = passes-stood None [] ordered stood came in
    let file_is : canonical_file closing frames ≡ canonical_file own stood =
    λ i. canonical_file (same.0 i) (same.1 i) in
    record {
      content = record { closing = own; frames = given };
      has = gives;
      canonical = record { ordered = ordered; in_order = in_order; is = file_is ∙ ap (canonical_file own) stood_is };
      short = subst (λ bytes. length bytes ≤ file_limit) (sym file_is)
          (subst (λ n. n ≤ file_limit) (sym (file-size own stood)) same.2);
    }

-- the file that is held, and its copy
record HasCopy (files : Files) (name bytes : List ℕ) : Type 0 where
  file : List ℕ
  held : files name ≡ Some file
  copy : HasFile file bytes

has-copy : (files : Files) (name : List ℕ) (closing : Closing) (frames : List Frame)
    → IsDue files (name ∷ []) (Writes closing frames) → HasCopy files name (canonical_file closing frames)
has-copy files name closing frames due = by (files name) refl due.from
  where
    by : (held : Option (List ℕ)) → files name ≡ held
        → IsDueOfHeld held None [] 0 at-end (Writes closing frames)
        → HasCopy files name (canonical_file closing frames)
    by None told is = absurd cc
    by (Some file) told is = record {
      file = file;
      held = told;
      copy = copied file closing frames is.frames is.ordered is.ending is.gives is.in_order
          (course None [] is.ordered) refl is.is;
    }

copy-of : (files : Files) (name bytes : List ℕ) (has : HasCopy files name bytes)
    → IsCopyOf files name has.copy.content bytes
copy-of files name bytes has = record {
  file = has.file;
  held = has.held;
  content = has.copy.has;
  canonical = has.copy.canonical;
}

pub copies-canonical : CopiesAreCanonical
copies-canonical files name closing frames due =
    let has = has-copy files name closing frames due in
    (has.copy.content, copy-of files name (canonical_file closing frames) has)

pub copies-tell : CopiesTellContents
copies-tell files others name other closing end frames ends due also =
    let one = has-copy files name closing frames due in
    let two = has-copy others other end ends also in (
      one.copy.content,
      two.copy.content,
      copy-of files name (canonical_file closing frames) one,
      copy-of others other (canonical_file end ends) two,
      tells kept_contents one.file two.file (canonical_file closing frames) (canonical_file end ends) one.copy.content
          two.copy.content (due.bytes name one.file one.held) (also.bytes other two.file two.held) one.copy.has
          two.copy.has one.copy.canonical two.copy.canonical one.copy.short two.copy.short,
    )
