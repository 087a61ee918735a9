-- Of a comparison one answer is due, and it is that the files are the same exactly where their contents are.
use Rattle.std.proofs.Common.{◌≡◌, ◌↔◌, ◌<◌, ◌≤◌, ℕ, zero, suc, ◌⊎◌, inl, inr, List, All, Option, Some, None, Ok, Err}
use Rattle.std.proofs.Common.{refl, sym, ap, subst, ◌∙◌, arith}
use Rattle.std.proofs.lemmas.Bool.{cases_lt}
use Rattle.std.specs.List.{AllZip}
use Rattle.dictionary.specs.declared.entries.Entry.{Entry}
use Rattle.dictionary.specs.Dictionary.{IsDictionary}
use Rattle.file_grammar.specs.declared.fault.Fault.{Fault}
use Rattle.file_grammar.proofs.OneAnswer.{not_both, faults_unique}
use Rattle.frame_content.specs.Frames.{Frame}
use Rattle.canonical_file.specs.declared.closing.Closing.{Closing}
use Rattle.canonical_file.specs.Ranges.{AreBytes}
use Rattle.canonical_file.specs.Contents.{Content, SameContent, IsFirstDifference}
use Rattle.canonical_file.specs.Ordered.{SameFrame}
use Rattle.canonical_laws.specs.Content.{HasContent}
use Rattle.canonical_laws.specs.Sources.{printed_entries, IsWritableInOrder}
use Rattle.canonical_laws.proofs.TellingApart.{one_content}
use Rattle.canonical_laws.proofs.Sources.{source_entries, source_frames}
use Rattle.frame_reader.specs.Gives.{Ending, Closes, Breaks, Gives}
use Rattle.frame_reader.proofs.FirstItems.{each-gives, fault_given}
use Rattle.content_compare.specs.declared.answers.Comparison.{Comparison}
use Rattle.content_compare.specs.declared.answers.Comparison.TheVariants.{Same, Different}
use Rattle.content_compare.specs.declared.answers.CompareError.TheVariants as error
use Rattle.content_compare.specs.Due.{Answer, IsComparison, IsDueBy, IsDueOf, IsDueOfHeld}
use Rattle.content_compare.specs.Laws.{EachComparisonHasADue, NoComparisonHasTwoDues, SameIsDueOfSameContents}
use Rattle.content_compare.proofs.SameClosings.{closings-decided}
use Rattle.content_compare.proofs.FirstDifferences.{same-nowhere, same-before, DifferFirst, frames-compared}

-- ---- one comparison of contents, and some

-- contents that are the same do not differ
not-different : (c d : Content) (place : ℕ) → SameContent c d → IsFirstDifference c d place → ⊥
not-different c d zero same differ = differ same.closing
not-different c d (suc k) same differ = same-nowhere c.frames d.frames k same.frames differ.2

-- contents that differ first at two places differ first at one
one_place : (c d : Content) (place other : ℕ) → IsFirstDifference c d place → IsFirstDifference c d other
    → place ≡ other
one_place c d zero zero left right = refl
one_place c d zero (suc n) left right = absurd (left right.0)
one_place c d (suc k) zero left right = absurd (right left.0)
one_place c d (suc k) (suc n) left right = by (cases_lt k n) (cases_lt n k)
  where
    by : (k < n) ⊎ (n ≤ k) → (n < k) ⊎ (k ≤ n) → suc k ≡ suc n
    by (inl less) more = absurd (same-before c.frames d.frames k n less right.1 left.2)
    by (inr most) (inl less) = absurd (same-before c.frames d.frames n k less left.1 right.2)
    by (inr most) (inr least) = omega (arith, most, least)

-- Of two contents one comparison holds.
pub one_comparison : (c d : Content) (x y : Comparison) → IsComparison c d x → IsComparison c d y → x ≡ y
one_comparison c d Same Same left right = refl
one_comparison c d Same (Different place) left right = absurd (not-different c d place left right)
one_comparison c d (Different place) Same left right = absurd (not-different c d place right left)
one_comparison c d (Different place) (Different other) left right =
    ap (λ (n : ℕ). Different n) (one_place c d place other left right)

-- the frames of a file of bytes can be written
content-written : (file : List ℕ) (c : Content) → AreBytes file → HasContent file c
    → (dictionary : List Entry) × IsDictionary dictionary × All (IsWritableInOrder dictionary) c.frames
content-written file c bytes has =
    let dictionary : List Entry = printed_entries has.last.dictionary in
    let begins = has.well_formed.begins in (
      dictionary,
      (source_entries file has.order has.items has.last bytes begins).dictionary,
      subst (λ (x : Content). All (IsWritableInOrder dictionary) x.frames) (sym has.is)
          (source_frames file has.order has.items has.last bytes begins),
    )

-- of files of bytes there is a comparison
a_comparison : (file second : List ℕ) (c d : Content) → AreBytes file → AreBytes second → HasContent file c
    → HasContent second d → (comparison : Comparison) × IsComparison c d comparison
a_comparison file second c d bytes also left right =
    let one = content-written file c bytes left in
    let two = content-written second d also right in
    by (closings-decided c.closing d.closing)
    (frames-compared one.0 two.0 c.frames d.frames one.1 two.1 one.2 two.2)
  where
    by : (c.closing ≡ d.closing) ⊎ (c.closing ≡ d.closing → ⊥)
        → AllZip SameFrame c.frames d.frames ⊎ DifferFirst c.frames d.frames
        → (comparison : Comparison) × IsComparison c d comparison
    by (inr differ) frames = (Different 0, differ)
    by (inl same) (inl frames) = (Same, record { closing = same; frames = frames })
    by (inl same) (inr (k, before, differ)) = (Different (suc k), (same, before, differ))

-- ---- one answer, and some

-- a file that has a content does not break
whole-unbroken : (file : List ℕ) (c : Content) (frames : List Frame) (fault : Fault) → HasContent file c
    → Gives file frames (Breaks fault) → ⊥
whole-unbroken file c frames fault has breaks =
    not_both file fault (has.order, has.items, has.last, has.well_formed) (fault_given file frames fault breaks)

abbrev content : Closing → List Frame → Content
content closing frames = record { closing = closing; frames = frames }

-- a file ends in one way
one_ending : (file : List ℕ) (frames others : List Frame) (ending end : Ending) → Gives file frames ending
    → Gives file others end → ending ≡ end
one_ending file frames others (Closes c) (Closes d) left right =
    ap (λ (x : Content). Closes x.closing) (one_content file (content c frames) (content d others) left right)
one_ending file frames others (Closes c) (Breaks fault) left right =
    absurd (whole-unbroken file (content c frames) others fault left right)
one_ending file frames others (Breaks fault) (Closes c) left right =
    absurd (whole-unbroken file (content c others) frames fault right left)
one_ending file frames others (Breaks fault) (Breaks other) left right =
    ap (λ (x : Fault). Breaks x) (faults_unique file fault other (fault_given file frames fault left)
    (fault_given file others other right))

-- a comparison of what two files hold is one of all that they hold
moved : (file second : List ℕ) (c c' d d' : Content) (comparison : Comparison) → HasContent file c
    → HasContent file c' → HasContent second d → HasContent second d' → IsComparison c d comparison
    → IsComparison c' d' comparison
moved file second c c' d d' comparison left left' right right' is =
    subst (λ x. IsComparison x d' comparison) (one_content file c c' left left')
    (subst (λ y. IsComparison c y comparison) (one_content second d d' right right') is)

-- of files that end so one answer is due
one_by : (file second : List ℕ) (fs fs' gs gs' : List Frame) (ending end : Ending) (due other : Answer)
    → Gives file fs ending → Gives file fs' ending → Gives second gs end → Gives second gs' end
    → IsDueBy fs ending gs end due → IsDueBy fs' ending gs' end other → due ≡ other
one_by file second fs fs' gs gs' (Breaks fault) end due other gives gives' also also' left right = left ∙ sym right
one_by file second fs fs' gs gs' (Closes c) (Breaks fault) due other gives gives' also also' left right =
    left ∙ sym right
one_by file second fs fs' gs gs' (Closes c) (Closes d) due other gives gives' also also' left right =
    left.2
    ∙ ap (λ (x : Comparison). Ok x)
    (one_comparison (content c fs) (content d gs) left.0 right.0 left.1
    (moved file second (content c fs') (content c fs) (content d gs') (content d gs) right.0 gives' gives also' also
    right.1))
    ∙ sym right.2

one_of_held : (file second : Option (List ℕ)) (due other : Answer) → IsDueOfHeld file second due
    → IsDueOfHeld file second other → due ≡ other
one_of_held None second due other left right = left ∙ sym right
one_of_held (Some file) None due other left right = left ∙ sym right
one_of_held (Some file) (Some second) due other left right =
    let P : Ending → Type 0 = λ e. IsDueBy right.frames e right.others right.end other in
    let Q : Ending → Type 0 = λ e. IsDueBy right.frames left.ending right.others e other in
    let ending : right.ending ≡ left.ending =
    one_ending file right.frames left.frames right.ending left.ending right.gives left.gives in
    let end : right.end ≡ left.end =
    one_ending second right.others left.others right.end left.end right.also left.also in
    one_by file second left.frames right.frames left.others right.others left.ending left.end due other left.gives
    (subst (Gives file right.frames) ending right.gives) left.also (subst (Gives second right.others) end right.also)
    left.is (subst Q end (subst P ending right.is))

pub one-due : NoComparisonHasTwoDues
one-due files first second due other left right =
    one_of_held (files first) (files second) due other left.is right.is

some_by : (file second : List ℕ) (frames others : List Frame) (ending end : Ending) → AreBytes file
    → AreBytes second → Gives file frames ending → Gives second others end
    → (due : Answer) × IsDueBy frames ending others end due
some_by file second frames others (Breaks fault) end bytes also_bytes gives also = (Err (error.Fault 0 fault), refl)
some_by file second frames others (Closes c) (Breaks fault) bytes also_bytes gives also =
    (Err (error.Fault 1 fault), refl)
some_by file second frames others (Closes c) (Closes d) bytes also_bytes gives also =
    let found = a_comparison file second (content c frames) (content d others) bytes also_bytes gives also in
    (Ok found.0, (found.0, found.1, refl))

-- what is held is bytes
abbrev AreBytesOf : Option (List ℕ) → Type 0
AreBytesOf held = (file : List ℕ) → held ≡ Some file → AreBytes file

some_of_held : (file second : Option (List ℕ)) → AreBytesOf file → AreBytesOf second
    → (due : Answer) × IsDueOfHeld file second due
some_of_held None second bytes also = (Err error.Device, refl)
some_of_held (Some file) None bytes also = (Err error.Device, refl)
some_of_held (Some file) (Some second) bytes also =
    let left = each-gives file in
    let right = each-gives second in
    let found =
    some_by file second left.0 right.0 left.2 right.2 (bytes file refl) (also second refl) left.3 right.3 in (
      found.0,
      record {
        frames = left.0;
        ending = left.2;
        gives = left.3;
        others = right.0;
        end = right.2;
        also = right.3;
        is = found.1;
      },
    )

pub each-due : EachComparisonHasADue
each-due files first second bytes =
    let found = some_of_held (files first) (files second) (bytes first) (bytes second) in
    (found.0, record { bytes = bytes; is = found.1 })

-- ---- what is due tells contents

same_Ok : (x y : Comparison) (due : Answer) → due ≡ Ok x → due ≡ Ok y → x ≡ y
same_Ok x y due left right = cc

tells_by : (file second : List ℕ) (c d : Content) (frames others : List Frame) (ending end : Ending) (due : Answer)
    → HasContent file c → HasContent second d → Gives file frames ending → Gives second others end
    → IsDueBy frames ending others end due → (due ≡ Ok Same) ↔ SameContent c d
tells_by file second c d frames others (Breaks fault) end due left right gives also is =
    absurd (whole-unbroken file c frames fault left gives)
tells_by file second c d frames others (Closes closing) (Breaks fault) due left right gives also is =
    absurd (whole-unbroken second d others fault right also)
tells_by file second c d frames others (Closes closing) (Closes end) due left right gives also is =
    let own : IsComparison c d is.0 =
    moved file second (content closing frames) c (content end others) d is.0 gives left also right is.1 in (
      λ same. subst (IsComparison c d) (same_Ok is.0 Same due is.2 same) own,
      λ same. is.2 ∙ ap (λ (x : Comparison). Ok x) (one_comparison c d is.0 Same own same),
    )

pub tells : SameIsDueOfSameContents
tells files name other file second c d due held also left right is =
    let P : Option (List ℕ) → Type 0 = λ held. IsDueOfHeld held (files other) due in
    let Q : Option (List ℕ) → Type 0 = λ held. IsDueOfHeld (Some file) held due in
    let of : IsDueOf file second due = subst Q also (subst P held is.is) in
    tells_by file second c d of.frames of.others of.ending of.end due left right of.gives of.also of.is
