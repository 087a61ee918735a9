-- What stands at the place of small files, by the table of reasons.
use Rattle.std.proofs.Common.{◌≡◌, List, [], ◌∷◌, ◌++◌, ℕ, Some, None, refl}
use Rattle.scalar_types.specs.declared.Order.TheVariants.{Little}
use Rattle.dictionary.specs.declared.entries.Entry.{Entry}
use Rattle.dictionary.specs.Dictionary.{step}
use Rattle.layout_plan.specs.Layout.{layout_of}
use Rattle.layout_plan.specs.Reading.{body_in}
use Rattle.file_grammar.specs.declared.reason.Reason.TheVariants.{CutRecord, LengthSmall, NoLayout, BodyLong, BadText}
use Rattle.file_grammar.specs.declared.reason.Reason.TheVariants.{StrayElement, ClassRange, NameTwice, NoFrameH, NoEnd}
use Rattle.file_grammar.specs.Item.{nothing_yet}
use Rattle.file_grammar.specs.Fault.{Here, fault_here, fault_at}
use Rattle.file_grammar.specs.Described.{run_at}

-- a file of these bytes, judged at its beginning, where this dictionary is held
judging : List Entry → List ℕ → Here
judging held bytes = record {
  order = Little;
  file = bytes;
  before = record nothing_yet { place = 0; dictionary = held };
}

-- the 14 bytes of a structure of this length and class
head : ℕ → ℕ → List ℕ
head length class = length ∷ 0 ∷ 0 ∷ 0 ∷ 0 ∷ 0 ∷ 0 ∷ 0 ∷ 0 ∷ class ∷ 0 ∷ 0 ∷ 0 ∷ 0 ∷ []

-- a structure that ends frames, of class 9, without a field
end : Entry
end = record {
  class = 9;
  name = 70 ∷ 114 ∷ 69 ∷ 110 ∷ 100 ∷ 79 ∷ 102 ∷ 70 ∷ 114 ∷ 97 ∷ 109 ∷ 101 ∷ [];
  comment = [];
  elements = [];
}

nothing-left : fault_here (judging [] []) ≡ Some (fault_at NoEnd (0, 0))
unfolding judging
nothing-left = refl

cut-head : fault_here (judging [] (1 ∷ 2 ∷ [])) ≡ Some (fault_at CutRecord (0, 0))
unfolding judging
cut-head = refl

cut-body : fault_here (judging [] (head 15 5)) ≡ Some (fault_at CutRecord (0, 0))
unfolding judging head
cut-body = refl

small : fault_here (judging [] (head 13 5)) ≡ Some (fault_at LengthSmall (0, 0))
unfolding judging head
small = refl

not-described : fault_here (judging [] (head 14 5)) ≡ Some (fault_at NoLayout (0, 0))
unfolding judging head
not-described = refl

-- an FrSE of three empty texts, and one whose last text is not closed
element : fault_here (judging [] (head 20 2 ++ 0 ∷ 0 ∷ 0 ∷ 0 ∷ 0 ∷ 0 ∷ [])) ≡ Some (fault_at StrayElement (0, 0))
unfolding judging head body_in
element = refl

element-unclosed : fault_here (judging [] (head 21 2 ++ 0 ∷ 0 ∷ 0 ∷ 0 ∷ 1 ∷ 0 ∷ 65 ∷ []))
    ≡ Some (fault_at BadText (0, 2))
unfolding judging head body_in
element-unclosed = refl

-- an FrSH of class 0, and one of class 7 without a name, after which another has the same name
entry-zero : fault_here (judging [] (head 20 1 ++ 0 ∷ 0 ∷ 0 ∷ 0 ∷ 0 ∷ 0 ∷ [])) ≡ Some (fault_at ClassRange (0, 0))
unfolding judging head body_in run_at step
entry-zero = refl

entry-stands : fault_here (judging [] (head 20 1 ++ 0 ∷ 0 ∷ 7 ∷ 0 ∷ 0 ∷ 0 ∷ [])) ≡ None
unfolding judging head body_in run_at step
entry-stands = refl

entry-named : fault_here
    (judging (record { class = 8; name = []; comment = []; elements = [] } ∷ [])
    (head 20 1 ++ 0 ∷ 0 ∷ 7 ∷ 0 ∷ 0 ∷ 0 ∷ [])) ≡ Some (fault_at NameTwice (0, 0))
unfolding judging head body_in run_at step
entry-named = refl

-- an end record in a frame without FrameH, and one with a byte too many
no-header : fault_here (judging (end ∷ []) (head 14 9)) ≡ Some (fault_at NoFrameH (0, 0))
unfolding judging head end body_in layout_of
no-header = refl

too-long : fault_here (judging (end ∷ []) (head 15 9 ++ 1 ∷ [])) ≡ Some (fault_at BodyLong (0, 0))
unfolding judging head end body_in layout_of
too-long = refl
