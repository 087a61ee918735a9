-- Words that are not two make no file.
use Rattle.std.proofs.Common.{◌≡◌, ◌<◌, ◌≤◌, List, [], ◌∷◌, length, None, String, arith, rules, refl, sym}
use Rattle.frame_tool.specs.Words.{texts, make_form}
use Rattle.frame_tool.proofs.command.make_form.Goals as goal
use Rattle.frame_tool.proofs.command.make_form.Goals.{in_default-via-then-words-lt2}
use Rattle.frame_tool.proofs.command.make_form.Goals.{in_default-via-else-words-lt2+else-words-lt3}

none_of_few : {A : Type 0} (words : List (String A)) → length words < 2 → make_form (texts words) ≡ None
none_of_few [] few = refl
none_of_few (word ∷ []) few = refl
none_of_few (word ∷ other ∷ words) few = absurd (omega arith)

none_of_more : {A : Type 0} (words : List (String A)) → 3 ≤ length words → make_form (texts words) ≡ None
none_of_more [] more = absurd (omega arith)
none_of_more (word ∷ []) more = absurd (omega arith)
none_of_more (word ∷ other ∷ []) more = absurd (omega arith)
none_of_more (word ∷ other ∷ third ∷ words) more = refl

pub returns-in_default : goal.returns-in_default
returns-in_default c =
    elim c.in_default.branch [
      | in_default-via-then-words-lt2 w ↦ sym (none_of_few c.args.words.now (search rules))
      | in_default-via-else-words-lt2+else-words-lt3 w ↦ sym (none_of_more c.args.words.now (grind arith))
    ]
