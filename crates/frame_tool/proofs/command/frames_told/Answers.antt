-- A number that is read and not a `u32` is more than 100,000.
use Rattle.std.proofs.Common.{◌≡◌, ◌∙◌, ℕ, ◌<◌, ◌≤◌, ◌^◌, ◌==◌, List, [], ◌∷◌, length, true, false, None, Result}
use Rattle.std.proofs.Common.{rules, refl, sym, ap, leb, arith, inl, inr}
use Rattle.std.proofs.lemmas.Bool.{true≢false}
use Rattle.std.proofs.lemmas.Bool.Decides.{leb_tells}
use Rattle.std.proofs.lemmas.Str.Parse.{parse_gives, numerals_by_value, tells_all_ascii_digits}
use Rattle.std.specs.Result.{result_ok}
use Rattle.std.specs.Str.{all_ascii_digits}
use Rattle.std.specs.Str.Parse.{digits_value, ParsesUnsigned}
use Rattle.file_grammar.specs.Fault.{is_empty}
use Rattle.frame_tool.specs.Words.{frames_told, has_leading_zero}
use Rattle.frame_tool.proofs.command.frames_told.Goals as goal

-- a text with a byte is not empty
some_bytes : (word : List ℕ) → (length word == 0) ≡ false → (is_empty word ≡ false) × (0 < length word)
some_bytes [] none = absurd (true≢false none)
some_bytes (byte ∷ bytes) none = (refl, omega arith)

-- digits that are read as no `u32`
large : {E : Type 0} (word : List ℕ) (read : Result ℕ E) → ParsesUnsigned 32 10 word read → result_ok read ≡ None
    → all_ascii_digits word ≡ true → 0 < length word → 2 ^ 32 ≤ digits_value 10 word
large word read parses fails digits some =
    elim (leb_tells (2 ^ 32) (digits_value 10 word)) [
      | inl small ↦ small.1
      | inr few ↦
          let own = numerals_by_value (λ ds. all_ascii_digits ds ≡ true) tells_all_ascii_digits in
          let reads = ap result_ok (parse_gives own 32 word read parses digits some few.1) in
          absurd cc
    ]

unread : {E : Type 0} (word : List ℕ) (read : Result ℕ E) → ParsesUnsigned 32 10 word read → result_ok read ≡ None
    → (length word == 0) ≡ false → has_leading_zero word ≡ false → all_ascii_digits word ≡ true
    → frames_told word ≡ None
unread word read parses fails none zero digits =
    let some = some_bytes word none in
    let empty = some.0 in
    let much = large word read parses fails digits some.1 in
    let more : leb (digits_value 10 word) 100000 ≡ false =
    elim (leb_tells (digits_value 10 word) 100000) [ inl few ↦ absurd (omega (arith, few.1, much)) | inr so ↦ so.0 ] in
    rw (empty, zero, digits, more) refl

pub returns-in_err-frames : goal.returns-in_err-frames
returns-in_err-frames c =
    let word = c.args.word.now in
    c.from_residual.ensures ∙ sym (unread word c.parse.result c.parse.ensures.value.0
    (sym c.ok.ensures.value ∙ c.in_err-frames.was) (sym c.is_empty.ensures ∙ c.if-is_empty.false) (search rules)
    (search rules))
