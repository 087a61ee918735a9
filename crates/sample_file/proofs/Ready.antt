-- A writer that has written the header alone may write frames of the sample file.
use Rattle.std.proofs.Common.{◌≡◌, ℕ, ◌<◌, ◌≤◌, ◌⊎◌, inl, inr, true, false, [], Some, length, refl, sym, ap, ◌∙◌}
use Rattle.std.proofs.Common.{subst, arith, true≢false}
use Rattle.std.specs.Prelude.{slice_get}
use Rattle.std.proofs.lemmas.Bool.{cases_lt}
use Rattle.std.proofs.lemmas.List.{length-replicate, get_or-replicate}
use Rattle.std.proofs.lemmas.List.Elements.{All-nil}
use Rattle.std.proofs.lemmas.Option.{none-some, same_Some, slice_get-get_or, slice_get_past}
use Rattle.dictionary.specs.declared.entries.Entry.{Entry}
use Rattle.dictionary.specs.Dictionary.{class_named}
use Rattle.canonical_file.specs.Written.{header_alone, after_frames}
use Rattle.canonical_writer.specs.Writer.{Writer, fresh, none_met}
use Rattle.sample_file.specs.Put.{IsWriterReady, HasWritten}
use Rattle.sample_file.proofs.FramesMore.{frames-none}

-- no class was met
none-met : (class : ℕ) → slice_get none_met class ≡ Some true → ⊥
none-met class is = by (cases_lt class 256)
  where
    size : length none_met ≡ 256
    size = length-replicate 256 false

    by : (class < 256) ⊎ (256 ≤ class) → ⊥
    by (inl within) =
        let found = slice_get-get_or none_met class false (omega (arith, within, size)) in
        let here = get_or-replicate 256 class false false within in
        true≢false (same_Some true false (sym is ∙ found ∙ ap Some here))
    by (inr past) = none-some true (sym (slice_get_past none_met class (omega (arith, past, size))) ∙ is)

ready-fresh : (slot : ℕ) → IsWriterReady (fresh slot)
unfolding IsWriterReady
ready-fresh slot = record {
  met_are = λ class is. absurd (none-met class is);
  agree = All-nil (λ (e : Entry). class_named [] e.name ≡ Some e.class);
}

-- It has written no frame.
pub written-none : (w : Writer) → w ≡ fresh w.slot → HasWritten 0 w
written-none w is =
    subst (HasWritten 0) (sym is) (record {
      written = ap (after_frames header_alone) (sym frames-none);
      closing = refl;
      error = refl;
      ready = ready-fresh w.slot;
    })
