-- How the making of the sample file is left, at each of its ends.
use Rattle.std.proofs.Common.{◌≡◌, ℕ, ◌≤◌, ◌⊎◌, List, ◌++◌, length, take, Some, Option, Result, Ok, Err}
use Rattle.std.proofs.Common.{IfSome, IfErr, is_ok, option_map, inl, inr, refl, sym, ap, ◌∙◌, subst, arith}
use Rattle.frame_outside.specs.Shelf.{Outside, holding}
use Rattle.frame_outside.proofs.Places.{hands_out_none}
use Rattle.file_grammar.specs.Structure.{file_limit}
use Rattle.canonical_file.specs.declared.closing.Closing.{Closing}
use Rattle.canonical_file.specs.Written.{Written, header_alone, after_frames, closing_part, canonical_file}
use Rattle.canonical_writer.specs.declared.errors.WriteError.{WriteError}
use Rattle.canonical_writer.specs.declared.errors.WriteError.TheVariants as write
use Rattle.canonical_writer.specs.declared.writer.Summary.{Summary}
use Rattle.canonical_writer.specs.Parts.{IsShortClosing, printed_closing}
use Rattle.canonical_writer.specs.Writer.{Writer, BeginsInPart, Stays, Puts, IsAnswer, closing_due, size_with}
use Rattle.sample_file.specs.Sample.{sample_closing}
use Rattle.sample_file.specs.Whole.{sample_frames, sample_bytes}
use Rattle.sample_file.specs.Put.{sample_head, HasMade, HasPart, HasWritten, IsOutside, IsLeft}
use Rattle.sample_file.proofs.Counted.{IsAfter, counted}
use Rattle.sample_file.proofs.Dues.{end-due, outside-alone, told-due}
use Rattle.sample_file.proofs.Fronts.{head-none, whole-is, part-of_head, part-of_all}
use Rattle.sample_file.proofs.Making.{made-stays, made-writes, made-part, begun-in_part, one-made, one-unmade}
use Rattle.sample_file.proofs.SampleClosings.{closing-short, closing-printed}
use Rattle.sample_file.proofs.SampleSizes.{end-size, whole-size}

-- ---- where it is not written whole

-- the file was not made
pub left-none : (o : Outside) (name : List ℕ) (n : ℕ) (error : WriteError) → IsOutside error
    → IsLeft o o name n (Err error)
left-none o name n error outside = record {
  makes = λ files told. inl told;
  shelf = one-unmade o o name (hands_out_none o);
  outside = outside;
}

-- a part of the bytes was written
pub left-part : (old new : Outside) (name : List ℕ) (n : ℕ) (error : WriteError) → IsOutside error
    → HasPart old new name n → IsLeft old new name n (Err error)
left-part old new name n error outside part = record {
  makes = λ files told. inr (record {
    count = part.count;
    files_are = part.made.files ∙ ap (option_map (holding name (take part.count (sample_bytes n)))) told;
  });
  shelf = one-made old new name part.slot (take part.count (sample_bytes n)) part.made;
  outside = outside;
}

-- the header was not written
pub left-unbegun : (old new : Outside) (name : List ℕ) (n : ℕ) (error : WriteError) → IsOutside error
    → Stays old new ⊎ BeginsInPart old new name → IsLeft old new name n (Err error)
left-unbegun old new name n error outside (inl stays) = record {
  makes = λ files told. inl (stays.files ∙ told);
  shelf = one-unmade old new name stays;
  outside = outside;
}
left-unbegun old new name n error outside (inr part) =
    let header_alone = begun-in_part old new name part in
    left-part old new name n error outside
    (part-of_head old new name header_alone.0 0 n header_alone.1 (omega arith)
    (subst (λ (bytes : List ℕ). HasMade old new name header_alone.0
    (take header_alone.1 bytes)) head-none header_alone.2))

-- all frames were written
pub left-head : (old new : Outside) (name : List ℕ) (slot n : ℕ) (error : WriteError) → IsOutside error
    → HasMade old new name slot (sample_head n) → IsLeft old new name n (Err error)
left-head old new name slot n error outside made =
    left-part old new name n error outside (part-of_all old new name slot n n (omega arith) made)

-- ---- where it is

abbrev summary_of : ℕ → ℕ → Summary
summary_of frames bytes = record { frames = frames; bytes = bytes }

left-whole : (old new : Outside) (name : List ℕ) (slot n : ℕ) (summary : Summary)
    → HasMade old new name slot (sample_bytes n) → summary ≡ summary_of n (length (sample_bytes n))
    → IsLeft old new name n (Ok summary)
left-whole old new name slot n summary made is = record {
  makes = λ files told. (made.files ∙ ap (option_map (holding name (sample_bytes n))) told, is);
  shelf = one-made old new name slot (sample_bytes n) made;
  outside = tt;
}

-- what is due at the end
end-is : (n : ℕ) (c : Closing) → c ≡ sample_closing → n ≤ 100000
    → closing_due (after_frames header_alone (sample_frames n)) c ≡ Ok (summary_of n (length (sample_bytes n)))
unfolding sample_bytes
end-is n c is few =
    let w : Written = after_frames header_alone (sample_frames n) in
    let now : IsAfter n w = counted n in
    let small : size_with w c ≤ file_limit = subst (λ c. size_with w c ≤ file_limit) (sym is) (end-size n few) in
    end-due w c small ∙ ap (λ frames. Ok (summary_of frames (size_with w c))) now.frames
    ∙ ap (λ bytes. Ok (summary_of n bytes))
    (whole-size (sample_frames n) c ∙ ap (λ c. length (canonical_file c (sample_frames n))) is)

-- what was written at the end, by the answer
ended-by : (n : ℕ) (old now new : Outside) (name : List ℕ) (slot : ℕ) (bytes : List ℕ)
    (result : Result Summary WriteError)
    → HasMade old now name slot (sample_head n) → sample_bytes n ≡ sample_head n ++ bytes
    → Puts now new slot bytes result → IfErr result IsOutside
    → ((summary : Summary) → result ≡ Ok summary → summary ≡ summary_of n (length (sample_bytes n)))
    → IsLeft old new name n result
ended-by n old now new name slot bytes (Ok summary) made more puts outside told =
    left-whole old new name slot n summary
    (subst (λ (bytes : List ℕ). HasMade old new name slot bytes) (sym more)
    (made-writes old now new name slot (sample_head n) bytes made puts)) (told summary refl)
ended-by n old now new name slot bytes (Err write.Device) made more puts outside told =
    let part = made-part old now new name slot (sample_head n) bytes made puts in
    left-part old new name n write.Device outside (record {
      slot = slot;
      count = part.0;
      made = subst (λ (bytes : List ℕ). HasMade old new name slot (take part.0 bytes)) (sym more) part.1;
    })
ended-by n old now new name slot bytes (Err write.NoMemory) made more puts outside told =
    left-head old new name slot n write.NoMemory outside
    (made-stays old now new name slot (sample_head n) made puts)
ended-by n old now new name slot bytes (Err write.FramesLimit) made more puts (inl is) told = absurd cc
ended-by n old now new name slot bytes (Err write.FramesLimit) made more puts (inr is) told = absurd cc
ended-by n old now new name slot bytes (Err (write.Clash class)) made more puts (inl is) told = absurd cc
ended-by n old now new name slot bytes (Err (write.Clash class)) made more puts (inr is) told = absurd cc
ended-by n old now new name slot bytes (Err write.OutputLimit) made more puts (inl is) told = absurd cc
ended-by n old now new name slot bytes (Err write.OutputLimit) made more puts (inr is) told = absurd cc

-- The file is ended.
pub left-ended : (n : ℕ) (old now new : Outside) (name : List ℕ) (w v : Writer) (closing : Closing)
    (result : Result Summary WriteError) (bytes : List ℕ) → n ≤ 100000
    → HasMade old now name w.slot (sample_head n) → HasWritten n w → closing ≡ sample_closing
    → v ≡ record w { closing = Some (printed_closing closing) }
    → IfSome v.closing (λ closing. IsShortClosing closing → IsAnswer result (closing_due v.written closing))
    → Puts now new v.slot bytes result
    → IfSome v.closing (λ closing. IsShortClosing closing → bytes ≡ closing_part v.written closing)
    → IsLeft old new name n result
left-ended n old now new name w v closing result bytes few made has is held answer puts bytes_are =
    let c : Closing = printed_closing closing in
    let last : Written = after_frames header_alone (sample_frames n) in
    let c_is : c ≡ sample_closing = ap printed_closing is ∙ closing-printed in
    let short : IsShortClosing c = subst IsShortClosing (sym c_is) closing-short in
    let held_is : v.closing ≡ Some c = ap (λ (w : Writer). w.closing) held in
    let stands : v.written ≡ last = ap (λ (w : Writer). w.written) held ∙ has.written in
    let A : Option Closing → Type 0 = λ o.
    IfSome o (λ closing. IsShortClosing closing → IsAnswer result (closing_due v.written closing)) in
    let B : Option Closing → Type 0 = λ o.
    IfSome o (λ closing. IsShortClosing closing → bytes ≡ closing_part v.written closing) in
    let own : IsAnswer result (closing_due v.written c) =
    (let f : A (Some c) = subst A held_is answer in f short) in
    let same : bytes ≡ closing_part v.written c = (let f : B (Some c) = subst B held_is bytes_are in f short) in
    let due : closing_due v.written c ≡ Ok (summary_of n (length (sample_bytes n))) =
    ap (λ (w : Written). closing_due w c) stands ∙ end-is n c c_is few in
    let more : sample_bytes n ≡ sample_head n ++ bytes =
    whole-is n c c_is
    ∙ ap (λ (bytes : List ℕ). sample_head n ++ bytes)
    (sym (same ∙ ap (λ (w : Written). closing_part w c) stands)) in
    ended-by n old now new name w.slot bytes result made more
    (subst (λ slot. Puts now new slot bytes result) (ap (λ (w : Writer). w.slot) held) puts)
    (outside-alone result (closing_due v.written c) (ap is_ok due) own)
    (λ summary same. told-due summary (summary_of n (length (sample_bytes n))) (closing_due v.written c) due
    (subst (λ result. IsAnswer result (closing_due v.written c)) same own))

-- What the making of a file answers is the shelf's or the memory's.
pub begun-outside : {X : Type 0} (error : WriteError)
    → ◌≡◌ {A = Result X WriteError} (Err error) (Err write.Device)
    ⊎ ◌≡◌ {A = Result X WriteError} (Err error) (Err write.NoMemory) → IsOutside error
begun-outside error (inl is) = let same : error ≡ write.Device = cc in inl same
begun-outside error (inr is) = let same : error ≡ write.NoMemory = cc in inr same
