-- The fault of a file that is compared is what its reader gave.
use Rattle.std.proofs.Common.{◌≡◌, ℕ, Result, Err}
use Rattle.file_grammar.specs.declared.fault.Fault.{Fault}
use Rattle.item_reader.specs.declared.item.ReadError.{ReadError}
use Rattle.item_reader.specs.declared.item.ReadError.TheVariants as read
use Rattle.content_compare.specs.declared.answers.CompareError.{CompareError}
use Rattle.content_compare.specs.declared.answers.CompareError.TheVariants as error
use Rattle.content_compare.specs.Answers.{error_of_read}

-- A fault that is told of a file is its reader's.
pub fault-read : {X : Type 0} (file : ℕ) (e : ReadError) (found : CompareError) (number : ℕ) (fault : Fault)
    → found ≡ error_of_read file e → ◌≡◌ {A = Result X CompareError} (Err found) (Err (error.Fault number fault))
    → e ≡ read.Fault fault
fault-read file (read.Fault own) found number fault is told = cc
fault-read file read.Device found number fault is told = absurd cc
fault-read file read.NoMemory found number fault is told = absurd cc
