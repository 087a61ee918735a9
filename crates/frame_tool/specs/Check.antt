-- The check of a file: what it holds, or its first fault.
use Rattle.std.specs.Prelude.{ℕ, List}
use Rattle.file_grammar.specs.Fault.{IsFirstFault}
use Rattle.file_content.specs.Contents.{AreContents}
use Rattle.frame_tool.specs.declared.judgement.Finding.{Finding}
use Rattle.frame_tool.specs.declared.judgement.Finding.TheVariants.{Accepted, Refused}

-- what is found of a file
abbrev pub IsFinding : List ℕ → Finding → Type 0
IsFinding file (Accepted contents) = AreContents file contents
IsFinding file (Refused fault) = IsFirstFault file fault
