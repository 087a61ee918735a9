-- The reasons for which a file is not accepted: their numbers, in the order in which they are judged, and their names.
use Rattle.std.specs.Prelude.{ℕ, List, codes}
use Rattle.file_grammar.specs.declared.reason.Reason.{Reason}
use Rattle.file_grammar.specs.declared.reason.Reason.TheVariants.{CutHeader, BadHeader, CutRecord, LengthSmall}
use Rattle.file_grammar.specs.declared.reason.Reason.TheVariants.{RecordLimit, FrameLimit, NoLayout, UnreadLayout}
use Rattle.file_grammar.specs.declared.reason.Reason.TheVariants.{BodyShort, BodyLong, BadText, StrayElement}
use Rattle.file_grammar.specs.declared.reason.Reason.TheVariants.{ClassRange}
use Rattle.file_grammar.specs.declared.reason.Reason.TheVariants.{Redefined, NameTwice, ElementLimit, InstanceTwice}
use Rattle.file_grammar.specs.declared.reason.Reason.TheVariants.{FrameHTwice, NoFrameH, LooseLink, OpenFrame}
use Rattle.file_grammar.specs.declared.reason.Reason.TheVariants.{BadClosing, AfterTable, NoEnd, FrameCount, ByteCount}
use Rattle.file_grammar.specs.declared.reason.Reason.TheVariants.{Trailing, FileLimit, FramesLimit}

abbrev pub number_of : Reason → ℕ
number_of CutHeader = 1
number_of BadHeader = 2
number_of CutRecord = 3
number_of LengthSmall = 4
number_of RecordLimit = 5
number_of FrameLimit = 6
number_of NoLayout = 7
number_of UnreadLayout = 8
number_of BodyShort = 9
number_of BodyLong = 10
number_of BadText = 11
number_of StrayElement = 12
number_of ClassRange = 13
number_of Redefined = 14
number_of NameTwice = 15
number_of ElementLimit = 16
number_of InstanceTwice = 17
number_of FrameHTwice = 18
number_of NoFrameH = 19
number_of LooseLink = 20
number_of OpenFrame = 21
number_of BadClosing = 22
number_of AfterTable = 23
number_of NoEnd = 24
number_of FrameCount = 25
number_of ByteCount = 26
number_of Trailing = 27
number_of FileLimit = 28
number_of FramesLimit = 29

abbrev pub name_of : Reason → List ℕ
name_of CutHeader = codes "CutHeader"
name_of BadHeader = codes "BadHeader"
name_of CutRecord = codes "CutRecord"
name_of LengthSmall = codes "LengthSmall"
name_of RecordLimit = codes "RecordLimit"
name_of FrameLimit = codes "FrameLimit"
name_of NoLayout = codes "NoLayout"
name_of UnreadLayout = codes "UnreadLayout"
name_of BodyShort = codes "BodyShort"
name_of BodyLong = codes "BodyLong"
name_of BadText = codes "BadText"
name_of StrayElement = codes "StrayElement"
name_of ClassRange = codes "ClassRange"
name_of Redefined = codes "Redefined"
name_of NameTwice = codes "NameTwice"
name_of ElementLimit = codes "ElementLimit"
name_of InstanceTwice = codes "InstanceTwice"
name_of FrameHTwice = codes "FrameHTwice"
name_of NoFrameH = codes "NoFrameH"
name_of LooseLink = codes "LooseLink"
name_of OpenFrame = codes "OpenFrame"
name_of BadClosing = codes "BadClosing"
name_of AfterTable = codes "AfterTable"
name_of NoEnd = codes "NoEnd"
name_of FrameCount = codes "FrameCount"
name_of ByteCount = codes "ByteCount"
name_of Trailing = codes "Trailing"
name_of FileLimit = codes "FileLimit"
name_of FramesLimit = codes "FramesLimit"
