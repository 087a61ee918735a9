-- Files that hold the same have one scan, as `SameScans` proves.
use Rattle.channel_extract.proofs.SameScans.{scans-tell, scans-of-copies}
use Rattle.channel_extract.proofs.laws.scans_tell_contents.Goals as goal

pub returns : goal.returns
returns c = record { contents = scans-tell; copies = scans-of-copies }
