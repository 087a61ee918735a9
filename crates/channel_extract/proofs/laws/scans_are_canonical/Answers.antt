-- What a scan writes is canonical, or no part of it is well-formed, as `WholeScans` proves.
use Rattle.channel_extract.proofs.WholeScans.{scans-canonical, scans-read, no-part-whole}
use Rattle.channel_extract.proofs.KeptExtractions.{extractions-kept}
use Rattle.channel_extract.proofs.laws.scans_are_canonical.Goals as goal

pub returns : goal.returns
returns c = record {
  canonical = scans-canonical;
  read = scans-read;
  keep = extractions-kept;
  parts = no-part-whole;
}
