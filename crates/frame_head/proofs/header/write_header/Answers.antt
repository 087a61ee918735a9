-- The header is what its parts are written to, which computes.
use Rattle.std.proofs.Common.{◌∙◌, ap, refl}
use Rattle.scalar_types.specs.Number.{little_bytes}
use Rattle.frame_head.specs.Header.{header_of}
use Rattle.frame_head.proofs.HeaderBytes.{header_of-bytes}
use Rattle.frame_head.proofs.header.write_header.Goals as goal

pub returns-clause-value : goal.returns-clause-value
unfolding little_bytes
returns-clause-value c = rw (c.write_parts-2.ensures, c.write_parts.ensures, c.copy_from_slice.ensures.after) refl

pub returns-clause-read : goal.returns-clause-read
returns-clause-read c = ap header_of (returns-clause-value c) ∙ header_of-bytes
