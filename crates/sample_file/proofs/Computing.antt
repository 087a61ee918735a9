-- What the definitions of the sample file compute by: each lemma that does names it on its line.
use Rattle.std.specs.Fmt.{digits}
use Rattle.scalar_types.specs.Number.{little_bytes}
use Rattle.type_text.specs.Tokens.{tokens}
use Rattle.type_text.specs.TypeText.{plain_bases, base_of, dims_of, pointed_of, base_in_front, type_of_tokens}
use Rattle.type_text.specs.TypeText.{printed_type}
use Rattle.type_text.specs.TypeText.{type_of}
use Rattle.layout_plan.specs.Layout.{layout_of}
use Rattle.contents_table.specs.Told.{values_after}
use Rattle.sample_file.specs.Entries.{sample_entries}
use Rattle.sample_file.specs.Sample.{sample_frame, sample_closing}

unfoldable pub computing : Type 0
unfolding little_bytes digits tokens plain_bases base_of dims_of pointed_of base_in_front type_of_tokens printed_type type_of
    layout_of values_after sample_entries sample_frame sample_closing
computing = Unit {0}
