-- The text that `list` prints: the channels of a file, a line for each name.
use Rattle.std.specs.Prelude.{ℕ, List, [], ◌∷◌, ◌++◌, length, codes}
use Rattle.std.specs.List.{flat_map}
use Rattle.std.specs.Fmt.{decimal}
use Rattle.contents_table.specs.declared.kind.Kind.{Kind}
use Rattle.contents_table.specs.declared.kind.Kind.TheVariants.{Adc, Proc, Sim, Ser}
use Rattle.contents_table.specs.declared.names.Listed.{Listed}
use Rattle.contents_table.specs.Built.{Built, listed_of}
use Rattle.dumper.specs.Printed.{escaped}

abbrev pub kind_name : Kind → List ℕ
kind_name Adc = codes "adc"
kind_name Proc = codes "proc"
kind_name Sim = codes "sim"
kind_name Ser = codes "ser"

-- the line of a name: its kind, the number of frames that have it, and the name
abbrev pub name_line : Kind → Listed → List ℕ
name_line kind listed =
    kind_name kind ++ (codes " " ++
    (decimal (length listed.found) ++ (codes " " ++ (escaped listed.name ++ codes "\n"))))

-- the lines of a kind, in the order in which its names first came
abbrev pub kind_text : Built → Kind → List ℕ
kind_text built kind = flat_map (name_line kind) (listed_of built kind)

-- the lines of all kinds
abbrev pub list_text : Built → List ℕ
list_text built = flat_map (kind_text built) (Adc ∷ Proc ∷ Sim ∷ Ser ∷ [])
