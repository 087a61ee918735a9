-- Where the names are distinct, the number is that of any name that is equal.
use Rattle.std.proofs.Common.{rules, arith, ap, sym, ◌∙◌, ◌≡◌, ◌<◌, length, map, [], get_or, List}
use Rattle.std.proofs.lemmas.List.{length-map, get_or-map}
use Rattle.std.specs.Cmp.Lexicographic.{bytes_decides}
use Rattle.contents_table.specs.declared.names.Listed.{Listed}
use Rattle.contents_table.specs.Built.{name_in}
use Rattle.contents_table.specs.Kept.{number_in}
use Rattle.contents_table.proofs.Distinct.{position-distinct}
use Rattle.contents_table.proofs.names.Names.likely_number.Goals as goal

pub returns-then-eq : goal.returns-then-eq
returns-then-eq c =
    let items : List Listed = c.self.inside.listed.items in
    let within : c.self.inside.next < length items = search rules in
    let same : c.bytes.result.now ≡ c.args.name.now =
    (bytes_decides c.bytes.result.now c.args.name.now).0 (sym c.eq.ensures ∙ c.if-eq.true) in
    let read : get_or (map name_in items) c.self.inside.next [] ≡ c.bytes.result.now =
    get_or-map name_in items c.self.inside.next c.index.result.now [] within
    ∙ ap name_in (sym c.index.ensures) ∙ sym c.bytes.ensures in
    sym (position-distinct (map name_in items) c.args.name.now c.self.inside.next c.self.invariant.distinct
    (omega (arith, within, length-map items name_in)) (read ∙ same))
    ∙ ap (λ (listed : List Listed). number_in listed c.args.name.now) c.self.view_is
