use Rattle.std.proofs.Common.{not, ◌||◌, [], ◌∷◌, sym, ap, ◌∙◌}
use Rattle.std.specs.Str.{bytes_eq}
use Rattle.canonical_writer.proofs.Clashes.{clashes-first, clashes-second, clashes-two_names}
use Rattle.canonical_writer.proofs.used.clashes_with_two.Goals as goal

pub returns-then-table-entry : goal.returns-then-table-entry
returns-then-table-entry c =
    ap not c.same_entry.ensures.tests
    ∙ sym (clashes-first c.args.table.now c.args.entry.now (c.args.end.now ∷ []) c.if-table-entry.true c.requires.read)

pub returns-then-end-entry : goal.returns-then-end-entry
returns-then-end-entry c =
    ap not c.same_entry-then-end-entry.ensures.tests
    ∙ sym (clashes-second c.args.table.now c.args.end.now c.args.entry.now c.if-table-entry.false c.if-end-entry.true
    c.requires.read)

pub returns-then-is_named : goal.returns-then-is_named
returns-then-is_named c =
    c.if-is_named.true ∙ sym
    (clashes-two_names c.args.table.now c.args.end.now c.args.entry.now c.if-table-entry.false c.if-end-entry.false
    ∙ ap (λ b. b || bytes_eq c.args.entry.now.name c.args.end.now.name) (sym c.is_named.ensures ∙ c.if-is_named.true))

pub returns-else-is_named : goal.returns-else-is_named
returns-else-is_named c =
    c.is_named-else-is_named.ensures
    ∙ sym (clashes-two_names c.args.table.now c.args.end.now c.args.entry.now c.if-table-entry.false c.if-end-entry.false
    ∙ ap (λ b. b || bytes_eq c.args.entry.now.name c.args.end.now.name) (sym c.is_named.ensures ∙ c.if-is_named.false))
