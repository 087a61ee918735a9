use Rattle.std.proofs.Common.{sym, subst}
use Rattle.dictionary.specs.Same.{AreRead}
use Rattle.canonical_writer.proofs.PrintedEntries.{printed-are_read}
use Rattle.canonical_writer.proofs.Standing.{is-added, is-refused, new-appended}
use Rattle.canonical_writer.proofs.used.UsedEntries.push_new.Goals as goal

pub add-requires : goal.add-requires
add-requires c =
    subst (λ e. AreRead e.elements) (sym c.in_ok-entry.ensures)
    (printed-are_read c.args.entry.now.elements c.requires.usable.read)

pub invariant_of-self : goal.invariant_of-self
invariant_of-self c =
    (is-added c.self.inside.entries c.args.self.now c.add.new.self c.self.inside.count c.args.class c.args.entry.now
    c.in_ok-entry.entry c.in-Ok.field-0 c.self.view_is c.self.invariant c.requires.usable c.requires.class c.requires.new
    c.in_ok-entry.ensures c.in-Ok.ensures.refused c.in-Ok.ensures.accepted).standing
    c.saturating_add-self-inside.result c.saturating_add-self-inside.ensures

pub returns-in-Ok-clause-used : goal.returns-in-Ok-clause-used
returns-in-Ok-clause-used c =
    (is-added c.self.inside.entries c.args.self.now c.add.new.self c.self.inside.count c.args.class c.args.entry.now
    c.in_ok-entry.entry c.in-Ok.field-0 c.self.view_is c.self.invariant c.requires.usable c.requires.class c.requires.new
    c.in_ok-entry.ensures c.in-Ok.ensures.refused c.in-Ok.ensures.accepted).used

pub returns-in-Ok-clause-no_clash : goal.returns-in-Ok-clause-no_clash
returns-in-Ok-clause-no_clash c =
    (is-added c.self.inside.entries c.args.self.now c.add.new.self c.self.inside.count c.args.class c.args.entry.now
    c.in_ok-entry.entry c.in-Ok.field-0 c.self.view_is c.self.invariant c.requires.usable c.requires.class c.requires.new
    c.in_ok-entry.ensures c.in-Ok.ensures.refused c.in-Ok.ensures.accepted).no_clash

pub returns-in-Ok-clause-appends : goal.returns-in-Ok-clause-appends
returns-in-Ok-clause-appends c =
    new-appended c.self.inside.entries c.args.self.now c.self.inside.count c.self.inside.count c.args.class
    c.args.entry.now c.in_ok-entry.entry c.args.into.now.items c.push_entry.new.into.items c.self.view_is c.self.invariant
    (λ i. c.self.inside.count) c.requires.usable c.requires.class c.requires.new c.in_ok-entry.ensures
    c.in_ok-push_entry.ensures

pub returns-in-Err-NameTwice-clause-clash : goal.returns-in-Err-NameTwice-clause-clash
returns-in-Err-NameTwice-clause-clash c =
    λ other same. (
      cc,
      is-refused c.self.inside.entries c.args.self.now c.args.class c.args.entry.now c.in_ok-entry.entry
          c.in-Err-NameTwice.field-0 c.self.view_is c.requires.usable c.requires.class c.requires.new c.in_ok-entry.ensures
          c.in-Err-NameTwice.field-0-is c.in-Err-NameTwice.ensures.only_memory,
    )
