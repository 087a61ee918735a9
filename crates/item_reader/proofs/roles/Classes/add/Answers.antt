-- The class of an entry that was added is within the roles, and its role is the one kept under it.
use Rattle.std.proofs.Common.{◌<◌, rules}
use Rattle.item_reader.proofs.Holding.{step-added}
use Rattle.item_reader.proofs.RolesKept.{roles-added, class-added}
use Rattle.item_reader.proofs.roles.Classes.add.Goals as goal

pub overflow_cast-class : goal.overflow_cast-class
overflow_cast-class c =
    let low : c.args.entry.class < 256 = class-added c.self.inside.dictionary c.args.entry c.add.result
    c.add.new.self c.in_ok-add.field-0 c.add.ensures.refused c.add.ensures.accepted c.in_ok-add.was in
    search rules

pub bounds-self-inside-class : goal.bounds-self-inside-class
bounds-self-inside-class c =
    class-added c.self.inside.dictionary c.args.entry c.add.result c.add.new.self c.in_ok-add.field-0
    c.add.ensures.refused c.add.ensures.accepted c.in_ok-add.was

pub invariant_of-self-2 : goal.invariant_of-self-2
invariant_of-self-2 c =
    roles-added c.self.inside.dictionary c.args.entry c.add.new.self c.self.inside.roles c.role_of-role.result
    (step-added c.self.inside.dictionary c.args.entry c.add.result c.add.new.self c.in_ok-add.field-0
    c.add.ensures.refused c.add.ensures.accepted c.in_ok-add.was)
    c.self.invariant c.role_of-role.ensures
