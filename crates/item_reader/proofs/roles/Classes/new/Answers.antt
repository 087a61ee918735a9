-- The roles of a dictionary that holds nothing.
use Rattle.item_reader.proofs.RolesKept.{are-first_roles}
use Rattle.item_reader.proofs.roles.Classes.new.Goals as goal

pub invariant_of-result : goal.invariant_of-result
invariant_of-result c = rw c.new.ensures are-first_roles
