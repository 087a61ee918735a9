-- The shelf was asked, or was not.
use Rattle.structure_source.proofs.Going.{goes-none, goes-asked, stands-asked, refused-none}
use Rattle.structure_source.proofs.source.StructureSource.ready.Goals as goal

pub returns-then-ahead-gt0-clause-on : goal.returns-then-ahead-gt0-clause-on
returns-then-ahead-gt0-clause-on g c = goes-none _ _

pub returns-in_err-has_more-clause-stands : goal.returns-in_err-has_more-clause-stands
returns-in_err-has_more-clause-stands g c =
    stands-asked _ _ _ _ _ c.self.inside.at c.self.view_is c.requires.stands
    (refused-none _ _ _ _ c.in_err-has_more.ensures.refused c.in_err-has_more.ensures.kept)

pub returns-in_err-has_more-clause-on : goal.returns-in_err-has_more-clause-on
returns-in_err-has_more-clause-on g c =
    goes-asked _ _ _ _ _ c.self.inside.at c.self.view_is
    (refused-none _ _ _ _ c.in_err-has_more.ensures.refused c.in_err-has_more.ensures.kept)

pub returns-then-not-branch-clause-stands : goal.returns-then-not-branch-clause-stands
returns-then-not-branch-clause-stands g c =
    stands-asked _ _ _ _ _ c.self.inside.at c.self.view_is c.requires.stands c.in_ok-has_more.ensures.advances

pub returns-then-not-branch-clause-on : goal.returns-then-not-branch-clause-on
returns-then-not-branch-clause-on g c =
    goes-asked _ _ _ _ _ c.self.inside.at c.self.view_is c.in_ok-has_more.ensures.advances

pub returns-clause-stands : goal.returns-clause-stands
returns-clause-stands g c =
    stands-asked _ _ _ _ _ c.self.inside.at c.self.view_is c.requires.stands c.in_ok-has_more.ensures.advances

pub returns-clause-on : goal.returns-clause-on
returns-clause-on g c = goes-asked _ _ _ _ _ c.self.inside.at c.self.view_is c.in_ok-has_more.ensures.advances
