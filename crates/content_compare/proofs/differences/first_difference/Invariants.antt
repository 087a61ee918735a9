-- Both readers have given equal frames, as many of each file.
use Rattle.std.proofs.Common.{◌≡◌, ◌-◌, None}
use Rattle.file_grammar.specs.Structure.{file_limit}
use Rattle.content_compare.specs.Sides.{ReadOn}
use Rattle.content_compare.proofs.Comparing.{AbreastOn}
use Rattle.content_compare.proofs.differences.first_difference.Given as goal

abbrev pub invariant-frames : goal.invariant-frames
invariant-frames g l = record {
  reads : ReadOn (g.S.Shelf.outside l.initial.shelf) (g.S.Shelf.outside l.shelf) l.initial.first.reader
      l.initial.second.reader l.first.reader l.second.reader;
  errors : (l.first.reader.error ≡ None) × (l.second.reader.error ≡ None);
  abreast : AbreastOn (g.S.Shelf.outside l.initial.shelf) l.initial.first l.initial.second l.first l.second l.comparer;
}

abbrev pub decreases-frames : goal.decreases-frames
decreases-frames g l = file_limit - l.first.reader.before.place
