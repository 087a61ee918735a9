-- Fewer than 14 bytes, or all of them.
use Rattle.std.proofs.Common.{◌≡◌, ℕ, List, length, take, drop, ap, sym, ◌∙◌, arith, rules}
use Rattle.std.proofs.lemmas.List.{take_all}
use Rattle.frame_head.specs.Structure.{common_of}
use Rattle.frame_head.proofs.FirstBytes.{common_of-take}
use Rattle.structure_source.proofs.source.StructureSource.head.Goals as goal

pub returns-else-read-lt-HEAD_SIZE-clause-head : goal.returns-else-read-lt-HEAD_SIZE-clause-head
returns-else-read-lt-HEAD_SIZE-clause-head g c = λ reading told.
    let size : length c.fill.new.into ≡ 14 = search rules in
    let rest : List ℕ = drop c.args.self.now.at reading.opened in
    let all : c.in_ok-read.read ≡ 14 = omega (arith, size, c.in_ok-read.ensures.room) in
    let whole : c.fill.new.into ≡ take 14 rest =
    sym (take_all c.in_ok-read.read c.fill.new.into (omega (arith, size)))
    ∙ c.in_ok-read.ensures.filled reading told ∙ ap (λ n. take n rest) all in (
      omega (arith, c.in_ok-read.ensures.count reading told),
      c.read_common.ensures ∙ ap (common_of c.args.order) whole
          ∙ common_of-take c.args.order 14 rest (omega arith),
    )
