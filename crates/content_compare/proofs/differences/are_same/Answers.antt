-- The frames that the readers lend are compared, as `LentFrames` says.
use Rattle.std.proofs.Common.{◌≡◌, ℕ, List, Some, None, sym, ap, subst, ◌∙◌}
use Rattle.std.specs.Option.{option_copied}
use Rattle.item_reader.specs.Reader.{Reader}
use Rattle.canonical_writer.specs.declared.frame_part.FrameSource.{FrameSource}
use Rattle.content_compare.proofs.LentFrames.{IsLent, lent_tell}
use Rattle.content_compare.proofs.differences.are_same.Goals as goal

pub returns-clause-same : goal.returns-clause-same
returns-clause-same c =
    let none : c.items-one.result.now.error ≡ None = ap (λ (r : Reader). r.error) c.items-one.ensures ∙ c.requires.0 in
    let also : c.items-other.result.now.error ≡ None =
    ap (λ (r : Reader). r.error) c.items-other.ensures ∙ c.requires.1 in
    let one : FrameSource = record {
      segment = c.segment.result;
      plans = c.plans.result;
      dictionary = c.dictionary.result;
      order = c.sequence.result;
    } in
    let two : FrameSource = record {
      segment = c.segment-2.result;
      plans = c.plans-2.result;
      dictionary = c.dictionary-2.result;
      order = c.sequence-2.result;
    } in
    lent_tell c.args.comparer.now one two c.args.first.now c.args.second.now c.are_same.result
    (subst (λ (reader : Reader). IsLent reader one) c.items-one.ensures
    (record {
      segment = c.segment.ensures.segment;
      dictionary = c.dictionary.ensures;
      order = sym c.numbering.ensures ∙ ap option_copied c.in-Some-Some.is-0
          ∙ ap (λ (numbers : List ℕ). Some numbers) (sym c.sequence.ensures);
      plans = c.plans.ensures none;
      bodies = c.segment.ensures.bodies none c.plans.result.now (c.plans.ensures none);
    }))
    (subst (λ (reader : Reader). IsLent reader two) c.items-other.ensures
    (record {
      segment = c.segment-2.ensures.segment;
      dictionary = c.dictionary-2.ensures;
      order = sym c.numbering-2.ensures ∙ ap option_copied c.in-Some-Some.is-1
          ∙ ap (λ (numbers : List ℕ). Some numbers) (sym c.sequence-2.ensures);
      plans = c.plans-2.ensures also;
      bodies = c.segment-2.ensures.bodies also c.plans-2.result.now (c.plans-2.ensures also);
    }))
    c.are_same.ensures.same
