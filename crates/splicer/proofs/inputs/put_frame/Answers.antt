-- The frame that the reader lends is written as a writer answers to it.
use Rattle.std.proofs.Common.{◌≡◌, ℕ, Some, None, All, sym, ap, subst, ◌∙◌}
use Rattle.std.specs.Option.{option_copied}
use Rattle.layout_plan.specs.Plans.{plan_of}
use Rattle.link_graph.specs.Collected.{Collected}
use Rattle.link_graph.specs.Graph.{ReadsBy}
use Rattle.file_grammar.specs.Record.{layout_in}
use Rattle.contents_table.specs.declared.layouts.ChannelLayouts.{ChannelLayouts}
use Rattle.item_reader.specs.Reader.{Reader}
use Rattle.splicer.specs.Made.{IsMade}
use Rattle.splicer.proofs.Making.{is_made-puts}
use Rattle.splicer.proofs.OnlyWritten.{only-puts}
use Rattle.splicer.proofs.PutFrames.{AnswersFrame, puts-frame}
use Rattle.splicer.proofs.inputs.put_frame.Goals as goal

pub returns-clause-puts : goal.returns-clause-puts
returns-clause-puts g c = λ old name inputs stood file frame put.
    let w = c.args.writer.now in
    let r = c.args.frames.now in
    let first = g.S.Shelf.outside c.args.shelf.now in
    let last = g.S.Shelf.outside c.frame.new.shelf in
    let plans = c.plans.result.now in
    let numbers = c.in-Some.numbering.now in
    let items : c.items-items.result.now ≡ r.reader = c.items-items.ensures in
    let none : c.items-items.result.now.error ≡ None = ap (λ (x : Reader). x.error) items ∙ c.requires.reader in
    let held : c.dictionary.result.now ≡ r.reader.before.dictionary =
    c.dictionary.ensures ∙ ap (λ (x : Reader). x.before.dictionary) items in
    let segment : c.segment.result.now ≡ r.reader.segment =
    c.segment.ensures.segment ∙ ap (λ (x : Reader). x.segment) items in
    let numbering : r.reader.numbering ≡ Some numbers =
    sym (ap (λ (x : Reader). x.numbering) items) ∙ sym c.numbering.ensures ∙ ap option_copied c.in-Some.is in
    let are : (class : ℕ) → plan_of plans class ≡ layout_in r.reader.before.dictionary class =
    λ class. c.plans.ensures none class ∙ ap (λ (x : Reader). layout_in x.before.dictionary class) items in
    let reads : All (ReadsBy plans r.reader.segment.order) r.reader.segment.nodes =
    subst (λ (segment : Collected). All (ReadsBy plans segment.order) segment.nodes) segment
    (c.segment.ensures.bodies none plans (c.plans.ensures none)) in
    let given : AnswersFrame first last w c.frame.new.self c.dictionary.result.now plans c.layouts.result.now
    c.segment.result.now numbers c.frame.result = record {
      answer = c.frame.ensures.answer c.requires.error;
      puts = c.frame.ensures.puts c.requires.error;
      written = c.frame.ensures.written;
      kept = c.frame.ensures.kept;
      no_error = c.frame.ensures.no_error;
    } in
    let answers : AnswersFrame first last w c.frame.new.self r.reader.before.dictionary plans r.layouts r.reader.segment
    numbers c.frame.result =
    subst (λ (layouts : ChannelLayouts). AnswersFrame first last w c.frame.new.self r.reader.before.dictionary plans
    layouts r.reader.segment numbers c.frame.result) c.layouts.ensures
    (subst (λ segment. AnswersFrame first last w c.frame.new.self r.reader.before.dictionary plans c.layouts.result.now
    segment numbers c.frame.result) segment
    (subst (λ held. AnswersFrame first last w c.frame.new.self held plans c.layouts.result.now c.segment.result.now
    numbers c.frame.result) held given)) in
    puts-frame file frame r stood old first last name inputs w c.frame.new.self plans numbers c.frame.result numbering
    are reads put answers

pub returns-clause-made : goal.returns-clause-made
returns-clause-made g c = λ old name inputs made.
    let first = g.S.Shelf.outside c.args.shelf.now in
    let last = g.S.Shelf.outside c.frame.new.shelf in
    let puts = c.frame.ensures.puts c.requires.error in
    subst (λ slot. IsMade old last name inputs slot) (sym c.frame.ensures.kept.0)
    (is_made-puts old first last name inputs c.args.writer.now.slot puts.0 c.frame.result made puts.1)

pub returns-clause-only : goal.returns-clause-only
returns-clause-only g c =
    let puts = c.frame.ensures.puts c.requires.error in
    only-puts (g.S.Shelf.outside c.args.shelf.now) (g.S.Shelf.outside c.frame.new.shelf) c.args.writer.now.slot puts.0
    c.frame.result puts.1
