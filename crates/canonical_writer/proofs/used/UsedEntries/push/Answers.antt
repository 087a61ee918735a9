use Rattle.std.proofs.Common.{◌≡◌, false, not, List, [], Option, Bor, OnOk, ap, sym, ◌∙◌, subst}
use Rattle.std.specs.Option.{option_copied, option_map_or}
use Rattle.dictionary.specs.declared.entries.Entry.{Entry}
use Rattle.frame_content.specs.Labels.{printed_entry}
use Rattle.canonical_file.specs.Splices.{clashes, entries_used, closing_entries}
use Rattle.canonical_file.specs.declared.closing.Closing.{Closing}
use Rattle.canonical_writer.proofs.Clashes.{clashes-printed, none-stands, clashes-closing, clashes-added, clashes-named}
use Rattle.canonical_writer.proofs.Clashes.{consistent-added}
use Rattle.canonical_writer.proofs.used.UsedEntries.push.Goals as goal
use Rattle.canonical_writer.proofs.used.UsedEntries.push.Goals.{then-same_entry, else-same_entry}

-- the entries of the closing, where there is one
abbrev closing_used : Option (Bor Closing) → List Entry
closing_used closing = option_map_or closing_entries (option_copied closing) []

pub returns-in-Some-clause-no_clash : goal.returns-in-Some-clause-no_clash
returns-in-Some-clause-no_clash c =
    let used = entries_used c.args.self.now (option_copied c.args.closing) in
    let e = printed_entry c.args.entry.now in
    elim c.if-same_entry.branch [
      | then-same_entry w ↦ subst (λ r. OnOk r (clashes used e ≡ false)) (sym w.result-is)
          (clashes-printed c.self.inside.entries c.args.self.now
          (closing_used c.args.closing) c.args.class c.args.entry.now c.in-Some.old.now c.self.view_is c.in-Some.ensures.entry c.requires.class
          c.requires.usable.read
          ∙ ap not (sym c.same_entry.ensures.tests ∙ w.if-same_entry.true))
      | else-same_entry w ↦ subst (λ r. OnOk r (clashes used e ≡ false)) (sym w.result-is) tt
    ]

pub returns-in-Some-clause-clash : goal.returns-in-Some-clause-clash
returns-in-Some-clause-clash c =
    λ other is.
    elim c.if-same_entry.branch [
      | then-same_entry w ↦ let h = sym w.result-is ∙ is in cc
      | else-same_entry w ↦ let h = sym w.result-is ∙ is in (
        cc,
        λ agree. clashes-printed c.self.inside.entries c.args.self.now
            (closing_used c.args.closing) c.args.class c.args.entry.now c.in-Some.old.now c.self.view_is c.in-Some.ensures.entry c.requires.class
            c.requires.usable.read
            ∙ ap not (sym c.same_entry.ensures.tests ∙ w.if-same_entry.false),
      )
    ]

pub returns-then-clashes_with_closing-clause-clash : goal.returns-then-clashes_with_closing-clause-clash
returns-then-clashes_with_closing-clause-clash c =
    λ other is. (
      cc,
      λ agree. clashes-closing c.args.self.now (closing_used c.args.closing) (printed_entry c.args.entry.now)
          (none-stands c.self.inside.entries c.args.self.now c.args.class
          (printed_entry c.args.entry.now) c.self.view_is
          c.in_default.ensures.entry c.requires.class)
          (sym c.clashes_with_closing.ensures ∙ c.if-clashes_with_closing.true),
    )

pub returns-clause-no_clash : goal.returns-clause-no_clash
returns-clause-no_clash c =
    clashes-added c.push_new.result c.args.self.now (closing_used c.args.closing) (printed_entry c.args.entry.now)
    (none-stands c.self.inside.entries c.args.self.now c.args.class (printed_entry c.args.entry.now) c.self.view_is
    c.in_default.ensures.entry c.requires.class)
    c.push_new.ensures.no_clash (sym c.clashes_with_closing.ensures ∙ c.if-clashes_with_closing.false)

pub returns-clause-clash : goal.returns-clause-clash
returns-clause-clash c =
    λ other is.
    let clash = c.push_new.ensures.clash other is in (
      clash.0,
      λ agree. clashes-named c.args.self.now (closing_used c.args.closing) (printed_entry c.args.entry.now)
          (none-stands c.self.inside.entries c.args.self.now c.args.class
          (printed_entry c.args.entry.now) c.self.view_is
          c.in_default.ensures.entry c.requires.class)
          clash.1 (sym c.clashes_with_closing.ensures ∙ c.if-clashes_with_closing.false) agree,
    )

pub returns-clause-consistent : goal.returns-clause-consistent
returns-clause-consistent c =
    consistent-added c.push_new.result c.args.self.now c.push_new.new.self (closing_used c.args.closing)
    (printed_entry c.args.entry.now)
    (none-stands c.self.inside.entries c.args.self.now c.args.class (printed_entry c.args.entry.now) c.self.view_is
    c.in_default.ensures.entry c.requires.class)
    c.push_new.ensures.used c.push_new.ensures.no_clash
    (sym c.clashes_with_closing.ensures ∙ c.if-clashes_with_closing.false)
