-- An entry of a class that was met stands already; another is put where none of its class stands.
use Rattle.std.proofs.Common.{◌≡◌, true, false, refl, sym, ◌∙◌, subst}
use Rattle.std.specs.Option.{option_copied}
use Rattle.std.proofs.lemmas.Option.{same_Some}
use Rattle.std.proofs.lemmas.Result.{err_from_is_err_and}
use Rattle.dictionary.specs.declared.entries.Entry.{Entry}
use Rattle.frame_content.specs.Labels.{printed_entry}
use Rattle.contents_table.proofs.ReadRecords.{entry-class}
use Rattle.canonical_file.specs.Records.{new_entry, with_entry}
use Rattle.canonical_file.specs.Splices.{entries_used, clashes}
use Rattle.canonical_writer.specs.Parts.{IsShortEntry}
use Rattle.canonical_writer.proofs.EntryUses.{met-at, usable-held, used-met, used-new}
use Rattle.canonical_writer.proofs.frame_part.FramePart.push_entry.Goals as goal

pub returns-then-self-class-clause-used : goal.returns-then-self-class-clause-used
returns-then-self-class-clause-used c = λ sound e there short ready.
    used-met (option_copied c.args.closing) c.args.used.now c.args.dictionary.now c.args.class e c.args.self.now sound
    there (met-at c.args.self.now.met c.args.class c.if-self-class.true) ready

pub push-requires-clause-class : goal.push-requires-clause-class
push-requires-clause-class c =
    sym (entry-class c.args.dictionary.now c.args.class c.in-Some.entry.now (sym c.in-Some.ensures.entry))

pub push-requires-clause-usable : goal.push-requires-clause-usable
push-requires-clause-usable c =
    usable-held c.args.dictionary.now c.args.class c.in-Some.entry.now c.in-Some.ensures.sound
    (sym c.in-Some.ensures.entry)

pub returns-in_err-push-clause-clash : goal.returns-in_err-push-clause-clash
returns-in_err-push-clause-clash c = λ other e was there ready.
    let p = err_from_is_err_and c.from_residual.result c.from_residual.ensures.1 in
    let same : c.in-Some.entry.now ≡ e = same_Some c.in-Some.entry.now e (c.in-Some.ensures.entry ∙ there) in
    let class_is : c.args.class ≡ e.class = entry-class c.args.dictionary.now c.args.class e there in
    let clash = c.in_err-push.ensures.clash other (let q = p.1 in let r = p.2 in cc) in (
      clash.0 ∙ class_is,
      subst (λ (e : Entry). clashes (entries_used c.args.used.now (option_copied c.args.closing))
          (printed_entry e) ≡ true) same (clash.1 ready.agree),
    )

pub returns-in_ok-push-clause-used : goal.returns-in_ok-push-clause-used
returns-in_ok-push-clause-used c = λ sound e there short ready.
    let same : c.in-Some.entry.now ≡ e = same_Some c.in-Some.entry.now e (c.in-Some.ensures.entry ∙ there) in
    let used = c.args.used.now in
    let appends = c.in_ok-push.ensures.appends in
    let closing = option_copied c.args.closing in
    used-new closing used c.push.new.self c.args.dictionary.now c.args.class e c.args.self.now _ appends.items sound
    there ready appends.whole
    (subst (λ (e : Entry). IsShortEntry e
    → appends.items ≡ new_entry used (printed_entry e)) same appends.related short)
    refl
    (subst (λ (e : Entry). c.push.new.self ≡ with_entry used (printed_entry e)) same c.in_ok-push.ensures.used)
    (subst (λ (e : Entry). clashes (entries_used used closing) (printed_entry e) ≡ false) same
    c.in_ok-push.ensures.no_clash)
    (c.in_ok-push.ensures.consistent ready.agree)
