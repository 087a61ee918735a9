-- A file that has ended: all its frames are given, and its dictionary can close a file.
use Rattle.std.proofs.Common.{◌≡◌, ℕ, true, false, List, refl, sym, ap, ◌∙◌, true≢false, codes}
use Rattle.std.specs.Option.{option_map_or}
use Rattle.scalar_types.specs.declared.Order.{Order}
use Rattle.dictionary.specs.declared.entries.Entry.{Entry}
use Rattle.file_grammar.specs.Closing.{closes}
use Rattle.file_grammar.specs.Item.{Item, Before, nothing_yet}
use Rattle.file_grammar.specs.MayStand.{IsWellFormed}
use Rattle.frame_content.specs.Frames.{Frame}
use Rattle.canonical_file.specs.Ranges.{AreBytes}
use Rattle.canonical_laws.specs.Content.{closing_by}
use Rattle.canonical_laws.proofs.SourceClosings.{HasFileEnd, stand-end, held-named, end-named}
use Rattle.canonical_laws.proofs.SourceEntries.{AreSources, no-sources}
use Rattle.canonical_laws.proofs.SourceItems.{stand-source}
use Rattle.canonical_laws.proofs.SourceStored.{IsOpenFrame, no-frame}
use Rattle.frame_reader.specs.Closings.{is_closed}
use Rattle.frame_reader.specs.Gives.{Closes, Gives}
use Rattle.frame_reader.specs.Given.{Frames, GivesAll}

-- the dictionary of a well-formed file can close a file
pub well_formed-closed : (file : List ℕ) (order : Order) (items : List Item) (last : Before) → AreBytes file
    → IsWellFormed file order items last → is_closed last.dictionary ≡ true
well_formed-closed file order items last bytes whole =
    let nothing : IsOpenFrame order nothing_yet.dictionary nothing_yet.frame nothing_yet.load =
    no-frame order nothing_yet.dictionary no-sources in
    let sources : AreSources last.dictionary =
    (stand-source order file nothing_yet last items bytes whole.begins.stand nothing).before.sources in
    let end : HasFileEnd last.dictionary =
    stand-end order file nothing_yet last items bytes whole.begins.stand nothing
    (λ closed. absurd (true≢false (sym closed))) whole.closed in
    ap (λ o. option_map_or (λ (e : Entry). closes e.elements) o false)
    (held-named last.dictionary (codes "FrEndOfFile") end.class end.entry sources.sound refl
    (end-named end.entry.name end.kind) end.held_is)
    ∙ end.closing

-- What a reader gives that has given all frames.
pub all-given : (file : List ℕ) (frames : List Frame) (r : Frames) → GivesAll file frames r
    → Gives file frames (Closes (closing_by r.reader.before.dictionary))
all-given file frames r all = record {
  order = r.reader.order;
  items = all.given.items;
  last = r.reader.before;
  well_formed = all.whole;
  is = ap (λ fs. record { closing = closing_by r.reader.before.dictionary; frames = fs }) all.given.frames_are;
}

-- Then its dictionary can close a file.
pub all-closed : (file : List ℕ) (frames : List Frame) (r : Frames) → AreBytes file → GivesAll file frames r
    → is_closed r.reader.before.dictionary ≡ true
all-closed file frames r bytes all =
    well_formed-closed file r.reader.order all.given.items r.reader.before bytes all.whole
