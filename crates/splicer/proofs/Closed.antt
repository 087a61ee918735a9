-- What an input leaves at its end: the closing of the first is held, and its entries agree with those that were used.
use Rattle.std.proofs.Common.{◌≡◌, ℕ, Bool, true, false, cond, find, Option, Some, None, List, [], ◌∷◌, ◌++◌}
use Rattle.std.proofs.Common.{Result, Err, refl, sym, ap, ◌∙◌, subst, true≢false, is_none, IfSome}
use Rattle.std.proofs.lemmas.Bool.{false≢true}
use Rattle.std.proofs.lemmas.List.Elements.{All-from_recursion}
use Rattle.std.proofs.lemmas.Slice.Eq.{bytes_eq-Decides}
use Rattle.std.specs.List.{AllByRecursion, AllZip}
use Rattle.std.specs.Option.{option_map, option_to_list}
use Rattle.std.specs.Str.{bytes_eq}
use Rattle.scalar_types.specs.declared.Order.{Order}
use Rattle.frame_outside.specs.Shelf.{Outside}
use Rattle.dictionary.specs.declared.entries.Entry.{Entry}
use Rattle.dictionary.specs.Dictionary.{class_named, IsDictionary}
use Rattle.file_grammar.specs.declared.fault.Fault.{Fault}
use Rattle.file_grammar.specs.Item.{Item, Before}
use Rattle.file_grammar.specs.MayStand.{IsWellFormed}
use Rattle.frame_content.specs.Frames.{Frame}
use Rattle.canonical_file.specs.declared.closing.Closing.{Closing}
use Rattle.canonical_file.specs.Ranges.{AreBytes}
use Rattle.canonical_file.specs.Ordered.{IsInOrder}
use Rattle.canonical_file.specs.Splices.{closing_entries, entries_used}
use Rattle.canonical_file.specs.Written.{Written, header_alone, after_frames}
use Rattle.canonical_laws.specs.Content.{closing_by}
use Rattle.canonical_laws.specs.Writable.{IsWritableTable, IsWritableClosing}
use Rattle.canonical_laws.specs.Sources.{printed_entries}
use Rattle.canonical_laws.proofs.AgreeingEntries.{IsIn, AreIn}
use Rattle.canonical_laws.proofs.FrameEntries.{frames-needed, none-needed}
use Rattle.canonical_laws.proofs.KeptContents.{orders-writable}
use Rattle.canonical_laws.proofs.SourceFrames.{both}
use Rattle.canonical_laws.proofs.Sources.{source_entries, source_frames, source_closing}
use Rattle.canonical_writer.specs.Parts.{AreConsistent}
use Rattle.canonical_writer.specs.Writer.{Writer}
use Rattle.item_reader.specs.declared.item.ReadError.{ReadError}
use Rattle.item_reader.specs.declared.item.ReadError.TheVariants as read
use Rattle.frame_reader.specs.Gives.{frames_among}
use Rattle.frame_reader.specs.Given.{Frames, HasGiven, GivesAll}
use Rattle.frame_reader.proofs.Ended.{all-given}
use Rattle.splicer.specs.declared.errors.InputError.{InputError}
use Rattle.splicer.specs.declared.errors.InputError.TheVariants as input
use Rattle.splicer.specs.Errors.{error_of_read}
use Rattle.splicer.specs.Put.{HasPut, IsEnded, Puts, PutsAll}
use Rattle.splicer.proofs.Courses.{passes-stood}
use Rattle.splicer.proofs.Unread.{puts-part}

-- ---- entries of one dictionary agree

-- an entry under its own name stays so with another one before it
named-more : (dictionary : List Entry) (x : Entry) (xs : List Entry) (e : Entry) → IsDictionary dictionary
    → IsIn dictionary x → IsIn dictionary e → class_named xs e.name ≡ Some e.class
    → class_named (x ∷ xs) e.name ≡ Some e.class
named-more dictionary x xs e sound here other later = by (bytes_eq e.name x.name) refl
  where
    by : (b : Bool) → bytes_eq e.name x.name ≡ b
        → option_map (λ (y : Entry). y.class) (cond b (Some x) (find (λ (y : Entry). bytes_eq e.name y.name) xs))
        ≡ Some e.class
    by true same =
        sym (sound.entries x.class x here).name
        ∙ ap (class_named dictionary) (sym ((bytes_eq-Decides e.name x.name).0 same))
        ∙ (sound.entries e.class e other).name
    by false differ = later

-- and so do all of some entries
all-more : (dictionary : List Entry) (x : Entry) (xs es : List Entry) → IsDictionary dictionary → IsIn dictionary x
    → AreIn dictionary es → AllByRecursion (λ e. class_named xs e.name ≡ Some e.class) es
    → AllByRecursion (λ e. class_named (x ∷ xs) e.name ≡ Some e.class) es
all-more dictionary x xs [] sound here all named = tt
all-more dictionary x xs (e ∷ es) sound here all named =
    (named-more dictionary x xs e sound here all.0 named.0, all-more dictionary x xs es sound here all.1 named.1)

-- the first entry is found under its own name
own-named : (x : Entry) (xs : List Entry) → class_named (x ∷ xs) x.name ≡ Some x.class
own-named x xs =
    ap (λ b. option_map (λ (y : Entry). y.class)
    (cond b (Some x) (find (λ (y : Entry). bytes_eq x.name y.name) xs)))
    ((bytes_eq-Decides x.name x.name).1 refl)

-- each of them is found under its own name
all-named : (dictionary used : List Entry) → IsDictionary dictionary → AreIn dictionary used
    → AllByRecursion (λ e. class_named used e.name ≡ Some e.class) used
all-named dictionary [] sound all = tt
all-named dictionary (x ∷ xs) sound all =
    (own-named x xs, all-more dictionary x xs xs sound all.0 all.1 (all-named dictionary xs sound all.1))

-- Entries that one dictionary holds are each used under one class alone.
pub consistent-in : (dictionary used : List Entry) → IsDictionary dictionary → AreIn dictionary used
    → AreConsistent used
consistent-in dictionary used sound all =
    All-from_recursion (λ e. class_named used e.name ≡ Some e.class) used (all-named dictionary used sound all)

-- the entries of a closing that can be written are of the dictionary
closing-in : (dictionary : List Entry) (c : Closing) → IsWritableClosing dictionary c
    → AreIn dictionary (closing_entries c)
closing-in dictionary c w = by c.table w.table
  where
    by : (o : Option Entry) → IfSome o (IsWritableTable dictionary) → AreIn dictionary (option_to_list o ++ c.end ∷ [])
    by None table = (w.end.held, tt)
    by (Some e) table = (table.held, (w.end.held, tt))

-- The entries that the frames of a file use, and those of its closing, agree.
pub closing-agrees : (file : List ℕ) (order : Order) (items : List Item) (last : Before) (ordered : List Frame)
    → AreBytes file → IsWellFormed file order items last → AllZip IsInOrder (frames_among order items) ordered
    → AreConsistent (entries_used (after_frames header_alone ordered).entries (Some (closing_by last.dictionary)))
closing-agrees file order items last ordered bytes whole in_order =
    let dictionary : List Entry = printed_entries last.dictionary in
    let closing : Closing = closing_by last.dictionary in
    let used : AreIn dictionary (after_frames header_alone ordered).entries =
    (frames-needed dictionary header_alone ordered (none-needed dictionary)
    (orders-writable dictionary (frames_among order items) ordered
    (source_frames file order items last bytes whole.begins) in_order)).held in
    consistent-in dictionary ((after_frames header_alone ordered).entries ++ closing_entries closing)
    (source_entries file order items last bytes whole.begins).dictionary
    (both (IsIn dictionary) (after_frames header_alone ordered).entries (closing_entries closing) used
    (closing-in dictionary closing (source_closing file order items last bytes whole)))

-- ---- how an input is left

-- the frames that were put are all of the file
abbrev whole-put : (file : List ℕ) (frames : List Frame) (r : Frames) → HasGiven file frames r → IsEnded file r
    → GivesAll file frames r
whole-put file frames r given ended = record {
  given = given;
  whole = record { begins = given.begins; closed = ended.1.whole.closed; ends = ended.1.whole.ends };
}

-- of a further input: the closing that is held stays
pub puts-further : (file : List ℕ) (r : Frames) (closing : Option Closing) (stood : List Frame) (old now : Outside)
    (name : List ℕ) (inputs : ℕ) (w : Writer) → IsEnded file r → false ≡ is_none closing
    → HasPut file r closing stood old now name inputs w → PutsAll file closing stood old now name inputs w
puts-further file r None stood old now name inputs w ended further put = absurd (false≢true further)
puts-further file r (Some first) stood old now name inputs w ended further put = record {
  own = closing_by r.reader.before.dictionary;
  frames = put.frames;
  ordered = put.ordered;
  then_stand = put.then_stand;
  content = all-given file put.frames r (whole-put file put.frames r put.given ended);
  in_order = put.in_order;
  passes = put.passes;
  written = put.written;
  closing_is = put.closing_is;
}

-- of the first: its own closing is held then
pub puts-first : (file : List ℕ) (r : Frames) (closing : Option Closing) (stood : List Frame) (old now : Outside)
    (name : List ℕ) (inputs : ℕ) (w new : Writer) (c : Closing) → AreBytes file → IsEnded file r
    → true ≡ is_none closing → HasPut file r closing stood old now name inputs w → new ≡ record w { closing = Some c }
    → c ≡ closing_by r.reader.before.dictionary → PutsAll file closing stood old now name inputs new
puts-first file r (Some first) stood old now name inputs w new c bytes ended none put is closing_is =
    absurd (true≢false none)
puts-first file r None stood old now name inputs w new c bytes ended none put is closing_is =
    subst (PutsAll file None stood old now name inputs)
    (sym (is ∙ ap (λ (c : Closing). record w { closing = Some c }) closing_is)) (record {
      own = own;
      frames = put.frames;
      ordered = put.ordered;
      then_stand = put.then_stand;
      content = all-given file put.frames r whole;
      in_order = put.in_order;
      passes = put.passes;
      written = record {
        made = put.written.made;
        written = put.written.written;
        error = put.written.error;
        agree = subst (λ (x : Written). AreConsistent (entries_used x.entries (Some own)))
            (sym (put.written.written ∙ ap (after_frames header_alone) stand))
            (closing-agrees file r.reader.order put.given.items r.reader.before put.ordered bytes whole.whole
            (subst (λ frames. AllZip IsInOrder frames put.ordered) put.given.frames_are put.in_order));
      };
      closing_is = refl;
    })
  where
    own : Closing
    own = closing_by r.reader.before.dictionary

    whole : GivesAll file put.frames r
    whole = whole-put file put.frames r put.given ended

    stand : put.then_stand ≡ put.ordered
    stand =
        passes-stood None stood put.ordered put.then_stand put.passes
        ∙ ap (λ (fs : List Frame). fs ++ put.ordered) (put.none_stood refl)

-- ---- where it is not closed

-- it was closed, so memory failed
pub puts-no_closing : (file : List ℕ) (r : Frames) (closing : Option Closing) (stood : List Frame) (old now : Outside)
    (name : List ℕ) (inputs : ℕ) (w : Writer) (error : ReadError) → ((fault : Fault) → error ≡ read.Fault fault → ⊥)
    → (error ≡ read.Device → ⊥) → HasPut file r closing stood old now name inputs w
    → Puts file closing stood old now name inputs w (Err (error_of_read error))
puts-no_closing file r closing stood old now name inputs w (read.Fault fault) no_fault no_device put =
    absurd (no_fault fault refl)
puts-no_closing file r closing stood old now name inputs w read.Device no_fault no_device put =
    absurd (no_device refl)
puts-no_closing file r closing stood old now name inputs w read.NoMemory no_fault no_device put =
    puts-part file r closing stood old now name inputs w put

-- a fault that is given on is one that the reader found
pub unread-fault : (error : ReadError) (fault : Fault)
    → ◌≡◌ {A = Result Unit InputError} (Err (error_of_read error)) (Err (input.Fault fault)) → error ≡ read.Fault fault
unread-fault (read.Fault other) fault is = cc
unread-fault read.Device fault is = absurd cc
unread-fault read.NoMemory fault is = absurd cc
