-- What may be drawn of an input, by how far it was read.
use Rattle.std.proofs.Common.{◌≡◌, ℕ, suc, ◌+◌, ◌-◌, ◌<◌, ◌≤◌, ◌⊎◌, inl, inr, List, [], ◌∷◌, ◌++◌, length, take}
use Rattle.std.proofs.Common.{Option, Some, None, refl, sym, ap, ◌∙◌, subst, arith}
use Rattle.std.proofs.lemmas.Bool.{cases_lt}
use Rattle.std.proofs.lemmas.List.{length-map, length-append}
use Rattle.std.proofs.lemmas.Slice.Zip.{AllZip-long}
use Rattle.std.specs.List.{AllZip}
use Rattle.scalar_types.specs.declared.Order.{Order}
use Rattle.frame_head.specs.Header.{header_of}
use Rattle.frame_outside.specs.Shelf.{Files}
use Rattle.file_grammar.specs.declared.fault.Fault.{Fault}
use Rattle.file_grammar.specs.Item.{Item, Before, nothing_yet, after}
use Rattle.file_grammar.specs.MayStand.{Begins}
use Rattle.file_grammar.specs.Fault.{IsItemFault}
use Rattle.file_grammar.proofs.Headers.{same_order, begins-unfaulted}
use Rattle.file_grammar.proofs.Chains.{IsEnd}
use Rattle.frame_content.specs.Frames.{Frame}
use Rattle.file_content.specs.Stored.{frames_in}
use Rattle.file_content.specs.Contents.{content_frame}
use Rattle.item_reader.specs.Looked.{look, IsWithinLook}
use Rattle.item_reader.proofs.Looking.{look-least}
use Rattle.canonical_file.specs.declared.closing.Closing.{Closing}
use Rattle.canonical_file.specs.Contents.{Content}
use Rattle.canonical_file.specs.Ordered.{IsInOrder}
use Rattle.canonical_laws.proofs.FramesCounted.{stand-counted}
use Rattle.canonical_laws.proofs.RecordsInTurn.{stand-append}
use Rattle.canonical_writer.specs.declared.errors.WriteError.{WriteError}
use Rattle.frame_reader.specs.Gives.{Ending, Closes, Breaks, Gives, frames_among}
use Rattle.frame_reader.specs.Given.{HasLooked, AreFirst}
use Rattle.frame_reader.proofs.FirstItems.{first-given, each-gives}
use Rattle.splicer.specs.Due.{Course, Passes, Refuses, course, held_then}
use Rattle.splicer.specs.Drawn.{header_look, DrawsToFault, DrawsToFrame, DrawsToNext, HasReached, Rest, MayDrawAfter}
use Rattle.splicer.specs.Drawn.{MayDrawOf, MayDrawOfHeld, MayDrawFrom}
use Rattle.splicer.proofs.Courses.{course-after, course-grows, passes-stood, refused-short}
use Rattle.splicer.proofs.LaterLooks.{within-along, stand-rest, stand-parts, EndsFrame, frame-ends}

-- ---- places of a file

-- the frames among the first items are as many as are counted at the place after them
frames-counted : (file : List ℕ) (order : Order) (items : List Item) (last : Before) → Begins file order items last
    → length (frames_among order items) ≡ last.frames
frames-counted file order items last begins =
    let counted = stand-counted order file nothing_yet last items (omega arith) begins.stand in
    omega (arith, counted.told, length-map (frames_in order items) (content_frame order))

-- bytes of a file were drawn after items among which so many frames end
record LooksAfter (file : List ℕ) (count n : ℕ) : Type 0 where
  order : Order
  items : List Item
  last : Before
  begins : Begins file order items last
  ended : last.frames ≡ count
  within : IsWithinLook order file last.place n

-- a file that begins with these items has no others to its end
record GoesToEnd (file : List ℕ) (frames : List Frame) (end : Before) : Type 0 where
  order : Order
  items : List Item
  begins : Begins file order items end
  is_end : IsEnd order file end
  frames_are : frames ≡ frames_among order items

-- what was looked at after some items is within the look where the items end
looks-at_end : (file : List ℕ) (frames : List Frame) (count n : ℕ) (end : Before)
    (goes : GoesToEnd file frames end) → LooksAfter file count n → IsWithinLook goes.order file end.place n
looks-at_end file frames count n end goes looks =
    let same : looks.order ≡ goes.order =
    same_order (header_of (take 40 file)) looks.order goes.order looks.begins.header goes.begins.header in
    let P : Order → Type 0 = λ o. Begins file o looks.items looks.last in
    let Q : Order → Type 0 = λ o. IsWithinLook o file looks.last.place n in
    let begins : Begins file goes.order looks.items looks.last = subst P same looks.begins in
    let rest = stand-rest goes.order file nothing_yet looks.last end looks.items goes.items begins.stand
    goes.begins.stand goes.is_end in
    within-along goes.order file looks.last end rest.0 n rest.1 (subst Q same looks.within)

-- a frame that ends after items ends after more of them
ends-drawn : (file : List ℕ) (order : Order) (items : List Item) (last : Before) (number n : ℕ)
    → Begins file order items last → (ends : EndsFrame order file last number)
    → n ≤ look order file (after order ends.mid ends.taken).place → DrawsToFrame file number n
ends-drawn file order items last number n begins ends within = record {
  order = order;
  earlier = items ++ ends.earlier;
  taken = ends.taken;
  last = after order ends.mid ends.taken;
  begins = whole;
  before = frames-counted file order (items ++ ends.earlier) ends.mid before ∙ ends.before;
  with_it = frames-counted file order ((items ++ ends.earlier) ++ ends.taken ∷ []) (after order ends.mid ends.taken)
      whole ∙ ends.with_it;
  within = within;
}
  where
    before : Begins file order (items ++ ends.earlier) ends.mid
    before = record {
      size = begins.size;
      header = begins.header;
      stand = stand-append order file nothing_yet last ends.mid items ends.earlier begins.stand ends.stand;
    }

    whole : Begins file order ((items ++ ends.earlier) ++ ends.taken ∷ []) (after order ends.mid ends.taken)
    whole = record {
      size = begins.size;
      header = begins.header;
      stand = stand-append order file nothing_yet ends.mid (after order ends.mid ends.taken) (items ++ ends.earlier)
          (ends.taken ∷ []) before.stand (ends.may, refl);
    }

-- and within the look after each frame that ends later
looks-to_frame : (file : List ℕ) (frames : List Frame) (count number n : ℕ) (end : Before) → GoesToEnd file frames end
    → LooksAfter file count n → count ≤ number → number < length frames → DrawsToFrame file number n
looks-to_frame file frames count number n end goes looks least less =
    let same : looks.order ≡ goes.order =
    same_order (header_of (take 40 file)) looks.order goes.order looks.begins.header goes.begins.header in
    let P : Order → Type 0 = λ o. Begins file o looks.items looks.last in
    let Q : Order → Type 0 = λ o. IsWithinLook o file looks.last.place n in
    let begins : Begins file goes.order looks.items looks.last = subst P same looks.begins in
    let rest = stand-rest goes.order file nothing_yet looks.last end looks.items goes.items begins.stand
    goes.begins.stand goes.is_end in
    let all : length frames ≡ end.frames =
    ap (λ (fs : List Frame). length fs) goes.frames_are ∙ frames-counted file goes.order goes.items end goes.begins in
    let ends = frame-ends goes.order file looks.last end rest.0 number rest.1 (omega (arith, looks.ended, least))
    (omega (arith, all, less)) in
    ends-drawn file goes.order looks.items looks.last number n begins ends
    (ends.within n (subst Q same looks.within))

-- ---- how far an input was read

-- up to a header, or to what stands after frames that passed
abbrev pub Reaches : List ℕ → Option Closing → List Frame → ℕ → Type 0
Reaches file closing stood n = (n ≤ header_look) ⊎ HasReached file closing stood n

-- before its first item it is read no further than for a header
looks-first : (file : List ℕ) (order : Order) (items : List Item) (last : Before) (n : ℕ) → n ≤ header_look
    → Begins file order items last → LooksAfter file 0 n
looks-first file order items last n few begins = record {
  order = order;
  items = [];
  last = nothing_yet;
  begins = record { size = begins.size; header = begins.header; stand = refl };
  ended = refl;
  within = inl (omega (arith, few, look-least order file 40));
}

-- after frames that it was looked at, and after the next one
looks-given : (file : List ℕ) (frames : List Frame) (n : ℕ) → HasLooked file frames n
    → LooksAfter file (length frames) n
looks-given file frames n looked = record {
  order = looked.order;
  items = looked.items;
  last = looked.last;
  begins = looked.begins;
  ended = sym (frames-counted file looked.order looked.items looked.last looked.begins)
      ∙ ap (λ (fs : List Frame). length fs) (sym looked.frames_are);
  within = looked.within;
}

looks-next : (file : List ℕ) (number n : ℕ) → DrawsToFrame file number n → LooksAfter file (suc number) n
looks-next file number n to = record {
  order = to.order;
  items = to.earlier ++ to.taken ∷ [];
  last = to.last;
  begins = to.begins;
  ended = sym (frames-counted file to.order (to.earlier ++ to.taken ∷ []) to.last to.begins) ∙ to.with_it;
  within = inl to.within;
}

-- the frames that passed are the first of the file
reached-first : (file : List ℕ) (frames ordered : List Frame) (n : ℕ) → AllZip IsInOrder frames ordered
    → HasLooked file frames n ⊎ DrawsToNext file frames n → AreFirst file ordered
reached-first file frames ordered n in_order (inl looked) =
    let P : List Frame → Type 0 = λ fs. AllZip IsInOrder fs ordered in
    record {
      order = looked.order;
      items = looked.items;
      last = looked.last;
      begins = looked.begins;
      in_order = subst P looked.frames_are in_order;
    }
reached-first file frames ordered n in_order (inr next) =
    let P : List Frame → Type 0 = λ fs. AllZip IsInOrder fs ordered in
    let to = next.to in
    let parts = stand-parts to.order file nothing_yet to.last to.earlier (to.taken ∷ []) to.begins.stand in
    record {
      order = to.order;
      items = to.earlier;
      last = parts.0;
      begins = record { size = to.begins.size; header = to.begins.header; stand = parts.1 };
      in_order = subst P next.before_are in_order;
    }

-- ---- where a frame of it is refused

-- it was read no further than up to that frame
looked-to_refused : (file : List ℕ) (frames passed : List Frame) (number n : ℕ) (end : Before)
    → GoesToEnd file frames end → HasLooked file passed n ⊎ DrawsToNext file passed n → length passed ≤ number
    → number < length frames → DrawsToFrame file number n
looked-to_refused file frames passed number n end goes (inl looked) least less =
    looks-to_frame file frames (length passed) number n end goes (looks-given file passed n looked) least less
looked-to_refused file frames passed number n end goes (inr next) least less = by (cases_lt (length passed) number)
  where
    by : (length passed < number) ⊎ (number ≤ length passed) → DrawsToFrame file number n
    by (inl later) =
        looks-to_frame file frames (suc (length passed)) number n end goes (looks-next file (length passed) n next.to)
        (omega (arith, later)) less
    by (inr here) =
        let same : length passed ≡ number = omega (arith, least, here) in
        subst (λ k. DrawsToFrame file k n) same next.to

refused-drawn : (file : List ℕ) (closing : Option Closing) (stood frames ordered then_stand : List Frame)
    (error : WriteError) (ending : Ending) (n : ℕ) (end : Before) → GoesToEnd file frames end
    → Gives file frames ending → AllZip IsInOrder frames ordered
    → course closing stood ordered ≡ Refuses error then_stand
    → length then_stand - length stood < length frames → Reaches file closing stood n
    → DrawsToFrame file (length then_stand - length stood) n
refused-drawn file closing stood frames ordered then_stand error ending n end goes gives in_order refuses less
    (inl few) =
    looks-to_frame file frames 0 (length then_stand - length stood) n end goes
    (looks-first file goes.order goes.items end n few goes.begins) (omega arith) less
refused-drawn file closing stood frames ordered then_stand error ending n end goes gives in_order refuses less
    (inr r) =
    let rest = first-given file frames ordered r.ordered ending gives in_order
    (reached-first file r.frames r.ordered n r.in_order r.looked) in
    let past = course-grows closing r.then_stand rest.0 (Refuses error then_stand)
    (sym (course-after closing stood r.ordered rest.0 r.then_stand r.passes)
    ∙ ap (course closing stood) (sym rest.1) ∙ refuses) in
    let passed : length r.then_stand ≡ length stood + length r.ordered =
    ap (λ (fs : List Frame). length fs) (passes-stood closing stood r.ordered r.then_stand r.passes)
    ∙ length-append stood r.ordered in
    let given = AllZip-long IsInOrder r.frames r.ordered r.in_order in
    looked-to_refused file frames r.frames (length then_stand - length stood) n end goes r.looked
    (omega (arith, past, passed, given)) less

-- ---- where it breaks

-- after frames that passed it was looked at after items among which some frames end
looks-reached : (file : List ℕ) (frames : List Frame) (n : ℕ) → HasLooked file frames n ⊎ DrawsToNext file frames n
    → (count : ℕ) × LooksAfter file count n
looks-reached file frames n (inl looked) = (length frames, looks-given file frames n looked)
looks-reached file frames n (inr next) = (suc (length frames), looks-next file (length frames) n next.to)

-- the end of a file that has a fault at an item
abbrev fault-goes : (file : List ℕ) (fault : Fault) (is : IsItemFault file fault)
    → GoesToEnd file (frames_among is.order is.items) is.last
fault-goes file fault is = record {
  order = is.order;
  items = is.items;
  begins = is.begins;
  is_end = inr (fault, record { holds = is.holds });
  frames_are = refl;
}

-- it was read no further than up to its fault
broken-drawn : (file : List ℕ) (closing : Option Closing) (stood frames : List Frame) (fault : Fault) (n : ℕ)
    → Gives file frames (Breaks fault) → Reaches file closing stood n → DrawsToFault file fault n
broken-drawn file closing stood frames fault n (inl none) (inl few) = inl (none.1, few)
broken-drawn file closing stood frames fault n (inl none) (inr r) =
    let first = reached-first file r.frames r.ordered n r.in_order r.looked in
    absurd (begins-unfaulted file first.order first.items first.last fault first.begins none.1)
broken-drawn file closing stood frames fault n (inr until) (inl few) =
    let is = until.is_fault in
    inr (
      is,
      looks-at_end file (frames_among is.order is.items) 0 n is.last (fault-goes file fault is)
          (looks-first file is.order is.items is.last n few is.begins),
    )
broken-drawn file closing stood frames fault n (inr until) (inr r) =
    let is = until.is_fault in
    let looks = looks-reached file r.frames n r.looked in
    inr (is, looks-at_end file (frames_among is.order is.items) looks.0 n is.last (fault-goes file fault is) looks.1)

-- ---- what may be drawn

-- where a file has frames, it goes to an end
frames-go : (file : List ℕ) (frames : List Frame) (ending : Ending) → Gives file frames ending → 0 < length frames
    → (end : Before) × GoesToEnd file frames end
frames-go file frames (Closes closing) gives some = (
  gives.last,
  record {
    order = gives.order;
    items = gives.items;
    begins = gives.well_formed.begins;
    is_end = inl (record { closed = gives.well_formed.closed; ends = gives.well_formed.ends });
    frames_are = ap (λ (c : Content). c.frames) gives.is;
  },
)
frames-go file frames (Breaks fault) (inl none) some =
    let empty : length frames ≡ 0 = ap (λ (fs : List Frame). length fs) none.0 in
    absurd (omega (arith, empty, some))
frames-go file frames (Breaks fault) (inr until) some =
    let goes = fault-goes file fault until.is_fault in (
      until.is_fault.last,
      record {
        order = goes.order;
        items = goes.items;
        begins = goes.begins;
        is_end = goes.is_end;
        frames_are = until.frames_are;
      },
    )

-- so far as it was read may be drawn of an input, and of those after it what may be
draws-after : (file : List ℕ) (closing : Option Closing) (stood frames ordered : List Frame) (ending : Ending)
    (rest : Rest) (n : ℕ) (c : Course) → Gives file frames ending → AllZip IsInOrder frames ordered → n ≤ length file
    → Reaches file closing stood n
    → ((held : Option Closing) (then_stand : List Frame) → (m : ℕ) × rest held then_stand m)
    → course closing stood ordered ≡ c → MayDrawAfter file stood c ending closing rest n
draws-after file closing stood frames ordered ending rest n (Refuses error then_stand) gives in_order within reaches
    later is =
    let short = refused-short closing stood ordered then_stand error is in
    let long = course-grows closing stood ordered (Refuses error then_stand) is in
    let as_many = AllZip-long IsInOrder frames ordered in_order in
    let less : length then_stand - length stood < length frames = omega (arith, short, long, as_many) in
    let goes = frames-go file frames ending gives (omega (arith, less)) in
    refused-drawn file closing stood frames ordered then_stand error ending n goes.0 goes.1 gives in_order is less
    reaches
draws-after file closing stood frames ordered (Breaks fault) rest n (Passes then_stand) gives in_order within reaches
    later is = broken-drawn file closing stood frames fault n gives reaches
draws-after file closing stood frames ordered (Closes own) rest n (Passes then_stand) gives in_order within reaches
    later is =
    let m = later (held_then closing own) then_stand in
    (m.0, m.1, omega (arith, within))

pub draws-reached : (file : List ℕ) (closing : Option Closing) (stood : List Frame) (rest : Rest) (n : ℕ)
    → n ≤ length file → Reaches file closing stood n
    → ((held : Option Closing) (then_stand : List Frame) → (m : ℕ) × rest held then_stand m)
    → MayDrawOf file closing stood rest n
draws-reached file closing stood rest n within reaches later =
    let given = each-gives file in
    record {
      frames = given.0;
      ordered = given.1;
      ending = given.2;
      gives = given.3;
      in_order = given.4;
      within = draws-after file closing stood given.0 given.1 given.2 rest n (course closing stood given.1) given.3
          given.4 within reaches later refl;
    }

-- of an input that is held or not nothing may be drawn
none_held : (held : Option (List ℕ)) (closing : Option Closing) (stood : List Frame) (rest : Rest)
    → ((held : Option Closing) (then_stand : List Frame) → (m : ℕ) × rest held then_stand m)
    → MayDrawOfHeld held closing stood rest 0
none_held None closing stood rest later = refl
none_held (Some file) closing stood rest later =
    draws-reached file closing stood rest 0 (omega arith) (inl (omega arith)) later

-- Of all inputs some bytes may be drawn, be it none.
pub draws-any : (files : Files) (names : List (List ℕ)) (closing : Option Closing) (stood : List Frame)
    → (m : ℕ) × MayDrawFrom files closing stood names m
draws-any files [] closing stood = (0, refl)
draws-any files (name ∷ names) closing stood = (
  0,
  none_held (files name) closing stood (λ closing stood n. MayDrawFrom files closing stood names n)
      (λ held then_stand. draws-any files names held then_stand),
)
