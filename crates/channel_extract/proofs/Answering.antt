-- On a well-formed file the answer that is due is the only one that may come.
use Rattle.std.proofs.Common.{◌≡◌, ℕ, inl, inr, Bool, true, false, Option, Some, None, List, [], ◌∷◌}
use Rattle.std.proofs.Common.{length, refl, sym, ap, ◌∙◌, subst}
use Rattle.std.specs.Prelude.{if◌then◌else◌, ◌==◌, nat_le, nat_lt}
use Rattle.std.specs.List.{AllZip, list_all}
use Rattle.std.specs.Option.{option_map_or}
use Rattle.rooted_graph.proofs.Queues.{order_exists}
use Rattle.rooted_graph.proofs.Ends.{same_refl}
use Rattle.file_grammar.specs.declared.fault.Fault.{Fault}
use Rattle.file_grammar.specs.Structure.{file_limit}
use Rattle.file_grammar.specs.Item.{Before}
use Rattle.frame_content.specs.Frames.{Frame}
use Rattle.contents_table.specs.declared.kind.Kind.{Kind}
use Rattle.contents_table.specs.Listed.{KindTable, Table, table_of_kind}
use Rattle.canonical_file.specs.declared.closing.Closing.{Closing}
use Rattle.canonical_file.specs.Ordered.{frame_graph, SameFrame, ordered, IsInOrder}
use Rattle.canonical_file.specs.Written.{canonical_file}
use Rattle.canonical_file.proofs.OneOrder.{same_lists}
use Rattle.canonical_laws.specs.Content.{closing_by}
use Rattle.channel_extract.specs.Placed.{PlacedFrame, placed_in}
use Rattle.channel_extract.specs.Listing.{file_table, positions_for}
use Rattle.channel_extract.specs.ByTable.{Ending, NoTable, NoChannel, TableLies, Whole, Extraction, TableFrame}
use Rattle.channel_extract.specs.ByTable.{ended, lie}
use Rattle.channel_extract.specs.ByTable.{cuts_at, or_lie, followed, table_frames, is_zero, by_positions, by_names}
use Rattle.channel_extract.specs.ByTable.{by_table}
use Rattle.channel_extract.specs.Answers.{Answer, Refused, Ended, TooLong, fitting, stops, ended_due, due_of}
use Rattle.channel_extract.specs.Answers.{IsAnswerDue, IsOutputDue, is_early, MayAnswerPassed}
use Rattle.channel_extract.specs.TableLaws.{table_extraction, whole_extraction, AnswersAreDue, NoAnswerIsAFault}
use Rattle.channel_extract.specs.TableLaws.{DueAnswersMayCome, EachExtractionHasOneAnswer, EachExtractionHasOneOutput}
use Rattle.channel_extract.specs.TableLaws.{BothAnswerAlike, BothWriteAlike, PassFaultsAreAnswered}
use Rattle.channel_extract.proofs.PassedFiles.{are_passed}
use Rattle.channel_extract.proofs.OnePass.{one_pass, not_both, one_fault}
use Rattle.channel_extract.proofs.Agreement.{agree}

-- ---- one order of the cuts, one answer, one output

frames_refl : (fs : List Frame) → AllZip SameFrame fs fs
frames_refl [] = tt
frames_refl (f ∷ fs) = (same_refl (frame_graph f), frames_refl fs)

some-orders : (fs : List Frame) → (os : List Frame) × AllZip IsInOrder fs os
some-orders [] = ([], tt)
some-orders (f ∷ fs) =
    let s = order_exists (frame_graph f).graph in
    let rest = some-orders fs in
    (ordered f s.0 ∷ rest.0, (record { order = s.0; breadth = s.1; is = refl }, rest.1))

one-order : (fs os ps : List Frame) → AllZip IsInOrder fs os → AllZip IsInOrder fs ps → os ≡ ps
one-order fs os ps left right = same_lists fs fs os ps (frames_refl fs) left right

pub one_answer : EachExtractionHasOneAnswer
one_answer closing x =
    let orders = some-orders x.cuts in (
      (due_of closing x.ending orders.0).answer,
      record { frames = orders.0; in_order = orders.1; is = refl },
      λ other due. due.is ∙ ap (λ fs. (due_of closing x.ending fs).answer)
          (one-order x.cuts due.frames orders.0 due.in_order orders.1),
    )

pub one_output : EachExtractionHasOneOutput
one_output closing x =
    let orders = some-orders x.cuts in (
      (due_of closing x.ending orders.0).output,
      record { frames = orders.0; in_order = orders.1; is = refl },
      λ other due. due.is ∙ ap (λ fs. (due_of closing x.ending fs).output)
          (one-order x.cuts due.frames orders.0 due.in_order orders.1),
    )

-- ---- the answers that may come

pub are_due : AnswersAreDue
are_due file order items last kind name answer well (inl (fault, is, refused)) =
    let on = are_passed file order items last well in
    absurd (not_both file order items on.end fault on.passed is)
are_due file order items last kind name answer well (inr (o, others, end, may)) =
    let on = are_passed file order items last well in
    let same = one_pass file o order others items end on.end may.passed on.passed in
    let one = subst (λ p. MayAnswerPassed file kind name answer p others end) same.0 may in
    let two = subst (λ xs. MayAnswerPassed file kind name answer order xs end) same.1 one in
    let three = subst (λ b. MayAnswerPassed file kind name answer order items b) same.2 two in
    let own : three.extraction ≡ table_extraction order items on.end kind name =
    three.extraction_is ∙ ap (λ ps. by_table kind name ps (file_table order items on.end)) three.frames_are in
    let due : IsAnswerDue (closing_by on.end.dictionary) (table_extraction order items on.end kind name) answer =
    subst (λ (x : Extraction). IsAnswerDue (closing_by on.end.dictionary) x answer) own
    (three.due (order, items, last, well)) in
    subst (λ (b : Before). IsAnswerDue (closing_by b.dictionary) (table_extraction order items b kind name) answer)
    on.same due

whole-unrefused : (closing : Closing) (frames : List Frame) (fault : Fault) (b : Bool)
    → (if b then record { answer = Ended Whole; output = canonical_file closing frames }
    else stops TooLong frames).answer ≡ Refused fault → ⊥
whole-unrefused closing frames fault true is = cc
whole-unrefused closing frames fault false is = cc

ended-unrefused : (closing : Closing) (ending : Ending) (frames : List Frame) (fault : Fault)
    → (ended_due closing ending frames).answer ≡ Refused fault → ⊥
ended-unrefused closing NoTable frames fault is = cc
ended-unrefused closing NoChannel frames fault is = cc
ended-unrefused closing (TableLies at) frames fault is = cc
ended-unrefused closing Whole frames fault is =
    whole-unrefused closing frames fault (nat_le (length (canonical_file closing frames)) file_limit) is

unrefused : (closing : Closing) (ending : Ending) (frames : List Frame) (fault : Fault)
    → (due_of closing ending frames).answer ≡ Refused fault → ⊥
unrefused closing ending frames fault is = by (nat_lt (length (fitting [] frames)) (length frames)) is
  where
    by : (b : Bool) → (if b then stops TooLong (fitting [] frames) else ended_due closing ending frames).answer
        ≡ Refused fault → ⊥
    by true is = cc
    by false is = ended-unrefused closing ending frames fault is

pub no_fault : NoAnswerIsAFault
no_fault file order items last kind name fault well may =
    let due = are_due file order items last kind name (Refused fault) well may in
    unrefused (closing_by last.dictionary) (table_extraction order items last kind name).ending due.frames fault
    (sym due.is)

-- ---- an early ending has no cuts

abbrev IsEarly : Extraction → Type 0
IsEarly x = is_early x.ending ≡ true

late-lie : (o : Option ℕ) (cuts : List Frame) (rest : Extraction) → (IsEarly rest → ⊥) → IsEarly (or_lie o cuts rest)
    → ⊥
late-lie (Some at) cuts rest late early = cc
late-lie None cuts rest late early = late early

late-followed : (kind : Kind) (name : List ℕ) (ps : List TableFrame) → IsEarly (followed kind name ps) → ⊥
late-followed kind name [] early = cc
late-followed kind name (p ∷ ps) early = by (p.at == 0) (late-followed kind name ps) early
  where
    by : (b : Bool) → (IsEarly (followed kind name ps) → ⊥)
        → IsEarly (if b then followed kind name ps
        else or_lie (lie kind name p) (cuts_at kind p) (followed kind name ps)) → ⊥
    by true late early = late early
    by false late early = late-lie (lie kind name p) (cuts_at kind p) (followed kind name ps) late early

bare-positions : (kind : Kind) (name : List ℕ) (frames : List PlacedFrame) (heads positions : List ℕ)
    → IsEarly (by_positions kind name frames heads positions)
    → (by_positions kind name frames heads positions).cuts ≡ []
bare-positions kind name frames heads positions early = by (list_all is_zero positions) early
  where
    by : (b : Bool)
        → IsEarly (if b then ended NoChannel else followed kind name (table_frames frames heads positions))
        → (if b then ended NoChannel else followed kind name (table_frames frames heads positions)).cuts ≡ []
    by true early = refl
    by false early = absurd (late-followed kind name (table_frames frames heads positions) early)

bare-table : (kind : Kind) (name : List ℕ) (frames : List PlacedFrame) (table : Option Table)
    → IsEarly (by_table kind name frames table) → (by_table kind name frames table).cuts ≡ []
bare-table kind name frames None early = refl
bare-table kind name frames (Some t) early = by (table_of_kind t kind) early
  where
    positions : (o : Option (List ℕ))
        → IsEarly (option_map_or (by_positions kind name frames t.heads) o (ended NoChannel))
        → (option_map_or (by_positions kind name frames t.heads) o (ended NoChannel)).cuts ≡ []
    positions None early = refl
    positions (Some ps) early = bare-positions kind name frames t.heads ps early

    by : (o : Option KindTable) → IsEarly (option_map_or (by_names kind name frames t.heads) o (ended NoTable))
        → (option_map_or (by_names kind name frames t.heads) o (ended NoTable)).cuts ≡ []
    by None early = refl
    by (Some k) early = positions (positions_for name k) early

early-due : (closing : Closing) (ending : Ending) → is_early ending ≡ true
    → (due_of closing ending []).answer ≡ Ended ending
early-due closing NoTable early = refl
early-due closing NoChannel early = refl
early-due closing (TableLies at) early = absurd (cc)
early-due closing Whole early = absurd (cc)

no-frames : (cuts frames : List Frame) → cuts ≡ [] → AllZip IsInOrder cuts frames → frames ≡ []
no-frames [] [] empty orders = refl
no-frames [] (f ∷ fs) empty orders = absurd orders
no-frames (c ∷ cs) frames empty orders = absurd (cc)

early-answer : (closing : Closing) (kind : Kind) (name : List ℕ) (frames : List PlacedFrame) (table : Option Table)
    (answer : Answer) → IsAnswerDue closing (by_table kind name frames table) answer
    → IsEarly (by_table kind name frames table) → answer ≡ Ended (by_table kind name frames table).ending
early-answer closing kind name frames table answer due early =
    let x = by_table kind name frames table in
    let none = no-frames x.cuts due.frames (bare-table kind name frames table early) due.in_order in
    due.is ∙ ap (λ fs. (due_of closing x.ending fs).answer) none ∙ early-due closing x.ending early

pub may_come : DueAnswersMayCome
may_come file order items last kind name answer well due =
    let on = are_passed file order items last well in
    let own : IsAnswerDue (closing_by on.end.dictionary) (table_extraction order items on.end kind name) answer =
    subst (λ (b : Before). IsAnswerDue (closing_by b.dictionary) (table_extraction order items b kind name) answer)
    (sym on.same) due in
    inr (
      order,
      items,
      on.end,
      record {
        passed = on.passed;
        frames = placed_in order items;
        frames_are = refl;
        extraction = table_extraction order items on.end kind name;
        extraction_is = refl;
        early = early-answer (closing_by on.end.dictionary) kind name (placed_in order items)
            (file_table order items on.end) answer own;
        due = λ formed. own;
        other = λ late broken. absurd (broken (order, items, last, well));
      },
    )

-- ---- by the table and by reading all

pub answer_alike : BothAnswerAlike
answer_alike file order items last kind name answer other good may due =
    let closing = closing_by last.dictionary in
    let own = are_due file order items last kind name answer good.well_formed may in
    let whole = subst (λ (x : Extraction). IsAnswerDue closing x answer)
    (agree file order items last kind name good) own in
    let one = one_answer closing (whole_extraction order items last kind name) in
    one.2 answer whole ∙ sym (one.2 other due)

pub write_alike : BothWriteAlike
write_alike file order items last kind name output other good own due =
    let closing = closing_by last.dictionary in
    let whole = subst (λ (x : Extraction). IsOutputDue closing x output)
    (agree file order items last kind name good) own in
    let one = one_output closing (whole_extraction order items last kind name) in
    one.2 output whole ∙ sym (one.2 other due)

-- ---- a fault that is found in passing

pub fault_answered : PassFaultsAreAnswered
fault_answered file kind name fault answer is (inl (other, found, refused)) =
    refused ∙ ap Refused (one_fault file other fault found is)
fault_answered file kind name fault answer is (inr (order, items, last, may)) =
    absurd (not_both file order items last fault may.passed is)
