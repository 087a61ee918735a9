-- Fields printed one after another as they are read.
use Rattle.std.proofs.Common.{◌≡◌, ℕ, ◌+◌, ◌<◌, ◌≤◌, List, [], ◌∷◌, ◌++◌, length, take, drop, get_or, map, Some, Result}
use Rattle.std.proofs.Common.{Ok, Err, refl, sym, ap, ◌∙◌, subst, arith, append-nil, cond, false, is_ok}
use Rattle.std.specs.Prelude.{slice_get, codes}
use Rattle.std.specs.Result.{is_err}
use Rattle.std.proofs.lemmas.Option.{slice_get_read}
use Rattle.std.proofs.lemmas.List.{take_all, drop_all}
use Rattle.scalar_types.specs.declared.Order.{Order}
use Rattle.record_values.specs.declared.values.Value.{Value}
use Rattle.dictionary.specs.declared.entries.Element.{Element}
use Rattle.frame_outside.specs.Sink.{Output}
use Rattle.frame_outside.specs.declared.traits.ShelfError.{ShelfError}
use Rattle.frame_outside.specs.declared.traits.ShelfError.TheVariants.{NoMemory}
use Rattle.layout_plan.specs.declared.fields.Form.{Form}
use Rattle.layout_plan.specs.declared.fields.Count.{Count}
use Rattle.layout_plan.specs.declared.fields.Field.{Field}
use Rattle.layout_plan.specs.declared.faults.BodyFault.{BodyFault}
use Rattle.layout_plan.specs.Layout.{AreSound}
use Rattle.layout_plan.specs.Body.{number_of, IsField, HasBody}
use Rattle.layout_plan.specs.Reading.{field_in, fields_in}
use Rattle.layout_plan.proofs.ExactLemmas.{Ok-same}
use Rattle.layout_plan.proofs.WalkLemmas.{map-push}
use Rattle.layout_plan.proofs.ReadingLemmas.{element-at, fields_in-push, field-between, fields_in-length}
use Rattle.file_grammar.specs.Record.{Reading, reading_by}
use Rattle.dumper.specs.Lines.{field_line, fields_text, tail_text, reading_text}
use Rattle.dumper.specs.Page.{Carries, CarriesOrStops}
use Rattle.dumper.specs.Spans.{StandsFirst, IsSpan}
use Rattle.dumper.proofs.Pages.{prints-then, prints-stopped, prints-is, refused-prints, composed-prints}
use Rattle.dumper.proofs.Pages.{carried, carried-then, carries-is}
use Rattle.dumper.proofs.FieldLines.{lines-none, lines-more, text-split, tail-none, tail-some}
use Rattle.dumper.proofs.BodyReadings.{AreRead, has-read, reading-is}

-- the first k fields were read, and their lines printed
pub record AreShown (order : Order) (elements : List Element) (fields : List Field) (body : List ℕ) (old : Output)
    (p : List ℕ) (k : ℕ) (numbers rest : List ℕ) (now : Output) (q : List ℕ) : Type 0 where
  pub values : List Value
  pub tail : List ℕ
  pub read : AreRead order fields body values tail
  pub first : fields_in order [] (take k fields) body ≡ Ok (take k values, rest)
  pub numbers_are : numbers ≡ map number_of (take k values)
  pub shown : Carries old now p q (fields_text (take k elements) (take k values))

pub shown-none : (order : Order) (elements : List Element) (fields plan : List Field) (body : List ℕ) (old : Output)
    (p numbers : List ℕ) → fields ≡ plan → numbers ≡ [] → AreSound 0 plan → HasBody order plan body
    → AreShown order elements fields body old p 0 numbers body old p
shown-none order elements fields plan body old p numbers is none sound has =
    let read = has-read order fields body (subst (AreSound 0) (sym is) sound)
    (subst (λ fs. HasBody order fs body) (sym is) has) in
    record {
      values = read.0;
      tail = read.1;
      read = read.2;
      first = refl;
      numbers_are = none;
      shown = composed-prints old p p [] (sym (append-nil p));
    }

-- ---- the next field

-- it stands at the front of what is left
record IsNext (order : Order) (f : Field) (numbers rest : List ℕ) (values : List Value) (k : ℕ) : Type 0 where
  value : Value
  after : List ℕ
  reads : field_in order numbers f.form f.counts rest ≡ Ok (value, after)
  here : slice_get values k ≡ Some value

next-field : {order : Order} {elements : List Element} {fields : List Field} {body : List ℕ}
    {old : Output} {p : List ℕ} {k : ℕ} {numbers rest : List ℕ} {now : Output} {q : List ℕ}
    (f : Field) (before : AreShown order elements fields body old p k numbers rest now q) → slice_get fields k ≡ Some f
    → IsNext order f numbers rest before.values k
next-field {order} {fields} {body} {k} {rest} f before is =
    let b = field-between order fields k f body rest before.tail (take k before.values) before.values is before.first
    before.read.whole in
    record {
      value = b.value;
      after = b.after;
      reads = ap (λ ns. field_in order ns f.form f.counts rest) before.numbers_are ∙ b.reads;
      here = b.here;
    }

pub field-here : {k : ℕ} {f : Field} (fields : List Field) → k < length fields → f ≡ get_or fields k f
    → slice_get fields k ≡ Some f
field-here {k} {f} fields lt is = slice_get_read fields (length fields) k f refl lt is

-- so its value is found there
pub stands-first : {order : Order} {elements : List Element} {fields : List Field} {body : List ℕ}
    {old : Output} {p : List ℕ} {k : ℕ} {numbers rest : List ℕ} {now : Output} {q : List ℕ}
    {f : Field} {slice : List ℕ} → AreShown order elements fields body old p k numbers rest now q
    → slice_get fields k ≡ Some f → slice ≡ numbers → StandsFirst order slice f.form f.counts rest
stands-first {order} {rest} {f} before is same =
    let next = next-field f before is in
    record {
      value = next.value;
      rest = next.after;
      found = ap (λ ns. field_in order ns f.form f.counts rest) same ∙ next.reads;
    }

pub span-within : {order : Order} {numbers : List ℕ} {form : Form} {counts : List Count} {bytes : List ℕ} (n : ℕ)
    → StandsFirst order numbers form counts bytes → IsSpan order numbers form counts bytes n → n ≤ length bytes
span-within n stands span = (span stands.value stands.rest stands.found).0

pub span-spells : {order : Order} {numbers : List ℕ} {form : Form} {counts : List Count} {bytes : List ℕ} (n : ℕ)
    → StandsFirst order numbers form counts bytes → IsSpan order numbers form counts bytes n
    → (numbers : List ℕ) × (v : Value) × IsField order numbers form counts v (take n bytes)
span-spells {numbers} n stands span =
    (numbers, stands.value, (span stands.value stands.rest stands.found).2)

-- a number that was put at the end
pub number-pushed : {T E : Type 0} (new more old : List ℕ) (r : Result T E) → is_err r ≡ false
    → new ≡ cond (is_ok r) more old → new ≡ more
number-pushed new more old (Ok x) none items = items
number-pushed new more old (Err e) none items = cc

-- one more field, which has n bytes
pub shown-more : {X : Type 0} {order : Order} {elements : List Element} {fields : List Field} {body : List ℕ}
    {old : Output} {p : List ℕ} {k : ℕ} {numbers rest : List ℕ} {now : Output} {q : List ℕ}
    {f : Field} (e : Element) (n : ℕ) (new : Output) (r : List ℕ) {x : X} (result : Result X ShelfError) (number : ℕ)
    (more after slice : List ℕ) → AreShown order elements fields body old p k numbers rest now q
    → slice_get elements k ≡ Some e → slice_get fields k ≡ Some f → slice ≡ numbers
    → IsSpan order slice f.form f.counts rest n → result ≡ Ok x
    → ((v : Value) → IsField order slice f.form f.counts v (take n rest)
    → CarriesOrStops now new q r (field_line e v) result)
    → ((v : Value) → IsField order slice f.form f.counts v (take n rest) → number ≡ number_of v)
    → more ≡ numbers ++ number ∷ [] → after ≡ drop n rest
    → AreShown order elements fields body old p (k + 1) more after new r
shown-more {order} {elements} {fields} {body} {old} {p} {k} {numbers} {rest} {now} {q} {f} e n new r {x} result number
    more after slice before here is same span ok line numbered pushed left =
    let next = next-field f before is in
    let ends = span next.value next.after (ap (λ ns. field_in order ns f.form f.counts rest) same ∙ next.reads) in
    let through = (element-at before.values k next.value next.here).through in
    let reads = ap (λ ns. field_in order ns f.form f.counts rest) (sym before.numbers_are) ∙ next.reads
    ∙ ap (λ after. Ok (next.value, after)) (ends.1 ∙ sym left) in
    record {
      values = before.values;
      tail = before.tail;
      read = before.read;
      first = fields_in-push order fields k f body rest after (take k before.values) next.value is before.first
          reads ∙ ap (λ vs. Ok (vs, after)) (sym through);
      numbers_are = pushed ∙ (λ i. before.numbers_are i ++ numbered next.value ends.2 i ∷ [])
          ∙ sym (map-push (take k before.values) next.value) ∙ ap (map number_of) (sym through);
      shown =
          carries-is old new p r _ _ (sym (lines-more elements before.values k e next.value here next.here))
          (carried-then old now new p q r (fields_text (take k elements) (take k before.values))
          (field_line e next.value) before.shown
          (carried now new q r (field_line e next.value) x result ok (line next.value ends.2)));
    }

-- ---- where it ends

-- a field whose line stopped
pub shown-stops : {X Y : Type 0} {order : Order} {elements : List Element} {fields : List Field} {body : List ℕ}
    {old : Output} {p : List ℕ} {k : ℕ} {numbers rest : List ℕ} {now : Output} {q : List ℕ}
    {f : Field} (e : Element) (n : ℕ) (new : Output) (r : List ℕ) {error : ShelfError} (stop : Result X ShelfError)
    (result : Result Y ShelfError) (slice : List ℕ) → AreShown order elements fields body old p k numbers rest now q
    → slice_get elements k ≡ Some e → slice_get fields k ≡ Some f → slice ≡ numbers
    → IsSpan order slice f.form f.counts rest n → stop ≡ Err error → result ≡ Err error
    → ((v : Value) → IsField order slice f.form f.counts v (take n rest)
    → CarriesOrStops now new q r (field_line e v) stop)
    → (reading : Reading) → reading_by order body fields ≡ Some reading
    → CarriesOrStops old new p r (reading_text elements reading) result
shown-stops {order} {elements} {fields} {body} {old} {p} {k} {rest} {now} {q} {f} e n new r {error} stop result slice
    before here is same_numbers span stopped failed line reading reads =
    let next = next-field f before is in
    let ends = span next.value next.after
    (ap (λ ns. field_in order ns f.form f.counts rest) same_numbers ∙ next.reads) in
    let same = reading-is order fields body before.values before.tail reading before.read reads in
    let others : List ℕ = fields_text (drop (k + 1) elements) (drop (k + 1) before.values) ++ tail_text before.tail in
    let first : List ℕ = fields_text (take k elements) (take k before.values) in
    let whole : (first ++ field_line e next.value) ++ others ≡ reading_text elements reading =
    ap (λ text. text ++ others) (sym (lines-more elements before.values k e next.value here next.here))
    ∙ text-split elements (k + 1) reading before.values before.tail same.0 same.1 in
    prints-is old new p r _ _ result whole
    (prints-stopped old new p r r (first ++ field_line e next.value) others error stop result stopped failed
    (prints-then old now new p q r first (field_line e next.value) stop before.shown (line next.value ends.2)))

-- a reading's text that goes on by what the page gets after the first k fields
shown-then : {X : Type 0} {order : Order} {elements : List Element} {fields : List Field} {body : List ℕ}
    {old : Output} {p : List ℕ} {k : ℕ} {numbers rest : List ℕ} {now : Output} {q : List ℕ}
    (new : Output) (r : List ℕ) (result : Result X ShelfError)
    (before : AreShown order elements fields body old p k numbers rest now q)
    → CarriesOrStops now new q r
    (fields_text (drop k elements) (drop k before.values) ++ tail_text before.tail) result
    → (reading : Reading) → reading_by order body fields ≡ Some reading
    → CarriesOrStops old new p r (reading_text elements reading) result
shown-then {order} {elements} {fields} {body} {old} {p} {k} {now} {q} new r result before others reading reads =
    let same = reading-is order fields body before.values before.tail reading before.read reads in
    prints-is old new p r _ _ result (text-split elements k reading before.values before.tail same.0 same.1)
    (prints-then old now new p q r (fields_text (take k elements) (take k before.values)) _ result before.shown others)

-- memory that is out between two fields
pub shown-refused : {X : Type 0} {order : Order} {elements : List Element} {fields : List Field} {body : List ℕ}
    {old : Output} {p : List ℕ} {k : ℕ} {numbers rest : List ℕ} {now : Output} {q : List ℕ}
    (r : List ℕ) (result : Result X ShelfError) → AreShown order elements fields body old p k numbers rest now q
    → result ≡ Err NoMemory → (reading : Reading) → reading_by order body fields ≡ Some reading
    → CarriesOrStops old now p r (reading_text elements reading) result
shown-refused {now} {q} r result before failed =
    shown-then now r result before (refused-prints now q r _ result failed)

-- all fields: the bytes that are left are the tail
all-tail : {order : Order} {elements : List Element} {fields : List Field} {body : List ℕ}
    {old : Output} {p : List ℕ} {k : ℕ} {numbers rest : List ℕ} {now : Output} {q : List ℕ}
    (before : AreShown order elements fields body old p k numbers rest now q) → length fields ≤ k
    → before.tail ≡ rest
all-tail {order} {fields} {body} {k} {rest} before le =
    sym (ap (λ (z : List Value × List ℕ). z.1)
    (Ok-same {E = BodyFault} (take k before.values, rest) (before.values, before.tail)
    (sym before.first ∙ ap (λ fs. fields_in order [] fs body) (take_all k fields le) ∙ before.read.whole)))

-- no line is left after the last element
all-lines : {order : Order} {elements : List Element} {fields : List Field} {body : List ℕ}
    {old : Output} {p : List ℕ} {k : ℕ} {numbers rest : List ℕ} {now : Output} {q : List ℕ}
    (before : AreShown order elements fields body old p k numbers rest now q) → length fields ≤ k
    → fields_text (drop k elements) (drop k before.values) ≡ []
all-lines {order} {elements} {fields} {body} {k} before le =
    let many = fields_in-length order [] fields body before.values before.tail before.read.whole in
    ap (fields_text (drop k elements)) (drop_all k before.values (omega (arith, many))) ∙ lines-none (drop k elements)

-- all fields, and no tail
pub shown-all : {X : Type 0} {order : Order} {elements : List Element} {fields : List Field} {body : List ℕ}
    {old : Output} {p : List ℕ} {k : ℕ} {numbers rest : List ℕ} {now : Output} {q : List ℕ}
    (x : X) → AreShown order elements fields body old p k numbers rest now q → length fields ≤ k → length rest ≡ 0
    → (reading : Reading) → reading_by order body fields ≡ Some reading
    → CarriesOrStops old now p q (reading_text elements reading) (Ok x)
shown-all {elements} {k} {now} {q} x before le none =
    let text : fields_text (drop k elements) (drop k before.values) ++ tail_text before.tail ≡ [] =
    (λ i. all-lines before le i ++ tail_text before.tail)
    ∙ tail-none before.tail (ap length (all-tail before le) ∙ none) in
    shown-then now q (Ok x) before
    (composed-prints now q q _ (sym (append-nil q) ∙ ap (λ text. q ++ text) (sym text)))

-- all fields, and the tail's line
pub shown-tail : {order : Order} {elements : List Element} {fields : List Field} {body : List ℕ}
    {old : Output} {p : List ℕ} {k : ℕ} {numbers rest : List ℕ} {now : Output} {q : List ℕ}
    (new : Output) (r : List ℕ) (result : Result (Unit {0}) ShelfError)
    → AreShown order elements fields body old p k numbers rest now q → length fields ≤ k → (length rest ≡ 0 → ⊥)
    → CarriesOrStops now new q r (codes "  tail 4\n") result
    → (reading : Reading) → reading_by order body fields ≡ Some reading
    → CarriesOrStops old new p r (reading_text elements reading) result
shown-tail {elements} {k} {now} {q} new r result before le some line =
    let text : fields_text (drop k elements) (drop k before.values) ++ tail_text before.tail ≡ codes "  tail 4\n" =
    (λ i. all-lines before le i ++ tail_text before.tail)
    ∙ tail-some before.tail (λ none. some (sym (ap length (all-tail before le)) ∙ none)) in
    shown-then new r result before (prints-is now new q r _ _ result (sym text) line)
