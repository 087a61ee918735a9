-- The frames that have ended in a beginning of a file of bytes, and the frame that is open.
use Rattle.std.proofs.Common.{◌≡◌, ℕ, zero, suc, ◌+◌, ◌<◌, ◌≤◌, ◌⊎◌, inl, inr, Bool, true, false, cond, Some, None}
use Rattle.std.proofs.Common.{List, [], ◌∷◌, ◌++◌, length, map, take, All, sum_by, get_or, refl, sym, ap, ◌∙◌}
use Rattle.std.proofs.Common.{subst, arith, length-append}
use Rattle.std.specs.Prelude.{◌==◌, option_and_then}
use Rattle.std.specs.List.{AllZip, range_with_len, position_or_len}
use Rattle.std.specs.Option.{option_map_or}
use Rattle.std.proofs.Math.Seq.{get_or-append_seam}
use Rattle.std.proofs.lemmas.Bool.{cond-true, cond-false, cases_lt, eqb-true, ne_eqb, lt-ltb, le-ltb}
use Rattle.std.proofs.lemmas.List.{length-map, get_or-map, get_or_append_left, get_or_default, take_more, take_all}
use Rattle.std.proofs.lemmas.List.Elements.{All-nil, All-cons, All-head, All-tail, All-push, All-weaker}
use Rattle.std.proofs.lemmas.List.Sums.{sum_by-cons, sum_by_push}
use Rattle.std.proofs.lemmas.Option.{same_Some, option_and_then_some}
use Rattle.scalar_types.specs.declared.Order.{Order}
use Rattle.type_text.specs.declared.types.Link.{Link}
use Rattle.record_values.specs.Links.{links_in}
use Rattle.dictionary.specs.declared.entries.Entry.{Entry}
use Rattle.dictionary.specs.Dictionary.{entry_of}
use Rattle.layout_plan.specs.Layout.{layout_of}
use Rattle.layout_plan.specs.Body.{IsBody, values_length}
use Rattle.layout_plan.proofs.LayoutLemmas.{layout_of-sound}
use Rattle.link_graph.specs.declared.nodes.Root.TheVariants.{No}
use Rattle.link_graph.specs.Collected.{Bodied, is_named, place_of, target_of}
use Rattle.link_graph.specs.Table.{IsWithin}
use Rattle.file_grammar.specs.declared.kind.Kind.TheVariants.{FrSH, FrSE, FrameH, FrEndOfFrame, Other}
use Rattle.file_grammar.specs.Structure.{Structure, record_limit, size_of}
use Rattle.file_grammar.specs.Kind.{kind_named, kind_of, is_target_kind}
use Rattle.file_grammar.specs.Record.{Reading, layout_in, reading_by, reading_of, weight_of}
use Rattle.file_grammar.specs.MayStand.{HasHeader}
use Rattle.file_grammar.proofs.Bodies.{reading-found, reading-fields}
use Rattle.item_reader.specs.Roles.{root_of, root_named}
use Rattle.item_reader.specs.State.{bodied_of}
use Rattle.frame_content.specs.Labels.{label_by, printed_entry, no_entry}
use Rattle.frame_content.specs.Frames.{Row, Frame, no_row, row_at, label_of, values_in, row_of, frame_by}
use Rattle.canonical_file.specs.Ranges.{AreBytes}
use Rattle.canonical_laws.specs.Writable.{kind_at}
use Rattle.canonical_laws.proofs.DistinctSums.{range-push}
use Rattle.canonical_laws.proofs.RootsByName.{IsMarked, roots-agree}
use Rattle.canonical_laws.proofs.DictionarySteps.{StaysIn, reading-stays, kind-stays, weight-stays}
use Rattle.canonical_laws.proofs.SourceEntries.{AreSources, source-held}
use Rattle.canonical_laws.proofs.SourceRecords.{IsSourceBody, canonical_length}
use Rattle.canonical_laws.proofs.SourceFrames.{IsSourceLabel, IsSourceRow, IsSourceFrame}

-- ---- a record as it stands

-- its class is held, and its body is bytes that read
pub record IsSourceRecord (order : Order) (held : List Entry) (s : Structure) : Type 0 where
  pub entry : Entry
  pub held_is : entry_of held s.class ≡ Some entry
  pub reading : Reading
  pub reads : reading_of order held s ≡ Some reading
  pub bytes : AreBytes s.body

pub record-stays : (order : Order) (held next : List Entry) (s : Structure) → StaysIn held next
    → IsSourceRecord order held s → IsSourceRecord order next s
record-stays order held next s stays is = record {
  entry = is.entry;
  held_is = stays s.class is.entry is.held_is;
  reading = is.reading;
  reads = reading-stays order held next s is.reading stays is.reads;
  bytes = is.bytes;
}

-- an entry that is held of a class has this class
pub held-class : (held : List Entry) (class : ℕ) (e : Entry) → entry_of held class ≡ Some e → class ≡ e.class
held-class [] class e is = cc
held-class (x ∷ xs) class e is = by (class == x.class) refl is (held-class xs class e)
  where
    by : (b : Bool) → (class == x.class) ≡ b → cond b (Some x) (entry_of xs class) ≡ Some e
        → (entry_of xs class ≡ Some e → class ≡ e.class) → class ≡ e.class
    by true same is later = eqb-true class x.class same ∙ ap (λ (y : Entry). y.class) (same_Some x e is)
    by false other is later = later is

pub held-kind : (held : List Entry) (class : ℕ) (e : Entry) → AreSources held → entry_of held class ≡ Some e
    → kind_of held class ≡ kind_named e.name
held-kind held class e sources is =
    let same = held-class held class e is in
    let low : 3 ≤ class = omega (arith, same, (source-held held class e sources is).low) in
    ap (λ o. cond (class == 1) FrSH (cond (class == 2) FrSE (option_map_or (λ (x : Entry). kind_named x.name) o Other)))
    is
    ∙ cond-false _ _ _ (ne_eqb class 1 (λ one. omega (arith, low, one)))
    ∙ cond-false _ _ _ (ne_eqb class 2 (λ two. omega (arith, low, two)))

record-body : (order : Order) (held : List Entry) (s : Structure) → AreSources held → (is : IsSourceRecord order held s)
    → IsSourceBody order is.entry is.reading s.body
record-body order held s sources is =
    option_and_then_some (reading_by order s.body) (layout_in held s.class) is.reading is.reads (λ fs there read.
    let layout : layout_of is.entry.elements ≡ Some fs =
    sym (ap (option_and_then (λ (e : Entry). layout_of e.elements)) is.held_is) ∙ there in
    let fields : is.reading.fields ≡ fs = reading-fields order s.body fs is.reading read in
    record {
      entry = source-held held s.class is.entry sources is.held_is;
      layout = layout ∙ ap Some (sym fields);
      spelled = subst (λ gs. IsBody order gs is.reading.values is.reading.tail s.body) (sym fields)
          (reading-found order s.body fs is.reading (layout_of-sound is.entry.elements fs layout) read);
      bytes = is.bytes;
    })

record-weight : (order : Order) (held : List Entry) (s : Structure) (is : IsSourceRecord order held s)
    → canonical_length is.reading ≤ weight_of order held s
record-weight order held s is =
    let weight : weight_of order held s
    ≡ 14 + (values_length is.reading.fields is.reading.values + length is.reading.tail) =
    ap (λ o. option_map_or (λ (r : Reading). 14 + (values_length r.fields r.values + length r.tail)) o (size_of s))
    is.reads in
    omega (arith, weight)

record-label : (order : Order) (held : List Entry) (s : Structure) → AreSources held → IsSourceRecord order held s
    → IsSourceLabel order held (label_of order held (bodied_of held s)) (weight_of order held s)
record-label order held s sources is = record {
  entry = is.entry;
  reading = is.reading;
  body = s.body;
  source = record-body order held s sources is;
  held_is = ap (entry_of held) (sym (held-class held s.class is.entry is.held_is)) ∙ is.held_is;
  is = λ i. label_by (is.held_is i) (is.reads i);
  weight_is = record-weight order held s is;
}

-- ---- the frame that is open

abbrev no_structure : Structure
no_structure = record { at = 0; class = 0; instance = 0; body = [] }

abbrev pub structure_in : List Structure → ℕ → Structure
structure_in frame k = get_or frame k no_structure

abbrev pub IsHeaderIn : List Entry → List Structure → ℕ → Type 0
IsHeaderIn held frame k = kind_of held (structure_in frame k).class ≡ FrameH

abbrev pub IsTarget : List Entry → Structure → Type 0
IsTarget held s = is_target_kind (kind_of held s.class) ≡ true

-- The records read, one of them at most is a FrameH, and the load is their weight.
pub record IsOpenFrame (order : Order) (held : List Entry) (frame : List Structure) (load : ℕ) : Type 0 where
  pub sources : AreSources held
  pub records : All (IsSourceRecord order held) frame
  pub kinds : All (IsTarget held) frame
  pub one : (j k : ℕ) → j < length frame → k < length frame → IsHeaderIn held frame j → IsHeaderIn held frame k → j ≡ k
  pub loaded : load ≡ sum_by (weight_of order held) frame

pub no-frame : (order : Order) (held : List Entry) → AreSources held → IsOpenFrame order held [] 0
no-frame order held sources = record {
  sources = sources;
  records = All-nil (IsSourceRecord order held);
  kinds = All-nil (IsTarget held);
  one = λ j k first second head other. absurd (omega (arith, first));
  loaded = refl;
}

-- as the dictionary grows
same-kind : (order : Order) (held next : List Entry) (s : Structure) → StaysIn held next → IsSourceRecord order held s
    → kind_of next s.class ≡ kind_of held s.class
same-kind order held next s stays is = kind-stays held next s.class is.entry stays is.held_is

same-weights : (order : Order) (held next : List Entry) (ss : List Structure) → StaysIn held next
    → All (IsSourceRecord order held) ss → sum_by (weight_of order next) ss ≡ sum_by (weight_of order held) ss
same-weights order held next [] stays all = refl
same-weights order held next (s ∷ ss) stays all =
    let here = All-head (IsSourceRecord order held) s ss all in
    let rest = same-weights order held next ss stays (All-tail (IsSourceRecord order held) s ss all) in
    let weight = weight-stays order held next s here.reading stays here.reads in
    omega (arith, rest, weight, sum_by-cons (weight_of order next) s ss, sum_by-cons (weight_of order held) s ss)

pub open-grows : (order : Order) (held next : List Entry) (frame : List Structure) (load : ℕ) → StaysIn held next
    → AreSources next → IsOpenFrame order held frame load → IsOpenFrame order next frame load
open-grows order held next frame load stays sources is = record {
  sources = sources;
  records = All-weaker (IsSourceRecord order held) (IsSourceRecord order next)
      (λ s. record-stays order held next s stays) frame is.records;
  kinds = λ k d less. ap is_target_kind (same-kind order held next (get_or frame k d) stays (is.records k d less))
      ∙ is.kinds k d less;
  one = λ j k first second head other. is.one j k first second
      (sym (same-kind order held next (structure_in frame j) stays (is.records j no_structure first)) ∙ head)
      (sym (same-kind order held next (structure_in frame k) stays (is.records k no_structure second)) ∙ other);
  loaded = is.loaded ∙ sym (same-weights order held next frame stays is.records);
}

-- with one more record
header-some : (held : List Entry) (frame : List Structure) (k : ℕ) → k < length frame → IsHeaderIn held frame k
    → HasHeader held frame
header-some held frame k less is =
    (k, structure_in frame k, less, get_or_default frame k (structure_in frame k) no_structure less, is)

pub open-push : (order : Order) (held : List Entry) (frame : List Structure) (load : ℕ) (s : Structure)
    → IsOpenFrame order held frame load → IsSourceRecord order held s → IsTarget held s
    → (kind_of held s.class ≡ FrameH → HasHeader held frame → ⊥)
    → IsOpenFrame order held (frame ++ s ∷ []) (load + weight_of order held s)
open-push order held frame load s is here target new = record {
  sources = is.sources;
  records = All-push (IsSourceRecord order held) frame s is.records here;
  kinds = All-push (IsTarget held) frame s is.kinds target;
  one = one;
  loaded = let total = sum_by_push (weight_of order held) frame s in omega (arith, is.loaded, total);
}
  where
    long : length (frame ++ s ∷ []) ≡ length frame + 1
    long = length-append frame (s ∷ [])

    earlier : (k : ℕ) → k < length frame → structure_in (frame ++ s ∷ []) k ≡ structure_in frame k
    earlier k less = get_or_append_left frame (s ∷ []) no_structure k less

    last : (k : ℕ) → k ≡ length frame → structure_in (frame ++ s ∷ []) k ≡ s
    last k same = ap (structure_in (frame ++ s ∷ [])) same ∙ get_or-append_seam frame s [] no_structure

    kind_at_earlier : (k : ℕ) → k < length frame → IsHeaderIn held (frame ++ s ∷ []) k → IsHeaderIn held frame k
    kind_at_earlier k less head = ap (λ (t : Structure). kind_of held t.class) (sym (earlier k less)) ∙ head

    kind_at_last : (k : ℕ) → k ≡ length frame → IsHeaderIn held (frame ++ s ∷ []) k → kind_of held s.class ≡ FrameH
    kind_at_last k same head = ap (λ (t : Structure). kind_of held t.class) (sym (last k same)) ∙ head

    one : (j k : ℕ) → j < length (frame ++ s ∷ []) → k < length (frame ++ s ∷ [])
        → IsHeaderIn held (frame ++ s ∷ []) j → IsHeaderIn held (frame ++ s ∷ []) k → j ≡ k
    one j k first second head other = by (cases_lt j (length frame)) (cases_lt k (length frame))
      where
        by : (j < length frame) ⊎ (length frame ≤ j) → (k < length frame) ⊎ (length frame ≤ k) → j ≡ k
        by (inl a) (inl b) = is.one j k a b (kind_at_earlier j a head) (kind_at_earlier k b other)
        by (inl a) (inr b) =
            absurd (new (kind_at_last k (omega (arith, long, second, b)) other)
            (header-some held frame j a (kind_at_earlier j a head)))
        by (inr a) (inl b) =
            absurd (new (kind_at_last j (omega (arith, long, first, a)) head)
            (header-some held frame k b (kind_at_earlier k b other)))
        by (inr a) (inr b) = omega (arith, long, first, second, a, b)

-- ---- the frame that ends

-- a sum over a list, by the numbers of its elements
sum-numbers : (g : Structure → ℕ) (ss : List Structure) (n : ℕ) → n ≤ length ss
    → sum_by (λ k. g (structure_in ss k)) (range_with_len 0 n) ≡ sum_by g (take n ss)
sum-numbers g ss zero within = refl
sum-numbers g ss (suc n) within =
    let h : ℕ → ℕ = λ k. g (structure_in ss k) in
    let rest = sum-numbers g ss n (omega (arith, within)) in
    let more = ap (sum_by h) (range-push 0 n) ∙ sum_by_push h (range_with_len 0 n) (0 + n) in
    let one : suc n ≡ n + 1 = omega arith in
    let taken : take (suc n) ss ≡ take n ss ++ structure_in ss n ∷ [] =
    ap (λ m. take m ss) one ∙ take_more ss n no_structure (omega (arith, within)) in
    let front = ap (sum_by g) taken ∙ sum_by_push g (take n ss) (structure_in ss n) in
    let same : h (0 + n) ≡ h n = ap h (omega arith) in
    omega (arith, rest, more, front, same)

abbrev first_place : List Bodied → Link → ℕ
first_place nodes link = position_or_len (λ (r : Bodied). is_named link r.node) nodes

target-within : (nodes : List Bodied) (link : Link) → IsWithin (length nodes) (target_of nodes link)
target-within nodes link = by (link.class == 0) (cases_lt (first_place nodes link) (length nodes))
  where
    by : (b : Bool) → (first_place nodes link < length nodes) ⊎ (length nodes ≤ first_place nodes link)
        → IsWithin (length nodes) (cond b None (place_of nodes link))
    by true within = tt
    by false (inl less) =
        let found = cond-true _ _ _ (lt-ltb (first_place nodes link) (length nodes) less) in
        subst (IsWithin (length nodes)) (sym found) less
    by false (inr past) =
        let none = cond-false _ _ _ (le-ltb (first_place nodes link) (length nodes) past) in
        subst (IsWithin (length nodes)) (sym none) tt

targets-within : (nodes : List Bodied) (links : List Link) → All (IsWithin (length nodes)) (map (target_of nodes) links)
targets-within nodes [] = All-nil (IsWithin (length nodes))
targets-within nodes (link ∷ links) =
    All-cons (IsWithin (length nodes)) (target_of nodes link) (map (target_of nodes) links) (target-within nodes link)
    (targets-within nodes links)

module _ (order : Order) (held : List Entry) (frame : List Structure) (load : ℕ) (s : Structure)
    (is : IsOpenFrame order held frame load) (end : IsSourceRecord order held s) where
  abbrev nodes : List Bodied
  nodes = map (bodied_of held) frame

  abbrev f : Frame
  f = frame_by order held nodes (Some (bodied_of held s))

  abbrev n : ℕ
  n = length frame

  nodes-long : length nodes ≡ n
  nodes-long = length-map frame (bodied_of held)

  rows-long : length f.rows ≡ n
  rows-long = length-map nodes (row_of order held nodes) ∙ nodes-long

  row-is : (k : ℕ) → k < n → row_at f k ≡ row_of order held nodes (bodied_of held (structure_in frame k))
  row-is k less =
      get_or-map (row_of order held nodes) nodes k (bodied_of held no_structure) no_row
      (omega (arith, nodes-long, less))
      ∙ ap (row_of order held nodes)
      (get_or-map (bodied_of held) frame k no_structure (bodied_of held no_structure) less)

  label-kind : (t : Structure) → (here : IsSourceRecord order held t)
      → kind_named (label_of order held (bodied_of held t)).entry.name ≡ kind_of held t.class
  label-kind t here =
      ap (λ o. kind_named (option_map_or printed_entry o no_entry).name) here.held_is
      ∙ sym (held-kind held t.class here.entry is.sources here.held_is)

  record-row : (t : Structure) → IsSourceRecord order held t → IsTarget held t
      → IsSourceRow order held n (row_of order held nodes (bodied_of held t)) (weight_of order held t)
  unfolding record-label
  record-row t here target = record {
    label = record-label order held t is.sources here;
    many = length-map (links_in (values_in order held (bodied_of held t))) (target_of nodes)
        ∙ ap (λ o. length (links_in (option_map_or (λ (r : Reading). r.values) o []))) here.reads;
    within = subst (λ m. All (IsWithin m) (map (target_of nodes) (links_in (values_in order held (bodied_of held t)))))
        nodes-long (targets-within nodes (links_in (values_in order held (bodied_of held t))));
    kind = ap is_target_kind (label-kind t here) ∙ target;
  }

  kind-is : (k : ℕ) → k < n → kind_at f k ≡ kind_of held (structure_in frame k).class
  kind-is k less =
      ap (λ (r : Row). kind_named r.label.entry.name) (row-is k less)
      ∙ label-kind (structure_in frame k) (is.records k no_structure less)

  all-marked : (ts : List Structure) → All (IsSourceRecord order held) ts
      → AllZip IsMarked (map (bodied_of held) ts) (map (row_of order held nodes) (map (bodied_of held) ts))
  all-marked [] all = tt
  all-marked (t ∷ ts) all = (
    mark t (All-head (IsSourceRecord order held) t ts all),
    all-marked ts (All-tail (IsSourceRecord order held) t ts all),
  )
    where
      mark : (t : Structure) → (here : IsSourceRecord order held t)
          → root_of held t.class ≡ root_named (label_of order held (bodied_of held t)).entry.name
      mark t here =
          ap (λ o. option_map_or (λ (e : Entry). root_named e.name) o No) here.held_is
          ∙ sym (ap (λ o. root_named (option_map_or printed_entry o no_entry).name) here.held_is)

  rows : (k : ℕ) → k < length f.rows
      → IsSourceRow order held (length f.rows) (row_at f k) (weight_of order held (structure_in frame k))
  rows k less =
      let within : k < n = omega (arith, less, rows-long) in
      subst (λ m. IsSourceRow order held m (row_at f k) (weight_of order held (structure_in frame k))) (sym rows-long)
      (subst (λ (r : Row). IsSourceRow order held n r (weight_of order held (structure_in frame k)))
      (sym (row-is k within))
      (record-row (structure_in frame k) (is.records k no_structure within) (is.kinds k no_structure within)))

  weights : sum_by (λ k. weight_of order held (structure_in frame k)) (range_with_len 0 (length f.rows)) ≡ load
  weights =
      ap (λ m. sum_by (λ k. weight_of order held (structure_in frame k)) (range_with_len 0 m)) rows-long
      ∙ sum-numbers (weight_of order held) frame n (omega arith)
      ∙ ap (sum_by (weight_of order held)) (take_all n frame (omega arith)) ∙ sym is.loaded

  -- The frame of the records, where the end record may stand.
  pub ended-source : kind_of held s.class ≡ FrEndOfFrame → HasHeader held frame
      → load + weight_of order held s ≤ record_limit → IsSourceFrame order held f
  ended-source kind (k, t, less, found, header) small = record {
    weights = λ k. weight_of order held (structure_in frame k);
    end_weight = weight_of order held s;
    rows = rows;
    end = record-label order held s is.sources end;
    end_kind = label-kind s end ∙ kind;
    roots = roots-agree f nodes (all-marked frame is.records);
    header = k;
    header_within = omega (arith, less, rows-long);
    header_is = kind-is k less
        ∙ ap (λ (t : Structure). kind_of held t.class) (get_or_default frame k no_structure t less ∙ found) ∙ header;
    one = λ a b first second head other. is.one a b (omega (arith, first, rows-long)) (omega (arith, second, rows-long))
        (sym (kind-is a (omega (arith, first, rows-long))) ∙ head)
        (sym (kind-is b (omega (arith, second, rows-long))) ∙ other);
    load = omega (arith, weights, small);
  }
