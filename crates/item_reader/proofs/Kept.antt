-- What is kept of a state, once an item was taken.
use Rattle.std.proofs.Common.{◌≡◌, ℕ, ◌+◌, ◌<◌, ◌≤◌, Bool, true, false, not, ◌||◌, List, [], ◌∷◌}
use Rattle.std.proofs.Common.{◌++◌, map}
use Rattle.std.proofs.Common.{length, drop, max, Option, Some, None, refl, sym, ap, ◌∙◌, subst, arith}
use Rattle.std.proofs.Common.{length-append}
use Rattle.std.proofs.Common.{inl, inr, cond, ◌^◌}
use Rattle.std.specs.Prelude.{◌==◌, All, IsSome, is_some, find, nat_lt, option_and_then}
use Rattle.std.specs.Option.{option_map_or}
use Rattle.std.proofs.lemmas.Bool.{false≢true, ltb-false}
use Rattle.std.proofs.lemmas.Option.{none-some}
use Rattle.std.proofs.lemmas.List.{map-append}
use Rattle.std.proofs.lemmas.List.Elements.{All-weaker, All-push, All-same, All-head, All-tail}
use Rattle.scalar_types.specs.declared.Order.{Order}
use Rattle.dictionary.specs.declared.entries.Entry.{Entry}
use Rattle.dictionary.specs.Dictionary.{entry_of}
use Rattle.layout_plan.specs.declared.fields.Field.{Field}
use Rattle.layout_plan.specs.Layout.{layout_of}
use Rattle.link_graph.specs.declared.nodes.Root.TheVariants as root
use Rattle.link_graph.specs.Collected.{Bodied, Collected, Becomes, with_node, with_end}
use Rattle.file_grammar.specs.declared.reason.Reason.{Reason}
use Rattle.file_grammar.specs.declared.reason.Reason.TheVariants.{OpenFrame, BadClosing, FrameCount}
use Rattle.file_grammar.specs.declared.reason.Reason.TheVariants.{ByteCount, FileLimit}
use Rattle.file_grammar.specs.declared.reason.Reason.TheVariants.{FrameHTwice, AfterTable, NoFrameH}
use Rattle.file_grammar.specs.declared.reason.Reason.TheVariants.{LooseLink}
use Rattle.file_grammar.specs.declared.reason.Reason.TheVariants.{FramesLimit}
use Rattle.file_grammar.specs.declared.kind.Kind.TheVariants.{FrSH, FrSE, FrEndOfFile, Other}
use Rattle.file_grammar.specs.Structure.{Structure, record_limit, file_limit}
use Rattle.file_grammar.specs.Kind.{kind_of, kind_named, is_header_kind, is_file_end_kind}
use Rattle.file_grammar.specs.Record.{reading_of, reading_by}
use Rattle.file_grammar.specs.MayStand.{frames_limit}
use Rattle.file_grammar.specs.Closing.{closes}
use Rattle.file_grammar.specs.Fault.{Here, place, length_there, kind, class, elements, here, has_header, first_of}
use Rattle.file_grammar.proofs.Firsts.{first-none}
use Rattle.file_grammar.proofs.Tests.{test-BadClosing}
use Rattle.item_reader.specs.declared.state.State.{State}
use Rattle.item_reader.specs.declared.structure.Placed.{Placed}
use Rattle.item_reader.specs.Placed.{IsStructureAt, IsPlaced, structure_by}
use Rattle.item_reader.specs.Roles.{root_named}
use Rattle.item_reader.specs.State.{structure_of, here_in, IsRecord, IsOpen, IsSound}
use Rattle.item_reader.specs.State.{HasNoFrame}
use Rattle.item_reader.specs.Judged.{InEachFile, closing_reasons, later_record_reasons, frame_end_reasons}
use Rattle.item_reader.specs.Judged.{Holds}
use Rattle.item_reader.specs.Judged.{place_reasons, count_reasons, node_by, IsKept}
use Rattle.item_reader.proofs.Growing.{step-cases, reading-still, entry_of-stays}
use Rattle.item_reader.proofs.Holding.{kind-here, beyond-here}
use Rattle.item_reader.proofs.Located.{class-here}
use Rattle.item_reader.proofs.Somewhere.{file_with, stands-somewhere}
use Rattle.item_reader.proofs.Taken.{after_record, after_frame_end}
use Rattle.item_reader.proofs.Twins.{header-more}

-- ---- what holds in each file holds where no file is told

-- a test that fails
unmet : (h : Here) (b : Bool) → here h b ≡ None → b ≡ false
unmet h true e = absurd (none-some (place h, 0) (sym e))
unmet h false e = refl

-- what does not end beyond the limit
limit-here : (h : Here) (p : Placed) → IsPlaced h.order h.file (place h) p
    → first_of (FileLimit ∷ []) h ≡ None
    → p.at + p.length ≤ file_limit
limit-here h p placed none =
    ltb-false file_limit (p.at + p.length) (sym (beyond-here h p placed)
    ∙ unmet h (nat_lt file_limit (place h + length_there h)) (first-none FileLimit [] h none).0)

-- a reason in front of others is passed
behind : (r : Reason) (rs : List Reason) (h : Here) → first_of (r ∷ rs) h ≡ None → first_of rs h ≡ None
behind r rs h none = (first-none r rs h none).1

pub record-below : (s : State) (p : Placed) (body : List ℕ) → IsStructureAt s.at p
    → p.length ≡ 14 + length body
    → p.instance < 2 ^ 32 → InEachFile s p body (λ h. first_of later_record_reasons h ≡ None)
    → p.at + p.length ≤ file_limit
record-below s p body at size instance none =
    let stands = stands-somewhere s.segment.order s.at p body at size instance in
    let h : Here = here_in s (file_with s.segment.order p body) in
    limit-here h p stands.placed
    (behind AfterTable (FileLimit ∷ []) h (behind FrameHTwice place_reasons h (none h.file stands)))

pub frame_end-below : (s : State) (p : Placed) (body : List ℕ) → IsStructureAt s.at p
    → p.length ≡ 14 + length body
    → p.instance < 2 ^ 32 → InEachFile s p body (λ h. first_of frame_end_reasons h ≡ None)
    → p.at + p.length ≤ file_limit
frame_end-below s p body at size instance none =
    let stands = stands-somewhere s.segment.order s.at p body at size instance in
    let h : Here = here_in s (file_with s.segment.order p body) in
    let linked = behind LooseLink (drop 2 frame_end_reasons) h
    (behind NoFrameH (drop 1 frame_end_reasons) h (none h.file stands)) in
    let last = behind AfterTable (drop 3 frame_end_reasons) h linked in
    ltb-false file_limit (p.at + p.length) (sym (beyond-here h p stands.placed)
    ∙ unmet h (nat_lt file_limit (place h + length_there h)) (first-none FileLimit (FramesLimit ∷ []) h last).0)

pub file_end-below : (s : State) (p : Placed) (body : List ℕ) → IsStructureAt s.at p
    → p.length ≡ 14 + length body
    → p.instance < 2 ^ 32 → InEachFile s p body (λ h. first_of closing_reasons h ≡ None)
    → p.at + p.length ≤ file_limit
file_end-below s p body at size instance none =
    let stands = stands-somewhere s.segment.order s.at p body at size instance in
    let h : Here = here_in s (file_with s.segment.order p body) in
    let counted = behind BadClosing count_reasons h
    (behind OpenFrame (drop 1 closing_reasons) h (none h.file stands)) in
    limit-here h p stands.placed
    (behind ByteCount (FileLimit ∷ []) h (behind FrameCount (drop 1 count_reasons) h counted))

-- the layout of the end of the file is the one that it has to have
pub file_end-closes : (s : State) (p : Placed) (body : List ℕ) → IsStructureAt s.at p
    → p.length ≡ 14 + length body
    → p.instance < 2 ^ 32 → kind_of s.dictionary p.class ≡ FrEndOfFile
    → InEachFile s p body (λ h. first_of closing_reasons h ≡ None)
    → closes (option_map_or (λ e. e.elements) (entry_of s.dictionary p.class) []) ≡ true
file_end-closes s p body at size instance kind_is none =
    let stands = stands-somewhere s.segment.order s.at p body at size instance in
    let h : Here = here_in s (file_with s.segment.order p body) in
    let is : is_file_end_kind (kind h) ≡ true = ap is_file_end_kind (kind-here h p stands.placed ∙ kind_is) in
    let last = behind OpenFrame (drop 1 closing_reasons) h (none h.file stands) in
    let closed : closes (elements h) ≡ true =
    back (closes (elements h))
    (unmet h (not (closes (elements h)))
    (sym (test-BadClosing h is) ∙ (first-none BadClosing count_reasons h last).0)) in
    ap (λ class. closes (option_map_or (λ (e : Entry). e.elements) (entry_of s.dictionary class) []))
    (sym (class-here h p stands.placed)) ∙ closed
  where
    back : (b : Bool) → not b ≡ false → b ≡ true
    back true e = refl
    back false e = absurd (false≢true (sym e))

-- ---- any other record

pub sound-record : (s : State) (p : Placed) (told_weight : ℕ) (header : Bool) (segment : Collected)
    → IsSound s
    → s.numbering ≡ None → IsStructureAt s.at p → p.length ≡ 14 + length s.segment.pending
    → IsSome (reading_of s.segment.order s.dictionary (structure_by p s.segment.pending))
    → p.length ≤ told_weight
    → s.load + told_weight ≤ record_limit → p.at + p.length ≤ file_limit
    → header ≡ (s.header || is_header_kind (kind_of s.dictionary p.class))
    → Becomes segment (with_node (node_by s.dictionary p) s.segment)
    → IsKept s (after_record s p told_weight header segment)
sound-record s p told_weight header segment sound none here size reads heavy light low header_is becomes =
    record {
      sound = record {
        low = omega (arith, here.place, low);
        header = omega (arith, sound.header);
        built_in = record { structure = sound.built_in.structure; element = sound.built_in.element };
        plans = sound.plans;
        nodes = subst (λ order. All (IsRecord order s.dictionary) segment.nodes) (sym becomes.order)
            (All-same (IsRecord s.segment.order s.dictionary) segment.nodes (s.segment.nodes ++ joined ∷ [])
            becomes.nodes (All-push (IsRecord s.segment.order s.dictionary) s.segment.nodes joined sound.nodes
            (record { reads = reads; root_is = refl })));
        frame = λ n. record {
          end_record = becomes.end_record ∙ o.end_record;
          given = omega (arith, o.given, becomes.given, long, heavy, size);
          header_is = header_is
              ∙ ap (λ b. b || is_header_kind (kind_of s.dictionary p.class)) o.header_is
              ∙ sym (header-more s.dictionary (map structure_of s.segment.nodes) (structure_of joined))
              ∙ ap (has_header s.dictionary) (sym more);
        };
        no_frame = λ some. absurd (false≢true (ap is_some (sym none) ∙ some));
        load = light;
        frames = sound.frames;
        records = omega (arith, sound.records, here.head);
      };
      pending = becomes.pending;
      order = becomes.order;
    }
  where
    o : IsOpen s
    o = sound.frame none

    joined : Bodied
    joined = record { node = node_by s.dictionary p; body = s.segment.pending }

    long : length segment.nodes ≡ length s.segment.nodes + 1
    long = ap (λ (nodes : List Bodied). length nodes) becomes.nodes
        ∙ length-append s.segment.nodes (joined ∷ [])

    more : map structure_of segment.nodes ≡ map structure_of s.segment.nodes ++ structure_of joined ∷ []
    more = ap (map structure_of) becomes.nodes ∙ map-append structure_of s.segment.nodes (joined ∷ [])

-- ---- the end of a frame

pub sound-frame_end : (s : State) (p : Placed) (segment : Collected) (kept : Option (List ℕ))
    (numbers : List ℕ) → kept ≡ Some numbers → IsSound s → IsStructureAt s.at p
    → p.at + p.length ≤ file_limit → s.frames < frames_limit
    → Becomes segment (with_end (node_by s.dictionary p) s.segment)
    → IsKept s (after_frame_end s p segment kept)
sound-frame_end s p segment kept numbers ended sound here low few becomes = record {
  sound = record {
    low = omega (arith, here.place, low);
    header = omega (arith, sound.header);
    built_in = record { structure = sound.built_in.structure; element = sound.built_in.element };
    plans = sound.plans;
    nodes = subst (λ order. All (IsRecord order s.dictionary) segment.nodes) (sym becomes.order)
        (All-same (IsRecord s.segment.order s.dictionary) segment.nodes s.segment.nodes becomes.nodes sound.nodes);
    frame = λ none. absurd (none-some numbers (sym none ∙ ended));
    no_frame = λ some. record { load = refl; header_is = refl };
    load = omega arith;
    frames = omega (arith, few);
    records = omega (arith, sound.records, here.head);
  };
  pending = becomes.pending;
  order = becomes.order;
}

-- what is beside the frame does not matter, while it is open
pub sound-beside : (s : State) (kept : Option (List ℕ)) → kept ≡ s.numbering
    → IsSound s → IsSound (record s { numbering = kept })
sound-beside s kept same sound = record {
  low = sound.low;
  header = sound.header;
  built_in = record { structure = sound.built_in.structure; element = sound.built_in.element };
  plans = sound.plans;
  nodes = sound.nodes;
  frame = λ none. let o : IsOpen s = sound.frame (sym same ∙ none) in record {
    end_record = o.end_record;
    given = o.given;
    header_is = o.header_is;
  };
  no_frame = λ some. let n : HasNoFrame s = sound.no_frame (subst IsSome same some) in
      record { load = n.load; header_is = n.header_is };
  load = sound.load;
  frames = sound.frames;
  records = sound.records;
}

-- ---- the end of the file

pub sound-file_end : (s : State) (p : Placed) → IsSound s → IsStructureAt s.at p
    → p.at + p.length ≤ file_limit
    → s.segment.pending ≡ [] → IsKept s (record s { at = s.at + p.length; closed = true })
sound-file_end s p sound here low pending = record {
  sound = record {
    low = omega (arith, here.place, low);
    header = omega (arith, sound.header);
    built_in = record { structure = sound.built_in.structure; element = sound.built_in.element };
    plans = sound.plans;
    nodes = sound.nodes;
    frame = λ none. let o : IsOpen s = sound.frame none in record {
      end_record = o.end_record;
      given = o.given;
      header_is = o.header_is;
    };
    no_frame = λ some. let n : HasNoFrame s = sound.no_frame some in
        record { load = n.load; header_is = n.header_is };
    load = sound.load;
    frames = sound.frames;
    records = omega (arith, sound.records);
  };
  pending = pending;
  order = refl;
}

-- ---- an entry

-- a structure that reads is of a class that is held
pub reads-held : (order : Order) (held : List Entry) (s : Structure) → IsSome (reading_of order held s)
    → IsSome (entry_of held s.class)
reads-held order held s some = by (entry_of held s.class) some
  where
    by : (o : Option Entry)
        → IsSome (option_and_then (reading_by order s.body)
        (option_and_then (λ (e : Entry). layout_of e.elements) o))
        → IsSome o
    by None e = e
    by (Some x) e = refl

-- what is held of a class stays
pub entry-still : (held : List Entry) (e : Entry) (class : ℕ) → IsSome (entry_of held class)
    → entry_of (held ++ e ∷ []) class ≡ entry_of held class
entry-still held e class some = by (entry_of held class) refl some
  where
    by : (o : Option Entry) → entry_of held class ≡ o → IsSome o
        → entry_of (held ++ e ∷ []) class ≡ entry_of held class
    by None is f = absurd (false≢true f)
    by (Some x) is t = entry_of-stays held e class x is ∙ sym is

record-still : (order : Order) (held : List Entry) (e : Entry) (r : Bodied) → IsRecord order held r
    → IsRecord order (held ++ e ∷ []) r
record-still order held e r is = record {
  reads = reading-still order held e (structure_of r) is.reads;
  root_is = is.root_is ∙ sym (ap (λ o. option_map_or (λ (e : Entry). root_named e.name) o root.No)
      (entry-still held e r.node.class (reads-held order held (structure_of r) is.reads)));
}

header-still : (order : Order) (held : List Entry) (e : Entry) (nodes : List Bodied)
    → All (IsRecord order held) nodes
    → has_header (held ++ e ∷ []) (map structure_of nodes) ≡ has_header held (map structure_of nodes)
header-still order held e [] all = refl
header-still order held e (r ∷ rs) all =
    ap (λ k. is_some (cond (is_header_kind k) (Some (structure_of r))
    (find (λ (t : Structure). is_header_kind (kind_of (held ++ e ∷ []) t.class)) (map structure_of rs)))) same
    ∙ by (is_header_kind (kind_of held r.node.class))
    (header-still order held e rs (All-tail (IsRecord order held) r rs all))
  where
    head : IsRecord order held r
    head = All-head (IsRecord order held) r rs all

    same : kind_of (held ++ e ∷ []) r.node.class ≡ kind_of held r.node.class
    same = ap (λ o. cond (r.node.class == 1) FrSH
        (cond (r.node.class == 2) FrSE (option_map_or (λ (e : Entry). kind_named e.name) o Other)))
        (entry-still held e r.node.class (reads-held order held (structure_of r) head.reads))

    by : (b : Bool) → has_header (held ++ e ∷ []) (map structure_of rs)
        ≡ has_header held (map structure_of rs)
        → is_some (cond b (Some (structure_of r))
        (find (λ (t : Structure). is_header_kind (kind_of (held ++ e ∷ []) t.class)) (map structure_of rs)))
        ≡ is_some (cond b (Some (structure_of r))
        (find (λ (t : Structure). is_header_kind (kind_of held t.class)) (map structure_of rs)))
    by true later = refl
    by false later = later

nodes-still : (order : Order) (held : List Entry) (e : Entry) (nodes : List Bodied)
    → All (IsRecord order held) nodes → All (IsRecord order (held ++ e ∷ [])) nodes
nodes-still order held e nodes all =
    All-weaker (IsRecord order held) (IsRecord order (held ++ e ∷ [])) (record-still order held e) nodes all

open-still : (s : State) (e : Entry) (plans : List (ℕ × List Field)) (end : ℕ)
    → All (IsRecord s.segment.order s.dictionary) s.segment.nodes → IsOpen s
    → IsOpen (record s { at = end; dictionary = s.dictionary ++ e ∷ []; plans = plans })
open-still s e plans end all o = record {
  end_record = o.end_record;
  given = o.given;
  header_is = o.header_is ∙ sym (header-still s.segment.order s.dictionary e s.segment.nodes all);
}

pub sound-entry : (s : State) (p : Placed) (entry : Entry) (end : ℕ) (changed : Bool) (new : State)
    → IsSound s
    → IsStructureAt s.at p → p.at + p.length ≤ end → end ≤ max (p.at + p.length) file_limit
    → p.at + p.length ≤ file_limit → Holds s entry changed new → s.segment.pending ≡ []
    → IsKept s (record new { at = end })
sound-entry s p entry end changed new sound here after low below holds pending =
    subst (λ (n : State). IsKept s (record n { at = end })) (sym holds.rest) kept
  where
    grown : State
    grown = record s { at = end; dictionary = new.dictionary; plans = new.plans }

    opens : IsOpen s → IsOpen grown
    opens o = elim (step-cases s.dictionary entry new.dictionary holds.step_is) [
      | inl stays ↦ subst (λ d. IsOpen (record s { at = end; dictionary = d; plans = new.plans }))
          (sym stays.1)
          (record {
            end_record = o.end_record;
            given = o.given;
            header_is = o.header_is;
          })
      | inr grows ↦ subst (λ d. IsOpen (record s { at = end; dictionary = d; plans = new.plans }))
          (sym grows.1)
          (open-still s entry new.plans end sound.nodes o)
    ]

    nodes : All (IsRecord s.segment.order new.dictionary) s.segment.nodes
    nodes = elim (step-cases s.dictionary entry new.dictionary holds.step_is) [
      | inl stays ↦ subst (λ d. All (IsRecord s.segment.order d) s.segment.nodes) (sym stays.1) sound.nodes
      | inr grows ↦ subst (λ d. All (IsRecord s.segment.order d) s.segment.nodes) (sym grows.1)
          (nodes-still s.segment.order s.dictionary entry s.segment.nodes sound.nodes)
    ]

    kept : IsKept s grown
    kept = record {
      sound = record {
        low = omega (arith, low, below);
        header = omega (arith, sound.header, here.place, after);
        built_in = record { structure = sound.built_in.structure; element = sound.built_in.element };
        plans = holds.plans;
        nodes = nodes;
        frame = λ none. opens (sound.frame none);
        no_frame = λ some. let n : HasNoFrame s = sound.no_frame some in
            record { load = n.load; header_is = n.header_is };
        load = sound.load;
        frames = sound.frames;
        records = omega (arith, sound.records, here.place, after);
      };
      pending = pending;
      order = refl;
    }
