-- The lines of an item as a reader has given it are those of the item.
use Rattle.std.proofs.Common.{◌≡◌, ℕ, ◌+◌, Bool, true, false, cond, List, [], ◌++◌, length, Option, Some, None, is_none}
use Rattle.std.proofs.Common.{◌&&◌, refl, sym, ap, subst, ◌∙◌}
use Rattle.std.proofs.lemmas.List.{append-nil}
use Rattle.std.specs.Option.{option_map_or}
use Rattle.scalar_types.specs.declared.Order.{Order}
use Rattle.dictionary.specs.declared.entries.Entry.{Entry}
use Rattle.layout_plan.specs.declared.fields.Field.{Field}
use Rattle.file_grammar.specs.declared.kind.Kind.{Kind}
use Rattle.file_grammar.specs.declared.kind.Kind.TheVariants.{FrSH, FrSE, FrameH, FrEndOfFrame, FrTOC, FrEndOfFile}
use Rattle.file_grammar.specs.declared.kind.Kind.TheVariants.{Other}
use Rattle.file_grammar.specs.Structure.{Structure, size_of, end_of, structure_at}
use Rattle.file_grammar.specs.Kind.{kind_of, is_table_kind, is_file_end_kind}
use Rattle.file_grammar.specs.Record.{layout_in, weight_of}
use Rattle.file_grammar.specs.Item.{Item, EntryItem, OtherItem, Before, after_kind, after}
use Rattle.file_grammar.specs.MayStand.{MayStand}
use Rattle.file_grammar.specs.Fault.{Here, structure, kind}
use Rattle.file_grammar.proofs.Advance.{place-after_kind}
use Rattle.item_reader.specs.declared.item.Item.{Item as Given}
use Rattle.item_reader.specs.declared.item.Item.TheVariants as given
use Rattle.item_reader.specs.Given.{TellsKind, Tells, body_after, entry_given, instance_given}
use Rattle.item_reader.specs.Reader.{Reader, Goes, here_of}
use Rattle.dumper.specs.Lines.{entry_text, body_text, structure_line, structure_text, end_line, end_text, item_text}
use Rattle.dumper.specs.Lines.{name_of, elements_of}
use Rattle.dumper.specs.Given.{last_text, given_text}

-- ---- the dictionary

-- a structure that is no part of an entry leaves it as it is
dictionary-kept : (k : Kind) (b : Before) (s : Structure) (weight : ℕ)
    → (after_kind k b s weight).dictionary ≡ b.dictionary
dictionary-kept FrSH b s weight = refl
dictionary-kept FrSE b s weight = refl
dictionary-kept FrameH b s weight = refl
dictionary-kept FrEndOfFrame b s weight = refl
dictionary-kept FrTOC b s weight = refl
dictionary-kept FrEndOfFile b s weight = refl
dictionary-kept Other b s weight = refl

-- ---- the body

-- a body is printed the same where its layout is not readable
body-unread : (order : Order) (held : List Entry) (layout : Option (List Field)) (elements : _) (table : Bool)
    (body lent : List ℕ) → lent ≡ cond (table && is_none layout) [] body
    → body_text order elements layout lent ≡ body_text order elements layout body
body-unread order held None elements table body lent is = refl
body-unread order held (Some fields) elements true body lent is = ap (body_text order elements (Some fields)) is
body-unread order held (Some fields) elements false body lent is = ap (body_text order elements (Some fields)) is

-- ---- the structure that was given

-- what a reader knows of a structure that it has given
record IsGiven (order : Order) (held : List Entry) (s : Structure) (k : Kind) (r : Reader) : Type 0 where
  order_is : r.order ≡ order
  held_is : r.before.dictionary ≡ held
  place_is : r.before.place ≡ end_of s
  instance_is : r.instance ≡ s.instance
  body_is : r.body ≡ cond (is_table_kind k && is_none (layout_in held s.class)) [] s.body

-- its lines, by the numbers that were given
last-lines : (order : Order) (held : List Entry) (s : Structure) (k : Kind) (r : Reader) (at class instance size : ℕ)
    → IsGiven order held s k r → at ≡ s.at → class ≡ s.class → instance ≡ s.instance → size ≡ size_of s
    → last_text r at class instance size ≡ structure_text order held s.at s.class s.instance (size_of s) s.body
last-lines order held s k r at class instance size g at_is class_is instance_is size_is =
    (λ i. structure_text (g.order_is i) (g.held_is i) (at_is i) (class_is i) (instance_is i) (size_is i) r.body)
    ∙ ap (λ text. structure_line (name_of held s.class) s.at s.class s.instance (size_of s) ++ text)
    (body-unread order held (layout_in held s.class) (elements_of held s.class) (is_table_kind k) s.body r.body
    g.body_is)

-- nothing is printed behind a structure that does not end the file
end-none : (held : List Entry) (s : Structure) (k : Kind) (text : List ℕ) → kind_of held s.class ≡ k
    → is_file_end_kind k ≡ false → text ≡ text ++ end_text held s
end-none held s k text is none =
    sym (append-nil text)
    ∙ ap (λ last. text ++ cond last (end_line (end_of s)) []) (sym (ap is_file_end_kind is ∙ none))

-- a record, of which all of the body is lent
plain-lines : (order : Order) (held : List Entry) (s : Structure) (k : Kind) (r : Reader) (at class instance : ℕ)
    → kind_of held s.class ≡ k → is_table_kind k ≡ false → is_file_end_kind k ≡ false → IsGiven order held s k r
    → at ≡ s.at → class ≡ s.class → instance ≡ s.instance
    → last_text r at class instance (14 + length r.body) ≡ item_text order held (OtherItem s)
plain-lines order held s k r at class instance is table last g at_is class_is instance_is =
    let body : r.body ≡ s.body =
    g.body_is ∙ ap (λ t. cond (t && is_none (layout_in held s.class)) [] s.body) table in
    last-lines order held s k r at class instance (14 + length r.body) g at_is class_is instance_is
    (ap (λ b. 14 + length b) body)
    ∙ end-none held s k (structure_text order held s.at s.class s.instance (size_of s) s.body) is last

-- the lines of a structure of a kind
kind-lines : (h : Here) (s : Structure) (k : Kind) (r : Reader) (item : Given)
    → kind_of h.before.dictionary s.class ≡ k → IsGiven h.order h.before.dictionary s k r → TellsKind k h s item
    → given_text r item ≡ item_text h.order h.before.dictionary (OtherItem s)
kind-lines h s FrSH r item is g tells = absurd tells
kind-lines h s FrSE r item is g tells = absurd tells
kind-lines h s FrameH r (given.Plain at class instance node) is g tells =
    plain-lines h.order h.before.dictionary s FrameH r at class instance is refl refl g tells.0 tells.1 tells.2
kind-lines h s FrameH r (given.Entry at class changed) is g tells = absurd tells
kind-lines h s FrameH r (given.FrameEnd at class) is g tells = absurd tells
kind-lines h s FrameH r (given.Table at class size) is g tells = absurd tells
kind-lines h s FrameH r (given.FileEnd at class size seek) is g tells = absurd tells
kind-lines h s Other r (given.Plain at class instance node) is g tells =
    plain-lines h.order h.before.dictionary s Other r at class instance is refl refl g tells.0 tells.1 tells.2
kind-lines h s Other r (given.Entry at class changed) is g tells = absurd tells
kind-lines h s Other r (given.FrameEnd at class) is g tells = absurd tells
kind-lines h s Other r (given.Table at class size) is g tells = absurd tells
kind-lines h s Other r (given.FileEnd at class size seek) is g tells = absurd tells
kind-lines h s FrEndOfFrame r (given.FrameEnd at class) is g tells =
    plain-lines h.order h.before.dictionary s FrEndOfFrame r at class r.instance is refl refl g tells.0 tells.1
    g.instance_is
kind-lines h s FrEndOfFrame r (given.Plain at class instance node) is g tells = absurd tells
kind-lines h s FrEndOfFrame r (given.Entry at class changed) is g tells = absurd tells
kind-lines h s FrEndOfFrame r (given.Table at class size) is g tells = absurd tells
kind-lines h s FrEndOfFrame r (given.FileEnd at class size seek) is g tells = absurd tells
kind-lines h s FrTOC r (given.Table at class size) is g tells =
    last-lines h.order h.before.dictionary s FrTOC r at class r.instance size g tells.0 tells.1 g.instance_is tells.2
    ∙ end-none h.before.dictionary s FrTOC
    (structure_text h.order h.before.dictionary s.at s.class s.instance (size_of s) s.body) is refl
kind-lines h s FrTOC r (given.Plain at class instance node) is g tells = absurd tells
kind-lines h s FrTOC r (given.Entry at class changed) is g tells = absurd tells
kind-lines h s FrTOC r (given.FrameEnd at class) is g tells = absurd tells
kind-lines h s FrTOC r (given.FileEnd at class size seek) is g tells = absurd tells
kind-lines h s FrEndOfFile r (given.FileEnd at class size seek) is g tells =
    let held = h.before.dictionary in
    ap (λ text. text ++ end_line r.before.place)
    (last-lines h.order held s FrEndOfFile r at class r.instance size g tells.0 tells.1 g.instance_is tells.2)
    ∙ ap (λ place. structure_text h.order held s.at s.class s.instance (size_of s) s.body ++ end_line place) g.place_is
    ∙ ap (λ k. structure_text h.order held s.at s.class s.instance (size_of s) s.body
    ++ cond (is_file_end_kind k) (end_line (end_of s)) []) (sym is)
kind-lines h s FrEndOfFile r (given.Plain at class instance node) is g tells = absurd tells
kind-lines h s FrEndOfFile r (given.Entry at class changed) is g tells = absurd tells
kind-lines h s FrEndOfFile r (given.FrameEnd at class) is g tells = absurd tells
kind-lines h s FrEndOfFile r (given.Table at class size) is g tells = absurd tells

-- ---- the item

item-lines : (h : Here) (taken : Item) (r : Reader) (item : Given) → MayStand h.order h.file h.before taken
    → Tells h taken item → r.order ≡ h.order → r.before ≡ after h.order h.before taken → r.body ≡ body_after h taken
    → r.entry ≡ entry_given taken → r.instance ≡ instance_given taken
    → given_text r item ≡ item_text h.order h.before.dictionary taken
item-lines h (EntryItem head run entry) r (given.Entry at class changed) may tells order before body held instance =
    ap (λ found. option_map_or entry_text found []) held
item-lines h (EntryItem head run entry) r (given.Plain at class instance node) may tells order before body held other =
    absurd tells
item-lines h (EntryItem head run entry) r (given.FrameEnd at class) may tells order before body held instance =
    absurd tells
item-lines h (EntryItem head run entry) r (given.Table at class size) may tells order before body held instance =
    absurd tells
item-lines h (EntryItem head run entry) r (given.FileEnd at class size seek) may tells order before body held instance =
    absurd tells
item-lines h (OtherItem s) r item may tells order before body held instance =
    let same : s ≡ structure h = may.1.stands.is ∙ ap (structure_at h.order h.file) may.1.here in
    let kinds : kind h ≡ kind_of h.before.dictionary s.class =
    ap (λ (s : Structure). kind_of h.before.dictionary s.class) (sym same) in
    let k = kind_of h.before.dictionary s.class in
    let weight = weight_of h.order h.before.dictionary s in
    kind-lines h s k r item refl
    (record {
      order_is = order;
      held_is = ap (λ (b : Before). b.dictionary) before ∙ dictionary-kept k h.before s weight;
      place_is = ap (λ (b : Before). b.place) before ∙ place-after_kind k h.before s weight;
      instance_is = instance;
      body_is =
          body ∙ ap (λ k. cond (is_table_kind k && is_none (layout_in h.before.dictionary s.class)) [] s.body) kinds;
    })
    (subst (λ k. TellsKind k h s item) kinds tells)

-- The lines of the item that a reader has given last are those of the item that it has taken.
pub given-lines : (file : List ℕ) (old : Reader) (item : Given) (new : Reader) (goes : Goes file old item new)
    → new.order ≡ old.order → given_text new item ≡ item_text old.order old.before.dictionary goes.taken
given-lines file old item new goes order =
    item-lines (here_of file old) goes.taken new item goes.stands goes.tells order goes.before goes.body goes.entry
    goes.instance
