-- What callers see of a reader, and what is lent once a frame was lifted: no record, and no body.
use Rattle.std.proofs.Common.{◌≡◌, ℕ, List, [], map, Option, Some, None, IsSome, refl, sym, ap, ◌∙◌, subst}
use Rattle.std.specs.Option.{option_map_or}
use Rattle.link_graph.specs.Collected.{Bodied, Collected, Becomes, nothing_in}
use Rattle.item_reader.specs.declared.cursor.Cursor.{Cursor}
use Rattle.item_reader.specs.declared.item.Item.{Item as Given}
use Rattle.item_reader.specs.declared.item.Item.TheVariants as given
use Rattle.item_reader.specs.declared.item.ReadError.{ReadError}
use Rattle.item_reader.specs.State.{structure_of, open_records, before_of}
use Rattle.item_reader.specs.Given.{entry_in}
use Rattle.item_reader.specs.Cursor.{body_in}
use Rattle.item_reader.specs.Reader.{Reader, IsFrameEnd}

-- what callers see of a reader
abbrev pub shown : Cursor → Option Given → Option ReadError → Reader
shown c last error = record {
  position = c.source;
  order = c.state.segment.order;
  before = before_of c.state;
  segment = c.state.segment;
  numbering = c.state.numbering;
  body = body_in last c.own.items c.state.segment;
  last = last;
  entry = entry_in last c.kept c.state.dictionary;
  instance = c.instance;
  looked = c.looked;
  error = error;
}

-- no body is lent of a segment without an end record, after none but a frame's end
pub lent-none : (last : Option Given) (own : List ℕ) (segment : Collected)
    → ((item : Given) → last ≡ Some item → IsFrameEnd item) → segment.end_record ≡ None
    → body_in last own segment ≡ []
lent-none None own segment ended none = refl
lent-none (Some (given.Entry at class changed)) own segment ended none = refl
lent-none (Some (given.Plain at class instance node)) own segment ended none = absurd (ended _ refl)
lent-none (Some (given.FrameEnd at class)) own segment ended none =
    ap (λ o. option_map_or (λ (r : Bodied). r.body) o []) none
lent-none (Some (given.Table at class length)) own segment ended none = absurd (ended _ refl)
lent-none (Some (given.FileEnd at class length seek)) own segment ended none = absurd (ended _ refl)

-- no record is open, before a frame that has ended is lifted and after it
pub open-none : (numbering : Option (List ℕ)) (old new : Collected) → IsSome numbering → new.nodes ≡ []
    → open_records None new ≡ open_records numbering old
open-none None old new ended none = absurd cc
open-none (Some numbers) old new ended none = ap (map structure_of) none

-- what callers see once the frame was lifted
pub lifted : (c : Cursor) (last : Option Given) (error : Option ReadError) (r : Reader) (empty : Collected)
    → shown c last error ≡ r → ((item : Given) → r.last ≡ Some item → IsFrameEnd item) → IsSome r.numbering
    → Becomes empty (nothing_in r.order)
    → shown (record c { state = record c.state { segment = empty; numbering = None } }) last error
    ≡ record r { segment = empty; numbering = None; body = [] }
lifted c last error r empty is ended some becomes =
    let body : body_in last c.own.items empty ≡ [] =
    lent-none last c.own.items empty (λ item given. ended item (sym (ap (λ (r : Reader). r.last) is) ∙ given))
    becomes.end_record in
    let frame : open_records None empty ≡ open_records c.state.numbering c.state.segment =
    open-none c.state.numbering c.state.segment empty
    (subst IsSome (sym (ap (λ (r : Reader). r.numbering) is)) some) becomes.nodes in
    let order : empty.order ≡ c.state.segment.order = becomes.order ∙ sym (ap (λ (r : Reader). r.order) is) in
    (λ i. record {
      position = c.source;
      order = order i;
      before = record (before_of c.state) { frame = frame i };
      segment = empty;
      numbering = None;
      body = body i;
      last = last;
      entry = entry_in last c.kept c.state.dictionary;
      instance = c.instance;
      looked = c.looked;
      error = error;
    })
    ∙ ap (λ (r : Reader). record r { segment = empty; numbering = None; body = [] }) is
