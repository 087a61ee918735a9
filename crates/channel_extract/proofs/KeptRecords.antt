-- What is known of the records of a segment by their classes and instances alone, where these stay.
use Rattle.std.proofs.Common.{◌≡◌, ℕ, ◌+◌, Bool, cond, List, [], ◌∷◌, ◌++◌, map, position, Option, Some, None, IfSome}
use Rattle.std.proofs.Common.{refl, sym, ap, ◌∙◌, subst, append-nil}
use Rattle.std.specs.Prelude.{◌==◌, ◌&&◌, slice_get}
use Rattle.std.specs.Option.{option_map}
use Rattle.std.proofs.lemmas.Option.{slice_get-map}
use Rattle.scalar_types.specs.declared.Order.{Order}
use Rattle.type_text.specs.declared.types.Link.{Link}
use Rattle.record_values.specs.Links.{links_in}
use Rattle.dictionary.specs.declared.entries.Entry.{Entry}
use Rattle.layout_plan.specs.Lent.{IsLinkField}
use Rattle.layout_plan.specs.Plans.{plan_of}
use Rattle.link_graph.specs.declared.nodes.Root.{Root}
use Rattle.link_graph.specs.declared.nodes.Root.TheVariants.{No, Head, Stat}
use Rattle.link_graph.specs.Collected.{Bodied, Collected, target_of, same_root, without_stat, without_stat_root}
use Rattle.link_graph.specs.Graph.{Layouts, roots_from}
use Rattle.frame_content.specs.Labels.{Label}
use Rattle.frame_content.specs.Frames.{frame_of, label_of, values_in, row_of, label_at}
use Rattle.contents_table.specs.Channels.{head_field, next_field}
use Rattle.contents_table.specs.Layouts.{HasPlainLink, IsHeadField, IsNextField}
use Rattle.contents_table.proofs.Positions.{position-map}
use Rattle.channel_extract.specs.Cutting.{own_link, IsTarget}

-- the records have the classes and instances of others
abbrev pub HaveSameLinks : List Bodied → List Bodied → Type 0
HaveSameLinks old new = map own_link new ≡ map own_link old

kept-at : (Q : Link → Type 0) (old new : List Bodied) (n : ℕ) → HaveSameLinks old new
    → IfSome (slice_get old n) (λ r. Q (own_link r)) → IfSome (slice_get new n) (λ r. Q (own_link r))
kept-at Q old new n same is =
    back (slice_get new n) (subst (λ o. IfSome o Q) found (forth (slice_get old n) is))
  where
    found : option_map own_link (slice_get old n) ≡ option_map own_link (slice_get new n)
    found =
        sym (slice_get-map own_link old n) ∙ ap (λ links. slice_get links n) (sym same) ∙ slice_get-map own_link new n

    forth : (o : Option Bodied) → IfSome o (λ r. Q (own_link r)) → IfSome (option_map own_link o) Q
    forth None is = tt
    forth (Some r) is = is

    back : (o : Option Bodied) → IfSome (option_map own_link o) Q → IfSome o (λ r. Q (own_link r))
    back None is = tt
    back (Some r) is = is

-- targets
abbrev is_same : Link → Link → Bool
is_same link own = own.class == link.class && own.instance == link.instance

pub target-kept : (old new : List Bodied) (link : Link) → HaveSameLinks old new
    → target_of new link ≡ target_of old link
target-kept old new link same =
    ap (cond (link.class == 0) None)
    (sym (position-map (is_same link) own_link new) ∙ ap (position (is_same link)) same
    ∙ position-map (is_same link) own_link old)

pub is-target-kept : (old new : Collected) (n : ℕ) → HaveSameLinks old.nodes new.nodes → IsTarget old n → IsTarget new n
is-target-kept old new n same is =
    kept-at (λ link. target_of new.nodes link ≡ Some n) old.nodes new.nodes n same
    (subst (λ (target : Link → Option ℕ). IfSome (slice_get old.nodes n) (λ r. target (own_link r) ≡ Some n))
    (λ i link. sym (target-kept old.nodes new.nodes link same) i) is)

-- plain links
plain-kept : (plans : Layouts) (old new : Collected) (n field : ℕ) → HaveSameLinks old.nodes new.nodes
    → HasPlainLink plans old n field → HasPlainLink plans new n field
plain-kept plans old new n field same is =
    kept-at (λ link. IfSome (plan_of plans link.class) (λ fields. IsLinkField fields field)) old.nodes new.nodes n same
    is

pub head-kept : (held : List Entry) (plans : Layouts) (old new : Collected) (name : List ℕ) (n field : ℕ)
    → HaveSameLinks old.nodes new.nodes → label_at (frame_of held new) n ≡ label_at (frame_of held old) n
    → IsHeadField held plans old name n field → IsHeadField held plans new name n field
head-kept held plans old new name n field same label is = record {
  field_is = ap (λ (l : Label). head_field name l.entry.elements) label ∙ is.field_is;
  plain = plain-kept plans old new n field same is.plain;
}

pub next-kept : (held : List Entry) (plans : Layouts) (old new : Collected) (n : ℕ) (field : Option ℕ)
    → HaveSameLinks old.nodes new.nodes → label_at (frame_of held new) n ≡ label_at (frame_of held old) n
    → IsNextField held plans old n field → IsNextField held plans new n field
next-kept held plans old new n field same label is = record {
  field_is = is.field_is ∙ ap (λ (l : Label). next_field l.entry.elements) (sym label);
  plain = by field is.plain;
}
  where
    by : (o : Option ℕ) → IfSome o (HasPlainLink plans old n) → IfSome o (HasPlainLink plans new n)
    by None is = tt
    by (Some field) is = plain-kept plans old new n field same is

-- ---- static data are no roots

pub without-links : (nodes : List Bodied) → HaveSameLinks nodes (map without_stat nodes)
without-links [] = refl
without-links (r ∷ rs) = ap (λ links. own_link r ∷ links) (without-links rs)

rows-without : (order : Order) (held : List Entry) (old new : List Bodied)
    → ((link : Link) → target_of new link ≡ target_of old link) → (rs : List Bodied)
    → map (row_of order held new) (map without_stat rs) ≡ map (row_of order held old) rs
rows-without order held old new same [] = refl
rows-without order held old new same (r ∷ rs) =
    λ i. record {
      label = label_of order held r;
      links = map (λ link. same link i) (links_in (values_in order held r));
    } ∷ rows-without order held old new same rs i

head-stays : (root : Root) → same_root (without_stat_root root) Head ≡ same_root root Head
head-stays No = refl
head-stays Head = refl
head-stays Stat = refl

stat-goes : (root : Root) → same_root (without_stat_root root) Stat ≡ same_root No Head
stat-goes No = refl
stat-goes Head = refl
stat-goes Stat = refl

heads-stay : (n : ℕ) (rs : List Bodied) → roots_from Head n (map without_stat rs) ≡ roots_from Head n rs
heads-stay n [] = refl
heads-stay n (r ∷ rs) = λ i. cond (head-stays r.node.root i) (n ∷ []) [] ++ heads-stay (n + 1) rs i

stats-go : (n : ℕ) (rs : List Bodied) → roots_from Stat n (map without_stat rs) ≡ []
stats-go n [] = refl
stats-go n (r ∷ rs) = λ i. cond (stat-goes r.node.root i) (n ∷ []) [] ++ stats-go (n + 1) rs i

-- the frame has the head as its only root
pub frame-without : (held : List Entry) (s t : Collected) → t ≡ record s { nodes = map without_stat s.nodes }
    → frame_of held t ≡ record (frame_of held s) { roots = roots_from Head 0 s.nodes }
frame-without held s t is =
    ap (frame_of held) is ∙ (λ i. record {
      rows = rows-without s.order held s.nodes (map without_stat s.nodes)
          (λ link. target-kept s.nodes (map without_stat s.nodes) link (without-links s.nodes)) s.nodes i;
      roots = (roots i);
      end = (frame_of held (record s { nodes = map without_stat s.nodes })).end;
    })
  where
    roots : roots_from Head 0 (map without_stat s.nodes) ++ roots_from Stat 0 (map without_stat s.nodes)
        ≡ roots_from Head 0 s.nodes
    roots = (λ i. heads-stay 0 s.nodes i ++ stats-go 0 s.nodes i) ∙ append-nil (roots_from Head 0 s.nodes)
