-- What is found by class and instance.
use Rattle.std.proofs.Common.{◌≡◌, ℕ, ◌+◌, ◌<◌, Bool, true, false, cond, List, [], ◌∷◌, ◌++◌, length}
use Rattle.std.proofs.Common.{map, is_some, Option, Some, None, refl, sym, ap, ◌∙◌, subst, arith}
use Rattle.std.specs.Prelude.{◌==◌, ◌&&◌, nat_lt, not, IsTrue, IsSome, OnOk, Result, Ok, Err, is_ok, is_err}
use Rattle.std.specs.List.{position_or_len}
use Rattle.std.proofs.lemmas.List.{length-map, length_push, map-append}
use Rattle.std.proofs.lemmas.Bool.{ne_eqb}
use Rattle.type_text.specs.declared.types.Link.{Link}
use Rattle.frame_region.specs.Region.{Held}
use Rattle.link_graph.specs.declared.nodes.Node.{Node}
use Rattle.link_graph.specs.declared.nodes.Kept.{Kept}
use Rattle.link_graph.specs.Collected.{Bodied, is_named, place_of, link_to, is_held, target_of}
use Rattle.link_graph.specs.Kept.{number_in, link_of, AreNumbered, bodied, without_stat_kept}
use Rattle.link_graph.specs.Index.{is_link, place_in}

-- the number of a record does not depend on its body
len-bodied : (region : Held) (link : Link) (records : List Kept) →
    position_or_len (λ (r : Bodied). is_named link r.node) (map (bodied region) records) ≡ position_or_len
    (λ (kept : Kept). is_named link kept.node) records
len-bodied region link [] = refl
len-bodied region link (kept ∷ more) =
    ap (λ n. cond (not (is_named link kept.node)) (1 + n) 0) (len-bodied region link more)

pub place-bodied : (region : Held) (link : Link) (records : List Kept) →
    place_of (map (bodied region) records) link ≡ number_in records link
place-bodied region link records =
    let same = len-bodied region link records in
    let size : length (map (bodied region) records) ≡ length records = length-map records (bodied region) in
    λ i. cond (nat_lt (same i) (size i)) (Some (same i)) None

-- a link names a record exactly where it is the link to it
named-link : (link : Link) (node : Node) → is_link link (link_to node) ≡ is_named link node
named-link link node = and-swap (node.instance == link.instance) (node.class == link.class)
  where
    and-swap : (a b : Bool) → (a && b) ≡ (b && a)
    and-swap true true = refl
    and-swap true false = refl
    and-swap false true = refl
    and-swap false false = refl

-- the number of a record is the place of its link
len-linked : (link : Link) (records : List Kept) → position_or_len (is_link link) (map link_of records) ≡
    position_or_len (λ (kept : Kept). is_named link kept.node) records
len-linked link [] = refl
len-linked link (kept ∷ more) =
    (λ i. cond (not (named-link link kept.node i)) (1 + len-linked link more i) 0)

pub place-linked : (link : Link) (records : List Kept) →
    place_in (map link_of records) link ≡ number_in records link
place-linked link records =
    let same = len-linked link records in
    let size : length (map link_of records) ≡ length records = length-map records link_of in
    λ i. cond (nat_lt (same i) (size i)) (Some (same i)) None

pub number-linked : (records : List Kept) (index : List Link) (link : Link) → AreNumbered records index →
    place_in index link ≡ number_in records link
number-linked records index link numbered =
    ap (λ (links : List Link). place_in links link) numbered.links ∙ place-linked link records

-- static data have the links that they had
link-stat : (records : List Kept) → map link_of (map without_stat_kept records) ≡ map link_of records
link-stat [] = refl
link-stat (kept ∷ more) = ap (λ links. link_of kept ∷ links) (link-stat more)

pub numbered-stat : (records : List Kept) (index : List Link) → AreNumbered records index →
    AreNumbered (map without_stat_kept records) index
numbered-stat records index numbered = record {
  few = omega (arith, length-map records without_stat_kept, numbered.few);
  links = numbered.links ∙ sym (link-stat records);
}

-- one record more
pub numbered-push : (records others : List Kept) (kept : Kept) (old new : List Link) →
    AreNumbered records old →
    length records < 4294967295 → others ≡ records ++ kept ∷ [] → new ≡ old ++ link_of kept ∷ [] →
    AreNumbered others new
numbered-push records others kept old new numbered few pushed linked = record {
  few = omega (arith, ap length pushed, length_push records kept, few);
  links = linked ∙ ap (λ (links : List Link). links ++ link_of kept ∷ []) numbered.links
      ∙ sym (map-append link_of records (kept ∷ [])) ∙ ap (map link_of) (sym pushed);
}

-- whether the name of a node is held
pub held-name : (region : Held) (records : List Kept) (nodes : List Bodied) (node : Node) (found : Option ℕ)
    → map (bodied region) records ≡ nodes →
    found ≡ number_in records (link_to node) → is_held nodes node ≡ is_some found
held-name region records nodes node found is looked =
    ap (λ (nodes : List Bodied). is_held nodes node) (sym is)
    ∙ ap is_some (place-bodied region (link_to node) records ∙ sym looked)

-- it is held exactly where a record has it
pub held-some : (region : Held) (records : List Kept) (nodes : List Bodied) (node : Node) →
    map (bodied region) records ≡ nodes → IsTrue (is_held nodes node) →
    IsSome (number_in records (link_to node))
held-some region records nodes node is held =
    subst IsTrue (held-name region records nodes node (number_in records (link_to node)) is refl) held

pub some-held : (region : Held) (records : List Kept) (nodes : List Bodied) (node : Node) →
    map (bodied region) records ≡ nodes → IsSome (number_in records (link_to node)) →
    IsTrue (is_held nodes node)
some-held region records nodes node is found =
    subst IsTrue (sym (held-name region records nodes node (number_in records (link_to node)) is refl)) found

cond-false : {X : Type 0} (b : Bool) (x y : X) → b ≡ false → cond b x y ≡ y
cond-false true x y e = cc
cond-false false x y e = refl

-- the number found for a link that is not null is its target
pub target-name : (region : Held) (records : List Kept) (nodes : List Bodied) (link : Link)
    (found : Option ℕ) → map (bodied region) records ≡ nodes →
    (link.class ≡ 0 → ⊥) → found ≡ number_in records link → found ≡ target_of nodes link
target-name region records nodes link found is some looked =
    looked ∙ sym (place-bodied region link records) ∙ ap (λ (nodes : List Bodied). place_of nodes link) is
    ∙ sym (cond-false (link.class == 0) None (place_of nodes link) (ne_eqb link.class 0 some))

pub on-ok : {T E P : Type 0} (r : Result T E) → is_err r ≡ false → OnOk r P → P
on-ok (Ok x) e p = p
on-ok (Err x) e p = cc

pub not-none : (found : Bool) → found ≡ false → IsTrue found → ⊥
not-none found e t = cc

pub ok-map : {T E P Q : Type 0} (r : Result T E) → (P → Q) → OnOk r P → OnOk r Q
ok-map (Ok x) f p = f p
ok-map (Err x) f p = p

pub ok-unless : {T E : Type 0} (r : Result T E) → is_err r ≡ false → is_ok r ≡ true
ok-unless (Ok x) e = refl
ok-unless (Err x) e = cc

pub Some-same : {X : Type 0} (x y : X) → ◌≡◌ {A = Option X} (Some x) (Some y) → x ≡ y
Some-same x y e = cc
