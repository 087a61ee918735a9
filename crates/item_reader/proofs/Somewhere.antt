-- A file in which a structure stands at a place: what holds of each such file holds of this one.
use Rattle.std.proofs.Common.{◌≡◌, ℕ, ◌+◌, ◌-◌, ◌^◌, ◌<◌, ◌≤◌, List, ◌++◌, length, take, drop, sym, ap, ◌∙◌}
use Rattle.std.proofs.Common.{arith}
use Rattle.std.proofs.Common.{length-append}
use Rattle.std.proofs.Math.ListN.{replicate}
use Rattle.std.proofs.lemmas.List.{drop_at, take_all, length-replicate}
use Rattle.scalar_types.specs.declared.Order.{Order}
use Rattle.frame_head.specs.declared.structure.Common.{Common}
use Rattle.frame_head.specs.Structure.{common_of, common_bytes}
use Rattle.frame_head.proofs.CommonBytes.{common_of-bytes, common_bytes-length}
use Rattle.file_grammar.specs.Structure.{common_at, record_limit}
use Rattle.item_reader.specs.declared.structure.Placed.{Placed}
use Rattle.item_reader.specs.Placed.{IsStructureAt, StandsIn}

-- what the first 14 bytes of the structure say
abbrev pub common_with : Placed → Common
common_with p = record { length = p.length; check = 0; class = p.class; instance = p.instance }

-- nothing but zeros before the structure, and nothing after it
abbrev pub file_with : Order → Placed → List ℕ → List ℕ
file_with order p body = replicate p.at 0 ++ (common_bytes order (common_with p) ++ body)

pub stands-somewhere : (order : Order) (at : ℕ) (p : Placed) (body : List ℕ) → IsStructureAt at p
    → p.length ≡ 14 + length body → p.instance < 2 ^ 32 → StandsIn order at p body (file_with order p body)
stands-somewhere order at p body here size instance = record {
  placed = record {
    is = λ i. record {
      at = sym here.place i;
      class = (says i).class;
      instance = (says i).instance;
      body = take ((says i).length - 14) (drop 14 (drop (sym here.place i) file));
    };
    place = here.place;
    length_is = sym (ap (λ (c : Common). c.length) says);
    head = here.head;
    small = here.small;
    within = omega (arith, here.place, long, size);
  };
  body_is = sym (ap (λ n. take n (drop 14 (drop p.at file))) rest_long ∙ ap (take (length body)) behind
      ∙ take_all (length body) body (omega arith));
}
  where
    file : List ℕ
    file = file_with order p body

    bytes : List ℕ
    bytes = common_bytes order (common_with p)

    from : drop p.at file ≡ bytes ++ body
    from = drop_at (replicate p.at 0) (bytes ++ body) p.at (length-replicate {A = ℕ} p.at 0)

    small : p.length ≤ record_limit
    small = here.small

    says : common_at order file at ≡ common_with p
    says =
        ap (common_at order file) (sym here.place)
        ∙ ap (common_of order) from
        ∙ common_of-bytes order (common_with p) body (omega (arith, small)) (omega (arith, instance))

    behind : drop 14 (drop p.at file) ≡ body
    behind = ap (drop 14) from ∙ drop_at bytes body 14 (common_bytes-length order (common_with p))

    rest_long : p.length - 14 ≡ length body
    rest_long = omega (arith, size)

    long : length file ≡ p.at + (14 + length body)
    long =
        omega (
          arith,
          length-append (replicate p.at 0) (bytes ++ body),
          length-append bytes body,
          length-replicate {A = ℕ} p.at 0,
          common_bytes-length order (common_with p),
        )
