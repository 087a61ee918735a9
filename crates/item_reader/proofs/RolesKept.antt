-- The roles beside a dictionary: at the beginning, and after an entry.
use Rattle.std.proofs.Common.{◌≡◌, ℕ, ◌<◌, Bool, true, false, cond, List, [], ◌∷◌, ◌++◌, length, get_or, set}
use Rattle.std.proofs.Common.{Option, Some, None, Result, Ok, Err, IfErr, IfOk, OnOk, inl, inr}
use Rattle.std.proofs.Common.{refl, sym, ap, ◌∙◌, arith}
use Rattle.std.specs.Prelude.{◌==◌, replicate}
use Rattle.std.specs.Option.{option_map_or, option_or}
use Rattle.std.proofs.lemmas.Bool.{eqb-true, eqb-false}
use Rattle.std.proofs.lemmas.List.{length-set, length-replicate, get_or-replicate, get_or-set_other}
use Rattle.std.proofs.lemmas.Grind.{get_or-set_at}
use Rattle.dictionary.specs.declared.entries.Entry.{Entry}
use Rattle.dictionary.specs.declared.held.AddFault.{AddFault}
use Rattle.file_grammar.specs.declared.kind.Kind.{Kind}
use Rattle.file_grammar.specs.declared.kind.Kind.TheVariants.{FrSH, FrSE, Other}
use Rattle.link_graph.specs.declared.nodes.Root.TheVariants as root
use Rattle.item_reader.specs.declared.roles.Role.{Role}
use Rattle.dictionary.specs.Dictionary.{entry_of, step}
use Rattle.file_grammar.specs.Kind.{kind_named}
use Rattle.item_reader.specs.Roles.{role_of, root_named, AreRoles}
use Rattle.item_reader.proofs.Growing.{entry_of-push, step-cases}
use Rattle.item_reader.proofs.Holding.{class-stepped, step-added}

-- the role of a kind whose records are no roots
abbrev pub rootless : Kind → Role
rootless kind = record { kind = kind; root = root.No }

-- the roles of a dictionary that holds nothing, for so many classes
abbrev pub first_roles : ℕ → List Role
first_roles size = set (set (replicate size (rootless Other)) 1 (rootless FrSH)) 2 (rootless FrSE)

length-first_roles : (size : ℕ) → length (first_roles size) ≡ size
length-first_roles size =
    length-set (set (replicate size (rootless Other)) 1 (rootless FrSH)) 2 (rootless FrSE)
    ∙ length-set (replicate size (rootless Other)) 1 (rootless FrSH) ∙ length-replicate size (rootless Other)

get_or-first_roles : (size : ℕ) (class : ℕ) (past : Role) → class < size → 2 < size
    → get_or (first_roles size) class past ≡ role_of [] class
get_or-first_roles size class past within room = by (class == 1) (class == 2) refl refl
  where
    none : List Role
    none = replicate size (rootless Other)

    one : List Role
    one = set none 1 (rootless FrSH)

    long : length one ≡ size
    long = length-set none 1 (rootless FrSH) ∙ length-replicate size (rootless Other)

    by : (first second : Bool) → (class == 1) ≡ first → (class == 2) ≡ second
        → get_or (first_roles size) class past ≡ rootless (cond first FrSH (cond second FrSE Other))
    by true second is_one is_two =
        let same : class ≡ 1 = eqb-true class 1 is_one in
        get_or-set_other one 2 class (rootless FrSE) past (λ e. omega (arith, same, e))
        ∙ get_or-set_at none 1 class (rootless FrSH) past same
        (omega (arith, length-replicate size (rootless Other)))
    by false true is_one is_two =
        get_or-set_at one 2 class (rootless FrSE) past (eqb-true class 2 is_two) (omega (arith, long))
    by false false is_one is_two =
        get_or-set_other one 2 class (rootless FrSE) past (eqb-false class 2 is_two)
        ∙ get_or-set_other none 1 class (rootless FrSH) past (eqb-false class 1 is_one)
        ∙ get_or-replicate size class (rootless Other) past within

pub are-first_roles : AreRoles [] (first_roles 256)
are-first_roles = record {
  size = length-first_roles 256;
  each = λ class past within. get_or-first_roles 256 class past within (omega arith);
}

-- the role of a class by the entry held of it
role_by : ℕ → Option Entry → Role
role_by class o = record {
  kind = cond (class == 1) FrSH
      (cond (class == 2) FrSE (option_map_or (λ (e : Entry). kind_named e.name) o Other));
  root = option_map_or (λ (e : Entry). root_named e.name) o root.No;
}

or-none : (o : Option Entry) → option_or o None ≡ o
or-none None = refl
or-none (Some e) = refl

-- the role of a class that an entry is not of
role-stays : (held : List Entry) (e : Entry) (next : List Entry) (class : ℕ) → step held e ≡ Ok next
    → (class == e.class) ≡ false → role_of next class ≡ role_of held class
unfolding role_by
role-stays held e next class stepped other = ap (role_by class) same
  where
    pushed : entry_of (held ++ e ∷ []) class ≡ entry_of held class
    pushed = entry_of-push held e class
        ∙ ap (λ b. option_or (entry_of held class) (cond b (Some e) None)) other
        ∙ or-none (entry_of held class)

    same : entry_of next class ≡ entry_of held class
    same = elim (step-cases held e next stepped) [
      | inl stays ↦ ap (λ d. entry_of d class) stays.1
      | inr grows ↦ ap (λ d. entry_of d class) grows.1 ∙ pushed
    ]

-- the class of an entry that was added is within the roles
pub class-added : {U : Type 0} (held : List Entry) (e : Entry) (result : Result U AddFault) (new : List Entry)
    (u : U)
    → IfErr (step held e) (λ fault. result ≡ Err fault)
    → IfOk (step held e) (λ next. OnOk result (new ≡ next))
    → result ≡ Ok u → e.class < 256
class-added held e result new u refused accepted ok =
    omega (arith, class-stepped held e new (step-added held e result new u refused accepted ok))

-- an entry's own role is kept under its class
pub roles-added : (held : List Entry) (e : Entry) (next : List Entry) (roles : List Role) (role : Role)
    → step held e ≡ Ok next → AreRoles held roles → role ≡ role_of next e.class
    → AreRoles next (set roles e.class role)
roles-added held e next roles role stepped are own = record {
  size = length-set roles e.class role ∙ are.size;
  each = λ class past within. by class past within (class == e.class) refl;
}
  where
    by : (class : ℕ) (past : Role) → class < 256 → (b : Bool) → (class == e.class) ≡ b
        → get_or (set roles e.class role) class past ≡ role_of next class
    by class past within true test =
        let same : class ≡ e.class = eqb-true class e.class test in
        get_or-set_at roles e.class class role past same
        (omega (arith, are.size, class-stepped held e next stepped))
        ∙ own ∙ ap (role_of next) (sym same)
    by class past within false test =
        get_or-set_other roles e.class class role past (eqb-false class e.class test)
        ∙ are.each class past within
        ∙ sym (role-stays held e next class stepped test)
