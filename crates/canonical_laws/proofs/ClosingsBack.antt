-- The closing of a canonical file, by its entries.
use Rattle.std.proofs.Common.{◌≡◌, ℕ, Bool, true, false, cond, Option, Some, None, List, [], ◌∷◌, ◌++◌, codes, refl}
use Rattle.std.proofs.Common.{sym, ap}
use Rattle.std.proofs.Common.{◌∙◌, append_assoc}
use Rattle.std.specs.Prelude.{option_and_then, IfSome}
use Rattle.std.specs.Option.{option_map, option_map_or, option_or}
use Rattle.std.specs.Str.{bytes_eq}
use Rattle.std.proofs.lemmas.Bool.{cond-true, cond-false}
use Rattle.std.proofs.lemmas.List.Folds.{find-append}
use Rattle.std.proofs.lemmas.Slice.Eq.{bytes_eq-Decides}
use Rattle.dictionary.specs.declared.entries.Entry.{Entry}
use Rattle.dictionary.specs.Dictionary.{entry_of}
use Rattle.file_grammar.specs.declared.kind.Kind.TheVariants.{FrameH, FrEndOfFrame, FrTOC, FrEndOfFile, Other}
use Rattle.file_grammar.specs.Kind.{kind_named, is_frame_kind}
use Rattle.frame_content.specs.Labels.{printed_entry, no_entry}
use Rattle.canonical_file.specs.Records.{with_entry, added_by}
use Rattle.canonical_laws.specs.Content.{entry_named, if_fit, closing_by}
use Rattle.canonical_laws.specs.Writable.{IsWritableFileEnd, IsWritableTable}
use Rattle.canonical_laws.proofs.FrameEntries.{AreNeeded, not-needed, none-named}

-- ---- entries by names

-- behind entries of other names
named-behind : (es : List Entry) (e : Entry) (more : List Entry) (name : List ℕ) → entry_named es name ≡ None
    → e.name ≡ name → entry_named (es ++ e ∷ more) name ≡ Some e
named-behind es e more name none same =
    find-append (λ (x : Entry). bytes_eq name x.name) es (e ∷ more)
    ∙ ap (λ o. option_or o (entry_named (e ∷ more) name)) none
    ∙ cond-true _ _ _ ((bytes_eq-Decides name e.name).1 (sym same))

named-past : (es : List Entry) (e : Entry) (name : List ℕ) → entry_named es name ≡ None
    → bytes_eq name e.name ≡ false → entry_named (es ++ e ∷ []) name ≡ None
named-past es e name none other =
    find-append (λ (x : Entry). bytes_eq name x.name) es (e ∷ [])
    ∙ ap (λ o. option_or o (entry_named (e ∷ []) name)) none
    ∙ cond-false _ _ _ other

-- ---- names by kinds

kind-name : (a b c d : Bool)
    → (cond a FrameH (cond b FrEndOfFrame (cond c FrTOC (cond d FrEndOfFile Other))) ≡ FrTOC → c ≡ true)
    × (cond a FrameH (cond b FrEndOfFrame (cond c FrTOC (cond d FrEndOfFile Other))) ≡ FrEndOfFile → d ≡ true)
kind-name true b c d = (λ is. cc, λ is. cc)
kind-name false true c d = (λ is. cc, λ is. cc)
kind-name false false true d = (λ is. refl, λ is. cc)
kind-name false false false true = (λ is. cc, λ is. refl)
kind-name false false false false = (λ is. cc, λ is. cc)

names-by : (name : List ℕ) → (kind_named name ≡ FrTOC → name ≡ codes "FrTOC")
    × (kind_named name ≡ FrEndOfFile → name ≡ codes "FrEndOfFile")
names-by name =
    let by = kind-name (bytes_eq name (codes "FrameH")) (bytes_eq name (codes "FrEndOfFrame"))
    (bytes_eq name (codes "FrTOC")) (bytes_eq name (codes "FrEndOfFile")) in (
      λ is. (bytes_eq-Decides name (codes "FrTOC")).0 (by.0 is),
      λ is. (bytes_eq-Decides name (codes "FrEndOfFile")).0 (by.1 is),
    )

-- The closing by the entries of the whole file.
pub closing-back : (dictionary es : List Entry) (e : Entry) (table : Option Entry) → AreNeeded dictionary es
    → IsWritableFileEnd dictionary e → IfSome table (IsWritableTable dictionary)
    → closing_by (option_map_or (with_entry es) table es ++ e ∷ []) ≡ record { end = e; table = table }
closing-back dictionary es e None all end table_is =
    let name : e.name ≡ codes "FrEndOfFile" = (names-by e.name).1 end.kind in
    let no_end = none-named es (codes "FrEndOfFile") all.kinds refl in
    let no_table = none-named es (codes "FrTOC") all.kinds refl in
    let other : bytes_eq (codes "FrTOC") e.name ≡ false = ap (bytes_eq (codes "FrTOC")) name in
    let first = named-behind es e [] (codes "FrEndOfFile") no_end name in
    let second = named-past es e (codes "FrTOC") no_table other in
    let end_is : option_map_or printed_entry (entry_named (es ++ e ∷ []) (codes "FrEndOfFile")) no_entry ≡ e =
    ap (λ o. option_map_or printed_entry o no_entry) first ∙ end.printed in
    let table_back : option_map printed_entry
    (option_and_then if_fit (entry_named (es ++ e ∷ []) (codes "FrTOC"))) ≡ None =
    ap (λ o. option_map printed_entry (option_and_then if_fit o)) second in
    λ i. record { end = end_is i; table = table_back i }
closing-back dictionary es e (Some t) all end table_is =
    let name : e.name ≡ codes "FrEndOfFile" = (names-by e.name).1 end.kind in
    let title : t.name ≡ codes "FrTOC" = (names-by t.name).0 table_is.kind in
    let no_end = none-named es (codes "FrEndOfFile") all.kinds refl in
    let no_table = none-named es (codes "FrTOC") all.kinds refl in
    let new : entry_of es t.class ≡ None =
    not-needed dictionary es t all table_is.held (ap is_frame_kind table_is.kind) in
    let whole : List Entry = es ++ t ∷ [] ++ e ∷ [] in
    let entries : with_entry es t ++ e ∷ [] ≡ whole = ap (λ o. added_by o es t ++ e ∷ []) new in
    let other : bytes_eq (codes "FrEndOfFile") t.name ≡ false = ap (bytes_eq (codes "FrEndOfFile")) title in
    let first : entry_named whole (codes "FrEndOfFile") ≡ Some e =
    named-behind (es ++ t ∷ []) e [] (codes "FrEndOfFile") (named-past es t (codes "FrEndOfFile") no_end other) name in
    let second : entry_named whole (codes "FrTOC") ≡ Some t =
    ap (λ es. entry_named es (codes "FrTOC")) (append_assoc es (t ∷ []) (e ∷ []))
    ∙ named-behind es t (e ∷ []) (codes "FrTOC") no_table title in
    let end_is : option_map_or printed_entry (entry_named whole (codes "FrEndOfFile")) no_entry ≡ e =
    ap (λ o. option_map_or printed_entry o no_entry) first ∙ end.printed in
    let table_back : option_map printed_entry
    (option_and_then if_fit (entry_named whole (codes "FrTOC"))) ≡ Some t =
    ap (λ o. option_map printed_entry (option_and_then if_fit o)) second
    ∙ ap (option_map printed_entry) (cond-true _ _ _ table_is.fit)
    ∙ ap Some table_is.printed in
    ap closing_by entries ∙ (λ i. record { end = end_is i; table = table_back i })
