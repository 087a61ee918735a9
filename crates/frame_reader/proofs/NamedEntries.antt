-- The entries held of structure names, and the closing that two of them are.
use Rattle.std.proofs.Common.{◌≡◌, ◌≢◌, ℕ, Bool, true, false, cond, Option, Some, None, IfSome, List}
use Rattle.std.proofs.Common.{refl, sym, ap, ◌∙◌, subst, true≢false}
use Rattle.std.specs.Prelude.{option_and_then}
use Rattle.std.specs.Option.{option_map}
use Rattle.std.specs.Str.{bytes_eq}
use Rattle.std.proofs.lemmas.Option.{none-some, same_Some}
use Rattle.std.proofs.lemmas.Slice.Eq.{bytes_eq-Decides}
use Rattle.dictionary.specs.declared.entries.Entry.{Entry}
use Rattle.dictionary.specs.Dictionary.{entry_of, class_named, IsDictionary}
use Rattle.contents_table.specs.Fit.{is_fit}
use Rattle.file_grammar.specs.Closing.{closes}
use Rattle.canonical_file.specs.declared.closing.Closing.{Closing}
use Rattle.canonical_writer.specs.Parts.{IsUsable, IsUsableTable, IsUsableClosing}
use Rattle.canonical_laws.specs.Content.{entry_named, if_fit}
use Rattle.canonical_laws.proofs.SourceClosings.{named-held, named-name}
use Rattle.frame_reader.specs.Closings.{file_end, table_name}

-- each name is itself
name-self : (name : List ℕ) → bytes_eq name name ≡ true
name-self name = (bytes_eq-Decides name name).1 refl

-- the entry of the class that is held under a name is the entry of the name
pub class-entry : (held : List Entry) (name : List ℕ) (class : ℕ) → IsDictionary held
    → class_named held name ≡ Some class → entry_of held class ≡ entry_named held name
class-entry held name class sound is = by (entry_named held name) refl is
  where
    by : (o : Option Entry) → entry_named held name ≡ o → option_map (λ (e : Entry). e.class) o ≡ Some class
        → entry_of held class ≡ entry_named held name
    by None found some = absurd (none-some class some)
    by (Some e) found some = ap (entry_of held) (sym (same_Some e.class class some))
        ∙ named-held held name e sound (name-self name) found ∙ sym found

-- an entry that is held may be used
pub named-usable : (held : List Entry) (name : List ℕ) (e : Entry) → IsDictionary held
    → entry_named held name ≡ Some e → IsUsable e
named-usable held name e sound is =
    let own = sound.entries e.class e (named-held held name e sound (name-self name) is) in
    record { low = own.low; high = own.high; read = own.read; few = own.short }

-- entries of two names have two classes
named-apart : (held : List Entry) (name other : List ℕ) (e x : Entry) → IsDictionary held
    → bytes_eq name other ≡ false → entry_named held name ≡ Some e → entry_named held other ≡ Some x
    → e.class ≢ x.class
named-apart held name other e x sound differ is held_is same =
    let one : e ≡ x = same_Some e x (sym (named-held held name e sound (name-self name) is)
    ∙ ap (entry_of held) same ∙ named-held held other x sound (name-self other) held_is) in
    let names : name ≡ other = sym (named-name held name e sound (name-self name) is) ∙ ap (λ (y : Entry). y.name) one
    ∙ named-name held other x sound (name-self other) held_is in
    true≢false (sym ((bytes_eq-Decides name other).1 names) ∙ differ)

-- the entry of FrTOC where it is fit may close the file beside that of FrEndOfFile
table-usable : (held : List Entry) (end e : Entry) → IsDictionary held → entry_named held file_end ≡ Some end
    → entry_named held table_name ≡ Some e → is_fit e ≡ true → IsUsableTable end e
table-usable held end e sound end_is is fit = record {
  usable = named-usable held table_name e sound is;
  fit = fit;
  apart = named-apart held table_name file_end e end sound refl is end_is;
}

-- so it is where the entry of FrTOC is held and fit
tables-usable : (held : List Entry) (end : Entry) → IsDictionary held → entry_named held file_end ≡ Some end
    → IfSome (option_and_then if_fit (entry_named held table_name)) (IsUsableTable end)
tables-usable held end sound end_is = by (entry_named held table_name) refl
  where
    of : (e : Entry) → entry_named held table_name ≡ Some e → (b : Bool) → is_fit e ≡ b
        → IfSome (cond b (Some e) None) (IsUsableTable end)
    of e is true fit = table-usable held end e sound end_is is fit
    of e is false unfit = tt

    by : (o : Option Entry) → entry_named held table_name ≡ o
        → IfSome (option_and_then if_fit o) (IsUsableTable end)
    by None is = tt
    by (Some e) is = of e is (is_fit e) refl

-- the two are a closing that may be used
pub closing-usable : (held : List Entry) (c : Closing) → IsDictionary held → entry_named held file_end ≡ Some c.end
    → closes c.end.elements ≡ true → c.table ≡ option_and_then if_fit (entry_named held table_name)
    → IsUsableClosing c
closing-usable held c sound end_is closes_is table_is = record {
  end = named-usable held file_end c.end sound end_is;
  closes = closes_is;
  table = subst (λ o. IfSome o (IsUsableTable c.end)) (sym table_is) (tables-usable held c.end sound end_is);
}
