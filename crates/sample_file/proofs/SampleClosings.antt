-- The closing of the sample file may be held and written, and is printed as it is.
use Rattle.std.proofs.Common.{◌≡◌, Bool, true, ◌&&◌, List, [], ◌∷◌, length, refl, arith}
use Rattle.std.specs.Prelude.{nat_le}
use Rattle.std.specs.List.{AllByRecursion, list_all}
use Rattle.std.proofs.lemmas.Bool.{and_parts, leb-true}
use Rattle.std.proofs.lemmas.List.Elements.{All-from_recursion}
use Rattle.dictionary.specs.declared.entries.Element.{Element}
use Rattle.dictionary.specs.declared.entries.Entry.{Entry}
use Rattle.dictionary.specs.Same.{IsRead, AreRead}
use Rattle.file_grammar.specs.Closing.{closes}
use Rattle.contents_table.specs.Fit.{is_fit}
use Rattle.canonical_writer.specs.Parts.{IsShortElement, IsShortEntry, IsUsable, IsUsableClosing, IsShortClosing}
use Rattle.canonical_writer.specs.Parts.{printed_closing}
use Rattle.sample_file.specs.Entries.{contents_table, file_end}
use Rattle.sample_file.specs.Sample.{sample_closing}
use Rattle.sample_file.proofs.Computing.{computing}

-- ---- entries that may be used

end-read : AreRead file_end.elements
end-read = All-from_recursion IsRead file_end.elements (refl, (refl, (refl, (refl, tt))))

table-read : AreRead contents_table.elements
table-read =
    All-from_recursion IsRead contents_table.elements
    (refl, (refl, (refl, (refl, (refl, (refl, (refl, (refl, (refl, (refl, (refl, (refl, (refl, tt)))))))))))))

end-usable : IsUsable file_end
end-usable = record { low = omega arith; high = omega arith; read = end-read; few = omega arith }

table-usable : IsUsable contents_table
table-usable = record { low = omega arith; high = omega arith; read = table-read; few = omega arith }

end-closes : closes file_end.elements ≡ true
unfolding computing
end-closes = refl

table-fit : is_fit contents_table ≡ true
unfolding computing
table-fit = refl

-- It may be held.
pub closing-usable : IsUsableClosing sample_closing
unfolding sample_closing
closing-usable = record {
  end = end-usable;
  closes = end-closes;
  table = record { usable = table-usable; fit = table-fit; apart = λ is. omega arith };
}

-- ---- short texts

abbrev is_short : Element → Bool
is_short e = nat_le (length e.name) 65534 && (nat_le (length e.text) 65534 && nat_le (length e.comment) 65534)

shorts : (es : List Element) → list_all is_short es ≡ true → AllByRecursion IsShortElement es
shorts [] all = tt
shorts (e ∷ es) all =
    let parts = and_parts (is_short e) (list_all is_short es) all in
    let here = and_parts (nat_le (length e.name) 65534)
    (nat_le (length e.text) 65534 && nat_le (length e.comment) 65534) parts.0 in
    let two = and_parts (nat_le (length e.text) 65534) (nat_le (length e.comment) 65534) here.1 in (
      record {
        name = leb-true (length e.name) 65534 here.0;
        text = leb-true (length e.text) 65534 two.0;
        comment = leb-true (length e.comment) 65534 two.1;
      },
      shorts es parts.1,
    )

pub short-entry : (e : Entry) → nat_le (length e.name) 65534 ≡ true → nat_le (length e.comment) 65534 ≡ true
    → list_all is_short e.elements ≡ true → IsShortEntry e
short-entry e name comment elements = record {
  name = leb-true (length e.name) 65534 name;
  comment = leb-true (length e.comment) 65534 comment;
  elements = All-from_recursion IsShortElement e.elements (shorts e.elements elements);
}

-- It may be written.
pub closing-short : IsShortClosing sample_closing
unfolding sample_closing
closing-short =
    record { end = short-entry file_end refl refl refl; table = short-entry contents_table refl refl refl }

-- It is printed as it is.
pub closing-printed : printed_closing sample_closing ≡ sample_closing
unfolding computing
closing-printed = refl
