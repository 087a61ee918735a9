-- What is kept before the first item of a file.
use Rattle.std.proofs.Common.{◌≡◌, List, [], ℕ, None, Some, refl, ap, sym, subst, ◌∙◌}
use Rattle.dictionary.specs.declared.entries.Entry.{Entry}
use Rattle.dictionary.specs.Dictionary.{IsDictionary}
use Rattle.file_grammar.specs.MayStand.{Begins}
use Rattle.item_reader.specs.Reader.{Reader, HasRead, IsLast}
use Rattle.contents_table.specs.Built.{nothing_built}
use Rattle.contents_table.specs.Layouts.{layouts_of}
use Rattle.file_content.specs.declared.scan.Scan.{Scan}
use Rattle.file_content.specs.Scanned.{IsFound, HasScanned}

pub scanned-begun : (file : List ℕ) (r : Reader) (scan : Scan) (held : List Entry) → HasRead file r → r.last ≡ None
    → held ≡ r.before.dictionary → IsDictionary held → scan.layouts ≡ layouts_of held → scan.channels ≡ nothing_built
    → scan.table ≡ None → HasScanned file r scan
scanned-begun file r scan held read last dictionary sound layouts channels table =
    let none : read.items ≡ [] = subst (IsLast file r.order read.items) last read.last in
    record {
      items = [];
      begins = subst (λ items. Begins file r.order items r.before) none read.begins;
      sound = subst IsDictionary dictionary sound;
      layouts_are = layouts ∙ ap layouts_of dictionary;
      channels_are = channels;
      table_is = subst (λ t. IsFound r.order r.before.frames scan.channels None t) (sym table) tt;
      no_table = λ flag. refl;
      seek_is = λ at class length seek is. cc;
    }
