-- What was kept of all items of a file is what it holds.
use Rattle.std.proofs.Common.{◌≡◌, ℕ, List, Option, Some, refl, ap, sym, subst}
use Rattle.item_reader.specs.declared.item.Item.TheVariants as given
use Rattle.item_reader.specs.Reader.{Reader, HasEnded}
use Rattle.file_content.specs.declared.state.TableState.{TableState}
use Rattle.file_content.specs.declared.scan.Scan.{Scan}
use Rattle.file_content.specs.Stored.{table_in, seek_in}
use Rattle.file_content.specs.Contents.{IsState, AreContents, seek_or_none}
use Rattle.file_content.specs.Scanned.{IsFound, HasScanned}

pub whole : (file : List ℕ) (r : Reader) (scan : Scan) (at class length seek : ℕ) (s : TableState)
    → (scanned : HasScanned file r scan) → HasEnded file r → r.last ≡ Some (given.FileEnd at class length seek)
    → IsState r.order r.before.place r.before.frames scan.channels (table_in r.order scanned.items) seek s
    → AreContents file (record {
      order = r.order;
      frames = r.before.frames;
      records = r.before.records;
      bytes = r.before.place;
      table = s;
      channels = scan.channels;
    })
whole file r scan at class length seek s scanned (items, ended) last state = record {
  items = scanned.items;
  last = r.before;
  well_formed = record { begins = scanned.begins; closed = ended.closed; ends = ended.ends };
  frames_are = refl;
  records_are = refl;
  bytes_are = ended.ends;
  channels_are = scanned.channels_are;
  table_is = subst
      (λ n. IsState r.order r.before.place r.before.frames scan.channels (table_in r.order scanned.items) n s)
      (sym (ap seek_or_none (scanned.seek_is at class length seek last))) state;
}
