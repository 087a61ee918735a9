use Rattle.canonical_writer.proofs.used.UsedEntries.push_last.Goals as goal

pub push_entry-requires : goal.push_entry-requires
push_entry-requires c = record { few = c.requires.few }
