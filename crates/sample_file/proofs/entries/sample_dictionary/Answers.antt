-- Each entry may be added behind those before it.
use Rattle.std.proofs.Common.{[], ◌∷◌}
use Rattle.sample_file.specs.Entries.{sample_entries, frame_header, raw_data, channel, vector, frame_end}
use Rattle.sample_file.proofs.Learnt.{fresh-as, more-as, header-fresh, raw-fresh, channel-fresh, vector-fresh}
use Rattle.sample_file.proofs.Learnt.{end-fresh}
use Rattle.sample_file.proofs.Learnt.{vector-read}
use Rattle.sample_file.proofs.entries.sample_dictionary.Goals as goal

pub hold-requires-clause-fresh : goal.hold-requires-clause-fresh
hold-requires-clause-fresh c =
    fresh-as c.new-dictionary.result [] c.in_ok-entry.field-0 frame_header c.new-dictionary.ensures
    c.in_ok-entry.ensures header-fresh

pub hold-requires-2-clause-fresh : goal.hold-requires-2-clause-fresh
hold-requires-2-clause-fresh c =
    let one = more-as c.hold.new.dictionary c.new-dictionary.result [] c.in_ok-entry.field-0 frame_header
    c.in_ok-hold.ensures c.new-dictionary.ensures c.in_ok-entry.ensures in
    fresh-as c.hold.new.dictionary (frame_header ∷ []) c.in_ok-entry-2.field-0 raw_data one c.in_ok-entry-2.ensures
    raw-fresh

pub hold-requires-3-clause-fresh : goal.hold-requires-3-clause-fresh
hold-requires-3-clause-fresh c =
    let one = more-as c.hold.new.dictionary c.new-dictionary.result [] c.in_ok-entry.field-0 frame_header
    c.in_ok-hold.ensures c.new-dictionary.ensures c.in_ok-entry.ensures in
    let two = more-as c.hold-2.new.dictionary c.hold.new.dictionary (frame_header ∷ []) c.in_ok-entry-2.field-0 raw_data
    c.in_ok-hold-2.ensures one c.in_ok-entry-2.ensures in
    fresh-as c.hold-2.new.dictionary (frame_header ∷ raw_data ∷ []) c.in_ok-entry-3.field-0 channel two
    c.in_ok-entry-3.ensures channel-fresh

pub hold-requires-4-clause-read : goal.hold-requires-4-clause-read
hold-requires-4-clause-read c = vector-read c.in_ok-entry-4.field-0 c.in_ok-entry-4.ensures

pub hold-requires-4-clause-fresh : goal.hold-requires-4-clause-fresh
hold-requires-4-clause-fresh c =
    let one = more-as c.hold.new.dictionary c.new-dictionary.result [] c.in_ok-entry.field-0 frame_header
    c.in_ok-hold.ensures c.new-dictionary.ensures c.in_ok-entry.ensures in
    let two = more-as c.hold-2.new.dictionary c.hold.new.dictionary (frame_header ∷ []) c.in_ok-entry-2.field-0 raw_data
    c.in_ok-hold-2.ensures one c.in_ok-entry-2.ensures in
    let three = more-as c.hold-3.new.dictionary c.hold-2.new.dictionary (frame_header ∷ raw_data ∷ [])
    c.in_ok-entry-3.field-0 channel c.in_ok-hold-3.ensures two c.in_ok-entry-3.ensures in
    fresh-as c.hold-3.new.dictionary (frame_header ∷ raw_data ∷ channel ∷ []) c.in_ok-entry-4.field-0 vector three
    c.in_ok-entry-4.ensures vector-fresh

pub hold-requires-5-clause-fresh : goal.hold-requires-5-clause-fresh
unfolding sample_entries
hold-requires-5-clause-fresh c =
    let one = more-as c.hold.new.dictionary c.new-dictionary.result [] c.in_ok-entry.field-0 frame_header
    c.in_ok-hold.ensures c.new-dictionary.ensures c.in_ok-entry.ensures in
    let two = more-as c.hold-2.new.dictionary c.hold.new.dictionary (frame_header ∷ []) c.in_ok-entry-2.field-0 raw_data
    c.in_ok-hold-2.ensures one c.in_ok-entry-2.ensures in
    let three = more-as c.hold-3.new.dictionary c.hold-2.new.dictionary (frame_header ∷ raw_data ∷ [])
    c.in_ok-entry-3.field-0 channel c.in_ok-hold-3.ensures two c.in_ok-entry-3.ensures in
    let four = more-as c.hold-4.new.dictionary c.hold-3.new.dictionary (frame_header ∷ raw_data ∷ channel ∷ [])
    c.in_ok-entry-4.field-0 vector c.in_ok-hold-4.ensures three c.in_ok-entry-4.ensures in
    fresh-as c.hold-4.new.dictionary (frame_header ∷ raw_data ∷ channel ∷ vector ∷ []) c.in_ok-entry-5.field-0 frame_end
    four c.in_ok-entry-5.ensures end-fresh
