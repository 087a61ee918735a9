-- The entries of the sample file can be written, and are a dictionary.
use Rattle.std.proofs.Common.{◌≡◌, ℕ, ◌≤◌, List, [], ◌∷◌, ◌++◌, length, None, refl, lit≤}
use Rattle.std.specs.Prelude.{codes}
use Rattle.std.proofs.lemmas.List.Elements.{All-from_recursion}
use Rattle.std.specs.List.{AllByRecursion}
use Rattle.dictionary.specs.declared.entries.Element.{Element}
use Rattle.dictionary.specs.declared.entries.Entry.{Entry}
use Rattle.dictionary.specs.Dictionary.{IsDictionary, entry_of, class_named}
use Rattle.dictionary.specs.Same.{AreRead, IsRead}
use Rattle.dictionary.proofs.KeptLemmas.{IsDictionary-new}
use Rattle.sample_file.specs.Entries.{element, frame_header, raw_data, channel, vector, frame_end, contents_table}
use Rattle.sample_file.specs.Entries.{file_end, sample_entries}
use Rattle.canonical_laws.specs.Writable.{IsWritableElement, IsWritableEntry}
use Rattle.sample_file.proofs.Computing.{computing}

-- an element of short texts
short-element : (name text : List ℕ) → length name ≤ 65534 → length text ≤ 65534 → IsWritableElement (element name text)
short-element name text n t = record { name = n; text = t; comment = lit≤ tt; read = refl }

pub frame_header-writable : IsWritableEntry frame_header
frame_header-writable = record {
  low = lit≤ tt;
  high = lit≤ tt;
  short = lit≤ tt;
  name = lit≤ tt;
  comment = lit≤ tt;
  elements = (
    short-element (codes "name") (codes "STRING") (lit≤ tt) (lit≤ tt),
    (
      short-element (codes "run") (codes "INT_4S") (lit≤ tt) (lit≤ tt),
      (
        short-element (codes "frame") (codes "INT_4U") (lit≤ tt) (lit≤ tt),
        (
          short-element (codes "GTimeS") (codes "INT_4U") (lit≤ tt) (lit≤ tt),
          (
            short-element (codes "GTimeN") (codes "INT_4U") (lit≤ tt) (lit≤ tt),
            (
              short-element (codes "dt") (codes "REAL_8") (lit≤ tt) (lit≤ tt),
              (
                short-element (codes "rawData") (codes "PTR_STRUCT(FrRawData *)") (lit≤ tt) (lit≤ tt),
                (
                  short-element (codes "procData") (codes "PTR_STRUCT(FrProcData *)") (lit≤ tt) (lit≤ tt),
                  (
                    short-element (codes "simData") (codes "PTR_STRUCT(FrSimData *)") (lit≤ tt) (lit≤ tt),
                    (
                      short-element (codes "detectProc") (codes "PTR_STRUCT(FrDetector *)") (lit≤ tt) (lit≤ tt),
                      (short-element (codes "chkSum") (codes "INT_4U") (lit≤ tt) (lit≤ tt), tt),
                    ),
                  ),
                ),
              ),
            ),
          ),
        ),
      ),
    ),
  );
}

pub raw_data-writable : IsWritableEntry raw_data
raw_data-writable = record {
  low = lit≤ tt;
  high = lit≤ tt;
  short = lit≤ tt;
  name = lit≤ tt;
  comment = lit≤ tt;
  elements = (
    short-element (codes "name") (codes "STRING") (lit≤ tt) (lit≤ tt),
    (
      short-element (codes "firstAdc") (codes "PTR_STRUCT(FrAdcData *)") (lit≤ tt) (lit≤ tt),
      (short-element (codes "chkSum") (codes "INT_4U") (lit≤ tt) (lit≤ tt), tt),
    ),
  );
}

pub channel-writable : IsWritableEntry channel
channel-writable = record {
  low = lit≤ tt;
  high = lit≤ tt;
  short = lit≤ tt;
  name = lit≤ tt;
  comment = lit≤ tt;
  elements = (
    short-element (codes "name") (codes "STRING") (lit≤ tt) (lit≤ tt),
    (
      short-element (codes "channelNumber") (codes "INT_4U") (lit≤ tt) (lit≤ tt),
      (
        short-element (codes "sampleRate") (codes "REAL_8") (lit≤ tt) (lit≤ tt),
        (
          short-element (codes "data") (codes "PTR_STRUCT(FrVect *)") (lit≤ tt) (lit≤ tt),
          (
            short-element (codes "next") (codes "PTR_STRUCT(FrAdcData *)") (lit≤ tt) (lit≤ tt),
            (short-element (codes "chkSum") (codes "INT_4U") (lit≤ tt) (lit≤ tt), tt),
          ),
        ),
      ),
    ),
  );
}

pub vector-writable : IsWritableEntry vector
vector-writable = record {
  low = lit≤ tt;
  high = lit≤ tt;
  short = lit≤ tt;
  name = lit≤ tt;
  comment = lit≤ tt;
  elements = (
    short-element (codes "name") (codes "STRING") (lit≤ tt) (lit≤ tt),
    (
      short-element (codes "compress") (codes "INT_2U") (lit≤ tt) (lit≤ tt),
      (
        short-element (codes "type") (codes "INT_2U") (lit≤ tt) (lit≤ tt),
        (
          short-element (codes "nData") (codes "INT_8U") (lit≤ tt) (lit≤ tt),
          (
            short-element (codes "nBytes") (codes "INT_8U") (lit≤ tt) (lit≤ tt),
            (
              short-element (codes "data") (codes "CHAR[nBytes]") (lit≤ tt) (lit≤ tt),
              (
                short-element (codes "nDim") (codes "INT_4U") (lit≤ tt) (lit≤ tt),
                (
                  short-element (codes "nx") (codes "INT_8U[nDim]") (lit≤ tt) (lit≤ tt),
                  (
                    short-element (codes "dx") (codes "REAL_8[nDim]") (lit≤ tt) (lit≤ tt),
                    (
                      short-element (codes "startX") (codes "REAL_8[nDim]") (lit≤ tt) (lit≤ tt),
                      (
                        short-element (codes "unitX") (codes "STRING[nDim]") (lit≤ tt) (lit≤ tt),
                        (
                          short-element (codes "unitY") (codes "STRING") (lit≤ tt) (lit≤ tt),
                          (
                            short-element (codes "next") (codes "PTR_STRUCT(FrVect *)") (lit≤ tt) (lit≤ tt),
                            (short-element (codes "chkSum") (codes "INT_4U") (lit≤ tt) (lit≤ tt), tt),
                          ),
                        ),
                      ),
                    ),
                  ),
                ),
              ),
            ),
          ),
        ),
      ),
    ),
  );
}

pub frame_end-writable : IsWritableEntry frame_end
frame_end-writable = record {
  low = lit≤ tt;
  high = lit≤ tt;
  short = lit≤ tt;
  name = lit≤ tt;
  comment = lit≤ tt;
  elements = (
    short-element (codes "run") (codes "INT_4S") (lit≤ tt) (lit≤ tt),
    (
      short-element (codes "frame") (codes "INT_4U") (lit≤ tt) (lit≤ tt),
      (short-element (codes "chkSum") (codes "INT_4U") (lit≤ tt) (lit≤ tt), tt),
    ),
  );
}

pub contents_table-writable : IsWritableEntry contents_table
contents_table-writable = record {
  low = lit≤ tt;
  high = lit≤ tt;
  short = lit≤ tt;
  name = lit≤ tt;
  comment = lit≤ tt;
  elements = (
    short-element (codes "nFrame") (codes "INT_4U") (lit≤ tt) (lit≤ tt),
    (
      short-element (codes "GTimeS") (codes "INT_4U[nFrame]") (lit≤ tt) (lit≤ tt),
      (
        short-element (codes "positionH") (codes "INT_8U[nFrame]") (lit≤ tt) (lit≤ tt),
        (
          short-element (codes "nADC") (codes "INT_4U") (lit≤ tt) (lit≤ tt),
          (
            short-element (codes "name") (codes "STRING[nADC]") (lit≤ tt) (lit≤ tt),
            (
              short-element (codes "positionADC") (codes "INT_8U[nADC][nFrame]") (lit≤ tt) (lit≤ tt),
              (
                short-element (codes "nProc") (codes "INT_4U") (lit≤ tt) (lit≤ tt),
                (
                  short-element (codes "nameProc") (codes "STRING[nProc]") (lit≤ tt) (lit≤ tt),
                  (
                    short-element (codes "positionProc") (codes "INT_8U[nProc][nFrame]") (lit≤ tt) (lit≤ tt),
                    (
                      short-element (codes "nSim") (codes "INT_4U") (lit≤ tt) (lit≤ tt),
                      (
                        short-element (codes "nameSim") (codes "STRING[nSim]") (lit≤ tt) (lit≤ tt),
                        (
                          short-element (codes "positionSim") (codes "INT_8U[nSim][nFrame]") (lit≤ tt) (lit≤ tt),
                          (short-element (codes "chkSum") (codes "INT_4U") (lit≤ tt) (lit≤ tt), tt),
                        ),
                      ),
                    ),
                  ),
                ),
              ),
            ),
          ),
        ),
      ),
    ),
  );
}

pub file_end-writable : IsWritableEntry file_end
file_end-writable = record {
  low = lit≤ tt;
  high = lit≤ tt;
  short = lit≤ tt;
  name = lit≤ tt;
  comment = lit≤ tt;
  elements = (
    short-element (codes "nFrames") (codes "INT_4U") (lit≤ tt) (lit≤ tt),
    (
      short-element (codes "nBytes") (codes "INT_8U") (lit≤ tt) (lit≤ tt),
      (
        short-element (codes "seekTOC") (codes "INT_8U") (lit≤ tt) (lit≤ tt),
        (short-element (codes "chkSum") (codes "INT_4U") (lit≤ tt) (lit≤ tt), tt),
      ),
    ),
  );
}

-- what is read of them
entry-read : (e : Entry) → IsWritableEntry e → AreRead e.elements
entry-read e w = All-from_recursion IsRead e.elements (by e.elements w.elements)
  where
    by : (es : List Element) → AllByRecursion IsWritableElement es → AllByRecursion IsRead es
    by [] all = tt
    by (e ∷ es) (one, others) = (one.read, by es others)

nothing-held : IsDictionary []
nothing-held = record { entries = λ class e there. absurd cc; names = λ name class there. absurd cc }

-- one more entry
with-entry : (held : List Entry) (e : Entry) → IsDictionary held → IsWritableEntry e → entry_of held e.class ≡ None
    → class_named held e.name ≡ None → IsDictionary (held ++ e ∷ [])
with-entry held e sound w class name = IsDictionary-new held e sound (record {
  low = w.low;
  high = w.high;
  short = w.short;
  class = class;
  name = name;
}) (entry-read e w)

-- the entries of the records and those of the closing
abbrev pub all_entries : List Entry
all_entries = sample_entries ++ contents_table ∷ file_end ∷ []

pub entries-dictionary : IsDictionary all_entries
unfolding computing
entries-dictionary =
    let one = with-entry [] frame_header nothing-held frame_header-writable refl refl in
    let two = with-entry _ raw_data one raw_data-writable refl refl in
    let three = with-entry _ channel two channel-writable refl refl in
    let four = with-entry _ vector three vector-writable refl refl in
    let five = with-entry _ frame_end four frame_end-writable refl refl in
    let six = with-entry _ contents_table five contents_table-writable refl refl in
    with-entry _ file_end six file_end-writable refl refl
