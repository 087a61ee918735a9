use Rattle.canonical_laws.proofs.KeptContents.{kept_contents}
use Rattle.canonical_laws.proofs.TellingApart.{tells, stays}
use Rattle.canonical_laws.proofs.laws.canonical_files_tell_contents.Goals as goal

pub returns-clause-keep : goal.returns-clause-keep
returns-clause-keep c = kept_contents

pub returns-clause-tell : goal.returns-clause-tell
returns-clause-tell c = tells kept_contents

pub returns-clause-stay : goal.returns-clause-stay
returns-clause-stay c = stays kept_contents
