-- A file's content is one, as `OneContent` proves.
use Rattle.file_content.proofs.OneContent.{no-two-contents, has-contents}
use Rattle.file_content.proofs.laws.each_file_has_one_content.Goals as goal

pub returns : goal.returns
returns c = record { unique = no-two-contents; exists = has-contents }
