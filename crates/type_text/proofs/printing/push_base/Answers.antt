use Rattle.std.proofs.Common.{append_assoc}
use Rattle.type_text.proofs.printing.push_base.Goals as goal

pub returns-in_ok-extend_from_slice-3 : goal.returns-in_ok-extend_from_slice-3
returns-in_ok-extend_from_slice-3 c =
    rw (
      c.in_ok-extend_from_slice-3.ensures.items,
      c.in_ok-extend_from_slice-2.ensures.items,
      c.in_ok-push.ensures.items,
      c.in_ok-extend_from_slice.ensures.items,
      c.base_word.ensures,
      c.in-Ptr.is,
      c.bytes.ensures,
    ) (simp append_assoc)
