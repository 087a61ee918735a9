use Rattle.std.proofs.Common.{◌≡◌, ◌+◌, false, None, length, is_some, sym, ◌∙◌, ap, rules, get_or}
use Rattle.std.proofs.lemmas.List.{get_or_read, length-set, length_push}
use Rattle.rooted_graph.proofs.Tables.{added_new, added_old, numbered_new, counted_new}
use Rattle.rooted_graph.proofs.queue.Queue.add.Goals as goal

pub invariant_of-self-then-is_none : goal.invariant_of-self-then-is_none
invariant_of-self-then-is_none c =
    let read : c.index.result.now ≡ get_or c.args.self.now.numbers.items c.args.node None =
    get_or_read c.args.self.now.numbers.items c.args.node c.index.result.now c.requires c.index.ensures None in
    let new : is_some (get_or c.args.self.now.numbers.items c.args.node None) ≡ false = ap is_some (sym read)
    ∙ c.if-is_none.ensures in
    let number : c.len-number.result ≡ length c.args.self.now.nodes.items = search rules in
    let table = numbered_new c.args.self.now.numbers.items c.args.self.now.nodes.items
    (record { numbered = c.args.self.now.numbered }) c.args.node c.requires new in
    record {
      few = rw length-set c.args.self.now.few;
      numbered = λ n. rw (number, c.in_ok-push.ensures.items) (table.numbered n);
      counted = counted_new c.args.self.now.numbers.items c.args.node c.len-number.result c.requires new
          ∙ ap (λ n. n + 1) c.args.self.now.counted ∙ sym (length_push c.args.self.now.nodes.items c.args.node)
          ∙ ap length (sym c.in_ok-push.ensures.items);
    }

pub returns-in_ok-push-clause-nodes : goal.returns-in_ok-push-clause-nodes
returns-in_ok-push-clause-nodes c =
    let read : c.index.result.now ≡ get_or c.args.self.now.numbers.items c.args.node None =
    get_or_read c.args.self.now.numbers.items c.args.node c.index.result.now c.requires c.index.ensures None in
    c.in_ok-push.ensures.items
    ∙ sym (added_new c.args.self.now.numbers.items c.args.self.now.nodes.items
    (record { numbered = c.args.self.now.numbered }) c.args.node (ap is_some (sym read) ∙ c.if-is_none.ensures))

pub returns-else-is_none-clause-nodes : goal.returns-else-is_none-clause-nodes
returns-else-is_none-clause-nodes c =
    let read : c.index.result.now ≡ get_or c.args.self.now.numbers.items c.args.node None =
    get_or_read c.args.self.now.numbers.items c.args.node c.index.result.now c.requires c.index.ensures None in
    sym (added_old c.args.self.now.numbers.items c.args.self.now.nodes.items
    (record { numbered = c.args.self.now.numbered }) c.args.node (ap is_some (sym read) ∙ c.if-is_none.ensures))
