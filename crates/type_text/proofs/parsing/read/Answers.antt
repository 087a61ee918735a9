use Rattle.std.proofs.Common.{Some, None, sym, rules}
use Rattle.std.proofs.lemmas.Result.{IfOk-equal}
use Rattle.type_text.specs.Tokens.{tokens}
use Rattle.type_text.proofs.ParsingLemmas.{type_of-long, type_of-none, type_of-pointer, type_of-plain}
use Rattle.type_text.proofs.parsing.read.Goals as goal

pub returns-then-text-gt-TEXT_LIMIT : goal.returns-then-text-gt-TEXT_LIMIT
returns-then-text-gt-TEXT_LIMIT c = sym (type_of-long c.args.text.now c.if-text-gt-TEXT_LIMIT.true)

pub returns-in_default : goal.returns-in_default
returns-in_default c = sym (type_of-none c.args.text.now c.if-text-gt-TEXT_LIMIT.false (sym c.in_default.ensures))

pub returns-then-is_pointer_word : goal.returns-then-is_pointer_word
returns-then-is_pointer_word c =
    let same = type_of-pointer c.args.text.now c.in-Some.word.now (tokens c.in-Some.rest.now)
    c.if-text-gt-TEXT_LIMIT.false (sym c.in-Some.ensures) (sym c.if-is_pointer_word.ensures) in
    search (rules, IfOk-equal)

pub returns-in-Some-base_named : goal.returns-in-Some-base_named
returns-in-Some-base_named c =
    let same = type_of-plain c.args.text.now c.in-Some.word.now (tokens c.in-Some.rest.now)
    (Some c.in-Some-base_named.base) c.if-text-gt-TEXT_LIMIT.false (sym c.in-Some.ensures)
    (sym c.if-is_pointer_word.ensures) (sym c.in-Some-base_named.ensures) in
    search (rules, IfOk-equal)

pub returns-in-None : goal.returns-in-None
returns-in-None c =
    sym (type_of-plain c.args.text.now c.in-Some.word.now (tokens c.in-Some.rest.now) None c.if-text-gt-TEXT_LIMIT.false
    (sym c.in-Some.ensures) (sym c.if-is_pointer_word.ensures) (sym c.in-None.ensures))
