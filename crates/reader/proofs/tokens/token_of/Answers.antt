-- `token_of`: each lexeme is the token that the definition makes of it.
use mathlib.Core.Path.{ap, ◌∙◌}
use Rattle.language.specs.Words.{word_of}
use Rattle.reader.proofs.Spelling.{plain_name, plain_word, quoted_name, number_spelled, mark_spelled, end_spelled}
use Rattle.reader.proofs.tokens.token_of.Goals as goal

pub contents_of-requires : goal.contents_of-requires
contents_of-requires c = let w = rw c.in-Plain.is at c.requires in (w.room, w.part)

pub returns-then-w-eq-COUNT : goal.returns-then-w-eq-COUNT
returns-then-w-eq-COUNT c =
    let s = c.args in
    rw c.in-Plain.is (plain_name s.text.now s.held.now _ _ (rw c.in-Plain.is at c.requires) c.word-w.result (c.word-w.ensures ∙ ap word_of c.contents_of.ensures.0) c.if-w-eq-COUNT.true)

pub returns-else-w-eq-COUNT : goal.returns-else-w-eq-COUNT
returns-else-w-eq-COUNT c =
    let s = c.args in
    rw (c.in-Plain.is, c.nameless.ensures) (plain_word s.text.now s.held.now _ _ (rw c.in-Plain.is at c.requires) c.word-w.result (c.word-w.ensures ∙ ap word_of c.contents_of.ensures.0) c.if-w-eq-COUNT.false)

pub returns-in-Quoted : goal.returns-in-Quoted
returns-in-Quoted c = rw c.in-Quoted.is (quoted_name c.args.text.now c.args.held.now _ _ (rw c.in-Quoted.is at c.requires))

pub returns-in-Number : goal.returns-in-Number
returns-in-Number c = rw (c.in-Number.is, c.nameless-in-Number.ensures) (number_spelled c.args.text.now c.args.held.now _ _)

pub returns-in-Mark : goal.returns-in-Mark
returns-in-Mark c = rw (c.in-Mark.is, c.nameless-in-Mark.ensures) (mark_spelled c.args.text.now c.args.held.now _)

pub returns-in-End : goal.returns-in-End
returns-in-End c = rw (c.in-End.is, c.nameless-in-End.ensures) (end_spelled c.args.text.now c.args.held.now)
