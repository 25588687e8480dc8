-- `lexer::Lexer::finish`: what is open, ended by the text's end, or the end.
use Rattle.language.proofs.TokenSteps.{Idle}
use Rattle.lexer.proofs.Passing.{finished_idle, finished_open}
use Rattle.lexer.proofs.Lexer.finish.Goals as goal
use Rattle.lexer.proofs.Lexer.finish.Goals.{then-self-eq-BETWEEN-via-then-self-eq-BETWEEN, then-self-eq-BETWEEN-via-else-self-eq-BETWEEN+then-self-eq-COMMENT}

-- nothing is open between tokens, nor in a comment
pub returns-then-self-eq-BETWEEN : goal.returns-then-self-eq-BETWEEN
returns-then-self-eq-BETWEEN c =
    let self = c.args.self in
    elim c.then-self-eq-BETWEEN.branch [
      | then-self-eq-BETWEEN-via-then-self-eq-BETWEEN w ↦ finished_idle self Idle.between w.if-self-eq-BETWEEN.true
      | then-self-eq-BETWEEN-via-else-self-eq-BETWEEN+then-self-eq-COMMENT w ↦ finished_idle self Idle.comment w.if-self-eq-COMMENT.true
    ]

pub returns : goal.returns
returns c =
    rw (c.ended.ensures, c.idle.ensures) (finished_open c.args.self c.if-self-eq-BETWEEN.false)
