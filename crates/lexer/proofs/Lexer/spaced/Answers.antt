-- `lexer::Lexer::spaced`: a space leaves nothing open.
use mathlib.Core.Path.{refl, sym}
use Rattle.lexer.specs.Lexing.{idle_at}
use Rattle.language.proofs.TokenSteps.{Idle}
use Rattle.lexer.proofs.Stepping.{passed_none, passed_then, passed_idle}
use Rattle.lexer.proofs.Passing.{spaces_passed}
use Rattle.lexer.proofs.Lexer.spaced.Goals as goal

pub returns-then-self-ne-BETWEEN : goal.returns-then-self-ne-BETWEEN
returns-then-self-ne-BETWEEN c = ((λ h. passed_none c.args.text.now c.args.self h c.requires.1 c.requires.0), refl)

pub returns : goal.returns
returns c =
    let text = c.args.text.now in
    let l = c.args.self in
    rw c.idle.ensures (
      (λ h. passed_then text l (idle_at 0 l.next) (idle_at 0 c.spaces_end.result) (passed_idle Idle.between text l c.requires.1 c.if-self-ne-BETWEEN.false h)
          (spaces_passed text h (λ i. (c.shared_slice_known-1.given i).fits) l.next c.spaces_end.result c.spaces_end.ensures)),
      sym c.if-self-ne-BETWEEN.false,
    )
