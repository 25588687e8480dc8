-- `lexer::Lexer::commented`: no byte before the LF ends the comment.
use native.Mathlib.Omega.{arith}
use Rattle.lexer.proofs.Passing.{comment_past, comment_to_end, comment_forth}
use Rattle.lexer.proofs.Lexer.commented.Goals as goal

pub line_end-end-requires : goal.line_end-end-requires
line_end-end-requires c = omega (arith, c.requires.0)

pub begun-requires : goal.begun-requires
begun-requires c = omega (arith, c.if-end-text.true)

pub returns-then-end-text : goal.returns-then-end-text
returns-then-end-text c =
    rw c.begun.ensures
    ((λ h. comment_past c.args.text.now h (λ i. (c.shared_slice_known-1.given i).fits) c.args.self c.requires.1 c.requires.0 c.line_end-end.result c.line_end-end.ensures c.if-end-text.true), comment_forth c.args.self.next c.line_end-end.result c.line_end-end.ensures.run.forth)

pub returns : goal.returns
returns c =
    rw c.idle.ensures
    ((λ h. comment_to_end c.args.text.now h (λ i. (c.shared_slice_known-1.given i).fits) c.args.self c.requires.1 c.requires.0 c.line_end-end.result c.line_end-end.ensures c.if-end-text.false), omega (arith, c.if-end-text.false, c.requires.0))
