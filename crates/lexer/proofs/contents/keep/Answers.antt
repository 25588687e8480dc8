-- `lexer::contents::keep`: a byte with room is stored, and one without changes nothing.
use mathlib.Core.Path.{refl, sym}
use lib.ListN.{length}
use lib.Seq.{set_out}
use borrow.Author.Tests.{lt-ltb, le-ltb}
use Rattle.lexer.specs.Contents.{counted_at}
use Rattle.lexer.proofs.contents.keep.Goals as goal

pub returns-then-n-held : goal.returns-then-n-held
unfolding counted_at
returns-then-n-held c = let a = c.args in (rw (lt-ltb a.n (length a.held.now) c.if-n-held.true), refl)

pub returns : goal.returns
unfolding counted_at
returns c = let a = c.args in (rw (le-ltb a.n (length a.held.now) c.if-n-held.false), sym (set_out a.held.now a.n a.b c.if-n-held.false))
