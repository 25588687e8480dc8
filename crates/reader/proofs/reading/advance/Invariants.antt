-- `reader::reading::advance`: what is found and taken leads on, whatever the bytes so far stand for.
use mathlib.Core.Path.{◌≡◌}
use mathlib.Core.List.{List}
use lib.ListN.{length}
use Rattle.language.specs.Programs.{Func, max_registers}
use Rattle.name_index.specs.Hashes.{heads}
use Rattle.language.specs.Tokens.{Lexer as Lexerᴸ}
use Rattle.language.specs.Reading.{Parse}
use Rattle.lexer.specs.Lexing.{left}
use Rattle.drafts.specs.State.{lent_of}
use Rattle.reader.specs.Text.{LexerAt, Between}
use Rattle.reader.proofs.Onward.{Onward}
use Rattle.reader.proofs.reading.advance.Given as goal

abbrev pub invariant-loop-last : goal.invariant-loop-last
invariant-loop-last l =
    ((fs : List Func) (parse : Parse) (lx : Lexerᴸ) → LexerAt l.text l.initial.held lx l.initial.l → Between fs parse l.initial.s l.initial.f l.initial.names l.initial.pend
    → Onward l.text l.ends fs parse lx l.initial.l l.l l.held l.s (lent_of l.f l.names l.pend l.last l.before))
    × (length l.f ≡ length l.initial.f) × (length l.names ≡ length l.initial.names) × (length l.pend ≡ length l.initial.pend)
    × (length l.last ≡ heads) × (length l.before ≡ max_registers) × (length l.held ≡ length l.initial.held)

abbrev pub decreases-loop-last : goal.decreases-loop-last
decreases-loop-last l = left l.text l.l
