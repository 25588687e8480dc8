-- `lexer::runs::plain_end`: from the letter on, the bytes that a name has, up to one that none has.
use native.Mathlib.Omega.{arith}
use lib.ListN.{length, get_or}
use Rattle.lexer.proofs.Passing.{name_no, limit_within, letter_yes}
use Rattle.lexer.proofs.runs.plain_end.Goals as goal

pub returns-then-class-ne-LETTER : goal.returns-then-class-ne-LETTER
returns-then-class-ne-LETTER c h = absurd (omega (arith, h))

pub name_end-end-requires : goal.name_end-end-requires
name_end-end-requires c = (omega (arith, c.requires.start_in_bounds.0), c.requires.start_in_bounds.1)

pub returns-then-text-end : goal.returns-then-text-end
returns-then-text-end c h = absurd (omega (arith, h))

pub returns : goal.returns
returns c h =
    let a = c.args in
    let text = a.text.now in
    let e = c.name_end-end.result in
    let f = c.name_end-end.ensures in (
      c.if-class-ne-LETTER.false,
      record {
        letter = letter_yes (get_or text a.start 0) (c.requires.start_value c.if-class-ne-LETTER.false);
        run = f.run;
        short = omega (arith, f.within, (limit_within (length text) a.start (omega (arith, c.requires.start_in_bounds.0))).1);
        within = c.if-text-end.false;
        ends = name_no (get_or text e 0) (omega (arith, c.class_of.ensures));
      },
    )
