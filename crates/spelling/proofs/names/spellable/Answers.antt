-- `spelling::names::spellable`: the tests of the definition; that each is a byte is known of any slice.
use native.Mathlib.Omega.{arith}
use Rattle.spelling.proofs.NamesLaws.{no_bytes, too_long, by_last}
use Rattle.spelling.proofs.names.spellable.Goals as goal

pub returns-in_default : goal.returns-in_default
returns-in_default c = let h = c.in_default in no_bytes c.args.name.now (omega arith)

pub returns-then-name-gt-MAX_NAME : goal.returns-then-name-gt-MAX_NAME
returns-then-name-gt-MAX_NAME c = too_long c.args.name.now c.if-name-gt-MAX_NAME.true

pub returns : goal.returns
returns c =
    by_last c.args.name.now (λ e. omega (arith, e, c.in-len1-up.len_at_least)) c.if-name-gt-MAX_NAME.false (λ i. (c.type_inv.name i).fits)
