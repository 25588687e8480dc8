-- `vocabulary::spellings::spaces_behind`: for each length of words.
use mathlib.Core.Path.{◌≡◌, sym, ap}
use native.Mathlib.Omega.{arith}
use Rattle.vocabulary.specs.Letters.{spaces_behind}
use Rattle.vocabulary.proofs.spellings.spaces_behind.Goals as goal

pub returns-in-3 : goal.returns-in-3
unfolding spaces_behind
returns-in-3 c = ap spaces_behind (sym c.in-3.is)

pub returns-in-4 : goal.returns-in-4
unfolding spaces_behind
returns-in-4 c = ap spaces_behind (sym c.in-4.is)

pub returns-in-5 : goal.returns-in-5
unfolding spaces_behind
returns-in-5 c = ap spaces_behind (sym c.in-5.is)

pub returns-in-6 : goal.returns-in-6
unfolding spaces_behind
returns-in-6 c = ap spaces_behind (sym c.in-6.is)

pub returns-in-7 : goal.returns-in-7
unfolding spaces_behind
returns-in-7 c = ap spaces_behind (sym c.in-7.is)

pub returns-in-8 : goal.returns-in-8
unfolding spaces_behind
returns-in-8 c = ap spaces_behind (sym c.in-8.is)

pub returns-in_default : goal.returns-in_default
unfolding spaces_behind
returns-in_default c =
    let count = c.args.count in
    let e : 9 ≡ count = omega arith in
    ap spaces_behind e
