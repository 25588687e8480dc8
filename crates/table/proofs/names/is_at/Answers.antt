-- Names whose last eight bytes differ are not the same.
use mathlib.Core.Path.{sym, ap, ◌∙◌}
use mathlib.Core.List.{List}
use Prim.Native.Nat.{ℕ}
use Rattle.laws.specs.Lists.{same}
use Rattle.laws.proofs.Positions.{same_not}
use Rattle.language.specs.Table.{name_at}
use Rattle.table.proofs.NamesLaws.{tail_of}
use Rattle.table.proofs.names.is_at.Goals as goal

pub returns-then-eight_at-tail : goal.returns-then-eight_at-tail
returns-then-eight_at-tail c =
    let t = c.args.t.now in
    let name = c.args.name.now in
    let tail = rw c.in-Some.is at c.requires.tail_value in
    sym (same_not (name_at t c.args.k) name (λ e. c.if-eight_at-tail.true (c.eight_at.ensures ∙ tail_of t name c.args.k e tail.0 ∙ sym tail.2)))

pub returns : goal.returns
returns c = c.same.ensures ∙ ap (λ (l : List ℕ). same l c.args.name.now) c.name_at.ensures
