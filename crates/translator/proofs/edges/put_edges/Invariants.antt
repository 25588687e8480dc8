-- The loop's invariant: the first j edges are put down.
use Prim.Native.Nat.{◌+◌, ◌≤◌}
use mathlib.Core.Path.{◌≡◌}
use lib.ListN.{length}
use Rattle.language.specs.Programs.{first_row}
use Rattle.translator.specs.Source.{translated, built, pairs_in}
use Rattle.translator.proofs.edges.put_edges.Given as goal

abbrev pub invariant-loop-j : goal.invariant-loop-j
invariant-loop-j l = (l.e ≡ pairs_in l.t l.a l.m l.y) × (l.j ≤ l.e) × (l.b + l.e ≤ 64) × (l.r ≡ first_row (translated l.t l.a) (l.b + l.j)) × (length l.out ≡ length l.initial.out) × (l.out ≡ built l.t l.a (l.b + l.j) l.r)
