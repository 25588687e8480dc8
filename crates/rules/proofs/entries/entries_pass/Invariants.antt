-- The loop's invariant: every entry passed is answered by true.
use Rattle.std.proofs.Common.{◌≡◌, ℕ, ◌<◌, ◌≤◌, Bool, true}
use Rattle.language.specs.Table.{phi_entry}
use Rattle.rules.proofs.entries.entries_pass.Given as goal

abbrev pub invariant-loop-i : goal.invariant-loop-i
invariant-loop-i g l = (l.fn.first ≤ l.i) × ((p : ℕ → Bool) → ((u : ℕ) (b : Bool) → u < 256 → goal.F-post g l.passes u b → b ≡ p u) → (j : ℕ) → l.fn.first ≤ j → j < l.i → p (phi_entry l.t l.a j) ≡ true)
