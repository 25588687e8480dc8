-- `head_text::put_parameters`: the parameters so far are put down.
use mathlib.Core.Path.{◌≡◌}
use Prim.Native.Nat.{◌≤◌}
use Rattle.laws.specs.Lists.{gather, below}
use Rattle.language.specs.MadeNames.{named_function}
use Rattle.language.specs.Table.{decode_function}
use Rattle.page.specs.Page.{page, puts}
use Rattle.head_text.specs.Heads.{parameter_bytes}
use Rattle.head_text.proofs.put_parameters.Given as goal

abbrev pub invariant-loop-r : goal.invariant-loop-r
invariant-loop-r l = (l.r ≤ l.n) × (page l.out l.p ≡ puts (page l.initial.out l.at) (gather (parameter_bytes (named_function (decode_function l.t l.a))) (below l.r)))
