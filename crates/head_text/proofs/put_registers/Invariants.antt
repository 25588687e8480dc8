-- `head_text::put_registers`: the registers past the parameters so far are declared.
use mathlib.Core.Path.{◌≡◌}
use mathlib.Core.List.{List}
use Prim.Native.Nat.{ℕ, ◌-◌, ◌≤◌}
use Rattle.laws.specs.Lists.{gather, from}
use Rattle.language.specs.Programs.{Func}
use Rattle.language.specs.MadeNames.{named_function}
use Rattle.language.specs.Table.{function_params, decode_function}
use Rattle.page.specs.Page.{page, puts}
use Rattle.head_text.specs.Heads.{register_bytes}
use Rattle.head_text.proofs.put_registers.Given as goal

-- the registers from k on, up to r
abbrev pub up_to : Func → ℕ → ℕ → List ℕ
up_to f k r = gather (register_bytes f) (from k (r - k))

abbrev pub invariant-loop-r : goal.invariant-loop-r
invariant-loop-r l = (function_params l.t l.a ≤ l.r) × (l.r ≤ l.n) × (page l.out l.p ≡ puts (page l.initial.out l.at) (up_to (named_function (decode_function l.t l.a)) (function_params l.t l.a) l.r))
