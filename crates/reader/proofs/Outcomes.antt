-- What bytes come to, by its variant: what a test of the code says of it. Assumes nothing.
use mathlib.Core.Path.{◌≡◌, ap, sym, ◌∙◌}
use Rattle.std.specs.Prelude.{Result, Ok, Err}
use Rattle.drafts.specs.declared.state.Fault.{Fault}
use Rattle.reader.specs.declared.reading.Progress.{Progress}
use Rattle.reader.specs.declared.taking.Step.{Step}
use Rattle.reader.specs.declared.taking.Step.TheVariants as steps

-- No function is closed.
abbrev pub NotClosed : Result (Step Progress) Fault → Type 0
NotClosed r = (y : Progress) → r ≡ Ok (steps.Closed y) → ⊥

-- What is behind a `?`, and then in a pattern.
pub ok_is : {A : Type 0} {r : Result A Fault} {x y : A} → r ≡ Ok x → x ≡ y → r ≡ Ok y
ok_is e i = e ∙ ap Ok i

pub err_closes : {r : Result (Step Progress) Fault} {k : Fault} {y : Progress} → r ≡ Err k → r ≡ Ok (steps.Closed y) → ⊥
err_closes e i = absurd (ok_no_err (sym i ∙ e))
  where
    ok_no_err : {x : Step Progress} {k : Fault} → ◌≡◌ {A = Result (Step Progress) Fault} (Ok x) (Err k) → ⊥
    ok_no_err e = cc

pub ok_closes : {r : Result (Step Progress) Fault} {x : Step Progress} → r ≡ Ok x → ((y : Progress) → x ≡ steps.Closed y → ⊥) → NotClosed r
ok_closes e n y i = n y (ok_same (sym e ∙ i))
  where
    ok_same : {x y : Step Progress} → ◌≡◌ {A = Result (Step Progress) Fault} (Ok x) (Ok y) → x ≡ y
    ok_same e = cc
