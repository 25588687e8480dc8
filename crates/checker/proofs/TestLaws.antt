-- A call's answer, tested.
-- Assumes nothing.
use mathlib.Core.Bool.{Bool, true, false, not}
use mathlib.Core.Path.{◌≡◌, sym, ◌∙◌}
use borrow.Author.Tests.{not-true, not-false}

pub fell : {r x : Bool} → r ≡ x → not r ≡ true → x ≡ false
fell {r} p q = sym p ∙ not-true r q

pub held : {r x : Bool} → r ≡ x → not r ≡ false → x ≡ true
held {r} p q = sym p ∙ not-false r q
