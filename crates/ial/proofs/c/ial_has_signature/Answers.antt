-- `ial::c::ial_has_signature` passes on what `has_signature` answers.
use mathlib.Core.Path.{◌≡◌, refl, ap, ◌∙◌}
use mathlib.Core.Bool.{Bool, true, false, cond}
use mir.Val.{bool_byte}
use Rattle.ial.proofs.c.ial_has_signature.Goals as goal

flag : (b : Bool) → bool_byte b ≡ cond b 1 0
flag true = refl
flag false = refl

pub returns : goal.returns
returns c = c.from.ensures ∙ flag c.has_signature.result ∙ ap (λ (b : Bool). cond b 1 0) c.has_signature.ensures
