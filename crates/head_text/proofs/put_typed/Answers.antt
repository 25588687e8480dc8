-- `head_text::put_typed`: the type that the register has with its made name, then the name.
use mathlib.Core.Path.{ap, subst⁻¹, ◌∙◌}
use Prim.Native.Nat.{ℕ, ◌<◌}
use Rattle.language.specs.Instructions.{type_count}
use Rattle.page.specs.Page.{puts}
use Rattle.token_text.proofs.Spelled.{puts_then}
use Rattle.head_text.proofs.LibLaws.{typed_parts}
use Rattle.head_text.proofs.put_typed.Goals as goal

pub put_type-p-requires : goal.put_type-p-requires
put_type-p-requires c =
    subst⁻¹ (λ (k : ℕ). k < type_count) c.register_type.ensures (c.requires.0.types c.args.r c.requires.3)

pub returns : goal.returns
returns c =
    puts_then _ _ _ c.put_type-p.ensures c.put_register.ensures
    ∙ ap (puts _) (typed_parts c.args.t.now c.args.a c.args.r c.requires.3 c.register_type.ensures)
