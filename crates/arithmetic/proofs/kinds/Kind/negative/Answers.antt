-- `Kind::negative`: the highest bit of a signed number.
use Rattle.std.proofs.Common.{Bool, sym, ap, ◌∙◌}
use Rattle.arithmetic.proofs.Words.{highest_set}
use Rattle.arithmetic.proofs.Meanings.{minus, reading_sign}
use Rattle.arithmetic.proofs.kinds.Kind.negative.Goals as goal

pub returns-then-self : goal.returns-then-self
returns-then-self c =
    highest_set c.args.self.room c.args.self.below c.requires ∙ sym (reading_sign c.args.self.room c.args.self.sign c.args.x ∙ ap (λ (g : Bool). minus c.args.self.room g c.args.x) c.if-self.true)

pub returns-else-self : goal.returns-else-self
returns-else-self c =
    c.if-self.false ∙ sym (reading_sign c.args.self.room c.args.self.sign c.args.x ∙ ap (λ (g : Bool). minus c.args.self.room g c.args.x) c.if-self.false)
