use Rattle.std.proofs.Common.{arith, ◌≡◌, ◌+◌, ◌-◌, sym, ap, ◌∙◌}
use native.Mathlib.Decide.{ℕ_discrete}
use Rattle.language.specs.Table.{phi_entry}
use Rattle.rules.proofs.Images.{images_pass, image_fails}
use Rattle.rules.proofs.entries.entries_pass.Goals as goal

pub returns-then-not-passes : goal.returns-then-not-passes
returns-then-not-passes g c p h =
    let args = c.args in
    let i = c.loop-i.i in
    let e : args.first + (i - args.first) ≡ i = omega arith in
    image_fails (phi_entry args.t.now args.a) p args.first args.count (i - args.first) (omega arith)
    (ap (λ k. p (phi_entry args.t.now args.a k)) e ∙ ap p (sym c.phi_entry.ensures.0) ∙ sym (h _ _ c.phi_entry.ensures.1 c.passes.ensures) ∙ c.if-not-passes.true)

pub loop-i-preserved : goal.loop-i-preserved
loop-i-preserved g c =
    (omega arith, λ p h j l m. elim (ℕ_discrete j c.loop-i.i) [ yes e ↦ ap (λ k. p (phi_entry c.args.t.now c.args.a k)) e ∙ ap p (sym c.phi_entry.ensures.0) ∙ sym (h _ _ c.phi_entry.ensures.1 c.passes.ensures) ∙ c.if-not-passes.false | no n ↦ c.loop-i.invariant.1 p h j l (omega arith) ])

pub returns : goal.returns
returns g c p h =
    let args = c.args in
    images_pass (phi_entry args.t.now args.a) p args.first args.count (λ j l. c.loop-i.invariant.1 p h (args.first + j) (omega arith) (omega arith))
