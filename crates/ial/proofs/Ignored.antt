-- Cells that are not needed are ignored by the entry points: their answers are the definition's, and an answer is known by its numbers.
-- Assumes nothing.
use mathlib.Core.Path.{◌≡◌, sym, ap, ◌∙◌}
use mathlib.Core.List.{List}
use Prim.Native.Nat.{ℕ}
use Rattle.language.specs.Answers.{Filled, Finished, Listed, Shown}
use Rattle.theorems.proofs.TableIgnored.{answers_ignore_unneeded}
use Rattle.std.specs.Prelude.{⊤}
use Rattle.std.specs.declared.result.Result.{Result}
use Rattle.answers.specs.declared.reasons.Refusal.{Refusal}
use Rattle.answers.specs.declared.Ran.{Ran}
use Rattle.answers.specs.Lent.{filled_of, finished_of, listed_of, shown_of}
use Rattle.ial.specs.Ignored.{IgnoredInCalls}
use Rattle.ial.proofs.Known.{verdict_known, ran_known, wrote_known}

-- An answer and what was lent, known together.
filled_known : (r s : Result ⊤ Refusal) (a b : List ℕ) → filled_of r a ≡ filled_of s b → (r ≡ s) × (a ≡ b)
filled_known r s a b e = (verdict_known r s (ap (λ (x : Filled). x.answer) e), ap (λ (x : Filled). x.table) e)

finished_known : (x y : Result Ran Refusal) (a b : List ℕ) → finished_of x a ≡ finished_of y b → (x ≡ y) × (a ≡ b)
finished_known x y a b e = (ran_known x y (ap (λ (z : Finished). z.answer) e), ap (λ (z : Finished). z.registers) e)

shown_known : (x y : Result ℕ Refusal) (a b : List ℕ) → shown_of x a ≡ shown_of y b → (x ≡ y) × (a ≡ b)
shown_known x y a b e = (wrote_known x y (ap (λ (z : Shown). z.answer) e), ap (λ (z : Shown). z.buffer) e)

listed_known : (r s : Result ⊤ Refusal) (a b : List ℕ) → listed_of r a ≡ listed_of s b → (r ≡ s) × (a ≡ b)
listed_known r s a b e = (verdict_known r s (ap (λ (x : Listed). x.answer) e), ap (λ (x : Listed). x.numbers) e)

pub calls_ignore_unneeded : IgnoredInCalls
calls_ignore_unneeded t u h =
    let same = answers_ignore_unneeded t u h in
    record {
      check = λ r s p q. verdict_known r s (p ∙ same.check ∙ sym q);
      signature = λ i result types r s p q. p ∙ same.signature i result types ∙ sym q;
      run = λ i args budget n x y a b p q. finished_known x y a b (p ∙ same.run i args budget n ∙ sym q);
      run_each = λ i args budget n m r s a b g h p q.
          let k = listed_known r s a b (p.0 ∙ same.run_each i args budget n m ∙ sym q.0) in
          (k.0, k.1, p.1 ∙ sym q.1);
      translate = λ i n r s a b p q. filled_known r s a b (p ∙ same.translate i n ∙ sym q);
      write = λ n r s a b p q. shown_known r s a b (p ∙ same.write n ∙ sym q);
    }
