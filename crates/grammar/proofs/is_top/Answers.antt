-- `grammar::is_top`: the first stage alone is between functions.
use mathlib.Core.Bool.{Bool, true, false, not}
use mathlib.Core.List.{List, [], ◌∷◌}
use mathlib.Core.Path.{◌≡◌, refl, sym, ◌∙◌}
use Prim.Native.Nat.{ℕ, zero, suc}
use lib.Dec.{T, eqb}
use lib.ListN.{get_or}
use mir.Facts.{and_yes}
use native.Mathlib.Omega.{arith}
use borrow.Author.Tests.{ne_eqb}
use Rattle.laws.specs.Lists.{all}
use Rattle.language.specs.Grammar.{Stage}
use Rattle.grammar.specs.Meaning.{stages, stage_of}
use Rattle.grammar.specs.Ready.{is_top}
use Rattle.grammar.proofs.is_top.Goals as goal

not_is : (b : Bool) → T (not b) → b ≡ false
not_is true h = absurd h
not_is false h = refl

none_top : (xs : List Stage) → T (all (λ s. not (is_top s)) xs) → (k : ℕ) → is_top (get_or xs k Stage.instruction_end) ≡ false
none_top [] h k = refl
none_top (x ∷ xs) h zero = not_is (is_top x) (and_yes (not (is_top x)) (all (λ s. not (is_top s)) xs) h).0
none_top (x ∷ xs) h (suc k) = none_top xs (and_yes (not (is_top x)) (all (λ s. not (is_top s)) xs) h).1 k

abbrev tail : List Stage → List Stage
tail [] = []
tail (x ∷ xs) = xs

behind_first : (xs : List Stage) → T (all (λ s. not (is_top s)) (tail xs)) → (k : ℕ) → is_top (get_or xs (suc k) Stage.instruction_end) ≡ false
behind_first [] h k = refl
behind_first (x ∷ xs) h k = none_top xs h k

top_is : (k m d : ℕ) → eqb k 0 ≡ is_top (stage_of k m d)
top_is zero m d = refl
top_is (suc k) m d = ne_eqb (suc k) 0 (λ e. omega (arith, e)) ∙ sym (behind_first (stages m d) tt k)

pub returns : goal.returns
returns c = let s = c.args.stage in top_is s.kind s.more s.detail
