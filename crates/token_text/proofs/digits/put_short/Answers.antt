-- `token_text::digits::put_short`: below 10 the number is its digit, below 100 a tenth of it stands before the last.
use mathlib.Core.Path.{ap, sym, ◌∙◌}
use mathlib.Core.List.{List, [], ◌∷◌, ◌++◌}
use Prim.Native.Nat.{ℕ, ◌+◌, ◌/◌, ◌%◌, ◌<◌, ◌≤◌}
use native.Mathlib.Omega.{arith}
use Rattle.language.specs.Writing.{space_byte}
use Rattle.decimal.proofs.DigitsLaws.{digits_one, digits_more}
use Rattle.page.specs.Page.{puts}
use Rattle.token_text.proofs.digits.put_short.Goals as goal

pub returns-then-n-lt10 : goal.returns-then-n-lt10
returns-then-n-lt10 c =
    let n = c.args.n in
    c.put_part.ensures
    ∙ ap (puts _) (ap (λ (x : ℕ). x ∷ space_byte ∷ []) c.digit.ensures ∙ ap (λ (l : List ℕ). l ++ (space_byte ∷ [])) (sym (digits_one n c.if-n-lt10.true)))

pub digit-requires-2 : goal.digit-requires-2
digit-requires-2 c = omega arith

pub digit-requires-3 : goal.digit-requires-3
digit-requires-3 c = omega arith

pub returns : goal.returns
returns c =
    let n = c.args.n in
    let more : 10 ≤ n = c.if-n-lt10.false in
    let tenth : n / 10 < 10 = omega (arith, c.requires) in
    c.put_part-2.ensures
    ∙ ap (puts _)
    (ap (λ (x : ℕ). x ∷ c.digit-3.result ∷ space_byte ∷ []) c.digit-2.ensures
    ∙ ap (λ (x : ℕ). (48 + n / 10) ∷ x ∷ space_byte ∷ []) c.digit-3.ensures
    ∙ ap (λ (l : List ℕ). l ++ (space_byte ∷ [])) (sym (digits_more n more ∙ ap (λ (l : List ℕ). l ++ ((48 + n % 10) ∷ [])) (digits_one (n / 10) tenth))))
