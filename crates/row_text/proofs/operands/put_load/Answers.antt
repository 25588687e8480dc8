-- `row_text::operands::put_load`: a number in parentheses.
use mathlib.Core.List.{[], ◌∷◌}
use mathlib.Core.Path.{◌≡◌, ap, ◌∙◌}
use Prim.Native.Nat.{ℕ, ◌^◌, ◌<◌}
use Rattle.language.specs.Bytes.{left_paren, right_paren}
use Rattle.language.specs.Instructions.{width, load_type}
use Rattle.language.specs.Table.{row_op}
use Rattle.language.specs.Tokens.{Token}
use Rattle.language.specs.Writing.{bytes_for, number_token}
use Rattle.page.specs.Page.{puts}
use Rattle.token_text.specs.Spaced.{spaced}
use Rattle.token_text.proofs.Spelled.{spaced_then}
use Rattle.row_text.proofs.Asked.{row_asked}
use Rattle.row_text.proofs.operands.put_load.Goals as goal

-- the number, by what was looked up
fits : {k m x y : ℕ} → k ≡ m → x ≡ y → y < 2 ^ width m → x < 2 ^ width k
fits e d h = rw (e, d) h

pub row_op-requires : goal.row_op-requires
row_op-requires c = row_asked c.requires.0 c.requires.1

pub load_number-requires : goal.load_number-requires
load_number-requires c = row_asked c.requires.0 c.requires.1

pub put_number-f-requires : goal.put_number-f-requires
put_number-f-requires c =
    let ready = c.requires.0.rows c.args.r c.requires.1 in
    fits (c.load_type-kind.ensures ∙ ap load_type c.row_op.ensures) c.load_number.ensures (ready.number c.requires.2)

pub returns : goal.returns
unfolding bytes_for
returns c =
    let kind = c.load_type-kind.ensures ∙ ap load_type c.row_op.ensures in
    let k = c.load_type-kind.result in
    spaced_then _ (Token.mark left_paren ∷ number_token k c.load_number.result ∷ []) (Token.mark right_paren ∷ [])
    (spaced_then _ (Token.mark left_paren ∷ []) (number_token k c.load_number.result ∷ []) c.put_part-e.ensures c.put_number-f.ensures)
    c.put_part.ensures
    ∙ ap (puts _) (ap (λ (k : ℕ). spaced (Token.mark left_paren ∷ number_token k c.load_number.result ∷ Token.mark right_paren ∷ [])) kind
    ∙ ap (λ (n : ℕ). spaced (Token.mark left_paren ∷ number_token (load_type (row_op c.args.t.now c.args.a c.args.r)) n ∷ Token.mark right_paren ∷ [])) c.load_number.ensures)
