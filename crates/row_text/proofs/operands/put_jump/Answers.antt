-- `row_text::operands::put_jump`: a block in parentheses.
use mathlib.Core.List.{[], ◌∷◌}
use mathlib.Core.Path.{ap, ◌∙◌}
use Prim.Native.Nat.{ℕ}
use native.Mathlib.Omega.{arith}
use Rattle.language.specs.Bytes.{left_paren, right_paren}
use Rattle.language.specs.Programs.{block_at}
use Rattle.language.specs.Table.{jump_first}
use Rattle.language.specs.Tokens.{Token}
use Rattle.language.specs.Writing.{bytes_for, block_token}
use Rattle.page.specs.Page.{puts}
use Rattle.token_text.specs.Spaced.{spaced}
use Rattle.token_text.proofs.Spelled.{spaced_then}
use Rattle.row_text.specs.Ready.{titled}
use Rattle.row_text.proofs.Asked.{block_asked, row_asked}
use Rattle.row_text.proofs.operands.put_jump.Goals as goal

pub jump_first-requires : goal.jump_first-requires
jump_first-requires c = row_asked c.requires.0 c.requires.1

pub put_block-f-requires : goal.put_block-f-requires
put_block-f-requires c =
    let kind = c.requires.2 in
    let both = block_asked c.requires.0 (jump_first c.args.t.now c.args.a c.args.r) c.jump_first.ensures.0
    ((c.requires.0.rows c.args.r c.requires.1).first (omega arith)) in record { in_table = both.0; blocks_numbered = both.1 }

pub returns : goal.returns
unfolding bytes_for
returns c =
    let token : ℕ → Token = λ b. block_token (block_at (titled c.args.t.now c.args.a) b).name in
    spaced_then _ (Token.mark left_paren ∷ token c.jump_first.result ∷ []) (Token.mark right_paren ∷ [])
    (spaced_then _ (Token.mark left_paren ∷ []) (token c.jump_first.result ∷ []) c.put_part-e.ensures c.put_block-f.ensures)
    c.put_part.ensures
    ∙ ap (puts _) (ap (λ (b : ℕ). spaced (Token.mark left_paren ∷ token b ∷ Token.mark right_paren ∷ [])) c.jump_first.ensures.0)
