-- `row_text::operands::put_branch`: two blocks in parentheses, and the comma between.
use mathlib.Core.List.{[], ◌∷◌}
use mathlib.Core.Path.{ap, ◌∙◌}
use Prim.Native.Nat.{ℕ}
use native.Mathlib.Omega.{arith}
use Rattle.language.specs.Bytes.{left_paren, right_paren, comma}
use Rattle.language.specs.Programs.{block_at}
use Rattle.language.specs.Table.{jump_first, jump_second}
use Rattle.language.specs.Tokens.{Token}
use Rattle.language.specs.Writing.{bytes_for, block_token}
use Rattle.page.specs.Page.{puts}
use Rattle.token_text.specs.Spaced.{spaced}
use Rattle.token_text.proofs.Spelled.{spaced_then}
use Rattle.row_text.specs.Ready.{titled}
use Rattle.row_text.proofs.Asked.{block_asked, row_asked}
use Rattle.row_text.proofs.operands.put_branch.Goals as goal

pub jump_first-first-requires : goal.jump_first-first-requires
jump_first-first-requires c = row_asked c.requires.0 c.requires.1

pub jump_second-second-requires : goal.jump_second-second-requires
jump_second-second-requires c = row_asked c.requires.0 c.requires.1

pub put_block-f-requires : goal.put_block-f-requires
put_block-f-requires c =
    let kind = c.requires.2 in
    let both = block_asked c.requires.0 (jump_first c.args.t.now c.args.a c.args.r) c.jump_first-first.ensures.0
    ((c.requires.0.rows c.args.r c.requires.1).first (omega arith)) in record { in_table = both.0; blocks_numbered = both.1 }

pub put_block-h-requires : goal.put_block-h-requires
put_block-h-requires c =
    let kind = c.requires.2 in
    let both = block_asked c.requires.0 (jump_second c.args.t.now c.args.a c.args.r) c.jump_second-second.ensures.0
    ((c.requires.0.rows c.args.r c.requires.1).second (omega arith)) in record { in_table = both.0; blocks_numbered = both.1 }

pub returns : goal.returns
unfolding bytes_for
returns c =
    let token : ℕ → Token = λ b. block_token (block_at (titled c.args.t.now c.args.a) b).name in
    spaced_then _ (Token.mark left_paren ∷ token c.jump_first-first.result ∷ Token.mark comma ∷ token c.jump_second-second.result ∷ []) (Token.mark right_paren ∷ [])
    (spaced_then _ (Token.mark left_paren ∷ token c.jump_first-first.result ∷ Token.mark comma ∷ []) (token c.jump_second-second.result ∷ [])
    (spaced_then _ (Token.mark left_paren ∷ token c.jump_first-first.result ∷ []) (Token.mark comma ∷ [])
    (spaced_then _ (Token.mark left_paren ∷ []) (token c.jump_first-first.result ∷ []) c.put_part-e.ensures c.put_block-f.ensures)
    c.put_part-g.ensures)
    c.put_block-h.ensures)
    c.put_part.ensures
    ∙ ap (puts _) (ap (λ (b : ℕ). spaced (Token.mark left_paren ∷ token b ∷ Token.mark comma ∷ token c.jump_second-second.result ∷ Token.mark right_paren ∷ [])) c.jump_first-first.ensures.0
    ∙ ap (λ (b : ℕ). spaced (Token.mark left_paren ∷ token (jump_first c.args.t.now c.args.a c.args.r) ∷ Token.mark comma ∷ token b ∷ Token.mark right_paren ∷ [])) c.jump_second-second.ensures.0)
