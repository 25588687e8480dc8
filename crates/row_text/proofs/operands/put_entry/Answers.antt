-- `row_text::operands::put_entry`: a comma and a register.
use mathlib.Core.List.{[], ◌∷◌}
use mathlib.Core.Path.{ap, ◌∙◌}
use Prim.Native.Nat.{ℕ}
use Rattle.language.specs.Bytes.{comma}
use Rattle.language.specs.Table.{phi_entry}
use Rattle.language.specs.Tokens.{Token}
use Rattle.language.specs.Writing.{bytes_for, register_token}
use Rattle.page.specs.Page.{puts}
use Rattle.token_text.specs.Spaced.{spaced}
use Rattle.token_text.proofs.Spelled.{spaced_then}
use Rattle.row_text.specs.Ready.{titled}
use Rattle.row_text.proofs.Asked.{register_asked}
use Rattle.row_text.proofs.operands.put_entry.Goals as goal

pub phi_entry-requires : goal.phi_entry-requires
phi_entry-requires c = (c.requires.0.sized.within, c.requires.1)

pub put_register-requires : goal.put_register-requires
put_register-requires c = let both = register_asked c.requires.0 (phi_entry c.args.t.now c.args.a c.args.k) c.phi_entry.ensures.0 c.requires.2 in record { in_table = both.0; registers_numbered = both.1 }

pub returns : goal.returns
unfolding bytes_for
returns c =
    let g = titled c.args.t.now c.args.a in
    spaced_then _ (Token.mark comma ∷ []) (register_token g c.phi_entry.result ∷ []) c.put_part-e.ensures c.put_register.ensures
    ∙ ap (puts _) (ap (λ (u : ℕ). spaced (Token.mark comma ∷ register_token g u ∷ [])) c.phi_entry.ensures.0)
