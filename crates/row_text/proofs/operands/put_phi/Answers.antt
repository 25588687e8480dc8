-- `row_text::operands::put_phi`: the entries in parentheses.
use mathlib.Core.List.{List, [], ◌∷◌, ◌++◌, map}
use mathlib.Core.Path.{ap, ◌∙◌}
use Prim.Native.Nat.{ℕ}
use Rattle.laws.specs.Lists.{from}
use Rattle.language.specs.Bytes.{left_paren, right_paren}
use Rattle.language.specs.Table.{phi_first, phi_entry}
use Rattle.language.specs.Tokens.{Token}
use Rattle.language.specs.Writing.{bytes_for, registers_part}
use Rattle.page.specs.Page.{puts}
use Rattle.token_text.specs.Spaced.{spaced}
use Rattle.token_text.proofs.Spelled.{spaced_then}
use Rattle.row_text.specs.Ready.{titled}
use Rattle.row_text.proofs.Asked.{row_asked, entries_asked}
use Rattle.row_text.proofs.operands.put_phi.Goals as goal

pub phi_first-requires : goal.phi_first-requires
phi_first-requires c = row_asked c.requires.0 c.requires.1

pub phi_count-requires : goal.phi_count-requires
phi_count-requires c = row_asked c.requires.0 c.requires.1

pub put_entries-f-requires : goal.put_entries-f-requires
put_entries-f-requires c =
    (c.requires.0, entries_asked c.phi_first.ensures.0 c.phi_count.ensures.0 ((c.requires.0.rows c.args.r c.requires.1).entries c.requires.2))

pub returns : goal.returns
unfolding bytes_for
returns c =
    let x = c.args in
    let tokens : ℕ → ℕ → List Token = λ k n. registers_part (titled x.t.now x.a) (map (phi_entry x.t.now x.a) (from k n)) in
    spaced_then _ (Token.mark left_paren ∷ tokens c.phi_first.result c.phi_count.result) (Token.mark right_paren ∷ [])
    (spaced_then _ (Token.mark left_paren ∷ []) (tokens c.phi_first.result c.phi_count.result) c.put_part-e.ensures c.put_entries-f.ensures)
    c.put_part.ensures
    ∙ ap (puts _) (ap (λ (k : ℕ). spaced (Token.mark left_paren ∷ (tokens k c.phi_count.result ++ (Token.mark right_paren ∷ [])))) c.phi_first.ensures.0
    ∙ ap (λ (n : ℕ). spaced (Token.mark left_paren ∷ (tokens (phi_first x.t.now x.a x.r) n ++ (Token.mark right_paren ∷ [])))) c.phi_count.ensures.0)
