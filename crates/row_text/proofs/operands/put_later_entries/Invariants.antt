-- `row_text::operands::put_later_entries`: the entries so far.
use mathlib.Core.List.{[], ◌∷◌}
use mathlib.Core.Path.{◌≡◌}
use Prim.Native.Nat.{◌≤◌}
use Rattle.laws.specs.Lists.{from, gather}
use Rattle.language.specs.Bytes.{comma}
use Rattle.language.specs.Table.{phi_entry}
use Rattle.language.specs.Tokens.{Token}
use Rattle.language.specs.Writing.{register_token}
use Rattle.page.specs.Page.{page, puts}
use Rattle.token_text.specs.Spaced.{spaced}
use Rattle.row_text.specs.Ready.{titled}
use Rattle.row_text.proofs.operands.put_later_entries.Given as goal

abbrev pub invariant-loop-i : goal.invariant-loop-i
invariant-loop-i l =
    (l.i ≤ l.count) × (page l.out l.e ≡ puts (page l.initial.out l.at) (spaced (gather (λ k. Token.mark comma ∷ register_token (titled l.t l.a) (phi_entry l.t l.a k) ∷ []) (from l.first l.i))))
