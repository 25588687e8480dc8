-- `drafts::state::Draft::register_number`: a search in the chains finds what a search among names finds.
use mathlib.Core.Path.{◌∙◌}
use mathlib.Core.List.{List}
use Prim.Native.Nat.{ℕ, ◌<◌}
use Rattle.std.specs.Prelude.{Option, Some, None, MatchOption}
use Rattle.language.specs.Table.{register_length, register_names_offset}
use Rattle.table.specs.Named.{FindsName}
use Rattle.drafts.specs.State.{NumberOf}
use Rattle.drafts.specs.declared.state.Draft.{Draft}
use Rattle.drafts.proofs.StateLaws.{register_found}
use Rattle.drafts.proofs.state.Draft.register_number.Goals as goal

numbered : (s : Draft) (f name : List ℕ) (r : Option ℕ) → FindsName f register_names_offset register_length s.head.registers name r
    → MatchOption r (NumberOf s f name s.head.registers) (λ i. NumberOf s f name i × (i < s.head.registers))
numbered s f name None h = λ d n m l b k. h ∙ register_found k name
numbered s f name (Some i) h = (λ d n m l b k. h.0 ∙ register_found k name, h.1)

pub returns : goal.returns
returns c = numbered _ _ _ _ c.find.ensures
