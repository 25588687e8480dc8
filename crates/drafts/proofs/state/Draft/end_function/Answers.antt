-- The entry block is looked for, then the names mentioned, and then the function is closed: each return is one of the three ends.
use native.Mathlib.Nat.{le_refl}
use native.Mathlib.Omega.{arith}
use mathlib.Core.Path.{◌≡◌, ◌∙◌}
use lib.ListN.{length}
use Rattle.language.specs.Table.{function_length}
use Rattle.drafts.proofs.FunctionEnds.{head_count, ends_without_entry, ends_undeclared, ends_closed}
use Rattle.drafts.proofs.state.Draft.end_function.Goals as goal

pub returns-in_default : goal.returns-in_default
returns-in_default c n l b =
    let args = c.args in
    ends_without_entry args.self args.f.now args.pend.now args.p c.in_default.ensures n l b (le_refl args.self.blocks.closed)

pub returns-in-Some-resolve : goal.returns-in-Some-resolve
returns-in-Some-resolve c n l b =
    let args = c.args in
    ends_undeclared args.self args.f.now args.pend.now args.p c.in-Some.ensures.0 n l b c.in-Some.ensures.1 c.in-Some-resolve.ensures.resolved
    (record { byte = c.four_at-byte.result }) c.in-Some-resolve.ensures.among c.four_at-byte.ensures.0

pub put_head-requires : goal.put_head-requires
put_head-requires c =
    record { bounded = c.requires.bounded; f_len = (omega (arith, c.requires.functions_lt_max_functions, c.patch.auto.f), omega (arith, c.requires.bounded.blocks, c.in-Some.ensures.1)) }

pub put_predecessors-requires : goal.put_predecessors-requires
put_predecessors-requires c =
    let whole : length c.patch.new.f ≡ function_length = c.patch.auto.f ∙ c.requires.functions_lt_max_functions.1 in (
      omega (arith, whole, c.put_head.auto.f),
      omega (arith, head_count c.args.self c.in-Some.entry c.patch.new.f c.put_head.new.f whole c.put_head.ensures, c.requires.bounded.blocks),
    )

pub overflow_add-self : goal.overflow_add-self
overflow_add-self c =
    omega (arith, c.requires.functions_lt_max_functions.0)

pub returns : goal.returns
returns c n l b =
    let args = c.args in
    ends_closed args.self args.f.now args.pend.now args.p c.in-Some.ensures.0 n l b c.in-Some.ensures.1 c.in_default-resolve.ensures.resolved
    c.requires.functions_lt_max_functions.0 c.fresh.ensures (omega arith) c.patch.ensures c.put_head.ensures c.put_predecessors.ensures
    (c.put_predecessors.auto.t ∙ c.put_head.auto.f ∙ c.patch.auto.f)
