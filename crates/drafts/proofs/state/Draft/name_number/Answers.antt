-- `drafts::state::Draft::name_number`: found among those that are kept, or put down behind them if there is room.
use native.Mathlib.Nat.{le_refl}
use native.Mathlib.Omega.{arith}
use Rattle.drafts.proofs.NamesKept.{name_known, name_full, name_added}
use Rattle.drafts.proofs.state.Draft.name_number.Goals as goal

pub returns-in-Some : goal.returns-in-Some
returns-in-Some c =
    let found = c.in-Some.ensures in
    record { name_kept = name_known _ _ _ _ found.0 found.1; upper_bound = omega (arith, found.1) }

pub returns-then-n-lt-MAX_NAMES : goal.returns-then-n-lt-MAX_NAMES
returns-then-n-lt-MAX_NAMES c =
    let n = c.args.self.blocks.names in
    let fit = c.requires.pend_len in record {
      name_kept = name_added _ _ _ _ fit.0 c.if-n-lt-MAX_NAMES.true fit.1 fit.2 c.in_default.ensures (le_refl n) (le_refl n) c.put_name.ensures
          c.put_four.ensures;
      upper_bound = le_refl n;
    }

pub returns-else-n-lt-MAX_NAMES : goal.returns-else-n-lt-MAX_NAMES
returns-else-n-lt-MAX_NAMES c =
    let n = c.args.self.blocks.names in
    record { name_kept = name_full _ _ _ _ c.in_default.ensures (le_refl n) (le_refl n) c.if-n-lt-MAX_NAMES.false; upper_bound = le_refl n }
