-- Between two functions: the numbers and what is lent stand for no function in hand.
-- Assumes nothing.
use mathlib.Core.Path.{refl, sym}
use mathlib.Core.List.{List, []}
use Prim.Native.Nat.{ℕ, ◌*◌, ◌≤◌}
use native.Mathlib.Omega.{arith}
use lib.ListN.{length}
use Rattle.laws.proofs.Storing.{get_or_zeros}
use Rattle.name_index.specs.Chains.{Indexed}
use Rattle.language.specs.Answers.{zeros}
use Rattle.language.specs.Programs.{Func, max_functions}
use Rattle.language.specs.Table.{function_length, name_length}
use Rattle.language.specs.Reading.{fresh, open_rows, phi_entries}
use Rattle.drafts.specs.Cells.{WithinSizes}
use Rattle.drafts.specs.Mentions.{kept, kept_of, mentions_of}
use Rattle.drafts.specs.State.{Bounded, Counts, NamesHeld, function_names, Stands, lent_of, fresh_at}
use Rattle.drafts.proofs.DeclaredNames.{held_none}
use Rattle.drafts.proofs.Sections.{open_fresh}

pub bounded_fresh : (n : ℕ) → n ≤ max_functions → Bounded (fresh_at n)
bounded_fresh n h = omega arith

module _ (fs : List Func) where
  counts_fresh : Counts (fresh fs) (fresh_at (length fs))
  unfolding open_rows phi_entries kept kept_of mentions_of
  counts_fresh =
      record {
        functions = refl;
        head = record { ssa = refl; result = refl; params = refl; registers = refl };
        blocks = record { closed = refl; rows = refl; first = refl; entries = refl; names = refl };
        parts =
            record {
              op = refl;
              target = refl;
              left = refl;
              right = refl;
              sources = refl;
              number = refl;
              entries = refl;
              one = refl;
              other = refl;
              mentions = refl;
            };
      }

  pub within_fresh : length fs ≤ max_functions → WithinSizes (fresh fs)
  unfolding open_rows phi_entries
  within_fresh few =
      record {
        functions = few;
        name = tt;
        registers = omega arith;
        register_names = tt;
        once = refl;
        blocks = omega arith;
        block_names = tt;
        block = tt;
        room = tt;
        rows = omega arith;
        entries = omega arith;
        formed = tt;
      }

  pub stands_fresh : length fs ≤ max_functions → {names pend last before : List ℕ} → NamesHeld (function_names fs) names → Indexed [] last before
      → Stands (fresh fs) (fresh_at (length fs)) (lent_of (zeros function_length) names pend last before)
  unfolding open_rows kept kept_of mentions_of
  stands_fresh few {names} held none =
      record {
        counts = counts_fresh;
        within = within_fresh few;
        cells = sym (open_fresh fs);
        names = held_none (function_names fs) names held;
        pending = λ k h. absurd (omega arith);
        indexed = none;
      }

-- no function is closed yet, and no name is held
pub held_nothing : (n : ℕ) → NamesHeld [] (zeros n)
unfolding zeros
held_nothing n = record { held = λ i h. absurd (omega arith); free = λ i h. get_or_zeros n (name_length * i) }
