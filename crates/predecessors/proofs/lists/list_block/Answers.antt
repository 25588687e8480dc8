-- Its one or two targets have it as the next predecessor.
use mathlib.Core.Path.{◌≡◌, refl, ap, ◌∙◌}
use mathlib.Core.List.{List}
use Prim.Native.Nat.{ℕ}
use native.Mathlib.Omega.{arith}
use Rattle.language.specs.Table.{block_count}
use Rattle.predecessors.specs.Listing.{next_listed}
use Rattle.predecessors.specs.Ends.{number_of}
use Rattle.predecessors.proofs.ListingLaws.{next_count, rows_right, block_listed}
use Rattle.predecessors.proofs.lists.list_block.Goals as goal

count_kept : (t : List ℕ) (a n y z x : ℕ) (u v : List ℕ) → u ≡ next_listed t a n y x → v ≡ next_listed u a n z x → block_count v a ≡ block_count t a
count_kept t a n y z x u v d e =
    ap (λ w. block_count w a) e ∙ next_count u a n z x ∙ ap (λ w. block_count w a) d ∙ next_count t a n y x

-- no function stands there whose rows go on past the last
pub returns-then-block_first-block_rows-gt-MAX_ROWS : goal.returns-then-block_first-block_rows-gt-MAX_ROWS
returns-then-block_first-block_rows-gt-MAX_ROWS c =
    record {
      a_unchanged = refl;
      function_stands = λ g before behind s.
          absurd (omega (arith, rows_right s c.requires.1 c.requires.2 c.requires.3, c.block_first.ensures.0, c.block_rows.ensures.0));
    }

pub returns : goal.returns
returns c =
    record { a_unchanged = count_kept c.args.t.now c.args.a c.args.n (number_of c.ends-e.result.first) (number_of c.ends-e.result.second) c.args.x _ _ c.list.ensures c.list-2.ensures; function_stands = λ g before behind s. block_listed s c.requires.1 c.requires.2 c.requires.3 c.ends-e.ensures c.list.ensures c.list-2.ensures }
