-- Which of two records wins, by computation: whatever the order and grouping in which they are merged, the winner alone is left.
-- Assumes nothing.
use mathlib.Core.List.{List, [], ◌∷◌, map}
use mathlib.Core.Path.{◌≡◌, refl}
use Prim.Native.Nat.{ℕ, ◌-◌, ◌^◌}
use Rattle.language.specs.Instructions.{width, signed}
use Rattle.language.specs.Arithmetic.{meaning}
use Rattle.records.specs.declared.Record.{Record}
use Rattle.records.specs.Records.{compared, meant, larger, wins, best}
use Rattle.records.specs.Stores.{FoundRecord, inserts, lookup, joined}
use Rattle.records.specs.Trees.{Tree, store_of}

-- `unfolding merging` opens every definition of the merge.
unfoldable merging : Unit {0}
unfolding width signed meaning compared meant larger wins best inserts store_of
merging = tt

abbrev pub one : Record → Tree
one x = Tree.add x Tree.empty

-- What x and y leave: one after the other, as two stores, and as two stores in one pass, in either order.
abbrev pub ways : Record → Record → List (List Record)
ways x y =
    store_of (Tree.add x (one y))
    ∷ (store_of (Tree.add y (one x))
    ∷ (store_of (Tree.join (one y) (one x))
    ∷ (store_of (Tree.join (one x) (one y))
    ∷ (joined (y ∷ []) (x ∷ [])
    ∷ (joined (x ∷ []) (y ∷ [])
    ∷ [])))))

-- However x is merged with y, it alone is left.
abbrev pub Beats : Record → Record → Type 0
Beats x y = ways x y ≡ map (λ w. x ∷ []) (ways x y)

-- A record of "Kettle 0417": time in minutes of the day, 1 for a fail, tablet, reading.
abbrev kettle : ℕ → ℕ → ℕ → ℕ → Record
kettle t f b n = record { appliance = 417; time = t; fail = f; tablet = b; reading = n }

-- The number that means -n.
abbrev minus : ℕ → ℕ
minus n = 2 ^ 64 - n

-- the inspector's kettle, "failed its earth test on my tablet at 14:10": whenever that comes in, it wins over "the 09:30 pass"
pub later_fail : Beats (kettle 850 1 2 3) (kettle 570 0 1 900)
unfolding merging
later_fail = refl

-- the later test wins, a pass too
pub later_pass : Beats (kettle 850 0 2 3) (kettle 570 1 1 900)
unfolding merging
later_pass = refl

-- of one time the fail wins
pub fail_over_pass : Beats (kettle 850 1 2 3) (kettle 850 0 1 900)
unfolding merging
fail_over_pass = refl

-- of one time and verdict the lower tablet
pub lower_tablet : Beats (kettle 850 1 1 3) (kettle 850 1 2 900)
unfolding merging
lower_tablet = refl

-- of one tablet too the larger reading
pub larger_reading : Beats (kettle 850 1 2 900) (kettle 850 1 2 3)
unfolding merging
larger_reading = refl

-- "by meaning": 0 is larger than -1, -1 than -2, the greatest number than the least
pub over_minus_one : Beats (kettle 850 1 2 0) (kettle 850 1 2 (minus 1))
unfolding merging
over_minus_one = refl

pub minus_one_over : Beats (kettle 850 1 2 (minus 1)) (kettle 850 1 2 (minus 2))
unfolding merging
minus_one_over = refl

pub greatest_over_least : Beats (kettle 850 1 2 (2 ^ 63 - 1)) (kettle 850 1 2 (2 ^ 63))
unfolding merging
greatest_over_least = refl

-- the same record twice is one
pub once : Beats (kettle 850 1 2 3) (kettle 850 1 2 3)
unfolding merging
once = refl

-- ---- several appliances

-- A record of an appliance, as of time t.
abbrev tested : ℕ → ℕ → Record
tested a t = record { appliance = a; time = t; fail = 0; tablet = 1; reading = 3 }

-- appliances stand by their numbers, each with its own winner
pub by_appliance :
    store_of (Tree.join (Tree.add (tested 4 9) (one (tested 9 2))) (Tree.add (tested 9 5) (Tree.add (tested 7 1) (one (tested 4 8)))))
    ≡ tested 4 9 ∷ (tested 7 1 ∷ (tested 9 5 ∷ []))
unfolding merging
by_appliance = refl

pub in_one_pass : joined (tested 4 9 ∷ (tested 9 2 ∷ [])) (tested 4 8 ∷ (tested 7 1 ∷ (tested 9 5 ∷ []))) ≡ tested 4 9 ∷ (tested 7 1 ∷ (tested 9 5 ∷ []))
unfolding merging
in_one_pass = refl

-- an appliance is looked up, or there is none of it
pub looked_up : lookup 7 (tested 4 9 ∷ (tested 7 1 ∷ [])) ≡ FoundRecord.found (tested 7 1)
looked_up = refl

pub not_there : lookup 5 (tested 4 9 ∷ (tested 7 1 ∷ [])) ≡ FoundRecord.none
not_there = refl
