-- Numbers in rising order, equal ones allowed: the first is the least, also of lists gathered in order.
-- Assumes nothing.
use mathlib.Core.List.{List, [], ◌∷◌, ◌++◌}
use Prim.Native.Nat.{ℕ, zero, suc, ◌+◌, ◌≤◌, ◌<◌}
use native.Mathlib.Nat.{le_refl, le_trans}
use native.Mathlib.Omega.{arith}
use Rattle.laws.specs.Lists.{gather, from}
use Rattle.laws.proofs.Every.{Every, none, more, every_append, every_imp}

pub data Rising : List ℕ → Type 0 where
  end : Rising []
  next : {x : ℕ} {xs : List ℕ} → Every (λ y. x ≤ y) xs → Rising xs → Rising (x ∷ xs)

-- the list has a first number, and it is at most n
abbrev pub StartsBy : List ℕ → ℕ → Type 0
StartsBy [] n = ⊥
StartsBy (x ∷ xs) n = x ≤ n

-- the first is the least
pub rising_first : {xs : List ℕ} → Rising xs → Every (StartsBy xs) xs
rising_first Rising.end = none
rising_first (Rising.next {x = x} h r) = more (le_refl x) h

-- a rising list of numbers from low to high
pub record Span (low high : ℕ) (xs : List ℕ) : Type 0 where
  pub ordered : low ≤ high
  pub rising : Rising xs
  pub above : Every (λ x. low ≤ x) xs
  pub under : Every (λ x. x ≤ high) xs

pub rising_append :
    {xs ys : List ℕ} (m : ℕ) → Rising xs → Every (λ x. x ≤ m) xs → Rising ys → Every (λ y. m ≤ y) ys → Rising (xs ++ ys)
rising_append m Rising.end h r k = r
rising_append m (Rising.next a q) (more l h) r k =
    Rising.next (every_append a (every_imp (λ y b. le_trans l b) k)) (rising_append m q h r k)

-- lists of which each ends where the next begins
pub rising_gather :
    (g : ℕ → List ℕ) (start : ℕ → ℕ) (k n : ℕ)
    → ((b : ℕ) → k ≤ b → b < k + n → Span (start b) (start (suc b)) (g b))
    → Rising (gather g (from k n)) × Every (λ x. start k ≤ x) (gather g (from k n))
rising_gather g start k zero h = (Rising.end, none)
rising_gather g start k (suc n) h =
    let own = h k (le_refl k) (omega arith) in
    let rest = rising_gather g start (suc k) n (λ b l u. h b (omega arith) (omega arith)) in (
      rising_append (start (suc k)) own.rising own.under rest.0 rest.1,
      every_append own.above (every_imp (λ x l. le_trans own.ordered l) rest.1),
    )
