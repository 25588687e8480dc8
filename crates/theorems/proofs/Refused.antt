-- The refusal is the first fault of the program: the check's verdict is such a fault or that there is none, and no two faults are first.
-- Assumes nothing.
use mathlib.Core.Path.{◌≡◌, refl, sym, ap, ◌∙◌, subst}
use mathlib.Core.Bool.{Bool, true, false, cond}
use mathlib.Core.Logic.{◌⊎◌, inl, inr}
use Prim.Native.Nat.{ℕ, ◌≤◌, ◌<◌}
use native.Mathlib.Nat.{not-suc-le-zero}
use native.Mathlib.Omega.{arith}
use native.Mathlib.Decide.{dec_lt}
use borrow.Author.Tests.{eqb-true, eqb-false, eq-eqb, ne_eqb}
use lib.Dec.{eqb, lit<}
use lib.ListN.{length}
use Rattle.language.specs.Programs.{Program, max_functions, function_in}
use Rattle.language.specs.Checking.{Verdict, check}
use Rattle.language.specs.Table.{table_length, decode}
use Rattle.language.specs.Answers.{check_answer}
use Rattle.theorems.specs.Accepted.{names_before, Broken, Fault, AcceptedWithoutFault, fault_place, Before, Refused, RefusedExactly, TableRefused, TableRefusedExactly}
use Rattle.theorems.proofs.Judged.{judged, refused_not_accepted, Checked, checked}
use Rattle.theorems.proofs.FirstBroken.{First, numbers, first_broken}

module _ (p : Program) where
  -- A function that is accepted breaks nothing.
  unbroken : (i : ℕ) → judged p i ≡ Verdict.accepted → (k r : ℕ) → Broken (names_before p i) (function_in p i) k r → ⊥
  unbroken i e = by (judged p i) (first_broken (names_before p i) (function_in p i) i) e
    where
      by :
          (v : Verdict)
          → First (Broken (names_before p i) (function_in p i)) i 9 v
          → v ≡ Verdict.accepted
          → (k r : ℕ)
          → Broken (names_before p i) (function_in p i) k r
          → ⊥
      by v (First.accepted a) e k r q = let w = numbers (names_before p i) (function_in p i) k r q in let l = a k r q in omega arith
      by v (First.refused m n w a b) e k r q = refused_not_accepted e

  fault_number : (i k r : ℕ) → Fault p i k r → 8 < k
  fault_number i k r (Fault.count h) = lit< tt
  fault_number i k r (Fault.function j m n l q) = (numbers (names_before p j) (function_in p j) m n q).0

  -- Nothing is before what the function count is placed at.
  at_zero : (i k r : ℕ) → Fault p i k r → Before i k r 0 9 0 → ⊥
  at_zero i k r h (Before.function l) = not-suc-le-zero l
  at_zero i k r h (Before.number e l) = omega (arith, fault_number i k r h)
  at_zero i k r h (Before.row e q l) = omega (arith, fault_number i k r h)

  no_fault :
      length p ≤ max_functions
      → ((j : ℕ) → j < length p → judged p j ≡ Verdict.accepted)
      → (i k r : ℕ)
      → Fault p i k r
      → ⊥
  no_fault h a i k r (Fault.count l) = omega arith
  no_fault h a i k r (Fault.function j m n l q) = unbroken j (a j l) m n q

  refused_at :
      (i m n : ℕ)
      → length p ≤ max_functions
      → i < length p
      → ((j : ℕ) → j < i → judged p j ≡ Verdict.accepted)
      → Broken (names_before p i) (function_in p i) m n
      → ((m' n' : ℕ) → Broken (names_before p i) (function_in p i) m' n' → m' < m → ⊥)
      → ((n' : ℕ) → Broken (names_before p i) (function_in p i) m n' → n ≤ n')
      → Refused p m (fault_place i m n)
  refused_at i m n h l before q a b =
      record { function = i; row = n; fault = Fault.function i m n l q; placed = refl; first = first }
    where
      earlier : (j k r : ℕ) → Broken (names_before p j) (function_in p j) k r → Before j k r i m n → ⊥
      earlier j k r w (Before.function x) = unbroken j (before j x) k r w
      earlier j k r w (Before.number e x) = a k r (subst (λ z. Broken (names_before p z) (function_in p z) k r) e w) x
      earlier j k r w (Before.row e c x) =
          let y = b r (subst (λ z. Broken (names_before p i) (function_in p i) z r) c (subst (λ z. Broken (names_before p z) (function_in p z) k r) e w)) in
          omega arith

      first : (j k r : ℕ) → Fault p j k r → Before j k r i m n → ⊥
      first j k r (Fault.count x) y = absurd (omega arith)
      first j k r (Fault.function z c d x w) y = earlier z c d w y

-- The check's verdict by faults.
data Answered (p : Program) : Verdict → Type 0 where
  accepted : ((i k r : ℕ) → Fault p i k r → ⊥) → Answered p Verdict.accepted
  refused : {k place : ℕ} → Refused p k place → Answered p (Verdict.refused k place)

answered : (p : Program) → Answered p (check p)
answered p = by (check p) (checked p)
  where
    here :
        (i k r : ℕ) (v : Verdict)
        → length p ≤ max_functions
        → i < length p
        → ((j : ℕ) → j < i → judged p j ≡ Verdict.accepted)
        → First (Broken (names_before p i) (function_in p i)) i 9 v
        → v ≡ Verdict.refused k r
        → Answered p v
    here i k r v h l a (First.accepted b) e = absurd (refused_not_accepted (sym e))
    here i k r v h l a (First.refused m n q b c) e =
        Answered.refused
        (refused_at p i m n h l a q
        (λ m' n' w x. let y = b m' n' w x in let z = numbers (names_before p i) (function_in p i) m' n' w in omega arith)
        c)

    by : (v : Verdict) → Checked p v → Answered p v
    by v (Checked.many h) =
        Answered.refused (record { function = 0; row = 0; fault = Fault.count h; placed = refl; first = at_zero p })
    by v (Checked.accepted h a) = Answered.accepted (no_fault p h a)
    by v (Checked.refused i k r h l a e) =
        subst (Answered p) e (here i k r (judged p i) h l a (first_broken (names_before p i) (function_in p i) i) e)

pub accepted_without_fault : AcceptedWithoutFault
accepted_without_fault p = (to (check p) (answered p), of (check p) (answered p))
  where
    to : (v : Verdict) → Answered p v → v ≡ Verdict.accepted → (i k r : ℕ) → Fault p i k r → ⊥
    to v (Answered.accepted h) e = h
    to v (Answered.refused x) e = absurd (refused_not_accepted e)

    of : (v : Verdict) → Answered p v → ((i k r : ℕ) → Fault p i k r → ⊥) → v ≡ Verdict.accepted
    of v (Answered.accepted h) n = refl
    of v (Answered.refused {k = k} x) n = absurd (n x.function k x.row x.fault)

-- Of two different faults one is before the other.
ordered :
    (i k r i' k' r' : ℕ)
    → Before i k r i' k' r' ⊎ Before i' k' r' i k r ⊎ ((i ≡ i') × (k ≡ k') × (r ≡ r'))
ordered i k r i' k' r' = by (dec_lt i i') (dec_lt i' i) (dec_lt k k') (dec_lt k' k) (dec_lt r r') (dec_lt r' r)
  where
    by :
        Dec (i < i')
        → Dec (i' < i)
        → Dec (k < k')
        → Dec (k' < k)
        → Dec (r < r')
        → Dec (r' < r)
        → Before i k r i' k' r' ⊎ Before i' k' r' i k r ⊎ ((i ≡ i') × (k ≡ k') × (r ≡ r'))
    by (yes a) b c d e g = inl (Before.function a)
    by (no a) (yes b) c d e g = inr (inl (Before.function b))
    by (no a) (no b) (yes c) d e g = inl (Before.number (omega arith) c)
    by (no a) (no b) (no c) (yes d) e g = inr (inl (Before.number (omega arith) d))
    by (no a) (no b) (no c) (no d) (yes e) g = inl (Before.row (omega arith) (omega arith) e)
    by (no a) (no b) (no c) (no d) (no e) (yes g) = inr (inl (Before.row (omega arith) (omega arith) g))
    by (no a) (no b) (no c) (no d) (no e) (no g) = inr (inr (omega arith, omega arith, omega arith))

-- The first fault is the only one that nothing is before.
only : (p : Program) (k place k' place' : ℕ) → Refused p k place → Refused p k' place' → Verdict.refused k' place' ≡ Verdict.refused k place
only p k place k' place' x y = by (ordered x.function k x.row y.function k' y.row)
  where
    by :
        Before x.function k x.row y.function k' y.row
        ⊎ Before y.function k' y.row x.function k x.row
        ⊎ ((x.function ≡ y.function) × (k ≡ k') × (x.row ≡ y.row))
        → Verdict.refused k' place' ≡ Verdict.refused k place
    by (inl b) = absurd (y.first x.function k x.row x.fault b)
    by (inr (inl b)) = absurd (x.first y.function k' y.row y.fault b)
    by (inr (inr (e, q, w))) =
        let at : place ≡ place' = x.placed ∙ (λ j. fault_place (e j) (q j) (w j)) ∙ sym y.placed in
        λ j. Verdict.refused (sym q j) (sym at j)

pub refused_exactly : RefusedExactly
refused_exactly p k place = (λ e. to (check p) (answered p) e, λ x. of x (check p) (answered p))
  where
    to : (v : Verdict) → Answered p v → v ≡ Verdict.refused k place → Refused p k place
    to v (Answered.accepted h) e = absurd (refused_not_accepted (sym e))
    to v (Answered.refused {k = m} {place = n} x) e =
        let number : m ≡ k = cc in
        let at : n ≡ place = cc in
        subst (λ z. Refused p z place) number (subst (Refused p m) at x)

    of : Refused p k place → (v : Verdict) → Answered p v → v ≡ Verdict.refused k place
    of x v (Answered.accepted h) = absurd (h x.function k x.row x.fault)
    of x v (Answered.refused {k = m} {place = n} y) = only p k place m n x y

pub table_refused_exactly : TableRefusedExactly
unfolding check_answer
table_refused_exactly t k place = (to (eqb (length t) table_length) refl, of k place)
  where
    to : (b : Bool) → eqb (length t) table_length ≡ b → cond b (check (decode t)) (Verdict.refused 9 0) ≡ Verdict.refused k place → TableRefused t k place
    to true l e = TableRefused.program k place (eqb-true (length t) table_length l) ((refused_exactly (decode t) k place).0 e)
    to false l e =
        let number : 9 ≡ k = cc in
        let at : 0 ≡ place = cc in
        subst (λ z. TableRefused t z place) number (subst (TableRefused t 9) at (TableRefused.size (eqb-false (length t) table_length l)))

    of : (k place : ℕ) → TableRefused t k place → cond (eqb (length t) table_length) (check (decode t)) (Verdict.refused 9 0) ≡ Verdict.refused k place
    of k place (TableRefused.size l) = ap (λ b. cond b (check (decode t)) (Verdict.refused 9 0)) (ne_eqb (length t) table_length l)
    of k place (TableRefused.program m n l x) =
        ap (λ b. cond b (check (decode t)) (Verdict.refused 9 0)) (eq-eqb (length t) table_length l) ∙ (refused_exactly (decode t) m n).1 x
