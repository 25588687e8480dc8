-- Forms by their numbers, and which instructions have one.
-- Assumes nothing.
use mathlib.Core.Path.{◌≡◌, refl, sym, ap, ◌∙◌}
use mathlib.Core.Bool.{Bool, true, false, cond}
use Prim.Native.Nat.{ℕ, ◌≤◌, ◌<◌}
use native.Mathlib.Decide.{dec_lt}
use native.Mathlib.Omega.{arith}
use native.Mathlib.Nat.{zero-add}
use lib.Dec.{eqb, ltb, lit<}
use borrow.Author.Tests.{ne_eqb, ltb-true, ltb-false, eq-eqb, eqb-true, eqb-false}
use Rattle.laws.specs.Lists.{all, below}
use Rattle.laws.proofs.Ranges.{all_from_at}
use Rattle.language.specs.Instructions.{Form, form_of, form_number, instruction_count, jump_cond_op, jump_op, phi_op, ari_add_op, ari_neg_op, bit_neg_op, conv_op, leave_op, return_op}

-- of a case, whichever the test gives
given : {A : Type 0} (P : A → Type 0) (b : Bool) {x y : A} → (b ≡ true → P x) → (b ≡ false → P y) → P (cond b x y)
given P true p q = p refl
given P false p q = q refl

-- The form of an instruction, whatever its number: what holds of each form for the numbers that have it holds of the form of n.
pub by_form :
    (P : Form → Type 0) (n : ℕ)
    → (n ≡ 0 → P Form.nop)
    → (0 < n → n < ari_add_op → P Form.load)
    → (ari_add_op ≤ n → n < phi_op → P Form.unary)
    → (ari_add_op ≤ n → n < conv_op → P Form.binary)
    → (n ≡ phi_op → P Form.phi)
    → (n ≡ jump_op → P Form.jump)
    → (n ≡ jump_cond_op → P Form.branch)
    → (n ≡ return_op → P Form.return)
    → (n ≡ leave_op → P Form.leave)
    → (instruction_count ≤ n → P Form.unknown)
    → P (form_of n)
unfolding form_of
by_form P n nop load unary binary phi jump branch return leave unknown =
    given P (eqb n 0) (λ e. nop (eqb-true n 0 e))
    (λ a. given P (eqb n ari_neg_op) (λ e. let k = eqb-true n ari_neg_op e in unary (omega arith) (omega arith))
    (λ b. given P (eqb n bit_neg_op) (λ e. let k = eqb-true n bit_neg_op e in unary (omega arith) (omega arith))
    (λ c. given P (eqb n phi_op) (λ e. phi (eqb-true n phi_op e))
    (λ d. given P (eqb n jump_op) (λ e. jump (eqb-true n jump_op e))
    (λ f. given P (eqb n jump_cond_op) (λ e. branch (eqb-true n jump_cond_op e))
    (λ g. given P (eqb n return_op) (λ e. return (eqb-true n return_op e))
    (λ h. given P (eqb n leave_op) (λ e. leave (eqb-true n leave_op e))
    (λ i. given P (ltb n ari_add_op) (λ e. let z = eqb-false n 0 a in let l = ltb-true n ari_add_op e in load (omega arith) (omega arith))
    (λ j. given P (ltb n conv_op) (λ e. let k = ltb-false n ari_add_op j in let l = ltb-true n conv_op e in binary (omega arith) (omega arith))
    (λ k. given P (ltb n phi_op) (λ e. let m = ltb-false n ari_add_op j in let l = ltb-true n phi_op e in unary (omega arith) (omega arith))
    (λ l.
    let past = ltb-false n phi_op l in
    let x = eqb-false n phi_op d in
    let y = eqb-false n jump_op f in
    let z = eqb-false n jump_cond_op g in
    let v = eqb-false n return_op h in
    let w = eqb-false n leave_op i in
    unknown (omega arith))))))))))))

-- the form that has a number
abbrev form_at : ℕ → Form
form_at n =
    cond (eqb n 0) Form.nop
    (cond (eqb n 1) Form.load
    (cond (eqb n 2) Form.unary
    (cond (eqb n 3) Form.binary
    (cond (eqb n 4) Form.phi
    (cond (eqb n 5) Form.jump
    (cond (eqb n 6) Form.branch
    (cond (eqb n 7) Form.return
    (cond (eqb n 8) Form.leave Form.unknown))))))))

form_at_law : (g : Form) → form_at (form_number g) ≡ g
form_at_law Form.nop = refl
form_at_law Form.load = refl
form_at_law Form.unary = refl
form_at_law Form.binary = refl
form_at_law Form.phi = refl
form_at_law Form.jump = refl
form_at_law Form.branch = refl
form_at_law Form.return = refl
form_at_law Form.leave = refl
form_at_law Form.unknown = refl

-- no two forms have one number
pub form_is : {n : ℕ} (g h : Form) → n ≡ form_number g → n ≡ form_number h → g ≡ h
form_is g h p q = sym (form_at_law g) ∙ ap form_at (sym p ∙ q) ∙ form_at_law h

-- the one past the others
pub form_past : {n : ℕ} (g : Form) → n ≡ form_number g → 9 ≤ n → g ≡ Form.unknown
form_past {n} g p l = sym (form_at_law g) ∙ ap form_at (sym p) ∙ far n l
  where
    far : (n : ℕ) → 9 ≤ n → form_at n ≡ Form.unknown
    far n l =
        simp
        (ne_eqb n 0 (λ e. omega arith), ne_eqb n 1 (λ e. omega arith), ne_eqb n 2 (λ e. omega arith), ne_eqb n 3 (λ e. omega arith), ne_eqb n 4 (λ e. omega arith), ne_eqb n 5 (λ e. omega arith), ne_eqb n 6 (λ e. omega arith), ne_eqb n 7 (λ e. omega arith), ne_eqb n 8 (λ e. omega arith))

pub unknown_past : (op : ℕ) → instruction_count ≤ op → form_of op ≡ Form.unknown
unknown_past op l =
    by_form (λ g. g ≡ Form.unknown) op (λ e. absurd (omega arith)) (λ a b. absurd (omega arith)) (λ a b. absurd (omega arith)) (λ a b. absurd (omega arith))
    (λ e. absurd (omega arith)) (λ e. absurd (omega arith)) (λ e. absurd (omega arith)) (λ e. absurd (omega arith)) (λ e. absurd (omega arith)) (λ e. refl)

pub load_within : (op : ℕ) → 0 < op → op < ari_add_op → form_of op ≡ Form.load
load_within op some few =
    by_form (λ g. g ≡ Form.load) op (λ e. absurd (omega arith)) (λ a b. refl) (λ a b. absurd (omega arith)) (λ a b. absurd (omega arith))
    (λ e. absurd (omega arith)) (λ e. absurd (omega arith)) (λ e. absurd (omega arith)) (λ e. absurd (omega arith)) (λ e. absurd (omega arith)) (λ e. absurd (omega arith))

-- the instruction of form `phi` (4) is number 31
pub phi_form : (op : ℕ) → eqb (form_number (form_of op)) 4 ≡ eqb op phi_op
phi_form op =
    let other : (op ≡ phi_op → ⊥) → false ≡ eqb op phi_op = λ h. sym (ne_eqb op phi_op h) in
    by_form (λ g. eqb (form_number g) 4 ≡ eqb op phi_op) op (λ e. other (λ h. omega arith)) (λ a b. other (λ h. omega arith)) (λ a b. other (λ h. omega arith))
    (λ a b. other (λ h. omega arith)) (λ e. sym (eq-eqb op phi_op e)) (λ e. other (λ h. omega arith)) (λ e. other (λ h. omega arith))
    (λ e. other (λ h. omega arith)) (λ e. other (λ h. omega arith)) (λ e. other (λ h. omega arith))

-- an instruction's number is below 36
pub known : (op : ℕ) (g : Form) → form_of op ≡ g → form_number g < 9 → op < instruction_count
known op g e l = elim (dec_lt op instruction_count) [ yes h ↦ h | no h ↦ absurd (outside (unknown_past op (omega arith))) ]
  where
    outside : form_of op ≡ Form.unknown → ⊥
    outside u = let z : form_number g ≡ 9 = ap form_number (sym e ∙ u) in omega arith

-- what a test of the 36 numbers says of one
pub each : (p : ℕ → Bool) → all p (below instruction_count) ≡ true → (op : ℕ) → op < instruction_count → p op ≡ true
each p h op l = rw zero-add at (all_from_at p 0 instruction_count h op l)

formed : all (λ op. ltb (form_number (form_of op)) 9) (below instruction_count) ≡ true
unfolding form_of
formed = refl

-- each such number has a form
pub form_within : (op : ℕ) → op < instruction_count → form_number (form_of op) < 9
form_within op h = ltb-true _ _ (each (λ op. ltb (form_number (form_of op)) 9) formed op h)

pub unknown_from : (op : ℕ) → form_of op ≡ Form.unknown → instruction_count ≤ op
unknown_from op e = elim (dec_lt op instruction_count) [ yes h ↦ absurd (let z : form_number (form_of op) ≡ 9 = ap form_number e in omega (arith, form_within op h)) | no h ↦ omega arith ]

-- a form of one instruction alone
unfoldable Alone : Form → ℕ → Type 0
Alone g n = all (λ op. cond (eqb (form_number (form_of op)) (form_number g)) (eqb op n) true) (below instruction_count) ≡ true

alone : (g : Form) (n op : ℕ) → Alone g n → form_number g < 9 → form_of op ≡ g → op ≡ n
unfolding Alone
alone g n op h l e =
    let test : cond (eqb (form_number (form_of op)) (form_number g)) (eqb op n) true ≡ true =
    each (λ op. cond (eqb (form_number (form_of op)) (form_number g)) (eqb op n) true) h op (known op g e l) in
    eqb-true op n (rw (e, eq-eqb (form_number g) (form_number g) refl) at test)

pub phi_number : (op : ℕ) → form_of op ≡ Form.phi → op ≡ phi_op
unfolding form_of Alone
phi_number op = alone Form.phi phi_op op refl (lit< tt)

pub jump_number : (op : ℕ) → form_of op ≡ Form.jump → op ≡ jump_op
unfolding form_of Alone
jump_number op = alone Form.jump jump_op op refl (lit< tt)

pub branch_number : (op : ℕ) → form_of op ≡ Form.branch → op ≡ jump_cond_op
unfolding form_of Alone
branch_number op = alone Form.branch jump_cond_op op refl (lit< tt)
