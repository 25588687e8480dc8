-- The numbers with which a run stops are three, and 43 is none of them, so that an answer 43 says that the run has not ended; and all
-- numbers that running answers.
-- Assumes nothing.
use mathlib.Core.Path.{◌≡◌, refl, subst}
use mathlib.Core.Bool.{Bool, true, false, cond}
use mathlib.Core.List.{List}
use Prim.Native.Nat.{ℕ, suc}
use native.Mathlib.Omega.{arith}
use lib.Dec.{T, eqb, ltb}
use lib.ListN.{drop}
use Rattle.laws.specs.Lists.{any, member}
use Rattle.laws.proofs.Agreeing.{all_member}
use Rattle.language.specs.Arithmetic.{Computed, binary_of, div, rem, within, overflows}
use Rattle.language.specs.Programs.{Row, Func, rows_at, type_at, is_phi}
use Rattle.language.specs.Running.{Place, Outcome, Next, Run, NotEnded, onward, value_at, write_all, phis_of, came_by, phi_step, assign, perform, step, start, start_registers, run_of, row_here}
use Rattle.language.specs.Answers.{ran_numbers, refused_run, ran_as}
use Rattle.language.specs.Instructions.{ari_add_op, ari_div_op, ari_mul_op, ari_rem_op, ari_sub_op, bit_and_op, bit_or_op, bit_xor_op, cmp_eq_op, cmp_gt_op, cmp_gteq_op, cmp_lt_op, cmp_lteq_op, cmp_neq_op, rol_op, ror_op, shl_op, shr_op}
use Rattle.theorems.specs.OverTables.{stop_numbers, StopsWithThese, NoEndIs43, AnsweredIs43, function_in_table, run_refusals, run_numbers, RunAnswersThese, Never27}
use Rattle.theorems.proofs.RunAnswers.{answer_by}
use Rattle.theorems.proofs.Budgets.{going_counts}
use Rattle.theorems.proofs.SimulationRuns.{ended_stops, ends_stops}

-- ---- what an instruction, a row and a step stop with

abbrev StopsAs : Computed → Type 0
StopsAs (Computed.value v) = Unit {0}
StopsAs (Computed.stops k) = T (member k stop_numbers)

stops_cond : (b : Bool) (x y : Computed) → StopsAs x → StopsAs y → StopsAs (cond b x y)
stops_cond true x y p q = p
stops_cond false x y p q = q

stops_div : (t a b : ℕ) → StopsAs (div t a b)
unfolding div
stops_div t a b = stops_cond (eqb b 0) _ _ tt (stops_cond (overflows t a b) _ _ tt tt)

stops_rem : (t a b : ℕ) → StopsAs (rem t a b)
unfolding rem
stops_rem t a b = stops_cond (eqb b 0) _ _ tt tt

stops_within : (w k x : ℕ) → StopsAs (within w k x)
unfolding within
stops_within w k x = stops_cond (ltb k w) _ _ tt tt

stops_binary : (op t a b : ℕ) → StopsAs (binary_of op t a b)
unfolding binary_of
stops_binary op t a b =
    stops_cond (eqb op ari_add_op) _ _ tt
    (stops_cond (eqb op ari_sub_op) _ _ tt
    (stops_cond (eqb op ari_mul_op) _ _ tt
    (stops_cond (eqb op ari_div_op) _ _ (stops_div t a b)
    (stops_cond (eqb op ari_rem_op) _ _ (stops_rem t a b)
    (stops_cond (eqb op bit_and_op) _ _ tt
    (stops_cond (eqb op bit_or_op) _ _ tt
    (stops_cond (eqb op bit_xor_op) _ _ tt
    (stops_cond (eqb op shl_op) _ _ (stops_within _ b _)
    (stops_cond (eqb op shr_op) _ _ (stops_within _ b _)
    (stops_cond (eqb op rol_op) _ _ (stops_within _ b _)
    (stops_cond (eqb op ror_op) _ _ (stops_within _ b _)
    (stops_cond (eqb op cmp_eq_op) _ _ tt
    (stops_cond (eqb op cmp_neq_op) _ _ tt
    (stops_cond (eqb op cmp_gt_op) _ _ tt (stops_cond (eqb op cmp_lt_op) _ _ tt (stops_cond (eqb op cmp_gteq_op) _ _ tt (stops_cond (eqb op cmp_lteq_op) _ _ tt tt)))))))))))))))))

abbrev EndsAs : Next → Type 0
EndsAs (Next.go p g) = Unit {0}
EndsAs (Next.end (Outcome.returned v)) = Unit {0}
EndsAs (Next.end Outcome.left) = Unit {0}
EndsAs (Next.end (Outcome.stopped k)) = T (member k stop_numbers)

ends_cond : (b : Bool) (x y : Next) → EndsAs x → EndsAs y → EndsAs (cond b x y)
ends_cond true x y p q = p
ends_cond false x y p q = q

ends_assign : (p : Place) (g : List ℕ) (t : ℕ) (c : Computed) → StopsAs c → EndsAs (assign p g t c)
unfolding assign
ends_assign p g t (Computed.value v) s = tt
ends_assign p g t (Computed.stops n) s = s

ends_row : (f : Func) (p : Place) (g : List ℕ) (r : Row) → EndsAs (perform f p g r)
unfolding perform phi_step
ends_row f p g Row.nop = tt
ends_row f p g (Row.load op t n) = tt
ends_row f p g (Row.unary op t s) = tt
ends_row f p g (Row.binary op t l r) =
    ends_assign p g t (binary_of op (type_at f l) (value_at g l) (value_at g r)) (stops_binary op (type_at f l) (value_at g l) (value_at g r))
ends_row f p g (Row.phi t es) =
    ends_cond (any is_phi (drop (suc p.row) (rows_at f p.block))) (onward p g)
    (onward p (write_all g (came_by f p) g (phis_of (rows_at f p.block)))) tt tt
ends_row f p g (Row.jump b) = tt
ends_row f p g (Row.branch s x y) = tt
ends_row f p g (Row.return s) = tt
ends_row f p g Row.leave = tt
ends_row f p g (Row.unknown op) = tt

step_stops : (f : Func) (p : Place) (g : List ℕ) (k : ℕ) → step f p g ≡ Next.end (Outcome.stopped k) → T (member k stop_numbers)
unfolding step
step_stops f p g k e = subst EndsAs e (ends_row f p g (row_here f p))

-- ---- what a run ends with

pub stops_with_these : StopsWithThese
stops_with_these f args n k e =
    let s = (ends_stops f args e).2 in
    step_stops f _ _ k s.stop

not_43 : (k : ℕ) → T (member k stop_numbers) → k ≡ 43 → ⊥
not_43 k h e = subst (λ (n : ℕ). T (member n stop_numbers)) e h

pub no_end_is_43 : NoEndIs43
no_end_is_43 f args n e = not_43 _ (stops_with_these f args n _ e) refl

-- Where the number answered is 43, the run has not ended.
pub run_of_43 :
    (i : ℕ) (f : Func) (args : List ℕ) (b : ℕ)
    → (let a = ran_numbers (ran_as i f (run_of f args b)) in a.number ≡ 43 → NotEnded f args b × (a.steps ≡ b))
unfolding run_of start ran_numbers
run_of_43 i f args b = by (run_of f args b) refl
  where
    by : (r : Run) → run_of f args b ≡ r → (let a = ran_numbers (ran_as i f r) in a.number ≡ 43 → NotEnded f args b × (a.steps ≡ b))
    by (Run.going q g) r e =
        (record { place = q; registers = g; run = r }, omega (arith, going_counts b f (start f) (start_registers f args) q g r))
    by (Run.ended (Outcome.returned v) q g) r e = absurd (omega (arith, e))
    by (Run.ended Outcome.left q g) r e = absurd (omega (arith, e))
    by (Run.ended (Outcome.stopped k) q g) r e =
        let h = (ended_stops b f (start f) (start_registers f args) (Outcome.stopped k) q g r).2 in
        absurd (not_43 k (step_stops f _ _ k h.stop) e)

-- ---- what a call answers

pub answered_is_43 : AnsweredIs43
unfolding refused_run ran_numbers
answered_is_43 t i args b c =
    let f = function_in_table t i in
    answer_by t i args b c (λ x. (ran_numbers x.answer).number ≡ 43 → NotEnded f args b × ((ran_numbers x.answer).steps ≡ b))
    (λ k p h e. absurd (subst (λ (n : ℕ). T (member n run_refusals)) e h))
    (λ accepted there fit room. run_of_43 i f args b)

-- ---- all numbers that are answered

run_numbers_law : (i : ℕ) (f : Func) (args : List ℕ) (b : ℕ) → T (member (ran_numbers (ran_as i f (run_of f args b))).number run_numbers)
unfolding run_of ran_numbers
run_numbers_law i f args b = by (run_of f args b) refl
  where
    by : (r : Run) → run_of f args b ≡ r → T (member (ran_numbers (ran_as i f r)).number run_numbers)
    by (Run.going q g) r = tt
    by (Run.ended (Outcome.returned v) q g) r = tt
    by (Run.ended Outcome.left q g) r = tt
    by (Run.ended (Outcome.stopped k) q g) r =
        let h = (ended_stops b f (start f) (start_registers f args) (Outcome.stopped k) q g r).2 in
        all_member (λ n. member n run_numbers) k stop_numbers tt (step_stops f _ _ k h.stop)

pub run_answers_these : RunAnswersThese
unfolding refused_run ran_numbers
run_answers_these t i args b c =
    answer_by t i args b c (λ x. T (member (ran_numbers x.answer).number run_numbers))
    (λ k p h. all_member (λ n. member n run_numbers) k run_refusals tt h)
    (λ accepted there fit room. run_numbers_law i (function_in_table t i) args b)

pub never_27 : Never27
never_27 t i args b c e = subst (λ (n : ℕ). T (member n run_numbers)) e (run_answers_these t i args b c)
