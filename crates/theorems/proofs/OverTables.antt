-- Demand 3 over tables as lent, and the answers of runs on source and translation.
-- Assumes nothing.
use mathlib.Core.Path.{◌≡◌, refl, sym, ap, subst, subst⁻¹, ◌∙◌}
use mathlib.Core.Bool.{Bool, cond}
use mathlib.Core.List.{List, [], ◌∷◌, ◌++◌, map}
use Prim.Native.Nat.{ℕ, ◌^◌, ◌≤◌, ◌<◌}
use native.Mathlib.Nat.{not-suc-le-zero, le_of_suc-le-suc}
use native.Mathlib.Omega.{arith}
use lib.Dec.{T, eqb, ltb, eqb→eq}
use lib.Ieee.Bits.{is_true}
use lib.Ieee.Fits.{and_l, and_r}
use lib.ListN.{length, get_or}
use borrow.Author.Tests.{eq-eqb, lt-ltb, le-ltb}
use Rattle.laws.specs.Lists.{together}
use Rattle.language.specs.Instructions.{width}
use Rattle.language.specs.Programs.{Func, Program, no_function, is_ssa, rows_of}
use Rattle.language.specs.Table.{table_length, cells, decode}
use Rattle.language.specs.Checking.{Verdict}
use Rattle.language.specs.Running.{Outcome, Ends, arguments_fit, first_unfit, run_of, phis_of}
use Rattle.language.specs.Answers.{Ran, ran_numbers, check_answer, run_answer, run_function, translate_answer, translate_function, fill, ran_as}
use Rattle.language.specs.Translating.{translation, translation_fits, step_formula, register_for}
use Rattle.theorems.specs.Statements.{ran_with}
use Rattle.theorems.specs.Demand3.{RunsAlike, Translates}
use Rattle.theorems.specs.TableLaw.{Held}
use Rattle.theorems.specs.OverTables.{function_in_table, TranslatableIn, Translated, Demand3OverTables, EndedWith, UsedUp, EndBoth, Compared, RunsAgree, RunsOverTables}
use Rattle.theorems.proofs.AcceptanceCheck.{sound_parts, clean_of_check, accepted_program}
use Rattle.theorems.proofs.Demand.{demand3}
use Rattle.theorems.proofs.Budgets.{budget_agrees}
use Rattle.theorems.proofs.TableSound.{accepted_held}
use Rattle.theorems.proofs.SimulationRuns.{Stands, stands, ends_once, goes_before, going_less}
use Rattle.theorems.proofs.StopNumbers.{no_end_is_43, run_of_43}

-- A case whose test holds.
first : {A : Type 0} (b : Bool) (x y : A) → T b → cond b x y ≡ x
first b x y h = ap (λ (c : Bool). cond c x y) (is_true b h)

-- ---- translating

module _ (t : List ℕ) (i : ℕ) (h : TranslatableIn t i) where
  abbrev source : Func
  source = function_in_table t i

  translates : Translates source (translation source)
  translates = demand3 (decode t) i (record { passes = accepted_program t h.passes; there = h.there; marked = h.marked; sized = h.sized })

  held : Held (translation source ∷ [])
  held = accepted_held (translation source ∷ []) translates.accepted

  answered : translate_answer t i table_length ≡ record { answer = Verdict.accepted; table = cells (translation source ∷ []) }
  unfolding translate_answer translate_function fill
  answered =
      rw (h.passes, lt-ltb i (length (decode t)) h.there, is_true (is_ssa source) h.marked, is_true (translation_fits source) h.sized) refl

  abbrev written : List ℕ
  written = cells (translation source ∷ [])

  alone : function_in_table written 0 ≡ translation source
  alone = ap (λ (p : Program). get_or p 0 no_function) held.back

  passing : check_answer written ≡ Verdict.accepted
  unfolding check_answer
  passing = rw (eq-eqb (length written) table_length held.count, held.back) translates.accepted

  translated : Translated t i (record { answer = Verdict.accepted; table = written })
  translated =
      record {
        done = refl;
        written = refl;
        passes = passing;
        holds = held.back ∙ ap (λ (g : Func). g ∷ []) (sym alone);
        translates = rw alone translates;
      }

pub demand3_over_tables : Demand3OverTables
demand3_over_tables t i h = rw (answered t i h) (translated t i h)

-- ---- runs

-- The answer of a run that is not refused.
pub run_answer_law :
    (t : List ℕ) (i : ℕ) (args : List ℕ) (b c : ℕ)
    → check_answer t ≡ Verdict.accepted
    → i < length (decode t)
    → T (arguments_fit (function_in_table t i) args)
    → length (function_in_table t i).registers ≤ c
    → (run_answer t i args b c).answer ≡ ran_as i (function_in_table t i) (run_of (function_in_table t i) args b)
unfolding run_answer run_function arguments_fit
run_answer_law t i args b c e l a r =
    let counted = eqb (length args) (function_in_table t i).params in
    let fitted = eqb (first_unfit (function_in_table t i) args) (length args) in
    rw (
      e,
      lt-ltb i (length (decode t)) l,
      is_true counted (and_l counted fitted a),
      is_true fitted (and_r counted fitted a),
      le-ltb c (length (function_in_table t i).registers) r,
    )
    refl

-- Only as much of a list counts as the other has.
together_prefix :
    {A B C : Type 0} (f : A → B → C) (xs ys : List A) (zs : List B) → length zs ≤ length xs → together f (xs ++ ys) zs ≡ together f xs zs
together_prefix f [] [] [] l = refl
together_prefix f [] (y ∷ ys) [] l = refl
together_prefix f [] ys (z ∷ zs) l = absurd (not-suc-le-zero l)
together_prefix f (x ∷ xs) ys [] l = refl
together_prefix f (x ∷ xs) ys (z ∷ zs) l = ap (λ r. f x z ∷ r) (together_prefix f xs ys zs (le_of_suc-le-suc l))

-- Arguments that fit the source fit its translation.
pub fits_translation : (f : Func) (args : List ℕ) → f.params ≤ length f.registers → T (arguments_fit f args) → T (arguments_fit (translation f) args)
unfolding arguments_fit first_unfit translation
fits_translation f args l a =
    let n = eqb→eq (length args) f.params (and_l (eqb (length args) f.params) (eqb (first_unfit f args) (length args)) a) in
    rw (together_prefix (λ r v. ltb v (2 ^ width r.type)) f.registers (map (register_for f) (phis_of (rows_of f))) args (omega arith)) a

-- What the runs of a source and its translation answer, whichever their budgets.
module _ (f g : Func) (args : List ℕ) (h : RunsAlike f g args) (i j b b' : ℕ) where
  abbrev x : Ran
  x = ran_as i f (run_of f args b)

  abbrev y : Ran
  y = ran_as j g (run_of g args b')

  both_end : (n : ℕ) (o : Outcome) → Ends f args n o → EndBoth f g args n (step_formula f args n) o
  both_end n o e =
      record { source_ends = e; translation_ends = h.ends n o e; formula = refl; at_least = h.at_least n o e; at_most = h.at_most n o e }

  compare : Stands f args b → Stands g args b' → Compared (λ r. r) f g args b b' x y
  compare (Stands.ended n o e l) (Stands.ended m u d k) =
      let w = h.only_if m u d in
      let same = ends_once f args w.1 e in
      Compared.both n m o
      (subst⁻¹ (λ (v : ℕ). EndBoth f g args n v o) (w.2 ∙ ap (step_formula f args) same.0) (both_end n o e))
      l k
      ((budget_agrees i f args b).ended n o l e)
      ((budget_agrees j g args b').ended m o k (subst (Ends g args m) same.1 d))
  compare (Stands.ended n o e l) (Stands.going k) =
      Compared.source_alone n (step_formula f args n) o (both_end n o e) l
      (goes_before g args (h.ends n o e) k)
      ((budget_agrees i f args b).ended n o l e)
      ((budget_agrees j g args b').going k)
  compare (Stands.going l) (Stands.ended m u d k) =
      let w = h.only_if m u d in
      Compared.translation_alone w.0 m u
      (subst⁻¹ (λ (v : ℕ). EndBoth f g args w.0 v u) w.2 (both_end w.0 u w.1))
      (goes_before f args w.1 l)
      k
      ((budget_agrees i f args b).going l)
      ((budget_agrees j g args b').ended m u k d)
  compare (Stands.going l) (Stands.going k) = Compared.unended l k ((budget_agrees i f args b).going l) ((budget_agrees j g args b').going k)

  pub agree : RunsAgree (λ r. r) f g args b b' x y
  unfolding ran_numbers
  agree =
      record {
        compared = compare (stands f args b) (stands g args b');
        suffices =
            λ n o e l m. (
              (budget_agrees i f args b).ended n o l e,
              (budget_agrees j g args b').ended (step_formula f args n) o (omega (arith, h.at_most n o e)) (h.ends n o e),
            );
        neither =
            λ p s e l.
            let k = h.not_ended b (run_of_43 i f args b (ap (λ (r : Ran). (ran_numbers r).number) e)).0 in
            (budget_agrees j g args b').going (going_less g args b' l k);
      }

pub runs_over_tables : RunsOverTables
runs_over_tables t i x args b b' c c' h d a l l' =
    let f = function_in_table t i in
    let g = function_in_table x.table 0 in
    let sound = sound_parts [] f (clean_of_check (decode t) i (accepted_program t h.passes) h.there).head in
    let fits = subst⁻¹ (λ (k : Func). T (arguments_fit k args)) d.translates.defined (fits_translation f args sound.params a) in
    let one : 0 < length (decode x.table) = subst⁻¹ (λ (p : Program). 0 < length p) d.holds (omega arith) in
    rw (run_answer_law t i args b c h.passes h.there a l, run_answer_law x.table 0 args b' c' d.passes one fits l')
    (agree f g args (d.translates.runs args a) i 0 b b')

-- ---- answers as a caller has them

-- In this form an end and a budget used up are told apart.
abbrev pub Tells : {A : Type 0} → (Ran → A) → Type 0
Tells told = (o : Outcome) (p n q s : ℕ) → told (ran_with o p n) ≡ told (Ran.stopped 43 q s) → o ≡ Outcome.stopped 43

module _ {A : Type 0} (told : Ran → A) (tells : Tells told) (f g : Func) (args : List ℕ) (b b' : ℕ) (x y : Ran) where
  ended_told : (o : Outcome) (n : ℕ) (z : Ran) → EndedWith (λ r. r) o n z → EndedWith told o n (told z)
  ended_told o n z e = (e.0, ap told e.1)

  used_told : (n : ℕ) (z : Ran) → UsedUp (λ r. r) n z → UsedUp told n (told z)
  used_told n z e = (e.0, ap told e.1)

  compared_told : Compared (λ r. r) f g args b b' x y → Compared told f g args b b' (told x) (told y)
  compared_told (Compared.both n m o e l k u v) = Compared.both n m o e l k (ended_told o n x u) (ended_told o m y v)
  compared_told (Compared.source_alone n m o e l k u v) = Compared.source_alone n m o e l k (ended_told o n x u) (used_told b' y v)
  compared_told (Compared.translation_alone n m o e l k u v) = Compared.translation_alone n m o e l k (used_told b x u) (ended_told o m y v)
  compared_told (Compared.unended e d u v) = Compared.unended e d (used_told b x u) (used_told b' y v)

  -- no end is told as 43
  not_ended : (n m : ℕ) (o : Outcome) (p s : ℕ) → EndBoth f g args n m o → EndedWith (λ r. r) o n x → told x ≡ told (Ran.stopped 43 p s) → ⊥
  not_ended n m o p s e u k =
      no_end_is_43 f args n (subst (Ends f args n) (tells o u.0 n p s (sym (ap told u.1) ∙ k)) e.source_ends)

  used_up : (p s : ℕ) → Compared (λ r. r) f g args b b' x y → told x ≡ told (Ran.stopped 43 p s) → UsedUp (λ r. r) b x
  used_up p s (Compared.both n m o e l k u v) d = absurd (not_ended n m o p s e u d)
  used_up p s (Compared.source_alone n m o e l k u v) d = absurd (not_ended n m o p s e u d)
  used_up p s (Compared.translation_alone n m o e l k u v) d = u
  used_up p s (Compared.unended e c u v) d = u

  pub runs_told : RunsAgree (λ r. r) f g args b b' x y → RunsAgree told f g args b b' (told x) (told y)
  runs_told h =
      record {
        compared = compared_told h.compared;
        suffices =
            λ n o e l m.
            let k = h.suffices n o e l m in
            (ended_told o n x k.0, ended_told o (step_formula f args n) y k.1);
        neither =
            λ p s d l.
            let u = used_up p s h.compared d in
            used_told b' y (h.neither u.0 b u.1 l);
      }
