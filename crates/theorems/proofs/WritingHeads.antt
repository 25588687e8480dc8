-- A function's head and its registers, read back. Assumes nothing.
use mathlib.Core.Bool.{Bool, true, false, cond}
use mathlib.Core.List.{List, [], ◌∷◌, ◌++◌, map, append_assoc, append-nil}
use mathlib.Core.Path.{◌≡◌, refl, sym, ◌∙◌, ap, subst, subst⁻¹}
use Prim.Native.Nat.{ℕ, suc, ◌+◌, ◌≤◌, ◌<◌}
use native.Mathlib.Nat.{add-zero}
use native.Mathlib.Omega.{arith}
use lib.Dec.{eqb}
use lib.ListN.{length, length-append}
use borrow.Author.Tests.{lt-ltb, le-ltb, ne_eqb, eqb-true, eqb-false}
use Rattle.laws.specs.Lists.{gather}
use Rattle.laws.proofs.Every.{Every, more as every_cons}
use Rattle.language.specs.Bytes.{comma, left_brace, semicolon}
use Rattle.language.specs.Words.{first_type, function_word, ssa_word, void_word, register_word}
use Rattle.language.specs.Instructions.{void}
use Rattle.language.specs.Programs.{Register, Func, max_functions, max_registers}
use Rattle.language.specs.Tokens.{Token}
use Rattle.language.specs.Grammar.{Stage, Act, to, a_type, a_result, next_move}
use Rattle.language.specs.Reading.{Head, head_of, draft_of, no_open_block, no_parts, function_number, register_number, begin_function, mark_ssa, set_result, name_function, begin_register, name_register, perform_act}
use Rattle.language.specs.Writing.{register_line, parameter_part, parted, type_token, result_token, in_parens}
use Rattle.theorems.proofs.WritingPlaces.{nowhere}
use Rattle.theorems.proofs.WritingStates.{State, Takes, nothing, then, after, step, passes, pass_then, type_word}
use Rattle.theorems.proofs.WritingDeclared.{New, Apart, new_number}

abbrev pub name_of : Register → List ℕ
name_of r = r.name

-- Nothing of the function's blocks is read yet.
abbrev pub heading : Stage → List Func → Head → State
heading s fs f = record { stage = s; draft = draft_of fs f [] no_open_block no_parts }

module _ (fs : List Func) (name : List ℕ) (ssa result : ℕ) where
  abbrev pub headed : Stage → ℕ → List Register → State
  headed s k rs = heading s fs (head_of name ssa result k rs)

  -- the name of a register, which makes it one: j is 1 for a parameter
  named :
      (j k : ℕ) (s s' : Stage) (rs : List Register) (r : Register) (a : Act)
      → next_move s (Token.name r.name) ≡ to s' a
      → perform_act a nowhere (headed s k rs).draft ≡ name_register j r.type r.name nowhere (headed s k rs).draft
      → New name_of r.name rs
      → Takes (headed s k rs) (Token.name r.name ∷ []) (headed s' (k + j) (rs ++ (r ∷ [])))
  unfolding name_register register_number
  named j k s s' rs r a g f new =
      step (headed s k rs) (headed s' (k + j) (rs ++ (r ∷ []))) (Token.name r.name) a g
      (f ∙ rw (new_number name_of r.name rs new, le-ltb (length rs) (length rs) (omega arith)))

  module _ (k : ℕ) (rs : List Register) (r : Register) (room : length rs < max_registers) (type : r.type < 10) (new : New name_of r.name rs) where
    begins : (s s' : Stage) (t : Token) → next_move s t ≡ to s' Act.begin_register → Takes (headed s k rs) (t ∷ []) (headed s' k rs)
    unfolding perform_act begin_register
    begins s s' t e = step (headed s k rs) (headed s' k rs) t Act.begin_register e (rw (lt-ltb (length rs) max_registers room))

    register_read : Takes (headed Stage.declarations k rs) (register_line r) (headed Stage.declarations k (rs ++ (r ∷ [])))
    unfolding next_move perform_act
    register_read =
        then _ (headed Stage.register_type k rs) _ _ _ (begins Stage.declarations Stage.register_type (Token.word register_word) refl)
        (then _ (headed (Stage.register_name r.type) k rs) _ _ _
        (passes (headed Stage.register_type k rs) (Stage.register_name r.type) (type_token r.type) (type_word (λ t. to (Stage.register_name t) Act.pass) r.type type))
        (then _ (headed Stage.register_end k (rs ++ (r ∷ []))) _ _ _
        (subst (λ (n : ℕ). Takes (headed (Stage.register_name r.type) k rs) (Token.name r.name ∷ []) (headed Stage.register_end n (rs ++ (r ∷ [])))) (add-zero k)
        (named 0 k (Stage.register_name r.type) Stage.register_end rs r (Act.name_register r.type r.name) refl refl new))
        (passes (headed Stage.register_end k (rs ++ (r ∷ []))) Stage.declarations (Token.mark semicolon) refl)))

    -- a parameter, the first or a later one
    parameter_read :
        (s : Stage)
        → next_move s (type_token r.type) ≡ to (Stage.parameter_name r.type) Act.begin_register
        → Takes (headed s k rs) (parameter_part r) (headed Stage.parameter_end (k + 1) (rs ++ (r ∷ [])))
    unfolding next_move perform_act
    parameter_read s e =
        then _ (headed (Stage.parameter_name r.type) k rs) _ _ _ (begins s (Stage.parameter_name r.type) (type_token r.type) e)
        (named 1 k (Stage.parameter_name r.type) Stage.parameter_end rs r (Act.name_parameter r.type r.name) refl refl new)

  -- ---- all registers

  pub registers_read :
      (k : ℕ) (rs more : List Register) → length rs + length more ≤ max_registers → Every (λ r. r.type < 10) more → Apart name_of rs more
      → Takes (headed Stage.declarations k rs) (gather (λ l. l) (map register_line more)) (headed Stage.declarations k (rs ++ more))
  registers_read k rs [] h t new = rw append-nil (nothing (headed Stage.declarations k rs))
  registers_read k rs (r ∷ more) h (every_cons t ts) new =
      let later : Takes (headed Stage.declarations k (rs ++ (r ∷ []))) (gather (λ l. l) (map register_line more)) (headed Stage.declarations k (rs ++ (r ∷ []) ++ more)) =
      registers_read k (rs ++ (r ∷ [])) more (simp length-append (omega arith)) ts new.1 in
      after (register_line r) _ _ _ _ (register_read k rs r (omega arith) t new.0) (rw append_assoc at later)

  parameter_word :
      (s : Stage) (t : ℕ)
      → ((w : ℕ) → next_move s (Token.word w) ≡ a_type (λ t. to (Stage.parameter_name t) Act.begin_register) w)
      → t < 10
      → next_move s (type_token t) ≡ to (Stage.parameter_name t) Act.begin_register
  parameter_word s t e h = e (first_type + t) ∙ type_word (λ t. to (Stage.parameter_name t) Act.begin_register) t h

  -- one or more parameters
  parameters_read :
      (s : Stage) → ((w : ℕ) → next_move s (Token.word w) ≡ a_type (λ t. to (Stage.parameter_name t) Act.begin_register) w)
      → (k : ℕ) (rs : List Register) (r : Register) (more : List Register)
      → length rs + suc (length more) ≤ max_registers
      → Every (λ r. r.type < 10) (r ∷ more)
      → Apart name_of rs (r ∷ more)
      → Takes (headed s k rs) (parted (map parameter_part (r ∷ more))) (headed Stage.parameter_end (k + suc (length more)) (rs ++ (r ∷ more)))
  unfolding next_move
  parameters_read s e k rs r [] h (every_cons t ts) new = parameter_read k rs r (omega arith) t new.0 s (parameter_word s r.type e t)
  parameters_read s e k rs r (q ∷ more) h (every_cons t ts) new =
      let mid = rs ++ (r ∷ []) in
      let count : k + 1 + suc (length more) ≡ k + suc (suc (length more)) = omega arith in
      let fits : length mid + suc (length more) ≤ max_registers = simp length-append (omega arith) in
      let later : Takes (headed Stage.parameter (k + 1) mid) (parted (map parameter_part (q ∷ more))) (headed Stage.parameter_end (k + 1 + suc (length more)) (mid ++ (q ∷ more))) =
      parameters_read Stage.parameter plain (k + 1) mid q more fits ts new.1 in
      after (parameter_part r) _ _ _ _ (parameter_read k rs r (omega arith) t new.0 s (parameter_word s r.type e t))
      (then _ (headed Stage.parameter (k + 1) mid) _ _ _ comma_on (rw (append_assoc, count) at later))
    where
      plain : (w : ℕ) → next_move Stage.parameter (Token.word w) ≡ a_type (λ t. to (Stage.parameter_name t) Act.begin_register) w
      plain w = refl

      comma_on : Takes (headed Stage.parameter_end (k + 1) (rs ++ (r ∷ []))) (Token.mark comma ∷ []) (headed Stage.parameter (k + 1) (rs ++ (r ∷ [])))
      comma_on = passes (headed Stage.parameter_end (k + 1) (rs ++ (r ∷ []))) Stage.parameter (Token.mark comma) refl

  -- parameters in parentheses, and the function's opening brace
  pub list_read :
      (ps : List Register) → length ps ≤ max_registers → Every (λ r. r.type < 10) ps → Apart name_of [] ps
      → Takes (headed Stage.parameters 0 []) (in_parens (parted (map parameter_part ps)) ++ (Token.mark left_brace ∷ [])) (headed Stage.declarations (length ps) ps)
  unfolding next_move
  list_read [] h t new =
      pass_then (headed Stage.parameters 0 []) Stage.first_parameter _ _ _ refl
      (pass_then (headed Stage.first_parameter 0 []) Stage.body _ _ _ refl
      (passes (headed Stage.body 0 []) Stage.declarations (Token.mark left_brace) refl))
  list_read (r ∷ ps) h t new =
      let k = suc (length ps) in
      let all : Takes (headed Stage.first_parameter 0 []) (parted (map parameter_part (r ∷ ps))) (headed Stage.parameter_end (0 + k) (r ∷ ps)) =
      parameters_read Stage.first_parameter (λ w. refl) 0 [] r ps (omega arith) t new in
      let count : 0 + k ≡ k = omega arith in
      pass_then (headed Stage.parameters 0 []) Stage.first_parameter _ _ _ refl
      (rw append_assoc
      (after (parted (map parameter_part (r ∷ ps))) _ _ _ _ (rw count at all)
      (pass_then (headed Stage.parameter_end k (r ∷ ps)) Stage.body _ _ _ refl
      (passes (headed Stage.body k (r ∷ ps)) Stage.declarations (Token.mark left_brace) refl))))

-- ---- the head

abbrev pub function_name : Func → List ℕ
function_name f = f.name

-- before a function
abbrev pub between : List Func → State
between fs = heading Stage.top fs (head_of [] 0 0 0 [])

-- the return type or `void`, also where `ssa` may stand
result_word :
    (t : ℕ)
    → t ≤ void
    → (s : Stage)
    → ((w : ℕ) → (w ≡ ssa_word → ⊥) → next_move s (Token.word w) ≡ a_result w)
    → next_move s (result_token t) ≡ to Stage.function_name (Act.set_result t)
result_word t h s e = by (eqb t void) refl
  where
    by : (b : Bool) → eqb t void ≡ b → next_move s (cond b (Token.word void_word) (type_token t)) ≡ to Stage.function_name (Act.set_result t)
    by true d = e void_word (λ z. omega arith) ∙ ap (λ (n : ℕ). to Stage.function_name (Act.set_result n)) (sym (eqb-true t void d))
    by false d =
        let other : t < 10 = omega (arith, eqb-false t void d) in
        e (first_type + t) (λ z. omega arith)
        ∙ rw (ne_eqb (first_type + t) void_word (λ z. absurd (omega arith))) (type_word (λ t. to Stage.function_name (Act.set_result t)) t other)

module _ (fs : List Func) (name : List ℕ) (ssa result : ℕ) (room : length fs < max_functions) (marked : ssa < 2) (typed : result ≤ void) (new : New function_name name fs) where
  named_function :
      (s : ℕ)
      → Takes (heading Stage.function_name fs (head_of [] s result 0 [])) (Token.name name ∷ []) (heading Stage.parameters fs (head_of name s result 0 []))
  unfolding next_move perform_act name_function function_number
  named_function s =
      step (heading Stage.function_name fs (head_of [] s result 0 [])) (heading Stage.parameters fs (head_of name s result 0 [])) (Token.name name) (Act.name_function name) refl
      (rw (new_number function_name name fs new, le-ltb (length fs) (length fs) (omega arith)))

  resulted :
      (s : ℕ) (g : Stage)
      → ((w : ℕ) → (w ≡ ssa_word → ⊥) → next_move g (Token.word w) ≡ a_result w)
      → Takes (heading g fs (head_of [] s 0 0 [])) (result_token result ∷ []) (heading Stage.function_name fs (head_of [] s result 0 []))
  unfolding perform_act set_result
  resulted s g e =
      step (heading g fs (head_of [] s 0 0 [])) (heading Stage.function_name fs (head_of [] s result 0 [])) (result_token result) (Act.set_result result)
      (result_word result typed g e) refl

  begun : Takes (between fs) (Token.word function_word ∷ []) (heading Stage.header fs (head_of [] 0 0 0 []))
  unfolding next_move perform_act begin_function
  begun =
      step (between fs) (heading Stage.header fs (head_of [] 0 0 0 [])) (Token.word function_word) Act.begin_function refl
      (rw (lt-ltb (length fs) max_functions room))

  -- up to the parameters
  pub titled :
      (ts : List Token) (τ : State)
      → Takes (heading Stage.parameters fs (head_of name ssa result 0 [])) ts τ
      → Takes (between fs) (Token.word function_word ∷ (cond (eqb ssa 1) (Token.word ssa_word ∷ []) [] ++ (result_token result ∷ Token.name name ∷ ts))) τ
  unfolding next_move perform_act mark_ssa
  titled ts τ later = then _ (heading Stage.header fs (head_of [] 0 0 0 [])) _ _ _ begun (by (eqb ssa 1) refl)
    where
      unmarked : (b : Bool) → eqb ssa 1 ≡ b → b ≡ false → 0 ≡ ssa
      unmarked b e d = let z : ssa ≡ 1 → ⊥ = eqb-false ssa 1 (e ∙ d) in omega arith

      by :
          (b : Bool)
          → eqb ssa 1 ≡ b
          → Takes (heading Stage.header fs (head_of [] 0 0 0 [])) (cond b (Token.word ssa_word ∷ []) [] ++ (result_token result ∷ Token.name name ∷ ts)) τ
      by true e =
          then _ (heading Stage.result fs (head_of [] 1 0 0 [])) _ _ _
          (step (heading Stage.header fs (head_of [] 0 0 0 [])) (heading Stage.result fs (head_of [] 1 0 0 [])) (Token.word ssa_word) Act.mark_ssa refl refl)
          (then _ (heading Stage.function_name fs (head_of [] 1 result 0 [])) _ _ _ (resulted 1 Stage.result (λ w d. refl))
          (then _ (heading Stage.parameters fs (head_of name 1 result 0 [])) _ _ _ (named_function 1) (rw (eqb-true ssa 1 e) at later)))
      by false e =
          then _ (heading Stage.function_name fs (head_of [] 0 result 0 [])) _ _ _ (resulted 0 Stage.header (λ w d. rw (ne_eqb w ssa_word d)))
          (then _ (heading Stage.parameters fs (head_of name 0 result 0 [])) _ _ _ (named_function 0)
          (subst⁻¹ (λ (n : ℕ). Takes (heading Stage.parameters fs (head_of name n result 0 [])) ts τ) (unmarked false e refl) later))
