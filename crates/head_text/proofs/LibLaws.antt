-- The head of a function and a register's declaration, part by part as they are put down. Assumes nothing.
use mathlib.Core.Bool.{Bool, cond}
use mathlib.Core.Path.{◌≡◌, refl, sym, ap, ap₂, ◌∙◌}
use mathlib.Core.List.{List, [], ◌∷◌, ◌++◌, map, append_assoc, append-nil}
use Prim.Native.Nat.{ℕ, suc, ◌+◌, ◌≤◌, ◌<◌}
use native.Mathlib.Omega.{arith}
use borrow.Author.Tests.{eq-eqb, ne_eqb}
use lib.Dec.{eqb}
use lib.ListN.{length, get_or, take}
use lib.Seq.{length-take-le, get_or-take}
use Rattle.laws.specs.Lists.{gather, below}
use Rattle.laws.proofs.Sums.{gather_map, gather_gather}
use Rattle.laws.proofs.ByNumber.{gather_numbers, gather_from_same, gather_from_suc}
use Rattle.language.specs.Bytes.{bytes_of, comma, left_paren, right_paren, left_brace, line_feed, semicolon}
use Rattle.language.specs.Programs.{Register, Func, no_register}
use Rattle.language.specs.Tokens.{Token}
use Rattle.language.specs.Words.{words, ssa_word, function_word, register_word}
use Rattle.language.specs.Writing.{space_byte, bytes_for, line_bytes, parted, in_parens, type_token, result_token, register_token, parameter_part, ssa_part, head_line}
use Rattle.language.specs.MadeNames.{named_function}
use Rattle.language.specs.Table.{function_ssa, function_result, function_name, function_params, register_count, register_type, decode_function}
use Rattle.language.proofs.TableView.{register_count_law, type_is}
use Rattle.naming.proofs.Filled.{filled_register_type}
use Rattle.token_text.specs.Spaced.{spaced}
use Rattle.token_text.proofs.Lines.{line_ends, spaced_append}
use Rattle.head_text.specs.Heads.{typed_bytes, parameter_bytes, register_bytes}

-- ---- parameters

-- the first, then each other with its comma
parted_first : (x : List Token) (ys : List (List Token)) → parted (x ∷ ys) ≡ x ++ gather (λ y. Token.mark comma ∷ y) ys
parted_first x [] = sym (append-nil x)
parted_first x (y ∷ ys) = ap (λ (l : List Token). x ++ (Token.mark comma ∷ l)) (parted_first y ys)

-- parameter number i among these
abbrev numbered : List Register → ℕ → List ℕ
numbered rs i = cond (eqb i 0) [] (comma ∷ space_byte ∷ []) ++ spaced (parameter_part (get_or rs i no_register))

parted_numbered : (rs : List Register) → spaced (parted (map parameter_part rs)) ≡ gather (numbered rs) (below (length rs))
unfolding bytes_for
parted_numbered [] = refl
parted_numbered (r ∷ rs) =
    let rest : List (List Token) = map parameter_part rs in
    ap spaced (parted_first (parameter_part r) rest)
    ∙ spaced_append (parameter_part r) (gather (λ y. Token.mark comma ∷ y) rest)
    ∙ ap (λ (l : List ℕ). spaced (parameter_part r) ++ l)
    (gather_gather (λ t. bytes_for t ++ (space_byte ∷ [])) (λ y. Token.mark comma ∷ y) rest
    ∙ gather_map (λ y. spaced (Token.mark comma ∷ y)) parameter_part rs
    ∙ gather_numbers (λ x. comma ∷ space_byte ∷ spaced (parameter_part x)) no_register rs
    ∙ gather_from_same (λ i. comma ∷ space_byte ∷ spaced (parameter_part (get_or rs i no_register))) (λ i. numbered (r ∷ rs) (suc i)) 0 (length rs)
    (λ i b. rw (ne_eqb (suc (0 + i)) 0 (λ e. omega arith)))
    ∙ sym (gather_from_suc (numbered (r ∷ rs)) 0 (length rs)))

pub parameters_are : (f : Func) (n : ℕ) → n ≤ length f.registers → spaced (parted (map parameter_part (take n f.registers))) ≡ gather (parameter_bytes f) (below n)
parameters_are f n h =
    let rs : List Register = take n f.registers in
    parted_numbered rs
    ∙ ap (λ (k : ℕ). gather (numbered rs) (below k)) (length-take-le n f.registers h)
    ∙ gather_from_same (numbered rs) (parameter_bytes f) 0 n
    (λ i b. ap (λ (x : Register). cond (eqb (0 + i) 0) [] (comma ∷ space_byte ∷ []) ++ spaced (parameter_part x)) (get_or-take n f.registers (0 + i) no_register (omega arith)))

-- ---- lines

pub head_parts : (f : Func) →
    line_bytes (head_line f)
    ≡ spaced (Token.word function_word ∷ [])
    ++ (spaced (ssa_part f)
    ++ (spaced (result_token f.result ∷ [])
    ++ (spaced (Token.name f.name ∷ []) ++ (bytes_of "( " ++ (spaced (parted (map parameter_part (take f.params f.registers))) ++ bytes_of ") {\n")))))
unfolding head_line bytes_for words
head_parts f =
    let ps : List Token = parted (map parameter_part (take f.params f.registers)) in
    let before : List Token = result_token f.result ∷ Token.name f.name ∷ in_parens ps in
    ap (λ (l : List Token). line_bytes (Token.word function_word ∷ l)) (sym (append_assoc (ssa_part f) before (Token.mark left_brace ∷ [])))
    ∙ line_ends (Token.word function_word ∷ (ssa_part f ++ before)) (Token.mark left_brace)
    ∙ ap (λ (l : List ℕ). spaced (Token.word function_word ∷ []) ++ l)
    (ap (λ (l : List ℕ). l ++ (left_brace ∷ line_feed ∷ [])) (spaced_append (ssa_part f) before ∙ ap (λ (l : List ℕ). spaced (ssa_part f) ++ l) (tail_parts ps))
    ∙ simp (append_assoc, append-nil))
  where
    tail_parts : (ps : List Token) → spaced (result_token f.result ∷ Token.name f.name ∷ in_parens ps) ≡ spaced (result_token f.result ∷ []) ++ (spaced (Token.name f.name ∷ []) ++ (bytes_of "( " ++ (spaced ps ++ bytes_of ") ")))
    tail_parts ps =
        spaced_append (result_token f.result ∷ []) (Token.name f.name ∷ in_parens ps)
        ∙ ap (λ (l : List ℕ). spaced (result_token f.result ∷ []) ++ l)
        (spaced_append (Token.name f.name ∷ []) (in_parens ps)
        ∙ ap (λ (l : List ℕ). spaced (Token.name f.name ∷ []) ++ (left_paren ∷ space_byte ∷ l)) (spaced_append ps (Token.mark right_paren ∷ [])))

pub register_parts : (f : Func) (r : ℕ) → register_bytes f r ≡ spaced (Token.word register_word ∷ []) ++ (typed_bytes f r ++ bytes_of ";\n")
unfolding bytes_for words
register_parts f r = line_ends (Token.word register_word ∷ parameter_part (get_or f.registers r no_register)) (Token.mark semicolon)

-- ---- what each piece of code puts down

-- a register's type by its cell, and its name
pub typed_parts : (t : List ℕ) (a r : ℕ) → r < register_count t a → {k : ℕ} → k ≡ register_type t a r →
    let g = named_function (decode_function t a) in
    spaced (type_token k ∷ []) ++ spaced (register_token g r ∷ []) ≡ typed_bytes g r
typed_parts t a r h e =
    let g = named_function (decode_function t a) in
    ap (λ (k : ℕ). spaced (type_token k ∷ []) ++ spaced (register_token g r ∷ [])) (e ∙ sym (filled_register_type (decode_function t a) r (omega (arith, register_count_law t a)) ∙ type_is t a r h))
    ∙ sym (spaced_append (type_token (get_or g.registers r no_register).type ∷ []) (register_token g r ∷ []))

-- the first parameter, and another
pub parameter_first : (f : Func) (r : ℕ) → r ≡ 0 → typed_bytes f r ≡ parameter_bytes f r
parameter_first f r e = ap (λ (b : Bool). cond b [] (comma ∷ space_byte ∷ []) ++ typed_bytes f r) (sym (eq-eqb r 0 e))

pub parameter_later : (f : Func) (r : ℕ) → (r ≡ 0 → ⊥) → (comma ∷ space_byte ∷ []) ++ typed_bytes f r ≡ parameter_bytes f r
parameter_later f r h = ap (λ (b : Bool). cond b [] (comma ∷ space_byte ∷ []) ++ typed_bytes f r) (sym (ne_eqb r 0 h))

-- the mark, and none
pub mark_there : (t : List ℕ) (a : ℕ) {k : ℕ} → k ≡ function_ssa t a → k ≡ 1 → spaced (Token.word ssa_word ∷ []) ≡ spaced (ssa_part (decode_function t a))
unfolding bytes_for words decode_function
mark_there t a e h = ap (λ (b : Bool). spaced (cond b (Token.word ssa_word ∷ []) [])) (sym (eq-eqb (function_ssa t a) 1 (sym e ∙ h)))

pub mark_none : (t : List ℕ) (a : ℕ) {k : ℕ} → k ≡ function_ssa t a → (k ≡ 1 → ⊥) → [] ≡ spaced (ssa_part (decode_function t a))
unfolding decode_function
mark_none t a e h = ap (λ (b : Bool). spaced (cond b (Token.word ssa_word ∷ []) [])) (sym (ne_eqb (function_ssa t a) 1 (λ d. h (e ∙ d))))

-- a head by the cells
pub head_by_cells : (t : List ℕ) (a : ℕ) {k : ℕ} {n : List ℕ} → k ≡ function_result t a → n ≡ function_name t a →
    let g = named_function (decode_function t a) in
    spaced (Token.word function_word ∷ [])
    ++ (spaced (ssa_part (decode_function t a))
    ++ (spaced (result_token k ∷ []) ++ (spaced (Token.name n ∷ []) ++ (bytes_of "( " ++ (spaced (parted (map parameter_part (take (function_params t a) g.registers))) ++ bytes_of ") {\n")))))
    ≡ line_bytes (head_line g)
unfolding named_function decode_function
head_by_cells t a e d =
    let g = named_function (decode_function t a) in
    ap₂ (λ (k : ℕ) (n : List ℕ). spaced (Token.word function_word ∷ []) ++ (spaced (ssa_part g) ++ (spaced (result_token k ∷ []) ++ (spaced (Token.name n ∷ []) ++ (bytes_of "( " ++ (spaced (parted (map parameter_part (take (function_params t a) g.registers))) ++ bytes_of ") {\n")))))) e d
    ∙ sym (head_parts (named_function (decode_function t a)))
