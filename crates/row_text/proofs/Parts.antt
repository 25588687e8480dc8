-- The parts of a row's line, as the code puts them down. Assumes nothing.
use mathlib.Core.Bool.{Bool, true, false, cond}
use mathlib.Core.List.{List, [], ◌∷◌, ◌++◌, map, append_assoc}
use mathlib.Core.Path.{◌≡◌, refl, sym, ap, ◌∙◌}
use Prim.Native.Nat.{ℕ, zero, suc, ◌+◌, ◌-◌, ◌<◌}
use native.Mathlib.Numerals.{add-one}
use native.Mathlib.Omega.{arith}
use lib.ListN.{take}
use Rattle.laws.specs.Lists.{from, gather}
use Rattle.laws.proofs.ByNumber.{gather_from_more}
use Rattle.language.specs.Bytes.{comma, equals, semicolon, line_feed}
use Rattle.language.specs.Programs.{Func, op_of, targets_of, sources_of}
use Rattle.language.specs.Table.{row_op, row_target, row_left, row_right, decode_row}
use Rattle.language.specs.Tokens.{Token}
use Rattle.language.specs.Writing.{bytes_for, line_bytes, op_token, register_token, target_part, registers_part, operand_part, row_line}
use Rattle.instructions.specs.Shapes.{shape_of}
use Rattle.language.proofs.TableView.{op_decoded}
use Rattle.token_text.specs.Spaced.{spaced}
use Rattle.token_text.proofs.Lines.{line_ends}
use Rattle.row_text.specs.Ready.{titled, operand_tokens}
use Rattle.row_text.proofs.Shapes.{targets_are, sources_are, operand_is, few}

regroup : (ts : List Token) (w : Token) (ss os : List Token) (e : Token) → (((ts ++ (w ∷ [])) ++ ss) ++ os) ++ (e ∷ []) ≡ ts ++ (w ∷ (ss ++ (os ++ (e ∷ []))))
regroup ts w ss os e = simp append_assoc

module _ (t : List ℕ) (a r : ℕ) where
  -- ---- the target

  pub no_target : (shape_of (row_op t a r)).target ≡ false → [] ≡ target_part (titled t a) (targets_of (decode_row t a r))
  no_target e = ap (λ (b : Bool). target_part (titled t a) (cond b (row_target t a r ∷ []) [])) (sym e) ∙ ap (target_part (titled t a)) (sym (targets_are t a r))

  pub one_target : {u : ℕ} → u ≡ row_target t a r → (shape_of (row_op t a r)).target ≡ true
      → register_token (titled t a) u ∷ Token.mark equals ∷ [] ≡ target_part (titled t a) (targets_of (decode_row t a r))
  one_target d e =
      ap (λ (u : ℕ). register_token (titled t a) u ∷ Token.mark equals ∷ []) d
      ∙ ap (λ (b : Bool). target_part (titled t a) (cond b (row_target t a r ∷ []) [])) (sym e) ∙ ap (target_part (titled t a)) (sym (targets_are t a r))

  -- ---- the sources

  so_many : (n : ℕ) → n ≡ (shape_of (row_op t a r)).sources → registers_part (titled t a) (take n (row_left t a r ∷ row_right t a r ∷ [])) ≡ registers_part (titled t a) (sources_of (decode_row t a r))
  so_many n e = ap (λ (k : ℕ). registers_part (titled t a) (take k (row_left t a r ∷ row_right t a r ∷ []))) e ∙ ap (registers_part (titled t a)) (sym (sources_are t a r))

  module _ (n : ℕ) (is : n ≡ (shape_of (row_op t a r)).sources) where
    pub no_sources : n ≡ 0 → [] ≡ registers_part (titled t a) (sources_of (decode_row t a r))
    no_sources e = so_many 0 (sym e ∙ is)

    pub one_source : {u : ℕ} → u ≡ row_left t a r → n ≡ 1 → register_token (titled t a) u ∷ [] ≡ registers_part (titled t a) (sources_of (decode_row t a r))
    one_source d e = ap (λ (u : ℕ). register_token (titled t a) u ∷ []) d ∙ so_many 1 (sym e ∙ is)

    two : (n ≡ 0 → ⊥) → (n ≡ 1 → ⊥) → 2 ≡ n
    two h k = let l = (few (row_op t a r)).0 in omega arith

    pub two_sources : {u v : ℕ} → u ≡ row_left t a r → v ≡ row_right t a r → (n ≡ 0 → ⊥) → (n ≡ 1 → ⊥)
        → register_token (titled t a) u ∷ Token.mark comma ∷ register_token (titled t a) v ∷ [] ≡ registers_part (titled t a) (sources_of (decode_row t a r))
    two_sources {u} {v} d e h k =
        ap (λ (x : ℕ). register_token (titled t a) x ∷ Token.mark comma ∷ register_token (titled t a) v ∷ []) d
        ∙ ap (λ (x : ℕ). register_token (titled t a) (row_left t a r) ∷ Token.mark comma ∷ register_token (titled t a) x ∷ []) e
        ∙ so_many 2 (two h k ∙ is)

-- ---- phi entries: the first, and each later one behind a comma

entries_suc : (f : Func) (g : ℕ → ℕ) (k n : ℕ)
    → register_token f (g k) ∷ gather (λ j. Token.mark comma ∷ register_token f (g j) ∷ []) (from (suc k) n) ≡ registers_part f (map g (from k (suc n)))
entries_suc f g k zero = refl
entries_suc f g k (suc n) = ap (λ (l : List Token). register_token f (g k) ∷ Token.mark comma ∷ l) (entries_suc f g (suc k) n)

pub entries_parted : (f : Func) (g : ℕ → ℕ) (k n : ℕ) {u : ℕ} → u ≡ g k → 0 < n
    → register_token f u ∷ gather (λ j. Token.mark comma ∷ register_token f (g j) ∷ []) (from (k + 1) (n - 1)) ≡ registers_part f (map g (from k n))
entries_parted f g k zero d h = absurd (omega arith)
entries_parted f g k (suc n) d h =
    let less : suc n - 1 ≡ n = omega arith in
    ap (λ (u : ℕ). register_token f u ∷ gather (λ j. Token.mark comma ∷ register_token f (g j) ∷ []) (from (k + 1) (suc n - 1))) d
    ∙ rw (less, add-one) (entries_suc f g k n)

-- ---- one more

pub lines_more : {A : Type 0} (f : ℕ → List A) (k n : ℕ) → gather f (from k n) ++ f (k + n) ≡ gather f (from k (n + 1))
lines_more f k n = sym (gather_from_more f k n)

-- ---- the whole line

pub row_line_law : (t : List ℕ) (a r : ℕ) {op kind : ℕ} → op ≡ row_op t a r → kind ≡ (shape_of (row_op t a r)).operand
    → (let g = titled t a in
    let row = decode_row t a r in
    spaced (((target_part g (targets_of row) ++ (op_token op ∷ [])) ++ registers_part g (sources_of row)) ++ operand_tokens t a r kind) ++ (semicolon ∷ line_feed ∷ []) ≡ line_bytes (row_line g row))
unfolding bytes_for row_line
row_line_law t a r {op} {kind} d e =
    let g = titled t a in
    let row = decode_row t a r in
    let ts : List Token = target_part g (targets_of row) in
    let ss : List Token = registers_part g (sources_of row) in
    let word : op_token op ≡ op_token (op_of row) = ap op_token (d ∙ sym (op_decoded t a r)) in
    let operand : operand_tokens t a r kind ≡ operand_part g row = ap (operand_tokens t a r) e ∙ operand_is t a r in
    let whole : (((ts ++ (op_token op ∷ [])) ++ ss) ++ operand_tokens t a r kind) ++ (Token.mark semicolon ∷ []) ≡ row_line g row =
    ap (λ (w : Token). (((ts ++ (w ∷ [])) ++ ss) ++ operand_tokens t a r kind) ++ (Token.mark semicolon ∷ [])) word
    ∙ ap (λ (os : List Token). (((ts ++ (op_token (op_of row) ∷ [])) ++ ss) ++ os) ++ (Token.mark semicolon ∷ [])) operand
    ∙ regroup ts (op_token (op_of row)) ss (operand_part g row) (Token.mark semicolon) in
    sym (line_ends (((ts ++ (op_token op ∷ [])) ++ ss) ++ operand_tokens t a r kind) (Token.mark semicolon)) ∙ ap line_bytes whole
