-- A token taken apart: what the machine tests of it picks the case of the definition. Assumes nothing.
use mathlib.Core.Path.{◌≡◌, refl, ap, ◌∙◌, sym}
use mathlib.Core.Bool.{Bool, true, false, cond, true≢false}
use mathlib.Core.List.{List, [], ◌∷◌}
use Prim.Native.Nat.{ℕ}
use lib.Dec.{eqb}
use types.Run.{OneOf, miss}
use denote.Enum.Declared.{tag_of}
use Rattle.laws.proofs.Branches.{branches, by_true, by_false}
use Rattle.language.specs.Grammar.{Move as Moveᴸ, Act as Actᴸ, Stage as Stageᴸ, to, wrong_move, word_alone, an_instruction, on_name, on_word, on_number, on_block, on_mark_or, on_end_or}
use Rattle.language.specs.Words.{entry_word}
use Rattle.language.specs.Tokens.{Token as Tokenᴸ}
use Rattle.std.specs.Prelude.{Option}
use Rattle.grammar.specs.Meaning.{TokenSpot, magnitude_of, token_of, bytes_of, move_of, act_of, stage_is, is_mark, names_block}
use Rattle.grammar.specs.declared.Token.{Token}
use Rattle.grammar.specs.declared.Token.TheVariants.{Name, Word, Number, Mark, End}
use Rattle.grammar.specs.declared.Stage.{Stage}
use Rattle.grammar.specs.declared.Act.{Act}
use Rattle.grammar.specs.declared.Move.{Move}
use Rattle.grammar.specs.contracts.Token as declared

-- The token is of one of these variants.
abbrev Only : List ℕ → Token → Type 0
Only ks t = OneOf ks (tag_of declared.the_type t)

is_name : (t : Token) → Only (0 ∷ []) t → t ≡ Name
is_name Name h = refl
is_name (Word w) h = absurd (miss (0 ∷ []) 1 tt h)
is_name (Number neg v) h = absurd (miss (0 ∷ []) 2 tt h)
is_name (Mark b) h = absurd (miss (0 ∷ []) 3 tt h)
is_name End h = absurd (miss (0 ∷ []) 4 tt h)

-- A move that is known.
pub is_move : (s : TokenSpot) (m m' : Move) (x : Moveᴸ) → m ≡ m' → move_of s m' ≡ x → move_of s m ≡ x
is_move s m m' x e p = ap (move_of s) e ∙ p

pub is_stage : (m m' : Stage) (x : Stageᴸ) → m ≡ m' → stage_is m' ≡ x → stage_is m ≡ x
is_stage m m' x e p = ap stage_is e ∙ p

module _ (s : TokenSpot) (x : Moveᴸ) where
  pub by_name : (k : List ℕ → Moveᴸ) (t : Token) → Only (0 ∷ []) t → x ≡ k (bytes_of t s.name) → x ≡ on_name k (token_of s t)
  by_name k t h p = p ∙ rw (is_name t h)

  pub by_no_name : (k : List ℕ → Moveᴸ) (t : Token) → Only (1 ∷ 2 ∷ 3 ∷ 4 ∷ []) t → x ≡ wrong_move → x ≡ on_name k (token_of s t)
  by_no_name k Name h p = absurd (miss (1 ∷ 2 ∷ 3 ∷ 4 ∷ []) 0 tt h)
  by_no_name k (Word w) h p = p
  by_no_name k (Number neg v) h p = p
  by_no_name k (Mark b) h p = p
  by_no_name k End h p = p

  pub by_word : (k : ℕ → Moveᴸ) (t : Token) (w : ℕ) → t ≡ Word w → x ≡ k w → x ≡ on_word k (token_of s t)
  by_word k t w e p = rw e p

  pub by_no_word : (k : ℕ → Moveᴸ) (t : Token) → Only (0 ∷ 2 ∷ 3 ∷ 4 ∷ []) t → x ≡ wrong_move → x ≡ on_word k (token_of s t)
  by_no_word k Name h p = p
  by_no_word k (Word w) h p = absurd (miss (0 ∷ 2 ∷ 3 ∷ 4 ∷ []) 1 tt h)
  by_no_word k (Number neg v) h p = p
  by_no_word k (Mark b) h p = p
  by_no_word k End h p = p

  pub by_number : (k : Bool → ℕ → Moveᴸ) (t : Token) (neg : Bool) (v : Option ℕ) → t ≡ Number neg v → x ≡ k neg (magnitude_of s.large v) → x ≡ on_number k (token_of s t)
  by_number k t neg v e p = rw e p

  pub by_no_number : (k : Bool → ℕ → Moveᴸ) (t : Token) → Only (0 ∷ 1 ∷ 3 ∷ 4 ∷ []) t → x ≡ wrong_move → x ≡ on_number k (token_of s t)
  by_no_number k Name h p = p
  by_no_number k (Word w) h p = p
  by_no_number k (Number neg v) h p = absurd (miss (0 ∷ 1 ∷ 3 ∷ 4 ∷ []) 2 tt h)
  by_no_number k (Mark b) h p = p
  by_no_number k End h p = p

  pub by_mark : (c : ℕ) (m : Moveᴸ) (k : Tokenᴸ → Moveᴸ) (t : Token) (b : ℕ) → t ≡ Mark b → x ≡ cond (eqb b c) m (k (Tokenᴸ.mark b)) → x ≡ on_mark_or c m k (token_of s t)
  by_mark c m k t b e p = rw e p

  pub by_no_mark : (c : ℕ) (m : Moveᴸ) (k : Tokenᴸ → Moveᴸ) (t : Token) → Only (0 ∷ 1 ∷ 2 ∷ 4 ∷ []) t → x ≡ k (token_of s t) → x ≡ on_mark_or c m k (token_of s t)
  by_no_mark c m k Name h p = p
  by_no_mark c m k (Word w) h p = p
  by_no_mark c m k (Number neg v) h p = p
  by_no_mark c m k (Mark b) h p = absurd (miss (0 ∷ 1 ∷ 2 ∷ 4 ∷ []) 3 tt h)
  by_no_mark c m k End h p = p

  pub by_no_end : (m : Moveᴸ) (k : Tokenᴸ → Moveᴸ) (t : Token) → Only (0 ∷ 1 ∷ 2 ∷ 3 ∷ []) t → x ≡ k (token_of s t) → x ≡ on_end_or m k (token_of s t)
  by_no_end m k Name h p = p
  by_no_end m k (Word w) h p = p
  by_no_end m k (Number neg v) h p = p
  by_no_end m k (Mark b) h p = p
  by_no_end m k End h p = absurd (miss (0 ∷ 1 ∷ 2 ∷ 3 ∷ []) 4 tt h)

  pub by_end : (m : Moveᴸ) (k : Tokenᴸ → Moveᴸ) (t : Token) → Only (4 ∷ []) t → x ≡ m → x ≡ on_end_or m k (token_of s t)
  by_end m k Name h p = absurd (miss (4 ∷ []) 0 tt h)
  by_end m k (Word w) h p = absurd (miss (4 ∷ []) 1 tt h)
  by_end m k (Number neg v) h p = absurd (miss (4 ∷ []) 2 tt h)
  by_end m k (Mark b) h p = absurd (miss (4 ∷ []) 3 tt h)
  by_end m k End h p = p

  -- whether it is this mark
  pub by_is_mark : (c : ℕ) (m : Moveᴸ) (k : Tokenᴸ → Moveᴸ) (t : Token) (r : Bool) → r ≡ is_mark c t → r ≡ true → x ≡ m → x ≡ on_mark_or c m k (token_of s t)
  by_is_mark c m k Name r e h p = absurd (true≢false (sym h ∙ e))
  by_is_mark c m k (Word w) r e h p = absurd (true≢false (sym h ∙ e))
  by_is_mark c m k (Number neg v) r e h p = absurd (true≢false (sym h ∙ e))
  by_is_mark c m k (Mark b) r e h p = by_true x m (k (Tokenᴸ.mark b)) (eqb b c) (sym e ∙ h) p
  by_is_mark c m k End r e h p = absurd (true≢false (sym h ∙ e))

  pub by_is_no_mark : (c : ℕ) (m : Moveᴸ) (k : Tokenᴸ → Moveᴸ) (t : Token) (r : Bool) → r ≡ is_mark c t → r ≡ false → x ≡ k (token_of s t) → x ≡ on_mark_or c m k (token_of s t)
  by_is_no_mark c m k Name r e h p = p
  by_is_no_mark c m k (Word w) r e h p = p
  by_is_no_mark c m k (Number neg v) r e h p = p
  by_is_no_mark c m k (Mark b) r e h p = by_false x m (k (Tokenᴸ.mark b)) (eqb b c) (sym e ∙ h) p
  by_is_no_mark c m k End r e h p = p

  -- the first token of an instruction
  pub by_target : (t : Token) → Only (0 ∷ []) t → x ≡ to Stageᴸ.assignment (Actᴸ.set_target (bytes_of t s.name)) → x ≡ an_instruction (token_of s t)
  by_target t h p = p ∙ rw (is_name t h)

  pub by_word_alone : (t : Token) (w : ℕ) → t ≡ Word w → x ≡ word_alone w → x ≡ an_instruction (token_of s t)
  by_word_alone t w e p = rw e p

  pub by_no_instruction : (t : Token) → Only (1 ∷ 2 ∷ 3 ∷ 4 ∷ []) t → Only (0 ∷ 2 ∷ 3 ∷ 4 ∷ []) t → x ≡ wrong_move → x ≡ an_instruction (token_of s t)
  by_no_instruction Name h g p = absurd (miss (1 ∷ 2 ∷ 3 ∷ 4 ∷ []) 0 tt h)
  by_no_instruction (Word w) h g p = absurd (miss (0 ∷ 2 ∷ 3 ∷ 4 ∷ []) 1 tt g)
  by_no_instruction (Number neg v) h g p = p
  by_no_instruction (Mark b) h g p = p
  by_no_instruction End h g p = p

  -- whether it names a block
  pub by_block : (k : List ℕ → Moveᴸ) (t : Token) (r : Bool) → r ≡ names_block t → r ≡ true → x ≡ k (bytes_of t s.name) → x ≡ on_block k (token_of s t)
  by_block k Name r e h p = p
  by_block k (Word w) r e h p = by_true x (k []) wrong_move (eqb w entry_word) (sym e ∙ h) p
  by_block k (Number neg v) r e h p = absurd (true≢false (sym h ∙ e))
  by_block k (Mark b) r e h p = absurd (true≢false (sym h ∙ e))
  by_block k End r e h p = absurd (true≢false (sym h ∙ e))

  pub by_no_block : (k : List ℕ → Moveᴸ) (t : Token) (r : Bool) → r ≡ names_block t → r ≡ false → x ≡ wrong_move → x ≡ on_block k (token_of s t)
  by_no_block k Name r e h p = absurd (true≢false (sym e ∙ h))
  by_no_block k (Word w) r e h p = by_false x (k []) wrong_move (eqb w entry_word) (sym e ∙ h) p
  by_no_block k (Number neg v) r e h p = p
  by_no_block k (Mark b) r e h p = p
  by_no_block k End r e h p = p

-- A move to a stage that is known.
pub with_stage : (s : TokenSpot) (x : Stage) (a : Act) (y : Stageᴸ) (b : Actᴸ) → stage_is x ≡ y → act_of s a ≡ b → move_of s (record { stage = x; act = a }) ≡ to y b
with_stage s x a y b e f = ap (λ (z : Stageᴸ). to z (act_of s a)) e ∙ ap (to y) f

-- Whether it is this mark.
pub mark_is : (x : Bool) (c : ℕ) (t : Token) (b : ℕ) → t ≡ Mark b → x ≡ eqb b c → x ≡ is_mark c t
mark_is x c t b e p = rw e p

pub mark_not : (x : Bool) (c : ℕ) (t : Token) → Only (0 ∷ 1 ∷ 2 ∷ 4 ∷ []) t → x ≡ false → x ≡ is_mark c t
mark_not x c Name h p = p
mark_not x c (Word w) h p = p
mark_not x c (Number neg v) h p = p
mark_not x c (Mark b) h p = absurd (miss (0 ∷ 1 ∷ 2 ∷ 4 ∷ []) 3 tt h)
mark_not x c End h p = p

-- Whether it names a block.
pub block_name : (x : Bool) (t : Token) → Only (0 ∷ []) t → x ≡ true → x ≡ names_block t
block_name x t h p = rw (is_name t h) p

pub block_word : (x : Bool) (t : Token) (w : ℕ) → t ≡ Word w → x ≡ eqb w entry_word → x ≡ names_block t
block_word x t w e p = rw e p

pub block_not : (x : Bool) (t : Token) → Only (1 ∷ 2 ∷ 3 ∷ 4 ∷ []) t → Only (0 ∷ 2 ∷ 3 ∷ 4 ∷ []) t → x ≡ false → x ≡ names_block t
block_not x Name h g p = absurd (miss (1 ∷ 2 ∷ 3 ∷ 4 ∷ []) 0 tt h)
block_not x (Word w) h g p = absurd (miss (0 ∷ 2 ∷ 3 ∷ 4 ∷ []) 1 tt g)
block_not x (Number neg v) h g p = p
block_not x (Mark b) h g p = p
block_not x End h g p = p

-- What a callee answered about a test.
pub by_yes : {A : Type 0} (x y z : A) (r b : Bool) → r ≡ b → r ≡ true → x ≡ y → x ≡ cond b y z
by_yes x y z r b e h p = by_true x y z b (sym e ∙ h) p

pub by_no : {A : Type 0} (x y z : A) (r b : Bool) → r ≡ b → r ≡ false → x ≡ z → x ≡ cond b y z
by_no x y z r b e h p = by_false x y z b (sym e ∙ h) p

pub ruleset taken = (is_move, by_name, by_no_name, by_word, by_no_word, by_number, by_no_number, by_mark, by_no_mark, by_end, by_no_end, by_is_mark, by_is_no_mark, by_target, by_word_alone, by_no_instruction, by_block, by_no_block, with_stage, by_yes, by_no, mark_is, mark_not, block_name, block_word, block_not, is_stage, branches)
