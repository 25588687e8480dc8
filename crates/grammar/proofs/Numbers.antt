-- The grammar's small definitions at the numbers that the code tests. Assumes nothing.
use mathlib.Core.Path.{◌≡◌, refl, ap, ◌∙◌, sym}
use mathlib.Core.Bool.{Bool, true, false, cond, not, ◌&&◌}
use Prim.Native.Nat.{ℕ, zero, suc, ◌-◌, ◌≤◌}
use native.Mathlib.Omega.{arith}
use lib.Dec.{leb, ltb, leb→le}
use lib.Ieee.Fits.{and_l}
use borrow.Author.Tests.{not-true, not-false}
use Rattle.laws.proofs.Tests.{of_true}
use Rattle.language.specs.Words.{is_type, is_instruction, first_type, first_instruction, instruction_of, word_count}
use Rattle.language.specs.Instructions.{Operand}
use Rattle.language.specs.Grammar.{Stage as Stageᴸ, Act as Actᴸ, Move as Moveᴸ, to, wrong_move, after_word, word_alone, word_with_target, after_sources, after_source, after_mention, sources, in_operand}
use Rattle.instructions.specs.Shapes.{operand_number, shape_of}
use Rattle.instructions.specs.declared.Shape.{Shape}
use Rattle.grammar.specs.Meaning.{operand_from, bracketed_from, stage_of}

-- What a word is that is found to be a type or an instruction.
pub type_word : (w : ℕ) (r : Bool) → r ≡ is_type w → r ≡ true → first_type ≤ w
type_word w r e h = leb→le first_type w (and_l (leb first_type w) (ltb w first_instruction) (of_true (is_type w) (sym e ∙ h)))

pub instruction_word : (w : ℕ) (r : Bool) → r ≡ is_instruction w → r ≡ true → first_instruction ≤ w
instruction_word w r e h = leb→le first_instruction w (and_l (leb first_instruction w) (ltb w word_count) (of_true (is_instruction w) (sym e ∙ h)))

pub operand_number_law : (o : Operand) → operand_from (operand_number o) ≡ o
operand_number_law Operand.none = refl
operand_number_law Operand.number = refl
operand_number_law Operand.registers = refl
operand_number_law Operand.block = refl
operand_number_law Operand.blocks = refl

-- What follows, where there is none more and where there is: as a rule for a stage that is to be it.
module _ (x : Stageᴸ) where
  pub after_sources_none : (d : ℕ) → d ≡ 0 → x ≡ Stageᴸ.instruction_end → x ≡ after_sources (operand_from d)
  after_sources_none d e p = rw e p

  pub after_sources_some : (d : ℕ) → (d ≡ 0 → ⊥) → x ≡ Stageᴸ.operand (bracketed_from d) → x ≡ after_sources (operand_from d)
  after_sources_some zero n p = absurd (n refl)
  after_sources_some (suc zero) n p = p
  after_sources_some (suc (suc zero)) n p = p
  after_sources_some (suc (suc (suc zero))) n p = p
  after_sources_some (suc (suc (suc (suc d)))) n p = p

  pub after_source_none : (k : ℕ) (o : Operand) → k ≡ 0 → x ≡ after_sources o → x ≡ after_source k o
  after_source_none k o e p = rw e p

  pub after_source_more : (k : ℕ) (o : Operand) → (k ≡ 0 → ⊥) → x ≡ Stageᴸ.source_comma (k - 1) o → x ≡ after_source k o
  after_source_more zero o n p = absurd (n refl)
  after_source_more (suc k) o n p = p ∙ ap (λ (j : ℕ). Stageᴸ.source_comma j o) (omega arith)

  pub sources_none : (k : ℕ) (o : Operand) → k ≡ 0 → x ≡ after_sources o → x ≡ sources k o
  sources_none k o e p = rw e p

  pub sources_more : (k : ℕ) (o : Operand) → (k ≡ 0 → ⊥) → x ≡ Stageᴸ.source (k - 1) o → x ≡ sources k o
  sources_more zero o n p = absurd (n refl)
  sources_more (suc k) o n p = p ∙ ap (λ (j : ℕ). Stageᴸ.source j o) (omega arith)

  -- the numbers as they are widened
  pub sources_wide : (k k' d d' : ℕ) → x ≡ sources k (operand_from d) → k ≡ k' → d ≡ d' → x ≡ sources k' (operand_from d')
  sources_wide k k' d d' p e f = p ∙ rw (e, f)

  pub after_mention_none : (k : ℕ) → k ≡ 0 → x ≡ Stageᴸ.operand_end → x ≡ after_mention k
  after_mention_none k e p = rw e p

  pub after_mention_more : (k : ℕ) → (k ≡ 0 → ⊥) → x ≡ Stageᴸ.mention_comma (k - 1) → x ≡ after_mention k
  after_mention_more zero n p = absurd (n refl)
  after_mention_more (suc k) n p = p ∙ ap Stageᴸ.mention_comma (omega arith)

  pub in_operand_law : (d j : ℕ) → d ≡ j → x ≡ in_operand (bracketed_from j) → x ≡ in_operand (bracketed_from d)
  in_operand_law d j e p = rw e p

  pub in_operand_blocks : (d : ℕ) → (d ≡ 1 → ⊥) → (d ≡ 2 → ⊥) → (d ≡ 3 → ⊥) → x ≡ Stageᴸ.mention 1 → x ≡ in_operand (bracketed_from d)
  in_operand_blocks zero a b c p = p
  in_operand_blocks (suc zero) a b c p = absurd (a refl)
  in_operand_blocks (suc (suc zero)) a b c p = absurd (b refl)
  in_operand_blocks (suc (suc (suc zero))) a b c p = absurd (c refl)
  in_operand_blocks (suc (suc (suc (suc d)))) a b c p = p

pub detail_wide : (k m d d' : ℕ) (x : Stageᴸ) → d ≡ d' → stage_of k m d' ≡ x → stage_of k m d ≡ x
detail_wide k m d d' x e p = ap (stage_of k m) e ∙ p

-- An instruction word, by what it is and by the shape of its instruction.
module _ (w : ℕ) (r : Bool) (e : r ≡ is_instruction w) where
  module _ (h : Shape) (q : h ≡ shape_of (instruction_of w)) where
    abbrev next : Stageᴸ
    next = sources h.sources (operand_from h.operand)

    with_target : word_with_target w ≡ cond (r && h.target) (to next (Actᴸ.set_instruction (instruction_of w))) wrong_move
    unfolding word_with_target after_word shape_of
    with_target = rw (e, q, operand_number_law)

    alone : word_alone w ≡ cond (r && not h.target) (to next (Actᴸ.begin_instruction (instruction_of w))) wrong_move
    unfolding word_alone after_word shape_of
    alone = rw (e, q, operand_number_law)

  module _ (x : Moveᴸ) where
    pub with_target_none : not r ≡ true → x ≡ wrong_move → x ≡ word_with_target w
    with_target_none n p = p ∙ sym (with_target (shape_of (instruction_of w)) refl ∙ simp (not-true r n))

    pub alone_none : not r ≡ true → x ≡ wrong_move → x ≡ word_alone w
    alone_none n p = p ∙ sym (alone (shape_of (instruction_of w)) refl ∙ simp (not-true r n))

    module _ (n : not r ≡ false) (h : Shape) (q : h ≡ shape_of (instruction_of w)) where
      pub with_target_yes : h.target ≡ true → x ≡ to (next h q) (Actᴸ.set_instruction (instruction_of w)) → x ≡ word_with_target w
      with_target_yes t p = p ∙ sym (with_target h q ∙ simp (not-false r n, t))

      pub with_target_no : h.target ≡ false → x ≡ wrong_move → x ≡ word_with_target w
      with_target_no t p = p ∙ sym (with_target h q ∙ simp (not-false r n, t))

      pub alone_yes : h.target ≡ false → x ≡ to (next h q) (Actᴸ.begin_instruction (instruction_of w)) → x ≡ word_alone w
      alone_yes t p = p ∙ sym (alone h q ∙ simp (not-false r n, t))

      pub alone_no : h.target ≡ true → x ≡ wrong_move → x ≡ word_alone w
      alone_no t p = p ∙ sym (alone h q ∙ simp (not-false r n, t))

pub ruleset numbers = (type_word, instruction_word, not-false, after_sources_none, after_sources_some, after_source_none, after_source_more, sources_none, sources_more, sources_wide, detail_wide, after_mention_none, after_mention_more, in_operand_law, in_operand_blocks, with_target_none, with_target_yes, with_target_no, alone_none, alone_yes, alone_no)
