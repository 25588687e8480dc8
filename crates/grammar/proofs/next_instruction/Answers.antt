-- `grammar::next_instruction`: the brace, or an instruction.
use mathlib.Core.Path.{◌≡◌, refl, sym, ◌∙◌}
use mathlib.Core.Bool.{Bool, true, false, cond, true≢false}
use lib.Dec.{eqb}
use Rattle.language.specs.Grammar.{Move as Moveᴸ, Act as Actᴸ, Stage as Stageᴸ, to, an_instruction, next_move}
use Rattle.grammar.specs.declared.Token.{Token}
use Rattle.grammar.specs.Meaning.{TokenSpot, token_of, spot_of, move_of, is_mark}
use Rattle.grammar.proofs.Taken.{is_move, by_is_mark, by_is_no_mark}
use Rattle.grammar.proofs.next_instruction.Goals as goal

module _ (s : TokenSpot) (x : Moveᴸ) (t : Token) (r : Bool) where
  ends : (b : Bool) → r ≡ cond b (is_mark 125 t) false → r ≡ true → x ≡ to Stageᴸ.blocks Actᴸ.end_block
      → x ≡ next_move (cond b Stageᴸ.next_instruction Stageᴸ.first_instruction) (token_of s t)
  unfolding next_move
  ends true e h p = by_is_mark s x 125 (to Stageᴸ.blocks Actᴸ.end_block) an_instruction t r e h p
  ends false e h p = absurd (true≢false (sym h ∙ e))

  goes_on : (b : Bool) → r ≡ cond b (is_mark 125 t) false → r ≡ false → x ≡ next_move Stageᴸ.first_instruction (token_of s t)
      → x ≡ next_move (cond b Stageᴸ.next_instruction Stageᴸ.first_instruction) (token_of s t)
  unfolding next_move
  goes_on true e h p = by_is_no_mark s x 125 (to Stageᴸ.blocks Actᴸ.end_block) an_instruction t r e h p
  goes_on false e h p = p

pub returns-then-ends_block : goal.returns-then-ends_block
returns-then-ends_block c s =
    let a = c.args in
    ends s (move_of (spot_of a.token s) c.to.result) a.token c.ends_block.result (eqb a.kind 18) c.ends_block.ensures c.if-ends_block.true (is_move (spot_of a.token s) _ _ _ c.to.ensures refl)

pub returns : goal.returns
returns c s =
    let a = c.args in
    goes_on s (move_of (spot_of a.token s) c.first_instruction.result) a.token c.ends_block.result (eqb a.kind 18) c.ends_block.ensures c.if-ends_block.false (c.first_instruction.ensures s)
