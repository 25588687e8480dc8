-- From every stage some tokens lead to the end of a text, so that a token which is allowed can always be continued.
-- Assumes nothing.
use mathlib.Core.Bool.{false}
use mathlib.Core.List.{List, [], ◌∷◌}
use mathlib.Core.Path.{◌≡◌, refl}
use Prim.Native.Nat.{ℕ, zero, suc, ◌+◌}
use native.Mathlib.Omega.{arith}
use Rattle.language.specs.Bytes.{bytes_of, left_paren, right_paren, left_brace, right_brace, comma, semicolon, equals}
use Rattle.language.specs.Words.{void_word, first_type, first_instruction}
use Rattle.language.specs.Instructions.{Operand, form_of}
use Rattle.language.specs.Tokens.{Token}
use Rattle.language.specs.Grammar.{Bracketed, Stage, Act, after_sources, after_word, in_operand, word_with_target, word_alone, next_move}
use Rattle.language.specs.Refusals.{Leads, EveryStageLeads}

clash : ◌≡◌ {A = ℕ} 0 1 → ⊥
clash e = omega arith

pub wrong? : (a : Act) → Dec (a ≡ Act.wrong)
wrong? Act.wrong = yes refl
wrong? Act.pass = no (λ e. clash cc)
wrong? Act.begin_function = no (λ e. clash cc)
wrong? Act.mark_ssa = no (λ e. clash cc)
wrong? Act.begin_register = no (λ e. clash cc)
wrong? Act.begin_block = no (λ e. clash cc)
wrong? (Act.set_result t) = no (λ e. clash cc)
wrong? (Act.name_function n) = no (λ e. clash cc)
wrong? (Act.name_block n) = no (λ e. clash cc)
wrong? (Act.name_parameter t n) = no (λ e. clash cc)
wrong? (Act.name_register t n) = no (λ e. clash cc)
wrong? (Act.begin_instruction op) = no (λ e. clash cc)
wrong? (Act.set_instruction op) = no (λ e. clash cc)
wrong? (Act.set_target n) = no (λ e. clash cc)
wrong? (Act.add_source n) = no (λ e. clash cc)
wrong? (Act.add_entry n) = no (λ e. clash cc)
wrong? (Act.add_mention n) = no (λ e. clash cc)
wrong? (Act.set_number s v) = no (λ e. clash cc)
wrong? Act.end_instruction = no (λ e. clash cc)
wrong? Act.end_block = no (λ e. clash cc)
wrong? Act.end_function = no (λ e. clash cc)

end? : (t : Token) → Dec (t ≡ Token.end)
end? (Token.name n) = no (λ e. clash cc)
end? (Token.word w) = no (λ e. clash cc)
end? (Token.number s v) = no (λ e. clash cc)
end? (Token.mark b) = no (λ e. clash cc)
end? Token.end = yes refl

-- ---- tokens that lead to the end

abbrev Leading : Stage → Type 0
Leading s = (ts : List Token) × Leads s ts

-- One token more, before those that lead on from the stage it leads to.
by_mark : (s : Stage) (b : ℕ) → ¬ ((next_move s (Token.mark b)).act ≡ Act.wrong) → Leading (next_move s (Token.mark b)).stage → Leading s
by_mark s b w h = (Token.mark b ∷ h.0, Leads.token (λ (e : Token.mark b ≡ Token.end). clash cc) w h.1)

by_word : (s : Stage) (n : ℕ) → ¬ ((next_move s (Token.word n)).act ≡ Act.wrong) → Leading (next_move s (Token.word n)).stage → Leading s
by_word s n w h = (Token.word n ∷ h.0, Leads.token (λ (e : Token.word n ≡ Token.end). clash cc) w h.1)

abbrev a_name : List ℕ
a_name = bytes_of "a"

by_name : (s : Stage) → ¬ ((next_move s (Token.name a_name)).act ≡ Act.wrong) → Leading (next_move s (Token.name a_name)).stage → Leading s
by_name s w h = (Token.name a_name ∷ h.0, Leads.token (λ (e : Token.name a_name ≡ Token.end). clash cc) w h.1)

by_number : (s : Stage) → ¬ ((next_move s (Token.number false 0)).act ≡ Act.wrong) → Leading (next_move s (Token.number false 0)).stage → Leading s
by_number s w h = (Token.number false 0 ∷ h.0, Leads.token (λ (e : Token.number false 0 ≡ Token.end). clash cc) w h.1)

lead_top : Leading Stage.top
lead_top = (Token.end ∷ [], Leads.end)

lead_blocks : Leading Stage.blocks
unfolding next_move
lead_blocks = by_mark Stage.blocks right_brace (λ e. clash cc) lead_top

lead_next : Leading Stage.next_instruction
unfolding next_move
lead_next = by_mark Stage.next_instruction right_brace (λ e. clash cc) lead_blocks

lead_end : Leading Stage.instruction_end
unfolding next_move
lead_end = by_mark Stage.instruction_end semicolon (λ e. clash cc) lead_next

lead_operand_end : Leading Stage.operand_end
unfolding next_move
lead_operand_end = by_mark Stage.operand_end right_paren (λ e. clash cc) lead_end

lead_number : Leading Stage.number
unfolding next_move
lead_number = by_number Stage.number (λ e. clash cc) lead_operand_end

lead_entry_end : Leading Stage.entry_end
unfolding next_move
lead_entry_end = by_mark Stage.entry_end right_paren (λ e. clash cc) lead_end

lead_entry : Leading Stage.entry
unfolding next_move
lead_entry = by_name Stage.entry (λ e. clash cc) lead_entry_end

lead_mention : (k : ℕ) → Leading (Stage.mention k)
unfolding next_move
lead_mention zero = by_name (Stage.mention zero) (λ e. clash cc) lead_operand_end
lead_mention (suc k) =
    by_name (Stage.mention (suc k)) (λ e. clash cc) (by_mark (Stage.mention_comma k) comma (λ e. clash cc) (lead_mention k))

lead_in_operand : (o : Bracketed) → Leading (in_operand o)
lead_in_operand Bracketed.number = lead_number
lead_in_operand Bracketed.registers = lead_entry
lead_in_operand Bracketed.block = lead_mention 0
lead_in_operand Bracketed.blocks = lead_mention 1

lead_operand : (o : Bracketed) → Leading (Stage.operand o)
unfolding next_move
lead_operand o = by_mark (Stage.operand o) left_paren (λ e. clash cc) (lead_in_operand o)

lead_after_sources : (o : Operand) → Leading (after_sources o)
lead_after_sources Operand.none = lead_end
lead_after_sources Operand.number = lead_operand Bracketed.number
lead_after_sources Operand.registers = lead_operand Bracketed.registers
lead_after_sources Operand.block = lead_operand Bracketed.block
lead_after_sources Operand.blocks = lead_operand Bracketed.blocks

lead_source : (k : ℕ) (o : Operand) → Leading (Stage.source k o)
unfolding next_move
lead_source zero o = by_name (Stage.source zero o) (λ e. clash cc) (lead_after_sources o)
lead_source (suc k) o =
    by_name (Stage.source (suc k) o) (λ e. clash cc) (by_mark (Stage.source_comma k o) comma (λ e. clash cc) (lead_source k o))

-- `load.i8`, and `nop`.
lead_instruction : Leading Stage.instruction
unfolding next_move word_with_target after_word form_of
lead_instruction = by_word Stage.instruction (first_instruction + 1) (λ e. clash cc) (lead_operand Bracketed.number)

lead_first_instruction : Leading Stage.first_instruction
unfolding next_move word_alone after_word form_of
lead_first_instruction = by_word Stage.first_instruction first_instruction (λ e. clash cc) lead_end

lead_block_body : Leading Stage.block_body
unfolding next_move
lead_block_body = by_mark Stage.block_body left_brace (λ e. clash cc) lead_first_instruction

lead_declarations : Leading Stage.declarations
unfolding next_move
lead_declarations = by_mark Stage.declarations right_brace (λ e. clash cc) lead_top

lead_register_end : Leading Stage.register_end
unfolding next_move
lead_register_end = by_mark Stage.register_end semicolon (λ e. clash cc) lead_declarations

lead_register_name : (t : ℕ) → Leading (Stage.register_name t)
unfolding next_move
lead_register_name t = by_name (Stage.register_name t) (λ e. clash cc) lead_register_end

lead_body : Leading Stage.body
unfolding next_move
lead_body = by_mark Stage.body left_brace (λ e. clash cc) lead_declarations

lead_parameter_end : Leading Stage.parameter_end
unfolding next_move
lead_parameter_end = by_mark Stage.parameter_end right_paren (λ e. clash cc) lead_body

lead_parameter_name : (t : ℕ) → Leading (Stage.parameter_name t)
unfolding next_move
lead_parameter_name t = by_name (Stage.parameter_name t) (λ e. clash cc) lead_parameter_end

lead_first_parameter : Leading Stage.first_parameter
unfolding next_move
lead_first_parameter = by_mark Stage.first_parameter right_paren (λ e. clash cc) lead_body

lead_parameters : Leading Stage.parameters
unfolding next_move
lead_parameters = by_mark Stage.parameters left_paren (λ e. clash cc) lead_first_parameter

lead_function_name : Leading Stage.function_name
unfolding next_move
lead_function_name = by_name Stage.function_name (λ e. clash cc) lead_parameters

pub every_stage_leads : EveryStageLeads
unfolding EveryStageLeads next_move
every_stage_leads Stage.top = lead_top
every_stage_leads Stage.header = by_word Stage.header void_word (λ e. clash cc) lead_function_name
every_stage_leads Stage.result = by_word Stage.result void_word (λ e. clash cc) lead_function_name
every_stage_leads Stage.function_name = lead_function_name
every_stage_leads Stage.parameters = lead_parameters
every_stage_leads Stage.first_parameter = lead_first_parameter
every_stage_leads Stage.parameter = by_word Stage.parameter first_type (λ e. clash cc) (lead_parameter_name 0)
every_stage_leads (Stage.parameter_name t) = lead_parameter_name t
every_stage_leads Stage.parameter_end = lead_parameter_end
every_stage_leads Stage.body = lead_body
every_stage_leads Stage.declarations = lead_declarations
every_stage_leads Stage.register_type = by_word Stage.register_type first_type (λ e. clash cc) (lead_register_name 0)
every_stage_leads (Stage.register_name t) = lead_register_name t
every_stage_leads Stage.register_end = lead_register_end
every_stage_leads Stage.blocks = lead_blocks
every_stage_leads Stage.block_name = by_name Stage.block_name (λ e. clash cc) lead_block_body
every_stage_leads Stage.block_body = lead_block_body
every_stage_leads Stage.first_instruction = lead_first_instruction
every_stage_leads Stage.next_instruction = lead_next
every_stage_leads Stage.assignment = by_mark Stage.assignment equals (λ e. clash cc) lead_instruction
every_stage_leads Stage.instruction = lead_instruction
every_stage_leads (Stage.source k o) = lead_source k o
every_stage_leads (Stage.source_comma k o) = by_mark (Stage.source_comma k o) comma (λ e. clash cc) (lead_source k o)
every_stage_leads (Stage.operand o) = lead_operand o
every_stage_leads Stage.number = lead_number
every_stage_leads Stage.entry = lead_entry
every_stage_leads Stage.entry_end = lead_entry_end
every_stage_leads (Stage.mention k) = lead_mention k
every_stage_leads (Stage.mention_comma k) = by_mark (Stage.mention_comma k) comma (λ e. clash cc) (lead_mention k)
every_stage_leads Stage.operand_end = lead_operand_end
every_stage_leads Stage.instruction_end = lead_end

-- ---- tokens that are allowed

-- The end is allowed between functions alone.
end_at_top : (s : Stage) → ¬ ((next_move s Token.end).act ≡ Act.wrong) → Leads s (Token.end ∷ [])
unfolding next_move
end_at_top Stage.top w = Leads.end
end_at_top Stage.header w = absurd (w refl)
end_at_top Stage.result w = absurd (w refl)
end_at_top Stage.function_name w = absurd (w refl)
end_at_top Stage.parameters w = absurd (w refl)
end_at_top Stage.first_parameter w = absurd (w refl)
end_at_top Stage.parameter w = absurd (w refl)
end_at_top (Stage.parameter_name t) w = absurd (w refl)
end_at_top Stage.parameter_end w = absurd (w refl)
end_at_top Stage.body w = absurd (w refl)
end_at_top Stage.declarations w = absurd (w refl)
end_at_top Stage.register_type w = absurd (w refl)
end_at_top (Stage.register_name t) w = absurd (w refl)
end_at_top Stage.register_end w = absurd (w refl)
end_at_top Stage.blocks w = absurd (w refl)
end_at_top Stage.block_name w = absurd (w refl)
end_at_top Stage.block_body w = absurd (w refl)
end_at_top Stage.first_instruction w = absurd (w refl)
end_at_top Stage.next_instruction w = absurd (w refl)
end_at_top Stage.assignment w = absurd (w refl)
end_at_top Stage.instruction w = absurd (w refl)
end_at_top (Stage.source k o) w = absurd (w refl)
end_at_top (Stage.source_comma k o) w = absurd (w refl)
end_at_top (Stage.operand o) w = absurd (w refl)
end_at_top Stage.number w = absurd (w refl)
end_at_top Stage.entry w = absurd (w refl)
end_at_top Stage.entry_end w = absurd (w refl)
end_at_top (Stage.mention k) w = absurd (w refl)
end_at_top (Stage.mention_comma k) w = absurd (w refl)
end_at_top Stage.operand_end w = absurd (w refl)
end_at_top Stage.instruction_end w = absurd (w refl)

-- A token that is allowed can be continued, and only such a one.
pub allowed_leads : (s : Stage) (t : Token) → ¬ ((next_move s t).act ≡ Act.wrong) → (ts : List Token) × Leads s (t ∷ ts)
unfolding EveryStageLeads
allowed_leads s t w = by (end? t)
  where
    by : Dec (t ≡ Token.end) → (ts : List Token) × Leads s (t ∷ ts)
    by (yes e) = ([], rw e (end_at_top s (rw e at w)))
    by (no e) = let h = every_stage_leads (next_move s t).stage in (h.0, Leads.token e w h.1)

pub leads_allowed : {s : Stage} {t : Token} {ts : List Token} → Leads s (t ∷ ts) → ¬ ((next_move s t).act ≡ Act.wrong)
unfolding next_move
leads_allowed Leads.end = λ e. clash cc
leads_allowed (Leads.token n w h) = w
