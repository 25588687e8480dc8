-- Demand 3, sentence by sentence, in its own order: the translation of a function first, then, for any arguments that fit, the runs.
-- The statements over programs (here), over tables (OverTables) and of calls (`ial`'s Demand) cite these words.
-- Assumes nothing.
use Rattle.std.specs.Prelude.{◌≡◌, not, List, [], ◌∷◌, ℕ, ◌*◌, ◌≤◌, ◌<◌, T, length}
use Rattle.laws.specs.Lists.{any}
use Rattle.language.specs.Programs.{Func, Program, function_in, is_ssa, is_phi, rows_of}
use Rattle.language.specs.Checking.{Verdict, check}
use Rattle.language.specs.Running.{Outcome, Ends, NotEnded, arguments_fit}
use Rattle.language.specs.Translating.{translation, translation_fits, step_formula}

-- "Take any function accepted as ssa, in a table that passes its check whole, whose translated size is within the limits": function i of a
-- program that the check gives this verdict.
pub record Translatable (verdict : Verdict) (p : Program) (i : ℕ) : Type 0 where
  pub passes : verdict ≡ Verdict.accepted
  pub there : i < length p
  pub marked : T (is_ssa (function_in p i))
  pub sized : T (translation_fits (function_in p i))

-- Source f and translation g, run on these arguments "without a budget".
pub record RunsAlike (f g : Func) (args : List ℕ) : Type 0 where
  -- "The translation ends exactly if the source does": only if, here; if, in the next field.
  pub only_if : (m : ℕ) (o : Outcome) → Ends g args m o → (n : ℕ) × Ends f args n o × (m ≡ step_formula f args n)
  -- "If the source ends after n steps, the translation ends with the same returned value, the same return without one, or the same stop
  -- number. It does so after exactly the steps that document 01's step formula counts,"
  pub ends : (n : ℕ) (o : Outcome) → Ends f args n o → Ends g args (step_formula f args n) o
  -- "and these are at least n and at most 3n."
  pub at_least : (n : ℕ) (o : Outcome) → Ends f args n o → n ≤ step_formula f args n
  pub at_most : (n : ℕ) (o : Outcome) → Ends f args n o → step_formula f args n ≤ 3 * n
  -- "For every n, if the source has not ended after n steps, the translation has not ended after n steps either."
  pub not_ended : (n : ℕ) → NotEnded f args n → NotEnded g args n

-- Translating f gave g: over programs g is `translation f` itself, over tables what the output's cells hold.
pub record Translates (f g : Func) : Type 0 where
  -- "Translating it gives the translation that document 01 defines,"
  pub defined : g ≡ translation f
  -- "which has no phi and is accepted without ssa."
  pub no_phi : T (not (any is_phi (rows_of g)))
  pub unmarked : g.ssa ≡ 0
  pub accepted : check (g ∷ []) ≡ Verdict.accepted
  -- "Now take any arguments that fit, and run the source and the translation on them"
  pub runs : (args : List ℕ) → T (arguments_fit f args) → RunsAlike f g args

abbrev pub Demand3 : Type 0
Demand3 =
    (p : Program) (i : ℕ)
    → Translatable (check p) p i
    → Translates (function_in p i) (translation (function_in p i))
