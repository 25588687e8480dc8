-- What a word says, case by case, and the function that it names. Assumes nothing.
use mathlib.Core.Path.{◌≡◌, refl, sym, ap, ◌∙◌}
use mathlib.Core.Bool.{Bool, true, false}
use mathlib.Core.List.{List}
use Prim.Native.Nat.{ℕ, ◌+◌, ◌*◌, ◌<◌}
use native.Mathlib.Omega.{arith}
use lib.ListN.{length, get_or}
use Rattle.laws.specs.Lists.{same, position, below}
use Rattle.laws.proofs.Positions.{position_of}
use Rattle.language.specs.Programs.{Func, no_function}
use Rattle.language.specs.Table.{function_at, function_count, name_at, decode_function, decode, function_length, function_names_offset}
use Rattle.language.proofs.TableView.{function_count_law, function_is}
use Rattle.table.specs.Named.{is_named, first_named}
use Rattle.call_words.specs.Words.{function_named}

-- ---- a name

named_at : (t : List ℕ) (word : List ℕ) (i : ℕ) → i < length (decode t) → is_named t function_names_offset function_length word i ≡ same (get_or (decode t) i no_function).name word
unfolding decode_function
named_at t word i l =
    let here : function_names_offset + function_length * i ≡ function_at i + 8 = omega arith in
    rw (function_is t i (rw (function_count_law t) at l)) (ap (λ (k : ℕ). same (name_at t k) word) here)

pub named_is : (t word : List ℕ) {r n : ℕ} → n ≡ function_count t → r ≡ first_named t function_names_offset function_length n word → r ≡ function_named (decode t) word
unfolding first_named function_named
named_is t word e h =
    h
    ∙ ap (λ (k : ℕ). position (is_named t function_names_offset function_length word) (below k)) (e ∙ sym (function_count_law t))
    ∙ position_of (λ (f : Func). same f.name word) (is_named t function_names_offset function_length word) no_function (decode t) (named_at t word)
