-- "cells not needed are .. ignored in an input", for the entry points themselves: a call is known here by what its contract says of it, and by
-- nothing else.
-- Assumes nothing.
use Rattle.std.specs.Prelude.{◌≡◌, Bool, List, ℕ, ⊤}
use Rattle.std.specs.declared.result.Result.{Result}
use Rattle.theorems.specs.TableNeeds.{Agree}
use Rattle.answers.specs.declared.reasons.Refusal.{Refusal}
use Rattle.answers.specs.declared.Ran.{Ran}
use Rattle.ial.specs.Calls.{CheckCalled, SignatureCalled, RunCalled, RunEachCalled, TranslateCalled, WriteCalled}

-- Two calls, one on table t and one on table u and otherwise alike, answer the same and leave the same in what was lent.
pub record SameCalls (t u : List ℕ) : Type 0 where
  pub check : (r s : Result ⊤ Refusal) → CheckCalled t r → CheckCalled u s → r ≡ s
  pub signature :
      (i result : ℕ) (types : List ℕ) (r s : Bool) → SignatureCalled t i result types r → SignatureCalled u i result types s → r ≡ s
  pub run :
      (i : ℕ) (args : List ℕ) (budget n : ℕ) (x y : Result Ran Refusal) (g h : List ℕ)
      → RunCalled t i args budget n x g
      → RunCalled u i args budget n y h
      → (x ≡ y) × (g ≡ h)
  pub run_each :
      (i : ℕ) (args : List ℕ) (budget n m : ℕ) (r s : Result ⊤ Refusal) (out out' g h : List ℕ)
      → RunEachCalled t i args budget n m r out g
      → RunEachCalled u i args budget n m s out' h
      → (r ≡ s) × (out ≡ out') × (g ≡ h)
  pub translate :
      (i n : ℕ) (r s : Result ⊤ Refusal) (out out' : List ℕ)
      → TranslateCalled t i n r out
      → TranslateCalled u i n s out'
      → (r ≡ s) × (out ≡ out')
  pub write : (n : ℕ) (r s : Result ℕ Refusal) (b b' : List ℕ) → WriteCalled t n r b → WriteCalled u n s b' → (r ≡ s) × (b ≡ b')

abbrev pub IgnoredInCalls : Type 0
IgnoredInCalls = (t u : List ℕ) → Agree t u → SameCalls t u
