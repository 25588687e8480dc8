-- `vocabulary::spellings::spelling_of`: each word by its number.
use mathlib.Core.Path.{◌≡◌, sym, subst}
use Prim.Native.Nat.{ℕ}
use native.Mathlib.Omega.{arith}
use lib.ListN.{length, drop}
use Rattle.laws.proofs.Matches.{past}
use Rattle.language.specs.Words.{words, spelling_of}
use Rattle.language.specs.Candidates.{first_byte}
use Rattle.vocabulary.specs.Packed.{packed}
use Rattle.vocabulary.specs.declared.spellings.Spelling.{Spelling}
use Rattle.vocabulary.proofs.spellings.spelling_of.Goals as goal

abbrev Is : Spelling → ℕ → Type 0
Is r w = (r.count ≡ length (spelling_of w)) × (r.first ≡ first_byte (spelling_of w)) × (r.rest ≡ packed (drop 1 (spelling_of w)))

number : {r : Spelling} {k w : ℕ} → w ≡ k → Is r k → Is r w
number {r} e s = subst (Is r) (sym e) s

pub returns-in-0 : goal.returns-in-0
unfolding words
returns-in-0 c = number c.in-0.is c.spelled.ensures

pub returns-in-1 : goal.returns-in-1
unfolding words
returns-in-1 c = number c.in-1.is c.spelled-in-1.ensures

pub returns-in-2 : goal.returns-in-2
unfolding words
returns-in-2 c = number c.in-2.is c.spelled-in-2.ensures

pub returns-in-3 : goal.returns-in-3
unfolding words
returns-in-3 c = number c.in-3.is c.spelled-in-3.ensures

pub returns-in-4 : goal.returns-in-4
unfolding words
returns-in-4 c = number c.in-4.is c.spelled-in-4.ensures

pub returns-in-5 : goal.returns-in-5
unfolding words
returns-in-5 c = number c.in-5.is c.spelled-in-5.ensures

pub returns-in-6 : goal.returns-in-6
unfolding words
returns-in-6 c = number c.in-6.is c.spelled-in-6.ensures

pub returns-in-7 : goal.returns-in-7
unfolding words
returns-in-7 c = number c.in-7.is c.spelled-in-7.ensures

pub returns-in-8 : goal.returns-in-8
unfolding words
returns-in-8 c = number c.in-8.is c.spelled-in-8.ensures

pub returns-in-9 : goal.returns-in-9
unfolding words
returns-in-9 c = number c.in-9.is c.spelled-in-9.ensures

pub returns-in-10 : goal.returns-in-10
unfolding words
returns-in-10 c = number c.in-10.is c.spelled-in-10.ensures

pub returns-in-11 : goal.returns-in-11
unfolding words
returns-in-11 c = number c.in-11.is c.spelled-in-11.ensures

pub returns-in-12 : goal.returns-in-12
unfolding words
returns-in-12 c = number c.in-12.is c.spelled-in-12.ensures

pub returns-in-13 : goal.returns-in-13
unfolding words
returns-in-13 c = number c.in-13.is c.spelled-in-13.ensures

pub returns-in-14 : goal.returns-in-14
unfolding words
returns-in-14 c = number c.in-14.is c.spelled-in-14.ensures

pub returns-in-15 : goal.returns-in-15
unfolding words
returns-in-15 c = number c.in-15.is c.spelled-in-15.ensures

pub returns-in-16 : goal.returns-in-16
unfolding words
returns-in-16 c = number c.in-16.is c.spelled-in-16.ensures

pub returns-in-17 : goal.returns-in-17
unfolding words
returns-in-17 c = number c.in-17.is c.spelled-in-17.ensures

pub returns-in-18 : goal.returns-in-18
unfolding words
returns-in-18 c = number c.in-18.is c.spelled-in-18.ensures

pub returns-in-19 : goal.returns-in-19
unfolding words
returns-in-19 c = number c.in-19.is c.spelled-in-19.ensures

pub returns-in-20 : goal.returns-in-20
unfolding words
returns-in-20 c = number c.in-20.is c.spelled-in-20.ensures

pub returns-in-21 : goal.returns-in-21
unfolding words
returns-in-21 c = number c.in-21.is c.spelled-in-21.ensures

pub returns-in-22 : goal.returns-in-22
unfolding words
returns-in-22 c = number c.in-22.is c.spelled-in-22.ensures

pub returns-in-23 : goal.returns-in-23
unfolding words
returns-in-23 c = number c.in-23.is c.spelled-in-23.ensures

pub returns-in-24 : goal.returns-in-24
unfolding words
returns-in-24 c = number c.in-24.is c.spelled-in-24.ensures

pub returns-in-25 : goal.returns-in-25
unfolding words
returns-in-25 c = number c.in-25.is c.spelled-in-25.ensures

pub returns-in-26 : goal.returns-in-26
unfolding words
returns-in-26 c = number c.in-26.is c.spelled-in-26.ensures

pub returns-in-27 : goal.returns-in-27
unfolding words
returns-in-27 c = number c.in-27.is c.spelled-in-27.ensures

pub returns-in-28 : goal.returns-in-28
unfolding words
returns-in-28 c = number c.in-28.is c.spelled-in-28.ensures

pub returns-in-29 : goal.returns-in-29
unfolding words
returns-in-29 c = number c.in-29.is c.spelled-in-29.ensures

pub returns-in-30 : goal.returns-in-30
unfolding words
returns-in-30 c = number c.in-30.is c.spelled-in-30.ensures

pub returns-in-31 : goal.returns-in-31
unfolding words
returns-in-31 c = number c.in-31.is c.spelled-in-31.ensures

pub returns-in-32 : goal.returns-in-32
unfolding words
returns-in-32 c = number c.in-32.is c.spelled-in-32.ensures

pub returns-in-33 : goal.returns-in-33
unfolding words
returns-in-33 c = number c.in-33.is c.spelled-in-33.ensures

pub returns-in-34 : goal.returns-in-34
unfolding words
returns-in-34 c = number c.in-34.is c.spelled-in-34.ensures

pub returns-in-35 : goal.returns-in-35
unfolding words
returns-in-35 c = number c.in-35.is c.spelled-in-35.ensures

pub returns-in-36 : goal.returns-in-36
unfolding words
returns-in-36 c = number c.in-36.is c.spelled-in-36.ensures

pub returns-in-37 : goal.returns-in-37
unfolding words
returns-in-37 c = number c.in-37.is c.spelled-in-37.ensures

pub returns-in-38 : goal.returns-in-38
unfolding words
returns-in-38 c = number c.in-38.is c.spelled-in-38.ensures

pub returns-in-39 : goal.returns-in-39
unfolding words
returns-in-39 c = number c.in-39.is c.spelled-in-39.ensures

pub returns-in-40 : goal.returns-in-40
unfolding words
returns-in-40 c = number c.in-40.is c.spelled-in-40.ensures

pub returns-in-41 : goal.returns-in-41
unfolding words
returns-in-41 c = number c.in-41.is c.spelled-in-41.ensures

pub returns-in-42 : goal.returns-in-42
unfolding words
returns-in-42 c = number c.in-42.is c.spelled-in-42.ensures

pub returns-in-43 : goal.returns-in-43
unfolding words
returns-in-43 c = number c.in-43.is c.spelled-in-43.ensures

pub returns-in-44 : goal.returns-in-44
unfolding words
returns-in-44 c = number c.in-44.is c.spelled-in-44.ensures

pub returns-in-45 : goal.returns-in-45
unfolding words
returns-in-45 c = number c.in-45.is c.spelled-in-45.ensures

pub returns-in-46 : goal.returns-in-46
unfolding words
returns-in-46 c = number c.in-46.is c.spelled-in-46.ensures

pub returns-in-47 : goal.returns-in-47
unfolding words
returns-in-47 c = number c.in-47.is c.spelled-in-47.ensures

pub returns-in-48 : goal.returns-in-48
unfolding words
returns-in-48 c = number c.in-48.is c.spelled-in-48.ensures

pub returns-in-49 : goal.returns-in-49
unfolding words
returns-in-49 c = number c.in-49.is c.spelled-in-49.ensures

pub returns-in-50 : goal.returns-in-50
unfolding words
returns-in-50 c = number c.in-50.is c.spelled-in-50.ensures

pub returns-in_default : goal.returns-in_default
unfolding words
returns-in_default c =
    let w = c.args.w in
    let least = past 51 w c.in_default.in_default-own.rest in
    let e : w ≡ 51 = omega arith in
    number e c.spelled-in_default.ensures
