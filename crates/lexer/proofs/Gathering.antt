-- What a byte of a name adds to its contents, and what any byte does that finds nothing, case by case as the code tests it. Assumes nothing.
use mathlib.Core.Path.{◌≡◌, refl, ap, ◌∙◌}
use mathlib.Core.List.{List}
use Prim.Native.Nat.{ℕ, ◌-◌, ◌≤◌, ◌<◌}
use lib.ListN.{length, set, length-set}
use borrow.Author.Tests.{eq-eqb, ne_eqb, le-leb, lt-leb, lt-ltb, le-ltb}
use Rattle.lexer.specs.declared.Lexer.{Lexer}
use Rattle.lexer.specs.Contents.{counted_at}
use Rattle.lexer.specs.Advancing.{longer_at, begun_at, gathering_at, held_at, counted_by, advanced_at, held_after}
use Rattle.lexer.specs.Lexing.{idle_at}

module _ (c : Lexer) (a b : ℕ) (h : List ℕ) where
  abbrev Gathered : (r : Lexer) (exit : List ℕ) → Type 0
  Gathered r g = (r ≡ gathering_at c a (length h)) × (g ≡ held_at c.value a b h)

  -- a backslash begins to wait
  pub gathers_none : {r : Lexer} → a ≡ 3 → r ≡ longer_at c 3 c.value → Gathered r h
  unfolding gathering_at held_at
  gathers_none e q = rw (eq-eqb a 3 e) (q, refl)

  module _ (n3 : a ≡ 3 → ⊥) where
    -- the one that waited, and this byte
    pub gathers_both : {r : Lexer} → a ≡ 5 → {n m : ℕ} {f g : List ℕ} → (n ≡ counted_at (length h) c.value) × (f ≡ set h c.value 92)
        → (m ≡ counted_at (length f) n) × (g ≡ set f n b) → r ≡ longer_at c 2 m → Gathered r g
    unfolding gathering_at held_at
    gathers_both {r} e {n} {m} {f} {g} p q s =
        let long : length f ≡ length h = ap length p.1 ∙ length-set h c.value 92 in
        rw (ne_eqb a 3 n3, eq-eqb a 5 e)
        (s ∙ ap (longer_at c 2) (q.0 ∙ (λ i. counted_at (long i) (p.0 i))), q.1 ∙ (λ i. set (p.1 i) (p.0 i) b))

    module _ (n5 : a ≡ 5 → ⊥) {n : ℕ} {g : List ℕ} (p : (n ≡ counted_at (length h) c.value) × (g ≡ set h c.value b)) where
      -- the one that waited, after which this one waits
      pub gathers_slash : {r : Lexer} → a ≡ 4 → r ≡ longer_at c 3 n → Gathered r g
      unfolding gathering_at held_at
      gathers_slash e s = rw (ne_eqb a 3 n3, ne_eqb a 5 n5, eq-eqb a 4 e) (s ∙ ap (longer_at c 3) p.0, p.1)

      -- this byte
      pub gathers_one : {r : Lexer} → (a ≡ 4 → ⊥) → r ≡ longer_at c a n → Gathered r g
      unfolding gathering_at held_at
      gathers_one n4 s = rw (ne_eqb a 3 n3, ne_eqb a 5 n5, ne_eqb a 4 n4) (s ∙ ap (longer_at c a) p.0, p.1)

-- ---- any byte that finds nothing

module _ (c : Lexer) (a b : ℕ) (h : List ℕ) where
  abbrev Advanced : (r : Lexer) (exit : List ℕ) → Type 0
  Advanced r g = (r ≡ advanced_at c a b (length h)) × (g ≡ held_after c a b h)

  pub advances_letter : {r : Lexer} {g : List ℕ} → 16 ≤ a → a ≡ 17 → (r ≡ gathering_at (idle_at 1 c.next) 1 (length h)) × (g ≡ held_at 0 1 b h) → Advanced r g
  unfolding advanced_at held_after
  advances_letter i e p = rw (le-leb 16 a i, eq-eqb a 17 e) p

  pub advances_begun : {r : Lexer} → 16 ≤ a → (a ≡ 17 → ⊥) → r ≡ begun_at (a - 16) c.next b → Advanced r h
  unfolding advanced_at held_after
  advances_begun i e p = rw (le-leb 16 a i, ne_eqb a 17 e) (p, refl)

  pub advances_name : {r : Lexer} {g : List ℕ} → a < 16 → a < 6 → (r ≡ gathering_at c a (length h)) × (g ≡ held_at c.value a b h) → Advanced r g
  unfolding advanced_at held_after
  advances_name i j p = rw (lt-leb 16 a i, lt-ltb a 6 j) p

  pub advances_number : {r : Lexer} → a < 16 → 6 ≤ a → r ≡ counted_by c a b → Advanced r h
  unfolding advanced_at held_after
  advances_number i j p = rw (lt-leb 16 a i, le-ltb a 6 j) (p, refl)
