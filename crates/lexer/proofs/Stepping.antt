-- One byte, and the bytes up to the first that finds something. Assumes nothing.
use mathlib.Core.Bool.{Bool, true, false, cond}
use mathlib.Core.Path.{◌≡◌, refl, sym, ap, ◌∙◌, subst}
use mathlib.Core.List.{List, [], ◌∷◌, ◌++◌}
use Prim.Native.Nat.{ℕ, ◌+◌, ◌-◌, ◌≤◌, ◌<◌}
use native.Mathlib.Nat.{le_refl}
use native.Mathlib.Omega.{arith}
use borrow.Author.Tests.{eqb-true, eq-eqb, ne_eqb}
use lib.Dec.{T, eqb, ltb, leb}
use lib.ListN.{length, get_or, take, drop, set, length-set}
use lib.Seq.{length-take-le}
use Rattle.language.specs.Bytes.{class_of, class_number}
use Rattle.language.specs.Tokens as meaning
use Rattle.language.specs.Tokens.{Mode, lex_step, tokens_from, lexer₀}
use Rattle.lexer.specs.declared.Lexer.{Lexer}
use Rattle.lexer.specs.declared.Lexed.{Lexed}
use Rattle.lexer.specs.declared.Found.{Found as Foundᶜ}
use Rattle.lexer.specs.declared.Found.TheVariants as founds
use Rattle.lexer.specs.Contents.{counted_at}
use Rattle.lexer.specs.Actions.{mode_number, begins_at, action_at}
use Rattle.lexer.specs.Lexing.{held, Sized, left, Stands, Finds, Passed, Lexes, Scanned, lexer_from, idle_at, lexed_from}
use Rattle.lexer.specs.Advancing.{begun_at, gathering_at, held_at, counted_by, advanced_at, held_after, finding_at}
use Rattle.lexer.proofs.Acting.{Act, Counted, acts, begins_nothing_ends}
use Rattle.language.proofs.TokenSteps.{tokens_step, Idle, idle, idle_same}
use Rattle.lexer.proofs.Standing.{drop_here, advances, advances_quietly, finds_gives, stands_idle}

-- before the first byte
pub stands_first : (h : List ℕ) → length h ≡ 64 → Stands h lexer₀ (idle_at 0 0)
stands_first h r = stands_idle Idle.between h r 0

-- ---- what is left

open_one : (m : ℕ) → cond (eqb m 0) 0 1 ≤ 1
open_one m = by (eqb m 0)
  where
    by : (t : Bool) → cond t 0 1 ≤ 1
    by true = omega arith
    by false = omega arith

pub left_moved : (text : List ℕ) (c d : Lexer) → c.next < d.next → d.next ≤ length text → left text d < left text c
unfolding left
left_moved text c d h i = omega (arith, open_one c.mode, open_one d.mode)

-- nothing is open any more
pub left_closed : (text : List ℕ) (c : Lexer) → (c.mode ≡ 0 → ⊥) → left text (idle_at 0 c.next) < left text c
unfolding left
left_closed text c h = rw (ne_eqb c.mode 0 h) (omega arith)

pub left_same : (text : List ℕ) (c d : Lexer) → c.next ≤ d.next → d.mode ≡ c.mode → left text d ≤ left text c
unfolding left
left_same text c d h e = rw e (omega arith)

-- ---- the place after a byte

pub record Moved (c r : Lexer) : Type 0 where
  pub next : r.next ≡ c.next + 1
  pub order : r.start ≤ r.next

module _ (c : Lexer) (order : c.start ≤ c.next) where
  on : (t : Bool) {x y : Lexer} → Moved c x → Moved c y → Moved c (cond t x y)
  on true p q = p
  on false p q = q

  kept : (m : ℕ) (g : Bool) (v : ℕ) (o : Bool) → Moved c (lexer_from m (c.next + 1) c.start g v o)
  kept m g v o = record { next = refl; order = omega arith }

  pub begun_moved : (m b : ℕ) → Moved c (begun_at m c.next b)
  unfolding begun_at
  begun_moved m b =
      on (ltb m 6) (record { next = refl; order = omega arith })
      (on (eqb m 6) (record { next = refl; order = omega arith }) (record { next = refl; order = omega arith }))

  pub advanced_moved : (a b room : ℕ) → Moved c (advanced_at c a b room)
  unfolding advanced_at gathering_at counted_by
  advanced_moved a b room =
      on (leb 16 a) (on (eqb a 17) (record { next = refl; order = omega arith }) (begun_moved (a - 16) b))
      (on (ltb a 6) (on (eqb a 3) (kept _ _ _ _) (on (eqb a 5) (kept _ _ _ _) (on (eqb a 4) (kept _ _ _ _) (kept _ _ _ _))))
      (on (eqb a 9) (kept _ _ _ _) (on (eqb a 10) (kept _ _ _ _) (kept _ _ _ _))))

-- what is gathered stays as long as it was
pub held_length : (c : Lexer) (a b : ℕ) (h : List ℕ) → length (held_after c a b h) ≡ length h
unfolding held_after held_at
held_length c a b h =
    let n = c.value in
    let two = set (set h n 92) (counted_at (length h) n) b in
    let name = cond (eqb a 3) h (cond (eqb a 5) two (set h n b)) in
    long (leb 16 a) (cond (eqb a 17) (set h 0 b) h) (cond (ltb a 6) name h) (long (eqb a 17) (set h 0 b) h (length-set h 0 b) refl)
    (long (ltb a 6) name h
    (long (eqb a 3) h (cond (eqb a 5) two (set h n b)) refl
    (long (eqb a 5) two (set h n b) (length-set (set h n 92) (counted_at (length h) n) b ∙ length-set h n 92) (length-set h n b)))
    refl)
  where
    long : (t : Bool) (x y : List ℕ) → length x ≡ length h → length y ≡ length h → length (cond t x y) ≡ length h
    long true x y p q = p
    long false x y p q = q

-- The place after a byte that finds something, which is passed unless it ends what is open.
record Found (text : List ℕ) (c : Lexer) (x : Lexed) : Type 0 where
  forth : c.next ≤ x.lexer.next
  within : x.lexer.next ≤ length text
  order : x.lexer.start ≤ x.lexer.next
  less : left text x.lexer < left text c

module _ (text : List ℕ) (c : Lexer) (order : c.start ≤ c.next) (within : c.next < length text) where
  either : (t : Bool) {x y : Lexed} → (t ≡ true → Found text c x) → Found text c y → Found text c (cond t x y)
  either true p q = p refl
  either false p q = q

  passes : (b : ℕ) (f : Foundᶜ) → Found text c (lexed_from (begun_at 0 c.next b) f)
  passes b f =
      let m = begun_moved c order 0 b in
      record {
        forth = omega (arith, m.next);
        within = omega (arith, m.next);
        order = m.order;
        less = left_moved text c (begun_at 0 c.next b) (omega (arith, m.next)) (omega (arith, m.next));
      }

  finding_moved : (a b : ℕ) → (a ≡ 32 → c.mode ≡ 0 → ⊥) → Found text c (finding_at c a b)
  unfolding finding_at
  finding_moved a b h =
      either (eqb a 32) (λ q. record { forth = le_refl c.next; within = omega arith; order = le_refl c.next; less = left_closed text c (h (eqb-true a 32 q)) })
      (either (eqb a 33) (λ q. passes b _) (either (eqb a 34) (λ q. passes b _) (passes b _)))

-- ---- one byte

module _ (text : List ℕ) (c : Lexer) (b k a : ℕ) (order : c.start ≤ c.next) (within : c.next < length text)
    (e : b ≡ get_or text c.next 0) (small : b < 256) (class : k ≡ class_number (class_of b))
    (action : a ≡ action_at c.mode k b c.value) where
  counted_as : (h : List ℕ) (l : meaning.Lexer) → Stands h l c → (m : Mode) → l.mode ≡ m → Counted m l c.value
  counted_as h l s m q = by m q
    where
      size : (m : Mode) → l.mode ≡ m → Sized m c.value
      size m q = subst (λ (m : Mode). Sized m c.value) q s.size

      count : (m : Mode) → l.mode ≡ m → held m (take c.value h) ≡ take c.value h → c.value ≤ 64 → length l.bytes ≡ c.value
      count m q k i =
          rw (s.bytes ∙ ap (λ (m : Mode). held m (take c.value h)) q ∙ k) (length-take-le c.value h (omega (arith, s.room)))

      by : (m : Mode) → l.mode ≡ m → Counted m l c.value
      by Mode.between q = tt
      by Mode.plain q = let z = size Mode.plain q in (count Mode.plain q refl z.1, z.1)
      by Mode.quoted q = let z = size Mode.quoted q in (count Mode.quoted q refl z, z)
      by Mode.escaping q = let z = size Mode.escaping q in (count Mode.escaping q refl z, z)
      by Mode.slash q = tt
      by Mode.comment q = tt
      by Mode.sign q = tt
      by Mode.leading_zero q = tt
      by Mode.decimal q = tt
      by Mode.prefix q = tt
      by Mode.hexadecimal q = tt

  act : (h : List ℕ) (l : meaning.Lexer) → Stands h l c → Act l b a (lex_step l b)
  act h l s = rw (action, class, s.mode) (acts l b c.value (counted_as h l s l.mode refl))

  -- that finds nothing
  pub step_passes : a < 32 → (h : List ℕ) → Passed text c h (advanced_at c a b (length h)) (held_after c a b h)
  step_passes i h =
      let m = advanced_moved c order a b (length h) in
      record {
        forth = omega (arith, m.next);
        within = omega (arith, m.next);
        order = m.order;
        reaches =
            λ l s.
            record {
              after = (lex_step l b).lexer;
              stands = advances h l c s b small (act h l s) i;
              tokens =
                  λ more.
                  rw (m.next, drop_here text c.next b within e more)
                  (tokens_step l b (drop (c.next + 1) text ++ more)
                  ∙ ap (λ (fs : List meaning.Found). fs ++ tokens_from (lex_step l b).lexer (drop (c.next + 1) text ++ more))
                  (advances_quietly h l c s b small (act h l s) i));
            };
      }

  not_between : a ≡ 32 → c.mode ≡ 0 → ⊥
  unfolding action_at
  not_between q z =
      let is : a ≡ begins_at k b = action ∙ ap (λ (m : ℕ). action_at m k b c.value) z in
      subst T (sym (eq-eqb (begins_at k b) 32 (sym is ∙ q)) ∙ begins_nothing_ends k b) tt

  -- that finds something
  pub step_finds : 32 ≤ a → (h : List ℕ) → Scanned text c h (finding_at c a b) h
  step_finds i h =
      let m = finding_moved text c order within a b not_between in
      record {
        lexes =
            record {
              forth = m.forth;
              within = m.within;
              order = m.order;
              gives = λ l s. finds_gives text h l c s b order within e small (act h l s) i (tokens_step l b);
            };
        less = m.less;
      }

-- ---- the bytes up to the first that finds something

pub passed_none : (text : List ℕ) (c : Lexer) (h : List ℕ) → c.next ≤ length text → c.start ≤ c.next → Passed text c h c h
passed_none text c h i o =
    record { forth = le_refl c.next; within = i; order = o; reaches = λ l s. record { after = l; stands = s; tokens = λ more. refl } }

pub passed_then : (text : List ℕ) (c d e : Lexer) {h i j : List ℕ} → Passed text c h d i → Passed text d i e j → Passed text c h e j
passed_then text c d e p q =
    record {
      forth = omega (arith, p.forth, q.forth);
      within = q.within;
      order = q.order;
      reaches =
          λ l s.
          let x = p.reaches l s in
          let y = q.reaches x.after x.stands in
          record { after = y.after; stands = y.stands; tokens = λ more. x.tokens more ∙ y.tokens more };
    }

pub passed_lexes : (text : List ℕ) (c d : Lexer) (r : Lexed) {h i j : List ℕ} → Passed text c h d i → Lexes text d i r j → Lexes text c h r j
passed_lexes text c d r p q =
    record {
      forth = omega (arith, p.forth, q.forth);
      within = q.within;
      order = q.order;
      gives =
          λ l s.
          let x = p.reaches l s in
          let y = q.gives x.after x.stands in
          record {
            one = y.one;
            finds = y.finds;
            reaches = record { after = y.reaches.after; stands = y.reaches.stands; tokens = λ more. x.tokens more ∙ y.reaches.tokens more };
          };
    }

-- nothing found
pub lexes_nothing : (text : List ℕ) (c d : Lexer) {h i : List ℕ} → Passed text c h d i → Lexes text c h (lexed_from d founds.Nothing) i
lexes_nothing text c d p =
    record {
      forth = p.forth;
      within = p.within;
      order = p.order;
      gives = λ l s. record { one = []; finds = Finds.nothing; reaches = p.reaches l s };
    }

pub moved_scanned : (text : List ℕ) (c : Lexer) (r : Lexed) {h i : List ℕ} → Lexes text c h r i → c.next < r.lexer.next → Scanned text c h r i
moved_scanned text c r p h = record { lexes = p; less = left_moved text c r.lexer h p.within }

pub passed_scanned : (text : List ℕ) (c d : Lexer) (r : Lexed) {h i j : List ℕ} → Passed text c h d i → left text d ≤ left text c → Scanned text d i r j → Scanned text c h r j
passed_scanned text c d r p h q = record { lexes = passed_lexes text c d r p q.lexes; less = omega (arith, q.less) }

-- ---- modes by their numbers

abbrev modes : List Mode
modes =
    Mode.between ∷ Mode.plain ∷ Mode.quoted ∷ Mode.escaping ∷ Mode.slash ∷ Mode.comment ∷ Mode.sign ∷ Mode.leading_zero ∷ Mode.decimal ∷ Mode.prefix
    ∷ Mode.hexadecimal ∷ []

mode_of : (m : Mode) → get_or modes (mode_number m) Mode.between ≡ m
mode_of Mode.between = refl
mode_of Mode.plain = refl
mode_of Mode.quoted = refl
mode_of Mode.escaping = refl
mode_of Mode.slash = refl
mode_of Mode.comment = refl
mode_of Mode.sign = refl
mode_of Mode.leading_zero = refl
mode_of Mode.decimal = refl
mode_of Mode.prefix = refl
mode_of Mode.hexadecimal = refl

pub mode_is : (h : List ℕ) (l : meaning.Lexer) (c : Lexer) (m : Mode) → Stands h l c → c.mode ≡ mode_number m → l.mode ≡ m
mode_is h l c m s e = sym (mode_of l.mode) ∙ ap (λ (n : ℕ). get_or modes n Mode.between) (sym s.mode ∙ e) ∙ mode_of m

-- with nothing open, or a comment, it does not matter where it began
pub passed_idle : {m : Mode} → Idle m → (text : List ℕ) (c : Lexer) → c.next ≤ length text → c.mode ≡ mode_number m → (h : List ℕ) → Passed text c h (idle_at (mode_number m) c.next) h
passed_idle {m} i text c within z h =
    record {
      forth = le_refl c.next;
      within = within;
      order = le_refl c.next;
      reaches =
          λ l s.
          record {
            after = idle m l.next;
            stands = rw s.next (stands_idle i h s.room l.next);
            tokens = λ more. idle_same i l (mode_is h l c m s z) (drop c.next text ++ more);
          };
    }
