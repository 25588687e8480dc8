-- What a page holds after a text: the text one part after the other, and its length up to one past the longest. Assumes nothing.
use mathlib.Core.Path.{◌≡◌, refl, ◌∙◌, ap}
use mathlib.Core.List.{List, [], ◌∷◌, ◌++◌, foldl-append}
use Prim.Native.Nat.{ℕ, suc, ◌+◌, ◌≤◌, ◌<◌, ◌-◌, min}
use native.Mathlib.Nat.{zero-add}
use native.Mathlib.Numerals.{add-one}
use native.Mathlib.Omega.{arith}
use borrow.Author.Tests.{le-leb, lt-leb}
use native.Mathlib.Decide.{dec_lt}
use lib.ListN.{length, drop, set, replicate, length-append, length-drop, length-set}
use lib.Seq.{sets, sets-eq, take-append_seam}
use Rattle.page.specs.Page.{Page, page, next, put, puts, closed}

-- a text in two parts
pub puts_append : (p : Page) (xs ys : List ℕ) → puts p (xs ++ ys) ≡ puts (puts p xs) ys
unfolding puts
puts_append p xs ys = foldl-append put p xs ys

step : (n : ℕ) → n ≤ 65536 → next n ≡ suc n
unfolding next
step n h = simp (le-leb n 65536 h, add-one)

stay : (n : ℕ) → 65536 < n → next n ≡ n
unfolding next
stay n h = simp (lt-leb n 65536 h)

-- while the place is within the longest text
pub puts_within : (l : List ℕ) (n : ℕ) (bs : List ℕ) → n + length bs ≤ 65537 → puts (page l n) bs ≡ page (sets l n bs) (n + length bs)
unfolding puts
puts_within l n [] h = ap (page l) (omega arith)
puts_within l n (b ∷ bs) h =
    ap (λ (k : ℕ). puts (page (set l n b) k) bs) (step n (omega arith))
    ∙ puts_within (set l n b) (suc n) bs (omega arith) ∙ ap (page (sets (set l n b) (suc n) bs)) (omega arith)

-- whatever its place
pub puts_place : (p : Page) (bs : List ℕ) → p.place ≤ 65537 → (puts p bs).place ≡ min (p.place + length bs) 65537
unfolding puts
puts_place p [] h = omega arith
puts_place p (b ∷ bs) h = elim (dec_lt p.place 65537) [
  | yes l ↦ (let e = step p.place (omega arith) in puts_place (put p b) bs (omega (arith, e)) ∙ omega (arith, e))
  | no l ↦ (let e = stay p.place (omega arith) in puts_place (put p b) bs (omega (arith, e)) ∙ omega (arith, e))
]

pub puts_length : (p : Page) (bs : List ℕ) → length (puts p bs).bytes ≡ length p.bytes
unfolding puts
puts_length p [] = refl
puts_length p (b ∷ bs) = puts_length (put p b) bs ∙ length-set p.bytes p.place b

-- a text that fits, with the rest zeroed: the text and zeros
pub whole_text : (l text : List ℕ) → length text ≤ 65536 → length text ≤ length l
    → closed (puts (page l 0) text).bytes (length text) ≡ text ++ replicate (length l - length text) 0
unfolding closed
whole_text l text h m =
    let e : puts (page l 0) text ≡ page (text ++ drop (length text) l) (length text) =
    puts_within l 0 text (omega arith) ∙ ap (λ (k : List ℕ). page k (0 + length text)) (sets-eq text l 0 (omega arith)) ∙ rw zero-add in
    let f : length (text ++ drop (length text) l) ≡ length l = simp (length-append, length-drop) (omega arith) in
    ap (λ (p : Page). closed p.bytes (length text)) e ∙ rw (take-append_seam, f)
