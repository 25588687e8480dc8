-- Cells moved up: what stands where, one cell more at a time, and what is written into the gap. Assumes nothing.
use mathlib.Core.List.{List, ◌++◌, append_assoc}
use mathlib.Core.Path.{◌≡◌, sym, ◌∙◌, ap, subst}
use Prim.Native.Nat.{ℕ, suc, ◌+◌, ◌-◌, ◌<◌, ◌≤◌}
use native.Mathlib.Decide.{dec_lt, ℕ_discrete}
use native.Mathlib.Omega.{arith}
use lib.ListN.{length, get_or, take, drop, set, length-append, length-take, length-drop, length-set, get_or-append}
use lib.Seq.{sets, sets-eq, take-append_seam, drop-append_seam, take-append-add, drop-append-add, length-take-le}
use lib.Seq.{ext_get_or, get_or-take, get_or-drop, get_or-append-add, get_or-set_same, get_or-set_other}
use Rattle.numbers.specs.Moving.{moved}

module _ (s : List ℕ) (at end by : ℕ) (order : at ≤ end) (room : end + by ≤ length s) where
  pub moved_length : length (moved s at end by) ≡ length s
  unfolding moved
  moved_length = simp (length-append, length-take, length-drop) (omega arith)

  front : length (take (at + by) s) ≡ at + by
  front = length-take-le (at + by) s (omega arith)

  middle : length (take (end - at) (drop at s)) ≡ end - at
  middle = length-take-le (end - at) (drop at s) (rw length-drop (omega arith))

  -- what stands at a cell
  pub moved_before : (i : ℕ) → i < at + by → get_or (moved s at end by) i 0 ≡ get_or s i 0
  unfolding moved
  moved_before i h = get_or-append (take (at + by) s) _ 0 i (rw front h) ∙ get_or-take (at + by) s i 0 h

  pub moved_there : (i : ℕ) → at ≤ i → i < end → get_or (moved s at end by) (i + by) 0 ≡ get_or s i 0
  unfolding moved
  moved_there i h l =
      let e : i + by ≡ length (take (at + by) s) + (i - at) = omega (arith, front) in
      let m : i - at < length (take (end - at) (drop at s)) = rw middle (omega arith) in
      let back : at + (i - at) ≡ i = omega arith in
      rw e
      (get_or-append-add (take (at + by) s) _ (i - at) 0 ∙ get_or-append (take (end - at) (drop at s)) _ 0 (i - at) m
      ∙ get_or-take (end - at) (drop at s) (i - at) 0 (omega arith)
      ∙ get_or-drop at s (i - at) 0 ∙ ap (λ (k : ℕ). get_or s k 0) back)

  pub moved_after : (i : ℕ) → end + by ≤ i → get_or (moved s at end by) i 0 ≡ get_or s i 0
  unfolding moved
  moved_after i h =
      let e : i ≡ length (take (at + by) s) + (length (take (end - at) (drop at s)) + (i - (end + by))) = omega (arith, front, middle) in
      let back : end + by + (i - (end + by)) ≡ i = omega arith in
      ap (λ (k : ℕ). get_or (take (at + by) s ++ (take (end - at) (drop at s) ++ drop (end + by) s)) k 0) e
      ∙ get_or-append-add (take (at + by) s) _ (length (take (end - at) (drop at s)) + (i - (end + by))) 0
      ∙ get_or-append-add (take (end - at) (drop at s)) _ (i - (end + by)) 0
      ∙ get_or-drop (end + by) s (i - (end + by)) 0 ∙ ap (λ (k : ℕ). get_or s k 0) back

-- nothing moved
pub moved_none : (s : List ℕ) (end by : ℕ) → end + by ≤ length s → s ≡ moved s end end by
moved_none s end by h =
    ext_get_or 0 s (moved s end end by) (sym (moved_length s end end by (omega arith) h))
    (λ i l. at_cell i (dec_lt i (end + by)))
  where
    at_cell : (i : ℕ) → Dec (i < end + by) → get_or s i 0 ≡ get_or (moved s end end by) i 0
    at_cell i (yes g) = sym (moved_before s end end by (omega arith) h i g)
    at_cell i (no g) = sym (moved_after s end end by (omega arith) h i (omega arith))

-- one cell more
pub moved_one : (s : List ℕ) (j end by : ℕ) → suc j ≤ end → end + by ≤ length s
    → set (moved s (suc j) end by) (j + by) (get_or (moved s (suc j) end by) j 0) ≡ moved s j end by
moved_one s j end by l h =
    ext_get_or 0 (set m (j + by) (get_or m j 0)) (moved s j end by)
    (length-set m (j + by) (get_or m j 0) ∙ length_m ∙ sym (moved_length s j end by (omega arith) h))
    (λ i g. at_cell i (rw (length-set, length_m) at g) (ℕ_discrete i (j + by)) (dec_lt i (suc j + by)) (dec_lt i (end + by)))
  where
    m : List ℕ
    m = moved s (suc j) end by

    length_m : length m ≡ length s
    length_m = moved_length s (suc j) end by l h

    -- further up both have moved
    up : (i : ℕ) → suc j + by ≤ i → i < end + by → get_or m i 0 ≡ get_or (moved s j end by) i 0
    up i g k =
        let e : i - by + by ≡ i = omega arith in
        subst (λ (n : ℕ). get_or m n 0 ≡ get_or (moved s j end by) n 0) e
        (moved_there s (suc j) end by l h (i - by) (omega arith) (omega arith)
        ∙ sym (moved_there s j end by (omega arith) h (i - by) (omega arith) (omega arith)))

    at_cell : (i : ℕ) → i < length s → Dec (i ≡ j + by) → Dec (i < suc j + by) → Dec (i < end + by)
        → get_or (set m (j + by) (get_or m j 0)) i 0 ≡ get_or (moved s j end by) i 0
    at_cell i g (yes d) a b =
        rw d
        (get_or-set_same m (j + by) (get_or m j 0) 0 (rw length_m (omega arith)) ∙ moved_before s (suc j) end by l h j (omega arith)
        ∙ sym (moved_there s j end by (omega arith) h j (omega arith) (omega arith)))
    at_cell i g (no d) (yes a) b =
        get_or-set_other m (j + by) i (get_or m j 0) 0 d ∙ moved_before s (suc j) end by l h i a
        ∙ sym (moved_before s j end by (omega arith) h i (omega arith))
    at_cell i g (no d) (no a) (yes b) = get_or-set_other m (j + by) i (get_or m j 0) 0 d ∙ up i (omega arith) b
    at_cell i g (no d) (no a) (no b) =
        get_or-set_other m (j + by) i (get_or m j 0) 0 d ∙ moved_after s (suc j) end by l h i (omega arith)
        ∙ sym (moved_after s j end by (omega arith) h i (omega arith))

-- the same, counting down
pub moved_step : (s₀ s : List ℕ) (j end by : ℕ) → 0 < j → j ≤ end → end + by ≤ length s₀ → s ≡ moved s₀ j end by
    → set s (j - 1 + by) (get_or s (j - 1) 0) ≡ moved s₀ (j - 1) end by
moved_step s₀ s j end by p l h e =
    let back : suc (j - 1) ≡ j = omega arith in
    let was : moved s₀ (suc (j - 1)) end by ≡ s = ap (λ (k : ℕ). moved s₀ k end by) back ∙ sym e in
    subst (λ (t : List ℕ). set t (j - 1 + by) (get_or t (j - 1) 0) ≡ moved s₀ (j - 1) end by) was (moved_one s₀ (j - 1) end by (omega arith) h)

-- ---- cells written into the gap stand between those before and those behind it

module _ (pre b g q xs : List ℕ) (by : ℕ) (gap : length g ≡ by) (entry : length xs ≡ by) where
  abbrev cells : List ℕ
  cells = pre ++ (b ++ (g ++ q))

  moved_is : moved cells (length pre) (length pre + length b) by ≡ pre ++ take by (b ++ (g ++ q)) ++ (b ++ q)
  unfolding moved
  moved_is =
      let size : length pre + length b - length pre ≡ length b = omega arith in
      let behind : length pre + length b + by ≡ length pre + (length b + length g) = omega (arith, gap) in
      let tail : drop (length pre + length b + by) cells ≡ q =
      ap (λ (n : ℕ). drop n cells) behind ∙ drop-append-add pre (b ++ (g ++ q)) (length b + length g)
      ∙ drop-append-add b (g ++ q) (length g) ∙ drop-append_seam g q in
      let rest : take (length pre + length b - length pre) (drop (length pre) cells) ≡ b =
      ap (λ (n : ℕ). take n (drop (length pre) cells)) size ∙ ap (take (length b)) (drop-append_seam pre (b ++ (g ++ q)))
      ∙ take-append_seam b (g ++ q) in
      rw (tail, rest, take-append-add pre (b ++ (g ++ q)) by)

  pub inserted : sets (moved cells (length pre) (length pre + length b) by) (length pre) xs ≡ pre ++ (xs ++ (b ++ q))
  inserted =
      let mid = take by (b ++ (g ++ q)) in
      let size : length mid ≡ by = length-take-le by (b ++ (g ++ q)) (simp length-append (omega arith)) in
      let whole : length pre + length xs ≤ length (pre ++ mid ++ (b ++ q)) = simp length-append (omega arith) in
      let same : length pre + length xs ≡ length (pre ++ mid) = simp length-append (omega arith) in
      let front : take (length pre) (pre ++ mid ++ (b ++ q)) ≡ pre =
      ap (take (length pre)) (append_assoc pre mid (b ++ q)) ∙ take-append_seam pre (mid ++ (b ++ q)) in
      let back : drop (length pre + length xs) (pre ++ mid ++ (b ++ q)) ≡ b ++ q =
      ap (λ (n : ℕ). drop n (pre ++ mid ++ (b ++ q))) same ∙ drop-append_seam (pre ++ mid) (b ++ q) in
      ap (λ (s : List ℕ). sets s (length pre) xs) moved_is ∙ sets-eq xs (pre ++ mid ++ (b ++ q)) (length pre) whole
      ∙ rw (front, back) (append_assoc pre xs (b ++ q))
