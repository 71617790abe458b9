-- A row of a block is a part of it, whatever stands before and after the block.
use Rattle.std.specs.Prelude.{◌≡◌, length, get_or, set, take, drop}
use Rattle.std.proofs.Common.{sym, ◌∙◌, zero-add, add_assoc, zero-mul, suc-mul, mul-le-mul_right, length-append, length-drop, take_at, drop_at, take-add, drop-drop}
use Rattle.std.proofs.Math.Path.{ap}
use mathlib.Core.List.{append_assoc, append-nil, List, [], ◌∷◌, ◌++◌}
use Prim.Native.Nat.{ℕ, zero, suc, ◌+◌, ◌*◌, ◌≤◌, ◌<◌}
use native.Mathlib.Omega.{arith}
use Rattle.std.proofs.lemmas.List.{take-append-le, drop-append-le}
use Rattle.lists.specs.Parts.{part, with_part}
use Rattle.lists.specs.Block.{block}

-- one row more at the end
pub block_last : {X Y : Type 0} (cells : X → List Y) (xs : List X) (x : X) → block cells (xs ++ (x ∷ [])) ≡ block cells xs ++ cells x
unfolding block
block_last cells [] x = append-nil (cells x)
block_last cells (y ∷ xs) x = rw (block_last cells xs x) (sym (append_assoc (cells y) (block cells xs) (cells x)))

-- a part of a list after another, before another, and between two
module _ {X : Type 0} (b w : ℕ) (l : List X) where
  module _ (pre : List X) (n : ℕ) (h : length pre ≡ n) where
    pub part-after : part (n + b) w (pre ++ l) ≡ part b w l
    part-after = rw (← drop-drop b n (pre ++ l), drop_at pre l n h)

    pub with_part-after : (r : List X) → with_part (n + b) w (pre ++ l) r ≡ pre ++ with_part b w l r
    with_part-after r =
        rw (take-add n b (pre ++ l), ← drop-drop b n (pre ++ l), take_at pre l n h, drop_at pre l n h)
        (append_assoc pre (take b l) (r ++ drop w (drop b l)))

  module _ (post : List X) (k : b + w ≤ length l) where
    rest-fits : w ≤ length (drop b l)
    rest-fits = rw (length-drop b l) (omega arith)

    pub part-before : part b w (l ++ post) ≡ part b w l
    part-before = rw (drop-append-le b l post (omega arith)) (take-append-le w (drop b l) post rest-fits)

    pub with_part-before : (r : List X) → with_part b w (l ++ post) r ≡ with_part b w l r ++ post
    with_part-before r =
        rw (take-append-le b l post (omega arith), drop-append-le b l post (omega arith), drop-append-le w (drop b l) post rest-fits)
        (rw (append_assoc (take b l) (r ++ drop w (drop b l)) post, append_assoc r (drop w (drop b l)) post))

module _ {X : Type 0} (pre l post : List X) (n b w : ℕ) (h : length pre ≡ n) (k : b + w ≤ length l) where
  pub part-within : part (n + b) w (pre ++ (l ++ post)) ≡ part b w l
  part-within = part-after b w (l ++ post) pre n h ∙ part-before b w l post k

  pub with_part-within : (r : List X) → with_part (n + b) w (pre ++ (l ++ post)) r ≡ pre ++ (with_part b w l r ++ post)
  with_part-within r = with_part-after b w (l ++ post) pre n h r ∙ ap (λ t. pre ++ t) (with_part-before b w l post k r)

-- rows laid in a list from n on: each is read at its place, and put there
pub record Laid {X Y : Type 0} (cells : X → List Y) (w : ℕ) (around : List X → List Y) (n : ℕ) : Type 0 where
  pub row : (xs : List X) (i : ℕ) (d : X) → i < length xs → part (n + i * w) w (around xs) ≡ cells (get_or xs i d)
  pub put : (xs : List X) (i : ℕ) (x : X) → i < length xs → with_part (n + i * w) w (around xs) (cells x) ≡ around (set xs i x)

module _ {X Y : Type 0} (cells : X → List Y) (w : ℕ) (wide : (x : X) → length (cells x) ≡ w) where
  pub block-length : (xs : List X) → length (block cells xs) ≡ length xs * w
  unfolding block
  block-length [] = omega arith
  block-length (x ∷ xs) = rw (length-append (cells x) (block cells xs), wide x, block-length xs) (omega arith)

  next_row : (i : ℕ) → suc i * w ≡ w + i * w
  next_row i = omega arith

  pub block-part : (d : X) (xs : List X) (i : ℕ) → i < length xs → part (i * w) w (block cells xs) ≡ cells (get_or xs i d)
  unfolding block
  block-part d [] i h = absurd (omega arith)
  block-part d (x ∷ xs) zero h = rw (zero-mul w) (take_at (cells x) (block cells xs) w (wide x))
  block-part d (x ∷ xs) (suc i) h = rw (next_row i) (part-after (i * w) w (block cells xs) (cells x) w (wide x) ∙ block-part d xs i (omega arith))

  pub block-set : (xs : List X) (i : ℕ) (x : X) → i < length xs → with_part (i * w) w (block cells xs) (cells x) ≡ block cells (set xs i x)
  unfolding block
  block-set [] i x h = absurd (omega arith)
  block-set (y ∷ xs) zero x h = rw (zero-mul w) (ap (λ t. cells x ++ t) (drop_at (cells y) (block cells xs) w (wide y)))
  block-set (y ∷ xs) (suc i) x h =
      rw (next_row i)
      (with_part-after (i * w) w (block cells xs) (cells y) w (wide y) (cells x) ∙ ap (λ t. cells y ++ t) (block-set xs i x (omega arith)))

  -- the row's place is inside the block
  row_fits : (xs : List X) (i : ℕ) → i < length xs → i * w + w ≤ length (block cells xs)
  row_fits xs i h = rw (block-length xs, ← suc-mul i w) (mul-le-mul_right w h)

  -- a block alone, before other cells, and after other cells
  pub laid-alone : Laid cells w (block cells) 0
  laid-alone = record {
    row = λ xs i d h. rw (zero-add (i * w)) (block-part d xs i h);
    put = λ xs i x h. rw (zero-add (i * w)) (block-set xs i x h);
  }

  pub laid-before : (post : List Y) → Laid cells w (λ xs. block cells xs ++ post) 0
  laid-before post = record {
    row = λ xs i d h.
        rw (zero-add (i * w)) (part-before (i * w) w (block cells xs) post (row_fits xs i h) ∙ block-part d xs i h);
    put = λ xs i x h.
        rw (zero-add (i * w))
        (with_part-before (i * w) w (block cells xs) post (row_fits xs i h) (cells x) ∙ ap (λ l. l ++ post) (block-set xs i x h));
  }

module _ {X Y : Type 0} {cells : X → List Y} {w : ℕ} {around : List X → List Y} {n : ℕ} (t : Laid cells w around n) where
  pub laid-after : (pre : List Y) (k : ℕ) → length pre ≡ k → Laid cells w (λ xs. pre ++ around xs) (k + n)
  laid-after pre k e = record {
    row = λ xs i d h. rw (add_assoc k n (i * w)) (part-after (n + i * w) w (around xs) pre k e ∙ t.row xs i d h);
    put = λ xs i x h. rw (add_assoc k n (i * w)) (with_part-after (n + i * w) w (around xs) pre k e (cells x) ∙ ap (λ l. pre ++ l) (t.put xs i x h));
  }
