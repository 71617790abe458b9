-- Rows of equal width, written one after the other from the start of a list on.
use Rattle.std.specs.Prelude.{◌≡◌, List, ◌++◌, ℕ, ◌+◌, ◌*◌, ◌≤◌, length}
use Rattle.std.proofs.Common.{ap, ◌∙◌, zero-add, add-one, arith}
use Rattle.lists.specs.Parts.{with_part, with_part-join, with_part-all}
use Rattle.lists.specs.Tabulate.{tab, tab-length}
use Rattle.lists.specs.Block.{block}
use Rattle.lists.specs.BlockLaws.{block-length, block_last}

abbrev pub written : {X Y : Type 0} → (X → List Y) → ℕ → (ℕ → X) → List Y → ℕ → List Y
written cells w row l k = with_part 0 (k * w) l (block cells (tab row k))

module _ {X Y : Type 0} (cells : X → List Y) (w : ℕ) (wide : (x : X) → length (cells x) ≡ w) (row : ℕ → X) (l : List Y) (k : ℕ) where
  next-rows : block cells (tab row (k + 1)) ≡ block cells (tab row k) ++ cells (row k)
  unfolding tab
  next-rows = rw (add-one k) (block_last cells (tab row k) (row k))

  pub written_next : k * w + w ≤ length l → with_part (k * w) w (written cells w row l k) (cells (row k)) ≡ written cells w row l (k + 1)
  written_next h =
      let e : length (block cells (tab row k)) ≡ k * w = block-length cells w wide (tab row k) ∙ ap (λ n. n * w) (tab-length row k) in
      let j = with_part-join 0 (k * w) w l (block cells (tab row k)) (cells (row k)) e (omega arith) in
      let f : (k + 1) * w ≡ k * w + w = omega arith in
      rw (next-rows, f) (rw (zero-add (k * w)) at j)

  pub written_all : length l ≡ k * w → written cells w row l k ≡ block cells (tab row k)
  written_all h = with_part-all (k * w) l (block cells (tab row k)) h
