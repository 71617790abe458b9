-- Rows are priced one after the other, and what they earn fits an i64.
use Rattle.std.specs.Prelude.{◌≡◌, Bool, true, false, cond, List, [], ◌∷◌, ◌++◌, map, ℕ, zero, suc, ◌+◌, ◌-◌, ◌*◌, ◌≤◌, ◌<◌, eqb, ℤ, pos, set, drop}
use Rattle.std.proofs.Math.Path.{refl, sym, ap, ap₂}
use Rattle.std.proofs.Common.{subst, ◌∙◌, add-one, length-set, get_or-set_same, get_or-set_other, drop-set-lt}
use Rattle.std.proofs.Math.Decide.{dec_lt}
use native.Mathlib.Omega.{arith}
use Rattle.std.proofs.Math.IntN.{◌+ℤ◌, +ℤ_idr}
use Rattle.std.proofs.Math.ListN.{length}
use Rattle.std.proofs.lemmas.List.{take-set-le, drop-set-add}
use Rattle.std.proofs.Math.Seq.{take-set-lt, drop-drop}
use Rattle.lists.specs.All.{All, none_left, and-more, all_split}
use Rattle.lists.specs.Keep.{cond-keeps}
use Rattle.lists.specs.Parts.{part, part_length}
use Rattle.lists.specs.Rows.{map-append}
use Rattle.lists.specs.Tabulate.{tab, tab-length, tab-same}
use Rattle.lists.specs.Those.{those, those-made}
use Rattle.whole.specs.Over.{sum_over}
use Rattle.whole.specs.Sums.{sum_z, sum-last}
use Rattle.whole.specs.Within.{Within, within-+, within--, within-*, widen, lit}
use Rattle.trail.specs.declared.Row.{Row}
use Rattle.trail.specs.Rows.{row_of, row_at, rows_in, worth, with_amount, priced, priced_at, earned_by, earned}
use Rattle.trail.specs.Tables.{Modest, Priced}

-- ---- what they earn, with one row more
earned-more : (code : ℕ) (rate : ℤ) (rows : List Row) (r : Row) → earned code rate (rows ++ (r ∷ [])) ≡ earned code rate rows +ℤ earned_by code rate r
earned-more code rate rows r = ap sum_z (those-made (λ x. eqb code x.code) (worth rate) rows r) ∙ go (eqb code r.code)
  where
    so_far : List ℤ
    so_far = map (worth rate) (those (λ x. eqb code x.code) rows)

    go : (t : Bool) → sum_z (cond t (so_far ++ (worth rate r ∷ [])) so_far) ≡ sum_z so_far +ℤ cond t (worth rate r) (pos 0)
    go true = sum-last so_far (worth rate r)
    go false = sym (+ℤ_idr (sum_z so_far))

-- 1,000 lots by 250 fen by a difference of 200,000
earned-within : (code : ℕ) {rate : ℤ} {rows : List Row} → Within 100000 rate → All Modest rows → Within (length rows * 50000000000) (earned code rate rows)
unfolding those sum_z
earned-within code w none_left = record { size = omega arith }
earned-within code {rate} w (and-more {x = r} {xs = rows} m a) = go (eqb code r.code) (earned-within code w a)
  where
    one : Within 50000000000 (worth rate r)
    one = within-* m.lots (within-* (lit (pos 250)) (within-- w m.rate))

    these : List Row
    these = those (λ x. eqb code x.code) rows

    go : (t : Bool) → Within (length rows * 50000000000) (sum_over (worth rate) these)
        → Within (suc (length rows) * 50000000000) (sum_over (worth rate) (cond t (r ∷ these) these))
    go true h = widen (within-+ one h) (omega arith)
    go false h = widen h (omega arith)

-- ---- what holds of all rows
all-fewer : {X : Type 0} {P : X → Type 0} (f : ℕ → X) (n k : ℕ) → k ≤ n → All P (tab f n) → All P (tab f k)
unfolding tab
all-fewer f zero zero q a = a
all-fewer f zero (suc k) q a = absurd (omega arith)
all-fewer {P = P} f (suc n) k q a = go (dec_lt n k) (all-fewer f n k)
  where
    go : Dec (n < k) → (k ≤ n → All P (tab f n) → All P (tab f k)) → All P (tab f k)
    go (yes p) ih = let e : k ≡ suc n = omega arith in rw e a
    go (no p) ih = ih (omega arith) (all_split (tab f n) a).0

all-at : {X : Type 0} {P : X → Type 0} (f : ℕ → X) (n k : ℕ) → k < n → All P (tab f n) → P (f k)
unfolding tab
all-at f n k q a = first (all_split (tab f k) (all-fewer f n (suc k) q a)).1
  where
    first : {X : Type 0} {P : X → Type 0} {x : X} {xs : List X} → All P (x ∷ xs) → P x
    first (and-more p b) = p

-- ---- one row priced
module _ (code : ℕ) (rate : ℤ) (counts : List ℕ) (money : List ℤ) (i : ℕ) where
  -- a cell set beside a part, and in it
  set_past : (x : ℤ) (b w k : ℕ) → b + w ≤ k → part b w (set money k x) ≡ part b w money
  set_past x b w k q =
      let e : k ≡ b + (k - b) = omega arith in
      ap (λ t. part b w (set money t x)) e ∙ rw (drop-set-add b money (k - b) x) (take-set-le w (drop b money) (k - b) x (omega arith))

  set-within : (x : ℤ) → part (i * 6) 6 (set money (i * 6 + 5) x) ≡ set (part (i * 6) 6 money) 5 x
  set-within x = rw (drop-set-add (i * 6) money 5 x) (take-set-lt 6 (drop (i * 6) money) 5 x (omega arith))

  amount-set : (c : List ℕ) (m : List ℤ) (x : ℤ) → 5 < length m → row_of c (set m 5 x) ≡ with_amount x (row_of c m)
  amount-set c m x q =
      rw (
        get_or-set_other m 5 0 x (pos 0) (omega arith),
        get_or-set_other m 5 1 x (pos 0) (omega arith),
        get_or-set_other m 5 2 x (pos 0) (omega arith),
        get_or-set_other m 5 3 x (pos 0) (omega arith),
        get_or-set_other m 5 4 x (pos 0) (omega arith),
        get_or-set_same m 5 x (pos 0) q,
      )

  module _ (q : i * 6 + 6 ≤ length money) where
    priced-at : row_at counts (priced_at code rate counts money i) i ≡ priced code rate (row_at counts money i)
    priced-at = go (eqb code (row_at counts money i).code)
      where
        r : Row
        r = row_at counts money i

        go : (t : Bool) → row_at counts (cond t (set money (i * 6 + 5) (worth rate r)) money) i ≡ cond t (with_amount (worth rate r) r) r
        go true =
            rw (set-within (worth rate r))
            (amount-set (part (i * 3) 3 counts) (part (i * 6) 6 money) (worth rate r) (omega (arith, part_length (i * 6) 6 money q)))
        go false = refl

    priced-before : rows_in counts (priced_at code rate counts money i) i ≡ rows_in counts money i
    priced-before = tab-same (row_at counts (priced_at code rate counts money i)) (row_at counts money) i λ j p.
        ap (row_of (part (j * 3) 3 counts))
        (cond-keeps (λ l. part (j * 6) 6 l ≡ part (j * 6) 6 money) (eqb code (row_at counts money i).code) _ _
        (λ e. set_past (worth rate (row_at counts money i)) (j * 6) 6 (i * 6 + 5) (omega arith))
        (λ e. refl))

    priced-behind : drop (i * 6 + 6) (priced_at code rate counts money i) ≡ drop (i * 6 + 6) money
    priced-behind = cond-keeps (λ l. drop (i * 6 + 6) l ≡ drop (i * 6 + 6) money) (eqb code (row_at counts money i).code) _ _
        (λ e. drop-set-lt (i * 6 + 6) money (i * 6 + 5) (worth rate (row_at counts money i)) (omega arith))
        (λ e. refl)

    priced-long : length (priced_at code rate counts money i) ≡ length money
    priced-long = cond-keeps (λ l. length l ≡ length money) (eqb code (row_at counts money i).code) _ _
        (λ e. length-set money (i * 6 + 5) (worth rate (row_at counts money i)))
        (λ e. refl)

-- ---- rows priced one after the other
module _ (code : ℕ) (rate : ℤ) (counts : List ℕ) (money : List ℤ) where
  pub priced-none : Priced counts money 0 code rate (pos 0) money
  unfolding tab those sum_z
  priced-none = record { rows = refl; behind = refl; long = refl; sum_is = refl }

  module _ {sum : ℤ} {money' : List ℤ} (i : ℕ) (p : Priced counts money i code rate sum money') where
    -- the next row is as it was
    next-as-was : row_at counts money' i ≡ row_at counts money i
    next-as-was = ap (λ l. row_of (part (i * 3) 3 counts) (part 0 6 l)) p.behind

    pub priced-more : i * 6 + 6 ≤ length money
        → Priced counts money (i + 1) code rate (sum +ℤ earned_by code rate (row_at counts money' i)) (priced_at code rate counts money' i)
    unfolding tab
    priced-more q =
        let q' : i * 6 + 6 ≤ length money' = omega (arith, p.long) in
        let next : (i + 1) * 6 ≡ i * 6 + 6 = omega arith in
        record {
          rows = rw (add-one i) (
              ap₂ (λ l r. l ++ (r ∷ []))
              (priced-before code rate counts money' i q' ∙ p.rows)
              (priced-at code rate counts money' i q' ∙ ap (priced code rate) next-as-was)
              ∙ sym (map-append (priced code rate) (rows_in counts money i) (row_at counts money i ∷ []))
              );
          behind = rw next (
              priced-behind code rate counts money' i q'
              ∙ sym (drop-drop 6 (i * 6) money')
              ∙ ap (drop 6) p.behind
              ∙ drop-drop 6 (i * 6) money
              );
          long = priced-long code rate counts money' i q' ∙ p.long;
          sum_is = rw (add-one i) (
              ap₂ ◌+ℤ◌ p.sum_is (ap (earned_by code rate) next-as-was)
              ∙ sym (earned-more code rate (rows_in counts money i) (row_at counts money i))
              );
        }

    module _ {used : ℕ} (few : used ≤ 10000) (w : Within 100000 rate) (a : All Modest (rows_in counts money used)) where
      pub next-modest : i < used → Modest (row_at counts money' i)
      next-modest q = subst Modest (sym next-as-was) (all-at (row_at counts money) used i q a)

      -- 10,000 rows
      pub sum_fits : i ≤ used → Within 500000000000000 sum
      sum_fits q =
          subst (Within 500000000000000) (sym p.sum_is)
          (widen (earned-within code w (all-fewer (row_at counts money) used i q a)) (omega (arith, tab-length (row_at counts money) i)))
