-- Accounts' money keeps its bounds: what is due over all accounts grows by at most a day's bookings at a close, and not otherwise.
use Rattle.std.specs.Prelude.{◌≡◌, Bool, true, false, cond, List, [], ◌∷◌, ◌++◌, map, ℕ, ◌+◌, ◌≤◌, eqb}
use Rattle.std.proofs.Math.Path.{ap}
use Rattle.std.proofs.Common.{zero-le, le_refl, mul-le-mul_right, arith, eqb-true}
use Rattle.std.proofs.Math.IntN.{nat_abs}
use Rattle.lists.specs.HasLaws.{clash}
use Rattle.lists.specs.Keep.{cond-keeps}
use Rattle.whole.specs.Sizes.{sizes}
use Rattle.funds.specs.Funds.{new_funds, settled}
use Rattle.funds.specs.Bounds.{Sound, Billed}
use Rattle.funds.specs.BoundLaws.{new-billed, sound-later, settled-sound}
use Rattle.funds.specs.declared.Funds.{Funds}
use Rattle.model.specs.Book.{Today, replaced}
use Rattle.model.specs.Refusals.{is_settled}
use Rattle.model.specs.Bounds.{all_booked}
use Rattle.model.proofs.HouseLaws.{settled-due}
use Rattle.model.specs.NaturalLaws.{total_over, total-more, total-each, total-last, total-sizes}
use Rattle.model.specs.Kept.{days_of, Funded}
use Rattle.model.specs.SizedLaws.{unpaid}

abbrev dues_of : List ℕ → (ℕ → Funds) → ℕ
dues_of ms f = sizes (map (λ n. (f n).due) ms)

-- ---- sums of dues
dues-more : (ms : List ℕ) (f g : ℕ → Funds) (more : ℕ → ℕ) → ((n : ℕ) → nat_abs (g n).due ≤ nat_abs (f n).due + more n)
    → dues_of ms g ≤ dues_of ms f + total_over more ms
dues-more ms f g more h =
    rw (total-sizes (λ n. (f n).due) ms, total-sizes (λ n. (g n).due) ms)
    (total-more (λ n. nat_abs (g n).due) (λ n. nat_abs (f n).due) more ms h)

dues-same : (ms : List ℕ) (f g : ℕ → Funds) → ((n : ℕ) → nat_abs (g n).due ≤ nat_abs (f n).due) → dues_of ms g ≤ dues_of ms f
dues-same ms f g h =
    omega (arith, dues-more ms f g (λ n. 0) (λ n. omega (arith, h n)), total-each 0 (λ n. 0) ms (λ (n : ℕ). zero-le))

-- a settlement pays what is due, or leaves it
due-no-larger : (x : Funds) → nat_abs (settled x).funds.due ≤ nat_abs x.due
due-no-larger x = rw (settled-due x) (unpaid x)

-- ---- another day, before which no fewer may have been closed
module _ {t : Today} {ms : List ℕ} {f : ℕ → Funds} (i : Funded t ms f) where
  pub funded-later : (u : Today) → days_of t ≤ days_of u → (is_settled u.point ≡ false → is_settled t.point ≡ false) → Funded u ms f
  funded-later u h e = record {
    sound = λ n. sound-later (i.sound n) h;
    billed = λ s. i.billed (e s);
    dues = omega (arith, i.dues, mul-le-mul_right all_booked h);
  }

  -- one more account
  pub funded-new : (k : ℕ) → f k ≡ new_funds → Funded t (ms ++ (k ∷ [])) f
  unfolding new_funds
  funded-new k e = record {
    sound = i.sound;
    billed = i.billed;
    dues = let none : nat_abs (f k).due ≡ 0 = ap (λ x. nat_abs x.due) e in
        rw (total-sizes (λ n. (f n).due) (ms ++ (k ∷ [])), total-last (λ n. nat_abs (f n).due) ms k, ← total-sizes (λ n. (f n).due) ms)
        (omega (arith, i.dues));
  }

  -- a payment
  pub funded-paid : (k : ℕ) (g : Funds) → Sound (days_of t) g → (is_settled t.point ≡ false → Billed g) → g.due ≡ (f k).due
      → Funded t ms (replaced f k g)
  funded-paid k g s b e = record {
    sound = λ n. cond-keeps (Sound (days_of t)) (eqb n k) g (f n) (λ h. s) (λ h. i.sound n);
    billed = λ h n. cond-keeps Billed (eqb n k) g (f n) (λ u. b h) (λ u. i.billed h n);
    dues = omega (
      arith,
      i.dues,
      dues-same ms f (replaced f k g)
          (λ n. cond-keeps (λ x. nat_abs x.due ≤ nat_abs (f n).due) (eqb n k) g (f n)
          (λ h. rw (eqb-true n k h, e) (le_refl _))
          (λ h. le_refl _)),
    );
  }

  -- ---- a settlement
  module _ (u : Today) (h : days_of t ≤ days_of u)
      (late : is_settled u.point ≡ true) (early : is_settled t.point ≡ false) (m : ℕ → Bool) where
    pub funded-settled : Funded u ms (λ n. cond (m n) (settled (f n)).funds (f n))
    funded-settled = record {
      sound = λ n. cond-keeps (Sound (days_of u)) (m n) (settled (f n)).funds (f n)
          (λ e. sound-later (settled-sound (i.sound n) (i.billed early n)) h)
          (λ e. sound-later (i.sound n) h);
      billed = λ e. clash late e;
      dues = omega (
        arith,
        i.dues,
        mul-le-mul_right all_booked h,
        dues-same ms f (λ n. cond (m n) (settled (f n)).funds (f n))
            (λ n. cond-keeps (λ x. nat_abs x.due ≤ nat_abs (f n).due) (m n) (settled (f n)).funds (f n)
            (λ e. due-no-larger (f n))
            (λ e. le_refl _)),
      );
    }

  -- ---- a close: `most` is what each account can be booked
  module _ (u : Today) (next : days_of u ≡ days_of t + 1) (m : ℕ → Bool) (g : ℕ → Funds) (most : ℕ → ℕ)
      (sound : (n : ℕ) → Sound (days_of t + 1) (g n)) (bill : (n : ℕ) → Billed (g n)) (away : (n : ℕ) → m n ≡ false → f n ≡ new_funds)
      (due : (n : ℕ) → nat_abs (g n).due ≤ nat_abs (f n).due + most n) (all : total_over most ms ≤ all_booked) where
    pub funded-closed : Funded u ms (λ n. cond (m n) (g n) (f n))
    funded-closed = record {
      sound = λ n. rw next (cond-keeps (Sound (days_of t + 1)) (m n) (g n) (f n)
          (λ e. sound n)
          (λ e. sound-later (i.sound n) (omega arith)));
      billed = λ e n. cond-keeps Billed (m n) (g n) (f n) (λ h. bill n) (λ h. rw (away n h) new-billed);
      dues = rw next (omega (
        arith,
        i.dues,
        all,
        dues-more ms f (λ n. cond (m n) (g n) (f n)) most
            (λ n. cond-keeps (λ x. nat_abs x.due ≤ nat_abs (f n).due + most n) (m n) (g n) (f n)
            (λ e. due n)
            (λ e. omega arith)),
      ));
    }
