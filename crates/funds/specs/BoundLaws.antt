-- The bounds of an account's money, kept by all that happens to it.
use Rattle.std.specs.Prelude.{refl, Bool, ℕ, ◌+◌, ◌*◌, ◌≤◌, ℤ, pos, ◌+ℤ◌, ◌-ℤ◌, ◌≤ℤ◌}
use Rattle.std.proofs.Math.Bool.{true}
use Rattle.std.proofs.Common.{zero-le, arith}
use Rattle.std.proofs.Math.IntN.{+ℤ_comm, +ℤ_idr, +ℤ_invr}
use Rattle.std.specs.Int.Signed.{le_z_yes, ≤ℤ_refl}
use Rattle.whole.specs.Parts.{parts₃, parts₄, ring, zarith}
use Rattle.whole.specs.Order.{≤ℤ-trans, +ℤ-mono, rest-nonneg}
use Rattle.whole.specs.Within.{Within, lit, widen, wider, within-+, within-most, zbound}
use Rattle.whole.specs.Amounts.{Amount, amount-pos}
use Rattle.funds.specs.Funds.{new_funds, billed, paid_up, in_default, need, settled}
use Rattle.funds.specs.Funds.{paid_in, paid_out, released, after}
use Rattle.funds.specs.Bounds.{most_booked, requirement_most, Sound, Billed}
use Rattle.funds.specs.FundsLaws.{settled-keeps, paid-in-keeps, paid-out-keeps, released-keeps}
use Rattle.funds.specs.FundsLaws.{worth, billed-worth, moved-worth, paid-up-moves, paid-up-margin}
use Rattle.funds.specs.declared.Funds.{Funds}

-- what an account can have in all
abbrev most_for_all : ℕ → ℕ
most_for_all days = 100000000000000000 + days * most_booked

-- ---- a new account
pub new-sound : Sound 0 new_funds
unfolding new_funds
new-sound = record {
  cash = le_z_yes tt;
  margin = le_z_yes tt;
  due = lit (pos 0);
  all = le_z_yes tt;
  requirement = amount-pos 0 zero-le;
  free = wider (lit (pos 0)) tt;
}

pub new-billed : Billed new_funds
unfolding new_funds
new-billed = record { free = refl }

-- ---- more days allow more
pub sound-later : {days more : ℕ} {f : Funds} → Sound days f → days ≤ more → Sound more f
sound-later {days} {more} s h = record {
  cash = s.cash;
  margin = s.margin;
  due = widen s.due (omega arith);
  all = ≤ℤ-trans s.all (amount-pos (most_for_all days) (omega arith)).most;
  requirement = s.requirement;
  free = widen s.free (omega arith);
}

-- ---- cash and margin
-- Neither is negative. So one is at most what the account has in all, less what is due, which may be below zero.
part-within : (A D : ℕ) (x y d : ℤ) → Within D d → pos 0 ≤ℤ x → pos 0 ≤ℤ y → ((x +ℤ y) +ℤ d) ≤ℤ pos (A + D)
    → Within (A + 2 * D) x
part-within A D x y d w = parts₃ x y d (λ a b c. simp (a.is, b.is, c.is, ring) (omega zbound))

module _ {days : ℕ} {f : Funds} (s : Sound days f) where
  pub cash-within : Within (100000000000000000 + 2 * (days * most_booked)) f.cash
  cash-within =
      part-within 100000000000000000 (days * most_booked) f.cash f.margin f.due s.due s.cash s.margin
      s.all

  pub margin-within : Within (100000000000000000 + 2 * (days * most_booked)) f.margin
  margin-within =
      part-within 100000000000000000 (days * most_booked) f.margin f.cash f.due s.due s.margin s.cash
      (rw (+ℤ_comm f.margin f.cash) s.all)

-- ---- close
free-within : (A D R : ℕ) (c m d r : ℤ) → Within D d → pos 0 ≤ℤ c → pos 0 ≤ℤ m → ((c +ℤ m) +ℤ d) ≤ℤ pos (A + D)
    → pos 0 ≤ℤ r → r ≤ℤ pos R → Within (A + R + D) ((m +ℤ d) -ℤ r)
free-within A D R c m d r w =
    parts₄ c m d r (λ x y z v. simp (x.is, y.is, z.is, v.is, ring) (omega zbound))

module _ {days : ℕ} {f : Funds} {variation requirement : ℤ}
    (s : Sound days f) (v : Within most_booked variation) (r : Amount requirement_most requirement) where
  due-within : Within ((days + 1) * most_booked) (f.due +ℤ variation)
  due-within = widen (within-+ s.due v) (omega arith)

  all_most : worth (billed f variation requirement) ≤ℤ pos (most_for_all (days + 1))
  all_most =
      rw (billed-worth f variation requirement)
      (≤ℤ-trans (+ℤ-mono s.all (within-most variation v))
      (amount-pos (most_for_all days + most_booked) (omega arith)).most)

  pub billed-sound : Sound (days + 1) (billed f variation requirement)
  unfolding billed
  billed-sound = record {
    cash = s.cash;
    margin = s.margin;
    due = due-within;
    all = all_most;
    requirement = r;
    free = free-within 100000000000000000 ((days + 1) * most_booked) requirement_most
        f.cash f.margin (f.due +ℤ variation) requirement
        due-within s.cash s.margin all_most r.least r.most;
  }

pub billed-billed : (f : Funds) (variation requirement : ℤ) → Billed (billed f variation requirement)
unfolding billed
billed-billed f variation requirement = record { free = refl }

-- ---- settle and payments
module _ {days : ℕ} {f : Funds} (s : Sound days f) where
  -- other cash and margin, and whatever flag, where all else stays
  other-sound : (cash margin : ℤ) (flag : Bool) → pos 0 ≤ℤ cash → pos 0 ≤ℤ margin
      → ((cash +ℤ margin) +ℤ f.due) ≤ℤ pos (most_for_all days)
      → Sound days (record {
        cash = cash;
        margin = margin;
        due = f.due;
        requirement = f.requirement;
        free = f.free;
        flag = flag;
      })
  other-sound cash margin flag c m all = record {
    cash = c;
    margin = m;
    due = s.due;
    all = all;
    requirement = s.requirement;
    free = s.free;
  }

  -- Margin is left at the requirement and what free and the call come to. A settlement calls what makes that 0 or more:
  -- nothing where free is so itself, else the need, which is -free. So margin does not fall below zero, however much was
  -- due from it.
  paid-up-sound : (called : ℤ) → Billed f → called ≤ℤ f.cash → pos 0 ≤ℤ (f.free +ℤ called)
      → Sound days (paid_up f called).funds
  unfolding paid_up
  paid-up-sound called bill covered enough = record {
    cash = rest-nonneg f.cash called covered;
    margin = rw (paid-up-margin f bill called) (+ℤ-mono s.requirement.least enough);
    due = widen (lit (pos 0)) zero-le;
    all = rw (paid-up-moves f called).worth s.all;
    requirement = s.requirement;
    free = s.free;
  }

  pub settled-sound : Billed f → Sound days (settled f).funds
  unfolding in_default
  settled-sound bill =
      settled-keeps (λ t. Sound days t.funds) f
      (λ free. paid-up-sound (pos 0) bill s.cash (rw (+ℤ_idr f.free) free))
      (λ free covered. paid-up-sound (need f) bill covered (rw (+ℤ_invr f.free) (≤ℤ_refl (pos 0))))
      (λ free short. other-sound f.cash f.margin true s.cash s.margin s.all)

  pub paid-in-sound : (amount : ℤ) → pos 0 ≤ℤ amount → Sound days (after f (paid_in f amount))
  paid-in-sound amount least =
      paid-in-keeps (λ p. Sound days (after f p)) f amount s
      (λ room. other-sound (f.cash +ℤ amount) f.margin f.flag
      (+ℤ-mono s.cash least)
      s.margin
      (+ℤ-mono room (within-most f.due s.due)))

  pub paid-out-sound : (amount : ℤ) → pos 0 ≤ℤ amount → Sound days (after f (paid_out f amount))
  paid-out-sound amount least =
      paid-out-keeps (λ p. Sound days (after f p)) f amount s s
      (λ room. other-sound (f.cash -ℤ amount) f.margin f.flag
      (rest-nonneg f.cash amount room)
      s.margin
      (taken f.cash amount f.margin f.due least s.all))
    where
      taken : (c k m d : ℤ) → pos 0 ≤ℤ k → ((c +ℤ m) +ℤ d) ≤ℤ pos (most_for_all days)
          → (((c -ℤ k) +ℤ m) +ℤ d) ≤ℤ pos (most_for_all days)
      taken c k m d = parts₄ c k m d (λ x y z w. simp (x.is, y.is, z.is, w.is, ring) (omega zarith))

  -- what is left in margin is at least the requirement
  pub released-sound : (amount : ℤ) → pos 0 ≤ℤ amount → Sound days (after f (released f amount))
  released-sound amount least =
      released-keeps (λ p. Sound days (after f p)) f amount s s
      (λ room. other-sound (f.cash +ℤ amount) (f.margin -ℤ amount) f.flag
      (+ℤ-mono s.cash least)
      (left f.margin f.requirement amount s.requirement.least room)
      (rw (moved-worth f amount) s.all))
    where
      left : (m r k : ℤ) → pos 0 ≤ℤ r → k ≤ℤ (m -ℤ r) → pos 0 ≤ℤ (m -ℤ k)
      left m r k = parts₃ m r k (λ x y z. simp (x.is, y.is, z.is, ring) (omega zarith))

-- Margin stays, so free is still what it was when it was billed.
module _ {f : Funds} (bill : Billed f) (amount : ℤ) where
  pub paid-in-billed : Billed (after f (paid_in f amount))
  paid-in-billed = paid-in-keeps (λ p. Billed (after f p)) f amount bill (λ room. record { free = bill.free })

  pub paid-out-billed : Billed (after f (paid_out f amount))
  paid-out-billed = paid-out-keeps (λ p. Billed (after f p)) f amount bill bill (λ room. record { free = bill.free })
