-- What a close books, requires and grants, and what the settlement after it then moves.
use Rattle.std.specs.Prelude.{◌≡◌, true, false, ℕ, ℤ, ◌+ℤ◌, ◌≤ℤ◌, ◌<ℤ◌}
use Rattle.std.proofs.Math.Path.{refl, ap}
use Rattle.std.proofs.Common.{◌∙◌, subst}
use Rattle.std.proofs.Math.Dec.{T}
use Rattle.std.proofs.Math.IntN.{pos, +ℤ_idl, +ℤ_idr}
use Rattle.std.specs.Int.Signed.{le_z, clash_ℤ}
use Rattle.lists.specs.Keep.{cond-keeps}
use Rattle.whole.specs.Parts.{parts₃, ring, zarith}
use Rattle.whole.specs.Tests.{le_yes}
use Rattle.whole.specs.Larger.{larger-above, smaller-below}
use Rattle.booking.specs.Variation.{variation}
use Rattle.holdings.specs.Holdings.{basis}
use Rattle.closing.proofs.DayEndLaws.{over-nonneg, over_none}
use Rattle.closing.specs.DayEnd.{at_close, over_limit, requirement, full_core, with_core}
use Rattle.closing.specs.declared.DayEnd.{DayEnd}
use Rattle.funds.specs.Funds.{billed, settled}
use Rattle.funds.specs.FundsLaws.{worth, billed-worth, settled-paid, settled-unpaid}
use Rattle.funds.specs.declared.Settlement.{Settlement}
use Rattle.accounts.specs.Accounts.{closed, with_holdings, refreshed}
use Rattle.accounts.specs.declared.Account.{Account}

module _ (d : DayEnd) (a : Account) where
  -- the account after the close, its next settlement, its basis, and what the close booked
  abbrev ended : Account
  ended = closed d a

  abbrev next : Settlement
  next = settled ended.funds

  abbrev base : ℤ
  base = basis ended.holdings.limits d.reference

  abbrev booked : ℤ
  booked = variation a.holdings.positions d.marks

  -- ---- money
  -- A close changes what the account has in all by the variation of its positions alone.
  pub closed-worth : worth ended.funds ≡ worth a.funds +ℤ booked
  unfolding closed at_close
  closed-worth = billed-worth a.funds booked (requirement (at_close d a.holdings) d.reference d.multiplier)

  pub closed-due : ended.funds.due ≡ a.funds.due +ℤ booked
  unfolding closed at_close billed
  closed-due = refl

  -- The settlement after it moves just what was booked, with what was due before. In default it moves nothing, and all of it
  -- stays due.
  pub closed-paid : next.funds.flag ≡ false → next.paid ≡ a.funds.due +ℤ booked
  closed-paid clear = (settled-paid ended.funds clear).0 ∙ closed-due

  pub closed-unpaid : next.funds.flag ≡ true → (next.paid ≡ pos 0) × (next.funds.due ≡ a.funds.due +ℤ booked)
  closed-unpaid set = let unpaid = settled-unpaid ended.funds set in (unpaid.0, unpaid.1 ∙ closed-due)

  -- where nothing was due, the variation alone
  pub variation-paid : next.funds.flag ≡ false → a.funds.due ≡ pos 0 → next.paid ≡ booked
  variation-paid clear none = closed-paid clear ∙ ap (λ z. z +ℤ booked) none ∙ +ℤ_idl booked

  -- ---- the core
  -- at least the basis, and the day-end total, where free is not negative
  pub core-least : pos 0 ≤ℤ ended.funds.free
      → (base ≤ℤ ended.holdings.core) × (ended.holdings.dayend ≤ℤ ended.holdings.core)
  unfolding closed with_core
  core-least enough =
      let h = at_close d a.holdings in
      cond-keeps (λ c. (base ≤ℤ c) × (h.dayend ≤ℤ c)) (le_z (pos 0) ended.funds.free) _ _
      (λ t. larger-above base h.dayend)
      (λ t. absurd (subst T t enough.le))

  -- never above the old core, where free is negative
  pub core-most : ended.funds.free <ℤ pos 0 → ended.holdings.core ≤ℤ a.holdings.core
  unfolding closed with_core at_close
  core-most low =
      let full = full_core (at_close d a.holdings) d.reference in
      cond-keeps (λ c. c ≤ℤ a.holdings.core) (le_z (pos 0) ended.funds.free) _ _
      (λ t. clash_ℤ low (le_yes refl refl t))
      (λ t. (smaller-below full a.holdings.core).1)

  -- ---- the requirement
  -- at least the basis and the special margin
  pub requirement-least : (base +ℤ ended.holdings.special) ≤ℤ ended.funds.requirement
  unfolding closed with_core billed requirement
  requirement-least =
      let h = at_close d a.holdings in
      between base (over_limit h.dayend base d.multiplier) h.special
      (over-nonneg h.dayend base d.multiplier)
    where
      between : (b o s : ℤ) → pos 0 ≤ℤ o → (b +ℤ s) ≤ℤ ((b +ℤ o) +ℤ s)
      between b o s = parts₃ b o s (λ x y z. simp (x.is, y.is, z.is, ring) (omega zarith))

  -- just that, where the day-end total is within the basis
  pub requirement-exact : ended.holdings.dayend ≤ℤ base → ended.funds.requirement ≡ base +ℤ ended.holdings.special
  unfolding closed with_core billed requirement
  requirement-exact within =
      let h = at_close d a.holdings in
      ap (λ o. (base +ℤ o) +ℤ h.special) (over_none h.dayend base d.multiplier within)
      ∙ ap (λ z. z +ℤ h.special) (+ℤ_idr base)

-- ---- refresh
-- Document 01, Refresh: "for accounts not in default".
module _ (reference : ℕ) (a : Account) where
  pub refreshed-default : a.funds.flag ≡ true → refreshed reference a ≡ a
  unfolding refreshed
  refreshed-default set = rw set

  pub refreshed-clear : a.funds.flag ≡ false
      → refreshed reference a ≡ with_holdings a (with_core a.holdings (full_core a.holdings reference))
  unfolding refreshed
  refreshed-clear clear = rw clear

-- A refresh changes no money.
pub refreshed-worth : (reference : ℕ) (a : Account) → worth (refreshed reference a).funds ≡ worth a.funds
unfolding refreshed
refreshed-worth reference a =
    cond-keeps (λ (b : Account). worth b.funds ≡ worth a.funds) a.funds.flag _ _ (λ t. refl) (λ t. refl)
