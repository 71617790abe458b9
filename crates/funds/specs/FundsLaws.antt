-- What closes, settlements and payments move, and what they leave as it was.
use Rattle.std.specs.Prelude.{◌≡◌, Result, Ok, Err, ℤ, neg_ℤ, ◌+ℤ◌, ◌-ℤ◌, ◌≤ℤ◌, ◌<ℤ◌}
use Rattle.std.proofs.Math.Path.{refl, sym, ap}
use Rattle.std.proofs.Common.{◌∙◌, subst, true≢false, arith}
use Rattle.std.proofs.Math.Bool.{true, false}
use Rattle.std.proofs.lemmas.Bool.{false≢true}
use Rattle.std.proofs.Math.IntN.{pos, +ℤ_assoc, +ℤ_idr, +ℤ_invr}
use Rattle.std.specs.Int.Signed.{lt_z, le_z, ≤ℤ_refl, clash_ℤ}
use Rattle.lists.specs.Keep.{cond-keeps}
use Rattle.whole.specs.Parts.{parts₂, parts₄, ring, zarith}
use Rattle.whole.specs.Tests.{lt_no, le_yes, le-no, lt-true, lt-false}
use Rattle.funds.specs.Funds.{billed, paid_up, in_default, need, settled}
use Rattle.funds.specs.Funds.{with_money, cash_most, paid_in, paid_out, released, refusal_of, after}
use Rattle.funds.specs.Bounds.{Billed}
use Rattle.funds.specs.declared.Funds.{Funds}
use Rattle.funds.specs.declared.Settlement.{Settlement}
use Rattle.funds.specs.declared.PaymentError.{PaymentError}
use Rattle.funds.specs.declared.PaymentError.TheVariants.{InDefault, TooMuch, Full}

-- ---- cases: what holds of each outcome holds of the answer
module _ (P : Settlement → Type 0) (f : Funds) where
  pub settled-keeps : (pos 0 ≤ℤ f.free → P (paid_up f (pos 0)))
      → (f.free <ℤ pos 0 → need f ≤ℤ f.cash → P (paid_up f (need f)))
      → (f.free <ℤ pos 0 → f.cash <ℤ need f → P (in_default f))
      → P (settled f)
  unfolding settled
  settled-keeps enough covered short =
      cond-keeps P (le_z (pos 0) f.free) _ _
      (λ t. enough (le_yes refl refl t))
      (λ t. cond-keeps P (le_z (need f) f.cash) _ _
      (λ u. covered (le-no refl refl t) (le_yes refl refl u))
      (λ u. short (le-no refl refl t) (le-no refl refl u)))

module _ (P : Result Funds PaymentError → Type 0) (f : Funds) (amount : ℤ) where
  pub paid-in-keeps : P (Err Full)
      → (((f.cash +ℤ amount) +ℤ f.margin) ≤ℤ cash_most → P (Ok (with_money f (f.cash +ℤ amount) f.margin)))
      → P (paid_in f amount)
  unfolding paid_in
  paid-in-keeps full made =
      cond-keeps P (lt_z cash_most ((f.cash +ℤ amount) +ℤ f.margin)) _ _ (λ t. full) (λ t. made (lt_no refl refl t))

  pub paid-out-keeps : P (Err InDefault) → P (Err TooMuch)
      → (amount ≤ℤ f.cash → P (Ok (with_money f (f.cash -ℤ amount) f.margin)))
      → P (paid_out f amount)
  unfolding paid_out
  paid-out-keeps flag more made =
      cond-keeps P f.flag _ _
      (λ t. flag)
      (λ t. cond-keeps P (lt_z f.cash amount) _ _ (λ u. more) (λ u. made (lt_no refl refl u)))

  pub released-keeps : P (Err InDefault) → P (Err TooMuch)
      → (amount ≤ℤ (f.margin -ℤ f.requirement) → P (Ok (with_money f (f.cash +ℤ amount) (f.margin -ℤ amount))))
      → P (released f amount)
  unfolding released
  released-keeps flag more made =
      cond-keeps P f.flag _ _
      (λ t. flag)
      (λ t. cond-keeps P (lt_z (f.margin -ℤ f.requirement) amount) _ _ (λ u. more) (λ u. made (lt_no refl refl u)))

-- ---- what an account has in all: its cash, its margin, and what is due to it (below zero, from it)
abbrev pub worth : Funds → ℤ
worth f = (f.cash +ℤ f.margin) +ℤ f.due

-- a bill adds the variation alone
pub billed-worth : (f : Funds) (variation requirement : ℤ) → worth (billed f variation requirement) ≡ worth f +ℤ variation
unfolding billed
billed-worth f variation requirement = sym (+ℤ_assoc (f.cash +ℤ f.margin) f.due variation)

-- from margin to cash, nothing is added
pub moved-worth : (f : Funds) (amount : ℤ) → worth (with_money f (f.cash +ℤ amount) (f.margin -ℤ amount)) ≡ worth f
moved-worth f amount = moved f.cash f.margin f.due amount
  where
    moved : (c m d k : ℤ) → ((c +ℤ k) +ℤ (m -ℤ k)) +ℤ d ≡ (c +ℤ m) +ℤ d
    moved c m d k = parts₄ c m d k (λ x y z w. simp (x.is, y.is, z.is, w.is, ring) (omega zarith))

-- ---- what a settlement moves
-- What was called goes from cash to margin, what the house paid from due to margin, and no more.
pub record Moves (f : Funds) (t : Settlement) : Type 0 where
  pub cash : t.funds.cash ≡ f.cash -ℤ t.called
  pub margin : t.funds.margin ≡ f.margin +ℤ (t.called +ℤ t.paid)
  pub paid : t.paid ≡ f.due -ℤ t.funds.due
  pub worth : worth t.funds ≡ worth f

module _ (f : Funds) where
  pub paid-up-moves : (called : ℤ) → Moves f (paid_up f called)
  unfolding paid_up
  paid-up-moves called = record {
    cash = refl;
    margin = +ℤ_assoc f.margin called f.due;
    paid = sym (+ℤ_idr f.due);
    worth = moved f.cash f.margin f.due called;
  }
    where
      moved : (c m d k : ℤ) → ((c -ℤ k) +ℤ ((m +ℤ k) +ℤ d)) +ℤ pos 0 ≡ (c +ℤ m) +ℤ d
      moved c m d k = parts₄ c m d k (λ x y z w. simp (x.is, y.is, z.is, w.is, ring) (omega zarith))

  in-default-moves : Moves f (in_default f)
  unfolding in_default
  in-default-moves = record {
    cash = sym (+ℤ_idr f.cash);
    margin = sym (+ℤ_idr f.margin);
    paid = sym (+ℤ_invr f.due);
    worth = refl;
  }

  pub settled-moves : Moves f (settled f)
  settled-moves =
      settled-keeps (Moves f) f
      (λ free. paid-up-moves (pos 0))
      (λ free covered. paid-up-moves (need f))
      (λ free short. in-default-moves)

-- ---- which of its three outcomes a settlement has
module _ (f : Funds) where
  pub settled-free : pos 0 ≤ℤ f.free → settled f ≡ paid_up f (pos 0)
  settled-free enough =
      settled-keeps (λ t. t ≡ paid_up f (pos 0)) f
      (λ free. refl)
      (λ free covered. clash_ℤ free enough)
      (λ free short. clash_ℤ free enough)

  pub settled-called : f.free <ℤ pos 0 → need f ≤ℤ f.cash → settled f ≡ paid_up f (need f)
  settled-called low enough =
      settled-keeps (λ t. t ≡ paid_up f (need f)) f
      (λ free. clash_ℤ low free)
      (λ free covered. refl)
      (λ free short. clash_ℤ short enough)

  -- The flag is set exactly when free is below 0 and cash does not cover the need. Then nothing moves.
  pub settled-default : f.free <ℤ pos 0 → f.cash <ℤ need f → settled f ≡ in_default f
  settled-default low less =
      settled-keeps (λ t. t ≡ in_default f) f
      (λ free. clash_ℤ low free)
      (λ free covered. clash_ℤ less covered)
      (λ free short. refl)

  pub default-set : f.free <ℤ pos 0 → f.cash <ℤ need f → (settled f).funds.flag ≡ true
  unfolding in_default
  default-set low less = ap (λ t. t.funds.flag) (settled-default low less)

  pub default-only : (settled f).funds.flag ≡ true → (f.free <ℤ pos 0) × (f.cash <ℤ need f)
  unfolding paid_up
  default-only =
      settled-keeps (λ t. t.funds.flag ≡ true → (f.free <ℤ pos 0) × (f.cash <ℤ need f)) f
      (λ free set. absurd (false≢true set))
      (λ free covered set. absurd (false≢true set))
      (λ free short set. (free, short))

  -- What was due is paid and then no longer due; in default nothing is paid, and it stays due.
  pub settled-paid : (settled f).funds.flag ≡ false → ((settled f).paid ≡ f.due) × ((settled f).funds.due ≡ pos 0)
  unfolding paid_up in_default
  settled-paid =
      settled-keeps (λ t. t.funds.flag ≡ false → (t.paid ≡ f.due) × (t.funds.due ≡ pos 0)) f
      (λ free clear. (refl, refl))
      (λ free covered clear. (refl, refl))
      (λ free short clear. absurd (true≢false clear))

  pub settled-unpaid : (settled f).funds.flag ≡ true → ((settled f).paid ≡ pos 0) × ((settled f).funds.due ≡ f.due)
  unfolding paid_up in_default
  settled-unpaid =
      settled-keeps (λ t. t.funds.flag ≡ true → (t.paid ≡ pos 0) × (t.funds.due ≡ f.due)) f
      (λ free set. absurd (false≢true set))
      (λ free covered set. absurd (false≢true set))
      (λ free short set. (refl, refl))

  -- ---- at the edges
  -- where free is exactly 0, nothing is called
  pub free-zero : f.free ≡ pos 0 → (settled f).called ≡ pos 0
  unfolding paid_up
  free-zero e = ap (λ t. t.called) (settled-free (subst (λ z. pos 0 ≤ℤ z) (sym e) (≤ℤ_refl (pos 0))))

  -- where cash is exactly the need, all of it is called
  pub cash-called : f.free <ℤ pos 0 → f.cash ≡ need f → ((settled f).called ≡ f.cash) × ((settled f).funds.cash ≡ pos 0)
  unfolding paid_up
  cash-called low e =
      let covered = settled-called low (subst (λ z. need f ≤ℤ z) (sym e) (≤ℤ_refl (need f))) in (
        ap (λ t. t.called) covered ∙ sym e,
        ap (λ t. t.funds.cash) covered ∙ ap (λ z. z -ℤ need f) e ∙ +ℤ_invr (need f),
      )

-- ---- what a settlement leaves in margin
module _ (f : Funds) (bill : Billed f) where
  -- the requirement, and what free and the call come to
  pub paid-up-margin : (called : ℤ) → (paid_up f called).funds.margin ≡ f.requirement +ℤ (f.free +ℤ called)
  unfolding paid_up
  paid-up-margin called = rw bill.free (rest f.margin f.due f.requirement called)
    where
      rest : (m d r k : ℤ) → (m +ℤ k) +ℤ d ≡ r +ℤ (((m +ℤ d) -ℤ r) +ℤ k)
      rest m d r k = parts₄ m d r k (λ x y z w. simp (x.is, y.is, z.is, w.is, ring) (omega zarith))

  -- just the requirement, where the need was called
  need-margin : (paid_up f (need f)).funds.margin ≡ f.requirement
  need-margin =
      paid-up-margin (need f) ∙ ap (λ z. f.requirement +ℤ z) (+ℤ_invr f.free) ∙ +ℤ_idr f.requirement

  -- An account that is not in default has at least the requirement in margin.
  pub margin-covers : (settled f).funds.flag ≡ false → (settled f).funds.requirement ≤ℤ (settled f).funds.margin
  unfolding paid_up in_default
  margin-covers =
      settled-keeps (λ t. t.funds.flag ≡ false → t.funds.requirement ≤ℤ t.funds.margin) f
      (λ free clear. rw (paid-up-margin (pos 0)) (above f.requirement f.free free))
      (λ free covered clear. rw need-margin (≤ℤ_refl f.requirement))
      (λ free short clear. absurd (true≢false clear))
    where
      above : (r x : ℤ) → pos 0 ≤ℤ x → r ≤ℤ (r +ℤ (x +ℤ pos 0))
      above r x = parts₂ r x (λ a b. simp (a.is, b.is, ring) (omega zarith))

  -- Where something was called, it has just that.
  pub margin-exact : ¬ ((settled f).called ≡ pos 0) → (settled f).funds.margin ≡ (settled f).funds.requirement
  unfolding paid_up in_default
  margin-exact =
      settled-keeps (λ t. ¬ (t.called ≡ pos 0) → t.funds.margin ≡ t.funds.requirement) f
      (λ free called. absurd (called refl))
      (λ free covered called. need-margin)
      (λ free short called. absurd (called refl))

-- ---- payments
-- Each refusal in its case, and in no other. Document 01, Refusal numbers: "17 | pay in: cash + margin would exceed 10^17", "12 |
-- account in default", "15 | more than cash (pay out) or than may be released".
module _ (f : Funds) (amount : ℤ) where
  pub paid-in-full : cash_most <ℤ ((f.cash +ℤ amount) +ℤ f.margin) → paid_in f amount ≡ Err Full
  unfolding paid_in
  paid-in-full h = rw (lt-true h)

  pub paid-in-made : ((f.cash +ℤ amount) +ℤ f.margin) ≤ℤ cash_most
      → paid_in f amount ≡ Ok (with_money f (f.cash +ℤ amount) f.margin)
  unfolding paid_in
  paid-in-made h = rw (lt-false h)

  pub paid-out-default : f.flag ≡ true → paid_out f amount ≡ Err InDefault
  unfolding paid_out
  paid-out-default e = rw e

  pub paid-out-more : f.flag ≡ false → f.cash <ℤ amount → paid_out f amount ≡ Err TooMuch
  unfolding paid_out
  paid-out-more e h = rw (e, lt-true h)

  pub paid-out-made : f.flag ≡ false → amount ≤ℤ f.cash
      → paid_out f amount ≡ Ok (with_money f (f.cash -ℤ amount) f.margin)
  unfolding paid_out
  paid-out-made e h = rw (e, lt-false h)

  pub released-default : f.flag ≡ true → released f amount ≡ Err InDefault
  unfolding released
  released-default e = rw e

  pub released-more : f.flag ≡ false → (f.margin -ℤ f.requirement) <ℤ amount → released f amount ≡ Err TooMuch
  unfolding released
  released-more e h = rw (e, lt-true h)

  pub released-made : f.flag ≡ false → amount ≤ℤ (f.margin -ℤ f.requirement)
      → released f amount ≡ Ok (with_money f (f.cash +ℤ amount) (f.margin -ℤ amount))
  unfolding released
  released-made e h = rw (e, lt-false h)

-- a refusal changes nothing
pub refused-same : (f : Funds) (p : Result Funds PaymentError) → ¬ (refusal_of p ≡ 0) → after f p ≡ f
refused-same f (Ok g) refused = absurd (refused refl)
refused-same f (Err e) refused = refl

cash-worth : (f : Funds) (k : ℤ) → ((f.cash +ℤ k) +ℤ f.margin) +ℤ f.due ≡ worth f +ℤ k
cash-worth f k = added f.cash f.margin f.due k
  where
    added : (c m d k : ℤ) → ((c +ℤ k) +ℤ m) +ℤ d ≡ ((c +ℤ m) +ℤ d) +ℤ k
    added c m d k = parts₄ c m d k (λ x y z w. simp (x.is, y.is, z.is, w.is, ring) (omega zarith))

-- paying in adds the amount, paying out takes it, and a release moves within
module _ (f : Funds) (amount : ℤ) where
  pub paid-in-worth : refusal_of (paid_in f amount) ≡ 0 → worth (after f (paid_in f amount)) ≡ worth f +ℤ amount
  paid-in-worth =
      paid-in-keeps (λ p. refusal_of p ≡ 0 → worth (after f p) ≡ worth f +ℤ amount) f amount
      (λ refused. absurd (omega arith))
      (λ room made. cash-worth f amount)

  pub paid-out-worth : refusal_of (paid_out f amount) ≡ 0 → worth (after f (paid_out f amount)) ≡ worth f -ℤ amount
  paid-out-worth =
      paid-out-keeps (λ p. refusal_of p ≡ 0 → worth (after f p) ≡ worth f -ℤ amount) f amount
      (λ refused. absurd (omega arith))
      (λ refused. absurd (omega arith))
      (λ room made. cash-worth f (neg_ℤ amount))

  pub released-worth : worth (after f (released f amount)) ≡ worth f
  released-worth =
      released-keeps (λ p. worth (after f p) ≡ worth f) f amount refl refl (λ room. moved-worth f amount)
