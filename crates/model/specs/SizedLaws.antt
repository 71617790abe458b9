-- A book whose parts are sized is bounded.
use Rattle.std.specs.Prelude.{◌≡◌, List, [], ◌∷◌, map, ℕ, zero, suc, ◌+◌, ◌*◌, ◌≤◌, ℤ, nat_abs, ◌+ℤ◌, ◌-ℤ◌, length, take}
use Rattle.std.proofs.Common.{zero-le, le_refl, le_trans, mul-le-mul, arith}
use Rattle.std.proofs.Math.IntN.{+ℤ_idr, +ℤ_invr}
use Rattle.lists.specs.Zipped.{zipped}
use Rattle.whole.specs.Parts.{parts₄, ring, zarith}
use Rattle.whole.specs.Within.{Within, nat_abs-+}
use Rattle.whole.specs.Sums.{sum_z}
use Rattle.whole.specs.Sizes.{sizes, sum-sizes}
use Rattle.whole.specs.Over.{sum_over}
use Rattle.whole.specs.Amounts.{Amount, amount-pos, amount-+, amount-widen}
use Rattle.totals.specs.Totals as positions
use Rattle.positions.specs.declared.Position.{Position}
use Rattle.funds.specs.Funds.{paid_up, in_default, settled}
use Rattle.funds.specs.FundsLaws.{settled-keeps}
use Rattle.funds.specs.declared.Funds.{Funds}
use Rattle.model.specs.Book.{Book, Point, unstarted, unopened, unsettled, settled_today, ended}
use Rattle.model.specs.Effects.{paid_to}
use Rattle.model.specs.Bounds.{closed_days, Bounded, SumsFit}
use Rattle.model.specs.Kept.{Sized}

-- ---- totals of any number of codes
total-most : (position : ℕ → Position) (margin : ℕ → ℕ) (codes : List ℕ)
    → ((c : ℕ) → Within 20000 (position c).net) → ((c : ℕ) → margin c ≤ 100000000)
    → Amount (length codes * 2000000000000) (positions.total (map position codes) (map margin codes))
unfolding positions.total zipped sum_z
total-most position margin [] n m = amount-pos 0 zero-le
total-most position margin (c ∷ codes) n m =
    amount-widen
    (amount-+ (amount-pos (nat_abs (position c).net * margin c) (mul-le-mul (n c).size (m c))) (total-most position margin codes n m))
    (omega arith)

-- ---- the house while a settlement goes from account to account
-- what is left of sums of which parts are taken, where no part taken lifts its number's size
partly : (d p : ℕ → ℤ) → ((n : ℕ) → nat_abs (d n -ℤ p n) ≤ nat_abs (d n)) → (ms : List ℕ) (k : ℕ)
    → nat_abs (sum_over d ms -ℤ sum_over p (take k ms)) ≤ sizes (map d ms)
unfolding sum_z sizes
partly d p h [] zero = zero-le
partly d p h [] (suc k) = zero-le
partly d p h (n ∷ ms) zero = rw (+ℤ_idr (d n +ℤ sum_over d ms)) (sum-sizes (map d (n ∷ ms)))
partly d p h (n ∷ ms) (suc k) =
    let rest = sum_over d ms -ℤ sum_over p (take k ms) in
    rw (apart (d n) (p n) (sum_over d ms) (sum_over p (take k ms)))
    (omega (arith, nat_abs-+ (d n -ℤ p n) rest, h n, partly d p h ms k))
  where
    apart : (a b s t : ℤ) → (a +ℤ s) -ℤ (b +ℤ t) ≡ (a -ℤ b) +ℤ (s -ℤ t)
    apart a b s t = parts₄ a b s t (λ x y z w. simp (x.is, y.is, z.is, w.is, ring) (omega zarith))

-- an account is paid all that is due to it, or nothing
pub unpaid : (f : Funds) → nat_abs (f.due -ℤ (settled f).paid) ≤ nat_abs f.due
unfolding paid_up in_default
unpaid f = settled-keeps (λ s. nat_abs (f.due -ℤ s.paid) ≤ nat_abs f.due) f
    (λ free. rw (+ℤ_invr f.due) zero-le)
    (λ free covered. rw (+ℤ_invr f.due) zero-le)
    (λ free short. rw (+ℤ_idr f.due) (le_refl _))

-- ---- the bounds
days-most : (p : Point) (day : ℕ) → closed_days p day ≤ day + 1
days-most unstarted day = zero-le
days-most unopened day = zero-le
days-most unsettled day = omega arith
days-most settled_today day = omega arith
days-most ended day = omega arith

pub sized-bounded : {b : Book} → Sized b → length b.contracts.codes ≤ 6
    → b.house ≡ sum_over (λ n. (b.accounts.funds n).due) b.accounts.members → Bounded b
sized-bounded {b} s few owes = record {
  days = omega (arith, days-most b.today.point b.today.day, s.today.day);
  trades = s.today.trades;
  accounts = s.members;
  reference = s.settings.reference;
  multiplier = s.settings.multiplier;
  terms = s.contracts.terms;
  tallies = s.contracts.tallies;
  held = s.held;
  funds = s.funded.sound;
  nets = s.dealt.nets;
  befores = s.dealt.befores;
  costs = s.dealt.costs;
  lots = s.dealt.lots;
  totals = λ n. amount-widen
      (total-most (b.accounts.position n) (λ c. (b.contracts.terms c).margin) b.contracts.codes
      (s.dealt.nets n) (λ c. (s.contracts.terms c).margin))
      (omega arith);
  limits = λ n. amount-+ (s.held n).core (s.held n).limits.tolerance;
  dues = s.funded.dues;
  house = record { size = rw owes (le_trans (sum-sizes (map (λ n. (b.accounts.funds n).due) b.accounts.members)) s.funded.dues) };
  settling = λ k. record {
    size = rw owes (le_trans
        (partly (λ n. (b.accounts.funds n).due) (paid_to b) (λ n. unpaid (b.accounts.funds n)) b.accounts.members k)
        s.funded.dues);
  };
}

-- 3,653 days of them are below 2^63
pub sums-fit : SumsFit
sums-fit = record { dues = omega arith; money = omega arith; free = omega arith; lot-weighted = omega arith; half-of-two = omega arith }
