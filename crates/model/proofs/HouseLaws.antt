-- The house has what is due to the accounts, whatever is called: what a close books it owes, and what a settlement pays it owes no more.
use Rattle.std.specs.Prelude.{◌≡◌, refl, false, ℕ, eqb, ℤ, pos, ◌+ℤ◌, ◌-ℤ◌}
use Rattle.std.proofs.Math.Path.{sym, ap}
use Rattle.std.proofs.Common.{◌∙◌, eqb-true}
use Rattle.std.proofs.lemmas.Bool.{not-true}
use Rattle.std.proofs.Math.IntN.{+ℤ_idr}
use Rattle.lists.specs.HasLaws.{by_test, when_true, when_false}
use Rattle.lists.specs.Zipped.{zipped_map}
use Rattle.whole.specs.Parts.{parts₃, ring, zarith}
use Rattle.whole.specs.Sums.{sum_z}
use Rattle.whole.specs.Over.{sum_over, over_none}
use Rattle.booking.specs.Variation.{variation_at, variation}
use Rattle.booking.specs.VariationLaws.{variation-flat}
use Rattle.funds.specs.Funds as funds
use Rattle.funds.specs.FundsLaws.{settled-moves, paid-in-keeps, paid-out-keeps, released-keeps}
use Rattle.funds.specs.declared.Funds.{Funds}
use Rattle.accounts.specs.CloseLaws.{closed-due}
use Rattle.model.specs.Book.{Book, new, is_member, positions_of, account_of, replaced}
use Rattle.model.specs.Calls.{Call, start, enrol, pay_in, pay_out, release, set_special, set_limits, opening, trade, quote, settle, refresh, close, unknown}
use Rattle.model.specs.Effects.{paid_to, mark_of, day_end_of, closed_at, after}
use Rattle.model.specs.Refusals.{tests}
use Rattle.model.specs.History.{variation_in}
use Rattle.model.specs.Kept.{Framed, LevelIn, Owing}
use Rattle.model.specs.SumLaws.{Total, total_ext, total-add, total-sub, total-more, total-over}
use Rattle.model.proofs.StepLaws.{Passed, needed}
use Rattle.model.proofs.LevelLaws.{level-variation}

-- ---- payments leave what is due
module _ (f : Funds) (x : ℤ) where
  pub in-due : (funds.after f (funds.paid_in f x)).due ≡ f.due
  in-due = paid-in-keeps (λ p. (funds.after f p).due ≡ f.due) f x refl (λ room. refl)

  pub out-due : (funds.after f (funds.paid_out f x)).due ≡ f.due
  out-due = paid-out-keeps (λ p. (funds.after f p).due ≡ f.due) f x refl refl (λ room. refl)

  pub release-due : (funds.after f (funds.released f x)).due ≡ f.due
  release-due = released-keeps (λ p. (funds.after f p).due ≡ f.due) f x refl refl (λ room. refl)

-- a settlement takes what it pays from what is due
pub settled-due : (f : Funds) → (funds.settled f).funds.due ≡ f.due -ℤ (funds.settled f).paid
settled-due f = less (funds.settled f).paid f.due (funds.settled f).funds.due (settled-moves f).paid
  where
    less : (p d e : ℤ) → p ≡ d -ℤ e → e ≡ d -ℤ p
    less p d e = parts₃ p d e (λ x y z. simp (x.is, y.is, z.is, ring) (omega zarith))

-- ---- one account's funds replaced, where it keeps a quantity
pub replaced-same : (g : Funds → ℤ) (f : ℕ → Funds) (k : ℕ) (x : Funds) → g x ≡ g (f k) → (n : ℕ) → g (replaced f k x n) ≡ g (f n)
replaced-same g f k x e n =
    by_test (eqb n k)
    (λ d. ap g (when_true x (f n) d) ∙ e ∙ ap (λ m. g (f m)) (sym (eqb-true n k d)))
    (λ d. ap g (when_false x (f n) d))

-- ---- a close and a settlement, for every account number
-- what a close books to an account, contract by contract
pub variation-by-code : (b : Book) (final : ℤ) (n : ℕ)
    → variation (positions_of b n) (day_end_of b final).marks ≡ sum_over (variation_in b final n) b.contracts.codes
unfolding variation
variation-by-code b final n = ap sum_z (zipped_map variation_at (b.accounts.position n) (mark_of b final) b.contracts.codes)

module _ {b : Book} (i : Framed b) (n : ℕ) where
  -- an account that is not enrolled has no variation, and is paid nothing
  strange-variation : (final : ℤ) → is_member b n ≡ false → sum_over (variation_in b final n) b.contracts.codes ≡ pos 0
  strange-variation final h =
      over_none (variation_in b final n) b.contracts.codes
      (λ c. ap (λ p. variation_at p (mark_of b final c)) (i.strange-positions n c h) ∙ variation-flat (mark_of b final c))

  strange-paid : is_member b n ≡ false → paid_to b n ≡ pos 0
  unfolding funds.settled funds.paid_up funds.new_funds
  strange-paid h = ap (λ f. (funds.settled f).paid) (i.strangers n h).1

  -- whatever of an account's money grows by its variation
  pub grows : (g : Funds → ℤ) (final : ℤ)
      → g (closed_at b final n).funds ≡ g (b.accounts.funds n) +ℤ variation (positions_of b n) (day_end_of b final).marks
      → g ((after b (close final)).accounts.funds n) ≡ g (b.accounts.funds n) +ℤ sum_over (variation_in b final n) b.contracts.codes
  unfolding after
  grows g final e = by_test (is_member b n)
      (λ m. ap g (when_true _ _ m) ∙ e ∙ ap (λ t. g (b.accounts.funds n) +ℤ t) (variation-by-code b final n))
      (λ m. ap g (when_false _ _ m) ∙ sym (ap (λ t. g (b.accounts.funds n) +ℤ t) (strange-variation final m) ∙ +ℤ_idr (g (b.accounts.funds n))))

  pub close-due : (final : ℤ)
      → ((after b (close final)).accounts.funds n).due ≡ (b.accounts.funds n).due +ℤ sum_over (variation_in b final n) b.contracts.codes
  close-due final = grows (λ f. f.due) final (closed-due (day_end_of b final) (account_of b n))

  pub settle-due : ((after b settle).accounts.funds n).due ≡ (b.accounts.funds n).due -ℤ paid_to b n
  unfolding after
  settle-due = by_test (is_member b n)
      (λ e. rw e (settled-due (b.accounts.funds n)))
      (λ e. rw (e, strange-paid e) (sym (+ℤ_idr (b.accounts.funds n).due)))

-- what a close books sums to zero over the accounts
pub variations-cancel : (b : Book) → Framed b → ((c : ℕ) → LevelIn c b) → (final : ℤ)
    → Total b.accounts.members (λ n. sum_over (variation_in b final n) b.contracts.codes) (pos 0)
variations-cancel b d z final = total-over (variation_in b final) b.contracts.codes (λ c. level-variation d c (z c) (mark_of b final c))

-- ---- a new book, and all calls
pub owing-new : Owing new
unfolding new sum_z
owing-new = refl

-- what is due to all account numbers, where nothing is to who is no member
abbrev Dues : Book → Type 0
Dues b = Total b.accounts.members (λ n. (b.accounts.funds n).due) b.house

dues : {b : Book} → Framed b → Owing b → Dues b
unfolding funds.new_funds
dues d i = record { away = λ n h. ap (λ (f : Funds). f.due) (d.strangers n h).1; sums = sym i }

dues-after : (b : Book) (x : Call) → Framed b → ((c : ℕ) → LevelIn c b) → Passed (tests b x) → Dues b → Dues (after b x)
unfolding after
dues-after b (start s) d z p i = i
dues-after b (enrol n x) d z p i = total-more n (not-true (is_member b n) (needed 6 tt p.1.0)) i
dues-after b (pay_in n x) d z p i = total_ext i (replaced-same (λ f. f.due) b.accounts.funds n _ (in-due (b.accounts.funds n) x)) refl
dues-after b (pay_out n x) d z p i = total_ext i (replaced-same (λ f. f.due) b.accounts.funds n _ (out-due (b.accounts.funds n) x)) refl
dues-after b (release n x) d z p i = total_ext i (replaced-same (λ f. f.due) b.accounts.funds n _ (release-due (b.accounts.funds n) x)) refl
dues-after b (set_special n x) d z p i = i
dues-after b (set_limits n x) d z p i = i
dues-after b (opening o) d z p i = i
dues-after b (trade t) d z p i = i
dues-after b (quote q) d z p i = i
dues-after b settle d z p i = total_ext (total-sub i (record { away = strange-paid d; sums = refl })) (settle-due d) refl
dues-after b refresh d z p i = i
dues-after b (close final) d z p i = total_ext (total-add i (variations-cancel b d z final)) (λ n. close-due d n final) (sym (+ℤ_idr b.house))
dues-after b unknown d z p i = i

pub owing-after : (b : Book) (x : Call) → Framed b → ((c : ℕ) → LevelIn c b) → Passed (tests b x) → Owing b → Owing (after b x)
owing-after b x d z p i = sym (dues-after b x d z p (dues d i)).sums
