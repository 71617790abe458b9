-- No money is made or lost, and the house has what is booked and not yet paid.
use Rattle.std.specs.Prelude.{◌≡◌, refl, true, false, List, [], ◌∷◌, ℕ, eqb, ℤ, pos, neg_ℤ, ◌+ℤ◌, ◌-ℤ◌}
use Rattle.std.proofs.Common.{sym, ◌∙◌, ap, ap₂, eqb-true}
use Rattle.std.proofs.lemmas.Bool.{not-true}
use Rattle.std.proofs.Math.IntN.{+ℤ_idr}
use Rattle.lists.specs.Has.{has, Distinct}
use Rattle.lists.specs.HasLaws.{by_test, when_true, when_false}
use Rattle.lists.specs.Tabulate.{tab}
use Rattle.whole.specs.Parts.{parts₃, ring, zarith}
use Rattle.whole.specs.Sums.{sum_z}
use Rattle.whole.specs.Over.{sum_over, over-ext, over_add}
use Rattle.records.specs.Records.{Entry}
use Rattle.booking.specs.Variation.{variation_at}
use Rattle.booking.specs.VariationLaws.{variation-flat}
use Rattle.funds.specs.Funds as funds
use Rattle.funds.specs.FundsLaws.{worth, settled-moves, paid-in-worth, paid-out-worth, released-worth}
use Rattle.funds.specs.declared.Funds.{Funds}
use Rattle.accounts.specs.CloseLaws.{closed-worth}
use Rattle.model.specs.Book.{Book, new, is_member, is_listed, account_of, replaced}
use Rattle.model.specs.Calls.{Call, start, enrol, pay_in, pay_out, release, set_special, set_limits, opening, trade, quote, settle, refresh, close, unknown, call_of}
use Rattle.model.specs.Effects.{paid_to, mark_of, day_end_of, after}
use Rattle.model.specs.Refusals.{tests}
use Rattle.model.specs.History.{Step, step, run, log, variation_in, booked, booked_to, paid_in, paid_out, moved_to}
use Rattle.model.specs.Kept.{Framed, Kept}
use Rattle.model.specs.SumLaws.{only, Total, total-none, total_ext, total-add, total-only, total-more}
use Rattle.model.proofs.StepLaws.{Passed, needed, induct}
use Rattle.model.proofs.ListedLaws.{listed_below}
use Rattle.model.proofs.HouseLaws.{in-due, out-due, release-due, replaced-same, grows, close-due, settle-due, variations-cancel}
use Rattle.model.proofs.KeptLaws.{known, kept-once}
use Rattle.model.specs.TableLaws.{tab-none, tab-add, tab-over}

-- x added before y is taken, or after
swap : (a x y : ℤ) → (a +ℤ x) -ℤ y ≡ (a -ℤ y) +ℤ x
swap a x y = parts₃ a x y (λ p q r. simp (p.is, q.is, r.is, ring) (omega zarith))

-- x and y taken at once, or one after the other
further : (a x y : ℤ) → a -ℤ (x +ℤ y) ≡ (a -ℤ x) -ℤ y
further a x y = parts₃ a x y (λ p q r. simp (p.is, q.is, r.is, ring) (omega zarith))

-- ---- one account's funds replaced, where it adds y to a quantity
replaced-adds : (g : Funds → ℤ) (f : ℕ → Funds) (k : ℕ) (x : Funds) (y : ℤ) → g x ≡ g (f k) +ℤ y → (n : ℕ)
    → g (replaced f k x n) ≡ g (f n) +ℤ only k y n
replaced-adds g f k x y e n =
    by_test (eqb n k)
    (λ d. ap g (when_true x (f n) d) ∙ e ∙ ap₂ (λ m t. g (f m) +ℤ t) (sym (eqb-true n k d)) (sym (when_true y (pos 0) d)))
    (λ d. ap g (when_false x (f n) d) ∙ sym (ap (λ t. g (f n) +ℤ t) (when_false y (pos 0) d) ∙ +ℤ_idr (g (f n))))

-- ---- a close and a settlement, for every account number
module _ {b : Book} (i : Framed b) (n : ℕ) where
  close-worth : (final : ℤ)
      → worth ((after b (close final)).accounts.funds n) ≡ worth (b.accounts.funds n) +ℤ sum_over (variation_in b final n) b.contracts.codes
  close-worth final = grows i n worth final (closed-worth (day_end_of b final) (account_of b n))

  settle-worth : worth ((after b settle).accounts.funds n) ≡ worth (b.accounts.funds n)
  unfolding after
  settle-worth = by_test (is_member b n) (λ e. rw e (settled-moves (b.accounts.funds n)).worth) (λ e. rw e)

-- ---- the invariant: what accounts have in all, what is due to them included, is what was paid in less what was paid out
abbrev MoneyIn : Book → List Step → Type 0
MoneyIn b l = Total b.accounts.members (λ n. worth (b.accounts.funds n)) (paid_in l -ℤ paid_out l)

-- a payment that adds y to what the account k has
paid-money : {ms : List ℕ} {s : ℤ} (f : ℕ → Funds) (k : ℕ) (x : Funds) (y : ℤ) → Distinct ms → has k ms ≡ true
    → worth x ≡ worth (f k) +ℤ y → Total ms (λ n. worth (f n)) s → Total ms (λ n. worth (replaced f k x n)) (s +ℤ y)
paid-money f k x y d h adds i = total_ext (total-add i (total-only k y d h)) (replaced-adds worth f k x y adds) refl

money-begins : MoneyIn new []
unfolding new funds.new_funds paid_in paid_out
money-begins = total-none []

money-more : (b : Book) (l : List Step) (x : Call) → Kept b → Passed (tests b x) → MoneyIn b l → MoneyIn (after b x) (step b x ∷ l)
unfolding after paid_in paid_out
money-more b l (start s) k p i = i
money-more b l (enrol n x) k p i = total-more n (not-true (is_member b n) (needed 6 tt p.1.0)) i
money-more b l (pay_in n x) k p i =
    rw (swap (paid_in l) x (paid_out l))
    (paid-money b.accounts.funds n _ x k.framed.once (needed 5 tt p.1.0) (paid-in-worth (b.accounts.funds n) x p.1.1.0) i)
money-more b l (pay_out n x) k p i =
    rw (further (paid_in l) (paid_out l) x)
    (paid-money b.accounts.funds n _ (neg_ℤ x) k.framed.once (needed 5 tt p.1.0) (paid-out-worth (b.accounts.funds n) x p.1.1.0) i)
money-more b l (release n x) k p i =
    let f = b.accounts.funds n in
    rw (sym (+ℤ_idr (paid_in l -ℤ paid_out l)))
    (paid-money b.accounts.funds n _ (pos 0) k.framed.once (needed 5 tt p.1.0) (released-worth f x ∙ sym (+ℤ_idr (worth f))) i)
money-more b l (set_special n x) k p i = i
money-more b l (set_limits n x) k p i = i
money-more b l (opening o) k p i = i
money-more b l (trade t) k p i = i
money-more b l (quote q) k p i = i
money-more b l settle k p i = total_ext i (settle-worth k.framed) refl
money-more b l refresh k p i = i
money-more b l (close final) k p i =
    total_ext (total-add i (variations-cancel b k.framed k.level final)) (λ n. close-worth k.framed n final) (sym (+ℤ_idr (paid_in l -ℤ paid_out l)))
money-more b l unknown k p i = i

money : (h : List Entry) → MoneyIn (run h) (log h)
money = induct MoneyIn money-begins (λ h e a i. money-more (run h) (log h) (call_of e) (known h) a.passed i)

-- ---- what is due to an account: what was booked to it, less what was paid
due-more : (n : ℕ) (b : Book) (l : List Step) (x : Call) → Framed b → (b.accounts.funds n).due ≡ booked_to n l -ℤ moved_to n l
    → ((after b x).accounts.funds n).due ≡ booked_to n (step b x ∷ l) -ℤ moved_to n (step b x ∷ l)
unfolding after booked_to moved_to
due-more n b l (start s) d i = i
due-more n b l (enrol m x) d i = i
due-more n b l (pay_in m x) d i = replaced-same (λ f. f.due) b.accounts.funds m _ (in-due (b.accounts.funds m) x) n ∙ i
due-more n b l (pay_out m x) d i = replaced-same (λ f. f.due) b.accounts.funds m _ (out-due (b.accounts.funds m) x) n ∙ i
due-more n b l (release m x) d i = replaced-same (λ f. f.due) b.accounts.funds m _ (release-due (b.accounts.funds m) x) n ∙ i
due-more n b l (set_special m x) d i = i
due-more n b l (set_limits m x) d i = i
due-more n b l (opening o) d i = i
due-more n b l (trade t) d i = i
due-more n b l (quote q) d i = i
due-more n b l settle d i = settle-due d n ∙ ap (λ t. t -ℤ paid_to b n) i ∙ sym (further (booked_to n l) (moved_to n l) (paid_to b n))
due-more n b l refresh d i = i
due-more n b l (close final) d i =
    let v = sum_over (variation_in b final n) b.contracts.codes in
    close-due d n final ∙ ap (λ t. t +ℤ v) i ∙ sym (swap (booked_to n l) v (moved_to n l))
due-more n b l unknown d i = i

pub due-is : (h : List Entry) (n : ℕ) → ((run h).accounts.funds n).due ≡ booked_to n (log h) -ℤ moved_to n (log h)
unfolding new funds.new_funds booked_to moved_to
due-is h n =
    induct (λ b l. (b.accounts.funds n).due ≡ booked_to n l -ℤ moved_to n l) refl
    (λ g e a i. due-more n (run g) (log g) (call_of e) (known g).framed i) h

-- ---- what was booked to an account, contract by contract
booked-more : (n : ℕ) (b : Book) (l : List Step) (x : Call) → Kept b → booked_to n l ≡ sum_z (tab (λ c. booked n c l) 10000)
    → booked_to n (step b x ∷ l) ≡ sum_z (tab (λ c. booked n c (step b x ∷ l)) 10000)
unfolding booked booked_to
booked-more n b l (start s) k i = i
booked-more n b l (enrol m x) k i = i
booked-more n b l (pay_in m x) k i = i
booked-more n b l (pay_out m x) k i = i
booked-more n b l (release m x) k i = i
booked-more n b l (set_special m x) k i = i
booked-more n b l (set_limits m x) k i = i
booked-more n b l (opening o) k i = i
booked-more n b l (trade t) k i = i
booked-more n b l (quote q) k i = i
booked-more n b l settle k i = i
booked-more n b l refresh k i = i
booked-more n b l (close final) k i =
    ap₂ ◌+ℤ◌ i (sym (tab-over (variation_in b final n) b.contracts.codes 10000 (kept-once k) (listed_below b k.listed) off))
    ∙ sym (tab-add (λ c. booked n c l) (variation_in b final n) 10000)
  where
    off : (c : ℕ) → is_listed b c ≡ false → variation_in b final n c ≡ pos 0
    off c e = ap (λ p. variation_at p (mark_of b final c)) (k.framed.unlisted n c e) ∙ variation-flat (mark_of b final c)
booked-more n b l unknown k i = i

-- ---- promise 3
pub house-owes : (h : List Entry) → (run h).house ≡ sum_over (λ n. ((run h).accounts.funds n).due) (run h).accounts.members
house-owes h = (known h).owing

pub money-stays : (h : List Entry)
    → sum_over (λ n. ((run h).accounts.funds n).cash +ℤ ((run h).accounts.funds n).margin) (run h).accounts.members +ℤ (run h).house
    ≡ paid_in (log h) -ℤ paid_out (log h)
money-stays h =
    let b = run h in
    ap (λ t. sum_over (λ n. (b.accounts.funds n).cash +ℤ (b.accounts.funds n).margin) b.accounts.members +ℤ t) (house-owes h)
    ∙ sym (over_add (λ n. (b.accounts.funds n).cash +ℤ (b.accounts.funds n).margin) (λ n. (b.accounts.funds n).due) b.accounts.members)
    ∙ (money h).sums

pub house-unpaid : (h : List Entry) → (run h).house ≡ sum_over (λ n. booked_to n (log h) -ℤ moved_to n (log h)) (run h).accounts.members
house-unpaid h = house-owes h ∙ over-ext _ _ (run h).accounts.members (due-is h)

pub all-contracts : (h : List Entry) (n : ℕ) → booked_to n (log h) ≡ sum_z (tab (λ c. booked n c (log h)) 10000)
unfolding booked booked_to
all-contracts h n =
    induct (λ b l. booked_to n l ≡ sum_z (tab (λ c. booked n c l) 10000)) (sym (tab-none (λ c. pos 0) 10000 (λ c. refl)))
    (λ g e a i. booked-more n (run g) (log g) (call_of e) (known g) i) h
