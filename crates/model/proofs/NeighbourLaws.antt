-- A settlement looks at one account at a time.
use Rattle.std.specs.Prelude.{◌≡◌, Bool, true, false, cond, eqb, ℤ, pos, ◌+ℤ◌, ◌-ℤ◌}
use Rattle.std.proofs.Math.Path.{refl, ap, fun_ext}
use Rattle.std.proofs.Common.{sym, ap₂, ◌∙◌, subst, eqb-true, eq-eqb}
use Prim.Native.Nat.{ℕ, zero, suc}
use Rattle.std.proofs.Math.IntN.{+ℤ_invr}
use Rattle.lists.specs.Has.{has}
use Rattle.lists.specs.HasLaws.{by_test, when_true, when_false}
use Rattle.whole.specs.Over.{sum_over, over-ext, over-sub}
use Rattle.funds.specs.Funds as funds
use Rattle.funds.specs.FundsLaws.{settled-keeps, settled-paid, settled-unpaid, paid-in-keeps, paid-out-keeps}
use Rattle.funds.specs.declared.Funds.{Funds}
use Rattle.records.specs.Records.{Entry}
use Rattle.model.specs.Book.{Book, is_member, account_of}
use Rattle.model.specs.Calls.{Call, pay_in, pay_out, settle, call_of}
use Rattle.model.specs.Effects.{with_funds, paid, after}
use Rattle.model.specs.Refusals.{refusal}
use Rattle.model.specs.Answers.{kept, called, answered, answer}
use Rattle.model.specs.Neighbours.{AlikeButCash, money_of, with_cash, with_money_of, AlikeButMoney, SameMorning, OneDefault, AnyMoney, PaymentApart, unpaid, HouseApart}
use Rattle.model.specs.RefusalLaws.{accepted-called}
use Rattle.model.specs.SumLaws.{only, over-away, over-only}
use Rattle.model.specs.Kept.{Framed, Kept}
use Rattle.model.proofs.KeptLaws.{kept-called}

-- ---- what the definition says of every other account
others_same : (k : ℕ) (a b : Book) → AlikeButMoney k a b → (n : ℕ) → eqb n k ≡ false → account_of a n ≡ account_of b n
others_same k a b h n d = subst (λ c. account_of a n ≡ account_of c n) h (rw d)

-- ---- the account itself: a settlement leaves requirement and free as they were
abbrev settled_if : Bool → Funds → Funds
settled_if member f = cond member (funds.settled f).funds f

settled-rest : (f : Funds) → money_of f (funds.settled f).funds ≡ (funds.settled f).funds
unfolding funds.paid_up funds.in_default
settled-rest f = settled-keeps (λ t. money_of f t.funds ≡ t.funds) f (λ free. refl) (λ free covered. refl) (λ free short. refl)

rest-settled : (member : Bool) (f g : Funds) → money_of (settled_if member f) (settled_if member (money_of f g)) ≡ settled_if member (money_of f g)
rest-settled true f g = ap (λ t. money_of t (funds.settled (money_of f g)).funds) (sym (settled-rest f)) ∙ settled-rest (money_of f g)
rest-settled false f g = refl

-- ---- a settlement of a, and of a with other money on k and in the house
module _ (k : ℕ) (a : Book) (g : Funds) (house : ℤ) where
  abbrev other : Book
  other = with_money_of a k g house

  -- refusals are by the point of the day
  refusal-same : (e : Entry) → call_of e ≡ settle → refusal a e ≡ refusal other e
  unfolding refusal
  refusal-same e q = rw q

  answers-same : (e : Entry) → call_of e ≡ settle → answer a e ≡ answer other e
  unfolding answer
  answers-same e q = rw (refusal-same e q, q) (go (refusal other e))
    where
      go : (r : ℕ) → answered r a settle ≡ answered r other settle
      go zero = refl
      go (suc r) = refl

  -- every other account is settled by its own money, which is the same
  others-settled : (n : ℕ) → eqb n k ≡ false → (after a settle).accounts.funds n ≡ (after other settle).accounts.funds n
  unfolding after
  others-settled n d = rw d

  own-settled : money_of ((after a settle).accounts.funds k) ((after other settle).accounts.funds k) ≡ (after other settle).accounts.funds k
  unfolding after
  own-settled = rw (eq-eqb k k refl) (rest-settled (is_member a k) (a.accounts.funds k) g)

  money-settled : AlikeButMoney k (after a settle) (after other settle)
  unfolding after
  money-settled =
      ap (with_funds (after other settle))
      (fun_ext λ n. by_test (eqb n k)
      (λ d. when_true _ _ d ∙ own-settled ∙ ap (after other settle).accounts.funds (sym (eqb-true n k d)))
      (λ d. when_false _ _ d ∙ others-settled n d))

  kept-alike : (r : ℕ) → AlikeButMoney k (kept r a settle) (kept r other settle)
  kept-alike zero = money-settled
  kept-alike (suc r) = rw (eq-eqb k k refl)

  called-alike : (e : Entry) → call_of e ≡ settle → AlikeButMoney k (called a e) (called other e)
  unfolding called
  called-alike e q = rw (refusal-same e q, q) (kept-alike (refusal other e))

  morning-other : (e : Entry) → call_of e ≡ settle → SameMorning k a other e
  morning-other e q = record {
    refusals = refusal-same e q;
    answers = answers-same e q;
    after = record { others = others_same k (called a e) (called other e) (called-alike e q); no_more = called-alike e q };
  }

pub any-money : AnyMoney
any-money k a b h e q = subst (λ c. SameMorning k a c e) h (morning-other k a (b.accounts.funds k) b.house e q)

-- ---- alike but for the cash of k
module _ (k : ℕ) (a : Book) where
  -- k's cash is part of its money
  cash-money : (cash : ℤ) → AlikeButMoney k a (with_cash a k cash)
  cash-money cash = rw (eq-eqb k k refl)

  -- nothing but the cash is new
  paid-alike : (cash : ℤ) → AlikeButCash k a (with_cash a k cash)
  paid-alike cash = rw (eq-eqb k k refl)

  itself-alike : AlikeButCash k a a
  itself-alike = ap (with_funds a) (fun_ext λ n. by_test (eqb n k) (λ d. rw (d, eqb-true n k d)) (λ d. rw d))

  -- refused payments leave the account's funds, and the cash that it had
  module _ (x : ℤ) where
    paid-in-alike : AlikeButCash k a (after a (pay_in k x))
    unfolding after
    paid-in-alike =
        paid-in-keeps (λ p. AlikeButCash k a (paid a k (funds.after (a.accounts.funds k) p))) (a.accounts.funds k) x
        (paid-alike (a.accounts.funds k).cash)
        (λ room. paid-alike ((a.accounts.funds k).cash +ℤ x))

    paid-out-alike : AlikeButCash k a (after a (pay_out k x))
    unfolding after
    paid-out-alike =
        paid-out-keeps (λ p. AlikeButCash k a (paid a k (funds.after (a.accounts.funds k) p))) (a.accounts.funds k) x
        (paid-alike (a.accounts.funds k).cash)
        (paid-alike (a.accounts.funds k).cash)
        (λ room. paid-alike ((a.accounts.funds k).cash -ℤ x))

pub one-default : OneDefault
one-default k a b h = any-money k a b (subst (AlikeButMoney k a) h (cash-money k a (b.accounts.funds k).cash))

pub payment-apart : PaymentApart
unfolding called after
payment-apart = record {
  paid-in = λ k x b e q. rw q (came k b (pay_in k x) (paid-in-alike k b x) (refusal b e));
  paid-out = λ k x b e q. rw q (came k b (pay_out k x) (paid-out-alike k b x) (refusal b e));
}
  where
    came : (k : ℕ) (b : Book) (c : Call) → AlikeButCash k b (after b c) → (n : ℕ) → AlikeButCash k b (kept n b c)
    came k b c same zero = same
    came k b c same (suc n) = itself-alike k b

-- ---- the house is the sum of what is due, so it differs by what is due to k
abbrev due_to : Book → ℕ → ℤ
due_to b n = (b.accounts.funds n).due

due-apart : (k : ℕ) (a b : Book) → AlikeButMoney k a b → (n : ℕ) → due_to a n -ℤ due_to b n ≡ only k (due_to a k -ℤ due_to b k) n
due-apart k a b h n =
    by_test (eqb n k)
    (λ d. rw (d, eqb-true n k d))
    (λ d. rw (d, ap (λ x. x.funds.due) (others_same k a b h n d)) (+ℤ_invr (due_to b n)))

houses-apart : (k : ℕ) {a b : Book} → Kept a → Kept b → AlikeButMoney k a b → a.house -ℤ b.house ≡ due_to a k -ℤ due_to b k
unfolding funds.new_funds
houses-apart k {a} {b} i j same =
    let ms = a.accounts.members in
    let one = ap (λ c. c.accounts.members) same in
    ap₂ ◌-ℤ◌ i.owing (j.owing ∙ ap (sum_over (due_to b)) (sym one))
    ∙ sym (over-sub (due_to a) (due_to b) ms)
    ∙ over-ext _ _ ms (due-apart k a b same)
    ∙ by_test (has k ms)
    (over-only k _ ms i.framed.once)
    (λ m. over-away k _ ms m ∙ sym (ap₂ (λ f f'. f.due -ℤ f'.due) (i.framed.strangers k m).1 (j.framed.strangers k (ap (has k) (sym one) ∙ m)).1))

-- what is due after a settlement is what it did not pay
left-due : (member : Bool) (f : Funds) → (member ≡ false → f ≡ funds.new_funds)
    → (settled_if member f).due ≡ cond (settled_if member f).flag f.due (pos 0)
unfolding funds.new_funds
left-due true f new = by_test (funds.settled f).funds.flag (λ set. rw set (settled-unpaid f set).1) (λ clear. rw clear (settled-paid f clear).1)
left-due false f new = rw (new refl)

still-due : (b : Book) → Framed b → (k : ℕ) → due_to (after b settle) k ≡ unpaid b (after b settle) k
unfolding after
still-due b i k = left-due (is_member b k) (b.accounts.funds k) (λ m. (i.strangers k m).1)

pub house-apart : HouseApart
house-apart k a b i j same e q r =
    let s = one-default k a b same e q in
    houses-apart k (kept-called e i) (kept-called e j) s.after.no_more ∙ ap₂ ◌-ℤ◌ (unpaid-after i r) (unpaid-after j (sym s.refusals ∙ r))
  where
    unpaid-after : {c : Book} → Kept c → refusal c e ≡ 0 → due_to (called c e) k ≡ unpaid c (called c e) k
    unpaid-after {c} i r = rw (accepted-called c e r q) (still-due c i.framed k)
