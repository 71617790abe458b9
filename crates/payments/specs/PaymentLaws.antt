-- A payment or a release: the model's answer, and the memory of the book after it.
use Rattle.std.specs.Prelude.{◌≡◌, List, [], ◌∷◌, ℕ, ℤ, Result, Ok, Err}
use Rattle.std.proofs.Math.Path.{refl}
use Rattle.std.proofs.Common.{sym, ap, ◌∙◌, subst}
use Rattle.funds.specs.Funds as funds
use Rattle.funds.specs.Bounds as bounds
use Rattle.funds.specs.BoundLaws.{sound-later}
use Rattle.funds.specs.declared.Funds.{Funds}
use Rattle.funds.specs.declared.PaymentError.{PaymentError}
use Rattle.funds.specs.declared.PaymentError.TheVariants.{InDefault, TooMuch, Full}
use Rattle.accounts.specs.declared.Account.{Account}
use Rattle.memory.specs.Layout.{header_at, account_at}
use Rattle.memory.specs.Memory.{Holds}
use Rattle.memory.specs.MemoryLaws.{put-account}
use Rattle.model.specs.Book.{Book}
use Rattle.model.specs.Effects.{paid, after}
use Rattle.model.specs.Refusals.{first_of}
use Rattle.model.specs.Answers.{kept}
use Rattle.model.specs.Kept.{Kept}
use Rattle.model.proofs.KeptLaws.{kept-bounded}
use Rattle.standing.specs.Standing.{account_row, rows_of, view}
use Rattle.standing.specs.Made as standing
use Rattle.standing.specs.StandingLaws.{sound-kept, sound-holds}
use Rattle.standing.specs.MemberLaws.{funds-row}
use Rattle.standing.specs.SoundLaws.{sound-shaped}
use Rattle.places.specs.Places.{place_in}
use Rattle.places.specs.PlaceLaws.{Named, Names, refused-place, named}
use Rattle.refusals.specs.Refusals.{number_of}
use Rattle.refusals.specs.declared.Refusal.{Refusal}
use Rattle.payments.specs.Payments.{may_pay, paid_by, pay_call, with_funds, counts_paid, money_paid}
use Rattle.payments.specs.declared.Way.{Way}
use Rattle.payments.specs.declared.Way.TheVariants.{In, Out, Back}

-- ---- by the way
module _ (b : Book) (n : ℕ) (x : ℤ) where
  abbrev answer : Way → Result Funds PaymentError
  answer way = paid_by way (b.accounts.funds n) x

  pay-names : (way : Way) → Names b (pay_call way n x) (may_pay way) n (funds.refusal_of (answer way) ∷ [])
  pay-names In = refl
  pay-names Out = refl
  pay-names Back = refl

  pay-after : (way : Way) → after b (pay_call way n x) ≡ paid b n (funds.after (b.accounts.funds n) (answer way))
  unfolding after
  pay-after In = refl
  pay-after Out = refl
  pay-after Back = refl

last-test : (y : Result Funds PaymentError) → first_of (funds.refusal_of y ∷ []) ≡ funds.refusal_of y
unfolding first_of
last-test (Ok f) = refl
last-test (Err InDefault) = refl
last-test (Err TooMuch) = refl
last-test (Err Full) = refl

module _ {c : List ℕ} {m : List ℤ} (s : standing.Sound c m) (way : Way) (n : ℕ) (x : ℤ) {p : Result ℕ Refusal}
    (finds : p ≡ place_in c (may_pay way (header_at c).point) n) where
  abbrev book : Book
  book = view c m

  abbrev g : Kept book
  g = sound-kept s

  pub pay-refused : {refusal : Refusal} → p ≡ Err refusal → standing.Made c m (pay_call way n x) (number_of refusal) c m
  pay-refused = refused-place s n (pay_call way n x) (may_pay way) _ (pay-names book n x way) finds

  module _ {i : ℕ} (q : p ≡ Ok i) where
    pub payer : Named book c m (pay_call way n x) (funds.refusal_of (answer book n x way) ∷ []) n i
    payer = named s n (pay_call way n x) (may_pay way) _ (pay-names book n x way) finds q

    module _ {a : Account} (reads : a ≡ account_at c m i) where
      same : a ≡ account_row book n
      same = reads ∙ payer.row

      pub payer-sound : bounds.Sound bounds.days_most a.funds
      payer-sound =
          subst (λ (r : Account). bounds.Sound bounds.days_most r.funds) (sym same) (sound-later ((kept-bounded g).funds n) (kept-bounded g).days)

      -- a payment changes one row, and any other answer none
      holds-paid : (y : Result Funds PaymentError) → after book (pay_call way n x) ≡ paid book n (funds.after (book.accounts.funds n) y)
          → Holds (counts_paid c i a y) (money_paid m i a y) (rows_of (kept (funds.refusal_of y) book (pay_call way n x)))
      holds-paid (Ok f) e =
          rw same
          (subst (Holds _ _) (funds-row g n i payer.below payer.is f ∙ ap rows_of (sym e))
          (put-account (rows_of book) (sound-shaped s) (sound-holds s) i payer.small (with_funds (account_row book n) f)))
      holds-paid (Err InDefault) e = sound-holds s
      holds-paid (Err TooMuch) e = sound-holds s
      holds-paid (Err Full) e = sound-holds s

      pub paid-made : {y : Result Funds PaymentError} {number : ℕ} {c' : List ℕ} {m' : List ℤ} → y ≡ paid_by way a.funds x → number ≡ funds.refusal_of y
          → c' ≡ counts_paid c i a y → m' ≡ money_paid m i a y → standing.Made c m (pay_call way n x) number c' m'
      paid-made answers refuses counts money =
          let y = answer book n x way in
          rw (counts, money, refuses, answers ∙ ap (λ (r : Account). paid_by way r.funds x) same)
          (record { answers = sym (payer.decides ∙ last-test y); memory = holds-paid y (pay-after book n x way) })
