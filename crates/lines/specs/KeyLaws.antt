-- What is shown of a code or an account that is there.
use Rattle.std.specs.Prelude.{◌≡◌, true, ℕ, Some, None}
use Rattle.std.proofs.Common.{◌∙◌, arith}
use Rattle.lists.specs.Has.{has}
use Rattle.lists.specs.HasLaws.{when_true}
use Rattle.rates.specs.declared.Settled.{Settled}
use Rattle.model.specs.Book.{Book, is_member}
use Rattle.model.specs.Answers.{bill_in}
use Rattle.reports.specs.declared.Bill as shown
use Rattle.reports.specs.Reports.{rated_in, billed_in}
use Rattle.lines.specs.Lines.{as_bill}

module _ (b : Book) (k : ℕ) where
  pub rated-is : {x : Settled} → has k b.results.codes ≡ true → Some x ≡ rated_in b k → x ≡ b.results.settled k
  rated-is h e = let same = e ∙ when_true _ _ h in cc

  pub rated-there : has k b.results.codes ≡ true → None ≡ rated_in b k → ⊥
  rated-there h e =
      let never = e ∙ when_true _ _ h in
      let z : ◌≡◌ {A = ℕ} 0 1 = cc in omega arith

  pub billed-is : {x : shown.Bill} → is_member b k ≡ true → Some x ≡ billed_in b k → as_bill x ≡ bill_in b k
  billed-is {x} h e =
      let same = e ∙ when_true _ _ h in
      let parts : (x.variation ≡ (bill_in b k).variation) × (x.due ≡ (bill_in b k).due)
      × (x.requirement ≡ (bill_in b k).requirement) × (x.free ≡ (bill_in b k).free) = (cc, cc, cc, cc) in
      rw (parts.0, parts.1, parts.2, parts.3)

  pub billed-there : is_member b k ≡ true → None ≡ billed_in b k → ⊥
  billed-there h e =
      let never = e ∙ when_true _ _ h in
      let z : ◌≡◌ {A = ℕ} 0 1 = cc in omega arith
