-- What a sound memory's rows show is what its book shows.
use Rattle.std.specs.Prelude.{◌≡◌, refl, List, ℕ, suc, ◌-◌, ◌≤◌, ◌<◌, ℤ, length, Some, None}
use Rattle.std.proofs.Common.{sym, ap, ◌∙◌, subst, arith}
use Rattle.lists.specs.HasLaws.{when_true, when_false}
use Rattle.lists.specs.Keyed.{found_at, found_none}
use Rattle.lists.specs.Seek.{seek}
use Rattle.lists.specs.Tabulate.{tab, tab-is}
use Rattle.rates.specs.declared.Rule.{Rule}
use Rattle.rates.specs.declared.Rule.TheVariants.{Final}
use Rattle.rates.specs.declared.Settled.{Settled}
use Rattle.accounts.specs.declared.Account.{Account}
use Rattle.memory.specs.declared.header_row.Header.{Header}
use Rattle.memory.specs.declared.outcome_rows.Outcome.{Outcome}
use Rattle.memory.specs.Layout.{header_at, outcome_at, account_at, settled_code_at, number_at}
use Rattle.memory.specs.MemoryLaws.{outcome-is, settled-code-is, number_is}
use Rattle.model.specs.Book.{Book}
use Rattle.model.specs.Kept.{Kept}
use Rattle.standing.specs.Standing.{rule_of, settled_of, outcome_row, rows_of, view}
use Rattle.standing.specs.Made.{Sound}
use Rattle.standing.specs.StandingLaws.{settled_back, sound-kept, sound-holds}
use Rattle.standing.specs.MemberLaws.{member-row, settled-row, outcome-search, member-at, member-none, member-account}
use Rattle.standing.specs.SoundLaws.{sound-shaped, sound-header}
use Rattle.reports.specs.Reports.{rated_in, bill_at, billed_in}

-- ---- a row's parts
pub final-rule : (number : ℕ) → 5 ≤ number → rule_of number ≡ Final
final-rule number h = let z : number ≡ suc (suc (suc (suc (suc (number - 5))))) = omega arith in ap rule_of z

pub settled-parts : (x : Outcome) {rate : ℤ} {rule : Rule} {used : ℕ} → rate ≡ x.rate → rule ≡ rule_of x.rule → used ≡ x.used
    → record { rate = rate; rule = rule; used = used } ≡ settled_of x
settled-parts x p q r = rw (p, q, r)

pub bill-parts : (a : Account) {variation due requirement free : ℤ}
    → variation ≡ a.holdings.variation → due ≡ a.funds.due → requirement ≡ a.funds.requirement → free ≡ a.funds.free
    → record { variation = variation; due = due; requirement = requirement; free = free } ≡ bill_at a
bill-parts a p q r t = rw (p, q, r, t)

module _ {c : List ℕ} {m : List ℤ} (s : Sound c m) where
  abbrev b : Book
  b = view c m

  abbrev g : Kept b
  g = sound-kept s

  pub sound-settled : (header_at c).settled ≤ 6
  sound-settled = subst (λ (h : Header). h.settled ≤ 6) (sym (sound-header s)) g.keys.few

  -- ---- a code's outcome
  pub rated-none : (k : ℕ) → seek (settled_code_at c) k (header_at c).settled 0 ≡ None → rated_in (view c m) k ≡ None
  rated-none k e = when_false _ _ (found_none b.results.codes k (sym (outcome-search g (sound-holds s) k) ∙ e))

  pub rated-at : (k i : ℕ) → seek (settled_code_at c) k (header_at c).settled 0 ≡ Some i
      → (i < 6) × (rated_in (view c m) k ≡ Some (settled_of (outcome_at c m i)))
  rated-at k i e =
      let at = found_at b.results.codes k i (sym (outcome-search g (sound-holds s) k) ∙ e) in
      let few : i < 6 = omega (arith, at.0, g.keys.few) in
      let row : outcome_at c m i ≡ outcome_row b k =
      outcome-is (rows_of b) (sound-shaped s) (sound-holds s) i few ∙ settled-row g i at.0 ∙ ap (outcome_row b) at.1.0 in (
        few,
        when_true _ _ at.1.1 ∙ ap (λ (x : Settled). Some x) (sym (ap settled_of row ∙ settled_back b k)),
      )

  -- ---- an account's bill
  pub billed-none : (n : ℕ) → seek (number_at c) n (header_at c).members 0 ≡ None → billed_in (view c m) n ≡ None
  billed-none n e = when_false _ _ (member-none g (sound-holds s) n e)

  pub billed-at : (n i : ℕ) → seek (number_at c) n (header_at c).members 0 ≡ Some i
      → (i < 64) × (billed_in (view c m) n ≡ Some (bill_at (account_at c m i)))
  billed-at n i e =
      let at = member-at g (sound-holds s) n i e in (
        omega (arith, at.0, g.sized.members),
        when_true _ _ at.1.1 ∙ ap (λ (a : Account). Some (bill_at a)) (sym (member-account g (sound-holds s) n i at.0 at.1.0)),
      )

  -- ---- the keys
  pub codes-are : tab (settled_code_at c) (header_at c).settled ≡ (view c m).results.codes
  codes-are =
      ap (λ (h : Header). tab (settled_code_at c) h.settled) (sound-header s)
      ∙ tab-is 0 (settled_code_at c) (length b.results.codes) b.results.codes refl (λ i q.
      settled-code-is (rows_of b) (sound-shaped s) (sound-holds s) i (omega (arith, g.keys.few))
      ∙ ap (λ (x : Outcome). x.code) (settled-row g i q))

  pub members-are : tab (number_at c) (header_at c).members ≡ (view c m).accounts.members
  members-are =
      ap (λ (h : Header). tab (number_at c) h.members) (sound-header s)
      ∙ tab-is 0 (number_at c) (length b.accounts.members) b.accounts.members refl (λ i q.
      number_is (rows_of b) (sound-shaped s) (sound-holds s) i (omega (arith, g.sized.members))
      ∙ ap (λ (a : Account). a.number) (member-row g i q))
