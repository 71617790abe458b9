-- What a close makes of the rows of a book's memory are the rows of the book closed.
use Rattle.std.specs.Prelude.{◌≡◌, refl, Bool, true, false, cond, ◌&&◌, List, map, ℕ, ◌-◌, eqb, leb, ℤ, length, get_or}
use Rattle.std.proofs.Common.{sym, ap₂, ◌∙◌, arith, length-drop}
use Rattle.std.proofs.Math.Path.{ap}
use Rattle.std.proofs.lemmas.Simd.{map-map}
use Rattle.std.proofs.lemmas.List.{length-map}
use Rattle.lists.specs.Has.{has}
use Rattle.lists.specs.HasLaws.{when_true}
use Rattle.lists.specs.KeyedLaws.{members-mapped}
use Rattle.lists.specs.Padded.{padded}
use Rattle.lists.specs.PaddedLaws.{padded-full, take-padded}
use Rattle.lists.specs.Rows.{first_rows, drop-map, get_d-map-below}
use Rattle.lists.specs.Zipped.{zipped, zipped_map}
use Rattle.days.specs.Days.{is_working, is_on}
use Rattle.months.specs.Months.{last_trading_of}
use Rattle.tallies.specs.Tally.{side_in}
use Rattle.tallies.specs.declared.Tally.{Tally}
use Rattle.rates.specs.Rules.{number_of, rule_at}
use Rattle.rates.specs.Settling.{settled_from}
use Rattle.rates.specs.declared.Rule.TheVariants.{LastHour, LastFive, Quotes, Previous, Final}
use Rattle.rates.specs.declared.Settled.{Settled}
use Rattle.positions.specs.Deals.{flat}
use Rattle.booking.specs.Carried.{carried, all_carried}
use Rattle.positions.specs.declared.Mark.{Mark}
use Rattle.closing.specs.DayEnd.{at_close, with_core}
use Rattle.closing.specs.declared.DayEnd.{DayEnd}
use Rattle.accounts.specs.Accounts.{closed}
use Rattle.memory.specs.declared.contract_rows.Contract.{Contract}
use Rattle.memory.specs.declared.outcome_rows.Outcome.{Outcome}
use Rattle.memory.specs.Rows.{blank_contract, blank_outcome, blank_account}
use Rattle.model.specs.Book.{Book, Terms, no_terms, no_tally, is_member, positions_of, besides}
use Rattle.model.specs.Effects.{is_ending, mark_of, day_end_of, closed_at, codes_left, closed_day}
use Rattle.model.specs.Refusals.{is_open}
use Rattle.model.proofs.EndLaws.{has_ending, codes-left}
use Rattle.model.specs.Kept.{Kept}
use Rattle.model.proofs.KeptLaws.{kept-six}
use Rattle.standing.specs.Standing.{contract_row, outcome_row, account_row, rows_of}
use Rattle.standing.specs.MemberLaws.{open_row}
use Rattle.standing.specs.WalkLaws.{walk_end}
use Rattle.standing.specs.CloseRows.{ends_in, outcome_from, outcome_in, priced, has_ended, mark_from, day_end_in, first_ended}
use Rattle.standing.specs.CloseRows.{moved_up, closed_row, booked, renewed_row, renewed, closed_rows}

-- rule 5 is that of a last trading day
five-ends : (t : Tally) (previous : ℤ) (ending : Bool) (final : ℤ) → eqb (number_of (settled_from t previous ending final).rule) 5 ≡ ending
unfolding settled_from rule_at
five-ends t previous ending final =
    go ending (leb 5 t.late) (leb 5 t.trades) (leb 1 (side_in t 0).weight && leb 1 (side_in t 1).weight)
  where
    go : (e a b c : Bool) → eqb (number_of (cond e Final (cond a LastHour (cond b LastFive (cond c Quotes Previous))))) 5 ≡ e
    go true a b c = refl
    go false true b c = refl
    go false false true c = refl
    go false false false true = refl
    go false false false false = refl

module _ (b : Book) (g : Kept b) (o : is_open b.today.point ≡ true) (final : ℤ) where
  abbrev codes : List ℕ
  codes = b.contracts.codes

  abbrev ended : Bool
  ended = has_ending b

  six-of : {A : Type 0} (f : ℕ → A) → length (map f codes) ≡ 6
  six-of f = length-map codes f ∙ kept-six g o

  -- what a close leaves of a row for each code
  rows_moved_up : {A : Type 0} (f : ℕ → A) (blank : A) → moved_up ended blank (map f codes) ≡ padded 6 blank (map f (codes_left b))
  rows_moved_up f blank = ap (padded 6 blank) (drop-map f (cond ended 1 0) codes ∙ ap (map f) (sym (codes-left b g.listed g.calendar.accepts o)))

  -- ---- rates
  contracts-are : (rows_of b).contracts ≡ map (contract_row b) codes
  contracts-are = padded-full 6 blank_contract (map (contract_row b) codes) (six-of (contract_row b))

  abbrev outcome_of : ℕ → Outcome
  outcome_of c = outcome_from (contract_row b c) (is_ending b c) final

  ends-are : (c : ℕ) → ends_in (rows_of b) c ≡ is_ending b c
  ends-are c = ap (λ e. is_on b.today.day (last_trading_of (is_working e) c)) (take-padded 400 0 b.settings.exceptions)

  outcomes-are : (priced final (rows_of b)).outcomes ≡ map outcome_of codes
  outcomes-are =
      ap (map (outcome_in (rows_of b) final)) contracts-are
      ∙ map-map (outcome_in (rows_of b) final) (contract_row b) codes
      ∙ members-mapped _ outcome_of codes (λ c h. ap (λ t. outcome_from (contract_row b c) t final) (ends-are c))

  outcomes-left : map outcome_of codes ≡ (rows_of (closed_day b final)).outcomes
  outcomes-left =
      members-mapped outcome_of (outcome_row (closed_day b final)) codes (λ c h. sym (ap (settled_row c) (when_true _ _ h)))
      ∙ sym (padded-full 6 blank_outcome _ (six-of (outcome_row (closed_day b final))))
    where
      settled_row : ℕ → Settled → Outcome
      settled_row c s = record { code = c; rate = s.rate; rule = number_of s.rule; used = s.used }

  five : (c : ℕ) → has_ended (outcome_of c) ≡ is_ending b c
  five c = five-ends (b.contracts.tally c) (b.contracts.terms c).previous (is_ending b c) final

  -- ---- accounts
  pub day-end-is : day_end_in (priced final (rows_of b)) ≡ day_end_of b final
  day-end-is =
      ap₂ end
      (ap₂ (zipped mark_from) contracts-are outcomes-are
      ∙ zipped_map mark_from (contract_row b) outcome_of codes
      ∙ members-mapped _ (mark_of b final) codes (λ c h. ap (mark c) (five c)))
      (ap (map (λ x. x.margin)) contracts-are ∙ map-map _ (contract_row b) codes)
    where
      mark : ℕ → Bool → Mark
      mark c ending = record { previous = (b.contracts.terms c).previous; rate = (outcome_of c).rate; ending = ending }

      end : List Mark → List ℕ → DayEnd
      end marks margins = record { marks = marks; margins = margins; reference = b.settings.reference; multiplier = b.settings.multiplier }

  first-is : first_ended (priced final (rows_of b)) ≡ ended
  first-is =
      ap (λ os. has_ended (get_or os 0 blank_outcome)) outcomes-are
      ∙ ap has_ended (get_d-map-below outcome_of codes 0 0 blank_outcome (omega (arith, kept-six g o)))
      ∙ five (get_or codes 0 0)

  positions-left : (n : ℕ)
      → moved_up ended flat (all_carried (positions_of b n) (day_end_of b final).marks) ≡ padded 6 flat (positions_of (closed_day b final) n)
  unfolding all_carried
  positions-left n =
      ap (moved_up ended flat) (zipped_map carried (b.accounts.position n) (mark_of b final) codes)
      ∙ rows_moved_up ((closed_day b final).accounts.position n) flat

  account-left : (n : ℕ) → is_member b n ≡ true → closed_row ended (day_end_of b final) (account_row b n) ≡ account_row (closed_day b final) n
  unfolding closed with_core at_close
  account-left n h =
      ap (closed_row ended (day_end_of b final)) (open_row g o n)
      ∙ rw (
        positions-left n,
        when_true (besides (closed_at b final n).holdings) (b.accounts.held n) h,
        when_true (closed_at b final n).funds (b.accounts.funds n) h,
      )

  accounts-left : (booked (priced final (rows_of b))).accounts ≡ (rows_of (closed_day b final)).accounts
  accounts-left =
      ap₂ (λ t d. first_rows (closed_row t d) (length b.accounts.members) (rows_of b).accounts) first-is day-end-is
      ∙ walk_end b (closed_row ended (day_end_of b final))
      ∙ ap (padded 64 blank_account) (members-mapped _ (account_row (closed_day b final)) b.accounts.members account-left)

  -- ---- contracts
  contract-left : (c : ℕ) → has c (codes_left b) ≡ true → renewed_row (contract_row b c) (outcome_of c) ≡ contract_row (closed_day b final) c
  contract-left c h = sym (ap listed (when_true _ no_terms h))
    where
      listed : Terms → Contract
      listed t = record { code = c; margin = t.margin; previous = t.previous; tally = no_tally }

  contracts-left : (renewed (booked (priced final (rows_of b)))).contracts ≡ (rows_of (closed_day b final)).contracts
  contracts-left =
      ap₂ (λ t l. moved_up t blank_contract l) first-is
      (ap₂ (zipped renewed_row) contracts-are outcomes-are ∙ zipped_map renewed_row (contract_row b) outcome_of codes)
      ∙ rows_moved_up (λ c. renewed_row (contract_row b c) (outcome_of c)) blank_contract
      ∙ ap (padded 6 blank_contract) (members-mapped _ (contract_row (closed_day b final)) (codes_left b) contract-left)

  -- ---- the header
  listed-left : cond ended 5 6 ≡ length (codes_left b)
  listed-left =
      sym (ap length (codes-left b g.listed g.calendar.accepts o)
      ∙ length-drop (cond ended 1 0) codes
      ∙ ap (λ n. n - cond ended 1 0) (kept-six g o)
      ∙ go ended)
    where
      go : (t : Bool) → 6 - cond t 1 0 ≡ cond t 5 6
      go true = refl
      go false = refl

  -- ---- all of it
  pub close-rows : closed_rows final (rows_of b) ≡ rows_of (closed_day b final)
  close-rows = rw (accounts-left, contracts-left, first-is, listed-left, outcomes-are, outcomes-left, kept-six g o)
