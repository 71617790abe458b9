use mathlib.Core.Path.{◌≡◌, sym, subst}
use lib.ListN.{get_or}
use Rattle.whole.specs.Machine.{back}
use Rattle.positions.specs.Bounds.{no_mark}
use Rattle.memory.specs.Memory.{Rows}
use Rattle.memory.specs.MemoryLaws.{memory-long}
use Rattle.standing.specs.CloseRows.{priced, day_end_in, first_ended, booked, renewed}
use Rattle.standing.specs.Turns.{Whole}
use Rattle.day_end.specs.Closable.{Bookable}
use Rattle.day_end.specs.ReadLaws.{ended-read}
use Rattle.day_end.specs.TurnLaws.{bookable-still, booked-whole, renewed-whole, shut-whole}
use Rattle.day_end.proofs.close_rows.Goals as goal
use Rattle.day_end.proofs.close_rows.Goals.{After-close_accounts, After-day_end-d, After-renew_contracts, After-store_outcomes, Start}

-- ---- the step before each step
abbrev start : After-store_outcomes → Start
start c = (goal.at.After-store_outcomes c).Start

abbrev storing : After-day_end-d → After-store_outcomes
storing c = (goal.at.After-day_end-d c).After-store_outcomes

abbrev ending : After-close_accounts → After-day_end-d
ending c = (goal.at.After-close_accounts c).After-day_end-d

abbrev booking : After-renew_contracts → After-close_accounts
booking c = (goal.at.After-renew_contracts c).After-close_accounts

-- ---- the memory after it, whatever rows r it held at first
abbrev HeldAt : Start → Rows → Type 0
HeldAt s r = Whole s.args.counts.now s.args.money.now r

abbrev priced_at : Start → Rows → Rows
priced_at s r = priced s.args.final_rate r

module _ (r : Rows) where
  priced-then : (c : After-store_outcomes) → HeldAt (start c) r
      → Whole c.store_outcomes.new.counts c.store_outcomes.new.money (priced_at (start c) r)
  priced-then c w =
      subst (λ z. Whole c.store_outcomes.new.counts c.store_outcomes.new.money (priced z r)) (back (start c).ranges.final_rate)
      (c.store_outcomes.ensures r w)

  end-then : (c : After-day_end-d) → HeldAt (start (storing c)) r → c.day_end-d.result ≡ day_end_in (priced_at (start (storing c)) r)
  end-then c w = c.day_end-d.ensures _ (priced-then (storing c) w)

  ended-then : (c : After-day_end-d) → HeldAt (start (storing c)) r
      → (get_or c.day_end-d.result.marks 0 no_mark).ending ≡ first_ended (priced_at (start (storing c)) r)
  ended-then c w = ended-read _ (priced-then (storing c) w).shaped (end-then c w)

  booked-then : (c : After-close_accounts) → let s = start (storing (ending c)) in HeldAt s r
      → Whole c.close_accounts.new.counts c.close_accounts.new.money (booked (priced_at s r))
  booked-then c w =
      booked-whole _ (ended-then (ending c) w) (end-then (ending c) w)
      (c.close_accounts.ensures _ (priced-then (storing (ending c)) w))

  renewed-then : (c : After-renew_contracts) → let s = start (storing (ending (booking c))) in HeldAt s r
      → Whole c.renew_contracts.new.counts c.renew_contracts.new.money (renewed (booked (priced_at s r)))
  renewed-then c w = renewed-whole _ (ended-then (ending (booking c)) w) (c.renew_contracts.ensures _ (booked-then (booking c) w))

pub day_end-d-requires : goal.day_end-d-requires
day_end-d-requires c =
    let p = (start (goal.at.day_end-d-requires c).After-store_outcomes).requires in
    let w = priced-then p.rows (goal.at.day_end-d-requires c).After-store_outcomes p.whole in
    memory-long _ w.shaped w.holds

pub close_accounts-requires : goal.close_accounts-requires
close_accounts-requires c =
    let s = start (storing (goal.at.close_accounts-requires c).After-day_end-d) in
    let now = priced_at s s.requires.rows in
    record {
      rows = now;
      whole = priced-then s.requires.rows (storing (goal.at.close_accounts-requires c).After-day_end-d) s.requires.whole;
      known = subst (λ d. Bookable d now) (sym (end-then s.requires.rows (goal.at.close_accounts-requires c).After-day_end-d s.requires.whole))
          (bookable-still now.outcomes s.requires.known.bookable);
    }

pub renew_contracts-requires : goal.renew_contracts-requires
renew_contracts-requires c =
    let p = (start (storing (ending (goal.at.renew_contracts-requires c).After-close_accounts))).requires in
    let w = booked-then p.rows (goal.at.renew_contracts-requires c).After-close_accounts p.whole in
    memory-long _ w.shaped w.holds

pub shut_header-requires : goal.shut_header-requires
shut_header-requires c =
    let p = (start (storing (ending (booking (goal.at.shut_header-requires c).After-renew_contracts)))).requires in
    let w = renewed-then p.rows (goal.at.shut_header-requires c).After-renew_contracts p.whole in
    (memory-long _ w.shaped w.holds).counts

pub returns : goal.returns
returns c r w =
    shut-whole _ (ended-then r (ending (booking (goal.at.returns c).After-renew_contracts)) w) (renewed-then r (goal.at.returns c).After-renew_contracts w) c.shut_header.ensures
