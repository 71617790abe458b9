-- What follows from a record that was followed: the memory and the table are still those of a history, and an accepted close can be explained.
use Rattle.std.specs.Prelude.{◌≡◌, refl, List, [], ◌∷◌, ℕ, ◌-◌, ◌*◌, ◌≤◌, ◌<◌, ℤ, length, drop, Result, Ok, Err}
use Rattle.std.proofs.Common.{sym, ap, ◌∙◌, arith}
use Rattle.std.proofs.Math.Path.{subst}
use Rattle.lists.specs.Tabulate.{tab}
use Rattle.numbers.specs.Below.{Small}
use Rattle.ranges.specs.Ranges.{refusal_of, checked}
use Rattle.records.specs.declared.Malformed.{Malformed}
use Rattle.records.specs.Records.{Entry, entry, Parsed, unread, parsed, reading}
use Rattle.records.specs.ReadingLaws.{lies}
use Rattle.memory.specs.Memory.{Holds}
use Rattle.model.specs.Book.{new}
use Rattle.model.specs.Calls.{call_of}
use Rattle.model.specs.Ranged.{GoodTrade}
use Rattle.model.proofs.RangeLaws.{ranges}
use Rattle.standing.specs.Standing.{rows_of, view}
use Rattle.dealing.specs.Dealing.{trade_of}
use Rattle.book.specs.declared.calls.Answer.{Answer}
use Rattle.book.specs.declared.calls.Answer.TheVariants.{Closed}
use Rattle.book.specs.Taken.{deal_in}
use Rattle.particulars.specs.declared.Stood.{Stood}
use Rattle.particulars.specs.Particulars.{standing_of}
use Rattle.desk.specs.declared.following.Followed.{Followed}
use Rattle.desk.specs.Trails.{Trailed}
use Rattle.desk.specs.Follows.{Kept, FollowedOn, FollowedBy, FollowedAt, Followable}
use Rattle.desk.specs.FollowLaws.{trail-begins, closed-next}
use Rattle.desk.specs.declared.contract_lines.Line.{Line}
use Rattle.desk.specs.Lines.{Closing, ExplainedAll}
use Rattle.desk.specs.LineLaws.{closed-table}

-- a trade whose fields are in range
pub good-trade : (fields exceptions : List ℕ) → checked 8 fields exceptions ≡ Ok tt → GoodTrade (trade_of (deal_in fields))
unfolding call_of
good-trade fields exceptions passed = ranges (entry 8 fields exceptions) (ap refusal_of passed)

-- a new book, with an empty table
pub fresh-followable : (n : ℕ) {counts : List ℕ} {money : List ℤ} {row_counts : List ℕ} {row_money : List ℤ}
    → Holds counts money (rows_of new) → length row_counts ≡ 30000 → length row_money ≡ 60000
    → Followable n counts money row_counts row_money 0
fresh-followable n holds labels amounts = record { history = []; trailed = trail-begins n holds labels amounts }

-- a close that was explained can be shown: its rows are in the table
module _ {counts : List ℕ} {money : List ℤ} {row_counts : List ℕ} {row_money row_money' : List ℤ} {used : ℕ} {s : List Stood} {r : List Line}
    (x : ExplainedAll counts money row_counts row_money used s r row_money') (c : Closing counts money row_counts row_money used s) where
  pub explained-long : length row_money' ≡ length row_money
  explained-long = (x.explains c.account c.history c.entry c.final c.just).long

  pub explained-table : (used * 3 ≤ length row_counts) × (used * 6 ≤ length row_money')
  explained-table = let t = closed-table c.just in (t.counts-long, omega (arith, t.money-long, explained-long))

never : {A : Type 0} {bad : Malformed} {followed : Followed} → ◌≡◌ {A = Result Followed Malformed} (Err bad) (Ok followed) → A
never q = let z : ◌≡◌ {A = ℕ} 0 1 = cc in absurd (omega arith)

-- ---- the record at a place
module _ {n : ℕ} {bytes : List ℕ} {at : ℕ} {counts counts' : List ℕ} {money money' : List ℤ} {row_counts row_counts' : List ℕ} {row_money row_money' : List ℤ}
    {used : ℕ} {r : Result Followed Malformed} (f : FollowedAt n bytes at counts money row_counts row_money used r counts' money' row_counts' row_money') where
  -- bytes that are no record change nothing
  pub followed-bad : {bad : Malformed} → r ≡ Err bad → Followable n counts money row_counts row_money used
      → Followable n counts' money' row_counts' row_money' used
  followed-bad {bad} is g = go (reading (drop at bytes)) f.outcome
    where
      go : (p : Parsed) → FollowedBy p n bytes at counts money row_counts row_money used r counts' money' row_counts' row_money'
          → Followable n counts' money' row_counts' row_money' used
      go unread (q, (c, (m, (rc, rm)))) = rw (c, m, rc, rm) g
      go (parsed e rest) (a, (used', (q, on))) = never (sym is ∙ q)

  module _ {took : Followed} (is : r ≡ Ok took) where
    abbrev next : ℕ
    next = took.next

    abbrev rows : ℕ
    rows = took.rows

    abbrev a : Answer
    a = took.answer

    -- the record that was taken
    taken : {P : Type 0} → ((e : Entry) (rest : List ℕ) → reading (drop at bytes) ≡ parsed e rest → next ≡ length bytes - length rest
        → FollowedOn n e a counts money row_counts row_money used counts' money' row_counts' row_money' rows → P) → P
    taken {P} k = go (reading (drop at bytes)) refl f.outcome
      where
        go : (p : Parsed) → reading (drop at bytes) ≡ p
            → FollowedBy p n bytes at counts money row_counts row_money used r counts' money' row_counts' row_money' → P
        go unread h (q, rest) = never (sym q ∙ is)
        go (parsed e rest) h (b, (used', (q, on))) =
            let answers : b ≡ a = cc in
            let many : used' ≡ rows = cc in
            let place : next ≡ length bytes - length rest = cc in
            k e rest h place
            (subst (λ u. FollowedOn n e a counts money row_counts row_money used counts' money' row_counts' row_money' u) many
            (subst (λ x. FollowedOn n e x counts money row_counts row_money used counts' money' row_counts' row_money' used') answers on))

    pub followed-further : Small bytes → (at < next) × (next ≤ length bytes)
    followed-further small = taken (λ e rest h place on.
        let l = lies bytes at small e.kind e.fields e.exceptions rest h in
        let first = l.on in
        let second = l.before in
        (omega arith, omega arith))

    pub followed-on : Followable n counts money row_counts row_money used → Followable n counts' money' row_counts' row_money' rows
    followed-on g = taken (λ e rest h place on. record { history = e ∷ g.history; trailed = on.trailed g.history g.trailed })

    module _ (g : Followable n counts money row_counts row_money used) (closes : a ≡ Closed) where
      -- the table is as it was, and the next day's has no rows
      kept : {e : Entry} → FollowedOn n e a counts money row_counts row_money used counts' money' row_counts' row_money' rows
          → Kept row_counts row_money 0 row_counts' row_money' rows
      kept on = rw closes at on.tabled

      -- an accepted close has what its lines are found from
      pub followed-closing : {s : List Stood} → s ≡ standing_of (view counts money) n → Closing counts' money' row_counts' row_money' used s
      followed-closing standing = taken (λ e rest h place on.
          closed-next g.trailed
          (subst (λ x. FollowedOn n e x counts money row_counts row_money used counts' money' row_counts' row_money' rows) closes on) standing)

      -- the day after it begins with an empty table, whatever amounts were set
      pub closed-followable : {row_money'' : List ℤ} → length row_money'' ≡ length row_money' → Followable n counts' money' row_counts' row_money'' 0
      unfolding tab
      closed-followable long = taken (λ e rest h place on.
          let t = subst (λ u. Trailed n (e ∷ g.history) counts' money' row_counts' row_money' u) (kept on).1.1 (on.trailed g.history g.trailed) in
          record {
            history = e ∷ g.history;
            trailed = record { memory = t.memory; rows = t.rows; counts-long = t.counts-long; money-long = long ∙ t.money-long };
          })
