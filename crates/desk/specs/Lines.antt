-- The lines of a desk's question after a close: by contract the settlement rate, what the position carried over earns and the sum of all lines, and
-- by trade what it earns.
use Rattle.std.specs.Prelude.{◌≡◌, cond, List, ◌∷◌, map, ℕ, ◌*◌, ◌<◌, ◌≤◌, ℤ, ◌+ℤ◌, length, drop, get_or}
use Rattle.lists.specs.Has.{has}
use Rattle.lists.specs.All.{All}
use Rattle.lists.specs.Tabulate.{tab}
use Rattle.whole.specs.Within.{Within}
use Rattle.records.specs.Records.{Entry}
use Rattle.memory.specs.Memory.{Holds}
use Rattle.model.specs.Book.{Book}
use Rattle.model.specs.Calls.{call_of, close}
use Rattle.model.specs.Refusals.{refusal}
use Rattle.model.specs.Answers.{called}
use Rattle.model.specs.History.{run, log, variation_in}
use Rattle.model.specs.Promises.{worth_at, carried_over, amount_of}
use Rattle.standing.specs.Standing.{rows_of}
use Rattle.trail.specs.declared.Row.{Row}
use Rattle.trail.specs.Rows.{rows_in, worth, with_amount, priced, earned}
use Rattle.trail.specs.Tables.{Modest}
use Rattle.particulars.specs.declared.Stood.{Stood}
use Rattle.particulars.specs.Particulars.{no_stood, standing_of}
use Rattle.desk.specs.declared.contract_lines.Line.{Line}
use Rattle.desk.specs.Trails.{rows_today}

-- ---- one contract, on the book after the close
abbrev pub rate_in : Book → ℕ → ℤ
rate_in after c = (after.results.settled c).rate

-- what the lots carried over from the previous rate earn
abbrev carried_in : Book → Stood → ℤ
carried_in after s = worth_at (rate_in after s.code) (record { lots = s.net; rate = s.previous })

abbrev pub line_in : Book → List Row → Stood → Line
line_in after rows s = record {
  settled = after.results.settled s.code;
  carried = carried_in after s;
  sum = earned s.code (rate_in after s.code) rows +ℤ carried_in after s;
}

-- that of the contract at a place
abbrev pub line_at : Book → List Row → List Stood → ℕ → Line
line_at after rows s k = line_in after rows (get_or s k no_stood)

-- a table that can be priced
pub record Table (row_counts : List ℕ) (row_money : List ℤ) (used : ℕ) : Type 0 where
  pub few : used ≤ 10000
  pub counts-long : used * 3 ≤ length row_counts
  pub money-long : used * 6 ≤ length row_money
  pub modest : All Modest (rows_in row_counts row_money used)

-- the line is the contract's, its trades have their amounts, and nothing else has changed
pub record Lined (after : Book) (row_counts : List ℕ) (row_money : List ℤ) (used : ℕ) (s : Stood) (r : Line) (row_money' : List ℤ) : Type 0 where
  pub line : r ≡ line_in after (rows_in row_counts row_money used) s
  pub rows : rows_in row_counts row_money' used ≡ map (priced s.code (rate_in after s.code)) (rows_in row_counts row_money used)
  pub behind : drop (used * 6) row_money' ≡ drop (used * 6) row_money
  pub long : length row_money' ≡ length row_money

-- ---- all contracts
-- a row with what its trade earns at its contract's rate, and the same where its contract is one of some
abbrev pub amounted : (ℕ → ℤ) → Row → Row
amounted rate r = with_amount (worth (rate r.code) r) r

abbrev pub amounted_in : (ℕ → ℤ) → List ℕ → Row → Row
amounted_in rate codes r = cond (has r.code codes) (amounted rate r) r

-- how the contracts stood before the close: six, of which each has its rate now
abbrev pub codes_of : List Stood → List ℕ
codes_of s = map (λ x. x.code) s

pub record StoodBefore (after : Book) (s : List Stood) : Type 0 where
  pub codes : codes_of s ≡ after.results.codes
  pub six : length s ≡ 6
  pub nets : (k : ℕ) → k < 6 → Within 20000 (get_or s k no_stood).net
  pub previous : (k : ℕ) → k < 6 → Within 100000 (get_or s k no_stood).previous
  pub rates : (k : ℕ) → k < 6 → Within 100000 (rate_in after (get_or s k no_stood).code)

pub record AllLined (after : Book) (row_counts : List ℕ) (row_money : List ℤ) (used : ℕ) (s : List Stood) (r : List Line) (row_money' : List ℤ) : Type 0 where
  pub lines : r ≡ tab (line_at after (rows_in row_counts row_money used) s) 6
  pub rows : rows_in row_counts row_money' used ≡ map (amounted_in (rate_in after) (codes_of s)) (rows_in row_counts row_money used)
  pub behind : drop (used * 6) row_money' ≡ drop (used * 6) row_money
  pub long : length row_money' ≡ length row_money

-- ---- a close that was accepted on a history, and the account's rows of the day before it
pub record JustClosed (n : ℕ) (h : List Entry) (e : Entry) (final : ℤ) (counts : List ℕ) (money : List ℤ) (row_counts : List ℕ) (row_money : List ℤ) (used : ℕ) (s : List Stood) : Type 0 where
  pub accepted : refusal (run h) e ≡ 0
  pub closes : call_of e ≡ close final
  pub memory : Holds counts money (rows_of (run (e ∷ h)))
  pub rows : rows_in row_counts row_money used ≡ rows_today n (log h)
  pub before : s ≡ standing_of (run h) n
  pub counts-long : length row_counts ≡ 30000
  pub money-long : length row_money ≡ 60000

-- there is such a close
pub record Closing (counts : List ℕ) (money : List ℤ) (row_counts : List ℕ) (row_money : List ℤ) (used : ℕ) (s : List Stood) : Type 0 where
  pub account : ℕ
  pub history : List Entry
  pub entry : Entry
  pub final : ℤ
  pub just : JustClosed account history entry final counts money row_counts row_money used s

-- for each contract that was listed, by rising code: rate, rule and count; what the position carried over earns; and the variation that the
-- close books to the account
abbrev pub line_after : Book → Book → ℕ → ℤ → ℕ → Line
line_after b after n final c = record {
  settled = after.results.settled c;
  carried = amount_of n (rate_in after c) (carried_over (b.accounts.position n c).before (b.contracts.terms c).previous);
  sum = variation_in b final n c;
}

abbrev pub lines_of : Book → Book → ℕ → ℤ → List Line
lines_of b after n final = map (line_after b after n final) b.contracts.codes

pub record Explained (n : ℕ) (h : List Entry) (e : Entry) (final : ℤ) (row_counts : List ℕ) (row_money : List ℤ) (used : ℕ) (r : List Line) (row_money' : List ℤ) : Type 0 where
  pub lines : r ≡ lines_of (run h) (called (run h) e) n final
  pub rows : rows_in row_counts row_money' used ≡ map (amounted (rate_in (called (run h) e))) (rows_today n (log h))
  pub behind : drop (used * 6) row_money' ≡ drop (used * 6) row_money
  pub long : length row_money' ≡ length row_money

-- whichever account and history it was
pub record ExplainedAll (counts : List ℕ) (money : List ℤ) (row_counts : List ℕ) (row_money : List ℤ) (used : ℕ) (s : List Stood) (r : List Line) (row_money' : List ℤ) : Type 0 where
  pub explains : (n : ℕ) (h : List Entry) (e : Entry) (final : ℤ) → JustClosed n h e final counts money row_counts row_money used s
      → Explained n h e final row_counts row_money used r row_money'
