-- What is known of a book, whatever its past: of a kept book. A new book is one, each call keeps it one, refused or not (KeptLaws), and a call needs
-- no more to be answered. Here the definitions only.
use Rattle.std.specs.Prelude.{◌≡◌, Bool, true, false, not, List, [], map, ℕ, ◌*◌, ◌≤◌, ◌<◌, pos, ◌-ℤ◌, length}
use Rattle.lists.specs.Has.{has, Distinct}
use Rattle.lists.specs.Those.{those}
use Rattle.whole.specs.Within.{Within}
use Rattle.whole.specs.Sizes.{sizes}
use Rattle.whole.specs.Over.{sum_over}
use Rattle.days.specs.Days.{is_on, is_working, accepted}
use Rattle.months.specs.Months.{last_trading_of}
use Rattle.calendar.specs.Listing.{listing}
use Rattle.tallies.specs.Bounds as tallies
use Rattle.tallies.specs.Means.{total}
use Rattle.positions.specs.Deals.{flat, overnight}
use Rattle.positions.specs.Bounds.{costs}
use Rattle.positions.specs.declared.Position.{Position}
use Rattle.funds.specs.Funds.{new_funds}
use Rattle.funds.specs.Bounds as funds
use Rattle.funds.specs.declared.Funds.{Funds}
use Rattle.model.specs.Book.{Book, Point, unstarted, unopened, unsettled, settled_today, ended, Today, Contracts, no_terms, no_tally, no_settled, no_held, is_member, is_listed, working}
use Rattle.model.specs.Refusals.{is_started, is_open, is_settled}
use Rattle.model.specs.Bounds.{closed_days, all_booked, Modest, Fair}
use Rattle.model.specs.Ranged.{GoodSettings}

-- ---- one state has one form: what is not enrolled or not listed reads as zero, and nothing of a day is left once it is closed
pub record Framed (b : Book) : Type 0 where
  pub once : Distinct b.accounts.members
  pub strangers : (n : ℕ) → is_member b n ≡ false → (b.accounts.held n ≡ no_held) × (b.accounts.funds n ≡ new_funds)
  pub strange-positions : (n c : ℕ) → is_member b n ≡ false → b.accounts.position n c ≡ flat
  pub unlisted : (n c : ℕ) → is_listed b c ≡ false → b.accounts.position n c ≡ flat
  pub unlisted-terms : (c : ℕ) → is_listed b c ≡ false → (b.contracts.terms c ≡ no_terms) × (b.contracts.tally c ≡ no_tally)
  pub shut-tallies : is_open b.today.point ≡ false → (c : ℕ) → b.contracts.tally c ≡ no_tally
  pub shut-positions : is_open b.today.point ≡ false → (n c : ℕ) → b.accounts.position n c ≡ overnight (b.accounts.position n c).net
  pub shut-trades : is_open b.today.point ≡ false → b.today.trades ≡ 0
  pub unanswered : (c : ℕ) → has c b.results.codes ≡ false → b.results.settled c ≡ no_settled

-- ---- the codes are those that the calendar lists on the book's day, less the one that ended once it is closed
abbrev pub codes_at : (ℕ → Bool) → Point → ℕ → List ℕ
codes_at w unstarted day = []
codes_at w unopened day = []
codes_at w unsettled day = (listing w day).codes
codes_at w settled_today day = (listing w day).codes
codes_at w ended day = those (λ c. not (is_on day (last_trading_of w c))) (listing w day).codes

-- a day has been opened
abbrev pub is_dated : Point → Bool
is_dated unstarted = false
is_dated unopened = false
is_dated unsettled = true
is_dated settled_today = true
is_dated ended = true

pub record ListedAt (w : ℕ → Bool) (p : Point) (day : ℕ) (codes : List ℕ) : Type 0 where
  pub works : is_dated p ≡ true → w day ≡ true
  pub known : is_dated p ≡ true → (listing w day).known ≡ true
  pub lists : codes ≡ codes_at w p day

abbrev pub Listed : Book → Type 0
Listed b = ListedAt (working b) b.today.point b.today.day b.contracts.codes

-- ---- how large its numbers are, by 'Units and ceilings', part by part, each by what it depends on
abbrev pub days_of : Today → ℕ
days_of t = closed_days t.point t.day

-- "day | 0 | 3,652", "trades in a day .. | 0 | 10,000"
pub record Timely (t : Today) : Type 0 where
  pub day : t.day ≤ 3652
  pub trades : t.trades ≤ 10000

-- a code's tally has no more than the day's trades
pub record Tallied (trades : ℕ) (c : Contracts) : Type 0 where
  pub terms : (k : ℕ) → Fair (c.terms k)
  pub tallies : (k : ℕ) → tallies.Sound (c.tally k)
  pub few : (k : ℕ) → (c.tally k).trades ≤ trades

-- "net lots, account and contract | -20,000 | 20,000". Each account's own costs are those of one side of a trade; the sums over accounts are those
-- of both sides
pub record Dealt (trades : ℕ) (codes members : List ℕ) (position : ℕ → ℕ → Position) : Type 0 where
  pub nets : (n c : ℕ) → Within 20000 (position n c).net
  pub befores : (n c : ℕ) → Within 20000 (position n c).before
  pub own : (n : ℕ) → costs (map (position n) codes) ≤ trades * 100000000
  pub costs : total (map (λ n. costs (map (position n) codes)) members) ≤ 2 * trades * 100000000
  pub lots : total (map (λ n. sizes (map (λ p. p.net -ℤ p.before) (map (position n) codes))) members) ≤ 2 * trades * 1000

-- from a close to the next settlement each account is billed
pub record Funded (t : Today) (members : List ℕ) (money : ℕ → Funds) : Type 0 where
  pub sound : (n : ℕ) → funds.Sound (days_of t) (money n)
  pub billed : is_settled t.point ≡ false → (n : ℕ) → funds.Billed (money n)
  pub dues : sizes (map (λ n. (money n).due) members) ≤ days_of t * all_booked

-- "accounts in a book | 0 | 64"
pub record Sized (b : Book) : Type 0 where
  pub today : Timely b.today
  pub settings : GoodSettings b.settings
  pub contracts : Tallied b.today.trades b.contracts
  pub members : length b.accounts.members ≤ 64
  pub held : (n : ℕ) → Modest (b.accounts.held n)
  pub dealt : Dealt b.today.trades b.contracts.codes b.accounts.members b.accounts.position
  pub funded : Funded b.today b.accounts.members b.accounts.funds

-- ---- demand 3: "per contract, lots and variation sum to zero over accounts". Lots, lots before today and what today's trades cost, of which a close
-- reckons the variation
pub record Level (ms : List ℕ) (p : ℕ → Position) : Type 0 where
  pub before : sum_over (λ n. (p n).before) ms ≡ pos 0
  pub net : sum_over (λ n. (p n).net) ms ≡ pos 0
  pub cost : sum_over (λ n. (p n).cost) ms ≡ pos 0

abbrev pub LevelIn : ℕ → Book → Type 0
LevelIn c b = Level b.accounts.members (λ n. b.accounts.position n c)

-- ---- demand 3: "the house account equals the variation not yet paid"
abbrev pub Owing : Book → Type 0
Owing b = b.house ≡ sum_over (λ n. (b.accounts.funds n).due) b.accounts.members

-- ---- its calendar is not refused: "A calendar with more than 14 days off running is refused." Before the start it has no exceptions
pub record CalendarAt (p : Point) (exceptions : List ℕ) : Type 0 where
  pub accepts : accepted (is_working exceptions) ≡ true
  pub clean : is_started p ≡ false → exceptions ≡ []

abbrev pub Calendared : Book → Type 0
Calendared b = CalendarAt b.today.point b.settings.exceptions

-- ---- its keys, 'Units and ceilings': "account | 1 | 9,999,999", "code | 0 | 9,999". A close answers for six codes at most
pub record KeysAt (members answered : List ℕ) : Type 0 where
  pub numbers : (n : ℕ) → has n members ≡ true → n ≤ 9999999
  pub codes : (c : ℕ) → has c answered ≡ true → c < 10000
  pub few : length answered ≤ 6

abbrev pub Keyed : Book → Type 0
Keyed b = KeysAt b.accounts.members b.results.codes

-- ---- all of it
pub record Kept (b : Book) : Type 0 where
  pub framed : Framed b
  pub listed : Listed b
  pub sized : Sized b
  pub level : (c : ℕ) → LevelIn c b
  pub owing : Owing b
  pub calendar : Calendared b
  pub keys : Keyed b
