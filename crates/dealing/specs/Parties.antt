-- What is found of a trade before its two sides are asked: the rows of its contract, buyer and seller, or its refusal.
use Rattle.std.specs.Prelude.{◌≡◌, true, List, ℕ, ◌≤◌, ◌<◌, leb, ℤ, length, Result, Ok, Err}
use Rattle.memory.specs.declared.header_row.Header.{Header}
use Rattle.memory.specs.Layout.{counts_long, header_at}
use Rattle.memory.specs.Memory.{Holds}
use Rattle.model.specs.Book.{Book}
use Rattle.model.specs.Calls.{Trade, trade}
use Rattle.model.specs.Refusals.{in_hours}
use Rattle.model.specs.Answers.{answered}
use Rattle.model.specs.Ranged.{GoodTrade}
use Rattle.model.specs.Kept.{Kept}
use Rattle.standing.specs.Standing.{header_row, rows_of, view}
use Rattle.standing.specs.Made.{Sound, decided}
use Rattle.standing.specs.DealLaws.{Between}
use Rattle.dealing.specs.declared.Dealt.{Dealt}
use Rattle.dealing.specs.declared.parties.Parties.{Parties}
use Rattle.refusals.specs.declared.Refusal.{Refusal}
use Rattle.dealing.specs.Dealing.{answer_of}

-- counts with room for the rows that their header tells of
pub record Headed (counts : List ℕ) (h : Header) : Type 0 where
  pub long : length counts ≡ counts_long
  pub listed : (header_at counts).listed ≤ 6
  pub members : (header_at counts).members ≤ 64
  pub header : h ≡ header_at counts

-- an answer that is the model's
abbrev pub Answers : Book → Trade → Result Dealt Refusal → Type 0
Answers b t r = answer_of r ≡ answered (decided b (trade t)) b (trade t)

-- a trade that is refused for none of 3, 8, 5, 11, 10, 9 and 16
pub record Ready (b : Book) (t : Trade) (k i j : ℕ) : Type 0 where
  pub between : Between b t k i j
  pub hours : in_hours t.time ≡ true
  pub clock : leb b.today.clock t.time ≡ true
  pub room : b.today.trades < 10000

abbrev Found : Book → Trade → Result Parties Refusal → Type 0
Found b t (Ok rows) = Ready b t rows.contract rows.buyer rows.seller
Found b t (Err refusal) = Answers b t (Err refusal)

-- whatever book the counts are of
abbrev pub PartiesOf : List ℕ → Trade → Result Parties Refusal → Type 0
PartiesOf counts t r = (b : Book) (money : List ℤ) → Kept b → Holds counts money (rows_of b) → Found b t r

-- such a trade, in range, with a sound memory and its header
pub record Deals (counts : List ℕ) (money : List ℤ) (h : Header) (t : Trade) (k i j : ℕ) : Type 0 where
  pub sound : Sound counts money
  pub header : h ≡ header_row (view counts money)
  pub range : GoodTrade t
  pub ready : Ready (view counts money) t k i j
