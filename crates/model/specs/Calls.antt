-- Calls: what a record of document 01's 'Event records' says. A record may have any values; the book refuses under 2 those
-- out of range.
use Rattle.std.specs.Prelude.{List, [], ◌∷◌, ℕ, ℤ, pos, get_or}
use Rattle.folding.specs.Fold.{unfolded}
use Rattle.records.specs.Records.{Entry}
use Rattle.holdings.specs.declared.Limits.{Limits}
use Rattle.model.specs.Book.{Settings}

-- "8 trade | time, code, buyer, seller, lots, rate"
pub record Trade : Type 0 where
  pub time : ℕ
  pub code : ℕ
  pub buyer : ℕ
  pub seller : ℕ
  pub lots : ℕ
  pub rate : ℤ

-- "9 quote | time, code, side, rate"
pub record Quote : Type 0 where
  pub time : ℕ
  pub code : ℕ
  pub side : ℕ
  pub rate : ℤ

-- "7 open | day, six list rates, six margin rates, by rising code"
pub record Opening : Type 0 where
  pub day : ℕ
  pub rates : List ℤ
  pub margins : List ℕ

-- a constructor a kind, in the table's order, with account and amount where the kind has these
pub data Call : Type 0 where
  start : Settings → Call
  enrol : ℕ → Limits → Call
  pay_in pay_out release : ℕ → ℤ → Call
  set_special : ℕ → ℤ → Call
  set_limits : ℕ → Limits → Call
  opening : Opening → Call
  trade : Trade → Call
  quote : Quote → Call
  settle refresh : Call
  close : ℤ → Call
  unknown : Call

-- ---- what the fields say
module _ (e : Entry) where
  abbrev field : ℕ → ℕ
  field i = get_or e.fields i 0

  -- "Signed fields .. are folded"
  abbrev signed : ℕ → ℤ
  signed i = unfolded (field i)

  abbrev amount : ℕ → ℤ
  amount i = pos (field i)

  abbrev limits_in : Limits
  limits_in = record { clearing = field 1; tolerance = amount 2 }

  abbrev opening_in : Opening
  opening_in = record {
    day = field 0;
    rates = signed 1 ∷ signed 2 ∷ signed 3 ∷ signed 4 ∷ signed 5 ∷ signed 6 ∷ [];
    margins = field 7 ∷ field 8 ∷ field 9 ∷ field 10 ∷ field 11 ∷ field 12 ∷ [];
  }

  abbrev trade_in : Trade
  trade_in = record { time = field 0; code = field 1; buyer = field 2; seller = field 3; lots = field 4; rate = signed 5 }

  abbrev quote_in : Quote
  quote_in = record { time = field 0; code = field 1; side = field 2; rate = signed 3 }

  -- the table of 'Event records', a line a kind
  abbrev pub by_kind : List Call
  by_kind =
      start (record { reference = field 0; multiplier = field 1; exceptions = e.exceptions }) ∷
      enrol (field 0) limits_in ∷
      pay_in (field 0) (amount 1) ∷
      pay_out (field 0) (amount 1) ∷
      release (field 0) (amount 1) ∷
      set_special (field 0) (amount 1) ∷
      set_limits (field 0) limits_in ∷
      opening opening_in ∷
      trade trade_in ∷
      quote quote_in ∷
      settle ∷
      refresh ∷
      close (signed 0) ∷ []

  unfoldable pub call_of : Call
  call_of = get_or by_kind e.kind unknown
