-- Splitting a ticket. Request L8: "Dealers break a 700-lot ticket into 300 and 400 at one rate and ask whether that alters anything. Prove: at
-- given settlement rates an account's variation is additive in lots, exchanging buyer and seller negates it, and a ticket and its split, if whole
-- and parts are all accepted, end with the same positions. A part may be refused where the whole passes .." Here the statements only; TicketLaws
-- and SplitLaws have the theorems.
use Rattle.std.specs.Prelude.{◌≡◌, ◌⊎◌, Bool, true, false, ◌||◌, cond, ℕ, ◌+◌, ◌<◌, eqb, leb, ltb, ℤ, pos, neg_ℤ, ◌+ℤ◌, ◌≤ℤ◌}
use Rattle.records.specs.Records.{Entry}
use Rattle.positions.specs.Beyond.{is_beyond}
use Rattle.positions.specs.declared.Position.{Position}
use Rattle.positions.specs.declared.Mark.{Mark}
use Rattle.booking.specs.Variation.{variation_at}
use Rattle.holdings.specs.Limits.{is_over}
use Rattle.holdings.specs.declared.Totals.{Totals}
use Rattle.model.specs.Book.{Book, replaced}
use Rattle.model.specs.Calls.{Trade, trade, call_of}
use Rattle.model.specs.Effects.{with_day, lots_for, traded}
use Rattle.model.specs.Refusals.{in_hours, ranged, refusal}
use Rattle.model.specs.Answers.{called}
use Rattle.model.specs.History.{deal_for}
use Rattle.model.specs.Kept.{Kept}
use Rattle.model.specs.Bounds.{total_in, limit_in}
use Rattle.model.specs.Promises.{worth_at}
use Rattle.model.specs.Entries.{written}

-- ---- a ticket and its two parts
-- "at one rate": contract, sides and rate are the same, the lots of the parts are those of the ticket, and each comes at its own time
pub record Split : Type 0 where
  pub code : ℕ
  pub buyer : ℕ
  pub seller : ℕ
  pub rate : ℤ
  pub time : ℕ
  pub first_time : ℕ
  pub first_lots : ℕ
  pub second_time : ℕ
  pub second_lots : ℕ

module _ (s : Split) where
  abbrev ticket_of : ℕ → ℕ → Trade
  ticket_of time lots = record { time = time; code = s.code; buyer = s.buyer; seller = s.seller; lots = lots; rate = s.rate }

  abbrev pub whole : Trade
  whole = ticket_of s.time (s.first_lots + s.second_lots)

  abbrev pub first : Trade
  first = ticket_of s.first_time s.first_lots

  abbrev pub second : Trade
  second = ticket_of s.second_time s.second_lots

  -- records of the three
  pub record Tickets (e f g : Entry) : Type 0 where
    pub wholes : call_of e ≡ trade whole
    pub firsts : call_of f ≡ trade first
    pub seconds : call_of g ≡ trade second

-- ---- variation
-- what a trade earns an account at a settlement rate: signed lots x 250 x (rate - traded rate), and nothing where it is no side
abbrev pub earns : ℤ → ℕ → Trade → ℤ
earns rate n t = worth_at rate (record { lots = lots_for t n; rate = t.rate })

abbrev pub exchanged : Trade → Trade
exchanged t = record { time = t.time; code = t.code; buyer = t.seller; seller = t.buyer; lots = t.lots; rate = t.rate }

abbrev pub position_in : Book → ℕ → ℕ → Position
position_in b n c = b.accounts.position n c

pub record AddsUp : Type 0 where
  -- a trade adds to an account's variation what it earns, in its own contract only, whatever the settlement rate and the one before
  pub adds : (b : Book) (t : Trade) (n c : ℕ) (m : Mark)
      → variation_at (position_in (traded b t) n c) m ≡ variation_at (position_in b n c) m +ℤ cond (eqb c t.code) (earns m.rate n t) (pos 0)
  -- "at given settlement rates an account's variation is additive in lots"
  pub additive : (s : Split) (rate : ℤ) (n : ℕ) → earns rate n (whole s) ≡ earns rate n (first s) +ℤ earns rate n (second s)
  -- "exchanging buyer and seller negates it"
  pub negated : (t : Trade) (rate : ℤ) (n : ℕ) → eqb t.buyer t.seller ≡ false → earns rate n (exchanged t) ≡ neg_ℤ (earns rate n t)
  -- so that a trade and its exchange leave every account as it was
  pub undone : (b : Book) (t : Trade) → eqb t.buyer t.seller ≡ false → (traded (traded b t) (exchanged t)).accounts ≡ b.accounts
  -- for a side it is what promise 1 sums trade by trade, and what the desk's line of the trade shows
  pub as-promised : (t : Trade) (rate : ℤ) (n : ℕ) → (eqb n t.buyer || eqb n t.seller) ≡ true → earns rate n t ≡ worth_at rate (deal_for n t)

-- ---- the book after the ticket, and after its two parts
-- the one book with the clock, the number of trades and this contract's tally of the other
abbrev pub with_counts : Book → ℕ → Book → Book
with_counts b c other = with_day b
    (record { point = b.today.point; day = b.today.day; clock = other.today.clock; trades = other.today.trades })
    (record { codes = b.contracts.codes; terms = b.contracts.terms; tally = replaced b.contracts.tally c (other.contracts.tally c) })

pub record SplitAlike (c : ℕ) (whole parts : Book) : Type 0 where
  -- "the same positions", and all else that accounts have
  pub accounts : whole.accounts ≡ parts.accounts
  -- nothing else differs but what is counted of the day: the clock, the trades, and the contract's tally, by which "the settlement rule may change"
  pub no_more : with_counts whole c parts ≡ parts
  pub one_more : parts.today.trades ≡ whole.today.trades + 1

-- "a ticket and its split, if whole and parts are all accepted, end with the same positions"
abbrev pub SameEnd : Type 0
SameEnd = (s : Split) (b : Book) (e f g : Entry) → Tickets s e f g
    → refusal b e ≡ 0 → refusal b f ≡ 0 → refusal (called b f) g ≡ 0
    → SplitAlike s.code (called b e) (called (called b f) g)

-- ---- what the parts are answered where the whole passes
-- both parts come in hours (10), the first not before the day's last trade or quote, the second not before the first (9)
pub record InOrder (s : Split) (b : Book) : Type 0 where
  pub hours : (in_hours s.first_time ≡ true) × (in_hours s.second_time ≡ true)
  pub clock : leb b.today.clock s.first_time ≡ true
  pub order : leb s.first_time s.second_time ≡ true

pub record Offered (s : Split) (b : Book) (e f g : Entry) : Type 0 where
  pub tickets : Tickets s e f g
  pub whole-passes : refusal b e ≡ 0
  pub in_order : InOrder s b
  -- the parts' own fields are in range (2)
  pub ranges : (ranged f ≡ 0) × (ranged g ≡ 0)
  -- the sides' nets in the contract are at most 20,000 lots before
  pub not_beyond : (is_beyond (position_in b s.buyer s.code) ≡ false) × (is_beyond (position_in b s.seller s.code) ≡ false)

-- both hold by themselves: nets in a kept book, fields in records that people write, where each part has a lot
abbrev pub AsWritten : Type 0
AsWritten = (s : Split) (b : Book) → Kept b → refusal b (written (whole s)) ≡ 0 → InOrder s b → 0 < s.first_lots → 0 < s.second_lots
    → Offered s b (written (whole s)) (written (first s)) (written (second s))

-- the second part as a side sees it: from the total that the first part leaves to the total that the whole leaves
abbrev pub second_step : Split → Book → ℕ → Totals
second_step s b n = record { before = total_in (traded b (first s)) n; after = total_in (traded b (whole s)) n; limit = limit_in b n }

abbrev pub is_lifted : Split → Book → Bool
is_lifted s b = is_over (second_step s b s.buyer) || is_over (second_step s b s.seller)

abbrev pub has_room_for_both : Book → Bool
has_room_for_both b = ltb (b.today.trades + 1) 10000

-- 16: "a part can also find the trade table full"; 14: "its second part raises it and can meet 14"; and no other number
abbrev pub second_refusal : Split → Book → ℕ
second_refusal s b = cond (has_room_for_both b) (cond (is_lifted s b) 14 0) 16

pub record PartsAnswered (s : Split) (b : Book) (f g : Entry) : Type 0 where
  pub first_passes : refusal b f ≡ 0
  pub second-answered : refusal (called b f) g ≡ second_refusal s b

abbrev pub WhatPartsMeet : Type 0
WhatPartsMeet = (s : Split) (b : Book) (e f g : Entry) → Offered s b e f g → PartsAnswered s b f g

-- ---- when a split is safe
-- the ticket leaves the net on its side of zero: not from short to long, nor from long to short
abbrev pub OneSided : ℤ → ℤ → Type 0
OneSided before after = ((pos 0 ≤ℤ before) × (pos 0 ≤ℤ after)) ⊎ ((before ≤ℤ pos 0) × (after ≤ℤ pos 0))

-- the whole leaves the account's total within its limit, or does not take the account through zero
abbrev pub SafeFor : Split → Book → ℕ → Type 0
SafeFor s b n =
    (total_in (traded b (whole s)) n ≤ℤ limit_in b n)
    ⊎ OneSided (position_in b n s.code).net (position_in (traded b (whole s)) n s.code).net

-- then both parts pass, and the book is as after the whole
pub record SafelySplit (s : Split) (b : Book) (e f g : Entry) : Type 0 where
  pub first_passes : refusal b f ≡ 0
  pub second-passes : refusal (called b f) g ≡ 0
  pub alike : SplitAlike s.code (called b e) (called (called b f) g)

abbrev pub SafeSplit : Type 0
SafeSplit = (s : Split) (b : Book) (e f g : Entry) → Offered s b e f g
    → has_room_for_both b ≡ true → SafeFor s b s.buyer → SafeFor s b s.seller → SafelySplit s b e f g

-- the second part is a ticket again, as safe where the first has left the book: so a ticket may be broken into any number of parts
abbrev pub SafeAgain : Type 0
SafeAgain = (s more : Split) (b : Book) (n : ℕ) → whole more ≡ second s → SafeFor s b n → SafeFor more (traded b (first s)) n
