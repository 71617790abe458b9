-- What an account holds, and what is set or traded in it.
use Rattle.std.specs.Prelude.{ℕ, ◌*◌, ℤ, pos, replicate}
use Rattle.positions.specs.Deals.{flat, with_deal}
use Rattle.holdings.specs.declared.Limits.{Limits}
use Rattle.holdings.specs.declared.Holdings.{Holdings}

-- "clearing limit x reference rate", which document 01 names in four places
abbrev pub basis : Limits → ℕ → ℤ
basis l reference = pos (l.clearing * reference)

-- Document 01, Trade: "A new account has core = clearing limit times reference rate, its tolerance in force at once, and zero
-- .. special margin and day-end total".
unfoldable pub new_holdings : Limits → ℕ → Holdings
new_holdings l reference = record {
  limits = l;
  coming = l;
  core = basis l reference;
  special = pos 0;
  dayend = pos 0;
  variation = pos 0;
  positions = replicate 6 flat;
}

-- Document 01, Close: "limits set since the last close come into force". Until then they wait.
unfoldable pub with_limits : Holdings → Limits → Holdings
with_limits h l = record {
  limits = h.limits;
  coming = l;
  core = h.core;
  special = h.special;
  dayend = h.dayend;
  variation = h.variation;
  positions = h.positions;
}

-- Document 01, Event records: "special margin (replaces the old one, counts from the next close)".
unfoldable pub with_special : Holdings → ℤ → Holdings
with_special h special = record {
  limits = h.limits;
  coming = h.coming;
  core = h.core;
  special = special;
  dayend = h.dayend;
  variation = h.variation;
  positions = h.positions;
}

-- Document 01, Trade: "Buyer's net up, seller's down." The lots are signed: bought above zero, sold below.
unfoldable pub with_trade : Holdings → ℕ → ℤ → ℤ → Holdings
with_trade h row lots rate = record {
  limits = h.limits;
  coming = h.coming;
  core = h.core;
  special = h.special;
  dayend = h.dayend;
  variation = h.variation;
  positions = with_deal h.positions row lots rate;
}
