-- Contracts keep their bounds: their terms through opens and closes, their tallies through trades and quotes.
use Rattle.std.specs.Prelude.{◌≡◌, refl, true, ◌&&◌, List, ℕ, ◌+◌, ◌≤◌, ◌<◌, eqb, ltb, ℤ, pos}
use Rattle.std.proofs.Common.{zero-le, arith}
use Rattle.lists.specs.Has.{has, place_of}
use Rattle.lists.specs.Keep.{cond-keeps}
use Rattle.whole.specs.Within.{Within, wider, lit}
use Rattle.tallies.specs.Day.{in_last_hour}
use Rattle.tallies.specs.Means.{weighted}
use Rattle.tallies.specs.Tally.{tally_from, side_in, in_day, in_hour, with_trade, in_side, with_quote}
use Rattle.tallies.specs.Bounds as tallies
use Rattle.tallies.proofs.TallyLaws.{trade-keeps, quote-keeps, none-sound}
use Rattle.tallies.specs.declared.Weighted.{Weighted}
use Rattle.tallies.specs.declared.Tally.{Tally}
use Rattle.rates.specs.RuleLaws.{rate-within}
use Rattle.model.specs.Book.{Book, Terms, no_terms, no_tally, Contracts, is_listed, replaced}
use Rattle.model.specs.Calls.{Trade, Quote, Opening}
use Rattle.model.specs.Effects.{terms_after, settled_at, codes_left, terms_left}
use Rattle.model.specs.Bounds.{Fair}
use Rattle.model.specs.Ranged.{GoodOpening, GoodTrade}
use Rattle.model.specs.Kept.{Tallied}

pub fair-none : Fair no_terms
fair-none = record { previous = wider (lit (pos 0)) tt; margin = zero-le }

-- ---- no trades yet
pub tallied-new : (codes : List ℕ) (terms : ℕ → Terms) → ((c : ℕ) → Fair (terms c))
    → Tallied 0 (record { codes = codes; terms = terms; tally = λ c. no_tally })
unfolding tally_from
tallied-new codes terms f = record { terms = f; tallies = λ c. none-sound; few = λ c. zero-le }

-- ---- an open
pub opened-fair : (b : Book) (codes : List ℕ) (o : Opening) → ((c : ℕ) → Fair (b.contracts.terms c)) → GoodOpening o
    → (c : ℕ) → Fair (terms_after b codes o c)
opened-fair b codes o f g c =
    cond-keeps Fair (has c codes) _ no_terms
    (λ e. cond-keeps Fair (is_listed b c) (b.contracts.terms c) _
    (λ d. f c)
    (λ d. record { previous = g.rates.at (place_of c codes); margin = g.margins.at (place_of c codes) }))
    (λ e. fair-none)

-- ---- a close
pub rate-fair : (b : Book) (final : ℤ) → ((c : ℕ) → Fair (b.contracts.terms c)) → ((c : ℕ) → tallies.Sound (b.contracts.tally c))
    → Within 100000 final → (c : ℕ) → Within 100000 (settled_at b final c).rate
rate-fair b final f s w c = rate-within (b.contracts.tally c) (s c) _ _ final (f c).previous w

pub closed-fair : (b : Book) (final : ℤ) → ((c : ℕ) → Fair (b.contracts.terms c)) → ((c : ℕ) → tallies.Sound (b.contracts.tally c))
    → Within 100000 final → (c : ℕ) → Fair (terms_left b final c)
closed-fair b final f s w c =
    cond-keeps Fair (has c (codes_left b)) _ no_terms
    (λ e. record { previous = rate-fair b final f s w c; margin = (f c).margin })
    (λ e. fair-none)

-- ---- a trade
trade-counts : (t : Tally) (time : ℕ) (w : Weighted) → (with_trade t time w).trades ≡ t.trades + 1
unfolding in_day in_hour
trade-counts t time w =
    cond-keeps (λ (u : Tally). u.trades ≡ t.trades + 1) (in_last_hour time) (in_hour (in_day t w) w) (in_day t w) (λ e. refl) (λ e. refl)

pub tallied-traded : {trades : ℕ} {c : Contracts} → Tallied trades c → (t : Trade) → GoodTrade t → trades < 10000
    → Tallied (trades + 1) (record {
      codes = c.codes;
      terms = c.terms;
      tally = replaced c.tally t.code (with_trade (c.tally t.code) t.time (weighted t.lots t.rate));
    })
tallied-traded {trades} {c} i t g room = record {
  terms = i.terms;
  tallies = λ k. cond-keeps tallies.Sound (eqb k t.code) now (c.tally k)
      (λ e. trade-keeps (c.tally t.code) t.time w (i.tallies t.code) (record {
        room = omega (arith, i.few t.code);
        least = g.least;
        small = record { weight = g.most; rate = g.rate };
      }))
      (λ e. i.tallies k);
  few = λ k. cond-keeps (λ (u : Tally). u.trades ≤ trades + 1) (eqb k t.code) now (c.tally k)
      (λ e. omega (arith, trade-counts (c.tally t.code) t.time w, i.few t.code))
      (λ e. omega (arith, i.few k));
}
  where
    w : Weighted
    w = weighted t.lots t.rate

    now : Tally
    now = with_trade (c.tally t.code) t.time w

-- ---- a quote
quote-counts : (t : Tally) (time side : ℕ) (w : Weighted) → (with_quote t time side w).trades ≡ t.trades
unfolding in_side
quote-counts t time side w =
    cond-keeps (λ (u : Tally). u.trades ≡ t.trades) (in_last_hour time && ltb side 2) (in_side t side w) t (λ e. refl) (λ e. refl)

pub tallied-quoted : {trades : ℕ} {c : Contracts} → Tallied trades c → (q : Quote) → Within 100000 q.rate
    → (in_last_hour q.time ≡ true → (side_in (c.tally q.code) q.side).weight < 10000)
    → Tallied trades (record {
      codes = c.codes;
      terms = c.terms;
      tally = replaced c.tally q.code (with_quote (c.tally q.code) q.time q.side (weighted 1 q.rate));
    })
tallied-quoted {trades} {c} i q r room = record {
  terms = i.terms;
  tallies = λ k. cond-keeps tallies.Sound (eqb k q.code) now (c.tally k)
      (λ e. quote-keeps (c.tally q.code) q.time q.side w (i.tallies q.code) (record { room = room; one = refl; rate = r }))
      (λ e. i.tallies k);
  few = λ k. cond-keeps (λ (u : Tally). u.trades ≤ trades) (eqb k q.code) now (c.tally k)
      (λ e. omega (arith, quote-counts (c.tally q.code) q.time q.side w, i.few q.code))
      (λ e. i.few k);
}
  where
    w : Weighted
    w = weighted 1 q.rate

    now : Tally
    now = with_quote (c.tally q.code) q.time q.side w
