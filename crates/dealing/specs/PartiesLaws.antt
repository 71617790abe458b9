-- What each test of a trade refuses, in document 01's order.
use Rattle.std.specs.Prelude.{◌≡◌, true, false, not, List, [], ◌∷◌, ℕ, suc, ◌≤◌, eqb, leb, ltb, Err}
use Rattle.std.proofs.Common.{sym, ap, ◌∙◌, suc-ne-zero}
use borrow.Author.Tests.{lt-ltb, le-ltb}
use Rattle.positions.specs.Beyond.{is_beyond}
use Rattle.holdings.specs.Limits.{is_over}
use Rattle.model.specs.Book.{Book, is_member, is_listed}
use Rattle.model.specs.Calls.{Trade, trade}
use Rattle.model.specs.Effects.{traded}
use Rattle.model.specs.Refusals.{needs, first_of, is_open, in_hours, side_totals}
use Rattle.model.specs.Answers.{refused, answered}
use Rattle.model.proofs.OpenDayLaws.{plainly}
use Rattle.standing.specs.Made.{decided}
use Rattle.standing.specs.DealLaws.{Between}
use Rattle.hours.specs.Searched.{has_here}
use Rattle.refusals.specs.declared.Refusal.TheVariants.{NotNow, UnknownAccount, NotListed, TooEarly, OutOfHours, BuyerIsSeller, NoRoom}
use Rattle.dealing.specs.Parties.{Answers, Ready}

-- ---- the tests
module _ (b : Book) (t : Trade) where
  refused-by : (n : ℕ) → decided b (trade t) ≡ suc n → refused (suc n) ≡ answered (decided b (trade t)) b (trade t)
  refused-by n e = sym (plainly b (trade t) (λ o q. suc-ne-zero 0 cc) (suc n) e) ∙ ap (λ d. answered d b (trade t)) (sym e)

  -- the last six of them, which the two sides decide
  abbrev pub side_tests : List ℕ
  side_tests =
      needs (not (b.accounts.funds t.buyer).flag) 12 ∷
      needs (not (b.accounts.funds t.seller).flag) 12 ∷
      needs (not (is_beyond ((traded b t).accounts.position t.buyer t.code))) 13 ∷
      needs (not (is_beyond ((traded b t).accounts.position t.seller t.code))) 13 ∷
      needs (not (is_over (side_totals b t t.buyer))) 14 ∷
      needs (not (is_over (side_totals b t t.seller))) 14 ∷ []

  pub shut : is_open b.today.point ≡ false → Answers b t (Err NotNow)
  unfolding first_of
  shut e = refused-by 2 (rw e)

  module _ (live : is_open b.today.point ≡ true) where
    pub unlisted : is_listed b t.code ≡ false → Answers b t (Err NotListed)
    unfolding first_of
    unlisted e = refused-by 7 (rw (live, e))

    module _ (listed : is_listed b t.code ≡ true) where
      pub no-buyer : is_member b t.buyer ≡ false → Answers b t (Err UnknownAccount)
      unfolding first_of
      no-buyer e = refused-by 4 (rw (live, listed, e))

      module _ (buys : is_member b t.buyer ≡ true) where
        pub no-seller : is_member b t.seller ≡ false → Answers b t (Err UnknownAccount)
        unfolding first_of
        no-seller e = refused-by 4 (rw (live, listed, buys, e))

        pub one-party : is_member b t.seller ≡ true → eqb t.buyer t.seller ≡ true → Answers b t (Err BuyerIsSeller)
        unfolding first_of
        one-party sells e = refused-by 10 (rw (live, listed, buys, sells, e))

  module _ {k i j : ℕ} (w : Between b t k i j) where
    late : decided b (trade t)
        ≡ first_of (
        needs (in_hours t.time) 10 ∷ needs (leb b.today.clock t.time) 9 ∷ needs (ltb b.today.trades 10000) 16 ∷ side_tests)
    unfolding first_of
    late = rw (w.live, has_here w.contract, has_here w.buyer, has_here w.seller, w.apart)

    pub out-of-hours : in_hours t.time ≡ false → Answers b t (Err OutOfHours)
    unfolding first_of
    out-of-hours e = refused-by 9 (late ∙ rw e)

    module _ (hours : in_hours t.time ≡ true) where
      pub too-early : leb b.today.clock t.time ≡ false → Answers b t (Err TooEarly)
      unfolding first_of
      too-early e = refused-by 8 (late ∙ rw (hours, e))

      pub full : leb b.today.clock t.time ≡ true → 10000 ≤ b.today.trades → Answers b t (Err NoRoom)
      unfolding first_of
      full clock e = refused-by 15 (late ∙ rw (hours, clock, le-ltb b.today.trades 10000 e))

  pub by-sides : {k i j : ℕ} → Ready b t k i j → decided b (trade t) ≡ first_of side_tests
  unfolding first_of
  by-sides r = late r.between ∙ rw (r.hours, r.clock, lt-ltb b.today.trades 10000 r.room)
