-- What the rows of a day say of a close: they are the account's trades of the day, they are few and modest, and with the position carried over they
-- earn the variation that the close books.
use Rattle.std.specs.Prelude.{◌≡◌, Bool, true, false, ◌&&◌, eqb, ℤ, nat_abs, ◌+ℤ◌}
use Rattle.std.proofs.Math.Path.{refl}
use Rattle.std.proofs.Common.{sym, ◌∙◌, ap, ap₂, subst, arith, ltb-true}
use Rattle.std.proofs.Math.Bool.{cond}
use mathlib.Core.List.{List, [], ◌∷◌, ◌++◌, map, map-map}
use Prim.Native.Nat.{ℕ, ◌+◌, ◌≤◌, ◌<◌, zero-le}
use Rattle.std.proofs.Math.ListN.{length, length-append}
use Rattle.lists.specs.Has.{has}
use Rattle.lists.specs.HasLaws.{or_right, has_first}
use Rattle.lists.specs.Keep.{cond-keeps}
use Rattle.lists.specs.Those.{those, those-made}
use Rattle.lists.specs.All.{All, none_left, all-last}
use Rattle.whole.specs.Within.{nat_abs-neg-pos}
use Rattle.whole.specs.Sums.{sum_z}
use Rattle.whole.specs.Over.{sum_over, over_last}
use Rattle.records.specs.Records.{Entry}
use Rattle.positions.specs.Deals.{Deal, lots_of, bought, sold}
use Rattle.model.specs.Book.{Book, new, is_member, is_listed}
use Rattle.model.specs.Calls.{Call, start, enrol, pay_in, pay_out, release, set_special, set_limits, opening, trade, quote, settle, refresh, close, unknown, Trade, call_of}
use Rattle.model.specs.Effects.{after}
use Rattle.model.specs.Refusals.{tests, refusal}
use Rattle.model.specs.Answers.{called}
use Rattle.model.specs.History.{Step, step, run, log, at_trade, at_close, Dated, dated, closed_trades, todays_trades, is_side_in, own_trades, deal_for, deals_of, variation_in}
use Rattle.model.specs.Promises.{worth_at, made_today, carried_over, amount_of}
use Rattle.model.proofs.StepLaws.{Passed, needed, accepted-by, induct}
use Rattle.model.specs.Ranged.{GoodTrade, Ranged}
use Rattle.model.proofs.RangeLaws.{ranges}
use Rattle.model.specs.Kept.{Framed}
use Rattle.model.proofs.FrameLaws.{shut-closed}
use Rattle.model.proofs.VariationLaws.{before-is}
use Rattle.model.proofs.KeptLaws.{known}
use Rattle.model.proofs.CloseLaws.{closes_kept}
use Rattle.trail.specs.declared.Row.{Row}
use Rattle.trail.specs.Rows.{deal_of, earned}
use Rattle.trail.specs.Tables.{Modest}
use Rattle.trail.specs.TableLaws.{worth-deals}
use Rattle.desk.specs.Trails.{is_side, row_of, rows_today}

-- sums over a list of two functions that agree on it
over-same : (f g : ℕ → ℤ) (cs : List ℕ) → ((c : ℕ) → has c cs ≡ true → f c ≡ g c) → sum_over f cs ≡ sum_over g cs
unfolding sum_z has
over-same f g [] same = refl
over-same f g (c ∷ cs) same =
    ap₂ ◌+ℤ◌ (same c (has_first c cs)) (over-same f g cs (λ k on. same k (or_right (eqb k c) (has k cs) on)))

module _ (n : ℕ) where
  -- ---- whose trades they are
  -- the row of a trade is the account's deal
  row-deal : (b : Book) (t : Trade) → deal_of (row_of b n t) ≡ deal_for n t
  row-deal b t = go (eqb n t.buyer)
    where
      go : (s : Bool) → record {
        lots = (cond s (bought t.lots t.rate) (sold t.lots t.rate)).lots;
        rate = t.rate;
      } ≡ cond s (bought t.lots t.rate) (sold t.lots t.rate)
      go true = refl
      go false = refl

  abbrev deals_in : ℕ → List Row → List Deal
  deals_in c rows = map deal_of (those (λ r. eqb c r.code) rows)

  -- one trade more
  deals-with : (b : Book) (t : Trade) (c : ℕ) (rows : List Row) (ds : List Dated) (d : Dated) → d.deal ≡ t → deals_in c rows ≡ deals_of n c ds
      → deals_in c (cond (is_side n t) (rows ++ (row_of b n t ∷ [])) rows) ≡ deals_of n c (ds ++ (d ∷ []))
  deals-with b t c rows ds d q i =
      go (is_side n t) ∙ sym (those-made (λ x. is_side_in n c x.deal) (λ x. deal_for n x.deal) ds d ∙ ap later q)
    where
      later : Trade → List Deal
      later u = cond (is_side_in n c u) (deals_of n c ds ++ (deal_for n u ∷ [])) (deals_of n c ds)

      side : (s : Bool) → cond s (deals_in c rows ++ (deal_of (row_of b n t) ∷ [])) (deals_in c rows)
          ≡ cond s (deals_of n c ds ++ (deal_for n t ∷ [])) (deals_of n c ds)
      side s = rw (i, row-deal b t)

      none : (s : Bool) → cond (s && false) (deals_of n c ds ++ (deal_for n t ∷ [])) (deals_of n c ds) ≡ deals_of n c ds
      none true = refl
      none false = refl

      both : (s : Bool) → cond (s && true) (deals_of n c ds ++ (deal_for n t ∷ [])) (deals_of n c ds)
          ≡ cond s (deals_of n c ds ++ (deal_for n t ∷ [])) (deals_of n c ds)
      both true = refl
      both false = refl

      go : (s : Bool) → deals_in c (cond s (rows ++ (row_of b n t ∷ [])) rows)
          ≡ cond (eqb c t.code && s) (deals_of n c ds ++ (deal_for n t ∷ [])) (deals_of n c ds)
      go true = those-made (λ r. eqb c r.code) deal_of rows (row_of b n t) ∙ side (eqb c t.code) ∙ sym (both (eqb c t.code))
      go false = i ∙ sym (none (eqb c t.code))

  pub rows-deals : (c : ℕ) (l : List Step) → map deal_of (those (λ r. eqb c r.code) (rows_today n l)) ≡ deals_of n c (todays_trades l)
  unfolding rows_today todays_trades those
  rows-deals c [] = refl
  rows-deals c (s ∷ l) = go s.call (rows-deals c l)
    where
      go : (x : Call) → deals_in c (rows_today n l) ≡ deals_of n c (todays_trades l)
          → deals_in c (at_close x (λ final. [])
          (at_trade x (λ t. cond (is_side n t) (rows_today n l ++ (row_of s.before n t ∷ [])) (rows_today n l)) (rows_today n l)))
          ≡ deals_of n c (at_close x (λ final. []) (at_trade x (λ t. todays_trades l ++ (dated s t ∷ [])) (todays_trades l)))
      go (start k) i = i
      go (enrol m k) i = i
      go (pay_in m k) i = i
      go (pay_out m k) i = i
      go (release m k) i = i
      go (set_special m k) i = i
      go (set_limits m k) i = i
      go (opening o) i = i
      go (trade t) i = deals-with s.before t c (rows_today n l) (todays_trades l) (dated s t) refl i
      go (quote q) i = i
      go settle i = i
      go refresh i = i
      go (close final) i = refl
      go unknown i = i

  -- ---- how many they are: no more than the day's accepted trades
  abbrev Few : Book → List Step → Type 0
  Few b l = length (rows_today n l) ≤ b.today.trades

  few-first : Few new []
  unfolding rows_today
  few-first = zero-le

  few-more : (b : Book) (l : List Step) (c : Call) → Framed b → Passed (tests b c) → Few b l → Few (after b c) (step b c ∷ l)
  unfolding after rows_today
  few-more b l (start s) f p i = i
  few-more b l (enrol m x) f p i = i
  few-more b l (pay_in m x) f p i = i
  few-more b l (pay_out m x) f p i = i
  few-more b l (release m x) f p i = i
  few-more b l (set_special m x) f p i = i
  few-more b l (set_limits m x) f p i = i
  few-more b l (opening o) f p i = omega (arith, f.shut-trades (shut-closed b.today.point (needed 3 tt p.0)))
  few-more b l (trade t) f p i =
      cond-keeps (λ (rows : List Row). length rows ≤ b.today.trades + 1) (is_side n t) _ _
      (λ e. omega (arith, length-append (rows_today n l) (row_of b n t ∷ [])))
      (λ e. omega arith)
  few-more b l (quote q) f p i = i
  few-more b l settle f p i = i
  few-more b l refresh f p i = i
  few-more b l (close final) f p i = zero-le
  few-more b l unknown f p i = i

  rows-counted : (h : List Entry) → length (rows_today n (log h)) ≤ (run h).today.trades
  rows-counted = induct Few few-first (λ h e a i. few-more (run h) (log h) (call_of e) (known h).framed a.passed i)

  -- "trades in a day | 0 | 10,000"
  pub rows_few : (h : List Entry) → length (rows_today n (log h)) ≤ 10000
  rows_few h = omega (arith, rows-counted h, (known h).sized.today.trades)

  -- where a trade is accepted there is room for its row
  pub rows-room : (h : List Entry) (e : Entry) {t : Trade} → refusal (run h) e ≡ 0 → call_of e ≡ trade t → length (rows_today n (log h)) < 10000
  rows-room h e {t} r q =
      let p = subst (λ c. Passed (tests (run h) c)) q (accepted-by (run h) e r).passed in
      omega (arith, rows-counted h, ltb-true (run h).today.trades 10000 (needed 16 tt p.1.1.1.1.1.1.1.0))

  -- ---- how large they are: an accepted trade is in range
  row-modest : (b : Book) (t : Trade) → GoodTrade t → Modest (row_of b n t)
  row-modest b t g = record { lots = record { size = go (eqb n t.buyer) }; rate = g.rate }
    where
      go : (s : Bool) → nat_abs (cond s (bought t.lots t.rate) (sold t.lots t.rate)).lots ≤ 1000
      go true = g.most
      go false = omega (arith, nat_abs-neg-pos t.lots, g.most)

  modest-first : All Modest (rows_today n [])
  unfolding rows_today
  modest-first = none_left

  modest-more : (b : Book) (l : List Step) (c : Call) → Ranged c → All Modest (rows_today n l) → All Modest (rows_today n (step b c ∷ l))
  unfolding rows_today
  modest-more b l (start s) g i = i
  modest-more b l (enrol m x) g i = i
  modest-more b l (pay_in m x) g i = i
  modest-more b l (pay_out m x) g i = i
  modest-more b l (release m x) g i = i
  modest-more b l (set_special m x) g i = i
  modest-more b l (set_limits m x) g i = i
  modest-more b l (opening o) g i = i
  modest-more b l (trade t) g i =
      cond-keeps (All Modest) (is_side n t) _ _ (λ e. all-last (rows_today n l) i (row-modest b t g)) (λ e. i)
  modest-more b l (quote q) g i = i
  modest-more b l settle g i = i
  modest-more b l refresh g i = i
  modest-more b l (close final) g i = none_left
  modest-more b l unknown g i = i

  pub rows-modest : (h : List Entry) → All Modest (rows_today n (log h))
  rows-modest = induct (λ b l. All Modest (rows_today n l)) modest-first
      (λ h e a i. modest-more (run h) (log h) (call_of e) (ranges e a.ranges) i)

  -- ---- which contracts they are in: those that are listed
  abbrev InListed : Book → List Row → Type 0
  InListed b = All (λ r. is_listed b r.code ≡ true)

  no_rows : (b : Book) (rows : List Row) → length rows ≤ 0 → InListed b rows
  no_rows b [] q = none_left
  no_rows b (r ∷ rows) q = absurd (omega arith)

  listed-first : InListed new (rows_today n [])
  unfolding rows_today
  listed-first = none_left

  listed_more : (b : Book) (l : List Step) (c : Call) → Framed b → Few b l → Passed (tests b c) → InListed b (rows_today n l)
      → InListed (after b c) (rows_today n (step b c ∷ l))
  unfolding after rows_today
  listed_more b l (start s) f few p i = i
  listed_more b l (enrol m x) f few p i = i
  listed_more b l (pay_in m x) f few p i = i
  listed_more b l (pay_out m x) f few p i = i
  listed_more b l (release m x) f few p i = i
  listed_more b l (set_special m x) f few p i = i
  listed_more b l (set_limits m x) f few p i = i
  listed_more b l (opening o) f few p i =
      no_rows (after b (opening o)) (rows_today n l) (omega (arith, f.shut-trades (shut-closed b.today.point (needed 3 tt p.0))))
  listed_more b l (trade t) f few p i =
      cond-keeps (InListed b) (is_side n t) _ _ (λ e. all-last (rows_today n l) i (needed 8 tt p.1.0)) (λ e. i)
  listed_more b l (quote q) f few p i = i
  listed_more b l settle f few p i = i
  listed_more b l refresh f few p i = i
  listed_more b l (close final) f few p i = none_left
  listed_more b l unknown f few p i = i

  pub rows-listed : (h : List Entry) → All (λ r. is_listed (run h) r.code ≡ true) (rows_today n (log h))
  rows-listed = induct (λ b l. InListed b (rows_today n l)) listed-first
      (λ h e a i. listed_more (run h) (log h) (call_of e) (known h).framed (rows-counted h) a.passed i)

  -- ---- what they earn
  -- the lines of the trades made today
  made-earn : (c : ℕ) (rate : ℤ) (l : List Step)
      → sum_over (amount_of n rate) (map (λ d. made_today d.deal) (own_trades n c (todays_trades l))) ≡ earned c rate (rows_today n l)
  made-earn c rate l =
      ap sum_z (map-map (amount_of n rate) (λ d. made_today d.deal) (own_trades n c (todays_trades l)))
      ∙ sym (ap sum_z (map-map (worth_at rate) (λ d. deal_for n d.deal) (own_trades n c (todays_trades l))))
      ∙ sym (ap (sum_over (worth_at rate)) (rows-deals c l))
      ∙ sym (worth-deals rate (those (λ r. eqb c r.code) (rows_today n l)))

  -- the account's lines in a contract on a book: its rows at a rate, and the position carried over from the previous one
  abbrev pub explains : Book → List Row → ℤ → ℕ → ℤ
  explains b rows rate c = earned c rate rows +ℤ amount_of n rate (carried_over (b.accounts.position n c).before (b.contracts.terms c).previous)

  module _ (h : List Entry) (e : Entry) (final : ℤ) (r : refusal (run h) e ≡ 0) (q : call_of e ≡ close final) where
    -- an account's rows of the day and what it carried over come, at the settlement rate, to the variation that the close books
    pub explained : (c : ℕ) → is_listed (run h) c ≡ true
        → explains (run h) (rows_today n (log h)) ((called (run h) e).results.settled c).rate c ≡ variation_in (run h) final n c
    explained c on =
        let rate = ((called (run h) e).results.settled c).rate in
        let over : ℤ → ℤ = λ z. amount_of n rate (carried_over z ((run h).contracts.terms c).previous) in
        let net = lots_of (deals_of n c (closed_trades (log h))) in
        sym ((closes_kept h e final r q).lines n c on
        ∙ over_last (amount_of n rate) (map (λ d. made_today d.deal) (own_trades n c (todays_trades (log h)))) (carried_over net ((run h).contracts.terms c).previous)
        ∙ ap (λ z. z +ℤ over net) (made-earn c rate (log h))
        ∙ ap (λ z. earned c rate (rows_today n (log h)) +ℤ over z) (sym (before-is h n c on)))

    -- and over all contracts that were listed to the variation of its bill
    pub explained-all : is_member (run h) n ≡ true
        → sum_over (λ c. explains (run h) (rows_today n (log h)) ((called (run h) e).results.settled c).rate c) (run h).contracts.codes
        ≡ ((called (run h) e).accounts.held n).variation
    explained-all m = over-same _ _ (run h).contracts.codes explained ∙ sym ((closes_kept h e final r q).bills n m).0
