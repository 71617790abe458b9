-- What an accepted close answers and books: by the rules on the day's lists, by document 01's formula on the day's trades, and line by line.
use Rattle.std.specs.Prelude.{◌≡◌, refl, Bool, true, false, not, cond, List, [], ◌∷◌, map, ℕ, eqb, ℤ, pos, neg_ℤ, ◌+ℤ◌, ◌-ℤ◌, ◌*ℤ◌}
use Rattle.std.proofs.Common.{sym, ◌∙◌, ap, ap₂, subst, zero-mul, eq-eqb}
use Rattle.std.proofs.lemmas.Bool.{not-true, not-false}
use Rattle.std.proofs.Math.IntN.{+ℤ_invr, zero-*ℤ}
use Rattle.lists.specs.All.{All, none_left, all-last, all-weaken}
use Rattle.lists.specs.HasLaws.{when_true, when_false, eqb-flip, has-those, those-has}
use Rattle.lists.specs.Zipped.{zipped, zipped_map}
use Rattle.whole.specs.Ring.{add-mulℤ}
use Rattle.whole.specs.Expand.{expand}
use Rattle.whole.specs.Sums.{sum_z}
use Rattle.whole.specs.Over.{sum_over, over_last}
use Rattle.records.specs.Records.{Entry}
use Rattle.rates.specs.Rules as rules
use Rattle.rates.specs.RuleLaws.{settles}
use Rattle.rates.specs.Settling.{settled_from}
use Rattle.rates.specs.declared.Settled.{Settled}
use Rattle.positions.specs.Deals.{Deal, lots_of, bought, sold, flat, overnight}
use Rattle.booking.specs.Carried.{carried, all_carried}
use Rattle.totals.specs.Totals.{asked, total}
use Rattle.booking.specs.Variation.{earned, variation_of, variation_at}
use Rattle.booking.specs.VariationLaws.{variation-kept}
use Rattle.closing.specs.DayEnd.{at_close, with_core}
use Rattle.accounts.specs.Accounts.{closed}
use Rattle.model.specs.Book.{Book, Terms, no_terms, Held, is_member, is_listed, margins_of}
use Rattle.model.specs.Calls.{Call, start, enrol, pay_in, pay_out, release, set_special, set_limits, opening, trade, quote, settle, refresh, close, unknown, Trade, call_of}
use Rattle.model.specs.Effects.{is_ending, settled_at, mark_of, codes_left, terms_left, closed_day, after}
use Rattle.model.specs.Refusals.{tests, refusal}
use Rattle.model.specs.Answers.{called, answer}
use Rattle.model.specs.History.{Step, step, run, log, Dated, closed_trades, todays_trades, todays_quotes, trades_in, quotes_in, deal_for, deals_of, own_trades, variation_in}
use Rattle.model.specs.SumLaws.{over-left}
use Rattle.model.proofs.StepLaws.{Passed, needed, induct-tests}
use Rattle.model.specs.RefusalLaws.{accepted-called, accepted-answer}
use Rattle.model.proofs.TodayLaws.{talliable}
use Rattle.model.proofs.HouseLaws.{variation-by-code, close-due}
use Rattle.model.proofs.KeptLaws.{known}
use Rattle.model.proofs.VariationLaws.{worth-sum, position-is, before-is}
use Rattle.model.specs.Bounds.{total_in}
use Rattle.model.specs.Promises.{worth_at, made_today, carried_over, amount_of, lines_of, CloseKept}

-- ---- lines
-- the lines of an account in a contract come to its variation there
pub lines-sum : (n c : ℕ) (today : List Dated) (net previous rate : ℤ)
    → sum_over (amount_of n rate) (lines_of n c today net previous) ≡ variation_of (deals_of n c today) net previous rate
unfolding variation_of
lines-sum n c today net previous rate =
    over_last (amount_of n rate) (map (λ d. made_today d.deal) (own_trades n c today)) (carried_over net previous)
    ∙ ap (λ z. z +ℤ net *ℤ (pos 250 *ℤ (rate -ℤ previous))) (ap sum_z (same (own_trades n c today)) ∙ worth-sum rate (deals_of n c today))
    ∙ both (sum_z (map (earned rate) (deals_of n c today))) net (rate -ℤ previous)
  where
    same : (ds : List Dated) → map (amount_of n rate) (map (λ d. made_today d.deal) ds) ≡ map (worth_at rate) (map (λ d. deal_for n d.deal) ds)
    same [] = refl
    same (d ∷ ds) = ap (λ l. worth_at rate (deal_for n d.deal) ∷ l) (same ds)

    both : (s b e : ℤ) → pos 250 *ℤ s +ℤ b *ℤ (pos 250 *ℤ e) ≡ pos 250 *ℤ (s +ℤ b *ℤ e)
    both s b e = simp expand

-- what one side of a trade gains the other loses
pub lines-opposite : (rate : ℤ) (t : Trade) → eqb t.buyer t.seller ≡ false
    → amount_of t.buyer rate (made_today t) +ℤ amount_of t.seller rate (made_today t) ≡ pos 0
lines-opposite rate t apart =
    ap₂ (λ a b. worth_at rate a +ℤ worth_at rate b)
    (when_true (bought t.lots t.rate) (sold t.lots t.rate) (eq-eqb t.buyer t.buyer refl))
    (when_false (bought t.lots t.rate) (sold t.lots t.rate) (eqb-flip t.seller t.buyer ∙ apart))
    ∙ none (pos t.lots) (rate -ℤ t.rate)
  where
    none : (l e : ℤ) → l *ℤ (pos 250 *ℤ e) +ℤ neg_ℤ l *ℤ (pos 250 *ℤ e) ≡ pos 0
    none l e = sym (add-mulℤ l (neg_ℤ l) (pos 250 *ℤ e)) ∙ ap (λ z. z *ℤ (pos 250 *ℤ e)) (+ℤ_invr l) ∙ zero-*ℤ (pos 250 *ℤ e)

-- ---- the trades of a day have two sides
abbrev Apart : Dated → Type 0
Apart d = eqb d.deal.buyer d.deal.seller ≡ false

begins : All Apart (todays_trades [])
unfolding todays_trades
begins = none_left

more : (b : Book) (l : List Step) (c : Call) → Passed (tests b c) → All Apart (todays_trades l) → All Apart (todays_trades (step b c ∷ l))
unfolding todays_trades
more b l (start s) p i = i
more b l (enrol n x) p i = i
more b l (pay_in n x) p i = i
more b l (pay_out n x) p i = i
more b l (release n x) p i = i
more b l (set_special n x) p i = i
more b l (set_limits n x) p i = i
more b l (opening o) p i = i
more b l (trade t) p i = all-last (todays_trades l) i (not-true (eqb t.buyer t.seller) (needed 11 tt p.1.1.1.1.0))
more b l (quote q) p i = i
more b l settle p i = i
more b l refresh p i = i
more b l (close final) p i = none_left
more b l unknown p i = i

two-sided : (h : List Entry) → All Apart (todays_trades (log h))
two-sided = induct-tests (λ b l. All Apart (todays_trades l)) begins more

-- ---- the close
bill-is : (b : Book) (final : ℤ) (n : ℕ) → is_member b n ≡ true
    → ((closed_day b final).accounts.held n).variation ≡ sum_over (variation_in b final n) b.contracts.codes
unfolding closed at_close with_core
bill-is b final n m = ap (λ (h : Held). h.variation) (when_true _ _ m) ∙ variation-by-code b final n

-- the day-end total is that of the positions left
day-end-is : (b : Book) (final : ℤ) (n : ℕ) → is_member b n ≡ true → ((closed_day b final).accounts.held n).dayend ≡ total_in (closed_day b final) n
unfolding closed at_close with_core total all_carried
day-end-is b final n m =
    ap (λ (h : Held). h.dayend) (when_true _ _ m)
    ∙ ap (λ ps. sum_z (zipped asked ps (margins_of b))) (zipped_map carried (b.accounts.position n) (mark_of b final) b.contracts.codes)
    ∙ ap sum_z (zipped_map asked (λ c. carried (b.accounts.position n c) (mark_of b final c)) (λ c. (b.contracts.terms c).margin) b.contracts.codes)
    ∙ sym (over-left (λ c. not (is_ending b c)) _ _ b.contracts.codes kept gone)
    ∙ sym (ap sum_z (zipped_map asked ((closed_day b final).accounts.position n) (λ c. ((closed_day b final).contracts.terms c).margin) (codes_left b)))
  where
    kept : (c : ℕ) → not (is_ending b c) ≡ true → is_listed b c ≡ true
        → asked (carried (b.accounts.position n c) (mark_of b final c)) (terms_left b final c).margin
        ≡ asked (carried (b.accounts.position n c) (mark_of b final c)) (b.contracts.terms c).margin
    kept c e on =
        ap (λ (t : Terms). asked (carried (b.accounts.position n c) (mark_of b final c)) t.margin)
        (when_true _ no_terms (has-those (λ k. not (is_ending b k)) c b.contracts.codes ∙ when_true _ false e ∙ on))

    gone : (c : ℕ) → not (is_ending b c) ≡ false → asked (carried (b.accounts.position n c) (mark_of b final c)) (b.contracts.terms c).margin ≡ pos 0
    gone c e =
        ap (λ p. asked p (b.contracts.terms c).margin) (when_true flat (overnight (b.accounts.position n c).net) (not-false (is_ending b c) e))
        ∙ ap pos (zero-mul (b.contracts.terms c).margin)

module _ (h : List Entry) (final : ℤ) where
  -- rate, rule and count
  settles-by : (c : ℕ) → settled_at (run h) final c
      ≡ rules.settled (trades_in c (todays_trades (log h))) (quotes_in c (todays_quotes (log h))) ((run h).contracts.terms c).previous (is_ending (run h) c) final
  settles-by c =
      ap (λ t. settled_from t ((run h).contracts.terms c).previous (is_ending (run h) c) final) ((talliable h).tally c)
      ∙ settles (trades_in c (todays_trades (log h))) (quotes_in c (todays_quotes (log h))) ((run h).contracts.terms c).previous (is_ending (run h) c) final

  -- document 01's formula on the day's trades
  module _ (n c : ℕ) where
    abbrev today : List Deal
    today = deals_of n c (todays_trades (log h))

    abbrev before : ℤ
    before = lots_of (deals_of n c (closed_trades (log h)))

    abbrev previous : ℤ
    previous = ((run h).contracts.terms c).previous

    books-by : is_listed (run h) c ≡ true → {s : Settled} → s ≡ settled_at (run h) final c
        → variation_in (run h) final n c ≡ variation_of today before previous s.rate
    books-by on {s} e =
        ap (λ p. variation_at p (mark_of (run h) final c)) (position-is h n c)
        ∙ variation-kept ((run h).accounts.position n c).before today (mark_of (run h) final c)
        ∙ ap (λ z. variation_of today z previous (settled_at (run h) final c).rate) (before-is h n c on)
        ∙ ap (λ (t : Settled). variation_of today before previous t.rate) (sym e)

pub closes_kept : (h : List Entry) (e : Entry) (final : ℤ) → refusal (run h) e ≡ 0 → call_of e ≡ close final
    → CloseKept (run h) (called (run h) e) (answer (run h) e) (log h) final
unfolding after
closes_kept h e final r q = subst (λ after. CloseKept (run h) after (answer (run h) e) (log h) final) (sym (accepted-called (run h) e r q)) (record {
  answers = accepted-answer (run h) e r q;
  settles = λ c on. when_true _ _ on ∙ settles-by h final c;
  books = λ n c on. books-by h final n c on (when_true _ _ on);
  bills = λ n m. (bill-is (run h) final n m, close-due (known h).framed n final);
  nets = λ n c. net-left n c (is_ending (run h) c);
  day-ends = day-end-is (run h) final;
  stays = λ c on. let f = those-has _ c (run h).contracts.codes on in (
    ap (λ (t : Terms). t.previous) (when_true _ no_terms on) ∙ ap (λ (s : Settled). s.rate) (sym (when_true _ _ f.0)),
    ap (λ (t : Terms). t.margin) (when_true _ no_terms on),
  );
  lines = λ n c on. books-by h final n c on (when_true _ _ on) ∙ sym (lines-sum n c (todays_trades (log h)) _ _ _);
  two-lines = λ rate. all-weaken (λ d apart. lines-opposite rate d.deal apart) (two-sided h);
})
  where
    net-left : (n c : ℕ) (t : Bool) → (cond t flat (overnight ((run h).accounts.position n c).net)).net ≡ cond t (pos 0) ((run h).accounts.position n c).net
    net-left n c true = refl
    net-left n c false = refl
