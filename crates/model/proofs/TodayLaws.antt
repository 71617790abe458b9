-- What the book keeps of the day so far is what the day's accepted trades and quotes give.
use Rattle.std.specs.Prelude.{◌≡◌, refl, Bool, true, false, cond, List, [], ◌∷◌, ◌++◌, ℕ, eqb}
use Rattle.std.proofs.Common.{sym, ◌∙◌, ap, eqb-true}
use Rattle.lists.specs.HasLaws.{by_test, clash}
use Rattle.lists.specs.Those.{those, those-made}
use Rattle.records.specs.Records.{Entry}
use Rattle.tallies.specs.Day as day
use Rattle.tallies.specs.Means.{weighted}
use Rattle.tallies.specs.Tally.{tally_of, with_trade, with_quote}
use Rattle.tallies.proofs.TallyLaws.{one-trade-more, one-quote-more}
use Rattle.tallies.specs.declared.Tally.{Tally}
use Rattle.model.specs.Book.{Book, new}
use Rattle.model.specs.Calls.{Call, start, enrol, pay_in, pay_out, release, set_special, set_limits, opening, trade, quote, settle, refresh, close, unknown, Quote}
use Rattle.model.specs.Effects.{after}
use Rattle.model.specs.Refusals.{is_open, tests}
use Rattle.model.specs.History.{Step, step, run, log, Dated, todays_trades, todays_quotes, trades_in, quotes_in}
use Rattle.model.proofs.StepLaws.{Passed, needed, induct-tests}
use Rattle.model.proofs.FrameLaws.{unstarted-shut, shut-closed}

-- ---- one more, by its code
module _ (c : ℕ) (ds : List Dated) (qs : List Quote) where
  abbrev tallied : Tally
  tallied = tally_of (trades_in c ds) (quotes_in c qs)

  trade-tallied : (d : Dated)
      → tally_of (trades_in c (ds ++ (d ∷ []))) (quotes_in c qs)
      ≡ cond (eqb c d.deal.code) (with_trade tallied d.deal.time (weighted d.deal.lots d.deal.rate)) tallied
  trade-tallied d = ap (λ l. tally_of l (quotes_in c qs)) (those-made _ _ ds d) ∙ go (eqb c d.deal.code)
    where
      last : day.Trade
      last = record { time = d.deal.time; lots = d.deal.lots; rate = d.deal.rate }

      go : (t : Bool) → tally_of (cond t (trades_in c ds ++ (last ∷ [])) (trades_in c ds)) (quotes_in c qs)
          ≡ cond t (with_trade tallied d.deal.time (weighted d.deal.lots d.deal.rate)) tallied
      go true = one-trade-more (trades_in c ds) (quotes_in c qs) last
      go false = refl

  quote-tallied : (q : Quote)
      → tally_of (trades_in c ds) (quotes_in c (qs ++ (q ∷ [])))
      ≡ cond (eqb c q.code) (with_quote tallied q.time q.side (weighted 1 q.rate)) tallied
  quote-tallied q = ap (tally_of (trades_in c ds)) (those-made _ _ qs q) ∙ go (eqb c q.code)
    where
      last : day.Quote
      last = record { time = q.time; side = q.side; rate = q.rate }

      go : (t : Bool) → tally_of (trades_in c ds) (cond t (quotes_in c qs ++ (last ∷ [])) (quotes_in c qs))
          ≡ cond t (with_quote tallied q.time q.side (weighted 1 q.rate)) tallied
      go true = one-quote-more (trades_in c ds) (quotes_in c qs) last
      go false = refl

-- ---- any history
pub record Talliable (b : Book) (l : List Step) : Type 0 where
  pub tally : (c : ℕ) → b.contracts.tally c ≡ tally_of (trades_in c (todays_trades l)) (quotes_in c (todays_quotes l))
  pub shut : is_open b.today.point ≡ false → (todays_trades l ≡ []) × (todays_quotes l ≡ [])

begins : Talliable new []
unfolding new todays_trades todays_quotes those
begins = record { tally = λ c. refl; shut = λ h. (refl, refl) }

-- a tally changed at one code, where the change at any code is known
at_code : (tally : ℕ → Tally) (k : ℕ) (change : Tally → Tally) (c : ℕ) {now : Tally} → tally c ≡ now
    → cond (eqb c k) (change (tally k)) (tally c) ≡ cond (eqb c k) (change now) now
at_code tally k change c e = by_test (eqb c k)
    (λ q. rw q (ap change (ap tally (sym (eqb-true c k q)) ∙ e)))
    (λ q. rw q e)

more : (b : Book) (l : List Step) (c : Call) → Passed (tests b c) → Talliable b l → Talliable (after b c) (step b c ∷ l)
unfolding after todays_trades todays_quotes those
more b l (start s) p i = record { tally = i.tally; shut = λ h. i.shut (unstarted-shut b.today.point (needed 3 tt p.0)) }
more b l (enrol n x) p i = record { tally = i.tally; shut = i.shut }
more b l (pay_in n x) p i = record { tally = i.tally; shut = i.shut }
more b l (pay_out n x) p i = record { tally = i.tally; shut = i.shut }
more b l (release n x) p i = record { tally = i.tally; shut = i.shut }
more b l (set_special n x) p i = record { tally = i.tally; shut = i.shut }
more b l (set_limits n x) p i = record { tally = i.tally; shut = i.shut }
more b l (opening o) p i = let none = i.shut (shut-closed b.today.point (needed 3 tt p.0)) in
    record { tally = λ c. rw (none.0, none.1); shut = λ h. none }
more b l (trade t) p i = record {
  tally = λ c. at_code b.contracts.tally t.code (λ y. with_trade y t.time (weighted t.lots t.rate)) c (i.tally c)
      ∙ sym (trade-tallied c (todays_trades l) (todays_quotes l) (record { day = b.today.day; deal = t }));
  shut = λ h. clash (needed 3 tt p.0) h;
}
more b l (quote q) p i = record {
  tally = λ c. at_code b.contracts.tally q.code (λ y. with_quote y q.time q.side (weighted 1 q.rate)) c (i.tally c)
      ∙ sym (quote-tallied c (todays_trades l) (todays_quotes l) q);
  shut = λ h. clash (needed 3 tt p.0) h;
}
more b l settle p i = record { tally = i.tally; shut = λ h. clash refl h }
more b l refresh p i = record { tally = i.tally; shut = i.shut }
more b l (close final) p i = record { tally = λ c. refl; shut = λ h. (refl, refl) }
more b l unknown p i = record { tally = i.tally; shut = i.shut }

pub talliable : (h : List Entry) → Talliable (run h) (log h)
talliable = induct-tests Talliable begins more
