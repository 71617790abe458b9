-- A day can have as many trades as there is room for: a trade and the same with its sides exchanged pass again and again where they pass once.
use Rattle.std.specs.Prelude.{◌≡◌, false, List, eqb}
use Rattle.std.proofs.Common.{sym, ◌∙◌, arith, lt-ltb}
use Rattle.std.proofs.Math.Path.{ap, ap₂, subst}
use Prim.Native.Nat.{ℕ, zero, suc, ◌+◌, ◌*◌, ◌≤◌, ◌<◌}
use Rattle.records.specs.Records.{Entry}
use Rattle.tallies.specs.declared.Tally.{Tally}
use Rattle.model.specs.Book.{Book}
use Rattle.model.specs.Calls.{Trade, trade, call_of}
use Rattle.model.specs.Effects.{with_day, with_accounts, traded, after}
use Rattle.model.specs.Refusals.{first_of, tests, refusal}
use Rattle.model.specs.Answers.{called}
use Rattle.model.specs.History.{run_from, run}
use Rattle.model.proofs.StepLaws.{Passed, passed_first, needed, accepted-by}
use Rattle.model.specs.RefusalLaws.{accepted-called}
use Rattle.model.specs.Tickets.{exchanged}
use Rattle.model.proofs.TicketLaws.{adds-up}
use Rattle.model.proofs.SplitLaws.{trade-left}
use Rattle.examples.specs.Tickets.{again}

-- ---- a book with another number of trades and other tallies
abbrev timed : Book → ℕ → ℕ → (ℕ → Tally) → Book
timed b clock n tally = with_day b
    (record { point = b.today.point; day = b.today.day; clock = clock; trades = n })
    (record { codes = b.contracts.codes; terms = b.contracts.terms; tally = tally })

abbrev pub recounted : Book → ℕ → (ℕ → Tally) → Book
recounted b n tally = timed b b.today.clock n tally

-- one that differs from b in these only
pub record Recounted (b : Book) (n : ℕ) (c : Book) : Type 0 where
  pub tally : ℕ → Tally
  pub is : c ≡ recounted b n tally

-- a trade that passes passes there too, while there is room
pub still-passes : (b : Book) (n : ℕ) (tally : ℕ → Tally) (e : Entry) (t : Trade) → call_of e ≡ trade t → refusal b e ≡ 0 → n < 10000
    → refusal (recounted b n tally) e ≡ 0
unfolding first_of
still-passes b n tally e t says r room =
    let p = subst (λ c. Passed (tests b c)) says (accepted-by b e r).passed in
    let times = p.1.1.1.1.1 in
    let late = times.1.1 in
    trade-left (recounted b n tally) e t says (accepted-by b e r).ranges (passed_first 5 (tests b (trade t)) p) (needed 10 tt times.0) (needed 9 tt times.1.0)
    ∙ rw (lt-ltb n 10000 room, late.1.0, late.1.1.0, late.1.1.1.0, late.1.1.1.1.0, late.1.1.1.1.1.0, late.1.1.1.1.1.1.0)

-- ---- there and back
module _ (b : Book) (t : Trade) (e f : Entry) (there : call_of e ≡ trade t) (back : call_of f ≡ trade (exchanged t))
    (apart : eqb t.buyer t.seller ≡ false) (now : b.today.clock ≡ t.time) (passes : refusal b e ≡ 0) (returns : refusal (traded b t) f ≡ 0) where
  there_and_back : (n : ℕ) (tally : ℕ → Tally) → n + 1 < 10000 → Recounted b (n + 1 + 1) (called (called (recounted b n tally) e) f)
  unfolding after
  there_and_back n tally room =
      let once = traded (recounted b n tally) t in
      let both = (traded once (exchanged t)).contracts.tally in
      record {
        tally = both;
        is =
            ap (λ c. called c f) (accepted-called (recounted b n tally) e (still-passes b n tally e t there passes (omega arith)) there)
            ∙ accepted-called once f (still-passes (traded b t) (n + 1) once.contracts.tally f (exchanged t) back returns room) back
            ∙ ap₂ (λ clock accounts. with_accounts (timed b clock (n + 1 + 1) both) accounts) (sym now) (adds-up.undone b t apart);
      }

  pub many-times : (h : List Entry) → run h ≡ b → (k : ℕ) → b.today.trades + 2 * k ≤ 10000
      → Recounted b (b.today.trades + 2 * k) (run (again k e f h))
  unfolding run_from again
  many-times h is zero room =
      record { tally = b.contracts.tally; is = is ∙ ap (λ n. recounted b n b.contracts.tally) (omega arith) }
  many-times h is (suc k) room =
      let before = many-times h is k (omega arith) in
      let n = b.today.trades + 2 * k in
      subst (λ m. Recounted b m (called (called (run (again k e f h)) e) f)) (omega arith)
      (subst (λ c. Recounted b (n + 1 + 1) (called (called c e) f)) (sym before.is) (there_and_back n before.tally (omega arith)))
