-- A call on a history and its table: by what the call answered, the table is that of the history with the call.
use Rattle.std.specs.Prelude.{◌≡◌, true, false, ◌||◌, eqb, ℤ, pos, neg_ℤ, length, drop, Result, Ok, Err}
use Rattle.std.proofs.Math.Path.{refl, sym, ap, ap₂}
use Rattle.std.proofs.Common.{◌∙◌, subst, suc-ne-zero, arith, eqb-true, eq-eqb, ne_eqb}
use Rattle.std.proofs.Math.Bool.{cond}
use mathlib.Core.List.{List, [], ◌∷◌, ◌++◌}
use Prim.Native.Nat.{ℕ, zero, suc, ◌+◌, ◌-◌, ◌≤◌}
use Rattle.std.proofs.Math.Numerals.{add-one}
use Rattle.lists.specs.HasLaws.{by_test, clash, when_true, when_false, or_right, or-skip}
use Rattle.lists.specs.Tabulate.{tab, tab-length}
use Rattle.records.specs.Records.{Entry, entry, Parsed, unread, parsed, reading}
use Rattle.records.specs.Reading.{padded, placed, reading_at}
use Rattle.records.specs.ReadingLaws.{padded-at}
use Rattle.records.specs.declared.Malformed.{Malformed}
use Rattle.records.specs.declared.Record.{Record}
use Rattle.memory.specs.Memory.{Holds}
use Rattle.holdings.specs.declared.Totals.{Totals}
use Rattle.model.specs.Book.{Book, new}
use Rattle.model.specs.Calls.{Call, start, enrol, pay_in, pay_out, release, set_special, set_limits, opening, trade, quote, settle, refresh, close, unknown, Trade, call_of}
use Rattle.model.specs.Refusals.{side_totals, refusal}
use Rattle.model.specs.Answers as model
use Rattle.model.specs.History.{run_from, step, run, log, noted, at_trade}
use Rattle.model.proofs.StepLaws.{accepted-by}
use Rattle.model.specs.Ranged.{Ranged}
use Rattle.model.proofs.RangeLaws.{ranges}
use Rattle.model.proofs.OpenDayLaws.{refusing-number}
use Rattle.model.proofs.KeptLaws.{kept_new, known}
use Rattle.standing.specs.Standing.{rows_of, view}
use Rattle.standing.specs.Made.{Sound}
use Rattle.standing.specs.StandingLaws.{view-is, sound-of}
use Rattle.book.specs.declared.calls.Answer.{Answer}
use Rattle.book.specs.declared.calls.Answer.TheVariants.{Refused, NotNext, Done, BothSides, Closed}
use Rattle.book.specs.declared.bytes.Fed.{Fed}
use Rattle.book.specs.Called.{answer_of, Called}
use Rattle.book.specs.CalledLaws.{next-holds}
use Rattle.book.specs.Feeding.{FedBy, FedAt}
use Rattle.trail.specs.declared.Row.{Row}
use Rattle.trail.specs.Rows.{row_at, rows_in}
use Rattle.trail.specs.Tables.{Stored}
use Rattle.trail.specs.TableLaws.{row_more}
use Rattle.particulars.specs.declared.Stood.{Stood}
use Rattle.particulars.specs.Particulars.{standing_of}
use Rattle.desk.specs.Lines.{Closing}
use Rattle.desk.specs.Trails.{is_side, row_of, rows_today, Trailed}
use Rattle.desk.specs.TrailLaws.{rows-room}
use Rattle.desk.specs.Follows.{trade_in, row_with, row_for, Kept, Tabled, Notable, FollowedOn, followed_to, FollowedBy, FollowedAt, Followable}

-- ---- a trade's fields
-- the trade of a call, or another for a call that is none
abbrev trade_or : Trade → Call → Trade
trade_or other c = at_trade c (λ t. t) other

same-trade : (kind : ℕ) (fields x : List ℕ) → trade_or (trade_in fields) (call_of (entry kind fields x)) ≡ trade_in fields
unfolding call_of
same-trade zero f x = refl
same-trade (suc zero) f x = refl
same-trade (suc (suc zero)) f x = refl
same-trade (suc (suc (suc zero))) f x = refl
same-trade (suc (suc (suc (suc zero)))) f x = refl
same-trade (suc (suc (suc (suc (suc zero))))) f x = refl
same-trade (suc (suc (suc (suc (suc (suc zero)))))) f x = refl
same-trade (suc (suc (suc (suc (suc (suc (suc zero))))))) f x = refl
same-trade (suc (suc (suc (suc (suc (suc (suc (suc zero)))))))) f x = refl
same-trade (suc (suc (suc (suc (suc (suc (suc (suc (suc zero))))))))) f x = refl
same-trade (suc (suc (suc (suc (suc (suc (suc (suc (suc (suc zero)))))))))) f x = refl
same-trade (suc (suc (suc (suc (suc (suc (suc (suc (suc (suc (suc zero))))))))))) f x = refl
same-trade (suc (suc (suc (suc (suc (suc (suc (suc (suc (suc (suc (suc zero)))))))))))) f x = refl
same-trade (suc (suc (suc (suc (suc (suc (suc (suc (suc (suc (suc (suc (suc n))))))))))))) f x = refl

trade-is : (e : Entry) {t : Trade} → call_of e ≡ trade t → trade_in e.fields ≡ t
trade-is e q = sym (same-trade e.kind e.fields e.exceptions) ∙ ap (trade_or (trade_in e.fields)) q

-- a row of fields with zeros after them says the same trade
pub padded-trade : (own : List ℕ) → trade_in (padded own) ≡ trade_in own
padded-trade own = let p = padded-at own (13 - length own) in rw (p 0, p 1, p 2, p 3, p 4, p 5)

-- ---- what a call was, by its answer
pub data Was (h : List Entry) (e : Entry) : Answer → Type 0 where
  refusing : {k : ℕ} → refusal (run h) e ≡ suc k → Was h e (Refused (suc k))
  waiting : {k day : ℕ} → refusal (run h) e ≡ suc k → Was h e (NotNext day)
  quiet : refusal (run h) e ≡ 0 → ((n : ℕ) → rows_today n (step (run h) (call_of e) ∷ log h) ≡ rows_today n (log h)) → Was h e Done
  trading : (t : Trade) → refusal (run h) e ≡ 0 → call_of e ≡ trade t
      → Was h e (BothSides (side_totals (run h) t t.buyer) (side_totals (run h) t t.seller))
  closing : (final : ℤ) → refusal (run h) e ≡ 0 → call_of e ≡ close final → Was h e Closed

module _ (h : List Entry) (e : Entry) (v : Book) where
  was-refused : (k : ℕ) → refusal (run h) e ≡ suc k → (a : Answer) → (model.refusal_of (answer_of v a)).number ≡ suc k → Was h e a
  was-refused k r (Refused number) q = subst (λ j. Was h e (Refused j)) (sym q) (refusing r)
  was-refused k r (NotNext day) q = waiting r
  was-refused k r Done q = absurd (suc-ne-zero k (sym q))
  was-refused k r (BothSides x y) q = absurd (suc-ne-zero k (sym q))
  was-refused k r Closed q = absurd (suc-ne-zero k (sym q))

  module _ (r : refusal (run h) e ≡ 0) where
    was-done : ((n : ℕ) → rows_today n (step (run h) (call_of e) ∷ log h) ≡ rows_today n (log h)) → (a : Answer) → answer_of v a ≡ model.done → Was h e a
    was-done same (Refused number) q = let z : ◌≡◌ {A = ℕ} 0 1 = cc in absurd (omega arith)
    was-done same (NotNext day) q = let z : ◌≡◌ {A = ℕ} 0 1 = cc in absurd (omega arith)
    was-done same Done q = quiet r same
    was-done same (BothSides x y) q = let z : ◌≡◌ {A = ℕ} 0 1 = cc in absurd (omega arith)
    was-done same Closed q = let z : ◌≡◌ {A = ℕ} 0 1 = cc in absurd (omega arith)

    was-trade : (t : Trade) → call_of e ≡ trade t → (a : Answer)
        → answer_of v a ≡ model.both_sides (side_totals (run h) t t.buyer) (side_totals (run h) t t.seller) → Was h e a
    was-trade t p (Refused number) q = let z : ◌≡◌ {A = ℕ} 0 1 = cc in absurd (omega arith)
    was-trade t p (NotNext day) q = let z : ◌≡◌ {A = ℕ} 0 1 = cc in absurd (omega arith)
    was-trade t p Done q = let z : ◌≡◌ {A = ℕ} 0 1 = cc in absurd (omega arith)
    was-trade t p (BothSides x y) q =
        let one : side_totals (run h) t t.buyer ≡ x = cc in
        let two : side_totals (run h) t t.seller ≡ y = cc in
        subst (λ z. Was h e (BothSides x z)) two (subst (λ z. Was h e (BothSides z (side_totals (run h) t t.seller))) one (trading t r p))
    was-trade t p Closed q = let z : ◌≡◌ {A = ℕ} 0 1 = cc in absurd (omega arith)

    was-close : (final : ℤ) → call_of e ≡ close final → (a : Answer) (report : model.Report) → answer_of v a ≡ model.report report → Was h e a
    was-close final p (Refused number) report q = let z : ◌≡◌ {A = ℕ} 0 1 = cc in absurd (omega arith)
    was-close final p (NotNext day) report q = let z : ◌≡◌ {A = ℕ} 0 1 = cc in absurd (omega arith)
    was-close final p Done report q = let z : ◌≡◌ {A = ℕ} 0 1 = cc in absurd (omega arith)
    was-close final p (BothSides x y) report q = let z : ◌≡◌ {A = ℕ} 0 1 = cc in absurd (omega arith)
    was-close final p Closed report q = closing final r p

    was-accepted : (c : Call) → call_of e ≡ c → (a : Answer) → answer_of v a ≡ model.accepts (run h) c → Was h e a
    unfolding rows_today
    was-accepted (start s) p a q = was-done (λ n. ap (λ x. rows_today n (step (run h) x ∷ log h)) p) a q
    was-accepted (enrol m l) p a q = was-done (λ n. ap (λ x. rows_today n (step (run h) x ∷ log h)) p) a q
    was-accepted (pay_in m x) p a q = was-done (λ n. ap (λ x. rows_today n (step (run h) x ∷ log h)) p) a q
    was-accepted (pay_out m x) p a q = was-done (λ n. ap (λ x. rows_today n (step (run h) x ∷ log h)) p) a q
    was-accepted (release m x) p a q = was-done (λ n. ap (λ x. rows_today n (step (run h) x ∷ log h)) p) a q
    was-accepted (set_special m x) p a q = was-done (λ n. ap (λ x. rows_today n (step (run h) x ∷ log h)) p) a q
    was-accepted (set_limits m l) p a q = was-done (λ n. ap (λ x. rows_today n (step (run h) x ∷ log h)) p) a q
    was-accepted (opening o) p a q = was-done (λ n. ap (λ x. rows_today n (step (run h) x ∷ log h)) p) a q
    was-accepted (trade t) p a q = was-trade t p a q
    was-accepted (quote x) p a q = was-done (λ n. ap (λ x. rows_today n (step (run h) x ∷ log h)) p) a q
    was-accepted settle p a q = was-done (λ n. ap (λ x. rows_today n (step (run h) x ∷ log h)) p) a q
    was-accepted refresh p a q = was-done (λ n. ap (λ x. rows_today n (step (run h) x ∷ log h)) p) a q
    was-accepted (close final) p a q = was-close final p a _ q
    was-accepted unknown p a q = was-done (λ n. ap (λ x. rows_today n (step (run h) x ∷ log h)) p) a q

  was : (a : Answer) → answer_of v a ≡ model.answer (run h) e → Was h e a
  unfolding model.answer
  was a q = go (refusal (run h) e) refl q
    where
      go : (k : ℕ) → refusal (run h) e ≡ k → answer_of v a ≡ model.answered k (run h) (call_of e) → Was h e a
      go zero r p = was-accepted r (call_of e) refl a p
      go (suc k) r p = was-refused k r a (ap (λ x. (model.refusal_of x).number) p ∙ refusing-number (run h) (suc k))

-- ---- one record more
module _ {n : ℕ} {h : List Entry} {counts : List ℕ} {money : List ℤ} {row_counts : List ℕ} {row_money : List ℤ} {used : ℕ}
    (t : Trailed n h counts money row_counts row_money used) {e : Entry} {a : Answer} {counts' : List ℕ} {money' : List ℤ}
    (d : Called counts money e a counts' money') where
  seen : view counts money ≡ run h
  seen = view-is (known h) t.memory

  holds : Holds counts' money' (rows_of (run (e ∷ h)))
  holds = next-holds kept_new e h t.memory d.memory

  pub follow-answers : answer_of (run (e ∷ h)) a ≡ model.answer (run h) e
  follow-answers =
      ap (λ v. answer_of v a) (sym (view-is (known (e ∷ h)) holds)) ∙ d.answers ∙ ap (λ v. model.answer v e) seen

  it-was : Was h e a
  it-was = was h e (run (e ∷ h)) a follow-answers

  many : used ≡ length (rows_today n (log h))
  many = sym (tab-length (row_at row_counts row_money) used) ∙ ap length t.rows

  pub follow-notable : Notable a (trade_in e.fields) used
  follow-notable = go it-was
    where
      go : {x : Answer} → Was h e x → Notable x (trade_in e.fields) used
      go (refusing r) = tt
      go (waiting r) = tt
      go (quiet r same) = tt
      go (trading deal r p) = (
        omega (arith, many, rows-room n h e r p),
        subst (λ (y : Trade). y.lots ≤ 1000) (sym (trade-is e p)) (subst Ranged p (ranges e (accepted-by (run h) e r).ranges)).most,
      )
      go (closing final r p) = tt

  -- the row of a side
  side-row : (deal : Trade) → is_side n deal ≡ true
      → row_for n deal (side_totals (run h) deal deal.buyer) (side_totals (run h) deal deal.seller) ≡ row_of (run h) n deal
  side-row deal s = by_test (eqb n deal.buyer)
      (λ p. ap (same deal) (when_true _ _ p ∙ ap (side_totals (run h) deal) (sym (eqb-true n deal.buyer p))))
      (λ p. ap (same deal) (when_false _ _ p ∙ ap (side_totals (run h) deal) (sym (eqb-true n deal.seller (or-skip _ _ p s)))))
    where
      same : Trade → Totals → Row
      same x side = record {
        code = x.code;
        time = x.time;
        other = (row_of (run h) n x).other;
        lots = (row_of (run h) n x).lots;
        rate = x.rate;
        before = side.before;
        after = side.after;
        limit = side.limit;
        amount = (row_of (run h) n x).amount;
      }

  module _ (row_counts' : List ℕ) (row_money' : List ℤ) (used' : ℕ) where
    -- rows that were kept
    kept-rows : Kept row_counts row_money used row_counts' row_money' used' → rows_in row_counts' row_money' used' ≡ rows_today n (log h)
    kept-rows k = rw (k.0, k.1.0, k.1.1) t.rows

    rows_next : {x : Answer} → Was h e x → Tabled x n (trade_in e.fields) row_counts row_money used row_counts' row_money' used'
        → rows_in row_counts' row_money' used' ≡ rows_today n (log (e ∷ h))
    unfolding log rows_today tab
    rows_next (refusing r) k = kept-rows k ∙ sym (ap (λ j. rows_today n (noted j (run h) (call_of e) (log h))) r)
    rows_next (waiting r) k = kept-rows k ∙ sym (ap (λ j. rows_today n (noted j (run h) (call_of e) (log h))) r)
    rows_next (quiet r same) k = kept-rows k ∙ sym (ap (λ j. rows_today n (noted j (run h) (call_of e) (log h))) r ∙ same n)
    rows_next (closing final r p) k =
        ap (rows_in row_counts' row_money') k.1.1 ∙ sym (ap₂ (λ j x. rows_today n (noted j (run h) x (log h))) r p)
    rows_next (trading deal r p) k =
        go (subst (λ x. Tabled (BothSides (side_totals (run h) deal deal.buyer) (side_totals (run h) deal deal.seller)) n x row_counts row_money used row_counts' row_money' used') (trade-is e p) k)
        ∙ sym (ap₂ (λ j x. rows_today n (noted j (run h) x (log h))) r p)
      where
        go : Tabled (BothSides (side_totals (run h) deal deal.buyer) (side_totals (run h) deal deal.seller)) n deal row_counts row_money used row_counts' row_money' used'
            → rows_in row_counts' row_money' used' ≡ cond (is_side n deal) (rows_today n (log h) ++ (row_of (run h) n deal ∷ [])) (rows_today n (log h))
        go f = by_test (is_side n deal)
            (λ s. let g = f.0 s in
            ap (rows_in row_counts' row_money') (g.1 ∙ add-one used) ∙ row_more g.0
            ∙ ap₂ (λ (rows : List Row) (r : Row). rows ++ (r ∷ [])) t.rows (side-row deal s)
            ∙ sym (when_true _ _ s))
            (λ s. kept-rows (f.1 s) ∙ sym (when_false _ _ s))

    long-next : {x : Answer} → Was h e x → Tabled x n (trade_in e.fields) row_counts row_money used row_counts' row_money' used'
        → (length row_counts' ≡ 30000) × (length row_money' ≡ 60000)
    long-next (refusing r) k = (ap length k.0 ∙ t.counts-long, ap length k.1.0 ∙ t.money-long)
    long-next (waiting r) k = (ap length k.0 ∙ t.counts-long, ap length k.1.0 ∙ t.money-long)
    long-next (quiet r same) k = (ap length k.0 ∙ t.counts-long, ap length k.1.0 ∙ t.money-long)
    long-next (closing final r p) k = (ap length k.0 ∙ t.counts-long, ap length k.1.0 ∙ t.money-long)
    long-next (trading deal r p) k = by_test (is_side n (trade_in e.fields))
        (λ s. let g = k.0 s in (g.0.counts-long ∙ t.counts-long, g.0.money-long ∙ t.money-long))
        (λ s. let g = k.1 s in (ap length g.0 ∙ t.counts-long, ap length g.1.0 ∙ t.money-long))

    pub follow-trailed : Tabled a n (trade_in e.fields) row_counts row_money used row_counts' row_money' used'
        → Trailed n (e ∷ h) counts' money' row_counts' row_money' used'
    follow-trailed k = record {
      memory = holds;
      rows = rows_next it-was k;
      counts-long = (long-next it-was k).0;
      money-long = (long-next it-was k).1;
    }

-- ---- a row, part by part
pub row-parts : (x : Row) {lots rate before after limit : ℤ}
    → lots ≡ x.lots → rate ≡ x.rate → before ≡ x.before → after ≡ x.after → limit ≡ x.limit
    → record {
      code = x.code;
      time = x.time;
      other = x.other;
      lots = lots;
      rate = rate;
      before = before;
      after = after;
      limit = limit;
      amount = x.amount;
    } ≡ x
row-parts x p q r s t = rw (p, q, r, s, t)

-- ---- a trade by its sides
module _ (n : ℕ) (t : Trade) (buyer seller : Totals) where
  module _ {used : ℕ} {row_counts row_counts' : List ℕ} {row_money row_money' : List ℤ} {row : Row} where
    pub bought-tabled : n ≡ t.buyer → row ≡ row_with t t.seller (pos t.lots) buyer → Stored row_counts row_money used row row_counts' row_money'
        → Tabled (BothSides buyer seller) n t row_counts row_money used row_counts' row_money' (used + 1)
    bought-tabled p q d =
        let e = eq-eqb n t.buyer p in (
          (λ s. (subst (λ x. Stored row_counts row_money used x row_counts' row_money') (q ∙ its-row e) d, refl)),
          (λ s. clash (ap (λ x. x || eqb n t.seller) e) s),
        )
      where
        its-row : eqb n t.buyer ≡ true → row_with t t.seller (pos t.lots) buyer ≡ row_for n t buyer seller
        its-row e = rw e

    pub sold-tabled : (n ≡ t.buyer → ⊥) → n ≡ t.seller → row ≡ row_with t t.buyer (neg_ℤ (pos t.lots)) seller
        → Stored row_counts row_money used row row_counts' row_money'
        → Tabled (BothSides buyer seller) n t row_counts row_money used row_counts' row_money' (used + 1)
    sold-tabled np p q d =
        let e = ne_eqb n t.buyer np in (
          (λ s. (subst (λ x. Stored row_counts row_money used x row_counts' row_money') (q ∙ its-row e) d, refl)),
          (λ s. clash (or_right (eqb n t.buyer) (eqb n t.seller) (eq-eqb n t.seller p)) s),
        )
      where
        its-row : eqb n t.buyer ≡ false → row_with t t.buyer (neg_ℤ (pos t.lots)) seller ≡ row_for n t buyer seller
        its-row e = rw e

  pub other-tabled : (row_counts : List ℕ) (row_money : List ℤ) (used : ℕ) → (n ≡ t.buyer → ⊥) → (n ≡ t.seller → ⊥)
      → Tabled (BothSides buyer seller) n t row_counts row_money used row_counts row_money used
  other-tabled row_counts row_money used np nq = (
    (λ s. clash s (ap₂ ◌||◌ (ne_eqb n t.buyer np) (ne_eqb n t.seller nq))),
    (λ s. (refl, (refl, refl))),
  )

-- ---- the record at a place, which was fed
module _ {bytes : List ℕ} {at : ℕ} {counts counts' : List ℕ} {money money' : List ℤ} {r : Result Fed Malformed} (f : FedAt bytes at counts money r counts' money') where
  -- what is read there has the record's fields
  read-trade : {read : Record} → Ok read ≡ reading_at bytes at → (e : Entry) (rest : List ℕ) → reading (drop at bytes) ≡ parsed e rest
      → trade_in read.fields ≡ trade_in e.fields
  read-trade {read} s e rest i =
      let found : Ok read ≡ placed bytes at (parsed e rest) = s ∙ ap (placed bytes at) i in
      let fields : read.fields ≡ padded e.fields = cc in
      ap trade_in fields ∙ padded-trade e.fields

  pub fed-notable : {fed : Fed} → r ≡ Ok fed → {read : Record} → Ok read ≡ reading_at bytes at
      → {n : ℕ} {h : List Entry} {row_counts : List ℕ} {row_money : List ℤ} {used : ℕ} → Trailed n h counts money row_counts row_money used
      → Notable fed.answer (trade_in read.fields) used
  fed-notable {fed} q {read} s {used = used} t = go (reading (drop at bytes)) refl f.outcome
    where
      go : (p : Parsed) → reading (drop at bytes) ≡ p → FedBy p bytes at counts money r counts' money' → Notable fed.answer (trade_in read.fields) used
      go unread i (w, k) = let z : ◌≡◌ {A = ℕ} 0 1 = cc in absurd (omega arith)
      go (parsed e rest) i (b, (w, d)) =
          let same : b ≡ fed.answer = cc in
          subst (λ x. Notable fed.answer x used) (sym (read-trade s e rest i))
          (follow-notable t (subst (λ x. Called counts money e x counts' money') same d))

  pub fed-followed : {fed : Fed} → r ≡ Ok fed → {read : Record} → Ok read ≡ reading_at bytes at
      → {n : ℕ} {row_counts : List ℕ} {row_money : List ℤ} {used : ℕ} {row_counts' : List ℕ} {row_money' : List ℤ} {used' : ℕ}
      → Tabled fed.answer n (trade_in read.fields) row_counts row_money used row_counts' row_money' used'
      → FollowedAt n bytes at counts money row_counts row_money used (followed_to fed.next used' fed.answer) counts' money' row_counts' row_money'
  fed-followed {fed} q {read} s {n} {row_counts} {row_money} {used} {row_counts'} {row_money'} {used'} k =
      record { outcome = go (reading (drop at bytes)) refl f.outcome }
    where
      on : (e : Entry) → Called counts money e fed.answer counts' money' → Tabled fed.answer n (trade_in e.fields) row_counts row_money used row_counts' row_money' used'
          → FollowedOn n e fed.answer counts money row_counts row_money used counts' money' row_counts' row_money' used'
      on e d l = record {
        called = d;
        tabled = l;
        answers = λ h t. follow-answers t d;
        trailed = λ h t. follow-trailed t d row_counts' row_money' used' l;
      }

      go : (p : Parsed) → reading (drop at bytes) ≡ p → FedBy p bytes at counts money r counts' money'
          → FollowedBy p n bytes at counts money row_counts row_money used (followed_to fed.next used' fed.answer) counts' money' row_counts' row_money'
      go unread i (w, l) = let z : ◌≡◌ {A = ℕ} 0 1 = cc in absurd (omega arith)
      go (parsed e rest) i (b, (w, d)) =
          let same : b ≡ fed.answer = cc in
          let there : fed.next ≡ length bytes - length rest = cc in (
            fed.answer,
            (
              used',
              (
                ap (λ j. followed_to j used' fed.answer) there,
                on e
                    (subst (λ x. Called counts money e x counts' money') same d)
                    (subst (λ x. Tabled fed.answer n x row_counts row_money used row_counts' row_money' used') (read-trade s e rest i) k),
              ),
            ),
          )

  pub fed-unread : {bad : Malformed} → r ≡ Err bad → {n : ℕ} {row_counts : List ℕ} {row_money : List ℤ} {used : ℕ}
      → FollowedAt n bytes at counts money row_counts row_money used (Err bad) counts' money' row_counts row_money
  fed-unread {bad} q {n} {row_counts} {row_money} {used} = record { outcome = go (reading (drop at bytes)) f.outcome }
    where
      go : (p : Parsed) → FedBy p bytes at counts money r counts' money'
          → FollowedBy p n bytes at counts money row_counts row_money used (Err bad) counts' money' row_counts row_money
      go unread (w, (c, m)) = let here : bad.at ≡ at = cc in (ap (λ j. Err (record { at = j })) here, (c, (m, (refl, refl))))
      go (parsed e rest) (b, (w, d)) = let z : ◌≡◌ {A = ℕ} 0 1 = cc in absurd (omega arith)

-- what is not read there is not called either
pub unread-followed : {bytes : List ℕ} {at : ℕ} {bad : Malformed} → Err bad ≡ reading_at bytes at
    → {n : ℕ} {counts : List ℕ} {money : List ℤ} {row_counts : List ℕ} {row_money : List ℤ} {used : ℕ}
    → FollowedAt n bytes at counts money row_counts row_money used (Err bad) counts money row_counts row_money
unread-followed {bytes} {at} {bad} e {n} {counts} {money} {row_counts} {row_money} {used} = record { outcome = go (reading (drop at bytes)) e }
  where
    go : (p : Parsed) → Err bad ≡ placed bytes at p
        → FollowedBy p n bytes at counts money row_counts row_money used (Err bad) counts money row_counts row_money
    go unread q = let here : bad.at ≡ at = cc in (ap (λ j. Err (record { at = j })) here, (refl, (refl, (refl, refl))))
    go (parsed e rest) q = let z : ◌≡◌ {A = ℕ} 0 1 = cc in absurd (omega arith)

-- ---- a memory and a table of some history can be called and read
pub followable-sound : {n : ℕ} {counts : List ℕ} {money : List ℤ} {row_counts : List ℕ} {row_money : List ℤ} {used : ℕ}
    → Followable n counts money row_counts row_money used → Sound counts money
followable-sound f = sound-of (known f.history) f.trailed.memory

-- ---- where a desk begins: a new book and an empty table
pub trail-begins : (n : ℕ) {counts : List ℕ} {money : List ℤ} {row_counts : List ℕ} {row_money : List ℤ} → Holds counts money (rows_of new)
    → length row_counts ≡ 30000 → length row_money ≡ 60000 → Trailed n [] counts money row_counts row_money 0
unfolding run_from log rows_today tab
trail-begins n m p q = record { memory = m; rows = refl; counts-long = p; money-long = q }

-- ---- after an accepted close its lines can be asked for, of the rows that the table had before it
pub closed-next : {n : ℕ} {h : List Entry} {counts : List ℕ} {money : List ℤ} {row_counts : List ℕ} {row_money : List ℤ} {used : ℕ}
    → Trailed n h counts money row_counts row_money used → {e : Entry} {counts' : List ℕ} {money' : List ℤ} {row_counts' : List ℕ} {row_money' : List ℤ} {used' : ℕ}
    → FollowedOn n e Closed counts money row_counts row_money used counts' money' row_counts' row_money' used' → {s : List Stood}
    → s ≡ standing_of (view counts money) n → Closing counts' money' row_counts' row_money' used s
closed-next {n} {h} {used = used} t {e} {counts'} {money'} {row_counts'} {row_money'} f {s} q = go refl (it-was t f.called)
  where
    go : {a : Answer} → a ≡ Closed → Was h e a → Closing counts' money' row_counts' row_money' used s
    go w (refusing r) = let z : ◌≡◌ {A = ℕ} 0 1 = cc in absurd (omega arith)
    go w (waiting r) = let z : ◌≡◌ {A = ℕ} 0 1 = cc in absurd (omega arith)
    go w (quiet r same) = let z : ◌≡◌ {A = ℕ} 0 1 = cc in absurd (omega arith)
    go w (trading deal r p) = let z : ◌≡◌ {A = ℕ} 0 1 = cc in absurd (omega arith)
    go w (closing final r p) = record {
      account = n;
      history = h;
      entry = e;
      final = final;
      just = record {
        accepted = r;
        closes = p;
        memory = (f.trailed h t).memory;
        rows = ap₂ (λ c m. rows_in c m used) f.tabled.0 f.tabled.1.0 ∙ t.rows;
        before = q ∙ ap (λ v. standing_of v n) (seen t f.called);
        counts-long = (f.trailed h t).counts-long;
        money-long = (f.trailed h t).money-long;
      };
    }
