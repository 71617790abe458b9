-- What the closes booked to an account in a contract is what its trades of closed days earn, trade by trade, at the latest settlement rate;
-- and a position is that of the trades.
use Rattle.std.specs.Prelude.{◌≡◌, Bool, true, false, not, cond, ◌&&◌, ◌||◌, List, [], ◌∷◌, ◌++◌, map, ℕ, eqb, ℤ, pos, neg_ℤ, ◌+ℤ◌, ◌-ℤ◌, ◌*ℤ◌}
use Rattle.std.proofs.Math.Path.{refl, ap}
use Rattle.std.proofs.Common.{sym, ◌∙◌, ap₂, subst, append-nil, append_assoc}
use Rattle.std.proofs.lemmas.Bool.{not-true}
use Rattle.std.proofs.Math.IntN.{*ℤ_comm, *ℤ-zero, zero-*ℤ, +ℤ_idl, +ℤ_idr}
use Rattle.lists.specs.Has.{has}
use Rattle.lists.specs.HasLaws.{by_test, clash, when_true, when_false, cond_same, has-apart, those-has, those-lacks}
use Rattle.lists.specs.Those.{those, those-made, those-append}
use Rattle.lists.specs.Rows.{map-append}
use Rattle.whole.specs.Parts.{parts₂, parts₄, ring, zarith}
use Rattle.whole.specs.Expand.{expand}
use Rattle.whole.specs.Sums.{sum_z}
use Rattle.whole.specs.Over.{sum_over}
use Rattle.records.specs.Records.{Entry}
use Rattle.positions.specs.Deals.{Deal, bought, sold, lots_of, cost_of, position_of, overnight, flat, dealt}
use Rattle.positions.specs.DealLaws.{lots-append, cost-append, position-none, position-dealt}
use Rattle.booking.specs.Carried.{carried}
use Rattle.booking.specs.Variation.{earned, variation_at}
use Rattle.booking.specs.VariationLaws.{earned-kept, variation-flat}
use Rattle.positions.specs.declared.Position.{Position}
use Rattle.positions.specs.declared.Mark.{Mark}
use Rattle.model.specs.Book.{Book, no_terms, new, is_listed, working}
use Rattle.model.specs.Calls.{Call, start, enrol, pay_in, pay_out, release, set_special, set_limits, opening, trade, quote, settle, refresh, close, unknown, call_of}
use Rattle.model.specs.Effects.{terms_after, codes_on, codes_left, is_ending, mark_of, after}
use Rattle.model.specs.Refusals.{tests}
use Rattle.model.specs.History.{Step, step, run, log, at_trade, at_close, Dated, dated, trades, closed_trades, todays_trades, is_side_in, own_trades, deal_for, deals_of, booked, latest}
use Rattle.model.specs.Promises.{worth_at}
use Rattle.model.specs.Kept.{Listed}
use Rattle.model.proofs.StepLaws.{Passed, needed, induct}
use Rattle.model.proofs.FrameLaws.{dealt-none}
use Rattle.model.proofs.ListedLaws.{listed-after, has_passed, listed-runs, open-keeps, not-passed, ending-passes}
use Rattle.model.proofs.KeptLaws.{known}

-- ---- trades are those of closed days and today's
trades-split : (l : List Step) → trades l ≡ closed_trades l ++ todays_trades l
unfolding trades closed_trades todays_trades
trades-split [] = refl
trades-split (s ∷ l) = go s.call (trades-split l)
  where
    go : (x : Call) → trades l ≡ closed_trades l ++ todays_trades l
        → at_trade x (λ t. trades l ++ (dated s t ∷ [])) (trades l)
        ≡ at_close x (λ final. trades l) (closed_trades l)
        ++ at_close x (λ final. []) (at_trade x (λ t. todays_trades l ++ (dated s t ∷ [])) (todays_trades l))
    go (start k) i = i
    go (enrol n k) i = i
    go (pay_in n k) i = i
    go (pay_out n k) i = i
    go (release n k) i = i
    go (set_special n k) i = i
    go (set_limits n k) i = i
    go (opening o) i = i
    go (trade t) i = ap (λ ds. ds ++ (dated s t ∷ [])) i ∙ append_assoc (closed_trades l) (todays_trades l) (dated s t ∷ [])
    go (quote q) i = i
    go settle i = i
    go refresh i = i
    go (close final) i = sym (append-nil (trades l))
    go unknown i = i

module _ (n c : ℕ) where
  deals-append : (a b : List Dated) → deals_of n c (a ++ b) ≡ deals_of n c a ++ deals_of n c b
  deals-append a b =
      rw (those-append (λ d. is_side_in n c d.deal) a b)
      (map-append (λ (d : Dated). deal_for n d.deal) (own_trades n c a) (own_trades n c b))

  deals-more : (a : List Dated) (d : Dated)
      → deals_of n c (a ++ (d ∷ [])) ≡ cond (is_side_in n c d.deal) (deals_of n c a ++ (deal_for n d.deal ∷ [])) (deals_of n c a)
  deals-more a d = those-made (λ x. is_side_in n c x.deal) (λ x. deal_for n x.deal) a d

-- ---- what deals earn at a rate
-- 250 times the sum over deals is the sum of 250 times each
pub worth-sum : (rate : ℤ) (deals : List Deal) → sum_over (worth_at rate) deals ≡ pos 250 *ℤ sum_z (map (earned rate) deals)
unfolding sum_z
worth-sum rate [] = refl
worth-sum rate (d ∷ deals) =
    ap (λ z. worth_at rate d +ℤ z) (worth-sum rate deals) ∙ out d.lots (rate -ℤ d.rate) (sum_z (map (earned rate) deals))
  where
    out : (l e s : ℤ) → l *ℤ (pos 250 *ℤ e) +ℤ pos 250 *ℤ s ≡ pos 250 *ℤ (l *ℤ e +ℤ s)
    out l e s = simp expand

-- from their lots and their cost
worth-is : (r : ℤ) (ds : List Deal) → sum_over (worth_at r) ds ≡ pos 250 *ℤ (r *ℤ lots_of ds -ℤ cost_of ds)
worth-is r ds = worth-sum r ds ∙ ap (λ z. pos 250 *ℤ z) (earned-kept r ds ∙ ap (λ z. z -ℤ cost_of ds) (*ℤ_comm (lots_of ds) r))

-- ---- one account in one contract: what was booked, the latest rate, its deals of closed days and of today, its position, the previous
-- rate, whether the code is listed and whether its last trading day is closed
pub record CellKept (bk lat : ℤ) (done today : List Deal) (p : Position) (previous : ℤ) (on passed : Bool) : Type 0 where
  pub booking : bk ≡ sum_over (worth_at lat) done
  pub position : p ≡ position_of p.before today
  pub before : on ≡ true → p.before ≡ lots_of done
  pub value : on ≡ true → lots_of done *ℤ previous ≡ lat *ℤ lots_of done
  pub gone : on ≡ false → p ≡ flat
  pub fresh : on ≡ false → passed ≡ false → lots_of done ≡ pos 0

-- a trade in the contract or in another, bought, sold or made by others
module _ (lots : ℕ) (rate : ℤ) where
  abbrev deals_after : Bool → Bool → Bool → List Deal → List Deal
  deals_after here buys sells today = cond (here && (buys || sells)) (today ++ (cond buys (bought lots rate) (sold lots rate) ∷ [])) today

  abbrev position_after : Bool → Bool → Bool → Position → Position
  position_after here buys sells p = cond here (dealt p (cond buys (pos lots) (cond sells (neg_ℤ (pos lots)) (pos 0))) rate) p

  module _ (p : Position) where
    same-before : (here buys sells : Bool) → (position_after here buys sells p).before ≡ p.before
    same-before true buys sells = refl
    same-before false buys sells = refl

    position-more : (today : List Deal) (here buys sells : Bool) → p ≡ position_of p.before today
        → position_after here buys sells p ≡ position_of (position_after here buys sells p).before (deals_after here buys sells today)
    position-more today true true sells e =
        ap (λ x. dealt x (pos lots) rate) e ∙ sym (position-dealt p.before today (bought lots rate))
    position-more today true false true e =
        ap (λ x. dealt x (neg_ℤ (pos lots)) rate) e ∙ sym (position-dealt p.before today (sold lots rate))
    position-more today true false false e = dealt-none p rate ∙ e
    position-more today false buys sells e = e

-- a position that is flat has no lots and no cost of today
flat-today : (p : Position) (today : List Deal) → p ≡ position_of p.before today → p ≡ flat
    → (lots_of today ≡ pos 0) × (cost_of today ≡ pos 0)
flat-today p today e f =
    let b : position_of p.before today ≡ flat = sym e ∙ f in
    (sym (+ℤ_idl (lots_of today)) ∙ ap (λ x. x +ℤ lots_of today) (sym (ap (λ x. x.before) f)) ∙ ap (λ x. x.net) b, ap (λ x. x.cost) b)

module _ {bk lat : ℤ} {done today : List Deal} {p : Position} {previous : ℤ} {on passed : Bool}
    (i : CellKept bk lat done today p previous on passed) where
  kept-later : (passed' : Bool) → (passed' ≡ false → passed ≡ false) → CellKept bk lat done today p previous on passed'
  kept-later passed' later = record {
    booking = i.booking;
    position = i.position;
    before = i.before;
    value = i.value;
    gone = i.gone;
    fresh = λ e d. i.fresh e (later d);
  }

  kept-trade : (lots : ℕ) (rate : ℤ) (here buys sells : Bool) → (on ≡ false → here ≡ false)
      → CellKept bk lat done (deals_after lots rate here buys sells today) (position_after lots rate here buys sells p) previous on passed
  kept-trade lots rate here buys sells off = record {
    booking = i.booking;
    position = position-more lots rate p today here buys sells i.position;
    before = λ e. same-before lots rate p here buys sells ∙ i.before e;
    value = i.value;
    gone = λ e. when_false _ p (off e) ∙ i.gone e;
    fresh = i.fresh;
  }

  kept-open : (previous' : ℤ) (on' passed' : Bool) → (on ≡ true → on' ≡ true) → (on ≡ true → previous' ≡ previous)
      → (on' ≡ true → passed ≡ false) → (passed' ≡ false → passed ≡ false)
      → CellKept bk lat done today (cond on' p flat) previous' on' passed'
  kept-open previous' on' passed' stays keeps runs later = subst (λ x. CellKept bk lat done today x previous' on' passed') (sym same) record {
    booking = i.booking;
    position = i.position;
    before = λ e. by_test on i.before (λ d. ap (λ x. x.before) (i.gone d) ∙ sym (i.fresh d (runs e)));
    value = λ e. by_test on
        (λ d. ap (λ x. lots_of done *ℤ x) (keeps d) ∙ i.value d)
        (λ d. let z = i.fresh d (runs e) in ap (λ x. x *ℤ previous') z ∙ zero-*ℤ previous' ∙ sym (ap (λ x. lat *ℤ x) z ∙ *ℤ-zero lat));
    gone = λ e. i.gone (off e);
    fresh = λ e d. i.fresh (off e) (later d);
  }
    where
      same : cond on' p flat ≡ p
      same = by_test on (λ d. when_true p flat (stays d)) (λ d. cond_same on' (i.gone d) ∙ sym (i.gone d))

      off : on' ≡ false → on ≡ false
      off e = by_test on (λ d. clash (stays d) e) (λ d. d)

-- a close at the mark m, of which on' is left listed
kept-close : {bk lat : ℤ} {done today : List Deal} {p : Position} {m : Mark} {on passed : Bool}
    → CellKept bk lat done today p m.previous on passed
    → (previous' : ℤ) (on' passed' : Bool) → (on' ≡ true → (on ≡ true) × (m.ending ≡ false) × (previous' ≡ m.rate))
    → (on' ≡ false → on ≡ true → m.ending ≡ true) → (m.ending ≡ true → passed' ≡ true) → (passed' ≡ false → passed ≡ false)
    → CellKept (bk +ℤ variation_at p m) (cond on m.rate lat) (done ++ today) [] (carried p m) previous' on' passed'
unfolding variation_at
kept-close {bk} {lat} {done} {today} {p} {m} {on} {passed} i previous' on' passed' left ends passes later = record {
  booking = by_test on booked-on booked-off;
  position = none m.ending;
  before = λ e. let f = left e in
      ap (λ x. x.before) (when_false flat (overnight p.net) f.1)
      ∙ ap (λ x. x.net) i.position
      ∙ ap (λ x. x +ℤ lots_of today) (i.before f.0)
      ∙ sym (lots-append done today);
  value = λ e. let f = left e in
      ap (λ x. lots_of (done ++ today) *ℤ x) f.2
      ∙ *ℤ_comm (lots_of (done ++ today)) m.rate
      ∙ ap (λ x. x *ℤ lots_of (done ++ today)) (sym (when_true m.rate lat f.0));
  gone = λ e. by_test on
      (λ d. when_true flat (overnight p.net) (ends e d))
      (λ d. let z = ap (λ x. overnight x.net) (i.gone d) in cond_same m.ending (sym z) ∙ z);
  fresh = λ e d. by_test on
      (λ f. clash (passes (ends e f)) d)
      (λ f. lots-append done today ∙ ap₂ ◌+ℤ◌ (i.fresh f (later d)) (flat-today p today i.position (i.gone f)).0);
}
  where
    none : (t : Bool) → cond t flat (overnight p.net) ≡ position_of (cond t flat (overnight p.net)).before []
    none true = sym (position-none (pos 0))
    none false = sym (position-none p.net)

    sums : (s l k r v c : ℤ)
        → pos 250 *ℤ (s *ℤ v -ℤ c) +ℤ pos 250 *ℤ (((s +ℤ l -ℤ s) *ℤ r -ℤ k) +ℤ s *ℤ (r -ℤ v)) ≡ pos 250 *ℤ (r *ℤ (s +ℤ l) -ℤ (c +ℤ k))
    sums s l k r v c = parts₄ s l k r (λ x y z u. parts₂ v c (λ a b. simp (x.is, y.is, z.is, u.is, a.is, b.is, ring) (omega zarith)))

    both : (r : ℤ) → sum_over (worth_at r) (done ++ today) ≡ pos 250 *ℤ (r *ℤ (lots_of done +ℤ lots_of today) -ℤ (cost_of done +ℤ cost_of today))
    both r = worth-is r (done ++ today) ∙ ap₂ (λ a b. pos 250 *ℤ (r *ℤ a -ℤ b)) (lots-append done today) (cost-append done today)

    booked-on : on ≡ true → bk +ℤ variation_at p m ≡ sum_over (worth_at (cond on m.rate lat)) (done ++ today)
    booked-on e =
        ap₂ ◌+ℤ◌ (i.booking ∙ worth-is lat done ∙ ap (λ x. pos 250 *ℤ (x -ℤ cost_of done)) (sym (i.value e)))
        (ap (λ x. variation_at x m) (i.position ∙ ap (λ x. position_of x today) (i.before e)))
        ∙ sums (lots_of done) (lots_of today) (cost_of today) m.rate m.previous (cost_of done)
        ∙ sym (both m.rate)
        ∙ ap (λ x. sum_over (worth_at x) (done ++ today)) (sym (when_true m.rate lat e))

    booked-off : on ≡ false → bk +ℤ variation_at p m ≡ sum_over (worth_at (cond on m.rate lat)) (done ++ today)
    booked-off e =
        let z = flat-today p today i.position (i.gone e) in
        ap (λ x. bk +ℤ x) (ap (λ x. variation_at x m) (i.gone e) ∙ variation-flat m)
        ∙ +ℤ_idr bk
        ∙ i.booking
        ∙ worth-is lat done
        ∙ ap₂ (λ a b. pos 250 *ℤ (lat *ℤ a -ℤ b))
        (sym (ap (λ x. lots_of done +ℤ x) z.0 ∙ +ℤ_idr (lots_of done)))
        (sym (ap (λ x. cost_of done +ℤ x) z.1 ∙ +ℤ_idr (cost_of done)))
        ∙ sym (both lat)
        ∙ ap (λ x. sum_over (worth_at x) (done ++ today)) (sym (when_false m.rate lat e))

-- ---- after every list of calls
abbrev pub Cell : ℕ → ℕ → Book → List Step → Type 0
Cell n c b l =
    CellKept (booked n c l) (latest c l) (deals_of n c (closed_trades l)) (deals_of n c (todays_trades l))
    (b.accounts.position n c) (b.contracts.terms c).previous (is_listed b c) (has_passed b c)

module _ (n c : ℕ) where
  begins : Cell n c new []
  unfolding new booked latest closed_trades todays_trades those sum_z lots_of cost_of
  begins = record { booking = refl; position = refl; before = λ e. refl; value = λ e. refl; gone = λ e. refl; fresh = λ e d. refl }

  -- what a close leaves listed
  left-listed : (b : Book) → has c (codes_left b) ≡ true → (is_listed b c ≡ true) × (is_ending b c ≡ false)
  left-listed b h = let f = those-has _ c b.contracts.codes h in (f.0, not-true _ f.1)

  left-ends : (b : Book) → has c (codes_left b) ≡ false → is_listed b c ≡ true → is_ending b c ≡ true
  left-ends b h d = by_test (is_ending b c) (λ e. e) (λ e. clash d (those-lacks _ c b.contracts.codes h (ap not e)))

  more : (b : Book) (l : List Step) (x : Call) → Passed (tests b x) → Listed b → Cell n c b l → Cell n c (after b x) (step b x ∷ l)
  unfolding after booked latest closed_trades todays_trades those
  more b l (start s) p f i = kept-later i _ (not-passed b (start s) p c)
  more b l (enrol m x) p f i = i
  more b l (pay_in m x) p f i = i
  more b l (pay_out m x) p f i = i
  more b l (release m x) p f i = i
  more b l (set_special m x) p f i = i
  more b l (set_limits m x) p f i = i
  more b l (opening o) p f i =
      kept-open i (terms_after b (codes_on b o.day) o c).previous (has c (codes_on b o.day)) (has_passed (after b (opening o)) c)
      (open-keeps b o p f c)
      (λ e. rw (open-keeps b o p f c e, e))
      (λ e. not-passed b (opening o) p c (listed-runs (after b (opening o)) (listed-after b (opening o) p f) c e))
      (not-passed b (opening o) p c)
  more b l (trade t) p f i =
      rw (deals-more n c (todays_trades l) (dated (step b (trade t)) t))
      (kept-trade i t.lots t.rate (eqb c t.code) (eqb n t.buyer) (eqb n t.seller)
      (λ e. has-apart c t.code b.contracts.codes e (needed 8 tt p.1.0)))
  more b l (quote q) p f i = i
  more b l settle p f i = kept-later i _ (not-passed b settle p c)
  more b l refresh p f i = i
  more b l (close final) p f i =
      rw (trades-split l, deals-append n c (closed_trades l) (todays_trades l))
      (kept-close {m = mark_of b final c} i _ (has c (codes_left b)) (has_passed (after b (close final)) c)
      (λ e. let g = left-listed b e in (g.0, g.1, ap (λ x. x.previous) (when_true _ no_terms e)))
      (left-ends b)
      (ending-passes (working b) b.today.day c)
      (not-passed b (close final) p c))
  more b l unknown p f i = i

  pub cell : (h : List Entry) → Cell n c (run h) (log h)
  cell = induct (Cell n c) begins (λ h e a i. more (run h) (log h) (call_of e) a.passed (known h).listed i)

-- ---- the theorem, and what else is read off
pub trade-by-trade : (h : List Entry) (n c : ℕ)
    → booked n c (log h) ≡ sum_over (worth_at (latest c (log h))) (deals_of n c (closed_trades (log h)))
trade-by-trade h n c = (cell n c h).booking

-- a position is that of the net before and today's deals
pub position-is : (h : List Entry) (n c : ℕ)
    → (run h).accounts.position n c ≡ position_of ((run h).accounts.position n c).before (deals_of n c (todays_trades (log h)))
position-is h n c = (cell n c h).position

-- and the net before is that of the deals of closed days
pub before-is : (h : List Entry) (n c : ℕ) → is_listed (run h) c ≡ true
    → ((run h).accounts.position n c).before ≡ lots_of (deals_of n c (closed_trades (log h)))
before-is h n c e = (cell n c h).before e

-- so that a net is that of all accepted deals while its code is listed
pub net-is : (h : List Entry) (n c : ℕ)
    → ((run h).accounts.position n c).net ≡ cond (is_listed (run h) c) (lots_of (deals_of n c (trades (log h)))) (pos 0)
net-is h n c = by_test (is_listed (run h) c)
    (λ e.
    ap (λ p. p.net) (position-is h n c)
    ∙ ap (λ b. b +ℤ lots_of (deals_of n c (todays_trades (log h)))) (before-is h n c e)
    ∙ sym (lots-append (deals_of n c (closed_trades (log h))) (deals_of n c (todays_trades (log h))))
    ∙ ap lots_of (sym (deals-append n c (closed_trades (log h)) (todays_trades (log h))) ∙ ap (deals_of n c) (sym (trades-split (log h))))
    ∙ sym (when_true _ (pos 0) e))
    (λ e. ap (λ p. p.net) ((cell n c h).gone e) ∙ sym (when_false _ (pos 0) e))
