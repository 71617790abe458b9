-- A book's numbers stay sized, whatever is called.
use Rattle.std.specs.Prelude.{◌≡◌, refl, true, false, List, [], ◌∷◌, ℕ, ◌+◌, ◌≤◌, ◌<◌, eqb, ℤ, pos, length}
use Rattle.std.proofs.Common.{sym, ap, zero-le, le_refl, arith, length-append}
use Rattle.std.proofs.Math.Bool.{not, and-eq-true_iff}
use borrow.Author.Tests.{ltb-true, not-true}
use Rattle.lists.specs.Has.{has, Distinct}
use Rattle.lists.specs.HasLaws.{by_test, clash, or-skip}
use Rattle.lists.specs.Keep.{cond-keeps}
use Rattle.whole.specs.Within.{Within, wider, lit}
use Rattle.whole.specs.Sizes.{sizes}
use Rattle.days.specs.Days.{rising}
use Rattle.tallies.specs.Day.{in_last_hour}
use Rattle.tallies.specs.Tally.{side_in}
use Rattle.positions.specs.Deals.{flat, overnight}
use Rattle.positions.specs.Bounds.{costs, day_most}
use Rattle.positions.specs.Beyond.{is_beyond}
use Rattle.positions.specs.declared.Position.{Position}
use Rattle.holdings.specs.declared.Limits.{Limits}
use Rattle.holdings.specs.Bounds.{Granted}
use Rattle.funds.specs.Bounds.{Sound, Billed}
use Rattle.funds.specs.BoundLaws.{new-sound, new-billed, paid-in-sound, paid-out-sound, released-sound, paid-in-billed, paid-out-billed}
use Rattle.funds.specs.declared.Funds.{Funds}
use Rattle.accounts.specs.BoundLaws.{closed-billed}
use Rattle.model.specs.Book.{Book, Settings, Point, Held, new, is_member, positions_of, account_of, replaced}
use Rattle.model.specs.Calls.{Call, start, enrol, pay_in, pay_out, release, set_special, set_limits, opening, trade, quote, settle, refresh, close, unknown, Trade, Quote, Opening}
use Rattle.model.specs.Effects.{with_held, started, enrolled, paid, codes_on, opened, traded, quoted, settled_up, is_ending, day_end_of, closed_at, codes_left, terms_left, closed_day, after}
use Rattle.model.specs.Refusals.{is_started, is_open, is_settled, tests}
use Rattle.model.specs.Bounds.{Modest}
use Rattle.model.specs.Kept.{Framed, Listed, days_of, Sized}
use Rattle.model.proofs.StepLaws.{Passed, needed}
use Rattle.model.proofs.FrameLaws.{shut-closed, unstarted-shut}
use Rattle.model.proofs.ListedLaws.{settled-open, open-closed, fresh-closed, open-later, listed-once, listed-six}
use Rattle.model.proofs.HouseLaws.{in-due, out-due, release-due}
use Rattle.model.specs.Ranged.{GoodSettings, GoodOpening, GoodTrade, Ranged}
use Rattle.model.proofs.DueLaws.{funded-later, funded-new, funded-paid, funded-settled, funded-closed}
use Rattle.model.proofs.CostLaws.{untraded, dealt-new, dealt-more}
use Rattle.model.specs.TermLaws.{fair-none, tallied-new, opened-fair, closed-fair, tallied-traded, tallied-quoted}
use Rattle.model.specs.HeldLaws.{none-modest, new-modest, limits-modest, special-modest, refreshed-modest, account-sound, closed-modest, closed-due, booked-most}

-- ---- points of the day
shut-unsettled : (p : Point) → is_open p ≡ false → is_settled p ≡ false
shut-unsettled p h = by_test (is_settled p) (λ e. clash (settled-open p e) h) (λ e. e)

-- ---- a new book
pub sized_new : Sized new
unfolding new sizes rising
sized_new = record {
  today = record { day = zero-le; trades = zero-le };
  settings = record { reference = zero-le; multiplier = zero-le; rises = refl; few = zero-le };
  contracts = tallied-new [] _ (λ c. fair-none);
  members = zero-le;
  held = λ n. none-modest;
  dealt = untraded [] [] _ (λ n c. wider (lit (pos 0)) tt) (λ n c. refl);
  funded = record { sound = λ n. new-sound; billed = λ e n. new-billed; dues = zero-le };
}

-- ---- one call more
module _ {b : Book} (s : Sized b) where
  with-settings : (x : Settings) → GoodSettings x → not (is_started b.today.point) ≡ true → Sized (started b x)
  with-settings x g fresh = record {
    today = record { day = s.today.day; trades = s.today.trades };
    settings = g;
    contracts = s.contracts;
    members = s.members;
    held = s.held;
    dealt = s.dealt;
    funded = funded-later s.funded _ (omega (arith, fresh-closed b.today.day b.today.point fresh))
        (λ e. shut-unsettled b.today.point (unstarted-shut b.today.point fresh));
  }

  with-money : (k : ℕ) (f : Funds) → Sound (days_of b.today) f → (is_settled b.today.point ≡ false → Billed f)
      → f.due ≡ (b.accounts.funds k).due → Sized (paid b k f)
  with-money k f g bill due = record {
    today = s.today;
    settings = s.settings;
    contracts = s.contracts;
    members = s.members;
    held = s.held;
    dealt = s.dealt;
    funded = funded-paid s.funded k f g bill due;
  }

  with-held : (held : ℕ → Held) → ((n : ℕ) → Modest (held n)) → Sized (with_held b held)
  with-held held m = record {
    today = s.today;
    settings = s.settings;
    contracts = s.contracts;
    members = s.members;
    held = m;
    dealt = s.dealt;
    funded = s.funded;
  }

  replaced-modest : (k : ℕ) (x : Held) → Modest x → (n : ℕ) → Modest (replaced b.accounts.held k x n)
  replaced-modest k x m n = cond-keeps Modest (eqb n k) x (b.accounts.held n) (λ e. m) (λ e. s.held n)

  with-quote : (q : Quote) → Within 100000 q.rate
      → (in_last_hour q.time ≡ true → (side_in (b.contracts.tally q.code) q.side).weight < 10000) → Sized (quoted b q)
  with-quote q r room = record {
    today = record { day = s.today.day; trades = s.today.trades };
    settings = s.settings;
    contracts = tallied-quoted s.contracts q r room;
    members = s.members;
    held = s.held;
    dealt = s.dealt;
    funded = funded-later s.funded _ (le_refl _) (λ e. e);
  }

  with-settlement : is_open b.today.point ≡ true → is_settled b.today.point ≡ false → Sized (settled_up b)
  with-settlement live early = record {
    today = record { day = s.today.day; trades = s.today.trades };
    settings = s.settings;
    contracts = s.contracts;
    members = s.members;
    held = s.held;
    dealt = s.dealt;
    funded = funded-settled s.funded _ (omega (arith, same)) refl early (is_member b);
  }
    where
      same : days_of b.today ≡ b.today.day
      same = open-closed b.today.day b.today.point live

  module _ (f : Framed b) where
    with-member : (k : ℕ) (l : Limits) → Granted l → is_member b k ≡ false → length b.accounts.members < 64 → Sized (enrolled b k l)
    with-member k l g fresh room = record {
      today = s.today;
      settings = s.settings;
      contracts = s.contracts;
      members = rw (length-append b.accounts.members (k ∷ [])) (omega arith);
      held = replaced-modest k _ (new-modest g s.settings.reference);
      dealt = dealt-new k (λ c. f.strange-positions k c fresh) s.dealt;
      funded = funded-new s.funded k (f.strangers k fresh).1;
    }

    with_open : (o : Opening) → GoodOpening o → is_open b.today.point ≡ false → days_of b.today ≤ o.day → Sized (opened b o)
    with_open o g shut later = record {
      today = record { day = g.day; trades = zero-le };
      settings = s.settings;
      contracts = tallied-new codes _ (opened-fair b codes o s.contracts.terms g);
      members = s.members;
      held = s.held;
      dealt = untraded codes b.accounts.members _
          (λ n c. cond-keeps (λ (p : Position). Within 20000 p.net) (has c codes) (b.accounts.position n c) flat
          (λ e. s.dealt.nets n c)
          (λ e. wider (lit (pos 0)) tt))
          (λ n c. cond-keeps (λ (p : Position). p ≡ overnight p.net) (has c codes) (b.accounts.position n c) flat
          (λ e. f.shut-positions shut n c)
          (λ e. refl));
      funded = funded-later s.funded _ later (λ e. shut-unsettled b.today.point shut);
    }
      where
        codes : List ℕ
        codes = codes_on b o.day

    with-trade : Distinct b.contracts.codes → (t : Trade) → GoodTrade t → b.today.trades < 10000
        → is_beyond ((traded b t).accounts.position t.buyer t.code) ≡ false
        → is_beyond ((traded b t).accounts.position t.seller t.code) ≡ false → Sized (traded b t)
    with-trade once t g room buyer seller = record {
      today = record { day = s.today.day; trades = omega arith };
      settings = s.settings;
      contracts = tallied-traded s.contracts t g room;
      members = s.members;
      held = s.held;
      dealt = dealt-more t g b.accounts.position once f.once s.dealt buyer seller;
      funded = funded-later s.funded _ (le_refl _) (λ e. e);
    }

    with-close : length b.contracts.codes ≡ 6 → (final : ℤ) → Within 100000 final → is_settled b.today.point ≡ true
        → Sized (closed_day b final)
    with-close six final w late = record {
      today = record { day = s.today.day; trades = zero-le };
      settings = s.settings;
      contracts = tallied-new (codes_left b) (terms_left b final) (closed-fair b final s.contracts.terms s.contracts.tallies w);
      members = s.members;
      held = λ n. cond-keeps Modest (is_member b n) _ (b.accounts.held n) (λ e. closed-modest s six final w n) (λ e. s.held n);
      dealt = untraded (codes_left b) b.accounts.members _
          (λ n c. cond-keeps (λ (p : Position). Within 20000 p.net) (is_ending b c) flat (overnight (b.accounts.position n c).net)
          (λ e. wider (lit (pos 0)) tt)
          (λ e. s.dealt.nets n c))
          (λ n c. cond-keeps (λ (p : Position). p ≡ overnight p.net) (is_ending b c) flat (overnight (b.accounts.position n c).net)
          (λ e. refl)
          (λ e. refl));
      funded = funded-closed s.funded _ (ap (λ d. d + 1) (sym same)) (is_member b) (λ n. (closed_at b final n).funds)
          (λ n. day_most (costs (positions_of b n)))
          (λ n. (account-sound s six final w n).funds)
          (λ n. closed-billed (day_end_of b final) (account_of b n))
          (λ n e. (f.strangers n e).1)
          (closed-due s six final w)
          (booked-most s six);
    }
      where
        same : days_of b.today ≡ b.today.day
        same = open-closed b.today.day b.today.point (settled-open b.today.point late)

-- ---- all calls
module _ (b : Book) (f : Framed b) (l : Listed b) where
  pub sized-after : (c : Call) → Ranged c → Passed (tests b c) → Sized b → Sized (after b c)
  unfolding after
  sized-after (start x) r p s = with-settings s x r (needed 3 tt p.0)
  sized-after (enrol n x) r p s =
      with-member s f n x r.limits (not-true (is_member b n) (needed 6 tt p.1.0)) (ltb-true _ 64 (needed 7 tt p.1.1.0))
  sized-after (pay_in n x) r p s =
      let i = s.funded in
      with-money s n _ (paid-in-sound (i.sound n) x r.least) (λ e. paid-in-billed (i.billed e n) x) (in-due _ x)
  sized-after (pay_out n x) r p s =
      let i = s.funded in
      with-money s n _ (paid-out-sound (i.sound n) x r.least) (λ e. paid-out-billed (i.billed e n) x) (out-due _ x)
  sized-after (release n x) r p s =
      with-money s n _ (released-sound (s.funded.sound n) x r.least) (λ e. clash (needed 3 tt p.0) e) (release-due _ x)
  sized-after (set_special n x) r p s = with-held s _ (replaced-modest s n _ (special-modest (s.held n) (positions_of b n) r))
  sized-after (set_limits n x) r p s = with-held s _ (replaced-modest s n _ (limits-modest (s.held n) (positions_of b n) r))
  sized-after (opening o) r p s = with_open s f o r (shut-closed b.today.point (needed 3 tt p.0)) (open-later b o p)
  sized-after (trade t) r p s =
      let q = p.1.1.1.1.1.1.1 in
      with-trade s f (listed-once b l) t r (ltb-true _ 10000 (needed 16 tt q.0))
      (not-true _ (needed 13 tt q.1.1.1.0))
      (not-true _ (needed 13 tt q.1.1.1.1.0))
  sized-after (quote q) r p s =
      with-quote s q r.rate (λ e. ltb-true _ 10000 (or-skip _ _ (ap not e) (needed 16 tt p.1.1.1.1.0)))
  sized-after settle r p s =
      let q = (and-eq-true_iff (is_open b.today.point) (not (is_settled b.today.point))).0 (needed 3 tt p.0) in
      with-settlement s q.0 (not-true _ q.1)
  sized-after refresh r p s =
      with-held s _ (λ n. cond-keeps Modest (is_member b n) _ (b.accounts.held n)
      (λ e. refreshed-modest b n (s.held n) s.settings.reference)
      (λ e. s.held n))
  sized-after (close final) r p s =
      let late = needed 3 tt p.0 in
      with-close s f (listed-six b l (settled-open b.today.point late)) final r late
  sized-after unknown r p s = s
