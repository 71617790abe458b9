-- One state has one form: what is not enrolled or not listed reads as zero, and nothing of a day is left once it is closed.
use Rattle.std.specs.Prelude.{◌≡◌, refl, Bool, true, false, not, cond, [], ◌∷◌, ◌++◌, ℕ, eqb, ℤ, pos}
use Rattle.std.proofs.Common.{sym, ◌∙◌, ap}
use Rattle.std.proofs.lemmas.Bool.{not-true}
use Rattle.std.proofs.Math.IntN.{zero-*ℤ, +ℤ_idr}
use Rattle.lists.specs.Has.{has}
use Rattle.lists.specs.HasLaws.{by_test, clash, when_true, when_false, cond_same, neither, has-append, has_one, has-apart, those-lacks, distinct_more}
use Rattle.positions.specs.Deals.{flat, overnight, dealt}
use Rattle.booking.specs.Carried.{carried}
use Rattle.positions.specs.declared.Position.{Position}
use Rattle.positions.specs.declared.Mark.{Mark}
use Rattle.holdings.specs.declared.Limits.{Limits}
use Rattle.funds.specs.declared.Funds.{Funds}
use Rattle.model.specs.Book.{Book, Settings, Point, unstarted, unopened, unsettled, settled_today, ended, no_settled, Held, is_member, is_listed, replaced, new}
use Rattle.model.specs.Calls.{Call, start, enrol, pay_in, pay_out, release, set_special, set_limits, opening, trade, quote, settle, refresh, close, unknown, Trade, Quote, Opening}
use Rattle.model.specs.Effects.{with_held, started, enrolled, paid, codes_on, opened, lots_for, traded, quoted, settled_up, is_ending, mark_of, codes_left, closed_day, after}
use Rattle.model.specs.Refusals.{is_started, is_shut, is_open, tests}
use Rattle.model.specs.Kept.{Framed}
use Rattle.model.proofs.StepLaws.{Passed, needed}

-- ---- a new book
pub framed-new : Framed new
unfolding new has
framed-new = record {
  once = tt;
  strangers = λ n h. (refl, refl);
  strange-positions = λ n c h. refl;
  unlisted = λ n c h. refl;
  unlisted-terms = λ c h. (refl, refl);
  shut-tallies = λ h c. refl;
  shut-positions = λ h n c. refl;
  shut-trades = λ h. refl;
  unanswered = λ c h. refl;
}

-- ---- what keeps a position as it was
-- lots of none
pub dealt-none : (p : Position) (rate : ℤ) → dealt p (pos 0) rate ≡ p
dealt-none p rate = rw (zero-*ℤ rate, +ℤ_idr p.net, +ℤ_idr p.cost)

-- an account that is no side of a trade
bystander : (t : Trade) (n : ℕ) → eqb n t.buyer ≡ false → eqb n t.seller ≡ false → lots_for t n ≡ pos 0
bystander t n p q = when_false _ _ p ∙ when_false _ _ q

pub bystander-still : (t : Trade) (p : Position) (n c : ℕ) → eqb n t.buyer ≡ false → eqb n t.seller ≡ false
    → cond (eqb c t.code) (dealt p (lots_for t n) t.rate) p ≡ p
bystander-still t p n c b s =
    cond_same (eqb c t.code) (ap (λ lots. dealt p lots t.rate) (bystander t n b s) ∙ dealt-none p t.rate)

carried-flat : (m : Mark) → carried flat m ≡ flat
carried-flat m = cond_same m.ending refl

carried-overnight : (p : Position) (m : Mark) → carried p m ≡ overnight (carried p m).net
carried-overnight p m = go m.ending
  where
    go : (t : Bool) → cond t flat (overnight p.net) ≡ overnight (cond t flat (overnight p.net)).net
    go true = refl
    go false = refl

-- ---- points of the day
pub shut-closed : (p : Point) → is_shut p ≡ true → is_open p ≡ false
shut-closed unstarted e = refl
shut-closed unopened e = refl
shut-closed unsettled e = clash e refl
shut-closed settled_today e = clash e refl
shut-closed ended e = refl

pub unstarted-shut : (p : Point) → not (is_started p) ≡ true → is_open p ≡ false
unstarted-shut unstarted e = refl
unstarted-shut unopened e = refl
unstarted-shut unsettled e = clash e refl
unstarted-shut settled_today e = clash e refl
unstarted-shut ended e = refl

-- ---- one call more
-- money or limits of a member: whoever is no member is another
module _ {b : Book} (i : Framed b) where
  replaced-away : {A : Type 0} (f : ℕ → A) (k : ℕ) (a : A) → is_member b k ≡ true → (n : ℕ) → is_member b n ≡ false → replaced f k a n ≡ f n
  replaced-away f k a m n h = when_false a (f n) (has-apart n k b.accounts.members h m)

  paid-framed : (k : ℕ) (f : Funds) → is_member b k ≡ true → Framed (paid b k f)
  paid-framed k f m = record {
    once = i.once;
    strangers = λ n h. ((i.strangers n h).0, replaced-away b.accounts.funds k f m n h ∙ (i.strangers n h).1);
    strange-positions = i.strange-positions;
    unlisted = i.unlisted;
    unlisted-terms = i.unlisted-terms;
    shut-tallies = i.shut-tallies;
    shut-positions = i.shut-positions;
    shut-trades = i.shut-trades;
    unanswered = i.unanswered;
  }

  held-framed : (held : ℕ → Held) → ((n : ℕ) → is_member b n ≡ false → held n ≡ b.accounts.held n) → Framed (with_held b held)
  held-framed held same = record {
    once = i.once;
    strangers = λ n h. (same n h ∙ (i.strangers n h).0, (i.strangers n h).1);
    strange-positions = i.strange-positions;
    unlisted = i.unlisted;
    unlisted-terms = i.unlisted-terms;
    shut-tallies = i.shut-tallies;
    shut-positions = i.shut-positions;
    shut-trades = i.shut-trades;
    unanswered = i.unanswered;
  }

  started-framed : (s : Settings) → is_open b.today.point ≡ false → Framed (started b s)
  started-framed s e = record {
    once = i.once;
    strangers = i.strangers;
    strange-positions = i.strange-positions;
    unlisted = i.unlisted;
    unlisted-terms = i.unlisted-terms;
    shut-tallies = λ h. i.shut-tallies e;
    shut-positions = λ h. i.shut-positions e;
    shut-trades = λ h. i.shut-trades e;
    unanswered = i.unanswered;
  }

  enrolled-framed : (k : ℕ) (x : Limits) → is_member b k ≡ false → Framed (enrolled b k x)
  enrolled-framed k x fresh = record {
    once = distinct_more b.accounts.members k fresh i.once;
    strangers = λ n h. let a = apart n h in (when_false _ _ a.1 ∙ (i.strangers n a.0).0, (i.strangers n a.0).1);
    strange-positions = λ n c h. i.strange-positions n c (apart n h).0;
    unlisted = i.unlisted;
    unlisted-terms = i.unlisted-terms;
    shut-tallies = i.shut-tallies;
    shut-positions = i.shut-positions;
    shut-trades = i.shut-trades;
    unanswered = i.unanswered;
  }
    where
      apart : (n : ℕ) → has n (b.accounts.members ++ (k ∷ [])) ≡ false → (is_member b n ≡ false) × (eqb n k ≡ false)
      apart n h =
          let a = neither (is_member b n) _ (sym (has-append n b.accounts.members (k ∷ [])) ∙ h) in
          (a.0, sym (has_one n k) ∙ a.1)

  opened-framed : (o : Opening) → is_open b.today.point ≡ false → Framed (opened b o)
  opened-framed o e = record {
    once = i.once;
    strangers = i.strangers;
    strange-positions = λ n c h. ap (λ p. cond (has c (codes_on b o.day)) p flat) (i.strange-positions n c h) ∙ cond_same (has c (codes_on b o.day)) refl;
    unlisted = λ n c h. when_false _ _ h;
    unlisted-terms = λ c h. (when_false _ _ h, refl);
    shut-tallies = λ h c. refl;
    shut-positions = λ h. clash refl h;
    shut-trades = λ h. refl;
    unanswered = i.unanswered;
  }

  traded-framed : (t : Trade) → is_open b.today.point ≡ true → is_listed b t.code ≡ true → is_member b t.buyer ≡ true
      → is_member b t.seller ≡ true → Framed (traded b t)
  traded-framed t live on buys sells = record {
    once = i.once;
    strangers = i.strangers;
    strange-positions = λ n c h. away n c h ∙ i.strange-positions n c h;
    unlisted = λ n c h. when_false _ _ (other c h) ∙ i.unlisted n c h;
    unlisted-terms = λ c h. ((i.unlisted-terms c h).0, when_false _ _ (other c h) ∙ (i.unlisted-terms c h).1);
    shut-tallies = λ h. clash live h;
    shut-positions = λ h. clash live h;
    shut-trades = λ h. clash live h;
    unanswered = i.unanswered;
  }
    where
      other : (c : ℕ) → is_listed b c ≡ false → eqb c t.code ≡ false
      other c h = has-apart c t.code b.contracts.codes h on

      away : (n c : ℕ) → is_member b n ≡ false → (traded b t).accounts.position n c ≡ b.accounts.position n c
      away n c h =
          bystander-still t (b.accounts.position n c) n c
          (has-apart n t.buyer b.accounts.members h buys)
          (has-apart n t.seller b.accounts.members h sells)

  quoted-framed : (q : Quote) → is_open b.today.point ≡ true → is_listed b q.code ≡ true → Framed (quoted b q)
  quoted-framed q live on = record {
    once = i.once;
    strangers = i.strangers;
    strange-positions = i.strange-positions;
    unlisted = i.unlisted;
    unlisted-terms = λ c h. ((i.unlisted-terms c h).0, when_false _ _ (has-apart c q.code b.contracts.codes h on) ∙ (i.unlisted-terms c h).1);
    shut-tallies = λ h. clash live h;
    shut-positions = λ h. clash live h;
    shut-trades = λ h. clash live h;
    unanswered = i.unanswered;
  }

  settled-framed : Framed (settled_up b)
  settled-framed = record {
    once = i.once;
    strangers = λ n h. ((i.strangers n h).0, when_false _ _ h ∙ (i.strangers n h).1);
    strange-positions = i.strange-positions;
    unlisted = i.unlisted;
    unlisted-terms = i.unlisted-terms;
    shut-tallies = λ h. clash refl h;
    shut-positions = λ h. clash refl h;
    shut-trades = λ h. clash refl h;
    unanswered = i.unanswered;
  }

  closed-framed : (final : ℤ) → Framed (closed_day b final)
  closed-framed final = record {
    once = i.once;
    strangers = λ n h. (when_false _ _ h ∙ (i.strangers n h).0, when_false _ _ h ∙ (i.strangers n h).1);
    strange-positions = λ n c h. gone n c (i.strange-positions n c h);
    unlisted = λ n c h. by_test (is_ending b c)
        (λ e. when_true _ _ e)
        (λ e. gone n c (i.unlisted n c (stays c e h)));
    unlisted-terms = λ c h. (when_false _ _ h, refl);
    shut-tallies = λ h c. refl;
    shut-positions = λ h n c. carried-overnight (b.accounts.position n c) (mark_of b final c);
    shut-trades = λ h. refl;
    unanswered = λ c h. when_false _ no_settled h;
  }
    where
      gone : (n c : ℕ) → b.accounts.position n c ≡ flat → carried (b.accounts.position n c) (mark_of b final c) ≡ flat
      gone n c e = ap (λ p. carried p (mark_of b final c)) e ∙ carried-flat (mark_of b final c)

      stays : (c : ℕ) → is_ending b c ≡ false → has c (codes_left b) ≡ false → is_listed b c ≡ false
      stays c e h = those-lacks (λ k. not (is_ending b k)) c b.contracts.codes h (ap not e)

-- ---- all calls
pub framed-after : (b : Book) (c : Call) → Passed (tests b c) → Framed b → Framed (after b c)
unfolding after
framed-after b (start s) p i = started-framed i s (unstarted-shut b.today.point (needed 3 tt p.0))
framed-after b (enrol n x) p i = enrolled-framed i n x (not-true (is_member b n) (needed 6 tt p.1.0))
framed-after b (pay_in n x) p i = paid-framed i n _ (needed 5 tt p.1.0)
framed-after b (pay_out n x) p i = paid-framed i n _ (needed 5 tt p.1.0)
framed-after b (release n x) p i = paid-framed i n _ (needed 5 tt p.1.0)
framed-after b (set_special n x) p i = held-framed i _ (replaced-away i b.accounts.held n _ (needed 5 tt p.1.0))
framed-after b (set_limits n x) p i = held-framed i _ (replaced-away i b.accounts.held n _ (needed 5 tt p.1.0))
framed-after b (opening o) p i = opened-framed i o (shut-closed b.today.point (needed 3 tt p.0))
framed-after b (trade t) p i = traded-framed i t (needed 3 tt p.0) (needed 8 tt p.1.0) (needed 5 tt p.1.1.0) (needed 5 tt p.1.1.1.0)
framed-after b (quote q) p i = quoted-framed i q (needed 3 tt p.0) (needed 8 tt p.1.0)
framed-after b settle p i = settled-framed i
framed-after b refresh p i = held-framed i _ (λ n h. when_false _ _ h)
framed-after b (close final) p i = closed-framed i final
framed-after b unknown p i = i
