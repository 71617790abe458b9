-- What settle and refresh make of a book's rows, and their walks over the members turn by turn.
use Rattle.std.specs.Prelude.{◌≡◌, refl, ℕ, ◌+◌, ◌*◌, ◌<◌, eqb, ℤ, ◌+ℤ◌, ◌-ℤ◌, get_or, take}
use Rattle.std.proofs.Math.Path.{sym, ap}
use Rattle.std.proofs.Common.{◌∙◌, subst, add-one, arith, eq-eqb, ne_eqb, take-suc}
use mathlib.Core.List.{List, [], ◌∷◌, map}
use Rattle.std.proofs.Math.IntN.{+ℤ_idr}
use Rattle.std.proofs.Math.ListN.{length}
use Rattle.std.proofs.Math.Seq.{take-length}
use Rattle.lists.specs.HasLaws.{by_test, when_true}
use Rattle.lists.specs.Keep.{cond-keeps}
use Rattle.lists.specs.KeyedLaws.{members-mapped}
use Rattle.lists.specs.Padded.{padded}
use Rattle.whole.specs.Parts.{parts₃, ring, zarith}
use Rattle.whole.specs.Sums.{sum_z}
use Rattle.whole.specs.Over.{sum_over, over_last}
use Rattle.whole.specs.Within.{Within, widen}
use Rattle.positions.specs.declared.Position.{Position}
use Rattle.holdings.specs.Bounds.{Granted, GoodReference}
use Rattle.closing.specs.DayEnd.{with_core}
use Rattle.funds.specs.Funds.{settled}
use Rattle.funds.specs.Bounds as funds
use Rattle.funds.specs.BoundLaws.{sound-later}
use Rattle.funds.specs.declared.Funds.{Funds}
use Rattle.accounts.specs.Accounts.{refreshed}
use Rattle.accounts.specs.declared.Account.{Account}
use Rattle.memory.specs.declared.header_row.Header.{Header}
use Rattle.memory.specs.Rows.{blank_account}
use Rattle.memory.specs.Layout.{header_at, account_at, with_header, with_house}
use Rattle.memory.specs.Memory.{Holds}
use Rattle.memory.specs.MemoryLaws.{put-header, put-house, house-shaped}
use Rattle.model.specs.Book.{Book, Point, unstarted, unopened, unsettled, settled_today, ended, Held, holding, besides, positions_of}
use Rattle.model.specs.Calls.{Call, settle, refresh}
use Rattle.model.specs.Effects.{paid_to, after}
use Rattle.model.specs.Refusals.{needs, first_of, stage, allowed}
use Rattle.model.specs.Bounds.{all_booked}
use Rattle.model.specs.Kept.{Kept}
use Rattle.model.proofs.KeptLaws.{kept-bounded}
use Rattle.standing.specs.Standing.{header_row, account_row, rows_of, view}
use Rattle.standing.specs.Made.{Sound, decided, Made}
use Rattle.standing.specs.StandingLaws.{rows-shaped, refused-made}
use Rattle.standing.specs.SoundLaws.{sound-header, first-passed, first-failed}
use Rattle.standing.specs.WalkLaws.{walked, KeepsSix, walked-shaped, walk-member, walk_end}

-- ---- a call that only its point of the day can refuse
settle-at : (p : Point) → allowed p settle ≡ eqb (stage p) 2
settle-at unstarted = refl
settle-at unopened = refl
settle-at unsettled = refl
settle-at settled_today = refl
settle-at ended = refl

module _ {counts : List ℕ} {money : List ℤ} (s : Sound counts money) where
  abbrev Asks : Call → ℕ → Type 0
  Asks c point = decided (view counts money) c ≡ first_of (needs (eqb (header_at counts).point point) 3 ∷ [])

  point-is : (header_at counts).point ≡ stage (view counts money).today.point
  point-is = ap (λ (h : Header). h.point) (sound-header s)

  pub settle-asks : Asks settle 2
  settle-asks = rw (settle-at (view counts money).today.point, point-is)

  pub refresh-asks : Asks refresh 3
  refresh-asks = rw point-is

  module _ (c : Call) (point : ℕ) (asks : Asks c point) {h : Header} (loaded : h ≡ header_at counts) where
    point-loaded : h.point ≡ (header_at counts).point
    point-loaded = ap (λ (x : Header). x.point) loaded

    pub refused : (h.point ≡ point → ⊥) → Made counts money c 3 counts money
    refused e = refused-made s c 2 (asks ∙ first-failed 2 [] (ne_eqb (header_at counts).point point (λ p. e (point-loaded ∙ p))))

    pub accepted : h.point ≡ point → {counts' : List ℕ} {money' : List ℤ}
        → Holds counts' money' (rows_of (after (view counts money) c)) → Made counts money c 0 counts' money'
    unfolding first_of
    accepted e holds = record {
      answers = sym (asks ∙ first-passed 3 [] (eq-eqb (header_at counts).point point (sym point-loaded ∙ e)));
      memory = holds;
    }

-- ---- accounts settled
abbrev pub settled_row : Account → Account
settled_row a = record { number = a.number; holdings = a.holdings; funds = (settled a.funds).funds }

pub settled-six : KeepsSix settled_row
settled-six a h = h

settled-accounts : (b : Book)
    → padded 64 blank_account (map (λ n. settled_row (account_row b n)) b.accounts.members) ≡ (rows_of (after b settle)).accounts
unfolding after
settled-accounts b =
    ap (padded 64 blank_account) (members-mapped _ _ b.accounts.members (λ n e. ap (row n) (sym (when_true _ (b.accounts.funds n) e))))
  where
    row : ℕ → Funds → Account
    row n f = record { number = n; holdings = (account_row b n).holdings; funds = f }

-- ---- accounts refreshed
pub refreshed-six : (reference : ℕ) → KeepsSix (refreshed reference)
unfolding refreshed with_core
refreshed-six reference a h = cond-keeps (λ (x : Account). length x.holdings.positions ≡ 6) a.funds.flag _ _ (λ e. h) (λ e. h)

-- only the core is changed, and positions have no part in it
refreshed-besides : (reference n : ℕ) (h : Held) (f : Funds) (ps qs : List Position)
    → refreshed reference (record { number = n; holdings = holding h ps; funds = f })
    ≡ record {
      number = n;
      holdings = holding (besides (refreshed reference (record { number = n; holdings = holding h qs; funds = f })).holdings) ps;
      funds = f;
    }
unfolding refreshed with_core
refreshed-besides reference n h f ps qs = by_test f.flag (λ e. rw e) (λ e. rw e)

refreshed-accounts : (b : Book)
    → padded 64 blank_account (map (λ n. refreshed b.settings.reference (account_row b n)) b.accounts.members)
    ≡ (rows_of (after b refresh)).accounts
unfolding after
refreshed-accounts b =
    ap (padded 64 blank_account) (members-mapped _ _ b.accounts.members (λ n e.
    refreshed-besides b.settings.reference n (b.accounts.held n) (b.accounts.funds n) (account_row b n).holdings.positions (positions_of b n)
    ∙ ap (row n) (sym (when_true _ (b.accounts.held n) e))))
  where
    row : ℕ → Held → Account
    row n h = record { number = n; holdings = holding h (account_row b n).holdings.positions; funds = b.accounts.funds n }

-- ---- the house, what it has paid to the first members taken off
abbrev pub house_after : Book → ℕ → ℤ
house_after b i = b.house -ℤ sum_over (paid_to b) (take i b.accounts.members)

pub house-start : (b : Book) → house_after b 0 ≡ b.house
unfolding sum_z
house-start b = +ℤ_idr b.house

pub house-step : (b : Book) (i : ℕ) → i < length b.accounts.members
    → house_after b i -ℤ paid_to b (get_or b.accounts.members i 0) ≡ house_after b (i + 1)
house-step b i q =
    let ms = b.accounts.members in
    rw (add-one i, take-suc ms i 0 q, over_last (paid_to b) (take i ms) (get_or ms i 0))
    (less b.house (sum_over (paid_to b) (take i ms)) (paid_to b (get_or ms i 0)))
  where
    less : (x p d : ℤ) → (x -ℤ p) -ℤ d ≡ x -ℤ (p +ℤ d)
    less x p d = parts₃ x p d (λ a b e. simp (a.is, b.is, e.is, ring) (omega zarith))

house-end : (b : Book) → house_after b (length b.accounts.members) ≡ (rows_of (after b settle)).house
unfolding after
house-end b = ap (λ l. b.house -ℤ sum_over (paid_to b) l) (take-length b.accounts.members)

-- ---- what a turn may rest on
module _ {b : Book} (g : Kept b) where
  pub house-within : (i : ℕ) → Within (funds.days_most * all_booked) (house_after b i)
  house-within i = widen ((kept-bounded g).settling i) (omega (arith, (kept-bounded g).days))

  pub good-reference : GoodReference b.settings.reference
  good-reference = record { most = (kept-bounded g).reference }

  module _ (f : Account → Account) (six : KeepsSix f) {c : List ℕ} {m : List ℤ}
      (i : ℕ) (h : Holds c m (walked (rows_of b) f i)) (q : i < length b.accounts.members) where
    pub turn-funds : funds.Sound funds.days_most (account_at c m i).funds
    turn-funds =
        subst (λ (a : Account). funds.Sound funds.days_most a.funds) (sym (walk-member g f six i h q))
        (sound-later ((kept-bounded g).funds (get_or b.accounts.members i 0)) (kept-bounded g).days)

    pub turn-limits : Granted (account_at c m i).holdings.limits
    turn-limits =
        subst (λ (a : Account). Granted a.holdings.limits) (sym (walk-member g f six i h q))
        ((kept-bounded g).held (get_or b.accounts.members i 0)).limits

-- ---- the end
-- a header once the day is settled
abbrev pub settled_header : Header → Header
settled_header h = record {
  point = 3;
  day = h.day;
  clock = h.clock;
  trades = h.trades;
  reference = h.reference;
  multiplier = h.multiplier;
  exceptions = h.exceptions;
  listed = h.listed;
  settled = h.settled;
  members = h.members;
}

module _ {b : Book} (g : Kept b) {c : List ℕ} {m : List ℤ} (i : ℕ) (all : i ≡ length b.accounts.members) where
  walked_all : (f : Account → Account) → Holds c m (walked (rows_of b) f i) → Holds c m (walked (rows_of b) f (length b.accounts.members))
  walked_all f = subst (λ k. Holds c m (walked (rows_of b) f k)) all

  pub settle-end : Holds c m (walked (rows_of b) settled_row i) → {h : Header} → h ≡ header_row b → {x : ℤ} → x ≡ house_after b i
      → {c' : List ℕ} {m' : List ℤ} → c' ≡ with_header c (settled_header h) → m' ≡ with_house m x → Holds c' m' (rows_of (after b settle))
  unfolding after
  settle-end holds e paid p t =
      let n = length b.accounts.members in
      let r = walked (rows_of b) settled_row n in
      let s = walked-shaped (rows_of b) (rows-shaped g) settled_row settled-six n in
      rw (
        p ∙ ap (λ h. with_header c (settled_header h)) e,
        t ∙ ap (with_house m) (paid ∙ ap (house_after b) all),
        ← settled-accounts b,
        ← walk_end b settled_row,
        ← house-end b,
      )
      (put-header _ (house-shaped r s (house_after b n)) (put-house r s (walked_all settled_row holds) (house_after b n)) (settled_header (header_row b)))

  pub refresh-end : Holds c m (walked (rows_of b) (refreshed b.settings.reference) i) → Holds c m (rows_of (after b refresh))
  unfolding after
  refresh-end holds =
      rw (← refreshed-accounts b, ← walk_end b (refreshed b.settings.reference)) (walked_all (refreshed b.settings.reference) holds)
