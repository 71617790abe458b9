-- The lines of a close are the definition's: the loop's step, and from the table and the memory to the history.
use Rattle.std.specs.Prelude.{◌≡◌, Bool, true, false, cond, ◌||◌, ℕ, ◌+◌, ◌*◌, ◌≤◌, ◌<◌, eqb, ℤ, pos, ◌+ℤ◌, length, get_or, take, drop, set}
use Rattle.std.proofs.Math.Path.{refl, ap}
use Rattle.std.proofs.Common.{map-id, sym, ◌∙◌, ap₂, subst, add-one, arith, eqb-true, length-set, take-suc, take_all, get_or-set_same, get_or-set_other}
use mathlib.Core.List.{List, [], ◌∷◌, ◌++◌, map, map-map}
use Rattle.std.proofs.Math.Decide.{dec_lt}
use Rattle.std.proofs.lemmas.List.{length-map}
use Rattle.lists.specs.Has.{has}
use Rattle.lists.specs.HasLaws.{when_true, eqb-flip, has-append, has_one}
use Rattle.lists.specs.Keyed.{has-at}
use Rattle.lists.specs.All.{All, none_left, and-more}
use Rattle.lists.specs.PaddedLaws.{padded-full}
use Rattle.lists.specs.Rows.{get_d-map-below}
use Rattle.lists.specs.Tabulate.{tab-length, tab-is}
use Rattle.lists.specs.Those.{those, those-map}
use Rattle.whole.specs.Over.{sum_over, over-ext}
use Rattle.whole.specs.Sums.{sum_z}
use Rattle.whole.specs.Within.{Within}
use Rattle.records.specs.Records.{Entry}
use Rattle.rates.specs.declared.Settled.{Settled}
use Rattle.model.specs.Book.{Book, no_settled, is_member, is_listed}
use Rattle.model.specs.Calls.{close}
use Rattle.model.specs.Effects.{closed_day, after}
use Rattle.model.specs.Refusals.{tests}
use Rattle.model.specs.Answers.{called}
use Rattle.model.specs.History.{run_from, run, log}
use Rattle.model.specs.Promises.{worth_at}
use Rattle.model.proofs.StepLaws.{Passed, needed, accepted-by}
use Rattle.model.specs.Ranged.{Ranged}
use Rattle.model.proofs.RangeLaws.{ranges}
use Rattle.model.specs.RefusalLaws.{accepted-called}
use Rattle.model.proofs.ListedLaws.{settled-open}
use Rattle.model.specs.TermLaws.{rate-fair}
use Rattle.model.proofs.KeptLaws.{known, kept-six}
use Rattle.model.proofs.CloseLaws.{closes_kept}
use Rattle.standing.specs.Standing.{view}
use Rattle.standing.specs.Made.{Sound}
use Rattle.standing.specs.StandingLaws.{view-is, sound-of}
use Rattle.trail.specs.declared.Row.{Row}
use Rattle.trail.specs.Rows.{row_at, rows_in, worth, with_amount, priced, earned}
use Rattle.trail.specs.Tables.{Modest}
use Rattle.particulars.specs.declared.Stood.{Stood}
use Rattle.particulars.specs.Particulars.{stood_of, no_stood}
use Rattle.desk.specs.declared.contract_lines.Line.{Line}
use Rattle.desk.specs.Trails.{rows_today}
use Rattle.desk.specs.TrailLaws.{rows_few, rows-modest, rows-listed, explained}
use Rattle.desk.specs.Lines.{rate_in, line_in, line_at, Table, Lined, amounted, amounted_in, codes_of, StoodBefore, AllLined, JustClosed, line_after, lines_of, Explained}

-- ---- a line, part by part
pub line-parts : (x : Line) {settled : Settled} {carried sum : ℤ} → settled ≡ x.settled → carried ≡ x.carried → sum ≡ x.sum
    → record { settled = settled; carried = carried; sum = sum } ≡ x
line-parts x p q r = rw (p, q, r)

pub worth-parts : {lots traded rate lots' traded' rate' : ℤ} → lots ≡ lots' → traded ≡ traded' → rate ≡ rate'
    → worth_at rate (record { lots = lots; rate = traded }) ≡ worth_at rate' (record { lots = lots'; rate = traded' })
worth-parts p q r = rw (p, q, r)

-- in place of a line where a list has none
pub no_line : Line
no_line = record { settled = no_settled; carried = pos 0; sum = pos 0 }

-- ---- rows that have their amounts in some contracts
module _ (rate : ℕ → ℤ) where
  -- one contract more
  row_next : (codes : List ℕ) (c : ℕ) (r : Row) → priced c (rate c) (amounted_in rate codes r) ≡ amounted_in rate (codes ++ (c ∷ [])) r
  row_next codes c r =
      under (has r.code codes)
      ∙ go (has r.code codes) (eqb c r.code) (λ e. ap rate (eqb-true c r.code e))
      ∙ sym (ap (λ t. cond t (amounted rate r) r) (has-append r.code codes (c ∷ []) ∙ ap (λ t. has r.code codes || t) (has_one r.code c ∙ eqb-flip r.code c)))
    where
      under : (s : Bool) → priced c (rate c) (cond s (amounted rate r) r)
          ≡ cond (eqb c r.code) (with_amount (worth (rate c) r) r) (cond s (amounted rate r) r)
      under true = refl
      under false = refl

      go : (s t : Bool) → (t ≡ true → rate c ≡ rate r.code)
          → cond t (with_amount (worth (rate c) r) r) (cond s (amounted rate r) r) ≡ cond (s || t) (amounted rate r) r
      go true true e = ap (λ z. with_amount (worth z r) r) (e refl)
      go true false e = refl
      go false true e = ap (λ z. with_amount (worth z r) r) (e refl)
      go false false e = refl

  rows_next : (codes : List ℕ) (c : ℕ) (rows : List Row)
      → map (priced c (rate c)) (map (amounted_in rate codes) rows) ≡ map (amounted_in rate (codes ++ (c ∷ []))) rows
  rows_next codes c [] = refl
  rows_next codes c (r ∷ rows) = ap₂ (λ (x : Row) (l : List Row). x ∷ l) (row_next codes c r) (rows_next codes c rows)

  -- no contract yet
  rows_none : (rows : List Row) → rows ≡ map (amounted_in rate []) rows
  unfolding has
  rows_none [] = refl
  rows_none (r ∷ rows) = ap (λ (l : List Row). r ∷ l) (rows_none rows)

  -- all contracts that the rows are of
  rows_all : (codes : List ℕ) {rows : List Row} → All (λ r. has r.code codes ≡ true) rows → map (amounted_in rate codes) rows ≡ map (amounted rate) rows
  rows_all codes none_left = refl
  rows_all codes (and-more {x = r} p a) = ap₂ (λ (x : Row) (l : List Row). x ∷ l) (when_true (amounted rate r) r p) (rows_all codes a)

  -- what an amount does not change
  module _ (codes : List ℕ) where
    same_code : (r : Row) → (amounted_in rate codes r).code ≡ r.code
    same_code r = go (has r.code codes)
      where
        go : (s : Bool) → (cond s (amounted rate r) r).code ≡ r.code
        go true = refl
        go false = refl

    same-worth : (z : ℤ) (r : Row) → worth z (amounted_in rate codes r) ≡ worth z r
    same-worth z r = go (has r.code codes)
      where
        go : (s : Bool) → worth z (cond s (amounted rate r) r) ≡ worth z r
        go true = refl
        go false = refl

    same-earned : (c : ℕ) (z : ℤ) (rows : List Row) → earned c z (map (amounted_in rate codes) rows) ≡ earned c z rows
    same-earned c z rows =
        ap (sum_over (worth z))
        (those-map (λ r. eqb c r.code) (λ r. eqb c r.code) (amounted_in rate codes) rows (λ r. ap (eqb c) (same_code r)))
        ∙ ap sum_z (map-map (worth z) (amounted_in rate codes) (those (λ r. eqb c r.code) rows))
        ∙ over-ext (λ r. worth z (amounted_in rate codes r)) (worth z) (those (λ r. eqb c r.code) rows) (same-worth z)

    same-modest : {rows : List Row} → All Modest rows → All Modest (map (amounted_in rate codes) rows)
    same-modest none_left = none_left
    same-modest (and-more {x = r} m a) = and-more (go (has r.code codes)) (same-modest a)
      where
        go : (s : Bool) → Modest (cond s (amounted rate r) r)
        go true = record { lots = m.lots; rate = m.rate }
        go false = m

-- ---- a contract that stood before a close was settled by it
pub code-at : {after : Book} {s : List Stood} → StoodBefore after s → (k : ℕ) → k < 6 → has (get_or s k no_stood).code after.results.codes ≡ true
code-at {after} {s} b k q =
    rw (sym (get_d-map-below (λ x. x.code) s k no_stood 0 (omega (arith, b.six))), sym b.codes)
    (has-at (codes_of s) k (omega (arith, b.six, length-map s (λ x. x.code))))

-- ---- the loop over the contracts: the lines of those passed, and their rows with amounts
pub record LinedTo (after : Book) (row_counts : List ℕ) (row_money : List ℤ) (used : ℕ) (s : List Stood) (k : ℕ) (lines : List Line) (row_money' : List ℤ) : Type 0 where
  pub many : length lines ≡ 6
  pub made : (i : ℕ) → i < k → get_or lines i no_line ≡ line_at after (rows_in row_counts row_money used) s i
  pub rows : rows_in row_counts row_money' used ≡ map (amounted_in (rate_in after) (take k (codes_of s))) (rows_in row_counts row_money used)
  pub behind : drop (used * 6) row_money' ≡ drop (used * 6) row_money
  pub long : length row_money' ≡ length row_money

module _ (after : Book) (row_counts : List ℕ) (row_money : List ℤ) (used : ℕ) (s : List Stood) where
  pub lined-none : (lines : List Line) → length lines ≡ 6 → LinedTo after row_counts row_money used s 0 lines row_money
  lined-none lines six = record {
    many = six;
    made = λ i q. absurd (omega arith);
    rows = rows_none (rate_in after) (rows_in row_counts row_money used);
    behind = refl;
    long = refl;
  }

  module _ {k : ℕ} {lines : List Line} {row_money' : List ℤ} (p : LinedTo after row_counts row_money used s k lines row_money') where
    -- the table can be priced still
    pub lined-table : Table row_counts row_money used → Table row_counts row_money' used
    lined-table t = record {
      few = t.few;
      counts-long = t.counts-long;
      money-long = omega (arith, p.long, t.money-long);
      modest = subst (All Modest) (sym p.rows) (same-modest (rate_in after) (take k (codes_of s)) t.modest);
    }

    pub lined-next : StoodBefore after s → k < 6 → {line : Line} {row_money'' : List ℤ}
        → Lined after row_counts row_money' used (get_or s k no_stood) line row_money''
        → LinedTo after row_counts row_money used s (k + 1) (set lines k line) row_money''
    lined-next b q {line} {row_money''} l =
        let c = (get_or s k no_stood).code in
        let long-codes : length (codes_of s) ≡ 6 = length-map s (λ x. x.code) ∙ b.six in
        let rows₀ = rows_in row_counts row_money used in
        let here : line ≡ line_at after rows₀ s k = l.line ∙ ap (λ z. record {
          settled = after.results.settled c;
          carried = (line_at after rows₀ s k).carried;
          sum = z +ℤ (line_at after rows₀ s k).carried;
        }) (ap (earned c (rate_in after c)) p.rows ∙ same-earned (rate_in after) (take k (codes_of s)) c (rate_in after c) rows₀) in
        record {
          many = length-set lines k line ∙ p.many;
          made = λ i r. at i r (dec_lt i k) here;
          rows = l.rows ∙ ap (map (priced c (rate_in after c))) p.rows ∙ rows_next (rate_in after) (take k (codes_of s)) c rows₀
              ∙ ap (λ ks. map (amounted_in (rate_in after) ks) rows₀) (ap (λ x. take k (codes_of s) ++ (x ∷ [])) (sym (get_d-map-below (λ x. x.code) s k no_stood 0 (omega (arith, b.six)))) ∙ sym (take-suc (codes_of s) k 0 (omega (arith, long-codes))) ∙ ap (λ j. take j (codes_of s)) (sym (add-one k)));
          behind = l.behind ∙ p.behind;
          long = l.long ∙ p.long;
        }
      where
        at : (i : ℕ) → i < k + 1 → Dec (i < k) → line ≡ line_at after (rows_in row_counts row_money used) s k
            → get_or (set lines k line) i no_line ≡ line_at after (rows_in row_counts row_money used) s i
        at i r (yes t) e = get_or-set_other lines k i line no_line (omega arith) ∙ p.made i t
        at i r (no t) e =
            let z : i ≡ k = omega arith in
            rw z (get_or-set_same lines k line no_line (omega (arith, p.many)) ∙ e)

    pub lined-all : StoodBefore after s → 6 ≤ k → k ≤ 6 → AllLined after row_counts row_money used s lines row_money'
    lined-all b low high = record {
      lines = sym (tab-is no_line (line_at after (rows_in row_counts row_money used) s) 6 lines p.many (λ i q. sym (p.made i (omega arith))));
      rows = p.rows ∙ ap (λ ks. map (amounted_in (rate_in after) ks) (rows_in row_counts row_money used)) (take_all k (codes_of s) (omega (arith, b.six, length-map s (λ x. x.code))));
      behind = p.behind;
      long = p.long;
    }

-- ---- a close on a history
module _ {n : ℕ} {h : List Entry} {e : Entry} {final : ℤ} {counts : List ℕ} {money : List ℤ} {row_counts : List ℕ} {row_money : List ℤ} {used : ℕ}
    {s : List Stood} (j : JustClosed n h e final counts money row_counts row_money used s) where
  abbrev b : Book
  b = run h

  abbrev codes : List ℕ
  codes = b.contracts.codes

  passed : Passed (tests b (close final))
  passed = subst (λ c. Passed (tests b c)) j.closes (accepted-by b e j.accepted).passed

  -- a day that is closed was open, and six contracts were listed
  six : length codes ≡ 6
  six = kept-six (known h) (settled-open b.today.point (needed 3 tt passed.0))

  seen : view counts money ≡ called b e
  unfolding run_from
  seen = view-is (known (e ∷ h)) j.memory

  closed_is : called b e ≡ closed_day b final
  unfolding after
  closed_is = accepted-called b e j.accepted j.closes

  before-full : s ≡ map (stood_of b n) codes
  before-full = j.before ∙ padded-full 6 no_stood (map (stood_of b n) codes) (length-map codes (stood_of b n) ∙ six)

  codes-are : codes_of s ≡ codes
  codes-are = ap codes_of before-full ∙ map-map (λ x. x.code) (stood_of b n) codes ∙ map-id codes

  stood-is : (k : ℕ) → k < 6 → get_or s k no_stood ≡ stood_of b n (get_or codes k 0)
  stood-is k q = ap (λ (l : List Stood). get_or l k no_stood) before-full ∙ get_d-map-below (stood_of b n) codes k 0 no_stood (omega (arith, six))

  code-listed : (k : ℕ) → k < 6 → is_listed b (get_or codes k 0) ≡ true
  code-listed k q = has-at codes k (omega (arith, six))

  pub closed-sound : Sound counts money
  closed-sound = sound-of (known (e ∷ h)) j.memory

  pub stood-before : StoodBefore (view counts money) s
  stood-before = subst (λ v. StoodBefore v s) (sym (seen ∙ closed_is)) (record {
    codes = codes-are;
    six = ap length before-full ∙ length-map codes (stood_of b n) ∙ six;
    nets = λ k q. rw (stood-is k q) ((known h).sized.dealt.befores n (get_or codes k 0));
    previous = λ k q. rw (stood-is k q) ((known h).sized.contracts.terms (get_or codes k 0)).previous;
    rates = λ k q. rw (stood-is k q)
        (subst (λ (x : Settled). Within 100000 x.rate) (sym (when_true _ _ (code-listed k q)))
        (rate-fair b final (known h).sized.contracts.terms (known h).sized.contracts.tallies
        (subst Ranged j.closes (ranges e (accepted-by b e j.accepted).ranges)) (get_or codes k 0)));
  })

  pub closed-table : Table row_counts row_money used
  closed-table =
      let few : used ≤ 10000 = omega (arith, rows_few n h, sym (tab-length (row_at row_counts row_money) used) ∙ ap length j.rows) in
      record {
        few = few;
        counts-long = omega (arith, j.counts-long);
        money-long = omega (arith, j.money-long);
        modest = subst (All Modest) (sym j.rows) (rows-modest n h);
      }

  -- the sums of all contracts come to the variation of the account's bill
  pub sums-billed : is_member b n ≡ true → sum_over (λ x. x.sum) (lines_of b (called b e) n final) ≡ ((called b e).accounts.held n).variation
  sums-billed m = ap sum_z (map-map (λ x. x.sum) (line_after b (called b e) n final) codes) ∙ sym ((closes_kept h e final j.accepted j.closes).bills n m).0

  -- ---- contract by contract
  module _ {lines : List Line} {row_money' : List ℤ} (a : AllLined (view counts money) row_counts row_money used s lines row_money') where
    abbrev line_of : ℕ → Line
    line_of c = line_in (called b e) (rows_today n (log h)) (stood_of b n c)

    -- the sum of a listed contract's lines is what the close books
    booked : (c : ℕ) → is_listed b c ≡ true → line_of c ≡ line_after b (called b e) n final c
    booked c on = line-parts (line_after b (called b e) n final c) refl refl (explained n h e final j.accepted j.closes c on)

    line-is : (k : ℕ) → k < 6 → line_at (view counts money) (rows_in row_counts row_money used) s k ≡ get_or (lines_of b (called b e) n final) k no_line
    line-is k q =
        ap₂ (λ (v : Book) (rows : List Row). line_at v rows s k) seen j.rows
        ∙ ap (line_in (called b e) (rows_today n (log h))) (stood-is k q)
        ∙ booked (get_or codes k 0) (code-listed k q)
        ∙ sym (get_d-map-below (line_after b (called b e) n final) codes k 0 no_line (omega (arith, six)))

    pub lines-explained : Explained n h e final row_counts row_money used lines row_money'
    lines-explained = record {
      lines = a.lines ∙ tab-is no_line (line_at (view counts money) (rows_in row_counts row_money used) s) 6 (lines_of b (called b e) n final)
          (length-map codes (line_after b (called b e) n final) ∙ six) line-is;
      rows = a.rows
          ∙ ap₂ (λ (ks : List ℕ) (rows : List Row). map (amounted_in (rate_in (view counts money)) ks) rows) codes-are j.rows
          ∙ rows_all (rate_in (view counts money)) codes (rows-listed n h)
          ∙ ap (λ v. map (amounted (rate_in v)) (rows_today n (log h))) seen;
      behind = a.behind;
      long = a.long;
    }
