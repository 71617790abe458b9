-- What the functions of a close read, told of the rows that the memory holds.
use Rattle.std.specs.Prelude.{◌≡◌, refl, Bool, true, false, cond, List, [], ◌∷◌, map, ℕ, ◌+◌, ◌-◌, ◌≤◌, ◌<◌, ℤ, pos, length, get_or, drop}
use Rattle.std.proofs.Common.{sym, ap, ap₂, ◌∙◌, arith, length-drop, get_or-drop}
use Rattle.std.proofs.Math.Decide.{dec_lt}
use Rattle.std.proofs.lemmas.List.{length-map}
use Rattle.std.proofs.Math.ListN.{get_or-eq_default}
use mir.Val.{bool_byte}
use Rattle.lists.specs.Padded.{padded}
use Rattle.lists.specs.PaddedLaws.{padded-length, padded-at, padded-past}
use Rattle.lists.specs.Parts.{part}
use Rattle.lists.specs.Rows.{get_d-map-below}
use Rattle.lists.specs.Tabulate.{tab, tab-is}
use Rattle.lists.specs.Those.{those}
use Rattle.lists.specs.Zipped.{zipped, zipped-length, zipped-at}
use Rattle.whole.specs.Sums.{sum_z}
use Rattle.days.specs.Days.{is_on, is_working}
use Rattle.months.specs.Months.{last_trading_of}
use Rattle.tallies.specs.Means.{mean_of, total}
use Rattle.tallies.specs.Tally.{latest_of, tally_from}
use Rattle.positions.specs.Bounds.{no_mark}
use Rattle.positions.specs.Deals.{flat}
use Rattle.positions.specs.declared.Mark.{Mark}
use Rattle.positions.specs.declared.Position.{Position}
use Rattle.closing.specs.declared.DayEnd.{DayEnd}
use Rattle.memory.specs.declared.header_row.Header.{Header}
use Rattle.memory.specs.declared.contract_rows.Contract.{Contract}
use Rattle.memory.specs.declared.outcome_rows.Outcome.{Outcome}
use Rattle.memory.specs.Rows.{blank_contract, blank_outcome}
use Rattle.memory.specs.Layout.{header_at, contract_at, outcome_at, margin_at}
use Rattle.memory.specs.Memory.{Rows, Shaped}
use Rattle.memory.specs.MemoryLaws.{header_is, contract-is, outcome-is, margin-is}
use Rattle.model.specs.Book.{no_tally}
use Rattle.standing.specs.SoundLaws.{exceptions-read}
use Rattle.standing.specs.CloseRows.{exceptions_in, outcome_from, outcome_in, outcome_for, mark_from, day_end_in, first_ended, moved_up, renewed_row, renewed_at}
use Rattle.standing.specs.Turns.{Whole}
use Rattle.day_end.specs.Closable.{mark_at}

-- ---- where something is gone
pub byte-most : (t : Bool) → bool_byte t ≤ 1
byte-most true = omega arith
byte-most false = omega arith

pub listed-is : (t : Bool) → 6 - bool_byte t ≡ cond t 5 6
listed-is true = refl
listed-is false = refl

padded-any : {X : Type 0} (n : ℕ) (d : X) (l : List X) (i : ℕ) → get_or (padded n d l) i d ≡ get_or l i d
padded-any n d l i = go (dec_lt i (length l))
  where
    go : Dec (i < length l) → get_or (padded n d l) i d ≡ get_or l i d
    go (yes q) = padded-at n d l d i q
    go (no q) = padded-past n d l i (omega arith) ∙ sym (get_or-eq_default l d {n = i} (omega arith))

module _ {X : Type 0} (ended : Bool) (d : X) (l : List X) where
  pub moved_at : (k : ℕ) → get_or (moved_up ended d l) k d ≡ get_or l (k + bool_byte ended) d
  moved_at k = padded-any 6 d (drop (cond ended 1 0) l) k ∙ get_or-drop (cond ended 1 0) l k d ∙ ap (λ i. get_or l i d) (go ended)
    where
      go : (t : Bool) → cond t 1 0 + k ≡ k + bool_byte t
      go true = omega arith
      go false = omega arith

  pub moved-six : length l ≡ 6 → length (moved_up ended d l) ≡ 6
  moved-six h = padded-length 6 d (drop (cond ended 1 0) l) (rw (length-drop (cond ended 1 0) l) (omega arith))

pub without-first : (ps : List Position) → length ps ≡ 6
    → get_or ps 1 flat ∷ get_or ps 2 flat ∷ get_or ps 3 flat ∷ get_or ps 4 flat ∷ get_or ps 5 flat ∷ flat ∷ [] ≡ moved_up true flat ps
unfolding tab
without-first ps h =
    ap (λ p. get_or ps 1 flat ∷ get_or ps 2 flat ∷ get_or ps 3 flat ∷ get_or ps 4 flat ∷ get_or ps 5 flat ∷ p ∷ [])
    (sym (get_or-eq_default ps flat {n = 6} (omega arith)))
    ∙ tab-is flat (λ k. get_or ps (k + 1) flat) 6 (moved_up true flat ps) (moved-six true flat ps h) (λ k q. sym (moved_at true flat ps k))

-- ---- what is read
pub blank-tally : no_tally ≡ blank_contract.tally
unfolding tally_from latest_of mean_of those sum_z total
blank-tally = refl

module _ {c : List ℕ} {m : List ℤ} (r : Rows) (w : Whole c m r) where
  pub outcome-read : {h : Header} {x : Contract} {ending : Bool} (k : ℕ) (final : ℤ) → k < 6 → h ≡ header_at c → h.exceptions ≤ 400
      → x ≡ contract_at c m k → ending ≡ is_on h.day (last_trading_of (is_working (part 10 h.exceptions c)) x.code)
      → outcome_from x ending final ≡ outcome_for final k r
  outcome-read {h} {x} k final q e few p t =
      ap (λ ending. outcome_from x ending final)
      (t
      ∙ ap (λ l. is_on h.day (last_trading_of (is_working l) x.code)) (exceptions-read r w e few)
      ∙ ap (λ (g : Header). is_on g.day (last_trading_of (is_working (exceptions_in r)) x.code)) (e ∙ header_is r w.shaped w.holds))
      ∙ ap (outcome_in r final) (p ∙ contract-is r w.shaped w.holds k q)

  both_at : {A : Type 0} (f : Contract → Outcome → A) (a : A) (k : ℕ) → k < 6
      → f (contract_at c m k) (outcome_at c m k) ≡ get_or (zipped f r.contracts r.outcomes) k a
  both_at f a k q =
      ap₂ f (contract-is r w.shaped w.holds k q) (outcome-is r w.shaped w.holds k q)
      ∙ sym (zipped-at f a blank_contract blank_outcome r.contracts r.outcomes k (rw w.shaped.contracts q) (rw w.shaped.outcomes q))

  marks-are : tab (mark_at c m) 6 ≡ zipped mark_from r.contracts r.outcomes
  marks-are =
      tab-is no_mark (mark_at c m) 6 (zipped mark_from r.contracts r.outcomes)
      (zipped-length mark_from r.contracts r.outcomes w.shaped.contracts w.shaped.outcomes)
      (both_at mark_from no_mark)

  margins-are : tab (margin_at c) 6 ≡ map (λ (x : Contract). x.margin) r.contracts
  margins-are =
      tab-is 0 (margin_at c) 6 _ (length-map r.contracts (λ (x : Contract). x.margin) ∙ w.shaped.contracts)
      (λ k q. margin-is r w.shaped w.holds k q
      ∙ sym (get_d-map-below (λ (x : Contract). x.margin) r.contracts k blank_contract 0 (rw w.shaped.contracts q)))

  pub end_read : {h : Header} {marks : List Mark} {margins : List ℕ} → h ≡ header_at c
      → marks ≡ tab (mark_at c m) 6
      → margins ≡ margin_at c 0 ∷ margin_at c 1 ∷ margin_at c 2 ∷ margin_at c 3 ∷ margin_at c 4 ∷ margin_at c 5 ∷ []
      → ◌≡◌ {A = DayEnd} (record { marks = marks; margins = margins; reference = h.reference; multiplier = h.multiplier }) (day_end_in r)
  unfolding tab
  end_read e p q = rw (e ∙ header_is r w.shaped w.holds, p ∙ marks-are, q ∙ margins-are)

  pub renewed-read : (k : ℕ) → k < 6
      → renewed_row (contract_at c m k) (outcome_at c m k) ≡ renewed_at r k
  renewed-read k q = both_at renewed_row blank_contract k q

  -- past the last row
  pub renewed-past : (k : ℕ) → 6 ≤ k
      → ◌≡◌ {A = Contract} (record { code = 0; margin = 0; previous = pos 0; tally = no_tally }) (renewed_at r k)
  renewed-past k q =
      ap (λ t. record { code = 0; margin = 0; previous = pos 0; tally = t }) blank-tally
      ∙ sym (get_or-eq_default (zipped renewed_row r.contracts r.outcomes) blank_contract {n = k}
      (omega (arith, zipped-length renewed_row r.contracts r.outcomes w.shaped.contracts w.shaped.outcomes)))

-- the first mark tells whether the first contract has ended
pub ended-read : {d : DayEnd} (r : Rows) → Shaped r → d ≡ day_end_in r → (get_or d.marks 0 no_mark).ending ≡ first_ended r
ended-read r s e =
    ap (λ (x : DayEnd). (get_or x.marks 0 no_mark).ending) e
    ∙ ap (λ (x : Mark). x.ending)
    (zipped-at mark_from no_mark blank_contract blank_outcome r.contracts r.outcomes 0 (omega (arith, s.contracts)) (omega (arith, s.outcomes)))
