-- The memory after each step of a close.
use Rattle.std.specs.Prelude.{◌≡◌, Bool, List, map, ℕ, ◌+◌, ◌≤◌, ◌<◌, ℤ, length, get_or, set, take, drop}
use Rattle.std.proofs.Math.Path.{refl}
use Rattle.std.proofs.Common.{sym, ap, ap₂, ◌∙◌, subst, arith, get_or-drop, drop_at, length-take-le}
use Rattle.std.proofs.lemmas.List.{length-map}
use mir.Val.{bool_byte}
use Rattle.lists.specs.Parts.{onto, onto-step, onto-all}
use Rattle.lists.specs.Rows.{get_d-map-below}
use Rattle.lists.specs.Zipped.{zipped, zipped-length, zipped-drop, zipped-keeps}
use Rattle.tallies.specs.Tally.{latest_of, tally_from}
use Rattle.booking.specs.Carried.{carried, all_carried}
use Rattle.positions.specs.Deals.{flat}
use Rattle.closing.specs.Bounds.{GoodDayEnd}
use Rattle.closing.specs.DayEnd.{at_close, with_core}
use Rattle.closing.specs.declared.DayEnd.{DayEnd}
use Rattle.accounts.specs.Accounts.{closed}
use Rattle.memory.specs.declared.contract_rows.Contract.{Contract}
use Rattle.memory.specs.declared.outcome_rows.Outcome.{Outcome}
use Rattle.memory.specs.Rows.{blank_contract, blank_outcome}
use Rattle.memory.specs.Layout.{header_at, with_header, with_contract_counts, with_contract_money, with_outcome_counts, with_outcome_money}
use Rattle.memory.specs.Memory.{Rows, Shaped, Holds, WholeTally, with_contracts, with_outcomes}
use Rattle.memory.specs.MemoryLaws.{header_is, put-header, put-contract, put-outcome, header-shaped, contract-shaped, outcome-shaped}
use Rattle.standing.specs.CloseRows.{outcome_in, outcome_for, priced, day_end_in, first_ended, closed_row, booked_with, booked}
use Rattle.standing.specs.CloseRows.{renewed_row, renewed_at, renewed_rows, renewed_with, renewed, shut_header, shut}
use Rattle.standing.specs.WalkLaws.{KeepsSix}
use Rattle.standing.specs.Turns.{Whole}
use Rattle.day_end.specs.Closable.{Priceable, Bookable}
use Rattle.day_end.specs.ReadLaws.{moved_at, moved-six}

-- ---- outcomes stored one by one. They are not asked about
pub priceable-still : {r : Rows} (os : List Outcome) → Priceable r → Priceable (with_outcomes r os)
priceable-still os p = record { few = p.few; rises = p.rises; tallies = p.tallies }

abbrev pub priced_to : ℤ → ℕ → Rows → Rows
priced_to final k r = with_outcomes r (onto (map (outcome_in r final) r.contracts) r.outcomes k)

module _ (final : ℤ) (r : Rows) (s : Shaped r) where
  abbrev found : List Outcome
  found = map (outcome_in r final) r.contracts

  found-six : length found ≡ 6
  found-six = length-map r.contracts (outcome_in r final) ∙ s.contracts

  module _ {c : List ℕ} {m : List ℤ} where
    pub priced-step : (k : ℕ) → k < 6 → Whole c m (priced_to final k r) → {c' : List ℕ} {m' : List ℤ} {o : Outcome}
        → o ≡ outcome_for final k r
        → c' ≡ with_outcome_counts c k o → m' ≡ with_outcome_money m k o → Whole c' m' (priced_to final (k + 1) r)
    priced-step k q w {c'} {m'} {o} e p t = subst (λ os. Whole c' m' (with_outcomes r os)) next (record {
      shaped = outcome-shaped (priced_to final k r) w.shaped k o;
      holds = rw (p, t) (put-outcome (priced_to final k r) w.shaped w.holds k q o);
    })
      where
        next : set (onto found r.outcomes k) k o ≡ onto found r.outcomes (k + 1)
        next =
            ap (set (onto found r.outcomes k) k)
            (e ∙ sym (get_d-map-below (outcome_in r final) r.contracts k blank_contract blank_outcome (rw s.contracts q)))
            ∙ onto-step blank_outcome found r.outcomes k (rw found-six q) (rw s.outcomes q)

    pub priced-end : (k : ℕ) → k ≡ 6 → Whole c m (priced_to final k r) → Whole c m (priced final r)
    priced-end k e w =
        subst (λ os. Whole c m (with_outcomes r os)) (onto-all found r.outcomes k (found-six ∙ sym e) (s.outcomes ∙ sym e)) w

-- ---- accounts
pub closed-six : (ended : Bool) (d : DayEnd) → GoodDayEnd d → KeepsSix (closed_row ended d)
unfolding closed with_core at_close all_carried
closed-six ended d g a h =
    moved-six ended flat (zipped carried a.holdings.positions d.marks)
    (zipped-length carried a.holdings.positions d.marks h g.marks.six)

-- ---- contracts stored one by one
abbrev pub renewed_to : Bool → ℕ → Rows → Rows
renewed_to ended k r = with_contracts r (onto (renewed_rows ended r) r.contracts k)

-- from the row on that is next, all is as it was
zipped-later : {X Y Z : Type 0} (f : X → Y → Z) (d : Z) (v s : List X) (ys : List Y) (k g : ℕ) → k ≤ length v
    → get_or (zipped f (onto v s k) ys) (k + g) d ≡ get_or (zipped f s ys) (k + g) d
zipped-later f d v s ys k g h =
    sym (get_or-drop k (zipped f (onto v s k) ys) g d)
    ∙ ap (λ l. get_or l g d)
    (zipped-drop f k (onto v s k) ys
    ∙ ap (λ l. zipped f l (drop k ys)) (drop_at (take k v) (drop k s) k (length-take-le k v h))
    ∙ sym (zipped-drop f k s ys))
    ∙ get_or-drop k (zipped f s ys) g d

module _ (ended : Bool) (r : Rows) (s : Shaped r) where
  renewed-six : length (renewed_rows ended r) ≡ 6
  renewed-six = moved-six ended blank_contract _ (zipped-length renewed_row r.contracts r.outcomes s.contracts s.outcomes)

  renewed-tally : (k : ℕ) → WholeTally (get_or (renewed_rows ended r) k blank_contract).tally
  unfolding tally_from latest_of
  renewed-tally k =
      rw (moved_at ended blank_contract (zipped renewed_row r.contracts r.outcomes) k)
      (zipped-keeps renewed_row (λ (x : Contract). WholeTally x.tally) blank_contract blank_contract blank_outcome r.contracts r.outcomes
      (record { five = refl; sides = refl })
      (λ i. record { five = refl; sides = refl })
      (k + bool_byte ended))

  module _ {c : List ℕ} {m : List ℤ} where
    pub renewed-step : (k : ℕ) → k < 6 → Whole c m (renewed_to ended k r) → {c' : List ℕ} {m' : List ℤ} {x : Contract}
        → x ≡ renewed_at (renewed_to ended k r) (k + bool_byte ended)
        → c' ≡ with_contract_counts c k x → m' ≡ with_contract_money m k x → Whole c' m' (renewed_to ended (k + 1) r)
    renewed-step k q w {c'} {m'} {x} e p t = subst (λ xs. Whole c' m' (with_contracts r xs)) next (record {
      shaped = contract-shaped (renewed_to ended k r) w.shaped k x (subst (λ (y : Contract). WholeTally y.tally) (sym row) (renewed-tally k));
      holds = rw (p, t) (put-contract (renewed_to ended k r) w.shaped w.holds k q x);
    })
      where
        row : x ≡ get_or (renewed_rows ended r) k blank_contract
        row =
            e
            ∙ zipped-later renewed_row blank_contract (renewed_rows ended r) r.contracts r.outcomes k (bool_byte ended) (omega (arith, renewed-six))
            ∙ sym (moved_at ended blank_contract (zipped renewed_row r.contracts r.outcomes) k)

        next : set (onto (renewed_rows ended r) r.contracts k) k x ≡ onto (renewed_rows ended r) r.contracts (k + 1)
        next =
            ap (set (onto (renewed_rows ended r) r.contracts k) k) row
            ∙ onto-step blank_contract (renewed_rows ended r) r.contracts k (rw renewed-six q) (rw s.contracts q)

    pub renewed-end : (k : ℕ) → k ≡ 6 → Whole c m (renewed_to ended k r) → Whole c m (renewed_with ended r)
    renewed-end k e w =
        subst (λ xs. Whole c m (with_contracts r xs)) (onto-all (renewed_rows ended r) r.contracts k (renewed-six ∙ sym e) (s.contracts ∙ sym e)) w

-- ---- one step after the other
pub bookable-still : {d : DayEnd} {r : Rows} (os : List Outcome) → Bookable d r → Bookable d (with_outcomes r os)
bookable-still os p = record { members = p.members; accounts = p.accounts; end = p.end }

module _ {c : List ℕ} {m : List ℤ} (r : Rows) {ended : Bool} (e : ended ≡ first_ended r) where
  pub booked-whole : {d : DayEnd} → d ≡ day_end_in r → Whole c m (booked_with ended d r) → Whole c m (booked r)
  booked-whole p = subst (Whole c m) (ap₂ (λ t d. booked_with t d r) e p)

  pub renewed-whole : Whole c m (renewed_with ended r) → Whole c m (renewed r)
  renewed-whole = subst (λ t. Whole c m (renewed_with t r)) e

  pub shut-whole : Whole c m r → {c' : List ℕ} → c' ≡ with_header c (shut_header ended (header_at c)) → Whole c' m (shut r)
  shut-whole w p =
      let x = shut_header (first_ended r) r.header in record {
        shaped = header-shaped r w.shaped x;
        holds = subst (λ l. Holds l m (shut r))
            (sym (p ∙ ap₂ (λ t h. with_header c (shut_header t h)) e (header_is r w.shaped w.holds)))
            (put-header r w.shaped w.holds x);
      }
