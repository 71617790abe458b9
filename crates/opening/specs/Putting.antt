-- Loops that put rows back one by one: what they make of whatever rows a memory holds.
use Rattle.std.specs.Prelude.{◌≡◌, List, ℕ, ◌+◌, ◌≤◌, ◌<◌, ℤ, length, get_or}
use Rattle.std.proofs.Common.{ap, ◌∙◌, arith}
use Rattle.lists.specs.Parts.{onto, onto-step, onto-all}
use Rattle.memory.specs.declared.contract_rows.Contract.{Contract}
use Rattle.memory.specs.Layout.{Long, with_contract_counts, with_contract_money}
use Rattle.memory.specs.Memory.{WholeTally, with_contracts}
use Rattle.memory.specs.MemoryLaws.{put-contract, contract-shaped}
use Rattle.standing.specs.Turns.{Turns}

-- memory as long as it was
pub still-long : {c c' : List ℕ} {m m' : List ℤ} → Long c m → length c' ≡ length c → length m' ≡ length m → Long c' m'
still-long h e f = record { counts = e ∙ h.counts; money = f ∙ h.money }

-- ---- six contracts, each with a whole tally
pub record SixRows (rows : List Contract) : Type 0 where
  pub six : length rows ≡ 6
  pub whole : (k : ℕ) (d : Contract) → k < 6 → WholeTally (get_or rows k d).tally

module _ (c₀ : List ℕ) (m₀ : List ℤ) (rows : List Contract) where
  -- the first j of them are put
  pub record Putting (c : List ℕ) (m : List ℤ) (j : ℕ) : Type 0 where
    pub upto : j ≤ 6
    pub turns : Turns c₀ m₀ c m (λ r. with_contracts r (onto rows r.contracts j))

  pub putting-none : Putting c₀ m₀ 0
  putting-none = record { upto = omega arith; turns = λ r w. w }

  module _ (k : SixRows rows) {c : List ℕ} {m : List ℤ} {j : ℕ} (p : Putting c m j) where
    pub putting-more : {c' : List ℕ} {m' : List ℤ} (d : Contract) → j < 6 → c' ≡ with_contract_counts c j (get_or rows j d)
        → m' ≡ with_contract_money m j (get_or rows j d) → Putting c' m' (j + 1)
    putting-more {c'} {m'} d q e f = record { upto = omega arith; turns = more }
      where
        more : Turns c₀ m₀ c' m' (λ r. with_contracts r (onto rows r.contracts (j + 1)))
        more r w =
            let before = with_contracts r (onto rows r.contracts j) in
            let b = p.turns r w in
            let step = onto-step d rows r.contracts j (omega (arith, k.six)) (omega (arith, w.shaped.contracts)) in
            rw (e, f, ← step) (record {
              shaped = contract-shaped before b.shaped j (get_or rows j d) (k.whole j d q);
              holds = put-contract before b.shaped b.holds j q (get_or rows j d);
            })

    pub putting-all : 6 ≤ j → Turns c₀ m₀ c m (λ r. with_contracts r rows)
    putting-all q r w =
        let e : j ≡ 6 = omega arith in
        rw (ap (onto rows r.contracts) e ∙ onto-all rows r.contracts 6 k.six w.shaped.contracts) at (p.turns r w)
