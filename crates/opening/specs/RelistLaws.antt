-- The rows that a memory has when the codes of a day are listed in it.
use Rattle.std.specs.Prelude.{◌≡◌, refl, List, ℕ, ◌≤◌, ltb, ℤ, pos, get_or}
use Rattle.std.proofs.Common.{sym, ap, ap₂, ◌∙◌, subst, arith}
use Rattle.std.proofs.Math.Path.{fun_ext}
use Rattle.lists.specs.Keep.{cond-keeps}
use Rattle.lists.specs.Seek.{seek, seek-same}
use Rattle.lists.specs.Tabulate.{tab-at, tab-length}
use Rattle.tallies.specs.Tally.{tally_from, latest_of}
use Rattle.memory.specs.declared.header_row.Header.{Header}
use Rattle.memory.specs.declared.contract_rows.Contract.{Contract}
use Rattle.memory.specs.Rows.{blank_contract}
use Rattle.memory.specs.Layout.{header_at, contract_at, code_at}
use Rattle.memory.specs.Memory.{Rows, WholeTally, with_contracts}
use Rattle.memory.specs.MemoryLaws.{header_is, contract-is, code_is}
use Rattle.model.specs.Book.{no_tally}
use Rattle.standing.specs.WalkLaws.{walked}
use Rattle.standing.specs.OpenRows.{places_by, places_in, contract_with, relisted_row, rows_by, relisted, relisted_rows}
use Rattle.standing.specs.OpenRowLaws.{rows-by}
use Rattle.standing.specs.Turns.{Whole, Turns}
use Rattle.opening.specs.Putting.{SixRows}

-- ---- the rows of a new day are six, with nothing traded
none-whole : WholeTally no_tally
unfolding tally_from latest_of
none-whole = record { five = refl; sides = refl }

row-whole : (x : Contract) (place code : ℕ) (rate : ℤ) (margin : ℕ) → WholeTally (relisted_row x place code rate margin).tally
row-whole x place code rate margin =
    cond-keeps (λ (y : Contract). WholeTally y.tally) (ltb place 6) (contract_with code x.previous x.margin) (contract_with code rate margin)
    (λ e. none-whole)
    (λ e. none-whole)

pub six-rows : (row : ℕ → Contract) (places codes : List ℕ) (rates : List ℤ) (margins : List ℕ) → SixRows (rows_by row places codes rates margins)
six-rows row places codes rates margins = record {
  six = tab-length _ 6;
  whole = λ k d q. subst (λ (x : Contract). WholeTally x.tally) (sym (tab-at d _ 6 k q))
      (row-whole (row (get_or places k 0)) (get_or places k 0) (get_or codes k 0) (get_or rates k (pos 0)) (get_or margins k 0));
}

-- ---- the code's steps, one after the other
-- where the codes stood, as the code finds it
abbrev pub places_at : List ℕ → List ℕ → List ℕ
places_at c = places_by (λ code. seek (code_at c) code (header_at c).listed 0)

module _ (c : List ℕ) (m : List ℤ) (few : (header_at c).listed ≤ 6) (codes : List ℕ) (rates : List ℤ) (margins : List ℕ) where
  places-are : (r : Rows) → Whole c m r → places_at c codes ≡ places_in r codes
  places-are r w =
      let is = ap (λ (x : Header). x.listed) (header_is r w.shaped w.holds) in
      ap (λ find. places_by find codes) (fun_ext λ code.
      ap (λ n. seek (code_at c) code n 0) is
      ∙ seek-same (code_at c) (λ k. (get_or r.contracts k blank_contract).code) code r.header.listed 0
      (λ k q. code_is r w.shaped w.holds k (omega arith)))

  abbrev rows_at : List Contract
  rows_at = rows_by (contract_at c m) (places_at c codes) codes rates margins

  relisted-is : (r : Rows) → Whole c m r
      → walked (with_contracts r rows_at) (relisted (places_at c codes)) (header_at c).members ≡ relisted_rows codes rates margins r
  relisted-is r w =
      ap (λ (x : Header). walked (with_contracts r rows_at) (relisted (places_at c codes)) x.members) (header_is r w.shaped w.holds)
      ∙ ap₂ (λ places l. walked (with_contracts r l) (relisted places) r.header.members) (places-are r w)
      (rows-by (contract_at c m) _ (places_at c codes) codes rates margins (contract-is r w.shaped w.holds)
      ∙ ap (λ places. rows_by (λ k. get_or r.contracts k blank_contract) places codes rates margins) (places-are r w))

  pub relist-turns : {c₁ c₂ : List ℕ} {m₁ m₂ : List ℤ} → Turns c m c₁ m₁ (λ r. with_contracts r rows_at)
      → Turns c₁ m₁ c₂ m₂ (λ r. walked r (relisted (places_at c codes)) (header_at c).members) → Turns c m c₂ m₂ (relisted_rows codes rates margins)
  relist-turns {c₂ = c₂} {m₂ = m₂} p q r w = subst (Whole c₂ m₂) (relisted-is r w) (q (with_contracts r rows_at) (p r w))
