-- What a sound memory's rows had before today is what its book had.
use Rattle.std.specs.Prelude.{◌≡◌, refl, List, [], ◌∷◌, map, ℕ, zero, suc, ◌-◌, ◌<◌, ℤ, length, get_or, replicate, Some, None}
use Rattle.std.proofs.Common.{sym, ap, ◌∙◌, map-id, arith}
use Rattle.std.proofs.Math.Decide.{dec_lt}
use Rattle.std.proofs.lemmas.Simd.{map-map}
use Rattle.std.proofs.lemmas.List.{length-map}
use Rattle.lists.specs.KeyedLaws.{table_at, table-alike}
use Rattle.lists.specs.Padded.{padded}
use Rattle.lists.specs.PaddedLaws.{padded-length, padded-past}
use Rattle.lists.specs.Rows.{map-append}
use Rattle.lists.specs.Seek.{seek}
use Rattle.lists.specs.Tabulate.{tab-is}
use Rattle.positions.specs.Deals.{flat}
use Rattle.positions.specs.declared.Position.{Position}
use Rattle.accounts.specs.declared.Account.{Account}
use Rattle.memory.specs.Rows.{blank_contract}
use Rattle.memory.specs.Layout.{header_at, contract_at, number_at, account_at}
use Rattle.memory.specs.MemoryLaws.{contract-is}
use Rattle.model.specs.Book.{Book, positions_of}
use Rattle.model.specs.Kept.{Kept}
use Rattle.model.proofs.KeptLaws.{kept-few}
use Rattle.standing.specs.Standing.{contract_row, rows_of, view}
use Rattle.standing.specs.Made.{Sound}
use Rattle.standing.specs.StandingLaws.{sound-kept, sound-holds}
use Rattle.standing.specs.MemberLaws.{member-at, member-none, member-account}
use Rattle.standing.specs.SoundLaws.{sound-shaped}
use Rattle.particulars.specs.Particulars.{previous_rates, nets_before, stood_of, no_stood, standing_of}
use Rattle.particulars.specs.Carried.{stood_at, stood}

-- ---- the rows, part by part
map-replicate : {X Y : Type 0} (f : X → Y) (n : ℕ) (x : X) → map f (replicate n x) ≡ replicate n (f x)
map-replicate f zero x = refl
map-replicate f (suc n) x = ap (λ l. f x ∷ l) (map-replicate f n x)

module _ {X Y Z : Type 0} (n : ℕ) (blank : Y) (row : X → Y) (part : Y → Z) (keys : List X) where
  part-of-rows : map part (padded n blank (map row keys)) ≡ padded n (part blank) (map (λ k. part (row k)) keys)
  part-of-rows =
      map-append part (map row keys) (replicate (n - length (map row keys)) blank)
      ∙ rw (map-map part row keys, length-map keys row, length-map keys (λ k. part (row k)), map-replicate part (n - length keys) blank) refl

-- ---- number by number
module _ {a b c d e f a' b' c' d' e' f' : ℤ} where
  pub six-same : a ≡ a' → b ≡ b' → c ≡ c' → d ≡ d' → e ≡ e' → f ≡ f'
      → a ∷ b ∷ c ∷ d ∷ e ∷ f ∷ [] ≡ a' ∷ b' ∷ c' ∷ d' ∷ e' ∷ f' ∷ []
  six-same p q r s t u = rw (p, q, r, s, t, u)

-- ---- the codes, the previous settlement rates and the nets before today of the six rows
module _ (b : Book) (n : ℕ) where
  pub standing-codes : map (λ x. x.code) (standing_of b n) ≡ padded 6 0 b.contracts.codes
  standing-codes = part-of-rows 6 no_stood (stood_of b n) (λ x. x.code) b.contracts.codes ∙ ap (padded 6 0) (map-id b.contracts.codes)

  pub standing-previous : map (λ x. x.previous) (standing_of b n) ≡ previous_rates b
  standing-previous = part-of-rows 6 no_stood (stood_of b n) (λ x. x.previous) b.contracts.codes

  pub standing-nets : map (λ x. x.net) (standing_of b n) ≡ nets_before b n
  standing-nets = part-of-rows 6 no_stood (stood_of b n) (λ x. x.net) b.contracts.codes

module _ {c : List ℕ} {m : List ℤ} (s : Sound c m) where
  abbrev b : Book
  b = view c m

  abbrev g : Kept b
  g = sound-kept s

  abbrev held : ℕ → List Position
  held n = padded 6 flat (positions_of b n)

  -- ---- a row of the contracts
  stood-is : (n k : ℕ) → k < 6 → stood_at (contract_at c m k) (get_or (held n) k flat) ≡ get_or (standing_of b n) k no_stood
  stood-is n k q =
      ap (λ row. stood_at row (get_or (held n) k flat)) (contract-is (rows_of b) (sound-shaped s) (sound-holds s) k q) ∙ go (dec_lt k (length b.contracts.codes))
    where
      go : Dec (k < length b.contracts.codes)
          → stood_at (get_or (padded 6 blank_contract (map (contract_row b) b.contracts.codes)) k blank_contract) (get_or (held n) k flat)
          ≡ get_or (standing_of b n) k no_stood
      go (yes p) =
          rw (table_at 6 blank_contract (contract_row b) b.contracts.codes k p, table_at 6 flat (b.accounts.position n) b.contracts.codes k p)
          (sym (table_at 6 no_stood (stood_of b n) b.contracts.codes k p))
      go (no p) =
          rw (
            padded-past 6 blank_contract (map (contract_row b) b.contracts.codes) k (omega (arith, length-map b.contracts.codes (contract_row b))),
            padded-past 6 flat (positions_of b n) k (omega (arith, length-map b.contracts.codes (b.accounts.position n))),
          )
          (sym (padded-past 6 no_stood (map (stood_of b n) b.contracts.codes) k (omega (arith, length-map b.contracts.codes (stood_of b n)))))

  -- all of them
  pub standing-is : (n : ℕ) → stood c m (held n) ≡ standing_of b n
  standing-is n =
      tab-is no_stood (λ k. stood_at (contract_at c m k) (get_or (held n) k flat)) 6 (standing_of b n)
      (padded-length 6 no_stood (map (stood_of b n) b.contracts.codes) (omega (arith, kept-few g, length-map b.contracts.codes (stood_of b n))))
      (stood-is n)

  -- ---- an account
  pub held-none : (n : ℕ) → seek (number_at c) n (header_at c).members 0 ≡ None → replicate 6 flat ≡ held n
  held-none n e =
      let strange = member-none g (sound-holds s) n e in
      sym (table-alike 6 flat (b.accounts.position n) b.contracts.codes (kept-few g) (λ k. g.framed.strange-positions n k strange))

  -- row i is one of the accounts', and its positions are those of account n
  pub held-at : (n i : ℕ) → seek (number_at c) n (header_at c).members 0 ≡ Some i
      → (i < 64) × ((account_at c m i).holdings.positions ≡ held n)
  held-at n i e =
      let at = member-at g (sound-holds s) n i e in (
        omega (arith, at.0, g.sized.members),
        ap (λ (a : Account). a.holdings.positions) (member-account g (sound-holds s) n i at.0 at.1.0),
      )
