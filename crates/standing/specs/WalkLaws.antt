-- A walk that changes the accounts' rows one after the other: the memory after some turns.
use Rattle.std.specs.Prelude.{◌≡◌, List, map, ℕ, ◌+◌, ◌<◌, ℤ, length, get_or}
use Rattle.std.proofs.Common.{sym, ap, ◌∙◌, arith}
use Rattle.std.proofs.lemmas.Simd.{map-map}
use Rattle.std.proofs.lemmas.List.{length-map}
use Rattle.lists.specs.Padded.{padded}
use Rattle.lists.specs.Rows.{first_rows, first_rows-at, first_rows-step, first_rows-length, first_rows-padded, first_rows-keeps}
use Rattle.accounts.specs.declared.Account.{Account}
use Rattle.memory.specs.Rows.{blank_account}
use Rattle.memory.specs.Layout.{Long, account_at, with_account_counts, with_account_money}
use Rattle.memory.specs.Memory.{Rows, Holds, Shaped, with_accounts}
use Rattle.memory.specs.MemoryLaws.{memory-long, account-is, put-account}
use Rattle.model.specs.Book.{Book}
use Rattle.model.specs.Kept.{Kept}
use Rattle.standing.specs.Standing.{account_row, rows_of}
use Rattle.standing.specs.StandingLaws.{rows-shaped}
use Rattle.standing.specs.MemberLaws.{member-row}
use Rattle.standing.specs.Turns.{Turns}

-- ---- the rows, the first i accounts changed
abbrev pub walked : Rows → (Account → Account) → ℕ → Rows
walked r f i = with_accounts r (first_rows f i r.accounts)

-- an account has six positions still
abbrev pub KeepsSix : (Account → Account) → Type 0
KeepsSix f = (a : Account) → length a.holdings.positions ≡ 6 → length (f a).holdings.positions ≡ 6

-- before the first turn
pub walk_start : {c : List ℕ} {m : List ℤ} {r : Rows} (f : Account → Account) → Holds c m r → Holds c m (walked r f 0)
walk_start f h = record { counts = h.counts; money = h.money }

module _ (r : Rows) (s : Shaped r) (f : Account → Account) (six : KeepsSix f) where
  pub walked-shaped : (i : ℕ) → Shaped (walked r f i)
  walked-shaped i = record {
    exceptions = s.exceptions;
    contracts = s.contracts;
    outcomes = s.outcomes;
    accounts = first_rows-length f r.accounts i ∙ s.accounts;
    tallies = s.tallies;
    positions = first_rows-keeps (λ (a : Account). length a.holdings.positions ≡ 6) blank_account f i r.accounts six s.positions;
  }

  module _ {c : List ℕ} {m : List ℤ} (i : ℕ) (h : Holds c m (walked r f i)) where
    pub walk-long : Long c m
    walk-long = memory-long (walked r f i) (walked-shaped i) h

    module _ (q : i < 64) where
      -- the account that a turn is at is as it was
      pub walk-row : account_at c m i ≡ get_or r.accounts i blank_account
      walk-row =
          account-is (walked r f i) (walked-shaped i) h i q
          ∙ first_rows-at f r.accounts i blank_account (rw s.accounts q)

      -- and is put back changed
      pub walk_step : {c' : List ℕ} {m' : List ℤ} {a : Account} → a ≡ f (account_at c m i)
          → c' ≡ with_account_counts c i a → m' ≡ with_account_money m i a → Holds c' m' (walked r f (i + 1))
      walk_step e p t =
          rw (p, t, e ∙ ap f walk-row, ← first_rows-step f r.accounts i blank_account (rw s.accounts q))
          (put-account (walked r f i) (walked-shaped i) h i q (f (get_or r.accounts i blank_account)))

-- ---- whatever rows a memory holds, the first i accounts changed
module _ (c₀ : List ℕ) (m₀ : List ℤ) (f : Account → Account) where
  pub walks-none : Turns c₀ m₀ c₀ m₀ (λ r. walked r f 0)
  walks-none r w = w

  pub walks_more : {c c' : List ℕ} {m m' : List ℤ} (i : ℕ) {a : Account} → KeepsSix f → Turns c₀ m₀ c m (λ r. walked r f i) → i < 64
      → a ≡ f (account_at c m i) → c' ≡ with_account_counts c i a → m' ≡ with_account_money m i a → Turns c₀ m₀ c' m' (λ r. walked r f (i + 1))
  walks_more i six p q e g h r w = record {
    shaped = walked-shaped r w.shaped f six (i + 1);
    holds = walk_step r w.shaped f six i (p r w).holds q e g h;
  }

-- ---- the members of a book
module _ {b : Book} (g : Kept b) (f : Account → Account) where
  pub walk-member : KeepsSix f → {c : List ℕ} {m : List ℤ} (i : ℕ) → Holds c m (walked (rows_of b) f i) → i < length b.accounts.members
      → account_at c m i ≡ account_row b (get_or b.accounts.members i 0)
  walk-member six i h q = walk-row (rows_of b) (rows-shaped g) f six i h (omega (arith, g.sized.members)) ∙ member-row g i q

-- after the last turn each member's row is changed, and the others are blank still
pub walk_end : (b : Book) (f : Account → Account)
    → first_rows f (length b.accounts.members) (rows_of b).accounts ≡ padded 64 blank_account (map (λ n. f (account_row b n)) b.accounts.members)
walk_end b f =
    ap (λ k. first_rows f k (rows_of b).accounts) (sym (length-map b.accounts.members (account_row b)))
    ∙ first_rows-padded f 64 blank_account (map (account_row b) b.accounts.members)
    ∙ ap (padded 64 blank_account) (map-map f (account_row b) b.accounts.members)
