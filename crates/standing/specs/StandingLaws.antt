-- A book and its memory say the same.
use Rattle.std.specs.Prelude.{◌≡◌, refl, false, List, [], map, ℕ, suc, ◌≤◌, ℤ, pos, length, get_or, take, replicate}
use Rattle.std.proofs.Common.{sym, ap, ◌∙◌, subst, map-id}
use Rattle.std.proofs.Math.Path.{fun_ext}
use Rattle.std.proofs.lemmas.Simd.{map-map}
use Rattle.std.proofs.lemmas.List.{length-map}
use Rattle.lists.specs.Keep.{map-keeps}
use Rattle.lists.specs.Has.{has}
use Rattle.lists.specs.Block.{block}
use Rattle.lists.specs.Padded.{padded}
use Rattle.lists.specs.PaddedLaws.{padded-length, padded-keeps, take-padded}
use Rattle.lists.specs.Look.{look}
use Rattle.lists.specs.LookLaws.{look-same, look-padded, look-both}
use Rattle.rates.specs.Rules.{number_of}
use Rattle.rates.specs.declared.Rule.{Rule}
use Rattle.rates.specs.declared.Rule.TheVariants.{LastHour, LastFive, Quotes, Previous, Final}
use Rattle.positions.specs.Deals.{flat}
use Rattle.funds.specs.Funds.{new_funds}
use Rattle.memory.specs.Rows.{blank_contract, blank_outcome, blank_account}
use Rattle.memory.specs.Layout.{counts_long, money_long}
use Rattle.memory.specs.Memory.{counts_of, money_of, Shaped, WholeTally, Holds}
use Rattle.memory.specs.MemoryLaws.{rows_are}
use Rattle.model.specs.Book.{Book, Point, unstarted, unopened, unsettled, settled_today, ended, no_terms, no_tally, no_settled, no_held, new, besides, positions_of}
use Rattle.model.specs.Calls.{Call}
use Rattle.model.specs.Refusals.{stage}
use Rattle.model.specs.Kept.{Framed, Kept}
use Rattle.model.proofs.KeptLaws.{kept-few}
use Rattle.standing.specs.Standing.{contract_row, outcome_row, account_row, rows_of, point_of, rule_of, terms_of, settled_of, book_of, view}
use Rattle.standing.specs.Made.{Sound, decided, Made}

-- ---- a row for each key, and room for n
module _ {X : Type 0} (n : ℕ) (d : X) (row : ℕ → X) (keys : List ℕ) where
  rows_long : length keys ≤ n → length (padded n d (map row keys)) ≡ n
  rows_long h = padded-length n d (map row keys) (subst (λ k. k ≤ n) (sym (length-map keys row)) h)

  rows-keep : (P : X → Type 0) → P d → ((k : ℕ) → P (row k)) → (i : ℕ) → P (get_or (padded n d (map row keys)) i d)
  rows-keep P p h = padded-keeps n d (map row keys) P p (map-keeps P d row keys p h)

  rows_back : take (length keys) (padded n d (map row keys)) ≡ map row keys
  rows_back = ap (λ k. take k (padded n d (map row keys))) (sym (length-map keys row)) ∙ take-padded n d (map row keys)

-- a part of each row
module _ {X A : Type 0} (row : ℕ → X) (part : X → A) (f : ℕ → A) (keys : List ℕ) (e : (k : ℕ) → part (row k) ≡ f k) where
  parts-back : map part (map row keys) ≡ map f keys
  parts-back = map-map part row keys ∙ ap (λ g. map g keys) (fun_ext e)

  values-back : (other : A) → ((k : ℕ) → has k keys ≡ false → f k ≡ other) → look keys (map part (map row keys)) other ≡ f
  values-back other h = ap (λ l. look keys l other) parts-back ∙ look-same f other keys h

keys-back : {X : Type 0} (row : ℕ → X) (key : X → ℕ) (keys : List ℕ) → ((k : ℕ) → key (row k) ≡ k) → map key (map row keys) ≡ keys
keys-back row key keys e = parts-back row key (λ k. k) keys e ∙ map-id keys

-- ---- the rows of a book have the memory's form
pub rows-shaped : {b : Book} → Kept b → Shaped (rows_of b)
rows-shaped {b} g = record {
  exceptions = padded-length 400 0 b.settings.exceptions g.sized.settings.few;
  contracts = rows_long 6 blank_contract (contract_row b) b.contracts.codes (kept-few g);
  outcomes = rows_long 6 blank_outcome (outcome_row b) b.results.codes g.keys.few;
  accounts = rows_long 64 blank_account (account_row b) b.accounts.members g.sized.members;
  tallies = rows-keep 6 blank_contract (contract_row b) b.contracts.codes (λ x. WholeTally x.tally)
      (record { five = refl; sides = refl })
      (λ c. let s = g.sized.contracts.tallies c in record { five = s.five; sides = s.sides });
  positions = rows-keep 64 blank_account (account_row b) b.accounts.members (λ a. length a.holdings.positions ≡ 6) refl
      (λ n. rows_long 6 flat (b.accounts.position n) b.contracts.codes (kept-few g));
}

-- ---- and say what the book says
point-back : (p : Point) → point_of (stage p) ≡ p
point-back unstarted = refl
point-back unopened = refl
point-back unsettled = refl
point-back settled_today = refl
point-back ended = refl

rule-back : (r : Rule) → rule_of (number_of r) ≡ r
rule-back LastHour = refl
rule-back LastFive = refl
rule-back Quotes = refl
rule-back Previous = refl
rule-back Final = refl

pub settled_back : (b : Book) (c : ℕ) → settled_of (outcome_row b c) ≡ b.results.settled c
settled_back b c = rw (rule-back (b.results.settled c).rule)

positions-back : {b : Book} → Framed b
    → let rows = map (λ a. a.holdings.positions) (map (account_row b) b.accounts.members) in
    (λ n. look b.contracts.codes (look b.accounts.members rows [] n) flat) ≡ b.accounts.position
positions-back {b} f =
    rw (map-map (λ a. a.holdings.positions) (account_row b) b.accounts.members)
    (look-both b.accounts.position flat (λ n. padded 6 flat (positions_of b n)) b.accounts.members b.contracts.codes
    f.strange-positions
    (λ n. look-padded (b.accounts.position n) flat b.contracts.codes _
    ∙ look-same (b.accounts.position n) flat b.contracts.codes (f.unlisted n)))

pub book-of-rows : {b : Book} → Kept b → book_of (rows_of b) ≡ b
book-of-rows {b} g = rw (
  take-padded 400 0 b.settings.exceptions,
  point-back b.today.point,
  rows_back 6 blank_contract (contract_row b) b.contracts.codes,
  rows_back 6 blank_outcome (outcome_row b) b.results.codes,
  rows_back 64 blank_account (account_row b) b.accounts.members,
  keys-back (contract_row b) (λ x. x.code) b.contracts.codes (λ c. refl),
  keys-back (outcome_row b) (λ x. x.code) b.results.codes (λ c. refl),
  keys-back (account_row b) (λ a. a.number) b.accounts.members (λ n. refl),
  values-back (contract_row b) terms_of b.contracts.terms b.contracts.codes (λ c. refl) no_terms
      (λ c e. (g.framed.unlisted-terms c e).0),
  values-back (contract_row b) (λ x. x.tally) b.contracts.tally b.contracts.codes (λ c. refl) no_tally
      (λ c e. (g.framed.unlisted-terms c e).1),
  values-back (outcome_row b) settled_of b.results.settled b.results.codes (settled_back b) no_settled
      g.framed.unanswered,
  values-back (account_row b) (λ a. besides a.holdings) b.accounts.held b.accounts.members (λ n. refl) no_held
      (λ n e. (g.framed.strangers n e).0),
  values-back (account_row b) (λ a. a.funds) b.accounts.funds b.accounts.members (λ n. refl) new_funds
      (λ n e. (g.framed.strangers n e).1),
  positions-back g.framed,
)

pub view-is : {c : List ℕ} {m : List ℤ} {b : Book} → Kept b → Holds c m (rows_of b) → view c m ≡ b
unfolding view
view-is {c} {m} {b} g h = ap book_of (rows_are (rows_of b) (rows-shaped g) h) ∙ book-of-rows g

-- ---- a new book's memory is all zeros
pub new-rows : (counts_of (rows_of new) ≡ replicate counts_long 0) × (money_of (rows_of new) ≡ replicate money_long (pos 0))
unfolding new block
new-rows = (refl, refl)

-- ---- a sound memory
-- that of a kept book
pub sound-of : {c : List ℕ} {m : List ℤ} {b : Book} → Kept b → Holds c m (rows_of b) → Sound c m
sound-of {c} {m} k h =
    let same = sym (view-is k h) in record { told = λ _. (subst Kept same k, subst (λ b. Holds c m (rows_of b)) same h) }

module _ {c : List ℕ} {m : List ℤ} (s : Sound c m) where
  pub sound-kept : Kept (view c m)
  sound-kept = (s.told tt).0

  pub sound-holds : Holds c m (rows_of (view c m))
  sound-holds = (s.told tt).1

  -- a refusal leaves it as it was
  pub refused-made : (call : Call) (k : ℕ) → decided (view c m) call ≡ suc k → Made c m call (suc k) c m
  refused-made call k e = record { answers = sym e; memory = sound-holds }
