-- Where a code or an account stands, from a search of the memory.
use Rattle.std.specs.Prelude.{◌≡◌, true, false, List, ℕ, ℤ, length, get_or, Some, None}
use Rattle.std.proofs.Common.{sym, ◌∙◌, subst}
use Rattle.lists.specs.Has.{has}
use Rattle.lists.specs.Keyed.{has-at, found_at, found_none}
use Rattle.lists.specs.Seek.{seek}
use Rattle.memory.specs.Layout.{header_at, code_at, number_at}
use Rattle.memory.specs.Memory.{Holds}
use Rattle.model.specs.Book.{Book, is_listed}
use Rattle.model.specs.Kept.{Kept}
use Rattle.standing.specs.Standing.{rows_of}
use Rattle.standing.specs.MemberLaws.{member-search, code-search}
use Rattle.standing.specs.DealLaws.{Stands}

stands : (keys : List ℕ) (key place : ℕ) → seek (λ i. get_or keys i 0) key (length keys) 0 ≡ Some place → Stands keys key place
stands keys key place e = let f = found_at keys key place e in record { below = f.0; here = f.1.0 }

module _ {b : Book} {c : List ℕ} {m : List ℤ} (g : Kept b) (h : Holds c m (rows_of b)) where
  pub code-at : (code k : ℕ) → seek (code_at c) code (header_at c).listed 0 ≡ Some k → Stands b.contracts.codes code k
  code-at code k e = stands b.contracts.codes code k (sym (code-search g h code) ∙ e)

  pub code-none : (code : ℕ) → seek (code_at c) code (header_at c).listed 0 ≡ None → is_listed b code ≡ false
  code-none code e = found_none b.contracts.codes code (sym (code-search g h code) ∙ e)

  pub number-at : (n i : ℕ) → seek (number_at c) n (header_at c).members 0 ≡ Some i → Stands b.accounts.members n i
  number-at n i e = stands b.accounts.members n i (sym (member-search g h n) ∙ e)

pub has_here : {keys : List ℕ} {key place : ℕ} → Stands keys key place → has key keys ≡ true
has_here {keys} {key} {place} s = subst (λ n. has n keys ≡ true) s.here (has-at keys place s.below)
