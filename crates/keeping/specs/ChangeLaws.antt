-- A special margin or limits set: the model's answer, and the memory of the book after it.
use Rattle.std.specs.Prelude.{◌≡◌, List, [], ℕ, ltb, ℤ, Result, Ok, Err}
use Rattle.std.proofs.Math.Path.{refl}
use Rattle.std.proofs.Common.{sym, ap, ◌∙◌, subst}
use Rattle.lists.specs.Padded.{padded}
use Rattle.positions.specs.Deals.{flat}
use Rattle.positions.specs.declared.Position.{Position}
use Rattle.holdings.specs.Holdings.{with_limits, with_special}
use Rattle.accounts.specs.Accounts.{with_holdings}
use Rattle.accounts.specs.declared.Account.{Account}
use Rattle.memory.specs.Layout.{header_at, account_at, with_account_counts, with_account_money}
use Rattle.memory.specs.Memory.{Holds}
use Rattle.memory.specs.MemoryLaws.{put-account}
use Rattle.model.specs.Book.{Book, Held, holding, besides, positions_of, holdings_of, replaced}
use Rattle.model.specs.Effects.{with_held, after}
use Rattle.standing.specs.Standing.{account_row, rows_of, view}
use Rattle.standing.specs.Made.{Sound, Made}
use Rattle.standing.specs.StandingLaws.{sound-kept, sound-holds}
use Rattle.standing.specs.MemberLaws.{held-row}
use Rattle.standing.specs.SoundLaws.{sound-shaped, none_left}
use Rattle.places.specs.Places.{place_in}
use Rattle.places.specs.PlaceLaws.{Named, Names, refused-place, named}
use Rattle.refusals.specs.Refusals.{number_of}
use Rattle.refusals.specs.declared.Refusal.{Refusal}
use Rattle.keeping.specs.Changes.{changed, change_call}
use Rattle.keeping.specs.declared.members.Change.{Change}
use Rattle.keeping.specs.declared.members.Change.TheVariants.{Special, Coming}

-- ---- by what is set
-- positions do not matter to it
changed-besides : (h : Held) (ps qs : List Position) (x : Change) → changed (holding h ps) x ≡ holding (besides (changed (holding h qs) x)) ps
unfolding with_special with_limits
changed-besides h ps qs (Special x) = refl
changed-besides h ps qs (Coming l) = refl

module _ (b : Book) (n : ℕ) where
  change-names : (x : Change) → Names b (change_call n x) (ltb 0) n []
  change-names (Special x) = refl
  change-names (Coming l) = refl

  change-after : (x : Change)
      → after b (change_call n x) ≡ with_held b (replaced b.accounts.held n (besides (changed (holdings_of b n) x)))
  unfolding after
  change-after (Special x) = refl
  change-after (Coming l) = refl

module _ {c : List ℕ} {m : List ℤ} (s : Sound c m) (n : ℕ) (x : Change) {p : Result ℕ Refusal}
    (finds : p ≡ place_in c (ltb 0 (header_at c).point) n) where
  abbrev book : Book
  book = view c m

  pub change-refused : {refusal : Refusal} → p ≡ Err refusal → Made c m (change_call n x) (number_of refusal) c m
  change-refused = refused-place s n (change_call n x) (ltb 0) [] (change-names book n x) finds

  module _ {i : ℕ} (q : p ≡ Ok i) where
    pub changer : Named book c m (change_call n x) [] n i
    changer = named s n (change_call n x) (ltb 0) [] (change-names book n x) finds q

    abbrev after-row : Account
    after-row = with_holdings (account_row book n) (holding (besides (changed (holdings_of book n) x)) (padded 6 flat (positions_of book n)))

    holds-changed : Holds (with_account_counts c i after-row) (with_account_money m i after-row) (rows_of (after book (change_call n x)))
    holds-changed =
        subst (Holds _ _) (held-row (sound-kept s) n i changer.below changer.is _ ∙ ap rows_of (sym (change-after book n x)))
        (put-account (rows_of book) (sound-shaped s) (sound-holds s) i changer.small after-row)

    pub changed-made : {a a' : Account} {c' : List ℕ} {m' : List ℤ} → a ≡ account_at c m i → a' ≡ with_holdings a (changed a.holdings x)
        → c' ≡ with_account_counts c i a' → m' ≡ with_account_money m i a' → Made c m (change_call n x) 0 c' m'
    changed-made reads changes counts money =
        let same = ap (λ (r : Account). with_holdings r (changed r.holdings x)) (reads ∙ changer.row) in
        let sets = ap (with_holdings (account_row book n)) (changed-besides (book.accounts.held n) _ (positions_of book n) x) in
        rw (counts, money, changes ∙ same ∙ sets)
        (record { answers = sym (changer.decides ∙ none_left); memory = holds-changed })
