-- A call that names one account: its refusals 3 and 5, and what is known of the row that is found.
use Rattle.std.specs.Prelude.{◌≡◌, refl, Bool, true, false, cond, List, ◌∷◌, ℕ, ◌<◌, ℤ, length, get_or, Result, Ok, Err, Option, Some, None}
use Rattle.std.proofs.Common.{sym, ap, ◌∙◌, subst, arith}
use Rattle.std.specs.Option.{ok_or}
use Rattle.lists.specs.Seek.{seek}
use Rattle.memory.specs.declared.header_row.Header.{Header}
use Rattle.memory.specs.Layout.{header_at, number_at, account_at}
use Rattle.model.specs.Book.{Book, is_member}
use Rattle.model.specs.Calls.{Call}
use Rattle.model.specs.Refusals.{needs, first_of, stage, tests}
use Rattle.model.specs.Kept.{Kept}
use Rattle.standing.specs.Standing.{account_row, view}
use Rattle.standing.specs.Made.{Sound, decided, Made}
use Rattle.standing.specs.StandingLaws.{refused-made, sound-kept, sound-holds}
use Rattle.standing.specs.MemberLaws.{member-at, member-none, member-account}
use Rattle.standing.specs.SoundLaws.{sound-header, first-passed, first-failed}
use Rattle.places.specs.Places.{place_in}
use Rattle.refusals.specs.Refusals.{number_of}
use Rattle.refusals.specs.declared.Refusal.{Refusal}
use Rattle.refusals.specs.declared.Refusal.TheVariants.{NotNow, UnknownAccount}

-- the row of the member that a call names; the tests after the first two decide the call
pub record Named (b : Book) (c : List ℕ) (m : List ℤ) (call : Call) (rest : List ℕ) (n i : ℕ) : Type 0 where
  pub decides : decided b call ≡ first_of rest
  pub below : i < length b.accounts.members
  pub is : get_or b.accounts.members i 0 ≡ n
  pub small : i < 64
  pub row : account_at c m i ≡ account_row b n

-- `may` is the test on the point of the day
abbrev pub Names : Book → Call → (ℕ → Bool) → ℕ → List ℕ → Type 0
Names b call may n rest = tests b call ≡ needs (may (stage b.today.point)) 3 ∷ needs (is_member b n) 5 ∷ rest

module _ {c : List ℕ} {m : List ℤ} (s : Sound c m) (n : ℕ) (call : Call) (may : ℕ → Bool) (rest : List ℕ)
    (e : Names (view c m) call may n rest) {p : Result ℕ Refusal} (finds : p ≡ place_in c (may (header_at c).point) n) where
  abbrev book : Book
  book = view c m

  abbrev g : Kept book
  g = sound-kept s

  abbrev found : Option ℕ
  found = seek (number_at c) n (header_at c).members 0

  abbrev t : Bool
  t = may (header_at c).point

  allowed : {u : Bool} → t ≡ u → may (stage book.today.point) ≡ u
  allowed d = ap (λ (x : Header). may x.point) (sym (sound-header s)) ∙ d

  pub refused-place : {refusal : Refusal} → p ≡ Err refusal → Made c m call (number_of refusal) c m
  refused-place {refusal} q = go t refl found refl (sym finds ∙ q)
    where
      go : (u : Bool) → t ≡ u → (f : Option ℕ) → found ≡ f → cond u (ok_or f UnknownAccount) (Err NotNow) ≡ Err refusal
          → Made c m call (number_of refusal) c m
      go false d f k r =
          let z : NotNow ≡ refusal = cc in
          subst (λ j. Made c m call (number_of j) c m) z (refused-made s call 2 (ap first_of e ∙ first-failed 2 _ (allowed d)))
      go true d (Some i) k r = let z : ◌≡◌ {A = ℕ} 0 1 = cc in absurd (omega arith)
      go true d None k r =
          let z : UnknownAccount ≡ refusal = cc in
          subst (λ j. Made c m call (number_of j) c m) z
          (refused-made s call 4 (ap first_of e ∙ first-passed 3 _ (allowed d) ∙ first-failed 4 rest (member-none g (sound-holds s) n k)))

  pub named : {i : ℕ} → p ≡ Ok i → Named book c m call rest n i
  named {i} q = go t refl found refl (sym finds ∙ q)
    where
      go : (u : Bool) → t ≡ u → (f : Option ℕ) → found ≡ f → cond u (ok_or f UnknownAccount) (Err NotNow) ≡ Ok i
          → Named book c m call rest n i
      go false d f k r = let z : ◌≡◌ {A = ℕ} 0 1 = cc in absurd (omega arith)
      go true d None k r = let z : ◌≡◌ {A = ℕ} 0 1 = cc in absurd (omega arith)
      go true d (Some j) k r =
          let z : j ≡ i = cc in
          let a = member-at g (sound-holds s) n i (k ∙ ap Some z) in
          record {
            decides = ap first_of e ∙ first-passed 3 _ (allowed d) ∙ first-passed 5 rest a.1.1;
            below = a.0;
            is = a.1.0;
            small = omega (arith, g.sized.members, a.0);
            row = member-account g (sound-holds s) n i a.0 a.1.0;
          }
