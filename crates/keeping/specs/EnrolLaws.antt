-- An enrolment: the model's answer, and the memory of the book after it.
use Rattle.std.specs.Prelude.{◌≡◌, true, false, not, List, [], ◌∷◌, ℕ, ◌≤◌, ◌<◌, ltb, ℤ, length, Option, Some, None}
use Rattle.std.proofs.Common.{sym, ap, ◌∙◌, arith, lt-ltb, le-ltb}
use Rattle.std.proofs.Math.Path.{subst}
use Rattle.lists.specs.Seek.{seek}
use Rattle.holdings.specs.Bounds.{GoodReference}
use Rattle.holdings.specs.declared.Limits.{Limits}
use Rattle.accounts.specs.Accounts.{new_account}
use Rattle.accounts.specs.declared.Account.{Account}
use Rattle.memory.specs.declared.header_row.Header.{Header}
use Rattle.memory.specs.Layout.{header_at, number_at, with_header, with_account_counts, with_account_money}
use Rattle.memory.specs.Memory.{Holds, with_header_row}
use Rattle.memory.specs.MemoryLaws.{put-header, put-account, header-shaped}
use Rattle.model.specs.Book.{Book, is_member}
use Rattle.model.specs.Calls.{enrol}
use Rattle.model.specs.Effects.{after}
use Rattle.model.specs.Refusals.{needs, first_of, is_started}
use Rattle.model.specs.Kept.{Kept}
use Rattle.standing.specs.Standing.{header_row, rows_of, view}
use Rattle.standing.specs.Made.{Sound, decided, Made}
use Rattle.standing.specs.StandingLaws.{refused-made, sound-kept, sound-holds}
use Rattle.standing.specs.MemberLaws.{one_more, member-at, member-none, enrolled-rows}
use Rattle.standing.specs.SoundLaws.{sound-shaped, first-passed, first-failed, none_left}
use Rattle.keeping.specs.HeaderLaws.{same-header, same_point}

module _ {c : List ℕ} {m : List ℤ} (s : Sound c m) (n : ℕ) (l : Limits) {h : Header} (loads : h ≡ header_at c) where
  abbrev book : Book
  book = view c m

  abbrev g : Kept book
  g = sound-kept s

  same : header_row book ≡ h
  same = same-header s loads

  same-members : ltb (length book.accounts.members) 64 ≡ ltb h.members 64
  same-members = ap (λ (x : Header). ltb x.members 64) same

  pub enrol-reference : GoodReference h.reference
  enrol-reference = record { most = subst (λ (x : Header). x.reference ≤ 100000000) same g.sized.settings.reference }

  pub enrol-early : h.point ≡ 0 → Made c m (enrol n l) 3 c m
  enrol-early e = refused-made s (enrol n l) 2 (first-failed 2 _ (same_point s loads ∙ ap (ltb 0) e))

  module _ (begun : h.point ≡ 0 → ⊥) {f : Option ℕ} (finds : f ≡ seek (number_at c) n (header_at c).members 0) where
    started : is_started book.today.point ≡ true
    started = same_point s loads ∙ lt-ltb 0 h.point (omega arith)

    pub enrol-known : {i : ℕ} → f ≡ Some i → Made c m (enrol n l) 6 c m
    enrol-known {i} e =
        refused-made s (enrol n l) 5
        (first-passed 3 _ started ∙ first-failed 5 _ (ap not (member-at g (sound-holds s) n i (sym finds ∙ e)).1.1))

    module _ (e : f ≡ None) where
      fresh : is_member book n ≡ false
      fresh = member-none g (sound-holds s) n (sym finds ∙ e)

      room-decides : decided book (enrol n l) ≡ first_of (needs (ltb (length book.accounts.members) 64) 7 ∷ [])
      room-decides = first-passed 3 _ started ∙ first-passed 6 _ (ap not fresh)

      pub enrol-full : 64 ≤ h.members → Made c m (enrol n l) 7 c m
      enrol-full full = refused-made s (enrol n l) 6 (room-decides ∙ first-failed 6 [] (same-members ∙ le-ltb h.members 64 full))

      module _ (room : h.members < 64) where
        holds-enrolled :
            let a = new_account n l h.reference in
            let c' = with_account_counts (with_header c (one_more h)) h.members a in
            Holds c' (with_account_money m h.members a) (rows_of (after book (enrol n l)))
        unfolding after
        holds-enrolled =
            let more = one_more (header_row book) in
            let space = subst (λ (x : Header). x.members < 64) (sym same) room in
            rw (← same)
            (subst (Holds _ _) (enrolled-rows g n fresh l space)
            (put-account (with_header_row (rows_of book) more) (header-shaped (rows_of book) (sound-shaped s) more)
            (put-header (rows_of book) (sound-shaped s) (sound-holds s) more) (length book.accounts.members) space _))

        pub enrolled-made : {a : Account} {c₁ c' : List ℕ} {m' : List ℤ} → a ≡ new_account n l h.reference → c₁ ≡ with_header c (one_more h)
            → c' ≡ with_account_counts c₁ h.members a → m' ≡ with_account_money m h.members a → Made c m (enrol n l) 0 c' m'
        enrolled-made makes heads counts money =
            rw (counts, money, heads, makes)
            (record {
              answers = sym (room-decides ∙ first-passed 7 [] (same-members ∙ lt-ltb h.members 64 room) ∙ none_left);
              memory = holds-enrolled;
            })
