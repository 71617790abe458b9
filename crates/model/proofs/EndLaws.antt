-- Of the listed codes only the first can end on the day that is open, so that a close takes away the first code or none.
use Rattle.std.specs.Prelude.{◌≡◌, refl, Bool, true, false, not, cond, List, [], ◌∷◌, ℕ, get_or, drop}
use Rattle.std.proofs.Common.{sym, ◌∙◌, ap}
use Rattle.lists.specs.Has.{has}
use Rattle.lists.specs.HasLaws.{those-all}
use Rattle.lists.specs.Those.{those}
use Rattle.days.specs.Days.{accepted}
use Rattle.calendar.specs.CodeLaws.{only-first}
use Rattle.model.specs.Book.{Book, working}
use Rattle.model.specs.Effects.{is_ending, codes_left}
use Rattle.model.specs.Refusals.{is_open}
use Rattle.model.specs.Kept.{Listed}
use Rattle.model.proofs.ListedLaws.{open-codes, open-dated}

-- ---- where only the first of some numbers passes a test, the others are left
but_first : (p : ℕ → Bool) (ks : List ℕ) → ((c k : ℕ) (rest : List ℕ) → ks ≡ c ∷ rest → has k rest ≡ true → p k ≡ false)
    → those (λ k. not (p k)) ks ≡ drop (cond (p (get_or ks 0 0)) 1 0) ks
unfolding those
but_first p [] h = go (p 0)
  where
    go : (t : Bool) → ◌≡◌ {A = List ℕ} [] (drop (cond t 1 0) [])
    go true = refl
    go false = refl
but_first p (c ∷ rest) h = rw (those-all (λ k. not (p k)) rest (λ k e. ap not (h c k rest refl e))) (go (p c))
  where
    go : (t : Bool) → cond (not t) (c ∷ rest) rest ≡ drop (cond t 1 0) (c ∷ rest)
    go true = refl
    go false = refl

-- ---- what a close leaves
abbrev pub has_ending : Book → Bool
has_ending b = is_ending b (get_or b.contracts.codes 0 0)

pub codes-left : (b : Book) → Listed b → accepted (working b) ≡ true → is_open b.today.point ≡ true
    → codes_left b ≡ drop (cond (has_ending b) 1 0) b.contracts.codes
codes-left b i accept o = but_first (is_ending b) b.contracts.codes
    λ c k rest e h.
    let dated = open-dated b.today.point o in
    let lists = sym (i.lists ∙ open-codes (working b) b.today.day b.today.point o) ∙ e in
    only-first (working b) accept b.today.day c k rest (i.known dated) (i.works dated) lists h
