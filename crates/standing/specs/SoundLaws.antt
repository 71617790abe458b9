-- What a call knows of the memory that it is given, and a refusal found test by test.
use Rattle.std.specs.Prelude.{◌≡◌, refl, Bool, true, false, List, [], ◌∷◌, ℕ, suc, ◌≤◌, ℤ, take}
use Rattle.std.proofs.Common.{sym, ap, ◌∙◌, subst}
use Rattle.lists.specs.Parts.{part}
use Rattle.lists.specs.PaddedLaws.{take-padded}
use Rattle.days.specs.Days.{rising}
use Rattle.memory.specs.declared.header_row.Header.{Header}
use Rattle.memory.specs.Layout.{Long, header_at, with_header, house_at}
use Rattle.memory.specs.Memory.{Rows, Shaped, with_header_row}
use Rattle.memory.specs.MemoryLaws.{header_is, house-is, exceptions-part, memory-long, put-header, header-shaped}
use Rattle.model.specs.Refusals.{needs, first_of}
use Rattle.model.proofs.KeptLaws.{kept-few}
use Rattle.standing.specs.Standing.{header_row, rows_of, view}
use Rattle.standing.specs.Made.{Sound}
use Rattle.standing.specs.StandingLaws.{rows-shaped, sound-kept, sound-holds}
use Rattle.standing.specs.Turns.{Whole}
use Rattle.standing.specs.CloseRows.{exceptions_in}

-- ---- the exceptions in use, where a call reads them
abbrev pub exceptions_of : List ℕ → List ℕ
exceptions_of c = part 10 (header_at c).exceptions c

pub exceptions-read : {c : List ℕ} {m : List ℤ} (r : Rows) → Whole c m r → {h : Header} → h ≡ header_at c → h.exceptions ≤ 400
    → part 10 h.exceptions c ≡ exceptions_in r
exceptions-read r w {h} e few =
    exceptions-part r w.shaped w.holds h.exceptions few
    ∙ ap (λ (x : Header). take x.exceptions r.exceptions) (e ∙ header_is r w.shaped w.holds)

-- ---- a sound memory
module _ {c : List ℕ} {m : List ℤ} (s : Sound c m) where
  pub sound-shaped : Shaped (rows_of (view c m))
  sound-shaped = rows-shaped (sound-kept s)

  pub sound-whole : Whole c m (rows_of (view c m))
  sound-whole = record { shaped = sound-shaped; holds = sound-holds s }

  pub sound-long : Long c m
  sound-long = memory-long (rows_of (view c m)) sound-shaped (sound-holds s)

  -- also with another header put in it
  pub headed-long : (h : Header) → Long (with_header c h) m
  headed-long h =
      let r = rows_of (view c m) in
      memory-long (with_header_row r h) (header-shaped r sound-shaped h) (put-header r sound-shaped (sound-holds s) h)

  pub sound-header : header_at c ≡ header_row (view c m)
  sound-header = header_is (rows_of (view c m)) sound-shaped (sound-holds s)

  pub sound-house : house_at m ≡ (view c m).house
  sound-house = house-is (rows_of (view c m)) sound-shaped (sound-holds s)

  -- as many rows in use as there is room for
  pub sound-members : (header_at c).members ≤ 64
  sound-members = subst (λ (h : Header). h.members ≤ 64) (sym sound-header) (sound-kept s).sized.members

  pub sound-listed : (header_at c).listed ≤ 6
  sound-listed = subst (λ (h : Header). h.listed ≤ 6) (sym sound-header) (kept-few (sound-kept s))

  pub sound-exceptions : (header_at c).exceptions ≤ 400
  sound-exceptions = subst (λ (h : Header). h.exceptions ≤ 400) (sym sound-header) (sound-kept s).sized.settings.few

  -- the exceptions in use are the book's
  pub exceptions-are : exceptions_of c ≡ (view c m).settings.exceptions
  exceptions-are =
      exceptions-read (rows_of (view c m)) sound-whole refl sound-exceptions
      ∙ take-padded 400 0 (view c m).settings.exceptions

  pub exceptions-rise : rising (exceptions_of c) ≡ true
  exceptions-rise = ap rising exceptions-are ∙ (sound-kept s).sized.settings.rises

-- ---- a test that is passed, one that is not, and none left
pub first-passed : {t : Bool} (number : ℕ) (rest : List ℕ) → t ≡ true → first_of (needs t number ∷ rest) ≡ first_of rest
unfolding first_of
first-passed number rest e = rw e

pub first-failed : {t : Bool} (k : ℕ) (rest : List ℕ) → t ≡ false → first_of (needs t (suc k) ∷ rest) ≡ suc k
unfolding first_of
first-failed k rest e = rw e

pub none_left : first_of [] ≡ 0
unfolding first_of
none_left = refl
