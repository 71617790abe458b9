-- What is known of a book is kept by every call, refused or not, whatever its past; and what follows from it.
use Rattle.std.specs.Prelude.{◌≡◌, refl, true, List, [], ◌∷◌, ℕ, zero, suc, ◌≤◌, length}
use Rattle.lists.specs.Has.{Distinct}
use Rattle.records.specs.Records.{Entry}
use Rattle.model.specs.Book.{Book, new}
use Rattle.model.specs.Calls.{call_of}
use Rattle.model.specs.Effects.{after}
use Rattle.model.specs.Refusals.{is_open, refusal}
use Rattle.model.specs.Answers.{kept, called}
use Rattle.model.specs.History.{run_from, run}
use Rattle.model.specs.Bounds.{Bounded}
use Rattle.model.specs.Kept.{Kept}
use Rattle.model.proofs.StepLaws.{Accepted, accepted-by}
use Rattle.model.proofs.RangeLaws.{ranges}
use Rattle.model.proofs.FrameLaws.{framed-new, framed-after}
use Rattle.model.proofs.ListedLaws.{listed-new, listed-after, listed-once, listed-few, listed-six}
use Rattle.model.proofs.LevelLaws.{level-new, level-after}
use Rattle.model.proofs.HouseLaws.{owing-new, owing-after}
use Rattle.model.proofs.CalendarLaws.{calendar-new, calendar-after}
use Rattle.model.proofs.KeyLaws.{keys-new, keys-after}
use Rattle.model.specs.SizedLaws.{sized-bounded}
use Rattle.model.proofs.BoundLaws.{sized_new, sized-after}

-- ---- a new book
pub kept_new : Kept new
kept_new = record {
  framed = framed-new;
  listed = listed-new;
  sized = sized_new;
  level = level-new;
  owing = owing-new;
  calendar = calendar-new;
  keys = keys-new;
}

-- ---- one call more
kept-after : {b : Book} (e : Entry) → Accepted b e → Kept b → Kept (after b (call_of e))
kept-after {b} e a k =
    let c = call_of e in
    let r = ranges e a.ranges in
    let p = a.passed in
    record {
      framed = framed-after b c p k.framed;
      listed = listed-after b c p k.listed;
      sized = sized-after b k.framed k.listed c r p k.sized;
      level = λ x. level-after x b c k.framed p (k.level x);
      owing = owing-after b c k.framed k.level p k.owing;
      calendar = calendar-after b c p k.calendar;
      keys = keys-after b c r k.listed k.keys;
    }

pub kept-called : {b : Book} (e : Entry) → Kept b → Kept (called b e)
unfolding called
kept-called {b} e k = go (refusal b e) refl
  where
    go : (n : ℕ) → refusal b e ≡ n → Kept (kept n b (call_of e))
    go zero r = kept-after e (accepted-by b e r) k
    go (suc n) r = k

-- ---- any calls, from any such book and so from a new one
pub kept_run : {b : Book} → Kept b → (h : List Entry) → Kept (run_from b h)
unfolding run_from
kept_run k [] = k
kept_run k (e ∷ h) = kept-called e (kept_run k h)

pub known : (h : List Entry) → Kept (run h)
known = kept_run kept_new

-- ---- what follows
module _ {b : Book} (k : Kept b) where
  pub kept-once : Distinct b.contracts.codes
  kept-once = listed-once b k.listed

  pub kept-few : length b.contracts.codes ≤ 6
  kept-few = listed-few b k.listed

  pub kept-six : is_open b.today.point ≡ true → length b.contracts.codes ≡ 6
  kept-six = listed-six b k.listed

  -- promise 7
  pub kept-bounded : Bounded b
  kept-bounded = sized-bounded k.sized kept-few k.owing
