-- Each refusal is given in its stated case and in no other.
use Rattle.std.specs.Prelude.{◌≡◌, refl, Bool, true, false, List, ℕ, ◌≤◌, ◌<◌, length, drop}
use Rattle.std.proofs.Common.{sym, ap, ◌∙◌, arith}
use Rattle.std.proofs.Math.Decide.{dec_lt}
use Rattle.fields.specs.Fields.{count, shaped}
use Rattle.records.specs.Records.{Parsed, unread, parsed, reading, writing}
use Rattle.records.specs.Reading.{placed, reading_at}
use Rattle.records.specs.Writing.{entry_of, written_in}
use Rattle.records.specs.WritingLaws.{not-shaped, no_room, done as fits}
use Rattle.records.specs.Outcomes.{Outcome, done, refused_at, refused, outcome_of, outcome_of_writing}

-- ---- reading: refused 1, at the place of the first byte, exactly where no record stands
module _ (s : List ℕ) (at : ℕ) where
  pub unread-refused : reading (drop at s) ≡ unread → outcome_of (reading_at s at) ≡ refused_at 1 at
  unread-refused e = rw e

  pub refused-unread : (number place : ℕ) → outcome_of (reading_at s at) ≡ refused_at number place → (reading (drop at s) ≡ unread) × (number ≡ 1) × (place ≡ at)
  refused-unread number place e = go (reading (drop at s)) refl e
    where
      go : (g : Parsed) → reading (drop at s) ≡ g → outcome_of (placed s at g) ≡ refused_at number place → (reading (drop at s) ≡ unread) × (number ≡ 1) × (place ≡ at)
      go unread h q = (h, cc, cc)
      go (parsed r rest) h q = let z : ◌≡◌ {A = ℕ} 0 1 = cc in absurd (omega arith)

-- ---- writing
module _ (room : List ℕ) (kind : ℕ) (cells x : List ℕ) where
  abbrev outcome : Outcome
  outcome = outcome_of_writing (written_in room kind cells x).answer

  abbrev size : ℕ
  size = length (writing (entry_of kind cells x))

  -- "refused 1 (place 0) for a record no reader would take under 1"
  pub untaken-refused : shaped kind cells (length x) ≡ false → outcome ≡ refused_at 1 0
  untaken-refused t = ap (λ o. outcome_of_writing o.answer) (not-shaped room kind cells x t)

  -- "else 16 exactly when the room is shorter than the record"
  pub short-refused : shaped kind cells (length x) ≡ true → length room < size → outcome ≡ refused 16
  short-refused t h = ap (λ o. outcome_of_writing o.answer) (no_room room kind cells x t (count kind) refl h)

  pub enough-done : shaped kind cells (length x) ≡ true → size ≤ length room → outcome ≡ done size
  enough-done t h = ap (λ o. outcome_of_writing o.answer) (fits room kind cells x t (count kind) refl h)

  pub refused-short : (number : ℕ) → outcome ≡ refused number → (number ≡ 16) × (shaped kind cells (length x) ≡ true) × (length room < size)
  refused-short number e = go (shaped kind cells (length x)) refl
    where
      go : (t : Bool) → shaped kind cells (length x) ≡ t → (number ≡ 16) × (shaped kind cells (length x) ≡ true) × (length room < size)
      go false t = let q : refused_at 1 0 ≡ refused number = sym (untaken-refused t) ∙ e in let z : ◌≡◌ {A = ℕ} 0 1 = cc in absurd (omega arith)
      go true t = by (dec_lt (length room) size)
        where
          by : Dec (length room < size) → (number ≡ 16) × (shaped kind cells (length x) ≡ true) × (length room < size)
          by (yes h) = let q : refused 16 ≡ refused number = sym (short-refused t h) ∙ e in (cc, t, h)
          by (no h) = let q : done size ≡ refused number = sym (enough-done t (omega arith)) ∙ e in let z : ◌≡◌ {A = ℕ} 0 1 = cc in absurd (omega arith)
