-- A record that bytes hold and the row of thirteen numbers that is read from them make the same call.
use Rattle.std.specs.Prelude.{◌≡◌, refl, ◌&&◌, List, [], ◌∷◌, ◌++◌, ℕ, ◌-◌, get_or, drop, replicate}
use Rattle.std.proofs.Math.Path.{sym, ap, ap₂}
use Rattle.std.proofs.Common.{◌∙◌, arith, drop_at}
use Rattle.std.proofs.Math.ListN.{length}
use Rattle.std.proofs.Math.Seq.{drop-length}
use Rattle.lists.specs.Passing.{all}
use Rattle.fields.specs.Fields.{Quantity, is_zero, fields_of, count}
use Rattle.ranges.specs.Ranges.{within_ceilings, all_within}
use Rattle.records.specs.Records.{entry}
use Rattle.records.specs.RecordLaws.{Whole}
use Rattle.records.specs.Reading.{padded}
use Rattle.records.specs.WritingLaws.{zeros-all}
use Rattle.records.specs.ReadingLaws.{padded-at, announced-padded}
use Rattle.model.specs.Book.{Book}
use Rattle.model.specs.Calls.{unknown, by_kind, call_of}
use Rattle.model.specs.Refusals.{first_of, ranged, tests, refusal}
use Rattle.model.specs.Answers.{called, answer}

-- ---- the call
same-kinds : (kind : ℕ) (own x : List ℕ) → by_kind (entry kind (padded own) x) ≡ by_kind (entry kind own x)
same-kinds kind own x =
    let p = padded-at own (13 - length own) in
    rw (p 0, p 1, p 2, p 3, p 4, p 5, p 6, p 7, p 8, p 9, p 10, p 11, p 12)

same-call : (kind : ℕ) (own x : List ℕ) → call_of (entry kind (padded own) x) ≡ call_of (entry kind own x)
unfolding call_of
same-call kind own x = ap (λ calls. get_or calls kind unknown) (same-kinds kind own x)

-- ---- the range check
ranged-front : (qs : List Quantity) (l more : List ℕ) → length l ≡ length qs → all_within qs (l ++ more) ≡ all_within qs l
unfolding all_within
ranged-front [] [] more e = refl
ranged-front [] (n ∷ l) more e = refl
ranged-front (q ∷ qs) [] more e = absurd (omega arith)
ranged-front (q ∷ qs) (n ∷ l) more e = ap (λ t. within_ceilings q n && t) (ranged-front qs l more (omega arith))

module _ (kind : ℕ) (own x : List ℕ) (w : Whole (entry kind own x)) where
  same-behind : all is_zero (drop (count kind) (padded own)) ≡ all is_zero (drop (count kind) own)
  unfolding all
  same-behind =
      ap (all is_zero) (drop_at own (replicate (13 - length own) 0) (count kind) w.sized) ∙ zeros-all (13 - length own)
      ∙ sym (ap (λ k. all is_zero (drop k own)) (sym w.sized) ∙ ap (all is_zero) (drop-length own))

  same-range : ranged (entry kind (padded own) x) ≡ ranged (entry kind own x)
  same-range = rw (same-behind, announced-padded kind own, ranged-front (fields_of kind) own (replicate (13 - length own) 0) w.sized)

  same-refusal : (b : Book) → refusal b (entry kind (padded own) x) ≡ refusal b (entry kind own x)
  unfolding refusal
  same-refusal b = ap₂ (λ n c. first_of (n ∷ tests b c)) same-range (same-call kind own x)

  pub same-called : (b : Book) → called b (entry kind (padded own) x) ≡ called b (entry kind own x)
  unfolding called
  same-called b = rw (same-refusal b, same-call kind own x)

  pub same_answer : (b : Book) → answer b (entry kind (padded own) x) ≡ answer b (entry kind own x)
  unfolding answer
  same_answer b = rw (same-refusal b, same-call kind own x)
