-- A record that passes the range check is a call within the ceilings.
use Rattle.std.specs.Prelude.{◌≡◌, refl, true, List, ◌∷◌, ℕ, zero, suc, ◌≤◌, ◌<◌, ℤ, pos, neg_ℤ, length, get_or, ◌≤ℤ◌}
use Rattle.std.proofs.Common.{sym, ◌∙◌, subst, zero-le, arith}
use Rattle.lists.specs.Keep.{first-keeps}
use Rattle.whole.specs.Parts.{parts₁, ring}
use Rattle.whole.specs.Within.{Within, Each, zbound}
use Rattle.whole.specs.Amounts.{amount-pos}
use Rattle.folding.specs.Fold.{unfolded}
use Rattle.fields.specs.Fields.{Quantity, account, lots, margin_rate, reference_rate, clearing_limit, tolerance, special_margin, amount, multiplier, day, side, rate, ceilings, kinds, fields_of, count}
use Rattle.ranges.specs.Ranges.{within_ceilings}
use Rattle.ranges.specs.Cells.{greatest}
use Rattle.fields.specs.FieldLaws.{Shaped, shape-tells}
use Rattle.ranges.specs.RangeLaws.{InRange, range-tells, refusal-number, within-values, within-ends}
use Rattle.records.specs.Records.{Entry, entry}
use Rattle.model.specs.Calls.{call_of}
use Rattle.model.specs.Refusals.{ranged}
use Rattle.model.specs.Ranged.{EachMost, Ranged}
use Rattle.model.proofs.StepLaws.{needed}

-- ---- one field
rate-size : (n : ℕ) → within_ceilings rate n ≡ true → Within 100000 (unfolded n)
unfolding ceilings
rate-size n w = let v = within-values rate n w in go (unfolded n) v.0 v.1
  where
    go : (z : ℤ) → neg_ℤ (pos 100000) ≤ℤ z → z ≤ℤ pos 100000 → Within 100000 z
    go z = parts₁ z (λ x. simp (x.is, ring) (omega zbound))

module _ {kind : ℕ} {fields exceptions : List ℕ} (i : InRange kind fields exceptions) where
  shape : Shaped kind fields (length exceptions)
  shape = shape-tells kind fields (length exceptions) i.shape

  -- a field with its quantity
  holds : (q : Quantity) (place : ℕ) → place < count kind → get_or (fields_of kind) place q ≡ q
      → within_ceilings q (get_or fields place 0) ≡ true
  holds q place h e = subst (λ r. within_ceilings r (get_or fields place 0) ≡ true) e (i.within place q h)

  most : (q : Quantity) (place : ℕ) → place < count kind → get_or (fields_of kind) place q ≡ q → get_or fields place 0 ≤ greatest (ceilings q)
  most q place h e = (within-ends q (get_or fields place 0) (holds q place h e)).1

  rate-at : (place : ℕ) → place < count kind → get_or (fields_of kind) place rate ≡ rate → Within 100000 (unfolded (get_or fields place 0))
  rate-at place h e = rate-size (get_or fields place 0) (holds rate place h e)

-- one element more
each_more : {B : ℕ} {z : ℤ} {l : List ℤ} → Within B z → Each B l → Each B (z ∷ l)
each_more {B} {z} {l} w a = record { at = first-keeps (Within B) (pos 0) z l w a.at }

most-more : {B n : ℕ} {l : List ℕ} → n ≤ B → EachMost B l → EachMost B (n ∷ l)
most-more {B} {n} {l} h a = record { at = first-keeps (λ k. k ≤ B) 0 n l h a.at }

-- ---- by the kind
by_kind : (kind : ℕ) (fields exceptions : List ℕ) → InRange kind fields exceptions → Ranged (call_of (entry kind fields exceptions))
unfolding call_of kinds ceilings
by_kind zero f x i = record {
  reference = most i reference_rate 0 (omega arith) refl;
  multiplier = most i multiplier 1 (omega arith) refl;
  rises = i.rises;
  few = omega (arith, (shape i).few, (shape i).there);
}
by_kind (suc zero) f x i = record {
  number = most i account 0 (omega arith) refl;
  limits = record {
    clearing = most i clearing_limit 1 (omega arith) refl;
    tolerance = amount-pos _ (most i tolerance 2 (omega arith) refl);
  };
}
by_kind (suc (suc zero)) f x i = amount-pos _ (most i amount 1 (omega arith) refl)
by_kind (suc (suc (suc zero))) f x i = amount-pos _ (most i amount 1 (omega arith) refl)
by_kind (suc (suc (suc (suc zero)))) f x i = amount-pos _ (most i amount 1 (omega arith) refl)
by_kind (suc (suc (suc (suc (suc zero))))) f x i = amount-pos _ (most i special_margin 1 (omega arith) refl)
by_kind (suc (suc (suc (suc (suc (suc zero)))))) f x i = record {
  clearing = most i clearing_limit 1 (omega arith) refl;
  tolerance = amount-pos _ (most i tolerance 2 (omega arith) refl);
}
by_kind (suc (suc (suc (suc (suc (suc (suc zero))))))) f x i = record {
  day = most i day 0 (omega arith) refl;
  rates = each_more (rate-at i 1 (omega arith) refl) (each_more (rate-at i 2 (omega arith) refl) (each_more (rate-at i 3 (omega arith) refl)
      (each_more (rate-at i 4 (omega arith) refl) (each_more (rate-at i 5 (omega arith) refl) (each_more (rate-at i 6 (omega arith) refl)
      (record { at = λ k. record { size = zero-le } }))))));
  margins = most-more (most i margin_rate 7 (omega arith) refl) (most-more (most i margin_rate 8 (omega arith) refl)
      (most-more (most i margin_rate 9 (omega arith) refl) (most-more (most i margin_rate 10 (omega arith) refl)
      (most-more (most i margin_rate 11 (omega arith) refl) (most-more (most i margin_rate 12 (omega arith) refl)
      (record { at = λ k. zero-le }))))));
}
by_kind (suc (suc (suc (suc (suc (suc (suc (suc zero)))))))) f x i = record {
  least = (within-ends lots _ (holds i lots 4 (omega arith) refl)).0;
  most = most i lots 4 (omega arith) refl;
  rate = rate-at i 5 (omega arith) refl;
}
by_kind (suc (suc (suc (suc (suc (suc (suc (suc (suc zero))))))))) f x i = record {
  side = omega (arith, most i side 2 (omega arith) refl);
  rate = rate-at i 3 (omega arith) refl;
}
by_kind (suc (suc (suc (suc (suc (suc (suc (suc (suc (suc zero)))))))))) f x i = tt
by_kind (suc (suc (suc (suc (suc (suc (suc (suc (suc (suc (suc zero))))))))))) f x i = tt
by_kind (suc (suc (suc (suc (suc (suc (suc (suc (suc (suc (suc (suc zero)))))))))))) f x i = rate-at i 0 (omega arith) refl
by_kind (suc (suc (suc (suc (suc (suc (suc (suc (suc (suc (suc (suc (suc n))))))))))))) f x i =
    absurd (omega (arith, (shape i).below))

pub ranged-tells : (e : Entry) → ranged e ≡ 0 → InRange e.kind e.fields e.exceptions
ranged-tells e r = range-tells e.kind e.fields e.exceptions (needed 2 tt (sym (refusal-number e.kind e.fields e.exceptions) ∙ r))

pub ranges : (e : Entry) → ranged e ≡ 0 → Ranged (call_of e)
ranges e r = by_kind e.kind e.fields e.exceptions (ranged-tells e r)
