-- The order of the trades inside the last hour does not matter for rule 1.
use Rattle.std.specs.Prelude.{◌≡◌, refl, Bool, false, List, ◌∷◌, map, ℕ, suc, ◌≤◌, ℤ, ◌+ℤ◌, length}
use Rattle.std.proofs.Common.{sym, subst, ap, ap₂, ◌∙◌, le-leb}
use mathlib.Core.List.{Permᴰ}
use Rattle.std.proofs.Math.Nat.{add_right_comm}
use Rattle.std.proofs.Math.IntN.{+ℤ_comm, +ℤ_assoc}
use Rattle.std.proofs.lemmas.List.{length-map}
use Rattle.tallies.specs.Means.{by_lots, mean_of, mean_with, worth}
use Rattle.tallies.specs.Day.{Trade, Quote, late_trades, bids_of, offers_of}
use Rattle.tallies.specs.MeanLaws.{mean-first}
use Rattle.tallies.specs.declared.Weighted.{Weighted}
use Rattle.tallies.specs.declared.Mean.{Mean}
use Rattle.rates.specs.Rules.{nearest, rule_at, rule_of, settled}
use Rattle.rates.specs.CountLaws.{AsksOf, rule-asks-of}
use Rattle.rates.specs.declared.Rule.TheVariants.{LastHour}

-- ---- a mean has no order
with-swap : (m : Mean) (v w : Weighted) → mean_with (mean_with m v) w ≡ mean_with (mean_with m w) v
unfolding mean_with
with-swap m v w = rw (last-swap m.sum (worth v) (worth w), add_right_comm m.weight v.weight w.weight)
  where
    last-swap : (a b c : ℤ) → (a +ℤ b) +ℤ c ≡ (a +ℤ c) +ℤ b
    last-swap a b c = +ℤ_assoc a b c ∙ ap (λ t. a +ℤ t) (+ℤ_comm b c) ∙ sym (+ℤ_assoc a c b)

pub mean-permuted : {X : Type 0} (f : X → Weighted) {xs ys : List X} → Permᴰ xs ys
    → mean_of (map f xs) ≡ mean_of (map f ys)
mean-permuted f Permᴰ.nil = refl
mean-permuted f (Permᴰ.cons {a} {b} {l₁} {l₂} e p) =
    mean-first (f a) (map f l₁)
    ∙ ap₂ mean_with (mean-permuted f p) (ap f e)
    ∙ sym (mean-first (f b) (map f l₂))
mean-permuted f (Permᴰ.swap {a} {b} {l = l} e₁ e₂) = rw (← e₁, ← e₂) (two (f a) (f b) (map f l))
  where
    two : (v w : Weighted) (ws : List Weighted) → mean_of (v ∷ w ∷ ws) ≡ mean_of (w ∷ v ∷ ws)
    two v w ws =
        rw (mean-first v (w ∷ ws), mean-first w ws, mean-first w (v ∷ ws), mean-first v ws) (with-swap (mean_of ws) w v)
mean-permuted f (Permᴰ.trans p q) = mean-permuted f p ∙ mean-permuted f q

-- the library's law is over its own numbers
length-permuted : {X : Type 0} {xs ys : List X} → Permᴰ xs ys → length xs ≡ length ys
length-permuted Permᴰ.nil = refl
length-permuted (Permᴰ.cons e p) = ap suc (length-permuted p)
length-permuted (Permᴰ.swap e₁ e₂) = refl
length-permuted (Permᴰ.trans p q) = length-permuted p ∙ length-permuted q

-- ---- rule 1
rule-first : (late day bids offers : ℕ) → 5 ≤ late → rule_at late day bids offers false ≡ LastHour
unfolding rule_at
rule-first late day bids offers h = rw (le-leb 5 late h)

-- it looks at the last hour's trades, and at neither the quotes nor the previous nor the final rate
settled-first : (trades : List Trade) (quotes : List Quote) (previous : ℤ) (ending : Bool) (final : ℤ)
    → rule_of trades quotes ending ≡ LastHour → settled trades quotes previous ending final
    ≡ record {
      rate = nearest (mean_of (map by_lots (late_trades trades)));
      rule = LastHour;
      used = length (late_trades trades);
    }
unfolding settled
settled-first trades quotes previous ending final e = rw (e, length-map (late_trades trades) by_lots)

pub settled-permuted : (trades others : List Trade) (quotes quotes' : List Quote) (previous previous' : ℤ)
    (ending : Bool) (final final' : ℤ)
    → rule_of trades quotes ending ≡ LastHour → Permᴰ (late_trades trades) (late_trades others)
    → settled trades quotes previous ending final ≡ settled others quotes' previous' ending final'
settled-permuted trades others quotes quotes' previous previous' ending final final' e p =
    settled-first trades quotes previous ending final e
    ∙ (rw (mean-permuted by_lots p, length-permuted p))
    ∙ sym (settled-first others quotes' previous' ending final' also)
  where
    asked : (ending ≡ false) × (5 ≤ length (late_trades trades))
    asked = subst (AsksOf trades quotes ending) e (rule-asks-of trades quotes ending)

    also : rule_of others quotes' ending ≡ LastHour
    also =
        rw asked.0
        (rule-first (length (late_trades others)) (length others) (length (bids_of quotes')) (length (offers_of quotes'))
        (rw (← length-permuted p) asked.1))
