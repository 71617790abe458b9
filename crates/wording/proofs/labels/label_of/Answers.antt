-- A field with no word of its own follows a space.
use Rattle.std.proofs.Common.{◌≡◌, refl, ap, ℕ, zero, suc, ◌<◌, ◌≤◌, [], ◌∷◌, length, arith}
use Rattle.std.proofs.Math.Decide.{ℕ_discrete, dec_lt}
use Rattle.fields.specs.Fields.{kinds, count}
use Rattle.fields.specs.FieldLaws.{none_below, no_fields}
use Rattle.wording.specs.Words.{label_of}
use Rattle.wording.proofs.labels.label_of.Goals as goal
use Rattle.wording.proofs.labels.label_of.Goals.{in_default-via-in-0+in_default, in_default-via-in-1+in_default, in_default-via-in-2+in_default, in_default-via-in-3+in_default, in_default-via-in-4+in_default, in_default-via-in-5+in_default, in_default-via-in-6+in_default, in_default-via-in-7+in_default, in_default-via-in-8+in_default, in_default-via-in-12+in_default, in_default-via-in_default}

-- a space before each field of an open but the first rate and the first margin
open-label : (field : ℕ) → field < 13 → (field ≡ 1 → ⊥) → (field ≡ 7 → ⊥) → 32 ∷ [] ≡ label_of 7 field
open-label zero h k1 k7 = refl
open-label (suc zero) h k1 k7 = absurd (k1 refl)
open-label (suc (suc zero)) h k1 k7 = refl
open-label (suc (suc (suc zero))) h k1 k7 = refl
open-label (suc (suc (suc (suc zero)))) h k1 k7 = refl
open-label (suc (suc (suc (suc (suc zero))))) h k1 k7 = refl
open-label (suc (suc (suc (suc (suc (suc zero)))))) h k1 k7 = refl
open-label (suc (suc (suc (suc (suc (suc (suc zero))))))) h k1 k7 = absurd (k7 refl)
open-label (suc (suc (suc (suc (suc (suc (suc (suc zero)))))))) h k1 k7 = refl
open-label (suc (suc (suc (suc (suc (suc (suc (suc (suc zero))))))))) h k1 k7 = refl
open-label (suc (suc (suc (suc (suc (suc (suc (suc (suc (suc zero)))))))))) h k1 k7 = refl
open-label (suc (suc (suc (suc (suc (suc (suc (suc (suc (suc (suc zero))))))))))) h k1 k7 = refl
open-label (suc (suc (suc (suc (suc (suc (suc (suc (suc (suc (suc (suc zero)))))))))))) h k1 k7 = refl
open-label (suc (suc (suc (suc (suc (suc (suc (suc (suc (suc (suc (suc (suc n))))))))))))) h k1 k7 = absurd (omega arith)

-- a trade's time and code follow a space
trade-label : (field : ℕ) → field < 2 → 32 ∷ [] ≡ label_of 8 field
trade-label zero h = refl
trade-label (suc zero) h = refl
trade-label (suc (suc n)) h = absurd (omega arith)

-- every field of a quote does
quote-label : (field : ℕ) → field < 4 → 32 ∷ [] ≡ label_of 9 field
quote-label zero h = refl
quote-label (suc zero) h = refl
quote-label (suc (suc zero)) h = refl
quote-label (suc (suc (suc zero))) h = refl
quote-label (suc (suc (suc (suc n)))) h = absurd (omega arith)

-- past the trades only a quote and a close have fields
is-quote : (kind field : ℕ) → field < count kind → 9 ≤ kind → (kind ≡ 12 → ⊥) → kind ≡ 9
unfolding kinds
is-quote kind field h low k12 = go (dec_lt kind 13) (ℕ_discrete kind 10) (ℕ_discrete kind 11)
  where
    go : Dec (kind < 13) → Dec (kind ≡ 10) → Dec (kind ≡ 11) → kind ≡ 9
    go (no n) d e = absurd (omega (arith, ap length (no_fields kind (omega arith))))
    go (yes y) (yes d) e = absurd (omega (arith, rw d at h))
    go (yes y) (no d) (yes e) = absurd (omega (arith, rw e at h))
    go (yes y) (no d) (no e) = omega arith

first-label : {k kind field : ℕ} → 32 ∷ [] ≡ label_of k 0 → kind ≡ k → field ≡ 0 → 32 ∷ [] ≡ label_of kind field
first-label p e z = rw (e, z) p

pub returns-in_default : goal.returns-in_default
unfolding kinds
returns-in_default c = let field = c.args.field in elim c.in_default.branch [
  | in_default-via-in-0+in_default w ↦ absurd (omega (arith, rw w.in_default.is-0 at c.requires, none_below 3 field w.in_default.is-1))
  | in_default-via-in-1+in_default w ↦ first-label refl w.in_default.is-0 (omega (arith, rw w.in_default.is-0 at c.requires, w.in_default.is-1.0.1, w.in_default.is-1.1))
  | in_default-via-in-2+in_default w ↦ first-label refl w.in_default.is-0 (omega (arith, rw w.in_default.is-0 at c.requires, w.in_default.is-1.1))
  | in_default-via-in-3+in_default w ↦ first-label refl w.in_default.is-0 (omega (arith, rw w.in_default.is-0 at c.requires, w.in_default.is-1.1))
  | in_default-via-in-4+in_default w ↦ first-label refl w.in_default.is-0 (omega (arith, rw w.in_default.is-0 at c.requires, w.in_default.is-1.1))
  | in_default-via-in-5+in_default w ↦ first-label refl w.in_default.is-0 (omega (arith, rw w.in_default.is-0 at c.requires, w.in_default.is-1.1))
  | in_default-via-in-6+in_default w ↦ first-label refl w.in_default.is-0 (omega (arith, rw w.in_default.is-0 at c.requires, w.in_default.is-1.0.1, w.in_default.is-1.1))
  | in_default-via-in-7+in_default w ↦ rw w.in_default.is-0 (open-label field (rw w.in_default.is-0 at c.requires) w.in_default.is-1.0.1 w.in_default.is-1.1)
  | in_default-via-in-8+in_default w ↦
      let n = w.in_default.is-1 in
      rw w.in_default.is-0 (trade-label field (omega (arith, rw w.in_default.is-0 at c.requires, n.0.0.0.1, n.0.0.1, n.0.1, n.1)))
  | in_default-via-in-12+in_default w ↦ absurd (omega (arith, rw w.in_default.is-0 at c.requires, w.in_default.is-1.1))
  | in_default-via-in_default w ↦
      let n = w.in_default.is-0 in
      let quote = is-quote c.args.kind field c.requires (none_below 9 _ n.0) n.1 in
      rw quote (quote-label field (rw quote at c.requires))
]
