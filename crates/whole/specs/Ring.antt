-- A product of whole numbers spreads over a sum.
-- The other laws of sums and products follow from this and lib.IntN.
use Rattle.std.specs.Prelude.{◌≡◌, zero, suc}
use Rattle.std.proofs.Common.{sym, ◌∙◌, ap}
use lib.IntN.{ℤ, pos, negsuc, suc_ℤ, pred_ℤ, neg_ℤ, ◌+ℤ◌, ◌-ℤ◌, ◌*ℤ◌}
use lib.IntN.{suc_ℤ-+ℤ, pred_ℤ-+ℤ, suc_ℤ-*ℤ, pred_ℤ-*ℤ, +ℤ_assoc, +ℤ_comm, +ℤ_idl, zero-*ℤ, *ℤ_comm}

swap-last : (x y z : ℤ) → (x +ℤ y) +ℤ z ≡ (x +ℤ z) +ℤ y
swap-last x y z = +ℤ_assoc x y z ∙ ap (λ t. x +ℤ t) (+ℤ_comm y z) ∙ sym (+ℤ_assoc x z y)

-- The law at one a. It goes from a to the next and to the one before, and holds at 0, so it holds everywhere.
abbrev Spreads : ℤ → ℤ → ℤ → Type 0
Spreads a b c = (a +ℤ b) *ℤ c ≡ a *ℤ c +ℤ b *ℤ c

at_zero : (b c : ℤ) → Spreads (pos zero) b c
at_zero b c =
    ap (λ t. t *ℤ c) (+ℤ_idl b)
    ∙ sym (ap (λ t. t +ℤ b *ℤ c) (zero-*ℤ c) ∙ +ℤ_idl (b *ℤ c))

at_next : (a b c : ℤ) → Spreads a b c → Spreads (suc_ℤ a) b c
at_next a b c h =
    ap (λ t. t *ℤ c) (suc_ℤ-+ℤ a b)
    ∙ suc_ℤ-*ℤ (a +ℤ b) c
    ∙ ap (λ t. t +ℤ c) h
    ∙ swap-last (a *ℤ c) (b *ℤ c) c
    ∙ ap (λ t. t +ℤ b *ℤ c) (sym (suc_ℤ-*ℤ a c))

at_before : (a b c : ℤ) → Spreads a b c → Spreads (pred_ℤ a) b c
at_before a b c h =
    ap (λ t. t *ℤ c) (pred_ℤ-+ℤ a b)
    ∙ pred_ℤ-*ℤ (a +ℤ b) c
    ∙ ap (λ t. t -ℤ c) h
    ∙ swap-last (a *ℤ c) (b *ℤ c) (neg_ℤ c)
    ∙ ap (λ t. t +ℤ b *ℤ c) (sym (pred_ℤ-*ℤ a c))

pub add-mulℤ : (a b c : ℤ) → (a +ℤ b) *ℤ c ≡ a *ℤ c +ℤ b *ℤ c
add-mulℤ (pos zero) b c = at_zero b c
add-mulℤ (pos (suc n)) b c = at_next (pos n) b c (add-mulℤ (pos n) b c)
add-mulℤ (negsuc zero) b c = at_before (pos zero) b c (at_zero b c)
add-mulℤ (negsuc (suc n)) b c = at_before (negsuc n) b c (add-mulℤ (negsuc n) b c)

pub mul-addℤ : (a b c : ℤ) → a *ℤ (b +ℤ c) ≡ a *ℤ b +ℤ a *ℤ c
mul-addℤ a b c =
    *ℤ_comm a (b +ℤ c)
    ∙ add-mulℤ b c a
    ∙ ap (λ t. t +ℤ c *ℤ a) (*ℤ_comm b a)
    ∙ ap (λ t. a *ℤ b +ℤ t) (*ℤ_comm c a)
