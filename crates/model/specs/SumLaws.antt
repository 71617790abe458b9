-- Sums over the members of a book, and over codes: a list with no number twice.
use Rattle.std.specs.Prelude.{◌≡◌, refl, Bool, true, false, cond, ◌||◌, List, [], ◌∷◌, ◌++◌, ℕ, eqb, ℤ, pos, ◌+ℤ◌, ◌-ℤ◌, ◌*ℤ◌}
use Rattle.std.proofs.Common.{sym, ◌∙◌, ap, ap₂, subst, eqb-true, eq-eqb}
use Rattle.std.proofs.Math.IntN.{*ℤ-zero, +ℤ_idl, +ℤ_idr}
use Rattle.lists.specs.Has.{has, Distinct}
use Rattle.lists.specs.HasLaws.{by_test, clash, when_true, when_false, neither, or_right, or-skip, eqb-flip, has-append, has-apart}
use Rattle.lists.specs.Those.{those}
use Rattle.whole.specs.Sums.{sum_z}
use Rattle.whole.specs.Over.{sum_over, over_last, over-ext, over_add, over-sub, over-scale, over_none}

-- ---- x at one key and 0 elsewhere
abbrev pub only : ℕ → ℤ → ℕ → ℤ
only k x n = cond (eqb n k) x (pos 0)

pub over-away : (k : ℕ) (x : ℤ) (ns : List ℕ) → has k ns ≡ false → sum_over (only k x) ns ≡ pos 0
unfolding sum_z has
over-away k x [] h = refl
over-away k x (n ∷ ns) h =
    let p = neither (eqb k n) (has k ns) h in
    ap₂ ◌+ℤ◌ (when_false x (pos 0) (eqb-flip n k ∙ p.0)) (over-away k x ns p.1)

pub over-only : (k : ℕ) (x : ℤ) (ns : List ℕ) → Distinct ns → has k ns ≡ true → sum_over (only k x) ns ≡ x
unfolding sum_z has
over-only k x [] d h = clash h refl
over-only k x (n ∷ ns) d h = by_test (eqb n k)
    (λ e. ap₂ ◌+ℤ◌ (when_true x (pos 0) e) (over-away k x ns (subst (λ t. has t ns ≡ false) (eqb-true n k e) d.0)) ∙ +ℤ_idr x)
    (λ e. ap₂ ◌+ℤ◌ (when_false x (pos 0) e) (over-only k x ns d.1 (or-skip (eqb k n) (has k ns) (eqb-flip k n ∙ e) h)) ∙ +ℤ_idl x)

-- those that pass a test, where the others are 0
pub over-left : (p : ℕ → Bool) (f g : ℕ → ℤ) (cs : List ℕ) → ((c : ℕ) → p c ≡ true → has c cs ≡ true → f c ≡ g c) → ((c : ℕ) → p c ≡ false → g c ≡ pos 0)
    → sum_over f (those p cs) ≡ sum_over g cs
unfolding sum_z those has
over-left p f g [] same none = refl
over-left p f g (c ∷ cs) same none =
    let rest = over-left p f g cs (λ k e m. same k e (or_right (eqb k c) (has k cs) m)) none in
    by_test (p c)
    (λ e. rw e (ap₂ ◌+ℤ◌ (same c e (ap (λ t. t || has c cs) (eq-eqb c c refl))) rest))
    (λ e. rw (e, none c e) (rest ∙ sym (+ℤ_idl (sum_over g cs))))

-- ---- a quantity that is 0 away from the list, and its sum over the list
pub record Total (ms : List ℕ) (f : ℕ → ℤ) (s : ℤ) : Type 0 where
  pub away : (n : ℕ) → has n ms ≡ false → f n ≡ pos 0
  pub sums : sum_over f ms ≡ s

pub total-none : (ms : List ℕ) → Total ms (λ n. pos 0) (pos 0)
total-none ms = record { away = λ n h. refl; sums = over_none (λ n. pos 0) ms (λ n. refl) }

pub total_ext : {ms : List ℕ} {f g : ℕ → ℤ} {s t : ℤ} → Total ms f s → ((n : ℕ) → g n ≡ f n) → t ≡ s → Total ms g t
total_ext {ms} {f} {g} i e d = record { away = λ n h. e n ∙ i.away n h; sums = over-ext g f ms e ∙ i.sums ∙ sym d }

pub total-add : {ms : List ℕ} {f g : ℕ → ℤ} {s t : ℤ} → Total ms f s → Total ms g t → Total ms (λ n. f n +ℤ g n) (s +ℤ t)
total-add {ms} {f} {g} i j = record { away = λ n h. ap₂ ◌+ℤ◌ (i.away n h) (j.away n h); sums = over_add f g ms ∙ ap₂ ◌+ℤ◌ i.sums j.sums }

pub total-sub : {ms : List ℕ} {f g : ℕ → ℤ} {s t : ℤ} → Total ms f s → Total ms g t → Total ms (λ n. f n -ℤ g n) (s -ℤ t)
total-sub {ms} {f} {g} i j = record { away = λ n h. ap₂ ◌-ℤ◌ (i.away n h) (j.away n h); sums = over-sub f g ms ∙ ap₂ ◌-ℤ◌ i.sums j.sums }

pub total-scale : {ms : List ℕ} {f : ℕ → ℤ} {s : ℤ} (x : ℤ) → Total ms f s → Total ms (λ n. x *ℤ f n) (x *ℤ s)
total-scale {ms} {f} x i = record { away = λ n h. ap (λ t. x *ℤ t) (i.away n h) ∙ *ℤ-zero x; sums = over-scale x f ms ∙ ap (λ t. x *ℤ t) i.sums }

-- x at one key
pub total-only : {ms : List ℕ} (k : ℕ) (x : ℤ) → Distinct ms → has k ms ≡ true → Total ms (only k x) x
total-only {ms} k x d h = record { away = λ n a. when_false x (pos 0) (has-apart n k ms a h); sums = over-only k x ms d h }

-- one more key
pub total-more : {ms : List ℕ} {f : ℕ → ℤ} {s : ℤ} (m : ℕ) → has m ms ≡ false → Total ms f s → Total (ms ++ (m ∷ [])) f s
total-more {ms} {f} {s} m h i = record {
  away = λ n a. i.away n (neither (has n ms) _ (sym (has-append n ms (m ∷ [])) ∙ a)).0;
  sums = over_last f ms m ∙ ap₂ ◌+ℤ◌ i.sums (i.away m h) ∙ +ℤ_idr s;
}

-- a sum of quantities
pub total-over : {ms : List ℕ} (f : ℕ → ℕ → ℤ) (cs : List ℕ) → ((c : ℕ) → Total ms (λ n. f n c) (pos 0)) → Total ms (λ n. sum_over (f n) cs) (pos 0)
unfolding sum_z
total-over {ms} f [] i = total-none ms
total-over f (c ∷ cs) i = total-add (i c) (total-over f cs i)
