-- Membership in longer lists and in parts of a list; lists with no number twice.
use Rattle.std.specs.Prelude.{◌≡◌, refl, Bool, true, false, cond, ◌||◌, List, [], ◌∷◌, ◌++◌, ℕ, eqb}
use Rattle.std.proofs.Common.{sym, ◌∙◌, ap, ap₂, subst, true≢false, eqb-true, eq-eqb}
use Rattle.std.proofs.Math.Bool.{or_assoc, or-false}
use Rattle.lists.specs.Has.{has, Distinct}
use Rattle.lists.specs.Those.{those}

-- ---- a test and what it gives
pub by_test : {G : Type 0} (t : Bool) → (t ≡ true → G) → (t ≡ false → G) → G
by_test true f g = f refl
by_test false f g = g refl

pub clash : {G : Type 0} {t : Bool} → t ≡ true → t ≡ false → G
clash p q = absurd (true≢false (sym p ∙ q))

pub when_true : {A : Type 0} {t : Bool} (a b : A) → t ≡ true → cond t a b ≡ a
when_true a b e = ap (λ t. cond t a b) e

pub when_false : {A : Type 0} {t : Bool} (a b : A) → t ≡ false → cond t a b ≡ b
when_false a b e = ap (λ t. cond t a b) e

-- both arms alike
pub cond_same : {A : Type 0} (t : Bool) {a b : A} → a ≡ b → cond t a b ≡ b
cond_same true e = e
cond_same false e = refl

pub neither : (s t : Bool) → (s || t) ≡ false → (s ≡ false) × (t ≡ false)
neither true t e = clash refl e
neither false t e = (refl, e)

pub or_right : (s t : Bool) → t ≡ true → (s || t) ≡ true
or_right true t e = refl
or_right false t e = e

pub or-skip : (s t : Bool) → s ≡ false → (s || t) ≡ true → t ≡ true
or-skip true t p e = clash refl p
or-skip false t p e = e

pub eqb-flip : (n k : ℕ) → eqb n k ≡ eqb k n
eqb-flip n k =
    by_test (eqb k n)
    (λ e. eq-eqb n k (sym (eqb-true k n e)) ∙ sym e)
    (λ e. by_test (eqb n k) (λ d. clash (eq-eqb k n (sym (eqb-true n k d))) e) (λ d. d ∙ sym e))

-- ---- membership
pub has_first : (n : ℕ) (ns : List ℕ) → has n (n ∷ ns) ≡ true
unfolding has
has_first n ns = ap (λ t. t || has n ns) (eq-eqb n n refl)

pub has-later : (k n : ℕ) (ns : List ℕ) → has k ns ≡ true → has k (n ∷ ns) ≡ true
unfolding has
has-later k n ns = or_right (eqb k n) (has k ns)

-- what holds of the first and of those after it
pub has-each : (P : ℕ → Type 0) (n : ℕ) (ns : List ℕ) → P n → ((k : ℕ) → has k ns ≡ true → P k) → (k : ℕ) → has k (n ∷ ns) ≡ true → P k
unfolding has
has-each P n ns p f k e = by_test (eqb k n) (λ t. subst P (sym (eqb-true k n t)) p) (λ t. f k (or-skip (eqb k n) (has k ns) t e))

pub has-append : (k : ℕ) (ns ms : List ℕ) → has k (ns ++ ms) ≡ (has k ns || has k ms)
unfolding has
has-append k [] ms = refl
has-append k (n ∷ ns) ms = ap (λ t. eqb k n || t) (has-append k ns ms) ∙ sym (or_assoc (eqb k n) (has k ns) (has k ms))

pub has_one : (k n : ℕ) → has k (n ∷ []) ≡ eqb k n
unfolding has
has_one k n = or-false (eqb k n)

-- two numbers, one in the list and one not
pub has-apart : (j k : ℕ) (ns : List ℕ) → has j ns ≡ false → has k ns ≡ true → eqb j k ≡ false
has-apart j k ns p q = by_test (eqb j k) (λ e. clash (subst (λ t. has t ns ≡ true) (sym (eqb-true j k e)) q) p) (λ e. e)

-- of those that pass a test
pub has-those : (p : ℕ → Bool) (k : ℕ) (ns : List ℕ) → has k (those p ns) ≡ cond (p k) (has k ns) false
unfolding has those
has-those p k [] = sym (cond_same (p k) refl)
has-those p k (n ∷ ns) = by_test (eqb k n)
    (λ e. hit (p k) refl (subst (λ m. p m ≡ p k) (eqb-true k n e) refl) e (has-those p k ns))
    (λ e. miss (p n) e (has-those p k ns) ∙ sym (ap (λ t. cond (p k) (t || has k ns) false) e))
  where
    hit : (t : Bool) → p k ≡ t → p n ≡ p k → eqb k n ≡ true → has k (those p ns) ≡ cond (p k) (has k ns) false
        → has k (cond (p n) (n ∷ those p ns) (those p ns)) ≡ cond t (eqb k n || has k ns) false
    hit true q r e ih = rw (r ∙ q, e)
    hit false q r e ih = rw (r ∙ q) (ih ∙ ap (λ t. cond t (has k ns) false) q)

    miss : (t : Bool) → eqb k n ≡ false → has k (those p ns) ≡ cond (p k) (has k ns) false
        → has k (cond t (n ∷ those p ns) (those p ns)) ≡ cond (p k) (has k ns) false
    miss true e ih = rw e ih
    miss false e ih = ih

pub those-has : (p : ℕ → Bool) (k : ℕ) (ns : List ℕ) → has k (those p ns) ≡ true → (has k ns ≡ true) × (p k ≡ true)
those-has p k ns h = by_test (p k)
    (λ e. (sym (when_true (has k ns) false e) ∙ sym (has-those p k ns) ∙ h, e))
    (λ e. clash h (has-those p k ns ∙ when_false (has k ns) false e))

pub those-lacks : (p : ℕ → Bool) (k : ℕ) (ns : List ℕ) → has k (those p ns) ≡ false → p k ≡ true → has k ns ≡ false
those-lacks p k ns h e = sym (when_true (has k ns) false e) ∙ sym (has-those p k ns) ∙ h

-- all pass
pub those-all : (p : ℕ → Bool) (ns : List ℕ) → ((k : ℕ) → has k ns ≡ true → p k ≡ true) → those p ns ≡ ns
unfolding those
those-all p [] h = refl
those-all p (n ∷ ns) h = rw (h n (has_first n ns), those-all p ns (λ k e. h k (has-later k n ns e)))

-- ---- no number twice
pub distinct_more : (ks : List ℕ) (m : ℕ) → has m ks ≡ false → Distinct ks → Distinct (ks ++ (m ∷ []))
unfolding has
distinct_more [] m h d = (refl, tt)
distinct_more (k ∷ ks) m h d =
    let p = neither (eqb m k) (has m ks) h in
    (has-append k ks (m ∷ []) ∙ ap₂ ◌||◌ d.0 (ap (λ t. t || false) (eqb-flip k m ∙ p.0)), distinct_more ks m p.1 d.1)

pub distinct-those : (p : ℕ → Bool) (ks : List ℕ) → Distinct ks → Distinct (those p ks)
unfolding those
distinct-those p [] d = tt
distinct-those p (k ∷ ks) d = go (p k) (distinct-those p ks d.1)
  where
    go : (t : Bool) → Distinct (those p ks) → Distinct (cond t (k ∷ those p ks) (those p ks))
    go true e = (has-those p k ks ∙ cond_same (p k) d.0, e)
    go false e = e
