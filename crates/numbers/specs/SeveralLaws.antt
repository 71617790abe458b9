-- Several numbers read back as they were written, and the bytes that read are the ones written.
use Rattle.std.specs.Prelude.{◌≡◌, refl, List, [], ◌∷◌, ◌++◌, ℕ, zero, suc, ◌^◌, ◌<◌, length}
use Rattle.std.proofs.Common.{sym, ap, ◌∙◌, subst₂, append_assoc, arith}
use Rattle.numbers.specs.Below.{Fit, Small, below-append, below-cons, below_right}
use Rattle.numbers.specs.Seven.{Got, none, got, encode, decode}
use Rattle.numbers.specs.SevenLaws.{decode-encode, decode-only, decode-fits, groups-small}
use Rattle.numbers.specs.Several.{write_of, Numbers, nothing, some, on_got, on_some, many}

pub write-append : (a b : List ℕ) → write_of (a ++ b) ≡ write_of a ++ write_of b
unfolding write_of
write-append [] b = refl
write-append (x ∷ a) b = rw (write-append a b) (sym (append_assoc (encode x) (write_of a) (write_of b)))

-- ---- what was written is read
pub many-write : (l r : List ℕ) → Fit l → many (length l) (write_of l ++ r) ≡ some l r
unfolding many write_of
many-write [] r p = refl
many-write (x ∷ l) r p =
    rw (append_assoc (encode x) (write_of l) r, decode-encode x (write_of l ++ r) (p 0), many-write l r λ i. p (suc i))

-- ---- what was read is what is written
pub not_some : (l r : List ℕ) → nothing ≡ some l r → ⊥
not_some l r e = let z : ◌≡◌ {A = ℕ} 0 1 = cc in absurd (omega arith)

-- an answer other than the one for nothing comes from what was found
pub got-apart : {A : Type 0} (g : Got) (z w : A) (f : ℕ → List ℕ → A) → (z ≡ w → ⊥) → on_got g z f ≡ w → (n : ℕ) × (t : List ℕ) × (g ≡ got n t) × (f n t ≡ w)
got-apart none z w f other e = absurd (other e)
got-apart (got n t) z w f other e = (n, t, refl, e)

pub some-apart : {A : Type 0} (g : Numbers) (z w : A) (f : List ℕ → List ℕ → A) → (z ≡ w → ⊥) → on_some g z f ≡ w → (l : List ℕ) × (t : List ℕ) × (g ≡ some l t) × (f l t ≡ w)
some-apart nothing z w f other e = absurd (other e)
some-apart (some l t) z w f other e = (l, t, refl, e)

abbrev pub Wrote : ℕ → List ℕ → List ℕ → List ℕ → Type 0
Wrote n s l r = (s ≡ write_of l ++ r) × (length l ≡ n) × Fit l

wrote-cons : (n x : ℕ) (s t l r : List ℕ) → s ≡ encode x ++ t → x < 2 ^ 64 → Wrote n t l r → Wrote (suc n) s (x ∷ l) r
unfolding write_of
wrote-cons n x s t l r e p w =
    (e ∙ ap (λ z. encode x ++ z) w.0 ∙ sym (append_assoc (encode x) (write_of l) r), ap suc w.1, below-cons (2 ^ 64) x l p w.2)

pub many-only : (n : ℕ) (s l r : List ℕ) → Small s → many n s ≡ some l r → Wrote n s l r
unfolding many write_of
many-only zero s l r small e =
    let el : [] ≡ l = cc in
    let er : s ≡ r = cc in
    subst₂ (λ y z. Wrote 0 s y z) el er (refl, refl, λ i. omega arith)
many-only (suc n) s l r small e =
    let a = got-apart (decode s) nothing (some l r) (λ x t. on_some (many n t) nothing λ xs u. some (x ∷ xs) u) (not_some l r) e in
    let x = a.0 in
    let t = a.1 in
    let b = some-apart (many n t) nothing (some l r) (λ xs u. some (x ∷ xs) u) (not_some l r) a.3 in
    let xs = b.0 in
    let u = b.1 in
    let es : s ≡ encode x ++ t = decode-only s t x small a.2 in
    let q : some (x ∷ xs) u ≡ some l r = b.3 in
    let el : x ∷ xs ≡ l = cc in
    let er : u ≡ r = cc in
    subst₂ (λ y z. Wrote (suc n) s y z) el er
    (wrote-cons n x s t xs u es (decode-fits s t x a.2) (many-only n t xs u (below_right 256 (encode x) t (rw es at small)) b.2))

pub write-small : (l : List ℕ) → Small (write_of l)
unfolding write_of
write-small [] = λ i. omega arith
write-small (x ∷ l) = below-append 256 (encode x) (write_of l) (groups-small 10 x) (write-small l)
