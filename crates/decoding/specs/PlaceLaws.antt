-- From place to place: what is left after a number is a part of the bytes.
use Rattle.std.specs.Prelude.{◌≡◌, refl, List, [], ◌∷◌, ◌++◌, length, get_or, drop, set, Some, None}
use Rattle.std.proofs.Common.{sym, ap, ◌∙◌, add-one, length-append, length-drop, drop-drop, drop-cons}
use Prim.Native.Nat.{ℕ, suc, ◌+◌, ◌-◌, ◌≤◌, ◌<◌}
use Rattle.std.proofs.Math.Decide.{dec_lt}
use native.Mathlib.Omega.{arith}
use Rattle.std.proofs.Math.Seq.{drop-append_seam, append_snoc}
use Rattle.std.proofs.lemmas.List.{set_at}
use Rattle.numbers.specs.Below.{Small, below-drop}
use Rattle.numbers.specs.Seven.{Got, none, got, unbounded, encode, decode}
use Rattle.numbers.specs.SevenLaws.{decode-only, unbounded-last, unbounded-more, before-got, bounded-got}
use Rattle.numbers.specs.Several.{Numbers, nothing, some, on_some, write_of, many}
use Rattle.numbers.specs.SeveralLaws.{many-only}
use Rattle.decoding.specs.Place.{placed, number_at, ended, stored}

-- ---- one number
-- what is left after a number is a part of the bytes before it
abbrev Front : List ℕ → List ℕ → Type 0
Front s r = (b : ℕ) × (p : List ℕ) × (s ≡ b ∷ (p ++ r))

unbounded-front : (s r : List ℕ) (n : ℕ) → unbounded s ≡ got n r → Front s r
unfolding unbounded
unbounded-front [] r n e = let z : ◌≡◌ {A = ℕ} 0 1 = cc in absurd (omega arith)
unbounded-front (b ∷ s) r n e = go (dec_lt b 128) (unbounded-front s r)
  where
    go : Dec (b < 128) → ((n : ℕ) → unbounded s ≡ got n r → Front s r) → Front (b ∷ s) r
    go (yes p) ih =
        let q : got b s ≡ got n r = sym (unbounded-last b s p) ∙ e in
        let qr : s ≡ r = cc in
        (b, [], ap (λ l. b ∷ l) qr)
    go (no p) ih =
        let a = before-got b (unbounded s) n r (sym (unbounded-more b s (omega arith)) ∙ e) in
        let f = ih a.0 a.1 in
        (b, f.0 ∷ f.1, ap (λ l. b ∷ l) f.2)

-- x stands at the place p, and next is the place after it
pub record Moved (s : List ℕ) (p x next : ℕ) : Type 0 where
  pub is : decode (drop p s) ≡ got x (drop next s)
  pub on : p < next
  pub inside : next ≤ length s

pub value-is : (s : List ℕ) (p x next : ℕ) → number_at s p ≡ Some (x, next) → Moved s p x next
value-is s p x next e = go (decode (drop p s)) refl e
  where
    go : (g : Got) → decode (drop p s) ≡ g → placed s g ≡ Some (x, next) → Moved s p x next
    go none h q = let z : ◌≡◌ {A = ℕ} 0 1 = cc in absurd (omega arith)
    go (got n r) h q =
        let both : ◌≡◌ {A = ℕ × ℕ} (n, length s - length r) (x, next) = cc in
        let en : n ≡ x = ap (λ k. k.0) both in
        let el : length s - length r ≡ next = ap (λ k. k.1) both in
        let a = bounded-got (unbounded (drop p s)) n r h in
        let f = unbounded-front (drop p s) r n a.0 in
        let b = f.0 in
        let t = f.1 in
        let l : length s - p ≡ suc (length t + length r) = sym (length-drop p s) ∙ ap length f.2 ∙ ap suc (length-append t r) in
        let c : next ≡ p + length (b ∷ t) = omega arith in
        let d : drop next s ≡ r = ap (λ k. drop k s) c ∙ sym (drop-drop (length (b ∷ t)) p s) ∙ ap (λ z. drop (length (b ∷ t)) z) f.2 ∙ drop-append_seam (b ∷ t) r in
        record { is = rw d (h ∙ ap (λ z. got z r) en); on = omega arith; inside = omega arith }

pub bad-is : (s : List ℕ) (p : ℕ) → number_at s p ≡ None → decode (drop p s) ≡ none
bad-is s p e = go (decode (drop p s)) refl e
  where
    go : (g : Got) → decode (drop p s) ≡ g → placed s g ≡ None → decode (drop p s) ≡ none
    go none h q = h
    go (got n r) h q = let z : ◌≡◌ {A = ℕ} 0 1 = cc in absurd (omega arith)

-- the end of the bytes, seen from a place
pub end-here : (s : List ℕ) (p : ℕ) → p ≤ length s → length s - length (drop p s) ≡ p
end-here s p h = rw (length-drop p s) (omega arith)

-- ---- several numbers, one by one
-- numbers passed already, before those that are read from there on
abbrev pub joined : List ℕ → Numbers → Numbers
joined l nothing = nothing
joined l (some m r) = some (l ++ m) r

module _ (n : ℕ) (s : List ℕ) (h : 0 < n) where
  pub many-bad : decode s ≡ none → many n s ≡ nothing
  unfolding many
  many-bad e = let z : n ≡ suc (n - 1) = omega arith in rw (z, e)

  pub many-one : (x : ℕ) (r : List ℕ) → decode s ≡ got x r → many n s ≡ on_some (many (n - 1) r) nothing λ l t. some (x ∷ l) t
  unfolding many
  many-one x r e = let z : n ≡ suc (n - 1) = omega arith in rw (z, e) (rw (← z))

ended-cons : (s : List ℕ) (x : ℕ) (g : Numbers) → ended s (on_some g nothing λ l t. some (x ∷ l) t) ≡ ended s g
ended-cons s x nothing = refl
ended-cons s x (some l t) = refl

joined-cons : (a : List ℕ) (x : ℕ) (g : Numbers) → joined a (on_some g nothing λ l t. some (x ∷ l) t) ≡ joined (a ++ (x ∷ [])) g
joined-cons a x nothing = refl
joined-cons a x (some l t) = ap (λ z. some z t) (sym (append_snoc a x l))

pub ended-step : (s : List ℕ) (n p x next : ℕ) → 0 < n → Moved s p x next → ended s (many n (drop p s)) ≡ ended s (many (n - 1) (drop next s))
ended-step s n p x next h m = rw (many-one n (drop p s) h x (drop next s) m.is) (ended-cons s x (many (n - 1) (drop next s)))

pub ended-none : (s : List ℕ) (p : ℕ) → p ≤ length s → ended s (many 0 (drop p s)) ≡ Some p
unfolding many
ended-none s p h = rw (end-here s p h)

pub joined_step : (a s : List ℕ) (n p x next : ℕ) → 0 < n → Moved s p x next → joined a (many n (drop p s)) ≡ joined (a ++ (x ∷ [])) (many (n - 1) (drop next s))
joined_step a s n p x next h m = rw (many-one n (drop p s) h x (drop next s) m.is) (joined-cons a x (many (n - 1) (drop next s)))

pub joined-nil : (g : Numbers) → g ≡ joined [] g
joined-nil nothing = refl
joined-nil (some l t) = refl

pub moved-size : (s : List ℕ) (p x next : ℕ) → Small s → Moved s p x next → next ≡ p + length (encode x)
moved-size s p x next h m =
    let on = m.on in
    let inside = m.inside in
    let e : length s - p ≡ length (encode x) + (length s - next) = sym (length-drop p s) ∙ ap length (decode-only (drop p s) (drop next s) x (below-drop 256 s p h) m.is) ∙ length-append (encode x) (drop next s) ∙ ap (λ k. length (encode x) + k) (length-drop next s) in
    omega arith

-- n numbers from a place on, up to another
pub record Ran (s : List ℕ) (p n q : ℕ) : Type 0 where
  pub list : List ℕ
  pub is : many n (drop p s) ≡ some list (drop q s)
  pub size : q ≡ p + length (write_of list)
  pub long : length list ≡ n
  pub inside : q ≤ length s

pub ran : (s : List ℕ) (p n q : ℕ) → Small s → p ≤ length s → ended s (many n (drop p s)) ≡ Some q → Ran s p n q
ran s p n q small h e = go (many n (drop p s)) refl e
  where
    go : (g : Numbers) → many n (drop p s) ≡ g → ended s g ≡ Some q → Ran s p n q
    go nothing i j = let z : ◌≡◌ {A = ℕ} 0 1 = cc in absurd (omega arith)
    go (some l r) i j =
        let el : length s - length r ≡ q = cc in
        let w = many-only n (drop p s) l r (below-drop 256 s p small) i in
        let k : length s - p ≡ length (write_of l) + length r = sym (length-drop p s) ∙ ap length w.0 ∙ length-append (write_of l) r in
        let c : q ≡ p + length (write_of l) = omega arith in
        let d : drop q s ≡ r = ap (λ k. drop k s) c ∙ sym (drop-drop (length (write_of l)) p s) ∙ ap (λ z. drop (length (write_of l)) z) w.0 ∙ drop-append_seam (write_of l) r in
        record { list = l; is = rw d i; size = c; long = w.1; inside = omega arith }

pub short : (s : List ℕ) (g : Numbers) → ended s g ≡ None → g ≡ nothing
short s nothing e = refl
short s (some l r) e = let z : ◌≡◌ {A = ℕ} 0 1 = cc in absurd (omega arith)

-- ---- numbers stored in lent room
pub stored-end : (s room : List ℕ) (g : Numbers) → (stored s room g).end ≡ ended s g
stored-end s room nothing = refl
stored-end s room (some l rest) = refl

-- one more stored after those that are there
pub store-next : (a room : List ℕ) (i x : ℕ) → length a ≡ i → i < length room → set (a ++ drop i room) i x ≡ (a ++ (x ∷ [])) ++ drop (i + 1) room
store-next a room i x e h =
    rw (drop-cons room i 0 h, set_at a (get_or room i 0) (drop (suc i) room) x i e, add-one i)
    (sym (append_snoc a x (drop (suc i) room)))
