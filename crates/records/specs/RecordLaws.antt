-- A record reads back as it was written, the bytes that read are the ones written, and no part of them reads.
use Rattle.std.specs.Prelude.{◌≡◌, refl, Bool, true, false, cond, List, [], ◌∷◌, ◌++◌, ℕ, suc, ◌^◌, ◌≤◌, ◌<◌, ltb, length}
use Rattle.std.proofs.Common.{sym, ap, ◌∙◌, subst₂, append_assoc, append-nil, arith, le-ltb, ltb-false}
use Rattle.numbers.specs.Below.{Fit, Small, below-append, below-cons, below_left, below_right}
use Rattle.numbers.specs.Seven.{encode, decode}
use Rattle.numbers.specs.SevenLaws.{decode-encode, decode-only, decode-fits, none_left}
use Rattle.numbers.specs.Several.{write_of, on_some, many}
use Rattle.numbers.specs.SeveralLaws.{got-apart, some-apart, write-append, write-small, many-write, Wrote, many-only}
use Rattle.fields.specs.Fields.{known, count, announced}
use Rattle.records.specs.Records.{Entry, entry, writing, Parsed, unread, parsed, read_exceptions, read_fields, reading}

-- what a reader takes
pub record Whole (e : Entry) : Type 0 where
  pub known : known e.kind ≡ true
  pub sized : length e.fields ≡ count e.kind
  pub few : announced e.kind e.fields ≤ 400
  pub more : length e.exceptions ≡ announced e.kind e.fields
  pub fit : Fit (e.kind ∷ (e.fields ++ e.exceptions))

-- the three parts of a record's bytes
pub writing-parts : (k : ℕ) (f x : List ℕ) → writing (entry k f x) ≡ encode k ++ (write_of f ++ write_of x)
unfolding writing write_of
writing-parts k f x = rw (write-append f x)

pub writing-rest : (k : ℕ) (f x rest : List ℕ) → writing (entry k f x) ++ rest ≡ encode k ++ (write_of f ++ (write_of x ++ rest))
writing-rest k f x rest =
    rw (writing-parts k f x, append_assoc (encode k) (write_of f ++ write_of x) rest, append_assoc (write_of f) (write_of x) rest)

-- ---- what was written is read
pub reading-writing : (e : Entry) (rest : List ℕ) → Whole e → reading (writing e ++ rest) ≡ parsed e rest
unfolding reading
reading-writing e rest w =
    let k = e.kind in
    let f = e.fields in
    let x = e.exceptions in
    let p = w.fit in
    let later : Fit (f ++ x) = λ i. p (suc i) in
    rw (writing-rest k f x rest, decode-encode k (write_of f ++ (write_of x ++ rest)) (p 0), w.known, ← w.sized, many-write f (write_of x ++ rest) (below_left (2 ^ 64) f x later), le-ltb 400 (announced k f) w.few, ← w.more, many-write x rest (below_right (2 ^ 64) f x later))

-- ---- what was read is what is written
not-parsed : (e : Entry) (r : List ℕ) → unread ≡ parsed e r → ⊥
not-parsed e r q = let z : ◌≡◌ {A = ℕ} 0 1 = cc in absurd (omega arith)

then-apart : (t : Bool) (g : Parsed) (e : Entry) (r : List ℕ) → cond t g unread ≡ parsed e r → (t ≡ true) × (g ≡ parsed e r)
then-apart true g e r q = (refl, q)
then-apart false g e r q = absurd (not-parsed e r q)

else-apart : (t : Bool) (g : Parsed) (e : Entry) (r : List ℕ) → cond t unread g ≡ parsed e r → (t ≡ false) × (g ≡ parsed e r)
else-apart true g e r q = absurd (not-parsed e r q)
else-apart false g e r q = (refl, q)

abbrev pub Reads : List ℕ → Entry → List ℕ → Type 0
Reads s e rest = (s ≡ writing e ++ rest) × Whole e

whole : (k : ℕ) (s t u f x v : List ℕ) → k < 2 ^ 64 → known k ≡ true → s ≡ encode k ++ t → Wrote (count k) t f u → announced k f ≤ 400 → Wrote (announced k f) u x v → Reads s (entry k f x) v
whole k s t u f x v p kn es wf few wx = (
  es ∙ ap (λ z. encode k ++ z) (wf.0 ∙ ap (λ z. write_of f ++ z) wx.0) ∙ sym (writing-rest k f x v),
  record { known = kn; sized = wf.1; few = few; more = wx.1; fit = below-cons (2 ^ 64) k (f ++ x) p (below-append (2 ^ 64) f x wf.2 wx.2) },
)

pub reading-only : (s : List ℕ) (e : Entry) (rest : List ℕ) → Small s → reading s ≡ parsed e rest → Reads s e rest
unfolding reading
reading-only s e rest small q =
    let none-there = not-parsed e rest in
    let a = got-apart (decode s) unread (parsed e rest) (λ kind r. read_fields kind r) none-there q in
    let k = a.0 in
    let t = a.1 in
    let es : s ≡ encode k ++ t = decode-only s t k small a.2 in
    let st : Small t = below_right 256 (encode k) t (rw es at small) in
    let b = then-apart (known k) (on_some (many (count k) t) unread λ fields r. read_exceptions k fields r) e rest a.3 in
    let d = some-apart (many (count k) t) unread (parsed e rest) (λ fields r. read_exceptions k fields r) none-there b.1 in
    let f = d.0 in
    let u = d.1 in
    let wf = many-only (count k) t f u st d.2 in
    let et : t ≡ write_of f ++ u = wf.0 in
    let su : Small u = below_right 256 (write_of f) u (rw et at st) in
    let g = else-apart (ltb 400 (announced k f)) (on_some (many (announced k f) u) unread λ exceptions r. parsed (entry k f exceptions) r) e rest d.3 in
    let h = some-apart (many (announced k f) u) unread (parsed e rest) (λ exceptions r. parsed (entry k f exceptions) r) none-there g.1 in
    let x = h.0 in
    let v = h.1 in
    let wx = many-only (announced k f) u x v su h.2 in
    let q' : parsed (entry k f x) v ≡ parsed e rest = h.3 in
    let ee : entry k f x ≡ e = cc in
    let er : v ≡ rest = cc in
    subst₂ (λ y z. Reads s y z) {x = entry k f x} {u = v} ee er
    (whole k s t u f x v (decode-fits s t k a.2) b.0 es wf (ltb-false 400 (announced k f) g.0) wx)

-- two byte strings that read as one record begin with the same bytes
pub reading-same : (s t : List ℕ) (e : Entry) (r u : List ℕ) → Small s → Small t → reading s ≡ parsed e r → reading t ≡ parsed e u
    → (s ≡ writing e ++ r) × (t ≡ writing e ++ u)
reading-same s t e r u p q g h = ((reading-only s e r p g).0, (reading-only t e u q h).0)

-- reading looks at nothing past the record
pub reading-stops : (s : List ℕ) (e : Entry) (rest other : List ℕ) → Small s → reading s ≡ parsed e rest → reading (writing e ++ other) ≡ parsed e other
reading-stops s e rest other small q = reading-writing e other (reading-only s e rest small q).1

-- ---- a part of a record is cut short
pub writing-small : (e : Entry) → Small (writing e)
unfolding writing
writing-small e = write-small (e.kind ∷ (e.fields ++ e.exceptions))

pub part-unread : (e : Entry) (p q : List ℕ) → Whole e → writing e ≡ p ++ q → (q ≡ [] → ⊥) → reading p ≡ unread
part-unread e p q w is ne = go (reading p) refl
  where
    small : Small p
    small = below_left 256 p q (rw is at (writing-small e))

    go : (g : Parsed) → reading p ≡ g → reading p ≡ unread
    go unread h = h
    go (parsed m r) h =
        let a = reading-only p m r small h in
        let t : p ++ q ≡ writing m ++ (r ++ q) = ap (λ z. z ++ q) a.0 ∙ append_assoc (writing m) r q in
        let b : reading (p ++ q) ≡ parsed m (r ++ q) = rw t (reading-writing m (r ++ q) a.1) in
        let d : reading (p ++ q) ≡ parsed e [] = rw (← is, ← append-nil (writing e)) (reading-writing e [] w) in
        let n : r ++ q ≡ [] = cc in
        absurd (ne (none_left r q n))
