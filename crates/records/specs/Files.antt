-- A file that reads to its end: it is the writings of its records, one after the other, and of no others.
use Rattle.std.specs.Prelude.{◌≡◌, refl, List, [], ◌∷◌, ◌++◌, ℕ, drop}
use Rattle.std.proofs.Common.{sym, ap, ap₂, ◌∙◌, subst, arith}
use Rattle.numbers.specs.Below.{Small, below_right}
use Rattle.numbers.specs.Seven.{unbounded}
use Rattle.records.specs.Records.{Entry, entry, writing, parsed, reading}
use Rattle.records.specs.RecordLaws.{Whole, reading-only, reading-writing}
use Rattle.records.specs.Reading.{record_at, reading_at}
use Rattle.records.specs.ReadingLaws.{reads_on}

-- some bytes read to their end as some records: the rest after each is read on
unfoldable pub ReadsAs : List ℕ → List Entry → Type 0
ReadsAs s [] = s ≡ []
ReadsAs s (e ∷ more) = (rest : List ℕ) × (reading s ≡ parsed e rest) × ReadsAs rest more

unfoldable pub writings : List Entry → List ℕ
writings [] = []
writings (e ∷ more) = writing e ++ writings more

unfoldable pub AllWhole : List Entry → Type 0
AllWhole [] = Unit {0}
AllWhole (e ∷ more) = Whole e × AllWhole more

-- a file is the concatenation of the writings of its records
pub file-written : (s : List ℕ) (l : List Entry) → Small s → ReadsAs s l → (s ≡ writings l) × AllWhole l
unfolding ReadsAs writings AllWhole
file-written s [] small r = (r, tt)
file-written s (e ∷ more) small (rest, q, r) =
    let a = reading-only s e rest small q in
    let sr : Small rest = below_right 256 (writing e) rest (rw a.0 at small) in
    let b = file-written rest more sr r in
    (a.0 ∙ ap (λ z. writing e ++ z) b.0, (a.1, b.1))

pub file-reads : (l : List Entry) → AllWhole l → ReadsAs (writings l) l
unfolding ReadsAs writings AllWhole
file-reads [] w = refl
file-reads (e ∷ more) (w, ws) = (writings more, reading-writing e (writings more) w, file-reads more ws)

-- no other records are in it
pub nothing-there : (e : Entry) (rest : List ℕ) → reading [] ≡ parsed e rest → ⊥
unfolding reading unbounded
nothing-there e rest q = let z : ◌≡◌ {A = ℕ} 0 1 = cc in absurd (omega arith)

pub file-only : (s : List ℕ) (l m : List Entry) → ReadsAs s l → ReadsAs s m → l ≡ m
unfolding ReadsAs
file-only s [] [] p q = refl
file-only s [] (f ∷ m) p (rest, q, r) = absurd (nothing-there f rest (rw p at q))
file-only s (e ∷ l) [] (rest, q, r) p = absurd (nothing-there e rest (rw p at q))
file-only s (e ∷ l) (f ∷ m) (rest, q, r) (left, u, v) =
    let same : parsed e rest ≡ parsed f left = sym q ∙ u in
    let ee : e ≡ f = cc in
    let er : rest ≡ left = cc in
    ap₂ (λ (x : Entry) (y : List Entry). x ∷ y) ee (file-only left l m (subst (λ z. ReadsAs z l) er r) v)

-- no two lists of records have the same bytes
pub bytes-only : (l m : List Entry) → AllWhole l → AllWhole m → writings l ≡ writings m → l ≡ m
bytes-only l m p q e = file-only (writings m) l m (subst (λ z. ReadsAs z l) e (file-reads l p)) (file-reads m q)

-- a record read at a place goes before the records of what is left
pub file-step : (s : List ℕ) (at next kind : ℕ) (fields : List ℕ) (place : ℕ) (more : List Entry) (small : Small s) (e : reading_at s at ≡ record_at next kind fields place)
    → ReadsAs (drop next s) more → ReadsAs (drop at s) (entry kind (reads_on s at small next kind fields place e).own (reads_on s at small next kind fields place e).exceptions ∷ more)
unfolding ReadsAs
file-step s at next kind fields place more small e r =
    let st = reads_on s at small next kind fields place e in
    (drop next s, rw st.lies.bytes (reading-writing (entry kind st.own st.exceptions) (drop next s) st.lies.whole), r)
