-- A file has one printed day, and what a record printed from a part of a file says of it.
use Rattle.std.specs.Prelude.{◌≡◌, refl, ◌⊎◌, List, [], ◌∷◌, ◌++◌, ℕ, zero, suc, ◌+◌, ◌-◌, ◌≤◌, ◌<◌, ℤ, length, drop}
use Rattle.std.proofs.Common.{sym, ap, ap₂, ◌∙◌, subst, subst₂, inl, inr, append-nil, arith, length-append, length-drop}
use Rattle.numbers.specs.Below.{Small, below-append, below-drop}
use Rattle.records.specs.Records.{Entry, Parsed, unread, parsed, reading}
use Rattle.records.specs.Files.{nothing-there}
use Rattle.model.specs.Book.{Book}
use Rattle.model.specs.Answers.{called, answer}
use Rattle.standing.specs.Standing.{view}
use Rattle.decimal.specs.Put.{Put}
use Rattle.lines.specs.Lines.{answer_text, bad_text}
use Rattle.printing.specs.declared.one_record.Printed.{Printed}
use Rattle.printing.specs.declared.one_record.Printed.TheVariants.{Next, Bad}
use Rattle.printing.specs.Printed.{Prints, PrintsFirst, ended, spoilt, answered, PrintedBy, PrintedAt}
use Rattle.printing.specs.WindowLaws.{never-read, read-on, unread-on, record-ends}

-- ---- a file has one printed day
pub prints-only : {b : Book} {place : ℕ} {s t u : List ℕ} → Prints b place s t → Prints b place s u → t ≡ u
prints-only ended ended = refl
prints-only ended (spoilt some q) = absurd (omega arith)
prints-only ended (answered {e} {rest} q p) = absurd (nothing-there e rest q)
prints-only (spoilt some q) ended = absurd (omega arith)
prints-only (spoilt some q) (spoilt more p) = refl
prints-only (spoilt some q) (answered {e} {rest} r p) = absurd (never-read e rest (sym q ∙ r))
prints-only (answered {e} {rest} q p) ended = absurd (nothing-there e rest q)
prints-only (answered {e} {rest} q p) (spoilt some r) = absurd (never-read e rest (sym r ∙ q))
prints-only (answered {b} {place} {bytes} {e} {rest} {text} q p) (answered {e = f} {rest = left} {text = other} r o) =
    let same : parsed f left ≡ parsed e rest = sym r ∙ q in
    let entries : f ≡ e = cc in
    let rests : left ≡ rest = cc in
    let again = subst₂ (λ g s. Prints (called b g) (place + (length bytes - length s)) s other) entries rests o in
    ap₂ (λ g s. answer_text g.kind (answer b g) ++ s) (sym entries) (prints-only p again)

unread-prints : (b : Book) (place : ℕ) (s : List ℕ) → reading s ≡ unread → (text : List ℕ) × Prints b place s text
unread-prints b place [] h = ([], ended)
unread-prints b place (x ∷ s) h = let some : 0 < length (x ∷ s) = omega arith in (bad_text place, spoilt some h)

prints-within : (most : ℕ) (b : Book) (place : ℕ) (s : List ℕ) → length s < most → Small s → (text : List ℕ) × Prints b place s text
prints-within zero b place s long small = absurd (omega arith)
prints-within (suc most) b place s long small = go (reading s) refl (prints-within most)
  where
    go : (g : Parsed) → reading s ≡ g
        → ((b : Book) (place : ℕ) (rest : List ℕ) → length rest < most → Small rest → (text : List ℕ) × Prints b place rest text)
        → (text : List ℕ) × Prints b place s text
    go unread h again = unread-prints b place s h
    go (parsed e rest) h again =
        let end = record-ends s 0 small h in
        let on = end.on in
        let left = again (called b e) (place + (length s - length rest)) rest (omega arith) (rw end.left at (below-drop 256 s (length s - length rest) small)) in
        (answer_text e.kind (answer b e) ++ left.0, answered h left.1)

pub prints-some : (b : Book) (place : ℕ) (s : List ℕ) → Small s → (text : List ℕ) × Prints b place s text
prints-some b place s small = prints-within (suc (length s)) b place s (omega arith) small

-- ---- a record printed from a part of a file
-- a record that was read: what is left stands at the place after it
prints-first : (bytes : List ℕ) (at place : ℕ) (b : Book) {e : Entry} {rest : List ℕ} → Small bytes → reading (drop at bytes) ≡ parsed e rest
    → let next = length bytes - length rest in
    PrintsFirst b place (drop at bytes) (answer_text e.kind (answer b e)) (called b e) (place + (next - at)) (drop next bytes)
prints-first bytes at place b {e} {rest} small h more left p =
    let next = length bytes - length rest in
    let end = record-ends bytes at small h in
    let on = end.on in
    let inside = end.inside in
    let h' : reading (drop at bytes) ≡ parsed e (drop next bytes) = h ∙ ap (parsed e) (sym end.left) in
    let size : next - at ≡ length (drop at bytes ++ more) - length (drop next bytes ++ more) = simp (length-append, length-drop) (omega arith) in
    answered (read-on (drop at bytes) more (below-drop 256 bytes at small) h')
    (subst (λ n. Prints (called b e) (place + n) (drop next bytes ++ more) left) size p)

module _ {bytes : List ℕ} {at place : ℕ} {counts : List ℕ} {money : List ℤ} {room : List ℕ} {used : ℕ} {r : Printed} {counts' : List ℕ} {money' : List ℤ} {room' : List ℕ}
    (small : Small bytes) (f : PrintedAt bytes at place counts money room used r counts' money' room') where
  -- an answered record puts the text that stands before what the file prints from the next place on
  pub printed-next : {next after : ℕ} → r ≡ Next next after
      → (text : List ℕ) × (Put room used text after room'
      × PrintsFirst (view counts money) place (drop at bytes) text (view counts' money') (place + (next - at)) (drop next bytes))
  printed-next {next} {after} is = go (reading (drop at bytes)) refl f.outcome
    where
      go : (g : Parsed) → reading (drop at bytes) ≡ g → PrintedBy g bytes place counts money room used r counts' money' room'
          → (text : List ℕ) × (Put room used text after room'
          × PrintsFirst (view counts money) place (drop at bytes) text (view counts' money') (place + (next - at)) (drop next bytes))
      go unread h (end, (q, p)) = let z : ◌≡◌ {A = ℕ} 0 1 = cc in absurd (omega arith)
      go (parsed e rest) h (end, (q, (put, (a, c)))) =
          let b = view counts money in
          let text = answer_text e.kind (answer b e) in
          let same : Next (length bytes - length rest) end ≡ Next next after = sym q ∙ is in
          let places : length bytes - length rest ≡ next = cc in
          let ends : end ≡ after = cc in (
            text,
            (
              subst (λ n. Put room used text n room') ends put,
              subst₂ (λ v n. PrintsFirst b place (drop at bytes) text v (place + (n - at)) (drop n bytes)) (sym c.views) places
                  (prints-first bytes at place b small h),
            ),
          )

  -- where it is bad no record stands in the file either, if enough of the file was read or it has no more
  pub printed-bad : {after : ℕ} (more : List ℕ) → r ≡ Bad after → Small more → 0 < length (drop at bytes) → (more ≡ []) ⊎ (4140 ≤ length (drop at bytes))
      → Prints (view counts money) place (drop at bytes ++ more) (bad_text place) × Put room used (bad_text place) after room'
  printed-bad {after} more is small-more some enough = go (reading (drop at bytes)) refl f.outcome
    where
      unread-there : reading (drop at bytes) ≡ unread → (more ≡ []) ⊎ (4140 ≤ length (drop at bytes)) → reading (drop at bytes ++ more) ≡ unread
      unread-there h (inl e) = rw (e, append-nil (drop at bytes)) h
      unread-there h (inr long) =
          unread-on (drop at bytes) more (below-append 256 (drop at bytes) more (below-drop 256 bytes at small) small-more) long h

      go : (g : Parsed) → reading (drop at bytes) ≡ g → PrintedBy g bytes place counts money room used r counts' money' room'
          → Prints (view counts money) place (drop at bytes ++ more) (bad_text place) × Put room used (bad_text place) after room'
      go unread h (end, (q, (put, p))) =
          let same : Bad end ≡ Bad after = sym q ∙ is in
          let ends : end ≡ after = cc in
          let long : 0 < length (drop at bytes ++ more) = rw (length-append (drop at bytes) more) (omega arith) in
          (spoilt long (unread-there h enough), subst (λ n. Put room used (bad_text place) n room') ends put)
      go (parsed e rest) h (end, (q, p)) = let z : ◌≡◌ {A = ℕ} 0 1 = cc in absurd (omega arith)
