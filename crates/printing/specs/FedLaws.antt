-- A record fed to a book and its answer put into the room are a printed record.
use Rattle.std.specs.Prelude.{◌≡◌, refl, List, ℕ, ◌+◌, ◌-◌, ℤ, length, get_or, drop, Result, Ok, Err}
use Rattle.std.proofs.Common.{sym, ap, ◌∙◌, subst₂, arith, get_or-drop}
use Rattle.numbers.specs.Below.{Small, below-drop}
use Rattle.records.specs.declared.Malformed.{Malformed}
use Rattle.records.specs.Records.{Parsed, unread, parsed, reading}
use Rattle.standing.specs.Standing.{view}
use Rattle.standing.specs.Made.{Sound}
use Rattle.book.specs.declared.bytes.Fed.{Fed}
use Rattle.book.specs.Called.{answer_of}
use Rattle.book.specs.Feeding.{FedBy, FedAt}
use Rattle.decimal.specs.Put.{Put}
use Rattle.lines.specs.Lines.{answer_text, bad_text}
use Rattle.printing.specs.declared.one_record.Printed.TheVariants.{Next, Bad}
use Rattle.printing.specs.Printed.{PrintedBy, PrintedAt}
use Rattle.printing.specs.WindowLaws.{kind-first}

module _ {bytes : List ℕ} {at : ℕ} {counts : List ℕ} {money : List ℤ} {r : Result Fed Malformed} {counts' : List ℕ} {money' : List ℤ}
    (f : FedAt bytes at counts money r counts' money') where
  pub fed-sound : {fed : Fed} → r ≡ Ok fed → Sound counts' money'
  fed-sound {fed} is = go (reading (drop at bytes)) f.outcome
    where
      go : (g : Parsed) → FedBy g bytes at counts money r counts' money' → Sound counts' money'
      go unread (q, same) = let z : ◌≡◌ {A = ℕ} 0 1 = cc in absurd (omega arith)
      go (parsed e rest) (a, (q, c)) = c.sound

  module _ {place : ℕ} {room : List ℕ} {used after : ℕ} {room' : List ℕ} where
    pub bad-printed : {bad : Malformed} → r ≡ Err bad → Put room used (bad_text place) after room'
        → PrintedAt bytes at place counts money room used (Bad after) counts' money' room'
    bad-printed {bad} is put = record { outcome = go (reading (drop at bytes)) f.outcome }
      where
        go : (g : Parsed) → FedBy g bytes at counts money r counts' money' → PrintedBy g bytes place counts money room used (Bad after) counts' money' room'
        go unread (q, same) = (after, (refl, (put, same)))
        go (parsed e rest) (a, (q, c)) = let z : ◌≡◌ {A = ℕ} 0 1 = cc in absurd (omega arith)

    -- the byte at the place is the record's kind, and what the book answers is the model's answer
    pub answer-printed : {fed : Fed} {kind : ℕ} → Small bytes → r ≡ Ok fed → kind ≡ get_or bytes at 0
        → Put room used (answer_text kind (answer_of (view counts' money') fed.answer)) after room'
        → PrintedAt bytes at place counts money room used (Next fed.next after) counts' money' room'
    answer-printed {fed} small is byte put = record { outcome = go (reading (drop at bytes)) refl f.outcome }
      where
        go : (g : Parsed) → reading (drop at bytes) ≡ g → FedBy g bytes at counts money r counts' money'
            → PrintedBy g bytes place counts money room used (Next fed.next after) counts' money' room'
        go unread h (q, same) = let z : ◌≡◌ {A = ℕ} 0 1 = cc in absurd (omega arith)
        go (parsed e rest) h (b, (q, c)) =
            let places : fed.next ≡ length bytes - length rest = cc in
            let answers : fed.answer ≡ b = cc in
            let here : at ≡ at + 0 = omega arith in
            let first = kind-first (drop at bytes) (below-drop 256 bytes at small) h in
            let kind = byte ∙ ap (λ i. get_or bytes i 0) here ∙ sym (get_or-drop at bytes 0 0) ∙ first in
            let told = ap (answer_of (view counts' money')) answers ∙ c.answers in
            (after, (ap (λ n. Next n after) places, (subst₂ (λ k o. Put room used (answer_text k o) after room') kind told put, (b, c))))
