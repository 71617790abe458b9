-- A ticket and its two parts, in memory. Request L8 is theorems of the model (Tickets there); here they are joined to the program: the ticket called
-- on a memory, and on the same memory its two parts, one after the other.
use Rattle.std.specs.Prelude.{◌≡◌, List, ℕ, ℤ}
use Rattle.records.specs.Records.{Entry}
use Rattle.model.specs.Book.{Book}
use Rattle.model.specs.Refusals.{refusal}
use Rattle.model.specs.Answers.{called}
use Rattle.model.specs.Tickets.{Split, Tickets, SplitAlike, Offered, second_refusal}
use Rattle.model.proofs.TicketLaws.{same_end}
use Rattle.model.proofs.SplitLaws.{what-parts-meet}
use Rattle.standing.specs.Standing.{view}
use Rattle.book.specs.declared.calls.Answer.{Answer}
use Rattle.book.specs.Called.{Called}

alike-joined : (s : Split) (e f g : Entry) (b : Book) {whole first both : Book} → whole ≡ called b e → first ≡ called b f → both ≡ called first g → Tickets s e f g
    → refusal b e ≡ 0 → refusal b f ≡ 0 → refusal first g ≡ 0 → SplitAlike s.code whole both
alike-joined s e f g b p q r t = rw (p, r, q) (same_end s b e f g t)

answered-joined : (s : Split) (e f g : Entry) (b : Book) {first : Book} → first ≡ called b f → Offered s b e f g
    → (refusal b f ≡ 0) × (refusal first g ≡ second_refusal s b)
answered-joined s e f g b q o = rw q (let a = what-parts-meet s b e f g o in (a.first_passes, a.second-answered))

module _ (s : Split) {e f g : Entry} {counts counts₁ counts₂ counts₃ : List ℕ} {money money₁ money₂ money₃ : List ℤ} {r₁ r₂ r₃ : Answer}
    (ticket : Called counts money e r₁ counts₁ money₁) (first : Called counts money f r₂ counts₂ money₂) (second : Called counts₂ money₂ g r₃ counts₃ money₃) where
  -- where all three pass, the books read off both memories differ in nothing but what is counted of the day
  pub split-joined : Tickets s e f g → refusal (view counts money) e ≡ 0 → refusal (view counts money) f ≡ 0 → refusal (view counts₂ money₂) g ≡ 0
      → SplitAlike s.code (view counts₁ money₁) (view counts₃ money₃)
  split-joined = alike-joined s e f g (view counts money) ticket.views first.views second.views

  -- where the ticket passes, so does the first part, and the second is refused under 16 or 14 only
  pub parts-joined : Offered s (view counts money) e f g
      → (refusal (view counts money) f ≡ 0)
      × (refusal (view counts₂ money₂) g ≡ second_refusal s (view counts money))
  parts-joined = answered-joined s e f g (view counts money) first.views
