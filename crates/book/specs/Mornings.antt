-- One member's default and the others, in memory. Request L10 is a theorem of the model (Neighbours there); here it is joined to the program: a
-- settlement called on two memories.
use Rattle.std.specs.Prelude.{◌≡◌, List, ℕ, ℤ, ◌-ℤ◌}
use Rattle.std.proofs.Common.{sym, ◌∙◌}
use Rattle.records.specs.Records.{Entry}
use Rattle.model.specs.Book.{Book}
use Rattle.model.specs.Calls.{settle, call_of}
use Rattle.model.specs.Refusals.{refusal}
use Rattle.model.specs.Answers.{called, answer}
use Rattle.model.specs.Kept.{Kept}
use Rattle.model.specs.Neighbours.{AlikeButCash, OthersSame, SameMorning, unpaid}
use Rattle.model.proofs.NeighbourLaws.{one-default, house-apart}
use Rattle.standing.specs.Standing.{view}
use Rattle.standing.specs.Made.{Sound}
use Rattle.standing.specs.StandingLaws.{sound-kept}
use Rattle.book.specs.declared.calls.Answer.{Answer}
use Rattle.book.specs.Called.{answer_of, Called}

-- what was answered on both, and the books read off both memories afterwards
pub record MorningJoined (k : ℕ) (a b : Book) (r s : Answer) : Type 0 where
  pub answers : answer_of a r ≡ answer_of b s
  pub after : OthersSame k a b

same-joined : {k : ℕ} {a b a' b' : Book} {e : Entry} {r s : Answer} → a' ≡ called a e → b' ≡ called b e
    → answer_of a' r ≡ answer a e → answer_of b' s ≡ answer b e → SameMorning k a b e → MorningJoined k a' b' r s
same-joined p q x y m = record { answers = x ∙ m.answers ∙ sym y; after = rw (p, q) m.after }

house-joined : (k : ℕ) (e : Entry) (a b : Book) {a' b' : Book} → Kept a → Kept b → a' ≡ called a e → b' ≡ called b e
    → AlikeButCash k a b → call_of e ≡ settle → refusal a e ≡ 0 → a'.house -ℤ b'.house ≡ unpaid a a' k -ℤ unpaid b b' k
house-joined k e a b i j p q = rw (p, q) (λ same s r. house-apart k a b i j same e s r)

-- two memories whose books are alike but for the cash of the account k, and a settlement called on each
module _ (k : ℕ) {e : Entry} {counts counts' counts₂ counts₂' : List ℕ} {money money' money₂ money₂' : List ℤ} {r s : Answer}
    (settles : call_of e ≡ settle) (c : Called counts money e r counts' money') (d : Called counts₂ money₂ e s counts₂' money₂')
    (alike : AlikeButCash k (view counts money) (view counts₂ money₂)) where
  pub morning-joined : MorningJoined k (view counts' money') (view counts₂' money₂') r s
  morning-joined =
      same-joined c.views d.views c.answers d.answers (one-default k (view counts money) (view counts₂ money₂) alike e settles)

  -- where both are sound, the houses differ by what k was not paid
  pub houses-joined : Sound counts money → Sound counts₂ money₂ → refusal (view counts money) e ≡ 0
      → (view counts' money').house -ℤ (view counts₂' money₂').house
      ≡ unpaid (view counts money) (view counts' money') k -ℤ unpaid (view counts₂ money₂) (view counts₂' money₂') k
  houses-joined p q =
      house-joined k e (view counts money) (view counts₂ money₂) (sound-kept p) (sound-kept q) c.views d.views alike settles
