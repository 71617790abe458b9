-- What the line of a refused call says: its number and what the refusal returns, so 20 with the day expected.
use Rattle.std.specs.Prelude.{◌≡◌, refl, List, [], ◌∷◌, map, ℕ, suc}
use Rattle.std.proofs.Common.{sym, ap₂, ◌∙◌, suc-ne-zero}
use Rattle.decimal.specs.Decimal.{numeral}
use Rattle.records.specs.Records.{Entry}
use Rattle.model.specs.Refusals.{refusal}
use Rattle.model.specs.Answers.{Answer, refused, not_next, done, both_sides, report, answer, refusal_of}
use Rattle.model.specs.History.{run}
use Rattle.model.specs.Promises.{NextDay}
use Rattle.model.proofs.PromiseLaws.{promises}
use Rattle.lines.specs.Lines.{no, line, refusal_text, answer_text}

pub refusal-says : (kind k : ℕ) (a : Answer) → (refusal_of a).number ≡ suc k → answer_text kind a ≡ refusal_text kind (refusal_of a)
refusal-says kind k (refused n) e = refl
refusal-says kind k (not_next d) e = refl
refusal-says kind k done e = absurd (suc-ne-zero k (sym e))
refusal-says kind k (both_sides buyer seller) e = absurd (suc-ne-zero k (sym e))
refusal-says kind k (report r) e = absurd (suc-ne-zero k (sym e))

-- after any calls, 20 is never printed without the day that is expected
pub twenty-says : (h : List Entry) (e : Entry) → refusal (run h) e ≡ 20
    → (d : ℕ) × (NextDay (run h) d × (answer_text e.kind (answer (run h) e) ≡ line (numeral e.kind) (no ∷ numeral 20 ∷ numeral d ∷ [])))
twenty-says h e q =
    let r = (promises h).refusals e 19 q in
    let x = r.expects refl in
    let text : ℕ → List ℕ → List ℕ = λ n values. line (numeral e.kind) (no ∷ numeral n ∷ map numeral values) in
    (x.0, (x.1.1, refusal-says e.kind 19 (answer (run h) e) r.number ∙ ap₂ text r.number x.1.0))
