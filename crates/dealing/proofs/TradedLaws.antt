-- A trade's answer is the model's, and so is the memory after it.
use Rattle.std.specs.Prelude.{◌≡◌, Bool, not, cond, List, [], ◌∷◌, ℕ, zero, suc, ℤ, Ok, Err}
use Rattle.std.proofs.Math.Path.{refl}
use Rattle.std.proofs.Common.{sym, ap, ap₂, ◌∙◌, arith}
use Rattle.std.proofs.Math.Bool.{true, false}
use Rattle.positions.specs.Beyond.{is_beyond}
use Rattle.holdings.specs.Limits.{is_over}
use Rattle.holdings.specs.declared.Side.TheVariants.{Passes, Beyond, Over}
use Rattle.holdings.specs.declared.Totals.{Totals}
use Rattle.memory.specs.Memory.{Holds}
use Rattle.model.specs.Book.{Book, margins_of}
use Rattle.model.specs.Calls.{Trade, trade}
use Rattle.model.specs.Effects.{traded, after}
use Rattle.model.specs.Refusals.{needs, first_of, side_totals}
use Rattle.model.specs.Answers.{refused, both_sides, answered, kept, refusal_of}
use Rattle.model.specs.Kept.{Kept}
use Rattle.model.proofs.OpenDayLaws.{refusing-number}
use Rattle.standing.specs.Standing.{account_row, rows_of, view}
use Rattle.standing.specs.Made.{decided, Sound}
use Rattle.standing.specs.StandingLaws.{sound-holds}
use Rattle.standing.specs.DealLaws.{side-is}
use Rattle.refusals.specs.Refusals.{number_of}
use Rattle.refusals.specs.declared.Refusal.{Refusal}
use Rattle.refusals.specs.declared.Refusal.TheVariants.{InDefault}
use Rattle.dealing.specs.declared.Dealt.{Dealt}
use Rattle.dealing.specs.Dealing.{answer_of, Traded}
use Rattle.dealing.specs.Sides.{weighed, judged}
use Rattle.dealing.specs.Parties.{Answers, Ready}
use Rattle.dealing.specs.PartiesLaws.{by-sides}

-- ---- what the two sides say is what the last six tests find
module _ (b : Book) (t : Trade) where
  tested : (in_default defaults beyond further over above : Bool)
      → answer_of (cond in_default (Err InDefault) (cond defaults (Err InDefault) (weighed
      (cond beyond Beyond (cond over (Over (side_totals b t t.buyer)) (Passes (side_totals b t t.buyer))))
      (cond further Beyond (cond above (Over (side_totals b t t.seller)) (Passes (side_totals b t t.seller)))))))
      ≡ answered (first_of (
      needs (not in_default) 12 ∷ needs (not defaults) 12 ∷ needs (not beyond) 13 ∷ needs (not further) 13 ∷ needs (not over) 14 ∷
      needs (not above) 14 ∷ [])) b (trade t)
  unfolding first_of
  tested true defaults beyond further over above = refl
  tested false true beyond further over above = refl
  tested false false true further over above = refl
  tested false false false true true above = refl
  tested false false false true false above = refl
  tested false false false false true true = refl
  tested false false false false true false = refl
  tested false false false false false true = refl
  tested false false false false false false = refl

module _ {b : Book} {t : Trade} {k i j : ℕ} (g : Kept b) (r : Ready b t k i j) where
  pub judged-answers : Answers b t (judged (margins_of b) k
      (account_row b t.buyer) (account_row (traded b t) t.buyer) (account_row b t.seller) (account_row (traded b t) t.seller))
  judged-answers =
      let buys = (b.accounts.funds t.buyer).flag in
      let sells = (b.accounts.funds t.seller).flag in
      ap₂ (λ x y. answer_of (cond buys (Err InDefault) (cond sells (Err InDefault) (weighed x y))))
      (side-is g r.between t.buyer) (side-is g r.between t.seller)
      ∙ tested b t buys sells
      (is_beyond ((traded b t).accounts.position t.buyer t.code)) (is_beyond ((traded b t).accounts.position t.seller t.code))
      (is_over (side_totals b t t.buyer)) (is_over (side_totals b t t.seller))
      ∙ ap (λ d. answered d b (trade t)) (sym (by-sides b t r))

-- ---- the memory after an answer
refused-keeps : (b : Book) (t : Trade) (n d : ℕ) → refused n ≡ answered d b (trade t) → kept d b (trade t) ≡ b
refused-keeps b t n zero e = let z : ◌≡◌ {A = ℕ} 0 1 = cc in absurd (omega arith)
refused-keeps b t n (suc d) e = refl

accepted-keeps : (b : Book) (t : Trade) (x y : Totals) (d : ℕ) → both_sides x y ≡ answered d b (trade t) → kept d b (trade t) ≡ traded b t
unfolding after
accepted-keeps b t x y zero e = refl
accepted-keeps b t x y (suc d) e = absurd (omega (arith, ap (λ a. (refusal_of a).number) e, refusing-number b (suc d)))

module _ {c : List ℕ} {m : List ℤ} (s : Sound c m) {t : Trade} where
  pub refused-traded : (r : Refusal) → Answers (view c m) t (Err r) → Traded c m t (Err r) c m
  refused-traded r a = record { answers = a; memory = rw (refused-keeps (view c m) t (number_of r) (decided (view c m) (trade t)) a) (sound-holds s) }

  pub accepted-traded : {c' : List ℕ} {m' : List ℤ} {d : Dealt} → Answers (view c m) t (Ok d)
      → Holds c' m' (rows_of (traded (view c m) t)) → Traded c m t (Ok d) c' m'
  accepted-traded {d = d} a h = record { answers = a; memory = rw (accepted-keeps (view c m) t d.buyer d.seller (decided (view c m) (trade t)) a) h }
