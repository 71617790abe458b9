-- What an accepted trade answers, and that it lifts no total above both its limit and the total before.
use Rattle.std.specs.Prelude.{◌≡◌, false, map, ℕ, eqb, ◌≤ℤ◌}
use Rattle.std.proofs.Math.Path.{refl, fun_ext}
use Rattle.std.proofs.Common.{sym, ◌∙◌, ap, ap₂, subst, inl, inr, eqb-true}
use Rattle.std.proofs.lemmas.Bool.{not-true}
use Rattle.lists.specs.HasLaws.{by_test}
use Rattle.whole.specs.Order.{≤ℤ-trans}
use Rattle.whole.specs.Larger.{larger, larger-above}
use Rattle.records.specs.Records.{Entry}
use Rattle.totals.specs.Totals as positions
use Rattle.holdings.specs.Limits.{totals_of, is_over}
use Rattle.holdings.specs.LimitLaws.{Allowed, not-over-allowed}
use Rattle.model.specs.Book.{Book, margins_of}
use Rattle.model.specs.Calls.{Trade, call_of, trade}
use Rattle.model.specs.Effects.{traded, after}
use Rattle.model.specs.Refusals.{side_totals, tests, refusal}
use Rattle.model.specs.Answers.{called, answer, both_sides}
use Rattle.model.proofs.StepLaws.{Passed, needed, accepted-by}
use Rattle.model.proofs.FrameLaws.{bystander-still}
use Rattle.model.specs.RefusalLaws.{accepted-called, accepted-answer}
use Rattle.model.specs.Bounds.{total_in, limit_in}
use Rattle.model.specs.Promises.{side_of, TradeKept}

module _ (b : Book) (t : Trade) where
  -- the six numbers
  pub side-is : (n : ℕ) → side_totals b t n ≡ side_of b (traded b t) n
  unfolding totals_of
  side-is n = refl

  -- whoever is no side has the total that it had
  bystander-total : (n : ℕ) → eqb n t.buyer ≡ false → eqb n t.seller ≡ false → total_in (traded b t) n ≡ total_in b n
  bystander-total n p q =
      ap (λ f. positions.total (map f b.contracts.codes) (margins_of b))
      (fun_ext (λ c. bystander-still t (b.accounts.position n c) n c p q))

  lifted : (n : ℕ) → is_over (side_totals b t n) ≡ false → total_in (traded b t) n ≤ℤ larger (limit_in b n) (total_in b n)
  lifted n e = go (not-over-allowed (side_of b (traded b t) n) (ap is_over (sym (side-is n)) ∙ e))
    where
      go : Allowed (side_of b (traded b t) n) → total_in (traded b t) n ≤ℤ larger (limit_in b n) (total_in b n)
      go (inl h) = ≤ℤ-trans h (larger-above (limit_in b n) (total_in b n)).0
      go (inr h) = ≤ℤ-trans h (larger-above (limit_in b n) (total_in b n)).1

  -- both sides were tested, and nobody else has moved
  pub lifts-none : is_over (side_totals b t t.buyer) ≡ false → is_over (side_totals b t t.seller) ≡ false
      → (n : ℕ) → total_in (traded b t) n ≤ℤ larger (limit_in b n) (total_in b n)
  lifts-none buys sells n =
      by_test (eqb n t.buyer) (λ e. lifted n (ap (λ k. is_over (side_totals b t k)) (eqb-true n t.buyer e) ∙ buys))
      (λ e. by_test (eqb n t.seller) (λ f. lifted n (ap (λ k. is_over (side_totals b t k)) (eqb-true n t.seller f) ∙ sells))
      (λ f. subst (λ z. z ≤ℤ larger (limit_in b n) (total_in b n)) (sym (bystander-total n e f)) (larger-above (limit_in b n) (total_in b n)).1))

pub trades-kept : (b : Book) (e : Entry) (t : Trade) → refusal b e ≡ 0 → call_of e ≡ trade t → TradeKept b (called b e) (answer b e) t
unfolding after
trades-kept b e t r q =
    let p = subst (λ c. Passed (tests b c)) q (accepted-by b e r).passed in
    let over = p.1.1.1.1.1.1.1.1.1.1.1.1 in
    subst (λ after. TradeKept b after (answer b e) t) (sym (accepted-called b e r q)) (record {
      answers = accepted-answer b e r q ∙ ap₂ both_sides (side-is b t t.buyer) (side-is b t t.seller);
      lifts-none = lifts-none b t (not-true _ (needed 14 tt over.0)) (not-true _ (needed 14 tt over.1.0));
    })
