-- Positions keep their bounds, and a day's costs and lots grow by at most one trade's for each of its two sides.
use Rattle.std.specs.Prelude.{◌≡◌, Bool, true, false, cond, List, [], ◌∷◌, ◌++◌, map, ℕ, ◌+◌, ◌*◌, ◌≤◌, eqb, ℤ, pos, nat_abs, neg_ℤ, ◌+ℤ◌, ◌-ℤ◌}
use Rattle.std.proofs.Common.{◌∙◌, ap, zero-le, mul-le-mul_right, arith, eqb-true, ltb-false}
use Rattle.std.proofs.Math.IntN.{+ℤ_invr}
use Rattle.lists.specs.Has.{Distinct}
use Rattle.lists.specs.HasLaws.{by_test}
use Rattle.lists.specs.Keep.{cond-keeps}
use Rattle.whole.specs.Parts.{parts₃, ring, zarith}
use Rattle.whole.specs.Within.{Within, nat_abs-neg-pos, lit, within-+, within-*}
use Rattle.whole.specs.Sizes.{sizes}
use Rattle.positions.specs.Deals.{flat, overnight, dealt}
use Rattle.positions.specs.Beyond.{is_beyond}
use Rattle.positions.specs.declared.Position.{Position}
use Rattle.model.specs.Calls.{Trade}
use Rattle.model.specs.Effects.{lots_for}
use Rattle.model.proofs.FrameLaws.{bystander-still}
use Rattle.model.specs.NaturalLaws.{total_over, total-more, total-each, total-last, total-sizes-of, only_at, total-only}
use Rattle.model.specs.Ranged.{GoodTrade}
use Rattle.model.specs.Kept.{Dealt}

-- ---- sums over accounts and codes of a position's number
module _ (f : Position → ℤ) where
  -- of one account
  abbrev of_one : List ℕ → (ℕ → Position) → ℕ
  of_one cs p = sizes (map f (map p cs))

  abbrev of_all : List ℕ → List ℕ → (ℕ → ℕ → Position) → ℕ
  of_all cs ms p = total_over (λ n. of_one cs (p n)) ms

  one_none : (cs : List ℕ) (p : ℕ → Position) → ((c : ℕ) → f (p c) ≡ pos 0) → of_one cs p ≤ 0
  one_none cs p h =
      rw (total-sizes-of f p cs)
      (omega (arith, total-each 0 (λ c. nat_abs (f (p c))) cs (λ c. omega (arith, ap nat_abs (h c)))))

  all_none : (cs ms : List ℕ) (p : ℕ → ℕ → Position) → ((n c : ℕ) → f (p n c) ≡ pos 0) → of_all cs ms p ≤ 0
  all_none cs ms p h = omega (arith, total-each 0 (λ n. of_one cs (p n)) ms (λ n. one_none cs (p n) (h n)))

  -- where one code's number grows by at most x
  one_more : (cs : List ℕ) (k x : ℕ) (p q : ℕ → Position) → Distinct cs
      → ((c : ℕ) → nat_abs (f (q c)) ≤ nat_abs (f (p c)) + only_at k x c) → of_one cs q ≤ of_one cs p + x
  one_more cs k x p q d h =
      rw (total-sizes-of f p cs, total-sizes-of f q cs)
      (omega (arith, total-more (λ c. nat_abs (f (q c))) (λ c. nat_abs (f (p c))) (only_at k x) cs h, total-only k x cs d))

-- ---- positions in which nothing is traded yet
pub untraded : (codes members : List ℕ) (p : ℕ → ℕ → Position) → ((n c : ℕ) → Within 20000 (p n c).net)
    → ((n c : ℕ) → p n c ≡ overnight (p n c).net) → Dealt 0 codes members p
untraded codes members p nets h = record {
  nets = nets;
  befores = λ n c. rw (h n c) (nets n c);
  own = λ n. one_none (λ p. p.cost) codes (p n) (λ c. ap (λ q. q.cost) (h n c));
  costs = all_none (λ p. p.cost) codes members p (λ n c. ap (λ q. q.cost) (h n c));
  lots = all_none (λ p. p.net -ℤ p.before) codes members p (λ n c. ap (λ q. q.net -ℤ q.before) (h n c) ∙ +ℤ_invr (p n c).net);
}

-- ---- one more account
pub dealt-new : {trades : ℕ} {codes members : List ℕ} {p : ℕ → ℕ → Position} (k : ℕ) → ((c : ℕ) → p k c ≡ flat)
    → Dealt trades codes members p → Dealt trades codes (members ++ (k ∷ [])) p
dealt-new {trades} {codes} {members} {p} k h i = record {
  nets = i.nets;
  befores = i.befores;
  own = i.own;
  costs = rw (total-last (λ n. of_one (λ q. q.cost) codes (p n)) members k)
      (omega (arith, i.costs, one_none (λ q. q.cost) codes (p k) (λ c. ap (λ q. q.cost) (h c))));
  lots = rw (total-last (λ n. of_one (λ q. q.net -ℤ q.before) codes (p n)) members k)
      (omega (arith, i.lots, one_none (λ q. q.net -ℤ q.before) codes (p k) (λ c. ap (λ q. q.net -ℤ q.before) (h c))));
}

-- ---- a trade
module _ (t : Trade) (g : GoodTrade t) (p : ℕ → ℕ → Position) where
  abbrev now : ℕ → ℕ → Position
  now n c = cond (eqb c t.code) (dealt (p n c) (lots_for t n) t.rate) (p n c)

  -- an account is at most one side
  one_side : (n : ℕ) → nat_abs (lots_for t n) ≤ 1000
  one_side n = go (eqb n t.buyer) (eqb n t.seller)
    where
      go : (s u : Bool) → nat_abs (cond s (pos t.lots) (cond u (neg_ℤ (pos t.lots)) (pos 0))) ≤ 1000
      go true u = g.most
      go false true = omega (arith, nat_abs-neg-pos t.lots, g.most)
      go false false = zero-le

  -- with K for each lot
  two-sides : (K n : ℕ) → nat_abs (lots_for t n) * K ≤ only_at t.buyer (1000 * K) n + only_at t.seller (1000 * K) n
  two-sides K n = go (eqb n t.buyer) (eqb n t.seller)
    where
      go : (s u : Bool)
          → nat_abs (cond s (pos t.lots) (cond u (neg_ℤ (pos t.lots)) (pos 0))) * K ≤ cond s (1000 * K) 0 + cond u (1000 * K) 0
      go true u = omega (arith, mul-le-mul_right K g.most)
      go false true = omega (arith, mul-le-mul_right K g.most, ap (λ k. k * K) (nat_abs-neg-pos t.lots))
      go false false = omega arith

  cost-more : (n c : ℕ) → nat_abs (dealt (p n c) (lots_for t n) t.rate).cost ≤ nat_abs (p n c).cost + nat_abs (lots_for t n) * 100000
  cost-more n c = (within-+ (lit (p n c).cost) (within-* (lit (lots_for t n)) g.rate)).size

  lots-more : (n c : ℕ)
      → nat_abs ((dealt (p n c) (lots_for t n) t.rate).net -ℤ (p n c).before) ≤ nat_abs ((p n c).net -ℤ (p n c).before) + nat_abs (lots_for t n)
  lots-more n c = go (p n c).net (p n c).before (lots_for t n)
    where
      go : (a b l : ℤ) → nat_abs ((a +ℤ l) -ℤ b) ≤ nat_abs (a -ℤ b) + nat_abs l
      go a b l = parts₃ a b l (λ x y z. simp (x.is, y.is, z.is, ring) (omega zarith))

  -- what grows by x at each side
  module _ (f : Position → ℤ) (x : ℕ → ℕ)
      (h : (n c : ℕ) → nat_abs (f (dealt (p n c) (lots_for t n) t.rate)) ≤ nat_abs (f (p n c)) + x n)
      (codes : List ℕ) (d : Distinct codes) where
    one_grows : (n : ℕ) → of_one f codes (now n) ≤ of_one f codes (p n) + x n
    one_grows n = one_more f codes t.code (x n) (p n) (now n) d (λ c. go c (eqb c t.code))
      where
        go : (c : ℕ) (s : Bool) → nat_abs (f (cond s (dealt (p n c) (lots_for t n) t.rate) (p n c))) ≤ nat_abs (f (p n c)) + cond s (x n) 0
        go c true = h n c
        go c false = omega arith

    all-grows : (K : ℕ) (members : List ℕ) → Distinct members → ((n : ℕ) → x n ≤ only_at t.buyer K n + only_at t.seller K n)
        → of_all f codes members now ≤ of_all f codes members p + 2 * K
    all-grows K members e k =
        omega (
          arith,
          total-more (λ n. of_one f codes (now n)) (λ n. of_one f codes (p n)) x members one_grows,
          total-more x (only_at t.buyer K) (only_at t.seller K) members k,
          total-only t.buyer K members e,
          total-only t.seller K members e,
        )

  -- a trade that is not refused 13
  pub dealt-more : {trades : ℕ} {codes members : List ℕ} → Distinct codes → Distinct members → Dealt trades codes members p
      → is_beyond (now t.buyer t.code) ≡ false → is_beyond (now t.seller t.code) ≡ false → Dealt (trades + 1) codes members now
  dealt-more {trades} {codes} {members} d e i buyer seller = record {
    nets = near;
    befores = λ n c. cond-keeps (λ (q : Position). Within 20000 q.before) (eqb c t.code) _ _
        (λ h. i.befores n c)
        (λ h. i.befores n c);
    own = λ n. omega (arith, i.own n, one_side n, one_grows (λ q. q.cost) (λ n. nat_abs (lots_for t n) * 100000) cost-more codes d n);
    costs = omega (
      arith,
      i.costs,
      all-grows (λ q. q.cost) (λ n. nat_abs (lots_for t n) * 100000) cost-more codes d
          100000000 members e (two-sides 100000),
    );
    lots = omega (
      arith,
      i.lots,
      all-grows (λ q. q.net -ℤ q.before) (λ n. nat_abs (lots_for t n)) lots-more codes d
          1000 members e (λ n. omega (arith, two-sides 1 n)),
    );
  }
    where
      -- a net of the code that is traded: tested for the two sides, and no other moves
      small : (n : ℕ) → is_beyond (now n t.code) ≡ false → (c : ℕ) → Within 20000 (now n c).net
      small n h c = by_test (eqb c t.code)
          (λ s. rw (eqb-true c t.code s) (record { size = ltb-false 20000 _ h }))
          (λ s. rw s (i.nets n c))

      near : (n c : ℕ) → Within 20000 (now n c).net
      near n c = by_test (eqb n t.buyer)
          (λ s. rw (eqb-true n t.buyer s) (small t.buyer buyer c))
          (λ s. by_test (eqb n t.seller)
          (λ u. rw (eqb-true n t.seller u) (small t.seller seller c))
          (λ u. rw (bystander-still t (p n c) n c s u) (i.nets n c)))
