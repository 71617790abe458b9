-- Positions keep their bounds through trades.
use Rattle.std.specs.Prelude.{◌≡◌, refl, false, List, map, ℕ, ◌+◌, ◌≤◌, ◌<◌, ℤ, pos, nat_abs, length, get_or, set, replicate}
use Rattle.std.proofs.Common.{sym, ap, ◌∙◌, subst, le_trans, arith, ltb-false, get_or-set_same}
use Rattle.std.proofs.Math.ListN.{length-set, get_or-map}
use Rattle.std.proofs.lemmas.List.{length-map}
use Rattle.lists.specs.Keep.{set_keeps, replicate-keeps}
use Rattle.lists.specs.Rows.{map-set}
use Rattle.whole.specs.Within.{Within, within-+, within-*, widen, wider, lit}
use Rattle.whole.specs.Sizes.{sizes, sizes-at, sizes-set}
use Rattle.positions.specs.Deals.{flat, dealt, with_deal}
use Rattle.positions.specs.Beyond.{is_beyond}
use Rattle.positions.specs.Bounds.{Nets, costs, Kept, Modest}
use Rattle.positions.specs.declared.Position.{Position}

pub zero-within : {B : ℕ} → Within B (pos 0)
zero-within = record { size = omega arith }

-- ---- one position among them
pub modest-at : {ps : List Position} → Kept 10000 ps → (i : ℕ) → Modest (get_or ps i flat)
modest-at {ps} k i = record {
  before = k.befores i;
  net = k.nets.at i;
  cost = record {
    size = le_trans
        (subst (λ z. nat_abs z ≤ costs ps) (get_or-map (λ p. p.cost) ps i flat) (sizes-at (map (λ p. p.cost) ps) i))
        k.costs;
  };
}

-- ---- kept
pub none_kept : Kept 0 (replicate 6 flat)
unfolding sizes
none_kept = record {
  nets = record { six = refl; at = λ i. replicate-keeps (λ p. Within 20000 p.net) flat 6 flat i zero-within zero-within };
  befores = λ i. replicate-keeps (λ p. Within 20000 p.before) flat 6 flat i zero-within zero-within;
  costs = omega arith;
}

pub nets-wider : {few many : ℕ} {ps : List Position} → Nets few ps → few ≤ many → Nets many ps
nets-wider n h = record { six = n.six; at = λ i. widen (n.at i) h }

pub kept-wider : {few many : ℕ} {ps : List Position} → Kept few ps → few ≤ many → Kept many ps
kept-wider {few} {many} k h = record { nets = k.nets; befores = k.befores; costs = omega (arith, k.costs) }

-- ---- a trade
module _ {trades : ℕ} {ps : List Position} {lots rate : ℤ}
    (k : Kept trades ps) (row : ℕ) (l : Within 1000 lots) (r : Within 100000 rate) where
  pub deal-nets : Nets 21000 (with_deal ps row lots rate)
  unfolding with_deal
  deal-nets = record {
    six = length-set ps row (dealt (get_or ps row flat) lots rate) ∙ k.nets.six;
    at = λ i. set_keeps (λ p. Within 21000 p.net) flat ps row i (dealt (get_or ps row flat) lots rate)
        (within-+ (k.nets.at row) l)
        (wider (k.nets.at i) tt);
  }

  pub deal-kept : row < 6 → is_beyond (get_or (with_deal ps row lots rate) row flat) ≡ false
      → Kept (trades + 1) (with_deal ps row lots rate)
  unfolding with_deal
  deal-kept h e = record {
    nets = record {
      six = deal-nets.six;
      at = λ i. set_keeps (λ p. Within 20000 p.net) flat ps row i q near (k.nets.at i);
    };
    befores = λ i. set_keeps (λ p. Within 20000 p.before) flat ps row i q (k.befores row) (k.befores i);
    costs = rw (map-set (λ p. p.cost) ps row q) (omega (arith, k.costs, moved, added.size));
  }
    where
      q : Position
      q = dealt (get_or ps row flat) lots rate

      in-range : row < length ps
      in-range = omega (arith, k.nets.six)

      near : Within 20000 q.net
      near = record { size = ltb-false 20000 (nat_abs q.net) (ap is_beyond (sym (get_or-set_same ps row q flat in-range)) ∙ e) }

      old : ℤ
      old = (get_or ps row flat).cost

      moved : sizes (set (map (λ p. p.cost) ps) row q.cost) + nat_abs old ≡ costs ps + nat_abs q.cost
      moved =
          ap (λ z. sizes (set (map (λ p. p.cost) ps) row q.cost) + nat_abs z) (sym (get_or-map (λ p. p.cost) ps row flat))
          ∙ sizes-set (map (λ p. p.cost) ps) row q.cost (omega (arith, length-map ps (λ p. p.cost), in-range))

      added : Within (nat_abs old + 100000000) q.cost
      added = within-+ (lit old) (within-* l r)
