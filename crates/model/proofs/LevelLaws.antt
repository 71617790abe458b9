-- In each contract the positions sum to zero over the accounts, whatever is called; so does what a close books on them.
use Rattle.std.specs.Prelude.{◌≡◌, refl, Bool, true, false, cond, List, [], ◌∷◌, ◌++◌, ℕ, eqb, ℤ, pos, neg_ℤ, ◌+ℤ◌, ◌-ℤ◌, ◌*ℤ◌}
use Rattle.std.proofs.Common.{sym, ◌∙◌, ap, subst, eqb-true}
use Rattle.std.proofs.lemmas.Bool.{not-true}
use Rattle.std.proofs.Math.IntN.{*ℤ_comm, *ℤ-zero, +ℤ_idl, +ℤ_idr, +ℤ_invr}
use Rattle.lists.specs.Has.{has, Distinct}
use Rattle.lists.specs.HasLaws.{by_test}
use Rattle.whole.specs.Sums.{sum_z}
use Rattle.whole.specs.Over.{sum_over}
use Rattle.positions.specs.Deals.{flat, overnight, dealt}
use Rattle.booking.specs.Variation.{variation_at}
use Rattle.positions.specs.declared.Position.{Position}
use Rattle.positions.specs.declared.Mark.{Mark}
use Rattle.model.specs.Book.{Book, new}
use Rattle.model.specs.Calls.{Call, start, enrol, pay_in, pay_out, release, set_special, set_limits, opening, trade, quote, settle, refresh, close, unknown, Trade}
use Rattle.model.specs.Effects.{lots_for, codes_on, is_ending, after}
use Rattle.model.specs.Refusals.{tests}
use Rattle.model.specs.Kept.{Framed, LevelIn}
use Rattle.model.specs.SumLaws.{only, Total, total-none, total_ext, total-add, total-sub, total-scale, total-only, total-more}
use Rattle.model.proofs.StepLaws.{Passed, needed}

-- ---- positions of all account numbers in one contract, where who is no member has none
record Balanced (ms : List ℕ) (p : ℕ → Position) : Type 0 where
  pub before : Total ms (λ n. (p n).before) (pos 0)
  pub net : Total ms (λ n. (p n).net) (pos 0)
  pub cost : Total ms (λ n. (p n).cost) (pos 0)

abbrev BalancedIn : ℕ → Book → Type 0
BalancedIn c b = Balanced b.accounts.members (λ n. b.accounts.position n c)

balanced : {b : Book} → Framed b → (c : ℕ) → LevelIn c b → BalancedIn c b
balanced {b} f c i = record { before = all (λ p. p.before) refl i.before; net = all (λ p. p.net) refl i.net; cost = all (λ p. p.cost) refl i.cost }
  where
    all : (part : Position → ℤ) → part flat ≡ pos 0 → sum_over (λ n. part (b.accounts.position n c)) b.accounts.members ≡ pos 0
        → Total b.accounts.members (λ n. part (b.accounts.position n c)) (pos 0)
    all part none sums = record { away = λ n h. ap part (f.strange-positions n c h) ∙ none; sums = sums }

balanced-overnight : {ms : List ℕ} {f : ℕ → ℤ} → Total ms f (pos 0) → Balanced ms (λ n. overnight (f n))
balanced-overnight {ms} i = record { before = i; net = i; cost = total-none ms }

balanced-flat : (ms : List ℕ) → Balanced ms (λ n. flat)
balanced-flat ms = balanced-overnight (total-none ms)

balanced-if : {ms : List ℕ} {p q : ℕ → Position} (t : Bool) → Balanced ms p → Balanced ms q → Balanced ms (λ n. cond t (p n) (q n))
balanced-if true i j = i
balanced-if false i j = j

-- a product with one number
total-times : {ms : List ℕ} {f : ℕ → ℤ} (x : ℤ) → Total ms f (pos 0) → Total ms (λ n. f n *ℤ x) (pos 0)
total-times {f = f} x i = total_ext (total-scale x i) (λ n. *ℤ_comm (f n) x) (sym (*ℤ-zero x))

balanced-dealt : {ms : List ℕ} {p : ℕ → Position} {f : ℕ → ℤ} (rate : ℤ) → Balanced ms p → Total ms f (pos 0)
    → Balanced ms (λ n. dealt (p n) (f n) rate)
balanced-dealt rate i j = record { before = i.before; net = total-add i.net j; cost = total-add i.cost (total-times rate j) }

balanced-more : {ms : List ℕ} {p : ℕ → Position} (m : ℕ) → has m ms ≡ false → Balanced ms p → Balanced (ms ++ (m ∷ [])) p
balanced-more m h i = record { before = total-more m h i.before; net = total-more m h i.net; cost = total-more m h i.cost }

-- what a close books on them
balanced-variation : {ms : List ℕ} {p : ℕ → Position} (m : Mark) → Balanced ms p → Total ms (λ n. variation_at (p n) m) (pos 0)
unfolding variation_at
balanced-variation m i =
    total-scale (pos 250)
    (total-add
    (total-sub (total-times m.rate (total-sub i.net i.before)) i.cost)
    (total-times (m.rate -ℤ m.previous) i.before))

pub level-variation : {b : Book} → Framed b → (c : ℕ) → LevelIn c b → (m : Mark)
    → Total b.accounts.members (λ n. variation_at (b.accounts.position n c) m) (pos 0)
level-variation f c i m = balanced-variation m (balanced f c i)

-- lots from the seller to the buyer
total-lots : {ms : List ℕ} (t : Trade) → Distinct ms → has t.buyer ms ≡ true → has t.seller ms ≡ true
    → eqb t.buyer t.seller ≡ false → Total ms (lots_for t) (pos 0)
total-lots t d p q r =
    total_ext (total-add (total-only t.buyer (pos t.lots) d p) (total-only t.seller (neg_ℤ (pos t.lots)) d q))
    sides
    (sym (+ℤ_invr (pos t.lots)))
  where
    sides : (n : ℕ) → lots_for t n ≡ only t.buyer (pos t.lots) n +ℤ only t.seller (neg_ℤ (pos t.lots)) n
    sides n = by_test (eqb n t.buyer)
        (λ e. rw (e, subst (λ k. eqb k t.seller ≡ false) (sym (eqb-true n t.buyer e)) r) (sym (+ℤ_idr (pos t.lots))))
        (λ e. rw e (sym (+ℤ_idl _)))

-- ---- a new book, and all calls
pub level-new : (c : ℕ) → LevelIn c new
unfolding new sum_z
level-new c = record { before = refl; net = refl; cost = refl }

balanced-after : (c : ℕ) (b : Book) (x : Call) → Distinct b.accounts.members → Passed (tests b x) → BalancedIn c b → BalancedIn c (after b x)
unfolding after
balanced-after c b (start s) d p i = i
balanced-after c b (enrol n x) d p i = balanced-more n (not-true (has n b.accounts.members) (needed 6 tt p.1.0)) i
balanced-after c b (pay_in n x) d p i = i
balanced-after c b (pay_out n x) d p i = i
balanced-after c b (release n x) d p i = i
balanced-after c b (set_special n x) d p i = i
balanced-after c b (set_limits n x) d p i = i
balanced-after c b (opening o) d p i = balanced-if (has c (codes_on b o.day)) i (balanced-flat b.accounts.members)
balanced-after c b (trade t) d p i = balanced-if (eqb c t.code) (balanced-dealt t.rate i (total-lots t d buyer seller apart)) i
  where
    buyer : has t.buyer b.accounts.members ≡ true
    buyer = needed 5 tt p.1.1.0

    seller : has t.seller b.accounts.members ≡ true
    seller = needed 5 tt p.1.1.1.0

    apart : eqb t.buyer t.seller ≡ false
    apart = not-true (eqb t.buyer t.seller) (needed 11 tt p.1.1.1.1.0)
balanced-after c b (quote q) d p i = i
balanced-after c b settle d p i = i
balanced-after c b refresh d p i = i
balanced-after c b (close final) d p i = balanced-if (is_ending b c) (balanced-flat b.accounts.members) (balanced-overnight i.net)
balanced-after c b unknown d p i = i

pub level-after : (c : ℕ) (b : Book) (x : Call) → Framed b → Passed (tests b x) → LevelIn c b → LevelIn c (after b x)
level-after c b x f p i =
    let next = balanced-after c b x f.once p (balanced f c i) in record { before = next.before.sums; net = next.net.sums; cost = next.cost.sums }
