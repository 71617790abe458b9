use Rattle.std.specs.Prelude.{Some}
use mathlib.Core.Path.{◌≡◌, sym, ap, ap₂, ◌∙◌, subst}
use native.Mathlib.Nat.{le_refl}
use lib.IntN.{ℤ, pos, ◌+ℤ◌}
use Rattle.lists.specs.HasLaws.{when_true}
use Rattle.whole.specs.Within.{Within, within-*, within--, lit}
use Rattle.whole.specs.Machine.{Got, got, add, arg, fits, kept, pass}
use Rattle.rates.specs.declared.Settled.{Settled}
use Rattle.model.specs.Book.{Book}
use Rattle.model.specs.Promises.{worth_at}
use Rattle.standing.specs.Standing.{view}
use Rattle.trail.specs.Tables.{Priced}
use Rattle.trail.specs.PriceLaws.{sum_fits}
use Rattle.desk.specs.Lines.{rate_in}
use Rattle.desk.specs.LineLaws.{line-parts, worth-parts}
use Rattle.desk.proofs.contract_lines.line_of.Goals as goal
use Rattle.desk.proofs.contract_lines.line_of.Goals.{After-amounts-1, After-worth-carried, In-Some, Start}

abbrev after : Start → Book
after s = view s.args.counts.now s.args.money.now

-- a contract that was settled has what the close found
shown : (c : In-Some) →
    c.in-Some.settled ≡ (after (goal.at.In-Some c).Start).results.settled c.args.stood.code
shown c =
    let e : Some c.in-Some.settled ≡ Some ((after (goal.at.In-Some c).Start).results.settled c.args.stood.code) =
    sym c.in-Some.is ∙ c.rate_of.ensures ∙ when_true _ _ c.requires.sound.1 in
    cc

rate-within : (c : In-Some) → Within 100000 c.in-Some.settled.rate
rate-within c =
    subst (λ (x : Settled). Within 100000 x.rate) (sym (shown c)) c.requires.within.1.1

-- what was carried over earns
module _ (c : After-worth-carried) where
  abbrev found : In-Some
  found = (goal.at.After-worth-carried c).In-Some

  abbrev start : Start
  start = (goal.at.After-worth-carried c).Start

  carried-is : c.worth-carried.result ≡ worth_at (rate_in (after start) start.args.stood.code) (record { lots = start.args.stood.net; rate = start.args.stood.previous })
  carried-is =
      c.worth-carried.ensures
      ∙ worth-parts (arg start.requires.within.0 tt).eq (arg start.requires.within.1.0 tt).eq
      ((arg (rate-within found) tt).eq ∙ ap (λ (x : Settled). x.rate) (shown found))

  carried-within : Within 1000000000000 c.worth-carried.result
  carried-within =
      subst (Within 1000000000000) (sym carried-is)
      (within-* start.requires.within.0 (within-* (lit (pos 250)) (within-- start.requires.within.1.1 start.requires.within.1.0)))

-- what the trades earn, and the sum
module _ (c : After-amounts-1) where
  abbrev worth : After-worth-carried
  worth = (goal.at.After-amounts-1 c).After-worth-carried

  priced : let a = (start worth).args in
      Priced a.labels.now a.amounts.now a.used a.stood.code (rate_in (after (start worth)) a.stood.code) c.price-made.result c.price-made.new.money
  priced =
      let a = (start worth).args in
      subst (λ (z : ℤ). Priced a.labels.now a.amounts.now a.used a.stood.code z c.price-made.result c.price-made.new.money)
      ((arg (rate-within (found worth)) tt).eq ∙ ap (λ (x : Settled). x.rate) (shown (found worth)))
      c.price-made.ensures

  made-within : Within 500000000000000 c.price-made.result
  made-within =
      let s = start worth in
      let t = s.requires.table in
      sum_fits s.args.stood.code _ s.args.labels.now s.args.amounts.now s.args.used priced t.few s.requires.within.1.1 t.modest (le_refl _)

  abbrev sum : Got 501000000000000 (c.price-made.result +ℤ worth.worth-carried.result)
  sum = got (add (arg made-within tt) (arg (carried-within worth) tt))

pub price-made-requires : goal.price-made-requires
price-made-requires c =
    let t = (start (goal.at.price-made-requires c).After-worth-carried).requires.table in
    record { used_bound = (t.few, (t.counts-long, t.money-long)); within = (pass (rate-within (found (goal.at.price-made-requires c).After-worth-carried)) tt tt, t.modest) }

pub overflow_add-result : goal.overflow_add-result
overflow_add-result c = fits (sum (goal.at.overflow_add-result c).After-amounts-1).reads tt

pub returns : goal.returns
returns c =
    let m = (goal.at.returns c).After-amounts-1 in
    let w = worth m in
    let made = shown (found w) in
    record {
      line = line-parts _
          made
          ((arg (carried-within w) tt).eq ∙ carried-is w)
          ((kept (sum m).reads tt).eq ∙ ap₂ ◌+ℤ◌ (priced m).sum_is (carried-is w));
      rows = (priced m).rows;
      behind = (priced m).behind;
      long = (priced m).long;
    }
