use mathlib.Core.Path.{◌≡◌, ap, ◌∙◌}
use Prim.Native.Nat.{◌≤◌}
use native.Mathlib.Omega.{arith}
use lib.ListN.{take, drop}
use Rattle.lists.specs.Parts.{part-width}
use Rattle.whole.specs.Machine.{back}
use Rattle.days.specs.Days.{rising, is_on, is_working}
use Rattle.months.specs.Months.{last_trading_of}
use Rattle.memory.specs.Layout.{Long}
use Rattle.memory.specs.MemoryLaws.{memory-long, header_is, contract-is}
use Rattle.standing.specs.SoundLaws.{exceptions-read}
use Rattle.standing.specs.CloseRows.{outcome_from}
use Rattle.day_end.specs.ReadLaws.{outcome-read}
use Rattle.day_end.proofs.outcomes.outcome_at.Goals as goal
use Rattle.day_end.proofs.outcomes.outcome_at.Goals.{After-load_header-h, Start}

long : (s : Start) → Long s.args.counts.now s.args.money.now
long s = let p = s.requires.0 in memory-long p.rows p.whole.shaped p.whole.holds

header : (c : After-load_header-h) → c.load_header-h.result ≡ c.requires.0.rows.header
header c = let p = c.requires.0 in c.load_header-h.ensures ∙ header_is p.rows p.whole.shaped p.whole.holds

few : (c : After-load_header-h) → c.load_header-h.result.exceptions ≤ 400
few c = rw (header c) c.requires.0.known.few

pub load_header-h-requires : goal.load_header-h-requires
load_header-h-requires c = (long (goal.at.load_header-h-requires c).Start).counts

pub load_contract-x-requires : goal.load_contract-x-requires
load_contract-x-requires c = (long (goal.at.load_contract-x-requires c).Start, c.requires.1)

pub overflow_add-n : goal.overflow_add-n
overflow_add-n c = omega (arith, few (goal.at.overflow_add-n c).After-load_header-h)

pub ends_on-ending-requires : goal.ends_on-ending-requires
ends_on-ending-requires c =
    let p = c.requires.0 in
    ap (λ k. rising (take k (drop 10 c.args.counts.now))) (part-width 10 c.load_header-h.result.exceptions)
    ∙ ap rising (exceptions-read p.rows p.whole c.load_header-h.ensures (few (goal.at.ends_on-ending-requires c).After-load_header-h))
    ∙ p.known.rises

pub outcome_of-requires : goal.outcome_of-requires
outcome_of-requires c =
    let p = c.requires.0 in
    rw (c.load_contract-x.ensures ∙ contract-is p.rows p.whole.shaped p.whole.holds c.args.k c.requires.1)
    (p.known.tallies c.args.k)

pub returns : goal.returns
returns c r w =
    let x = c.load_contract-x.result in
    let h = c.load_header-h.result in
    c.outcome_of.ensures
    ∙ ap (outcome_from x c.ends_on-ending.result) (back c.ranges.final_rate)
    ∙ outcome-read r w c.args.k c.args.final_rate c.requires.1
    c.load_header-h.ensures
    (few (goal.at.returns c).After-load_header-h)
    c.load_contract-x.ensures
    (c.ends_on-ending.ensures
    ∙ ap (λ k. is_on h.day (last_trading_of (is_working (take k (drop 10 c.args.counts.now))) x.code)) (part-width 10 h.exceptions))
