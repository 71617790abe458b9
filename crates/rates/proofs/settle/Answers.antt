use mathlib.Core.Path.{ap₂, ◌∙◌}
use Rattle.whole.specs.Machine.{told, back}
use Rattle.rates.specs.Settling.{rate_from}
use Rattle.rates.specs.RuleLaws.{settled-by, rule-divides}
use Rattle.rates.proofs.settle.Goals as goal

pub rate_by-rate-requires : goal.rate_by-rate-requires
rate_by-rate-requires c =
    (c.requires, rw c.rule_of-rule.ensures (rule-divides c.args.t c.requires c.args.ending))

pub returns : goal.returns
returns c =
    let rule = c.rule_of-rule.result in
    settled-by c.args.t c.args.previous c.args.ending c.args.final_rate
    c.rule_of-rule.ensures
    c.used_by-used.ensures
    (told c.rate_by-rate.result c.rate_by-rate.type_inv
    ∙ c.rate_by-rate.ensures
    ∙ ap₂ (rate_from c.args.t rule) (back c.ranges.previous) (back c.ranges.final_rate))
