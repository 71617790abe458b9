use Rattle.whole.specs.Machine.{told}
use Rattle.std.proofs.Common.{arith, ◌∙◌, length-append}
use Rattle.decimal.proofs.PutLaws.{put-more}
use Rattle.model.specs.Answers.{report_of}
use Rattle.standing.specs.Standing.{view}
use Rattle.lines.specs.Lines.{member_lines, house_line}
use Rattle.lines.specs.LengthLaws.{codes-length, members-length, house-length}
use Rattle.lines.proofs.close_lines.put_report.Goals as goal

pub put_accounts-billed-requires : goal.put_accounts-billed-requires
put_accounts-billed-requires c =
    (c.requires.0, omega (arith, c.requires.1, codes-length c.requires.0, c.put_rates-rated.ensures.place, c.put_rates-rated.auto.room))

pub put_house-requires : goal.put_house-requires
put_house-requires c =
    omega (arith, c.requires.1, codes-length c.requires.0, members-length c.requires.0, c.put_rates-rated.ensures.place, c.put_rates-rated.auto.room, c.put_accounts-billed.ensures.place, c.put_accounts-billed.auto.room)

pub returns : goal.returns
returns c =
    put-more
    (omega (
      arith,
      c.requires.1,
      codes-length c.requires.0,
      members-length c.requires.0,
      house-length (report_of (view c.args.counts.now c.args.money.now)).house,
      length-append (member_lines (report_of (view c.args.counts.now c.args.money.now))) (house_line (report_of (view c.args.counts.now c.args.money.now)).house),
    ))
    c.put_rates-rated.ensures
    (put-more
    (omega (arith, c.requires.1, codes-length c.requires.0, members-length c.requires.0, house-length (report_of (view c.args.counts.now c.args.money.now)).house, c.put_rates-rated.ensures.place, c.put_rates-rated.auto.room))
    c.put_accounts-billed.ensures (rw (told c.house_of-balance.result c.house_of-balance.type_inv ∙ c.house_of-balance.ensures) at c.put_house.ensures))
