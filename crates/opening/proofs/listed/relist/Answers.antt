use Rattle.memory.specs.Layout.{contract_at}
use Rattle.opening.specs.Putting.{still-long}
use Rattle.opening.specs.RelistLaws.{six-rows, relist-turns}
use Rattle.opening.proofs.listed.relist.Goals as goal

pub store_rows-requires : goal.store_rows-requires
store_rows-requires c =
    let rows = six-rows (contract_at c.args.counts.now c.args.money.now) c.places_of-places.result in
    (c.requires.0, rw c.rows_for-rows.ensures (rows c.args.codes c.args.rates c.args.margins))

pub relist_members-requires : goal.relist_members-requires
relist_members-requires c =
    (still-long c.requires.0 c.store_rows.auto.counts c.store_rows.auto.money, rw c.load_header-h.ensures c.requires.1.1)

pub returns : goal.returns
returns c =
    relist-turns _ _ c.requires.1.0 c.args.codes c.args.rates c.args.margins
    (rw (c.rows_for-rows.ensures, c.places_of-places.ensures) at c.store_rows.ensures)
    (rw (c.places_of-places.ensures, c.load_header-h.ensures) at c.relist_members.ensures)
