use Rattle.std.proofs.Common.{rules, sym, ◌∙◌, arith}
use Rattle.std.proofs.lemmas.List.{ext_get_or}
use lib.ListN.{get_or}
use Rattle.lists.specs.Zipped.{zipped, zipped-length, zipped-at}
use Rattle.positions.specs.Deals.{flat}
use Rattle.positions.specs.Bounds.{no_mark}
use Rattle.booking.specs.Carried.{carried, all_carried}
use Rattle.booking.proofs.FromFn.{made_by}
use Rattle.booking.proofs.all_carried.Goals as goal

pub returns : goal.returns
unfolding all_carried
returns c =
    let ps = c.args.positions in
    let marks = c.args.marks in
    let made = c.from_fn.ensures.items in
    let all = zipped carried ps marks in
    ext_get_or flat c.from_fn.result all (made.long ∙ sym (zipped-length carried ps marks c.requires.0.nets.six c.requires.1.six))
    (λ i h.
    made_by _ _ (λ k. carried (get_or ps k flat) (get_or marks k no_mark)) _ made (λ k y q l called. (search rules, search rules)) i (omega (arith, h, made.long)) flat
    ∙ sym (zipped-at carried flat flat no_mark ps marks i (omega (arith, h, made.long, c.requires.0.nets.six)) (omega (arith, h, made.long, c.requires.1.six))))
