-- A record that is printed brings the walk on, and its text, not longer than the longest answer, is what the file prints.
use Rattle.std.specs.Prelude.{refl, length}
use Rattle.std.proofs.Common.{arith}
use Rattle.numbers.specs.Below.{Small}
use Rattle.printing.specs.BlockLaws.{answer-printed, bad-printed}
use Rattle.printing.specs.Walks.{Walks, Further}
use Rattle.printing.specs.WalksLaws.{printed-walks}
use Rattle.printing.specs.declared.one_record.Printed.TheVariants.{Next, Bad}
use Rattle.printing.proofs.run.print_next.Goals as goal

pub overflow_sub-place : goal.overflow_sub-place
overflow_sub-place c =
    let small : Small c.args.bytes.now = λ i. (c.shared_slice_known-1.given i).fits in
    let walks : Walks c.args.bytes.now c.args.p.now.at c.args.room.now c.args.p.now.used c.print_record-printed.result c.print_record-printed.new.counts
    c.print_record-printed.new.money c.print_record-printed.new.room =
    printed-walks small c.requires.at_in_bounds.1 c.requires.sound c.print_record-printed.ensures in
    let on : Further (length c.args.bytes.now) c.args.p.now.at c.args.p.now.used (Next c.in-Next.next c.in-Next.after) = rw c.in-Next.is at walks.further in
    omega (arith, on.0)

pub overflow_add-place : goal.overflow_add-place
overflow_add-place c =
    let small : Small c.args.bytes.now = λ i. (c.shared_slice_known-1.given i).fits in
    let walks : Walks c.args.bytes.now c.args.p.now.at c.args.room.now c.args.p.now.used c.print_record-printed.result c.print_record-printed.new.counts
    c.print_record-printed.new.money c.print_record-printed.new.room =
    printed-walks small c.requires.at_in_bounds.1 c.requires.sound c.print_record-printed.ensures in
    let on : Further (length c.args.bytes.now) c.args.p.now.at c.args.p.now.used (Next c.in-Next.next c.in-Next.after) = rw c.in-Next.is at walks.further in
    omega (arith, on.0, on.1.0, c.requires.at_bound)

pub returns-in-Bad-clause-sound_2 : goal.returns-in-Bad-clause-sound_2
returns-in-Bad-clause-sound_2 c =
    let small : Small c.args.bytes.now = λ i. (c.shared_slice_known-1.given i).fits in
    let walks : Walks c.args.bytes.now c.args.p.now.at c.args.room.now c.args.p.now.used c.print_record-printed.result c.print_record-printed.new.counts
    c.print_record-printed.new.money c.print_record-printed.new.room =
    printed-walks small c.requires.at_in_bounds.1 c.requires.sound c.print_record-printed.ensures in
    walks.sound

pub returns-in-Bad-clause-nearer : goal.returns-in-Bad-clause-nearer
returns-in-Bad-clause-nearer c =
    let small : Small c.args.bytes.now = λ i. (c.shared_slice_known-1.given i).fits in
    let walks : Walks c.args.bytes.now c.args.p.now.at c.args.room.now c.args.p.now.used c.print_record-printed.result c.print_record-printed.new.counts
    c.print_record-printed.new.money c.print_record-printed.new.room =
    printed-walks small c.requires.at_in_bounds.1 c.requires.sound c.print_record-printed.ensures in
    let on : Further (length c.args.bytes.now) c.args.p.now.at c.args.p.now.used (Bad c.in-Bad.after) = rw c.in-Bad.is at walks.further in
    record { inside = omega arith; more = tt; text = on; on = omega arith; along = refl }

pub returns-in-Bad-clause-printed_up_to : goal.returns-in-Bad-clause-printed_up_to
returns-in-Bad-clause-printed_up_to c =
    let small : Small c.args.bytes.now = λ i. (c.shared_slice_known-1.given i).fits in
    bad-printed c.args.p.now small c.print_record-printed.ensures c.requires.at_in_bounds.0 c.in-Bad.is

pub returns-in-Next-clause-sound_2 : goal.returns-in-Next-clause-sound_2
returns-in-Next-clause-sound_2 c =
    let small : Small c.args.bytes.now = λ i. (c.shared_slice_known-1.given i).fits in
    let walks : Walks c.args.bytes.now c.args.p.now.at c.args.room.now c.args.p.now.used c.print_record-printed.result c.print_record-printed.new.counts
    c.print_record-printed.new.money c.print_record-printed.new.room =
    printed-walks small c.requires.at_in_bounds.1 c.requires.sound c.print_record-printed.ensures in
    walks.sound

pub returns-in-Next-clause-nearer : goal.returns-in-Next-clause-nearer
returns-in-Next-clause-nearer c =
    let small : Small c.args.bytes.now = λ i. (c.shared_slice_known-1.given i).fits in
    let walks : Walks c.args.bytes.now c.args.p.now.at c.args.room.now c.args.p.now.used c.print_record-printed.result c.print_record-printed.new.counts
    c.print_record-printed.new.money c.print_record-printed.new.room =
    printed-walks small c.requires.at_in_bounds.1 c.requires.sound c.print_record-printed.ensures in
    let on : Further (length c.args.bytes.now) c.args.p.now.at c.args.p.now.used (Next c.in-Next.next c.in-Next.after) = rw c.in-Next.is at walks.further in
    record {
      inside = on.1.0;
      more = omega (arith, on.0, on.1.0);
      text = on.1.1;
      on = omega (arith, on.0);
      along = omega (arith, on.0);
    }

pub returns-in-Next-clause-printed_up_to : goal.returns-in-Next-clause-printed_up_to
returns-in-Next-clause-printed_up_to c =
    let small : Small c.args.bytes.now = λ i. (c.shared_slice_known-1.given i).fits in
    answer-printed c.args.p.now small c.print_record-printed.ensures c.in-Next.is
