use Rattle.std.specs.Prelude.{length}
use Rattle.std.proofs.Common.{arith}
use Rattle.std.proofs.lemmas.Result.{err_from_is_err_and}
use Rattle.printing.specs.Turns.{Printable}
use Rattle.printing.specs.BlockLaws.{printed-more}
use Rattle.printing.proofs.run.print_block.Goals as goal

pub loop-counts-preserved : goal.loop-counts-preserved
loop-counts-preserved c =
    let fits : Printable (length c.args.bytes.now) c.args.ended c.loop-counts.p = c.is_next.ensures c.loop-counts-test.true in
    let inv = c.loop-counts.invariant in
    let reached = inv.1.1.0 in
    let nearer = c.in_ok-print_next.ensures.nearer in (
      c.print_next.ensures.sound_2,
      (
        omega (arith, inv.1.0, c.print_next.auto.room),
        (
          record {
            inside = nearer.inside;
            text = omega (arith, fits.room, nearer.text);
            on = omega (arith, nearer.on, reached.on);
            along = omega (arith, nearer.along, reached.along);
          },
          printed-more fits (omega (arith, fits.room, nearer.text, c.requires.reaches.1)) inv.1.1.1 c.in_ok-print_next.ensures.printed_up_to,
        ),
      ),
    )

pub returns-in_err-print_next-clause-printed_up_to : goal.returns-in_err-print_next-clause-printed_up_to
returns-in_err-print_next-clause-printed_up_to c =
    let fits : Printable (length c.args.bytes.now) c.args.ended c.loop-counts.p = c.is_next.ensures c.loop-counts-test.true in
    let inv = c.loop-counts.invariant in
    let nearer = c.in_err-print_next.ensures.nearer in
    let p = err_from_is_err_and c.from_residual.result c.from_residual.ensures.1 in
    rw (p.1, p.2)
    (printed-more fits (omega (arith, fits.room, nearer.text, c.requires.reaches.1)) inv.1.1.1 c.in_err-print_next.ensures.printed_up_to)
