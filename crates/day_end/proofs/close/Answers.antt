use mathlib.Core.Path.{◌≡◌, sym, ap, ◌∙◌, subst}
use mathlib.Core.Bool.{true}
use mathlib.Core.List.{[]}
use borrow.Author.Tests.{eq-eqb, ne_eqb}
use lib.Dec.{eqb}
use Rattle.whole.specs.Machine.{back}
use Rattle.memory.specs.declared.header_row.Header.{Header}
use Rattle.memory.specs.Memory.{Holds}
use Rattle.model.specs.Book.{Book}
use Rattle.model.specs.Calls.{close}
use Rattle.model.specs.Effects.{after}
use Rattle.model.specs.Refusals.{stage, is_open}
use Rattle.model.proofs.ListedLaws.{settled-open}
use Rattle.standing.specs.Standing.{rows_of, view}
use Rattle.standing.specs.StandingLaws.{refused-made, sound-kept}
use Rattle.standing.specs.SoundLaws.{sound-whole, sound-long, sound-header, first-passed, first-failed, none_left}
use Rattle.standing.specs.CloseRows.{closed_rows}
use Rattle.standing.specs.CloseRowLaws.{close-rows}
use Rattle.standing.specs.Turns.{Has}
use Rattle.day_end.specs.Closable.{Closable}
use Rattle.day_end.specs.ClosableLaws.{rows-closable}
use Rattle.day_end.proofs.close.Goals as goal
use Rattle.day_end.proofs.close.Goals.{After-load_header-h, Else-h-ne3, Start}

abbrev book : Start → Book
book s = view s.args.counts.now s.args.money.now

-- the point that is read is the book's
point : (c : After-load_header-h) → c.load_header-h.result.point ≡ stage (book (goal.at.After-load_header-h c).Start).today.point
point c = ap (λ (h : Header). h.point) (c.load_header-h.ensures ∙ sound-header c.requires.0)

pub load_header-h-requires : goal.load_header-h-requires
load_header-h-requires c = (sound-long c.requires.0).counts

pub returns-then-h-ne3 : goal.returns-then-h-ne3
returns-then-h-ne3 c =
    refused-made c.requires.0 (close c.args.final_rate) 2
    (first-failed 2 [] (ap (λ n. eqb n 3) (sym (point (goal.at.returns-then-h-ne3 c).After-load_header-h)) ∙ ne_eqb _ 3 c.if-h-ne3.true))

-- the day is open and settled
settled : (c : Else-h-ne3) → eqb (stage (book (goal.at.Else-h-ne3 c).Start).today.point) 3 ≡ true
settled c = ap (λ n. eqb n 3) (sym (point (goal.at.Else-h-ne3 c).After-load_header-h)) ∙ eq-eqb _ 3 c.if-h-ne3.false

still_open : (c : Else-h-ne3) → is_open (book (goal.at.Else-h-ne3 c).Start).today.point ≡ true
still_open c = settled-open (book (goal.at.Else-h-ne3 c).Start).today.point (settled c)

pub close_rows-requires : goal.close_rows-requires
close_rows-requires c =
    subst (λ z. Has (Closable z) c.args.counts.now c.args.money.now) (sym (back c.ranges.final_rate)) (record {
      rows = rows_of (book (goal.at.close_rows-requires c).Start);
      whole = sound-whole c.requires.0;
      known = rows-closable (sound-kept c.requires.0) (still_open (goal.at.close_rows-requires c).Else-h-ne3) c.args.final_rate c.requires.1;
    })

pub returns : goal.returns
unfolding after
returns c =
    let rows = subst (λ z. Holds c.close_rows.new.counts c.close_rows.new.money (closed_rows z (rows_of (book (goal.at.returns c).Start))))
    (back c.ranges.final_rate) (c.close_rows.ensures (rows_of (book (goal.at.returns c).Start)) (sound-whole c.requires.0)).holds in
    record {
      answers = sym (first-passed 3 [] (settled (goal.at.returns c).Else-h-ne3) ∙ none_left);
      memory = subst (Holds c.close_rows.new.counts c.close_rows.new.money)
          (close-rows (book (goal.at.returns c).Start) (sound-kept c.requires.0) (still_open (goal.at.returns c).Else-h-ne3) c.args.final_rate)
          rows;
    }
