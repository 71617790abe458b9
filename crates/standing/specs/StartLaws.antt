-- A start writes the header, and the exceptions over zeros.
use Rattle.std.specs.Prelude.{◌≡◌, [], ◌≤◌, length}
use Rattle.std.proofs.Common.{ap, ◌∙◌}
use Rattle.lists.specs.Parts.{with_part}
use Rattle.lists.specs.Padded.{padded}
use Rattle.lists.specs.PaddedLaws.{padded-over}
use Rattle.memory.specs.declared.header_row.Header.{Header}
use Rattle.memory.specs.Memory.{Rows, with_header_row, with_exceptions}
use Rattle.model.specs.Book.{Book, Settings}
use Rattle.model.specs.Effects.{started}
use Rattle.standing.specs.Standing.{header_row, rows_of}

abbrev pub started_header : Settings → Header → Header
started_header s h = record {
  point = 1;
  day = h.day;
  clock = h.clock;
  trades = h.trades;
  reference = s.reference;
  multiplier = s.multiplier;
  exceptions = length s.exceptions;
  listed = h.listed;
  settled = h.settled;
  members = h.members;
}

module _ (b : Book) (s : Settings) where
  abbrev begun : Rows
  begun = with_header_row (rows_of b) (started_header s (header_row b))

  pub started-rows : b.settings.exceptions ≡ [] → length s.exceptions ≤ 400
      → with_exceptions begun (with_part 0 (length s.exceptions) (rows_of b).exceptions s.exceptions) ≡ rows_of (started b s)
  started-rows e room =
      ap (with_exceptions begun)
      (ap (λ l. with_part 0 (length s.exceptions) (padded 400 0 l) s.exceptions) e ∙ padded-over 400 0 s.exceptions room)
