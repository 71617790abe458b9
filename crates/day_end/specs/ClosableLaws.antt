-- The memory of a book whose day is open can be closed.
use Rattle.std.specs.Prelude.{◌≡◌, true, map, ℤ}
use Rattle.std.proofs.Common.{sym, ap, ◌∙◌, subst}
use Rattle.lists.specs.Keep.{map-keeps}
use Rattle.lists.specs.PaddedLaws.{take-padded, padded-keeps}
use Rattle.whole.specs.Within.{Within}
use Rattle.days.specs.Days.{rising}
use Rattle.tallies.specs.Bounds as tallies
use Rattle.tallies.proofs.TallyLaws.{none-sound}
use Rattle.closing.specs.Bounds.{GoodDayEnd}
use Rattle.funds.specs.Bounds.{days_most}
use Rattle.accounts.specs.Bounds as accounts
use Rattle.accounts.specs.BoundLaws.{sound-later}
use Rattle.memory.specs.declared.contract_rows.Contract.{Contract}
use Rattle.memory.specs.Rows.{blank_contract}
use Rattle.model.specs.Book.{Book}
use Rattle.model.specs.Refusals.{is_open}
use Rattle.model.specs.HeldLaws.{open-sound, good-end}
use Rattle.model.specs.Kept.{Kept}
use Rattle.model.proofs.KeptLaws.{kept-bounded, kept-six}
use Rattle.standing.specs.Standing.{contract_row, rows_of}
use Rattle.standing.specs.MemberLaws.{member-row, open_row}
use Rattle.standing.specs.CloseRowLaws.{day-end-is}
use Rattle.day_end.specs.Closable.{Priceable, Closable}
use Rattle.day_end.specs.ReadLaws.{blank-tally}

blank-sound : tallies.Sound blank_contract.tally
blank-sound = subst tallies.Sound blank-tally none-sound

module _ {b : Book} (g : Kept b) where
  rows-priceable : Priceable (rows_of b)
  rows-priceable = record {
    few = g.sized.settings.few;
    rises = ap rising (take-padded 400 0 b.settings.exceptions) ∙ g.sized.settings.rises;
    tallies = padded-keeps 6 blank_contract (map (contract_row b) b.contracts.codes) (λ x. tallies.Sound x.tally) blank-sound
        (map-keeps (λ (x : Contract). tallies.Sound x.tally) blank_contract (contract_row b) b.contracts.codes blank-sound
        g.sized.contracts.tallies);
  }

  pub rows-closable : is_open b.today.point ≡ true → (final : ℤ) → Within 100000 final → Closable final (rows_of b)
  rows-closable o final w = record {
    priceable = rows-priceable;
    bookable = record {
      members = g.sized.members;
      accounts = λ i q. subst (accounts.Sound 10000 days_most) (sym (member-row g i q ∙ open_row g o _))
          (sound-later (open-sound g.sized (kept-six g o) _) g.sized.today.trades (kept-bounded g).days);
      end = subst GoodDayEnd (sym (day-end-is b g o final)) (good-end g.sized (kept-six g o) final w);
    };
  }
