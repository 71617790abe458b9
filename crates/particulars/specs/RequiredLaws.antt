-- The parts that a sound memory's row tells are those of its book.
use Rattle.std.specs.Prelude.{◌≡◌, List, ℕ, ◌<◌, ℤ, Some, None}
use Rattle.std.proofs.Common.{sym, ◌∙◌, arith}
use Rattle.lists.specs.HasLaws.{when_true, when_false}
use Rattle.lists.specs.Seek.{seek}
use Rattle.accounts.specs.declared.Account.{Account}
use Rattle.memory.specs.declared.header_row.Header.{Header}
use Rattle.memory.specs.Layout.{header_at, account_at, number_at}
use Rattle.model.specs.Book.{Book}
use Rattle.model.specs.Kept.{Kept}
use Rattle.standing.specs.Standing.{account_row, view}
use Rattle.standing.specs.Made.{Sound}
use Rattle.standing.specs.StandingLaws.{sound-kept, sound-holds}
use Rattle.standing.specs.MemberLaws.{member-at, member-none, member-account}
use Rattle.standing.specs.SoundLaws.{sound-header}
use Rattle.particulars.specs.Particulars.{parted_in}
use Rattle.particulars.specs.Required.{PartsFit, parts_at}

-- ---- part by part
pub parts_are : (a : Account) (reference multiplier : ℕ) {basis total over special margin cash : ℤ}
    → basis ≡ (parts_at a reference multiplier).basis → total ≡ a.holdings.dayend → over ≡ (parts_at a reference multiplier).over
    → special ≡ a.holdings.special → margin ≡ a.funds.margin → cash ≡ a.funds.cash
    → record {
      clearing = a.holdings.limits.clearing;
      reference = reference;
      multiplier = multiplier;
      basis = basis;
      total = total;
      over = over;
      special = special;
      margin = margin;
      cash = cash;
      flag = a.funds.flag;
    }
    ≡ parts_at a reference multiplier
parts_are a reference multiplier p q r s t u = rw (p, q, r, s, t, u)

-- row i of a memory is one of the accounts', its parts fit, and they are what is told of account n
pub record PartedAt (c : List ℕ) (m : List ℤ) (n i : ℕ) : Type 0 where
  pub below : i < 64
  pub fit : {a : Account} {h : Header} → a ≡ account_at c m i → h ≡ header_at c → PartsFit a h.reference h.multiplier
  pub told : {a : Account} {h : Header} → a ≡ account_at c m i → h ≡ header_at c
      → Some (parts_at a h.reference h.multiplier) ≡ parted_in (view c m) n

module _ {c : List ℕ} {m : List ℤ} (s : Sound c m) where
  abbrev b : Book
  b = view c m

  abbrev g : Kept b
  g = sound-kept s

  pub parted-none : (n : ℕ) → seek (number_at c) n (header_at c).members 0 ≡ None → None ≡ parted_in (view c m) n
  parted-none n e = sym (when_false _ _ (member-none g (sound-holds s) n e))

  pub parted-at : (n i : ℕ) → seek (number_at c) n (header_at c).members 0 ≡ Some i → PartedAt c m n i
  parted-at n i e =
      let at = member-at g (sound-holds s) n i e in
      let row : account_at c m i ≡ account_row b n = member-account g (sound-holds s) n i at.0 at.1.0 in
      record {
        below = omega (arith, at.0, g.sized.members);
        fit = λ {a} {h} p q. rw (p ∙ row, q ∙ sound-header s) (record {
          limits = (g.sized.held n).limits;
          rate = record { most = g.sized.settings.reference };
          total = (g.sized.held n).dayend;
          most = g.sized.settings.multiplier;
        });
        told = λ {a} {h} p q.
            rw (p ∙ row, q ∙ sound-header s) (sym (when_true _ _ at.1.1));
      }
