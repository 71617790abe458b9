-- In each contract lots and variation sum to zero over the accounts.
use Rattle.std.specs.Prelude.{◌≡◌, List, [], ◌∷◌, ℕ, pos}
use Rattle.std.proofs.lemmas.Bool.{not-true}
use Rattle.whole.specs.Over.{sum_over}
use Rattle.records.specs.Records.{Entry}
use Rattle.model.specs.Book.{Book, new, is_member}
use Rattle.model.specs.Calls.{Call, start, enrol, pay_in, pay_out, release, set_special, set_limits, opening, trade, quote, settle, refresh, close, unknown, call_of}
use Rattle.model.specs.Effects.{mark_of, after}
use Rattle.model.specs.Refusals.{tests}
use Rattle.model.specs.History.{Step, step, run, log, booked}
use Rattle.model.specs.Kept.{Kept}
use Rattle.model.specs.SumLaws.{Total, total-none, total-add, total-more}
use Rattle.model.proofs.StepLaws.{Passed, needed, induct}
use Rattle.model.proofs.LevelLaws.{level-variation}
use Rattle.model.proofs.KeptLaws.{known}

-- ---- what closes booked in one contract
abbrev BookedIn : ℕ → Book → List Step → Type 0
BookedIn c b l = Total b.accounts.members (λ n. booked n c l) (pos 0)

begins : (c : ℕ) → BookedIn c new []
unfolding new booked
begins c = total-none []

more : (c : ℕ) (b : Book) (l : List Step) (x : Call) → Kept b → Passed (tests b x) → BookedIn c b l → BookedIn c (after b x) (step b x ∷ l)
unfolding after booked
more c b l (start s) k p i = i
more c b l (enrol n x) k p i = total-more n (not-true (is_member b n) (needed 6 tt p.1.0)) i
more c b l (pay_in n x) k p i = i
more c b l (pay_out n x) k p i = i
more c b l (release n x) k p i = i
more c b l (set_special n x) k p i = i
more c b l (set_limits n x) k p i = i
more c b l (opening o) k p i = i
more c b l (trade t) k p i = i
more c b l (quote q) k p i = i
more c b l settle k p i = i
more c b l refresh k p i = i
more c b l (close final) k p i = total-add i (level-variation k.framed c (k.level c) (mark_of b final c))
more c b l unknown k p i = i

-- ---- promise 2
pub lots-cancel : (h : List Entry) (c : ℕ) → sum_over (λ n. ((run h).accounts.position n c).net) (run h).accounts.members ≡ pos 0
lots-cancel h c = ((known h).level c).net

pub variation-cancels : (h : List Entry) (c : ℕ) → sum_over (λ n. booked n c (log h)) (run h).accounts.members ≡ pos 0
variation-cancels h c = (induct (BookedIn c) (begins c) (λ g e a i. more c (run g) (log g) (call_of e) (known g) a.passed i) h).sums
