use mathlib.Core.Path.{sym, subst}
use borrow.Author.Tests.{not-true, not-false}
use Rattle.memory.specs.Layout.{Long}
use Rattle.standing.specs.SoundLaws.{sound-long, headed-long}
use Rattle.model.specs.Book.{Settings}
use Rattle.keeping.specs.StartLaws.{start-late, start-unaccepted, started-made}
use Rattle.keeping.proofs.settings.start.Goals as goal
use Rattle.keeping.proofs.settings.start.Goals.{Start}

abbrev settings : Start → Settings
settings s = record { reference = s.args.reference; multiplier = s.args.multiplier; exceptions = s.args.exceptions.now }

pub load_header-h-requires : goal.load_header-h-requires
load_header-h-requires c = (sound-long c.requires.0).counts

pub returns-then-h-gt0 : goal.returns-then-h-gt0
returns-then-h-gt0 c =
    start-late c.requires.0 (settings (goal.at.returns-then-h-gt0 c).Start) c.load_header-h.ensures c.if-h-gt0.true

pub returns-then-not-is_accepted : goal.returns-then-not-is_accepted
returns-then-not-is_accepted c =
    start-unaccepted c.requires.0 (settings (goal.at.returns-then-not-is_accepted c).Start) c.load_header-h.ensures c.if-h-gt0.false
    c.is_accepted.ensures (not-true _ c.if-not-is_accepted.true-raw)

pub store_header-requires : goal.store_header-requires
store_header-requires c = (sound-long c.requires.0).counts

pub store_exceptions-requires : goal.store_exceptions-requires
store_exceptions-requires c =
    ((subst (λ l. Long l c.args.money.now) (sym c.store_header.ensures) (headed-long c.requires.0 _)).counts, c.requires.1.1)

pub returns : goal.returns
returns c =
    started-made c.requires.0 (settings (goal.at.returns c).Start) c.load_header-h.ensures c.if-h-gt0.false
    c.is_accepted.ensures
    c.requires.1.1
    (not-false _ c.if-not-is_accepted.false-raw)
    c.store_header.ensures
    c.store_exceptions.ensures
