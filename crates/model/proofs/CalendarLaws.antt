-- The calendar of a book is accepted whatever is called, and has no exceptions before the start.
use Rattle.std.specs.Prelude.{refl}
use Rattle.lists.specs.HasLaws.{clash}
use Rattle.days.specs.Days.{is_weekend, is_exception, is_working, first_working, no_long_break}
use Rattle.model.specs.Book.{Book, new}
use Rattle.model.specs.Calls.{Call, start, enrol, pay_in, pay_out, release, set_special, set_limits, opening, trade, quote, settle, refresh, close, unknown}
use Rattle.model.specs.Effects.{after}
use Rattle.model.specs.Refusals.{tests}
use Rattle.model.specs.Kept.{Calendared}
use Rattle.model.proofs.StepLaws.{Passed, needed}

pub calendar-new : Calendared new
unfolding new is_weekend is_exception is_working first_working no_long_break
calendar-new = record { accepts = refl; clean = λ e. refl }

pub calendar-after : (b : Book) (c : Call) → Passed (tests b c) → Calendared b → Calendared (after b c)
unfolding after
calendar-after b (start s) p i = record { accepts = needed 18 tt p.1.0; clean = λ e. clash refl e }
calendar-after b (enrol n x) p i = i
calendar-after b (pay_in n x) p i = i
calendar-after b (pay_out n x) p i = i
calendar-after b (release n x) p i = i
calendar-after b (set_special n x) p i = i
calendar-after b (set_limits n x) p i = i
calendar-after b (opening o) p i = record { accepts = i.accepts; clean = λ e. clash refl e }
calendar-after b (trade t) p i = i
calendar-after b (quote q) p i = i
calendar-after b settle p i = record { accepts = i.accepts; clean = λ e. clash refl e }
calendar-after b refresh p i = i
calendar-after b (close final) p i = record { accepts = i.accepts; clean = λ e. clash refl e }
calendar-after b unknown p i = i
