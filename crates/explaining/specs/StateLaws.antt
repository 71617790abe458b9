-- A record taken brings the end nearer, and a turn keeps what the next one needs.
use Rattle.std.specs.Prelude.{List, ℕ, ◌≤◌, ◌<◌, ℤ, Result, Ok, Err}
use Rattle.std.specs.declared.ops.ControlFlow.{ControlFlow}
use Rattle.std.specs.declared.ops.ControlFlow.TheVariants.{Continue, Break}
use Rattle.std.proofs.Common.{arith}
use Rattle.standing.specs.Made.{Sound}
use Rattle.window.specs.declared.Window.{Window}
use Rattle.window.specs.Window.{Within}
use Rattle.desk.specs.Follows.{Followable}
use Rattle.explaining.specs.declared.followed.State.{State}
use Rattle.explaining.specs.declared.run.Damaged.{Damaged}
use Rattle.explaining.specs.States.{Further, GoesOn, Carried}
use Rattle.desk.specs.FollowLaws.{followable-sound}

pub further-on : {end : ℕ} {s r : State} {done : Unit} → (s.at < r.at) × (r.at ≤ end) → Further end s r (Ok done)
further-on (on, inside) = record { on = omega arith; inside = inside; more = on; stays = tt }

pub carried : {n size : ℕ} (w : Window) (s : State) (t : ControlFlow (Result State Damaged) (Window × State)) {counts : List ℕ} {money : List ℤ} {row_counts : List ℕ} {row_money : List ℤ}
    → Within size w → w.from ≤ s.at → s.at ≤ w.to → Followable n counts money row_counts row_money s.rows → GoesOn w s t
    → Carried n size w.place t counts money row_counts row_money
carried w s (Continue (next, more)) (ordered, within) on inside f (is, same) = rw (is, same) (f, ((inside, within), omega arith))
carried w s (Break (Ok last)) within on inside f same = rw same f
carried w s (Break (Err damaged)) within on inside f same = followable-sound f

-- however a turn ends, the memory is that of some history
pub carried-sound : (n size place : ℕ) (t : ControlFlow (Result State Damaged) (Window × State)) {counts : List ℕ} {money : List ℤ}
    (row_counts : List ℕ) (row_money : List ℤ)
    → Carried n size place t counts money row_counts row_money → Sound counts money
carried-sound n size place (Continue (w, s)) row_counts row_money (f, within) = followable-sound f
carried-sound n size place (Break (Ok s)) row_counts row_money f = followable-sound f
carried-sound n size place (Break (Err damaged)) row_counts row_money sound = sound
