-- Records printed one after the other print what stands in the file, whatever the block's end cuts.
use Rattle.std.specs.Prelude.{◌≡◌, refl, Bool, true, false, ◌⊎◌, List, [], ◌++◌, ℕ, ◌+◌, ◌-◌, ◌≤◌, ◌<◌, ℤ, length, take, drop, Result, Ok, Err, IfOk, IfErr}
use Rattle.std.specs.declared.ops.ControlFlow.{ControlFlow}
use Rattle.std.specs.declared.ops.ControlFlow.TheVariants.{Continue, Break}
use Rattle.std.proofs.Common.{sym, ap, ◌∙◌, subst, subst₂, inl, inr, append-nil, append_assoc, arith, length-drop}
use Rattle.std.proofs.Math.Seq.{take-append_seam, slice_empty}
use Rattle.numbers.specs.Below.{Small}
use Rattle.model.specs.Book.{Book}
use Rattle.standing.specs.Standing.{view}
use Rattle.decimal.proofs.PutLaws.{put-none, put-more}
use Rattle.lines.specs.Lines.{bad_text}
use Rattle.window.specs.declared.Window.{Window}
use Rattle.window.specs.Window.{held, Refilled}
use Rattle.printing.specs.declared.one_record.Printed.{Printed}
use Rattle.printing.specs.declared.one_record.Printed.TheVariants.{Next, Bad}
use Rattle.printing.specs.declared.run.Progress.{Progress}
use Rattle.printing.specs.declared.run.BadRecord.{BadRecord}
use Rattle.printing.specs.Printed.{Prints, PrintsFirst, ended, PrintedAt}
use Rattle.printing.specs.PrintedLaws.{printed-next, printed-bad}
use Rattle.printing.specs.Turns.{Printable}
use Rattle.printing.specs.Blocks.{start, Follows, Enough, PrintedUpTo, TurnedTo, TurnPrints, TurnTaken}

-- ---- printing
-- before the first record
pub printed-none : {May : List ℕ → Type 0} {bytes counts : List ℕ} {money : List ℤ} {room : List ℕ} (p : Progress)
    → PrintedUpTo May bytes p counts money room p (Ok tt) counts money room
printed-none {room = room} p = record { text = []; put = put-none room p.used; first = λ more left q. q; all = tt }

-- one record
module _ {bytes : List ℕ} (p : Progress) {counts counts' : List ℕ} {money money' : List ℤ} {room room' : List ℕ} {answer : Printed}
    (small : Small bytes) (f : PrintedAt bytes p.at p.place counts money room p.used answer counts' money' room') where
  pub answer-printed : {next after : ℕ} → answer ≡ Next next after
      → PrintedUpTo (Enough (drop p.at bytes)) bytes p counts money room
      (record { at = next; place = p.place + (next - p.at); used = after }) (Ok tt) counts' money' room'
  answer-printed is =
      let next = printed-next small f is in
      record { text = next.0; put = next.1.0; first = next.1.1; all = tt }

  pub bad-printed : {after : ℕ} {bad : BadRecord} → p.at < length bytes → answer ≡ Bad after
      → PrintedUpTo (Enough (drop p.at bytes)) bytes p counts money room
      (record { at = p.at; place = p.place; used = after }) (Err bad) counts' money' room'
  bad-printed inside is =
      let some : 0 < length (drop p.at bytes) = rw (length-drop p.at bytes) (omega arith) in
      record {
        text = bad_text p.place;
        put = (printed-bad small f [] is (λ i. omega arith) some (inl refl)).1;
        first = tt;
        all = λ more enough below. (printed-bad small f more is below some enough).0;
      }

follows-enough : {ended : Bool} (s : List ℕ) {more : List ℕ} → (ended ≡ true) ⊎ (4140 ≤ length s) → Follows ended more → Enough s more
follows-enough s (inl e) follows = inl (follows e)
follows-enough s (inr long) follows = inr long

-- a record more
pub printed-more : {ended : Bool} {bytes : List ℕ} {q p r : Progress} {taken : Result Unit BadRecord} {counts₀ counts counts' : List ℕ}
    {money₀ money money' : List ℤ} {room₀ room room' : List ℕ}
    → Printable (length bytes) ended p → r.used ≤ length room₀
    → PrintedUpTo (Follows ended) bytes q counts₀ money₀ room₀ p (Ok tt) counts money room
    → PrintedUpTo (Enough (drop p.at bytes)) bytes p counts money room r taken counts' money' room'
    → PrintedUpTo (Follows ended) bytes q counts₀ money₀ room₀ r taken counts' money' room'
printed-more {bytes = bytes} {q} {taken = Ok done} {counts₀ = counts₀} {money₀ = money₀} one short before next =
    let b = view counts₀ money₀ in
    let here = before.put.place in
    let there = next.put.place in
    record {
      text = before.text ++ next.text;
      put = put-more (omega arith) before.put next.put;
      first = λ more left rest.
          subst (Prints b q.place (drop q.at bytes ++ more)) (sym (append_assoc before.text next.text left))
          (before.first more (next.text ++ left) (next.first more left rest));
      all = tt;
    }
printed-more {ended} {bytes} {p = p} {taken = Err bad} one short before next =
    let whole : (ended ≡ true) ⊎ (4140 ≤ length (drop p.at bytes)) = rw (length-drop p.at bytes) one.whole in
    let here = before.put.place in
    let there = next.put.place in
    record {
      text = before.text ++ next.text;
      put = put-more (omega arith) before.put next.put;
      first = tt;
      all = λ more follows small.
          before.first more next.text (next.all more (follows-enough (drop p.at bytes) whole follows) small);
    }

-- ---- a turn: it is read on, then printed, then written
module _ {counts counts' : List ℕ} {money money' : List ℤ} {enough : ℕ} {w r : Window} {p : Progress} {taken : Result Unit BadRecord} {block block' room room' : List ℕ}
    (read : Refilled enough w block r block')
    (printed : PrintedUpTo (Follows r.ended) (take r.to block') (start r) counts money room p taken counts' money' room') where
  -- what is printed of the window, by how the turn ends
  window-prints : (t : ControlFlow Bool Window) → TurnedTo p taken r t
      → TurnPrints (view counts money) r.place (held r block') r.ended printed.text t (view counts' money') block'
  window-prints (Continue next) (good, is) = rw is (refl, rw good at printed.first)
  window-prints (Break true) (written, done) = whole taken printed.first printed.all done
    where
      b : Book
      b = view counts money

      s : List ℕ
      s = held r block'

      -- all is printed, or a bad record ended it
      whole : (x : Result Unit BadRecord)
          → IfOk x (λ done. PrintsFirst b r.place s printed.text (view counts' money') p.place (drop p.at (take r.to block')))
          → IfErr x (λ bad. (more : List ℕ) → Follows r.ended more → Small more → Prints b r.place (s ++ more) printed.text)
          → IfOk x (λ done. (r.ended ≡ true) × (p.at ≡ r.to))
          → (more : List ℕ) → Follows r.ended more → Small more → Prints b r.place (s ++ more) printed.text
      whole (Err bad) first all done = all
      whole (Ok u) first all (end, at-end) = λ more follows small.
          let nothing : drop p.at (take r.to block') ≡ [] = ap (λ n. drop n (take r.to block')) at-end ∙ slice_empty r.to block' in
          let none : Prints (view counts' money') p.place (drop p.at (take r.to block') ++ []) [] = rw nothing ended in
          subst₂ (λ z text. Prints b r.place (s ++ z) text) (sym (follows end)) (append-nil printed.text) (first [] [] none)
  window-prints (Break false) u = tt

  pub turn-taken : (t : ControlFlow Bool Window) → TurnPrints (view counts money) r.place (held r block') r.ended printed.text t (view counts' money') block'
      → TurnTaken counts money w block t counts' money' block' room'
  turn-taken t prints = record {
    got = read.got;
    ended = r.ended;
    none = read.none;
    text = printed.text;
    shown = ap (take (length printed.text)) printed.put.holds ∙ take-append_seam printed.text _;
    prints =
        subst₂ (λ place s. TurnPrints (view counts money) place s r.ended printed.text t (view counts' money') block')
        read.place read.bytes prints;
  }

  pub turned_taken : (t : ControlFlow Bool Window) → TurnedTo p taken r t → TurnTaken counts money w block t counts' money' block' room'
  turned_taken t turned = turn-taken t (window-prints t turned)
