-- The fields so far stand one after the other, with zeros after them in the row.
use Rattle.std.proofs.Common.{◌≡◌, sym, ap, ◌∙◌, ◌<◌, ◌≤◌, List, ◌++◌, ℕ, length, take, drop, replicate, add-one, arith, length-append, length-drop}
use Rattle.std.specs.Prelude.{Result, Err}
use Rattle.std.proofs.lemmas.Result.{err_from_is_err_and}
use Rattle.std.proofs.Math.Seq.{take-suc-set, take-append_seam, drop-append_seam}
use Rattle.std.proofs.lemmas.List.{length-take-le, take_all}
use Rattle.wording.specs.Text.{field_text}
use Rattle.parsing.specs.PlaceLaws.{Spaced, passed_none, passed-more, passed-stuck}
use Rattle.parsing.specs.WordLaws.{fields-spaced}
use Rattle.parsing.specs.LineLaws.{zeros-blank}
use Rattle.parsing.specs.Places.{Passed, Row}
use Rattle.parsing.proofs.line.fields_in.Goals as goal
use Rattle.parsing.proofs.line.fields_in.Goals.{After-field_at}

-- fields that were read, in front of a row's zeros
module _ (text : ℕ → ℕ → List ℕ) (n : ℕ) (line : List ℕ) (at place : ℕ) (items : List ℕ) (few : n ≤ 13) (long : length items ≡ n) where
  abbrev zeros : List ℕ
  zeros = drop n (replicate 13 0)

  first : take n (items ++ zeros) ≡ items
  first = ap (λ k. take k (items ++ zeros)) (sym long) ∙ take-append_seam items zeros

  last : drop n (items ++ zeros) ≡ zeros
  last = ap (λ k. drop k (items ++ zeros)) (sym long) ∙ drop-append_seam items zeros

  row : Passed text n line at place items → Row text n line at (record { values = items ++ zeros; end = place })
  row p =
      record {
        passed = rw first p;
        width = length-append items zeros ∙ omega (arith, length-drop n (replicate {A = ℕ} 13 0));
        zeros = rw last (zeros-blank n 13);
      }

module _ (c : After-field_at) where
  spaced : Spaced (field_text c.args.kind) c.args.n
  spaced = rw c.requires.2 (fields-spaced c.args.kind c.requires.1)

  room : length c.loop-i.value-items ≡ c.args.n
  room = c.loop-i.auto.value-items ∙ length-take-le c.args.n (replicate 13 0) c.requires.3

  long : length (take c.loop-i.i c.loop-i.value-items) ≡ c.loop-i.i
  long = length-take-le c.loop-i.i c.loop-i.value-items (omega (arith, room))

  some : length (take c.loop-i.i c.loop-i.value-items) < c.args.n
  some = omega (arith, room, long)

pub loop-i-init : goal.loop-i-init
loop-i-init c = let a = c.args in passed_none (field_text a.kind) a.n a.line.now a.at c.requires.0

pub returns-in_err-number : goal.returns-in_err-number
returns-in_err-number c =
    let e = (goal.at.returns-in_err-number c).After-field_at in
    let a = c.args in
    let l = c.loop-i in
    let p = err_from_is_err_and c.from_residual.result c.from_residual.ensures.1 in
    let none = c.in_err-number.ensures.ok_part in
    let said : ◌≡◌ {A = Result (ℕ × ℕ) ℕ} (Err c.in_err-number.field-0.0) (Err l.i) = rw none at c.in_err-number.ensures.value in
    let missing : c.in_err-number.field-0.0 ≡ l.i = cc in
    let reads = rw none at c.field_at.ensures in
    rw (p.1, p.2, missing) (
      omega (arith, room e),
      passed-stuck (field_text a.kind) a.n a.line.now a.at l.place (take l.i l.value-items) (spaced e) l.invariant (some e) (rw (long e) reads),
    )

pub loop-i-preserved : goal.loop-i-preserved
loop-i-preserved c =
    let e = (goal.at.loop-i-preserved c).After-field_at in
    let a = c.args in
    let l = c.loop-i in
    let reads = rw c.in_ok-number.ensures.ok_part at c.field_at.ensures in
    rw (add-one l.i, take-suc-set l.value-items l.i c.in_ok-number.number (omega (arith, room e)))
    (passed-more (field_text a.kind) a.n a.line.now a.at l.place (take l.i l.value-items) (spaced e) l.invariant (some e)
    c.in_ok-number.number c.in_ok-number.next (rw (long e) reads))

pub returns : goal.returns
returns c =
    let a = c.args in
    let l = c.loop-i in
    let taken = length-take-le a.n (replicate {A = ℕ} 13 0) c.requires.3 in
    let long : length l.value-items ≡ a.n = l.auto.value-items ∙ taken in
    row (field_text a.kind) a.n a.line.now a.at l.place l.value-items c.requires.3 long (rw (take_all l.i l.value-items (omega arith)) at l.invariant)
