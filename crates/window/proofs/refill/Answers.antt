-- Nothing is read, or what is left was moved down before more is read behind it.
use mathlib.Core.Path.{◌≡◌, refl, sym, ap, ◌∙◌}
use mathlib.Core.Bool.{true, false≢true}
use mathlib.Core.Logic.{◌⊎◌, inl, inr}
use mathlib.Core.List.{List, [], ◌++◌, append-nil}
use Prim.Native.Nat.{ℕ, ◌+◌, ◌-◌, ◌≤◌, ◌<◌}
use lib.Dec.{ltb}
use lib.ListN.{length, take, drop}
use lib.Seq.{take-add, take-append-add, take-append-le, drop_at, length-take-le}
use native.Mathlib.Decide.{dec_lt}
use native.Mathlib.Omega.{arith}
use borrow.Author.Tests.{lt-ltb}
use Rattle.window.specs.declared.Window.{Window}
use Rattle.window.specs.Window.{Within, held, Refilled}
use Rattle.window.proofs.refill.Goals as goal

-- nothing is read where the file has ended or enough is in hand
nothing_read : {enough : ℕ} (w : Window) (block : List ℕ) → Within (length block) w → (w.ended ≡ true) ⊎ (enough ≤ w.to - w.from)
    → Refilled enough w block w block
nothing_read w block within plenty = record {
  within = within;
  got = [];
  bytes = sym (append-nil (held w block));
  place = refl;
  none = λ ended. (refl, ended);
  plenty = plenty;
}

-- what was moved down, and what is read behind it
read_behind : (w : Window) (block moved part tail : List ℕ) (left got : ℕ) → Within (length block) w → w.from + left ≡ w.to
    → length moved ≡ length block → take left moved ≡ take left (drop w.from block) → got ≤ length part
    → take (left + got) (take left moved ++ (part ++ tail)) ≡ held w block ++ take got part
read_behind w block moved part tail left got (ordered, inside) ends same front short =
    let long : length (take left moved) ≡ left = length-take-le left moved (omega arith) in
    let before : length (take w.from block) ≡ w.from = length-take-le w.from block (omega arith) in
    let window : held w block ≡ take left (drop w.from block) =
    ap (λ n. drop w.from (take n block)) (sym ends)
    ∙ ap (drop w.from) (take-add w.from left block)
    ∙ drop_at (take w.from block) (take left (drop w.from block)) w.from before in
    let split : take (left + got) (take left moved ++ (part ++ tail)) ≡ take left moved ++ take got (part ++ tail) =
    ap (λ n. take (n + got) (take left moved ++ (part ++ tail))) (sym long) ∙ take-append-add (take left moved) (part ++ tail) got in
    split ∙ rw (take-append-le got part tail short, front, window)

-- a block that is not filled has the file's end, and one that is filled has enough
filled : (to size enough : ℕ) → enough ≤ size → (ltb to size ≡ true) ⊎ (enough ≤ to - 0)
filled to size enough fits = go (dec_lt to size)
  where
    go : Dec (to < size) → (ltb to size ≡ true) ⊎ (enough ≤ to - 0)
    go (yes short) = inl (lt-ltb to size short)
    go (no full) = inr (omega arith)

pub returns-then-w : goal.returns-then-w
returns-then-w g c =
    nothing_read c.args.w c.args.block.now c.requires.within (inl c.if-w.true)

pub returns-then-enough-w : goal.returns-then-enough-w
returns-then-enough-w g c =
    nothing_read c.args.w c.args.block.now c.requires.within (inr c.if-enough-w.true)

pub returns : goal.returns
returns g c =
    let a = c.args in
    let left = c.move_down-left in
    let part = c.read_full-got.new.block in
    let got = c.read_full-got.result in
    record {
      within = (omega arith, omega arith);
      got = take got part;
      bytes =
          read_behind a.w a.block.now left.new.block part _ left.result got c.requires.within left.ensures.0 (omega arith) left.ensures.1
          (omega arith);
      place = refl;
      none = λ ended. absurd (false≢true (sym c.if-w.false ∙ ended));
      plenty = filled (left.result + got) _ a.enough (omega arith);
    }
