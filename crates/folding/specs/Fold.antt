-- Folding: how a signed number of document 01's 'Event records' is written as one without a sign.
use Rattle.std.specs.Prelude.{cond, ℕ, ◌+◌, ◌*◌, ◌/◌, ◌%◌, eqb, ℤ, pos, negsuc}

-- "folded first: 0, -1, 1, -2 become 0, 1, 2, 3". `negsuc n` is -(n + 1)
unfoldable pub folded : ℤ → ℕ
folded (pos n) = 2 * n
folded (negsuc n) = 2 * n + 1

-- the number that was folded: an even number was not below zero, an odd one was
unfoldable pub unfolded : ℕ → ℤ
unfolded n = cond (eqb (n % 2) 0) (pos (n / 2)) (negsuc (n / 2))
