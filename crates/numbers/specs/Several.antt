-- Several numbers, one after the other.
use Rattle.std.specs.Prelude.{List, [], ◌∷◌, ◌++◌, ℕ, zero, suc}
use Rattle.numbers.specs.Seven.{Got, none, got, encode, decode}

-- the bytes of some numbers
unfoldable pub write_of : List ℕ → List ℕ
write_of [] = []
write_of (x ∷ xs) = encode x ++ write_of xs

-- numbers and the bytes after them, or nothing
pub data Numbers : Type 0 where
  nothing : Numbers
  some : List ℕ → List ℕ → Numbers

abbrev pub on_got : {A : Type 0} → Got → A → (ℕ → List ℕ → A) → A
on_got none z f = z
on_got (got n rest) z f = f n rest

abbrev pub on_some : {A : Type 0} → Numbers → A → (List ℕ → List ℕ → A) → A
on_some nothing z f = z
on_some (some l rest) z f = f l rest

-- the n numbers at the start of some bytes
unfoldable pub many : ℕ → List ℕ → Numbers
many zero s = some [] s
many (suc n) s = on_got (decode s) nothing λ x rest. on_some (many n rest) nothing λ xs t. some (x ∷ xs) t
