-- Values that stand beside keys.
use Rattle.std.specs.Prelude.{cond, List, [], ◌∷◌, ℕ, eqb}

-- the value beside a key, or another where the key is not there
unfoldable pub look : {A : Type 0} → List ℕ → List A → A → ℕ → A
look [] values other key = other
look (k ∷ keys) [] other key = other
look (k ∷ keys) (v ∷ values) other key = cond (eqb key k) v (look keys values other key)
