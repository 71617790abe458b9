-- Six values of a row of fields, place by place.
use Rattle.std.specs.Prelude.{◌≡◌, List, ℕ, ◌+◌, get_or}
use Rattle.std.proofs.Math.Path.{refl}
use Rattle.lists.specs.Tabulate.{tab}
use Rattle.folding.specs.Fold.{unfolded}
use Rattle.book.specs.Taken.{rates_in, margins_in}

pub rates-tab : (fields : List ℕ) → tab (λ k. unfolded (get_or fields (k + 1) 0)) 6 ≡ rates_in fields
unfolding tab
rates-tab fields = refl

pub margins-tab : (fields : List ℕ) → tab (λ k. get_or fields (k + 7) 0) 6 ≡ margins_in fields
unfolding tab
margins-tab fields = refl
