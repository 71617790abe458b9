-- Records as the examples write them, by kind.
use Rattle.std.specs.Prelude.{[], ◌∷◌, ◌++◌, ℕ, ℤ, replicate}
use Rattle.folding.specs.Fold.{folded}
use Rattle.records.specs.Records.{Entry, entry}
use Rattle.model.specs.Calls.{Trade}

abbrev pub starts : ℕ → ℕ → Entry
starts reference multiplier = entry 0 (reference ∷ multiplier ∷ 0 ∷ []) []

abbrev pub enrols : ℕ → ℕ → ℕ → Entry
enrols account limit tolerance = entry 1 (account ∷ limit ∷ tolerance ∷ []) []

abbrev pub pays_in : ℕ → ℕ → Entry
pays_in account amount = entry 2 (account ∷ amount ∷ []) []

abbrev pub sets_limits : ℕ → ℕ → ℕ → Entry
sets_limits account limit tolerance = entry 6 (account ∷ limit ∷ tolerance ∷ []) []

-- one list rate and one margin rate for all six
abbrev pub opens : ℕ → ℤ → ℕ → Entry
opens day rate margin = entry 7 (day ∷ (replicate 6 (folded rate) ++ replicate 6 margin)) []

abbrev pub trades : ℕ → ℕ → ℕ → ℕ → ℕ → ℤ → Entry
trades time code buyer seller lots rate = entry 8 (time ∷ code ∷ buyer ∷ seller ∷ lots ∷ folded rate ∷ []) []

-- a trade as a record
abbrev pub written : Trade → Entry
written t = trades t.time t.code t.buyer t.seller t.lots t.rate

abbrev pub quotes : ℕ → ℕ → ℕ → ℤ → Entry
quotes time code side rate = entry 9 (time ∷ code ∷ side ∷ folded rate ∷ []) []

abbrev pub settles : Entry
settles = entry 10 [] []

abbrev pub closes : ℤ → Entry
closes final = entry 12 (folded final ∷ []) []
