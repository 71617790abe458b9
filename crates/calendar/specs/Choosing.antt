-- How the code chooses the listed months one by one: what each of its steps gives. No promise rests on these definitions; ListingLaws shows that they lead to what is listed.
use Rattle.std.specs.Prelude.{Bool, true, false, ◌&&◌, not, cond, List, map, ◌++◌, ℕ, ◌+◌, ◌-◌, min, ltb, length, replicate, set, Option}
use Rattle.lists.specs.Passing.{passing, all}
use Rattle.calendar.specs.declared.listing.Chosen.{Chosen}
use Rattle.days.specs.Days.{is_no_day}
use Rattle.months.specs.Months.{is_quarterly, code_of}
use Rattle.calendar.specs.Listing.{Listing, is_after, places, earlier, is_listed, settles, unknown}

abbrev pub none_chosen : Chosen
none_chosen = record { quarterly = 0; others = 0; known = true; codes = replicate 6 0 }

abbrev pub has_place : Chosen → Bool → Bool
has_place c true = ltb c.quarterly (places true)
has_place c false = ltb c.others (places false)

abbrev pub placed : Chosen → Bool → ℕ → Bool → Chosen
placed c true code known = record { quarterly = c.quarterly + 1; others = c.others; known = c.known && known; codes = set c.codes (c.quarterly + c.others) code }
placed c false code known = record { quarterly = c.quarterly; others = c.others + 1; known = c.known && known; codes = set c.codes (c.quarterly + c.others) code }

unfoldable pub considered : Chosen → ℕ → Option ℕ → ℕ → Chosen
considered c m day t = cond (is_after t day) (cond (has_place c (is_quarterly m)) (placed c (is_quarterly m) (code_of m) (not (is_no_day day))) c) c

abbrev pub answered : Chosen → Listing
answered c = cond c.known (record { known = true; codes = c.codes }) unknown

-- six places, the free ones 0
abbrev pub filled : List ℕ → List ℕ
filled l = map code_of l ++ replicate (6 - length l) 0

-- what is chosen once all months before m are considered
unfoldable pub chosen_before : (ℕ → Bool) → ℕ → ℕ → Chosen
chosen_before w t m = record { quarterly = min (places true) (earlier w t true m); others = min (places false) (earlier w t false m); known = all (settles w) (passing (is_listed w t) m); codes = filled (passing (is_listed w t) m) }
