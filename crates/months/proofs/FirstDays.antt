-- The table of the months' first days, and its rule at each entry, computed once.
use mathlib.Core.List.{List, [], ◌∷◌}
use mathlib.Core.Bool.{Bool}
use Prim.Native.Nat.{ℕ}
use lib.Dec.{T, eqb}
use Rattle.lists.specs.Table.{every}
use Rattle.months.specs.Months.{first_day, month_length}

unfoldable pub first_days : List ℕ
first_days =
    0 ∷ 31 ∷ 60 ∷ 91 ∷ 121 ∷ 152 ∷ 182 ∷ 213 ∷ 244 ∷ 274 ∷ 305 ∷ 335 ∷
    366 ∷ 397 ∷ 425 ∷ 456 ∷ 486 ∷ 517 ∷ 547 ∷ 578 ∷ 609 ∷ 639 ∷ 670 ∷ 700 ∷
    731 ∷ 762 ∷ 790 ∷ 821 ∷ 851 ∷ 882 ∷ 912 ∷ 943 ∷ 974 ∷ 1004 ∷ 1035 ∷ 1065 ∷
    1096 ∷ 1127 ∷ 1155 ∷ 1186 ∷ 1216 ∷ 1247 ∷ 1277 ∷ 1308 ∷ 1339 ∷ 1369 ∷ 1400 ∷ 1430 ∷
    1461 ∷ 1492 ∷ 1521 ∷ 1552 ∷ 1582 ∷ 1613 ∷ 1643 ∷ 1674 ∷ 1705 ∷ 1735 ∷ 1766 ∷ 1796 ∷
    1827 ∷ 1858 ∷ 1886 ∷ 1917 ∷ 1947 ∷ 1978 ∷ 2008 ∷ 2039 ∷ 2070 ∷ 2100 ∷ 2131 ∷ 2161 ∷
    2192 ∷ 2223 ∷ 2251 ∷ 2282 ∷ 2312 ∷ 2343 ∷ 2373 ∷ 2404 ∷ 2435 ∷ 2465 ∷ 2496 ∷ 2526 ∷
    2557 ∷ 2588 ∷ 2616 ∷ 2647 ∷ 2677 ∷ 2708 ∷ 2738 ∷ 2769 ∷ 2800 ∷ 2830 ∷ 2861 ∷ 2891 ∷
    2922 ∷ 2953 ∷ 2982 ∷ 3013 ∷ 3043 ∷ 3074 ∷ 3104 ∷ 3135 ∷ 3166 ∷ 3196 ∷ 3227 ∷ 3257 ∷
    3288 ∷ 3319 ∷ 3347 ∷ 3378 ∷ 3408 ∷ 3439 ∷ 3469 ∷ 3500 ∷ 3531 ∷ 3561 ∷ 3592 ∷ 3622 ∷ []

unfoldable pub is_first : ℕ → ℕ → Bool
is_first i d = eqb d (first_day i)

pub all_first : T (every is_first 0 first_days)
unfolding first_days is_first first_day month_length
all_first = tt
