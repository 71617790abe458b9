-- The lines of a printed day: document 01, 'A printed day'.
use Rattle.std.specs.Prelude.{cond, List, [], ◌∷◌, ◌++◌, map, ℕ, ltb, ℤ}
use Rattle.lists.specs.Block.{block}
use Rattle.decimal.specs.Decimal.{numeral, signed_numeral}
use Rattle.rates.specs.Rules.{number_of}
use Rattle.rates.specs.declared.Settled.{Settled}
use Rattle.reports.specs.declared.Bill as shown
use Rattle.model.specs.Answers.{Bill, Report, Answer, refused, not_next, done, both_sides, report, Refusal, refusal_of}

-- ---- words, in ASCII
abbrev pub ok : List ℕ
ok = 111 ∷ 107 ∷ []

abbrev pub no : List ℕ
no = 110 ∷ 111 ∷ []

abbrev pub bad : List ℕ
bad = 98 ∷ 97 ∷ 100 ∷ []

abbrev pub rate : List ℕ
rate = 114 ∷ 97 ∷ 116 ∷ 101 ∷ []

abbrev pub account : List ℕ
account = 97 ∷ 99 ∷ 99 ∷ 111 ∷ 117 ∷ 110 ∷ 116 ∷ []

abbrev pub house : List ℕ
house = 104 ∷ 111 ∷ 117 ∷ 115 ∷ 101 ∷ []

-- "lines, one space between fields": the fields after the first, each after a space
unfoldable pub spaced : List (List ℕ) → List ℕ
spaced [] = []
spaced (field ∷ more) = 32 ∷ (field ++ spaced more)

-- a line ends with a line feed
abbrev pub line : List ℕ → List (List ℕ) → List ℕ
line first more = first ++ (spaced more ++ (10 ∷ []))

-- ---- "An accepted close adds the day, then .."
-- "per contract by code `rate`, code, rate, rule, trades or counted quotes used"
abbrev pub rate_line : ℕ → Settled → List ℕ
rate_line code s = line rate (numeral code ∷ signed_numeral s.rate ∷ numeral (number_of s.rule) ∷ numeral s.used ∷ [])

-- "per account by number `account`, account, day's variation, due, requirement, free"
abbrev pub account_line : ℕ → Bill → List ℕ
account_line number b =
    line account
    (numeral number ∷ signed_numeral b.variation ∷ signed_numeral b.due ∷ signed_numeral b.requirement ∷ signed_numeral b.free ∷ [])

-- a bill as the reports show it
abbrev pub as_bill : shown.Bill → Bill
as_bill b = record { variation = b.variation; due = b.due; requirement = b.requirement; free = b.free }

-- "then `house` and its balance"
abbrev pub house_line : ℤ → List ℕ
house_line balance = line house (signed_numeral balance ∷ [])

-- "by code", "by number": the numbers of a list in rising order, each once
unfoldable pub placed : ℕ → List ℕ → List ℕ
placed n [] = n ∷ []
placed n (k ∷ more) = cond (ltb n k) (n ∷ k ∷ more) (cond (ltb k n) (k ∷ placed n more) (k ∷ more))

unfoldable pub in_order : List ℕ → List ℕ
in_order [] = []
in_order (n ∷ more) = placed n (in_order more)

abbrev pub code_lines : Report → List ℕ
code_lines r = block (λ code. rate_line code (r.settled code)) (in_order r.codes)

abbrev pub member_lines : Report → List ℕ
member_lines r = block (λ number. account_line number (r.bill number)) (in_order r.members)

abbrev pub report_lines : Report → List ℕ
report_lines r = code_lines r ++ (member_lines r ++ house_line r.house)

-- ---- "Per record: kind and `ok`, or kind, `no`, refusal". Request L2: "20 returns the expected day, which the program prints after it"
abbrev pub refusal_text : ℕ → Refusal → List ℕ
refusal_text kind r = line (numeral kind) (no ∷ numeral r.number ∷ map numeral r.values)

abbrev pub answer_text : ℕ → Answer → List ℕ
answer_text kind (refused number) = refusal_text kind (refusal_of (refused number))
answer_text kind (not_next day) = refusal_text kind (refusal_of (not_next day))
answer_text kind done = line (numeral kind) (ok ∷ [])
answer_text kind (both_sides buyer seller) = line (numeral kind) (ok ∷ [])
answer_text kind (report r) = line (numeral kind) (ok ∷ numeral r.day ∷ []) ++ report_lines r

-- "a bad record prints `bad` and its place, and ends"
abbrev pub bad_text : ℕ → List ℕ
bad_text place = line bad (numeral place ∷ [])
