-- Keys are small whatever is called: account numbers have seven digits at most, and the last close answered for at most six codes of four.
use Rattle.std.specs.Prelude.{◌≡◌, refl, true, List, [], ◌∷◌, ◌++◌, ℕ, ◌≤◌}
use Rattle.std.proofs.Common.{sym, ◌∙◌, zero-le, arith, eqb-true}
use Rattle.lists.specs.Has.{has}
use Rattle.lists.specs.HasLaws.{by_test, clash, or-skip, has-append, has_one}
use Rattle.model.specs.Book.{Book, new}
use Rattle.model.specs.Calls.{Call, start, enrol, pay_in, pay_out, release, set_special, set_limits, opening, trade, quote, settle, refresh, close, unknown}
use Rattle.model.specs.Effects.{after}
use Rattle.model.specs.Kept.{Listed, Keyed}
use Rattle.model.specs.Ranged.{Ranged}
use Rattle.model.proofs.ListedLaws.{listed-few, listed_below}

pub keys-new : Keyed new
unfolding new has
keys-new = record { numbers = λ n e. clash e refl; few = zero-le; codes = λ c e. clash e refl }

one_more : (members : List ℕ) (k : ℕ) → k ≤ 9999999 → ((n : ℕ) → has n members ≡ true → n ≤ 9999999)
    → (n : ℕ) → has n (members ++ (k ∷ [])) ≡ true → n ≤ 9999999
one_more members k h small n e = by_test (has n members) (small n)
    (λ t. let last : has n (k ∷ []) ≡ true = or-skip (has n members) (has n (k ∷ [])) t (sym (has-append n members (k ∷ [])) ∙ e) in
    let same : n ≡ k = eqb-true n k (sym (has_one n k) ∙ last) in omega arith)

-- what a close answers for are the codes that were listed
pub keys-after : (b : Book) (c : Call) → Ranged c → Listed b → Keyed b → Keyed (after b c)
unfolding after
keys-after b (start s) r l i = i
keys-after b (enrol n x) r l i = record { numbers = one_more b.accounts.members n r.number i.numbers; few = i.few; codes = i.codes }
keys-after b (pay_in n x) r l i = i
keys-after b (pay_out n x) r l i = i
keys-after b (release n x) r l i = i
keys-after b (set_special n x) r l i = i
keys-after b (set_limits n x) r l i = i
keys-after b (opening o) r l i = i
keys-after b (trade t) r l i = i
keys-after b (quote q) r l i = i
keys-after b settle r l i = i
keys-after b refresh r l i = i
keys-after b (close final) r l i = record { numbers = i.numbers; few = listed-few b l; codes = listed_below b l }
keys-after b unknown r l i = i
