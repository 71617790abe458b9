-- A record's fields put one after the other, and its exceptions: after i turns the text of the first i is put.
use Rattle.std.specs.Prelude.{◌≡◌, refl, List, [], ◌∷◌, ◌++◌, ℕ, suc, ◌+◌, ◌≤◌, ◌<◌, length, get_or, take}
use Rattle.std.proofs.Common.{sym, ap, ◌∙◌, append_assoc, append-nil, add-one, arith, take-suc, length-take-le}
use Rattle.lists.specs.Block.{block}
use Rattle.lists.specs.BlockLaws.{block_last}
use Rattle.decimal.specs.Put.{Put}
use Rattle.decimal.proofs.PutLaws.{put-none, put-more, put-length}
use Rattle.wording.specs.Text.{field_text, fields_text, exception_text}

-- ---- one more
fields-last : (kind field : ℕ) (ns : List ℕ) (n : ℕ)
    → fields_text kind field (ns ++ (n ∷ [])) ≡ fields_text kind field ns ++ field_text kind (field + length ns) n
unfolding fields_text
fields-last kind field [] n =
    let same : field ≡ field + 0 = omega arith in
    append-nil (field_text kind field n) ∙ ap (λ f. field_text kind f n) same
fields-last kind field (m ∷ ns) n =
    let first = field_text kind field m in
    let rest = fields_text kind (suc field) ns in
    let same : suc field + length ns ≡ field + suc (length ns) = omega arith in
    ap (λ t. first ++ t) (fields-last kind (suc field) ns n ∙ ap (λ f. rest ++ field_text kind f n) same)
    ∙ sym (append_assoc first rest (field_text kind (field + suc (length ns)) n))

pub fields-more : (kind : ℕ) (fields : List ℕ) (i : ℕ) → i < length fields
    → fields_text kind 0 (take (i + 1) fields) ≡ fields_text kind 0 (take i fields) ++ field_text kind i (get_or fields i 0)
fields-more kind fields i h =
    let done = take i fields in
    let n = get_or fields i 0 in
    let same : 0 + length done ≡ i = omega (arith, length-take-le i fields (omega arith)) in
    ap (fields_text kind 0) (ap (λ k. take k fields) (add-one i) ∙ take-suc fields i 0 h)
    ∙ fields-last kind 0 done n
    ∙ ap (λ f. fields_text kind 0 done ++ field_text kind f n) same

pub exceptions-more : (ns : List ℕ) (i : ℕ) → i < length ns
    → block exception_text (take (i + 1) ns) ≡ block exception_text (take i ns) ++ exception_text (get_or ns i 0)
exceptions-more ns i h =
    ap (block exception_text) (ap (λ k. take k ns) (add-one i) ∙ take-suc ns i 0 h) ∙ block_last exception_text (take i ns) (get_or ns i 0)

-- ---- the walk
-- the text of the first i is put, and the room has the length that it had
pub record Walked (text : ℕ → List ℕ) (room : List ℕ) (at i : ℕ) (room' : List ℕ) (next : ℕ) : Type 0 where
  pub put : Put room at (text i) next room'
  pub same : length room' ≡ length room

pub walk_begins : (text : ℕ → List ℕ) (room : List ℕ) (at : ℕ) → text 0 ≡ [] → Walked text room at 0 room at
walk_begins text room at e = record { put = rw e (put-none room at); same = refl }

-- where there is room for w bytes more
module _ {text : ℕ → List ℕ} {room room' : List ℕ} {at i next : ℕ} (w : ℕ) (left : at + (length (text i) + w) ≤ length room)
    (walked : Walked text room at i room' next) where
  pub walk-room : next + w ≤ length room'
  walk-room = omega (arith, walked.put.place, walked.same)

  pub walk-next : {piece room'' : List ℕ} {next' : ℕ} → length piece ≤ w → text (i + 1) ≡ text i ++ piece → Put room' next piece next' room''
      → Walked text room at (i + 1) room'' next'
  walk-next short e put =
      record {
        put = rw e (put-more (omega arith) walked.put put);
        same = put-length (omega (arith, walk-room)) put ∙ walked.same;
      }
