-- A line put field by field, and a line for each of some keys in rising order.
use Rattle.std.specs.Prelude.{◌≡◌, refl, true, List, [], ◌∷◌, ◌++◌, ℕ, suc, ◌+◌, ◌*◌, ◌≤◌, ◌<◌, ltb, ℤ, length}
use Rattle.std.proofs.Common.{sym, ap, ◌∙◌, append_assoc, append-nil, mul-le-mul_right, arith, length-append}
use Rattle.std.proofs.Math.Path.{subst}
use Rattle.lists.specs.Block.{block}
use Rattle.lists.specs.BlockLaws.{block_last}
use Rattle.lists.specs.Has.{has}
use Rattle.lists.specs.Those.{those-fewer}
use Rattle.decimal.specs.Decimal.{numeral, signed_numeral}
use Rattle.decimal.specs.Put.{Put}
use Rattle.decimal.proofs.PutLaws.{put-none, put-more, put-length, numeral-length, signed-length}
use Rattle.reports.specs.ReportLaws.{LowestIs}
use Rattle.lines.specs.Lines.{spaced, line, in_order}
use Rattle.lines.specs.OrderLaws.{before, ordered-none, ordered-next, ordered-all, in-order-length}

-- ---- a line field by field
spaced-last : (fields : List (List ℕ)) (field : List ℕ) → spaced (fields ++ (field ∷ [])) ≡ spaced fields ++ (32 ∷ field)
unfolding spaced
spaced-last [] field = ap (λ t. 32 ∷ t) (append-nil field)
spaced-last (f ∷ fields) field = ap (λ t. 32 ∷ t) (rw (spaced-last fields field) (sym (append_assoc f (spaced fields) (32 ∷ field))))

-- the first fields of a line are put: they have at most `most` bytes, and the room has the length that it had
pub record Begun (room : List ℕ) (at : ℕ) (first : List ℕ) (fields : List (List ℕ)) (most next : ℕ) (room' : List ℕ) : Type 0 where
  pub put : Put room at (first ++ spaced fields) next room'
  pub short : length (first ++ spaced fields) ≤ most
  pub same : length room' ≡ length room

module _ {room room' first : List ℕ} {at most p : ℕ} where
  pub begun : at + most ≤ length room → length first ≤ most → Put room at first p room' → Begun room at first [] most p room'
  unfolding spaced
  begun h short put = record {
    put = rw (append-nil first) put;
    short = rw (append-nil first) short;
    same = put-length (omega arith) put;
  }

  pub begun-with : {fields : List (List ℕ)} → at + most ≤ length room → length (first ++ spaced fields) ≤ most
      → Put room at (first ++ spaced fields) p room' → Begun room at first fields most p room'
  begun-with h short put = record { put = put; short = short; same = put-length (omega arith) put }

  module _ {fields : List (List ℕ)} (b : Begun room at first fields most p room') where
    pub room-left : (k : ℕ) → at + (most + k) ≤ length room → p + k ≤ length room'
    room-left k h = omega (arith, b.put.place, b.short, b.same)

    -- one field more
    module _ {room'' : List ℕ} {q : ℕ} where
      pub field-more : {field : List ℕ} (k : ℕ) → at + (most + suc k) ≤ length room → length field ≤ k → Put room' p (32 ∷ field) q room''
          → Begun room at first (fields ++ (field ∷ [])) (most + suc k) q room''
      field-more {field} k h short put =
          let text : first ++ spaced (fields ++ (field ∷ [])) ≡ (first ++ spaced fields) ++ (32 ∷ field) =
          ap (λ t. first ++ t) (spaced-last fields field) ∙ sym (append_assoc first (spaced fields) (32 ∷ field)) in
          let left : p + suc k ≤ length room' = room-left (suc k) h in
          record {
            put = rw text (put-more (omega (arith, b.short)) b.put put);
            short = rw (text, length-append (first ++ spaced fields) (32 ∷ field)) (omega (arith, b.short));
            same = put-length (omega arith) put ∙ b.same;
          }

      pub number_more : (n : ℕ) → at + (most + 21) ≤ length room → Put room' p (32 ∷ numeral n) q room''
          → Begun room at first (fields ++ (numeral n ∷ [])) (most + 21) q room''
      number_more n h = field-more 20 h (numeral-length n)

      -- what was passed is the number
      pub signed-more : {passed : ℤ} (z : ℤ) → passed ≡ z → at + (most + 22) ≤ length room → Put room' p (32 ∷ signed_numeral passed) q room''
          → Begun room at first (fields ++ (signed_numeral z ∷ [])) (most + 22) q room''
      signed-more z e h put = field-more 21 h (signed-length z) (rw e at put)

      pub line-ends : at + (most + 1) ≤ length room → Put room' p (10 ∷ []) q room'' → Put room at (line first fields) q room''
      line-ends h put = rw (append_assoc first (spaced fields) (10 ∷ [])) at (put-more (omega (arith, b.short)) b.put put)

-- ---- a line for each key
pub block-short : (line_of : ℕ → List ℕ) (w : ℕ) → ((k : ℕ) → length (line_of k) ≤ w) → (ns : List ℕ) → length (block line_of ns) ≤ length ns * w
unfolding block
block-short line_of w wide [] = omega arith
block-short line_of w wide (n ∷ ns) = rw (length-append (line_of n) (block line_of ns)) (omega (arith, wide n, block-short line_of w wide ns))

-- the lines of the keys before `from` are put
pub record Walked (line_of : ℕ → List ℕ) (keys : List ℕ) (room : List ℕ) (at from : ℕ) (room' : List ℕ) (next : ℕ) : Type 0 where
  pub put : Put room at (block line_of (before from (in_order keys))) next room'
  pub same : length room' ≡ length room

module _ {line_of : ℕ → List ℕ} {keys : List ℕ} where
  pub walk_begins : (room : List ℕ) (at : ℕ) → Walked line_of keys room at 0 room at
  unfolding block
  walk_begins room at = record {
    put = subst (λ ns. Put room at (block line_of ns) at room) (sym (ordered-none keys)) (put-none room at);
    same = refl;
  }

  pub walk_ends : {room room' : List ℕ} {at from next : ℕ} → Walked line_of keys room at from room' next → ((m : ℕ) → has m keys ≡ true → m < from)
      → Put room at (block line_of (in_order keys)) next room'
  walk_ends {room} {room'} {at} {from} {next} walked h =
      subst (λ ns. Put room at (block line_of ns) next room') (ordered-all keys from h) walked.put

  -- where there is room for n lines of at most w, and there are at most n keys
  module _ (w n : ℕ) (wide : (k : ℕ) → length (line_of k) ≤ w) (few : length keys ≤ n) {room room' : List ℕ} {at from next : ℕ}
      (fits : at + n * w ≤ length room) (walked : Walked line_of keys room at from room' next) (k : ℕ) (lowest : LowestIs from keys k) where
    abbrev done : List ℕ
    done = before from (in_order keys)

    rows_left : at + (length (block line_of done) + w) ≤ length room
    rows_left =
        let all : length done + 1 ≤ n = omega (
          arith,
          those-fewer (λ n. ltb n (k + 1)) (in_order keys),
          in-order-length keys,
          ap length (ordered-next keys from k lowest),
          length-append done (k ∷ []),
        ) in
        omega (arith, block-short line_of w wide done, mul-le-mul_right {m = length done + 1} {n = n} w all)

    pub walk-room : next + w ≤ length room'
    walk-room = omega (arith, rows_left, walked.put.place, walked.same)

    pub walk-next : {room'' : List ℕ} {next' : ℕ} → Put room' next (line_of k) next' room'' → Walked line_of keys room at (k + 1) room'' next'
    walk-next {room''} {next'} put =
        record {
          put = subst (λ t. Put room at t next' room'') (sym (ap (block line_of) (ordered-next keys from k lowest) ∙ block_last line_of done k))
              (put-more (omega (arith, rows_left, wide k)) walked.put put);
          same = put-length (omega (arith, walk-room, wide k)) put ∙ walked.same;
        }
