-- A record whose fields were read is called with as many exceptions as it announces, read from a place on.
use Rattle.std.specs.Prelude.{◌≡◌, List, ℕ, ℤ, length}
use Rattle.decoding.specs.Place.{stored_from}
use Rattle.records.specs.Records.{entry}
use Rattle.book.specs.declared.calls.Answer.{Answer}
use Rattle.book.specs.Called.{Called}

pub record CalledFrom (bytes : List ℕ) (place count kind : ℕ) (fields : List ℕ) (counts : List ℕ) (money : List ℤ) (r : Answer) (counts' : List ℕ) (money' : List ℤ) : Type 0 where
  pub list : List ℕ
  pub long : length list ≡ count
  pub called : Called counts money (entry kind fields (stored_from bytes place list).room) r counts' money'
