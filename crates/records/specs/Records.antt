-- A record as bytes: document 01, 'Event records'.
use Rattle.std.specs.Prelude.{cond, List, ◌∷◌, ◌++◌, ℕ, ltb}
use Rattle.numbers.specs.Seven.{decode}
use Rattle.numbers.specs.Several.{write_of, on_got, on_some, many}
use Rattle.fields.specs.Fields.{known, count, announced}

-- "A record is a kind and its fields": for a start, as many exceptions as its third field says come after these
pub record Entry : Type 0 where
  pub kind : ℕ
  pub fields : List ℕ
  pub exceptions : List ℕ

abbrev pub entry : ℕ → List ℕ → List ℕ → Entry
entry k f x = record { kind = k; fields = f; exceptions = x }

-- "Every number is in groups of seven bits": the record's numbers, one after the other
unfoldable pub writing : Entry → List ℕ
writing e = write_of (e.kind ∷ (e.fields ++ e.exceptions))

-- a record and the bytes after it, or nothing
pub data Parsed : Type 0 where
  unread : Parsed
  parsed : Entry → List ℕ → Parsed

-- "over 400 exceptions" is refused
abbrev pub read_exceptions : ℕ → List ℕ → List ℕ → Parsed
read_exceptions kind fields s =
    cond (ltb 400 (announced kind fields)) unread
    (on_some (many (announced kind fields) s) unread λ exceptions rest. parsed (entry kind fields exceptions) rest)

-- "unknown kind" is refused; a known one has its count of fields
abbrev pub read_fields : ℕ → List ℕ → Parsed
read_fields kind s = cond (known kind) (on_some (many (count kind) s) unread λ fields rest. read_exceptions kind fields rest) unread

-- the record at the start of some bytes
unfoldable pub reading : List ℕ → Parsed
reading s = on_got (decode s) unread λ kind rest. read_fields kind rest
