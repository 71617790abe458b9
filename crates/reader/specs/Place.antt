-- A reader's place in the file: where it stands after a record, and what is left from there on.
use Rattle.std.specs.Prelude.{ℕ, List, drop, Result, Ok, Err}
use Rattle.records.specs.declared.Malformed.{Malformed}
use Rattle.records.specs.declared.Record.{Record}
use Rattle.reader.specs.declared.Reader.{Reader}

-- "A refusal returns its number, for 1 also the place of the first byte of the record, and changes nothing": the place
-- after a record that was read, and the same place where it was refused
abbrev pub place_after : Result Record Malformed → ℕ → ℕ
place_after (Ok found) place = found.next
place_after (Err bad) place = place

-- "a reader that holds the file's bytes and its place together": after a record it holds the same bytes, at the place after it
abbrev pub moved_on : Reader → Result Record Malformed → Reader
moved_on r found = record { bytes = r.bytes; place = place_after found r.place }

-- "The rest of the file is handed on as a part of the same bytes": none where the place is past the end
abbrev pub rest_from : List ℕ → ℕ → List ℕ
rest_from bytes place = drop place bytes
