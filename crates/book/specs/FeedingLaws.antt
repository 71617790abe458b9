-- What feeding and running rest on: the record that was read is called, and a file's records are called one after the other.
use Rattle.std.proofs.Math.Path.{◌≡◌, refl, sym, ap, subst}
use Rattle.std.proofs.Common.{ap₂, ◌∙◌, zero-le, drop_of_length-le, le-ltb}
use mathlib.Core.List.{List, [], ◌∷◌, reverse, reverse_aux}
use Rattle.std.specs.Prelude.{ℕ, ◌-◌, ◌≤◌, ◌<◌, ℤ, Ok, Err}
use native.Mathlib.Omega.{arith}
use Rattle.std.proofs.Math.ListN.{length, drop}
use Rattle.numbers.specs.Below.{Small}
use Rattle.numbers.specs.Seven.{unbounded}
use Rattle.decoding.specs.Place.{stored_from}
use Rattle.decoding.specs.PlaceLaws.{end-here}
use Rattle.fields.specs.Fields.{announced}
use Rattle.records.specs.declared.Malformed.{Malformed}
use Rattle.records.specs.declared.Record.{Record}
use Rattle.records.specs.Records.{Entry, entry, Parsed, unread, parsed, reading}
use Rattle.records.specs.RecordLaws.{reading-writing}
use Rattle.records.specs.Reading.{placed, reading_at}
use Rattle.records.specs.ReadingLaws.{announced-padded, Stands, lies, reads_on}
use Rattle.records.specs.Files.{writings, AllWhole, nothing-there}
use Rattle.memory.specs.Memory.{Holds}
use Rattle.model.specs.Book.{new}
use Rattle.model.specs.History.{run_from, run}
use Rattle.model.proofs.KeptLaws.{kept_new, known}
use Rattle.standing.specs.Standing.{rows_of, view}
use Rattle.standing.specs.Made.{Sound}
use Rattle.standing.specs.StandingLaws.{sound-of}
use Rattle.book.specs.declared.calls.Answer.{Answer}
use Rattle.book.specs.declared.bytes.Fed.{Fed}
use Rattle.book.specs.Called.{Called}
use Rattle.book.specs.CalledLaws.{next-holds}
use Rattle.book.specs.Padding.{same-called, same_answer}
use Rattle.book.specs.Feeding.{on_to, bad_at, FedBy, FedAt, ReadsTo, Ran}

-- ---- a record that was read
pub read-stands : {s : List ℕ} {at : ℕ} → Small s → (r : Record) → Ok r ≡ reading_at s at → Stands s at r.next r.kind r.fields r.more
read-stands {s} {at} small r e = reads_on s at small r.next r.kind r.fields r.more (sym e)

module _ {s : List ℕ} {at next kind place : ℕ} {fields : List ℕ} (t : Stands s at next kind fields place) where
  announced-long : length t.exceptions ≡ announced kind fields
  announced-long = t.lies.whole.more ∙ sym (announced-padded kind t.own) ∙ ap (announced kind) (sym t.row)

  pub announced-few : announced kind fields ≤ 400
  announced-few = subst (λ n. n ≤ 400) (sym t.lies.whole.more ∙ announced-long) t.lies.whole.few

  reads-there : reading (drop at s) ≡ parsed (entry kind t.own t.exceptions) (drop next s)
  reads-there = ap reading t.lies.bytes ∙ reading-writing (entry kind t.own t.exceptions) (drop next s) t.lies.whole

  module _ {counts counts' : List ℕ} {money money' : List ℤ} {a : Answer} where
    record-called : Called counts money (entry kind fields t.exceptions) a counts' money'
        → Called counts money (entry kind t.own t.exceptions) a counts' money'
    record-called h =
        let b = view counts money in
        let g = subst (λ f. Called counts money (entry kind f t.exceptions) a counts' money') t.row h in
        let same = same-called kind t.own t.exceptions t.lies.whole b in
        record {
          answers = g.answers ∙ same_answer kind t.own t.exceptions t.lies.whole b;
          memory = subst (λ v. Holds counts' money' (rows_of v)) same g.memory;
          views = g.views ∙ same;
          sound = g.sound;
        }

    -- its exceptions were stored in room for as many
    pub fed-next : (room : List ℕ) → length room ≡ announced kind fields
        → Called counts money (entry kind fields (stored_from s place room).room) a counts' money'
        → FedAt s at counts money (on_to next a) counts' money'
    fed-next room e h =
        let before = t.lies.before in
        let inside = t.lies.inside in
        let stored : (stored_from s place room).room ≡ t.exceptions =
        rw (le-ltb (length s) place (omega arith), e ∙ sym announced-long, t.lies.there) in
        let g = subst (λ x. Called counts money (entry kind fields x) a counts' money') stored h in
        record {
          outcome = subst (λ p. FedBy p s at counts money (on_to next a) counts' money') (sym reads-there)
              (a, (ap (λ n. on_to n a) (sym (end-here s next inside)), record-called g));
        }

pub fed-none : (s : List ℕ) (at : ℕ) (bad : Malformed) (counts : List ℕ) (money : List ℤ) → Err bad ≡ reading_at s at
    → FedAt s at counts money (Err bad) counts money
fed-none s at bad counts money e = record { outcome = go (reading (drop at s)) e }
  where
    go : (g : Parsed) → Err bad ≡ placed s at g → FedBy g s at counts money (Err bad) counts money
    go unread q = let e : bad.at ≡ at = cc in (ap bad_at e, (refl, refl))
    go (parsed e rest) q = let z : ◌≡◌ {A = ℕ} 0 1 = cc in absurd (omega arith)

-- ---- a file
-- the records before a place were called, the latest first, and those of the file are they and then those of what is left
pub record Running (bytes : List ℕ) (place : ℕ) (counts : List ℕ) (money : List ℤ) : Type 0 where
  pub history : List Entry
  pub inside : place ≤ length bytes
  pub holds : Holds counts money (rows_of (run history))
  pub goes_on : (more : List Entry) (left : List ℕ) → ReadsTo (drop place bytes) more left
      → (entries : List Entry) × (ReadsTo bytes entries left × (reverse entries ≡ reverse_aux more history))

pub run-starts : (bytes : List ℕ) {counts : List ℕ} {money : List ℤ} → Holds counts money (rows_of new) → Running bytes 0 counts money
unfolding run_from
run-starts bytes h = record { history = []; inside = zero-le; holds = h; goes_on = λ more left r. (more, (r, refl)) }

module _ {bytes : List ℕ} {place : ℕ} {counts : List ℕ} {money : List ℤ} (g : Running bytes place counts money) where
  pub running-sound : Sound counts money
  running-sound = sound-of (known g.history) g.holds

  pub run_step : {fed : Fed} {counts' : List ℕ} {money' : List ℤ} → Small bytes
      → FedAt bytes place counts money (Ok fed) counts' money' → (place < fed.next) × Running bytes fed.next counts' money'
  unfolding ReadsTo
  run_step {fed} {counts'} {money'} small f = go (reading (drop place bytes)) refl f.outcome
    where
      go : (p : Parsed) → reading (drop place bytes) ≡ p → FedBy p bytes place counts money (Ok fed) counts' money'
          → (place < fed.next) × Running bytes fed.next counts' money'
      go unread i (q, same) = let z : ◌≡◌ {A = ℕ} 0 1 = cc in absurd (omega arith)
      go (parsed e rest) i (b, (q, h)) =
          let k = length bytes - length rest in
          let n : k ≡ fed.next = cc in
          let l = lies bytes place small e.kind e.fields e.exceptions rest i in
          let there : parsed e rest ≡ parsed e (drop k bytes) = sym i ∙ ap reading l.bytes ∙ reading-writing e (drop k bytes) l.whole in
          let left : drop k bytes ≡ rest = cc in
          let on = l.on in
          let before = l.before in
          subst (λ j. (place < j) × Running bytes j counts' money') n (
            omega arith,
            record {
              history = e ∷ g.history;
              inside = omega arith;
              holds = next-holds kept_new e g.history g.holds h.memory;
              goes_on = λ more end r. g.goes_on (e ∷ more) end (rest, (i, subst (λ z. ReadsTo z more end) left r));
            },
          )

  pub run_ends : reading (drop place bytes) ≡ unread → Ran bytes place counts money
  unfolding ReadsTo
  run_ends u =
      let f = g.goes_on [] (drop place bytes) (refl, u) in
      record {
        entries = f.0;
        reads = f.1.0;
        inside = g.inside;
        memory = subst (λ h. Holds counts money (rows_of (run h))) (sym f.1.1) g.holds;
      }

  -- a place at which no record can be read ends the run
  pub run-refused : {bad : Malformed} {counts' : List ℕ} {money' : List ℤ} → FedAt bytes place counts money (Err bad) counts' money'
      → Ran bytes place counts' money'
  run-refused {bad} {counts'} {money'} f = go (reading (drop place bytes)) refl f.outcome
    where
      go : (p : Parsed) → reading (drop place bytes) ≡ p → FedBy p bytes place counts money (Err bad) counts' money'
          → Ran bytes place counts' money'
      go unread i (q, (c, m)) = rw (c, m) (run_ends i)
      go (parsed e rest) i (a, (q, h)) = let z : ◌≡◌ {A = ℕ} 0 1 = cc in absurd (omega arith)

-- past the end no record can be read
pub none_left : (s : List ℕ) (place : ℕ) → length s ≤ place → reading (drop place s) ≡ unread
unfolding reading unbounded
none_left s place h = rw (drop_of_length-le s h)

-- what was written of records reads to its end as just these
pub reads-written : (l : List Entry) → AllWhole l → (entries : List Entry) (left : List ℕ) → ReadsTo (writings l) entries left → entries ≡ l
unfolding ReadsTo writings AllWhole
reads-written [] w [] left r = refl
reads-written [] w (e ∷ more) left (rest, (q, r)) = absurd (nothing-there e rest q)
reads-written (m ∷ l) (w, ws) [] left (q, r) =
    let t : unread ≡ parsed m (writings l) = sym r ∙ reading-writing m (writings l) w in
    let z : ◌≡◌ {A = ℕ} 0 1 = cc in
    absurd (omega arith)
reads-written (m ∷ l) (w, ws) (e ∷ more) left (rest, (q, r)) =
    let t : parsed e rest ≡ parsed m (writings l) = sym q ∙ reading-writing m (writings l) w in
    let first : e ≡ m = cc in
    let left_over : rest ≡ writings l = cc in
    ap₂ (λ (x : Entry) (xs : List Entry). x ∷ xs) first (reads-written l ws more left (subst (λ s. ReadsTo s more left) left_over r))
