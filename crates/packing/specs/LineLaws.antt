-- The line of a record that was read: it is put in its shape, how long it is, and where it brings the reader.
use Rattle.std.specs.Prelude.{◌≡◌, refl, true, List, [], ◌∷◌, ℕ, ◌+◌, ◌-◌, ◌≤◌, ◌<◌, length, take, drop, replicate, Some, None, Result, Ok, Err}
use Rattle.std.specs.Result.{result_ok}
use Rattle.std.proofs.Common.{sym, ap, ◌∙◌, subst, arith, length-append, take_at, take_all, le-ltb}
use Rattle.numbers.specs.Below.{Small}
use Rattle.decoding.specs.Place.{stored_from}
use Rattle.decoding.specs.PlaceLaws.{end-here}
use Rattle.fields.specs.Fields.{count, announced, shaped}
use Rattle.records.specs.declared.Malformed.{Malformed}
use Rattle.records.specs.declared.Record.{Record}
use Rattle.records.specs.Records.{Entry, entry, Parsed, unread, parsed, reading}
use Rattle.records.specs.RecordLaws.{Whole, reading-writing}
use Rattle.records.specs.Reading.{padded, placed, reading_at}
use Rattle.records.specs.ReadingLaws.{announced-padded, Stands, lies, reads_on}
use Rattle.records.specs.WritingLaws.{row-shaped}
use Rattle.decimal.specs.Put.{Put}
use Rattle.wording.specs.Text.{record_text}
use Rattle.wording.specs.TextLaws.{record-length}
use Rattle.packing.specs.Lines.{line_of, LineBy, LineOf}

-- ---- a record that a reader takes
module _ (e : Entry) (w : Whole e) where
  abbrev row : Entry
  row = entry e.kind (padded e.fields) e.exceptions

  -- zeros after its fields do not change its line
  pub same_line : line_of row ≡ line_of e
  same_line =
      let n = count e.kind in
      let own : take n (padded e.fields) ≡ e.fields = take_at e.fields (replicate (13 - length e.fields) 0) n w.sized in
      let all : take n e.fields ≡ e.fields = take_all n e.fields (omega (arith, w.sized)) in
      rw (own, all)

  pub line-length : length (line_of e) ≤ 8915
  line-length =
      let text = record_text e.kind (padded e.fields) e.exceptions in
      let most = record-length e.kind (padded e.fields) e.exceptions (row-shaped e w) in
      omega (arith, most, length-append text (10 ∷ []), ap length same_line)

-- ---- the record at a place
found-ok : (found : Result Record Malformed) (r : Record) → Some r ≡ result_ok found → found ≡ Ok r
found-ok (Ok x) r e = cc
found-ok (Err bad) r e = cc

pub read-stands : {s : List ℕ} {at : ℕ} → Small s → (r : Record) → Some r ≡ result_ok (reading_at s at) → Stands s at r.next r.kind r.fields r.more
read-stands {s} {at} small r e = reads_on s at small r.next r.kind r.fields r.more (found-ok (reading_at s at) r e)

module _ {s : List ℕ} {at next kind place : ℕ} {fields : List ℕ} (t : Stands s at next kind fields place) where
  abbrev its : Entry
  its = entry kind t.own t.exceptions

  announced-long : length t.exceptions ≡ announced kind fields
  announced-long = t.lies.whole.more ∙ sym (announced-padded kind t.own) ∙ ap (announced kind) (sym t.row)

  pub announced-few : announced kind fields ≤ 400
  announced-few = omega (arith, t.lies.whole.few, t.lies.whole.more, announced-long)

  -- room for the exceptions announced gives it its shape
  pub stands-shaped : {n : ℕ} → n ≡ announced kind fields → shaped kind fields n ≡ true
  stands-shaped e =
      ap (shaped kind fields) (e ∙ sym announced-long)
      ∙ ap (λ f. shaped kind f (length t.exceptions)) t.row
      ∙ row-shaped its t.lies.whole

  reads-there : reading (drop at s) ≡ parsed its (drop next s)
  reads-there = ap reading t.lies.bytes ∙ reading-writing its (drop next s) t.lies.whole

  -- its exceptions were stored in room for as many
  pub line-next : {room room' : List ℕ} {used after : ℕ} (list : List ℕ) → length list ≡ announced kind fields
      → Put room used (line_of (entry kind fields (stored_from s place list).room)) after room' → LineOf s at room used (Some (next, after)) room'
  line-next {room} {room'} {used} {after} list e put =
      let before = t.lies.before in
      let inside = t.lies.inside in
      let stored : (stored_from s place list).room ≡ t.exceptions =
      rw (le-ltb (length s) place (omega arith), e ∙ sym announced-long, t.lies.there) in
      let line : line_of (entry kind fields (stored_from s place list).room) ≡ line_of its =
      ap (λ x. line_of (entry kind fields x)) stored ∙ ap (λ f. line_of (entry kind f t.exceptions)) t.row ∙ same_line its t.lies.whole in
      record {
        outcome = subst (λ p. LineBy p s room used (Some (next, after)) room') (sym reads-there)
            (after, (ap (λ n. Some (n, after)) (sym (end-here s next inside)), subst (λ l. Put room used l after room') line put));
      }

pub line-none : (s : List ℕ) (at : ℕ) (room : List ℕ) (used : ℕ) → None ≡ result_ok (reading_at s at) → LineOf s at room used None room
line-none s at room used e = record { outcome = go (reading (drop at s)) e }
  where
    go : (g : Parsed) → None ≡ result_ok (placed s at g) → LineBy g s room used None room
    go unread q = (refl, refl)
    go (parsed e rest) q = let z : ◌≡◌ {A = ℕ} 0 1 = cc in absurd (omega arith)

-- ---- a line brings the reader on, and the text is longer by at most the longest line
pub record Further (end at used next after : ℕ) : Type 0 where
  pub on : at < next
  pub inside : next ≤ end
  pub text : after ≤ used + 8915

pub line-further : {s room room' : List ℕ} {at used next after : ℕ} → Small s → LineOf s at room used (Some (next, after)) room'
    → Further (length s) at used next after
line-further {s} {room} {room'} {at} {used} {next} {after} small h = go (reading (drop at s)) refl h.outcome
  where
    go : (g : Parsed) → reading (drop at s) ≡ g → LineBy g s room used (Some (next, after)) room' → Further (length s) at used next after
    go unread i (q, same) = let z : ◌≡◌ {A = ℕ} 0 1 = cc in absurd (omega arith)
    go (parsed e rest) i (a, (q, put)) =
        let l = lies s at small e.kind e.fields e.exceptions rest i in
        let both : ◌≡◌ {A = ℕ × ℕ} (length s - length rest, a) (next, after) = cc in
        let n : length s - length rest ≡ next = ap (λ k. k.0) both in
        let m : a ≡ after = ap (λ k. k.1) both in
        let long = line-length e l.whole in
        record {
          on = omega (arith, l.on, l.before, n);
          inside = omega (arith, l.inside, n);
          text = omega (arith, put.place, m, long);
        }
