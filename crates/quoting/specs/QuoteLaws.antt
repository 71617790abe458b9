-- A quote's refusals, in document 01's order, and the memory after an accepted one.
use Rattle.std.specs.Prelude.{◌≡◌, true, false, List, ℕ, ◌<◌, leb, ℤ}
use Rattle.std.proofs.Common.{sym, ap, ◌∙◌, subst, arith}
use Rattle.tallies.specs.Bounds.{Sound as SoundTally}
use Rattle.memory.specs.declared.header_row.Header.{Header}
use Rattle.memory.specs.declared.contract_rows.Contract.{Contract}
use Rattle.memory.specs.Layout.{header_at, with_header, contract_at, with_contract_counts, with_contract_money}
use Rattle.memory.specs.Memory.{Holds}
use Rattle.memory.specs.MemoryLaws.{contract-is}
use Rattle.model.specs.Book.{Book, is_listed}
use Rattle.model.specs.Calls.{Quote, quote}
use Rattle.model.specs.Effects.{quoted, after}
use Rattle.model.specs.Refusals.{first_of, is_open, in_hours}
use Rattle.model.proofs.KeptLaws.{kept-few}
use Rattle.standing.specs.Standing.{contract_row, rows_of, view}
use Rattle.standing.specs.Made.{Sound, Made}
use Rattle.standing.specs.StandingLaws.{refused-made, sound-kept, sound-holds}
use Rattle.standing.specs.MemberLaws.{listed-row}
use Rattle.standing.specs.SoundLaws.{sound-shaped, sound-header}
use Rattle.standing.specs.DealLaws.{Stands, quoted-contract, quoted-rows}
use Rattle.hours.specs.Searched.{has_here}
use Rattle.hours.specs.Clocked.{clocked, rows_written}
use Rattle.quoting.specs.Quotes.{has_room, quoted_row}

module _ {c : List ℕ} {m : List ℤ} (s : Sound c m) (q : Quote) where
  abbrev book : Book
  book = view c m

  -- ---- the tests
  pub shut : is_open book.today.point ≡ false → Made c m (quote q) 3 c m
  unfolding first_of
  shut e = refused-made s (quote q) 2 (rw e)

  module _ (live : is_open book.today.point ≡ true) where
    pub unlisted : is_listed book q.code ≡ false → Made c m (quote q) 8 c m
    unfolding first_of
    unlisted e = refused-made s (quote q) 7 (rw (live, e))

    module _ {k : ℕ} (row : Stands book.contracts.codes q.code k) where
      pub out-of-hours : in_hours q.time ≡ false → Made c m (quote q) 10 c m
      unfolding first_of
      out-of-hours e = refused-made s (quote q) 9 (rw (live, has_here row, e))

      module _ (hours : in_hours q.time ≡ true) where
        pub too-early : leb book.today.clock q.time ≡ false → Made c m (quote q) 9 c m
        unfolding first_of
        too-early e = refused-made s (quote q) 8 (rw (live, has_here row, hours, e))

        module _ (clock : leb book.today.clock q.time ≡ true) where
          pub full : has_room (book.contracts.tally q.code) q.time q.side ≡ false → Made c m (quote q) 16 c m
          unfolding first_of
          full e = refused-made s (quote q) 15 (rw (live, has_here row, hours, clock, e))

          pub done : {c' : List ℕ} {m' : List ℤ} → has_room (book.contracts.tally q.code) q.time q.side ≡ true
              → Holds c' m' (rows_of (quoted book q)) → Made c m (quote q) 0 c' m'
          unfolding first_of after
          done e h = record { answers = rw (live, has_here row, hours, clock, e); memory = h }

  -- ---- what is loaded and stored
  module _ {k : ℕ} (row : Stands book.contracts.codes q.code k) where
    pub row_small : k < 6
    row_small = omega (arith, row.below, kept-few (sound-kept s))

    pub contract-in : contract_at c m k ≡ contract_row book q.code
    contract-in =
        contract-is (rows_of book) (sound-shaped s) (sound-holds s) k row_small
        ∙ listed-row (sound-kept s) k row.below
        ∙ ap (contract_row book) row.here

    pub tally-sound : {x : Contract} → x ≡ contract_at c m k → SoundTally x.tally
    tally-sound e = rw (e ∙ contract-in) ((sound-kept s).sized.contracts.tallies q.code)

    pub written : {c' : List ℕ} {m' : List ℤ} {x : Contract} {h : Header} → x ≡ contract_at c m k → h ≡ header_at c
        → c' ≡ with_contract_counts (with_header c (clocked h q.time h.trades)) k (quoted_row x q)
        → m' ≡ with_contract_money m k (quoted_row x q) → Holds c' m' (rows_of (quoted book q))
    written {c'} {m'} e f u v =
        subst (Holds c' m') (quoted-rows q (sound-kept s) row)
        (rows_written (rows_of book) (sound-shaped s) (sound-holds s) row_small
        (ap (λ x. quoted_row x q) (e ∙ contract-in) ∙ sym (quoted-contract q (sound-kept s) row))
        (ap (λ (h : Header). clocked h q.time h.trades) (f ∙ sound-header s))
        u v)
