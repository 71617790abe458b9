-- A start: the model's answer, and the memory of the book after it.
use Rattle.std.specs.Prelude.{◌≡◌, Bool, true, false, not, List, ℕ, ◌≤◌, ◌<◌, ℤ, length}
use Rattle.std.proofs.Common.{sym, ap, ◌∙◌, subst, lt-ltb, le-ltb}
use Rattle.lists.specs.Parts.{with_part}
use Rattle.days.specs.Days.{accepted, is_working}
use Rattle.memory.specs.declared.header_row.Header.{Header}
use Rattle.memory.specs.Layout.{header_at, with_header}
use Rattle.memory.specs.Memory.{Holds, with_header_row}
use Rattle.memory.specs.MemoryLaws.{put-header, put-exceptions, header-shaped}
use Rattle.model.specs.Book.{Book, Settings}
use Rattle.model.specs.Calls.{start}
use Rattle.model.specs.Effects.{after}
use Rattle.model.specs.Refusals.{is_started}
use Rattle.standing.specs.Standing.{header_row, rows_of, view}
use Rattle.standing.specs.Made.{Sound, Made}
use Rattle.standing.specs.StandingLaws.{refused-made, sound-holds, sound-kept}
use Rattle.standing.specs.StartLaws.{started_header, started-rows}
use Rattle.standing.specs.SoundLaws.{sound-shaped, first-passed, first-failed, none_left}
use Rattle.keeping.specs.HeaderLaws.{same-header, same_point}

module _ {c : List ℕ} {m : List ℤ} (s : Sound c m) (x : Settings) {h : Header} (loads : h ≡ header_at c) where
  abbrev book : Book
  book = view c m

  pub start-late : 0 < h.point → Made c m (start x) 3 c m
  start-late e = refused-made s (start x) 2 (first-failed 2 _ (ap not (same_point s loads ∙ lt-ltb 0 h.point e)))

  module _ (e : h.point ≤ 0) {t : Bool} (tells : t ≡ accepted (is_working x.exceptions)) where
    fresh : is_started book.today.point ≡ false
    fresh = same_point s loads ∙ le-ltb 0 h.point e

    pub start-unaccepted : t ≡ false → Made c m (start x) 18 c m
    start-unaccepted d = refused-made s (start x) 17 (first-passed 3 _ (ap not fresh) ∙ first-failed 17 _ (sym tells ∙ d))

    module _ (room : length x.exceptions ≤ 400) where
      holds-started :
          let c' = with_part 10 (length x.exceptions) (with_header c (started_header x h)) x.exceptions in
          Holds c' m (rows_of (after book (start x)))
      unfolding after
      holds-started =
          let begun = started_header x (header_row book) in
          rw (← same-header s loads)
          (subst (Holds _ _) (started-rows book x ((sound-kept s).calendar.clean fresh) room)
          (put-exceptions (with_header_row (rows_of book) begun) (header-shaped (rows_of book) (sound-shaped s) begun)
          (put-header (rows_of book) (sound-shaped s) (sound-holds s) begun) x.exceptions room))

      pub started-made : {c₁ c' : List ℕ} → t ≡ true → c₁ ≡ with_header c (started_header x h)
          → c' ≡ with_part 10 (length x.exceptions) c₁ x.exceptions → Made c m (start x) 0 c' m
      started-made d heads writes =
          rw (writes, heads)
          (record {
            answers = sym (first-passed 3 _ (ap not fresh) ∙ first-passed 18 _ (sym tells ∙ d) ∙ none_left);
            memory = holds-started;
          })
