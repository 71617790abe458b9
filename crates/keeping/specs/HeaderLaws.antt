-- What the header that a call reads tells of the book.
use Rattle.std.specs.Prelude.{◌≡◌, List, ℕ, ltb, ℤ}
use Rattle.std.proofs.Common.{sym, ap, ◌∙◌}
use Rattle.memory.specs.declared.header_row.Header.{Header}
use Rattle.memory.specs.Layout.{header_at}
use Rattle.model.specs.Refusals.{is_started}
use Rattle.standing.specs.Standing.{header_row, view}
use Rattle.standing.specs.Made.{Sound}
use Rattle.standing.specs.SoundLaws.{sound-header}

module _ {c : List ℕ} {m : List ℤ} (s : Sound c m) {h : Header} (loads : h ≡ header_at c) where
  pub same-header : header_row (view c m) ≡ h
  same-header = sym (loads ∙ sound-header s)

  pub same_point : is_started (view c m).today.point ≡ ltb 0 h.point
  same_point = ap (λ (x : Header). ltb 0 x.point) same-header
