-- What was put is the value's text, and all of it is compared.
use Rattle.std.proofs.Common.{sym, ◌∙◌}
use Rattle.std.proofs.lemmas.Bool.Decides.{Decides-eqb}
use Rattle.std.proofs.lemmas.Slice.Eq.{slice_eq-Decides}
use Rattle.wording.specs.TextLaws.{value-length}
use Rattle.parsing.specs.PlaceLaws.{put-taken}
use Rattle.parsing.proofs.parts.is_value.Goals as goal

pub returns : goal.returns
returns c =
    let text = put-taken (value-length c.args.style c.args.value) c.put_value-size.ensures in
    let same = slice_eq-Decides Decides-eqb _ _ _ c.eq.ensures in
    (λ t. same.0 t ∙ text, λ e. same.1 (e ∙ sym text))
