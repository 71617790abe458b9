-- The first bytes, as many as the word has, are compared with it.
use Rattle.std.proofs.lemmas.Bool.Decides.{Decides-eqb}
use Rattle.std.proofs.lemmas.Slice.Eq.{starts_is}
use Rattle.parsing.proofs.parts.begins_with.Goals as goal

pub returns : goal.returns
returns c = starts_is Decides-eqb c.args.text.now c.args.word.now c.starts_with.result c.starts_with.ensures.value
