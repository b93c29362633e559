use Rattle.std.proofs.Common.{refl, drop, length}
use Rattle.std.proofs.lemmas.Bool.Decides.{Decides-eqb}
use Rattle.std.proofs.lemmas.Slice.Eq.{starts_is}
use Rattle.xvalue.specs.Texts.{text_begins_with}
use Rattle.xvalue.proofs.laws.equals_what_it_begins_with.Goals as goal

pub returns : goal.returns
returns c cs ds =
    let both = starts_is Decides-eqb cs ds (text_begins_with cs ds) refl in
    (λ e. (drop (length ds) cs, both.0 e), λ rest. both.1 rest.0 rest.1)
