-- A line for each kind of result: each text is cut.
use Rattle.xvalue.specs.declared.settings.Settings.{Settings}
use Rattle.xvalue.specs.declared.fun.Fun.{Fun}
use Rattle.xvalue.specs.declared.fun.Fun.TheVariants.{OfTwo, Compares, ToNumber, ToText, ToDate, ToTruth}
use Rattle.xvalue.specs.Given.{Given}
use Rattle.xvalue.specs.Functions.{applied}
use Rattle.xvalue.specs.Laws.{HasShortText}
use Rattle.xvalue.proofs.TextLemmas.{fitting_short}
use Rattle.xvalue.proofs.laws.texts_are_short.Goals as goal

has_short : (fun : Fun) (settings : Settings) (given : Given) → HasShortText (applied fun settings given)
unfolding applied
has_short (OfTwo fun) settings given = tt
has_short (Compares order) settings given = tt
has_short (ToNumber fun) settings given = tt
has_short (ToText fun) settings given = fitting_short _
has_short (ToDate fun) settings given = tt
has_short (ToTruth fun) settings given = tt

pub returns : goal.returns
returns c fun settings given = has_short fun settings given
