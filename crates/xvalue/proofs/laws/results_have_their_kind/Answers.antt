-- A line for each kind of result.
use Rattle.std.proofs.Common.{◌≡◌, refl}
use Rattle.xvalue.specs.declared.settings.Settings.{Settings}
use Rattle.xvalue.specs.declared.fun.Fun.{Fun}
use Rattle.xvalue.specs.declared.fun.Fun.TheVariants.{OfTwo, Compares, ToNumber, ToText, ToDate, ToTruth}
use Rattle.xvalue.specs.Given.{Given}
use Rattle.xvalue.specs.Kinds.{kind_of}
use Rattle.xvalue.specs.Signature.{gives_of}
use Rattle.xvalue.specs.Functions.{applied}
use Rattle.xvalue.proofs.laws.results_have_their_kind.Goals as goal

has_its_kind : (fun : Fun) (settings : Settings) (given : Given) → kind_of (applied fun settings given) ≡ gives_of fun
unfolding applied
has_its_kind (OfTwo fun) settings given = refl
has_its_kind (Compares order) settings given = refl
has_its_kind (ToNumber fun) settings given = refl
has_its_kind (ToText fun) settings given = refl
has_its_kind (ToDate fun) settings given = refl
has_its_kind (ToTruth fun) settings given = refl

pub returns : goal.returns
returns c fun settings given = has_its_kind fun settings given
