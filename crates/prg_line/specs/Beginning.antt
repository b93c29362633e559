-- What a found command stands for.
use Rattle.prg_expr.specs.Word.{words}
use Rattle.prg_line.specs.declared.verb.Found.{Found}
use Rattle.prg_line.specs.Verbs as verbs

abbrev pub found_of : Found → verbs.FoundVerb
found_of f = (f.verb, words f.rest.now)
