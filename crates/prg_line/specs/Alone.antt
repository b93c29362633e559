-- What a line says by itself, what it is to the blocks around it, and which fault it has.
use Rattle.std.specs.Prelude.{ℕ, false, List, map, length, nat_lt, Option, Some, None, Result, Ok, Err, ◌&&◌}
use Rattle.std.specs.Prelude.{if◌then◌else◌}
use Rattle.prg_expr.specs.Faults.{least, least_of, length_fault}
use Rattle.prg_expr.specs.Lexicon.{Spot, spot_word, spot_fault}
use Rattle.prg_expr.specs.Scanning.{scan}
use Rattle.prg_expr.specs.declared.fault.ParseFaultKind.{ParseFaultKind}
use Rattle.prg_expr.specs.declared.fault.ParseFaultKind.TheVariants as kind
use Rattle.prg_line.specs.declared.role.Role.{Role}
use Rattle.prg_line.specs.declared.verb.Verb.{Verb}
use Rattle.prg_line.specs.Forms.{sentence, at}
use Rattle.prg_line.specs.LineSays.{verb_begun}
use Rattle.prg_line.specs.Saying.{Saying, Nothing}
use Rattle.prg_line.specs.Verbs.{FoundVerb, role_of, ignores_rest, has_expressions}

-- the least fault of the words, where they count
abbrev pub word_fault : Verb → List Spot → Option ParseFaultKind
word_fault v spots = if ignores_rest v then None else least_of None (map spot_fault spots)

-- What the words behind the first ones say. Of a line of more than 4,096 words, which is too long anyway, a command
-- with expressions isn't read.
unfoldable pub form : ℕ → FoundVerb → Result Saying ParseFaultKind
form count f = if has_expressions f.0 && nat_lt 4096 count then Err kind.TooLong else sentence f.0 (at f.1 false)

abbrev pub saying_fault : Result Saying ParseFaultKind → Option ParseFaultKind
saying_fault (Ok s) = None
saying_fault (Err k) = Some k

-- a line with a fault says nothing
abbrev pub saying_in : Result Saying ParseFaultKind → Saying
saying_in (Ok s) = s
saying_in (Err k) = Nothing

-- the least fault of a line of so many bytes, with these words, the first of which begin this command
abbrev pub fault_with : ℕ → List Spot → FoundVerb → Option ParseFaultKind
fault_with bytes spots f =
    least (least (word_fault f.0 spots) (saying_fault (form (length (map spot_word spots)) f))) (length_fault bytes)

-- what a line of these bytes is to the blocks around it
unfoldable pub role_at : List ℕ → Role
role_at text = role_of (verb_begun (scan text)).0

-- the least fault of its words, its form and its length
unfoldable pub fault_at : List ℕ → Option ParseFaultKind
fault_at text = fault_with (length text) (scan text) (verb_begun (scan text))

-- what it says
unfoldable pub saying_at : List ℕ → Saying
saying_at text = saying_in (form (length (map spot_word (scan text))) (verb_begun (scan text)))
