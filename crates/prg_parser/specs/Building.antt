-- The lines of a program that is being put together.
use Rattle.std.specs.Prelude.{ℕ, Bool, true, false, List, [], ◌∷◌, ◌++◌, map, option_map, ◌≡◌}
use Rattle.prg_expr.specs.Tree.{tree_of}
use Rattle.prg_parser.specs.declared.blocks.Part.{Part}
use Rattle.prg_parser.specs.declared.blocks.Place.{Place}
use Rattle.prg_parser.specs.declared.blocks.Place.TheVariants as place
use Rattle.prg_parser.specs.declared.builder.Open.{Open}
use Rattle.prg_parser.specs.declared.builder.Open.TheVariants as begun
use Rattle.prg_parser.specs.declared.builder.OpenBlock.{OpenBlock}
use Rattle.prg_parser.specs.declared.builder.Current.{Current}
use Rattle.prg_parser.specs.declared.builder.Current.TheVariants.{Commands, DoCase}
use Rattle.prg_parser.specs.declared.builder.Finished.{Finished}
use Rattle.prg_parser.specs.declared.builder.Finished.TheVariants.{Nothing, Main}
use Rattle.prg_parser.specs.declared.builder.Builder.{Builder}
use Rattle.prg_parser.specs.declared.builder.Choice.{Choice}
use Rattle.std.specs.Global.{Vec}
use Rattle.prg_parser.specs.Blocks.{parts_after, innermost, divide_at}
use Rattle.prg_line.specs.Saying.{Saying, line, role_of}
use Rattle.prg_line.specs.Saying as saying
use Rattle.prg_parser.specs.Layout.{Lines, all_of, body_lines, cases_lines, procedures_lines, lines_of_saying}

-- the lines of an open block that begins in this line, up to the one that begins its innermost part
abbrev pub head_lines : ℕ → Open → Lines
head_lines n (begun.Then e) = line n (saying.If (tree_of e)) ∷ []
head_lines n (begun.Else e then at) =
    line n (saying.If (tree_of e)) ∷ (body_lines then.items ++ line at saying.Else ∷ [])
head_lines n (begun.Case cases at e) =
    line n saying.DoCase ∷ (cases_lines cases.items ++ line at (saying.Case (tree_of e)) ∷ [])
head_lines n (begun.Otherwise cases at) =
    line n saying.DoCase ∷ (cases_lines cases.items ++ line at saying.Otherwise ∷ [])
head_lines n (begun.While e) = line n (saying.DoWhile (tree_of e)) ∷ []
head_lines n (begun.Scan e) = line n (saying.Scan (option_map tree_of e)) ∷ []

-- what ends the block
abbrev pub block_ending : Open → Saying
block_ending (begun.Then e) = saying.EndIf
block_ending (begun.Else e then at) = saying.EndIf
block_ending (begun.Case cases at e) = saying.EndCase
block_ending (begun.Otherwise cases at) = saying.EndCase
block_ending (begun.While e) = saying.EndDo
block_ending (begun.Scan e) = saying.EndScan

-- whether a saying ends a block
abbrev pub is_ending : Saying → Bool
is_ending saying.EndIf = true
is_ending saying.EndCase = true
is_ending saying.EndDo = true
is_ending saying.EndScan = true
is_ending _ = false

abbrev pub place_of_open : Open → Place
place_of_open (begun.Then e) = place.InThen
place_of_open (begun.Else e then at) = place.InElse
place_of_open (begun.Case cases at e) = place.InCase
place_of_open (begun.Otherwise cases at) = place.InOtherwise
place_of_open (begun.While e) = place.InWhile
place_of_open (begun.Scan e) = place.InScan

-- the lines of the commands before an open block, and its own up to the one that begins its innermost part
abbrev pub open_lines : OpenBlock → Lines
open_lines b = body_lines b.before.items ++ head_lines b.line b.head

abbrev pub opens_lines : List OpenBlock → Lines
opens_lines blocks = all_of (map open_lines blocks)

abbrev pub current_lines : Current → Lines
current_lines (Commands commands) = body_lines commands.items
current_lines (DoCase n before) = body_lines before.items ++ line n saying.DoCase ∷ []

-- the lines before the commands of the main part or of the procedure that is being read
abbrev pub finished_lines : Finished → Lines
finished_lines Nothing = []
finished_lines (Main main procedures n name) =
    (body_lines main.items ++ procedures_lines procedures.items) ++ line n (saying.Procedure name.items) ∷ []

-- the lines that were taken so far
abbrev pub built_lines : Builder → Lines
built_lines b = finished_lines b.finished ++ (opens_lines b.blocks.items ++ current_lines b.current)

abbrev pub part_of_block : OpenBlock → Part
part_of_block b = record { place = place_of_open b.head; line = b.line }

-- the part behind a DO CASE whose first CASE is awaited
abbrev pub awaited : Current → List Part
awaited (Commands commands) = []
awaited (DoCase n before) = (record { place = place.BeforeCases; line = n }) ∷ []

-- the parts of the blocks that are open
abbrev pub built_parts : Builder → List Part
built_parts b = map part_of_block b.blocks.items ++ awaited b.current

-- a line was taken: its saying comes behind the lines before, and the open parts are those behind it
pub record Took (before : Builder) (n : ℕ) (s : Saying) (after : Builder) : Type 0 where
  pub lines : built_lines after ≡ built_lines before ++ lines_of_saying n s
  pub parts : built_parts after ≡ parts_after (built_parts before) n (role_of s)

-- the innermost block is a DO CASE, whose cases are all ended
pub record IsChoice (blocks : Vec OpenBlock) (current : Current) (c : Choice) : Type 0 where
  pub lines : opens_lines blocks.items ++ current_lines current
      ≡ opens_lines c.blocks.items
      ++ (body_lines c.before.items ++ line c.line saying.DoCase ∷ cases_lines c.cases.items)
  -- the block goes on with another part
  pub parts : (next : Place)
      → divide_at (map part_of_block blocks.items ++ awaited current)
      (innermost (map part_of_block blocks.items ++ awaited current)) next
      ≡ map part_of_block c.blocks.items ++ (record { place = next; line = c.line }) ∷ []
