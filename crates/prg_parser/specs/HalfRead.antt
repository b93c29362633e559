-- A file of which some lines are read.
use Rattle.std.specs.Prelude.{◌≡◌, ℕ, List, [], ◌∷◌, ◌++◌, map, Option, None}
use Rattle.prg_line.specs.Alone.{saying_at}
use Rattle.prg_line.specs.Saying.{Saying}
use Rattle.prg_parser.specs.declared.blocks.Part.{Part}
use Rattle.prg_parser.specs.declared.builder.Builder.{Builder}
use Rattle.prg_parser.specs.declared.judging.LineMark.{LineMark}
use Rattle.prg_parser.specs.declared.program.Program.{Program}
use Rattle.prg_parser.specs.Building.{Took, built_lines, built_parts}
use Rattle.prg_parser.specs.Files.{numbers}
use Rattle.prg_parser.specs.Layout.{program_lines, said_lines}
use Rattle.prg_parser.specs.Lines.{Joined}
use Rattle.prg_parser.specs.Marks.{line_mark}
use Rattle.prg_parser.specs.Verdict.{verdict}

-- what joined lines say
abbrev pub sayings : List Joined → List Saying
sayings lines = map (λ line. saying_at line.text) lines

-- One line is passed: it leads from open parts, the first block that was left open, and what was put together, to the
-- same behind it. The fault that is told of all lines is that of the others. Where no block was left open, what the
-- line says is taken, and the blocks that are open in what was put together are those that are open.
pub record Passes (parts : List Part) (unended : Option ℕ) (builder : Builder) (line : Joined) (next : List Part)
    (unended_then : Option ℕ) (built : Builder) : Type 0 where
  pub fault : (others : List LineMark)
      → verdict parts unended (line_mark line ∷ others) ≡ verdict next unended_then others
  pub before : unended_then ≡ None → unended ≡ None
  pub taken : unended_then ≡ None → built_parts builder ≡ parts → Took builder line.first (saying_at line.text) built
  pub opened : unended_then ≡ None → built_parts builder ≡ parts → built_parts built ≡ next

-- Of these lines, some are left. The fault that is told of all of them is that of those that are left. Where no block
-- was left open, what was put together are the lines that aren't left.
pub record IsHalfRead (lines left : List Joined) (parts : List Part) (unended : Option ℕ) (builder : Builder)
    : Type 0 where
  pub fault : verdict parts unended (map line_mark left) ≡ verdict [] None (map line_mark lines)
  pub opened : unended ≡ None → built_parts builder ≡ parts
  pub said : unended ≡ None
      → built_lines builder ++ said_lines (numbers left) (sayings left) ≡ said_lines (numbers lines) (sayings lines)

-- Behind the last line no block is open, and the program is what was put together.
pub record Ended (parts : List Part) (unended : Option ℕ) (builder : Builder) (program : Program) : Type 0 where
  pub faultless : verdict parts unended [] ≡ None
  pub none_left : unended ≡ None
  pub unnamed : program.name.items ≡ []
  pub laid_out : built_parts builder ≡ parts → program_lines program ≡ built_lines builder
