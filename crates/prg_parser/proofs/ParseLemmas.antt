-- What the reading of a whole file tells.
use Rattle.std.proofs.Common.{◌≡◌, ℕ, List, [], None, length, sym, ◌∙◌}
use Rattle.prg_expr.specs.declared.fault.ParseRefusal.{ParseRefusal}
use Rattle.prg_expr.specs.declared.fault.ParseRefusal.TheVariants.{Fault, Memory}
use Rattle.prg_expr.specs.Faults.{OnFault, Tells}
use Rattle.prg_line.specs.Saying.{Saying}
use Rattle.prg_parser.specs.Files.{LinesFit, IsProgramOf}
use Rattle.prg_parser.specs.HalfRead.{Ended, IsHalfRead}
use Rattle.prg_parser.specs.Lines.{before_end, joined_lines}
use Rattle.prg_parser.specs.Marks.{marks}
use Rattle.prg_parser.specs.Verdict.{NamesLine, verdict}
use Rattle.prg_parser.specs.declared.blocks.Part.{Part}
use Rattle.prg_parser.specs.declared.builder.Builder.{Builder}
use Rattle.prg_parser.specs.declared.program.Program.{Program}
use Rattle.text_lines.specs.Lines.{lines}
use Rattle.std.specs.Prelude.{Option}
use Rattle.prg_parser.proofs.FileLemmas.{FullLaw, PlacedLaw, SoundLaw, is_program, not_refused}
use Rattle.prg_parser.proofs.HalfReadLemmas.{all_said}
use Rattle.prg_parser.proofs.RangeLemmas.{names_line}

pub named : (bytes : List ℕ) (r : ParseRefusal) → Tells (verdict [] None (marks bytes)) r
    → NamesLine (length (lines (before_end bytes))) r
named bytes (Fault fault) h = names_line bytes fault h
named bytes Memory h = tt

pub refused : PlacedLaw → FullLaw → (bytes : List ℕ) (r : ParseRefusal) → Tells (verdict [] None (marks bytes)) r
    → OnFault r ((says : List Saying) → LinesFit bytes says → ⊥)
refused placed full bytes (Fault fault) h = not_refused placed full bytes fault h
refused placed full bytes Memory h = tt

pub faultless : (bytes : List ℕ) (ps : List Part) (o : Option ℕ) (b : Builder) (p : Program)
    → IsHalfRead (joined_lines bytes) [] ps o b → Ended ps o b p → verdict [] None (marks bytes) ≡ None
faultless bytes ps o b p s e = sym s.fault ∙ e.faultless

pub spelled : SoundLaw → PlacedLaw → (bytes : List ℕ) (ps : List Part) (o : Option ℕ) (b : Builder) (p : Program)
    → IsHalfRead (joined_lines bytes) [] ps o b → Ended ps o b p → IsProgramOf bytes p
spelled sound placed bytes ps o b p s e =
    is_program sound placed bytes p (faultless bytes ps o b p s e) e.unnamed
    (all_said (joined_lines bytes) ps o b p s e)
