-- What is written, and what is given up.
use Rattle.std.specs.Prelude.{◌≡◌, true, false, ◌⊎◌, List, [], ◌∷◌, ◌++◌, None, take, length}
use Rattle.code_items.specs.declared.state.State.{State}
use Rattle.prg_code.specs.Bindings.{NamedVariables}
use Rattle.prg_code.specs.Growth.{OutputGrows}
use Rattle.prg_code.specs.Numbers.{Grows}
use Rattle.prg_code.specs.Merging.{merged_state}
use Rattle.prg_commands.specs.declared.programs.Target.{Target}
use Rattle.prg_writer.specs.declared.writer.Begun.{Begun}
use Rattle.prg_writer.specs.declared.writer.ProcedureCopy.{ProcedureCopy}
use Rattle.prg_writer.specs.declared.writer.Writer.{Writer}
use Rattle.prg_writer.specs.declared.writer.WrittenMark.{WrittenMark}

-- ---- what stood at some time, and what was given up

-- how much this writer has written
pub record IsMark (w : Writer) (mark : WrittenMark) : Type 0 where
  pub pieces : mark.pieces ≡ length w.work.block.pieces.items
  pub labels : mark.labels ≡ length w.work.block.labels.items
  pub constants : mark.constants ≡ length w.out.pool
  pub lists : mark.lists ≡ length w.out.lists
  pub filters : mark.filters ≡ length w.out.filters
  pub slots : mark.slots ≡ w.out.slots
  pub century : mark.century ≡ w.out.century
  pub copies : mark.copies ≡ length w.copies.items
  pub own : mark.own ≡ length w.work.own.items
  pub level : mark.level ≡ w.work.level
  pub names : mark.names ≡ w.work.names
  pub exit : mark.exit ≡ w.work.exit

-- and what it knows here, and how many loops it is writing
pub record IsBegun (w : Writer) (begun : Begun) : Type 0 where
  pub mark : IsMark w begun.mark
  pub state : begun.state ≡ w.work.block.state
  pub loops : begun.loops ≡ length w.loops.items

-- only so much is left as the mark says, and this is known
pub record IsBackAt (mark : WrittenMark) (known : State) (earlier later : Writer) : Type 0 where
  pub pieces : later.work.block.pieces.items ≡ take mark.pieces earlier.work.block.pieces.items
  pub labels : later.work.block.labels.items ≡ take mark.labels earlier.work.block.labels.items
  pub state : later.work.block.state ≡ known
  pub reached : later.work.block.reached ≡ true
  pub constants : later.out.pool ≡ take mark.constants earlier.out.pool
  pub lists : later.out.lists ≡ take mark.lists earlier.out.lists
  pub filters : later.out.filters ≡ take mark.filters earlier.out.filters
  pub slots : later.out.slots ≡ mark.slots
  pub century : later.out.century ≡ mark.century
  pub copies : later.copies.items ≡ take mark.copies earlier.copies.items
  pub own : later.work.own.items ≡ take mark.own earlier.work.own.items
  pub level : later.work.level ≡ mark.level
  pub names : later.work.names ≡ mark.names
  pub exit : later.work.exit ≡ mark.exit

-- ---- copies and loops

-- a copy of which nothing is written yet goes behind the others
pub record IsOpened (target : Target) (names : NamedVariables) (known : State)
    (earlier later : List ProcedureCopy) : Type 0 where
  pub copy : ProcedureCopy
  pub behind : later ≡ earlier ++ copy ∷ []
  pub target_is : copy.target ≡ target
  pub names_are : copy.names ≡ names
  pub entry : copy.entry ≡ known
  pub exit : copy.exit ≡ None
  pub done : copy.done ≡ false

-- all that is known here, or what is known both here and at a head that was found before
abbrev pub IsKnownAtHead : State → State → Type 0
IsKnownAtHead here known = (known ≡ here) ⊎ ((head : State) × (known ≡ merged_state here head))

-- what stood then still stands, and more may stand behind it
pub record StillStands (earlier later : Writer) : Type 0 where
  pub output : OutputGrows earlier.out later.out
  pub pieces : Grows earlier.work.block.pieces.items later.work.block.pieces.items
  pub own : Grows earlier.work.own.items later.work.own.items
  pub copies : Grows earlier.copies.items later.copies.items

-- what is written is what was written then
pub record IsWrittenAs (earlier later : Writer) : Type 0 where
  pub pieces : later.work.block.pieces.items ≡ earlier.work.block.pieces.items
  pub constants : later.out.pool ≡ earlier.out.pool
  pub lists : later.out.lists ≡ earlier.out.lists
  pub filters : later.out.filters ≡ earlier.out.filters
  pub slots : later.out.slots ≡ earlier.out.slots
  pub century : later.out.century ≡ earlier.out.century
  pub copies : later.copies.items ≡ earlier.copies.items
  pub own : later.work.own.items ≡ earlier.work.own.items
  pub level : later.work.level ≡ earlier.work.level
  pub names : later.work.names ≡ earlier.work.names
  pub exit : later.work.exit ≡ earlier.work.exit
