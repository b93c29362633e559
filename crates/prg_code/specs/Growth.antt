-- Code that is being written only grows: what stood still stands.
use Rattle.std.specs.Prelude.{◌≡◌, ℕ, ◌≤◌, Bool, true, List, [], ◌∷◌, ◌++◌, map, length, replicate, None}
use Rattle.code_items.specs.declared.instr.Instr.{Instr}
use Rattle.code_items.specs.declared.desk.AreaState.TheVariants.{Closed}
use Rattle.code_items.specs.declared.state.State.{State}
use Rattle.code_rules.specs.Flow.{desk_after, slots_after}
use Rattle.prg_code.specs.declared.block.Draft.{Draft}
use Rattle.prg_code.specs.declared.block.Draft.TheVariants as draft
use Rattle.prg_code.specs.declared.block.DraftBlock.{DraftBlock}
use Rattle.prg_code.specs.declared.work.Output.{Output}
use Rattle.prg_code.specs.declared.work.Work.{Work}
use Rattle.prg_code.specs.Bindings.{NamedVariables}
use Rattle.prg_code.specs.Numbers.{Grows}

-- ---- what still stands

-- What all procedures have in common: constants, lists and filters keep their numbers, no slot is given out twice, and
-- neither the height of a filter nor SET CENTURY is forgotten.
pub record OutputGrows (earlier later : Output) : Type 0 where
  pub constants : Grows earlier.pool later.pool
  pub lists : Grows earlier.lists later.lists
  pub filters : Grows earlier.filters later.filters
  pub slots : earlier.slots ≤ later.slots
  pub highest : earlier.highest ≤ later.highest
  pub century : earlier.century ≡ true → later.century ≡ true

-- A block: its pieces stand where they stood. A jump names a label and not a place, so it is a piece like any other;
-- labels keep their numbers.
pub record BlockGrows (earlier later : DraftBlock) : Type 0 where
  pub pieces : Grows earlier.pieces.items later.pieces.items
  pub labels : length earlier.labels.items ≤ length later.labels.items
  pub highest : earlier.highest ≤ later.highest

-- what is known where a program begins: all areas are closed, the first is selected, no slot is known, and the stack is
-- empty
abbrev pub nothing_known : State
nothing_known =
    record { desk = record { selected = 1; areas = replicate 10 Closed }; slots = replicate 256 None; stack = [] }

-- a block of which nothing is written yet, and at whose beginning this is known
pub record BlockBegins (known : State) (block : DraftBlock) : Type 0 where
  pub pieces : block.pieces.items ≡ []
  pub labels : block.labels.items ≡ []
  pub state : block.state ≡ known
  pub reached : block.reached ≡ true

-- only the pieces may have changed
pub record IsBesidePieces (earlier later : DraftBlock) : Type 0 where
  pub labels : later.labels ≡ earlier.labels
  pub state : later.state ≡ earlier.state
  pub reached : later.reached ≡ earlier.reached
  pub highest : later.highest ≡ earlier.highest

-- a copy of which nothing is written yet
pub record IsNewWork (file : ℕ) (is_main : Bool) (block : DraftBlock) (names : NamedVariables)
    (work : Work) : Type 0 where
  pub file_is : work.file ≡ file
  pub is_main_is : work.is_main ≡ is_main
  pub block_is : work.block ≡ block
  pub names_are : work.names ≡ names
  pub own : work.own.items ≡ []
  pub gets : work.gets.items ≡ []
  pub level : work.level ≡ 0
  pub exit : work.exit ≡ None

-- ---- what is put

-- the pieces of a block, without their lines
abbrev pub drafts_of : DraftBlock → List Draft
drafts_of block = map (λ p. p.draft) block.pieces.items

-- what is known behind an instruction that is no jump, and behind several; the stack isn't told
abbrev pub known_after : Instr → State → State
known_after i s = record { desk = desk_after i s.desk; slots = slots_after i s.slots; stack = s.stack }

abbrev pub known_behind : List Instr → State → State
known_behind [] s = s
known_behind (i ∷ is) s = known_behind is (known_after i s)

-- these instructions stand at the end of what stood, and what is known behind them follows from what was known
pub record Puts (instrs : List Instr) (earlier later : DraftBlock) : Type 0 where
  pub drafts : drafts_of later ≡ drafts_of earlier ++ map draft.Instr instrs
  pub known : later.state ≡ known_behind instrs earlier.state
