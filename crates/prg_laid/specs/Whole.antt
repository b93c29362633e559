-- When the main procedure of a code is laid out as its commands say.
use Rattle.std.specs.Prelude.{◌≡◌, ℕ, ◌+◌, Bool, true, ◌&&◌, ◌==◌, not, List, [], ◌∷◌, Some, slice_get, length}
use Rattle.std.specs.List.{list_any}
use Rattle.std.specs.Map.{values_of}
use Rattle.code_items.specs.declared.code.Code.{Code}
use Rattle.code_items.specs.declared.code.Proc.{Proc}
use Rattle.code_items.specs.declared.state.State.{State}
use Rattle.code_rules.specs.Places.{state_at, block_at}
use Rattle.code_rules.specs.declared.blocks.Block.{Block}
use Rattle.prg_parser.specs.Commands.{Cmds}
use Rattle.prg_code.specs.Bindings.{NamedVariables}
use Rattle.prg_code.specs.declared.names.Variable.{Variable}
use Rattle.prg_commands.specs.Commands.{WholeLaid}
use Rattle.prg_commands.specs.Layout.{Laying}

abbrev pub has_slot : ℕ → Variable → Bool
has_slot slot v = v.slot == slot

-- different variables have different slots
abbrev pub slots_differ : List Variable → Bool
slots_differ [] = true
slots_differ (v ∷ vs) = not (list_any (has_slot v.slot) vs) && slots_differ vs

-- what is known before places of the code
abbrev pub AreKnown : Code → List State → Type 0
AreKnown code known = (place : ℕ) (s : State) → slice_get known place ≡ Some s → s ≡ state_at code place

-- the filters' blocks
abbrev pub IsFilterBlock : Code → ℕ → Block → Type 0
IsFilterBlock code n b = (b ≡ block_at code b.first) × (b.number ≡ length code.procedures + n)

abbrev pub AreFilters : Code → List Block → Type 0
AreFilters code filters = (n : ℕ) (b : Block) → slice_get filters n ≡ Some b → IsFilterBlock code n b

-- what is known of a code with these slots of its variables
abbrev pub laying_of : Code → NamedVariables → List State → List Block → Laying
laying_of code names known filters =
    record {
      text = record { instrs = code.instructions; constants = code.declared.constants };
      declared = code.declared;
      names = names;
      known = known;
      filters = filters;
    }

-- the main procedure of the code is laid out as the commands say, with these slots of the variables
pub record IsLaid (code : Code) (names : NamedVariables) (cs : Cmds) : Type 0 where
  pub known : List State
  pub are_known : AreKnown code known
  pub filters : List Block
  pub are_filters : AreFilters code filters
  pub slots : slots_differ (values_of names) ≡ true
  pub main : Proc
  pub first : slice_get code.procedures 0 ≡ Some main
  pub whole : WholeLaid (laying_of code names known filters) 0 cs main.length
