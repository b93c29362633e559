-- A finished code with what is known of it, and what stands in it from a place up to another.
use Rattle.std.specs.Prelude.{◌≡◌, ℕ, Bool, false, List, [], Some, slice_get}
use Rattle.xvalue.specs.declared.kind.Kind.{Kind}
use Rattle.code_items.specs.declared.declared.Declared.{Declared}
use Rattle.code_items.specs.declared.declared.Version.TheVariants.{One}
use Rattle.code_items.specs.declared.state.State.{State}
use Rattle.code_rules.specs.declared.blocks.Block.{Block}
use Rattle.prg_expr.specs.Tree.{Tree}
use Rattle.prg_code.specs.Bindings.{NamedVariables}
use Rattle.prg_values.specs.declared.scope.Reading.{Reading}
use Rattle.prg_values.specs.declared.scope.Scope.{Scope}
use Rattle.prg_values.specs.Readings.{Scoped, scoped, read_name}
use Rattle.prg_values.specs.Placed as placed
use Rattle.prg_values.specs.Placed.{Text, Leaves}

-- instructions and constants, what is declared, the slots of the variables, what is known before each place, and the
-- blocks of the filters by number
pub record Laying : Type 0 where
  pub text : Text
  pub declared : Declared
  pub names : NamedVariables
  pub known : List State
  pub filters : List Block

-- what names mean where this is known
abbrev pub scope_in : Laying → State → Bool → Scoped
scope_in f s in_filter = record { shape = f.declared.shape; state = s; names = f.names; in_filter = in_filter }

-- names mean what they mean where this is known
pub record IsSeen (f : Laying) (a : ℕ) (s : Scope) : Type 0 where
  pub known : slice_get f.known a ≡ Some s.state.now
  pub scope : scoped s ≡ scope_in f s.state.now false

-- this is known before the place
abbrev pub Knows : Laying → ℕ → State → Type 0
Knows f a s = slice_get f.known a ≡ Some s

-- the code of an expression of this kind, its names read by what is known before its first place
abbrev pub ExprLaid : Laying → ℕ → Tree → Kind → ℕ → Type 0
ExprLaid f a e kind b = (s : State) × Knows f a s × Leaves f.text (scope_in f s false) a e kind b

-- a name means this before the place
abbrev pub Means : Laying → ℕ → List ℕ → Reading → Type 0
Means f a name r = (s : State) × Knows f a s × (read_name (scope_in f s false) name ≡ Some r)

-- the instruction that reads the name
abbrev pub NameLaid : Laying → ℕ → List ℕ → Reading → ℕ → Type 0
NameLaid f a name r b = Means f a name r × placed.InstrStands f.text a r.instr b

-- where there is no finished code
abbrev pub nothing_laid : Laying
nothing_laid = record {
  text = record { instrs = []; constants = [] };
  declared = record {
    version = One;
    stack_bound = 0;
    slots = 0;
    shape = record { tables = []; indexes = [] };
    lists = [];
    constants = [];
    filters = [];
  };
  names = [];
  known = [];
  filters = [];
}
