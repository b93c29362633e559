-- Items whose numbers fit their bytes.
use Rattle.std.specs.Prelude.{◌<◌, length, All}
use Rattle.code_items.specs.declared.desk.AreaState.{AreaState}
use Rattle.code_items.specs.declared.desk.AreaState.TheVariants.{Closed, Open, Unsure}
use Rattle.code_items.specs.declared.state.State.{State}
use Rattle.code_items.specs.declared.code.Proc.{Proc}

abbrev pub AreaFitsBytes : AreaState → Type 0
AreaFitsBytes Closed = Unit {0}
AreaFitsBytes (Open a) = (a.table < 255) × (a.list < 256) × (a.order < 256) × (a.filter < 256)
AreaFitsBytes Unsure = Unit {0}

pub record StateFitsBytes (s : State) : Type 0 where
  pub areas : All AreaFitsBytes s.desk.areas
  pub height : length s.stack < 256

pub record ProcedureFitsBytes (p : Proc) : Type 0 where
  pub entry : StateFitsBytes p.entry
  pub exit : StateFitsBytes p.exit
