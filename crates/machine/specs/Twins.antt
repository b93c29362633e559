-- What the machine without tags holds, and which worlds of the checking machine it stands for.
use Rattle.std.specs.Prelude.{◌≡◌, ℕ, List, Option}
use Rattle.calendar.specs.declared.day.DayParts.{DayParts}
use Rattle.work_area.specs.Areas.{StoreState}
use Rattle.code_items.specs.declared.code.Code.{Code}
use Rattle.run_values.specs.declared.untagged.Untagged.{Untagged}
use Rattle.run_values.specs.Standing.{IsByKind}
use Rattle.run_steps.specs.declared.decoding.Decoded.{Decoded}
use Rattle.run_steps.specs.declared.machine.Machine.{Machine}
use Rattle.run_steps.specs.Tables.{IsDecoded}
use Rattle.run_steps.specs.World.{World, EnvState}
use Rattle.run_steps.specs.Opening.{opening}
use Rattle.run_steps.specs.Shapes.{StoreFits}
use Rattle.fit_laws.specs.Fits.{IsFitting}

-- the place of the next instruction, the places behind calls that haven't returned, values without tags, and all else
-- that a run changes; and what the code is decoded to
pub record BankState : Type 0 where
  pub place : ℕ
  pub returns : List ℕ
  pub values : Untagged
  pub env : EnvState
  pub decoded : Decoded

abbrev pub banks_of : {K : Type 0} → Machine Untagged K → Decoded → BankState
banks_of m decoded =
    record { place = m.place; returns = m.returns; values = m.values; env = m.env; decoded = decoded }

-- all is equal but the values. The store is its tables (rows, stale marks, open indexes, orders, pointers, and the
-- answers of BOF() and FOUND()), what the ten areas hold, the selected area and the limit of records. Each kind's stack
-- has the values of that kind of the world's stack, in order; a slot that is set in the world has its value in the
-- place for its kind, and all other places hold anything
pub record AgreesWith (b : BankState) (w : World) : Type 0 where
  pub place : b.place ≡ w.place
  pub returns : b.returns ≡ w.returns
  pub store : b.env.store ≡ w.env.store
  pub screen : b.env.screen ≡ w.env.screen
  pub lines : b.env.lines ≡ w.env.lines
  pub settings : b.env.settings ≡ w.env.settings
  pub today : b.env.today ≡ w.env.today
  pub values : IsByKind b.values w.values

-- they agree with a world in which all is so as the verifier knows it at the world's place, and each procedure that
-- runs was called from where it returns to; and they hold what this code is decoded to, with the registers for it
pub record Twin (code : Code) (w : World) (b : BankState) : Type 0 where
  pub agrees : AgreesWith b w
  pub fits : IsFitting code w
  pub decoded : IsDecoded code b.values.cells.registers b.decoded

-- they agree with the world from which a run of the code begins over some tables of the declared structures, with some
-- lines of the operator, on some day; and they hold what this code is decoded to, with the registers for it
pub record Begins (code : Code) (w : World) (b : BankState) : Type 0 where
  pub store : StoreState
  pub lines : List (List ℕ)
  pub today : Option DayParts
  pub declared : StoreFits code.declared store
  pub opens : w ≡ opening code store lines today
  pub agrees : AgreesWith b w
  pub decoded : IsDecoded code b.values.cells.registers b.decoded
