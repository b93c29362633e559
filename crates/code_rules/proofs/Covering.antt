-- What is known of a slot or of a work area covers itself.
use Rattle.std.proofs.Common.{◌≡◌, ℕ, true, ◌&&◌, ◌==◌, Option, Some, None, refl}
use Rattle.std.proofs.lemmas.Bool.{and_from, eq-eqb}
use Rattle.xvalue.specs.declared.kind.Kind.{Kind}
use Rattle.xvalue.specs.declared.kind.Kind.TheVariants.{Number, Text, Date, Logical}
use Rattle.xvalue.specs.Kinds.{same_kind}
use Rattle.code_items.specs.declared.desk.OpenArea.{OpenArea}
use Rattle.code_items.specs.declared.desk.AreaState.{AreaState}
use Rattle.code_items.specs.declared.desk.AreaState.TheVariants.{Closed, Open, Unsure}
use Rattle.code_items.specs.Desks.{same_area, area_covered}
use Rattle.code_items.specs.Kinds.{slot_covered}

pub kind_self : (k : Kind) → same_kind k k ≡ true
kind_self Number = refl
kind_self Text = refl
kind_self Date = refl
kind_self Logical = refl

pub slot_self : (o : Option Kind) → slot_covered (o, o) ≡ true
slot_self None = refl
slot_self (Some k) = kind_self k

pub number_self : (n : ℕ) → (n == n) ≡ true
number_self n = eq-eqb n n refl

open_self : (a : OpenArea) → same_area a a ≡ true
open_self a =
    and_from (a.table == a.table && a.list == a.list && a.order == a.order) (a.filter == a.filter)
    (and_from (a.table == a.table && a.list == a.list) (a.order == a.order)
    (and_from (a.table == a.table) (a.list == a.list) (number_self a.table) (number_self a.list))
    (number_self a.order))
    (number_self a.filter)

pub area_self : (a : AreaState) → area_covered (a, a) ≡ true
area_self Closed = refl
area_self (Open a) = open_self a
area_self Unsure = refl
