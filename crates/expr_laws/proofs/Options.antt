-- What is there, and what is made of it.
use Rattle.std.proofs.Common.{◌≡◌, Bool, true, false, Option, Some, None, refl}
use Rattle.std.specs.Prelude.{if◌then◌else◌}
use Rattle.std.proofs.lemmas.Option.{none-some}
use Rattle.prg_values.specs.Readings.{on_some}

-- it was there
pub record Found {A B : Type 0} (x : Option A) (f : A → Option B) (b : B) : Type 0 where
  pub a : A
  pub there : x ≡ Some a
  pub made : f a ≡ Some b

pub found : {A B : Type 0} (x : Option A) (f : A → Option B) (b : B) → on_some x None f ≡ Some b → Found x f b
found None f b e = absurd (none-some b e)
found (Some a) f b e = record { a = a; there = refl; made = e }

-- it passed the test
pub record Passed {B : Type 0} (test : Bool) (x : Option B) (b : B) : Type 0 where
  pub holds : test ≡ true
  pub is : x ≡ Some b

pub passed : {B : Type 0} (test : Bool) (x : Option B) (b : B) → (if test then x else None) ≡ Some b → Passed test x b
passed true x b e = record { holds = refl; is = e }
passed false x b e = absurd (none-some b e)
