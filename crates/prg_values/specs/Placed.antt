-- Where the code of an expression stands in a finished code.
use Rattle.std.specs.Prelude.{◌≡◌, ℕ, suc, List, [], ◌∷◌, Some, slice_get}
use Rattle.xvalue.specs.declared.kind.Kind.{Kind}
use Rattle.xvalue.specs.declared.value.Value.{Value}
use Rattle.code_items.specs.declared.instr.Instr.{Instr}
use Rattle.prg_expr.specs.Tree.{Tree}
use Rattle.prg_values.specs.declared.standing.Finished.{Finished}
use Rattle.prg_values.specs.Readings.{Scoped}
use Rattle.prg_values.specs.Written.{Piece, IsPiece, kind_in, pieces_in}

-- the instructions of a finished code by place, and its constants by number
pub record Text : Type 0 where
  pub instrs : List Instr
  pub constants : List Value

abbrev pub text : Finished → Text
text f = record { instrs = f.instrs.now; constants = f.constants.now }

-- the instruction stands at a place, and behind it is another place
abbrev pub InstrStands : Text → ℕ → Instr → ℕ → Type 0
InstrStands t a i b = (slice_get t.instrs a ≡ Some i) × (b ≡ suc a)

-- the pieces stand one behind the other, from a place up to another
abbrev pub StandAll : Text → ℕ → List Piece → ℕ → Type 0
StandAll t a [] b = b ≡ a
StandAll t a (p ∷ ps) b = (i : Instr) × (m : ℕ) × IsPiece t.constants p i × InstrStands t a i m × StandAll t m ps b

-- the code of an expression of this kind stands from a place up to another
pub record Leaves (t : Text) (s : Scoped) (a : ℕ) (e : Tree) (kind : Kind) (b : ℕ) : Type 0 where
  pub kind_is : kind_in s e ≡ Some kind
  pub pieces : StandAll t a (pieces_in s e) b
