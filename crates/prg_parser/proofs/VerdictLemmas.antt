-- Lemmas on the fault that is told.

use Rattle.std.proofs.Common.{◌≡◌, ℕ, ◌+◌, ◌<◌, List, [], ◌∷◌, Option, Some, None, length, drop, get_or, refl, add-one}
use Rattle.std.proofs.Common.{drop-cons}
use Rattle.std.specs.Prelude.{option_map}
use Rattle.prg_expr.specs.declared.fault.ParseFaultKind.{ParseFaultKind}
use Rattle.prg_parser.specs.declared.blocks.Part.{Part}
use Rattle.prg_parser.specs.declared.judging.LineMark.{LineMark}
use Rattle.prg_parser.specs.Verdict as spec
use Rattle.prg_parser.specs.Verdict.{verdict}
use Rattle.prg_parser.specs.Blocks.{parts_after}

-- a line with a fault
pub front-told : (parts : List Part) (unended : Option ℕ) (mark : LineMark) (others : List LineMark)
    (kind : ParseFaultKind) → spec.wrong_in_line parts mark ≡ Some kind
    → verdict parts unended (mark ∷ others) ≡ Some (record { line = mark.line; kind = kind })
unfolding verdict
front-told parts unended mark others kind e = rw (e) refl

-- a line without one
pub front-passed : (parts : List Part) (unended : Option ℕ) (mark : LineMark) (others : List LineMark)
    → spec.wrong_in_line parts mark ≡ None
    → verdict parts unended (mark ∷ others)
    ≡ verdict (parts_after parts mark.line mark.role) (spec.unended_after parts unended mark) others
unfolding verdict
front-passed parts unended mark others e = rw (e) refl

pub at-end : (parts : List Part) (unended : Option ℕ)
    → verdict parts unended [] ≡ option_map spec.block_fault_at (spec.earlier unended (spec.opening_line parts))
unfolding verdict
at-end parts unended = refl

pub split : (marks : List LineMark) (i : ℕ) (d : LineMark) → i < length marks
    → get_or marks i d ∷ drop (i + 1) marks ≡ drop i marks
split marks i d below = rw (add-one, drop-cons marks i d) refl
