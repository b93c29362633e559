use Rattle.std.proofs.Common.{◌≡◌, ◌++◌, length, rules, subst, sym, List, ℕ}
use Rattle.operator_desk.specs.Held.{line_length, first_line}
use Rattle.operator_desk.proofs.WholeLines.{no_end_in_first, no_end_joined}
use Rattle.operator_desk.proofs.typing.take_part.Goals as goal

pub returns : goal.returns
returns g c = λ h.
    let put : c.extend_from_slice.new.self.items ≡ c.args.line.now.items ++ first_line c.in_ok-ready.ready.now =
    search rules in
    subst (λ (t : List ℕ). line_length t ≡ length t) (sym put)
    (no_end_joined c.args.line.now.items (first_line c.in_ok-ready.ready.now) h
    (no_end_in_first c.in_ok-ready.ready.now))
