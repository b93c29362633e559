use Rattle.std.proofs.Common.{ap, ◌∙◌, List, ℕ}
use Rattle.prg_laid.specs.ByNumber.{by_number}
use Rattle.prg_laid.proofs.Numbered.{none}
use Rattle.prg_laid.proofs.known.KnownStates.new.Goals as goal

pub returns : goal.returns
returns c = ap (λ (ns : List ℕ). by_number c.new.result.items ns) c.new-2.ensures.items ∙ none c.new.result.items
