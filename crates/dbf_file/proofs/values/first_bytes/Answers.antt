use Rattle.std.proofs.Common.{◌∙◌, ℕ, take, length, ap}
use Rattle.std.proofs.lemmas.List.{take_min}
use Rattle.std.proofs.Math.Nat.{min_comm}
use Rattle.dbf_file.proofs.values.first_bytes.Goals as goal

pub returns-clause-same : goal.returns-clause-same
returns-clause-same c =
    let text = c.args.text.now in
    ap (λ (n : ℕ). take n text) (c.min.ensures ∙ min_comm (length text) 254) ∙ take_min 254 text
