use Rattle.std.proofs.Common.{◌≡◌, drop}
use Rattle.std.specs.Prelude.{map}
use Rattle.std.specs.Char.{to_ascii_uppercase}
use Rattle.hints.specs.LeftOut.{first_named}
use Rattle.hints.proofs.left_out.first_named.Given as goal

abbrev pub invariant-loop-whole : goal.invariant-loop-whole
invariant-loop-whole l =
    first_named (map (λ w. (w.0.now, w.1)) (drop l.whole-index l.words)) (map to_ascii_uppercase l.word)
    ≡ first_named (map (λ w. (w.0.now, w.1)) l.words) (map to_ascii_uppercase l.word)
