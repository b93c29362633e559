use Rattle.std.proofs.Common.{codes, arith, zero, suc, inl, inr, refl, ℕ, ◌≡◌, ◌≤◌}
use Rattle.clap.specs.Matches.{found_of}
use Rattle.clap.specs.Walk.{rows_of}
use Rattle.command_words.specs.Said.{word_given}
use Rattle.command_words.proofs.Rows.{no_limit}
use Rattle.command_words.proofs.words.limit_if_said.Goals as goal

none : (n : ℕ) → n ≤ 1000000 → (((1 ≤ n) × (n ≤ 1000000)) → ⊥) → n ≡ 0
none zero most out = refl
none (suc n) most out = absurd (out (omega arith, most))

pub returns-then-number-gt1000000-clause-refused : goal.returns-then-number-gt1000000-clause-refused
returns-then-number-gt1000000-clause-refused c =
    no_limit (word_given (codes "limit") (rows_of (found_of c.args.matches.now))) c.in-Some.number c.in-Some.ensures
    (inr c.if-number-gt1000000.true)

pub returns-in-None-clause-refused : goal.returns-in-None-clause-refused
returns-in-None-clause-refused c =
    no_limit (word_given (codes "limit") (rows_of (found_of c.args.matches.now))) c.in-Some.number c.in-Some.ensures
    (inl (none c.in-Some.number c.if-number-gt1000000.false c.in-None.ensures))
