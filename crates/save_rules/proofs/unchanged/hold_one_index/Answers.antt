-- By the two indexes, where both files hold one.
use Rattle.std.proofs.Common.{sym, ◌∙◌}
use Rattle.std.proofs.lemmas.Bool.{true≢false}
use Rattle.save_rules.proofs.IndexLemmas.{hold_one}
use Rattle.save_rules.proofs.unchanged.hold_one_index.Goals as goal

pub returns-in_default : goal.returns-in_default
returns-in_default c =
    let none = rw c.in_default.is at c.in_ok-before.ensures in
    (λ no. absurd cc, λ one. absurd (none one.form one.pairs one.before))

pub returns-in_default-2 : goal.returns-in_default-2
returns-in_default-2 c =
    let none = rw c.in_default-2.is at c.in_ok-after.ensures in
    (λ no. absurd cc, λ one. absurd (none one.form one.pairs one.after))

pub returns-then-not-have_one_key : goal.returns-then-not-have_one_key
returns-then-not-have_one_key c =
    let first = rw c.in-Some.is at c.in_ok-before.ensures in
    let second = rw c.in-Some-2.is at c.in_ok-after.ensures in
    let before = c.in-Some.before in
    let after = c.in-Some-2.after in
    let one = hold_one c.holds_one_list.ensures c.args.read.now c.args.new.now before.form after.form before.pairs
    after.pairs first second in
    let key = c.have_one_key.ensures in
    let test = c.if-not-have_one_key.true in
    (λ no. absurd cc, λ held. absurd (true≢false (sym (key.1 (one.0 held).0) ∙ test)))

pub returns : goal.returns
returns c =
    let first = rw c.in-Some.is at c.in_ok-before.ensures in
    let second = rw c.in-Some-2.is at c.in_ok-after.ensures in
    let before = c.in-Some.before in
    let after = c.in-Some-2.after in
    let one = hold_one c.holds_one_list.ensures c.args.read.now c.args.new.now before.form after.form before.pairs
    after.pairs first second in
    let key = c.have_one_key.ensures.0 c.if-not-have_one_key.false in
    let pairs = c.list_the_same.ensures in
    (λ yes. one.1 (key, pairs.0 yes), λ held. pairs.1 (one.0 held).1)
