-- By what is written of the two tables, where both files hold one.
use Rattle.std.proofs.Common.{◌≡◌, ◌∙◌, ap, sym}
use Rattle.std.specs.Str.{bytes_eq}
use Rattle.save_rules.proofs.TableLemmas.{written_alike}
use Rattle.save_rules.proofs.unchanged.hold_one_table.Goals as goal

pub returns-in_default : goal.returns-in_default
returns-in_default c =
    let none = rw c.in_default.is at c.in_ok-before.ensures in
    (λ no. absurd cc, λ one. absurd (none one.structure one.rows one.before))

pub returns-in_default-2 : goal.returns-in_default-2
returns-in_default-2 c =
    let none = rw c.in_default-2.is at c.in_ok-after.ensures in
    (λ no. absurd cc, λ one. absurd (none one.structure one.rows one.after))

pub returns : goal.returns
returns c =
    let was = c.in-Some.before.items in
    let is = c.in-Some-2.after.items in
    let test : c.eq.result ≡ bytes_eq was is = c.eq.ensures ∙ ap (λ xs. bytes_eq xs c.as_slice-2.result.now)
    c.as_slice.ensures.value ∙ ap (bytes_eq was) c.as_slice-2.ensures.value in
    let first = rw c.in-Some.is at c.in_ok-before.ensures in
    let second = rw c.in-Some-2.is at c.in_ok-after.ensures in
    let alike = written_alike c.args.read.now c.args.new.now was is first second in
    (λ yes. alike.0 (sym test ∙ yes), λ one. test ∙ alike.1 one)
