-- File by file, and then by what changed.
use Rattle.std.proofs.Common.{◌+◌, ℕ, List, [], None, Bor, get_or, sym, ◌∙◌, subst}
use Rattle.std.proofs.lemmas.Bool.{true≢false}
use Rattle.std.proofs.lemmas.Option.{slice_get-get_or}
use Rattle.save_rules.specs.declared.unchanged.HandedIn.{HandedIn}
use Rattle.save_rules.specs.Unchanged.{AreReplaced}
use Rattle.save_rules.proofs.ReplacedLemmas.{AreSoFar, all_replaced, by_what_changed, one_more, one_stays}
use Rattle.save_rules.proofs.unchanged.files_replaced.Goals as goal

pub returns-clause-replaced : goal.returns-clause-replaced
returns-clause-replaced c =
    all_replaced c.args.keep_unchanged c.args.files.now c.loop-number.number c.loop-number.numbers.items
    c.loop-number-test.false c.loop-number.invariant

pub returns-clause-changed : goal.returns-clause-changed
returns-clause-changed c = λ kept.
    let replaced = all_replaced c.args.keep_unchanged c.args.files.now c.loop-number.number c.loop-number.numbers.items
    c.loop-number-test.false c.loop-number.invariant in
    by_what_changed c.holds_one_list.ensures c.args.files.now c.loop-number.numbers.items
    (subst (λ keeps. AreReplaced keeps c.args.files.now c.loop-number.numbers.items) kept replaced)

abbrev no_bytes : Bor (List ℕ)
no_bytes = record { ref_ptr = (0, 0); now = [] }

-- a file, where there is none
abbrev d : HandedIn
d = record { name = no_bytes; read = None; new = no_bytes }

pub loop-number-preserved-then-branch : goal.loop-number-preserved-then-branch
loop-number-preserved-then-branch c =
    let files = c.args.files.now in
    let n = c.loop-number.number in
    one_stays c.args.keep_unchanged files n c.loop-number.numbers.items (get_or files n d)
    (slice_get-get_or files n d c.loop-number-test.true) (c.in_ok-stays.ensures.0 c.if-branch.true)
    c.loop-number.invariant

pub loop-number-preserved : goal.loop-number-preserved
loop-number-preserved c =
    let files = c.args.files.now in
    let n = c.loop-number.number in
    subst (AreSoFar c.args.keep_unchanged files (n + 1)) (sym c.in_ok-push.ensures.items)
    (one_more c.args.keep_unchanged files n c.loop-number.numbers.items (get_or files n d)
    (slice_get-get_or files n d c.loop-number-test.true)
    (λ stays. true≢false (sym (c.in_ok-stays.ensures.1 stays) ∙ c.if-branch.false)) c.loop-number.invariant)
