-- One command file after the other.
use Rattle.std.proofs.Common.{◌<◌, ◌≤◌, ◌+◌, ℕ, List, [], length, map, Bor, below_more, sym, ap, ◌∙◌, subst}
use Rattle.std.proofs.Common.{arith}
use Rattle.std.proofs.lemmas.List.{get_or-map, length-map}
use Rattle.std.proofs.lemmas.Result.{err_from_is_err_and}
use Rattle.compile_commands.specs.Compiling.{IsRead, name_at}
use Rattle.file_access.proofs.Holding.{same_self, same_then}
use Rattle.compile_commands.proofs.FileLemmas.{read_before, told_at}
use Rattle.compile_commands.proofs.sources.programs_of.Goals as goal

pub loop-file-init : goal.loop-file-init
loop-file-init g c = record {
  kept = same_self (g.F.Files.holds c.args.files.now);
  counted = omega arith;
  all = ap (λ (l : List _). length l) c.new-programs.ensures.items;
  read = λ n h. absurd (omega (arith, h));
}

pub returns-in_err-add_program-clause-refused : goal.returns-in_err-add_program-clause-refused
returns-in_err-add_program-clause-refused g c =
    let p = err_from_is_err_and c.from_residual.result c.from_residual.ensures.1 in
    let i = c.loop-file.invariant in
    rw (p.1, p.2)
    (told_at c.in_err-add_program.field-0.0 (g.F.Files.holds c.args.files.now) (g.F.Files.holds c.loop-file.files)
    c.args.names.now _ c.loop-file.file
    (g.F.Files.failed c.args.files.now) (g.F.Files.failed c.loop-file.files) (g.F.Files.failed c.add_program.new.files)
    i.kept c.loop-file-test.true i.counted c.add_program.ensures.counted c.in_err-add_program.ensures.refused)

pub returns-in_err-add_program-clause-counted : goal.returns-in_err-add_program-clause-counted
returns-in_err-add_program-clause-counted g c =
    omega (arith, c.loop-file.invariant.counted, c.add_program.ensures.counted)

pub returns-in_err-add_program-clause-kept : goal.returns-in_err-add_program-clause-kept
returns-in_err-add_program-clause-kept g c =
    same_then (g.F.Files.holds c.args.files.now) (g.F.Files.holds c.loop-file.files)
    (g.F.Files.holds c.add_program.new.files) c.loop-file.invariant.kept c.add_program.ensures.kept

pub loop-file-preserved : goal.loop-file-preserved
loop-file-preserved g c =
    let i = c.loop-file.invariant in
    let names = map (λ (name : Bor (List ℕ)). name.now) c.args.names.now in
    let number = c.loop-file.file in
    let first = g.F.Files.holds c.args.files.now in
    let before = g.F.Files.holds c.loop-file.files in
    let e = get_or-map (λ (name : Bor (List ℕ)). name.now) c.args.names.now number _ [] c.loop-file-test.true in
    let here = subst (λ (x : List ℕ). IsRead (before x)) (sym e) c.in_ok-add_program.ensures.read in
    record {
      kept = same_then first before (g.F.Files.holds c.add_program.new.files) i.kept c.add_program.ensures.kept;
      counted = omega (arith, i.counted, c.add_program.ensures.counted);
      all = c.in_ok-add_program.ensures.more ∙ ap (λ n. n + 1) i.all;
      read = below_more _ _ i.read (read_before first before (name_at names number) i.kept here);
    }

pub returns-clause-read : goal.returns-clause-read
returns-clause-read g c = λ n h.
    let i = c.loop-file.invariant in
    let within : n < length c.args.names.now =
    subst (λ l. n < l) (length-map c.args.names.now (λ (name : Bor (List ℕ)). name.now)) h in
    let behind : length c.args.names.now ≤ c.loop-file.file = omega (arith, c.loop-file-test.false) in
    let below : n < c.loop-file.file = omega (arith, within, behind) in
    i.read n below

pub returns-clause-all : goal.returns-clause-all
returns-clause-all g c =
    let i = c.loop-file.invariant in
    let upper : c.loop-file.file ≤ length c.args.names.now = omega (arith, c.loop-file.auto.file-end) in
    omega (arith, i.all, upper, c.loop-file-test.false)

pub returns-clause-counted : goal.returns-clause-counted
returns-clause-counted g c = c.loop-file.invariant.counted

pub returns-clause-kept : goal.returns-clause-kept
returns-clause-kept g c = c.loop-file.invariant.kept
