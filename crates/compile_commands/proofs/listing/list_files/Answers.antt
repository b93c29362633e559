-- One command file after the other.
use Rattle.std.proofs.Common.{◌≡◌, ◌≤◌, ℕ, List, [], length, map, Bor, sym, subst, arith}
use Rattle.std.proofs.lemmas.List.{get_or-map}
use Rattle.std.proofs.lemmas.Result.{err_from_is_err_and}
use Rattle.compile_commands.specs.Listing.{AreListed, IsListedBehind, NoFiles}
use Rattle.file_access.proofs.Holding.{same_self, same_then}
use Rattle.compile_commands.proofs.FileLemmas.{told_at}
use Rattle.compile_commands.proofs.ListingLemmas.{further_listed}
use Rattle.compile_commands.proofs.listing.list_files.Goals as goal

pub loop-file-init : goal.loop-file-init
loop-file-init g c = record {
  kept = same_self (g.F.Files.holds c.args.files.now);
  counted = omega arith;
  listed =
      subst (λ l. AreListed (g.F.Files.holds c.args.files.now)
      (map (λ (name : Bor (List ℕ)). name.now) c.args.names.now) 0 l) (sym c.new-found.ensures.items) NoFiles;
}

pub returns-in_err-list_file-clause-refused : goal.returns-in_err-list_file-clause-refused
returns-in_err-list_file-clause-refused g c =
    let p = err_from_is_err_and c.from_residual.result c.from_residual.ensures.1 in
    let i = c.loop-file.invariant in
    rw (p.1, p.2)
    (told_at c.in_err-list_file.field-0.0 (g.F.Files.holds c.args.files.now) (g.F.Files.holds c.loop-file.files)
    c.args.names.now _ c.loop-file.file
    (g.F.Files.failed c.args.files.now) (g.F.Files.failed c.loop-file.files) (g.F.Files.failed c.list_file.new.files)
    i.kept c.loop-file-test.true i.counted c.list_file.ensures.counted c.in_err-list_file.ensures.refused)

pub returns-in_err-list_file-clause-counted : goal.returns-in_err-list_file-clause-counted
returns-in_err-list_file-clause-counted g c = omega (arith, c.loop-file.invariant.counted, c.list_file.ensures.counted)

pub returns-in_err-list_file-clause-kept : goal.returns-in_err-list_file-clause-kept
returns-in_err-list_file-clause-kept g c =
    same_then (g.F.Files.holds c.args.files.now) (g.F.Files.holds c.loop-file.files)
    (g.F.Files.holds c.list_file.new.files) c.loop-file.invariant.kept c.list_file.ensures.kept

pub loop-file-preserved : goal.loop-file-preserved
loop-file-preserved g c =
    let i = c.loop-file.invariant in
    let names = map (λ (name : Bor (List ℕ)). name.now) c.args.names.now in
    let number = c.loop-file.file in
    let first = g.F.Files.holds c.args.files.now in
    let before = g.F.Files.holds c.loop-file.files in
    let e = get_or-map (λ (name : Bor (List ℕ)). name.now) c.args.names.now number _ [] c.loop-file-test.true in
    let here =
    subst (λ (x : List ℕ). IsListedBehind number (before x) c.loop-file.found.items c.list_file.new.found.items)
    (sym e) c.in_ok-list_file.ensures.listed in
    record {
      kept = same_then first before (g.F.Files.holds c.list_file.new.files) i.kept c.list_file.ensures.kept;
      counted = omega (arith, i.counted, c.list_file.ensures.counted);
      listed =
          further_listed first before names number c.loop-file.found.items c.list_file.new.found.items i.kept i.listed
          here;
    }

pub returns-clause-listed : goal.returns-clause-listed
returns-clause-listed g c =
    let i = c.loop-file.invariant in
    let upper : c.loop-file.file ≤ length c.args.names.now = omega (arith, c.loop-file.auto.file-end) in
    let last : c.loop-file.file ≡ length c.args.names.now = omega (arith, upper, c.loop-file-test.false) in
    subst (λ n. AreListed (g.F.Files.holds c.args.files.now) (map (λ (name : Bor (List ℕ)). name.now) c.args.names.now)
    n c.loop-file.found.items) last i.listed

pub returns-clause-counted : goal.returns-clause-counted
returns-clause-counted g c = c.loop-file.invariant.counted

pub returns-clause-kept : goal.returns-clause-kept
returns-clause-kept g c = c.loop-file.invariant.kept
