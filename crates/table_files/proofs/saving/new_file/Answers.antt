use Rattle.std.proofs.Common.{◌≡◌, ◌+◌, ◌-◌, ℕ, length, Some, ap, sym, ◌∙◌, subst, arith}
use Rattle.std.specs.Prelude.{slice_get}
use Rattle.table_files.specs.Names.{files_of}
use Rattle.table_files.proofs.FileLemmas.{table_place, index_place}
use Rattle.table_files.proofs.ShapeLemmas.{few_declared, table_named, index_named}
use Rattle.table_files.proofs.WriteLemmas.{files_count}
use Rattle.table_files.proofs.saving.new_file.Goals as goal

pub table_file_name-name-requires : goal.table_file_name-name-requires
table_file_name-name-requires c = table_named c.args.shape.now c.requires.legal c.args.k c.get.result.now c.get.ensures

pub overflow_cast-k : goal.overflow_cast-k
overflow_cast-k c = let few = (few_declared c.args.shape.now c.requires.legal).0 in omega (arith, few)

pub returns-then-k-tables-clause-named : goal.returns-then-k-tables-clause-named
returns-then-k-tables-clause-named c =
    table_place c.args.shape.now c.args.k c.get.result.now c.get.ensures ∙ ap Some (sym c.table_file_name-name.ensures)

pub overflow_cast-n : goal.overflow_cast-n
overflow_cast-n c =
    let few = (few_declared c.args.shape.now c.requires.legal).1 in
    let count = files_count c.args.shape.now in
    omega (arith, few, count)

pub index_file_name-name-requires : goal.index_file_name-name-requires
index_file_name-name-requires c =
    index_named c.args.shape.now c.requires.legal (c.args.k - c.len-tables.result) c.get-2.result.now c.get-2.ensures

pub returns-clause-named : goal.returns-clause-named
returns-clause-named c =
    let place : length c.args.shape.now.tables + (c.args.k - c.len-tables.result) ≡ c.args.k = omega arith in
    subst (λ (k : ℕ). slice_get (files_of c.args.shape.now) k ≡ Some c.index_file_name-name.result.bytes) place
    (index_place c.args.shape.now (c.args.k - c.len-tables.result) c.get-2.result.now c.get-2.ensures
    ∙ ap Some (sym c.index_file_name-name.ensures))
