use Rattle.std.proofs.Common.{◌≡◌, List, subst, refl}
use Rattle.std.proofs.lemmas.Bool.{false≢true}
use Rattle.ndx_tree.specs.IndexFile.{IsIndexFile}
use Rattle.key_lists.specs.KeyForm.{KeyForm}
use Rattle.key_lists.specs.Pairs.{Pair}
use Rattle.work_area.specs.Making.{key_form}
use Rattle.table_files.proofs.lists.list_in.Goals as goal

pub returns-in-Err-clause-just : goal.returns-in-Err-clause-just
returns-in-Err-clause-just c = λ pairs. (
  λ h. absurd h,
  λ file. false≢true
      (c.if-is_memory.ensures.1 (c.in-Err.ensures.only (key_form c.args.table.now c.args.index.now) pairs file)),
)

pub returns-then-not-is_list_of-clause-just : goal.returns-then-not-is_list_of-clause-just
returns-then-not-is_list_of-clause-just c =
    λ pairs. (
      λ h. absurd h,
      λ file. false≢true
          (c.if-not-is_list_of.ensures.1 (c.in-Ok.ensures.only (key_form c.args.table.now c.args.index.now) pairs
          file).0),
    )

pub returns-clause-just : goal.returns-clause-just
returns-clause-just c =
    let formed : c.in-Ok.tree.form ≡ key_form c.args.table.now c.args.index.now = c.if-not-is_list_of.ensures.0 refl in
    λ pairs. (
      λ same.
          subst (λ (ps : List Pair). IsIndexFile c.args.bytes.now (key_form c.args.table.now c.args.index.now) ps) same
          (subst (λ (form : KeyForm). IsIndexFile c.args.bytes.now form c.in-Ok.tree.pairs) formed
          c.in-Ok.ensures.read),
      λ file. (c.in-Ok.ensures.only (key_form c.args.table.now c.args.index.now) pairs file).1,
    )
