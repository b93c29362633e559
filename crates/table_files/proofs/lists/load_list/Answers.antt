use Rattle.std.proofs.Common.{ℕ, List, Some, ◌∙◌, sym, subst}
use Rattle.ndx_tree.specs.IndexFile.{IsIndexFile}
use Rattle.work_area.specs.Making.{key_form}
use Rattle.table_files.proofs.lists.load_list.Goals as goal

pub returns-clause-loaded : goal.returns-clause-loaded
returns-clause-loaded g c =
    let form = key_form c.args.table.now c.args.index.now in
    record {
      found = Some c.in-Ok.bytes.items;
      held = subst (λ (name : List ℕ). g.F.Files.holds c.args.files.now name (Some c.in-Ok.bytes.items))
          (c.as_str.ensures.value ∙ c.index_file_name-name.ensures) c.in-Ok.ensures.found.0;
      form = c.in_ok-list.ensures.form;
      just = λ pairs. (
        λ h. (
          c.in-Ok.ensures.found.1,
          subst (λ (b : List ℕ). IsIndexFile b form pairs) c.as_slice.ensures.value
              ((c.in_ok-list.ensures.just pairs).0 h),
        ),
        λ h. (c.in_ok-list.ensures.just pairs).1
            (subst (λ (b : List ℕ). IsIndexFile b form pairs) (sym c.as_slice.ensures.value) h.1),
      );
    }
