use Rattle.std.proofs.Common.{inr, subst}
use Rattle.folder_shapes.specs.Reading.{NoFileOfIndex, NoIndexIs}
use Rattle.folder_shapes.proofs.FolderLemmas.{unfit_map}
use Rattle.folder_shapes.proofs.folder.index_file.Goals as goal

pub returns-clause-unfit : goal.returns-clause-unfit
returns-clause-unfit g c =
    unfit_map (NoIndexIs c.as_slice.result.now) (NoFileOfIndex (g.F.Files.holds c.args.files.now) c.args.name.now)
    c.in-Err.unfit
    (λ n h. inr (
      c.in_ok-bytes.bytes.items,
      c.in_ok-bytes.ensures.bytes,
      subst (λ b. NoIndexIs b n)
          c.as_slice.ensures.value h,
    ))
    c.in-Err.ensures.unfit
