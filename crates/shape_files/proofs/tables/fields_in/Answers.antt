use Rattle.std.proofs.Common.{inr, refl}
use Rattle.shape_files.proofs.tables.fields_in.Goals as goal

pub returns-in_default : goal.returns-in_default
returns-in_default c = record {
  fields = tt;
  refused = inr (
    refl,
    λ structure rows stamp text few.
        c.in_default.not-Memory (c.in-Err.ensures.only structure rows stamp text few),
  );
}
