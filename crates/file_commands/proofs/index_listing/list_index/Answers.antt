use Rattle.std.proofs.Common.{refl, subst}
use Rattle.ndx_tree.specs.Walk.{IsFirstFault}
use Rattle.file_commands.proofs.index_listing.list_index.Goals as goal

pub returns-in-Err-clause-refused : goal.returns-in-Err-clause-refused
returns-in-Err-clause-refused g c = (
  refl,
  record {
    bytes = c.in_ok-bytes.bytes.items;
    held = c.in_ok-bytes.ensures.held;
    faulty = subst (λ b. IsFirstFault b c.in-Err.fault) c.as_slice.ensures.value c.in-Err.ensures.fault;
  },
)
