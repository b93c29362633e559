use Rattle.std.proofs.Common.{subst}
use Rattle.xcode.specs.CodeFile.{CodeText}
use Rattle.file_commands.proofs.reading.read_code.Goals as goal

pub returns-in-Ok-clause-found : goal.returns-in-Ok-clause-found
returns-in-Ok-clause-found g c = record {
  bytes = c.in_ok-bytes.bytes.items;
  held = c.in_ok-bytes.ensures.held;
  text = subst (λ b. CodeText b c.in-Ok.code) c.as_slice.ensures.value c.in-Ok.ensures.found;
}
