use Rattle.xcode.proofs.WritingLaws.{writable}
use Rattle.xcode.proofs.encoding.encode.Goals as goal

pub encode_fitting-requires : goal.encode_fitting-requires
encode_fitting-requires c = writable c.code.result.now c.code.ensures.legal
