use Rattle.std.specs.Char.{to_ascii_uppercase}
use Rattle.xvalue.proofs.TextLemmas.{mapped_whole}
use Rattle.xvalue.proofs.texts.write_upper.Goals as goal

pub returns : goal.returns
returns c =
    mapped_whole to_ascii_uppercase c.args.bytes.now c.write.new.text.items c.as_mut_slice.result.now
    c.make_ascii_uppercase.new.self c.write.ensures c.as_mut_slice.ensures.value c.make_ascii_uppercase.ensures.after
