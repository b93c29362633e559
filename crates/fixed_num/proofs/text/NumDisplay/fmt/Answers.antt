use Rattle.fixed_num.proofs.AsciiLemmas.{text_of-utf8}
use Rattle.fixed_num.proofs.text.NumDisplay.fmt.Goals as goal

pub unreachable-requires : goal.unreachable-requires
unreachable-requires g c =
    c.in-Err.ensures.cases.0 (rw (c.as_slice.ensures.value, c.text-text.ensures) (text_of-utf8 c.args.self.now))
