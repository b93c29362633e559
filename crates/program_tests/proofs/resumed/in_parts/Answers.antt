use Rattle.program_tests.proofs.resumed.in_parts.Goals as goal

pub resume-between-requires : goal.resume-between-requires
resume-between-requires c =
    let h = c.run-before.ensures c.requires.0 c.requires.1 in
    (h.world, h.goes_on)

pub resume-after-requires : goal.resume-after-requires
resume-after-requires c =
    let h = c.run-before.ensures c.requires.0 c.requires.1 in
    let k = c.resume-between.ensures h.world h.goes_on in
    (k.world, k.goes_on)
