use Rattle.std.proofs.Common.{◌≤◌, ◌^◌, arith}
use Rattle.dbf_file.proofs.TableLemmas.{span_within, small_size, places_fit}
use Rattle.dbf_file.proofs.table.span_of.Goals as goal

pub place_of-start-requires-clause-small : goal.place_of-start-requires-clause-small
place_of-start-requires-clause-small c = (small_size c.args.structure.now c.args.size c.requires.good c.requires.size).1

pub overflow_add-result : goal.overflow_add-result
overflow_add-result c =
    let small = small_size c.args.structure.now c.args.size c.requires.good c.requires.size in
    let most = places_fit c.args.rows c.args.size (let few : c.args.rows ≤ 2 ^ 32 = omega arith in few) small.1 in
    let within = span_within c.args.structure.now c.fields.result.now c.args.size c.args.rows c.args.r c.args.f
    c.place_of-start.result c.width_of.result c.fields.ensures c.place_of-start.ensures
    c.width_of.ensures.value c.requires.size c.requires.row c.requires.field in
    omega (arith, most, within)

pub returns-clause-within : goal.returns-clause-within
returns-clause-within c = span_within c.args.structure.now c.fields.result.now c.args.size c.args.rows c.args.r
    c.args.f c.place_of-start.result c.width_of.result c.fields.ensures c.place_of-start.ensures
    c.width_of.ensures.value c.requires.size c.requires.row c.requires.field
