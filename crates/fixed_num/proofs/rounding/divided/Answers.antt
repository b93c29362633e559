use Rattle.std.proofs.Common.{◌∙◌, refl, sym, arith, ◌<◌, ◌≤◌, ◌-◌, ◌*◌, ◌/◌, ◌^◌}
use Rattle.std.proofs.Math.Nat.{mod-lt}
use Rattle.fixed_num.specs.Number.{magnitude_limit}
use Rattle.fixed_num.proofs.DivisionLemmas.{first_fits, too_long, both_fit, groups_joined, places_split}
use Rattle.fixed_num.proofs.rounding.divided.Goals as goal

pub round_up-requires-clause-room : goal.round_up-requires-clause-room
round_up-requires-clause-room c =
    let fits = first_fits c.from.result c.from-2.result c.min-first.result c.from-divisor.result (omega arith)
    (omega arith) (c.from-2.ensures ∙ c.power_of_ten.ensures.value) in
    rw (c.quotient_and_rest-group.ensures.whole) fits

pub returns-then-group-from : goal.returns-then-group-from
returns-then-group-from c =
    let group : magnitude_limit ≤ c.from.result * c.from-2.result / c.from-divisor.result =
    omega (arith, c.quotient_and_rest-group.ensures.whole) in
    let long = too_long c.from.result c.min-first.result c.args.places c.from-2.result
    (10 ^ (c.args.places - c.min-first.result)) c.from-divisor.result (omega arith) (omega arith)
    (c.from-2.ensures ∙ c.power_of_ten.ensures.value) refl group in
    rw (c.from.ensures, c.from-divisor.ensures) at long

pub round_up-requires-2-clause-room : goal.round_up-requires-2-clause-room
round_up-requires-2-clause-room c =
    let x = c.from.result * c.from-2.result in
    let q = c.from-divisor.result in
    let group = c.quotient_and_rest-group.result in
    let positive : 0 < q = omega arith in
    let rest : group.rest < 2 ^ 64 = omega (arith, mod-lt x positive, c.quotient_and_rest-group.ensures.rest) in
    let fits = both_fit group.whole group.rest c.from-more.result (c.args.places - c.min-first.result) q (omega arith)
    rest (omega arith) (c.from-more.ensures ∙ c.power_of_ten-2.ensures.value) in
    rw (c.quotient_and_rest-others.ensures.whole) fits

pub overflow_add-digits : goal.overflow_add-digits
overflow_add-digits c = omega (arith, round_up-requires-2-clause-room c)

pub returns : goal.returns
returns c =
    let x = c.from.result * c.from-2.result in
    let group = c.quotient_and_rest-group.ensures in
    let others = c.quotient_and_rest-others.ensures in
    let split = places_split c.from.result c.min-first.result c.args.places c.from-2.result c.from-more.result
    (omega arith) (c.from-2.ensures ∙ c.power_of_ten.ensures.value)
    (c.from-more.ensures ∙ c.power_of_ten-2.ensures.value) in
    let joined = groups_joined x c.from-more.result c.from-divisor.result ∙ sym split in
    let found = rw (others.whole, others.rest, group.whole, group.rest) at c.round_up-2.ensures in
    let e = rw joined at found in
    rw (c.from.ensures, c.from-divisor.ensures) at e
