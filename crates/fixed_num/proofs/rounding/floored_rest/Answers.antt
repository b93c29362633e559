use Rattle.fixed_num.proofs.RemainderLemmas.{rest_differs, rest_equal, rest_without}
use Rattle.fixed_num.proofs.rounding.floored_rest.Goals as goal

pub returns-then-rest-ne0 : goal.returns-then-rest-ne0
returns-then-rest-ne0 c =
    rest_differs c.args.dividend_negative c.args.divisor_negative c.args.dividend c.args.divisor
    c.quotient_and_rest-rest.result.rest c.quotient_and_rest-rest.ensures.rest c.requires
    c.if-dividend_negative-divisor_negative.true c.if-rest-ne0.true

pub returns-else-dividend_negative-divisor_negative : goal.returns-else-dividend_negative-divisor_negative
returns-else-dividend_negative-divisor_negative c =
    elim c.else-dividend_negative-divisor_negative.branch [
      | goal.else-dividend_negative-divisor_negative-via-then-dividend_negative-divisor_negative+else-rest-ne0 w ↦
          rest_without c.args.dividend_negative c.args.divisor_negative c.args.dividend c.args.divisor
          c.quotient_and_rest-rest.result.rest c.quotient_and_rest-rest.ensures.rest c.requires w.if-rest-ne0.false
      | goal.else-dividend_negative-divisor_negative-via-else-dividend_negative-divisor_negative w ↦ rest_equal
          c.args.dividend_negative c.args.divisor_negative c.args.dividend c.args.divisor
          c.quotient_and_rest-rest.result.rest c.quotient_and_rest-rest.ensures.rest c.requires
          w.if-dividend_negative-divisor_negative.false
    ]
