use Rattle.std.proofs.Common.{refl, rules, subst}
use Rattle.code_items.specs.declared.code.Code.{Code}
use Rattle.prg_parser.specs.Commands.{commands_of}
use Rattle.prg_laid.specs.Whole.{IsLaid}
use Rattle.prg_laid.proofs.Finding.{on_done}
use Rattle.prg_laid.proofs.Knowing.{whole_as}
use Rattle.prg_laid.proofs.judging.demand_laid.Goals as goal

pub returns : goal.returns
returns c = on_done c.is_whole.result
    (λ x whole. subst (λ (code : Code). IsLaid code c.args.names.now (commands_of c.args.list.now))
    c.code-code.ensures.same (record {
      known = c.in_ok-known.known;
      are_known = c.in_ok-known.ensures;
      filters = c.in_ok-filters.filters.items;
      are_filters = c.in_ok-filters.ensures;
      slots = search rules;
      main = c.in-Some.main.now;
      first = c.in-Some.ensures;
      whole = whole_as c.code-code.result.now c.args.names.now c.as_slice.result.now c.as_slice-2.result.now
          c.in_ok-known.known c.in_ok-known.known c.deref.result.now c.in_ok-filters.filters.items
          (commands_of c.args.list.now) c.from-length.result c.in-Some.main.now.length
          c.as_slice.ensures c.as_slice-2.ensures refl c.deref.ensures.value c.from-length.ensures whole;
    })) c.is_whole.ensures
