use Rattle.std.proofs.Common.{◌≡◌, ℕ, List, length, sym, subst, ap, ◌∙◌}
use Rattle.code_items.specs.declared.state.State.{State}
use Rattle.code_rules.specs.Places.{start_of, state_at, or_state, map_at}
use Rattle.prg_laid.specs.Whole.{AreKnown}
use Rattle.prg_laid.proofs.Knowing.{first_flow, none_known, one_longer, one_more, state_is}
use Rattle.prg_laid.proofs.judging.known_places.Goals as goal

pub loop-place-init : goal.loop-place-init
loop-place-init c = record {
  many = ap length c.new-known.ensures;
  incoming = c.in_ok-incoming.ensures
      ∙ (ap (λ b. start_of c.args.code.now b.number) c.block_at.ensures ∙ first_flow c.args.code.now);
  are = subst (λ (ss : List State). AreKnown c.args.code.now ss) (sym c.new-known.ensures) (none_known c.args.code.now);
}

pub flowing-requires-clause-known : goal.flowing-requires-clause-known
flowing-requires-clause-known c =
    c.in_ok-state.ensures ∙ (ap (or_state (map_at c.args.code.now c.loop-place.place)) c.loop-place.invariant.incoming
    ∙ state_is c.args.code.now c.loop-place.place)

pub loop-place-preserved : goal.loop-place-preserved
loop-place-preserved c =
    let is : c.in_ok-state.state ≡ state_at c.args.code.now c.loop-place.place =
    c.in_ok-state.ensures ∙ (ap (or_state (map_at c.args.code.now c.loop-place.place))
    c.loop-place.invariant.incoming ∙ state_is c.args.code.now c.loop-place.place) in
    record {
      many = ap length c.in_ok-push.ensures
          ∙ one_longer c.loop-place.known c.in_ok-state.state c.loop-place.place c.loop-place.invariant.many;
      incoming = c.in_ok-incoming-2.ensures;
      are = subst (λ (ss : List State). AreKnown c.args.code.now ss) (sym c.in_ok-push.ensures)
          (one_more (λ (p : ℕ) (s : State). s ≡ state_at c.args.code.now p) c.loop-place.known c.in_ok-state.state
          c.loop-place.place c.loop-place.invariant.many c.loop-place.invariant.are is);
    }
