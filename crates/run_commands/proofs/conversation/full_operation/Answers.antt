use Rattle.operating.proofs.AnswerLemmas.{on_err, unkept_none}
use Rattle.std.proofs.Common.{◌≡◌, length, subst, sym, refl}
use Rattle.code_items.specs.declared.code.Code.{Code}
use Rattle.run_commands.proofs.Operated.{saved_over, stopped_over}
use Rattle.run_commands.proofs.conversation.full_operation.Goals as goal

pub returns-clause-done : goal.returns-clause-done
returns-clause-done g c = saved_over _ _ _ _ _ _ _ _ _ _ _ (record {
  same = c.in_ok-store.ensures.kept;
  lent = c.code.ensures.same;
  accepted = c.code.ensures.accepted;
  store = _;
  limit = _;
  limited = c.records.ensures.smaller;
  loaded = c.in_ok-store.ensures.loaded;
  sound = c.in_ok-done.ensures.done;
}) c.save_run.ensures.rows _ c.save_run.ensures.told c.save_run.ensures.saved

pub returns-clause-stopped : goal.returns-clause-stopped
returns-clause-stopped g c =
    stopped_over _ _ _ _ _ _ c.in_ok-store.ensures.counted c.save_run.ensures.counted _ _ _ _ _ _ _ _ (record {
      same = c.in_ok-store.ensures.kept;
      lent = c.code.ensures.same;
      accepted = c.code.ensures.accepted;
      store = _;
      limit = _;
      limited = c.records.ensures.smaller;
      loaded = c.in_ok-store.ensures.loaded;
      sound = c.in_ok-done.ensures.done;
    }) c.save_run.ensures.rows _ c.save_run.ensures.stopped

pub save_run-requires-clause-count : goal.save_run-requires-clause-count
save_run-requires-clause-count g c =
    subst (λ (k : Code). length c.in_ok-done.done.banks.env.store.tables ≡ length k.declared.shape.tables)
    (sym c.code.ensures.same) c.in_ok-done.ensures.fits.count

pub returns-in_err-store-clause-unkept : goal.returns-in_err-store-clause-unkept
returns-in_err-store-clause-unkept g c = on_err _ _ (unkept_none _ _ _ _ refl refl)
