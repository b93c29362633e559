use Rattle.run_commands.proofs.Reported.{saved_run, stopped_run}
use Rattle.run_commands.proofs.running.full_run.Goals as goal

pub returns-clause-done : goal.returns-clause-done
returns-clause-done g c = saved_run _ _ _ _ _ _ _ _ _ _ (record {
  same = c.in_ok-store.ensures.kept;
  lent = c.code.ensures.same;
  accepted = c.code.ensures.accepted;
  store = _;
  limit = _;
  limited = c.records.ensures.smaller;
  loaded = c.in_ok-store.ensures.loaded;
  run = c.in_ok-done.ensures;
}) c.save_run.ensures.rows _ c.save_run.ensures.told c.save_run.ensures.saved

pub returns-clause-stopped : goal.returns-clause-stopped
returns-clause-stopped g c =
    stopped_run _ _ _ _ _ _ c.in_ok-store.ensures.counted c.save_run.ensures.counted _ _ _ _ _ _ _ (record {
      same = c.in_ok-store.ensures.kept;
      lent = c.code.ensures.same;
      accepted = c.code.ensures.accepted;
      store = _;
      limit = _;
      limited = c.records.ensures.smaller;
      loaded = c.in_ok-store.ensures.loaded;
      run = c.in_ok-done.ensures;
    }) c.save_run.ensures.rows _ c.save_run.ensures.stopped
