use Rattle.open_table.proofs.SlotLemmas.{on_err}
use Rattle.open_table.proofs.MakingLemmas.{put_back}
use Rattle.open_table.proofs.slots.make_all.Goals as goal

pub returns-then-is_err-clause-err : goal.returns-then-is_err-clause-err
returns-then-is_err-clause-err g c = on_err _ _
    (put_back c.args.table.now.structure c.args.table.now.rows c.args.slots.now.items c.prepare_all-made.new.slots.items
    c.discard_all.new.slots.items c.requires.exact c.prepare_all-made.ensures.puts c.discard_all.ensures)
