-- By the file's name.
use Rattle.std.proofs.Common.{◌↔◌, IsTrue}
use Rattle.std.proofs.lemmas.Result.{IfOk-weaker}
use Rattle.save_rules.specs.Unchanged.{HoldOneTable, HoldOneIndex, HoldTheSame}
use Rattle.save_rules.proofs.NameLemmas.{by_table, by_index, done_alone, through}
use Rattle.save_rules.proofs.unchanged.hold_the_same.Goals as goal

pub returns-in-Table : goal.returns-in-Table
returns-in-Table c =
    let name = c.args.name.now in
    let read = c.args.read.now in
    let new = c.args.new.now in
    let table = rw c.in-Table.is at c.recorded_as.ensures in
    IfOk-weaker c.hold_one_table.result (λ same. IsTrue same ↔ HoldOneTable read new)
    (λ same. IsTrue same ↔ HoldTheSame name read new)
    (through (HoldOneTable read new) (HoldTheSame name read new) (by_table name read new table)) c.hold_one_table.ensures

pub returns-in-Index : goal.returns-in-Index
returns-in-Index c =
    let name = c.args.name.now in
    let read = c.args.read.now in
    let new = c.args.new.now in
    let index = rw c.in-Index.is at c.recorded_as.ensures in
    IfOk-weaker c.hold_one_index.result (λ same. IsTrue same ↔ HoldOneIndex read new)
    (λ same. IsTrue same ↔ HoldTheSame name read new)
    (through (HoldOneIndex read new) (HoldTheSame name read new) (by_index name read new index)) c.hold_one_index.ensures

pub returns-in-Done : goal.returns-in-Done
returns-in-Done c =
    let done = rw c.in-Done.is at c.recorded_as.ensures in
    (λ no. absurd cc, λ same. absurd (done_alone c.in-Done.journal.now c.args.name.now c.args.read.now c.args.new.now done same))
