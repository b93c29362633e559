-- What the phrase of a form says is found by its reader.
use Rattle.std.proofs.Common.{[], codes, true, false, Some, None}
use Rattle.prg_expr.specs.Grammar.{Spells, Free}
use Rattle.prg_expr.specs.Tree.{Tree}
use Rattle.prg_line.specs.declared.statement.Toggle.{Toggle}
use Rattle.prg_line.specs.declared.statement.Toggle.TheVariants.{Exact, Deleted, Century}
use Rattle.prg_line.specs.Act as act
use Rattle.prg_line.specs.Forms as f
use Rattle.prg_line.specs.Forms.{change}
use Rattle.prg_line.specs.Commands as c
use Rattle.prg_line.proofs.Full.{Full, Ended, Anything, is_full, key_full, where_full, end_full, refused_full}
use Rattle.prg_line.proofs.PartsFull.{FoundLaw, expression_full, name_full, whole_full, number_full, comma_full}
use Rattle.prg_line.proofs.PartsFull.{equal_full, several_full, spells_filled, several_filled, name_filled, then_filled}
use Rattle.prg_line.proofs.PartsFull.{free_open, list_open, names_open, any_begins, is_begins, same_begins, key_begins}
use Rattle.prg_line.proofs.PartsFull.{comma_begins, where_begins, both_full, BehindPrompt, prompted, prompt_begins}
use Rattle.prg_line.proofs.PartsFull.{to_begins, to_or_end, choice_full}

pub replacement_full : FoundLaw → Full f.replacement c.Replacement (Free 7)
unfolding f.replacement
replacement_full law =
    both_full name_full (λ s. key_full (codes "WITH")
    (both_full (expression_full law) (λ e. is_full (change s e)) (λ e. same_begins))) (λ s. any_begins)

pub show_full : FoundLaw → Full f.show c.Show Ended
unfolding f.show
show_full law =
    end_full (act.Show []) (then_filled (several_filled (spells_filled law)))
    (both_full (several_full f.expression Spells (Free 7) (expression_full law) (λ ws. tt))
    (λ es. is_full (act.Show es)) (λ es. is_begins list_open))

pub show_on_full : FoundLaw → Full f.show_on c.ShowOn Ended
unfolding f.show_on
show_on_full law =
    both_full (several_full f.expression Spells (Free 7) (expression_full law) (λ ws. tt))
    (λ es. is_full (act.ShowOn es)) (λ es. is_begins list_open)

pub get_full : FoundLaw → (row column : Tree)
    → Full (f.get row column) (c.Then c.Name (λ v. c.Is (act.Get row column v))) Ended
unfolding f.get
get_full law row column = both_full name_full (λ v. is_full (act.Get row column v)) (λ v. any_begins)

pub say_get_full : FoundLaw → (row column e : Tree)
    → Full (f.say_get row column e) (c.Then c.Name (λ v. c.Is (act.SayGet row column e v))) Ended
unfolding f.say_get
say_get_full law row column e = both_full name_full (λ v. is_full (act.SayGet row column e v)) (λ v. any_begins)

pub say_full : FoundLaw → (row column : Tree) → Full (f.say row column) (c.Say row column) Ended
unfolding f.say
say_full law row column =
    key_full (codes "SAY") (both_full (expression_full law)
    (λ e. where_full (codes "GET") (say_get_full law row column e) (is_full (act.Say row column e)))
    (λ e. where_begins (codes "GET") free_open (is_begins free_open)))

pub at_place_full : FoundLaw → Full f.at_place c.At Ended
unfolding f.at_place
at_place_full law =
    both_full (expression_full law)
    (λ row. comma_full (both_full (expression_full law)
    (λ column. where_full (codes "GET") (get_full law row column) (say_full law row column))
    (λ column. where_begins (codes "GET") free_open (key_begins (codes "SAY") free_open)))) (λ row. comma_begins)

pub prompt_full : FoundLaw → Full f.prompt c.Prompt BehindPrompt
unfolding f.prompt
prompt_full law =
    prompted (then_filled (spells_filled law))
    (both_full (expression_full law) (λ e. is_full (Some e)) (λ e. prompt_begins))

pub accept_full : FoundLaw → Full f.accept c.Accept Ended
unfolding f.accept
accept_full law =
    both_full (prompt_full law) (λ p. key_full (codes "TO")
    (both_full name_full (λ v. is_full (act.Accept p v)) (λ v. any_begins))) (λ p. to_begins)

pub wait_full : FoundLaw → Full f.wait c.Wait Ended
unfolding f.wait
wait_full law =
    both_full (prompt_full law) (λ p. where_full (codes "TO")
    (both_full name_full (λ v. is_full (act.Wait p (Some v))) (λ v. any_begins)) (is_full (act.Wait p None)))
    (λ p. to_or_end)

pub assign_full : FoundLaw → Full f.assign c.Assign Ended
unfolding f.assign
assign_full law =
    both_full name_full (λ v. equal_full
    (both_full (expression_full law) (λ e. is_full (act.Assign v e)) (λ e. is_begins free_open))) (λ v. any_begins)

pub store_full : FoundLaw → Full f.store c.Store Ended
unfolding f.store
store_full law =
    both_full (expression_full law)
    (λ e. key_full (codes "TO") (both_full (several_full f.name c.Name Anything name_full (λ ws. tt))
    (λ vs. is_full (act.Store e vs)) (λ vs. is_begins names_open))) (λ e. key_begins (codes "TO") free_open)

pub release_full : FoundLaw → Full f.release c.Release Ended
unfolding f.release
release_full law =
    refused_full (codes "ALL") (both_full (several_full f.name c.Name Anything name_full (λ ws. tt))
    (λ vs. is_full (act.Release vs)) (λ vs. is_begins names_open))

pub private_full : FoundLaw → Full f.private c.Private Ended
unfolding f.private
private_full law =
    both_full (several_full f.name c.Name Anything name_full (λ ws. tt)) (λ vs. is_full (act.Private vs))
    (λ vs. is_begins names_open)

pub parameters_full : FoundLaw → Full f.parameters c.Parameters Ended
unfolding f.parameters
parameters_full law =
    both_full (several_full f.name c.Name Anything name_full (λ ws. tt)) (λ vs. is_full (act.Parameters vs))
    (λ vs. is_begins names_open)

pub call_full : FoundLaw → Full f.call c.Do Ended
unfolding f.call
call_full law =
    both_full name_full (λ p. where_full (codes "WITH")
    (both_full (several_full f.expression Spells (Free 7) (expression_full law) (λ ws. tt))
    (λ es. is_full (act.Do p es)) (λ es. is_begins list_open)) (is_full (act.Do p []))) (λ p. any_begins)

pub scan_condition_full : FoundLaw → Full f.scan_condition c.ScanFor Ended
unfolding f.scan_condition
scan_condition_full law =
    where_full (codes "FOR") (both_full (expression_full law) (λ e. is_full (Some e)) (λ e. is_begins free_open))
    (is_full None)

pub use_table_full : FoundLaw → Full f.use_table c.Use Ended
unfolding f.use_table
use_table_full law =
    end_full (act.Close) (then_filled name_filled)
    (both_full name_full (λ t. where_full (codes "INDEX")
    (both_full (several_full f.name c.Name Anything name_full (λ ws. tt)) (λ is. is_full (act.Use t is))
    (λ is. is_begins names_open)) (is_full (act.Use t []))) (λ t. any_begins))

pub select_full : FoundLaw → Full f.select c.Select Ended
unfolding f.select
select_full law =
    choice_full (both_full whole_full number_full (λ n. any_begins))
    (both_full name_full (λ s. is_full (act.Select (act.Named s))) (λ s. any_begins))

pub close_full : FoundLaw → Full f.close c.Close Ended
unfolding f.close
close_full law = where_full (codes "ALL") (is_full act.CloseAll) (key_full (codes "DATABASES") (is_full act.CloseAll))

pub order_full : FoundLaw → Full f.order c.Order Ended
unfolding f.order
order_full law = key_full (codes "TO") (both_full whole_full (λ n. is_full (act.SetOrder n)) (λ n. any_begins))

pub filter_full : FoundLaw → Full f.filter c.Filter Ended
unfolding f.filter
filter_full law =
    key_full (codes "TO") (end_full (act.SetFilter None) (then_filled (spells_filled law))
    (both_full (expression_full law) (λ e. is_full (act.SetFilter (Some e))) (λ e. is_begins free_open)))

pub switch_full : FoundLaw → (s : Toggle) → Full (f.switch s) (c.Switch s) Ended
unfolding f.switch
switch_full law s =
    where_full (codes "ON") (is_full (act.Set s true)) (key_full (codes "OFF") (is_full (act.Set s false)))

pub century_full : FoundLaw → Full f.century (c.Key (codes "CENTURY") (c.Switch Century)) Ended
unfolding f.century
century_full law = key_full (codes "CENTURY") (switch_full law Century)

pub set_switch_full : FoundLaw
    → Full f.set_switch
    (c.Where (codes "EXACT") (c.Switch Exact)
    (c.Where (codes "DELETED") (c.Switch Deleted) (c.Key (codes "CENTURY") (c.Switch Century)))) Ended
unfolding f.set_switch
set_switch_full law =
    where_full (codes "EXACT") (switch_full law Exact)
    (where_full (codes "DELETED") (switch_full law Deleted) (century_full law))

pub set_full : FoundLaw → Full f.set c.Set Ended
unfolding f.set
set_full law =
    where_full (codes "ORDER") (order_full law) (where_full (codes "FILTER") (filter_full law) (set_switch_full law))

pub go_record_full : FoundLaw → Full f.go_record (c.Then Spells (λ e. c.Is (act.Go (act.Record e)))) Ended
unfolding f.go_record
go_record_full law = both_full (expression_full law) (λ e. is_full (act.Go (act.Record e))) (λ e. is_begins free_open)

pub go_full : FoundLaw → Full f.go c.Go Ended
unfolding f.go
go_full law =
    where_full (codes "TOP") (is_full (act.Go act.Top))
    (where_full (codes "BOTTOM") (is_full (act.Go act.Bottom)) (go_record_full law))

pub skip_full : FoundLaw → Full f.skip c.Skip Ended
unfolding f.skip
skip_full law =
    end_full (act.Skip None) (then_filled (spells_filled law))
    (both_full (expression_full law) (λ e. is_full (act.Skip (Some e))) (λ e. is_begins free_open))

pub seek_full : FoundLaw → Full f.seek c.Seek Ended
unfolding f.seek
seek_full law = both_full (expression_full law) (λ e. is_full (act.Seek e)) (λ e. is_begins free_open)

pub append_full : FoundLaw → Full f.append c.Append Ended
unfolding f.append
append_full law = key_full (codes "BLANK") (is_full act.AppendBlank)

pub replace_full : FoundLaw → Full f.replace c.Replace Ended
unfolding f.replace
replace_full law =
    both_full (several_full f.replacement c.Replacement (Free 7) (replacement_full law) (λ ws. tt))
    (λ cs. is_full (act.Replace cs)) (λ cs. is_begins list_open)

pub index_full : FoundLaw → Full f.index c.Index Ended
unfolding f.index
index_full law =
    key_full (codes "ON") (both_full (expression_full law)
    (λ e. key_full (codes "TO") (both_full name_full (λ s. is_full (act.IndexOn e s)) (λ s. any_begins)))
    (λ e. key_begins (codes "TO") free_open))
