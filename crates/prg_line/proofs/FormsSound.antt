-- Each reader of a form answers what the form's phrase says.
use Rattle.std.proofs.Common.{[], codes, true, false, Some, None}
use Rattle.prg_expr.specs.Grammar.{Spells}
use Rattle.prg_expr.specs.Tree.{Tree}
use Rattle.prg_line.specs.declared.statement.Toggle.{Toggle}
use Rattle.prg_line.specs.declared.statement.Toggle.TheVariants.{Exact, Deleted, Century}
use Rattle.prg_line.specs.Act as act
use Rattle.prg_line.specs.Forms as f
use Rattle.prg_line.specs.Forms.{change, is_at_end, is_at_number}
use Rattle.prg_line.specs.Commands as c
use Rattle.prg_line.proofs.Sound.{Sound, is_sound, then_sound, if_sound, taken_sound, clause_sound}
use Rattle.prg_line.proofs.PartsSound.{Law, expression_sound, name_sound, whole_sound, number_sound, comma_sound}
use Rattle.prg_line.proofs.PartsSound.{equal_sound, several_sound, refused_sound, prompt_sound as prompted}

pub replacement_sound : Law → Sound f.replacement c.Replacement
unfolding f.replacement
replacement_sound law =
    then_sound name_sound (λ s. clause_sound (codes "WITH")
    (then_sound (expression_sound law) (λ e. is_sound (change s e))))

pub show_sound : Law → Sound f.show c.Show
unfolding f.show
show_sound law =
    if_sound is_at_end (is_sound (act.Show []))
    (then_sound (several_sound (expression_sound law)) (λ es. is_sound (act.Show es)))

pub show_on_sound : Law → Sound f.show_on c.ShowOn
unfolding f.show_on
show_on_sound law = then_sound (several_sound (expression_sound law)) (λ es. is_sound (act.ShowOn es))

pub get_sound : Law → (row column : Tree) → Sound (f.get row column) (c.Then c.Name (λ v. c.Is (act.Get row column v)))
unfolding f.get
get_sound law row column = then_sound name_sound (λ v. is_sound (act.Get row column v))

pub say_get_sound : Law → (row column e : Tree)
    → Sound (f.say_get row column e) (c.Then c.Name (λ v. c.Is (act.SayGet row column e v)))
unfolding f.say_get
say_get_sound law row column e = then_sound name_sound (λ v. is_sound (act.SayGet row column e v))

pub say_sound : Law → (row column : Tree) → Sound (f.say row column) (c.Say row column)
unfolding f.say
say_sound law row column =
    clause_sound (codes "SAY") (then_sound (expression_sound law)
    (λ e. taken_sound (codes "GET") (say_get_sound law row column e) (is_sound (act.Say row column e))))

pub at_place_sound : Law → Sound f.at_place c.At
unfolding f.at_place
at_place_sound law =
    then_sound (expression_sound law)
    (λ row. comma_sound (then_sound (expression_sound law)
    (λ column. taken_sound (codes "GET") (get_sound law row column) (say_sound law row column))))

pub prompt_sound : Law → Sound f.prompt c.Prompt
unfolding f.prompt
prompt_sound law = prompted (codes "TO") (then_sound (expression_sound law) (λ e. is_sound (Some e)))

pub accept_sound : Law → Sound f.accept c.Accept
unfolding f.accept
accept_sound law =
    then_sound (prompt_sound law) (λ p. clause_sound (codes "TO")
    (then_sound name_sound (λ v. is_sound (act.Accept p v))))

pub wait_sound : Law → Sound f.wait c.Wait
unfolding f.wait
wait_sound law =
    then_sound (prompt_sound law) (λ p. taken_sound (codes "TO")
    (then_sound name_sound (λ v. is_sound (act.Wait p (Some v)))) (is_sound (act.Wait p None)))

pub assign_sound : Law → Sound f.assign c.Assign
unfolding f.assign
assign_sound law =
    then_sound name_sound (λ v. equal_sound (then_sound (expression_sound law) (λ e. is_sound (act.Assign v e))))

pub store_sound : Law → Sound f.store c.Store
unfolding f.store
store_sound law =
    then_sound (expression_sound law)
    (λ e. clause_sound (codes "TO") (then_sound (several_sound name_sound) (λ vs. is_sound (act.Store e vs))))

pub release_sound : Law → Sound f.release c.Release
unfolding f.release
release_sound law =
    refused_sound (codes "ALL") (then_sound (several_sound name_sound) (λ vs. is_sound (act.Release vs)))

pub private_sound : Law → Sound f.private c.Private
unfolding f.private
private_sound law = then_sound (several_sound name_sound) (λ vs. is_sound (act.Private vs))

pub parameters_sound : Law → Sound f.parameters c.Parameters
unfolding f.parameters
parameters_sound law = then_sound (several_sound name_sound) (λ vs. is_sound (act.Parameters vs))

pub call_sound : Law → Sound f.call c.Do
unfolding f.call
call_sound law =
    then_sound name_sound (λ p. taken_sound (codes "WITH")
    (then_sound (several_sound (expression_sound law)) (λ es. is_sound (act.Do p es))) (is_sound (act.Do p [])))

pub scan_condition_sound : Law → Sound f.scan_condition c.ScanFor
unfolding f.scan_condition
scan_condition_sound law =
    taken_sound (codes "FOR") (then_sound (expression_sound law) (λ e. is_sound (Some e))) (is_sound None)

pub use_table_sound : Law → Sound f.use_table c.Use
unfolding f.use_table
use_table_sound law =
    if_sound is_at_end (is_sound act.Close)
    (then_sound name_sound (λ t. taken_sound (codes "INDEX")
    (then_sound (several_sound name_sound) (λ is. is_sound (act.Use t is))) (is_sound (act.Use t []))))

pub select_sound : Law → Sound f.select c.Select
unfolding f.select
select_sound law =
    if_sound is_at_number (then_sound whole_sound (λ n. number_sound n))
    (then_sound name_sound (λ s. is_sound (act.Select (act.Named s))))

pub close_sound : Law → Sound f.close c.Close
unfolding f.close
close_sound law =
    taken_sound (codes "ALL") (is_sound act.CloseAll) (clause_sound (codes "DATABASES") (is_sound act.CloseAll))

pub order_sound : Law → Sound f.order c.Order
unfolding f.order
order_sound law = clause_sound (codes "TO") (then_sound whole_sound (λ n. is_sound (act.SetOrder n)))

pub filter_sound : Law → Sound f.filter c.Filter
unfolding f.filter
filter_sound law =
    clause_sound (codes "TO") (if_sound is_at_end (is_sound (act.SetFilter None))
    (then_sound (expression_sound law) (λ e. is_sound (act.SetFilter (Some e)))))

pub switch_sound : Law → (s : Toggle) → Sound (f.switch s) (c.Switch s)
unfolding f.switch
switch_sound law s =
    taken_sound (codes "ON") (is_sound (act.Set s true)) (clause_sound (codes "OFF") (is_sound (act.Set s false)))

pub century_sound : Law → Sound f.century (c.Key (codes "CENTURY") (c.Switch Century))
unfolding f.century
century_sound law = clause_sound (codes "CENTURY") (switch_sound law Century)

pub set_switch_sound : Law
    → Sound f.set_switch
    (c.Where (codes "EXACT") (c.Switch Exact)
    (c.Where (codes "DELETED") (c.Switch Deleted) (c.Key (codes "CENTURY") (c.Switch Century))))
unfolding f.set_switch
set_switch_sound law =
    taken_sound (codes "EXACT") (switch_sound law Exact)
    (taken_sound (codes "DELETED") (switch_sound law Deleted) (century_sound law))

pub set_sound : Law → Sound f.set c.Set
unfolding f.set
set_sound law =
    taken_sound (codes "ORDER") (order_sound law)
    (taken_sound (codes "FILTER") (filter_sound law) (set_switch_sound law))

pub go_record_sound : Law → Sound f.go_record (c.Then Spells (λ e. c.Is (act.Go (act.Record e))))
unfolding f.go_record
go_record_sound law = then_sound (expression_sound law) (λ e. is_sound (act.Go (act.Record e)))

pub go_sound : Law → Sound f.go c.Go
unfolding f.go
go_sound law =
    taken_sound (codes "TOP") (is_sound (act.Go act.Top))
    (taken_sound (codes "BOTTOM") (is_sound (act.Go act.Bottom)) (go_record_sound law))

pub skip_sound : Law → Sound f.skip c.Skip
unfolding f.skip
skip_sound law =
    if_sound is_at_end (is_sound (act.Skip None))
    (then_sound (expression_sound law) (λ e. is_sound (act.Skip (Some e))))

pub seek_sound : Law → Sound f.seek c.Seek
unfolding f.seek
seek_sound law = then_sound (expression_sound law) (λ e. is_sound (act.Seek e))

pub append_sound : Law → Sound f.append c.Append
unfolding f.append
append_sound law = clause_sound (codes "BLANK") (is_sound act.AppendBlank)

pub replace_sound : Law → Sound f.replace c.Replace
unfolding f.replace
replace_sound law = then_sound (several_sound (replacement_sound law)) (λ cs. is_sound (act.Replace cs))

pub index_sound : Law → Sound f.index c.Index
unfolding f.index
index_sound law =
    clause_sound (codes "ON") (then_sound (expression_sound law)
    (λ e. clause_sound (codes "TO") (then_sound name_sound (λ s. is_sound (act.IndexOn e s)))))
