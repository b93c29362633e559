use Rattle.open_table.proofs.passes.sees.Goals as goal

pub returns : goal.returns
returns g c = λ shown answers. answers c.see.result
    (record { shown = _; shows = c.new.ensures; says = record { met = c.see.ensures } })
