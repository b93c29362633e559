use Rattle.std.proofs.Common.{None, refl, ap, sym, subst}
use Rattle.std.specs.Fn.{FnReturnsAt}
use Rattle.code_items.specs.declared.instr.MoveInstr.{MoveInstr}
use Rattle.code_items.specs.declared.instr.MoveInstr.TheVariants.{Top, Bottom, Skip, Seek}
use Rattle.open_table.specs.Open.{landed}
use Rattle.work_area.specs.Calls.{top_of, bottom_of, skip_of, seek_of}
use Rattle.run_steps.specs.Effects.{top, whole_on_top}
use Rattle.run_steps.specs.Needs.{GivenNeeds}
use Rattle.run_steps.proofs.Walks.{walks_here, goes_here}
use Rattle.run_steps.proofs.on_moves.walk.Goals as goal

pub returns-in-Top : goal.returns-in-Top
returns-in-Top g c = λ t s n.
    rw c.in-Top.is (walks_here (FnReturnsAt g.F.Fn) c.args.see Top None c.args.exact c.args.left
    (top_of) c.args.store.now c.top.new.self c.top.result c.settled.result
    (λ o shown. refl) (λ o shown. refl) c.top.ensures c.settled.ensures)

pub returns-in-Bottom : goal.returns-in-Bottom
returns-in-Bottom g c = λ t s n.
    rw c.in-Bottom.is (walks_here (FnReturnsAt g.F.Fn) c.args.see Bottom None c.args.exact c.args.left
    (bottom_of) c.args.store.now c.bottom.new.self c.bottom.result c.settled-in-Bottom.result
    (λ o shown. refl) (λ o shown. refl) c.bottom.ensures c.settled-in-Bottom.ensures)

pub returns-in-Skip : goal.returns-in-Skip
returns-in-Skip g c = λ t s n.
    let skips = c.skip.ensures t s (subst (λ (i : MoveInstr). GivenNeeds i t) c.in-Skip.is n) in
    rw c.in-Skip.is (walks_here (FnReturnsAt g.F.Fn) c.args.see Skip (top t) c.args.exact c.args.left
    (skip_of (whole_on_top (top t))) c.args.store.now c.skip.new.store c.skip.result c.settled-in-Skip.result
    (λ o shown. refl) (λ o shown. refl) skips c.settled-in-Skip.ensures)

pub returns-in-Seek : goal.returns-in-Seek
returns-in-Seek g c = λ t s n.
    let same = sym (c.text.ensures t s (subst (λ (i : MoveInstr). GivenNeeds i t) c.in-Seek.is n)) in
    rw c.in-Seek.is (walks_here (FnReturnsAt g.F.Fn) c.args.see Seek (top t) c.args.exact c.args.left
    (seek_of c.args.exact c.text.result.now) c.args.store.now c.seek.new.self c.seek.result c.settled-in-Seek.result
    (λ o shown. ap (λ k. landed o (seek_of c.args.exact k o shown)) same)
    (λ o shown. ap (λ k. seek_of c.args.exact k o shown) same) c.seek.ensures c.settled-in-Seek.ensures)

pub returns-in-Go : goal.returns-in-Go
returns-in-Go g c = λ t s n.
    let same = c.record_given.ensures t s (subst (λ (i : MoveInstr). GivenNeeds i t) c.in-Go.is n) in
    rw c.in-Go.is (goes_here
    (FnReturnsAt g.F.Fn) c.args.see c.record_given.result (top t) c.args.exact c.args.left c.args.store.now
    c.go.new.store c.go.result
    c.requires.open same c.go.ensures.done c.go.ensures.grows)
