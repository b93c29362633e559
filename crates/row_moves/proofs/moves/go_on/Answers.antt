use Rattle.std.proofs.Common.{◌≡◌, ℕ, ◌-◌, ◌⊎◌, inl, inr, Bool, true, false, not, ◌&&◌, Option, Some, None, List, sym}
use Rattle.std.proofs.Common.{ap, ◌∙◌, refl, arith}
use Rattle.std.specs.Option.{is_none, is_some, option_map}
use Rattle.std.proofs.lemmas.Result.{err_from_is_err_and}
use Rattle.key_lists.specs.Pairs.{Pair}
use Rattle.row_moves.specs.Orders.{candidates, Sees}
use Rattle.row_moves.specs.Moves.{first_shown, met, hop, hops, Landing}
use Rattle.row_moves.proofs.Steps.{hops_past, hops_step, hop_on, hop_met, lands_at, none_mapped, row_mapped, end_mapped}
use Rattle.row_moves.proofs.moves.go_on.Goals as goal
use Rattle.row_moves.proofs.moves.go_on.Goals.{else-loop-left-test, then-loop-left-test+then-is_past}

-- whether a move forward begins at the end of file, of a place and of its pair
past : {P : Type 0} (pair : P → Pair) (forward : Bool) (at : Option P) (b : Bool) → forward && is_none at ≡ b
    → forward && is_none (option_map pair at) ≡ b
past pair forward at b e = ap (λ n. forward && n) (none_mapped pair at) ∙ e

pub returns-in_err-next-clause-lands : goal.returns-in_err-next-clause-lands
returns-in_err-next-clause-lands g c = λ shown sees.
    let p = err_from_is_err_and c.from_residual.result c.from_residual.ensures.1 in
    let pair = g.O.RowOrder.pair in
    let forward = c.args.forward in
    let at = option_map pair c.loop-left.at in
    let pairs : List Pair = (g.O.RowOrder.list c.args.order.now).pairs in
    let inv = c.loop-left.invariant in
    let scan = rw inv.same at c.in_err-next.ensures.scan in
    let over = scan shown sees in
    let step = hops_step shown forward c.loop-left.left at pairs (omega arith)
    (past pair forward c.loop-left.at false (sym c.is_past.ensures ∙ c.if-is_past.false)) in
    let most = hop_met forward at (met shown (candidates forward at pairs))
    (first_shown shown (candidates forward at pairs))
    (λ q. hops shown forward (c.loop-left.left - 1) (Some q) pairs) in
    rw p.1 (omega (arith, over, most, ap (λ (l : Landing). l.met) step, inv.met shown sees))

none_of : {P : Type 0} (a : Option P) → is_some a ≡ false → a ≡ None
none_of None e = refl
none_of (Some p) e = cc

not_none : {P : Type 0} (a : Option P) → is_some a ≡ true → is_none a ≡ false
not_none None e = cc
not_none (Some p) e = refl

pub returns-then-is_none-clause-lands : goal.returns-then-is_none-clause-lands
returns-then-is_none-clause-lands g c = λ shown sees.
    let pair = g.O.RowOrder.pair in
    let forward = c.args.forward in
    let at = option_map pair c.loop-left.at in
    let pairs : List Pair = (g.O.RowOrder.list c.args.order.now).pairs in
    let inv = c.loop-left.invariant in
    let scan = rw inv.same at c.in_ok-next.ensures.scan in
    let here = scan shown sees in
    let step = hops_step shown forward c.loop-left.left at pairs (omega arith)
    (past pair forward c.loop-left.at false (sym c.is_past.ensures ∙ c.if-is_past.false)) in
    let nothing = sym here.0 ∙ ap (option_map pair) (none_of c.in_ok-next.next c.if-is_none.ensures) in
    let last = step ∙ ap (λ a. hop forward at (met shown (candidates forward at pairs)) a
    (λ q. hops shown forward (c.loop-left.left - 1) (Some q) pairs)) nothing in
    lands_at shown forward c.args.steps (option_map pair c.args.from) pairs c.args.budget c.landed.result
    c.end_from.result c.in_ok-next.met (not forward) c.landed.ensures
    (c.end_from.ensures ∙ end_mapped pair forward c.loop-left.at ∙ ap (option_map (λ (p : Pair). p.1))
    (sym (ap (λ (l : Landing). l.at) last) ∙ inv.at shown sees))
    (omega (arith, here.1, ap (λ (l : Landing). l.met) last, inv.met shown sees))
    here.2
    (sym (ap (λ (l : Landing). l.bof) last) ∙ inv.bof shown sees)

pub loop-left-preserved : goal.loop-left-preserved
loop-left-preserved g c =
    let pair = g.O.RowOrder.pair in
    let forward = c.args.forward in
    let at = option_map pair c.loop-left.at in
    let next = option_map pair c.in_ok-next.next in
    let pairs : List Pair = (g.O.RowOrder.list c.args.order.now).pairs in
    let inv = c.loop-left.invariant in
    let scan = rw inv.same at c.in_ok-next.ensures.scan in
    let on = λ (shown : ℕ → Bool) (sees : Sees (goal.F-post g) c.args.see.now pairs shown).
    let here = scan shown sees in
    hops_step shown forward c.loop-left.left at pairs (omega arith)
    (past pair forward c.loop-left.at false (sym c.is_past.ensures ∙ c.if-is_past.false))
    ∙ ap (λ a. hop forward at (met shown (candidates forward at pairs)) a
    (λ q. hops shown forward (c.loop-left.left - 1) (Some q) pairs)) (sym here.0)
    ∙ hop_on shown forward (c.loop-left.left - 1) at pairs (met shown (candidates forward at pairs)) next
    (none_mapped pair c.in_ok-next.next ∙ not_none c.in_ok-next.next c.if-is_none.ensures) in
    record {
      same = c.in_ok-next.ensures.same ∙ inv.same;
      in_budget = c.in_ok-next.ensures.in_budget;
      at = λ shown sees. sym (ap (λ (l : Landing). l.at) (on shown sees)) ∙ inv.at shown sees;
      bof = λ shown sees. sym (ap (λ (l : Landing). l.bof) (on shown sees)) ∙ inv.bof shown sees;
      met = λ shown sees. omega (
        arith,
        (scan shown sees).1,
        ap (λ (l : Landing). l.met) (on shown sees),
        inv.met shown
            sees,
      );
    }

-- where the loop ends, nothing is left to do
done : (shown : ℕ → Bool) (forward : Bool) (n : ℕ) (at : Option Pair) (pairs : List Pair)
    → (n ≡ 0) ⊎ (forward && is_none at ≡ true) → hops shown forward n at pairs
    ≡ record { at = at; met = 0; bof = false; found = false }
done shown forward n at pairs (inl e) = rw e refl
done shown forward n None pairs (inr e) = hops_past shown forward n None pairs e
done shown true n (Some p) pairs (inr e) = cc
done shown false n (Some p) pairs (inr e) = cc

pub returns-clause-lands : goal.returns-clause-lands
returns-clause-lands g c = λ shown sees.
    let pair = g.O.RowOrder.pair in
    let at = option_map pair c.loop-left.at in
    let pairs : List Pair = (g.O.RowOrder.list c.args.order.now).pairs in
    let inv = c.loop-left.invariant in
    let over : (c.loop-left.left ≡ 0) ⊎ (c.args.forward && is_none at ≡ true) =
    elim c.loop-left-test.branch [
      | else-loop-left-test w ↦ inl (omega arith)
      | then-loop-left-test+then-is_past w ↦
          inr (past pair c.args.forward c.loop-left.at true (sym w.is_past.ensures ∙ w.if-is_past.true))
    ] in
    let last = done shown c.args.forward c.loop-left.left at pairs over in
    lands_at shown c.args.forward c.args.steps (option_map pair c.args.from) pairs c.args.budget c.landed-2.result
    c.record_of.result c.loop-left.cost false c.landed-2.ensures
    (c.record_of.ensures ∙ row_mapped pair c.loop-left.at ∙ ap (option_map (λ (p : Pair). p.1))
    (sym (ap (λ (l : Landing). l.at) last) ∙ inv.at shown sees))
    (omega (arith, ap (λ (l : Landing). l.met) last, inv.met shown sees))
    inv.in_budget
    (sym (ap (λ (l : Landing). l.bof) last) ∙ inv.bof shown sees)
