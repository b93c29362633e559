use Rattle.std.proofs.Common.{◌≡◌, ℕ, List, length, sym, ◌∙◌, subst, arith, rules}
use Rattle.std.proofs.lemmas.List.{length-map}
use Rattle.std.proofs.lemmas.List.Sorted.{length_permutation}
use Rattle.std.specs.Global.{Vec}
use Rattle.row_changes.specs.Changes.{GoesAndComes}
use Rattle.row_changes.specs.Turns.{texts}
use Rattle.row_changes.proofs.Parts.{of_sorted}
use Rattle.row_changes.proofs.comparing.compare.Goals as goal

as_many : (rows sorted : List (Vec ℕ)) (n : ℕ) → n ≡ length sorted → length (texts sorted) ≡ length (texts rows)
    → n ≡ length (texts rows)
as_many rows sorted n e f = e ∙ sym (length-map sorted (λ (r : Vec ℕ). r.items)) ∙ f

pub returns : goal.returns
returns c =
    let b = c.in_ok-put_in_order.ensures in
    let a = c.in_ok-put_in_order-2.ensures in
    let goes = c.gone_and_come-goes.result.0 in
    let comes = c.gone_and_come-goes.result.1 in
    let counted = subst (λ (rows : List (Vec ℕ)). GoesAndComes (texts rows) (texts c.as_slice-2.result.now) goes comes)
    c.as_slice.ensures.value
    (record {
      stayed = c.gone_and_come-goes.ensures.stayed;
      gone = c.gone_and_come-goes.ensures.gone;
      come =
          c.gone_and_come-goes.ensures.come;
      parted = c.gone_and_come-goes.ensures.parted;
      goes_are =
          c.gone_and_come-goes.ensures.goes_are;
      comes_are = c.gone_and_come-goes.ensures.comes_are;
    }) in
    let sorted = subst (λ (rows : List (Vec ℕ)). GoesAndComes (texts c.put_in_order.new.rows.items) (texts rows) goes
    comes) c.as_slice-2.ensures.value counted in
    record {
      goes = goes;
      comes = comes;
      there = of_sorted (texts c.args.before.items) (texts c.args.after.items) (texts c.put_in_order.new.rows.items)
          (texts c.put_in_order-2.new.rows.items) goes comes b.same a.same sorted;
      were = as_many c.args.before.items c.put_in_order.new.rows.items c.len.result (search rules)
          (length_permutation (texts c.args.before.items) (texts c.put_in_order.new.rows.items) b.same);
      are = as_many c.args.after.items c.put_in_order-2.new.rows.items c.len-2.result (search rules)
          (length_permutation (texts c.args.after.items) (texts c.put_in_order-2.new.rows.items) a.same);
      changed = c.min-changed.ensures;
      removed = omega (arith, c.min-changed.ensures);
      added = omega (arith, c.min-changed.ensures);
    }
