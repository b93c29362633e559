-- A walk along both lists.
use Rattle.std.proofs.Common.{◌≡◌, ◌↔◌, Some, sym, ap, ◌∙◌, subst}
use Rattle.save_rules.proofs.PairLemmas.{left, begins, both_go_on, found_of, goes_on}
use Rattle.save_rules.proofs.unchanged.list_the_same.Goals as goal

pub loop-next-init : goal.loop-next-init
loop-next-init c =
    let one = c.args.one.now.pairs in
    let other = c.args.other.now.pairs in
    let meets = c.meets_each.ensures one c.len.ensures.sound.ordered in
    let meets_other = c.meets_each.ensures other c.len-2.ensures.sound.ordered in
    let first = begins one c.first-next.result meets c.first-next.ensures.found in
    let second = begins other c.first-other_next.result meets_other c.first-other_next.ensures.found in
    record {
      one = c.first-next.ensures.pairs;
      other = c.first-other_next.ensures.pairs;
      meets = meets;
      meets_other = meets_other;
      alike = (λ same. first ∙ same ∙ sym second, λ same. sym first ∙ same ∙ second);
    }

pub loop-next-preserved : goal.loop-next-preserved
loop-next-preserved c =
    let one = c.args.one.now.pairs in
    let other = c.args.other.now.pairs in
    let p = c.in-Some.pair in
    let q = c.in-Some-other_next.other_pair in
    let i = c.loop-next.invariant in
    let found = found_of c.key.result.now c.number.result p c.loop-next.one.pairs one c.after-next.result
    c.key.ensures.value c.number.ensures i.one c.after-next.ensures.found in
    let found_other = found_of c.key-in-Some.result.now c.number-in-Some.result p c.loop-next.other.pairs other
    c.after-other_next.result c.key-in-Some.ensures.value c.number-in-Some.ensures i.other c.after-other_next.ensures.found in
    let before = subst (λ next. (one ≡ other) ↔ (left next one ≡ left c.loop-next.other_next other)) c.in-Some.is i.alike in
    let now = subst (λ next. (one ≡ other) ↔ (left (Some p) one ≡ left next other)) c.in-Some-other_next.is before in
    record {
      one = ap (λ t. t.pairs) c.after-next.ensures.same ∙ i.one;
      other = ap (λ t. t.pairs) c.after-other_next.ensures.same ∙ i.other;
      meets = i.meets;
      meets_other = i.meets_other;
      alike = both_go_on one other p q c.after-next.result c.after-other_next.result
          (c.is_same_pair.ensures.0 c.if-not-is_same_pair.false) now (goes_on one p c.after-next.result i.meets found)
          (goes_on other p c.after-other_next.result i.meets_other found_other);
    }
