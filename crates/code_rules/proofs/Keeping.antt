-- What acceptance means, place by place.
use Rattle.std.proofs.Common.{◌≡◌, Bool, true, false, Option, Some, None, refl, cond}
use Rattle.code_items.specs.declared.code.Code.{Code}
use Rattle.code_rules.specs.declared.rule.Rule.{Rule}
use Rattle.code_rules.specs.declared.rule.Rule.TheVariants.{Kind, Unset, ClosedArea, OtherTable, NoOrder, OpenTwice}
use Rattle.code_rules.specs.declared.rule.Rule.TheVariants.{StackUnder, StackOver, StackNotEmpty, Jump, Fall, CallLevel}
use Rattle.code_rules.specs.declared.rule.Rule.TheVariants.{Exit, Filter, Constant}
use Rattle.code_rules.specs.Kept.{Kept, KeepsRules}
use Rattle.code_rules.specs.Rules.{Here, kind_fails, loads_free, closed_fails, table_fails, order_fails, opens_twice}
use Rattle.code_rules.specs.Rules.{under_fails, over_fails, empty_fails, jump_fails, fall_fails, level_fails}
use Rattle.code_rules.specs.Rules.{exit_fails, filter_fails, undeclared, refusal_of, refusal_at, here_at, Accepted}

passes : (b : Bool) (k : Rule) (o : Option Rule) → cond b (Some k) o ≡ None → (b ≡ false) × (o ≡ None)
passes true k o e = absurd (cc)
passes false k o e = (refl, e)

kept : (code : Code) (h : Here) → refusal_of code h ≡ None → Kept code h
unfolding refusal_of
kept code h e =
    let a = passes (kind_fails code h) Kind _ e in
    let b = passes (loads_free h.before h.instr) Unset _ a.1 in
    let c = passes (closed_fails h) ClosedArea _ b.1 in
    let d = passes (table_fails code h) OtherTable _ c.1 in
    let f = passes (order_fails code.declared h.before.desk h.instr) NoOrder _ d.1 in
    let g = passes (opens_twice h.before.desk h.instr) OpenTwice _ f.1 in
    let i = passes (under_fails h) StackUnder _ g.1 in
    let j = passes (over_fails code h) StackOver _ i.1 in
    let k = passes (empty_fails code h) StackNotEmpty _ j.1 in
    let l = passes (jump_fails code h) Jump _ k.1 in
    let m = passes (fall_fails code h) Fall _ l.1 in
    let n = passes (level_fails code h) CallLevel _ m.1 in
    let o = passes (exit_fails code h) Exit _ n.1 in
    let p = passes (filter_fails code h) Filter _ o.1 in
    let q = passes (undeclared code h.before.desk h.instr) Constant _ p.1 in
    record {
      kind = a.0;
      set = b.0;
      area = c.0;
      table = d.0;
      order = f.0;
      once = g.0;
      there = i.0;
      room = j.0;
      empty = k.0;
      jump = l.0;
      fall = m.0;
      level = n.0;
      exit = o.0;
      filter = p.0;
      declared = q.0;
    }

pub keeps_rules : (code : Code) → Accepted code → KeepsRules code
unfolding refusal_at
keeps_rules code ok = λ place lt. kept code (here_at code place) (ok place lt)
