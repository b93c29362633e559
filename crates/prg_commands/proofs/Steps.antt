-- What was walked is laid out.
use Rattle.std.proofs.Common.{◌≡◌, ℕ, suc, ◌+◌, ◌<◌, ◌≤◌, drop, get_or, length, List, [], ◌∷◌, Option, Some, None, Bool}
use Rattle.std.proofs.Common.{Result, Ok, Err, IfOk, true, false, nat_eq, sym, ap, ◌∙◌, subst, refl, arith, inl, inr, ◌⊎◌}
use Rattle.std.proofs.Math.Seq.{drop-cons}
use Rattle.std.proofs.Math.Nat.{eq-or-lt_of_le}
use Rattle.std.proofs.lemmas.Bool.Decides.{nat_tests}
use Rattle.std.proofs.lemmas.List.{drop_all}
use Rattle.std.specs.Prelude.{◌||◌, ◌&&◌, is_some, not}
use Rattle.code_items.specs.declared.instr.FlowInstr.TheVariants.{Jump, End}
use Rattle.code_items.specs.declared.instr.MoveInstr.TheVariants.{Top}
use Rattle.code_items.specs.declared.instr.Instr.TheVariants.{Flow, Moves}
use Rattle.prg_expr.specs.Tree.{Tree, tree_of}
use Rattle.prg_line.specs.Act.{Act, Letters}
use Rattle.prg_parser.specs.Commands.{Cmds, Cases, Part, Single, If, DoCase, DoWhile, Scan, Then, When, Neither, Absent}
use Rattle.prg_parser.specs.Commands.{Otherwise, command_of, commands_of, cases_of, part_of}
use Rattle.prg_parser.specs.declared.command.Branch.{Branch}
use Rattle.prg_parser.specs.declared.command.Case.{Case}
use Rattle.prg_parser.specs.declared.command.Command.{Command}
use Rattle.prg_parser.specs.declared.command.Form.TheViews.{out-Case, out-Branch}
use Rattle.prg_values.specs.Placed.{InstrStands}
use Rattle.prg_commands.specs.Acts.{ActLaid, may_follow_gets}
use Rattle.prg_commands.specs.Walking.{Told, Departs, Looked, Chains, ComesBack, TurnedBy, is_absent}
use Rattle.prg_commands.specs.Commands.{Laid, LaidAll, LaidCases, LaidPart, chosen, cases, more, cut, done, when, otherwise, absent}
use Rattle.prg_commands.specs.Commands.{neither, then_way, either_way, through, stopped, Goes, Tests, Chooses, HasRow}
use Rattle.prg_commands.specs.Commands.{does, loops, exits, ends, while, scan, is_last, waiting_behind, ends_run}
use Rattle.prg_commands.specs.Commands.{loop_act, exit_act, Follows, Advances}
use Rattle.prg_commands.specs.Layout.{Laying}
use Rattle.prg_commands.specs.Turns.{IsTurn}
use Rattle.prg_commands.specs.declared.statement.Turn.TheVariants.{Return as Returns, End as Ends}
use Rattle.prg_commands.specs.declared.walk.ChoicePart.{ChoicePart}
use Rattle.prg_commands.specs.declared.way.Leaps.{Leaps}
use Rattle.prg_commands.specs.declared.way.Way.{Way}
use Rattle.prg_commands.proofs.Equations.{next_command, next_case, case_is, branch_is}

-- ---- commands that turn the way, and those of one line

pub act_laid : (f : Laying) (l : Option Leaps) (gets : List Letters) (a b n : ℕ) (act : Act)
    → may_follow_gets gets act ≡ true → ActLaid f gets a act b → Laid f l gets a (Single n act) through b
act_laid f l gets a b n act may h = does may h

pub loop_laid : (f : Laying) (l : Option Leaps) (t : Leaps) (a b n : ℕ) → l ≡ Some t
    → InstrStands f.text a (Flow (Jump t.again)) b → Laid f l [] a (Single n loop_act) (stopped true) b
loop_laid f l t a b n is h =
    subst (λ (k : Option Leaps). Laid f k [] a (Single n loop_act) (stopped true) b) (sym is) (loops h)

pub exit_laid : (f : Laying) (l : Option Leaps) (t : Leaps) (a b n : ℕ) → l ≡ Some t
    → InstrStands f.text a (Flow (Jump t.out)) b → Laid f l [] a (Single n exit_act) (stopped false) b
exit_laid f l t a b n is h =
    subst (λ (k : Option Leaps). Laid f k [] a (Single n exit_act) (stopped false) b) (sym is) (exits h)

-- RETURN
pub return_laid : (f : Laying) (l : Option Leaps) (a b : ℕ) → InstrStands f.text a (Flow End) b
    → TurnedBy f l a Returns (stopped false) b
return_laid f l a b h n act is = ends (ap ends_run is) h

-- QUIT and CANCEL
ends_here : (act : Act) → IsTurn (Some Ends) act → ends_run act ≡ true
ends_here act (inl is) = ap ends_run is
ends_here act (inr is) = ap ends_run is

pub end_laid : (f : Laying) (l : Option Leaps) (a b : ℕ) → InstrStands f.text a (Flow End) b
    → TurnedBy f l a Ends (stopped false) b
end_laid f l a b h n act is = ends (ends_here act is) h

-- ---- commands one after another

abbrev way : Bool → Bool → Way
way on again = record { on = on; again = again }

or_same : (a b c on : Bool) → way on ((a || b) || c) ≡ way on (a || (b || c))
or_same true b c on = refl
or_same false b c on = refl

-- (x then y) then z
then_assoc : (x y z : Way) → then_way (then_way x y) z ≡ then_way x (then_way y z)
then_assoc x y z = or_same x.again y.again z.again z.on

either_same : (a d b e c f : Bool) → way ((a || b) || c) ((d || e) || f) ≡ way (a || (b || c)) (d || (e || f))
either_same true true b e c f = refl
either_same true false b e c f = refl
either_same false true b e c f = refl
either_same false false b e c f = refl

either_assoc : (x y z : Way) → either_way (either_way x y) z ≡ either_way x (either_way y z)
either_assoc x y z = either_same x.on x.again y.on y.again z.on z.again

or_false : (a : Bool) → (a || false) ≡ a
or_false true = refl
or_false false = refl

-- what is left leads to the whole
abbrev pub Leads : Laying → Option Leaps → ℕ → List Command → ℕ → List Letters → Way → ℕ → Type 0
Leads f l a xs i gets u p =
    ((w : Way) (b : ℕ) → u.on ≡ true → LaidAll f l gets p (commands_of (drop i xs)) w b
    → LaidAll f l [] a (commands_of xs) (then_way u w) b) × (u.on ≡ false → LaidAll f l [] a (commands_of xs) u p)

-- no command yet
pub begun : (f : Laying) (l : Option Leaps) (a : ℕ) (xs : List Command) (gets : List Letters) → gets ≡ []
    → Leads f l a xs 0 gets through a
begun f l a xs gets is = (
  λ w b on h. subst (λ (gs : List Letters). LaidAll f l gs a (commands_of xs) w b) is h,
  λ on. absurd (let k = on in cc),
)

-- one more command
pub turn : (f : Laying) (l : Option Leaps) (a : ℕ) (xs : List Command) (i p m : ℕ) (x : Command)
    (gets behind : List Letters) (u v : Way) → i < length xs → x ≡ get_or xs i x → u.on ≡ true
    → Leads f l a xs i gets u p → Laid f l gets p (command_of x) v m → behind ≡ waiting_behind gets (command_of x)
    → Leads f l a xs (i + 1) behind (then_way u v) m
turn f l a xs i p m x gets behind u v low e on lead h g =
    let back : (w : Way) (b : ℕ) → LaidAll f l gets p (Then (command_of x) (commands_of (drop (i + 1) xs))) w b
    → LaidAll f l [] a (commands_of xs) (then_way u w) b =
    λ w b k. lead.0 w b on
    (subst (λ (cs : Cmds). LaidAll f l gets p cs w b) (sym (next_command xs i x low e)) k) in (
      λ w b o k.
          subst (λ (z : Way). LaidAll f l [] a (commands_of xs) z b) (sym (then_assoc u v w))
          (back (then_way v w) b (more h o
          (subst (λ (gs : List Letters). LaidAll f l gs m (commands_of (drop (i + 1) xs)) w b) g k))),
      λ o. back v m (cut h o),
    )

-- no command is left
pub all_done : (f : Laying) (l : Option Leaps) (a : ℕ) (xs : List Command) (i p : ℕ) (gets : List Letters) (u : Way)
    → length xs ≤ i → Leads f l a xs i gets u p → gets ≡ [] → LaidAll f l [] a (commands_of xs) u p
all_done f l a xs i p gets u le lead quiet = by_on u.on refl where
  closed : u.on ≡ true → then_way u through ≡ u
  closed o = ap (λ on. way on (u.again || false)) (sym o) ∙ ap (λ again. way u.on again) (or_false u.again)

  ending : LaidAll f l gets p (commands_of (drop i xs)) through p
  ending = subst (λ ys. LaidAll f l gets p (commands_of ys) through p) (sym (drop_all i xs le))
      (subst (λ (gs : List Letters). LaidAll f l gs p (commands_of []) through p) (sym quiet) done)

  by_on : (b : Bool) → b ≡ u.on → LaidAll f l [] a (commands_of xs) u p
  by_on true e = subst (λ (z : Way). LaidAll f l [] a (commands_of xs) z p) (closed (sym e))
      (lead.0 through p (sym e) ending)
  by_on false e = lead.1 (sym e)

-- ---- choices

last_absent : (part : Part) → is_absent part ≡ is_last Neither part
last_absent Absent = refl
last_absent (Otherwise n cs) = refl

not_swap : (a r : Bool) → a ≡ not r → r ≡ not a
not_swap a true h = sym (ap not h)
not_swap a false h = sym (ap not h)

absent_part : (b : Option Branch) → is_absent (part_of b) ≡ not (is_some b)
absent_part None = refl
absent_part (Some b) = ap is_absent (branch_is b)

-- whether there is no ELSE or OTHERWISE
is_closed : (b : Option Branch) (r : Bool) → is_some b ≡ not r → r ≡ is_absent (part_of b)
is_closed b r h = not_swap (is_some b) r h ∙ sym (absent_part b)

no_value : {A : Type 0} → ⊥ → A
no_value e = elim e [ ]

nothing_below : {A : Type 0} (i : ℕ) → i < 0 → A
nothing_below i low = no_value (omega arith)

at_case : (xs : List Case) (part : Part) (i : ℕ) → i < length xs → is_last (cases_of (drop i xs)) part ≡ false
at_case [] part i low = nothing_below i low
at_case (x ∷ xs) part i low =
    let y = get_or (x ∷ xs) i x in
    ap (λ cs. is_last (cases_of cs) part) (drop-cons (x ∷ xs) i x low)
    ∙ ap (λ (cs : Cases). is_last cs part) (case_is y (cases_of (drop (suc i) (x ∷ xs))))

-- whether a choice ends behind the case of a number
last_or : (xs : List Case) (part : Part) (i : ℕ) → (i + 1 ≡ length xs) ⊎ (i + 1 < length xs)
    → (nat_eq (i + 1) (length xs) && is_absent part) ≡ is_last (cases_of (drop (i + 1) xs)) part
last_or xs part i (inr low) =
    let e : nat_eq (i + 1) (length xs) ≡ false = grind (arith, nat_tests) in
    ap (λ (z : Bool). z && is_absent part) e ∙ sym (at_case xs part (i + 1) low)
last_or xs part i (inl h) =
    let e : nat_eq (i + 1) (length xs) ≡ true = grind (arith, nat_tests) in
    ap (λ (z : Bool). z && is_absent part) e
    ∙ (last_absent part ∙ sym (ap (λ ys. is_last (cases_of ys) part) (drop_all (i + 1) xs (omega arith))))

last_is : (xs : List Case) (part : Part) (i : ℕ) → i < length xs
    → (nat_eq (i + 1) (length xs) && is_absent part) ≡ is_last (cases_of (drop (i + 1) xs)) part
last_is xs part i h = last_or xs part i (eq-or-lt_of_le (omega arith))

-- a part that was walked
pub looked : (f : Laying) (l : Option Leaps) (end : Option ℕ) (e : Tree) (a first behind out b : ℕ) (cs : Cmds)
    (last : Bool) (w : Way) (told : Option ℕ) → Tests f a e out first → LaidAll f l [] first cs w behind
    → Departs f end last behind w.on told b → out ≡ b
    → Looked f l end e a cs last (record { end = told; way = w }) b
looked f l end e a first behind out b cs last w told h k leave is = record {
  first = first;
  behind = behind;
  tests = subst (λ (o : ℕ). Tests f a e o first) is h;
  body = k;
  departs = leave;
}

-- a part before the others
when_looked : {f : Laying} {l : Option Leaps} {end : Option ℕ} {a n m b : ℕ} {e : Tree} {cs : Cmds} {last : Bool}
    {p : ChoicePart} {rest : Cases} {part : Part} {w : Way} → Looked f l end e a cs last p m
    → last ≡ is_last rest part → Told p.end b → LaidCases f l m rest part w b
    → LaidCases f l a (When n e cs rest) part (either_way p.way w) b
when_looked {f} {l} {end} {a} {n} {m} {b} {e} {cs} {last} {p} {rest} {part} {w} k is t others =
    when k.tests k.body (subst (λ (x : Bool). Follows f x k.behind p.way.on b m) is (k.departs b t).0) others

pub if_laid : (f : Laying) (l : Option Leaps) (a n end m b : ℕ) (e : Tree) (cs : Cmds) (branch : Option Branch)
    (last : Bool) (p : ChoicePart) (w : Way) → Looked f l None e a cs last p m → is_some branch ≡ not last
    → Told p.end b → LaidPart f l m (part_of branch) w b
    → Laid f l [] a (If n e cs (part_of branch) end) (either_way p.way w) b
if_laid f l a n end m b e cs branch last p w k is t rest =
    chosen (when_looked k (is_closed branch last is ∙ last_absent (part_of branch)) t (neither rest))

pub case_laid : (f : Laying) (l : Option Leaps) (a n end m b : ℕ) (xs : List Case) (branch : Option Branch)
    (closed : Bool) (p : ChoicePart) (w : Way) → Chains f l a xs closed p m → is_some branch ≡ not closed
    → Told p.end b → LaidPart f l m (part_of branch) w b
    → Laid f l [] a (DoCase n (cases_of xs) (part_of branch) end) (either_way p.way w) b
case_laid f l a n end m b xs branch closed p w k is t rest =
    cases (k (part_of branch) w b (is_closed branch closed is) t rest)

-- what is left of cases leads to the whole
abbrev pub LeadsCases : Laying → Option Leaps → ℕ → List Case → Bool → ℕ → Option ℕ → Way → ℕ → Type 0
LeadsCases f l a xs closed i end u p = (part : Part) (w : Way) (z : ℕ) → closed ≡ is_absent part → Told end z
    → LaidCases f l p (cases_of (drop i xs)) part w z → LaidCases f l a (cases_of xs) part (either_way u w) z

-- a turn over cases
pub case_turn : (f : Laying) (l : Option Leaps) (a : ℕ) (xs : List Case) (i p m : ℕ) (x : Case) (u : Way)
    (end : Option ℕ) (part : ChoicePart) (last closed : Bool) → i < length xs → x ≡ get_or xs i x
    → LeadsCases f l a xs closed i end u p
    → Looked f l end (tree_of (out-Case x).condition) p (commands_of (out-Case x).body.items) last part m
    → last ≡ (nat_eq (i + 1) (length xs) && closed)
    → LeadsCases f l a xs closed (i + 1) part.end (either_way u part.way) m
case_turn f l a xs i p m x u end made last closed low e lead k is part w z n t rest =
    let one = when_looked {n = (out-Case x).line} k
    (is ∙ (ap (λ z. nat_eq (i + 1) (length xs) && z) n ∙ last_is xs part i low)) t rest in
    let two = subst (λ (cs : Cases). LaidCases f l p cs part (either_way made.way w) z)
    (sym (next_case xs i x low e)) one in
    subst (λ (v : Way). LaidCases f l a (cases_of xs) part v z) (sym (either_assoc u made.way w))
    (lead part (either_way made.way w) z n (k.departs z t).1 two)

-- no case is left
pub cases_done : (f : Laying) (l : Option Leaps) (a : ℕ) (xs : List Case) (i p : ℕ) (u : Way) (end : Option ℕ)
    (closed : Bool) → length xs ≤ i → LeadsCases f l a xs closed i end u p
    → Chains f l a xs closed (record { end = end; way = u }) p
cases_done f l a xs i p u end closed le lead part w z n t rest =
    lead part w z n t
    (subst (λ ys. LaidCases f l p (cases_of ys) part w z) (sym (drop_all i xs le)) (neither rest))

pub otherwise_laid : (f : Laying) (l : Option Leaps) (a b : ℕ) (branch : Option Branch) (x : Branch) (w : Way)
    → branch ≡ Some x → LaidAll f l [] a (commands_of (out-Branch x).body.items) w b
    → LaidPart f l a (part_of branch) w b
otherwise_laid f l a b branch x w is h =
    subst (λ (o : Option Branch). LaidPart f l a (part_of o) w b) (sym is)
    (subst (λ (part : Part). LaidPart f l a part w b) (sym (branch_is x)) (otherwise h))

pub absent_laid : (f : Laying) (l : Option Leaps) (a : ℕ) (branch : Option Branch) → branch ≡ None
    → LaidPart f l a (part_of branch) through a
absent_laid f l a branch is =
    subst (λ (o : Option Branch). LaidPart f l a (part_of o) through a) (sym is) absent

-- ---- loops

pub while_laid : (f : Laying) (l : Option Leaps) (a m p n end head out b : ℕ) (e : Tree) (cs : Cmds) (w : Way)
    → Tests f a e out m → LaidAll f (Some (record { again = head; out = out })) [] m cs w p → Goes f p w.on head b
    → head ≡ a → out ≡ b → Laid f l [] a (DoWhile n e cs end) through b
while_laid f l a m p n end head out b e cs w g h j is o =
    let g' = subst (λ (x : ℕ). Tests f a e x m) o g in
    let h' = subst (λ (x : ℕ). LaidAll f (Some (record { again = head; out = x })) [] m cs w p) o h in
    while g' (subst (λ (x : ℕ). LaidAll f (Some (record { again = x; out = b })) [] m cs w p) is h')
    (subst (λ (x : ℕ). Goes f p w.on x b) is j)

pub scan_laid : (f : Laying) (l : Option Leaps) (a s r m p n end next top out b : ℕ) (only_if : Option Tree)
    (cs : Cmds) (w : Way) (chooses : Bool) → chooses ≡ is_some only_if → InstrStands f.text a (Moves Top) s
    → HasRow f s out r → Chooses f r only_if next m
    → LaidAll f (Some (record { again = next; out = out })) [] m cs w p
    → ComesBack f p (w.on || (w.again || chooses)) next top b → top ≡ s → out ≡ b
    → Laid f l [] a (Scan n only_if cs end) through b
scan_laid f l a s r m p n end next top out b only_if cs w chooses is first row choose k back e o =
    let back' = subst (λ (z : Bool). ComesBack f p (w.on || (w.again || z)) next top b) is back in
    scan first (subst (λ (x : ℕ). HasRow f s x r) o row) choose
    (subst (λ (x : ℕ). LaidAll f (Some (record { again = next; out = x })) [] m cs w p) o k) back'.0
    (subst (λ (x : ℕ). Advances f p (w.on || (w.again || is_some only_if)) x b) e back'.1)

pub on_done : {A E : Type 0} {P Q : A → Type 0} (r : Result A E) → ((b : A) → P b → Q b) → IfOk r P → IfOk r Q
on_done (Ok b) f h = f b h
on_done (Err e) f h = tt

pub is_some_map : {A B : Type 0} (f : A → B) (o : Option A) → is_some (Rattle.std.specs.Prelude.option_map f o) ≡ is_some o
is_some_map f None = refl
is_some_map f (Some a) = refl
