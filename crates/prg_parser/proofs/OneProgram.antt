-- Programs of the same lines are the same tree: each command ends where its own words say so, and what may follow
-- commands begins none.
use Rattle.std.proofs.Common.{◌≡◌, ℕ, List, [], ◌∷◌, ◌++◌, Bool, true, false, refl, sym, ap, ◌∙◌, append_assoc}
use Rattle.prg_line.specs.LineSays.{LineSays}
use Rattle.prg_line.specs.Saying.{Saying, line}
use Rattle.prg_line.specs.Saying as saying
use Rattle.prg_parser.specs.Commands.{Cmd, Cmds, Cases, Part, ProcedureTree, ProgramTree, Single, If, DoCase, DoWhile}
use Rattle.prg_parser.specs.Commands.{Scan, Done, Then, Neither, When, Absent, Otherwise}
use Rattle.prg_parser.specs.Files.{SaysAll}
use Rattle.prg_parser.specs.Layout.{Lines, laid, laid_in_turn, laid_cases, laid_part, laid_procedures, laid_program}
use Rattle.prg_parser.specs.Lines.{Joined}

-- whether a saying begins a command
abbrev begins : Saying → Bool
begins (saying.Whole s) = true
begins (saying.If e) = true
begins saying.DoCase = true
begins (saying.DoWhile e) = true
begins (saying.Scan e) = true
begins _ = false

abbrev is_case : Saying → Bool
is_case (saying.Case e) = true
is_case _ = false

-- whether the first of the lines begins a command, and whether it is a CASE
abbrev goes_on : Lines → Bool
goes_on [] = false
goes_on (l ∷ ls) = begins l.saying

abbrev more_cases : Lines → Bool
more_cases [] = false
more_cases (l ∷ ls) = is_case l.saying

differ : true ≡ false → ⊥
differ h = cc

abbrev first_number : ℕ → Lines → ℕ
first_number n [] = n
first_number n (l ∷ ls) = l.number

abbrev first_saying : Saying → Lines → Saying
first_saying s [] = s
first_saying s (l ∷ ls) = l.saying

abbrev behind : Lines → Lines
behind [] = []
behind (l ∷ ls) = ls

-- the same first line and the same others
record Parted (n m : ℕ) (s t : Saying) (xs ys : Lines) : Type 0 where
  number : n ≡ m
  saying : s ≡ t
  others : xs ≡ ys

parted : (n m : ℕ) (s t : Saying) (xs ys : Lines) → (line n s ∷ xs) ≡ (line m t ∷ ys) → Parted n m s t xs ys
parted n m s t xs ys h = record { number = ap (first_number n) h; saying = ap (first_saying s) h; others = ap behind h }

-- commands, and what follows them
record Cut {A : Type 0} (a b : A) (r s : Lines) : Type 0 where
  same : a ≡ b
  rest : r ≡ s

-- the part behind commands, and the line that ends it
stops_part : (word end : Saying) (p : Part) (n : ℕ) (r : Lines) → begins word ≡ false → begins end ≡ false
    → goes_on (laid_part word p ++ (line n end ∷ r)) ≡ false
stops_part word end Absent n r w e = e
stops_part word end (Otherwise m body) n r w e = w

no_case_part : (word end : Saying) (p : Part) (n : ℕ) (r : Lines) → is_case word ≡ false → is_case end ≡ false
    → more_cases (laid_part word p ++ (line n end ∷ r)) ≡ false
no_case_part word end Absent n r w e = e
no_case_part word end (Otherwise m body) n r w e = w

stops_cases : (cs : Cases) (r : Lines) → goes_on r ≡ false → goes_on (laid_cases cs ++ r) ≡ false
stops_cases Neither r h = h
stops_cases (When n e body others) r h = refl

-- brackets
parts : (xs ys zs r : Lines) → ((xs ++ (ys ++ zs)) ++ r) ≡ (xs ++ (ys ++ (zs ++ r)))
parts xs ys zs r = append_assoc xs (ys ++ zs) r ∙ ap (λ (l : Lines). xs ++ l) (append_assoc ys zs r)

regroup : {xs ys zs ws : Lines} → xs ≡ ys → zs ≡ ws → xs ≡ zs → ys ≡ ws
regroup p q h = sym p ∙ h ∙ q

-- a command that begins otherwise
apart : {A : Type 0} {n m : ℕ} {s t : Saying} {xs ys : Lines} → (s ≡ t → ⊥) → (line n s ∷ xs) ≡ (line m t ∷ ys) → A
apart {n = n} {m = m} {s = s} {t = t} {xs = xs} {ys = ys} ne h = absurd (ne (parted n m s t xs ys h).saying)

-- a command's first line begins it
begun : (c : Cmd) (xs r : Lines) → goes_on ((laid c ++ xs) ++ r) ≡ true
begun (Single n x) xs r = refl
begun (If n e body otherwise end) xs r = refl
begun (DoCase n cases otherwise end) xs r = refl
begun (DoWhile n e body end) xs r = refl
begun (Scan n e body end) xs r = refl

mutual
  same_command : (a b : Cmd) (r s : Lines) → (laid a ++ r) ≡ (laid b ++ s) → Cut a b r s
  same_command (Single n x) (Single n' x') r s h =
      let p = parted n n' (saying.Whole x) (saying.Whole x') r s h in
      let number = p.number in
      let act : x ≡ x' = (let i = p.saying in cc) in
      record { same = cc; rest = p.others }
  same_command (Single n x) (If n' e' body' otherwise' end') r s h = apart (λ (i : saying.Whole x ≡ saying.If e'). cc) h
  same_command (Single n x) (DoCase n' cases' otherwise' end') r s h =
      apart (λ (i : saying.Whole x ≡ saying.DoCase). cc) h
  same_command (Single n x) (DoWhile n' e' body' end') r s h = apart (λ (i : saying.Whole x ≡ saying.DoWhile e'). cc) h
  same_command (Single n x) (Scan n' e' body' end') r s h = apart (λ (i : saying.Whole x ≡ saying.Scan e'). cc) h
  same_command (If n e body otherwise end) (Single n' x') r s h = apart (λ (i : saying.If e ≡ saying.Whole x'). cc) h
  same_command (If n e body otherwise end) (If n' e' body' otherwise' end') r s h =
      let p = parted n n' (saying.If e) (saying.If e') _ _ h in
      let number = p.number in
      let condition : e ≡ e' = (let i = p.saying in cc) in
      let q =
      same_commands body body' (laid_part saying.Else otherwise ++ (line end saying.EndIf ∷ r))
      (laid_part saying.Else otherwise' ++ (line end' saying.EndIf ∷ s))
      (stops_part saying.Else saying.EndIf otherwise end r refl refl)
      (stops_part saying.Else saying.EndIf otherwise' end' s refl refl)
      (regroup (parts (laid_in_turn body) (laid_part saying.Else otherwise) (line end saying.EndIf ∷ []) r)
      (parts (laid_in_turn body') (laid_part saying.Else otherwise') (line end' saying.EndIf ∷ []) s) p.others) in
      let t =
      same_part saying.Else saying.EndIf (λ (i : saying.Else ≡ saying.EndIf). cc) refl otherwise otherwise' end end'
      r s q.rest in
      let u = parted end end' saying.EndIf saying.EndIf r s t.rest in
      let bodies = q.same in
      let others = t.same in
      let ends = u.number in
      record { same = cc; rest = u.others }
  same_command (If n e body otherwise end) (DoCase n' cases' otherwise' end') r s h =
      apart (λ (i : saying.If e ≡ saying.DoCase). cc) h
  same_command (If n e body otherwise end) (DoWhile n' e' body' end') r s h =
      apart (λ (i : saying.If e ≡ saying.DoWhile e'). cc) h
  same_command (If n e body otherwise end) (Scan n' e' body' end') r s h =
      apart (λ (i : saying.If e ≡ saying.Scan e'). cc) h
  same_command (DoCase n cases otherwise end) (Single n' x') r s h =
      apart (λ (i : saying.DoCase ≡ saying.Whole x'). cc) h
  same_command (DoCase n cases otherwise end) (If n' e' body' otherwise' end') r s h =
      apart (λ (i : saying.DoCase ≡ saying.If e'). cc) h
  same_command (DoCase n cases otherwise end) (DoCase n' cases' otherwise' end') r s h =
      let p = parted n n' saying.DoCase saying.DoCase _ _ h in
      let number = p.number in
      let q =
      same_cases cases cases' (laid_part saying.Otherwise otherwise ++ (line end saying.EndCase ∷ r))
      (laid_part saying.Otherwise otherwise' ++ (line end' saying.EndCase ∷ s))
      (stops_part saying.Otherwise saying.EndCase otherwise end r refl refl)
      (stops_part saying.Otherwise saying.EndCase otherwise' end' s refl refl)
      (no_case_part saying.Otherwise saying.EndCase otherwise end r refl refl)
      (no_case_part saying.Otherwise saying.EndCase otherwise' end' s refl refl)
      (regroup (parts (laid_cases cases) (laid_part saying.Otherwise otherwise) (line end saying.EndCase ∷ []) r)
      (parts (laid_cases cases') (laid_part saying.Otherwise otherwise') (line end' saying.EndCase ∷ []) s)
      p.others) in
      let t =
      same_part saying.Otherwise saying.EndCase (λ (i : saying.Otherwise ≡ saying.EndCase). cc) refl otherwise
      otherwise' end end' r s q.rest in
      let u = parted end end' saying.EndCase saying.EndCase r s t.rest in
      let chosen = q.same in
      let others = t.same in
      let ends = u.number in
      record { same = cc; rest = u.others }
  same_command (DoCase n cases otherwise end) (DoWhile n' e' body' end') r s h =
      apart (λ (i : saying.DoCase ≡ saying.DoWhile e'). cc) h
  same_command (DoCase n cases otherwise end) (Scan n' e' body' end') r s h =
      apart (λ (i : saying.DoCase ≡ saying.Scan e'). cc) h
  same_command (DoWhile n e body end) (Single n' x') r s h = apart (λ (i : saying.DoWhile e ≡ saying.Whole x'). cc) h
  same_command (DoWhile n e body end) (If n' e' body' otherwise' end') r s h =
      apart (λ (i : saying.DoWhile e ≡ saying.If e'). cc) h
  same_command (DoWhile n e body end) (DoCase n' cases' otherwise' end') r s h =
      apart (λ (i : saying.DoWhile e ≡ saying.DoCase). cc) h
  same_command (DoWhile n e body end) (DoWhile n' e' body' end') r s h =
      let p = parted n n' (saying.DoWhile e) (saying.DoWhile e') _ _ h in
      let number = p.number in
      let condition : e ≡ e' = (let i = p.saying in cc) in
      let q = same_commands body body' (line end saying.EndDo ∷ r) (line end' saying.EndDo ∷ s) refl refl
      (regroup (append_assoc (laid_in_turn body) (line end saying.EndDo ∷ []) r)
      (append_assoc (laid_in_turn body') (line end' saying.EndDo ∷ []) s) p.others) in
      let u = parted end end' saying.EndDo saying.EndDo r s q.rest in
      let bodies = q.same in
      let ends = u.number in
      record { same = cc; rest = u.others }
  same_command (DoWhile n e body end) (Scan n' e' body' end') r s h =
      apart (λ (i : saying.DoWhile e ≡ saying.Scan e'). cc) h
  same_command (Scan n e body end) (Single n' x') r s h = apart (λ (i : saying.Scan e ≡ saying.Whole x'). cc) h
  same_command (Scan n e body end) (If n' e' body' otherwise' end') r s h =
      apart (λ (i : saying.Scan e ≡ saying.If e'). cc) h
  same_command (Scan n e body end) (DoCase n' cases' otherwise' end') r s h =
      apart (λ (i : saying.Scan e ≡ saying.DoCase). cc) h
  same_command (Scan n e body end) (DoWhile n' e' body' end') r s h =
      apart (λ (i : saying.Scan e ≡ saying.DoWhile e'). cc) h
  same_command (Scan n e body end) (Scan n' e' body' end') r s h =
      let p = parted n n' (saying.Scan e) (saying.Scan e') _ _ h in
      let number = p.number in
      let condition : e ≡ e' = (let i = p.saying in cc) in
      let q = same_commands body body' (line end saying.EndScan ∷ r) (line end' saying.EndScan ∷ s) refl refl
      (regroup (append_assoc (laid_in_turn body) (line end saying.EndScan ∷ []) r)
      (append_assoc (laid_in_turn body') (line end' saying.EndScan ∷ []) s) p.others) in
      let u = parted end end' saying.EndScan saying.EndScan r s q.rest in
      let bodies = q.same in
      let ends = u.number in
      record { same = cc; rest = u.others }

  same_commands : (a b : Cmds) (r s : Lines) → goes_on r ≡ false → goes_on s ≡ false
      → (laid_in_turn a ++ r) ≡ (laid_in_turn b ++ s) → Cut a b r s
  same_commands Done Done r s p q h = record { same = refl; rest = h }
  same_commands Done (Then c cs) r s p q h =
      absurd (differ (sym (begun c (laid_in_turn cs) s) ∙ sym (ap goes_on h) ∙ p))
  same_commands (Then c cs) Done r s p q h = absurd (differ (sym (begun c (laid_in_turn cs) r) ∙ ap goes_on h ∙ q))
  same_commands (Then c cs) (Then d ds) r s p q h =
      let x =
      same_command c d (laid_in_turn cs ++ r) (laid_in_turn ds ++ s)
      (regroup (append_assoc (laid c) (laid_in_turn cs) r) (append_assoc (laid d) (laid_in_turn ds) s) h) in
      let y = same_commands cs ds r s p q x.rest in
      let one = x.same in
      let others = y.same in
      record { same = cc; rest = y.rest }

  same_cases : (a b : Cases) (r s : Lines) → goes_on r ≡ false → goes_on s ≡ false → more_cases r ≡ false
      → more_cases s ≡ false → (laid_cases a ++ r) ≡ (laid_cases b ++ s) → Cut a b r s
  same_cases Neither Neither r s p q i j h = record { same = refl; rest = h }
  same_cases Neither (When n e body others) r s p q i j h = absurd (differ (sym (ap more_cases h) ∙ i))
  same_cases (When n e body others) Neither r s p q i j h = absurd (differ (ap more_cases h ∙ j))
  same_cases (When n e body others) (When n' e' body' others') r s p q i j h =
      let t = parted n n' (saying.Case e) (saying.Case e') _ _ h in
      let number = t.number in
      let condition : e ≡ e' = (let k = t.saying in cc) in
      let x =
      same_commands body body' (laid_cases others ++ r) (laid_cases others' ++ s) (stops_cases others r p)
      (stops_cases others' s q)
      (regroup (append_assoc (laid_in_turn body) (laid_cases others) r)
      (append_assoc (laid_in_turn body') (laid_cases others') s) t.others) in
      let y = same_cases others others' r s p q i j x.rest in
      let bodies = x.same in
      let further = y.same in
      record { same = cc; rest = y.rest }

  same_part : (word end : Saying) → (word ≡ end → ⊥) → begins end ≡ false → (a b : Part) (n m : ℕ) (r s : Lines)
      → (laid_part word a ++ (line n end ∷ r)) ≡ (laid_part word b ++ (line m end ∷ s))
      → Cut a b (line n end ∷ r) (line m end ∷ s)
  same_part word end ne e Absent Absent n m r s h = record { same = refl; rest = h }
  same_part word end ne e Absent (Otherwise k body) n m r s h = apart (λ (i : end ≡ word). ne (sym i)) h
  same_part word end ne e (Otherwise k body) Absent n m r s h = apart ne h
  same_part word end ne e (Otherwise k body) (Otherwise k' body') n m r s h =
      let p = parted k k' word word _ _ h in
      let number = p.number in
      let q = same_commands body body' (line n end ∷ r) (line m end ∷ s) e e p.others in
      let bodies = q.same in
      record { same = cc; rest = q.rest }

stops_procedures : (ps : List ProcedureTree) → goes_on (laid_procedures ps) ≡ false
stops_procedures [] = refl
stops_procedures (p ∷ ps) = refl

abbrev some_line : Lines → Bool
some_line [] = false
some_line (l ∷ ls) = true

same_procedure : (p q : ProcedureTree) → p.line ≡ q.line → p.name ≡ q.name → p.body ≡ q.body → p ≡ q
same_procedure p q l n b = λ i. record { line = l i; name = n i; body = b i }

same_procedures : (ps qs : List ProcedureTree) → laid_procedures ps ≡ laid_procedures qs → ps ≡ qs
same_procedures [] [] h = refl
same_procedures [] (q ∷ qs) h = absurd (differ (sym (ap some_line h)))
same_procedures (p ∷ ps) [] h = absurd (differ (ap some_line h))
same_procedures (p ∷ ps) (q ∷ qs) h =
    let t = parted p.line q.line (saying.Procedure p.name) (saying.Procedure q.name) _ _ h in
    let name : p.name ≡ q.name = (let k = t.saying in cc) in
    let x =
    same_commands p.body q.body (laid_procedures ps) (laid_procedures qs) (stops_procedures ps)
    (stops_procedures qs) t.others in
    let one = same_procedure p q t.number name x.same in
    let others = same_procedures ps qs x.rest in
    cc

pub same_program : (a b : ProgramTree) → laid_program a ≡ laid_program b → a ≡ b
same_program a b h =
    let x =
    same_commands a.main b.main (laid_procedures a.procedures) (laid_procedures b.procedures)
    (stops_procedures a.procedures) (stops_procedures b.procedures) h in
    both a b x.same (same_procedures a.procedures b.procedures x.rest)
  where
    both : (a b : ProgramTree) → a.main ≡ b.main → a.procedures ≡ b.procedures → a ≡ b
    both a b p q = λ i. record { main = p i; procedures = q i }

-- one saying for each line, one list of them for a file
pub same_sayings : ((text : List ℕ) (a b : Saying) → LineSays a text → LineSays b text → a ≡ b)
    → (lines : List Joined) (xs ys : List Saying) → SaysAll xs lines → SaysAll ys lines → xs ≡ ys
same_sayings law [] [] [] p q = refl
same_sayings law [] (a ∷ xs) ys p q = absurd p
same_sayings law [] [] (b ∷ ys) p q = absurd q
same_sayings law (l ∷ ls) [] ys p q = absurd p
same_sayings law (l ∷ ls) (a ∷ xs) [] p q = absurd q
same_sayings law (l ∷ ls) (a ∷ xs) (b ∷ ys) p q =
    let one = law l.text a b p.0 q.0 in let others = same_sayings law ls xs ys p.1 q.1 in cc
