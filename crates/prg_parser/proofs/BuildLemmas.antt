-- Lemmas on programs that are put together.
use Rattle.std.proofs.Common.{◌≡◌, ℕ, ◌+◌, ◌-◌, ◌<◌, List, [], ◌∷◌, ◌++◌, map, length, take, Option, Some, None, Bool}
use Rattle.std.proofs.Common.{true, false, Result, Ok, Err, IfOk, Vec, Global, subst, refl, sym, ap, ◌∙◌, arith}
use Rattle.std.proofs.Common.{append_assoc, length-append}
use Rattle.std.specs.Prelude.{option_map, slice_get, if◌then◌else◌, not}
use Rattle.std.proofs.lemmas.List.{append-nil, map-append}
use Rattle.std.proofs.lemmas.Option.{slice_get-get_or}
use Rattle.std.proofs.Math.Seq.{get_or-append_seam, take-append_seam}
use Rattle.prg_expr.specs.declared.fault.ParseFaultKind.{ParseFaultKind}
use Rattle.prg_line.specs.declared.role.Role.{Role}
use Rattle.prg_line.specs.declared.role.Role.TheVariants as role
use Rattle.prg_parser.specs.declared.blocks.Part.{Part}
use Rattle.prg_parser.specs.declared.blocks.Place.{Place}
use Rattle.prg_parser.specs.declared.blocks.Place.TheVariants as place
use Rattle.prg_parser.specs.declared.builder.Open.{Open}
use Rattle.prg_parser.specs.declared.builder.Open.TheVariants as begun
use Rattle.prg_parser.specs.declared.builder.OpenBlock.{OpenBlock}
use Rattle.prg_parser.specs.declared.builder.Current.{Current}
use Rattle.prg_parser.specs.declared.builder.Current.TheVariants.{Commands, DoCase}
use Rattle.prg_line.specs.Act.{Act, act_of}
use Rattle.prg_line.specs.Act as act
use Rattle.prg_line.specs.Saying.{Saying, line, role_of, saying_of}
use Rattle.prg_line.specs.Saying as saying
use Rattle.arrayvec.specs.ArrayVec.{ArrayVec}
use Rattle.prg_parser.specs.declared.builder.Builder.{Builder}
use Rattle.prg_parser.specs.declared.builder.Choice.{Choice}
use Rattle.prg_parser.specs.declared.builder.Finished.{Finished}
use Rattle.prg_parser.specs.declared.builder.Finished.TheVariants.{Main}
use Rattle.prg_parser.specs.declared.command.Command.{Command}
use Rattle.prg_parser.specs.declared.command.Case.{Case}
use Rattle.prg_parser.specs.declared.command.Form.{Form}
use Rattle.prg_line.specs.declared.statement.Sentence.{Sentence}
use Rattle.prg_line.specs.declared.statement.Sentence.TheVariants as sentence
use Rattle.prg_parser.specs.declared.program.Procedure.{Procedure}
use Rattle.prg_parser.specs.declared.program.Program.{Program}
use Rattle.prg_line.specs.declared.statement.Statement.{Statement as Single}
use Rattle.prg_parser.specs.declared.command.Form.TheVariants.{Statement}
use Rattle.prg_parser.specs.Layout.{Lines, all_of, body_lines, cases_lines, form_lines, procedure_lines}
use Rattle.prg_parser.specs.Layout.{procedures_lines, program_lines}
use Rattle.prg_parser.proofs.LayoutLemmas.{form_statement, procedures_more}
use Rattle.prg_parser.specs.Blocks as spec
use Rattle.prg_parser.specs.Blocks.{fault_of_place, parts_after, innermost, outer, may_stand}
use Rattle.prg_parser.specs.Building.{IsChoice, Took, current_lines, finished_lines, open_lines, opens_lines}
use Rattle.prg_parser.specs.Building.{built_lines, built_parts, head_lines, block_ending, is_ending, place_of_open}
use Rattle.prg_parser.specs.Building.{part_of_block, awaited}
use Rattle.prg_parser.specs.Layout.{lines_of_saying}

-- one more at the end
pub lines_more : {A : Type 0} (f : A → Lines) (xs : List A) (x : A)
    → all_of (map f (xs ++ x ∷ [])) ≡ all_of (map f xs) ++ f x
lines_more f [] x = append-nil (f x)
lines_more f (y ∷ xs) x =
    ap (λ (ls : Lines). f y ++ ls) (lines_more f xs x) ∙ sym (append_assoc (f y) (all_of (map f xs)) (f x))

pub innermost_last : (ps : List Part) (p : Part) → innermost (ps ++ p ∷ []) ≡ Some p
innermost_last ps p =
    let n : length (ps ++ p ∷ []) ≡ length ps + 1 = length-append ps (p ∷ []) in
    let e : length (ps ++ p ∷ []) - 1 ≡ length ps = omega arith in
    let below : length ps < length (ps ++ p ∷ []) = omega arith in
    ap (slice_get (ps ++ p ∷ [])) e ∙ slice_get-get_or (ps ++ p ∷ []) (length ps) p below
    ∙ ap Some (get_or-append_seam ps p [] p)

pub outer_last : (ps : List Part) (p : Part) → outer (ps ++ p ∷ []) ≡ ps
outer_last ps p =
    let n : length (ps ++ p ∷ []) ≡ length ps + 1 = length-append ps (p ∷ []) in
    let e : length (ps ++ p ∷ []) - 1 ≡ length ps = omega arith in
    ap (λ k. take k (ps ++ p ∷ [])) e ∙ take-append_seam ps (p ∷ [])

passes : (b : Bool) (k : ParseFaultKind) (o : Option ParseFaultKind) → (if not b then Some k else o) ≡ None → b ≡ true
passes true k o e = refl
passes false k o e = cc

-- a line without fault may stand where it does
pub standing : (ps : List Part) (r : Role) → fault_of_place ps r ≡ None
    → may_stand r (option_map (λ part. part.place) (innermost ps)) ≡ true
unfolding fault_of_place
standing ps r e = passes (may_stand r (option_map (λ part. part.place) (innermost ps))) _ _ e

-- whatever a command of one line says, it is LOOP or EXIT, or an other command
pub whole_role : (a : Act) → (b : Bool) × (role_of (saying.Whole a) ≡ (if b then role.Leap else role.Plain))
whole_role (act.Show _) = (false, refl)
whole_role (act.ShowOn _) = (false, refl)
whole_role (act.Say _ _ _) = (false, refl)
whole_role (act.Get _ _ _) = (false, refl)
whole_role (act.SayGet _ _ _ _) = (false, refl)
whole_role act.Read = (false, refl)
whole_role (act.Accept _ _) = (false, refl)
whole_role (act.Wait _ _) = (false, refl)
whole_role act.Clear = (false, refl)
whole_role (act.Assign _ _) = (false, refl)
whole_role (act.Store _ _) = (false, refl)
whole_role (act.Release _) = (false, refl)
whole_role (act.Private _) = (false, refl)
whole_role (act.Parameters _) = (false, refl)
whole_role act.Loop = (true, refl)
whole_role act.Exit = (true, refl)
whole_role (act.Do _ _) = (false, refl)
whole_role act.Return = (false, refl)
whole_role act.Quit = (false, refl)
whole_role act.Cancel = (false, refl)
whole_role act.Close = (false, refl)
whole_role (act.Use _ _) = (false, refl)
whole_role (act.Select _) = (false, refl)
whole_role act.CloseAll = (false, refl)
whole_role (act.SetOrder _) = (false, refl)
whole_role (act.SetFilter _) = (false, refl)
whole_role (act.Set _ _) = (false, refl)
whole_role (act.Go _) = (false, refl)
whole_role (act.Skip _) = (false, refl)
whole_role (act.Seek _) = (false, refl)
whole_role act.AppendBlank = (false, refl)
whole_role (act.Replace _) = (false, refl)
whole_role act.Delete = (false, refl)
whole_role act.Recall = (false, refl)
whole_role act.Pack = (false, refl)
whole_role act.Zap = (false, refl)
whole_role act.Reindex = (false, refl)
whole_role (act.IndexOn _ _) = (false, refl)

-- what the open parts are behind a line
pub after_nothing : (ps : List Part) (n : ℕ) → parts_after ps n role.Nothing ≡ ps
unfolding parts_after
after_nothing ps n = refl

after_leap : (ps : List Part) (n : ℕ) (b : Bool) → parts_after ps n (if b then role.Leap else role.Plain) ≡ ps
unfolding parts_after
after_leap ps n true = refl
after_leap ps n false = refl

pub after_whole : (ps : List Part) (n : ℕ) (a : Act) → parts_after ps n (role_of (saying.Whole a)) ≡ ps
after_whole ps n a = let w = whole_role a in ap (parts_after ps n) w.1 ∙ after_leap ps n w.0

pub after_if : (ps : List Part) (n : ℕ)
    → parts_after ps n role.If ≡ ps ++ (record { place = place.InThen; line = n }) ∷ []
unfolding parts_after
after_if ps n = refl

pub after_do_case : (ps : List Part) (n : ℕ)
    → parts_after ps n role.DoCase ≡ ps ++ (record { place = place.BeforeCases; line = n }) ∷ []
unfolding parts_after
after_do_case ps n = refl

pub after_do_while : (ps : List Part) (n : ℕ)
    → parts_after ps n role.DoWhile ≡ ps ++ (record { place = place.InWhile; line = n }) ∷ []
unfolding parts_after
after_do_while ps n = refl

pub after_scan : (ps : List Part) (n : ℕ)
    → parts_after ps n role.Scan ≡ ps ++ (record { place = place.InScan; line = n }) ∷ []
unfolding parts_after
after_scan ps n = refl

pub after_else : (ps : List Part) (n : ℕ) → parts_after ps n role.Else ≡ spec.divide_at ps (innermost ps) place.InElse
unfolding parts_after
after_else ps n = refl

pub after_case : (ps : List Part) (n : ℕ) → parts_after ps n role.Case ≡ spec.divide_at ps (innermost ps) place.InCase
unfolding parts_after
after_case ps n = refl

pub after_otherwise : (ps : List Part) (n : ℕ)
    → parts_after ps n role.Otherwise ≡ spec.divide_at ps (innermost ps) place.InOtherwise
unfolding parts_after
after_otherwise ps n = refl

pub after_procedure : (ps : List Part) (n : ℕ) → parts_after ps n role.Procedure ≡ []
unfolding parts_after
after_procedure ps n = refl

pub after_ending : (ps : List Part) (n : ℕ) (s : Saying) → is_ending s ≡ true → parts_after ps n (role_of s) ≡ outer ps
unfolding parts_after
after_ending ps n saying.EndIf e = refl
after_ending ps n saying.EndCase e = refl
after_ending ps n saying.EndDo e = refl
after_ending ps n saying.EndScan e = refl
after_ending ps n saying.Nothing e = absurd cc
after_ending ps n (saying.Whole _) e = absurd cc
after_ending ps n (saying.If _) e = absurd cc
after_ending ps n saying.Else e = absurd cc
after_ending ps n saying.DoCase e = absurd cc
after_ending ps n (saying.Case _) e = absurd cc
after_ending ps n saying.Otherwise e = absurd cc
after_ending ps n (saying.DoWhile _) e = absurd cc
after_ending ps n (saying.Scan _) e = absurd cc
after_ending ps n (saying.Procedure _) e = absurd cc

-- the innermost part goes on as another one of its block
pub divided_last : (ps : List Part) (p : Part) (next : Place)
    → spec.divide_at (ps ++ p ∷ []) (innermost (ps ++ p ∷ [])) next
    ≡ ps ++ (record { place = next; line = p.line }) ∷ []
divided_last ps p next =
    ap (λ (o : Option Part). spec.divide_at (ps ++ p ∷ []) o next) (innermost_last ps p)
    ∙ ap (λ (qs : List Part). qs ++ (record { place = next; line = p.line }) ∷ []) (outer_last ps p)

-- where commands may stand, no CASE is awaited
pub no_case : (ps : List Part) (c : Current)
    → spec.holds_commands (option_map (λ part. part.place) (innermost (ps ++ awaited c))) ≡ true → awaited c ≡ []
no_case ps (Commands cs) e = refl
no_case ps (DoCase n cs) e =
    let i = ap (λ (o : Option Part). spec.holds_commands (option_map (λ part. part.place) o))
    (innermost_last ps (record { place = place.BeforeCases; line = n })) in cc

-- behind IF no CASE is awaited
pub no_case_then : (ps : List Part) (c : Current)
    → spec.is_then (option_map (λ part. part.place) (innermost (ps ++ awaited c))) ≡ true → awaited c ≡ []
no_case_then ps (Commands cs) e = refl
no_case_then ps (DoCase n cs) e =
    let i = ap (λ (o : Option Part). spec.is_then (option_map (λ part. part.place) o))
    (innermost_last ps (record { place = place.BeforeCases; line = n })) in cc

pub then_open : (h : Open) → spec.is_then (Some (place_of_open h)) ≡ true → place_of_open h ≡ place.InThen
then_open (begun.Then _) e = refl
then_open (begun.Else _ _ _) e = cc
then_open (begun.Case _ _ _) e = cc
then_open (begun.Otherwise _ _) e = cc
then_open (begun.While _) e = cc
then_open (begun.Scan _) e = cc

pub case_open : (h : Open) → spec.takes_cases (Some (place_of_open h)) ≡ true → place_of_open h ≡ place.InCase
case_open (begun.Then _) e = cc
case_open (begun.Else _ _ _) e = cc
case_open (begun.Case _ _ _) e = refl
case_open (begun.Otherwise _ _) e = cc
case_open (begun.While _) e = cc
case_open (begun.Scan _) e = cc

ends_if : (h : Open) → spec.is_if (Some (place_of_open h)) ≡ true → block_ending h ≡ saying.EndIf
ends_if (begun.Then _) e = refl
ends_if (begun.Else _ _ _) e = refl
ends_if (begun.Case _ _ _) e = cc
ends_if (begun.Otherwise _ _) e = cc
ends_if (begun.While _) e = cc
ends_if (begun.Scan _) e = cc

ends_case : (h : Open) → spec.is_case (Some (place_of_open h)) ≡ true → block_ending h ≡ saying.EndCase
ends_case (begun.Then _) e = cc
ends_case (begun.Else _ _ _) e = cc
ends_case (begun.Case _ _ _) e = refl
ends_case (begun.Otherwise _ _) e = refl
ends_case (begun.While _) e = cc
ends_case (begun.Scan _) e = cc

ends_while : (h : Open) → spec.is_while (Some (place_of_open h)) ≡ true → block_ending h ≡ saying.EndDo
ends_while (begun.Then _) e = cc
ends_while (begun.Else _ _ _) e = cc
ends_while (begun.Case _ _ _) e = cc
ends_while (begun.Otherwise _ _) e = cc
ends_while (begun.While _) e = refl
ends_while (begun.Scan _) e = cc

ends_scan : (h : Open) → spec.is_scan (Some (place_of_open h)) ≡ true → block_ending h ≡ saying.EndScan
ends_scan (begun.Then _) e = cc
ends_scan (begun.Else _ _ _) e = cc
ends_scan (begun.Case _ _ _) e = cc
ends_scan (begun.Otherwise _ _) e = cc
ends_scan (begun.While _) e = cc
ends_scan (begun.Scan _) e = refl

-- what ends a block where it may stand is the block's ending
pub ending_said : (h : Open) (s : Saying) (n : ℕ) → is_ending s ≡ true
    → may_stand (role_of s) (Some (place_of_open h)) ≡ true → lines_of_saying n s ≡ line n (block_ending h) ∷ []
ending_said h saying.Nothing n e m = absurd cc
ending_said h (saying.Whole _) n e m = absurd cc
ending_said h (saying.If _) n e m = absurd cc
ending_said h saying.Else n e m = absurd cc
ending_said h saying.EndIf n e m = ap (λ s. line n s ∷ []) (sym (ends_if h m))
ending_said h saying.DoCase n e m = absurd cc
ending_said h (saying.Case _) n e m = absurd cc
ending_said h saying.Otherwise n e m = absurd cc
ending_said h saying.EndCase n e m = ap (λ s. line n s ∷ []) (sym (ends_case h m))
ending_said h (saying.DoWhile _) n e m = absurd cc
ending_said h saying.EndDo n e m = ap (λ s. line n s ∷ []) (sym (ends_while h m))
ending_said h (saying.Scan _) n e m = absurd cc
ending_said h saying.EndScan n e m = ap (λ s. line n s ∷ []) (sym (ends_scan h m))
ending_said h (saying.Procedure _) n e m = absurd cc

-- behind DO CASE only ENDCASE ends the block
pub choice_ending : (s : Saying) (n : ℕ) → is_ending s ≡ true → may_stand (role_of s) (Some place.BeforeCases) ≡ true
    → lines_of_saying n s ≡ line n saying.EndCase ∷ []
choice_ending saying.Nothing n e m = absurd cc
choice_ending (saying.Whole _) n e m = absurd cc
choice_ending (saying.If _) n e m = absurd cc
choice_ending saying.Else n e m = absurd cc
choice_ending saying.EndIf n e m = absurd cc
choice_ending saying.DoCase n e m = absurd cc
choice_ending (saying.Case _) n e m = absurd cc
choice_ending saying.Otherwise n e m = absurd cc
choice_ending saying.EndCase n e m = refl
choice_ending (saying.DoWhile _) n e m = absurd cc
choice_ending saying.EndDo n e m = absurd cc
choice_ending (saying.Scan _) n e m = absurd cc
choice_ending saying.EndScan n e m = absurd cc
choice_ending (saying.Procedure _) n e m = absurd cc

-- one more at the end, with these lines
-- the lines of a list, and of one more behind it
pub put_by : {A : Type 0} (all : List A → Lines) (f : A → Lines)
    → ((xs : List A) (x : A) → all (xs ++ x ∷ []) ≡ all xs ++ f x) → (xs ys : List A) (x : A) (ls : Lines)
    → ys ≡ xs ++ x ∷ [] → f x ≡ ls → all ys ≡ all xs ++ ls
put_by all f more xs ys x ls e l = ap all e ∙ more xs x ∙ ap (λ (behind : Lines). all xs ++ behind) l

pub put_more : {A : Type 0} (f : A → Lines) (xs ys : List A) (x : A) (ls : Lines) → ys ≡ xs ++ x ∷ [] → f x ≡ ls
    → all_of (map f ys) ≡ all_of (map f xs) ++ ls
put_more f xs ys x ls e l =
    ap (λ zs. all_of (map f zs)) e ∙ lines_more f xs x ∙ ap (λ more. all_of (map f xs) ++ more) l

-- what is built grows by these lines
pub grown : (f o c p d more : Lines) → p ++ d ≡ (o ++ c) ++ more → f ++ (p ++ d) ≡ (f ++ (o ++ c)) ++ more
grown f o c p d more e = ap (λ (ls : Lines). f ++ ls) e ∙ sym (append_assoc f (o ++ c) more)

-- an open block more
pub opened_lines : (o p b c d h : Lines) → p ≡ o ++ (b ++ h) → d ≡ [] → c ≡ b → p ++ d ≡ (o ++ c) ++ h
opened_lines o p b c d h e n s = rw (e, n, s) (append-nil (o ++ (b ++ h)) ∙ sym (append_assoc o b h))

regrouped : (o b h t e : Lines) → o ++ (b ++ (h ++ (t ++ e))) ≡ ((o ++ (b ++ h)) ++ t) ++ e
regrouped o b h t e = simp append_assoc

-- another part of the innermost block
pub divided_lines : (n o p b c d h g t e : Lines) → p ≡ n ++ (b ++ g) → d ≡ [] → o ≡ n ++ (b ++ h) → c ≡ t
    → g ≡ h ++ (t ++ e) → p ++ d ≡ (o ++ c) ++ e
divided_lines n o p b c d h g t e ep ed eo ec eg =
    rw (ep, ed, eo, ec, eg) (append-nil (n ++ (b ++ (h ++ (t ++ e)))) ∙ regrouped n b h t e)

regrouped_choice : (n b x e : Lines) → n ++ (b ++ (x ++ e)) ≡ (n ++ (b ++ x)) ++ e
regrouped_choice n b x e = simp append_assoc

-- another part of the innermost DO CASE
pub chosen_lines : (n p b d g x e all : Lines) → p ≡ n ++ (b ++ g) → d ≡ [] → all ≡ n ++ (b ++ x) → g ≡ x ++ e
    → p ++ d ≡ all ++ e
chosen_lines n p b d g x e all ep ed ea eg =
    rw (ep, ed, ea, eg) (append-nil (n ++ (b ++ (x ++ e))) ∙ regrouped_choice n b x e)

-- the innermost block ends
pub ended_lines : (n o p b h t e form : Lines) → p ≡ b ++ form → form ≡ h ++ (t ++ e) → o ≡ n ++ (b ++ h)
    → n ++ p ≡ (o ++ t) ++ e
ended_lines n o p b h t e form ep ef eo = rw (ep, ef, eo) (regrouped n b h t e)

pub part_more : (bs cs : List OpenBlock) (b : OpenBlock) → cs ≡ bs ++ b ∷ []
    → map part_of_block cs ≡ map part_of_block bs ++ part_of_block b ∷ []
part_more bs cs b e = ap (map part_of_block) e ∙ map-append part_of_block bs (b ∷ [])

pub parts_here : (bs cs : List OpenBlock) (b : OpenBlock) (others : List Part) → cs ≡ bs ++ b ∷ [] → others ≡ []
    → map part_of_block cs ++ others ≡ map part_of_block bs ++ part_of_block b ∷ []
parts_here bs cs b others e n =
    ap (λ (ps : List Part). map part_of_block cs ++ ps) n ∙ append-nil (map part_of_block cs) ∙ part_more bs cs b e

pub inner_here : (bs cs : List OpenBlock) (b : OpenBlock) (others : List Part) → cs ≡ bs ++ b ∷ [] → others ≡ []
    → innermost (map part_of_block cs ++ others) ≡ Some (part_of_block b)
inner_here bs cs b others e n =
    ap innermost (parts_here bs cs b others e n) ∙ innermost_last (map part_of_block bs) (part_of_block b)

pub part_opened : (bs cs : List OpenBlock) (b : OpenBlock) (others : List Part) → cs ≡ bs ++ b ∷ [] → others ≡ []
    → map part_of_block cs ++ [] ≡ (map part_of_block bs ++ others) ++ part_of_block b ∷ []
part_opened bs cs b others e n =
    append-nil (map part_of_block cs) ∙ part_more bs cs b e
    ∙ sym (ap (λ (ps : List Part). ps ++ part_of_block b ∷ [])
    (ap (λ (ps : List Part). map part_of_block bs ++ ps) n ∙ append-nil (map part_of_block bs)))

pub part_awaited : (ps others : List Part) (p : Part) → others ≡ [] → ps ++ p ∷ [] ≡ (ps ++ others) ++ p ∷ []
part_awaited ps others p n =
    sym (ap (λ (qs : List Part). qs ++ p ∷ []) (ap (λ (qs : List Part). ps ++ qs) n ∙ append-nil ps))

-- the innermost block goes on with another part
pub parts_divided : (n bs cs : List OpenBlock) (b c : OpenBlock) (others : List Part) (next : Place) → bs ≡ n ++ b ∷ []
    → others ≡ [] → cs ≡ n ++ c ∷ [] → place_of_open c.head ≡ next → c.line ≡ b.line
    → map part_of_block cs ++ []
    ≡ spec.divide_at (map part_of_block bs ++ others) (innermost (map part_of_block bs ++ others)) next
parts_divided n bs cs b c others next e o f p l =
    append-nil (map part_of_block cs) ∙ part_more n cs c f
    ∙ ap (λ (q : Place). map part_of_block n ++ (record { place = q; line = c.line }) ∷ []) p
    ∙ ap (λ (k : ℕ). map part_of_block n ++ (record { place = next; line = k }) ∷ []) l
    ∙ sym (ap (λ (ps : List Part). spec.divide_at ps (innermost ps) next) (parts_here n bs b others e o) ∙ divided_last
    (map part_of_block n) (part_of_block b) next)

-- where no block is open
pub none_open : (test : Option Place → Bool) → test None ≡ false → (ps others : List Part) → ps ≡ [] → others ≡ []
    → test (option_map (λ part. part.place) (innermost (ps ++ others))) ≡ true → ⊥
none_open test f [] [] e o t = cc
none_open test f [] (q ∷ qs) e o t = cc
none_open test f (p ∷ ps) others e o t = cc

pub left_nil : {A : Type 0} (xs ys : List A) → xs ++ ys ≡ [] → xs ≡ []
left_nil [] ys e = refl
left_nil (x ∷ xs) ys e = cc

pub right_nil : {A : Type 0} (xs ys : List A) → xs ++ ys ≡ [] → ys ≡ []
right_nil [] ys e = e
right_nil (x ∷ xs) ys e = cc

pub map_nil : {A B : Type 0} (f : A → B) (xs : List A) → map f xs ≡ [] → xs ≡ []
map_nil f [] e = refl
map_nil f (x ∷ xs) e = cc

-- a command of one line was taken
pub whole_stands : (ps : List Part) (a : Act) → fault_of_place ps (role_of (saying.Whole a)) ≡ None
    → spec.holds_commands (option_map (λ part. part.place) (innermost ps)) ≡ true
whole_stands ps a e = let w = whole_role a in stands w.0 (ap (fault_of_place ps) (sym w.1) ∙ e)
  where
    stands : (b : Bool) → fault_of_place ps (if b then role.Leap else role.Plain) ≡ None
        → spec.holds_commands (option_map (λ part. part.place) (innermost ps)) ≡ true
    stands true e = standing ps role.Leap e
    stands false e = standing ps role.Plain e

pub whole_took : {E : Type 0} (b : Builder) (n : ℕ) (s : Single) (r : Result Builder E)
    → fault_of_place (built_parts b) (role_of (saying.Whole (act_of s))) ≡ None
    → (awaited b.current ≡ []
    → IfOk r (λ c. (built_lines c ≡ built_lines b ++ form_lines (Statement s) n) × (built_parts c ≡ built_parts b)))
    → IfOk r (Took b n (saying.Whole (act_of s)))
whole_took b n s (Ok c) e h =
    let w : (built_lines c ≡ built_lines b ++ form_lines (Statement s) n) × (built_parts c ≡ built_parts b) =
    h (no_case (map part_of_block b.blocks.items) b.current (whole_stands (built_parts b) (act_of s) e)) in
    record {
      lines = w.0 ∙ ap (λ (ls : Lines). built_lines b ++ ls) (form_statement s n);
      parts = w.1 ∙ sym (after_whole (built_parts b) n (act_of s));
    }
whole_took b n s (Err x) e h = tt

-- a line that opens a block was taken
pub open_took : {E : Type 0} (b : Builder) (n : ℕ) (h : Open) (s : Saying) (r : Result Builder E)
    → spec.holds_commands (option_map (λ part. part.place) (innermost (built_parts b))) ≡ true
    → lines_of_saying n s ≡ head_lines n h
    → parts_after (built_parts b) n (role_of s)
    ≡ built_parts b ++ (record { place = place_of_open h; line = n }) ∷ []
    → (awaited b.current ≡ []
    → IfOk r
    (λ c. (built_lines c ≡ built_lines b ++ head_lines n h)
    × (built_parts c ≡ built_parts b ++ (record { place = place_of_open h; line = n }) ∷ [])))
    → IfOk r (Took b n s)
open_took b n h s (Ok c) m e p k =
    let w : (built_lines c ≡ built_lines b ++ head_lines n h)
    × (built_parts c ≡ built_parts b ++ (record { place = place_of_open h; line = n }) ∷ []) = k
    (no_case (map part_of_block b.blocks.items) b.current m) in
    record { lines = w.0 ∙ ap (λ (ls : Lines). built_lines b ++ ls) (sym e); parts = w.1 ∙ sym p }
open_took b n h s (Err x) m e p k = tt

-- the contract of a line that is taken
abbrev pub Takes : {E : Type 0} → Builder → ℕ → Result Builder E → Sentence → Type 0
Takes b n r s =
    fault_of_place (built_parts b) (role_of (saying_of s)) ≡ None
    → (spec.begins_procedure (role_of (saying_of s)) ≡ true → built_parts b ≡ []) → IfOk r (Took b n (saying_of s))

pub nothing_took : (b : Builder) (n : ℕ) (s : Sentence) → s ≡ sentence.Nothing
    → fault_of_place (built_parts b) (role_of (saying_of s)) ≡ None
    → (spec.begins_procedure (role_of (saying_of s)) ≡ true → built_parts b ≡ []) → Took b n (saying_of s) b
nothing_took b n s i e p =
    subst (λ (t : Sentence). Took b n (saying_of t) b) (sym i)
    (record { lines = sym (append-nil (built_lines b)); parts = sym (after_nothing (built_parts b) n) })

pub choice_took : (b : Builder) (n : ℕ) (s : Sentence) (c : Builder) → s ≡ sentence.DoCase
    → (awaited b.current ≡ [] → Took b n saying.DoCase c)
    → fault_of_place (built_parts b) (role_of (saying_of s)) ≡ None
    → (spec.begins_procedure (role_of (saying_of s)) ≡ true → built_parts b ≡ []) → Took b n (saying_of s) c
choice_took b n s c i h e p =
    subst (λ (t : Sentence). Took b n (saying_of t) c) (sym i)
    (h (no_case (map part_of_block b.blocks.items) b.current
    (standing (built_parts b) role.DoCase
    (subst (λ (t : Sentence). fault_of_place (built_parts b) (role_of (saying_of t)) ≡ None) i e))))

pub last_case : (n o b h t x : Lines) → o ≡ n ++ (b ++ h) → h ++ t ≡ x → o ++ t ≡ n ++ (b ++ x)
last_case n o b h t x eo ex = rw (eo, ← ex) (simp append_assoc)

pub choice_behind : {E : Type 0} (bs : Vec OpenBlock Global) (current : Current) (body : Vec Command Global)
    (r : Result Choice E) → current ≡ Commands body
    → (spec.takes_cases (option_map (λ part. part.place) (innermost (map part_of_block bs.items))) ≡ true
    → IfOk r
    (λ c. (opens_lines bs.items ++ body_lines body.items ≡ opens_lines c.blocks.items
    ++ (body_lines c.before.items ++ line c.line saying.DoCase ∷ cases_lines c.cases.items))
    × ((next : Place) → spec.divide_at (map part_of_block bs.items) (innermost (map part_of_block bs.items)) next ≡ map
    part_of_block c.blocks.items ++ (record { place = next; line = c.line }) ∷ [])))
    → spec.takes_cases (option_map (λ part. part.place) (innermost (map part_of_block bs.items ++ awaited current)))
    ≡ true
    → IfOk r (IsChoice bs current)
choice_behind bs current body (Err x) i h t = tt
choice_behind bs current body (Ok c) i h t =
    let p : map part_of_block bs.items ++ awaited current ≡ map part_of_block bs.items =
    ap (λ (k : Current). map part_of_block bs.items ++ awaited k) i ∙ append-nil (map part_of_block bs.items) in
    let w : (opens_lines bs.items ++ body_lines body.items ≡ opens_lines c.blocks.items
    ++ (body_lines c.before.items ++ line c.line saying.DoCase ∷ cases_lines c.cases.items))
    × ((next : Place) → spec.divide_at (map part_of_block bs.items) (innermost (map part_of_block bs.items)) next ≡ map
    part_of_block c.blocks.items ++ (record { place = next; line = c.line }) ∷ [])
    = h (ap (λ (ps : List Part). spec.takes_cases (option_map (λ part. part.place) (innermost ps))) (sym p) ∙ t) in
    record {
      lines = ap (λ (k : Current). opens_lines bs.items ++ current_lines k) i ∙ w.0;
      parts = λ next. ap (λ (ps : List Part). spec.divide_at ps (innermost ps) next) p ∙ w.1 next;
    }

pub choice_first : (bs : Vec OpenBlock Global) (current : Current) (n : ℕ) (before : Vec Command Global)
    (cases : Vec Case Global) → current ≡ DoCase n before → cases.items ≡ []
    → IsChoice bs current (record { blocks = bs; line = n; cases = cases; before = before })
choice_first bs current n before cases i e = record {
  lines =
      ap (λ (k : Current). opens_lines bs.items ++ current_lines k) i
      ∙ ap (λ (cs : List Case). opens_lines bs.items
      ++ (body_lines before.items ++ line n saying.DoCase ∷ cases_lines cs)) (sym e);
  parts =
      λ next. ap (λ (k : Current). spec.divide_at (map part_of_block bs.items ++ awaited k)
      (innermost (map part_of_block bs.items ++ awaited k)) next) i
      ∙ divided_last (map part_of_block bs.items) (record { place = place.BeforeCases; line = n }) next;
}

regrouped_procedure : (m p l b : Lines) → m ++ (p ++ (l ++ b)) ≡ ((m ++ p) ++ l) ++ b
regrouped_procedure m p l b = simp append_assoc

pub procedure_ended : (f : Finished) (main : Vec Command Global) (procedures others : Vec Procedure Global) (n : ℕ)
    (name : ArrayVec ℕ) (body : Vec Command Global) → f ≡ Main main procedures n name
    → others.items ≡ procedures.items ++ (record { line = n; name = name; body = body }) ∷ []
    → body_lines main.items ++ procedures_lines others.items ≡ finished_lines f ++ body_lines body.items
procedure_ended f main procedures others n name body i e =
    ap (λ (ls : Lines). body_lines main.items ++ ls)
    (put_by procedures_lines procedure_lines procedures_more procedures.items others.items
    (record { line = n; name = name; body = body }) (line n (saying.Procedure name.items) ∷ body_lines body.items) e
    refl)
    ∙ regrouped_procedure (body_lines main.items) (procedures_lines procedures.items)
    (line n (saying.Procedure name.items) ∷ []) (body_lines body.items)
    ∙ ap (λ (g : Finished). finished_lines g ++ body_lines body.items) (sym i)

pub all_finished : {E : Type 0} (b : Builder) (body : Vec Command Global) (r : Result Program E) → built_parts b ≡ []
    → (awaited b.current ≡ [] → current_lines b.current ≡ body_lines body.items)
    → IfOk r (λ p. program_lines p ≡ finished_lines b.finished ++ body_lines body.items)
    → IfOk r (λ p. program_lines p ≡ built_lines b)
all_finished b body (Err x) e h k = tt
all_finished b body (Ok p) e h k =
    let none : b.blocks.items ≡ [] =
    map_nil part_of_block b.blocks.items (left_nil (map part_of_block b.blocks.items) (awaited b.current) e) in
    let same : current_lines b.current ≡ body_lines body.items =
    h (right_nil (map part_of_block b.blocks.items) (awaited b.current) e) in
    k ∙ ap (λ (ls : Lines). finished_lines b.finished ++ ls) (sym same)
    ∙ ap (λ (bs : List OpenBlock). finished_lines b.finished ++ (opens_lines bs ++ current_lines b.current))
    (sym none)

pub started : (p b o c l : Lines) → p ≡ b → o ≡ [] → c ≡ [] → (p ++ l) ++ (o ++ c) ≡ b ++ l
started p b o c l ep eo ec = rw (ep, eo, ec) (append-nil (b ++ l))

-- the innermost block was ended
pub block_ended : {E : Type 0} (bs n : Vec OpenBlock Global) (b : OpenBlock) (body : Vec Command Global) (end : ℕ)
    (s : Saying) (f : Form) (r : Result (Vec Command Global) E) → bs.items ≡ n.items ++ b ∷ []
    → is_ending s ≡ true
    → may_stand (role_of s) (option_map (λ part. part.place) (innermost (map part_of_block bs.items))) ≡ true
    → ((k : ℕ) → form_lines f k ≡ head_lines k b.head ++ (body_lines body.items ++ line end (block_ending b.head) ∷ []))
    → IfOk r (λ cs. body_lines cs.items ≡ body_lines b.before.items ++ form_lines f b.line)
    → IfOk r
    (λ cs. (opens_lines n.items ++ body_lines cs.items ≡ (opens_lines bs.items ++ body_lines body.items)
    ++ lines_of_saying end s)
    × (map part_of_block n.items ≡ outer (map part_of_block bs.items)))
block_ended bs n b body end s f (Err x) o e m g h = tt
block_ended bs n b body end s f (Ok cs) o e m g h =
    let p = part_more n.items bs.items b o in
    let i = ap innermost p ∙ innermost_last (map part_of_block n.items) (part_of_block b) in
    let w =
    ending_said b.head s end e (ap (λ (x : Option Part). may_stand (role_of s) (option_map (λ part. part.place) x))
    (sym i) ∙ m) in (
      ended_lines (opens_lines n.items) (opens_lines bs.items) (body_lines cs.items) (body_lines b.before.items)
          (head_lines b.line b.head) (body_lines body.items) (lines_of_saying end s) (form_lines f b.line)
          h (g b.line ∙ ap (λ (ls : Lines). head_lines b.line b.head ++ (body_lines body.items ++ ls)) (sym w))
          (put_more open_lines n.items bs.items b (body_lines b.before.items ++ head_lines b.line b.head) o refl),
      sym (ap outer p ∙ outer_last (map part_of_block n.items) (part_of_block b)),
    )

-- an ending line was taken, behind commands
pub ended_last : (b : Builder) (bs : Vec OpenBlock Global) (body commands : Vec Command Global) (n : ℕ) (s : Saying)
    → b.current ≡ Commands body → is_ending s ≡ true → fault_of_place (built_parts b) (role_of s) ≡ None
    → (may_stand (role_of s) (option_map (λ part. part.place) (innermost (map part_of_block b.blocks.items))) ≡ true
    → (opens_lines bs.items ++ body_lines commands.items
    ≡ (opens_lines b.blocks.items ++ body_lines body.items) ++ lines_of_saying n s)
    × (map part_of_block bs.items ≡ outer (map part_of_block b.blocks.items)))
    → Took b n s (record { alloc = b.alloc; finished = b.finished; blocks = bs; current = Commands commands })
ended_last b bs body commands n s i e f h =
    let p : built_parts b ≡ map part_of_block b.blocks.items =
    ap (λ (k : Current). map part_of_block b.blocks.items ++ awaited k) i
    ∙ append-nil (map part_of_block b.blocks.items) in
    let w : (opens_lines bs.items ++ body_lines commands.items ≡ (opens_lines b.blocks.items ++ body_lines body.items)
    ++ lines_of_saying n s) × (map part_of_block bs.items ≡ outer (map part_of_block b.blocks.items))
    = h (ap (λ (ps : List Part). may_stand (role_of s) (option_map (λ part. part.place) (innermost ps))) (sym p)
    ∙ standing (built_parts b) (role_of s) f) in
    record {
      lines =
          grown (finished_lines b.finished) (opens_lines b.blocks.items) (current_lines b.current)
          (opens_lines bs.items) (body_lines commands.items) (lines_of_saying n s)
          (w.0 ∙ ap (λ (k : Current). (opens_lines b.blocks.items ++ current_lines k) ++ lines_of_saying n s) (sym i));
      parts =
          append-nil (map part_of_block bs.items) ∙ w.1 ∙ ap outer (sym p) ∙ sym (after_ending (built_parts b) n s e);
    }

choice_lines : (o p b f d y : Lines) → p ≡ b ++ f → f ≡ d ++ y → o ++ p ≡ (o ++ (b ++ d)) ++ y
choice_lines o p b f d y ep ef = rw (ep, ef) (regrouped_choice o b d y)

-- ENDCASE was taken directly behind DO CASE
pub ended_choice : (b : Builder) (opening : ℕ) (before commands : Vec Command Global) (cases : Vec Case Global)
    (f : Form) (n : ℕ) (s : Saying) → b.current ≡ DoCase opening before → is_ending s ≡ true
    → fault_of_place (built_parts b) (role_of s) ≡ None
    → cases.items ≡ []
    → ((k : ℕ) → form_lines f k ≡ line k saying.DoCase ∷ (cases_lines cases.items ++ line n saying.EndCase ∷ []))
    → body_lines commands.items ≡ body_lines before.items ++ form_lines f opening
    → Took b n s (record { alloc = b.alloc; finished = b.finished; blocks = b.blocks; current = Commands commands })
ended_choice b opening before commands cases f n s i e t none g h =
    let p : built_parts b ≡ map part_of_block b.blocks.items ++ (record { place = place.BeforeCases; line = opening })
    ∷ [] = ap (λ (k : Current). map part_of_block b.blocks.items ++ awaited k) i in
    let last =
    ap innermost p ∙ innermost_last (map part_of_block b.blocks.items)
    (record { place = place.BeforeCases; line = opening }) in
    let w =
    choice_ending s n e (ap (λ (o : Option Part). may_stand (role_of s) (option_map (λ part. part.place) o))
    (sym last) ∙ standing (built_parts b) (role_of s) t) in
    let form : form_lines f opening ≡ line opening saying.DoCase ∷ lines_of_saying n s =
    g opening ∙ ap (λ (cs : List Case). line opening saying.DoCase ∷ (cases_lines cs ++ line n saying.EndCase ∷ []))
    none ∙ ap (λ (ls : Lines). line opening saying.DoCase ∷ ls) (sym w) in
    record {
      lines =
          grown (finished_lines b.finished) (opens_lines b.blocks.items) (current_lines b.current)
          (opens_lines b.blocks.items) (body_lines commands.items) (lines_of_saying n s)
          (choice_lines (opens_lines b.blocks.items) (body_lines commands.items) (body_lines before.items)
          (form_lines f opening) (line opening saying.DoCase ∷ []) (lines_of_saying n s) h form
          ∙ ap (λ (k : Current). (opens_lines b.blocks.items ++ current_lines k) ++ lines_of_saying n s) (sym i));
      parts = append-nil (map part_of_block b.blocks.items)
          ∙ sym (after_ending (built_parts b) n s e ∙ ap outer p ∙ outer_last (map part_of_block b.blocks.items)
          (record { place = place.BeforeCases; line = opening }));
    }
