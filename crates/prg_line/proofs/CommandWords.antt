-- Each command's words begin it.
use Rattle.std.proofs.Common.{◌≡◌, ℕ, inl, inr, List, [], ◌∷◌, ◌++◌, codes, true, false, Option, Some, refl, sym}
use Rattle.std.proofs.Common.{ap, ◌∙◌, subst}
use Rattle.std.proofs.lemmas.Bool.{and_parts, cond-false, cond-true}
use Rattle.prg_expr.specs.Functions.{is_cut}
use Rattle.prg_expr.specs.Lexicon.{IsOneOf}
use Rattle.prg_expr.proofs.Cuts.{splits, not_cut, splits_all, apart, splits_listed}
use Rattle.prg_expr.proofs.Sound.{bool_tells}
use Rattle.prg_line.specs.declared.verb.Verb.{Verb}
use Rattle.prg_line.specs.Verbs.{VerbWord, verb_of_table, or_verb, or_unknown, of_screen, of_variables, of_branches}
use Rattle.prg_line.specs.Verbs.{of_loops, of_calls, of_areas, of_moves, of_changes, all_commands, verb_of_word}

called_finds : (s : List ℕ) (x : VerbWord) (table : List VerbWord) → apart table ≡ true → IsOneOf x table
    → is_cut s x.0 ≡ true → verb_of_table table s ≡ Some x.1
called_finds s x [] a i c = absurd i
called_finds s x (y ∷ ys) a (inl i) c =
    let d : is_cut s y.0 ≡ true = subst (λ (z : VerbWord). is_cut s z.0 ≡ true) i c in cond-true (is_cut s y.0)
    (Some y.1) (verb_of_table ys s) d ∙ ap (λ (z : VerbWord). Some z.1) (sym i)
called_finds s x (y ∷ ys) a (inr i) c =
    let t = and_parts (splits_all y.0 ys) (apart ys) a in
    cond-false (is_cut s y.0) (Some y.1) (verb_of_table ys s) (not_cut s y.0 x.0 (splits_listed y.0 x ys t.0 i) c)
    ∙ called_finds s x ys t.1 i c

called_append : (s : List ℕ) (t u : List VerbWord)
    → verb_of_table (t ++ u) s ≡ or_verb (verb_of_table t s) (verb_of_table u s)
called_append s [] u = refl
called_append s (x ∷ t) u = elim (bool_tells (is_cut s x.0)) [
  | inl y ↦ cond-true (is_cut s x.0) _ _ y ∙ ap (λ (o : Option Verb). or_verb o (verb_of_table u s))
      (sym (cond-true (is_cut s x.0) (Some x.1) (verb_of_table t s) y))
  | inr n ↦ cond-false (is_cut s x.0) _ _ n ∙ called_append s t u
      ∙ ap (λ (o : Option Verb). or_verb o (verb_of_table u s))
      (sym (cond-false (is_cut s x.0) (Some x.1) (verb_of_table t s) n))
]

begun_all : (s : List ℕ) → or_unknown (verb_of_table all_commands s) ≡ verb_of_word s
unfolding verb_of_word
begun_all s =
    let moves : List VerbWord = of_moves ++ of_changes in
    let areas : List VerbWord = of_areas ++ moves in
    let calls : List VerbWord = of_calls ++ areas in
    let loops : List VerbWord = of_loops ++ calls in
    let branches : List VerbWord = of_branches ++ loops in
    let variables : List VerbWord = of_variables ++ branches in
    ap or_unknown (called_append s of_screen variables ∙ ap (or_verb (verb_of_table of_screen s))
    (called_append s of_variables branches ∙ ap (or_verb (verb_of_table of_variables s))
    (called_append s of_branches loops ∙ ap (or_verb (verb_of_table of_branches s))
    (called_append s of_loops calls ∙ ap (or_verb (verb_of_table of_loops s))
    (called_append s of_calls areas ∙ ap (or_verb (verb_of_table of_calls s))
    (called_append s of_areas moves ∙ ap (or_verb (verb_of_table of_areas s))
    (called_append s of_moves of_changes)))))))

all_apart : apart all_commands ≡ true
unfolding splits
all_apart = refl

pub begins : (s : List ℕ) (x : VerbWord) → IsOneOf x all_commands → is_cut s x.0 ≡ true → verb_of_word s ≡ x.1
begins s x i c = sym (begun_all s) ∙ ap or_unknown (called_finds s x all_commands all_apart i c)

-- no command begins as a comment does

no_note_all : splits_all (codes "NOTE") all_commands ≡ true
unfolding splits
no_note_all = refl

pub no_note : (s : List ℕ) (x : VerbWord) → IsOneOf x all_commands → is_cut s x.0 ≡ true
    → is_cut s (codes "NOTE") ≡ false
no_note s x i c = not_cut s (codes "NOTE") x.0 (splits_listed (codes "NOTE") x all_commands no_note_all i) c
