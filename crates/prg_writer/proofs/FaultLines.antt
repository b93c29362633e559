-- The lines of the faults that are told or listed.
use Rattle.std.proofs.Common.{◌≡◌, ℕ, Bool, true, false, List, [], ◌∷◌, ◌++◌, ◌&&◌, ◌==◌, cond, ◌||◌, refl, sym, ap}
use Rattle.std.proofs.Common.{◌∙◌, arith}
use Rattle.std.proofs.lemmas.Grind.{common_steps}
use Rattle.std.specs.List.{list_any}
use Rattle.std.specs.BTreeMap.{is_at}
use Rattle.std.specs.BTreeSet.{BTreeSet, contains}
use Rattle.std.proofs.lemmas.List.Folds.{list_any-append}
use Rattle.prg_code.specs.declared.fault.CompileFault.{CompileFault}
use Rattle.prg_writer.specs.Faults.{same_line, has_line, place_cmp, ArePlaces}

one_place : (a b c d : ℕ) → is_at (place_cmp (a, b)) (c, d) ≡ (c == a && d == b)
one_place a b c d = grind (arith, common_steps)

any_order : (told others one : Bool) → cond one true (told || others) ≡ (told || (others || (one || false)))
any_order true true true = refl
any_order true true false = refl
any_order true false true = refl
any_order true false false = refl
any_order false true true = refl
any_order false true false = refl
any_order false false true = refl
any_order false false false = refl

pub one_more : (old new : BTreeSet (ℕ × ℕ)) (told fault : CompileFault) (others more : List CompileFault)
    → ArePlaces old told others → more ≡ others ++ fault ∷ []
    → ((q : ℕ × ℕ)
    → contains place_cmp new q ≡ cond (is_at (place_cmp (fault.file, fault.line)) q) true (contains place_cmp old q))
    → ArePlaces new told more
one_more old new told fault others more places e added f =
    let place : ℕ × ℕ = (f.file, f.line) in
    let here : contains place_cmp new place ≡ cond (same_line f fault) true (has_line f told others) =
    added place ∙ ap (λ b. cond b true (contains place_cmp old place))
    (one_place fault.file fault.line f.file f.line) ∙ ap (λ b. cond (same_line f fault) true b) (places f) in
    here ∙ any_order (same_line f told) (list_any (same_line f) others) (same_line f fault)
    ∙ ap (λ b. same_line f told || b) (sym (list_any-append (same_line f) others (fault ∷ [])))
    ∙ ap (λ xs. has_line f told xs) (sym e)
