-- Answers that are laid over rows, one after another.
use Rattle.std.proofs.Common.{◌≡◌, ◌<◌, ◌+◌, ◌++◌, ◌∷◌, ◌∙◌, [], ap, get_or, length, refl, subst, sym, take, ℕ, List}
use Rattle.std.proofs.lemmas.List.{take_more}
use Rattle.operator_desk.specs.Asked.{AnswerLies, AnswersLie}
use Rattle.operator_desk.specs.declared.gets.Laid.{Laid}

-- one more behind the others
pub lies_more : (sent : ℕ) (laid : List Laid) (answer : Laid) (before between after : List (List ℕ))
    → AnswersLie sent laid before between → AnswerLies sent answer between after
    → AnswersLie sent (laid ++ answer ∷ []) before after
lies_more sent [] answer before between after none here =
    (after, subst (λ (rows : List (List ℕ)). AnswerLies sent answer rows after) none here, refl)
lies_more sent (first ∷ laid) answer before between after all here =
    (all.0, all.1, lies_more sent laid answer all.0 between after all.2 here)

-- the same of one that was read
pub lies_to : (sent : ℕ) (laid read : List Laid) (i : ℕ) (answer : Laid) (before between after : List (List ℕ))
    → read ≡ laid → answer ≡ get_or read i answer
    → i < length read → AnswersLie sent (take i laid) before between → AnswerLies sent answer between after
    → AnswersLie sent (take (i + 1) laid) before after
lies_to sent laid read i answer before between after same is there all here =
    let is_it : answer ≡ get_or laid i answer = subst (λ (l : List Laid). answer ≡ get_or l i answer) same is in
    let within : i < length laid = subst (λ (l : List Laid). i < length l) same there in
    let more : take (i + 1) laid ≡ take i laid ++ answer ∷ [] =
    take_more laid i answer within ∙ ap (λ (y : Laid). take i laid ++ y ∷ []) (sym is_it) in
    subst (λ (l : List Laid). AnswersLie sent l before after) (sym more)
    (lies_more sent (take i laid) answer before between after all here)
