-- Steps in a row: where they lead, and where a stop at any moment leaves them.
use Rattle.std.proofs.Common.{◌⊎◌, inl, inr, ℕ, zero, suc, List, [], ◌∷◌, ◌++◌, refl, sym, subst}
use Rattle.std.specs.List.{AllByRecursion}
use Rattle.save_steps.specs.declared.steps.Step.{Step}
use Rattle.save_steps.specs.Folders.{InTurn, CutShort}
use Rattle.save_steps.specs.Steps.{for_each}

-- The steps lead from P to Q, and a stop at any moment leaves X.
pub record Leads {A : Type 0} (does leaves : Step → A → A → Type 0) (X : A → Type 0) (steps : List Step)
    (P Q : A → Type 0) : Type 0 where
  pub whole : (s t : A) → P s → InTurn does steps s t → Q t
  pub short : (s t : A) → P s → CutShort does leaves steps s t → X t

pub all_and : (P : Step → Type 0) (xs ys : List Step) → AllByRecursion P xs → AllByRecursion P ys
    → AllByRecursion P (xs ++ ys)
all_and P [] ys a b = b
all_and P (x ∷ xs) ys (h, a) b = (h, all_and P xs ys a b)

module _ {A : Type 0} (does leaves : Step → A → A → Type 0) where
  -- ---- cut in two

  pub did_cut : (xs ys : List Step) (s t : A) → InTurn does (xs ++ ys) s t
      → (m : A) × InTurn does xs s m × InTurn does ys m t
  did_cut [] ys s t h = (s, refl, h)
  did_cut (x ∷ xs) ys s t (m, did, rest) =
      let h = did_cut xs ys m t rest in (h.0, (m, did, h.1), h.2)

  pub stops_cut : (xs ys : List Step) (s t : A) → CutShort does leaves (xs ++ ys) s t
      → CutShort does leaves xs s t ⊎ ((m : A) × InTurn does xs s m × CutShort does leaves ys m t)
  stops_cut [] ys s t h = inr (s, refl, h)
  stops_cut (x ∷ xs) ys s t (inl here) = inl (inl here)
  stops_cut (x ∷ xs) ys s t (inr (m, did, rest)) = elim (stops_cut xs ys m t rest) [
    | inl front ↦ inl (inr (m, did, front))
    | inr (w, all, after) ↦ inr (w, (m, did, all), after)
  ]

module _ {A : Type 0} {does leaves : Step → A → A → Type 0} {X : A → Type 0} where
  pub leads_then : (xs ys : List Step) {P Q R : A → Type 0} → Leads does leaves X xs P Q → Leads does leaves X ys Q R
      → Leads does leaves X (xs ++ ys) P R
  leads_then xs ys h k = record {
    whole = λ s t p all. let cut = did_cut does leaves xs ys s t all in
        k.whole cut.0 t (h.whole s cut.0 p cut.1) cut.2;
    short = λ s t p stops. elim (stops_cut does leaves xs ys s t stops) [
      | inl front ↦ h.short s t p front
      | inr (m, all, after) ↦ k.short m t (h.whole s m p all) after
    ];
  }

  pub leads_step : (x : Step) {P Q : A → Type 0} → ((s t : A) → P s → does x s t → Q t)
      → ((s t : A) → P s → leaves x s t → X t) → ((t : A) → Q t → X t) → Leads does leaves X (x ∷ []) P Q
  leads_step x {P} {Q} whole short ends = record {
    whole = λ s t p (m, did, e). subst Q (sym e) (whole s m p did);
    short = λ s t p stops. elim stops [
      | inl here ↦ short s t p here
      | inr (m, did, e) ↦ subst X (sym e) (ends m (whole s m p did))
    ];
  }

  -- a step for each file, of which each goes on where the one before ended
  pub leads_each : (step : ℕ → Step) (P : ℕ → A → Type 0)
      → ((k : ℕ) → Leads does leaves X (step k ∷ []) (P k) (P (suc k))) → ((t : A) → P zero t → X t)
      → (n : ℕ) → Leads does leaves X (for_each step n) (P zero) (P n)
  leads_each step P each ends zero = record {
    whole = λ s t p e. subst (P zero) (sym e) p;
    short = λ s t p e. ends t (subst (P zero) (sym e) p);
  }
  leads_each step P each ends (suc n) =
      leads_then (for_each step n) (step n ∷ []) (leads_each step P each ends n) (each n)

  pub leads_from : {xs : List Step} {P Q R : A → Type 0} → ((s : A) → R s → P s) → Leads does leaves X xs P Q
      → Leads does leaves X xs R Q
  leads_from weaker h = record {
    whole = λ s t p all. h.whole s t (weaker s p) all;
    short = λ s t p stops. h.short s t (weaker s p) stops;
  }

pub leads_to : {A : Type 0} {does leaves : Step → A → A → Type 0} {X : A → Type 0} {xs : List Step}
    {P Q R : A → Type 0} → ((s : A) → Q s → R s) → Leads does leaves X xs P Q → Leads does leaves X xs P R
leads_to weaker h = record { whole = λ s t p all. weaker t (h.whole s t p all); short = h.short }

pub leads_within : {A : Type 0} {does leaves : Step → A → A → Type 0} {X Y : A → Type 0} {xs : List Step}
    {P Q : A → Type 0} → ((s : A) → X s → Y s) → Leads does leaves X xs P Q → Leads does leaves Y xs P Q
leads_within weaker h = record { whole = h.whole; short = λ s t p stops. weaker t (h.short s t p stops) }
