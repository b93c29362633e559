-- The steps of a save in their order.
use Rattle.std.specs.Prelude.{ℕ, zero, suc, List, [], ◌∷◌, ◌++◌}
use Rattle.save_steps.specs.declared.steps.Step.{Step}
use Rattle.save_steps.specs.declared.steps.Step.TheVariants.{WritePlan, Make, Sync, WriteNote, Place, Unmake}
use Rattle.save_steps.specs.declared.steps.Step.TheVariants.{RemovePaper, RemoveDraft}

-- a step for each of the first n files, in their order
abbrev pub for_each : (ℕ → Step) → ℕ → List Step
for_each step zero = []
for_each step (suc n) = for_each step n ++ step n ∷ []

abbrev pub make_steps : ℕ → List Step
make_steps n = for_each Make n

abbrev pub places : ℕ → List Step
places n = for_each Place n

abbrev pub unmakes : ℕ → List Step
unmakes n = for_each Unmake n

-- to the note: the plan, and the new files
abbrev pub plan_steps : ℕ → List Step
plan_steps n = WritePlan ∷ make_steps n ++ Sync ∷ []

-- the plan or the note removed once all before it is on the device, and its removal brought there too
abbrev pub end_steps : List Step
end_steps = Sync ∷ RemovePaper ∷ Sync ∷ []

-- after the note: each new file in its file's place, and the note removed
abbrev pub place_steps : ℕ → List Step
place_steps n = places n ++ end_steps

-- a whole save of n files
abbrev pub save_steps : ℕ → List Step
save_steps n = plan_steps n ++ WriteNote ∷ place_steps n

-- a planned save taken away
abbrev pub back_steps : ℕ → List Step
back_steps n = RemoveDraft ∷ unmakes n ++ end_steps

-- a noted save carried to its end, once the note that was found is on the device for certain
abbrev pub on_steps : ℕ → List Step
on_steps n = Sync ∷ RemoveDraft ∷ place_steps n

-- where no paper is found: the removal of one brought to the device
abbrev pub without_steps : List Step
without_steps = RemoveDraft ∷ Sync ∷ []
