-- What the words begin with.
use Rattle.std.proofs.Common.{◌≡◌, List, ◌++◌, Result, Ok, Err, sym, ap, ◌∙◌}
use Rattle.std.specs.Prelude.{IfOk}
use Rattle.prg_expr.specs.declared.fault.FormFault.{FormFault}
use Rattle.prg_expr.specs.declared.fault.FormFault.TheVariants as form_fault
use Rattle.prg_expr.specs.Tree.{Tree}
use Rattle.prg_expr.specs.Word.{Word}
use Rattle.prg_expr.specs.Grammar.{Free, Spells, max_depth}
use Rattle.prg_expr.specs.Reading.{TreeRead, WordsGive, level_at}
use Rattle.prg_expr.specs.Spelling.{InFront}
use Rattle.prg_expr.proofs.Sound.{reader_sound}
use Rattle.prg_expr.proofs.Complete.{complete}

pub front_sound : (ws : List Word) (x : Tree × List Word) → level_at max_depth 7 ws ≡ Ok x → InFront x.0 ws x.1
front_sound ws x h = let t = (reader_sound max_depth 7).at ws x h in (t.front, t.stands, t.is)

pub stands : {X : Type 0} (view : X → Tree × List Word) (ws : List Word) (r : Result X FormFault)
    → WordsGive view r (level_at max_depth 7 ws) → IfOk r (λ x. InFront (view x).0 ws (view x).1)
stands view ws (Ok x) g = front_sound ws (view x) g
stands view ws (Err e) g = tt

pub front_complete : (ws front rest : List Word) (e : Tree) → Spells e front → Free 7 rest → ws ≡ front ++ rest
    → level_at max_depth 7 ws ≡ Ok (e, rest)
front_complete ws front rest e s f i = ap (level_at max_depth 7) i ∙ complete s rest f

only_of : {X : Type 0} (view : X → Tree × List Word) (read : TreeRead) (y : Tree × List Word) → read ≡ Ok y
    → (r : Result X FormFault) → WordsGive view r read → (let ok : TreeRead = Ok y in WordsGive view r ok)
only_of view read y h (Ok x) g = sym h ∙ g
only_of view read y h (Err form_fault.Memory) g = tt
only_of view read y h (Err (form_fault.Kind f)) g = sym h ∙ g

pub only : {X : Type 0} (view : X → Tree × List Word) (ws : List Word) (r : Result X FormFault)
    → WordsGive view r (level_at max_depth 7 ws) → (e : Tree) (front rest : List Word) → Spells e front → Free 7 rest
    → ws ≡ front ++ rest
    → (let x : Tree × List Word = (e, rest) in WordsGive view r (Ok x))
only view ws r g e front rest s f i = only_of view (level_at max_depth 7 ws) (e, rest)
    (front_complete ws front rest e s f i) r g
