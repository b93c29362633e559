-- What is said of files is said of any that hold the same.
use Rattle.std.proofs.Common.{ℕ, Bool, true, false, List, [], ◌∷◌, take, Option, Some, None}
use Rattle.std.specs.Prelude.{MatchBool}
use Rattle.std.specs.List.{AllZip}
use Rattle.code_items.specs.declared.code.Code.{Code}
use Rattle.dbf_file.specs.declared.stamp.Stamp.{Stamp}
use Rattle.dbf_file.specs.Tables.{TableState}
use Rattle.file_access.specs.Holding.{Holds, SameFiles}
use Rattle.ndx_tree.specs.Trees.{TreeView}
use Rattle.run_commands.specs.declared.ending.Ended.{Ended}
use Rattle.run_commands.specs.declared.job.Job.{Job}
use Rattle.run_commands.specs.declared.refusal.RunRefusal.{RunRefusal}
use Rattle.run_commands.specs.declared.refusal.RunRefusal.TheVariants.{File, Rule, Disk, Tables, Memory}
use Rattle.run_commands.specs.Parts.{Stopped}
use Rattle.run_commands.specs.Reports.{CodeRan, IsTested, IsAccepted, IsSavedRun, IsStopped}
use Rattle.run_steps.specs.declared.ending.Outcome.{Outcome}
use Rattle.shape.specs.declared.indexes.IndexShape.{IndexShape}
use Rattle.shape.specs.declared.tables.TableShape.{TableShape}
use Rattle.shape.specs.declared.whole.Shape.{Shape}
use Rattle.file_access.proofs.Holding.{same_then}
use Rattle.table_files.specs.declared.refusal.FilesRefusal.{FilesRefusal}
use Rattle.table_files.specs.declared.refusal.FilesRefusal.TheVariants.{Refused, Disk as FileDisk, Memory as FileMemory}
use Rattle.table_files.specs.declared.refusal.TableFault.{TableFault}
use Rattle.table_files.specs.declared.refusal.TableFault.TheVariants.{Absent, TooLong, OfTable, Structure}
use Rattle.table_files.specs.Loading.{IsTableOf, IsListOf, Loaded}
use Rattle.table_files.specs.Names.{table_file, index_file}
use Rattle.table_files.specs.Refusals.{IsTableFault, MayHold, LoadRefused}
use Rattle.table_files.specs.Saving.{AreSaved, EndedAt, SaveRefused}
use Rattle.work_area.specs.Areas.{StoreState}

-- ---- loading

all_zip : {A B : Type 0} (R S : A → B → Type 0) → ((x : A) (y : B) → R x y → S x y) → (xs : List A) (ys : List B)
    → AllZip R xs ys → AllZip S xs ys
all_zip R S f [] [] h = h
all_zip R S f [] (y ∷ ys) h = h
all_zip R S f (x ∷ xs) [] h = h
all_zip R S f (x ∷ xs) (y ∷ ys) h = (f x y h.0, all_zip R S f xs ys h.1)

table_same : (a b : Holds) → SameFiles a b → (limit : ℕ) (s : TableShape) (t : TableState) → IsTableOf b limit s t
    → IsTableOf a limit s t
table_same a b same limit s t h = record {
  bytes = h.bytes;
  held = (same (table_file s) (Some h.bytes)).1 h.held;
  short = h.short;
  inside = h.inside;
}

list_same : (a b : Holds) → SameFiles a b → (s : TableShape) (x : IndexShape) (list : Option TreeView)
    → IsListOf b s x list → IsListOf a s x list
list_same a b same s x list h = record {
  found = h.found;
  held = (same (index_file x) h.found).1 h.held;
  form = h.form;
  just = h.just;
}

pub loaded_same : (a b : Holds) → SameFiles a b → (shape : Shape) (limit : ℕ) (store : StoreState)
    → Loaded b shape limit store → Loaded a shape limit store
loaded_same a b same shape limit store h = record {
  tables = h.tables;
  read = all_zip (IsTableOf b limit) (IsTableOf a limit) (table_same a b same limit) shape.tables h.tables h.read;
  lists = h.lists;
  listed = record {
    count = h.listed.count;
    each = λ n x s isx iss. list_same a b same s x _ (h.listed.each n x s isx iss);
  };
  made = h.made;
}

-- ---- refusals of loading

may_hold : (a b : Option (List ℕ) → Type 0) → ((found : Option (List ℕ)) → b found → a found) → (P : List ℕ → Type 0)
    → MayHold b P → MayHold a P
may_hold a b f P h = record { bytes = h.bytes; held = f (Some h.bytes) h.held; fact = h.fact }

fault_same : (a b : Option (List ℕ) → Type 0) → ((found : Option (List ℕ)) → b found → a found)
    → (limit : ℕ) (s : TableShape) (fault : TableFault) → IsTableFault b limit s fault → IsTableFault a limit s fault
fault_same a b f limit s Absent h = f None h
fault_same a b f limit s TooLong h = may_hold a b f _ h
fault_same a b f limit s (OfTable fault) h = may_hold a b f _ h
fault_same a b f limit s Structure h = may_hold a b f _ h

pub refused_same : (a b : Holds) → SameFiles a b → (shape : Shape) (limit : ℕ) (broke breaks : Type 0)
    → (breaks → broke) → (refusal : FilesRefusal) → LoadRefused b shape limit breaks refusal
    → LoadRefused a shape limit broke refusal
refused_same a b same shape limit broke breaks f (Refused name fault) h = record {
  t = h.t;
  s = h.s;
  declared = h.declared;
  tables = h.tables;
  earlier =
      all_zip (IsTableOf b limit) (IsTableOf a limit) (table_same a b same limit) (take h.t shape.tables) h.tables
      h.earlier;
  named = h.named;
  fault_is =
      fault_same (a (table_file h.s)) (b (table_file h.s)) (λ found. (same (table_file h.s) found).1) limit h.s fault
      h.fault_is;
}
refused_same a b same shape limit broke breaks f (FileDisk name) h = (h.0, h.1, f h.2)
refused_same a b same shape limit broke breaks f FileMemory h = h

-- ---- saving

pub saved_same : (a b c : Holds) → SameFiles a b → (shape : Shape) (store : StoreState) (stamp : Stamp) (k : ℕ)
    → AreSaved shape store stamp k b c → AreSaved shape store stamp k a c
saved_same a b c same shape store stamp k h = record {
  written = h.written;
  others =
      λ name other found. (let o = h.others name other
      found in ((λ x. o.0 ((same name found).0 x)), (λ x. (same name found).1 (o.1 x))));
}

save_refused : (shape : Shape) (k : ℕ) (broke breaks : Type 0) → (breaks → broke) → (refusal : FilesRefusal)
    → SaveRefused shape k breaks refusal → SaveRefused shape k broke refusal
save_refused shape k broke breaks f (Refused name fault) h = h
save_refused shape k broke breaks f (FileDisk name) h = (h.0, f h.1)
save_refused shape k broke breaks f FileMemory h = h

pub ended_same : (a b c : Holds) → SameFiles a b
    → (shape : Shape) (store : StoreState) (stamp : Stamp) (broke breaks : Type 0) → (breaks → broke)
    → (refusal : FilesRefusal)
    → EndedAt shape store stamp b c breaks refusal → EndedAt shape store stamp a c broke refusal
ended_same a b c same shape store stamp broke breaks f refusal h = record {
  k = h.k;
  within = h.within;
  saved = saved_same a b c same shape store stamp h.k h.saved;
  why = save_refused shape h.k broke breaks f refusal h.why;
}

-- ---- whole runs

tested_same : (a b : Holds) → SameFiles a b → (job : Job) (code : Code) (ended : Ended) (rows : List ℕ)
    → IsTested b job code ended rows → IsTested a job code ended rows
tested_same a b same job code ended rows h = record {
  store = h.store;
  loaded = loaded_same a b same code.declared.shape job.limit h.store h.loaded;
  outcome = h.outcome;
  run = h.run;
  told = h.told;
}

accepted_same : (a b : Holds) → SameFiles a b
    → (job : Job) (code : Code) (outcome : Outcome) (rows : List ℕ) (tables : StoreState) (stamp : Stamp)
    → IsAccepted b job code outcome rows tables stamp → IsAccepted a job code outcome rows tables stamp
accepted_same a b same job code outcome rows tables stamp h = record {
  accepted = h.accepted;
  store = h.store;
  loaded = loaded_same a b same code.declared.shape job.limit h.store h.loaded;
  run = h.run;
  stamped = h.stamped;
}

saved_run_same : (a b c : Holds) → SameFiles a b → (job : Job) (code : Code) (ended : Ended) (rows : List ℕ)
    → IsSavedRun b c job code ended rows → IsSavedRun a c job code ended rows
saved_run_same a b c same job code ended rows h = record {
  outcome = h.outcome;
  tables = h.tables;
  stamp = h.stamp;
  run = accepted_same a b same job code h.outcome rows h.tables h.stamp h.run;
  told = h.told;
  saved = saved_same a b c same code.declared.shape h.tables h.stamp _ h.saved;
}

stopped_run_same : (a b c : Holds) → SameFiles a b → (broke breaks : Type 0) → (breaks → broke)
    → (job : Job) (code : Code) (refusal : FilesRefusal) (rows : List ℕ)
    → IsStopped b c breaks job code refusal rows → IsStopped a c broke job code refusal rows
stopped_run_same a b c same broke breaks f job code refusal rows h = record {
  outcome = h.outcome;
  tables = h.tables;
  stamp = h.stamp;
  run = accepted_same a b same job code h.outcome rows h.tables h.stamp h.run;
  stopped = ended_same a b c same code.declared.shape h.tables h.stamp broke breaks f refusal h.stopped;
}

either_same : (checked : Bool) {A B C D : Type 0} → (A → C) → (B → D) → MatchBool checked A B → MatchBool checked C D
either_same true f g h = f h
either_same false f g h = g h

pub ran_same : (a b c : Holds) → SameFiles a b → (job : Job) (code : Code) (ended : Ended) (rows : List ℕ)
    → CodeRan b c job ended rows code → CodeRan a c job ended rows code
ran_same a b c same job code ended rows h = either_same job.checked
    (λ t. (tested_same a b same job code ended rows t.0, same_then a b c same t.1))
    (saved_run_same a b c same job code ended rows) h

pub stopped_same : (a b c : Holds) → SameFiles a b → (broke breaks : Type 0) → (breaks → broke)
    → (job : Job) (code : Code) (rows : List ℕ) (refusal : RunRefusal) → Stopped b c breaks job code rows refusal
    → Stopped a c broke job code rows refusal
stopped_same a b c same broke breaks f job code rows (File fault) h = h
stopped_same a b c same broke breaks f job code rows (Rule refused) h = h
stopped_same a b c same broke breaks f job code rows Disk h = h
stopped_same a b c same broke breaks f job code rows (Tables refusal) h =
    stopped_run_same a b c same broke breaks f job code refusal rows h
stopped_same a b c same broke breaks f job code rows Memory h = h
