-- Lines that are judged one after the other.
use Rattle.std.proofs.Common.{◌≡◌, ◌≤◌, ◌+◌, ℕ, List, [], ◌∷◌, ◌++◌, Some, length, length-append, append_assoc}
use Rattle.std.proofs.Common.{append-nil, refl, sym, ap, ◌∙◌, subst, arith}
use Rattle.file_access.specs.Holding.{Holds, SameFiles}
use Rattle.shape.specs.declared.whole.Shape.{Shape}
use Rattle.shape_files.specs.declared.refusal.DeclFault.{DeclFault}
use Rattle.shape_files.specs.declared.refusal.DeclFault.TheVariants.{Line}
use Rattle.shape_files.specs.declared.refusal.ShapeRefusal.{ShapeRefusal}
use Rattle.shape_files.specs.declared.refusal.ShapeRefusal.TheVariants.{Refused, Disk, TableDisk, Memory}
use Rattle.shape_files.specs.Lines.{said_in_line}
use Rattle.shape_files.specs.Listing.{Faulty, Further, Good, IsNoLine, IsOfDevice, IsOfDeviceAtOne, JudgedLine}
use Rattle.shape_files.specs.Listing.{JudgedLines, NoLines}
use Rattle.text_lines.specs.Lines.{lines}
use Rattle.shape_files.specs.Refusals.{ShapeRefusalIs}
use Rattle.shape_files.specs.Shapes.{Declare, no_shape}
use Rattle.file_access.proofs.Holding.{rose_later}
use Rattle.shape_files.proofs.FileLemmas.{declare_more, declares_before, fault_before}

-- of all lines so many are judged, and the rest are left
pub record Judged (holds : Holds) (all rest : List (List ℕ)) (number : ℕ) (shape : Shape)
    (found : List DeclFault) : Type 0 where
  pub front : List (List ℕ)
  pub cut : all ≡ front ++ rest
  pub count : number ≡ length front
  pub judged : JudgedLines holds front shape found

pub none_judged : (a : Holds) (all : List (List ℕ)) → Judged a all all 0 no_shape []
none_judged a all = record { front = []; cut = refl; count = refl; judged = NoLines }

pub one_judged : (a : Holds) (all rest behind : List (List ℕ)) (text : List ℕ) (n : ℕ) (s t : Shape)
    (found more : List DeclFault)
    → rest ≡ text ∷ behind → Judged a all rest n s found → JudgedLine a (n + 1) text s t found more
    → Judged a all behind (n + 1) t more
one_judged a all rest behind text n s t found more e p one = record {
  front = p.front ++ text ∷ [];
  cut = p.cut ∙ ap (λ r. p.front ++ r) e ∙ sym (append_assoc p.front (text ∷ []) behind);
  count = omega (arith, p.count, length-append p.front (text ∷ []));
  judged = Further p.front text s t found more p.judged
      (subst (λ k. JudgedLine a (k + 1) text s t found more) p.count one);
}

pub all_judged : (a : Holds) (all rest : List (List ℕ)) (n : ℕ) (s : Shape) (found : List DeclFault) → rest ≡ []
    → Judged a all rest n s found → JudgedLines a all s found
all_judged a all rest n s found e p =
    subst (λ (ls : List (List ℕ)). JudgedLines a ls s found)
    (sym (p.cut ∙ ap (λ r. p.front ++ r) e ∙ append-nil p.front)) p.judged

-- ---- of the same files

pub line_before : (a b : Holds) (n : ℕ) (text : List ℕ) (s t : Shape) (found more : List DeclFault) → SameFiles a b
    → JudgedLine b n text s t found more → JudgedLine a n text s t found more
line_before a b n text s t found more same (Good d e) = Good (declares_before a b (said_in_line text) s t same d) e
line_before a b n text s t found more same (Faulty f told kept e) =
    Faulty f (fault_before a b s (said_in_line text) f same told) kept e

pub lines_before : (a b : Holds) (ls : List (List ℕ)) (s : Shape) (found : List DeclFault) → SameFiles a b
    → JudgedLines b ls s found → JudgedLines a ls s found
lines_before a b ls s found same NoLines = NoLines
lines_before a b ls s found same (Further front text before after earlier more all one) =
    Further front text before after earlier more (lines_before a b front before earlier same all)
    (line_before a b (length front + 1) text before after earlier more same one)

-- ---- no line has a fault

not_none : {X : Type 0} → (xs : List X) (x : X) → xs ++ x ∷ [] ≡ [] → ⊥
not_none [] x e = absurd (cc)
not_none (y ∷ xs) x e = absurd (cc)

line_more : (a : Holds) (front : List (List ℕ)) (text : List ℕ) (s t : Shape) (found more : List DeclFault) (n : ℕ)
    → (found ≡ [] → Declare a front no_shape s) → JudgedLine a n text s t found more → more ≡ []
    → Declare a (front ++ text ∷ []) no_shape t
line_more a front text s t found more n before (Good d same) e =
    declare_more a front text no_shape s t (before (sym same ∙ e)) d
line_more a front text s t found more n before (Faulty f told kept same) e =
    absurd (not_none found (Line n f) (sym same ∙ e))

pub none_faulty : (a : Holds) (ls : List (List ℕ)) (s : Shape) (found : List DeclFault) → JudgedLines a ls s found
    → found ≡ [] → Declare a ls no_shape s
none_faulty a ls s found NoLines e = refl
none_faulty a ls s found (Further front text before after earlier more all one) e =
    line_more a front text before after earlier more (length front + 1)
    (λ none. none_faulty a front before earlier all none) one e

-- ---- what is refused

pub device_at : (r : ShapeRefusal) (holds : Holds) (all rest behind : List (List ℕ)) (text : List ℕ) (n : ℕ)
    (s : Shape) (found : List DeclFault) (a b c : ℕ) → rest ≡ text ∷ behind → Judged holds all rest n s found → a ≤ b
    → b ≤ c → IsOfDevice (said_in_line text) b c r → IsOfDeviceAtOne all a c r
device_at (Refused f) holds all rest behind text n s found a b c e p l m t = absurd t
device_at Disk holds all rest behind text n s found a b c e p l m t = absurd t
device_at (TableDisk name) holds all rest behind text n s found a b c e p l m t = (
  record { front = p.front; text = text; behind = behind; cut = p.cut ∙ ap (λ r. p.front ++ r) e; says = t.0 },
  rose_later a b c l m t.1,
)
device_at Memory holds all rest behind text n s found a b c e p l m t = tt

pub device_told : (r : ShapeRefusal) (holds : Holds) (name bytes : List ℕ) (a b c : ℕ) → holds name (Some bytes)
    → a ≤ b → b ≤ c → IsOfDeviceAtOne (lines bytes) b c r → ShapeRefusalIs holds name a c r
device_told (Refused f) holds name bytes a b c held l m t = absurd t
device_told Disk holds name bytes a b c held l m t = absurd t
device_told (TableDisk table) holds name bytes a b c held l m t =
    (record { bytes = bytes; held = held; said = t.0 }, rose_later a b c l m t.1)
device_told Memory holds name bytes a b c held l m t = tt

pub no_line_of : (r : ShapeRefusal) (all : List (List ℕ)) (a b : ℕ) → IsOfDeviceAtOne all a b r → IsNoLine r
no_line_of (Refused f) all a b t = absurd t
no_line_of Disk all a b t = absurd t
no_line_of (TableDisk table) all a b t = tt
no_line_of Memory all a b t = tt
