-- The words of an id, in the matches and in their rows.
use Rattle.std.proofs.Common.{◌≡◌, ℕ, Bool, true, false, List, [], ◌∷◌, Option, Some, None, cond, map, codes, refl, ap}
use Rattle.std.proofs.Common.{subst, sym, rules, Bor, ◌∙◌, ◌<◌, ◌⊎◌, ◌↔◌}
use Rattle.std.specs.Prelude.{slice_get}
use Rattle.std.specs.List.{find}
use Rattle.std.specs.Option.{option_map, option_and_then, option_map_or}
use Rattle.std.specs.Str.{bytes_eq}
use Rattle.clap.specs.Matches.{matched_of, raw_values, first_value, one_text}
use Rattle.clap.specs.Values.{read_as}
use Rattle.clap.specs.declared.builder.value_parser.Reading.{Reading}
use Rattle.clap.specs.Facts.{Entry}
use Rattle.clap.specs.Walk.{Row, row_of, rows_of}
use Rattle.clap.specs.declared.parser.matches.Found.{Found}
use Rattle.clap.specs.declared.parser.matches.MatchedArg.{MatchedArg}
use Rattle.std.specs.Str.Parse.{ParsesBool}
use Rattle.std.proofs.lemmas.Bool.{false_from_ne_true}
use Rattle.std.proofs.lemmas.Option.{slice_get-map}
use Rattle.std.proofs.lemmas.Slice.Eq.{bytes_eq-Decides}
use Rattle.std.specs.declared.str.ParseBoolError.{ParseBoolError}
use Rattle.clap.specs.Matches.{ReadsOne, subcommand_name_of}
use Rattle.clap.specs.Simple.{subcommand_rows, subcommand_rows_of}
use Rattle.clap.specs.declared.parser.matches.ArgMatches.{ArgMatches}
use Rattle.clap.specs.declared.parser.matches.ArgMatches.TheViews.{out-ArgMatches, out-SubCommand}
use Rattle.clap.specs.declared.parser.matches.SubCommand.{SubCommand}
use Rattle.std.specs.Prelude.{Box, unwrap_or}
use Rattle.std.specs.Box.{box_value}
use Rattle.command_words.specs.declared.operate_words.WindowWords.{WindowWords}
use Rattle.command_words.specs.declared.words.WordsFault.TheVariants as fault
use Rattle.command_words.specs.Asked.{lent, IsNumberIf}
use Rattle.command_words.specs.Refused.{NoLimit, NoWindow}
use Rattle.command_words.specs.Said.{words_said, word_given, word_read, sources_said, has_flag}
use Rattle.command_words.specs.Windows.{IsSize}

step : (e : Entry) (xs : Option Entry) (ys : Option Row)
    → option_map raw_values (option_map (λ (x : Entry). x.1) xs) ≡ option_map (λ (r : Row). r.values) ys → (b : Bool)
    → option_map raw_values (option_map (λ (x : Entry). x.1) (cond b (Some e) xs))
    ≡ option_map (λ (r : Row). r.values) (cond b (Some (row_of e)) ys)
step e xs ys h true = refl
step e xs ys h false = h

go : (id : List ℕ) (es : List Entry)
    → option_map raw_values (option_map (λ (x : Entry). x.1) (find (λ (x : Entry). bytes_eq x.0.now id) es))
    ≡ words_said id (map row_of es)
go id [] = refl
go id (e ∷ es) =
    step e (find (λ (x : Entry). bytes_eq x.0.now id) es) (find (λ (r : Row). bytes_eq r.id id) (map row_of es))
    (go id es) (bytes_eq e.0.now id)

pub same_words : (f : Found) (id : List ℕ) → option_map raw_values (matched_of f id) ≡ words_said id (rows_of f)
same_words f id = go id f.entries.items

first_of : (m : Option MatchedArg) (ws : Option (List (List ℕ))) → option_map raw_values m ≡ ws
    → option_and_then (λ (a : MatchedArg). option_map (λ s. s.now) (slice_get a.vals.items 0)) m
    ≡ option_and_then (λ (w : List (List ℕ)). slice_get w 0) ws
first_of None ws e =
    subst (λ (v : Option (List (List ℕ))). None ≡ option_and_then (λ (w : List (List ℕ)). slice_get w 0) v) e refl
first_of (Some a) ws e =
    subst (λ (v : Option (List (List ℕ))). option_map (λ s. s.now) (slice_get a.vals.items 0) ≡ option_and_then
    (λ (w : List (List ℕ)). slice_get w 0) v) e (sym (slice_get-map (λ (s : Bor (List ℕ)). s.now) a.vals.items 0))

pub same_word : (f : Found) (id : List ℕ) → first_value f id ≡ word_given id (rows_of f)
same_word f id = first_of (matched_of f id) (words_said id (rows_of f)) (same_words f id)

pub behind : (said : Option (List ℕ × List Row)) (rows : List Row)
    → Some rows ≡ option_map (λ (p : List ℕ × List Row). p.1) said → words_said (codes "MAIN") rows ≡ sources_said said
behind None rows e = absurd (search rules)
behind (Some p) rows e = let same : rows ≡ p.1 = search rules in ap (λ (r : List Row). words_said (codes "MAIN") r) same

-- the same as getters of numbers and flags read them
read_head : (r : Reading) (xs : List (Bor (List ℕ)))
    → option_map (λ (s : Bor (List ℕ)). read_as r s.now) (slice_get xs 0)
    ≡ option_map (read_as r) (slice_get (map (λ (s : Bor (List ℕ)). s.now) xs) 0)
read_head r [] = refl
read_head r (x ∷ xs) = refl

abbrev read_found : Option MatchedArg → Option (List ℕ)
read_found =
    option_and_then (λ (a : MatchedArg). option_map (λ (s : Bor (List ℕ)). read_as a.reading s.now)
    (slice_get a.vals.items 0))

abbrev read_row : Option Row → Option (List ℕ)
read_row = option_and_then (λ (r : Row). option_map (read_as r.reading) (slice_get r.values 0))

read_step : (e : Entry) (xs : Option Entry) (ys : Option Row)
    → read_found (option_map (λ (x : Entry). x.1) xs) ≡ read_row ys → (b : Bool)
    → read_found (option_map (λ (x : Entry). x.1) (cond b (Some e) xs)) ≡ read_row (cond b (Some (row_of e)) ys)
read_step e xs ys h true = read_head e.1.reading e.1.vals.items
read_step e xs ys h false = h

read_go : (id : List ℕ) (es : List Entry)
    → read_found (option_map (λ (x : Entry). x.1) (find (λ (x : Entry). bytes_eq x.0.now id) es))
    ≡ word_read id (map row_of es)
read_go id [] = refl
read_go id (e ∷ es) =
    read_step e (find (λ (x : Entry). bytes_eq x.0.now id) es) (find (λ (r : Row). bytes_eq r.id id) (map row_of es))
    (read_go id es) (bytes_eq e.0.now id)

pub same_read : (f : Found) (id : List ℕ) → one_text f id ≡ word_read id (rows_of f)
same_read f id = read_go id f.entries.items

-- a flag, as a truth value is read from its word
flag_read : (w : Option (List ℕ)) (r : Option Bool) → (w ≡ None → r ≡ None)
    → ((t : List ℕ) → w ≡ Some t → ReadsOne {E = ParseBoolError} ParsesBool t r)
    → unwrap_or r false ≡ option_map_or (λ word. bytes_eq word (codes "true")) w false
flag_read None r none value = ap (λ (x : Option Bool). unwrap_or x false) (none refl)
flag_read (Some t) (Some true) none value =
    let is : t ≡ codes "true" = value t refl in subst (λ (x : List ℕ). true ≡ bytes_eq x (codes "true")) (sym is) refl
flag_read (Some t) (Some false) none value =
    let is : t ≡ codes "false" = value t refl in subst (λ (x : List ℕ). false ≡ bytes_eq x (codes "true")) (sym is) refl
flag_read (Some t) None none value =
    let other = (value t refl).1 in sym
    (false_from_ne_true (bytes_eq t (codes "true")) (λ e. other.0 ((bytes_eq-Decides t (codes "true")).0 e)))

pub is_flag : (f : Found) (id : List ℕ) (r : Option Bool) → (one_text f id ≡ None → r ≡ None)
    → ((t : List ℕ) → one_text f id ≡ Some t → ReadsOne {E = ParseBoolError} ParsesBool t r)
    → unwrap_or r false ≡ has_flag id (rows_of f)
is_flag f id r none value =
    let same = same_read f id in
    flag_read (word_read id (rows_of f)) r (λ e. none (same ∙ e)) (λ t e. value t (same ∙ e))

-- the name of a command and the rows behind it
of_use : {Z : Type 0} (o : Option (Box SubCommand Z)) (name : List ℕ) (rows : List Row)
    → Some name ≡ option_map (λ b. (out-SubCommand (box_value b)).name.now) o
    → Some rows ≡ option_map (λ (p : List ℕ × List Row). p.1) (subcommand_rows o)
    → subcommand_rows o ≡ Some (name, rows)
of_use None name rows e h = absurd (search (rules, e))
of_use (Some b) name rows e h = search (rules, e, h)

pub command_said : (m : ArgMatches) (name : List ℕ) (rows : List Row) → Some name ≡ subcommand_name_of m
    → Some rows ≡ option_map (λ (p : List ℕ × List Row). p.1) (subcommand_rows_of m)
    → subcommand_rows_of m ≡ Some (name, rows)
command_said m name rows e h = of_use (out-ArgMatches m).subcommand name rows e h

-- ---- words that don't say what they should

pub no_limit : (word : Option (List ℕ)) (n : ℕ) → IsNumberIf word (Some n) → (n ≡ 0) ⊎ (1000000 < n)
    → NoLimit word fault.Limit
no_limit None n e h = absurd (search rules)
no_limit (Some text) n e h = (refl, (n, (e n).0 refl, h))

pub no_window : (word : Bor (List ℕ)) (given : Option (List ℕ)) → lent (Some word) ≡ given
    → ((size : WindowWords) → (None ≡ Some size) ↔ IsSize word.now size) → NoWindow given fault.Window
no_window word given is h =
    subst (λ g. NoWindow g fault.Window) is (refl, λ size s. absurd (none_some size ((h size).1 s)))
  where
    none_some : (size : WindowWords) → ◌≡◌ {A = Option WindowWords} None (Some size) → ⊥
    none_some size e = absurd (search rules)
