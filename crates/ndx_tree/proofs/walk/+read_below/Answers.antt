use Rattle.std.proofs.Common.{◌≡◌, ℕ, ◌-◌, ◌<◌, Bool, true, false, List, [], ◌∷◌, ◌++◌, Some, Result, inr, length, set}
use Rattle.std.proofs.Common.{length-set, get_or, refl, ap, sym, ◌∙◌, subst, arith}
use Rattle.std.specs.Vec.{with_item}
use Rattle.std.proofs.lemmas.Result.{err_from_is_err_and}
use Rattle.ndx_page.specs.declared.page.PageEntry.{PageEntry}
use Rattle.ndx_tree.specs.IndexFile.{page_count, links}
use Rattle.ndx_tree.specs.Walk.{Seen, walk, pages_of, visit, walk_all, with_separator}
use Rattle.key_lists.specs.Pairs.{Pair}
use Rattle.key_rows.specs.Flat.{HaveKeys}
use Rattle.ndx_tree.specs.Reads.{ShowsSeen, Marks, WalkGives, unset}
use Rattle.ndx_tree.specs.declared.fault.TreeFault.{TreeFault}
use Rattle.ndx_tree.specs.declared.walk.Found.{Found}
use Rattle.ndx_page.proofs.LayoutLemmas.{most_entries-bound}
use Rattle.ndx_tree.proofs.Reading.{shows_reached, unset_set, leaf_fits, leaf_keys, walk_refused, walk_opened}
use Rattle.ndx_tree.proofs.Reading.{visit_inner, links_end, gives_last, left_step, left_fault}
use Rattle.ndx_tree.proofs.walk.+read_below.Goals as goal

pub returns-in_err-page-clause-walked : goal.returns-in_err-page-clause-walked
returns-in_err-page-clause-walked t c =
    let p = err_from_is_err_and c.from_residual.result c.from_residual.ensures.1 in λ s h. rw (p.1, p.2)
    (inr (walk_refused c.args.head.now.length c.args.bytes.now c.args.left c.args.number s c.in_err-page.field-0.0
    (c.in_err-page.ensures.opens s.reached
    (subst (λ (m : List Bool). Marks (page_count c.args.bytes.now) m s.reached) (sym c.deref.ensures.value)
    h.marked))))

pub returns-then-last-eq0-clause-walked : goal.returns-then-last-eq0-clause-walked
returns-then-last-eq0-clause-walked t c =
    let within : c.args.number < length c.args.found.now.reached.items =
    omega (arith, c.in_ok-page.ensures.within, c.requires.bits) in
    λ s h.
    let whole = walk_opened c.args.head.now.length c.args.bytes.now c.args.left c.args.number s c.in_ok-page.page
    (omega arith)
    (c.in_ok-page.ensures.opens s.reached
    (subst (λ (m : List Bool). Marks (page_count c.args.bytes.now) m s.reached) (sym c.deref.ensures.value)
    h.marked)) ∙ ap
    (λ l. visit (walk (pages_of c.args.head.now.length c.args.bytes.now) (page_count c.args.bytes.now)
    (c.args.left - 1)) (c.args.left - 1) c.in_ok-page.page l
    (let u : Seen = record { reached = s.reached ++ c.args.number ∷ []; items = s.items; level = s.level } in u))
    c.if-last-eq0.true in
    subst (λ (r : Result Seen TreeFault). WalkGives c.args.head.now.length (page_count c.args.bytes.now)
    c.take_leaf.result c.take_leaf.new.found r) (sym whole)
    (c.take_leaf.ensures.leaf c.args.head.now.length (page_count c.args.bytes.now)
    (let u : Seen = record { reached = s.reached ++ c.args.number ∷ []; items = s.items; level = s.level } in u)
    (walk (pages_of c.args.head.now.length c.args.bytes.now) (page_count c.args.bytes.now) (c.args.left - 1))
    (leaf_fits c.args.head.now.length c.in_ok-page.page c.in_ok-page.ensures.fits c.if-last-eq0.true)
    (shows_reached c.args.head.now.length (page_count c.args.bytes.now) c.args.found.now
    (let x : Found = record {
      reached = with_item c.args.found.now.reached c.args.number true;
      level =
          c.args.found.now.level;
      entries = c.args.found.now.entries;
      separators = c.args.found.now.separators;
    } in x) s
    c.args.number h within refl refl refl refl))

pub returns-then-last-eq0-clause-few : goal.returns-then-last-eq0-clause-few
returns-then-last-eq0-clause-few t c =
    let within : c.args.number < length c.args.found.now.reached.items =
    omega (arith, c.in_ok-page.ensures.within, c.requires.bits) in
    let once = unset_set c.args.found.now.reached.items c.args.number within
    (subst (λ (m : List Bool). (d : Bool) → get_or m c.args.number d ≡ false) c.deref.ensures.value
    c.in_ok-page.ensures.free) in
    let same : unset c.take_leaf.new.found.reached.items
    ≡ unset (set c.args.found.now.reached.items c.args.number true) = ap unset c.take_leaf.ensures.bits in
    let few = most_entries-bound c.args.head.now.length c.args.head.now.some_key in
    omega (arith, c.take_leaf.ensures.few, same, once, few, c.in_ok-page.ensures.fits.most)

pub loop-entry-init : goal.loop-entry-init
loop-entry-init t c =
    let within : c.args.number < length c.args.found.now.reached.items =
    omega (arith, c.in_ok-page.ensures.within, c.requires.bits) in
    let once = unset_set c.args.found.now.reached.items c.args.number within
    (subst (λ (m : List Bool). (d : Bool) → get_or m c.args.number d ≡ false) c.deref.ensures.value
    c.in_ok-page.ensures.free) in
    record {
      left = λ s h. record {
        now = (let u : Seen = record { reached = s.reached ++ c.args.number ∷ []; items = s.items; level = s.level } in
            u);
        shown = (shows_reached c.args.head.now.length (page_count c.args.bytes.now) c.args.found.now
            (let x : Found = record {
              reached = with_item c.args.found.now.reached c.args.number true;
              level =
                  c.args.found.now.level;
              entries = c.args.found.now.entries;
              separators = c.args.found.now.separators;
            } in x)
            s c.args.number h within refl refl refl refl);
        rest = walk_opened c.args.head.now.length c.args.bytes.now c.args.left c.args.number s c.in_ok-page.page
            (omega arith)
            (c.in_ok-page.ensures.opens s.reached
            (subst (λ (m : List Bool). Marks (page_count c.args.bytes.now) m s.reached) (sym c.deref.ensures.value)
            h.marked)) ∙ visit_inner (walk (pages_of c.args.head.now.length c.args.bytes.now)
            (page_count c.args.bytes.now) (c.args.left - 1)) (c.args.left - 1) c.in_ok-page.page c.in_ok-page.page.last
            (let u : Seen = record { reached = s.reached ++ c.args.number ∷ []; items = s.items; level = s.level } in u)
            c.if-last-eq0.false ∙ ap (λ (es : List PageEntry). walk_all
            (walk (pages_of c.args.head.now.length c.args.bytes.now) (page_count c.args.bytes.now) (c.args.left - 1))
            (links es c.in_ok-page.page.last)
            (let u : Seen = record { reached = s.reached ++ c.args.number ∷ []; items = s.items; level = s.level } in
            u)) (sym c.as_slice-entry-items.ensures.value);
      };
      bits = length-set c.args.found.now.reached.items c.args.number true ∙ c.requires.bits;
      alike = c.requires.alike;
      few = omega (arith, once);
    }

pub returns-in_err-read_below-clause-walked : goal.returns-in_err-read_below-clause-walked
returns-in_err-read_below-clause-walked t c =
    let p = err_from_is_err_and c.from_residual-in_err-read_below.result c.from_residual-in_err-read_below.ensures.1 in
    λ s h.
    let l = c.loop-entry.invariant.left s h in
    rw (p.1, p.2) (left_fault c.args.head.now.length (page_count c.args.bytes.now) c.loop-entry.found
    c.read_below.new.found c.read_below.new.found
    (walk (pages_of c.args.head.now.length c.args.bytes.now) (page_count c.args.bytes.now) c.args.left c.args.number
    s) (walk (pages_of c.args.head.now.length c.args.bytes.now) (page_count c.args.bytes.now) (c.args.left - 1))
    c.as_slice-entry-items.result.now c.loop-entry.entry-index c.in_ok-page.page.last c.entry-item.result
    c.in_err-read_below.field-0.0 (omega arith) c.entry-item.is l
    (c.in_err-read_below.ensures.walked l.now l.shown))

pub loop-entry-preserved : goal.loop-entry-preserved
loop-entry-preserved t c =
    record {
      left = λ s h.
          let l = c.loop-entry.invariant.left s h in
          left_step c.args.head.now.length (page_count c.args.bytes.now) c.loop-entry.found c.read_below.new.found
          c.take_separator.new.found (walk (pages_of c.args.head.now.length c.args.bytes.now)
          (page_count c.args.bytes.now) c.args.left c.args.number s)
          (walk (pages_of c.args.head.now.length c.args.bytes.now) (page_count c.args.bytes.now) (c.args.left - 1))
          c.as_slice-entry-items.result.now c.loop-entry.entry-index c.in_ok-page.page.last c.entry-item.result
          (omega arith) c.entry-item.is l (c.in_ok-read_below.ensures.walked l.now l.shown)
          (λ u shown. subst (λ (m : List ℕ). ShowsSeen c.args.head.now.length (page_count c.args.bytes.now)
          c.take_separator.new.found (with_separator (Some m) u)) c.as_slice.ensures.value
          (c.in_ok-take_separator.ensures.shown c.args.head.now.length (page_count c.args.bytes.now) u shown));
      bits = ap (λ (v : List Bool). length v) c.take_separator.ensures.bits ∙ c.read_below.ensures.bits;
      alike = subst (λ (m : List Pair). HaveKeys c.args.head.now.length m) (sym c.take_separator.ensures.entries)
          c.in_ok-read_below.ensures.alike;
      few =
          let same : unset c.take_separator.new.found.reached.items ≡ unset c.read_below.new.found.reached.items =
          ap unset c.take_separator.ensures.bits in
          let entries : length c.take_separator.new.found.entries.items ≡ length c.read_below.new.found.entries.items =
          ap (λ (m : List Pair). length m) c.take_separator.ensures.entries in
          omega (arith, same, entries, c.read_below.ensures.few, c.loop-entry.invariant.few);
    }

pub returns-clause-walked : goal.returns-clause-walked
returns-clause-walked t c =
    λ s h.
    let l = c.loop-entry.invariant.left s h in
    let rest = l.rest ∙ ap
    (λ cs. walk_all (walk (pages_of c.args.head.now.length c.args.bytes.now) (page_count c.args.bytes.now)
    (c.args.left - 1)) cs l.now) (links_end c.as_slice-entry-items.result.now c.loop-entry.entry-index
    c.in_ok-page.page.last (omega arith)) in
    subst (λ (r : Result Seen TreeFault). WalkGives c.args.head.now.length (page_count c.args.bytes.now)
    c.read_below-2.result c.read_below-2.new.found r) (sym rest)
    (gives_last c.args.head.now.length (page_count c.args.bytes.now) c.read_below-2.result c.read_below-2.new.found
    (walk (pages_of c.args.head.now.length c.args.bytes.now) (page_count c.args.bytes.now) (c.args.left - 1))
    c.in_ok-page.page.last l.now (c.read_below-2.ensures.walked l.now l.shown))

pub take_leaf-requires : goal.take_leaf-requires
take_leaf-requires t c =
    record {
      alike = (
        c.args.head.now.length,
        c.args.head.now.short_key,
        c.requires.alike,
        leaf_keys
            c.args.head.now.length c.in_ok-page.page c.in_ok-page.ensures.fits,
      );
    }

pub returns-then-last-eq0-clause-alike : goal.returns-then-last-eq0-clause-alike
returns-then-last-eq0-clause-alike t c = c.take_leaf.ensures.alike c.args.head.now.length c.requires.alike
    (leaf_keys c.args.head.now.length c.in_ok-page.page c.in_ok-page.ensures.fits)
