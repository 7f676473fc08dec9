-- The plan of a clean build, done, leaves what the report says.
use Rattle.std.proofs.Common.{◌≡◌, ℕ, zero, suc, Bool, true, false, cond, List, [], ◌∷◌, map, Contains, Vec, Global, refl, sym, ap, subst, ◌∙◌}
use Rattle.std.proofs.Common.{arith}
use Rattle.std.specs.Prelude.{◌&&◌, ◌||◌, codes, Option, None, Some, is_some, Result, Ok, Err, IfSome, IfOk, OnOk}
use Rattle.std.specs.List.{list_all, list_any, filter}
use Rattle.std.specs.Ordering.{nat_cmp, eq_by_cmp}
use Rattle.std.specs.Cmp.{Equal-is}
use Rattle.std.specs.Cmp.Lexicographic.{slice_cmp}
use Rattle.std.specs.List.Sorted.{IsStrictlySortedBy}
use Rattle.std.specs.Option.{option_map}
use Rattle.std.specs.FinMap as fin
use Rattle.std.proofs.lemmas.Bool.{false≢true}
use Rattle.std.proofs.lemmas.List.Elements.{Contains-append_right}
use Rattle.pie_base.specs.Path.{is_out, is_below, same_text}
use Rattle.pie_files.specs.declared.files.FilesError.{FilesError}
use Rattle.pie_files.proofs.HeldLemmas.{antisymmetric}
use Rattle.pie_files.specs.Directory.{Directory, file_at, files_under, paths_of}
use Rattle.pie_reach.specs.Plan.{IsPlan, path_cmp}
use Rattle.pie_commit.specs.declared.plan.Pending.{Pending}
use Rattle.pie_commit.specs.declared.plan.Plan.{Plan}
use Rattle.pie_commit.specs.inner.Plans.{Wanted, Same, Gone, Bytes, Meets, Brings, later, at, removed, written, pended, stored, changes, wanted_by, is_none, is_empty}
use Rattle.pie_commit.specs.inner.Plans.{stores_none, keeps}
use Rattle.pie_commit.specs.Outcomes.{HasBrought, KeepsOthers}
use Rattle.pie_commit.proofs.Standing.{same_path, same_itself}
use Rattle.pie_report.specs.declared.report.Report.{Report}
use Rattle.pie_value.specs.declared.verdict.Verdict.TheVariants.{Accepted}
use Rattle.pie_build.specs.Left.{or_earlier, content_at, may_change, KeepsRest, IsInPlace, Puts}
use Rattle.pie_build.specs.inner.Plans.{IsPlanOf, gone_if}
use Rattle.pie_build.proofs.OwnPaths.{and_left, and_right, apart, none_removed, places, commit_keeps}

-- ---- what is wanted under `out/`

abbrev as_wanted : Option (List ℕ) → Wanted
as_wanted None = Same
as_wanted (Some b) = Bytes b

later_is : (x : Option (List ℕ)) (s : Bool) (b : List ℕ) → later (as_wanted x) (cond s (Bytes b) Same) ≡ as_wanted (or_earlier x (cond s (Some b) None))
later_is (Some c) s b = refl
later_is None true b = refl
later_is None false b = refl

written_is : (contents : List (List ℕ × Vec ℕ Global)) (q : List ℕ) → written contents q ≡ as_wanted (content_at contents q)
written_is [] q = refl
written_is (w ∷ ws) q =
    ap (λ x. later x (at w.0 (Bytes w.1.items) q)) (written_is ws q) ∙ later_is (content_at ws q) (same_text q w.0) w.1.items

gone_later : (a b : Bool) → later (cond b Gone Same) (cond a Gone Same) ≡ cond (a || b) Gone Same
gone_later true true = refl
gone_later true false = refl
gone_later false true = refl
gone_later false false = refl

removed_is : (paths : List (List ℕ)) (q : List ℕ) → removed paths q ≡ cond (list_any (same_text q) paths) Gone Same
removed_is [] q = refl
removed_is (path ∷ paths) q =
    ap (λ x. later x (at path Gone q)) (removed_is paths q) ∙ gone_later (same_text q path) (list_any (same_text q) paths)

-- what is wanted at a path by its content and whether it is removed
abbrev wanted_at : Option (List ℕ) → Bool → Wanted
wanted_at x gone = later (as_wanted x) (cond gone Gone Same)

both_are : (contents : List (List ℕ × Vec ℕ Global)) (paths : List (List ℕ)) (q : List ℕ)
    → later (written contents q) (removed paths q) ≡ wanted_at (content_at contents q) (list_any (same_text q) paths)
both_are contents paths q =
    ap (λ x. later x (removed paths q)) (written_is contents q) ∙ ap (λ x. later (as_wanted (content_at contents q)) x) (removed_is paths q)

-- a path under `out/` is none that isn't
other_than : (q path : List ℕ) → is_out q ≡ true → is_out path ≡ false → same_text q path ≡ false
other_than q path on off = elim (same_text q path) as (λ b. same_text q path ≡ b → b ≡ false) [
  | true ↦ λ e. absurd (false≢true (sym off ∙ ap is_out (sym (same_path q path e)) ∙ on))
  | false ↦ λ e. refl
] refl

-- under `out/` a plan wants its writes and removals alone
wanted_out : (gone : List (List ℕ)) (contents : List (List ℕ × Vec ℕ Global)) (pending : Pending) (store : Vec ℕ Global) (p : Plan)
    → IsPlanOf gone contents pending store p → (q : List ℕ) → is_out q ≡ true
    → wanted_by p q ≡ wanted_at (content_at contents q) (list_any (same_text q) gone)
wanted_out gone contents pending store p plan q on =
    let own = places p plan.places in
    let marker : same_text q p.marker ≡ false = other_than q p.marker on (ap is_out own.marker) in
    let place : same_text q p.place ≡ false = other_than q p.place on (ap is_out own.store) in
    let names : same_text q p.names_place ≡ false = other_than q p.names_place on (ap is_out own.names) in
    let rest = later (written p.writes.items q) (removed p.removals.items q) in
    ap (λ b. later (cond b Gone Same) (changes p q)) marker
    ∙ ap (λ b. later (cond b (stored p.store) Same) (later (at p.names_place (pended p.pending) q) rest)) place
    ∙ ap (λ b. later (cond b (pended p.pending) Same) rest) names
    ∙ ap (λ ws. later (written ws q) (removed p.removals.items q)) plan.writes
    ∙ ap (λ ps. later (written contents q) (removed ps q)) plan.removals
    ∙ both_are contents gone q

-- ---- what is wanted of the builder's own files

no_content : (q : List ℕ) (contents : List (List ℕ × Vec ℕ Global)) → is_out q ≡ false → list_all (λ w. is_out w.0) contents ≡ true
    → content_at contents q ≡ None
no_content q [] off on = refl
no_content q (w ∷ ws) off on =
    ap (λ x. or_earlier x (cond (same_text q w.0) (Some w.1.items) None)) (no_content q ws off (and_right (is_out w.0) (list_all (λ w. is_out w.0) ws) on))
    ∙ ap (λ b. or_earlier None (cond b (Some w.1.items) None)) (apart is_out q w.0 off (and_left (is_out w.0) (list_all (λ w. is_out w.0) ws) on))

-- outside of `out/` nothing is written and nothing removed
pub none_wanted : (gone : List (List ℕ)) (contents : List (List ℕ × Vec ℕ Global)) (pending : Pending) (store : Vec ℕ Global) (p : Plan)
    → IsPlanOf gone contents pending store p → (q : List ℕ) → is_out q ≡ false → later (written p.writes.items q) (removed p.removals.items q) ≡ Same
none_wanted gone contents pending store p plan q off =
    ap (λ ws. later (written ws q) (removed p.removals.items q)) plan.writes
    ∙ ap (λ ps. later (written contents q) (removed ps q)) plan.removals
    ∙ both_are contents gone q
    ∙ ap (λ x. wanted_at x (list_any (same_text q) gone)) (no_content q contents off plan.writes_out)
    ∙ ap (λ b. wanted_at None b) (none_removed q gone off plan.removals_out)

pub wanted_marker : (gone : List (List ℕ)) (contents : List (List ℕ × Vec ℕ Global)) (pending : Pending) (store : Vec ℕ Global) (p : Plan)
    → IsPlanOf gone contents pending store p → wanted_by p (codes ".pie/open") ≡ Gone
wanted_marker gone contents pending store p plan =
    ap (λ m. later (at m Gone (codes ".pie/open")) (changes p (codes ".pie/open"))) (places p plan.places).marker

wanted_store : (gone : List (List ℕ)) (contents : List (List ℕ × Vec ℕ Global)) (pending : Pending) (store : Vec ℕ Global) (p : Plan)
    → IsPlanOf gone contents pending store p → wanted_by p (codes ".pie/store") ≡ Bytes store.items
wanted_store gone contents pending store p plan =
    let q = codes ".pie/store" in
    let own = places p plan.places in
    let rest = later (at p.names_place (pended p.pending) q) (later (written p.writes.items q) (removed p.removals.items q)) in
    ap (λ m. later (at m Gone q) (changes p q)) own.marker
    ∙ ap (λ m. later (at m (stored p.store) q) rest) own.store
    ∙ ap (λ s. later (stored s) rest) plan.store

wanted_names : (gone : List (List ℕ)) (contents : List (List ℕ × Vec ℕ Global)) (pending : Pending) (store : Vec ℕ Global) (p : Plan)
    → IsPlanOf gone contents pending store p → wanted_by p (codes ".pie/pending") ≡ later (pended pending) Same
wanted_names gone contents pending store p plan =
    let q = codes ".pie/pending" in
    let own = places p plan.places in
    let rest = later (written p.writes.items q) (removed p.removals.items q) in
    ap (λ m. later (at m Gone q) (changes p q)) own.marker
    ∙ ap (λ m. later (at m (stored p.store) q) (later (at p.names_place (pended p.pending) q) rest)) own.store
    ∙ ap (λ m. later (at m (pended p.pending) q) rest) own.names
    ∙ ap (λ x. later (pended x) rest) plan.pending
    ∙ ap (λ w. later (pended pending) w) (none_wanted gone contents pending store p plan q refl)

-- where there are pending names they go, so there are none
names_gone : (b : Bool) (before after : Option (List ℕ × ℕ)) → is_some before ≡ b → Meets (later (pended (gone_if b)) Same) before after → after ≡ None
names_gone true before after is m = m
names_gone false None after is m = m
names_gone false (Some f) after is m = absurd (false≢true (sym is))

-- ---- paths in lists

pub is_any : (q : List ℕ) (paths : List (List ℕ)) → Contains paths q → list_any (same_text q) paths ≡ true
is_any q [] h = let l = h.1 in absurd (omega arith)
is_any q (path ∷ paths) (zero, l, e) = ap (λ (r : List ℕ). same_text q r || list_any (same_text q) paths) e
    ∙ ap (λ b. b || list_any (same_text q) paths) (same_itself q)
is_any q (path ∷ paths) (suc k, l, e) =
    or_true (same_text q path) (list_any (same_text q) paths) (is_any q paths (k, omega (arith, l), e))
  where
    or_true : (a b : Bool) → b ≡ true → (a || b) ≡ true
    or_true true b f = refl
    or_true false b f = f

any_is : (q : List ℕ) (paths : List (List ℕ)) → list_any (same_text q) paths ≡ true → Contains paths q
any_is q [] h = absurd (false≢true h)
any_is q (path ∷ paths) h = elim (same_text q path) as (λ b. same_text q path ≡ b → Contains (path ∷ paths) q) [
  | true ↦ λ e. (0, omega arith, sym (same_path q path e))
  | false ↦ λ e. Contains-append_right (path ∷ []) paths q (any_is q paths (sym (ap (λ b. b || list_any (same_text q) paths) e) ∙ h))
] refl

-- without a content a path is none of those written
none_content : (q : List ℕ) (contents : List (List ℕ × Vec ℕ Global)) → content_at contents q ≡ None → list_any (same_text q) (map (λ f. f.0) contents) ≡ false
none_content q [] h = refl
none_content q (f ∷ fs) h =
    ap (λ b. b || list_any (same_text q) (map (λ f. f.0) fs)) (here (content_at fs q) (same_text q f.0) h)
    ∙ none_content q fs (rest (content_at fs q) (same_text q f.0) h)
  where
    rest : (x : Option (List ℕ)) (s : Bool) → or_earlier x (cond s (Some f.1.items) None) ≡ None → x ≡ None
    rest None s e = refl
    rest (Some b) s e = e

    here : (x : Option (List ℕ)) (s : Bool) → or_earlier x (cond s (Some f.1.items) None) ≡ None → s ≡ false
    here (Some b) s e = absurd (cc)
    here None true e = absurd (cc)
    here None false e = refl

-- ---- a file that is there and isn't kept is removed

-- a path that passes a test is among those that do
passes : (test : List ℕ → Bool) (q : List ℕ) (paths : List (List ℕ)) → test q ≡ true → list_any (eq_by_cmp (slice_cmp nat_cmp) q) paths ≡ true
    → Contains (filter test paths) q
passes test q [] on h = absurd (false≢true h)
passes test q (path ∷ paths) on h =
    elim (eq_by_cmp (slice_cmp nat_cmp) q path) as (λ b. eq_by_cmp (slice_cmp nat_cmp) q path ≡ b → Contains (filter test (path ∷ paths)) q) [
      | true ↦ λ e. here (test path) (antisymmetric q path ((Equal-is (slice_cmp nat_cmp q path)).0 e))
          (ap test (sym (antisymmetric q path ((Equal-is (slice_cmp nat_cmp q path)).0 e))) ∙ on)
      | false ↦ λ e. there (test path) (passes test q paths on (sym (ap (λ b. b || list_any (eq_by_cmp (slice_cmp nat_cmp) q) paths) e) ∙ h))
    ] refl
  where
    here : (t : Bool) → q ≡ path → t ≡ true → Contains (cond t (path ∷ filter test paths) (filter test paths)) q
    here true same e = (0, omega arith, sym same)
    here false same e = absurd (false≢true e)

    there : (t : Bool) → Contains (filter test paths) q → Contains (cond t (path ∷ filter test paths) (filter test paths)) q
    there true k = Contains-append_right (path ∷ []) (filter test paths) q k
    there false k = k

-- a file under `out/` that is there is listed
listed : (d : Directory) (q : List ℕ) (f : List ℕ × ℕ) → is_out q ≡ true → file_at d q ≡ Some f → Contains (files_under d (codes "out")) q
listed d q f on is = passes (is_below (codes "out")) q (paths_of d) on (sym (fin.contains_key-keys d q) ∙ ap is_some is)

not_there : (d : Directory) (contents : List (List ℕ × Vec ℕ Global)) (gone : List (List ℕ)) (q : List ℕ) → is_out q ≡ true
    → IsPlan (files_under d (codes "out")) (map (λ f. f.0) contents) gone → content_at contents q ≡ None → list_any (same_text q) gone ≡ false
    → (o : Option (List ℕ × ℕ)) → file_at d q ≡ o → o ≡ None
not_there d contents gone q on plan none stays None is = refl
not_there d contents gone q on plan none stays (Some f) is =
    let kept : Contains (map (λ f. f.0) contents) q → ⊥ = λ h. false≢true (sym (none_content q contents none) ∙ is_any q (map (λ f. f.0) contents) h) in
    absurd (false≢true (sym stays ∙ is_any q gone (plan.each q (listed d q f on is) kept)))

-- what meets the plan at a path under `out/` has the content there
met : (d : Directory) (contents : List (List ℕ × Vec ℕ Global)) (gone : List (List ℕ)) (q : List ℕ) → is_out q ≡ true
    → IsPlan (files_under d (codes "out")) (map (λ f. f.0) contents) gone → (after : Option (List ℕ × ℕ)) → (x : Option (List ℕ)) (g : Bool)
    → content_at contents q ≡ x → list_any (same_text q) gone ≡ g → Meets (wanted_at x g) (file_at d q) after → option_map (λ f. f.0) after ≡ x
met d contents gone q on plan after (Some b) g xs gs m = ap (option_map (λ f. f.0)) m.1
met d contents gone q on plan after None true xs gs m = ap (option_map (λ f. f.0)) m
met d contents gone q on plan after None false xs gs m =
    ap (option_map (λ f. f.0)) (m ∙ not_there d contents gone q on plan xs gs (file_at d q) refl)

-- ---- the whole plan

-- a plan with a store isn't empty
not_empty : (a b k : Bool) → (a && b && false && k) ≡ false
not_empty true true k = refl
not_empty true false k = refl
not_empty false b k = refl

pub has_store : (gone : List (List ℕ)) (contents : List (List ℕ × Vec ℕ Global)) (pending : Pending) (store : Vec ℕ Global) (p : Plan)
    → IsPlanOf gone contents pending store p → is_empty p ≡ false
has_store gone contents pending store p plan =
    ap (λ s. is_none p.removals.items && is_none p.writes.items && stores_none s && keeps p.pending) plan.store
    ∙ not_empty (is_none p.removals.items) (is_none p.writes.items) (keeps p.pending)

abbrev file_in : Option Directory → List ℕ → Option (List ℕ × ℕ)
file_in None q = None
file_in (Some d) q = file_at d q

rest_is : (d e : Directory) (after : Option Directory) → after ≡ Some e → KeepsRest (Some d) after → (q : List ℕ) → may_change q ≡ false
    → file_at e q ≡ file_at d q
rest_is d e after is keeps q off = ap (λ o. file_in o q) (sym is ∙ keeps.kept.1) ∙ keeps.kept.2 q off

-- the files that are to be removed of a directory, what becomes of its pending names, and files in path order
pub record Fits (d : Directory) (gone : List (List ℕ)) (contents : List (List ℕ × Vec ℕ Global)) (pending : Pending) : Type 0 where
  pub removals : IsPlan (files_under d (codes "out")) (map (λ f. f.0) contents) gone
  pub names : pending ≡ gone_if (is_some (file_at d (codes ".pie/pending")))
  pub ordered : IsStrictlySortedBy path_cmp (map (λ f. f.0) contents)

-- what a plan that fits a directory leaves of it, with a report of it
pub in_place : (d e : Directory) (after : Option Directory) (gone : List (List ℕ)) (contents : List (List ℕ × Vec ℕ Global)) (pending : Pending)
    (store : Vec ℕ Global) (p : Plan) (r : Report) → Fits d gone contents pending → IsPlanOf gone contents pending store p
    → after ≡ Some e → Brings (wanted_by p) d e → KeepsRest (Some d) after → r.wrote.items ≡ map (λ f. f.0) contents → r.removed.items ≡ gone
    → IsInPlace d e contents store.items r
in_place d e after gone contents pending store p r fits plan is brings keeps w g = record {
  provided = λ q on. met d contents gone q on fits.removals (file_at e q) (content_at contents q) (list_any (same_text q) gone) refl refl
      (subst (λ x. Meets x (file_at d q) (file_at e q)) (wanted_out gone contents pending store p plan q on) (brings q));
  rest = λ q off. rest_is d e after is keeps q off;
  wrote = w;
  ordered = subst (IsStrictlySortedBy path_cmp) (sym w) fits.ordered;
  removed = subst (λ (x : List (List ℕ)). IsPlan (files_under d (codes "out")) x r.removed.items) (sym w)
      (subst (λ (x : List (List ℕ)). IsPlan (files_under d (codes "out")) (map (λ f. f.0) contents) x) (sym g) fits.removals);
  store = (let m : Meets (Bytes store.items) (file_at d (codes ".pie/store")) (file_at e (codes ".pie/store")) =
      subst (λ x. Meets x (file_at d (codes ".pie/store")) (file_at e (codes ".pie/store"))) (wanted_store gone contents pending store p plan)
      (brings (codes ".pie/store")) in ap (option_map (λ f. f.0)) m.1);
  no_marker = subst (λ x. Meets x (file_at d (codes ".pie/open")) (file_at e (codes ".pie/open"))) (wanted_marker gone contents pending store p plan)
      (brings (codes ".pie/open"));
  no_pending = names_gone (is_some (file_at d (codes ".pie/pending"))) (file_at d (codes ".pie/pending")) (file_at e (codes ".pie/pending")) refl
      (subst (λ x. Meets (later (pended x) Same) (file_at d (codes ".pie/pending")) (file_at e (codes ".pie/pending"))) fits.names
      (subst (λ x. Meets x (file_at d (codes ".pie/pending")) (file_at e (codes ".pie/pending"))) (wanted_names gone contents pending store p plan)
      (brings (codes ".pie/pending"))));
}

-- a build whose plan was committed puts into place what its report says
puts : (before mid after : Option Directory) (gone : List (List ℕ)) (contents : List (List ℕ × Vec ℕ Global)) (pending : Pending) (store : Vec ℕ Global)
    (p : Plan) (r : Report) → mid ≡ before → IfSome before (λ d. Fits d gone contents pending) → IsPlanOf gone contents pending store p
    → HasBrought (wanted_by p) mid after → KeepsOthers p mid after → r.verdict ≡ Accepted → r.wrote.items ≡ map (λ f. f.0) contents
    → r.removed.items ≡ gone → IfSome before (λ d. Puts contents store.items d r after)
puts None mid after gone contents pending store p r same fits plan done others v w g = tt
puts (Some d) mid after gone contents pending store p r same fits plan done others v w g =
    let c : HasBrought (wanted_by p) (Some d) after = subst (λ m. HasBrought (wanted_by p) m after) same done in
    let k : KeepsRest (Some d) after = subst (λ m. KeepsRest m after) same (commit_keeps gone contents pending store p plan mid after others) in
    (v, c.0, c.1, in_place d c.0 after gone contents pending store p r fits plan c.1 c.2 k w g)

-- the same of what a commit answered
pub puts_after : (before mid after : Option Directory) (gone : List (List ℕ)) (contents : List (List ℕ × Vec ℕ Global)) (pending : Pending)
    (store : Vec ℕ Global)
    (p : Plan) (report : Report) (result : Result Report FilesError) → mid ≡ before → IfSome before (λ d. Fits d gone contents pending)
    → IsPlanOf gone contents pending store p → (is_empty p ≡ false → OnOk result (HasBrought (wanted_by p) mid after)) → KeepsOthers p mid after
    → IfOk result (λ r. r ≡ report) → report.verdict ≡ Accepted → report.wrote.items ≡ map (λ f. f.0) contents
    → report.removed.items ≡ gone → IfSome before (λ d. IfOk result (λ r. Puts contents store.items d r after))
puts_after before mid after gone contents pending store p report (Ok r) same fits plan done others is v w g =
    puts before mid after gone contents pending store p r same fits plan (done (has_store gone contents pending store p plan)) others
    (ap (λ (x : Report). x.verdict) is ∙ v) (ap (λ (x : Report). x.wrote.items) is ∙ w) (ap (λ (x : Report). x.removed.items) is ∙ g)
puts_after None mid after gone contents pending store p report (Err e) same fits plan done others is v w g = tt
puts_after (Some d) mid after gone contents pending store p report (Err e) same fits plan done others is v w g = tt

-- what was found of a directory that stayed the same
pub fits_before : (before mid : Option Directory) (gone : List (List ℕ)) (contents : List (List ℕ × Vec ℕ Global)) (pending : Pending) → mid ≡ before
    → IsStrictlySortedBy path_cmp (map (λ f. f.0) contents) → IfSome before (λ d. IsPlan (files_under d (codes "out")) (map (λ f. f.0) contents) gone)
    → IfSome mid (λ d. pending ≡ gone_if (is_some (file_at d (codes ".pie/pending")))) → IfSome before (λ d. Fits d gone contents pending)
fits_before None mid gone contents pending same ordered removals names = tt
fits_before (Some d) mid gone contents pending same ordered removals names = record {
  ordered = ordered;
  removals = removals;
  names = subst (λ m. IfSome m (λ d. pending ≡ gone_if (is_some (file_at d (codes ".pie/pending"))))) same names;
}
