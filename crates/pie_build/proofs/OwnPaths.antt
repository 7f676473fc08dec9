-- The paths that the plan of a clean build may change.
use Rattle.std.proofs.Common.{◌≡◌, ℕ, Bool, true, false, List, [], ◌∷◌, Vec, Global, refl, sym, ap, ◌∙◌}
use Rattle.std.specs.Prelude.{◌&&◌, ◌||◌, codes, Option, None, Some, IfSome}
use Rattle.std.specs.List.{list_all, list_any}
use Rattle.std.proofs.lemmas.Bool.{false≢true}
use Rattle.pie_base.specs.Path.{is_out, same_text}
use Rattle.pie_files.specs.Directory.{Directory, file_at}
use Rattle.pie_commit.specs.declared.plan.Pending.{Pending}
use Rattle.pie_commit.specs.declared.plan.Plan.{Plan}
use Rattle.pie_commit.specs.inner.Plans.{has_own_places, is_own}
use Rattle.pie_commit.specs.Outcomes.{KeepsOthers}
use Rattle.pie_commit.proofs.Standing.{same_path}
use Rattle.pie_build.specs.Left.{may_change, KeepsRest}
use Rattle.pie_build.specs.inner.Plans.{IsPlanOf}

pub and_left : (a b : Bool) → (a && b) ≡ true → a ≡ true
and_left true b e = refl
and_left false b e = e

pub and_right : (a b : Bool) → (a && b) ≡ true → b ≡ true
and_right true b e = e
and_right false b e = absurd (false≢true e)

pub or_left : (a b : Bool) → (a || b) ≡ false → a ≡ false
or_left true b e = e
or_left false b e = refl

pub or_right : (a b : Bool) → (a || b) ≡ false → b ≡ false
or_right true b e = absurd (false≢true (sym e))
or_right false b e = e

-- a path for which a test fails is none for which it holds
pub apart : (test : List ℕ → Bool) (q path : List ℕ) → test q ≡ false → test path ≡ true → same_text q path ≡ false
apart test q path off on = elim (same_text q path) as (λ b. same_text q path ≡ b → b ≡ false) [
  | true ↦ λ e. absurd (false≢true (sym off ∙ ap test (same_path q path e) ∙ on))
  | false ↦ λ e. refl
] refl

pub none_removed : (q : List ℕ) (paths : List (List ℕ)) → is_out q ≡ false → list_all is_out paths ≡ true → list_any (same_text q) paths ≡ false
none_removed q [] off on = refl
none_removed q (path ∷ paths) off on =
    ap (λ b. b || list_any (same_text q) paths) (apart is_out q path off (and_left (is_out path) (list_all is_out paths) on))
    ∙ none_removed q paths off (and_right (is_out path) (list_all is_out paths) on)

none_written : (q : List ℕ) (writes : List (List ℕ × Vec ℕ Global)) → is_out q ≡ false → list_all (λ w. is_out w.0) writes ≡ true
    → list_any (λ w. same_text q w.0) writes ≡ false
none_written q [] off on = refl
none_written q (w ∷ ws) off on =
    ap (λ b. b || list_any (λ w. same_text q w.0) ws) (apart is_out q w.0 off (and_left (is_out w.0) (list_all (λ w. is_out w.0) ws) on))
    ∙ none_written q ws off (and_right (is_out w.0) (list_all (λ w. is_out w.0) ws) on)

-- the plan's own three places
pub record Places (p : Plan) : Type 0 where
  pub marker : p.marker ≡ codes ".pie/open"
  pub store : p.place ≡ codes ".pie/store"
  pub names : p.names_place ≡ codes ".pie/pending"

pub places : (p : Plan) → has_own_places p ≡ true → Places p
places p h =
    let a = same_text p.marker (codes ".pie/open") in
    let b = same_text p.place (codes ".pie/store") in
    let c = same_text p.names_place (codes ".pie/pending") in
    record {
      marker = same_path p.marker (codes ".pie/open") (and_left a b (and_left (a && b) c h));
      store = same_path p.place (codes ".pie/store") (and_right a b (and_left (a && b) c h));
      names = same_path p.names_place (codes ".pie/pending") (and_right (a && b) c h);
    }

none_of_five : (a b c d e : Bool) → a ≡ false → b ≡ false → c ≡ false → d ≡ false → e ≡ false → (a || b || c || d || e) ≡ false
none_of_five a b c d e p q r s t =
    ap (λ x. x || b || c || d || e) p ∙ ap (λ x. false || x || c || d || e) q ∙ ap (λ x. false || false || x || d || e) r
    ∙ ap (λ x. false || false || false || x || e) s ∙ ap (λ x. false || false || false || false || x) t

-- a path that no build may change is none of the own paths of a plan that changes files under `out/` alone
pub never_own : (p : Plan) → has_own_places p ≡ true → list_all is_out p.removals.items ≡ true
    → list_all (λ (w : List ℕ × Vec ℕ Global). is_out w.0) p.writes.items ≡ true → (q : List ℕ) → may_change q ≡ false → is_own p q ≡ false
never_own p sound removals writes q h =
    let at = places p sound in
    let o = same_text q (codes ".pie/open") in
    let s = same_text q (codes ".pie/store") in
    let n = same_text q (codes ".pie/pending") in
    let three = or_left (is_out q || o || s) n h in
    let two = or_left (is_out q || o) s three in
    let out : is_out q ≡ false = or_left (is_out q) o two in
    none_of_five (same_text q p.marker) (same_text q p.place) (same_text q p.names_place) (list_any (same_text q) p.removals.items)
    (list_any (λ w. same_text q w.0) p.writes.items)
    (ap (same_text q) at.marker ∙ or_right (is_out q) o two)
    (ap (same_text q) at.store ∙ or_right (is_out q || o) s three)
    (ap (same_text q) at.names ∙ or_right (is_out q || o || s) n h)
    (none_removed q p.removals.items out removals)
    (none_written q p.writes.items out writes)

-- the same of a plan of removals and contents
pub none_own : (removed : List (List ℕ)) (contents : List (List ℕ × Vec ℕ Global)) (pending : Pending) (store : Vec ℕ Global) (p : Plan)
    → IsPlanOf removed contents pending store p → (q : List ℕ) → may_change q ≡ false → is_own p q ≡ false
none_own removed contents pending store p plan =
    never_own p plan.places (ap (list_all is_out) plan.removals ∙ plan.removals_out)
    (ap (list_all (λ (w : List ℕ × Vec ℕ Global). is_out w.0)) plan.writes ∙ plan.writes_out)

-- ---- what is kept

abbrev Kept : Option Directory → Option Directory → Type 0
Kept before after = IfSome before (λ d. (e : Directory) × (after ≡ Some e) × ((q : List ℕ) → may_change q ≡ false → file_at e q ≡ file_at d q))

kept_of : (removed : List (List ℕ)) (contents : List (List ℕ × Vec ℕ Global)) (pending : Pending) (store : Vec ℕ Global) (p : Plan)
    → IsPlanOf removed contents pending store p → (before after : Option Directory)
    → IfSome before (λ d. (e : Directory) × (after ≡ Some e) × ((q : List ℕ) → is_own p q ≡ false → file_at e q ≡ file_at d q)) → Kept before after
kept_of removed contents pending store p plan None after h = tt
kept_of removed contents pending store p plan (Some d) after h = (h.0, h.1, λ q off. h.2 q (none_own removed contents pending store p plan q off))

-- what a commit of the plan keeps
pub commit_keeps : (removed : List (List ℕ)) (contents : List (List ℕ × Vec ℕ Global)) (pending : Pending) (store : Vec ℕ Global) (p : Plan)
    → IsPlanOf removed contents pending store p → (before after : Option Directory) → KeepsOthers p before after → KeepsRest before after
commit_keeps removed contents pending store p plan before after h = record { kept = kept_of removed contents pending store p plan before after h.kept }

kept_same : (before after : Option Directory) → after ≡ before → Kept before after
kept_same None after is = tt
kept_same (Some d) after is = (d, is, λ q off. refl)

kept_by : (p : Plan) → ((q : List ℕ) → may_change q ≡ false → is_own p q ≡ false) → (before after : Option Directory)
    → IfSome before (λ d. (e : Directory) × (after ≡ Some e) × ((q : List ℕ) → is_own p q ≡ false → file_at e q ≡ file_at d q)) → Kept before after
kept_by p never None after h = tt
kept_by p never (Some d) after h = (h.0, h.1, λ q off. h.2 q (never q off))

-- what a commit keeps of a plan that changes files under `out/` alone
pub plan_keeps : (p : Plan) → has_own_places p ≡ true → list_all is_out p.removals.items ≡ true
    → list_all (λ (w : List ℕ × Vec ℕ Global). is_out w.0) p.writes.items ≡ true → (before after : Option Directory) → KeepsOthers p before after
    → KeepsRest before after
plan_keeps p sound removals writes before after h = record { kept = kept_by p (never_own p sound removals writes) before after h.kept }

-- a directory that is as it was
pub same_keeps : (before after : Option Directory) → after ≡ before → KeepsRest before after
same_keeps before after is = record { kept = kept_same before after is }
