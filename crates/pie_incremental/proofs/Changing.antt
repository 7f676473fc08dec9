-- The plan of an accepted build can be committed.
use Rattle.std.proofs.Common.{◌≡◌, ℕ, true, List, [], ◌∷◌, None, Vec, Global, refl, sym, ap, subst, ◌∙◌}
use Rattle.std.specs.Prelude.{◌&&◌, ◌||◌, codes, All, IsTrue}
use Rattle.std.specs.List.{list_all, filter}
use Rattle.std.proofs.lemmas.List.Sums.{list_all-from_AllPass}
use Rattle.pie_base.specs.Path.{is_out, same_text}
use Rattle.pie_commit.specs.declared.plan.Pending.{Pending}
use Rattle.pie_commit.specs.declared.plan.Plan.{Plan}
use Rattle.pie_commit.specs.inner.Plans.{has_own_places, is_sound, may_be_written}
use Rattle.pie_diff.specs.Hashes.{is_new}
use Rattle.pie_diff.specs.Removals.{AreRemovals}
use Rattle.pie_record.specs.declared.task_record.TaskRecord.{TaskRecord}
use Rattle.pie_incremental.specs.declared.base.OwnFiles.{OwnFiles}
use Rattle.pie_incremental.specs.inner.Changes.{bytes_of, Changes}
use Rattle.pie_incremental.specs.inner.Plans.{store_change, IsChangesPlan}
use Rattle.pie_incremental.proofs.OwnPaths.{and_left, and_right}

all_may : (writes : List (List ℕ × Vec ℕ Global)) → list_all (λ w. is_out w.0) writes ≡ true → list_all (λ w. may_be_written w.0) writes ≡ true
all_may [] h = refl
all_may (w ∷ ws) h =
    ap (λ b. b && list_all (λ w. may_be_written w.0) ws)
    (ap (λ b. b || same_text w.0 (codes ".pie/manifest")) (and_left (is_out w.0) (list_all (λ w. is_out w.0) ws) h))
    ∙ all_may ws (and_right (is_out w.0) (list_all (λ w. is_out w.0) ws) h)

-- a plan with these parts
pub plan_of : (own : OwnFiles) (held : List (List ℕ × List ℕ)) (rows : List TaskRecord) (contents : List (List ℕ × Vec ℕ Global)) (text : Vec ℕ Global)
    (gone : Vec (List ℕ) Global) (new : Vec (List ℕ × Vec ℕ Global) Global) (pending : Pending) (p : Plan) → has_own_places p ≡ true
    → p.removals ≡ gone → AreRemovals held rows gone.items → list_all is_out gone.items ≡ true → p.writes ≡ new → new.items ≡ filter (is_new held) contents
    → All (λ (f : List ℕ × Vec ℕ Global). IsTrue (is_out f.0)) new.items → p.pending ≡ pending → Changes (bytes_of own.pending) None pending
    → p.store ≡ store_change own.store.items text → IsChangesPlan own held rows contents text p
plan_of own held rows contents text gone new pending p places removals goes gone_out writes is new_out names ends store = record {
  places = places;
  removals = subst (λ (v : Vec (List ℕ) Global). AreRemovals held rows v.items) (sym removals) goes;
  removals_out = ap (λ (v : Vec (List ℕ) Global). list_all is_out v.items) removals ∙ gone_out;
  writes = ap (λ (v : Vec (List ℕ × Vec ℕ Global) Global). v.items) writes ∙ is;
  writes_out = ap (λ (v : Vec (List ℕ × Vec ℕ Global) Global). list_all (λ w. is_out w.0) v.items) writes ∙ list_all-from_AllPass (λ f. is_out f.0) new.items new_out;
  pending = subst (Changes (bytes_of own.pending) None) (sym names) ends;
  store = store;
}

pub sound : (own : OwnFiles) (held : List (List ℕ × List ℕ)) (rows : List TaskRecord) (contents : List (List ℕ × Vec ℕ Global)) (text : Vec ℕ Global)
    (p : Plan) → IsChangesPlan own held rows contents text p → is_sound p ≡ true
sound own held rows contents text p plan =
    ap (λ a. a && list_all is_out p.removals.items && list_all (λ w. may_be_written w.0) p.writes.items) plan.places
    ∙ ap (λ a. true && a && list_all (λ w. may_be_written w.0) p.writes.items) plan.removals_out
    ∙ all_may p.writes.items plan.writes_out
