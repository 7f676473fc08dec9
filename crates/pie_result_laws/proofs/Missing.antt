-- What a record says was found absent, in the words of the program and of the model.
use Rattle.std.proofs.Common.{◌≡◌, ◌⊎◌, inl, inr, Bool, true, false, cond, Option, Some, None, List, [], ◌∷◌, ◌++◌, map, refl, sym, ap, subst, ◌∙◌}
use Rattle.std.specs.Prelude.{Contains}
use Rattle.std.proofs.lemmas.List.Elements.{Contains-append_left, Contains-append_right, Contains-append_cases}
use Rattle.pie_base.specs.Path.{is_out, is_source}
use Rattle.pie_value.specs.declared.stamp.Stamp.{Stamp}
use Rattle.pie_value.specs.declared.stamp.Stamp.TheVariants as stamps
use Rattle.pie_value.specs.declared.task.Task.{Task}
use Rattle.pie_record.specs.declared.dep.Dep.{Dep}
use Rattle.pie_record.specs.declared.dep.DepKind.{DepKind}
use Rattle.pie_record.specs.declared.dep.DepKind.TheVariants as kinds
use Rattle.pie_record.specs.declared.dep.DepOn.{DepOn}
use Rattle.pie_record.specs.declared.dep.DepOn.TheVariants.{File, Called}
use Rattle.pie_checks.specs.Records.{looks_at_file, absent_at as program_absent_at, missing_in}
use Rattle.pie_model.specs.declared.words.Kind.{Kind}
use Rattle.pie_model.specs.declared.words.Kind.TheVariants.{Out, Kept, Source}
use Rattle.pie_model.specs.declared.words.Look.{Look}
use Rattle.pie_model.specs.declared.words.Look.TheVariants as looks
use Rattle.pie_model.specs.Paths.{Path, kind_of}
use Rattle.pie_model.specs.Records.{Looked}
use Rattle.pie_step_laws.specs.Checks.{absent_at, absent_by, absent_in}
use Rattle.pie_check_laws.proofs.Members.{none_in, here, only_one, here_or_there}
use Rattle.pie_model_pipeline.specs.Rows.{stamp_of, query_of, observation_of}
use Rattle.pie_builder_laws.proofs.KindLemmas.{kinds_same}

-- a path, if there is one
abbrev if_one : Option Path → List Path
if_one None = []
if_one (Some p) = p ∷ []

at_kind : (p : Path) (a b : Bool) → absent_at p (stamp_of stamps.Absent) (cond a Out (cond b Source Kept)) ≡ if_one (cond a (Some p) None)
at_kind p true b = refl
at_kind p false true = refl
at_kind p false false = refl

none_at : (p : Path) (s : Stamp) (k : Kind) → (s ≡ stamps.Absent → ⊥) → absent_at p (stamp_of s) k ≡ []
none_at p s Kept f = refl
none_at p s Source f = refl
none_at p stamps.Absent Out f = absurd (f refl)
none_at p stamps.Present Out f = refl
none_at p (stamps.Hash h) Out f = refl
none_at p (stamps.Mark m) Out f = refl
none_at p (stamps.Whole v) Out f = refl
none_at p stamps.Done Out f = refl

looked_absent : (l : Look) (p : Path) (s : Stamp) → absent_by (stamp_of s) (Looked l p) ≡ if_one (program_absent_at true (File p) s)
looked_absent l p stamps.Absent = ap (absent_at p (stamp_of stamps.Absent)) (kinds_same p) ∙ at_kind p (is_out p) (is_source p)
looked_absent l p stamps.Present = none_at p stamps.Present (kind_of p) (λ e. cc)
looked_absent l p (stamps.Hash h) = none_at p (stamps.Hash h) (kind_of p) (λ e. cc)
looked_absent l p (stamps.Mark m) = none_at p (stamps.Mark m) (kind_of p) (λ e. cc)
looked_absent l p (stamps.Whole v) = none_at p (stamps.Whole v) (kind_of p) (λ e. cc)
looked_absent l p stamps.Done = none_at p stamps.Done (kind_of p) (λ e. cc)

file_absent : (k : DepKind) (p : Path) (s : Stamp) → absent_by (stamp_of s) (query_of k (File p)) ≡ if_one (program_absent_at (looks_at_file k) (File p) s)
file_absent kinds.Exists p s = looked_absent looks.Exists p s
file_absent kinds.ReadHash p s = looked_absent looks.ByHash p s
file_absent kinds.ReadMark p s = looked_absent looks.ByMark p s
file_absent kinds.Digest p s = looked_absent looks.Digest p s
file_absent kinds.List p s = refl
file_absent kinds.Require p s = refl
file_absent kinds.RequireHash p s = refl
file_absent kinds.Run p s = refl

called_absent : (b : Bool) (t : Task) (s : Stamp) → program_absent_at b (Called t) s ≡ None
called_absent true t s = refl
called_absent false t s = refl

absent_on : (k : DepKind) (what : DepOn) (s : Stamp) → absent_by (stamp_of s) (query_of k what) ≡ if_one (program_absent_at (looks_at_file k) what s)
absent_on k (File p) s = file_absent k p s
absent_on k (Called t) s = ap if_one (sym (called_absent (looks_at_file k) t s))

one_in : (o : Option Path) (p : Path) → Contains (if_one o) p → o ≡ Some p
one_in None p h = absurd (none_in p h)
one_in (Some q) p h = ap Some (only_one q p h)

pub absent_to : (deps : List Dep) (p : Path) → Contains (absent_in (map observation_of deps)) p
    → (dep : Dep) × Contains deps dep × (missing_in dep ≡ Some p)
absent_to [] p h = absurd (none_in p h)
absent_to (d ∷ ds) p h =
    by (Contains-append_cases (absent_by (stamp_of d.stamp) (query_of d.kind d.what)) (absent_in (map observation_of ds)) p h) (absent_to ds p)
  where
    by : Contains (absent_by (stamp_of d.stamp) (query_of d.kind d.what)) p ⊎ Contains (absent_in (map observation_of ds)) p
        → (Contains (absent_in (map observation_of ds)) p → (dep : Dep) × Contains ds dep × (missing_in dep ≡ Some p))
        → (dep : Dep) × Contains (d ∷ ds) dep × (missing_in dep ≡ Some p)
    by (inl i) f = (d, here d ds, one_in (missing_in d) p (subst (λ xs. Contains xs p) (absent_on d.kind d.what d.stamp) i))
    by (inr i) f = let m = f i in (m.0, Contains-append_right (d ∷ []) ds m.0 m.1, m.2)

pub absent_from : (deps : List Dep) (p : Path) (dep : Dep) → Contains deps dep → missing_in dep ≡ Some p → Contains (absent_in (map observation_of deps)) p
absent_from [] p dep h e = absurd (none_in dep h)
absent_from (d ∷ ds) p dep h e = by (here_or_there d dep ds h) (λ i. absent_from ds p dep i e)
  where
    by : (d ≡ dep) ⊎ Contains ds dep → (Contains ds dep → Contains (absent_in (map observation_of ds)) p)
        → Contains (absent_by (stamp_of d.stamp) (query_of d.kind d.what) ++ absent_in (map observation_of ds)) p
    by (inl i) f =
        Contains-append_left (absent_by (stamp_of d.stamp) (query_of d.kind d.what)) (absent_in (map observation_of ds)) p
        (subst (λ xs. Contains xs p) (sym (absent_on d.kind d.what d.stamp ∙ ap if_one (ap missing_in i ∙ e))) (here p []))
    by (inr i) f = Contains-append_right (absent_by (stamp_of d.stamp) (query_of d.kind d.what)) (absent_in (map observation_of ds)) p (f i)
