-- What holds of every pipeline, over directories.
use Rattle.std.proofs.Common.{ℕ, ◌≡◌, ◌||◌, Bool, true, false, cond, Option, Some, None, List, [], ◌∷◌, ◌++◌, map, Ok, Err, ◌⊎◌, inl, inr, sym, ◌∙◌, ap}
use Rattle.std.proofs.Common.{subst, refl, Contains, bytes_eq, codes, eqb}
use Rattle.std.specs.Prelude.{is_some, ◌==◌}
use Rattle.std.specs.List.{list_any}
use Rattle.std.proofs.lemmas.Bool.Decides.{Decides-eqb}
use Rattle.pie_base.specs.Path.{is_out, is_source, is_below, rest_below}
use Rattle.pie_value.specs.declared.task.Task.{Task}
use Rattle.pie_value.specs.declared.event.Event.{Event}
use Rattle.pie_value.specs.declared.event.Event.TheVariants as events
use Rattle.pie_value.specs.Tree.{Tree}
use Rattle.pie_value.specs.Limits.{is_small, is_small_task}
use Rattle.pie_value.specs.Canonical.{enc, enc_task}
use Rattle.pie_value.specs.Reading.{Parsed, task_prefix}
use Rattle.pie_operators.specs.Domain.{Outcome, done, fails, wants}
use Rattle.pie_parser.specs.FunctionTrees.{FunctionTree}
use Rattle.pie_files.specs.Directory.{Directory, file_at}
use Rattle.pie_model.specs.Paths.{Path, among, kind_of, kind_by, below_out, kept_names, first_segment, segments}
use Rattle.pie_model.specs.declared.words.Kind.TheVariants.{Out, Kept, Source}
use Rattle.pie_model.specs.declared.words.Answer.{Answer as ModelAnswer}
use Rattle.pie_model.specs.declared.words.Event.{Event as ModelEvent}
use Rattle.pie_model.specs.declared.words.Event.TheVariants as model
use Rattle.pie_model.specs.declared.words.FaultKind.TheVariants as faults
use Rattle.pie_model.specs.Forest.{live_evaluations}
use Rattle.pie_model.specs.Verdict.{verdict}
use Rattle.pie_model.specs.declared.words.Verdict.TheVariants.{Accepted}
use Rattle.pie_model.specs.Built.{bytes_at, provided_at}
use Rattle.pie_model.specs.Changes.{NamesAllChanges}
use Rattle.pie_model.proofs.Basics.{clash, among_split}
use Rattle.pie_model_pipeline.specs.Words.{how_of, event_of, effect_of}
use Rattle.pie_model_pipeline.specs.Answers.{answer_of}
use Rattle.pie_model_pipeline.specs.World.{world, next, next_if_read, task_evaluates_to, project}
use Rattle.pie_model_pipeline.specs.Clean.{AreProvided}
use Rattle.pie_builder_laws.proofs.KindLemmas.{kinds_same}
use Rattle.pie_manner_laws.proofs.Whole.{has_manners, writes_once}
use Rattle.pie_earlier_laws.specs.Sources.{SourcesAgree}
use Rattle.pie_earlier_laws.specs.Left.{IsEarlierBuild, WriteOnce}
use Rattle.pie_earlier_laws.specs.Begins.{HasManners}
use Rattle.pie_earlier_laws.proofs.Leaving.{headed}
use Rattle.pie_earlier_laws.proofs.Entries.{same_entries}

-- ---- kinds

pub out_kind : (p : Path) → is_out p ≡ true → kind_of p ≡ Out
out_kind p h = kinds_same p ∙ ap (λ b. cond b Out (cond (is_source p) Source Kept)) h

pub kind_out : (p : Path) → kind_of p ≡ Out → is_out p ≡ true
kind_out p h = go (is_out p) refl (is_source p) (sym (kinds_same p) ∙ h)
  where
    go : (b : Bool) → is_out p ≡ b → (c : Bool) → cond b Out (cond c Source Kept) ≡ Out → is_out p ≡ true
    go true e c k = e
    go false e true k = cc
    go false e false k = cc

pub kind_source : (p : Path) → kind_of p ≡ Source → is_source p ≡ true
kind_source p h = go (is_out p) (is_source p) refl (sym (kinds_same p) ∙ h)
  where
    go : (b c : Bool) → is_source p ≡ c → cond b Out (cond c Source Kept) ≡ Source → is_source p ≡ true
    go true c e k = cc
    go false true e k = e
    go false false e k = cc

pub source_kind : (p : Path) → is_source p ≡ true → kind_of p ≡ Source
source_kind p h = go (is_out p) refl h
  where
    go : (b : Bool) → is_out p ≡ b → is_source p ≡ true → kind_of p ≡ Source
    go true e k = cc
    go false e k = kinds_same p ∙ ap (λ b. cond b Out (cond (is_source p) Source Kept)) e ∙ ap (λ c. cond c Source Kept) k

-- ---- what an event of a task has

-- an event lists a source directory and writes under `out`, if it lists or writes
abbrev IsProper : ModelEvent → Type 0
IsProper (model.Done v) = Unit {0}
IsProper (model.Fail k) = Unit {0}
IsProper (model.LookAt l p) = Unit {0}
IsProper (model.ListOf d) = is_source d ≡ true
IsProper (model.Write p b) = is_out p ≡ true
IsProper (model.Require h u) = Unit {0}

either_proper : (b : Bool) (x y : ModelEvent) → (b ≡ true → IsProper x) → IsProper y → IsProper (cond b x y)
either_proper true x y f h = f refl
either_proper false x y f h = h

effect_proper : (e : Event) → IsProper (effect_of e)
effect_proper (events.Exists p) = tt
effect_proper (events.Read p by) = tt
effect_proper (events.Digest p) = tt
effect_proper (events.List d) = either_proper (is_source d) (model.ListOf d) (model.Fail faults.BadList) (λ h. h) tt
effect_proper (events.Write p bytes) = either_proper (is_out p) (model.Write p bytes) (model.Fail faults.BadWrite) (λ h. h) tt
effect_proper (events.Require t how) =
    either_proper (is_small_task t) (model.Require (how_of how) (enc_task t)) (model.Fail faults.Big) (λ h. tt) tt
effect_proper (events.Done v) = tt
effect_proper (events.Fail k) = tt

event_proper : (o : Outcome Tree) → IsProper (event_of o)
event_proper (done t) = either_proper (is_small t) (model.Done (enc t)) (model.Fail faults.Big) (λ h. tt) tt
event_proper (fails k) = tt
event_proper (wants e) = effect_proper e

read_proper : (fs : List FunctionTree) (r : Parsed Task) (given : List ModelAnswer) → IsProper (next_if_read fs r given)
read_proper fs (Ok (t, [])) given = event_proper (task_evaluates_to fs t (map answer_of given))
read_proper fs (Ok (t, b ∷ rest)) given = tt
read_proper fs (Err e) given = tt

next_proper : (fs : List FunctionTree) (t : List ℕ) (given : List ModelAnswer) → IsProper (next fs t given)
unfolding next
next_proper fs t given = read_proper fs (task_prefix t) given

lists_source : (fs : List FunctionTree) (t : List ℕ) (given : List ModelAnswer) (d : Path) → next fs t given ≡ model.ListOf d → kind_of d ≡ Source
lists_source fs t given d e = source_kind d (subst IsProper e (next_proper fs t given))

writes_out : (fs : List FunctionTree) (t : List ℕ) (given : List ModelAnswer) (p : Path) (b : List ℕ) → next fs t given ≡ model.Write p b
    → kind_of p ≡ Out
writes_out fs t given p b e = out_kind p (subst IsProper e (next_proper fs t given))

pub manners_of : (fs : List FunctionTree) (d : Directory) → HasManners (project fs d)
manners_of fs d = record { writes = λ t. has_manners fs t; lists = λ t given p e. lists_source fs t given p e }

pub write_once : (fs : List FunctionTree) (d : Directory) → WriteOnce (project fs d)
write_once fs d = record { once = λ t. writes_once fs t; out = λ t given p b e. writes_out fs t given p b e }

-- ---- below a source directory are sources

kind_below : (s : List ℕ) (rest more : List (List ℕ)) (b : Bool) → cond b (below_out rest) (cond (among s kept_names) Kept Source) ≡ Source
    → cond b (below_out more) (cond (among s kept_names) Kept Source) ≡ Source
kind_below s [] more true h = cc
kind_below s (x ∷ rest) more true h = cc
kind_below s rest more false h = h

rest_is : (d p r : List ℕ) → rest_below d p ≡ Some r → p ≡ d ++ 47 ∷ r
rest_is [] [] r h = cc
rest_is [] (b ∷ p) r h = go (b == 47) refl h
  where
    go : (t : Bool) → (b == 47) ≡ t → cond t (Some p) None ≡ Some r → b ∷ p ≡ 47 ∷ r
    go true e k = let f : p ≡ r = cc in ap (λ (z : ℕ). z ∷ p) ((Decides-eqb b 47).0 e) ∙ ap (λ (z : List ℕ). 47 ∷ z) f
    go false e k = cc
rest_is (x ∷ d) [] r h = cc
rest_is (x ∷ d) (b ∷ p) r h = go (x == b) refl h (rest_is d p r)
  where
    go : (t : Bool) → (x == b) ≡ t → cond t (rest_below d p) None ≡ Some r → (rest_below d p ≡ Some r → p ≡ d ++ 47 ∷ r) → b ∷ p ≡ x ∷ (d ++ 47 ∷ r)
    go true e k f = ap (λ (z : ℕ). z ∷ p) (sym ((Decides-eqb x b).0 e)) ∙ ap (λ (z : List ℕ). x ∷ z) (f k)
    go false e k f = cc

first_below : (d r : List ℕ) → first_segment (d ++ 47 ∷ r) ≡ first_segment d
first_below [] r = refl
first_below (c ∷ d) r = ap (λ z. cond (eqb c 47) [] (c ∷ z)) (first_below d r)

pub source_below : (d p : Path) → kind_of d ≡ Source → is_below d p ≡ true → kind_of p ≡ Source
unfolding kind_of
source_below d p k h = go (rest_below d p) refl h
  where
    go : (o : Option (List ℕ)) → rest_below d p ≡ o → is_some o ≡ true → kind_by (segments p) ≡ Source
    go None e i = cc
    go (Some r) e i =
        let q : p ≡ d ++ 47 ∷ r = rest_is d p r e in
        let a = headed d in
        let b = headed p in
        let s : first_segment p ≡ first_segment d = ap first_segment q ∙ first_below d r in
        ap kind_by b.is ∙ ap (λ z. kind_by (z ∷ b.rest)) s
        ∙ kind_below (first_segment d) a.rest b.rest (bytes_eq (first_segment d) (codes "out")) (ap kind_by (sym a.is) ∙ k)

-- ---- sources

unnamed_below : (d : Path) (changes : List Path) (p : Path) → list_any (is_below d) changes ≡ false → is_below d p ≡ true → (b : Bool)
    → among p changes ≡ b → among p changes ≡ false
unnamed_below d changes p h k false e = e
unnamed_below d changes p h k true e = clash (list_any (is_below d) changes) (named changes e) h
  where
    named : (ps : List Path) → among p ps ≡ true → list_any (is_below d) ps ≡ true
    named [] i = cc
    named (q ∷ qs) i = go (among_split p q qs i) (named qs)
      where
        left : (a b : Bool) → a ≡ true → (a || b) ≡ true
        left true b e = refl
        left false b e = cc

        right : (a b : Bool) → b ≡ true → (a || b) ≡ true
        right true b e = refl
        right false b e = e

        go : (p ≡ q) ⊎ (among p qs ≡ true) → (among p qs ≡ true → list_any (is_below d) qs ≡ true) → (is_below d q || list_any (is_below d) qs) ≡ true
        go (inl e) f = left (is_below d q) (list_any (is_below d) qs) (subst (λ z. is_below d z ≡ true) e k)
        go (inr j) f = right (is_below d q) (list_any (is_below d) qs) (f j)

pub sources_agree : (fs gs : List FunctionTree) (built left now : Directory) (roots : List (List ℕ)) (changes : List Path)
    → IsEarlierBuild world (project fs built) roots left → NamesAllChanges left now changes
    → SourcesAgree (project fs built) (project gs now) changes
sources_agree fs gs built left now roots changes E N = record {
  files = λ p k a. sym (E.sources p k) ∙ N.sources p k a;
  entries = λ d k a. same_entries built now d (λ p b.
      let s = source_below d p k b in sym (E.sources p s) ∙ N.sources p s (unnamed_below d changes p a b (among p changes) refl));
}

-- ---- what was left

pub pipeline_left : (fs : List FunctionTree) (built left : Directory) (roots : List (List ℕ)) (files : List (List ℕ × List ℕ))
    → verdict world (project fs built) roots ≡ Accepted → ((p : Path) → is_source p ≡ true → file_at left p ≡ file_at built p)
    → ((p bytes : List ℕ) → is_out p ≡ true → (bytes_at left p ≡ Some bytes → Contains files (p, bytes))
    × (Contains files (p, bytes) → bytes_at left p ≡ Some bytes))
    → AreProvided fs built roots files → IsEarlierBuild world (project fs built) roots left
pipeline_left fs built left roots files accepted same stands provides = record {
  accepted = accepted;
  sources = λ p k. same p (kind_source p k);
  provided = λ p k. either p k (bytes_at left p) refl (provided_at (live_evaluations world (project fs built) roots) p) refl;
}
  where
    either : (p : Path) → kind_of p ≡ Out → (o : Option (List ℕ)) → bytes_at left p ≡ o → (u : Option (List ℕ))
        → provided_at (live_evaluations world (project fs built) roots) p ≡ u
        → bytes_at left p ≡ provided_at (live_evaluations world (project fs built) roots) p
    either p k (Some b) e u f = e ∙ sym ((provides p b).0 ((stands p b (kind_out p k)).0 e))
    either p k None e (Some b) f = (stands p b (kind_out p k)).1 ((provides p b).1 f) ∙ sym f
    either p k None e None f = e ∙ sym f
