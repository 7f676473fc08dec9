-- No task of a pipeline writes what it has looked at or written.
use Rattle.std.proofs.Common.{◌≡◌, ℕ, Bool, true, false, cond, List, [], ◌∷◌, ◌++◌, ◌⊎◌, inl, inr, map, Option, Some, None, Ok, Err, refl, sym, ap, ◌∙◌, subst}
use Rattle.std.proofs.Common.{append_assoc}
use Rattle.std.proofs.lemmas.List.{map-append}
use Rattle.pie_base.specs.Path.{is_out, is_source}
use Rattle.pie_value.specs.declared.event.Answer.{Answer}
use Rattle.pie_value.specs.declared.event.By.TheVariants.{Hash, Mark, Raw}
use Rattle.pie_value.specs.declared.event.Event.{Event}
use Rattle.pie_value.specs.declared.event.Event.TheVariants as events
use Rattle.pie_value.specs.declared.task.Task.{Task}
use Rattle.pie_value.specs.Tree.{Tree as Val}
use Rattle.pie_value.specs.Limits.{is_small, is_small_task}
use Rattle.pie_value.specs.Canonical.{enc, enc_task}
use Rattle.pie_value.specs.Reading.{Parsed, task_prefix}
use Rattle.pie_operators.specs.Domain.{Outcome, done, fails, wants, State, at_start, Act, holds}
use Rattle.pie_parser.specs.FunctionTrees.{FunctionTree}
use Rattle.pie_types.specs.Whole.{number_from}
use Rattle.pie_semantics.specs.Meaning.{bound, block_value}
use Rattle.pie_model.specs.Paths.{among}
use Rattle.pie_model.specs.declared.words.Answer.{Answer as ModelAnswer}
use Rattle.pie_model.specs.declared.words.Event.{Event as ModelEvent}
use Rattle.pie_model.specs.declared.words.Event.TheVariants as model
use Rattle.pie_model.specs.declared.words.FaultKind.TheVariants as faults
use Rattle.pie_model.specs.declared.words.Look.TheVariants as looks
use Rattle.pie_model.specs.Separate.{path_looked, looked_paths, NeverWritesWhatItSaw}
use Rattle.pie_model.proofs.Basics.{among_split, among_either, among_left, among_right, clash}
use Rattle.pie_model_pipeline.specs.Words.{fault_of, look_by, how_of, event_of, effect_of}
use Rattle.pie_model_pipeline.specs.Answers.{answer_of}
use Rattle.pie_model_pipeline.specs.World.{function_at, outcome_by, next_if_read, next}
use Rattle.pie_manner_laws.specs.Writes.{path_written, written_paths, NeverWritesTwice}
use Rattle.pie_manner_laws.proofs.Forms.{with_more, Touches, touched, Untouched, Did, Stays, Polite}
use Rattle.pie_manner_laws.proofs.Trees.{block_polite}

-- what running does next, as the model has it
abbrev next_by : Act Val → List ModelAnswer → ModelEvent
next_by m given = event_of (m (at_start (map answer_of given))).0

-- ---- the path that an event touches

-- the path that an event looks at or writes
abbrev path_touched : ModelEvent → List (List ℕ)
path_touched (model.Done v) = []
path_touched (model.Fail k) = []
path_touched (model.LookAt l p) = p ∷ []
path_touched (model.ListOf d) = []
path_touched (model.Write p b) = p ∷ []
path_touched (model.Require h u) = []

-- the paths that a task looked at or wrote while it was given these further answers
abbrev touched_paths : (List ModelAnswer → ModelEvent) → List ModelAnswer → List ModelAnswer → List (List ℕ)
touched_paths next fed [] = []
touched_paths next fed (a ∷ rest) = path_touched (next fed) ++ touched_paths next (fed ++ a ∷ []) rest

-- a task never writes what it touched
abbrev NeverWritesWhatItTouched : (List ModelAnswer → ModelEvent) → Type 0
NeverWritesWhatItTouched next =
    (answers : List ModelAnswer) (p : List ℕ) (b : List ℕ) → next answers ≡ model.Write p b → among p (touched_paths next [] answers) ≡ true → ⊥

nowhere : {A : Type 0} (p : List ℕ) → among p [] ≡ true → A
nowhere p h = let x : ⊥ = cc in absurd x

one_path : (p q : List ℕ) → among p (q ∷ []) ≡ true → q ≡ p
one_path p q h = go (among_split p q [] h)
  where
    go : (p ≡ q) ⊎ (among p [] ≡ true) → q ≡ p
    go (inl e) = sym e
    go (inr k) = nowhere p k

-- of two events that touch no path neither does
quiet : {A : Type 0} (p : List ℕ) (b : Bool) (x y : ModelEvent) → path_touched x ≡ [] → path_touched y ≡ [] → among p (path_touched (cond b x y)) ≡ true → A
quiet p true x y e f h = nowhere p (ap (among p) (sym e) ∙ h)
quiet p false x y e f h = nowhere p (ap (among p) (sym f) ∙ h)

write_touches : (p q bs : List ℕ) (b : Bool) → among p (path_touched (cond b (model.Write q bs) (model.Fail faults.BadWrite))) ≡ true → q ≡ p
write_touches p q bs true h = one_path p q h
write_touches p q bs false h = nowhere p h

touches_of : (p : List ℕ) (e : Event) → among p (path_touched (effect_of e)) ≡ true → Touches p e
touches_of p (events.Exists q) h = one_path p q h
touches_of p (events.Read q Hash) h = one_path p q h
touches_of p (events.Read q Mark) h = one_path p q h
touches_of p (events.Read q Raw) h = one_path p q h
touches_of p (events.Digest q) h = one_path p q h
touches_of p (events.List d) h = quiet p (is_source d) (model.ListOf d) (model.Fail faults.BadList) refl refl h
touches_of p (events.Write q bs) h = write_touches p q bs (is_out q) h
touches_of p (events.Require t how) h =
    quiet p (is_small_task t) (model.Require (how_of how) (enc_task t)) (model.Fail faults.Big) refl refl h
touches_of p (events.Done v) h = nowhere p h
touches_of p (events.Fail k) h = nowhere p h

touched_did : (p : List ℕ) (m : Act Val) (s : State) (o : Outcome Val × State) → Stays m s o → among p (path_touched (event_of o.0)) ≡ true
    → (a : Answer) (rest : List Answer) → Did p (m (with_more s (a ∷ rest)))
touched_did p m s (done v, t) k h a rest = quiet p (is_small v) (model.Done (enc v)) (model.Fail faults.Big) refl refl h
touched_did p m s (fails f, t) k h a rest = nowhere p h
touched_did p m s (wants e, t) k h a rest = k.2 p a rest (touches_of p e h)

did_more : (m : Act Val) → Polite m → (p : List ℕ) (fed : List ModelAnswer) (a : ModelAnswer) (rest : List ModelAnswer)
    → (among p (touched_paths (next_by m) (fed ++ a ∷ []) rest) ≡ true → Did p (m (at_start (map answer_of ((fed ++ a ∷ []) ++ rest)))))
    → (among p (path_touched (next_by m fed)) ≡ true) ⊎ (among p (touched_paths (next_by m) (fed ++ a ∷ []) rest) ≡ true)
    → Did p (m (at_start (map answer_of (fed ++ a ∷ rest))))
did_more m polite p fed a rest later (inl k) =
    let s : State = at_start (map answer_of fed) in
    subst (λ (xs : List Answer). Did p (m (at_start xs))) (sym (map-append answer_of fed (a ∷ rest)))
    (touched_did p m s (m s) (polite s) k (answer_of a) (map answer_of rest))
did_more m polite p fed a rest later (inr k) =
    subst (λ (xs : List ModelAnswer). Did p (m (at_start (map answer_of xs)))) (append_assoc fed (a ∷ []) rest) (later k)

-- what was looked at or written while answers were fed has been touched after them
did_all : (m : Act Val) → Polite m → (p : List ℕ) (fed rest : List ModelAnswer) → among p (touched_paths (next_by m) fed rest) ≡ true
    → Did p (m (at_start (map answer_of (fed ++ rest))))
did_all m polite p fed [] h = nowhere p h
did_all m polite p fed (a ∷ rest) h =
    did_more m polite p fed a rest (did_all m polite p (fed ++ a ∷ []) rest)
    (among_either p (path_touched (next_by m fed)) (touched_paths (next_by m) (fed ++ a ∷ []) rest) h)

-- ---- the path that an event writes

abbrev write_path : ModelEvent → Option (List ℕ)
write_path (model.Done v) = None
write_path (model.Fail k) = None
write_path (model.LookAt l p) = None
write_path (model.ListOf d) = None
write_path (model.Write p b) = Some p
write_path (model.Require h u) = None

no_path : {A : Type 0} (p : List ℕ) (x y : ModelEvent) → write_path x ≡ None → write_path y ≡ Some p → x ≡ y → A
no_path p x y e f h = let i : None ≡ Some p = sym e ∙ ap write_path h ∙ f in let z : ⊥ = cc in absurd z

calm : {A : Type 0} (p b : List ℕ) (c : Bool) (x y : ModelEvent) → write_path x ≡ None → write_path y ≡ None → cond c x y ≡ model.Write p b → A
calm p b true x y e f h = no_path p x (model.Write p b) e refl h
calm p b false x y e f h = no_path p y (model.Write p b) f refl h

same_path : (p q : List ℕ) (x : ModelEvent) → write_path x ≡ Some q → (b : List ℕ) → x ≡ model.Write p b → q ≡ p
same_path p q x e b h = let f : Some q ≡ Some p = sym e ∙ ap write_path h in cc

out_write : (p b q bs : List ℕ) (c : Bool) (y : ModelEvent) → write_path y ≡ None → cond c (model.Write q bs) y ≡ model.Write p b → q ≡ p
out_write p b q bs true y e h = same_path p q (model.Write q bs) refl b h
out_write p b q bs false y e h = no_path p y (model.Write p b) e refl h

write_untouched : (p b : List ℕ) (e : Event) (t : State) → Untouched e t → effect_of e ≡ model.Write p b → touched t p ≡ true → ⊥
write_untouched p b (events.Exists q) t u e h = no_path p (model.LookAt looks.Exists q) (model.Write p b) refl refl e
write_untouched p b (events.Read q by) t u e h = no_path p (model.LookAt (look_by by) q) (model.Write p b) refl refl e
write_untouched p b (events.Digest q) t u e h = no_path p (model.LookAt looks.Digest q) (model.Write p b) refl refl e
write_untouched p b (events.List d) t u e h = calm p b (is_source d) (model.ListOf d) (model.Fail faults.BadList) refl refl e
write_untouched p b (events.Write q bs) t u e h =
    clash (touched t p) h
    (subst (λ (x : List ℕ). touched t x ≡ false) (out_write p b q bs (is_out q) (model.Fail faults.BadWrite) refl e) u)
write_untouched p b (events.Require v how) t u e h =
    calm p b (is_small_task v) (model.Require (how_of how) (enc_task v)) (model.Fail faults.Big) refl refl e
write_untouched p b (events.Done v) t u e h = no_path p (model.Fail faults.Unknown) (model.Write p b) refl refl e
write_untouched p b (events.Fail k) t u e h = no_path p (model.Fail (fault_of k)) (model.Write p b) refl refl e

untouched : (p b : List ℕ) (m : Act Val) (s : State) (o : Outcome Val × State) → Stays m s o → event_of o.0 ≡ model.Write p b → Did p o → ⊥
untouched p b m s (done v, t) k e h = calm p b (is_small v) (model.Done (enc v)) (model.Fail faults.Big) refl refl e
untouched p b m s (fails f, t) k e h = no_path p (model.Fail (fault_of f)) (model.Write p b) refl refl e
untouched p b m s (wants d, t) k e h = write_untouched p b d t k.0 e h

-- ---- tasks

act_manners : (m : Act Val) → Polite m → NeverWritesWhatItTouched (next_by m)
act_manners m polite given p b e h =
    let s : State = at_start (map answer_of given) in untouched p b m s (m s) (polite s) e (did_all m polite p [] given h)

by_function : (f : Option FunctionTree) (t : Task) → NeverWritesWhatItTouched (λ given. event_of (outcome_by f t (map answer_of given)))
by_function None t given p b e h = no_path p (model.Fail faults.Unknown) (model.Write p b) refl refl e
by_function (Some f) t given p b e h =
    act_manners (block_value f.body (bound f.params t.args [])) (block_polite f.body (bound f.params t.args [])) given p b e h

by_read : (fs : List FunctionTree) (r : Parsed Task) → NeverWritesWhatItTouched (next_if_read fs r)
by_read fs (Ok (t, [])) given p b e h = by_function (function_at fs (number_from 0 fs t)) t given p b e h
by_read fs (Ok (t, x ∷ rest)) given p b e h = no_path p (model.Fail faults.Unknown) (model.Write p b) refl refl e
by_read fs (Err f) given p b e h = no_path p (model.Fail faults.Unknown) (model.Write p b) refl refl e

touches_nothing : (fs : List FunctionTree) (t : List ℕ) → NeverWritesWhatItTouched (next fs t)
unfolding next
touches_nothing fs t given p b e h = by_read fs (task_prefix t) given p b e h

-- ---- what was looked at or written was touched

looked_touched : (p : List ℕ) (e : ModelEvent) → among p (path_looked e) ≡ true → among p (path_touched e) ≡ true
looked_touched p (model.Done v) h = h
looked_touched p (model.Fail k) h = h
looked_touched p (model.LookAt l q) h = h
looked_touched p (model.ListOf d) h = h
looked_touched p (model.Write q b) h = nowhere p h
looked_touched p (model.Require r u) h = h

written_touched : (p : List ℕ) (e : ModelEvent) → among p (path_written e) ≡ true → among p (path_touched e) ≡ true
written_touched p (model.Done v) h = h
written_touched p (model.Fail k) h = h
written_touched p (model.LookAt l q) h = nowhere p h
written_touched p (model.ListOf d) h = h
written_touched p (model.Write q b) h = h
written_touched p (model.Require r u) h = h

-- of two lists that come one after the other, each in another one
both_in : (p : List ℕ) (xs ys us vs : List (List ℕ)) → (among p xs ≡ true → among p us ≡ true) → (among p ys ≡ true → among p vs ≡ true)
    → among p (xs ++ ys) ≡ true → among p (us ++ vs) ≡ true
both_in p xs ys us vs f g h = go (among_either p xs ys h)
  where
    go : (among p xs ≡ true) ⊎ (among p ys ≡ true) → among p (us ++ vs) ≡ true
    go (inl k) = among_left p us vs (f k)
    go (inr k) = among_right p us vs (g k)

looked_all : (next : List ModelAnswer → ModelEvent) (p : List ℕ) (fed rest : List ModelAnswer) → among p (looked_paths next fed rest) ≡ true
    → among p (touched_paths next fed rest) ≡ true
looked_all next p fed [] h = h
looked_all next p fed (a ∷ rest) h =
    both_in p (path_looked (next fed)) (looked_paths next (fed ++ a ∷ []) rest) (path_touched (next fed)) (touched_paths next (fed ++ a ∷ []) rest)
    (looked_touched p (next fed)) (looked_all next p (fed ++ a ∷ []) rest) h

written_all : (next : List ModelAnswer → ModelEvent) (p : List ℕ) (fed rest : List ModelAnswer) → among p (written_paths next fed rest) ≡ true
    → among p (touched_paths next fed rest) ≡ true
written_all next p fed [] h = h
written_all next p fed (a ∷ rest) h =
    both_in p (path_written (next fed)) (written_paths next (fed ++ a ∷ []) rest) (path_touched (next fed)) (touched_paths next (fed ++ a ∷ []) rest)
    (written_touched p (next fed)) (written_all next p (fed ++ a ∷ []) rest) h

pub has_manners : (fs : List FunctionTree) (t : List ℕ) → NeverWritesWhatItSaw (next fs t)
has_manners fs t given p b e h = touches_nothing fs t given p b e (looked_all (next fs t) p [] given h)

pub writes_once : (fs : List FunctionTree) (t : List ℕ) → NeverWritesTwice (next fs t)
writes_once fs t given p b e h = touches_nothing fs t given p b e (written_all (next fs t) p [] given h)
