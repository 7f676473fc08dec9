-- What a typed task requires is typed, where what stands in the evaluations of what it required before is of the language.
use Rattle.std.proofs.Common.{◌≡◌, ℕ, zero, suc, ◌≤◌, Bool, true, false, cond, Option, Some, None, List, [], ◌∷◌, ◌++◌, map, refl, sym, ap, subst, ◌∙◌, arith}
use Rattle.std.specs.Prelude.{slice_get}
use Rattle.pie_base.specs.Path.{is_out, is_source}
use Rattle.pie_value.specs.declared.event.By.TheVariants.{Hash, Mark, Raw}
use Rattle.pie_value.specs.declared.event.Event.{Event}
use Rattle.pie_value.specs.declared.event.Event.TheVariants as events
use Rattle.pie_value.specs.declared.event.How.{How}
use Rattle.pie_value.specs.declared.task.Task.{Task}
use Rattle.pie_value.specs.Tree.{Tree as Val, items_of}
use Rattle.pie_value.specs.Types.{parts_of}
use Rattle.pie_value.specs.Limits.{is_small, is_small_task}
use Rattle.pie_value.specs.Canonical.{enc, enc_task, IsCanonicalTask}
use Rattle.pie_value.proofs.Lengths.{encodable_task_if_small}
use Rattle.pie_operators.specs.Domain.{Outcome as Gives, done, fails, wants}
use Rattle.pie_parser.specs.FunctionTrees.{FunctionTree}
use Rattle.pie_types.specs.Headings.{Heading, function_in}
use Rattle.pie_types.specs.Whole.{types_in, number_from}
use Rattle.pie_type_laws.specs.Fitting.{AnswerFits}
use Rattle.pie_type_laws.specs.NeverStuck.{AnswersFit, TaskIsTyped, IsNeverStuck, AreNeverStuck}
use Rattle.pie_files.specs.Directory.{Directory}
use Rattle.pie_model.specs.Paths.{Path, among}
use Rattle.pie_model.specs.declared.words.Answer.{Answer as ModelAnswer}
use Rattle.pie_model.specs.declared.words.Answer.TheVariants.{Entries, Wrote}
use Rattle.pie_model.specs.declared.words.Event.{Event as ModelEvent}
use Rattle.pie_model.specs.declared.words.Event.TheVariants as model
use Rattle.pie_model.specs.declared.words.FaultKind.TheVariants as faults
use Rattle.pie_model.specs.declared.words.Look.{Look}
use Rattle.pie_model.specs.declared.words.Look.TheVariants as looks_by
use Rattle.pie_model.specs.declared.words.Seen.{Seen}
use Rattle.pie_model.specs.declared.words.Seen.TheVariants.{Nothing, Holds, Clashing}
use Rattle.pie_model.specs.declared.words.Outcome.{Outcome}
use Rattle.pie_model.specs.declared.words.Outcome.TheVariants.{Ended, Failed, Cycled, Many}
use Rattle.pie_model.specs.Trees.{Node, Trace, ends, writes, needs, task_of, trace_of, outcome_of, is_plain, required_by}
use Rattle.pie_model.specs.Seen.{visible_at}
use Rattle.pie_model.specs.Evaluation.{Progress, start, answered, wrote, required, absent_answer, present_answer, output_answer, listing}
use Rattle.pie_model.specs.Evaluation.{on_seen, on_listing, on_outcome, on_event, follow, evaluation_with, evaluation}
use Rattle.pie_model.proofs.Basics.{among_here, among_there}
use Rattle.pie_model.proofs.Rooms.{alone, evaluation_room}
use Rattle.pie_model_pipeline.specs.Words.{fault_of, how_of, event_of, effect_of}
use Rattle.pie_model_pipeline.specs.Answers.{answer_of}
use Rattle.pie_model_pipeline.specs.World.{world, next, project}
use Rattle.pie_entering_laws.proofs.Alike.{kinds_stay, tasks_alike}
use Rattle.pie_entering_laws.proofs.Answering.{none_fit, paths_fit}
use Rattle.pie_entering_laws.proofs.Following.{AllSpoken, IsWell, answer_fits, evaluates_well, gives_next, more, next_is, task_stays, Fit}

-- ---- lists of what is required

nothing_there : (front back : List (List ℕ)) (x : List ℕ) → [] ≡ front ++ x ∷ back → ⊥
nothing_there [] back x h = cc
nothing_there (y ∷ front) back x h = cc

first_of : (x y : List ℕ) (xs ys : List (List ℕ)) → ◌≡◌ {A = List (List ℕ)} (x ∷ xs) (y ∷ ys) → x ≡ y
first_of x y xs ys h = cc

rest_of : (x y : List ℕ) (xs ys : List (List ℕ)) → ◌≡◌ {A = List (List ℕ)} (x ∷ xs) (y ∷ ys) → xs ≡ ys
rest_of x y xs ys h = cc

-- ---- a task that goes on

module _ (fs : List FunctionTree) (hs : List Heading) (d : Directory) (t : Task) (c : IsCanonicalTask t (enc_task t)) (f : FunctionTree) (h : Heading)
    (number : ℕ) (numbered : number_from 0 fs t ≡ Some number) (at : slice_get fs number ≡ Some f) (name : function_in t.func hs ≡ Some h)
    (stuck : IsNeverStuck hs f h.result t.args) (child : List ℕ → Node)
    (kids : (u : Task) → IsCanonicalTask u (enc_task u) → TaskIsTyped hs u → AllSpoken (child (enc_task u)) → IsWell hs u.func (child (enc_task u)))
    (named : (x : List ℕ) → task_of (child x) ≡ x) (v : Task) (canonical : IsCanonicalTask v (enc_task v)) where
  -- what the function gives after these answers, and the answers so far fit
  abbrev Gave : Progress → Gives Val
  Gave g = gives_next fs hs d t c f h number numbered at name stuck child kids named g.answers

  abbrev Fits : Progress → Type 0
  Fits g = Fit fs hs d t c f h number numbered at name stuck child kids named g

  -- all that stands in the evaluations of these is of the language, as far as they have ended
  abbrev AreSpoken : List (List ℕ) → Type 0
  AreSpoken xs = (x : List ℕ) → among x xs ≡ true → is_plain (outcome_of (child x)) ≡ true → AllSpoken (child x)

  -- where the task is required from here on behind such ones, it is typed
  abbrev TypedIn : Trace → Type 0
  TypedIn k = (front back : List (List ℕ)) → required_by k ≡ front ++ enc_task v ∷ back → AreSpoken front → TaskIsTyped hs v

  ends_typed : (e : Outcome) → TypedIn (ends e)
  ends_typed e front back is spoken = absurd (nothing_there front back (enc_task v) is)

  module _ (go : Progress → Trace) (goes : (g : Progress) → Fits g → TypedIn (go g)) (g : Progress) (fit : Fits g) where
    more_fits : (e : Event) (a : ModelAnswer) → Gave g ≡ wants e → AnswerFits hs e (answer_of a)
        → AnswersFit hs f t.args (map answer_of (g.answers ++ a ∷ []))
    more_fits e a asks fits = more fs hs d t c f h number numbered at name stuck child kids named g fit e a asks fits

    look_typed : (e : Event) (l : Look) (p : Path) (s : Seen) → Gave g ≡ wants e → AnswerFits hs e (answer_of (absent_answer l))
        → ((b : List ℕ) → AnswerFits hs e (answer_of (present_answer world b l))) → TypedIn (on_seen world (enc_task t) l p g go s)
    look_typed e l p Nothing asks absent present front back is spoken =
        goes (answered g (absent_answer l)) (more_fits e (absent_answer l) asks absent) front back is spoken
    look_typed e l p (Holds b m) asks absent present front back is spoken =
        goes (answered g (present_answer world b l)) (more_fits e (present_answer world b l) asks (present b)) front back is spoken
    look_typed e l p Clashing asks absent present front back is spoken = absurd (nothing_there front back (enc_task v) is)

    list_typed : (p : Path) (es : Option (List Path)) → Gave g ≡ wants (events.List p) → TypedIn (on_listing (enc_task t) p g go es)
    list_typed p None asks front back is spoken = absurd (nothing_there front back (enc_task v) is)
    list_typed p (Some es) asks front back is spoken =
        goes (answered g (Entries es)) (more_fits (events.List p) (Entries es) asks (paths_fit es)) front back is spoken

    write_typed : (p b : List ℕ) → Gave g ≡ wants (events.Write p b) → TypedIn (writes p b (go (wrote g p b)))
    write_typed p b asks front back is spoken = goes (wrote g p b) (more_fits (events.Write p b) Wrote asks tt) front back is spoken

    -- a required task
    module _ (u : Task) (how : How) (asks : Gave g ≡ wants (events.Require u how)) (small : is_small_task u ≡ true) where
      -- it is the one
      it_typed : enc_task u ≡ enc_task v → TaskIsTyped hs v
      it_typed same =
          let like = tasks_alike u v (encodable_task_if_small u small) canonical.encodable same in
          let r = (stuck (map answer_of g.answers) fit).required u how asks in
          (r.0, ap (λ (n : List ℕ). function_in n hs) (sym like.0) ∙ r.1, kinds_stay (parts_of (types_in r.0.params)) (items_of u.args) (items_of v.args) like.1 r.2)

      -- it was required before, and gave a value
      later_typed : (o : Outcome) → outcome_of (child (enc_task u)) ≡ o → (front back : List (List ℕ))
          → required_by (on_outcome (how_of how) g (child (enc_task u)) go o) ≡ front ++ enc_task v ∷ back → AreSpoken (enc_task u ∷ front) → TaskIsTyped hs v
      later_typed (Ended b) e front back is spoken =
          goes (required g (child (enc_task u)) (output_answer b (how_of how)))
          (more_fits (events.Require u how) (output_answer b (how_of how)) asks
          (answer_fits fs hs d t c f h number numbered at name stuck child kids named g fit u how asks small
          (spoken (enc_task u) (among_here (enc_task u) front) (ap is_plain e)) how b e)) front back is
          (λ x i. spoken x (among_there x (enc_task u) front i))
      later_typed (Failed x k) e front back is spoken = absurd (nothing_there front back (enc_task v) is)
      later_typed (Cycled ts) e front back is spoken = absurd (nothing_there front back (enc_task v) is)
      later_typed Many e front back is spoken = absurd (nothing_there front back (enc_task v) is)

      need_typed : TypedIn (needs (how_of how) (enc_task u) (child (enc_task u))
          (on_outcome (how_of how) g (child (enc_task u)) go (outcome_of (child (enc_task u)))))
      need_typed [] back is spoken = it_typed (first_of (enc_task u) (enc_task v) _ back is)
      need_typed (x ∷ front) back is spoken =
          later_typed (outcome_of (child (enc_task u))) refl front back (rest_of (enc_task u) x _ (front ++ enc_task v ∷ back) is)
          (subst (λ (y : List ℕ). AreSpoken (y ∷ front)) (sym (first_of (enc_task u) x _ (front ++ enc_task v ∷ back) is)) spoken)

    -- what the task does for an event
    abbrev after : ModelEvent → Trace
    after e = on_event world (project fs d) child (enc_task t) g go e

    either_typed : (b : Bool) (x y : ModelEvent) → (b ≡ true → TypedIn (after x)) → TypedIn (after y) → TypedIn (after (cond b x y))
    either_typed true x y p q = p refl
    either_typed false x y p q = q

    effect_typed : (e : Event) → Gave g ≡ wants e → TypedIn (after (effect_of e))
    effect_typed (events.Exists p) asks =
        look_typed (events.Exists p) looks_by.Exists p (visible_at (project fs d).file g.own g.kids p) asks tt (λ b. tt)
    effect_typed (events.Read p Hash) asks =
        look_typed (events.Read p Hash) looks_by.ByHash p (visible_at (project fs d).file g.own g.kids p) asks tt (λ b. tt)
    effect_typed (events.Read p Mark) asks =
        look_typed (events.Read p Mark) looks_by.ByMark p (visible_at (project fs d).file g.own g.kids p) asks tt (λ b. tt)
    effect_typed (events.Read p Raw) asks =
        look_typed (events.Read p Raw) looks_by.ByHash p (visible_at (project fs d).file g.own g.kids p) asks tt (λ b. tt)
    effect_typed (events.Digest p) asks =
        look_typed (events.Digest p) looks_by.Digest p (visible_at (project fs d).file g.own g.kids p) asks tt (λ b. tt)
    effect_typed (events.List p) asks =
        either_typed (is_source p) (model.ListOf p) (model.Fail faults.BadList) (λ b. list_typed p (listing world (project fs d) p) asks)
        (ends_typed (Failed (enc_task t) faults.BadList))
    effect_typed (events.Write p bytes) asks =
        either_typed (is_out p) (model.Write p bytes) (model.Fail faults.BadWrite) (λ b. write_typed p bytes asks)
        (ends_typed (Failed (enc_task t) faults.BadWrite))
    effect_typed (events.Require u how) asks =
        either_typed (is_small_task u) (model.Require (how_of how) (enc_task u)) (model.Fail faults.Big) (λ small. need_typed u how asks small)
        (ends_typed (Failed (enc_task t) faults.Big))
    effect_typed (events.Done w) asks = ends_typed (Failed (enc_task t) faults.Unknown)
    effect_typed (events.Fail k) asks = ends_typed (Failed (enc_task t) (fault_of k))

    gives_typed : (o : Gives Val) → Gave g ≡ o → TypedIn (after (event_of o))
    gives_typed (done w) gave =
        either_typed (is_small w) (model.Done (enc w)) (model.Fail faults.Big) (λ small. ends_typed (Ended (enc w))) (ends_typed (Failed (enc_task t) faults.Big))
    gives_typed (fails k) gave = ends_typed (Failed (enc_task t) (fault_of k))
    gives_typed (wants e) gave = effect_typed e gave

    step_typed : TypedIn (after (next fs (enc_task t) g.answers))
    step_typed =
        subst (λ (e : ModelEvent). TypedIn (after e))
        (sym (next_is fs hs d t c f h number numbered at name stuck child kids named g.answers)) (gives_typed (Gave g) refl)

  follow_typed : (n : ℕ) (g : Progress) → Fits g → TypedIn (follow world (project fs d) child (enc_task t) n g)
  follow_typed zero g fit = ends_typed (Failed (enc_task t) faults.Budget)
  follow_typed (suc n) g fit = step_typed (follow world (project fs d) child (enc_task t) n) (λ k. follow_typed n k) g fit

-- ---- an evaluation

module _ (fs : List FunctionTree) (hs : List Heading) (never : AreNeverStuck fs hs) (d : Directory) (t v : Task) (c : IsCanonicalTask t (enc_task t))
    (canonical : IsCanonicalTask v (enc_task v)) (number : ℕ) (numbered : number_from 0 fs t ≡ Some number) where
  -- in an evaluation with so much room
  typed_with : (n : ℕ) → n ≤ world.most_tasks → (front back : List (List ℕ))
      → required_by (trace_of (evaluation_with n world (project fs d) [] (enc_task t))) ≡ front ++ enc_task v ∷ back
      → ((x : List ℕ) → among x front ≡ true → AllSpoken (evaluation world (project fs d) x)) → TaskIsTyped hs v
  typed_with zero room front back is spoken = absurd (nothing_there front back (enc_task v) is)
  typed_with (suc n) room front back is spoken =
      let r = never.runs t number numbered in
      follow_typed fs hs d t c r.0 r.1 number numbered r.2 r.3 r.4 (evaluation_with n world (project fs d) (enc_task t ∷ []))
      (λ u k is_typed all. evaluates_well fs hs never d n (enc_task t ∷ []) u k is_typed all) (λ x. task_stays n (project fs d) (enc_task t ∷ []) x) v canonical
      world.most_events start (none_fit hs r.0 t.args) front back is
      (λ x i plain. subst AllSpoken (alone n world (project fs d) (enc_task t ∷ []) x (less n world.most_tasks room) plain) (spoken x i))
    where
      less : (a b : ℕ) → suc a ≤ b → a ≤ b
      less a b l = omega (arith, l)

  pub required_typed : (front back : List (List ℕ)) → required_by (trace_of (evaluation world (project fs d) (enc_task t))) ≡ front ++ enc_task v ∷ back
      → ((x : List ℕ) → among x front ≡ true → AllSpoken (evaluation world (project fs d) x)) → TaskIsTyped hs v
  required_typed front back is spoken =
      typed_with world.most_tasks (same world.most_tasks) front back
      (ap (λ (m : Node). required_by (trace_of m)) (sym (evaluation_room world (project fs d) (enc_task t))) ∙ is) spoken
    where
      same : (a : ℕ) → a ≤ a
      same a = omega arith
