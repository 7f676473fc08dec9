-- What stands in the evaluation of a typed task, where all that stands there is of the language, is typed.
use Rattle.std.proofs.Common.{◌≡◌, ◌⊎◌, inl, inr, ℕ, zero, suc, Bool, true, false, cond, Option, Some, None, List, [], ◌∷◌, ◌++◌, map, refl, sym, ap, subst, ◌∙◌}
use Rattle.std.specs.Prelude.{slice_get}
use Rattle.pie_base.specs.Path.{is_out, is_source}
use Rattle.pie_value.specs.declared.event.By.TheVariants.{Hash, Mark, Raw}
use Rattle.pie_value.specs.declared.event.Event.{Event}
use Rattle.pie_value.specs.declared.event.Event.TheVariants as events
use Rattle.pie_value.specs.declared.event.How.{How}
use Rattle.pie_value.specs.declared.event.How.TheVariants.{Whole, Hashed, Ran}
use Rattle.pie_value.specs.declared.task.Task.{Task}
use Rattle.pie_value.specs.declared.value.Value.{Value}
use Rattle.pie_value.specs.Tree.{Tree as Val, items_of}
use Rattle.pie_value.specs.Values.{tree_of}
use Rattle.pie_value.specs.Types.{parts_of}
use Rattle.pie_value.specs.Limits.{is_small, is_small_task}
use Rattle.pie_value.specs.Canonical.{enc, enc_task, IsCanonical, IsCanonicalTask}
use Rattle.pie_value.proofs.Lengths.{encodable_if_small, encodable_task_if_small}
use Rattle.pie_operators.specs.Domain.{Outcome as Gives, done, fails, wants}
use Rattle.pie_parser.specs.FunctionTrees.{FunctionTree}
use Rattle.pie_types.specs.Headings.{Heading, function_in}
use Rattle.pie_types.specs.Whole.{types_in, number_from}
use Rattle.pie_semantics.specs.Meaning.{next_of}
use Rattle.pie_type_laws.specs.Fitting.{AnswerFits, OutputFits}
use Rattle.pie_type_laws.specs.NeverStuck.{TaskIsTyped, AnswersFit, IsNeverStuck, AreNeverStuck}
use Rattle.pie_files.specs.Directory.{Directory}
use Rattle.pie_model.specs.Paths.{Path, among}
use Rattle.pie_model.specs.declared.words.Answer.{Answer as ModelAnswer}
use Rattle.pie_model.specs.declared.words.Answer.TheVariants.{Entries, Wrote}
use Rattle.pie_model.specs.declared.words.Event.{Event as ModelEvent}
use Rattle.pie_model.specs.declared.words.Event.TheVariants as model
use Rattle.pie_model.specs.declared.words.FaultKind.TheVariants as faults
use Rattle.pie_model.specs.declared.words.Look.{Look}
use Rattle.pie_model.specs.declared.words.Look.TheVariants as looks_by
use Rattle.pie_model.specs.declared.words.Seen.{Seen}
use Rattle.pie_model.specs.declared.words.Seen.TheVariants.{Nothing, Holds, Clashing}
use Rattle.pie_model.specs.declared.words.Outcome.{Outcome}
use Rattle.pie_model.specs.declared.words.Outcome.TheVariants.{Ended, Failed, Cycled, Many}
use Rattle.pie_model.specs.Trees.{Node, node, Trace, ends, writes, needs}
use Rattle.pie_model.specs.Trees.{task_of, end_of, outcome_of, is_done, StandsIn, StandsBelow}
use Rattle.pie_model.specs.Seen.{visible_at}
use Rattle.pie_model.specs.Evaluation.{Project, Progress, start, answered, wrote, required, absent_answer, present_answer, output_answer, listing}
use Rattle.pie_model.specs.Evaluation.{on_seen, on_listing, on_outcome, on_event, follow, round, evaluation_with}
use Rattle.pie_model.proofs.Ways.{stands_itself}
use Rattle.pie_model_pipeline.specs.Words.{fault_of, how_of, event_of, effect_of}
use Rattle.pie_model_pipeline.specs.Answers.{value_with, answer_of}
use Rattle.pie_model_pipeline.specs.World.{world, function_at, outcome_by, next, project}
use Rattle.pie_model_pipeline.proofs.Joining.{means_itself, values_told}
use Rattle.pie_entering_laws.proofs.Alike.{kind_stays, kinds_stay, values_alike, tasks_alike}
use Rattle.pie_entering_laws.proofs.Answering.{none_fit, more_fit, paths_fit}

-- ---- what is said of evaluations

-- an evaluation is of a task of the language, and a value that it ends with is one of the language
pub record IsSpokenNode (m : Node) : Type 0 where
  pub task : Task
  pub canonical : IsCanonicalTask task (task_of m)
  pub gives : (b : List ℕ) → outcome_of m ≡ Ended b → (v : Value) × IsCanonical (tree_of v) b

-- so it is with all that stand in an evaluation, or from here on
abbrev pub AllSpoken : Node → Type 0
AllSpoken n = (m : Node) → StandsIn m n → IsSpokenNode m

abbrev pub SpokenBelow : Trace → Type 0
SpokenBelow k = (m : Node) → StandsBelow m k → IsSpokenNode m

-- bytes are those of a typed task of the language
pub record IsTypedAs (hs : List Heading) (x : List ℕ) : Type 0 where
  pub task : Task
  pub canonical : IsCanonicalTask task x
  pub typed : TaskIsTyped hs task

-- a value of the language that is an outcome has the type that the function of this name answers
abbrev pub Fits : List Heading → List ℕ → Outcome → Type 0
Fits hs name e = (b : List ℕ) (v : Value) → e ≡ Ended b → IsCanonical (tree_of v) b → OutputFits (function_in name hs) (tree_of v)

-- all that stands in an evaluation is typed, and it ends well
pub record IsWell (hs : List Heading) (name : List ℕ) (n : Node) : Type 0 where
  pub typed : (m : Node) → StandsIn m n → IsTypedAs hs (task_of m)
  pub fits : Fits hs name (outcome_of n)

-- so it is from here on
pub record GoesWell (hs : List Heading) (name : List ℕ) (k : Trace) : Type 0 where
  pub typed : (m : Node) → StandsBelow m k → IsTypedAs hs (task_of m)
  pub fits : Fits hs name (end_of k)

no_value : (hs : List Heading) (name : List ℕ) (e : Outcome) → is_done e ≡ false → Fits hs name e
no_value hs name (Ended w) h b v e c = absurd (cc)
no_value hs name (Failed t k) h b v e c = absurd (cc)
no_value hs name (Cycled ts) h b v e c = absurd (cc)
no_value hs name Many h b v e c = absurd (cc)

-- the end of a task without a value
ends_well : (hs : List Heading) (name : List ℕ) (e : Outcome) → is_done e ≡ false → GoesWell hs name (ends e)
ends_well hs name e h = record { typed = λ m s. absurd s; fits = no_value hs name e h }

-- ---- a task that goes on

module _ (fs : List FunctionTree) (hs : List Heading) (d : Directory) (t : Task) (c : IsCanonicalTask t (enc_task t)) (f : FunctionTree) (h : Heading)
    (number : ℕ) (numbered : number_from 0 fs t ≡ Some number) (at : slice_get fs number ≡ Some f) (name : function_in t.func hs ≡ Some h)
    (stuck : IsNeverStuck hs f h.result t.args) (child : List ℕ → Node)
    (kids : (u : Task) → IsCanonicalTask u (enc_task u) → TaskIsTyped hs u → AllSpoken (child (enc_task u)) → IsWell hs u.func (child (enc_task u)))
    (named : (x : List ℕ) → task_of (child x) ≡ x) where
  -- what the function gives after these answers
  abbrev pub gives_next : List ModelAnswer → Gives Val
  gives_next given = (next_of f t.args (map answer_of given)).0

  pub next_is : (given : List ModelAnswer) → next fs (enc_task t) given ≡ event_of (gives_next given)
  next_is given =
      means_itself fs t c given ∙ ap (λ (o : Option FunctionTree). event_of (outcome_by o t (map answer_of given))) (ap (function_at fs) numbered ∙ at)

  -- the answers so far fit
  abbrev pub Fit : Progress → Type 0
  Fit g = AnswersFit hs f t.args (map answer_of g.answers)

  module _ (g : Progress) (fit : Fit g) where
    -- one answer more
    pub more : (e : Event) (a : ModelAnswer) → gives_next g.answers ≡ wants e → AnswerFits hs e (answer_of a)
        → AnswersFit hs f t.args (map answer_of (g.answers ++ a ∷ []))
    more e a asks fits = more_fit hs f t.args g.answers e a asks fits fit

    -- a required task
    module _ (u : Task) (how : How) (asks : gives_next g.answers ≡ wants (events.Require u how)) (small : is_small_task u ≡ true)
        (spoken : AllSpoken (child (enc_task u))) where
      its : IsSpokenNode (child (enc_task u))
      its = spoken (child (enc_task u)) (stands_itself (child (enc_task u)))

      its_bytes : IsCanonicalTask its.task (enc_task u)
      its_bytes = subst (IsCanonicalTask its.task) (named (enc_task u)) its.canonical

      same : enc_task u ≡ enc_task its.task
      same = its_bytes.bytes

      its_typed : (u.func ≡ its.task.func) × TaskIsTyped hs its.task
      its_typed =
          let like = tasks_alike u its.task (encodable_task_if_small u small) its_bytes.encodable same in
          let r = (stuck (map answer_of g.answers) fit).required u how asks in (
            like.0,
            (r.0, ap (λ (n : List ℕ). function_in n hs) (sym like.0) ∙ r.1, kinds_stay (parts_of (types_in r.0.params)) (items_of u.args) (items_of its.task.args) like.1 r.2),
          )

      its_well : IsWell hs its.task.func (child (enc_task u))
      its_well =
          subst (λ (y : List ℕ). IsWell hs its.task.func (child y)) (sym same)
          (kids its.task (subst (IsCanonicalTask its.task) same its_bytes) its_typed.1 (subst (λ (y : List ℕ). AllSpoken (child y)) same spoken))

      -- the value of a required task fits as an answer
      value_fits : (b : List ℕ) → outcome_of (child (enc_task u)) ≡ Ended b → OutputFits (function_in u.func hs) (tree_of (value_with b))
      value_fits b e =
          let v = its.gives b e in
          let told : value_with b ≡ v.0 = ap value_with v.1.bytes ∙ values_told v.0 (subst (IsCanonical (tree_of v.0)) v.1.bytes v.1) in
          subst (λ (n : List ℕ). OutputFits (function_in n hs) (tree_of (value_with b))) (sym its_typed.0)
          (subst (λ (z : Value). OutputFits (function_in its.task.func hs) (tree_of z)) (sym told) (its_well.fits b v.0 e v.1))

      pub answer_fits : (k : How) (b : List ℕ) → outcome_of (child (enc_task u)) ≡ Ended b
          → AnswerFits hs (events.Require u k) (answer_of (output_answer b (how_of k)))
      answer_fits Whole b e = value_fits b e
      answer_fits Hashed b e = value_fits b e
      answer_fits Ran b e = tt

  module _ (go : Progress → Trace) (goes : (g : Progress) → Fit g → SpokenBelow (go g) → GoesWell hs t.func (go g)) (g : Progress) (fit : Fit g) where
    look_well : (e : Event) (l : Look) (p : Path) (s : Seen) → gives_next g.answers ≡ wants e → AnswerFits hs e (answer_of (absent_answer l))
        → ((b : List ℕ) → AnswerFits hs e (answer_of (present_answer world b l))) → SpokenBelow (on_seen world (enc_task t) l p g go s)
        → GoesWell hs t.func (on_seen world (enc_task t) l p g go s)
    look_well e l p Nothing asks absent present spoken =
        let w = goes (answered g (absent_answer l)) (more g fit e (absent_answer l) asks absent) spoken in record { typed = w.typed; fits = w.fits }
    look_well e l p (Holds b m) asks absent present spoken =
        let w = goes (answered g (present_answer world b l)) (more g fit e (present_answer world b l) asks (present b)) spoken in
        record { typed = w.typed; fits = w.fits }
    look_well e l p Clashing asks absent present spoken =
        let w = ends_well hs t.func (Failed (enc_task t) faults.Clash) refl in record { typed = w.typed; fits = w.fits }

    list_well : (p : Path) (es : Option (List Path)) → gives_next g.answers ≡ wants (events.List p) → SpokenBelow (on_listing (enc_task t) p g go es)
        → GoesWell hs t.func (on_listing (enc_task t) p g go es)
    list_well p None asks spoken =
        let w = ends_well hs t.func (Failed (enc_task t) faults.Big) refl in record { typed = w.typed; fits = w.fits }
    list_well p (Some es) asks spoken =
        let w = goes (answered g (Entries es)) (more g fit (events.List p) (Entries es) asks (paths_fit es)) spoken in record { typed = w.typed; fits = w.fits }

    write_well : (p b : List ℕ) → gives_next g.answers ≡ wants (events.Write p b) → SpokenBelow (writes p b (go (wrote g p b)))
        → GoesWell hs t.func (writes p b (go (wrote g p b)))
    write_well p b asks spoken =
        let w = goes (wrote g p b) (more g fit (events.Write p b) Wrote asks tt) spoken in record { typed = w.typed; fits = w.fits }

    -- what follows a required task
    module _ (u : Task) (how : How) (asks : gives_next g.answers ≡ wants (events.Require u how)) (small : is_small_task u ≡ true)
        (spoken : AllSpoken (child (enc_task u))) where
      rest_well : (o : Outcome) → outcome_of (child (enc_task u)) ≡ o → SpokenBelow (on_outcome (how_of how) g (child (enc_task u)) go o)
          → GoesWell hs t.func (on_outcome (how_of how) g (child (enc_task u)) go o)
      rest_well (Ended b) e below =
          goes (required g (child (enc_task u)) (output_answer b (how_of how)))
          (more g fit (events.Require u how) (output_answer b (how_of how)) asks (answer_fits g fit u how asks small spoken how b e)) below
      rest_well (Failed x k) e below = ends_well hs t.func (Failed x k) refl
      rest_well (Cycled ts) e below = ends_well hs t.func (Cycled ts) refl
      rest_well Many e below = ends_well hs t.func Many refl

      need_well : SpokenBelow (on_outcome (how_of how) g (child (enc_task u)) go (outcome_of (child (enc_task u))))
          → GoesWell hs t.func (needs (how_of how) (enc_task u) (child (enc_task u)) (on_outcome (how_of how) g (child (enc_task u)) go (outcome_of (child (enc_task u)))))
      need_well below =
          let w = rest_well (outcome_of (child (enc_task u))) refl below in record { typed = λ m s. by w m s; fits = w.fits }
        where
          by : GoesWell hs t.func (on_outcome (how_of how) g (child (enc_task u)) go (outcome_of (child (enc_task u)))) → (m : Node)
              → StandsIn m (child (enc_task u)) ⊎ StandsBelow m (on_outcome (how_of how) g (child (enc_task u)) go (outcome_of (child (enc_task u))))
              → IsTypedAs hs (task_of m)
          by w m (inl s) = (its_well g fit u how asks small spoken).typed m s
          by w m (inr s) = w.typed m s

    -- what the task does for an event
    abbrev after : ModelEvent → Trace
    after e = on_event world (project fs d) child (enc_task t) g go e

    either_well : (b : Bool) (x y : ModelEvent) → (b ≡ true → SpokenBelow (after x) → GoesWell hs t.func (after x))
        → (SpokenBelow (after y) → GoesWell hs t.func (after y)) → SpokenBelow (after (cond b x y)) → GoesWell hs t.func (after (cond b x y))
    either_well true x y p q spoken = p refl spoken
    either_well false x y p q spoken = q spoken

    effect_well : (e : Event) → gives_next g.answers ≡ wants e → SpokenBelow (after (effect_of e)) → GoesWell hs t.func (after (effect_of e))
    effect_well (events.Exists p) asks spoken =
        look_well (events.Exists p) looks_by.Exists p (visible_at (project fs d).file g.own g.kids p) asks tt (λ b. tt) spoken
    effect_well (events.Read p Hash) asks spoken =
        look_well (events.Read p Hash) looks_by.ByHash p (visible_at (project fs d).file g.own g.kids p) asks tt (λ b. tt) spoken
    effect_well (events.Read p Mark) asks spoken =
        look_well (events.Read p Mark) looks_by.ByMark p (visible_at (project fs d).file g.own g.kids p) asks tt (λ b. tt) spoken
    effect_well (events.Read p Raw) asks spoken =
        look_well (events.Read p Raw) looks_by.ByHash p (visible_at (project fs d).file g.own g.kids p) asks tt (λ b. tt) spoken
    effect_well (events.Digest p) asks spoken =
        look_well (events.Digest p) looks_by.Digest p (visible_at (project fs d).file g.own g.kids p) asks tt (λ b. tt) spoken
    effect_well (events.List p) asks spoken =
        either_well (is_source p) (model.ListOf p) (model.Fail faults.BadList) (λ b. list_well p (listing world (project fs d) p) asks)
        (λ s. ends_well hs t.func (Failed (enc_task t) faults.BadList) refl) spoken
    effect_well (events.Write p bytes) asks spoken =
        either_well (is_out p) (model.Write p bytes) (model.Fail faults.BadWrite) (λ b. write_well p bytes asks)
        (λ s. ends_well hs t.func (Failed (enc_task t) faults.BadWrite) refl) spoken
    effect_well (events.Require u how) asks spoken =
        either_well (is_small_task u) (model.Require (how_of how) (enc_task u)) (model.Fail faults.Big)
        (λ small below. need_well u how asks small (λ m s. below m (inl s)) (λ m s. below m (inr s)))
        (λ s. ends_well hs t.func (Failed (enc_task t) faults.Big) refl) spoken
    effect_well (events.Done v) asks spoken = ends_well hs t.func (Failed (enc_task t) faults.Unknown) refl
    effect_well (events.Fail k) asks spoken = ends_well hs t.func (Failed (enc_task t) (fault_of k)) refl

    -- a value of the task's function
    value_well : (v : Val) → gives_next g.answers ≡ done v → is_small v ≡ true → Fits hs t.func (Ended (enc v))
    value_well v gave small b w e canon =
        let bytes : enc v ≡ enc (tree_of w) = ended_same (enc v) b e ∙ canon.bytes in
        let like = values_alike v (tree_of w) (encodable_if_small v small).short canon.encodable.short bytes in
        subst (λ (o : Option Heading). OutputFits o (tree_of w)) (sym name)
        (kind_stays h.result v (tree_of w) like ((stuck (map answer_of g.answers) fit).result v gave))
      where
        ended_same : (x y : List ℕ) → Ended x ≡ Ended y → x ≡ y
        ended_same x y i = cc

    gives_well : (o : Gives Val) → gives_next g.answers ≡ o → SpokenBelow (after (event_of o)) → GoesWell hs t.func (after (event_of o))
    gives_well (done v) gave spoken =
        either_well (is_small v) (model.Done (enc v)) (model.Fail faults.Big)
        (λ small s. record { typed = λ m x. absurd x; fits = value_well v gave small }) (λ s. ends_well hs t.func (Failed (enc_task t) faults.Big) refl) spoken
    gives_well (fails k) gave spoken = ends_well hs t.func (Failed (enc_task t) (fault_of k)) refl
    gives_well (wants e) gave spoken = effect_well e gave spoken

    step_well : SpokenBelow (after (next fs (enc_task t) g.answers)) → GoesWell hs t.func (after (next fs (enc_task t) g.answers))
    step_well spoken =
        subst (λ (e : ModelEvent). GoesWell hs t.func (after e)) (sym (next_is g.answers))
        (gives_well (gives_next g.answers) refl (subst (λ (e : ModelEvent). SpokenBelow (after e)) (next_is g.answers) spoken))

  follow_well : (n : ℕ) (g : Progress) → Fit g → SpokenBelow (follow world (project fs d) child (enc_task t) n g)
      → GoesWell hs t.func (follow world (project fs d) child (enc_task t) n g)
  follow_well zero g fit spoken = ends_well hs t.func (Failed (enc_task t) faults.Budget) refl
  follow_well (suc n) g fit spoken = step_well (follow world (project fs d) child (enc_task t) n) (λ k. follow_well n k) g fit spoken

-- ---- an evaluation

-- with its own task
with_task : (hs : List Heading) (t : Task) (k : Trace) → IsCanonicalTask t (enc_task t) → TaskIsTyped hs t → GoesWell hs t.func k
    → IsWell hs t.func (node (enc_task t) k)
with_task hs t k c typed w = record { typed = by; fits = w.fits }
  where
    by : (m : Node) → (m ≡ node (enc_task t) k) ⊎ StandsBelow m k → IsTypedAs hs (task_of m)
    by m (inl e) = subst (IsTypedAs hs) (sym (ap task_of e)) (record { task = t; canonical = c; typed = typed })
    by m (inr s) = w.typed m s

pub task_stays : (n : ℕ) (P : Project) (above : List (List ℕ)) (x : List ℕ) → task_of (evaluation_with n world P above x) ≡ x
task_stays zero P above x = refl
task_stays (suc n) P above x = refl

no_round : (b : Bool) (x : List ℕ) (above : List (List ℕ)) → is_done (cond b (Cycled (round x above [])) Many) ≡ false
no_round true x above = refl
no_round false x above = refl

pub evaluates_well : (fs : List FunctionTree) (hs : List Heading) → AreNeverStuck fs hs → (d : Directory) (n : ℕ) (above : List (List ℕ)) (t : Task)
    → IsCanonicalTask t (enc_task t) → TaskIsTyped hs t → AllSpoken (evaluation_with n world (project fs d) above (enc_task t))
    → IsWell hs t.func (evaluation_with n world (project fs d) above (enc_task t))
evaluates_well fs hs never d zero above t c typed spoken =
    with_task hs t (ends (cond (among (enc_task t) above) (Cycled (round (enc_task t) above [])) Many)) c typed
    (ends_well hs t.func (cond (among (enc_task t) above) (Cycled (round (enc_task t) above [])) Many) (no_round (among (enc_task t) above) (enc_task t) above))
evaluates_well fs hs never d (suc n) above t c typed spoken =
    with_task hs t
    (cond (among (enc_task t) above) (ends (Cycled (round (enc_task t) above [])))
    (follow world (project fs d) (evaluation_with n world (project fs d) (enc_task t ∷ above)) (enc_task t) world.most_events start))
    c typed
    (by (among (enc_task t) above) (λ u k is all. evaluates_well fs hs never d n (enc_task t ∷ above) u k is all) (λ m s. spoken m (inr s)))
  where
    its : (i : ℕ) × (number_from 0 fs t ≡ Some i)
    its = (never.found t).0 typed

    child : List ℕ → Node
    child = evaluation_with n world (project fs d) (enc_task t ∷ above)

    by : (b : Bool)
        → ((u : Task) → IsCanonicalTask u (enc_task u) → TaskIsTyped hs u → AllSpoken (child (enc_task u)) → IsWell hs u.func (child (enc_task u)))
        → SpokenBelow (cond b (ends (Cycled (round (enc_task t) above []))) (follow world (project fs d) child (enc_task t) world.most_events start))
        → GoesWell hs t.func (cond b (ends (Cycled (round (enc_task t) above []))) (follow world (project fs d) child (enc_task t) world.most_events start))
    by true kids below = ends_well hs t.func (Cycled (round (enc_task t) above [])) refl
    by false kids below =
        let r = never.runs t its.0 its.1 in
        follow_well fs hs d t c r.0 r.1 its.0 its.1 r.2 r.3 r.4 child kids (λ x. task_stays n (project fs d) (enc_task t ∷ above) x) world.most_events start
        (none_fit hs r.0 t.args) below
