-- Required tasks and roots of a typed pipeline have functions.
use Rattle.std.proofs.Common.{◌≡◌, ◌⊎◌, inl, inr, ℕ, true, List, [], ◌∷◌, ◌++◌, map, refl, subst}
use Rattle.std.specs.Prelude.{All}
use Rattle.std.proofs.lemmas.List.Elements.{All-head, All-tail}
use Rattle.pie_value.specs.declared.task.Task.{Task}
use Rattle.pie_value.specs.Canonical.{enc_task, IsCanonicalTask}
use Rattle.pie_parser.specs.FunctionTrees.{FunctionTree}
use Rattle.pie_types.specs.Headings.{Heading}
use Rattle.pie_types.specs.inner.WholeRules.{IsTyped, typed}
use Rattle.pie_type_laws.specs.NeverStuck.{TaskIsTyped, AreNeverStuck}
use Rattle.pie_type_laws.proofs.Whole.{never_stuck}
use Rattle.pie_files.specs.Directory.{Directory}
use Rattle.pie_model.specs.Paths.{among}
use Rattle.pie_model.specs.Trees.{task_of, trace_of, required_by}
use Rattle.pie_model.specs.Evaluation.{evaluation}
use Rattle.pie_model.proofs.Basics.{clash, among_split}
use Rattle.pie_model.proofs.Rooms.{has_task}
use Rattle.pie_model_pipeline.specs.World.{world, project}
use Rattle.pie_entering_laws.specs.inner.Laws.{HasFunction, IsRoot, SpeaksWhole}
use Rattle.pie_entering_laws.proofs.Entered.{root_typed, spoken_node}
use Rattle.pie_entering_laws.proofs.Following.{AllSpoken}
use Rattle.pie_entering_laws.proofs.Requiring.{required_typed}

-- what is said of the tasks of an evaluation, of its nodes
all_spoken : (fs : List FunctionTree) (hs : List Heading) (never : AreNeverStuck fs hs) (d : Directory) (x : List ℕ) → SpeaksWhole fs d x
    → AllSpoken (evaluation world (project fs d) x)
all_spoken fs hs never d x spoken m s =
    spoken_node fs hs never d x m s (spoken (task_of m) (has_task m (evaluation world (project fs d) x) s))

pub required_known : (fs : List FunctionTree) (d : Directory) (t v : Task) (before after : List (List ℕ)) → IsTyped fs → IsCanonicalTask t (enc_task t)
    → IsCanonicalTask v (enc_task v) → HasFunction fs t
    → required_by (trace_of (evaluation world (project fs d) (enc_task t))) ≡ before ++ enc_task v ∷ after
    → ((x : List ℕ) → among x before ≡ true → SpeaksWhole fs d x) → HasFunction fs v
required_known _ d t v before after (typed {fs = fs} {hs = hs} declared are) own canonical known is spoken =
    by (never_stuck fs hs (typed declared are) declared)
  where
    by : AreNeverStuck fs hs → HasFunction fs v
    by never =
        (never.found v).0 (required_typed fs hs never d t v own canonical known.0 known.1 before after is
        (λ x i. all_spoken fs hs never d x (spoken x i)))

-- a task with the bytes of a root is typed as this
listed_typed : (fs : List FunctionTree) (hs : List Heading) (never : AreNeverStuck fs hs) (roots : List Task) (t : Task)
    → All (IsRoot fs) roots → IsCanonicalTask t (enc_task t) → among (enc_task t) (map enc_task roots) ≡ true → TaskIsTyped hs t
listed_typed fs hs never [] t are canonical is = clash (among (enc_task t) []) is refl
listed_typed fs hs never (r ∷ rs) t are canonical is =
    by (among_split (enc_task t) (enc_task r) (map enc_task rs) is) (listed_typed fs hs never rs t (All-tail (IsRoot fs) r rs are) canonical)
  where
    by : (enc_task t ≡ enc_task r) ⊎ (among (enc_task t) (map enc_task rs) ≡ true) → (among (enc_task t) (map enc_task rs) ≡ true → TaskIsTyped hs t)
        → TaskIsTyped hs t
    by (inl same) later = root_typed fs hs never r t (All-head (IsRoot fs) r rs are) (subst (IsCanonicalTask t) same canonical)
    by (inr more) later = later more

pub roots_known : (fs : List FunctionTree) (roots : List Task) (t : Task) → IsTyped fs → All (IsRoot fs) roots → IsCanonicalTask t (enc_task t)
    → among (enc_task t) (map enc_task roots) ≡ true → HasFunction fs t
roots_known _ roots t (typed {fs = fs} {hs = hs} declared are) all canonical is = by (never_stuck fs hs (typed declared are) declared)
  where
    by : AreNeverStuck fs hs → HasFunction fs t
    by never = (never.found t).0 (listed_typed fs hs never roots t all canonical is)
