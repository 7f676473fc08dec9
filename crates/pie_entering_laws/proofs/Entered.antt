-- The tasks that the roots of a typed pipeline enter have functions.
use Rattle.std.proofs.Common.{◌≡◌, ◌⊎◌, inl, inr, ℕ, zero, suc, ◌-◌, Bool, true, false, List, [], ◌∷◌, map, length, refl, sym, ap, subst, ◌∙◌, arith}
use Rattle.std.specs.Prelude.{All}
use Rattle.std.proofs.lemmas.List.Elements.{All-head, All-tail}
use Rattle.pie_value.specs.declared.task.Task.{Task}
use Rattle.pie_value.specs.Tree.{items_of}
use Rattle.pie_value.specs.Types.{parts_of}
use Rattle.pie_value.specs.Canonical.{enc_task, IsCanonicalTask}
use Rattle.pie_value.proofs.Lengths.{encodable_task_if_small}
use Rattle.pie_parser.specs.FunctionTrees.{FunctionTree}
use Rattle.pie_types.specs.Headings.{Heading, function_in}
use Rattle.pie_types.specs.Whole.{types_in}
use Rattle.pie_types.specs.inner.WholeRules.{IsTyped, typed}
use Rattle.pie_type_laws.specs.NeverStuck.{TaskIsTyped, AreNeverStuck}
use Rattle.pie_type_laws.proofs.Whole.{never_stuck}
use Rattle.pie_files.specs.Directory.{Directory}
use Rattle.pie_model.specs.Paths.{among}
use Rattle.pie_model.specs.declared.words.Outcome.{Outcome}
use Rattle.pie_model.specs.declared.words.Outcome.TheVariants.{Ended}
use Rattle.pie_model.specs.Trees.{Node, task_of, outcome_of, is_done, is_plain, HasTask, StandsIn, entered}
use Rattle.pie_model.specs.Evaluation.{Project, evaluation_with, evaluation}
use Rattle.pie_model.specs.Running.{entered_all}
use Rattle.pie_model.specs.Forest.{only_if, forest}
use Rattle.pie_model.proofs.Basics.{clash}
use Rattle.pie_model.proofs.Rooms.{entered_keeps, stands_entered, standing, has_task, node_alone}
use Rattle.pie_settle_laws.proofs.Entering.{entered_split}
use Rattle.pie_model_pipeline.specs.World.{world, project}
use Rattle.pie_entering_laws.specs.Entering.{IsTaskOf, Enters}
use Rattle.pie_entering_laws.specs.inner.Laws.{IsRoot, IsSpoken}
use Rattle.pie_entering_laws.proofs.Alike.{kinds_stay, tasks_alike}
use Rattle.pie_entering_laws.proofs.Following.{IsSpokenNode, AllSpoken, IsTypedAs, IsWell, evaluates_well}

-- what was entered stays entered
all_keep : (x : List ℕ) (ns : List Node) (all : List (List ℕ)) → among x all ≡ true → among x (entered_all ns all) ≡ true
all_keep x [] all h = h
all_keep x (n ∷ ns) all h = all_keep x ns (entered n all) (entered_keeps x n all h)

own_task : (n : ℕ) (P : Project) (above : List (List ℕ)) (x : List ℕ) → HasTask x (evaluation_with n world P above x)
own_task zero P above x = inl refl
own_task (suc n) P above x = inl refl

ended_plain : (e : Outcome) (b : List ℕ) → e ≡ Ended b → is_plain e ≡ true
ended_plain e b h = ap is_plain h

-- a root whose bytes are those of a task is typed as this
pub root_typed : (fs : List FunctionTree) (hs : List Heading) → AreNeverStuck fs hs → (r u : Task) → IsRoot fs r → IsCanonicalTask u (enc_task r)
    → TaskIsTyped hs u
root_typed fs hs never r u is c =
    let like = tasks_alike r u (encodable_task_if_small r is.small) c.encodable c.bytes in
    let k = (never.found r).1 (is.number, is.found) in
    (k.0, ap (λ (n : List ℕ). function_in n hs) (sym like.0) ∙ k.1, kinds_stay (parts_of (types_in k.0.params)) (items_of r.args) (items_of u.args) like.1 k.2)

module _ (fs : List FunctionTree) (hs : List Heading) (never : AreNeverStuck fs hs) (d : Directory) where
  -- a task of the language that stands in the evaluation of a root stands there with its value
  pub spoken_node : (root : List ℕ) (m : Node) → StandsIn m (evaluation world (project fs d) root) → IsSpoken fs d (task_of m) → IsSpokenNode m
  spoken_node root m s is = record {
    task = is.task;
    canonical = is.canonical;
    gives = λ b e. is.gives b
        (ap outcome_of (sym (node_alone (world.most_tasks - length {A = List ℕ} []) world (project fs d) [] root m (omega arith) s (ended_plain (outcome_of m) b e))) ∙ e);
  }

  module _ (r : Task) (root : IsRoot fs r) (spoken : (x : List ℕ) → HasTask x (evaluation world (project fs d) (enc_task r)) → IsSpoken fs d x) where
    all_spoken : AllSpoken (evaluation world (project fs d) (enc_task r))
    all_spoken m s = spoken_node (enc_task r) m s (spoken (task_of m) (has_task m (evaluation world (project fs d) (enc_task r)) s))

    its_task : IsSpoken fs d (enc_task r)
    its_task = spoken (enc_task r) (own_task (world.most_tasks - length {A = List ℕ} []) (project fs d) [] (enc_task r))

    -- what stands in the evaluation of a root is typed
    root_well : (x : List ℕ) → HasTask x (evaluation world (project fs d) (enc_task r)) → IsTypedAs hs x
    root_well x has =
        let at = standing x (evaluation world (project fs d) (enc_task r)) has in
        let same : enc_task r ≡ enc_task its_task.task = its_task.canonical.bytes in
        let well : IsWell hs its_task.task.func (evaluation world (project fs d) (enc_task its_task.task)) =
        evaluates_well fs hs never d (world.most_tasks - length {A = List ℕ} []) [] its_task.task
        (subst (IsCanonicalTask its_task.task) same its_task.canonical) (root_typed fs hs never r its_task.task root its_task.canonical)
        (subst (λ (y : List ℕ). AllSpoken (evaluation world (project fs d) y)) same all_spoken) in
        let stands : StandsIn at.found (evaluation world (project fs d) (enc_task its_task.task)) =
        subst (λ (y : List ℕ). StandsIn at.found (evaluation world (project fs d) y)) same at.stands in
        subst (IsTypedAs hs) at.is (well.typed at.found stands)

  -- what these roots enter after some tasks is typed, or one of these
  entered_typed : (roots : List Task) (all : List (List ℕ)) → All (IsRoot fs) roots
      → ((x : List ℕ) → among x (entered_all (forest world (project fs d) (map enc_task roots)) all) ≡ true → IsSpoken fs d x) → (x : List ℕ)
      → among x (entered_all (forest world (project fs d) (map enc_task roots)) all) ≡ true → (among x all ≡ true) ⊎ IsTypedAs hs x
  entered_typed [] all are spoken x h = inl h
  entered_typed (r ∷ rs) all are spoken x h =
      by (is_done (outcome_of tree)) (λ more. entered_typed rs (entered tree all) (All-tail (IsRoot fs) r rs are) more x) spoken h
    where
      tree : Node
      tree = evaluation world (project fs d) (enc_task r)

      rest : List Node
      rest = forest world (project fs d) (map enc_task rs)

      here : ((y : List ℕ) → among y (entered tree all) ≡ true → IsSpoken fs d y) → among x (entered tree all) ≡ true → (among x all ≡ true) ⊎ IsTypedAs hs x
      here s i = split (entered_split x tree all i)
        where
          split : (among x all ≡ true) ⊎ HasTask x tree → (among x all ≡ true) ⊎ IsTypedAs hs x
          split (inl j) = inl j
          split (inr has) = inr (root_well r (All-head (IsRoot fs) r rs are) (λ y k. s y (stands_entered y tree all k)) x has)

      by : (b : Bool)
          → (((y : List ℕ) → among y (entered_all rest (entered tree all)) ≡ true → IsSpoken fs d y) → among x (entered_all rest (entered tree all)) ≡ true
          → (among x (entered tree all) ≡ true) ⊎ IsTypedAs hs x)
          → ((y : List ℕ) → among y (entered_all (only_if b rest) (entered tree all)) ≡ true → IsSpoken fs d y)
          → among x (entered_all (only_if b rest) (entered tree all)) ≡ true → (among x all ≡ true) ⊎ IsTypedAs hs x
      by true later s i = then (later s i)
        where
          then : (among x (entered tree all) ≡ true) ⊎ IsTypedAs hs x → (among x all ≡ true) ⊎ IsTypedAs hs x
          then (inl j) = here (λ y k. s y (all_keep y rest (entered tree all) k)) j
          then (inr w) = inr w
      by false later s i = here s i

pub entered_known : (fs : List FunctionTree) (d : Directory) (roots : List Task) → IsTyped fs → All (IsRoot fs) roots
    → ((x : List ℕ) → Enters fs d roots x → IsSpoken fs d x) → (x : List ℕ) → Enters fs d roots x → IsTaskOf fs x
entered_known _ d roots (typed {fs = fs} {hs = hs} declared are) roots_are spoken x h =
    by (never_stuck fs hs (typed declared are) declared) (entered_typed fs hs (never_stuck fs hs (typed declared are) declared) d roots [] roots_are spoken x h)
  where
    by : AreNeverStuck fs hs → (among x [] ≡ true) ⊎ IsTypedAs hs x → IsTaskOf fs x
    by never (inl none) = clash false none refl
    by never (inr w) = let n = (never.found w.task).0 w.typed in record { task = w.task; canonical = w.canonical; number = n.0; function = n.1 }
