-- From root to root, and the result of a build.
use Rattle.std.proofs.Common.{ℕ, suc, ◌≤◌, ◌<◌, ◌+◌, ◌≡◌, true, false, cond, Option, Some, None, List, [], ◌∷◌, ◌++◌, map, length, take, ◌⊎◌, inl, inr, sym}
use Rattle.std.proofs.Common.{◌∙◌, ap, subst, refl, arith, append_assoc, append-nil, le-leb}
use Rattle.std.proofs.lemmas.Bool.{lt-leb}
use Rattle.std.proofs.lemmas.List.{length-append, take_all}
use Rattle.std.proofs.Math.Seq.{take-append_seam}
use Rattle.pie_model.specs.Paths.{among}
use Rattle.pie_model.specs.Tasks.{Task, Value}
use Rattle.pie_model.specs.declared.words.FaultKind.{FaultKind}
use Rattle.pie_model.specs.Trees.{Node, node, HasTask, task_of, outcome_of, is_done, entered}
use Rattle.pie_model.specs.declared.words.Outcome.{Outcome}
use Rattle.pie_model.specs.declared.words.Outcome.TheVariants.{Ended, Failed, Cycled}
use Rattle.pie_model.specs.Evaluation.{World, Project, evaluation}
use Rattle.pie_model.specs.Records.{Record, record_of}
use Rattle.pie_model.specs.Running.{entered_all}
use Rattle.pie_model.specs.inner.Stack.{Begins}
use Rattle.pie_model.specs.Forest.{only_if, forest, entered_tasks, live_evaluations, unless_done, first_stop}
use Rattle.pie_model.specs.Verdict.{final_checks, by_stop, verdict}
use Rattle.pie_model.specs.declared.words.Verdict.{Verdict}
use Rattle.pie_model.specs.declared.words.Verdict.TheVariants.{Many, Fault, Cycle}
use Rattle.pie_model.proofs.Basics.{clash, among_here, among_there, among_split, among_either}
use Rattle.pie_model.proofs.Rooms.{entered_keeps, stands_entered}
use Rattle.pie_model.proofs.Ways.{task_of-evaluation}
use Rattle.pie_model.proofs.LooksLemmas.{some_same}
use Rattle.pie_model.proofs.StackLemmas.{begins_itself, begins_more, entered_begins}
use Rattle.pie_model.proofs.RunningLemmas.{entered_all-end}
use Rattle.pie_step_laws.specs.Table.{Rests}
use Rattle.pie_step_laws.specs.UnderWay.{HasEnded}
use Rattle.pie_step_laws.specs.Roots.{Between, EvaluatesTo}
use Rattle.pie_step_laws.proofs.Tables.{among_one, none_some, has_its_record}
use Rattle.pie_step_laws.proofs.StepLemmas.{map_end}
use Rattle.pie_step_laws.proofs.EndLemmas.{known_done, known_adds_nothing}

entered_all-append : (xs ys : List Node) (all : List Task) → entered_all (xs ++ ys) all ≡ entered_all ys (entered_all xs all)
entered_all-append [] ys all = refl
entered_all-append (x ∷ xs) ys all = entered_all-append xs ys (entered x all)

entered_all-begins : (xs : List Node) (all : List Task) → Begins all (entered_all xs all)
entered_all-begins [] all = begins_itself all
entered_all-begins (x ∷ xs) all =
    begins_more all (entered x all) (entered_all xs (entered x all)) (entered_begins x all) (entered_all-begins xs (entered x all))

heads_same : {A : Type 0} (x y : A) (xs ys : List A) → x ∷ xs ≡ y ∷ ys → x ≡ y
heads_same x y xs ys h = cc

tails_same : {A : Type 0} (x y : A) (xs ys : List A) → x ∷ xs ≡ y ∷ ys → xs ≡ ys
tails_same x y xs ys h = cc

same_somes : {A : Type 0} (xs ys : List A) → map Some xs ≡ map Some ys → xs ≡ ys
same_somes [] [] h = refl
same_somes [] (y ∷ ys) h = cc
same_somes (x ∷ xs) [] h = cc
same_somes (x ∷ xs) (y ∷ ys) h =
    ap (λ z. z ∷ xs) (some_same x y (heads_same (Some x) (Some y) (map Some xs) (map Some ys) h))
    ∙ ap (λ z. y ∷ z) (same_somes xs ys (tails_same (Some x) (Some y) (map Some xs) (map Some ys) h))

module _ (w : World) (P : Project) where
  -- all of these ended with values
  abbrev AllEnded : List Task → Type 0
  AllEnded ts = (t : Task) → among t ts ≡ true → is_done (outcome_of (evaluation w P t)) ≡ true

  -- the forest goes through the roots that are done
  forest-append : (done rest : List Task) → AllEnded done → forest w P (done ++ rest) ≡ map (evaluation w P) done ++ forest w P rest
  forest-append [] rest h = refl
  forest-append (d ∷ ds) rest h =
      ap (λ b. evaluation w P d ∷ only_if b (forest w P (ds ++ rest))) (h d (among_here d ds))
      ∙ ap (λ z. evaluation w P d ∷ z) (forest-append ds rest (λ t i. h t (among_there t d ds i)))

  first_stop-append : (done : List Task) (rest : List Node) → AllEnded done → first_stop (map (evaluation w P) done ++ rest) ≡ first_stop rest
  first_stop-append [] rest h = refl
  first_stop-append (d ∷ ds) rest h =
      ap (λ b. unless_done b (outcome_of (evaluation w P d)) (first_stop (map (evaluation w P) ds ++ rest))) (h d (among_here d ds))
      ∙ first_stop-append ds rest (λ t i. h t (among_there t d ds i))

  pub build_begins : (R : Task → Option Record) → ((t : Task) → R t ≡ None) → Between w P [] R []
  build_begins R none = record {
    rests = record {
      table = record {
        right = λ t r e. none_some (R t) r (none t) e;
        done = λ t r e. none_some (R t) r (none t) e;
        closed = λ t r u e i. none_some (R t) r (none t) e;
        counted = λ t r e. none_some (R t) r (none t) e;
        distinct = tt;
        few = omega arith;
      };
      all = λ t i. clash false i refl;
    };
    ended = λ t i. clash false i refl;
    order = refl;
  }

  one_more_done : (done : List Task) (root : Task) → AllEnded done → is_done (outcome_of (evaluation w P root)) ≡ true → AllEnded (done ++ root ∷ [])
  one_more_done done root h d t i = go (among_either t done (root ∷ []) i)
    where
      go : (among t done ≡ true) ⊎ (among t (root ∷ []) ≡ true) → is_done (outcome_of (evaluation w P t)) ≡ true
      go (inl k) = h t k
      go (inr k) = ap (λ z. is_done (outcome_of (evaluation w P z))) (among_one t root k) ∙ d

  -- one root more enters what it enters
  one_more_entered_all : (done : List Task) (root : Task) (base : List Task) → base ≡ entered_all (map (evaluation w P) done) []
      → entered (evaluation w P root) base ≡ entered_all (map (evaluation w P) (done ++ root ∷ [])) []
  one_more_entered_all done root base e =
      ap (entered (evaluation w P root)) e
      ∙ sym (entered_all-end (map (evaluation w P) done) (evaluation w P root) [])
      ∙ ap (λ z. entered_all z []) (sym (map_end (evaluation w P) done root))

  pub known_root_passes : (done : List Task) (R : Task → Option Record) (names : List Task) (root : Task) → Between w P done R names
      → among root names ≡ true → Between w P (done ++ root ∷ []) R names
  known_root_passes done R names root B i = record {
    rests = B.rests;
    ended = one_more_done done root B.ended (known_done w P R names root B.rests i);
    order = sym (known_adds_nothing w P R names root B.rests i) ∙ one_more_entered_all done root names B.order;
  }

  pub ended_root_passes : (done : List Task) (R S : Task → Option Record) (base names : List Task) (root : Task) (v : Value)
      → Between w P done R base → Rests w P S names → HasEnded w P root base names (Ended v) → Between w P (done ++ root ∷ []) S names
  ended_root_passes done R S base names root v B Q E = record {
    rests = Q;
    ended = one_more_done done root B.ended (ap is_done E.outcome);
    order = sym E.enters ∙ one_more_entered_all done root base B.order;
  }

  -- ---- all roots are done

  module _ (roots : List Task) (R : Task → Option Record) (names : List Task) (B : Between w P roots R names) where
    whole_forest : forest w P roots ≡ map (evaluation w P) roots
    whole_forest =
        ap (forest w P) (sym (append-nil roots)) ∙ forest-append roots [] B.ended ∙ append-nil (map (evaluation w P) roots)

    pub stops_nowhere : first_stop (forest w P roots) ≡ None
    stops_nowhere =
        ap first_stop (whole_forest ∙ sym (append-nil (map (evaluation w P) roots))) ∙ first_stop-append roots [] B.ended

    pub all_entered : entered_tasks w P roots ≡ names
    all_entered = ap (λ z. entered_all z []) whole_forest ∙ sym B.order

    pub all_done : EvaluatesTo w P roots names (final_checks (live_evaluations w P roots))
    all_done = record {
      enters = all_entered;
      is = ap (λ b. cond b (by_stop (first_stop (forest w P roots)) (live_evaluations w P roots)) Many)
          (le-leb (length (entered_tasks w P roots)) w.most_tasks
          (subst (λ z. length z ≤ w.most_tasks) (sym all_entered) B.rests.table.few))
          ∙ ap (λ o. by_stop o (live_evaluations w P roots)) stops_nowhere;
    }

  -- ---- the build stops at a root

  module _ (roots done rest : List Task) (R : Task → Option Record) (base : List Task) (root : Task) (B : Between w P done R base)
      (is : roots ≡ done ++ root ∷ rest) where
    forest_here : forest w P roots
        ≡ map (evaluation w P) done ++ evaluation w P root ∷ only_if (is_done (outcome_of (evaluation w P root))) (forest w P rest)
    forest_here = ap (forest w P) is ∙ forest-append done (root ∷ rest) B.ended

    -- what is entered begins with what the root enters
    entered_here : entered_tasks w P roots
        ≡ entered_all (only_if (is_done (outcome_of (evaluation w P root))) (forest w P rest)) (entered (evaluation w P root) base)
    entered_here =
        ap (λ z. entered_all z []) forest_here
        ∙ entered_all-append (map (evaluation w P) done)
        (evaluation w P root ∷ only_if (is_done (outcome_of (evaluation w P root))) (forest w P rest)) []
        ∙ ap (λ z. entered_all (only_if (is_done (outcome_of (evaluation w P root))) (forest w P rest)) (entered (evaluation w P root) z)) (sym B.order)

    module _ (names : List Task) (e : Outcome) (E : HasEnded w P root base names e) (d : is_done e ≡ false) where
      not_done : is_done (outcome_of (evaluation w P root)) ≡ false
      not_done = ap is_done E.outcome ∙ d

      pub entered_until : entered_tasks w P roots ≡ names
      entered_until =
          entered_here ∙ ap (λ b. entered_all (only_if b (forest w P rest)) (entered (evaluation w P root) base)) not_done ∙ E.enters

      pub stops_here : first_stop (forest w P roots) ≡ Some e
      stops_here =
          ap first_stop forest_here
          ∙ first_stop-append done (evaluation w P root ∷ only_if (is_done (outcome_of (evaluation w P root))) (forest w P rest)) B.ended
          ∙ ap (λ b. unless_done b (outcome_of (evaluation w P root))
          (first_stop (only_if (is_done (outcome_of (evaluation w P root))) (forest w P rest)))) not_done
          ∙ ap Some E.outcome

      pub verdict_here : verdict w P roots ≡ by_stop (Some e) (live_evaluations w P roots)
      verdict_here =
          ap (λ b. cond b (by_stop (first_stop (forest w P roots)) (live_evaluations w P roots)) Many)
          (le-leb (length (entered_tasks w P roots)) w.most_tasks (subst (λ z. length z ≤ w.most_tasks) (sym entered_until) E.few))
          ∙ ap (λ o. by_stop o (live_evaluations w P roots)) stops_here

    pub fails_here : (names : List Task) (t : Task) (k : FaultKind) → HasEnded w P root base names (Failed t k) → EvaluatesTo w P roots names (Fault t k)
    fails_here names t k E =
        record { enters = entered_until names (Failed t k) E refl; is = verdict_here names (Failed t k) E refl }

    pub cycles_here : (names ts : List Task) → HasEnded w P root base names (Cycled ts) → EvaluatesTo w P roots names (Cycle ts)
    cycles_here names ts E =
        record { enters = entered_until names (Cycled ts) E refl; is = verdict_here names (Cycled ts) E refl }

    module _ (names : List Task) (u : Task) (full : length names ≡ w.most_tasks)
        (more : Begins (names ++ u ∷ []) (entered (evaluation w P root) base)) where
      pub begins_here : Begins (names ++ u ∷ []) (entered_tasks w P roots)
      begins_here =
          subst (Begins (names ++ u ∷ [])) (sym entered_here)
          (begins_more (names ++ u ∷ []) (entered (evaluation w P root) base)
          (entered_all (only_if (is_done (outcome_of (evaluation w P root))) (forest w P rest)) (entered (evaluation w P root) base)) more
          (entered_all-begins (only_if (is_done (outcome_of (evaluation w P root))) (forest w P rest)) (entered (evaluation w P root) base)))

      pub entered_is : entered_tasks w P roots ≡ names ++ u ∷ begins_here.rest
      entered_is = begins_here.is ∙ append_assoc names (u ∷ []) begins_here.rest

      pub too_many : verdict w P roots ≡ Many
      too_many =
          ap (λ b. cond b (by_stop (first_stop (forest w P roots)) (live_evaluations w P roots)) Many)
          (lt-leb (length (entered_tasks w P roots)) w.most_tasks
          (over _ _ _ _ (ap length entered_is ∙ length-append names (u ∷ begins_here.rest)) full))
        where
          over : (a b c d : ℕ) → a ≡ b + suc c → b ≡ d → d < a
          over a b c d p q = omega arith

      pub first_entered : take w.most_tasks (entered_tasks w P roots) ≡ names
      first_entered =
          ap (λ n. take n (entered_tasks w P roots)) (sym full)
          ∙ ap (take (length names)) entered_is
          ∙ take-append_seam names (u ∷ begins_here.rest)

  -- ---- the records

  module _ (R : Task → Option Record) (names : List Task) (Q : Rests w P R names) where
    pub record_live : (t : Task) → among t names ≡ true → R t ≡ Some (record_of w (evaluation w P t))
    record_live t i = (has_its_record w P R names Q.table t (Q.all t i)).is

    records_live : (ts : List Task) → ((t : Task) → among t ts ≡ true → among t names ≡ true)
        → map R ts ≡ map Some (map (record_of w) (map (evaluation w P) ts))
    records_live [] f = refl
    records_live (t ∷ ts) f =
        ap (λ z. z ∷ map R ts) (record_live t (f t (among_here t ts)))
        ∙ ap (λ z. Some (record_of w (evaluation w P t)) ∷ z) (records_live ts (λ x i. f x (among_there x t ts i)))

  pub records_in_order : (roots : List Task) (R : Task → Option Record) (names : List Task) (kept : List Record) → Between w P roots R names
      → map R names ≡ map Some kept → kept ≡ map (record_of w) (live_evaluations w P roots)
  records_in_order roots R names kept B e =
      same_somes kept (map (record_of w) (map (evaluation w P) names)) (sym e ∙ records_live R names B.rests names (λ t i. i))
      ∙ ap (λ z. map (record_of w) (map (evaluation w P) z)) (sym (all_entered roots R names B))

-- ---- the roots that are done

has_itself : (n : Node) → HasTask (task_of n) n
has_itself (node t k) = inl refl

module _ (w : World) (P : Project) where
  entered_all-keeps : (t : Task) (xs : List Node) (all : List Task) → among t all ≡ true → among t (entered_all xs all) ≡ true
  entered_all-keeps t [] all h = h
  entered_all-keeps t (x ∷ xs) all h = entered_all-keeps t xs (entered x all) (entered_keeps t x all h)

  entered_all-has : (t : Task) (ts all : List Task) → among t ts ≡ true → among t (entered_all (map (evaluation w P) ts) all) ≡ true
  entered_all-has t [] all h = clash false h refl
  entered_all-has t (x ∷ xs) all h = go (among_split t x xs h) (entered_all-has t xs (entered (evaluation w P x) all))
    where
      go : (t ≡ x) ⊎ (among t xs ≡ true) → (among t xs ≡ true → among t (entered_all (map (evaluation w P) xs) (entered (evaluation w P x) all)) ≡ true)
          → among t (entered_all (map (evaluation w P) xs) (entered (evaluation w P x) all)) ≡ true
      go (inl e) f =
          entered_all-keeps t (map (evaluation w P) xs) (entered (evaluation w P x) all)
          (stands_entered t (evaluation w P x) all
          (subst (λ z. HasTask z (evaluation w P x)) (task_of-evaluation w P x ∙ sym e) (has_itself (evaluation w P x))))
      go (inr i) f = f i

  module _ (done : List Task) (R : Task → Option Record) (names : List Task) (B : Between w P done R names) where
    pub root_entered : (t : Task) → among t done ≡ true → among t names ≡ true
    root_entered t i = subst (λ z. among t z ≡ true) (sym B.order) (entered_all-has t done [] i)

    pub root_value : (t : Task) (r : Record) → R t ≡ Some r → r.outcome ≡ outcome_of (evaluation w P t)
    root_value t r e = ap (λ z. z.outcome) (B.rests.table.right t r e)

    pub same_between : (S : Task → Option Record) → ((t : Task) → S t ≡ R t) → Between w P done S names
    same_between S e = subst (λ X. Between w P done X names) (λ i t. sym (e t) i) B

  pub few_first : (roots names : List Task) (v : Verdict) → EvaluatesTo w P roots names v → length names ≤ w.most_tasks
      → take w.most_tasks (entered_tasks w P roots) ≡ names
  few_first roots names v C few = ap (take w.most_tasks) C.enters ∙ take_all w.most_tasks names few
