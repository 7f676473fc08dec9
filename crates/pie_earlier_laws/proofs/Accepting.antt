-- Of an accepted build: all roots ended with values, and the entered tasks with their records are a table.
use Rattle.std.proofs.Common.{◌≤◌, ◌-◌, ◌≡◌, Bool, true, false, cond, Option, Some, None, List, [], ◌∷◌, map, length, ◌⊎◌, inl, inr, sym, ◌∙◌, ap, subst}
use Rattle.std.proofs.Common.{leb, refl, arith, leb-true}
use Rattle.pie_model.specs.Paths.{among}
use Rattle.pie_model.specs.Tasks.{Task}
use Rattle.pie_model.specs.Trees.{Node, node, Trace, ends, looks, lists, writes, needs, outcome_of, trace_of, is_done, HasTask, StandsIn, StandsBelow}
use Rattle.pie_model.specs.declared.words.Outcome.{Outcome}
use Rattle.pie_model.specs.declared.words.Outcome.TheVariants.{Ended, Failed, Cycled, Many}
use Rattle.pie_model.specs.Evaluation.{World, Project, evaluation}
use Rattle.pie_model.specs.Records.{Record, record_of, needs_of}
use Rattle.pie_model.specs.Running.{IsDistinct, entered_all}
use Rattle.pie_model.specs.Forest.{only_if, forest, entered_tasks, live_evaluations, unless_done, first_stop}
use Rattle.pie_model.specs.Verdict.{by_stop, verdict}
use Rattle.pie_model.specs.declared.words.Verdict.{Verdict}
use Rattle.pie_model.specs.declared.words.Verdict.TheVariants as said
use Rattle.pie_model.specs.inner.Consistent.{IsRecorded}
use Rattle.pie_model.proofs.Basics.{clash, among_here, among_there, among_split}
use Rattle.pie_model.proofs.Kids.{required_kid}
use Rattle.pie_model.proofs.Rooms.{IsOwn, Standing, standing, has_task, node_alone}
use Rattle.pie_model.proofs.LooksLemmas.{some_same}
use Rattle.pie_model.proofs.Ways.{kids_own, below_in, needs_of-observations, task_of-evaluation}
use Rattle.pie_step_laws.specs.Roots.{Between}
use Rattle.pie_step_laws.proofs.Tables.{done_plain, none_some}
use Rattle.pie_settle_laws.proofs.Entering.{all_distinct, StandsUnder, all_split, all_have, all_done}

-- the forest of roots that are done goes through all of them
forest_whole : (w : World) (P : Project) (ts : List Task) → ((t : Task) → among t ts ≡ true → is_done (outcome_of (evaluation w P t)) ≡ true)
    → forest w P ts ≡ map (evaluation w P) ts
forest_whole w P [] h = refl
forest_whole w P (t ∷ ts) h =
    ap (λ b. evaluation w P t ∷ only_if b (forest w P ts)) (h t (among_here t ts))
    ∙ ap (λ z. evaluation w P t ∷ z) (forest_whole w P ts (λ u i. h u (among_there u t ts i)))

-- ---- what stands in a tree that stands in another one

mutual
  pub stands_further : (a b c : Node) → StandsIn a b → StandsIn b c → StandsIn a c
  stands_further a b (node t k) s (inl e) = subst (λ z. StandsIn a z) e s
  stands_further a b (node t k) s (inr i) = inr (below_further a b k s i)

  below_further : (a b : Node) (k : Trace) → StandsIn a b → StandsBelow b k → StandsBelow a k
  below_further a b (ends e) s i = absurd i
  below_further a b (looks l p x k) s i = below_further a b k s i
  below_further a b (lists d es k) s i = below_further a b k s i
  below_further a b (writes p c k) s i = below_further a b k s i
  below_further a b (needs h u n k) s (inl i) = inl (stands_further a b n s i)
  below_further a b (needs h u n k) s (inr i) = inr (below_further a b k s i)

-- ---- the verdict

never : {A : Type 0} (v : Verdict) → v ≡ said.Accepted → (said.Many ≡ v) → A
never v h k = absurd (not_both (k ∙ h))
  where
    not_both : said.Many ≡ said.Accepted → ⊥
    not_both e = cc

few_if : (b : Bool) (v : Verdict) → cond b v said.Many ≡ said.Accepted → b ≡ true
few_if true v h = refl
few_if false v h = never said.Many h refl

said_if : (b : Bool) (v : Verdict) → cond b v said.Many ≡ said.Accepted → v ≡ said.Accepted
said_if true v h = h
said_if false v h = never said.Many h refl

unless_undone : (b : Bool) (d e : Outcome) (rest : Option Outcome) → is_done d ≡ b → (rest ≡ Some e → is_done e ≡ false)
    → unless_done b d rest ≡ Some e → is_done e ≡ false
unless_undone true d e rest q f h = f h
unless_undone false d e rest q f h = ap is_done (sym (some_same d e h)) ∙ q

stop_undone : (ns : List Node) (e : Outcome) → first_stop ns ≡ Some e → is_done e ≡ false
stop_undone [] e h = none_some None e refl h
stop_undone (n ∷ ns) e h = unless_undone (is_done (outcome_of n)) (outcome_of n) e (first_stop ns) refl (stop_undone ns e) h

no_stop : (o : Option Outcome) (live : List Node) → ((e : Outcome) → o ≡ Some e → is_done e ≡ false) → by_stop o live ≡ said.Accepted → o ≡ None
no_stop None live f h = refl
no_stop (Some (Ended v)) live f h = clash true refl (f (Ended v) refl)
no_stop (Some (Failed t k)) live f h = cc
no_stop (Some (Cycled ts)) live f h = cc
no_stop (Some Many) live f h = cc

no_stop_first : (b : Bool) (e : Outcome) (rest : Option Outcome) → unless_done b e rest ≡ None → b ≡ true
no_stop_first true e rest h = refl
no_stop_first false e rest h = none_some (Some e) e h refl

no_stop_rest : (b : Bool) (e : Outcome) (rest : Option Outcome) → unless_done b e rest ≡ None → rest ≡ None
no_stop_rest true e rest h = h
no_stop_rest false e rest h = none_some (Some e) e h refl

module _ (w : World) (P : Project) where
  roots_done : (roots : List Task) → first_stop (forest w P roots) ≡ None → (t : Task) → among t roots ≡ true → is_done (outcome_of (evaluation w P t)) ≡ true
  roots_done [] h t i = clash false i refl
  roots_done (r ∷ rs) h t i = go (among_split t r rs i) (roots_done rs rest t)
    where
      first : is_done (outcome_of (evaluation w P r)) ≡ true
      first = no_stop_first (is_done (outcome_of (evaluation w P r))) (outcome_of (evaluation w P r)) _ h

      rest : first_stop (forest w P rs) ≡ None
      rest =
          ap (λ b. first_stop (only_if b (forest w P rs))) (sym first)
          ∙ no_stop_rest (is_done (outcome_of (evaluation w P r))) (outcome_of (evaluation w P r)) _ h

      go : (t ≡ r) ⊎ (among t rs ≡ true) → (among t rs ≡ true → is_done (outcome_of (evaluation w P t)) ≡ true)
          → is_done (outcome_of (evaluation w P t)) ≡ true
      go (inl e) f = ap (λ z. is_done (outcome_of (evaluation w P z))) e ∙ first
      go (inr j) f = f j

  -- the record of an entered task
  abbrev pub live_record : List Task → Task → Option Record
  live_record names t = cond (among t names) (Some (record_of w (evaluation w P t))) None

  -- an entered task's evaluation stands in a root's, and ended with a value
  pub record Live (roots : List Task) (x : Task) : Type 0 where
    pub from : Task
    pub listed : among from roots ≡ true
    pub stands : StandsIn (evaluation w P x) (evaluation w P from)
    pub done : is_done (outcome_of (evaluation w P x)) ≡ true

  module _ (roots : List Task) (accepted : verdict w P roots ≡ said.Accepted) where
    pub few_live : length (entered_tasks w P roots) ≤ w.most_tasks
    few_live = leb-true (length (entered_tasks w P roots)) w.most_tasks (few_if (leb (length (entered_tasks w P roots)) w.most_tasks) _ accepted)

    stops_nowhere : first_stop (forest w P roots) ≡ None
    stops_nowhere =
        no_stop (first_stop (forest w P roots)) (live_evaluations w P roots) (stop_undone (forest w P roots))
        (said_if (leb (length (entered_tasks w P roots)) w.most_tasks) (by_stop (first_stop (forest w P roots)) (live_evaluations w P roots)) accepted)

    pub each_done : (t : Task) → among t roots ≡ true → is_done (outcome_of (evaluation w P t)) ≡ true
    each_done = roots_done roots stops_nowhere

    -- the forest goes through all roots
    pub all_roots : forest w P roots ≡ map (evaluation w P) roots
    all_roots = forest_whole w P roots each_done

    whole : entered_tasks w P roots ≡ entered_all (map (evaluation w P) roots) []
    whole = ap (λ ns. entered_all ns []) all_roots

    pub live : (x : Task) → among x (entered_tasks w P roots) ≡ true → Live roots x
    live x i = go (all_split w P x roots [] (subst (λ z. among x z ≡ true) whole i))
      where
        found : (from : Task) → among from roots ≡ true → Standing x (evaluation w P from) → Live roots x
        found from j s =
            let done : is_done (outcome_of s.found) ≡ true =
            all_done (w.most_tasks - length {A = Task} []) w P [] from s.found (each_done from j) s.stands in
            let own : s.found ≡ evaluation w P x =
            node_alone (w.most_tasks - length {A = Task} []) w P [] from s.found (omega arith) s.stands (done_plain (outcome_of s.found) done)
            ∙ ap (evaluation w P) s.is in
            record {
              from = from;
              listed = j;
              stands = subst (λ z. StandsIn z (evaluation w P from)) own s.stands;
              done = subst (λ z. is_done (outcome_of z) ≡ true) own done;
            }

        go : (among x [] ≡ true) ⊎ StandsUnder w P roots x → Live roots x
        go (inl j) = clash false j refl
        go (inr s) = found s.from s.listed (standing x (evaluation w P s.from) s.stands)

    pub live_done : (x : Task) → among x (entered_tasks w P roots) ≡ true → is_done (outcome_of (evaluation w P x)) ≡ true
    live_done x i = (live x i).done

    -- what stands in the evaluation of an entered task was entered
    pub live_stands : (x y : Task) → among x (entered_tasks w P roots) ≡ true → StandsIn (evaluation w P y) (evaluation w P x)
        → among y (entered_tasks w P roots) ≡ true
    live_stands x y i s =
        let l = live x i in
        subst (λ z. among y z ≡ true) (sym whole)
        (all_have w P y l.from roots [] l.listed
        (subst (λ z. HasTask z (evaluation w P l.from)) (task_of-evaluation w P y)
        (has_task (evaluation w P y) (evaluation w P l.from) (stands_further (evaluation w P y) (evaluation w P x) (evaluation w P l.from) s l.stands))))

    pub live_needs : (x u : Task) → among x (entered_tasks w P roots) ≡ true
        → among u (needs_of (record_of w (evaluation w P x)).observations) ≡ true → among u (entered_tasks w P roots) ≡ true
    live_needs x u i j =
        required_kid (IsOwn w P) u (trace_of (evaluation w P x))
        (kids_own w P x (done_plain (outcome_of (evaluation w P x)) (live_done x i)))
        (subst (λ z. among u z ≡ true) (needs_of-observations w (trace_of (evaluation w P x))) j)
        (λ n own f. live_stands x u i
        (below_in (evaluation w P u) (evaluation w P x) (f (evaluation w P u) (itself n u own.0))))
      where
        itself : (n : Node) (u : Task) → n ≡ evaluation w P u → StandsIn (evaluation w P u) n
        itself (node t k) u e = inl (sym e)

    pub live_distinct : IsDistinct (entered_tasks w P roots)
    live_distinct = subst IsDistinct (sym whole) (all_distinct (map (evaluation w P) roots) [] tt)

    is_live : (t : Task) → among t (entered_tasks w P roots) ≡ true
        → live_record (entered_tasks w P roots) t ≡ Some (record_of w (evaluation w P t))
    is_live t i = ap (λ b. cond b (Some (record_of w (evaluation w P t))) None) i

    was_live : (t : Task) (r : Record) → live_record (entered_tasks w P roots) t ≡ Some r → among t (entered_tasks w P roots) ≡ true
    was_live t r h = go (among t (entered_tasks w P roots)) refl h
      where
        go : (b : Bool) → among t (entered_tasks w P roots) ≡ b → cond b (Some (record_of w (evaluation w P t))) None ≡ Some r
            → among t (entered_tasks w P roots) ≡ true
        go true e k = e
        go false e k = none_some None r refl k

    live_right : (t : Task) (r : Record) → live_record (entered_tasks w P roots) t ≡ Some r → r ≡ record_of w (evaluation w P t)
    live_right t r h = some_same r (record_of w (evaluation w P t)) (sym h ∙ is_live t (was_live t r h))

    -- the records of the entered tasks are those of a build in which all roots are done
    pub all_between : Between w P roots (live_record (entered_tasks w P roots)) (entered_tasks w P roots)
    all_between = record {
      rests = record {
        table = record {
          right = live_right;
          done = λ t r e. live_done t (was_live t r e);
          closed = λ t r u e i. recorded u
              (live_needs t u (was_live t r e) (subst (λ z. among u (needs_of z.observations) ≡ true) (live_right t r e) i));
          counted = was_live;
          distinct = live_distinct;
          few = few_live;
        };
        all = recorded;
      };
      ended = each_done;
      order = whole;
    }
      where
        recorded : (u : Task) → among u (entered_tasks w P roots) ≡ true → IsRecorded (live_record (entered_tasks w P roots)) u
        recorded u i = record { kept = record_of w (evaluation w P u); is = is_live u i }
