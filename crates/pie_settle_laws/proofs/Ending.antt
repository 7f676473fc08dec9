-- The result of a build by the records of what its roots reach.
use Rattle.std.proofs.Common.{ℕ, ◌≤◌, ◌-◌, ◌≡◌, ◌↔◌, Bool, true, false, cond, Option, Some, None, List, [], ◌∷◌, map, length, ◌⊎◌, inl, inr, sym, ◌∙◌}
use Rattle.std.proofs.Common.{ap, subst, refl, arith}
use Rattle.pie_model.specs.Paths.{among}
use Rattle.pie_model.specs.Tasks.{Task}
use Rattle.pie_model.specs.Trees.{outcome_of, is_done, HasTask, entered}
use Rattle.pie_model.specs.declared.words.Outcome.{Outcome}
use Rattle.pie_model.specs.Evaluation.{World, Project, evaluation}
use Rattle.pie_model.specs.Records.{Record, record_of, needs_of}
use Rattle.pie_model.specs.inner.RecordLaws.{HasItsRecord}
use Rattle.pie_model.specs.Running.{entered_all}
use Rattle.pie_model.specs.Forest.{only_if, forest, entered_tasks}
use Rattle.pie_model.specs.inner.Present.{Reaches}
use Rattle.pie_model.specs.inner.Present.Way.{here, along}
use Rattle.pie_model.specs.inner.Consistent.{IsRecorded}
use Rattle.pie_model.proofs.Basics.{clash, among_here, among_there}
use Rattle.pie_model.proofs.Rooms.{Standing, standing, has_task}
use Rattle.pie_model.proofs.Ways.{further, task_of-evaluation, record_right, reached_stands, stands_reached}
use Rattle.pie_step_laws.specs.Table.{IsTable}
use Rattle.pie_step_laws.specs.UnderWay.{HasEnded}
use Rattle.pie_step_laws.specs.Roots.{Between}
use Rattle.pie_step_laws.proofs.Tables.{no_more, none_some}
use Rattle.pie_settle_laws.specs.Known.{IsKnown, AreDone, AreCounted, ReachedFrom}
use Rattle.pie_settle_laws.specs.Ends.{recorded_among}
use Rattle.pie_settle_laws.proofs.Entering.{entered_distinct, all_distinct, entered_split, StandsUnder, all_split, all_have, all_done}

-- the forest of roots that are done goes through all of them
forest_whole : (w : World) (P : Project) (ts : List Task) → ((t : Task) → among t ts ≡ true → is_done (outcome_of (evaluation w P t)) ≡ true)
    → forest w P ts ≡ map (evaluation w P) ts
forest_whole w P [] h = refl
forest_whole w P (t ∷ ts) h =
    ap (λ b. evaluation w P t ∷ only_if b (forest w P ts)) (h t (among_here t ts))
    ∙ ap (λ z. evaluation w P t ∷ z) (forest_whole w P ts (λ u i. h u (among_there u t ts i)))

pub entered_whole : (w : World) (P : Project) (ts : List Task) → ((t : Task) → among t ts ≡ true → is_done (outcome_of (evaluation w P t)) ≡ true)
    → entered_tasks w P ts ≡ entered_all (map (evaluation w P) ts) []
entered_whole w P ts h = ap (λ z. entered_all z []) (forest_whole w P ts h)

-- a record among some is a record, of one of them
pub record Listed (names : List Task) (R : Task → Option Record) (t : Task) (r : Record) : Type 0 where
  pub listed : among t names ≡ true
  pub is : R t ≡ Some r

pub listed_record : (names : List Task) (R : Task → Option Record) (t : Task) (r : Record) → recorded_among names R t ≡ Some r → Listed names R t r
listed_record names R t r h = go (among t names) refl h
  where
    go : (b : Bool) → among t names ≡ b → cond b (R t) None ≡ Some r → Listed names R t r
    go true e k = record { listed = e; is = k }
    go false e k = none_some None r refl k

pub record_listed : (names : List Task) (R : Task → Option Record) (t : Task) → among t names ≡ true → recorded_among names R t ≡ R t
record_listed names R t h = ap (λ b. cond b (R t) None) h

module _ (w : World) (P : Project) (R : Task → Option Record) where
  -- what stands in the evaluation of a known task is what it reaches
  pub stands_reach : (t x : Task) → IsKnown w P R t → HasTask x (evaluation w P t) → Reaches R t x
  stands_reach t x k i = go (standing x (evaluation w P t) i)
    where
      go : Standing x (evaluation w P t) → Reaches R t x
      go s = subst (λ z. Reaches R t z) s.is (stands_reached w P R (evaluation w P t) t s.found refl k.right s.stands).way

  pub reach_stands : (t x : Task) → IsKnown w P R t → Reaches R t x → HasTask x (evaluation w P t)
  reach_stands t x k q =
      subst (λ z. HasTask z (evaluation w P t)) (task_of-evaluation w P x)
      (has_task (evaluation w P x) (evaluation w P t) (reached_stands w P R q k.right))

  -- what a known task with a value reaches has a value
  pub reach_done : (t x : Task) → IsKnown w P R t → is_done (outcome_of (evaluation w P t)) ≡ true → Reaches R t x
      → is_done (outcome_of (evaluation w P x)) ≡ true
  reach_done t x k d q =
      all_done (w.most_tasks - length {A = Task} []) w P [] t (evaluation w P x) d (reached_stands w P R q k.right)

  module _ (ts : List Task) (D : AreDone w P R ts) where
    abbrev names : List Task
    names = entered_all (map (evaluation w P) ts) []

    pub entered_reached : (x : Task) → among x names ≡ true → ReachedFrom R ts x
    entered_reached x h = go (all_split w P x ts [] h)
      where
        go : (among x [] ≡ true) ⊎ StandsUnder w P ts x → ReachedFrom R ts x
        go (inl i) = clash false i refl
        go (inr s) = record { from = s.from; listed = s.listed; reaches = stands_reach s.from x (D.known s.from s.listed) s.stands }

    pub reached_entered : (x : Task) → ReachedFrom R ts x → among x names ≡ true
    reached_entered x s = all_have w P x s.from ts [] s.listed (reach_stands s.from x (D.known s.from s.listed) s.reaches)

    pub reached_right : (x : Task) → ReachedFrom R ts x → HasItsRecord w P R x
    reached_right x s = (D.known s.from s.listed).right x s.reaches

    -- the records of the entered tasks alone
    abbrev kept : Task → Option Record
    kept = recorded_among names R

    pub kept_recorded : (x : Task) → ReachedFrom R ts x → IsRecorded kept x
    kept_recorded x s = record {
      kept = record_of w (evaluation w P x);
      is = record_listed names R x (reached_entered x s) ∙ (reached_right x s).is;
    }

    further_from : (x u : Task) (r : Record) → ReachedFrom R ts x → R x ≡ Some r → among u (needs_of r.observations) ≡ true → ReachedFrom R ts u
    further_from x u r s e i = record { from = s.from; listed = s.listed; reaches = further s.reaches (along e i here) }

    pub kept_table : (held : List Task) → AreCounted w R held → IsTable w P kept names
    kept_table held C = record {
      right = λ t r e. let l = listed_record names R t r e in record_right w P R t r (reached_right t (entered_reached t l.listed)) l.is;
      done = λ t r e. let l = listed_record names R t r e in let s = entered_reached t l.listed in
          reach_done s.from t (D.known s.from s.listed) (D.done s.from s.listed) s.reaches;
      closed = λ t r u e i. let l = listed_record names R t r e in kept_recorded u (further_from t u r (entered_reached t l.listed) l.is i);
      counted = λ t r e. (listed_record names R t r e).listed;
      distinct = all_distinct (map (evaluation w P) ts) [] tt;
      few = few_names;
    }
      where
        up : (a b c : ℕ) → a ≤ b → b ≤ c → a ≤ c
        up a b c p q = omega arith

        few_names : length names ≤ w.most_tasks
        few_names = up (length names) (length held) w.most_tasks
            (no_more names held (all_distinct (map (evaluation w P) ts) [] tt)
            (λ t i. C.each t _ (reached_right t (entered_reached t i)).is)) C.few

    pub kept_between : (held : List Task) → AreCounted w R held → Between w P ts kept names
    kept_between held C = record {
      rests = record { table = kept_table held C; all = λ t i. kept_recorded t (entered_reached t i) };
      ended = D.done;
      order = refl;
    }

    -- a known root after them
    module _ (held : List Task) (C : AreCounted w R held) (root : Task) (K : IsKnown w P R root) where
      after : List Task
      after = entered (evaluation w P root) names

      after_counted : (x : Task) → among x (entered (evaluation w P root) names) ≡ true → among x held ≡ true
      after_counted x i = go (entered_split x (evaluation w P root) names i)
        where
          go : (among x names ≡ true) ⊎ HasTask x (evaluation w P root) → among x held ≡ true
          go (inl h) = C.each x _ (reached_right x (entered_reached x h)).is
          go (inr s) = C.each x _ (K.right x (stands_reach root x K s)).is

      pub root_ends : (e : Outcome) → outcome_of (evaluation w P root) ≡ e → HasEnded w P root names (entered (evaluation w P root) names) e
      root_ends e h = record {
        outcome = h;
        enters = refl;
        few = up (length (entered (evaluation w P root) names)) (length held) w.most_tasks
            (no_more (entered (evaluation w P root) names) held
            (entered_distinct (evaluation w P root) names (all_distinct (map (evaluation w P) ts) [] tt)) after_counted) C.few;
      }
        where
          up : (a b c : ℕ) → a ≤ b → b ≤ c → a ≤ c
          up a b c p q = omega arith

-- ---- the same of the tasks that the roots enter

module _ (w : World) (P : Project) (R : Task → Option Record) where
  pub entered_are_reached : (roots : List Task) (x : Task) → AreDone w P R roots → (among x (entered_tasks w P roots) ≡ true) ↔ ReachedFrom R roots x
  entered_are_reached roots x D = (
    λ i. entered_reached w P R roots D x (subst (λ z. among x z ≡ true) (entered_whole w P roots D.done) i),
    λ s. subst (λ z. among x z ≡ true) (sym (entered_whole w P roots D.done)) (reached_entered w P R roots D x s),
  )

  pub known_done : (held roots : List Task) → AreCounted w R held → AreDone w P R roots
      → Between w P roots (recorded_among (entered_tasks w P roots) R) (entered_tasks w P roots)
  known_done held roots C D =
      subst (λ z. Between w P roots (recorded_among z R) z) (sym (entered_whole w P roots D.done)) (kept_between w P R roots D held C)

  pub known_ends : (held done : List Task) (root : Task) (e : Outcome) → AreCounted w R held → AreDone w P R done
      → IsKnown w P R root → outcome_of (evaluation w P root) ≡ e
      → HasEnded w P root (entered_tasks w P done) (entered (evaluation w P root) (entered_tasks w P done)) e
  known_ends held done root e C D K h =
      subst (λ z. HasEnded w P root z (entered (evaluation w P root) z) e) (sym (entered_whole w P done D.done))
      (root_ends w P R done D held C root K e h)
