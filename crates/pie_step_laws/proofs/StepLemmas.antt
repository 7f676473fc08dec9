-- Each step under a root keeps it under way.
use Rattle.std.proofs.Common.{ℕ, suc, ◌≤◌, ◌<◌, ◌-◌, ◌≡◌, Bool, true, false, cond, Option, Some, None, List, [], ◌∷◌, ◌++◌, map, length, ◌⊎◌, inl, inr, sym}
use Rattle.std.proofs.Common.{◌∙◌, ap, subst, refl, arith, append_assoc, append-nil}
use Rattle.pie_model.specs.Paths.{Path, among}
use Rattle.pie_model.specs.Tasks.{Task, Value}
use Rattle.pie_model.specs.declared.words.Look.{Look}
use Rattle.pie_model.specs.declared.words.How.{How}
use Rattle.pie_model.specs.declared.words.Event.TheVariants.{LookAt, ListOf, Write, Require}
use Rattle.pie_model.specs.Trees.{outcome_of, entered, enter}
use Rattle.pie_model.specs.declared.words.Seen.TheVariants.{Nothing, Holds}
use Rattle.pie_model.specs.declared.words.Outcome.TheVariants.{Ended}
use Rattle.pie_model.specs.Seen.{visible_at}
use Rattle.pie_model.specs.Evaluation.{World, Project, Progress, required, output_answer, listing, evaluation_with, evaluation}
use Rattle.pie_model.specs.Records.{Record, Absent, Hash, Query, Stamp, Looked, Listed, Required, Observation, observed, contents_stamp, value_stamp}
use Rattle.pie_model.specs.Records.{task_asked, needs_of}
use Rattle.pie_model.specs.inner.Consistent.{IsRecorded}
use Rattle.pie_model.specs.Running.{IsRunning, entered_all}
use Rattle.pie_model.specs.inner.Stack.{Frame, tasks_of, entered_by}
use Rattle.pie_model.specs.inner.Stack.IsWaiting.{nobody, waits}
use Rattle.pie_model.proofs.Basics.{clash, among_here, among_there, among_left, among_right, among_either, among_split}
use Rattle.pie_model.proofs.RunningLemmas.{entered_all-end, starts, sees_nothing, sees_contents, lists_entries, writes_contents, is_answered}
use Rattle.pie_model.proofs.PlacedLemmas.{known_placed}
use Rattle.pie_step_laws.specs.Table.{Rests}
use Rattle.pie_step_laws.specs.Frames.{begun, gone_on, saw_nothing, saw_contents, has_listed, has_written, was_answered, set_aside, HasItsKids}
use Rattle.pie_step_laws.specs.UnderWay.{UnderWay}
use Rattle.pie_step_laws.proofs.Tables.{among_one, no_more, none_some, reached_recorded, all_right, adds_nothing, new_unrecorded, one_more_entered}

-- the tasks that observations require, one after another
pub needs_of-append : (xs ys : List Observation) → needs_of (xs ++ ys) ≡ needs_of xs ++ needs_of ys
needs_of-append [] ys = refl
needs_of-append (o ∷ os) ys =
    ap (λ z. task_asked o.query ++ z) (needs_of-append os ys) ∙ sym (append_assoc (task_asked o.query) (needs_of os) (needs_of ys))

-- an observation that requires no task
pub needs_of-end : (xs : List Observation) (q : Query) (s : Stamp) → task_asked q ≡ [] → needs_of (xs ++ observed q s ∷ []) ≡ needs_of xs
needs_of-end xs q s e =
    needs_of-append xs (observed q s ∷ []) ∙ ap (λ z. needs_of xs ++ (z ++ [])) e ∙ append-nil (needs_of xs)

pub map_end : {A : Type 0} {B : Type 0} (f : A → B) (xs : List A) (x : A) → map f (xs ++ x ∷ []) ≡ map f xs ++ f x ∷ []
map_end f [] x = refl
map_end f (y ∷ ys) x = ap (λ z. f y ∷ z) (map_end f ys x)

-- the observations of a require name its task
needs_answered : (seen : List Observation) (h : How) (u : Task) (s : Stamp) → needs_of (seen ++ observed (Required h u) s ∷ []) ≡ needs_of seen ++ u ∷ []
needs_answered seen h u s = needs_of-append seen (observed (Required h u) s ∷ [])

pub kids_answered : (w : World) (P : Project) (R : Task → Option Record) (f : Frame) → HasItsKids w P R f → (n : ℕ) (h : How) (u : Task) (v : Value)
    → IsRecorded R u → HasItsKids w P R (was_answered w P f n h u v)
kids_answered w P R f K n h u v k = record {
  kids = ap (λ z. z ++ evaluation w P u ∷ []) K.kids
      ∙ sym (map_end (evaluation w P) (needs_of f.seen) u)
      ∙ ap (map (evaluation w P)) (sym (needs_answered f.seen h u (value_stamp w v h)));
  recorded = λ x i. go x (among_either x (needs_of f.seen) (u ∷ []) (subst (λ z. among x z ≡ true) (needs_answered f.seen h u (value_stamp w v h)) i));
}
  where
    go : (x : Task) → (among x (needs_of f.seen) ≡ true) ⊎ (among x (u ∷ []) ≡ true) → IsRecorded R x
    go x (inl i) = K.recorded x i
    go x (inr i) = subst (IsRecorded R) (sym (among_one x u i)) k

module _ (w : World) (P : Project) (root : Task) where
  -- ---- a root begins

  pub root_begins : (R : Task → Option Record) (names : List Task) → Rests w P R names → among root names ≡ false
      → length names < w.most_tasks → UnderWay w P root names R (names ++ root ∷ []) [] (begun w root)
  root_begins R names S h few = record {
    table = one_more_entered w P R names S.table root h few;
    waits = nobody;
    room = w.most_tasks - 1;
    is_room = room_is w.most_tasks (length names) few;
    runs = starts w P (w.most_tasks - 1) [] root refl;
    kids = (record { kids = refl; recorded = λ u i. clash false i refl }, tt);
    order = sym (ap (λ b. cond b names (names ++ root ∷ [])) h);
    unrecorded = λ t i. subst (λ z. R z ≡ None) (sym (among_one t root i)) (new_unrecorded w P R names S.table root h);
    once = (refl, tt);
    stacked = λ t i. among_right t names (root ∷ []) i;
    covered = λ t i. covers t (among_either t names (root ∷ []) i);
  }
    where
      room_is : (a n : ℕ) → n < a → (a - length {A = Task} []) ≡ suc (a - 1)
      room_is a n k = omega arith

      covers : (t : Task) → (among t names ≡ true) ⊎ (among t (root ∷ []) ≡ true) → IsRecorded R t ⊎ (among t (root ∷ []) ≡ true)
      covers t (inl k) = inl (S.all t k)
      covers t (inr k) = inr k

  module _ (base : List Task) (R : Task → Option Record) (names : List Task) (fs : List Frame) (f : Frame) (U : UnderWay w P root base R names fs f) where
    -- ---- the running task goes on in place

    goes_on : (g : Progress) (seen : List Observation) (n : ℕ) → IsRunning w P U.room (tasks_of fs) f.task n g seen → g.kids ≡ f.progress.kids
        → needs_of seen ≡ needs_of f.seen → UnderWay w P root base R names fs (gone_on f g seen n)
    goes_on g seen n run k s = record {
      table = U.table;
      waits = U.waits;
      room = U.room;
      is_room = U.is_room;
      runs = run;
      kids = (
        record {
          kids = k ∙ U.kids.0.kids ∙ ap (map (evaluation w P)) (sym s);
          recorded = λ u i. U.kids.0.recorded u (subst (λ z. among u z ≡ true) s i);
        },
        U.kids.1,
      );
      order = U.order ∙ ap (λ z. entered_all z (enter f.task (entered_by base fs))) (sym k);
      unrecorded = U.unrecorded;
      once = U.once;
      stacked = U.stacked;
      covered = U.covered;
    }

    -- it runs with one event more
    pub runs_with : (n : ℕ) → f.left ≡ suc n → IsRunning w P U.room (tasks_of fs) f.task (suc n) f.progress f.seen
    runs_with n e = subst (λ m. IsRunning w P U.room (tasks_of fs) f.task m f.progress f.seen) e U.runs

    pub absent_look : (n : ℕ) (l : Look) (p : Path) → f.left ≡ suc n → P.next f.task f.progress.answers ≡ LookAt l p
        → visible_at P.file f.progress.own f.progress.kids p ≡ Nothing → UnderWay w P root base R names fs (saw_nothing f n l p)
    absent_look n l p e h v =
        goes_on _ _ n (sees_nothing w P U.room (tasks_of fs) f.task n f.progress f.seen l p h v (runs_with n e)) refl
        (needs_of-end f.seen (Looked l p) Absent refl)

    pub present_look : (n : ℕ) (l : Look) (p : Path) (b : List ℕ) (m : ℕ) → f.left ≡ suc n → P.next f.task f.progress.answers ≡ LookAt l p
        → visible_at P.file f.progress.own f.progress.kids p ≡ Holds b m → UnderWay w P root base R names fs (saw_contents w f n l p b m)
    present_look n l p b m e h v =
        goes_on _ _ n (sees_contents w P U.room (tasks_of fs) f.task n f.progress f.seen l p b m h v (runs_with n e)) refl
        (needs_of-end f.seen (Looked l p) (contents_stamp w p b m l) refl)

    pub listing_made : (n : ℕ) (d : Path) (es : List Path) → f.left ≡ suc n → P.next f.task f.progress.answers ≡ ListOf d
        → listing w P d ≡ Some es → UnderWay w P root base R names fs (has_listed w f n d es)
    listing_made n d es e h v =
        goes_on _ _ n (lists_entries w P U.room (tasks_of fs) f.task n f.progress f.seen d es h v (runs_with n e)) refl
        (needs_of-end f.seen (Listed d) (Hash (w.hash (w.listing_bytes es))) refl)

    pub write_made : (n : ℕ) (p : Path) (b : List ℕ) → f.left ≡ suc n → P.next f.task f.progress.answers ≡ Write p b
        → UnderWay w P root base R names fs (has_written f n p b)
    write_made n p b e h = goes_on _ _ n (writes_contents w P U.room (tasks_of fs) f.task n f.progress f.seen p b h (runs_with n e)) refl refl

    -- ---- a require

    -- below the stack a recorded task has its own evaluation
    pub placed_below : (u : Task) → IsRecorded R u → evaluation_with U.room w P (f.task ∷ tasks_of fs) u ≡ evaluation w P u
    placed_below u k =
        known_placed w P R names (f.task ∷ tasks_of fs) U.table.few U.table.counted U.once U.stacked u
        (record { recorded = k; right = all_right w P R names U.table u k })
        (λ a i q. apart a i (reached_recorded w P R names U.table q k)) U.room (less w.most_tasks (length (tasks_of fs)) U.room U.is_room)
      where
        apart : (a : Task) → among a (f.task ∷ tasks_of fs) ≡ true → IsRecorded R a → ⊥
        apart a i q = none_some (R a) q.kept (U.unrecorded a i) q.is

        less : (a b c : ℕ) → a - b ≡ suc c → a - suc b ≤ c
        less a b c e = omega arith

    pub require_answered : (n : ℕ) (h : How) (u : Task) (r : Record) (v : Value) → f.left ≡ suc n → P.next f.task f.progress.answers ≡ Require h u
        → R u ≡ Some r → r.outcome ≡ Ended v → UnderWay w P root base R names fs (was_answered w P f n h u v)
    require_answered n h u r v e q k o = record {
      table = U.table;
      waits = U.waits;
      room = U.room;
      is_room = U.is_room;
      runs = subst (λ x. IsRunning w P U.room (tasks_of fs) f.task n (required f.progress x (output_answer v h))
          (f.seen ++ observed (Required h u) (value_stamp w v h) ∷ []))
          (placed_below u known)
          (is_answered w P U.room (tasks_of fs) f.task n f.progress f.seen h u v q
          (ap outcome_of (placed_below u known) ∙ sym (ap (λ z. z.outcome) (U.table.right u r k)) ∙ o) (runs_with n e));
      kids = (kids_answered w P R f U.kids.0 n h u v known, U.kids.1);
      order = sym (adds_nothing w P R names U.table u known)
          ∙ ap (entered (evaluation w P u)) U.order
          ∙ sym (entered_all-end f.progress.kids (evaluation w P u) (enter f.task (entered_by base fs)));
      unrecorded = U.unrecorded;
      once = U.once;
      stacked = U.stacked;
      covered = U.covered;
    }
      where
        known : IsRecorded R u
        known = record { kept = r; is = k }

    -- a require of a new task
    pub require_descends : (n : ℕ) (h : How) (u : Task) → f.left ≡ suc n → P.next f.task f.progress.answers ≡ Require h u
        → among u names ≡ false → length names < w.most_tasks → UnderWay w P root base R (names ++ u ∷ []) (set_aside f n ∷ fs) (begun w u)
    require_descends n h u e q new few = record {
      table = one_more_entered w P R names U.table u new few;
      waits = waits h U.room U.is_room (runs_with n e) q U.waits;
      room = U.room - 1;
      is_room = less w.most_tasks (length (tasks_of fs)) U.room (length names) U.is_room
          (no_more (f.task ∷ tasks_of fs) names U.once U.stacked) few;
      runs = starts w P (U.room - 1) (f.task ∷ tasks_of fs) u apart;
      kids = (
        record { kids = refl; recorded = λ x i. clash false i refl },
        (record { kids = U.kids.0.kids; recorded = U.kids.0.recorded }, U.kids.1),
      );
      order = sym (ap (λ b. cond b names (names ++ u ∷ [])) new) ∙ ap (enter u) U.order;
      unrecorded = λ t i. none t (among_split t u (f.task ∷ tasks_of fs) i);
      once = (apart, U.once);
      stacked = λ t i. here t (among_split t u (f.task ∷ tasks_of fs) i);
      covered = λ t i. covers t (among_either t names (u ∷ []) i);
    }
      where
        less : (a b c d : ℕ) → a - b ≡ suc c → suc b ≤ d → d < a → a - suc b ≡ suc (c - 1)
        less a b c d x y z = omega arith

        apart : among u (f.task ∷ tasks_of fs) ≡ false
        apart = go (among u (f.task ∷ tasks_of fs)) refl
          where
            go : (b : Bool) → among u (f.task ∷ tasks_of fs) ≡ b → among u (f.task ∷ tasks_of fs) ≡ false
            go true i = clash (among u names) (U.stacked u i) new
            go false i = i

        none : (t : Task) → (t ≡ u) ⊎ (among t (f.task ∷ tasks_of fs) ≡ true) → R t ≡ None
        none t (inl i) = subst (λ z. R z ≡ None) (sym i) (new_unrecorded w P R names U.table u new)
        none t (inr i) = U.unrecorded t i

        here : (t : Task) → (t ≡ u) ⊎ (among t (f.task ∷ tasks_of fs) ≡ true) → among t (names ++ u ∷ []) ≡ true
        here t (inl i) = subst (λ z. among z (names ++ u ∷ []) ≡ true) (sym i) (among_right u names (u ∷ []) (among_here u []))
        here t (inr i) = among_left t names (u ∷ []) (U.stacked t i)

        old : (t : Task) → IsRecorded R t ⊎ (among t (f.task ∷ tasks_of fs) ≡ true) → IsRecorded R t ⊎ (among t (u ∷ f.task ∷ tasks_of fs) ≡ true)
        old t (inl i) = inl i
        old t (inr i) = inr (among_there t u (f.task ∷ tasks_of fs) i)

        covers : (t : Task) → (among t names ≡ true) ⊎ (among t (u ∷ []) ≡ true) → IsRecorded R t ⊎ (among t (u ∷ f.task ∷ tasks_of fs) ≡ true)
        covers t (inl i) = old t (U.covered t i)
        covers t (inr i) =
            inr (subst (λ z. among z (u ∷ f.task ∷ tasks_of fs) ≡ true) (sym (among_one t u i)) (among_here u (f.task ∷ tasks_of fs)))

-- a table with the same records
pub same_under_way : (w : World) (P : Project) (root : Task) (base : List Task) (R S : Task → Option Record) (names : List Task) (fs : List Frame)
    (f : Frame) → ((t : Task) → S t ≡ R t) → UnderWay w P root base R names fs f → UnderWay w P root base S names fs f
same_under_way w P root base R S names fs f e U = subst (λ X. UnderWay w P root base X names fs f) (λ i t. sym (e t) i) U
