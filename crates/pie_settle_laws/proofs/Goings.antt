-- Each step of a running task keeps it going.
use Rattle.std.proofs.Common.{ℕ, suc, ◌≤◌, ◌<◌, ◌-◌, ◌≡◌, Bool, true, false, Option, Some, List, [], ◌∷◌, ◌++◌, map, length, ◌⊎◌, inl, inr, sym, ◌∙◌, ap}
use Rattle.std.proofs.Common.{subst, refl, arith}
use Rattle.pie_model.specs.Paths.{Path, among}
use Rattle.pie_model.specs.Tasks.{Task, Value}
use Rattle.pie_model.specs.declared.words.Look.{Look}
use Rattle.pie_model.specs.declared.words.How.{How}
use Rattle.pie_model.specs.declared.words.Event.TheVariants.{LookAt, ListOf, Write, Require}
use Rattle.pie_model.specs.Trees.{outcome_of}
use Rattle.pie_model.specs.declared.words.Seen.TheVariants.{Nothing, Holds}
use Rattle.pie_model.specs.declared.words.Outcome.TheVariants.{Ended}
use Rattle.pie_model.specs.Seen.{visible_at}
use Rattle.pie_model.specs.Evaluation.{World, Project, Progress, required, output_answer, listing, evaluation_with, evaluation}
use Rattle.pie_model.specs.Records.{Record, Absent, Hash, Looked, Listed, Required, Observation, observed, contents_stamp, value_stamp, needs_of}
use Rattle.pie_model.specs.inner.Consistent.{IsSettled}
use Rattle.pie_model.specs.Running.{IsRunning}
use Rattle.pie_model.specs.inner.Stack.{Frame, tasks_of}
use Rattle.pie_model.specs.inner.Stack.IsWaiting.{nobody, waits}
use Rattle.pie_model.proofs.Basics.{clash, among_here, among_either}
use Rattle.pie_model.proofs.RunningLemmas.{starts, sees_nothing, sees_contents, lists_entries, writes_contents, is_answered}
use Rattle.pie_model.proofs.PlacedLemmas.{known_placed}
use Rattle.pie_step_laws.specs.Frames.{begun, gone_on, saw_nothing, saw_contents, has_listed, has_written, was_answered, set_aside}
use Rattle.pie_step_laws.proofs.Tables.{among_one, no_more}
use Rattle.pie_step_laws.proofs.StepLemmas.{needs_of-append, needs_of-end, map_end}
use Rattle.pie_settle_laws.specs.Known.{IsKnown, AreCounted}
use Rattle.pie_settle_laws.specs.Going.{IsGoing, before_wait, AreBusy}

module _ (w : World) (P : Project) (R : Task → Option Record) (busy : Task → Type 0) where
  pub base_begins : (t : Task) → 0 < w.most_tasks → IsGoing w P R busy t [] (begun w t)
  base_begins t some = record {
    waits = nobody;
    room = w.most_tasks - 1;
    is_room = no_less w.most_tasks some;
    runs = starts w P (w.most_tasks - 1) [] t refl;
    whole_room = w.most_tasks - 1;
    is_whole_room = one_less w.most_tasks some;
    alone = starts w P (w.most_tasks - 1) [] t refl;
    kids = refl;
    settled = λ u i. clash false i refl;
    once = (refl, tt);
  }
    where
      no_less : (a : ℕ) → 0 < a → (a - length {A = Task} []) ≡ suc (a - 1)
      no_less a k = omega arith

      one_less : (a : ℕ) → 0 < a → a ≡ suc (a - 1)
      one_less a k = omega arith

  module _ (base : Task) (fs : List Frame) (f : Frame) (G : IsGoing w P R busy base fs f) where
    -- it runs with one event more, below the others and alone
    pub runs_with : (n : ℕ) → f.left ≡ suc n → IsRunning w P G.room (tasks_of fs) f.task (suc n) f.progress f.seen
    runs_with n e = subst (λ m. IsRunning w P G.room (tasks_of fs) f.task m f.progress f.seen) e G.runs

    pub alone_with : (n : ℕ) → f.left ≡ suc n → IsRunning w P G.whole_room [] f.task (suc n) f.progress f.seen
    alone_with n e = subst (λ m. IsRunning w P G.whole_room [] f.task m f.progress f.seen) e G.alone

    pub new_begins : (held : List Task) → AreBusy busy held (tasks_of (f ∷ fs)) → (n : ℕ) (h : How) (u : Task) → f.left ≡ suc n
        → P.next f.task f.progress.answers ≡ Require h u → among u held ≡ false → length held < w.most_tasks
        → IsGoing w P R busy base (set_aside f n ∷ fs) (begun w u)
    new_begins held B n h u e q new few = record {
      waits = waits h G.room G.is_room (runs_with n e) q G.waits;
      room = G.room - 1;
      is_room = less w.most_tasks (length (tasks_of fs)) G.room (length held) G.is_room (no_more (tasks_of (f ∷ fs)) held G.once B.counted) few;
      runs = starts w P (G.room - 1) (f.task ∷ tasks_of fs) u apart;
      whole_room = G.whole_room;
      is_whole_room = G.is_whole_room;
      alone = starts w P G.whole_room [] u refl;
      kids = refl;
      settled = λ x i. clash false i refl;
      once = (apart, G.once);
    }
      where
        less : (a b c d : ℕ) → a - b ≡ suc c → suc b ≤ d → d < a → a - suc b ≡ suc (c - 1)
        less a b c d x y z = omega arith

        apart : among u (f.task ∷ tasks_of fs) ≡ false
        apart = go (among u (f.task ∷ tasks_of fs)) refl
          where
            go : (b : Bool) → among u (f.task ∷ tasks_of fs) ≡ b → among u (f.task ∷ tasks_of fs) ≡ false
            go true i = clash (among u held) (B.counted u i) new
            go false i = i

    pub still_waits : (n : ℕ) → f.left ≡ suc n → IsGoing w P R busy base fs (before_wait (set_aside f n))
    still_waits n e = subst (λ m. IsGoing w P R busy base fs (gone_on f f.progress f.seen m)) e G

    goes_on : (g : Progress) (seen : List Observation) (n : ℕ) → IsRunning w P G.room (tasks_of fs) f.task n g seen
        → IsRunning w P G.whole_room [] f.task n g seen → g.kids ≡ f.progress.kids → needs_of seen ≡ needs_of f.seen
        → IsGoing w P R busy base fs (gone_on f g seen n)
    goes_on g seen n run alone k s = record {
      waits = G.waits;
      room = G.room;
      is_room = G.is_room;
      runs = run;
      whole_room = G.whole_room;
      is_whole_room = G.is_whole_room;
      alone = alone;
      kids = k ∙ G.kids ∙ ap (map (evaluation w P)) (sym s);
      settled = λ u i. G.settled u (subst (λ z. among u z ≡ true) s i);
      once = G.once;
    }

    pub absent_look : (n : ℕ) (l : Look) (p : Path) → f.left ≡ suc n → P.next f.task f.progress.answers ≡ LookAt l p
        → visible_at P.file f.progress.own f.progress.kids p ≡ Nothing → IsGoing w P R busy base fs (saw_nothing f n l p)
    absent_look n l p e h v =
        goes_on _ _ n (sees_nothing w P G.room (tasks_of fs) f.task n f.progress f.seen l p h v (runs_with n e))
        (sees_nothing w P G.whole_room [] f.task n f.progress f.seen l p h v (alone_with n e)) refl (needs_of-end f.seen (Looked l p) Absent refl)

    pub present_look : (n : ℕ) (l : Look) (p : Path) (b : List ℕ) (m : ℕ) → f.left ≡ suc n → P.next f.task f.progress.answers ≡ LookAt l p
        → visible_at P.file f.progress.own f.progress.kids p ≡ Holds b m → IsGoing w P R busy base fs (saw_contents w f n l p b m)
    present_look n l p b m e h v =
        goes_on _ _ n (sees_contents w P G.room (tasks_of fs) f.task n f.progress f.seen l p b m h v (runs_with n e))
        (sees_contents w P G.whole_room [] f.task n f.progress f.seen l p b m h v (alone_with n e)) refl
        (needs_of-end f.seen (Looked l p) (contents_stamp w p b m l) refl)

    pub listing_made : (n : ℕ) (d : Path) (es : List Path) → f.left ≡ suc n → P.next f.task f.progress.answers ≡ ListOf d
        → listing w P d ≡ Some es → IsGoing w P R busy base fs (has_listed w f n d es)
    listing_made n d es e h v =
        goes_on _ _ n (lists_entries w P G.room (tasks_of fs) f.task n f.progress f.seen d es h v (runs_with n e))
        (lists_entries w P G.whole_room [] f.task n f.progress f.seen d es h v (alone_with n e)) refl
        (needs_of-end f.seen (Listed d) (Hash (w.hash (w.listing_bytes es))) refl)

    pub write_made : (n : ℕ) (p : Path) (b : List ℕ) → f.left ≡ suc n → P.next f.task f.progress.answers ≡ Write p b
        → IsGoing w P R busy base fs (has_written f n p b)
    write_made n p b e h =
        goes_on _ _ n (writes_contents w P G.room (tasks_of fs) f.task n f.progress f.seen p b h (runs_with n e))
        (writes_contents w P G.whole_room [] f.task n f.progress f.seen p b h (alone_with n e)) refl refl

    -- ---- a require of a settled task

    module _ (held : List Task) (C : AreCounted w R held) (B : AreBusy busy held (tasks_of (f ∷ fs))) (u : Task) (K : IsKnown w P R u)
        (S : IsSettled R busy u) where
      -- below the others and below the running task alone it has its own evaluation
      pub placed_below : evaluation_with G.room w P (f.task ∷ tasks_of fs) u ≡ evaluation w P u
      placed_below =
          known_placed w P R held (f.task ∷ tasks_of fs) C.few C.each G.once B.counted u (record { recorded = K.recorded; right = K.right })
          (λ a i q. S.free a q (B.each a i)) G.room (less w.most_tasks (length (tasks_of fs)) G.room G.is_room)
        where
          less : (a b c : ℕ) → a - b ≡ suc c → a - suc b ≤ c
          less a b c e = omega arith

      running : (a : Task) → among a (f.task ∷ []) ≡ true → among a (tasks_of (f ∷ fs)) ≡ true
      running a i = subst (λ z. among z (tasks_of (f ∷ fs)) ≡ true) (sym (among_one a f.task i)) (among_here f.task (tasks_of fs))

      pub placed_alone : evaluation_with G.whole_room w P (f.task ∷ []) u ≡ evaluation w P u
      placed_alone =
          known_placed w P R held (f.task ∷ []) C.few C.each (refl, tt) (λ a i. B.counted a (running a i)) u
          (record { recorded = K.recorded; right = K.right }) (λ a i q. S.free a q (B.each a (running a i))) G.whole_room
          (less w.most_tasks G.whole_room G.is_whole_room)
        where
          less : (a c : ℕ) → a ≡ suc c → a - 1 ≤ c
          less a c e = omega arith

      needs_answered : (h : How) (v : Value) → needs_of (f.seen ++ observed (Required h u) (value_stamp w v h) ∷ []) ≡ needs_of f.seen ++ u ∷ []
      needs_answered h v = needs_of-append f.seen (observed (Required h u) (value_stamp w v h) ∷ [])

      pub is_told : (n : ℕ) (h : How) (v : Value) → f.left ≡ suc n → P.next f.task f.progress.answers ≡ Require h u
          → outcome_of (evaluation w P u) ≡ Ended v → IsGoing w P R busy base fs (was_answered w P f n h u v)
      is_told n h v e q o = record {
        waits = G.waits;
        room = G.room;
        is_room = G.is_room;
        runs = subst (λ x. IsRunning w P G.room (tasks_of fs) f.task n (required f.progress x (output_answer v h))
            (f.seen ++ observed (Required h u) (value_stamp w v h) ∷ []))
            placed_below
            (is_answered w P G.room (tasks_of fs) f.task n f.progress f.seen h u v q (ap outcome_of placed_below ∙ o) (runs_with n e));
        whole_room = G.whole_room;
        is_whole_room = G.is_whole_room;
        alone = subst (λ x. IsRunning w P G.whole_room [] f.task n (required f.progress x (output_answer v h))
            (f.seen ++ observed (Required h u) (value_stamp w v h) ∷ []))
            placed_alone
            (is_answered w P G.whole_room [] f.task n f.progress f.seen h u v q (ap outcome_of placed_alone ∙ o) (alone_with n e));
        kids = ap (λ z. z ++ evaluation w P u ∷ []) G.kids
            ∙ sym (map_end (evaluation w P) (needs_of f.seen) u)
            ∙ ap (map (evaluation w P)) (sym (needs_answered h v));
        settled = λ x i. go x (among_either x (needs_of f.seen) (u ∷ []) (subst (λ z. among x z ≡ true) (needs_answered h v) i));
        once = G.once;
      }
        where
          go : (x : Task) → (among x (needs_of f.seen) ≡ true) ⊎ (among x (u ∷ []) ≡ true) → IsSettled R busy x
          go x (inl i) = G.settled x i
          go x (inr i) = subst (IsSettled R busy) (sym (among_one x u i)) S

-- what was settled is, though records and busy tasks change
pub still_going : (w : World) (P : Project) (R S : Task → Option Record) (busy busy_after : Task → Type 0) (base : Task) (fs : List Frame) (f : Frame)
    → ((u : Task) → IsSettled R busy u → IsSettled S busy_after u) → IsGoing w P R busy base fs f → IsGoing w P S busy_after base fs f
still_going w P R S busy after base fs f k G = record {
  waits = G.waits;
  room = G.room;
  is_room = G.is_room;
  runs = G.runs;
  whole_room = G.whole_room;
  is_whole_room = G.is_whole_room;
  alone = G.alone;
  kids = G.kids;
  settled = λ u i. k u (G.settled u i);
  once = G.once;
}
