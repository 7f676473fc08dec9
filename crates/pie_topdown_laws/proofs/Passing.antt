-- One more observation of an old record that has the stamp that it would get now: the run now goes on as the run then did.
use Rattle.std.proofs.Common.{ℕ, suc, ◌≡◌, Option, Some, None, option_map, List, [], ◌∷◌, ◌++◌, map, sym, ◌∙◌, ap, ap₂, subst, refl}
use Rattle.pie_model.specs.Paths.{Path, kind_of}
use Rattle.pie_model.specs.declared.words.Kind.TheVariants.{Source}
use Rattle.pie_model.specs.Tasks.{Task, Value}
use Rattle.pie_model.specs.declared.words.Look.{Look}
use Rattle.pie_model.specs.declared.words.How.{How}
use Rattle.pie_model.specs.declared.words.Answer.{Answer}
use Rattle.pie_model.specs.declared.words.Answer.TheVariants.{Entries}
use Rattle.pie_model.specs.declared.words.Event.TheVariants.{LookAt, ListOf, Require}
use Rattle.pie_model.specs.Trees.{Node, Trace, needs, outcome_of, writes_of}
use Rattle.pie_model.specs.declared.words.Seen.{Seen}
use Rattle.pie_model.specs.declared.words.Seen.TheVariants.{Nothing, Holds, Clashing}
use Rattle.pie_model.specs.declared.words.Outcome.{Outcome}
use Rattle.pie_model.specs.declared.words.Outcome.TheVariants.{Ended, Failed, Cycled, Many}
use Rattle.pie_model.specs.Seen.{first_write, provided, seen_file, visible_by, visible_at}
use Rattle.pie_model.specs.Evaluation.{World, Project, Progress, answered, required, output_answer, listing, on_seen, on_listing, on_outcome}
use Rattle.pie_model.specs.Evaluation.{evaluation_with, evaluation}
use Rattle.pie_model.specs.Records.{Stamp, Hash, Query, Looked, Listed, Required, Observation, observed, observations_of, look_stamp, value_stamp, outcome_stamp}
use Rattle.pie_model.specs.Records.{hashed, needs_of, Record}
use Rattle.pie_model.specs.Running.{rest_of_run, IsRunning}
use Rattle.pie_model.specs.StampNow.{by_evaluation, told_of, look_now, listing_now, outcome_now, stamp_now}
use Rattle.pie_model.specs.Separate.{StampsSeparate, ListingsDiffer, AllMet, MetSeen, MetOutcome, NeverWritesWhatItSaw}
use Rattle.pie_model.specs.inner.Stack.{Frame}
use Rattle.pie_model.proofs.LooksLemmas.{first_write_prefix, first_write-hashed, hashed-append, looked_now, unwritten_later, seen_stamp, look_now_is, some_same}
use Rattle.pie_model.proofs.LooksLemmas.{seen_answer, looks_alike, listings_alike, outputs_alike}
use Rattle.pie_model.proofs.RunningLemmas.{sees_nothing, sees_contents, lists_entries, is_answered}
use Rattle.pie_step_laws.specs.Frames.{gone_on, has_listed, was_answered}
use Rattle.pie_topdown_laws.specs.Beside.{asking, Observes, IsBeside}
use Rattle.pie_topdown_laws.specs.Beside.Observes.{nothing, contents, entries, output}
use Rattle.pie_topdown_laws.proofs.Beside.{never_some, first_same, rest_same, Then, undone, old_next, then_at, met_at, ran_with}

-- the stamp of what was observed first
stamp_same : (q : Query) (s t : Stamp) (os ps : List Observation) → observed q s ∷ os ≡ observed q t ∷ ps → s ≡ t
stamp_same q s t os ps h = ap (λ o. o.stamp) (first_same (observed q s) (observed q t) os ps h)

-- one more observation was passed: the frame goes on as this one
pub record IsPassed (w : World) (before now : Project) (Met : List ℕ → Type 0) (room : ℕ) (above : List Task) (r : Record) (f : Frame) (o : Observation)
    (os : List Observation) : Type 0 where
  pub to : Frame
  pub observes : Observes w now f to
  pub beside : IsBeside w before now Met room above r to os
  pub seen : to.seen ≡ f.seen ++ o ∷ []
  pub task : to.task ≡ f.task

module _ (w : World) (before now : Project) (Met : List ℕ → Type 0) (sep : StampsSeparate w before now Met) (differ : ListingsDiffer w)
    (room : ℕ) (above : List Task) (r : Record) (f : Frame) (meaning : before.next f.task ≡ now.next f.task)
    (polite : NeverWritesWhatItSaw (before.next f.task)) (kids : f.progress.kids ≡ map (evaluation w now) (needs_of f.seen)) (n : ℕ)
    (left : f.left ≡ suc n) (st : Stamp) (os : List Observation) where
  abbrev Passed : Query → Type 0
  Passed q = IsPassed w before now Met room above r f (observed q st) os

  -- ---- a look

  module _ (l : Look) (p : Path) (B : IsBeside w before now Met room above r f (observed (Looked l p) st ∷ os))
      (asks : now.next f.task f.progress.answers ≡ LookAt l p) where
    abbrev go0 : Progress → Trace
    go0 = rest_of_run w before B.old_room [] f.task n

    abbrev go : Progress → Trace
    go = rest_of_run w now room above f.task n

    abbrev reply : Seen → Answer
    reply = seen_answer w before now Met sep p l

    -- what was seen then
    record Was (s : Seen) : Type 0 where
      stamp : seen_stamp w l p s ≡ Some st
      met : MetSeen Met l s
      comes : observations_of w (go0 (answered B.progress (reply s))) ≡ os
      later : AllMet w Met (go0 (answered B.progress (reply s)))
      wrote : r.writes ≡ hashed w (B.progress.own ++ writes_of (go0 (answered B.progress (reply s))))
      ran : IsRunning w before B.old_room [] f.task n (answered B.progress (reply s)) (f.seen ++ observed (Looked l p) st ∷ [])

    more_seen : (s : Stamp) → s ≡ st → f.seen ++ observed (Looked l p) s ∷ [] ≡ f.seen ++ observed (Looked l p) st ∷ []
    more_seen s e = ap (λ z. f.seen ++ observed (Looked l p) z ∷ []) e

    was : (s : Seen) → visible_at before.file B.progress.own B.progress.kids p ≡ s → Then w before now Met room above r f _ B (on_seen w f.task l p B.progress go0 s)
        → Was s
    was Nothing v H =
        let e = stamp_same (Looked l p) _ st _ os H.comes in
        record {
          stamp = ap Some e;
          met = H.met.0;
          comes = rest_same _ _ _ os H.comes;
          later = H.met.1;
          wrote = H.wrote;
          ran = subst (IsRunning w before B.old_room [] f.task n (answered B.progress (reply Nothing))) (more_seen _ e)
              (sees_nothing w before B.old_room [] f.task n B.progress f.seen l p (old_next w before now Met room above r f _ B meaning (LookAt l p) asks) v
              (ran_with w before now Met room above r f _ B meaning n left));
        }
    was (Holds b m) v H =
        let e = stamp_same (Looked l p) _ st _ os H.comes in
        record {
          stamp = ap Some e;
          met = H.met.0;
          comes = rest_same _ _ _ os H.comes;
          later = H.met.1;
          wrote = H.wrote;
          ran = subst (IsRunning w before B.old_room [] f.task n (answered B.progress (reply (Holds b m)))) (more_seen _ e)
              (sees_contents w before B.old_room [] f.task n B.progress f.seen l p b m
              (old_next w before now Met room above r f _ B meaning (LookAt l p) asks) v (ran_with w before now Met room above r f _ B meaning n left));
        }
    was Clashing v H = undone w before now Met room above r f _ B _ H refl

    -- what is seen now
    record Is (s : Seen) : Type 0 where
      stamp : seen_stamp w l p s ≡ Some st
      met : MetSeen Met l s
      later : AllMet w Met (go (answered f.progress (reply s)))
      observes : Observes w now f (gone_on f (answered f.progress (reply s)) (f.seen ++ observed (Looked l p) (look_stamp w l p s) ∷ []) n)
      same : look_stamp w l p s ≡ st

    is : (s : Seen) → visible_at now.file f.progress.own f.progress.kids p ≡ s → seen_stamp w l p s ≡ Some st
        → AllMet w Met (on_seen w f.task l p f.progress go s) → Is s
    is Nothing v e m = record { stamp = e; met = m.0; later = m.1; observes = nothing n l p left asks v; same = some_same _ _ e }
    is (Holds b k) v e m = record { stamp = e; met = m.0; later = m.1; observes = contents n l p b k left asks v; same = some_same _ _ e }
    is Clashing v e m = never_some st e

    -- what is written first in the whole record is what was written so far
    own_so_far : (s : Seen) → Was s → first_write p r.writes ≡ option_map w.hash (first_write p f.progress.own)
    own_so_far s W =
        ap (first_write p) (W.wrote ∙ hashed-append w B.progress.own (writes_of (go0 (answered B.progress (reply s)))))
        ∙ first_write_prefix p (hashed w B.progress.own) (hashed w (writes_of (go0 (answered B.progress (reply s)))))
        (first_write-hashed w p (writes_of (go0 (answered B.progress (reply s))))
        ∙ ap (option_map w.hash) (unwritten_later w before (evaluation_with B.old_room w before (f.task ∷ [])) f.task polite p n
        (answered B.progress (reply s))
        (looked_now (before.next f.task) l p B.progress.answers (reply s) (old_next w before now Met room above r f _ B meaning (LookAt l p) asks))))
        ∙ first_write-hashed w p B.progress.own
        ∙ ap (λ z. option_map w.hash (first_write p z)) B.own

    looked : (s s0 : Seen) → (kind_of p ≡ Source → seen_file (now.file p) ≡ s) → (kind_of p ≡ Source → seen_file (before.file p) ≡ s0)
        → Is s → Was s0 → Passed (Looked l p)
    looked s s0 src src0 I W = record {
      to = gone_on f (answered f.progress (reply s)) (f.seen ++ observed (Looked l p) (look_stamp w l p s) ∷ []) n;
      observes = I.observes;
      beside = record {
        was = B.was;
        done = B.done;
        old_room = B.old_room;
        is_old_room = B.is_old_room;
        progress = answered B.progress (reply s0);
        ran = subst (IsRunning w before B.old_room [] f.task n (answered B.progress (reply s0))) (sym (more_seen _ I.same)) W.ran;
        comes = W.comes;
        answers = ap₂ (λ x y. x ++ y ∷ []) B.answers
            (sym (looks_alike w before now Met sep p l s s0 I.met W.met src src0 (I.stamp ∙ sym W.stamp)));
        own = B.own;
        met_then = W.later;
        met_now = I.later;
      };
      seen = more_seen _ I.same;
      task = refl;
    }

    pub look_passes : look_now w now (by_evaluation w now) r.writes (needs_of f.seen) l p (kind_of p) ≡ Some st → Passed (Looked l p)
    look_passes agree = looked s s0 (λ k. sym (ap (visible_by now.file f.progress.own f.progress.kids p) k))
        (λ k. sym (ap (visible_by before.file B.progress.own B.progress.kids p) k)) I W
      where
        s : Seen
        s = visible_at now.file f.progress.own f.progress.kids p

        s0 : Seen
        s0 = visible_at before.file B.progress.own B.progress.kids p

        W : Was s0
        W = was s0 refl (then_at w before now Met room above r f _ B meaning n (LookAt l p) left asks)

        I : Is s
        I = is s refl (sym (look_now_is w now (by_evaluation w now) r.writes f.progress.own (needs_of f.seen) f.progress.kids l p (kind_of p) refl
            (own_so_far s0 W) (ap (λ ks. told_of w (provided ks p)) (sym kids))) ∙ agree)
            (met_at w before now Met room above r f _ B meaning n (LookAt l p) left asks)

  -- ---- a listing

  module _ (d : Path) (B : IsBeside w before now Met room above r f (observed (Listed d) st ∷ os))
      (asks : now.next f.task f.progress.answers ≡ ListOf d) where
    list_both : (es es0 : Option (List Path)) → listing w now d ≡ es → listing w before d ≡ es0 → listing_now w es ≡ Some st
        → AllMet w Met (on_listing f.task d f.progress (rest_of_run w now room above f.task n) es)
        → Then w before now Met room above r f _ B (on_listing f.task d B.progress (rest_of_run w before B.old_room [] f.task n) es0) → Passed (Listed d)
    list_both es None v v0 e m H = undone w before now Met room above r f _ B _ H refl
    list_both None (Some es0) v v0 e m H = never_some st e
    list_both (Some es) (Some es0) v v0 e m H = record {
      to = has_listed w f n d es;
      observes = entries n d es left asks v;
      beside = record {
        was = B.was;
        done = B.done;
        old_room = B.old_room;
        is_old_room = B.is_old_room;
        progress = answered B.progress (Entries es0);
        ran = subst (λ z. IsRunning w before B.old_room [] f.task n (answered B.progress (Entries es0)) (f.seen ++ observed (Listed d) z ∷ [])) (sym same)
            (lists_entries w before B.old_room [] f.task n B.progress f.seen d es0
            (old_next w before now Met room above r f _ B meaning (ListOf d) asks) v0 (ran_with w before now Met room above r f _ B meaning n left));
        comes = rest_same _ _ _ os H.comes;
        answers = ap₂ (λ x y. x ++ Entries y ∷ []) B.answers
            (sym (listings_alike w before now Met sep differ d es es0 v v0 m.0 H.met.0 same));
        own = B.own;
        met_then = H.met.1;
        met_now = m.1;
      };
      seen = ap (λ z. f.seen ++ observed (Listed d) z ∷ []) (some_same _ _ e);
      task = refl;
    }
      where
        same : Hash (w.hash (w.listing_bytes es)) ≡ Hash (w.hash (w.listing_bytes es0))
        same = some_same _ _ e ∙ sym (stamp_same (Listed d) _ st _ os H.comes)

    pub list_passes : listing_now w (listing w now d) ≡ Some st → Passed (Listed d)
    list_passes agree =
        list_both (listing w now d) (listing w before d) refl refl agree
        (met_at w before now Met room above r f _ B meaning n (ListOf d) left asks)
        (then_at w before now Met room above r f _ B meaning n (ListOf d) left asks)

  -- ---- a require

  module _ (h : How) (u : Task) (B : IsBeside w before now Met room above r f (observed (Required h u) st ∷ os))
      (asks : now.next f.task f.progress.answers ≡ Require h u) (placed : evaluation_with room w now (f.task ∷ above) u ≡ evaluation w now u) where
    abbrev kid0 : Node
    kid0 = evaluation_with B.old_room w before (f.task ∷ []) u

    require_both : (v v0 : Value) → outcome_of (evaluation w now u) ≡ Ended v → outcome_of kid0 ≡ Ended v0 → value_stamp w v h ≡ st
        → AllMet w Met (needs h u (evaluation w now u) (rest_of_run w now room above f.task n (required f.progress (evaluation w now u) (output_answer v h))))
        → Then w before now Met room above r f _ B
        (needs h u kid0 (rest_of_run w before B.old_room [] f.task n (required B.progress kid0 (output_answer v0 h)))) → Passed (Required h u)
    require_both v v0 q q0 e m H = record {
      to = was_answered w now f n h u v;
      observes = output n h u v left asks q;
      beside = record {
        was = B.was;
        done = B.done;
        old_room = B.old_room;
        is_old_room = B.is_old_room;
        progress = required B.progress kid0 (output_answer v0 h);
        ran = subst (λ z. IsRunning w before B.old_room [] f.task n (required B.progress kid0 (output_answer v0 h))
            (f.seen ++ observed (Required h u) z ∷ [])) (sym same)
            (is_answered w before B.old_room [] f.task n B.progress f.seen h u v0
            (old_next w before now Met room above r f _ B meaning (Require h u) asks) q0 (ran_with w before now Met room above r f _ B meaning n left));
        comes = rest_same _ _ _ os H.comes;
        answers = ap₂ (λ x y. x ++ y ∷ []) B.answers
            (sym (outputs_alike w before now Met sep v v0 h (subst (MetOutcome Met) q m.0) (subst (MetOutcome Met) q0 H.met.0) same));
        own = B.own;
        met_then = H.met.1;
        met_now = m.1;
      };
      seen = ap (λ z. f.seen ++ observed (Required h u) z ∷ []) e;
      task = refl;
    }
      where
        same : value_stamp w v h ≡ value_stamp w v0 h
        same = e ∙ sym (sym (ap (outcome_stamp w h) q0) ∙ stamp_same (Required h u) _ st _ os H.comes)

    require_then : (v : Value) (e0 : Outcome) → outcome_of (evaluation w now u) ≡ Ended v → outcome_of kid0 ≡ e0 → value_stamp w v h ≡ st
        → AllMet w Met (needs h u (evaluation w now u) (rest_of_run w now room above f.task n (required f.progress (evaluation w now u) (output_answer v h))))
        → Then w before now Met room above r f _ B (needs h u kid0 (on_outcome h B.progress kid0 (rest_of_run w before B.old_room [] f.task n) e0))
        → Passed (Required h u)
    require_then v (Ended v0) q q0 e m H = require_both v v0 q q0 e m H
    require_then v (Failed x k) q q0 e m H = undone w before now Met room above r f _ B _ H refl
    require_then v (Cycled ts) q q0 e m H = undone w before now Met room above r f _ B _ H refl
    require_then v Many q q0 e m H = undone w before now Met room above r f _ B _ H refl

    require_now : (e : Outcome) → outcome_of (evaluation w now u) ≡ e → outcome_now w h e ≡ Some st
        → AllMet w Met (needs h u (evaluation w now u) (on_outcome h f.progress (evaluation w now u) (rest_of_run w now room above f.task n) e))
        → Passed (Required h u)
    require_now (Ended v) q e m =
        require_then v (outcome_of kid0) q refl (some_same _ _ e) m (then_at w before now Met room above r f _ B meaning n (Require h u) left asks)
    require_now (Failed x k) q e m = never_some st e
    require_now (Cycled ts) q e m = never_some st e
    require_now Many q e m = never_some st e

    pub require_passes : outcome_now w h (outcome_of (evaluation w now u)) ≡ Some st → Passed (Required h u)
    require_passes agree =
        require_now (outcome_of (evaluation w now u)) refl agree
        (subst (λ c. AllMet w Met (needs h u c (on_outcome h f.progress c (rest_of_run w now room above f.task n) (outcome_of c)))) placed
        (met_at w before now Met room above r f _ B meaning n (Require h u) left asks))

  -- ---- any query

  pub passes : (q : Query) → IsBeside w before now Met room above r f (observed q st ∷ os) → now.next f.task f.progress.answers ≡ asking q
      → ((h : How) (u : Task) → q ≡ Required h u → evaluation_with room w now (f.task ∷ above) u ≡ evaluation w now u)
      → stamp_now w now (by_evaluation w now) r.writes (needs_of f.seen) q ≡ Some st → Passed q
  passes (Looked l p) B asks placed agree = look_passes l p B asks agree
  passes (Listed d) B asks placed agree = list_passes d B asks agree
  passes (Required h u) B asks placed agree = require_passes h u B asks (placed h u refl) agree
