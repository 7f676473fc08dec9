-- A task that reads a file goes on, or fails for a clash or for too many bytes, as in the model.
use Rattle.std.proofs.Common.{◌≡◌, ℕ, suc, ◌-◌, ◌<◌, Bool, true, false, cond, Some, None, List, [], ◌∷◌, ◌++◌, length, map, refl, ap, subst, ◌∙◌}
use Rattle.std.proofs.Common.{arith}
use Rattle.std.proofs.lemmas.Bool.Decides.{nat_tests}
use Rattle.std.specs.Prelude.{◌==◌}
use Rattle.pie_base.specs.declared.fault.FaultKind.TheVariants as faults
use Rattle.pie_value.specs.declared.event.Answer.TheVariants as answers
use Rattle.pie_value.specs.declared.event.By.{By}
use Rattle.pie_value.specs.declared.event.By.TheVariants as stamped
use Rattle.pie_value.specs.declared.event.Event.TheVariants as events
use Rattle.pie_operators.specs.Domain.{fails}
use Rattle.pie_model.specs.declared.words.Event.TheVariants.{Fail}
use Rattle.pie_model.specs.declared.words.FaultKind.TheVariants as model_faults
use Rattle.pie_model.specs.declared.words.Outcome.TheVariants.{Failed}
use Rattle.pie_model.specs.Evaluation.{present_answer}
use Rattle.pie_step_laws.specs.Frames.{saw_contents}
use Rattle.pie_step_laws.specs.UnderWay.{UnderWay, HasEnded}
use Rattle.pie_step_laws.proofs.StepLemmas.{map_end, present_look}
use Rattle.pie_step_laws.proofs.EndLemmas.{failed, ran_out}
use Rattle.pie_model_pipeline.specs.Words.{fault_of, look_by}
use Rattle.pie_model_pipeline.specs.Answers.{answer_of}
use Rattle.pie_model_pipeline.specs.World.{world, next}
use Rattle.pie_builder_laws.proofs.Naming.{canonical_at}
use Rattle.pie_builder_laws.proofs.Coded.{event_is}
use Rattle.pie_fresh.specs.declared.builder.Builder.{Builder}
use Rattle.pie_running.specs.declared.frame.Waiting.{Waiting}
use Rattle.pie_running.specs.declared.looking.Sight.{Sight}
use Rattle.pie_running.specs.declared.looking.Sight.TheVariants.{File, Long, Clash as Clashes}
use Rattle.pie_running.specs.inner.Sights.{found_in, most_content, Sees, SightSays}
use Rattle.pie_running.specs.inner.Looks.{IsToldSight}
use Rattle.pie_running.specs.inner.Noted.{Noted, file_dep, observed, read_kind}
use Rattle.pie_running.specs.inner.Told.{HasFailed, IsToldReading, too_much}
use Rattle.pie_fresh.specs.inner.Means.{Site, project_of, table_of, names_of, IsAsking, TurnMeans}
use Rattle.pie_fresh.proofs.Seeing.{seen_visible}
use Rattle.pie_running.proofs.FrameLemmas.{one_less}
use Rattle.pie_running.specs.declared.frame.Told.{Told}
use Rattle.pie_fresh.specs.inner.Turns.{turned}
use Rattle.pie_fresh.specs.inner.Sights.{SeesOut}
use Rattle.pie_fresh.proofs.Telling.{failed_turn, read_turn}
use Rattle.pie_running.proofs.TooLong.{comes_big}

-- the answer of the model to a task that reads, as the language has it
bytes_told : (by : By) (bytes : List ℕ) → answer_of (present_answer world bytes (look_by by)) ≡ answers.Bytes (Some bytes)
bytes_told stamped.Hash bytes = refl
bytes_told stamped.Mark bytes = refl
bytes_told stamped.Raw bytes = refl

none_left : (n : ℕ) → (n == 1) ≡ true → n - 1 ≡ 0
none_left n e = grind (arith, nat_tests)

some_left : (n : ℕ) → 0 < n → (n == 1) ≡ false → n - 1 ≡ suc (n - 2)
some_left n some e = grind (arith, nat_tests)

module _ (s : Site) (b : Builder) (w : Waiting) (path : List ℕ) (by : By) (A : IsAsking s b w (events.Read path by)) (left : 0 < w.notes.left)
    (f : List ℕ × ℕ) (sees : Sees s.directory path (SeesOut b.ledger.stage b.ledger.rows w.notes path) (Some (Some f))) (long : most_content < length f.0) where
  -- the task is told the bytes
  under : UnderWay world (project_of s) s.root s.base (table_of b.ledger) (names_of b.ledger) A.means.waiting
      (saw_contents world A.means.running (w.notes.left - 1) (look_by by) path f.0 f.1)
  under =
      present_look world (project_of s) s.root s.base (table_of b.ledger) (names_of b.ledger) A.means.waiting A.means.running A.means.under
      (w.notes.left - 1) (look_by by) path f.0 f.1 (A.means.top.left ∙ one_less w.notes.left left) A.asks
      (seen_visible s b w.code.now w.machine w.notes A.means path (Some (Some f)) sees)

  -- and what it does next is to fail for them
  fails_next : (project_of s).next A.means.running.task (A.means.running.progress.answers ++ present_answer world f.0 (look_by by) ∷ []) ≡ Fail model_faults.Big
  fails_next =
      let given = A.means.running.progress.answers in
      let told : map answer_of (given ++ present_answer world f.0 (look_by by) ∷ []) ≡ map answer_of given ++ answers.Bytes (Some f.0) ∷ []
      = map_end answer_of given (present_answer world f.0 (look_by by)) ∙ ap (λ y. map answer_of given ++ y ∷ []) (bytes_told by f.0) in
      let big = comes_big f.0 long w.code.now w.notes.task.args (map answer_of given) path by A.came.state A.came.is in
      ap (λ t. next s.functions t (given ++ present_answer world f.0 (look_by by) ∷ [])) A.means.top.task
      ∙ event_is s.functions s.codes w.notes.task A.means.top.function w.code.now (given ++ present_answer world f.0 (look_by by) ∷ [])
      (map answer_of given ++ answers.Bytes (Some f.0) ∷ []) (fails faults.Big) big.0
      A.means.there.compiled A.means.top.found A.means.top.coded A.means.top.takes
      (canonical_at b.ledger.names A.means.table.tasks w.notes.number w.notes.task A.means.top.named) told big.1

  ended : (last : Bool) → (w.notes.left == 1) ≡ last → HasEnded world (project_of s) s.root s.base (names_of b.ledger)
      (Failed A.means.running.task (fault_of (cond last faults.Budget faults.Big)))
  ended true e =
      ran_out world (project_of s) s.root s.base (table_of b.ledger) (names_of b.ledger) A.means.waiting
      (saw_contents world A.means.running (w.notes.left - 1) (look_by by) path f.0 f.1) under (none_left w.notes.left e)
  ended false e =
      failed world (project_of s) s.root s.base (table_of b.ledger) (names_of b.ledger) A.means.waiting
      (saw_contents world A.means.running (w.notes.left - 1) (look_by by) path f.0 f.1) under (w.notes.left - 2) model_faults.Big
      (some_left w.notes.left left e) fails_next

  -- it fails, whatever it noted
  pub long_turn : (n : Noted) → n.task ≡ w.notes.task → (t : Told) → HasFailed n (too_much w.notes.left) t → TurnMeans s b (turned t)
  long_turn n same t h =
      failed_turn s b w A.means left n (too_much w.notes.left) same (
        subst (λ x. HasEnded world (project_of s) s.root s.base (names_of b.ledger) (Failed x (fault_of (too_much w.notes.left)))) A.means.top.task
            (ended (w.notes.left == 1) refl),
        canonical_at b.ledger.names A.means.table.tasks w.notes.number w.notes.task A.means.top.named,
      ) t h

pub reading_turn : (s : Site) (b : Builder) (w : Waiting) (path : List ℕ) (by : By) (t : Told) → IsAsking s b w (events.Read path by) → 0 < w.notes.left
    → IsToldSight s.directory (SeesOut b.ledger.stage b.ledger.rows w.notes path) w path by t → TurnMeans s b (turned t)
reading_turn s b w path by t A left h = at h.sight h.sees h.told
  where
    at : (sight : Sight) → SightSays by path sight (Sees s.directory path (SeesOut b.ledger.stage b.ledger.rows w.notes path)) → IsToldReading w by path sight t
        → TurnMeans s b (turned t)
    at (File found) p k = read_turn s b w path by (Some (found_in found)) t A left p k
    at (Long stamp) p k =
        long_turn s b w path by A left p.0 p.1 p.2.long (observed (file_dep (read_kind by) path stamp) w.notes) refl t k
    at Clashes p k = read_turn s b w path by None t A left p k
