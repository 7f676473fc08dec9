-- What an accepted build tells as new offers is of the evaluations of the clean build.
use Rattle.std.proofs.Common.{◌≡◌, ◌∙◌, ℕ, Bool, true, false, ◌&&◌, cond, List, [], ◌∷◌, length, map, Option, None, Some, refl, sym, ap, subst}
use Rattle.std.specs.Prelude.{All, Contains, nat_le}
use Rattle.std.specs.List.{cons_option}
use Rattle.std.specs.Option.{option_and_then, option_or}
use Rattle.std.proofs.lemmas.List.Elements.{All-cons, All-head, All-nil, All-tail}
use Rattle.sha2.specs.Sha256.{sha256}
use Rattle.pie_base.specs.Path.{same_text}
use Rattle.pie_check_laws.proofs.Members.{here, there}
use Rattle.pie_commit.proofs.Standing.{same_path}
use Rattle.pie_core_laws.specs.Update.{Update, present}
use Rattle.pie_earlier_laws.proofs.Accepting.{all_between, live_done, live_record}
use Rattle.pie_earlier_laws.proofs.Pipelines.{write_once}
use Rattle.pie_earlier_laws.proofs.Writing.{evaluation_once, once_first, AreFirst}
use Rattle.pie_files.specs.inner.Held.{is_among}
use Rattle.pie_left_laws.specs.Accepted.{IsAccepted, live_now}
use Rattle.pie_left_laws.proofs.Provides.{one_some}
use Rattle.pie_model.specs.Built.{in_row_order, provided_at, put_row, row_before, store_rows}
use Rattle.pie_model.specs.Evaluation.{evaluation}
use Rattle.pie_model.specs.Forest.{entered_tasks, live_evaluations}
use Rattle.pie_model.specs.Paths.{among}
use Rattle.pie_model.specs.Records.{hashed, record_of as model_record, Record}
use Rattle.pie_model.specs.Seen.{first_write}
use Rattle.pie_model.specs.Tasks.{Task as ModelTask}
use Rattle.pie_model.specs.Trees.{task_of, trace_of, writes_of, Node}
use Rattle.pie_model.proofs.Basics.{among_here, among_there}
use Rattle.pie_model.proofs.Ways.{task_of-evaluation}
use Rattle.pie_model_pipeline.specs.Rows.{record_of}
use Rattle.pie_model_pipeline.specs.World.{world}
use Rattle.pie_old.specs.inner.Code.{digest_in}
use Rattle.pie_record.specs.declared.task_record.TaskRecord.{TaskRecord}
use Rattle.pie_step_laws.proofs.FileLemmas.{written_provided}
use Rattle.pie_store.specs.Texts.{IsRow}
use Rattle.pie_value.specs.Canonical.{enc_task}
use Rattle.pie_value.specs.declared.task.Task.{Task}
use Rattle.pie_topdown_build.specs.Records.{IsOfEvaluation}
use Rattle.pie_topdown_build.specs.inner.News.{bytes_in, contents_of, news_in, told_with, with_hash, with_more, Told}
use Rattle.pie_topdown_build.specs.inner.Records.{IsToldOf}
use Rattle.pie_topdown_build.proofs.Ran.{row_of}

-- ---- the rows of the clean build

module _ (P : Node → Type 0) where
  -- putting evaluations in order keeps what all of them have
  put_has : (n : Node) (ms : List Node) → P n → All P ms → All P (put_row n ms)
  put_has n [] p all = All-cons P n [] p (All-nil P)
  put_has n (m ∷ ms) p all = by (row_before m n) (put_has n ms p (All-tail P m ms all))
    where
      by : (b : Bool) → All P (put_row n ms) → All P (cond b (m ∷ put_row n ms) (n ∷ m ∷ ms))
      by true rest = All-cons P m (put_row n ms) (All-head P m ms all) rest
      by false rest = All-cons P n (m ∷ ms) p all

  ordered_has : (ns : List Node) → All P ns → All P (in_row_order ns)
  ordered_has [] all = all
  ordered_has (n ∷ ns) all = put_has n (in_row_order ns) (All-head P n ns all) (ordered_has ns (All-tail P n ns all))

module _ (u : Update) where
  abbrev live_tasks : List ModelTask
  live_tasks = entered_tasks world (present u) u.roots

  -- an evaluation of a live task
  record IsLive (n : Node) : Type 0 where
    task : ModelTask
    entered : among task live_tasks ≡ true
    is : n ≡ evaluation world (present u) task

  -- a row is the record of its task's evaluation, and its task is live
  record IsLiveRow (row : TaskRecord) : Type 0 where
    entered : among (enc_task row.task) live_tasks ≡ true
    was : record_of row ≡ model_record world (evaluation world (present u) (enc_task row.task))

  all_live : (ts : List ModelTask) → ((t : ModelTask) → among t ts ≡ true → among t live_tasks ≡ true) → All IsLive (map (evaluation world (present u)) ts)
  all_live [] within = All-nil IsLive
  all_live (t ∷ ts) within =
      All-cons IsLive (evaluation world (present u) t) (map (evaluation world (present u)) ts)
      (record { task = t; entered = within t (among_here t ts); is = refl }) (all_live ts (λ x i. within x (among_there x t ts i)))

  live_row : (row : TaskRecord) (n : Node) → record_of row ≡ model_record world n → IsLive n → IsLiveRow row
  live_row row n is l =
      let named : enc_task row.task ≡ l.task =
      ap (λ (r : Record). r.task) is ∙ ap task_of l.is ∙ task_of-evaluation world (present u) l.task in
      record {
        entered = subst (λ t. among t live_tasks ≡ true) (sym named) l.entered;
        was = is ∙ ap (model_record world) (l.is ∙ ap (evaluation world (present u)) (sym named));
      }

  live_rows : (rows : List TaskRecord) (ns : List Node) → map record_of rows ≡ map (model_record world) ns → All IsLive ns → All IsLiveRow rows
  live_rows [] ns is all = All-nil IsLiveRow
  live_rows (row ∷ rows) [] is all = absurd (cc)
  live_rows (row ∷ rows) (n ∷ ns) is all =
      let first : record_of row ≡ model_record world n = cc in
      let rest : map record_of rows ≡ map (model_record world) ns = cc in
      All-cons IsLiveRow row rows (live_row row n first (All-head IsLive n ns all)) (live_rows rows ns rest (All-tail IsLive n ns all))

  rows_live : (rows : List TaskRecord) → map record_of rows ≡ store_rows world (present u) u.roots → All IsLiveRow rows
  rows_live rows is =
      live_rows rows (in_row_order (live_evaluations world (present u) u.roots)) is
      (ordered_has IsLive (live_evaluations world (present u) u.roots) (all_live live_tasks (λ t i. i)))

-- ---- the contents of writes

-- what is found at a path is among the files
found_in : (files : List (List ℕ × List ℕ)) (path bytes : List ℕ) → bytes_in files path ≡ Some bytes → Contains files (path, bytes)
found_in [] path bytes e = absurd (cc)
found_in (f ∷ files) path bytes e = by (λ h. found_in files path bytes h) (bytes_in files path) refl (same_text path f.0) refl e
  where
    head : f.0 ≡ path → f.1 ≡ bytes → Contains (f ∷ files) (path, bytes)
    head p b = subst (λ (x : List ℕ × List ℕ). Contains (f ∷ files) x) (ap (λ (x : List ℕ). (x, f.1)) p ∙ ap (λ (x : List ℕ). (path, x)) b) (here f files)

    by : (bytes_in files path ≡ Some bytes → Contains files (path, bytes)) → (o : Option (List ℕ)) → bytes_in files path ≡ o → (t : Bool)
        → same_text path f.0 ≡ t → option_or o (cond t (Some f.1) None) ≡ Some bytes → Contains (f ∷ files) (path, bytes)
    by more (Some b) later t is e = there f (path, bytes) files (more (later ∙ e))
    by more None later true is e = head (sym (same_path path f.0 is)) (one_some f.1 bytes e)
    by more None later false is e = absurd (cc)

-- a content with a hash is the one that was asked about
with_hash_is : (hash content found : List ℕ) → with_hash hash content ≡ Some found → found ≡ content
with_hash_is hash content found e = by (same_text (sha256 content) hash && nat_le (length content) 4294967295) e
  where
    by : (b : Bool) → cond b (Some content) None ≡ Some found → found ≡ content
    by true k = sym (one_some content found k)
    by false k = absurd (cc)

module _ (files : List (List ℕ × List ℕ)) (given : List ℕ → Option (List ℕ))
    (only : (path bytes : List ℕ) → Contains files (path, bytes) → given path ≡ Some bytes) where
  -- the contents of recorded writes are what was written
  contents_are : (all ws : List (List ℕ × List ℕ)) (cs : List (List ℕ)) → AreFirst all ws
      → ((path bytes : List ℕ) → first_write path all ≡ Some bytes → given path ≡ Some bytes) → contents_of (bytes_in files) (hashed world ws) ≡ Some cs
      → map (λ (w : List ℕ × List ℕ). w.1) ws ≡ cs
  contents_are all [] cs first provides e = one_some [] cs e
  contents_are all (w ∷ ws) cs first provides e =
      by (λ more m. contents_are all ws more first.1 provides m) (bytes_in files w.0) refl (contents_of (bytes_in files) (hashed world ws)) refl e
    where
      Rest : Type 0
      Rest = (more : List (List ℕ)) → contents_of (bytes_in files) (hashed world ws) ≡ Some more → map (λ (x : List ℕ × List ℕ). x.1) ws ≡ more

      one : (b : List ℕ) → bytes_in files w.0 ≡ Some b → w.1 ≡ b
      one b is = one_some w.1 b (sym (provides w.0 w.1 first.0) ∙ only w.0 b (found_in files w.0 b is))

      with_one : Rest → (b : List ℕ) → bytes_in files w.0 ≡ Some b → (o : Option (List ℕ)) → with_hash (world.hash w.1) b ≡ o
          → (more : Option (List (List ℕ))) → contents_of (bytes_in files) (hashed world ws) ≡ more → with_more o more ≡ Some cs
          → map (λ (x : List ℕ × List ℕ). x.1) (w ∷ ws) ≡ cs
      with_one rest b is None h more m e = absurd (cc)
      with_one rest b is (Some c) h None m e = absurd (cc)
      with_one rest b is (Some c) h (Some more) m e =
          ap (λ (x : List ℕ). x ∷ map (λ (y : List ℕ × List ℕ). y.1) ws) (one b is ∙ sym (with_hash_is (world.hash w.1) b c h))
          ∙ ap (λ (xs : List (List ℕ)). c ∷ xs) (rest more m) ∙ one_some (c ∷ more) cs e

      by : Rest → (o : Option (List ℕ)) → bytes_in files w.0 ≡ o → (more : Option (List (List ℕ))) → contents_of (bytes_in files) (hashed world ws) ≡ more
          → with_more (option_and_then (with_hash (world.hash w.1)) o) more ≡ Some cs → map (λ (x : List ℕ × List ℕ). x.1) (w ∷ ws) ≡ cs
      by rest None is more m e = absurd (cc)
      by rest (Some b) is more m e = with_one rest b is (with_hash (world.hash w.1) b) refl more m e

-- ---- what is told

module _ (u : Update) (kept : List TaskRecord) (funcs files : List (List ℕ × List ℕ)) (ran : List Task) (A : IsAccepted u kept files) where
  abbrev evaluated : TaskRecord → Node
  evaluated row = evaluation world (present u) (enc_task row.task)

  provides : (row : TaskRecord) → IsLiveRow u row → (path bytes : List ℕ) → first_write path (writes_of (trace_of (evaluated row))) ≡ Some bytes
      → provided_at (live_now u) path ≡ Some bytes
  provides row l path bytes e =
      written_provided world (present u) u.roots (live_record world (present u) (entered_tasks world (present u) u.roots))
      (entered_tasks world (present u) u.roots) (λ t. writes_of (trace_of (evaluation world (present u) t)))
      (all_between world (present u) u.roots A.accepted) (λ y r. refl) A.accepted (enc_task row.task) path bytes l.entered e

  of_evaluation : (row : TaskRecord) → IsLiveRow u row → (cs : List (List ℕ)) → contents_of (bytes_in files) row.writes ≡ Some cs
      → IsOfEvaluation u.functions u.directory (row, cs)
  of_evaluation row l cs e = record {
    was = l.was;
    done = live_done world (present u) u.roots A.accepted (enc_task row.task) l.entered;
    wrote = contents_are files (λ path. provided_at (live_now u) path) A.only (writes_of (trace_of (evaluated row))) (writes_of (trace_of (evaluated row))) cs
        (once_first (writes_of (trace_of (evaluated row)))
        (evaluation_once world (present u) (enc_task row.task) ((write_once u.functions u.directory).once (enc_task row.task)))) (provides row l)
        (ap (λ (r : Record). contents_of (bytes_in files) r.writes) (sym l.was) ∙ e);
  }

  told_one : (row : TaskRecord) → IsLiveRow u row → IsRow row → (digest : Option (List ℕ)) → digest_in funcs row.task.func ≡ digest
      → (contents : Option (List (List ℕ))) → contents_of (bytes_in files) row.writes ≡ contents → (rest : List Told)
      → All (IsToldOf u.functions u.directory funcs) rest → All (IsToldOf u.functions u.directory funcs) (cons_option (told_with row digest contents) rest)
  told_one row l canonical None d contents c rest all = all
  told_one row l canonical (Some digest) d None c rest all = all
  told_one row l canonical (Some digest) d (Some contents) c rest all =
      All-cons (IsToldOf u.functions u.directory funcs) (digest, (row, contents)) rest
      (record { listed = row_of funcs row.task.func digest d; row = canonical; evaluated = of_evaluation row l contents c }) all

  told_all : (rows : List TaskRecord) → All (IsLiveRow u) rows → All IsRow rows → All (IsToldOf u.functions u.directory funcs) (news_in funcs rows files ran)
  told_all [] live canonical = All-nil (IsToldOf u.functions u.directory funcs)
  told_all (row ∷ rows) live canonical =
      by (is_among (enc_task row.task) (map enc_task ran))
      (told_all rows (All-tail (IsLiveRow u) row rows live) (All-tail IsRow row rows canonical))
    where
      by : (b : Bool) → All (IsToldOf u.functions u.directory funcs) (news_in funcs rows files ran)
          → All (IsToldOf u.functions u.directory funcs)
          (cons_option (cond b (told_with row (digest_in funcs row.task.func) (contents_of (bytes_in files) row.writes)) None) (news_in funcs rows files ran))
      by true rest =
          told_one row (All-head (IsLiveRow u) row rows live) (All-head IsRow row rows canonical) (digest_in funcs row.task.func) refl
          (contents_of (bytes_in files) row.writes) refl (news_in funcs rows files ran) rest
      by false rest = rest

  -- each is of an evaluation of the clean build
  pub news_evaluated : All IsRow kept → All (IsToldOf u.functions u.directory funcs) (news_in funcs kept files ran)
  news_evaluated canonical = told_all kept (rows_live u kept A.rows) canonical
