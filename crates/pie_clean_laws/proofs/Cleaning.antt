-- An accepted build is the base of the next one.
use Rattle.std.proofs.Common.{ℕ, ◌≡◌, Bool, true, false, cond, List, [], ◌∷◌, map, Option, Some, None, inl, inr, refl, sym, ap, ap₂, subst, ◌∙◌}
use Rattle.std.specs.Prelude.{◌||◌, ◌⊎◌, Vec}
use Rattle.std.specs.List.{Contains}
use Rattle.std.specs.declared.alloc.Global.{Global}
use Rattle.pie_base.specs.Path.{is_out, same_text}
use Rattle.pie_build.specs.Left.{or_earlier, content_at, may_change, LeavesBuilt, LeavesBy, IsProjectOf}
use Rattle.pie_build.specs.Stored.{IsStoreOf}
use Rattle.pie_check_laws.proofs.Members.{none_in, here_or_there, here, there}
use Rattle.pie_earlier_laws.proofs.Leaving.{accepted_is_earlier}
use Rattle.pie_earlier_laws.proofs.Pipelines.{kind_out, out_kind}
use Rattle.pie_earlier_laws.specs.Left.{IsEarlierBuild}
use Rattle.pie_files.specs.Directory.{Directory}
use Rattle.pie_fresh.specs.Cleans.{contents_in}
use Rattle.pie_model.specs.Built.{built_directory, provided_at, store_rows}
use Rattle.pie_model.specs.Forest.{live_evaluations}
use Rattle.pie_model.specs.Paths.{Path, kind_of}
use Rattle.pie_model.specs.declared.words.Kind.TheVariants.{Out, Kept, Source}
use Rattle.pie_model.specs.Changes.{NamesAllChanges}
use Rattle.pie_model.specs.Verdict.{verdict}
use Rattle.pie_model.proofs.Basics.{same_bytes, bytes_same, clash}
use Rattle.pie_model_pipeline.specs.Clean.{AreProvided}
use Rattle.pie_model_pipeline.specs.Rows.{record_of, verdict_of}
use Rattle.pie_model_pipeline.specs.World.{world, project}
use Rattle.pie_parser.specs.FunctionTrees.{FunctionTree}
use Rattle.pie_record.specs.declared.task_record.TaskRecord.{TaskRecord}
use Rattle.pie_report.specs.declared.report.Report.{Report}
use Rattle.pie_store.specs.declared.image.StoreImage.{StoreImage}
use Rattle.pie_store.specs.Texts.{IsStoreText}
use Rattle.pie_store.proofs.WholeAgain.{read_again}
use Rattle.pie_value.specs.Canonical.{enc_task}
use Rattle.pie_value.specs.declared.task.Task.{Task}
use Rattle.pie_value.specs.declared.verdict.Verdict.{Verdict}
use Rattle.pie_value.specs.declared.verdict.Verdict.TheVariants.{Accepted}
use Rattle.pie_incremental.specs.Clean.{IsAfresh, IsAsClean, LeavesClean}
use Rattle.pie_incremental.specs.Earlier.{Earlier, IsStoreOfEarlier, TellsFunctions, live_of}
use Rattle.pie_incremental.specs.Own.{bytes_at, open_path, pending_path, store_path}
use Rattle.pie_left_laws.proofs.Putting.{is_false, kept_open, kept_pending}
use Rattle.pie_clean_laws.specs.Basing.{IsBaseOfNext, IsBasedOn}

-- ---- the store

-- a text is that of one store
pub one_store : (s t : StoreImage) (text other : List ℕ) → IsStoreText s text → IsStoreText t other → text ≡ other → s ≡ t
one_store s t text other a b same = cc (read_again s text a, read_again t other b, same)

-- the store that a build left is that of its base
pub has_store : (e : Earlier) (text : List ℕ) (rows : List TaskRecord) (s : StoreImage) → IsStoreText s text → IsStoreOf e.funcs e.roots rows text
    → map record_of rows ≡ store_rows world (project e.found.functions e.built) (map enc_task e.roots) → IsStoreOfEarlier e s
has_store e text rows s says is records =
    let same : s ≡ is.image = one_store s is.image text text says is.text refl in
    record {
      rows = ap (λ (t : StoreImage). map record_of t.rows) same ∙ ap (map record_of) is.rows ∙ records;
      functions = subst (TellsFunctions e s.funcs) (sym (ap (λ (t : StoreImage). t.pipeline) same ∙ is.no_digest)) (ap (λ (t : StoreImage). t.funcs) same ∙ is.funcs);
    }

-- no path needs be named where nothing changed
pub nothing_changed : (d : Directory) (names : List Path) → NamesAllChanges d d names
nothing_changed d names = record { sources = λ p k n. refl; provided = λ p k n. refl }

-- a directory whose store has a text that is that of the base, and which has the sources and provided files that were left, is based on it
based_at : (e : Earlier) (d : Directory) (text : List ℕ) (rows : List TaskRecord) → bytes_at d store_path ≡ Some text → IsStoreOf e.funcs e.roots rows text
    → map record_of rows ≡ store_rows world (project e.found.functions e.built) (map enc_task e.roots) → ((names : List Path) → NamesAllChanges e.left d names)
    → IsBasedOn e d
based_at e d text rows stands is records alike = record {
  stored = λ b base.
      let same : b.own.store.items ≡ text = some_same (sym base.readable.stored.text_is ∙ stands) in
      has_store e text rows b.image (subst (IsStoreText b.image) same base.readable.says) is records;
  pending = λ b base. alike b.names.items;
}
  where
    some_same : {x y : List ℕ} → Some x ≡ Some y → x ≡ y
    some_same e = cc

pub based : (e : Earlier) (text : List ℕ) (rows : List TaskRecord) → bytes_at e.left store_path ≡ Some text → IsStoreOf e.funcs e.roots rows text
    → map record_of rows ≡ store_rows world (project e.found.functions e.built) (map enc_task e.roots) → IsBasedOn e e.left
based e text rows stands is records = based_at e e.left text rows stands is records (λ names. nothing_changed e.left names)

-- ---- one that is as the clean build

stored_at : (text : List ℕ) (d left : Directory) (fs : List FunctionTree) (roots : List Task)
    → bytes_at left store_path ≡ built_directory text d (live_of fs d roots) store_path → bytes_at left store_path ≡ Some text
unfolding kind_of
stored_at text d left fs roots e = e

module _ (d left : Directory) (r : Report) (c : IsAsClean d r (Some left)) (accepted : r.verdict ≡ Accepted) where
  pub leaves : LeavesClean c.found.functions c.funcs c.roots d r (Some left)
  leaves = c.left accepted

  left_is : leaves.left ≡ left
  left_is = some_same (sym leaves.told)
    where
      some_same : {x y : Directory} → Some x ≡ Some y → x ≡ y
      some_same e = cc

  accepts : verdict_of Accepted ≡ verdict world (project c.found.functions d) (map enc_task c.roots)
  accepts = subst (λ v. verdict_of v ≡ verdict world (project c.found.functions d) (map enc_task c.roots)) accepted c.verdict

  is_earlier : IsEarlierBuild world (project c.found.functions d) (map enc_task c.roots) leaves.left
  is_earlier = accepted_is_earlier world (project c.found.functions d) (map enc_task c.roots) leaves.text d leaves.left (sym accepts) (λ p k. refl) leaves.built

  this : Earlier
  this = record {
    built = d;
    funcs = c.funcs;
    roots = c.roots;
    found = c.found;
    accepted = accepts;
    left = leaves.left;
    sources = is_earlier.sources;
    provided = is_earlier.provided;
  }

  pub clean_base : IsBaseOfNext d left
  unfolding this
  clean_base = record {
    earlier = this;
    built = refl;
    leaves = left_is;
    based = subst (IsBasedOn this) left_is
        (based this leaves.text leaves.rows (stored_at leaves.text d leaves.left c.found.functions c.roots (leaves.built.bytes store_path)) leaves.store leaves.records);
  }

  pub its_store : bytes_at left store_path ≡ Some leaves.text
  its_store =
      subst (λ x. bytes_at x store_path ≡ Some leaves.text) left_is
      (stored_at leaves.text d leaves.left c.found.functions c.roots (leaves.built.bytes store_path))

  -- what stands later, with the same store, sources and provided files, is based on it too
  pub clean_base_later : (after : Directory) → bytes_at after store_path ≡ bytes_at left store_path → ((names : List Path) → NamesAllChanges left after names)
      → (f : Earlier) × (f.built ≡ d) × IsBasedOn f after
  unfolding this
  clean_base_later after store alike = (
    this,
    refl,
    based_at this after leaves.text leaves.rows (store ∙ its_store) leaves.store leaves.records
        (λ names. subst (λ x. NamesAllChanges x after names) (sym left_is) (alike names)),
  )

-- ---- one that started afresh

none_is_some : (b : List ℕ) → None ≡ Some b → ⊥
none_is_some b e = cc

content_found : (fs : List (List ℕ × Vec ℕ Global)) (q b : List ℕ) → content_at fs q ≡ Some b → Contains (contents_in fs) (q, b)
content_found [] q b h = cc
content_found (f ∷ fs) q b h = by (content_at fs q) refl (same_text q f.0) refl h (λ e. content_found fs q b e)
  where
    by : (x : Option (List ℕ)) → content_at fs q ≡ x → (s : Bool) → same_text q f.0 ≡ s → or_earlier x (cond s (Some f.1.items) None) ≡ Some b
        → (content_at fs q ≡ Some b → Contains (contents_in fs) (q, b)) → Contains (contents_in (f ∷ fs)) (q, b)
    by (Some a) e s t k rest = there (f.0, f.1.items) (q, b) (contents_in fs) (rest (e ∙ k))
    by None e true t k rest =
        let bytes : f.1.items ≡ b = cc in
        subst (λ (x : List ℕ × List ℕ). Contains (contents_in (f ∷ fs)) x) (ap₂ (λ (x y : List ℕ). (x, y)) (sym (same_bytes q f.0 t)) bytes)
        (here (f.0, f.1.items) (contents_in fs))
    by None e false t k rest = absurd (none_is_some b k)

content_none : (fs : List (List ℕ × Vec ℕ Global)) (q b : List ℕ) → content_at fs q ≡ None → Contains (contents_in fs) (q, b) → ⊥
content_none [] q b h i = none_in (q, b) i
content_none (f ∷ fs) q b h i =
    by (content_at fs q) refl (same_text q f.0) refl h (here_or_there (f.0, f.1.items) (q, b) (contents_in fs) i) (λ e j. content_none fs q b e j)
  where
    by : (x : Option (List ℕ)) → content_at fs q ≡ x → (s : Bool) → same_text q f.0 ≡ s → or_earlier x (cond s (Some f.1.items) None) ≡ None
        → (◌≡◌ {A = List ℕ × List ℕ} (f.0, f.1.items) (q, b)) ⊎ Contains (contents_in fs) (q, b) → (content_at fs q ≡ None → Contains (contents_in fs) (q, b) → ⊥) → ⊥
    by (Some a) e s t k j rest = cc
    by None e true t k j rest = cc
    by None e false t k (inl same) rest = clash (same_text q f.0) (subst (λ (x : List ℕ × List ℕ). same_text x.0 f.0 ≡ true) same (bytes_same f.0)) t
    by None e false t k (inr j) rest = rest e j

module _ (fs : List FunctionTree) (d : Directory) (roots : List (List ℕ)) (files : List (List ℕ × Vec ℕ Global)) (provides : AreProvided fs d roots (contents_in files))
  where
    -- what is found at a path is the content that it has there
    pub provided_content : (q : List ℕ) → content_at files q ≡ provided_at (live_evaluations world (project fs d) roots) q
    provided_content q = by (content_at files q) refl (provided_at (live_evaluations world (project fs d) roots) q) refl
      where
        by : (x : Option (List ℕ)) → content_at files q ≡ x → (y : Option (List ℕ)) → provided_at (live_evaluations world (project fs d) roots) q ≡ y
            → content_at files q ≡ provided_at (live_evaluations world (project fs d) roots) q
        by (Some b) e y f = e ∙ sym ((provides q b).0 (content_found files q b e))
        by None e (Some b) f = absurd (content_none files q b e ((provides q b).1 f))
        by None e None f = e ∙ sym f

kept_store : kind_of store_path ≡ Kept
unfolding kind_of
kept_store = refl

-- a path that no build changes
pub rests : (a b c e : Bool) → a ≡ false → b ≡ false → c ≡ false → e ≡ false → (a || b || c || e) ≡ false
rests false false false false h i j k = refl
rests false false false true h i j k = cc
rests false false true e h i j k = cc
rests false true c e h i j k = cc
rests true b c e h i j k = cc

-- a source isn't changed
pub source_rests : (p : Path) → kind_of p ≡ Source → may_change p ≡ false
source_rests p k =
    rests (is_out p) (same_text p open_path) (same_text p store_path) (same_text p pending_path)
    (is_false (is_out p) (λ e. out_source (sym (out_kind p e) ∙ k))) (off open_path kept_open) (off store_path kept_store) (off pending_path kept_pending)
  where
    out_source : Out ≡ Source → ⊥
    out_source e = cc

    kept_source : Kept ≡ Source → ⊥
    kept_source e = cc

    off : (q : List ℕ) → kind_of q ≡ Kept → same_text p q ≡ false
    off q kept = is_false (same_text p q) (λ e. kept_source (sym kept ∙ ap kind_of (sym (same_bytes p q e)) ∙ k))

module _ (d left : Directory) (r : Report) (fs : List FunctionTree) (funcs : List (List ℕ × List ℕ)) (roots : List Task) (project_is : IsProjectOf d funcs roots)
    (leaves : LeavesBuilt project_is.functions funcs roots d r (Some left)) where
  this_left : leaves.left ≡ left
  this_left = some_same (sym leaves.told)
    where
      some_same : {x y : Directory} → Some x ≡ Some y → x ≡ y
      some_same e = cc

  afresh : Earlier
  afresh = record {
    built = d;
    funcs = funcs;
    roots = roots;
    found = project_is;
    accepted = leaves.clean.verdict;
    left = leaves.left;
    sources = λ p k. leaves.place.rest p (source_rests p k);
    provided = λ p k.
        leaves.place.provided p (kind_out p k)
        ∙ provided_content project_is.functions d (map enc_task roots) leaves.files leaves.clean.built.1 p;
  }

  rebuilt_base : IsBaseOfNext d left
  unfolding afresh
  rebuilt_base = record {
    earlier = afresh;
    built = refl;
    leaves = this_left;
    based = subst (IsBasedOn afresh) this_left (based afresh leaves.text leaves.rows leaves.place.store leaves.store leaves.clean.built.0);
  }

pub afresh_base : (d left : Directory) (r : Report) → IsAfresh d r (Some left) → r.verdict ≡ Accepted → IsBaseOfNext d left
afresh_base d left r a accepted =
    let clean_accepted : a.clean.verdict ≡ Accepted = sym (ap (λ (x : Report). x.verdict) a.is) ∙ accepted in
    let leaves = a.leaves in
    let built : LeavesBuilt leaves.2.functions leaves.0 leaves.1 d a.clean a.left = by_verdict leaves.0 leaves.1 leaves.2 a.clean.verdict clean_accepted leaves.3.1 in
    rebuilt_base d left a.clean leaves.2.functions leaves.0 leaves.1 leaves.2
    (subst (λ o. LeavesBuilt leaves.2.functions leaves.0 leaves.1 d a.clean o) (sym (a.after_is accepted)) built)
  where
    by_verdict : (funcs : List (List ℕ × List ℕ)) (roots : List Task) (p : IsProjectOf d funcs roots) (v : Verdict) → v ≡ Accepted
        → LeavesBy p.functions funcs roots v d a.clean a.left → LeavesBuilt p.functions funcs roots d a.clean a.left
    by_verdict funcs roots p v is l = subst (λ w. LeavesBy p.functions funcs roots w d a.clean a.left) is l
