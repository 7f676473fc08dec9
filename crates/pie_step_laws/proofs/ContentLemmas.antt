-- The contents that were kept show what recorded tasks provide.
use Rattle.std.proofs.Common.{ℕ, suc, bytes_eq, ◌⊎◌, ◌≡◌, Bool, true, false, cond, Option, Some, None, option_map, List, [], ◌∷◌, ◌++◌, map, inl, inr, sym, ◌∙◌}
use Rattle.std.proofs.Common.{ap, subst, refl}
use Rattle.pie_model.specs.Paths.{Path, among}
use Rattle.pie_model.specs.Tasks.{Task}
use Rattle.pie_model.specs.Trees.{Node, node, Trace, ends, looks, lists, writes, needs, task_of, trace_of, writes_of, StandsIn, StandsBelow}
use Rattle.pie_model.specs.declared.words.Seen.{Seen}
use Rattle.pie_model.specs.declared.words.Seen.TheVariants.{Nothing, Holds, Clashing}
use Rattle.pie_model.specs.Paths.{kind_of}
use Rattle.pie_model.specs.declared.words.Kind.TheVariants.{Out, Kept, Source}
use Rattle.pie_model.specs.Seen.{own_first, seen_file, visible_by, visible_at, first_write, writer, writers, writers_below, writers_in, all_by, by_writers}
use Rattle.pie_model.specs.Seen.{provided}
use Rattle.pie_model.specs.Evaluation.{World, Project, evaluation}
use Rattle.pie_model.specs.Records.{Record, hashed, needs_of}
use Rattle.pie_model.specs.StampNow.{Untold, ToldHash, ToldClash, told_of}
use Rattle.pie_model.specs.inner.RecordLaws.{HasItsRecord}
use Rattle.pie_model.specs.inner.Present.{Reaches, WroteByRecords, OneWriter, IsTold}
use Rattle.pie_model.specs.inner.Consistent.{IsRecorded}
use Rattle.pie_model.specs.inner.Stack.{Frame, tasks_of}
use Rattle.pie_model.proofs.Basics.{clash, among_here, among_there, same_bytes, bytes_same}
use Rattle.pie_model.proofs.LooksLemmas.{first_write-hashed, some_same}
use Rattle.pie_model.proofs.Ways.{Reached, stands_reached}
use Rattle.pie_model.proofs.Views.{told_is_seen}
use Rattle.pie_step_laws.specs.Table.{IsTable}
use Rattle.pie_step_laws.specs.UnderWay.{UnderWay}
use Rattle.pie_step_laws.specs.Contents.{KeepsContents, WroteContents, IsShown}
use Rattle.pie_model.specs.inner.Steps.{ChangesAt}
use Rattle.pie_model.specs.Tasks.{Value}
use Rattle.pie_model.specs.declared.words.Event.TheVariants.{Done}
use Rattle.pie_step_laws.specs.Frames.{record_left}
use Rattle.pie_step_laws.specs.Contents.{KeepsMore}
use Rattle.pie_step_laws.proofs.EndLemmas.{own_writes}
use Rattle.pie_step_laws.proofs.Tables.{none_some, reached_recorded, all_right}

-- ---- what holds of every writer

-- each of these wrote these contents
abbrev AllWrote : List ℕ → List (Task × List ℕ) → Type 0
AllWrote b [] = Unit {0}
AllWrote b (x ∷ xs) = (x.1 ≡ b) × AllWrote b xs

all_wrote-append : (b : List ℕ) (xs ys : List (Task × List ℕ)) → AllWrote b xs → AllWrote b ys → AllWrote b (xs ++ ys)
all_wrote-append b [] ys h k = k
all_wrote-append b (x ∷ xs) ys h k = (h.0, all_wrote-append b xs ys h.1 k)

all_wrote-writer : (b : List ℕ) (t : Task) (o : Option (List ℕ)) → ((c : List ℕ) → o ≡ Some c → c ≡ b) → AllWrote b (writer t o)
all_wrote-writer b t None f = tt
all_wrote-writer b t (Some c) f = (f c refl, tt)

mutual
  all_wrote-tree : (b : List ℕ) (p : Path) (n : Node)
      → ((m : Node) (c : List ℕ) → StandsIn m n → first_write p (writes_of (trace_of m)) ≡ Some c → c ≡ b) → AllWrote b (writers p n)
  all_wrote-tree b p (node t k) f =
      all_wrote-append b (writer t (first_write p (writes_of k))) (writers_below p k)
      (all_wrote-writer b t (first_write p (writes_of k)) (λ c e. f (node t k) c (inl refl) e))
      (all_wrote-below b p k (λ m c s e. f m c (inr s) e))

  all_wrote-below : (b : List ℕ) (p : Path) (k : Trace)
      → ((m : Node) (c : List ℕ) → StandsBelow m k → first_write p (writes_of (trace_of m)) ≡ Some c → c ≡ b) → AllWrote b (writers_below p k)
  all_wrote-below b p (ends e) f = tt
  all_wrote-below b p (looks l q s k) f = all_wrote-below b p k f
  all_wrote-below b p (lists d es k) f = all_wrote-below b p k f
  all_wrote-below b p (writes q c k) f = all_wrote-below b p k f
  all_wrote-below b p (needs h u n k) f =
      all_wrote-append b (writers p n) (writers_below p k) (all_wrote-tree b p n (λ m c s e. f m c (inl s) e))
      (all_wrote-below b p k (λ m c s e. f m c (inr s) e))

-- ---- what is told fixes what is seen, but for contents

untold_nothing : (w : World) (s : Seen) → Untold ≡ told_of w s → s ≡ Nothing
untold_nothing w Nothing e = refl
untold_nothing w (Holds b m) e = cc
untold_nothing w Clashing e = cc

clash_told : (w : World) (s : Seen) → ToldClash ≡ told_of w s → s ≡ Clashing
clash_told w Nothing e = cc
clash_told w (Holds b m) e = cc
clash_told w Clashing e = refl

-- where contents are told and all that wrote wrote these, these are seen
seen_contents : (w : World) (b h : List ℕ) (xs : List (Task × List ℕ)) → AllWrote b xs → ToldHash h ≡ told_of w (by_writers xs) → by_writers xs ≡ Holds b 0
seen_contents w b h [] f e = cc
seen_contents w b h (x ∷ xs) f e = go (all_by x.0 xs) e
  where
    go : (c : Bool) → ToldHash h ≡ told_of w (cond c (Holds x.1 0) Clashing) → cond c (Holds x.1 0) Clashing ≡ Holds b 0
    go true q = ap (λ z. Holds z 0) f.0
    go false q = cc

module _ (w : World) (P : Project) (R : Task → Option Record) (names : List Task) (kept : Task → List (Path × List ℕ)) (us : List Task) (p : Path)
    (T : IsTable w P R names) (K : KeepsContents w P R kept) (recorded : (u : Task) → among u us ≡ true → IsRecorded R u) where
  -- by hashes and by contents the same tasks wrote
  record Wrote (x : Task) (h : List ℕ) : Type 0 where
    contents : List ℕ
    wrote : WroteContents R kept us p x contents
    is : w.hash contents ≡ h

  by_contents : (x : Task) (h : List ℕ) → WroteByRecords R us p x h → Wrote x h
  by_contents x h s = go (first_write p (kept x)) refl
    where
      hash_is : option_map w.hash (first_write p (kept x)) ≡ Some h
      hash_is =
          sym (first_write-hashed w p (kept x))
          ∙ ap (λ z. first_write p (hashed w z)) (K x (record { kept = s.found; is = s.recorded }))
          ∙ ap (λ z. first_write p z.writes) (sym (T.right x s.found s.recorded))
          ∙ s.wrote

      go : (o : Option (List ℕ)) → first_write p (kept x) ≡ o → Wrote x h
      go None e = absurd (never (sym (ap (option_map w.hash) e) ∙ hash_is))
        where
          never : None ≡ Some h → ⊥
          never q = cc
      go (Some b) e = record {
        contents = b;
        wrote = record { from = s.from; listed = s.listed; reaches = s.reaches; wrote = e };
        is = some_same (w.hash b) h (sym (ap (option_map w.hash) e) ∙ hash_is);
      }

  by_hash : (x : Task) (b : List ℕ) → WroteContents R kept us p x b → WroteByRecords R us p x (w.hash b)
  by_hash x b s = go (reached_recorded w P R names T s.reaches (recorded s.from s.listed))
    where
      go : IsRecorded R x → WroteByRecords R us p x (w.hash b)
      go k = record {
        from = s.from;
        listed = s.listed;
        reaches = s.reaches;
        found = k.kept;
        recorded = k.is;
        wrote = ap (λ z. first_write p z.writes) (T.right x k.kept k.is)
            ∙ ap (λ z. first_write p (hashed w z)) (sym (K x k))
            ∙ first_write-hashed w p (kept x)
            ∙ ap (option_map w.hash) s.wrote;
      }

  told_so : (s : Seen) → IsShown (WroteContents R kept us p) s → IsTold (WroteByRecords R us p) (told_of w s)
  told_so Nothing f = λ x h s. go x h (by_contents x h s)
    where
      go : (x : Task) (h : List ℕ) → Wrote x h → ⊥
      go x h q = f x q.contents q.wrote
  told_so (Holds b m) f = record {
    writer = f.0.writer;
    wrote = by_hash f.0.writer b f.0.wrote;
    only = λ y k s. go y k (by_contents y k s);
  }
    where
      go : (y : Task) (k : List ℕ) → Wrote y k → (y ≡ f.0.writer) × (k ≡ w.hash b)
      go y k q = ((f.0.only y q.contents q.wrote).0, sym q.is ∙ ap w.hash (f.0.only y q.contents q.wrote).1)
  told_so Clashing f = record {
    first = f.first;
    second = f.second;
    first_hash = w.hash f.first_hash;
    second_hash = w.hash f.second_hash;
    first_wrote = by_hash f.first f.first_hash f.first_wrote;
    second_wrote = by_hash f.second f.second_hash f.second_wrote;
    distinct = f.distinct;
  }

  right_below : (u : Task) → among u us ≡ true → (x : Task) → Reaches R u x → HasItsRecord w P R x
  right_below u i x q = all_right w P R names T u (recorded u i) x q

  -- what stands in the trees wrote what is kept
  stands_wrote : (u : Task) → among u us ≡ true → (m : Node) (c : List ℕ) → StandsIn m (evaluation w P u)
      → first_write p (writes_of (trace_of m)) ≡ Some c → WroteContents R kept us p (task_of m) c
  stands_wrote u i m c s e = go (stands_reached w P R (evaluation w P u) u m refl (right_below u i) s)
    where
      go : Reached w P R u m → WroteContents R kept us p (task_of m) c
      go q = record {
        from = u;
        listed = i;
        reaches = q.way;
        wrote = ap (first_write p) (K (task_of m) (reached_recorded w P R names T q.way (recorded u i)))
            ∙ ap (λ z. first_write p (writes_of (trace_of z))) (sym q.own)
            ∙ e;
      }

  all_wrote-these : (b : List ℕ) → OneWriter (WroteContents R kept us p) b → (ts : List Task) → ((u : Task) → among u ts ≡ true → among u us ≡ true)
      → AllWrote b (writers_in p (map (evaluation w P) ts))
  all_wrote-these b o [] f = tt
  all_wrote-these b o (t ∷ ts) f =
      all_wrote-append b (writers p (evaluation w P t)) (writers_in p (map (evaluation w P) ts))
      (all_wrote-tree b p (evaluation w P t) (λ m c s e. (o.only (task_of m) c (stands_wrote t (f t (among_here t ts)) m c s e)).1))
      (all_wrote-these b o ts (λ u i. f u (among_there u t ts i)))

  told_is : (s : Seen) → IsShown (WroteContents R kept us p) s → told_of w s ≡ told_of w (by_writers (writers_in p (map (evaluation w P) us)))
  unfolding provided
  told_is s f = told_is_seen w P R us right_below p (told_of w s) (told_so s f)

  shown : (s : Seen) → IsShown (WroteContents R kept us p) s → by_writers (writers_in p (map (evaluation w P) us)) ≡ s
  shown Nothing f = untold_nothing w (by_writers (writers_in p (map (evaluation w P) us))) (told_is Nothing f)
  shown (Holds b m) f =
      seen_contents w b (w.hash b) (writers_in p (map (evaluation w P) us)) (all_wrote-these b f.0 us (λ u i. i)) (told_is (Holds b m) f)
      ∙ ap (Holds b) (sym f.1)
  shown Clashing f = clash_told w (by_writers (writers_in p (map (evaluation w P) us))) (told_is Clashing f)

  pub kept_visible : (s : Seen) → IsShown (WroteContents R kept us p) s → provided (map (evaluation w P) us) p ≡ s
  unfolding provided
  kept_visible s f = shown s f

pub running_sees : (w : World) (P : Project) (root : Task) (base : List Task) (R : Task → Option Record) (names : List Task) (fs : List Frame) (f : Frame)
    (kept : Task → List (Path × List ℕ)) (p : Path) (s : Seen) → UnderWay w P root base R names fs f → KeepsContents w P R kept
    → IsShown (WroteContents R kept (needs_of f.seen) p) s → provided f.progress.kids p ≡ s
running_sees w P root base R names fs f kept p s U K h =
    ap (λ z. provided z p) U.kids.0.kids ∙ kept_visible w P R names kept (needs_of f.seen) p U.table K U.kids.0.recorded s h

-- ---- contents are kept

pub contents_begin : (w : World) (P : Project) (R : Task → Option Record) (kept : Task → List (Path × List ℕ)) → ((t : Task) → R t ≡ None)
    → KeepsContents w P R kept
contents_begin w P R kept none t k = none_some (R t) k.kept (none t) k.is

-- one task or another
pub which : (x t : Task) → (x ≡ t) ⊎ (x ≡ t → ⊥)
which x t = go (bytes_eq x t) refl
  where
    go : (b : Bool) → bytes_eq x t ≡ b → (x ≡ t) ⊎ (x ≡ t → ⊥)
    go true e = inl (same_bytes x t e)
    go false e = inr (λ q. clash (bytes_eq x t) (subst (λ z. bytes_eq x z ≡ true) q (bytes_same x)) e)

pub contents_kept : (w : World) (P : Project) (root : Task) (base : List Task) (R S : Task → Option Record) (names : List Task) (fs : List Frame)
    (f : Frame) (n : ℕ) (v : Value) (kept after : Task → List (Path × List ℕ)) → UnderWay w P root base R names fs f → f.left ≡ suc n
    → P.next f.task f.progress.answers ≡ Done v → ChangesAt R S f.task (record_left w f v) → KeepsMore kept after f.task f.progress.own
    → KeepsContents w P R kept → KeepsContents w P S after
contents_kept w P root base R S names fs f n v kept after U l q C M K t k = go (which t f.task)
  where
    go : (t ≡ f.task) ⊎ (t ≡ f.task → ⊥) → after t ≡ writes_of (trace_of (evaluation w P t))
    go (inl e) =
        ap after e ∙ M.now ∙ sym (own_writes w P root base R names fs f U n v l q) ∙ ap (λ z. writes_of (trace_of (evaluation w P z))) (sym e)
    go (inr d) = M.others t d ∙ K t (record { kept = k.kept; is = sym (C.others t d) ∙ k.is })

pub writes_keep : (w : World) (P : Project) (root : Task) (base : List Task) (R : Task → Option Record) (names : List Task) (fs : List Frame) (f : Frame)
    (kept after : Task → List (Path × List ℕ)) → UnderWay w P root base R names fs f → ((x : Task) → (x ≡ f.task → ⊥) → after x ≡ kept x)
    → KeepsContents w P R kept → KeepsContents w P R after
writes_keep w P root base R names fs f kept after U same K t k =
    same t (λ e. none_some (R t) k.kept (U.unrecorded t (subst (λ z. among z (tasks_of (f ∷ fs)) ≡ true) (sym e) (among_here f.task (tasks_of fs)))) k.is)
    ∙ K t k

-- ---- what is visible to the running task

pub own_seen : (P : Project) (f : Frame) (p : Path) (b : List ℕ) → kind_of p ≡ Out → first_write p f.progress.own ≡ Some b
    → visible_at P.file f.progress.own f.progress.kids p ≡ Holds b 0
own_seen P f p b k e =
    ap (visible_by P.file f.progress.own f.progress.kids p) k ∙ ap (λ o. own_first o (provided f.progress.kids p)) e

pub kept_seen : (w : World) (P : Project) (root : Task) (base : List Task) (R : Task → Option Record) (names : List Task) (fs : List Frame) (f : Frame)
    (kept : Task → List (Path × List ℕ)) (p : Path) (s : Seen) → UnderWay w P root base R names fs f → KeepsContents w P R kept → kind_of p ≡ Out
    → first_write p f.progress.own ≡ None → IsShown (WroteContents R kept (needs_of f.seen) p) s
    → visible_at P.file f.progress.own f.progress.kids p ≡ s
kept_seen w P root base R names fs f kept p s U K k e h =
    ap (visible_by P.file f.progress.own f.progress.kids p) k
    ∙ ap (λ o. own_first o (provided f.progress.kids p)) e
    ∙ running_sees w P root base R names fs f kept p s U K h

pub nothing_seen : (P : Project) (f : Frame) (p : Path) → kind_of p ≡ Kept → visible_at P.file f.progress.own f.progress.kids p ≡ Nothing
nothing_seen P f p k = ap (visible_by P.file f.progress.own f.progress.kids p) k

pub source_seen : (P : Project) (f : Frame) (p : Path) → kind_of p ≡ Source
    → visible_at P.file f.progress.own f.progress.kids p ≡ seen_file (P.file p)
source_seen P f p k = ap (visible_by P.file f.progress.own f.progress.kids p) k
