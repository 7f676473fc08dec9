-- The files of a build, in order.
use Rattle.std.proofs.Common.{◌≡◌, ℕ, ◌+◌, ◌<◌, ◌≤◌, Bool, true, false, cond, List, [], ◌∷◌, length, take, get_or, Some, None, sym, ap, subst, refl, ◌∙◌, inl, inr}
use Rattle.std.specs.Prelude.{All, Contains, IfSome, IsSome, IsTrue, Option, Vec}
use Rattle.std.specs.Ordering.{nat_cmp, is_eq}
use Rattle.std.specs.Cmp.Lexicographic.{slice_cmp}
use Rattle.std.specs.BTreeMap.{BTreeMap, IsOrdered}
use Rattle.std.proofs.lemmas.Cmp.{nat_list_cmp_total}
use Rattle.std.proofs.lemmas.List.{get_or_default, take_all}
use Rattle.std.proofs.lemmas.List.Elements.{All-contains, All-more, All-weaker, Contains-append_cases, Contains-get_or}
use Rattle.std.proofs.lemmas.Map.Lookups.{exact_bytes}
use Rattle.std.proofs.lemmas.Map.Views.{All-found, btree_map_get_iff, tells_apart}
use Rattle.pie_base.specs.Path.{is_out}
use Rattle.pie_graph.specs.Numbers.{IsMarked}
use Rattle.pie_record.specs.declared.task_record.TaskRecord.{TaskRecord}
use Rattle.pie_record.specs.inner.Records.{record_of}
use Rattle.pie_tables.specs.declared.tables.Tables.{Tables}
use Rattle.pie_view.specs.Content.{Staged, content}
use Rattle.pie_results.specs.inner.Failures.{is_done}
use Rattle.pie_results.specs.inner.Files.{AreFiles, AreOfTasks, HasStaged, HasWritten, InPathOrder, IsFile, KeepsPaths, OnlyOut, Wrote, contents_in, file_at}
use Rattle.pie_results.proofs.Starting.{has_map, map_has, seen_more, the_one}

pub in_path_order : {Z : Type 0} (files : BTreeMap (List ℕ) (Vec ℕ Z)) (list : List (List ℕ × Vec ℕ Z)) → IsOrdered (slice_cmp nat_cmp) files → OnlyOut files
    → list ≡ files.entries → InPathOrder list
in_path_order {Z} files list ordered only same = subst (λ (l : List (List ℕ × Vec ℕ Z)). InPathOrder l) (sym same) (record {
  ascending = ordered;
  out = λ k d lt.
      let e : List ℕ × Vec ℕ Z = get_or files.entries k d in
      subst (λ o. IfSome o (λ _. IsTrue (is_out e.0))) (All-found nat_list_cmp_total files ordered k d lt) (only e.0);
})

-- a map has this file more
abbrev pub PutsFile : {Z : Type 0} → BTreeMap (List ℕ) (Vec ℕ Z) → BTreeMap (List ℕ) (Vec ℕ Z) → List ℕ → Vec ℕ Z → Type 0
PutsFile old new path b = (q : List ℕ) → file_at new q ≡ cond (is_eq (slice_cmp nat_cmp path q)) (Some b) (file_at old q)

pub puts_at : {Z : Type 0} (path key : List ℕ) (b : Vec ℕ Z) (old new : BTreeMap (List ℕ) (Vec ℕ Z)) → key ≡ path → PutsFile old new key b
    → PutsFile old new path b
puts_at path key b old new same puts = subst (λ k. PutsFile old new k b) same puts

pub put_out : {Z : Type 0} (path : List ℕ) (b : Vec ℕ Z) (old new : BTreeMap (List ℕ) (Vec ℕ Z)) → IsTrue (is_out path) → PutsFile old new path b → OnlyOut old
    → OnlyOut new
put_out {Z} path b old new out puts before q =
    subst (λ (o : Option (Vec ℕ Z)). IfSome o (λ _. IsTrue (is_out q))) (sym (puts q)) (by (is_eq (slice_cmp nat_cmp path q)) refl)
  where
    by : (t : Bool) → is_eq (slice_cmp nat_cmp path q) ≡ t → IfSome (cond t (Some b) (file_at old q)) (λ _. IsTrue (is_out q))
    by true e = subst (λ p. IsTrue (is_out p)) (tells_apart exact_bytes path q e) out
    by false e = before q

-- a file has what a live task that wrote the path staged there
abbrev IsOfTask : {Z : Type 0} → Tables → Staged → List ℕ → List ℕ → Option (Vec ℕ Z) → Type 0
IsOfTask {Z} t staged live path o = IfSome o (λ (b : Vec ℕ Z). IsFile t staged live path b.items)

pub put_of_tasks : {Z : Type 0} (t : Tables) (staged : Staged) (live : List ℕ) (n : ℕ) (path : List ℕ) (b : Vec ℕ Z) (old new : BTreeMap (List ℕ) (Vec ℕ Z))
    → Contains live n → Wrote t n path → content staged n path ≡ Some b.items → PutsFile old new path b → AreOfTasks t staged live old
    → AreOfTasks t staged live new
put_of_tasks {Z} t staged live n path b old new is_live wrote at puts all q =
    subst (IsOfTask t staged live q) (sym (puts q)) (by (is_eq (slice_cmp nat_cmp path q)) refl)
  where
    by : (c : Bool) → is_eq (slice_cmp nat_cmp path q) ≡ c → IsOfTask t staged live q (cond c (Some b) (file_at old q))
    by true e =
        subst (λ p. IsFile t staged live p b.items) (tells_apart exact_bytes path q e)
        (record { number = n; is_live = is_live; wrote = wrote; staged_is = at })
    by false e = all q

-- ---- the files of one task

pub each_more : {Z : Type 0} (staged : Staged) (n : ℕ) (ws : List (List ℕ × List ℕ)) (i : ℕ) (w : List ℕ × List ℕ) (old new : BTreeMap (List ℕ) (Vec ℕ Z))
    → i < length ws → w ≡ get_or ws i w → KeepsPaths old new → HasStaged staged n new w.0
    → All (λ (x : List ℕ × List ℕ). HasStaged staged n old x.0) (take i ws) → All (λ (x : List ℕ × List ℕ). HasStaged staged n new x.0) (take (i + 1) ws)
each_more staged n ws i w old new lt is keeps here before =
    All-more (λ (x : List ℕ × List ℕ). HasStaged staged n new x.0) ws i w lt
    (All-weaker (λ (x : List ℕ × List ℕ). HasStaged staged n old x.0) (λ (x : List ℕ × List ℕ). HasStaged staged n new x.0) (λ x h s. keeps x.0 (h s))
    (take i ws) before)
    (subst (λ (x : List ℕ × List ℕ). HasStaged staged n new x.0) is here)

pub each_all : {Z : Type 0} (staged : Staged) (n : ℕ) (ws : List (List ℕ × List ℕ)) (i : ℕ) (files : BTreeMap (List ℕ) (Vec ℕ Z)) → length ws ≤ i
    → All (λ (x : List ℕ × List ℕ). HasStaged staged n files x.0) (take i ws) → All (λ (x : List ℕ × List ℕ). HasStaged staged n files x.0) ws
each_all staged n ws i files le before = subst (λ xs. All (λ (x : List ℕ × List ℕ). HasStaged staged n files x.0) xs) (take_all i ws le) before

pub wrote_here : (t : Tables) (n : ℕ) (ws : List (List ℕ × List ℕ)) (i : ℕ) (w : List ℕ × List ℕ) → i < length ws → w ≡ get_or ws i w
    → All (λ (x : List ℕ × List ℕ). Wrote t n x.0) ws → Wrote t n w.0
wrote_here t n ws i w lt is all = subst (λ (x : List ℕ × List ℕ). Wrote t n x.0) (sym is) (all i w lt)

record_same : (r s : TaskRecord) → Some r ≡ Some s → r ≡ s
record_same r s e = cc

pub written_at : {Z : Type 0} (t : Tables) (staged : Staged) (n : ℕ) (r : TaskRecord) (files : BTreeMap (List ℕ) (Vec ℕ Z)) → record_of t.records n ≡ Some r
    → All (λ (w : List ℕ × List ℕ). HasStaged staged n files w.0) r.writes → HasWritten t staged n files
written_at t staged n r files found all path wrote =
    let same : wrote.rec ≡ r = record_same wrote.rec r (sym wrote.kept ∙ found) in
    All-contains (λ (w : List ℕ × List ℕ). HasStaged staged n files w.0) r.writes (path, wrote.hash) all
    (subst (λ (s : TaskRecord). Contains s.writes (path, wrote.hash)) same wrote.wrote)

pub wrote_all : (t : Tables) (n : ℕ) (r : TaskRecord) → IsMarked t.ran.items n → record_of t.records n ≡ Some r → is_done r.outcome ≡ true
    → All (λ (x : List ℕ × List ℕ). Wrote t n x.0) r.writes
wrote_all t n r ran found done k d lt = record {
  ran = ran;
  rec = r;
  kept = found;
  done = done;
  hash = (get_or r.writes k d).1;
  wrote = Contains-get_or r.writes k d lt;
}

-- ---- a task that wrote nothing in this build

undone_wrote : (t : Tables) (n : ℕ) (path : List ℕ) (r : TaskRecord) → record_of t.records n ≡ Some r → is_done r.outcome ≡ false → Wrote t n path → ⊥
undone_wrote t n path r found undone wrote =
    let same : wrote.rec ≡ r = record_same wrote.rec r (sym wrote.kept ∙ found) in
    let clash : false ≡ true = sym undone ∙ ap (λ (s : TaskRecord). is_done s.outcome) (sym same) ∙ wrote.done in
    absurd (cc)

pub written_undone : {Z : Type 0} (t : Tables) (staged : Staged) (n : ℕ) (r : TaskRecord) (files : BTreeMap (List ℕ) (Vec ℕ Z))
    → record_of t.records n ≡ Some r → is_done r.outcome ≡ false → HasWritten t staged n files
written_undone t staged n r files found undone path wrote = absurd (undone_wrote t n path r found undone wrote)

pub written_none : {Z : Type 0} (t : Tables) (staged : Staged) (n : ℕ) (files : BTreeMap (List ℕ) (Vec ℕ Z)) → record_of t.records n ≡ None
    → HasWritten t staged n files
written_none t staged n files free path wrote =
    let clash : None ≡ Some wrote.rec = sym free ∙ wrote.kept in absurd (cc)

-- ---- the files of all live tasks

-- each of some tasks has its files
abbrev pub HaveWritten : {Z : Type 0} → Tables → Staged → List ℕ → BTreeMap (List ℕ) (Vec ℕ Z) → Type 0
HaveWritten t staged seen files = (n : ℕ) → Contains seen n → HasWritten t staged n files

pub have_more : {Z : Type 0} (t : Tables) (staged : Staged) (live : List ℕ) (i n : ℕ) (old new : BTreeMap (List ℕ) (Vec ℕ Z)) → i < length live
    → n ≡ get_or live i n → KeepsPaths old new → HasWritten t staged n new → HaveWritten t staged (take i live) old
    → HaveWritten t staged (take (i + 1) live) new
have_more {Z} t staged live i n old new l e keeps here before =
    seen_more (λ (seen : List ℕ). HaveWritten t staged seen new) live i n l e
    (λ k c. elim (Contains-append_cases (take i live) (n ∷ []) k c) [
      | inl old ↦ λ path wrote has. keeps path (before k old path wrote has)
      | inr last ↦ subst (λ (j : ℕ). HasWritten t staged j new) (the_one n k last) here
    ])

found_some : {Z : Type 0} (o : Option (Vec ℕ Z)) → IsSome o → (b : Vec ℕ Z) × (o ≡ Some b)
found_some None h = absurd (cc)
found_some (Some b) h = (b, refl)

-- a file with its contents
abbrev shown : {Z : Type 0} → List ℕ × Vec ℕ Z → List ℕ × List ℕ
shown f = (f.0, f.1.items)

pub files_are : {Z : Type 0} (t : Tables) (staged : Staged) (live : List ℕ) (files : BTreeMap (List ℕ) (Vec ℕ Z)) (list : List (List ℕ × Vec ℕ Z))
    → IsOrdered (slice_cmp nat_cmp) files → list ≡ files.entries → AreOfTasks t staged live files → HaveWritten t staged live files
    → AreFiles t staged live (contents_in list)
files_are {Z} t staged live files list ordered same of_tasks has = record { only = only; each = each }
  where
    of_entry : (f : List ℕ × Vec ℕ Z) → Contains list f → IsFile t staged live f.0 f.1.items
    of_entry f c =
        let at : file_at files f.0 ≡ Some f.1
        = (btree_map_get_iff nat_list_cmp_total exact_bytes files ordered f.0 f.1).1 (subst (λ (es : List (List ℕ × Vec ℕ Z)). Contains es f) same c) in
        subst (IsOfTask t staged live f.0) at (of_tasks f.0)

    only : (path bytes : List ℕ) → Contains (contents_in list) (path, bytes) → IsFile t staged live path bytes
    only path bytes c =
        let f = map_has shown list (path, bytes) c in
        subst (λ (x : List ℕ × List ℕ). IsFile t staged live x.0 x.1) (sym f.2) (of_entry f.0 f.1)

    each : (n : ℕ) (path : List ℕ) → Contains live n → Wrote t n path → IsSome (content staged n path)
        → (bytes : List ℕ) × Contains (contents_in list) (path, bytes)
    each n path is_live wrote there =
        let at = found_some (file_at files path) (has n is_live path wrote there) in
        let entry = (btree_map_get_iff nat_list_cmp_total exact_bytes files ordered path at.0).0 at.1 in
        (at.0.items, has_map shown list (path, at.0) (subst (λ (es : List (List ℕ × Vec ℕ Z)). Contains es (path, at.0)) (sym same) entry))

pub ran_at : (flags : List Bool) (n : ℕ) (flag : Bool) → n < length flags → flag ≡ get_or flags n flag → flag ≡ true → IsMarked flags n
ran_at flags n flag l e is = sym (get_or_default flags n flag false l) ∙ sym e ∙ is

pub written_idle : {Z : Type 0} (t : Tables) (staged : Staged) (n : ℕ) (flag : Bool) (files : BTreeMap (List ℕ) (Vec ℕ Z)) → n < length t.ran.items
    → flag ≡ get_or t.ran.items n flag → flag ≡ false → HasWritten t staged n files
written_idle t staged n flag files l e idle path wrote =
    let clash : false ≡ true = sym idle ∙ e ∙ get_or_default t.ran.items n flag false l ∙ wrote.ran in absurd (cc)
