-- The files of a build, in order.
use Rattle.std.proofs.Common.{◌≡◌, ℕ, ◌+◌, ◌<◌, ◌≤◌, Bool, true, false, cond, List, length, take, get_or, Some, None, map, sym, subst, refl, ◌∙◌, arith}
use Rattle.std.specs.Prelude.{All, Contains, IfSome, IsSome, IsTrue, Option, Vec}
use Rattle.std.specs.Ordering.{nat_cmp, is_eq}
use Rattle.std.specs.Cmp.Lexicographic.{slice_cmp}
use Rattle.std.specs.BTreeMap.{BTreeMap, IsOrdered}
use Rattle.std.proofs.lemmas.Cmp.{nat_list_cmp_total}
use Rattle.std.proofs.lemmas.List.{take_all}
use Rattle.std.proofs.lemmas.List.Elements.{All-contains, All-more, All-weaker}
use Rattle.std.proofs.lemmas.Map.Lookups.{exact_bytes}
use Rattle.std.proofs.lemmas.Map.Views.{All-found, btree_map_get_iff, tells_apart}
use Rattle.std.proofs.lemmas.Option.{slice_get_within}
use Rattle.pie_base.specs.Path.{is_out}
use Rattle.pie_record.specs.declared.task_record.TaskRecord.{TaskRecord}
use Rattle.pie_record.specs.inner.Records.{record_of}
use Rattle.pie_view.specs.Content.{content}
use Rattle.pie_check_laws.proofs.Members.{into_map, from_map}
use Rattle.pie_builder_laws.specs.Builds.{WroteAt, IsFile}
use Rattle.pie_fresh.specs.declared.ledger.Ledger.{Ledger}
use Rattle.pie_fresh.specs.inner.Builds.{OnlyOut, InPathOrder}
use Rattle.pie_fresh.specs.inner.Collected.{AreFilesOf, AreOfTasks, HasAllBelow, HasStaged, HasWritten, KeepsPaths, WritesAreStaged, file_at}
use Rattle.pie_fresh.specs.inner.Ledgers.{IsLedger}
use Rattle.pie_fresh.proofs.Ordering.{recorded_at}

pub in_path_order : {Z : Type 0} (files : BTreeMap (List ℕ) (Vec ℕ Z)) (list : List (List ℕ × Vec ℕ Z)) → IsOrdered (slice_cmp nat_cmp) files → OnlyOut files
    → list ≡ files.entries → InPathOrder list
in_path_order {Z} files list ordered only same = subst (λ (l : List (List ℕ × Vec ℕ Z)). InPathOrder l) (sym same) (record {
  ascending = ordered;
  out = λ k d lt.
      let e : List ℕ × Vec ℕ Z = get_or files.entries k d in
      subst (λ o. IfSome o (λ _. IsTrue (is_out e.0))) (All-found nat_list_cmp_total files ordered k d lt) (only e.0);
})

-- ---- one file more

-- a map has this file more
abbrev pub PutsFile : {Z : Type 0} → BTreeMap (List ℕ) (Vec ℕ Z) → BTreeMap (List ℕ) (Vec ℕ Z) → List ℕ → Vec ℕ Z → Type 0
PutsFile old new path b = (q : List ℕ) → file_at new q ≡ cond (is_eq (slice_cmp nat_cmp path q)) (Some b) (file_at old q)

pub puts_at : {Z : Type 0} (path key : List ℕ) (b : Vec ℕ Z) (old new : BTreeMap (List ℕ) (Vec ℕ Z)) → key ≡ path → PutsFile old new key b
    → PutsFile old new path b
puts_at path key b old new same puts = subst (λ k. PutsFile old new k b) same puts

pub put_out : {Z : Type 0} (path : List ℕ) (b : Vec ℕ Z) (old new : BTreeMap (List ℕ) (Vec ℕ Z)) → IsTrue (is_out path) → PutsFile old new path b → OnlyOut old
    → OnlyOut new
put_out {Z} path b old new out puts before q =
    subst (λ (o : Option (Vec ℕ Z)). IfSome o (λ _. IsTrue (is_out q))) (sym (puts q)) (by (is_eq (slice_cmp nat_cmp path q)) refl)
  where
    by : (t : Bool) → is_eq (slice_cmp nat_cmp path q) ≡ t → IfSome (cond t (Some b) (file_at old q)) (λ _. IsTrue (is_out q))
    by true e = subst (λ p. IsTrue (is_out p)) (tells_apart exact_bytes path q e) out
    by false e = before q

-- a file has what a task that wrote the path staged there
abbrev IsOfTask : {Z : Type 0} → Ledger → List ℕ → Option (Vec ℕ Z) → Type 0
IsOfTask {Z} l path o = IfSome o (λ (b : Vec ℕ Z). IsFile l.records (content l.stage) path b.items)

pub put_of_tasks : {Z : Type 0} (l : Ledger) (n : ℕ) (path : List ℕ) (b : Vec ℕ Z) (old new : BTreeMap (List ℕ) (Vec ℕ Z)) → WroteAt l.records n path
    → content l.stage n path ≡ Some b.items → PutsFile old new path b → AreOfTasks l old → AreOfTasks l new
put_of_tasks {Z} l n path b old new wrote staged puts all q = subst (IsOfTask l q) (sym (puts q)) (by (is_eq (slice_cmp nat_cmp path q)) refl)
  where
    by : (t : Bool) → is_eq (slice_cmp nat_cmp path q) ≡ t → IsOfTask l q (cond t (Some b) (file_at old q))
    by true e =
        subst (λ p. IsFile l.records (content l.stage) p b.items) (tells_apart exact_bytes path q e)
        (record { number = n; wrote = wrote; staged_is = staged })
    by false e = all q

-- ---- the files of one task

pub each_more : {Z : Type 0} (l : Ledger) (n : ℕ) (ws : List (List ℕ × List ℕ)) (i : ℕ) (w : List ℕ × List ℕ) (old new : BTreeMap (List ℕ) (Vec ℕ Z))
    → i < length ws → w ≡ get_or ws i w → KeepsPaths old new → HasStaged l n new w.0
    → All (λ (x : List ℕ × List ℕ). HasStaged l n old x.0) (take i ws) → All (λ (x : List ℕ × List ℕ). HasStaged l n new x.0) (take (i + 1) ws)
each_more l n ws i w old new lt is keeps here before =
    All-more (λ (x : List ℕ × List ℕ). HasStaged l n new x.0) ws i w lt
    (All-weaker (λ (x : List ℕ × List ℕ). HasStaged l n old x.0) (λ (x : List ℕ × List ℕ). HasStaged l n new x.0) (λ x h s. keeps x.0 (h s)) (take i ws) before)
    (subst (λ (x : List ℕ × List ℕ). HasStaged l n new x.0) is here)

pub each_all : {Z : Type 0} (l : Ledger) (n : ℕ) (ws : List (List ℕ × List ℕ)) (i : ℕ) (files : BTreeMap (List ℕ) (Vec ℕ Z)) → length ws ≤ i
    → All (λ (x : List ℕ × List ℕ). HasStaged l n files x.0) (take i ws) → All (λ (x : List ℕ × List ℕ). HasStaged l n files x.0) ws
each_all l n ws i files le before = subst (λ xs. All (λ (x : List ℕ × List ℕ). HasStaged l n files x.0) xs) (take_all i ws le) before

record_same : (r s : TaskRecord) → Some r ≡ Some s → r ≡ s
record_same r s e = cc

pub written_at : {Z : Type 0} (l : Ledger) (n : ℕ) (r : TaskRecord) (files : BTreeMap (List ℕ) (Vec ℕ Z)) → record_of l.records n ≡ Some r
    → All (λ (w : List ℕ × List ℕ). HasStaged l n files w.0) r.writes → HasWritten l n files
written_at l n r files found all path wrote =
    let same : wrote.rec ≡ r = record_same wrote.rec r (sym wrote.kept ∙ found) in
    All-contains (λ (w : List ℕ × List ℕ). HasStaged l n files w.0) r.writes (path, wrote.hash) all
    (subst (λ (s : TaskRecord). Contains s.writes (path, wrote.hash)) same wrote.wrote)

-- ---- the files of all tasks

found_some : {Z : Type 0} (o : Option (Vec ℕ Z)) → IsSome o → (b : Vec ℕ Z) × (o ≡ Some b)
found_some None h = absurd (cc)
found_some (Some b) h = (b, refl)

-- a file with its contents
abbrev shown : {Z : Type 0} → List ℕ × Vec ℕ Z → List ℕ × List ℕ
shown f = (f.0, f.1.items)

pub files_are : {Z : Type 0} (l : Ledger) (below : ℕ) (files : BTreeMap (List ℕ) (Vec ℕ Z)) (list : List (List ℕ × Vec ℕ Z)) → IsLedger l
    → length l.names ≤ below → IsOrdered (slice_cmp nat_cmp) files → list ≡ files.entries → AreOfTasks l files → HasAllBelow l below files → WritesAreStaged l
    → AreFilesOf l list
files_are {Z} l below files list is all ordered same of_tasks has staged = record { only = only; each = each }
  where
    of_entry : (f : List ℕ × Vec ℕ Z) → Contains list f → IsFile l.records (content l.stage) f.0 f.1.items
    of_entry f c =
        let at : file_at files f.0 ≡ Some f.1
        = (btree_map_get_iff nat_list_cmp_total exact_bytes files ordered f.0 f.1).1 (subst (λ (es : List (List ℕ × Vec ℕ Z)). Contains es f) same c) in
        subst (IsOfTask l f.0) at (of_tasks f.0)

    only : (path bytes : List ℕ) → Contains (map shown list) (path, bytes) → IsFile l.records (content l.stage) path bytes
    only path bytes c =
        let f = from_map shown list (path, bytes) c in
        subst (λ (x : List ℕ × List ℕ). IsFile l.records (content l.stage) x.0 x.1) f.2 (of_entry f.0 f.1)

    each : (n : ℕ) (path : List ℕ) → WroteAt l.records n path → (bytes : List ℕ) × Contains (map shown list) (path, bytes)
    each n path wrote =
        let inside = slice_get_within l.names n wrote.rec.task (recorded_at l n wrote.rec is wrote.kept).named in
        let at = found_some (file_at files path) (has n (omega (arith, inside, all)) path wrote (staged n path wrote)) in
        let entry = (btree_map_get_iff nat_list_cmp_total exact_bytes files ordered path at.0).0 at.1 in
        (at.0.items, into_map shown list (path, at.0) (subst (λ (es : List (List ℕ × Vec ℕ Z)). Contains es (path, at.0)) (sym same) entry))
