-- A build with the record cache puts the entry of each live task that ran in front of those of its cache file.
use Rattle.std.proofs.Common.{◌≡◌, ◌∙◌, ◌⊎◌, ℕ, ◌<◌, ◌≤◌, Bool, true, false, cond, List, [], ◌∷◌, ◌++◌, length, map, take, Option, None, Some, Result, Ok, Err, refl, sym, ap, subst, inl, inr}
use Rattle.std.specs.Prelude.{All, Contains, is_some, nat_lt}
use Rattle.std.specs.List.{filter}
use Rattle.std.proofs.lemmas.Bool.{false≢true, ltb-true, ltb-false}
use Rattle.std.proofs.lemmas.List.Elements.{All-contains, All-contains_itself, All-filter, filter_passes}
use Rattle.sha2.specs.Sha256.{sha256}
use Rattle.sha2.proofs.Facts256.{length-sha256}
use Rattle.pie_base.specs.Path.{same_text}
use Rattle.pie_cache.proofs.Naming.{cache_inside}
use Rattle.pie_cache.proofs.Wholes.{read_again}
use Rattle.pie_cache.specs.declared.cache_fault.CacheFault.{CacheFault}
use Rattle.pie_cache.specs.inner.Keeping.{kept, or_else, text_in_front}
use Rattle.pie_cache.specs.inner.Places.{cache_path, gate}
use Rattle.pie_cache.specs.inner.Reading.{cache_says}
use Rattle.pie_cache.specs.inner.Stored.{entries_of, or_none}
use Rattle.pie_check_laws.proofs.Members.{here, here_or_there, into_map, from_map, none_in, there}
use Rattle.pie_commit.proofs.Standing.{same_itself}
use Rattle.pie_commit.specs.inner.Plans.{Meets, Same, Bytes}
use Rattle.pie_files.specs.Directory.{Directory, file_at}
use Rattle.pie_files.specs.inner.Held.{is_among}
use Rattle.pie_record.specs.declared.task_record.TaskRecord.{TaskRecord}
use Rattle.pie_report.specs.declared.report.Report.{Report}
use Rattle.pie_store.specs.inner.Offers.{Offered}
use Rattle.pie_topdown_build.proofs.Ran.{among_in, in_among}
use Rattle.pie_topdown_build.specs.Records.{AreShort}
use Rattle.pie_topdown_build.specs.inner.News.{Told}
use Rattle.pie_topdown_build.specs.inner.Records.{AreAllOf, IsToldOf}
use Rattle.pie_value.specs.Canonical.{enc_task}
use Rattle.pie_value.specs.declared.task.Task.{Task}
use Rattle.pie_value.specs.declared.verdict.Verdict.{Verdict}
use Rattle.pie_value.specs.declared.verdict.Verdict.TheVariants.{Accepted}
use Rattle.pie_cached.specs.Cached.{is_cached}
use Rattle.pie_cached.specs.Clean.{BeginsHonestly, IsOpenedAs}
use Rattle.pie_cached.specs.Clean.BeginsHonestly.{from_none, from_store}
use Rattle.pie_cached.specs.Honest.{Entry, IsFileOf, IsNoFile}
use Rattle.pie_cached.specs.Kept.{cache_file, gate_path}
use Rattle.pie_cached.specs.News.{file_bytes, GetsInFront, GetsNew, HasEntries, IsNewEntry, KeepsNew, KeepsNews}
use Rattle.pie_cached.specs.Ran.{HasBytes}
use Rattle.pie_cached.specs.inner.Clean.{CachesCleanBy, OpenedClean}
use Rattle.pie_cached.specs.inner.News.{kept_of, last_told, KeepsIn}
use Rattle.pie_cached.proofs.Entries.{alone_honest, is_text, offers_honest, opened_as}
use Rattle.pie_cached.proofs.Staying.{told_at}
use Rattle.pie_cached.proofs.Texts.{all_fit, file_read, same_body}

-- ---- a file of the cache

-- a file is of bytes, if there is one
abbrev IsBytesIn : Option (List ℕ × ℕ) → Type 0
IsBytesIn o = (f : List ℕ × ℕ) → o ≡ Some f → All (λ b. b < 256) f.0

-- what is read of such a file: its entries, or none
has_entries : (o : Option (List ℕ × ℕ)) → IsBytesIn o → HasEntries o (entries_of o)
has_entries None bytes = refl
has_entries (Some f) bytes = by (nat_lt 16777216 (length f.0)) refl
  where
    says : (r : Result (List Entry) CacheFault) → cache_says f.0 ≡ r → (IsNoFile f.0 × (or_none r ≡ [])) ⊎ IsFileOf (or_none r) f.0
    says (Ok es) e = inr (file_read f.0 es (all_fit f.0 (bytes f refl)) e)
    says (Err x) e = inl (
      record { fit = bytes f refl; none = λ es is. absurd (cc (sym (read_again es f.0 (is_text es f.0 is)) ∙ e)) },
      refl,
    )

    by : (b : Bool) → nat_lt 16777216 (length f.0) ≡ b
        → ((16777216 < length f.0) × (cond b [] (or_none (cache_says f.0)) ≡ []))
        ⊎ ((length f.0 ≤ 16777216)
        × ((IsNoFile f.0 × (cond b [] (or_none (cache_says f.0)) ≡ [])) ⊎ IsFileOf (cond b [] (or_none (cache_says f.0))) f.0))
    by true e = inl (ltb-true 16777216 (length f.0) e, refl)
    by false e = inr (ltb-false 16777216 (length f.0) e, says (cache_says f.0) refl)

-- what becomes of it by an entry
gets_front : (o : Entry) (was left : Option (List ℕ × ℕ)) → IsBytesIn was → Meets (kept (Some o) was) was left → GetsInFront o was left
gets_front o was left bytes meets = (
  entries_of was,
  has_entries was bytes,
  by (nat_lt 16777216 (length (text_in_front o was))) refl meets,
)
  where
    text : text_in_front o was ≡ file_bytes (o ∷ take 3 (entries_of was))
    text = ap (λ (t : List ℕ). t ++ sha256 t) (sym (same_body (o ∷ take 3 (entries_of was))))

    by : (b : Bool) → nat_lt 16777216 (length (text_in_front o was)) ≡ b → Meets (cond b Same (Bytes (text_in_front o was))) was left
        → ((16777216 < length (file_bytes (o ∷ take 3 (entries_of was)))) × (left ≡ was))
        ⊎ ((mark : ℕ) × (left ≡ Some (file_bytes (o ∷ take 3 (entries_of was)), mark)))
    by true e m = inl (
      subst (λ (t : List ℕ). 16777216 < length t) text (ltb-true 16777216 (length (text_in_front o was)) e),
      m,
    )
    by false e m = inr (m.0, m.1 ∙ ap (λ (t : List ℕ). Some (t, m.0)) text)

-- ---- what is told for a path

-- one that is told for a path is the last, or another is
some_last : (told : List Told) (t : Told) (path : List ℕ) → Contains told t → path ≡ cache_path t.1.0.task t.0
    → (o : Offered) × (last_told told path ≡ Some o)
some_last [] t path i is = absurd (none_in t i)
some_last (x ∷ told) t path i is = by (last_told told path) refl (here_or_there x t told i) (λ k. some_last told t path k is)
  where
    own : Option Offered
    own = cond (same_text path (cache_path x.1.0.task x.0)) (Some x.1) None

    by : (o : Option Offered) → last_told told path ≡ o → (x ≡ t) ⊎ Contains told t
        → (Contains told t → (p : Offered) × (last_told told path ≡ Some p)) → (p : Offered) × (or_else (last_told told path) own ≡ Some p)
    by (Some p) e c more = (p, ap (λ q. or_else q own) e)
    by None e (inr k) more = let m = more k in (m.0, ap (λ q. or_else q own) m.1)
    by None e (inl same) more =
        let at : path ≡ cache_path x.1.0.task x.0 = is ∙ ap (λ (y : Told). cache_path y.1.0.task y.0) (sym same) in
        let here : same_text path (cache_path x.1.0.task x.0) ≡ true =
        ap (λ (q : List ℕ). same_text q (cache_path x.1.0.task x.0)) at ∙ same_itself (cache_path x.1.0.task x.0) in
        (x.1, ap (λ q. or_else q own) e ∙ ap (λ (b : Bool). cond b (Some x.1) None) here)

-- one that passes is among those that pass
in_filter : (p : TaskRecord → Bool) (rows : List TaskRecord) (row : TaskRecord) → Contains rows row → p row ≡ true → Contains (filter p rows) row
in_filter p [] row i on = absurd (none_in row i)
in_filter p (x ∷ rows) row i on = by (p x) refl (here_or_there x row rows i) (λ k. in_filter p rows row k on)
  where
    by : (b : Bool) → p x ≡ b → (x ≡ row) ⊎ Contains rows row → (Contains rows row → Contains (filter p rows) row)
        → Contains (cond b (x ∷ filter p rows) (filter p rows)) row
    by true e (inl same) more = subst (λ y. Contains (x ∷ filter p rows) y) same (here x (filter p rows))
    by true e (inr k) more = there x row (filter p rows) (more k)
    by false e (inl same) more = absurd (false≢true (sym e ∙ ap p same ∙ on))
    by false e (inr k) more = more k

-- ---- the whole cache

one_some : (y z : Directory) → Some y ≡ Some z → y ≡ z
one_some y z e = cc

module _ (d opened : Directory) (r : Report) (after : Option Directory) (opens : IsOpenedAs d opened) (free : file_at opened gate ≡ None)
    (b : OpenedClean opened r after) (bytes : HasBytes opened) where
  inside : (t : Task) (digest : List ℕ) → is_cached (cache_file t digest) ≡ true
  inside t digest = cache_inside (cache_file t digest) (sha256 (digest ++ enc_task t), length-sha256 (digest ++ enc_task t), refl)

  -- all that is told of a build that began honestly
  all_told : r.verdict ≡ Accepted → BeginsHonestly opened r → AreAllOf opened r.ran.items b.told
  all_told accepted (from_store none e from honest) = b.honest.all none accepted e from (offers_honest e from.strings opened honest)
  all_told accepted (from_none some apart honest) = b.honest.all_afresh some accepted apart (alone_honest apart.strings opened honest)

  module _ (a : AreAllOf opened r.ran.items b.told) (x : Directory) (keeps : KeepsIn (file_at opened) b.told x)
      (short : AreShort a.found.functions opened (map enc_task a.roots)) where
    abbrev ran_too : TaskRecord → Bool
    ran_too row = is_among (enc_task row.task) (map enc_task r.ran.items)

    is_told : map (λ (t : Told). t.1.0) b.told ≡ filter ran_too a.all.rows
    is_told = a.all.all short

    -- what is told is new
    new_of : (t : Told) (path : List ℕ) → Contains b.told t → path ≡ cache_path t.1.0.task t.0
        → IsNewEntry a.found.functions opened a.funcs a.all.rows r.ran.items path t.1
    new_of t path i at =
        let is = All-contains (IsToldOf a.found.functions opened a.funcs) b.told t a.each i in
        let row : Contains (filter ran_too a.all.rows) t.1.0 =
        subst (λ (rs : List TaskRecord). Contains rs t.1.0) is_told (into_map (λ (y : Told). y.1.0) b.told t i) in
        record {
          live = All-contains (Contains a.all.rows) (filter ran_too a.all.rows) t.1.0
              (All-filter ran_too (Contains a.all.rows) a.all.rows (All-contains_itself a.all.rows)) row;
          ran_too = among_in (enc_task t.1.0.task) (map enc_task r.ran.items)
              (All-contains (λ (y : TaskRecord). ran_too y ≡ true) (filter ran_too a.all.rows) t.1.0 (filter_passes ran_too a.all.rows) row);
          digest = t.0;
          listed = is.listed;
          is = at;
          evaluated = is.evaluated;
        }

    gets_new : (row : TaskRecord) → Contains a.all.rows row → Contains (map enc_task r.ran.items) (enc_task row.task)
        → GetsNew a.found.functions opened a.funcs a.all.rows r.ran.items x row.task
    gets_new row i ran = record {
      digest = own.0.0;
      listed = subst (λ (y : TaskRecord). Contains a.funcs (y.task.func, own.0.0)) own.2
          (All-contains (IsToldOf a.found.functions opened a.funcs) b.told own.0 a.each own.1).listed;
      entry = found.0.1;
      new = new_of found.0 path found.1 found.2;
      gets = gets_front found.0.1 (file_at opened path) (file_at x path) (λ f is. bytes row.task own.0.0 f is)
          (subst (λ o. Meets (kept o (file_at opened path)) (file_at opened path) (file_at x path)) (last.1 ∙ ap (λ (o : Offered). Some o) (sym found.3))
          (keeps path (inside row.task own.0.0)));
    }
      where
        own : (t : Told) × Contains b.told t × (t.1.0 ≡ row)
        own =
            from_map (λ (t : Told). t.1.0) b.told row
            (subst (λ (rs : List TaskRecord). Contains rs row) (sym is_told)
            (in_filter ran_too a.all.rows row i (in_among (enc_task row.task) (map enc_task r.ran.items) ran)))

        path : List ℕ
        path = cache_file row.task own.0.0

        last : (o : Offered) × (last_told b.told path ≡ Some o)
        last = some_last b.told own.0 path own.1 (ap (λ (y : TaskRecord). cache_path y.task own.0.0) (sym own.2))

        found : (t : Told) × Contains b.told t × (path ≡ cache_path t.1.0.task t.0) × (t.1 ≡ last.0)
        found = told_at b.told path last.0 last.1

  keeps_new : r.verdict ≡ Accepted → BeginsHonestly opened r → (x : Directory) → after ≡ Some x → KeepsNew opened r.ran.items x
  keeps_new accepted begins x is =
      let a = all_told accepted begins in
      let k = b.kept free in
      let keeps : KeepsIn (file_at opened) b.told x =
      subst (λ (v : Verdict). KeepsIn (file_at opened) (kept_of v b.told) x) accepted
      (subst (λ (y : Directory). KeepsIn (file_at opened) (kept_of r.verdict b.told) y) (one_some k.0 x (sym k.1 ∙ is)) k.2) in
      record {
        funcs = a.funcs;
        roots = a.roots;
        found = a.found;
        rows = a.all.rows;
        records = a.all.records;
        each = λ short row i ran. gets_new a x keeps short row i ran;
      }

-- once it was opened no gate stands
gate_free : (d opened : Directory) → IsOpenedAs d opened → file_at opened gate ≡ None
gate_free d opened opens = by (file_at d gate_path) refl
  where
    by : (o : Option (List ℕ × ℕ)) → file_at d gate_path ≡ o → file_at opened gate ≡ None
    by None e = ap (λ x. file_at x gate) (opens.whole e) ∙ e
    by (Some f) e = opens.emptied (ap is_some e) gate refl

-- ---- the whole build

pub news_of : (d : Directory) (r : Report) (after : Option Directory) → CachesCleanBy d r after → KeepsNews d r after
news_of d r after by =
    let opens = opened_as d by.opened (file_at d gate) by.opens in
    let as_is : IsOpenedAs d by.opened = record { whole = opens.0; emptied = opens.1; same = by.same } in
    record {
      opened = by.opened;
      opens = as_is;
      news = λ bytes accepted begins kept is.
          keeps_new d by.opened r after as_is (gate_free d by.opened as_is) by.builds bytes accepted begins kept is;
    }
