-- A build with the record cache keeps entries of evaluations, and is a clean build where it begins honestly.
use Rattle.std.proofs.Common.{◌≡◌, ◌∙◌, ℕ, zero, suc, ◌≤◌, Bool, true, false, cond, List, [], ◌∷◌, ◌++◌, length, take, Option, None, Some}
use Rattle.std.proofs.Common.{refl, sym, ap, subst, inl, inr, arith}
use Rattle.std.specs.Prelude.{All, is_some, nat_lt}
use Rattle.std.proofs.lemmas.List.Elements.{All-contains, All-cons, All-nil, All-take, All-weaker}
use Rattle.sha2.specs.Sha256.{sha256}
use Rattle.sha2.proofs.Facts256.{length-sha256}
use Rattle.pie_cache.proofs.Naming.{cache_inside}
use Rattle.pie_cache.proofs.Wholes.{read_again}
use Rattle.pie_cache.specs.inner.Keeping.{kept, text_in_front}
use Rattle.pie_cache.specs.inner.Places.{gate}
use Rattle.pie_cache.specs.inner.Reading.{cache_says}
use Rattle.pie_cache.specs.inner.Stored.{entries_of, or_none}
use Rattle.pie_cache.specs.inner.Texts.{IsKept}
use Rattle.pie_check_laws.proofs.Members.{here, there}
use Rattle.pie_commit.specs.inner.Plans.{Meets, Same, Bytes}
use Rattle.pie_files.specs.Directory.{Directory, file_at}
use Rattle.pie_report.specs.declared.report.Report.{Report}
use Rattle.pie_topdown_build.specs.Anew.{IsMetAlone}
use Rattle.pie_store.specs.inner.Offers.{Offered}
use Rattle.pie_topdown_build.specs.inner.News.{Told}
use Rattle.pie_topdown_build.specs.inner.Records.{AreOfProject, IsToldOf}
use Rattle.pie_value.specs.Canonical.{enc_task}
use Rattle.pie_value.specs.declared.task.Task.{Task}
use Rattle.pie_value.specs.declared.verdict.Verdict.{Verdict}
use Rattle.pie_value.specs.declared.verdict.Verdict.TheVariants.{Accepted, Refused}
use Rattle.pie_cached.specs.Cached.{is_cached}
use Rattle.pie_cached.specs.Clean.{BeginsHonestly, BeginsSeparately, CachesClean, IsOpenedAs}
use Rattle.pie_cached.specs.Clean.BeginsHonestly.{from_none, from_store}
use Rattle.pie_cached.specs.Clean.BeginsSeparately.{with_store, without_store}
use Rattle.pie_cached.specs.Honest.{AreHonestIn, AreOfEntries, Entry, IsFileOf, IsMetBy, IsOfEntries, IsTrueCache, IsTrueEntry, IsWholeEntry}
use Rattle.pie_cached.specs.Kept.{cache_file, gate_path}
use Rattle.pie_cached.specs.inner.Clean.{CachesCleanBy, OpenedClean}
use Rattle.pie_cached.specs.inner.News.{kept_of, last_told, KeepsIn}
use Rattle.pie_cached.proofs.Entries.{alone_honest, long, offered, offers_honest, opened_as, said, too_long, is_text}
use Rattle.pie_cached.proofs.Separately.{honest_if_true}
use Rattle.pie_cached.proofs.Staying.{told_at}
use Rattle.pie_cached.proofs.Texts.{have_hashes, none_read, same_body}

-- ---- the file of a task

-- the entries of a file are whole
whole_entries : (P : Entry → Type 0) (o : Option (List ℕ × ℕ)) → AreHonestIn P o → All IsWholeEntry (entries_of o)
whole_entries P None h = All-nil IsWholeEntry
whole_entries P (Some f) (inl over) =
    long IsWholeEntry (nat_lt 16777216 (length f.0)) (or_none (cache_says f.0)) (too_long 16777216 (length f.0) over)
whole_entries P (Some f) (inr (inl other)) = none_read IsWholeEntry f.0 other
whole_entries P (Some f) (inr (inr x)) =
    said IsWholeEntry (nat_lt 16777216 (length f.0)) (cache_says f.0) x.0 (read_again x.0 f.0 (is_text x.0 f.0 x.1)) x.1.each

few_taken : (n : ℕ) (es : List Entry) → length (take n es) ≤ n
few_taken zero es = omega arith
few_taken (suc n) [] = omega arith
few_taken (suc n) (e ∷ es) = omega (arith, few_taken n es)

-- an entry put in front of the first three
in_front : (o : Entry) (file : Option (List ℕ × ℕ)) (P : Entry → Type 0) → IsWholeEntry o → AreHonestIn P file
    → IsFileOf (o ∷ take 3 (entries_of file)) (text_in_front o file)
in_front o file P whole h = record {
  some = omega arith;
  few = omega (arith, few_taken 3 (entries_of file));
  each = All-cons IsWholeEntry o (take 3 (entries_of file)) whole (All-take IsWholeEntry 3 (entries_of file) (whole_entries P file h));
  is = ap (λ (t : List ℕ). t ++ sha256 t) (sym (same_body (o ∷ take 3 (entries_of file))));
}

-- what becomes of a file by an entry is so again
pub kept_so : (P : Entry → Type 0) (o : Entry) (file left : Option (List ℕ × ℕ)) → IsWholeEntry o → P o → AreHonestIn P file
    → Meets (kept (Some o) file) file left → AreHonestIn P left
kept_so P o file left whole p h meets = by (nat_lt 16777216 (length (text_in_front o file))) meets
  where
    by : (b : Bool) → Meets (cond b Same (Bytes (text_in_front o file))) file left → AreHonestIn P left
    by true m = subst (AreHonestIn P) (sym m) h
    by false m =
        subst (AreHonestIn P) (sym m.1)
        (inr (inr (
          o ∷ take 3 (entries_of file),
          in_front o file P whole h,
          All-cons P o (take 3 (entries_of file)) p (All-take P 3 (entries_of file) (offered P P file (λ e x. x) h)),
        )))

-- and so is a file of entries
whole_in : (o : Option (List ℕ × ℕ)) → IsOfEntries o → AreHonestIn IsWholeEntry o
whole_in None h = tt
whole_in (Some f) (inl over) = inl over
whole_in (Some f) (inr x) = inr (inr (x.0, x.1, x.1.each))

kept_file : (o : Entry) (file left : Option (List ℕ × ℕ)) → IsWholeEntry o → IsOfEntries file → Meets (kept (Some o) file) file left → IsOfEntries left
kept_file o file left whole h meets = by (nat_lt 16777216 (length (text_in_front o file))) meets
  where
    by : (b : Bool) → Meets (cond b Same (Bytes (text_in_front o file))) file left → IsOfEntries left
    by true m = subst IsOfEntries (sym m) h
    by false m = subst IsOfEntries (sym m.1) (inr (o ∷ take 3 (entries_of file), in_front o file IsWholeEntry whole (whole_in file h)))

-- ---- the whole cache

one_some : (y z : Directory) → Some y ≡ Some z → y ≡ z
one_some y z e = cc

-- where each entry that has the one has the other too
pub weaker_in : (P Q : Entry → Type 0) (o : Option (List ℕ × ℕ)) → ((e : Entry) → P e → Q e) → AreHonestIn P o → AreHonestIn Q o
weaker_in P Q None f h = tt
weaker_in P Q (Some file) f (inl over) = inl over
weaker_in P Q (Some file) f (inr (inl other)) = inr (inl other)
weaker_in P Q (Some file) f (inr (inr x)) = inr (inr (x.0, x.1, All-weaker P Q f x.0 x.2))

-- in one directory more
pub one_more : (seen : List Directory) (d : Directory) (path : List ℕ) (entry : Entry) → IsTrueEntry seen path entry → IsTrueEntry (d ∷ seen) path entry
one_more seen d path entry e = record {
  built = e.built;
  among = there d e.built seen e.among;
  funcs = e.funcs;
  roots = e.roots;
  found = e.found;
  digest = e.digest;
  listed = e.listed;
  is = e.is;
  evaluated = e.evaluated;
}

-- the file of a task is one of the cache
inside : (t : Task) (digest : List ℕ) → is_cached (cache_file t digest) ≡ true
inside t digest = cache_inside (cache_file t digest) (sha256 (digest ++ enc_task t), length-sha256 (digest ++ enc_task t), refl)

-- opening leaves it, or none
opened_file : (Q : Option (List ℕ × ℕ) → Type 0) (d opened : Directory) → IsOpenedAs d opened → Q None → (t : Task) (digest : List ℕ)
    → Q (file_at d (cache_file t digest)) → Q (file_at opened (cache_file t digest))
opened_file Q d opened opens none t digest was = by (file_at d gate_path) refl
  where
    by : (o : Option (List ℕ × ℕ)) → file_at d gate_path ≡ o → Q (file_at opened (cache_file t digest))
    by None e = subst (λ x. Q (file_at x (cache_file t digest))) (sym (opens.whole e)) was
    by (Some f) e = subst Q (sym (opens.emptied (ap is_some e) (cache_file t digest) (inside t digest))) none

opened_entries : (d opened : Directory) (seen : List Directory) → IsOpenedAs d opened → IsTrueCache seen d → IsTrueCache seen opened
opened_entries d opened seen opens entries t digest =
    opened_file (AreHonestIn (IsTrueEntry seen (cache_file t digest))) d opened opens (tt {0}) t digest (entries t digest)

module _ (opened : Directory) (r : Report) (after : Option Directory) (free : file_at opened gate ≡ None) (b : OpenedClean opened r after)
    (seen : List Directory) where
  abbrev IsTrue : List ℕ → Entry → Type 0
  IsTrue path = IsTrueEntry (opened ∷ seen) path

  opened_true : IsTrueCache seen opened → IsTrueCache (opened ∷ seen) opened
  opened_true entries t digest =
      weaker_in (IsTrueEntry seen (cache_file t digest)) (IsTrue (cache_file t digest)) (file_at opened (cache_file t digest))
      (one_more seen opened (cache_file t digest)) (entries t digest)

  -- what is told of a build that began honestly is of its project
  told_of : r.verdict ≡ Accepted → BeginsHonestly opened r → AreOfProject opened b.told
  told_of accepted (from_store none e from honest) = b.honest.goes_on none accepted e from (offers_honest e from.strings opened honest)
  told_of accepted (from_none some apart honest) = b.honest.afresh some accepted apart (alone_honest apart.strings opened honest)

  -- an entry of that, at its path
  entry_of : (path : List ℕ) (o : Offered) → AreOfProject opened b.told → last_told b.told path ≡ Some o → IsWholeEntry o × IsTrue path o
  entry_of path o all e =
      let m = told_at b.told path o e in
      let is = All-contains (IsToldOf all.found.functions opened all.funcs) b.told m.0 all.each m.1 in
      let keeps = All-contains (λ (t : Told). IsKept t.1) b.told m.0 b.whole m.1 in
      subst (λ x. IsWholeEntry x × IsTrue path x) m.3 (
        (is.row, have_hashes m.0.1.0.writes m.0.1.1 keeps.1),
        record {
          built = opened;
          among = here opened seen;
          funcs = all.funcs;
          roots = all.roots;
          found = all.found;
          digest = m.0.0;
          listed = is.listed;
          is = m.2;
          evaluated = is.evaluated;
        },
      )

  -- what files of the cache have, and files with such an entry in front, they have afterwards
  module _ (Q : List ℕ → Option (List ℕ × ℕ) → Type 0)
      (goes_on : (path : List ℕ) (o : Offered) (file left : Option (List ℕ × ℕ)) → IsWholeEntry o → IsTrue path o → Q path file
      → Meets (kept (Some o) file) file left → Q path left)
      (had : (t : Task) (digest : List ℕ) → Q (cache_file t digest) (file_at opened (cache_file t digest)))
      (begins : r.verdict ≡ Accepted → BeginsHonestly opened r) where
    kept_in : (x : Directory) → KeepsIn (file_at opened) (kept_of r.verdict b.told) x → (t : Task) (digest : List ℕ)
        → Q (cache_file t digest) (file_at x (cache_file t digest))
    kept_in x keeps t digest = by r.verdict refl (keeps path (inside t digest))
      where
        path : List ℕ
        path = cache_file t digest

        new : AreOfProject opened b.told → (o : Option Offered) → last_told b.told path ≡ o
            → Meets (kept o (file_at opened path)) (file_at opened path) (file_at x path) → Q path (file_at x path)
        new all None e m = subst (Q path) (sym m) (had t digest)
        new all (Some o) e m =
            let p = entry_of path o all e in goes_on path o (file_at opened path) (file_at x path) p.0 p.1 (had t digest) m

        by : (v : Verdict) → r.verdict ≡ v
            → Meets (kept (last_told (kept_of v b.told) path) (file_at opened path)) (file_at opened path) (file_at x path) → Q path (file_at x path)
        by Accepted e m = new (told_of e (begins e)) (last_told b.told path) refl m
        by (Refused z) e m = subst (Q path) (sym m) (had t digest)

    had_still : (x : Directory) → after ≡ Some x → (t : Task) (digest : List ℕ) → Q (cache_file t digest) (file_at x (cache_file t digest))
    had_still x is t digest =
        let k = b.kept free in subst (λ (y : Directory). Q (cache_file t digest) (file_at y (cache_file t digest))) (one_some k.0 x (sym k.1 ∙ is))
        (kept_in k.0 k.2 t digest)

  entries_true : IsTrueCache seen opened → (r.verdict ≡ Accepted → BeginsHonestly opened r) → (x : Directory) → after ≡ Some x
      → IsTrueCache (opened ∷ seen) x
  entries_true entries begins =
      had_still (λ path. AreHonestIn (IsTrue path)) (λ path o file left whole is h m. kept_so (IsTrue path) o file left whole is h m) (opened_true entries)
      begins

  files_still : AreOfEntries opened → (r.verdict ≡ Accepted → BeginsHonestly opened r) → (x : Directory) → after ≡ Some x → AreOfEntries x
  files_still files begins = had_still (λ path. IsOfEntries) (λ path o file left whole is h m. kept_file o file left whole h m) files begins

-- once it was opened no gate stands
gate_free : (d opened : Directory) → IsOpenedAs d opened → file_at opened gate ≡ None
gate_free d opened opens = by (file_at d gate_path) refl
  where
    by : (o : Option (List ℕ × ℕ)) → file_at d gate_path ≡ o → file_at opened gate ≡ None
    by None e = ap (λ x. file_at x gate) (opens.whole e) ∙ e
    by (Some f) e = opens.emptied (ap is_some e) gate refl

-- ---- the whole build

begins_so : (seen : List Directory) (d : Directory) (r : Report) → IsTrueCache seen d → BeginsSeparately seen d r → BeginsHonestly d r
begins_so seen d r entries (with_store none e from apart) = from_store none e from (honest_if_true (IsMetBy e from.strings d) seen d apart entries)
begins_so seen d r entries (without_store some apart separate) =
    from_none some apart (honest_if_true (IsMetAlone apart.strings d) seen d separate entries)

pub clean_of : (d : Directory) (r : Report) (after : Option Directory) → CachesCleanBy d r after → CachesClean d r after
clean_of d r after by =
    let opens = opened_as d by.opened (file_at d gate) by.opens in
    let as_is : IsOpenedAs d by.opened = record { whole = opens.0; emptied = opens.1; same = by.same } in
    record {
      opened = by.opened;
      opens = as_is;
      left = by.builds.left;
      goes_on = λ none e from honest. by.builds.clean.goes_on none e from (offers_honest e from.strings by.opened honest);
      goes_on_true = λ none e from seen entries separate.
          by.builds.clean.goes_on none e from (offers_honest e from.strings by.opened
          (honest_if_true (IsMetBy e from.strings by.opened) seen by.opened separate (opened_entries d by.opened seen as_is entries)));
      afresh = λ some apart honest. by.builds.clean.afresh some apart (alone_honest apart.strings by.opened honest);
      afresh_true = λ some apart seen entries separate.
          by.builds.clean.afresh some apart (alone_honest apart.strings by.opened
          (honest_if_true (IsMetAlone apart.strings by.opened) seen by.opened separate (opened_entries d by.opened seen as_is entries)));
      cause = by.builds.clean.cause;
      keeps = by.builds.keeps;
      entries = λ seen entries.
          entries_true by.opened r after (gate_free d by.opened as_is) by.builds seen (opened_entries d by.opened seen as_is entries);
      files = λ files.
          files_still by.opened r after (gate_free d by.opened as_is) by.builds []
          (λ t digest. opened_file IsOfEntries d by.opened as_is (tt {0}) t digest (files t digest));
      stays_true = λ seen entries begins.
          let true_still = opened_entries d by.opened seen as_is entries in
          entries_true by.opened r after (gate_free d by.opened as_is) by.builds seen true_still
          (λ accepted. begins_so seen by.opened r true_still (begins accepted));
    }
