-- What a crash leaves of a build with the record cache, from part to part.
use Rattle.std.proofs.Common.{◌≡◌, ◌⊎◌, inl, inr, ⊎_elim, ℕ, Bool, true, false, cond, List, ◌∷◌, ◌++◌, length, take, Option, None, Some, refl, sym, ap, subst, ◌∙◌}
use Rattle.std.specs.Prelude.{is_some, nat_lt, not}
use Rattle.std.specs.FinMap as fin
use Rattle.std.proofs.lemmas.Bool.{false≢true}
use Rattle.std.proofs.lemmas.List.Elements.{All-contains}
use Rattle.std.proofs.lemmas.Map.Lookups.{exact_bytes}
use Rattle.sha2.specs.Sha256.{sha256}
use Rattle.sha2.proofs.Facts256.{length-sha256}
use Rattle.pie_base.specs.Path.{same_text}
use Rattle.pie_cache.proofs.Gating.{gate_apart}
use Rattle.pie_cache.proofs.Naming.{cache_inside}
use Rattle.pie_cache.specs.inner.Changes.{AlikeOutside}
use Rattle.pie_cache.specs.inner.Gated.{OpensWhole}
use Rattle.pie_cache.specs.inner.Keeping.{kept, text_in_front}
use Rattle.pie_cache.specs.inner.Places.{gate}
use Rattle.pie_cache.specs.inner.Stored.{entries_of, offers_in}
use Rattle.pie_cache.specs.inner.Texts.{IsKept}
use Rattle.pie_check_laws.proofs.Members.{here}
use Rattle.pie_commit.proofs.Standing.{same_itself, same_path}
use Rattle.pie_commit.specs.Outcomes.{HasFile}
use Rattle.pie_commit.specs.inner.Plans.{Bytes, Meets, Same}
use Rattle.pie_files.specs.Directory.{Directory, file_at, without_file}
use Rattle.pie_incremental.specs.Crashes.{IsCleanBuilt}
use Rattle.pie_incremental.specs.Own.{open_path}
use Rattle.pie_store.specs.inner.Offers.{Offered}
use Rattle.pie_topdown_build.specs.Crashes.{StopsWith}
use Rattle.pie_topdown_build.specs.inner.Crashes.{EndsOffered}
use Rattle.pie_topdown_build.specs.inner.News.{Told}
use Rattle.pie_topdown_build.specs.inner.Records.{AreOfProject, IsToldOf}
use Rattle.pie_value.specs.Canonical.{enc_task}
use Rattle.pie_value.specs.declared.task.Task.{Task}
use Rattle.pie_cached.specs.Cached.{is_cached}
use Rattle.pie_cached.specs.Clean.{IsOpenedAs}
use Rattle.pie_cached.specs.Honest.{AreHonestIn, Entry, IsTrueCache, IsTrueEntry, IsWholeEntry}
use Rattle.pie_cached.specs.Crashes.{EndsCached, HasEndedCached, HasWholeCache, IsNewFile, MarkedCached, StartsHonestly, StopsCached}
use Rattle.pie_cached.specs.Crashes.StartsHonestly.{from_none, from_store}
use Rattle.pie_cached.specs.Kept.{cache_file, gate_path}
use Rattle.pie_cached.specs.inner.Crashes.{HasCacheOf, HasEndedOpened, HasNewOffers, MarkedOpened, StopsOpened}
use Rattle.pie_cached.specs.inner.News.{last_told}
use Rattle.pie_cached.proofs.Entries.{alone_honest, offers_honest}
use Rattle.pie_cached.proofs.Honestly.{kept_so, one_more, weaker_in}
use Rattle.pie_cached.proofs.Texts.{have_hashes, same_body}
use Rattle.pie_cached.proofs.Keeping.{cache_stays}
use Rattle.pie_cached.proofs.Staying.{told_at}

-- ---- the paths of cache files

inside : (t : Task) (digest : List ℕ) → is_cached (cache_file t digest) ≡ true
inside t digest = cache_inside (cache_file t digest) (sha256 (digest ++ enc_task t), length-sha256 (digest ++ enc_task t), refl)

other_way : (a b : List ℕ) → same_text a b ≡ false → same_text b a ≡ false
other_way a b off = by (same_text b a) refl
  where
    by : (t : Bool) → same_text b a ≡ t → same_text b a ≡ false
    by true e = absurd (false≢true (sym off ∙ subst (λ (x : List ℕ). same_text a x ≡ true) (sym (same_path b a e)) (same_itself a)))
    by false e = e

apart : (t : Task) (digest : List ℕ) → same_text (cache_file t digest) gate ≡ false
apart t digest =
    other_way gate (cache_file t digest)
    (gate_apart (cache_file t digest) (sha256 (digest ++ enc_task t), length-sha256 (digest ++ enc_task t), refl))

-- ---- opening

-- the directory that opening makes of one
opening_of : (d : Directory) → (x : Directory) × IsOpenedAs d x
opening_of d = by (file_at d gate_path) refl
  where
    keeps : List ℕ → Bool
    keeps q = not (is_cached q)

    emptied : Directory
    emptied = fin.retain_keys d keeps

    at : (q : List ℕ) → file_at emptied q ≡ cond (keeps q) (file_at d q) None
    at q = fin.get-retain_keys d keeps q (λ x e. ap keeps (sym (exact_bytes q x e)))

    by : (o : Option (List ℕ × ℕ)) → file_at d gate_path ≡ o → (x : Directory) × IsOpenedAs d x
    by None e = (
      d,
      record { whole = λ none. refl; emptied = λ some. absurd (false≢true (sym (ap is_some e) ∙ some)); same = λ q off. refl },
    )
    by (Some f) e = (
      emptied,
      record {
        whole = λ none. absurd (false≢true (sym (ap is_some none) ∙ ap is_some e));
        emptied = λ some q on. at q ∙ ap (λ (b : Bool). cond (not b) (file_at d q) None) on;
        same = λ q off. at q ∙ ap (λ (b : Bool). cond (not b) (file_at d q) None) off;
      },
    )

-- the entries that are there then
module _ (d opened : Directory) (opens : IsOpenedAs d opened) (seen : List Directory) (entries : IsTrueCache seen d) (t : Task) (digest : List ℕ) where
  abbrev IsTrue : Entry → Type 0
  IsTrue = IsTrueEntry (opened ∷ seen) (cache_file t digest)

  opened_true : AreHonestIn IsTrue (file_at opened (cache_file t digest))
  opened_true = by (file_at d gate_path) refl
    where
      by : (o : Option (List ℕ × ℕ)) → file_at d gate_path ≡ o → AreHonestIn IsTrue (file_at opened (cache_file t digest))
      by None e =
          subst (λ (x : Directory). AreHonestIn IsTrue (file_at x (cache_file t digest))) (sym (opens.whole e))
          (weaker_in (IsTrueEntry seen (cache_file t digest)) IsTrue (file_at d (cache_file t digest)) (one_more seen opened (cache_file t digest))
          (entries t digest))
      by (Some f) e = subst (AreHonestIn IsTrue) (sym (opens.emptied (ap is_some e) (cache_file t digest) (inside t digest))) (tt {0})

-- the files of the cache are as once it was opened
as_opened : (d opened c : Directory) → IsOpenedAs d opened → HasCacheOf opened c → HasWholeCache d opened c
as_opened d opened c opens has = record {
  each = λ q on off. inl (has q on off);
  entries = λ seen entries start t digest.
      subst (AreHonestIn (IsTrueEntry (opened ∷ seen) (cache_file t digest))) (sym (has (cache_file t digest) (inside t digest) (apart t digest)))
      (opened_true d opened opens seen entries t digest);
}

-- while it is opened
module _ (d c : Directory) (alike : AlikeOutside d c) where
  abbrev o : (x : Directory) × IsOpenedAs d x
  o = opening_of d

  as_before : c ≡ d → HasFile c gate_path ⊎ HasWholeCache d o.0 c
  as_before is = by (file_at d gate_path) refl
    where
      by : (f : Option (List ℕ × ℕ)) → file_at d gate_path ≡ f → HasFile c gate_path ⊎ HasWholeCache d o.0 c
      by None e = inr (as_opened d o.0 c o.1 (λ q on off. ap (λ (x : Directory). file_at x q) (is ∙ sym (o.1.whole e))))
      by (Some f) e = inl (subst (λ (x : Directory). HasFile x gate_path) (sym is) (f, e))

  pub stops_opening : OpensWhole d c → StopsCached d c
  stops_opening whole = record {
    opened = o.0;
    opens = o.1;
    built = o.0;
    stops = inr (inl refl);
    outside = λ q off. alike q off ∙ sym (o.1.same q off);
    inside = ⊎_elim (λ has. inl has)
        (λ rest. ⊎_elim (λ is. as_before is)
        (λ gone. inr (as_opened d o.0 c o.1 (λ q on off. gone.1 q on ∙ sym (o.1.emptied (ap is_some gone.0.1) q on)))) rest) whole;
  }

-- ---- new offers that were kept

module _ (d opened c : Directory) (opens : IsOpenedAs d opened) (n : HasNewOffers opened c) where
  new_file : (q : List ℕ) (o : Option Offered) → last_told n.told q ≡ o → Meets (kept o (file_at opened q)) (file_at opened q) (file_at c q)
      → (file_at c q ≡ file_at opened q) ⊎ IsNewFile q (file_at c q)
  new_file q None e m = inl m
  new_file q (Some o) e m = by (nat_lt 16777216 (length (text_in_front o (file_at opened q)))) m
    where
      by : (b : Bool) → Meets (cond b Same (Bytes (text_in_front o (file_at opened q)))) (file_at opened q) (file_at c q)
          → (file_at c q ≡ file_at opened q) ⊎ IsNewFile q (file_at c q)
      by true m = inl m
      by false m =
          let t = told_at n.told q o e in
          inr (record {
            entry = o;
            more = take 3 (entries_of (file_at opened q));
            digest = t.0.0;
            is = t.2 ∙ ap (λ (y : Offered). cache_file y.0.task t.0.0) t.3;
            mark = m.0;
            there = m.1 ∙ ap (λ (b : List ℕ). Some (b ++ sha256 b, m.0)) (sym (same_body (o ∷ take 3 (entries_of (file_at opened q)))));
          })

  -- they are of the project where the build started honestly
  told_of : StartsHonestly opened → AreOfProject opened n.told
  told_of (from_store can e from honest) = n.honest.goes_on can e from (offers_honest e from.strings opened honest)
  told_of (from_none none apart honest) = n.honest.afresh none apart (alone_honest apart.strings opened honest)

  module _ (seen : List Directory) (entries : IsTrueCache seen d) (all : AreOfProject opened n.told) (t : Task) (digest : List ℕ) where
    abbrev path : List ℕ
    path = cache_file t digest

    abbrev Kept : Entry → Type 0
    Kept = IsTrueEntry (opened ∷ seen) path

    entry_of : (o : Offered) → last_told n.told path ≡ Some o → IsWholeEntry o × Kept o
    entry_of o e =
        let m = told_at n.told path o e in
        let is = All-contains (IsToldOf all.found.functions opened all.funcs) n.told m.0 all.each m.1 in
        let keeps = All-contains (λ (t : Told). IsKept t.1) n.told m.0 n.whole m.1 in
        subst (λ x. IsWholeEntry x × Kept x) m.3 (
          (is.row, have_hashes m.0.1.0.writes m.0.1.1 keeps.1),
          record {
            built = opened;
            among = here opened seen;
            funcs = all.funcs;
            roots = all.roots;
            found = all.found;
            digest = m.0.0;
            listed = is.listed;
            is = m.2;
            evaluated = is.evaluated;
          },
        )

    entries_at : (o : Option Offered) → last_told n.told path ≡ o → Meets (kept o (file_at opened path)) (file_at opened path) (file_at c path)
        → AreHonestIn Kept (file_at c path)
    entries_at None e m = subst (AreHonestIn Kept) (sym m) (opened_true d opened opens seen entries t digest)
    entries_at (Some o) e m =
        let p = entry_of o e in
        kept_so Kept o (file_at opened path) (file_at c path) p.0 p.1 (opened_true d opened opens seen entries t digest) m

  kept_whole : HasWholeCache d opened c
  kept_whole = record {
    each = λ q on off. new_file q (last_told n.told q) refl (n.keeps q on off);
    entries = λ seen entries start t digest.
        entries_at seen entries (told_of start) t digest (last_told n.told (cache_file t digest)) refl
        (n.keeps (cache_file t digest) (inside t digest) (apart t digest));
  }

-- ---- the build

ended : (d c : Directory) → EndsOffered offers_in d c → EndsCached d c
ended d c ends = record { rest = ends.rest; clean = by }
  where
    by : StartsHonestly d → IsCleanBuilt d (without_file c open_path)
    by (from_store can e from honest) = ends.goes_on can e from (offers_honest e from.strings d honest)
    by (from_none none apart honest) = ends.afresh none apart (alone_honest apart.strings d honest)

-- it changes no file of the cache
pub cache_stands : (d c : Directory) → StopsWith (EndsOffered offers_in) d c → (q : List ℕ) → is_cached q ≡ true → file_at c q ≡ file_at d q
cache_stands d c stops q on =
    ⊎_elim (λ way. way.rest q (cache_stays q on))
    (λ rest. ⊎_elim (λ is. ap (λ (x : Directory). file_at x q) is) (λ ends. ends.rest q (cache_stays q on)) rest) stops

module _ (d opened : Directory) (opens : IsOpenedAs d opened) where
  pub stops_opened : (c : Directory) → StopsOpened opened c → StopsCached d c
  stops_opened c s = record {
    opened = opened;
    opens = opens;
    built = s.built;
    stops = ⊎_elim (λ way. inl way)
        (λ rest. ⊎_elim (λ same. inr (inl same)) (λ ends. inr (inr (ended opened s.built ends))) rest) s.stops;
    outside = s.outside;
    inside = ⊎_elim (λ has. inl has)
        (λ rest. inr (⊎_elim (λ as_is. as_opened d opened c opens as_is) (λ new. kept_whole d opened c opens new) rest)) s.inside;
  }

  ended_opened : (c : Directory) → HasEndedOpened opened c → HasEndedCached d c
  ended_opened c e = record { opened = opened; opens = opens; built = e.built; ends = ended opened e.built e.ends; outside = e.outside }

  pub marked_opened : (images : Directory → Type 0) → MarkedOpened opened images → MarkedCached d images
  marked_opened images marked =
      ⊎_elim (λ each. inl (λ c is. ⊎_elim (λ file. inl file) (λ alike. inr (λ q off. alike q off ∙ opens.same q off)) (each c is)))
      (λ all. inr (λ c is. ended_opened c (all c is))) marked
