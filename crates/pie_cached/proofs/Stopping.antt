-- What a crash leaves of a build with the record cache, moment by moment.
use Rattle.std.proofs.Common.{◌≡◌, ◌⊎◌, inl, inr, ⊎_elim, ℕ, true, List, map, Option, None, Some, refl, sym, ap, subst, ◌∙◌}
use Rattle.std.specs.Prelude.{All, IfSome, IsSome}
use Rattle.pie_build.specs.Crashes.{StaysAtRest}
use Rattle.pie_cache.proofs.Changing.{none_leaves}
use Rattle.pie_cache.proofs.Emptying.{opens_none}
use Rattle.pie_cache.specs.inner.Changes.{AlikeOutside, IsAlikeOneOf, KeepsOutside, LeavesAlike}
use Rattle.pie_cache.specs.inner.Clearing.{IsOpened}
use Rattle.pie_cache.specs.inner.Contents.{IsNews}
use Rattle.pie_cache.specs.inner.Gated.{IsPut, KeepsWhole, OpensWhole}
use Rattle.pie_cache.specs.inner.Keeping.{kept}
use Rattle.pie_cache.specs.inner.Places.{gate}
use Rattle.pie_cache.specs.inner.Stored.{offers_in}
use Rattle.pie_cache.specs.inner.Texts.{IsKept}
use Rattle.pie_commit.specs.Outcomes.{IsAtRest, LeavesFromRest}
use Rattle.pie_commit.specs.inner.Plans.{Meets}
use Rattle.pie_files.proofs.Reading.{if_each, if_two, in_turn, weaker}
use Rattle.pie_files.specs.Directory.{Directory, file_at}
use Rattle.pie_files.specs.Images.{Only}
use Rattle.pie_files.specs.Reading.{Leaves}
use Rattle.pie_incremental.proofs.Crashing.{leaves_where}
use Rattle.pie_incremental.specs.Crashes.{EndsMarked, MarkedBy}
use Rattle.pie_incremental.specs.Own.{open_path}
use Rattle.pie_report.specs.declared.report.Report.{Report}
use Rattle.pie_store.specs.declared.offers.Offer.{Offer}
use Rattle.pie_store.specs.inner.Offers.{Offered}
use Rattle.pie_topdown_build.specs.Crashes.{StopsWith}
use Rattle.pie_topdown_build.specs.declared.offered.NewOffer.{NewOffer}
use Rattle.pie_topdown_build.specs.inner.Clean.{OffersClean}
use Rattle.pie_topdown_build.specs.inner.Crashes.{EndsOffered}
use Rattle.pie_topdown_build.specs.inner.News.{as_told, Told}
use Rattle.pie_topdown_build.specs.inner.Records.{OffersOf}
use Rattle.pie_store.specs.declared.cause.Cause.{Cause}
use Rattle.pie_value.specs.declared.verdict.Verdict.{Verdict}
use Rattle.pie_value.specs.declared.verdict.Verdict.TheVariants.{Accepted, Refused}
use Rattle.pie_cached.specs.Cached.{is_cached}
use Rattle.pie_cached.specs.Clean.{IsOpenedAs}
use Rattle.pie_cached.specs.Crashes.{AlikeButCache, EndsMarkedCached, MarkedCached, StopsCached}
use Rattle.pie_cached.specs.inner.Crashes.{AreToldBy, EndsMarkedOpened, HasCacheOf, HasNewOffers, MarkedOpened, StopsKeeping, StopsOpened}
use Rattle.pie_cached.specs.inner.News.{kept_of, last_told, placed}
use Rattle.pie_cached.proofs.Crashing.{cache_stands, marked_opened, stops_opened, stops_opening}
use Rattle.pie_cached.proofs.Entries.{opened_as}
use Rattle.pie_cached.proofs.Keeping.{last_is}

-- ---- what was told of a build

module _ (d : Directory) (r : Report) (told : List Told) (after : Option Directory) (clean : OffersClean offers_in d r after) (of : OffersOf offers_in d r told)
    (accepted : r.verdict ≡ Accepted) where
  told_by : AreToldBy d told
  told_by = record {
    goes_on = λ can e from honest. ⊎_elim (λ none. of.goes_on none accepted e from honest) (λ some. absurd (clean.only some can)) (none_or_some r.fresh);
    afresh = λ never apart honest. ⊎_elim (λ none. absurd (never (clean.begins none))) (λ some. of.afresh some accepted apart honest) (none_or_some r.fresh);
  }
    where
      none_or_some : (o : Option Cause) → (o ≡ None) ⊎ IsSome o
      none_or_some None = inl refl
      none_or_some (Some c) = inr refl

-- ---- an image of the build, and one while new offers are kept

built_stops : (d c : Directory) → StopsWith (EndsOffered offers_in) d c → StopsOpened d c
built_stops d c stops = record {
  built = c;
  stops = stops;
  outside = λ q off. refl;
  inside = inr (inl (λ q on off. cache_stands d c stops q on));
}

module _ (d left c b : Directory) (r : Report) (told : List Told) (whole : All (λ (t : Told). IsKept t.1) told)
    (honest : r.verdict ≡ Accepted → AreToldBy d told) (stops : StopsWith (EndsOffered offers_in) d b) (same : b ≡ left) where
  still : (q : List ℕ) → is_cached q ≡ true → file_at left q ≡ file_at d q
  still q on = ap (λ (x : Directory). file_at x q) (sym same) ∙ cache_stands d b stops q on

  by_verdict : (v : Verdict) → r.verdict ≡ v → IsPut (λ q. kept (last_told (kept_of v told) q) (file_at left q)) left c → HasCacheOf d c ⊎ HasNewOffers d c
  by_verdict Accepted is put = inr (record {
    told = told;
    whole = whole;
    honest = honest is;
    keeps = λ q on off. subst (λ (o : Option (List ℕ × ℕ)). Meets (kept (last_told told q) o) o (file_at c q)) (still q on) (put q off);
  })
  by_verdict (Refused x) is put = inl (λ q on off. put q off ∙ still q on)

  kept_stops : AlikeOutside b c → StopsKeeping (kept_of r.verdict told) left c → StopsOpened d c
  kept_stops alike keeping = record {
    built = b;
    stops = stops;
    outside = alike;
    inside = ⊎_elim (λ has. inl has)
        (λ rest. inr (⊎_elim (λ is. inl (λ q on off. ap (λ (x : Directory). file_at x q) is ∙ still q on)) (λ put. by_verdict r.verdict refl put) rest)) keeping;
  }

-- ---- moment by moment

module _ {S : Type 0} (moment : S → ℕ) (left_since : S → ℕ → Directory → Type 0) (images : S → Directory → Type 0) where
  both_leave : (P Q : Directory → Type 0) (old new : S) → Leaves moment left_since images P old new → Leaves moment left_since images Q old new
      → Leaves moment left_since images (λ c. P c × Q c) old new
  both_leave P Q old new a b = record {
    now = λ c left. (a.now c left, b.now c left);
    later = a.later;
    since = λ t c le left. ⊎_elim (λ past. inl past)
        (λ p. ⊎_elim (λ past. inl past) (λ q. inr (p, q)) (b.since t c le left)) (a.since t c le left);
  }

one_some : (y z : Directory) → Some y ≡ Some z → y ≡ z
one_some y z e = cc

module _ {S : Type 0} (holds : S → Option Directory) (moment : S → ℕ) (left_since : S → ℕ → Directory → Type 0) (images : S → Directory → Type 0) where
  pub rests_both : (old mid new : S) → StaysAtRest holds images old mid → StaysAtRest holds images mid new → StaysAtRest holds images old new
  rests_both old mid new first second =
      if_each (λ d. Only d (images old) → IsAtRest (holds mid) (images mid)) (λ d. Only d (images old) → IsAtRest (holds new) (images new)) (holds old)
      (λ d rests only. let rest = rests only in
      (subst (λ o. IfSome o (λ x. Only x (images mid) → IsAtRest (holds new) (images new))) rest.1 second) rest.2) first

  -- what is kept, by what was told
  pub keeping_told : (news : List NewOffer) (fresh : List (List ℕ × Offer)) → fresh ≡ map placed news → All IsNews fresh → (old new : S)
      → LeavesFromRest holds moment left_since images (KeepsWhole fresh) old new
      → LeavesFromRest holds moment left_since images (StopsKeeping (map as_told news)) old new
  keeping_told news fresh are all old new h =
      leaves_where holds moment left_since images (KeepsWhole fresh) (StopsKeeping (map as_told news)) old new
      (λ d c is whole. ⊎_elim (λ has. inl has) (λ rest. ⊎_elim (λ same. inr (inl same))
      (λ put. inr (inr (λ q off. subst (λ (o : Option Offered). Meets (kept o (file_at d q)) (file_at d q) (file_at c q)) (last_is news fresh are all q)
      (put q off)))) rest) whole) h

  -- the cache was opened
  pub opening_stops : (old new : S) → LeavesFromRest holds moment left_since images OpensWhole old new → LeavesAlike holds moment left_since images old new
      → LeavesFromRest holds moment left_since images StopsCached old new
  opening_stops old new whole alike =
      if_two (λ d. Only d (images old) → Leaves moment left_since images (OpensWhole d) old new)
      (λ d. Leaves moment left_since images (IsAlikeOneOf (images old)) old new)
      (λ d. Only d (images old) → Leaves moment left_since images (StopsCached d) old new) (holds old)
      (λ d a b only. weaker moment left_since images (λ c. OpensWhole d c × IsAlikeOneOf (images old) c) (StopsCached d) old new
      (λ c is. stops_opening d c (subst (λ (x : Directory). AlikeOutside x c) (only is.1.0 is.1.1) is.1.2) is.0)
      (both_leave moment left_since images (OpensWhole d) (IsAlikeOneOf (images old)) old new (a only) b)) whole alike

  pub opening_marked : (old new : S) → LeavesAlike holds moment left_since images old new → EndsMarkedCached holds images old new
  opening_marked old new alike =
      if_each (λ d. Leaves moment left_since images (IsAlikeOneOf (images old)) old new) (λ d. Only d (images old) → MarkedCached d (images new)) (holds old)
      (λ d a only. inl (λ c is. let b = a.now c is in inr (subst (λ (x : Directory). AlikeButCache x c) (only b.0 b.1) b.2))) alike

  -- no call
  pub none_stops : (s : S) → LeavesFromRest holds moment left_since images StopsCached s s
  none_stops s =
      opening_stops s s (opens_none holds moment left_since images s) (none_leaves holds moment left_since images s)

  pub none_marked : (s : S) → EndsMarkedCached holds images s s
  none_marked s = opening_marked s s (none_leaves holds moment left_since images s)

  -- and then a directory was built
  module _ (old mid new : S) (outside : KeepsOutside (holds old) (holds mid)) (opened : IfSome (holds old) (λ d. IsOpened d (holds mid)))
      (rests : StaysAtRest holds images old mid) where
    opens_to : (d e : Directory) → AlikeOutside d e → IsOpened d (Some e) → IsOpenedAs d e
    opens_to d e alike is = let o = opened_as d e (file_at d gate) is in record { whole = o.0; emptied = o.1; same = alike }

    only_mid : (e : Directory) → holds mid ≡ Some e → IsAtRest (holds mid) (images mid) → Only e (images mid)
    only_mid e told rest = subst (λ (x : Directory). Only x (images mid)) (one_some rest.0 e (sym rest.1 ∙ told)) rest.2

    pub opened_stops : LeavesFromRest holds moment left_since images StopsCached old mid
        → LeavesFromRest holds moment left_since images StopsOpened mid new → LeavesFromRest holds moment left_since images StopsCached old new
    opened_stops first second = by (holds old) outside opened rests first
      where
        by : (o : Option Directory) → KeepsOutside o (holds mid) → IfSome o (λ d. IsOpened d (holds mid))
            → IfSome o (λ d. Only d (images old) → IsAtRest (holds mid) (images mid))
            → IfSome o (λ d. Only d (images old) → Leaves moment left_since images (StopsCached d) old mid)
            → IfSome o (λ d. Only d (images old) → Leaves moment left_since images (StopsCached d) old new)
        by None k is rest a = tt
        by (Some d) k is rest a = λ only.
            let opens = opens_to d k.0 k.2 (subst (IsOpened d) k.1 is) in
            let next : Leaves moment left_since images (StopsOpened k.0) mid new =
            (subst (λ o. IfSome o (λ x. Only x (images mid) → Leaves moment left_since images (StopsOpened x) mid new)) k.1 second)
            (only_mid k.0 k.1 (rest only)) in
            in_turn moment left_since images (StopsCached d) old mid new (a only)
            (weaker moment left_since images (StopsOpened k.0) (StopsCached d) mid new (λ c s. stops_opened d k.0 opens c s) next)

    pub opened_marked : EndsMarkedOpened holds images mid new → EndsMarkedCached holds images old new
    opened_marked second = by (holds old) outside opened rests
      where
        by : (o : Option Directory) → KeepsOutside o (holds mid) → IfSome o (λ d. IsOpened d (holds mid))
            → IfSome o (λ d. Only d (images old) → IsAtRest (holds mid) (images mid)) → IfSome o (λ d. Only d (images old) → MarkedCached d (images new))
        by None k is rest = tt
        by (Some d) k is rest = λ only.
            let opens = opens_to d k.0 k.2 (subst (IsOpened d) k.1 is) in
            marked_opened d k.0 opens (images new)
            ((subst (λ o. IfSome o (λ x. Only x (images mid) → MarkedOpened x (images new))) k.1 second) (only_mid k.0 k.1 (rest only)))

  -- a directory with an opened cache was built, and nothing came then
  pub built_only : (old new : S) → LeavesFromRest holds moment left_since images (StopsWith (EndsOffered offers_in)) old new
      → LeavesFromRest holds moment left_since images StopsOpened old new
  built_only old new h =
      leaves_where holds moment left_since images (StopsWith (EndsOffered offers_in)) StopsOpened old new (λ d c is stops. built_stops d c stops) h

  pub built_marked : (old new : S) → EndsMarked holds images (EndsOffered offers_in) old new → EndsMarkedOpened holds images old new
  built_marked old new h =
      if_each (λ d. Only d (images old) → MarkedBy (EndsOffered offers_in) d (images new)) (λ d. Only d (images old) → MarkedOpened d (images new)) (holds old)
      (λ d marked only. ⊎_elim
      (λ each. inl (λ c is. ⊎_elim (λ file. inl file) (λ same. inr (λ q off. ap (λ (x : Directory). file_at x q) same)) (each c is)))
      (λ all. inr (λ c is. record { built = c; ends = all c is; outside = λ q off. refl })) (marked only)) h

  -- and then new offers were kept
  module _ (old mid new : S) (r : Report) (told : List Told) (whole : All (λ (t : Told). IsKept t.1) told)
      (clean : IfSome (holds old) (λ d. OffersClean offers_in d r (holds mid))) (of : IfSome (holds old) (λ d. OffersOf offers_in d r told))
      (first : LeavesFromRest holds moment left_since images (StopsWith (EndsOffered offers_in)) old mid) (rests : StaysAtRest holds images old mid)
      (keeping : LeavesFromRest holds moment left_since images (StopsKeeping (kept_of r.verdict told)) mid new)
      (alike : LeavesAlike holds moment left_since images mid new) where
    at : (d : Directory) → OffersClean offers_in d r (holds mid) → OffersOf offers_in d r told
        → Leaves moment left_since images (StopsWith (EndsOffered offers_in) d) old mid → IsAtRest (holds mid) (images mid)
        → Leaves moment left_since images (StopsOpened d) old new
    at d clean of first rest =
        let left = rest.0 in
        let keeps : Leaves moment left_since images (StopsKeeping (kept_of r.verdict told) left) mid new =
        (subst (λ o. IfSome o (λ x. Only x (images mid) → Leaves moment left_since images (StopsKeeping (kept_of r.verdict told) x) mid new)) rest.1 keeping)
        rest.2 in
        let near : Leaves moment left_since images (IsAlikeOneOf (images mid)) mid new =
        subst (λ o. IfSome o (λ x. Leaves moment left_since images (IsAlikeOneOf (images mid)) mid new)) rest.1 alike in
        in_turn moment left_since images (StopsOpened d) old mid new
        (weaker moment left_since images (StopsWith (EndsOffered offers_in) d) (StopsOpened d) old mid (λ c stops. built_stops d c stops) first)
        (weaker moment left_since images (λ c. StopsKeeping (kept_of r.verdict told) left c × IsAlikeOneOf (images mid) c) (StopsOpened d) mid new
        (λ c is. let b = is.1 in
        kept_stops d left c b.0 r told whole (λ accepted. told_by d r told (holds mid) clean of accepted) (first.now b.0 b.1) (rest.2 b.0 b.1) b.2 is.0)
        (both_leave moment left_since images (StopsKeeping (kept_of r.verdict told) left) (IsAlikeOneOf (images mid)) mid new keeps near))

    pub kept_then : LeavesFromRest holds moment left_since images StopsOpened old new
    kept_then = by (holds old) clean of first rests
      where
        by : (o : Option Directory) → IfSome o (λ d. OffersClean offers_in d r (holds mid)) → IfSome o (λ d. OffersOf offers_in d r told)
            → IfSome o (λ d. Only d (images old) → Leaves moment left_since images (StopsWith (EndsOffered offers_in) d) old mid)
            → IfSome o (λ d. Only d (images old) → IsAtRest (holds mid) (images mid))
            → IfSome o (λ d. Only d (images old) → Leaves moment left_since images (StopsOpened d) old new)
        by None x y f g = tt
        by (Some d) x y f g = λ only. at d x y (f only) (g only)

  pub kept_marked : (old mid new : S) → EndsMarked holds images (EndsOffered offers_in) old mid → StaysAtRest holds images old mid
      → LeavesAlike holds moment left_since images mid new → EndsMarkedOpened holds images old new
  kept_marked old mid new marked rests alike =
      if_two (λ d. Only d (images old) → MarkedBy (EndsOffered offers_in) d (images mid)) (λ d. Only d (images old) → IsAtRest (holds mid) (images mid))
      (λ d. Only d (images old) → MarkedOpened d (images new)) (holds old)
      (λ d m rest only.
      let near : Leaves moment left_since images (IsAlikeOneOf (images mid)) mid new =
      subst (λ o. IfSome o (λ x. Leaves moment left_since images (IsAlikeOneOf (images mid)) mid new)) (rest only).1 alike in
      ⊎_elim
      (λ each. inl (λ c is. let b = near.now c is in
      ⊎_elim (λ file. inl (file.0, b.2 open_path refl ∙ file.1))
      (λ same. inr (λ q off. b.2 q off ∙ ap (λ (x : Directory). file_at x q) same)) (each b.0 b.1)))
      (λ all. inr (λ c is. let b = near.now c is in record { built = b.0; ends = all b.0 b.1; outside = b.2 })) (m only)) marked rests
