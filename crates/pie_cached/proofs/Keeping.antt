-- What the cache has kept after a build.
use Rattle.std.proofs.Common.{◌≡◌, ℕ, Bool, true, false, cond, List, [], ◌∷◌, ◌++◌, append_assoc, append-nil, map, refl, sym, ap, subst, ◌∙◌}
use Rattle.std.specs.Option.{option_map}
use Rattle.std.specs.Prelude.{All, Option, None, Some, Result, Ok, Err, IfOk, IfSome, OnOk, codes, is_some}
use Rattle.std.proofs.lemmas.Bool.{false≢true}
use Rattle.std.proofs.lemmas.List.Elements.{All-head, All-tail}
use Rattle.pie_base.proofs.Fronts.{below_is}
use Rattle.pie_base.specs.Path.{rest_below, same_text}
use Rattle.pie_build.specs.Left.{may_change, KeepsRest}
use Rattle.pie_cache.proofs.Gating.{gate_apart}
use Rattle.pie_cache.specs.inner.Clearing.{HasCleared, IsOpened}
use Rattle.pie_cache.specs.inner.Contents.{IsNews}
use Rattle.pie_cache.specs.inner.Keeping.{kept, last_for, or_else, HasKept}
use Rattle.pie_cache.specs.inner.Places.{cache_path, gate}
use Rattle.pie_commit.proofs.Standing.{same_path}
use Rattle.pie_commit.specs.inner.Plans.{Gone, Meets, Same, at, is_none, later}
use Rattle.pie_files.specs.Directory.{Directory, file_at}
use Rattle.pie_files.specs.declared.files.FilesError.{FilesError}
use Rattle.pie_incremental.specs.Own.{bytes_at, open_path, store_path, IsClosed}
use Rattle.pie_project.specs.Looking.{pipeline_path}
use Rattle.pie_report.specs.declared.report.Report.{Report}
use Rattle.pie_store.specs.declared.offers.Offer.{Offer}
use Rattle.pie_store.specs.inner.Offers.{Offered, offered}
use Rattle.pie_topdown_build.specs.declared.offered.NewOffer.{NewOffer}
use Rattle.pie_topdown_build.specs.inner.News.{AreNews, Told, as_told}
use Rattle.pie_topdown_build.specs.inner.Stored.{LeavesRowsIf}
use Rattle.pie_value.specs.declared.task.Task.{Task}
use Rattle.pie_value.specs.declared.verdict.Verdict.{Verdict}
use Rattle.pie_value.specs.declared.verdict.Verdict.TheVariants.{Accepted, Refused}
use Rattle.pie_cached.specs.Cached.{is_cached, KeepsAllButCache}
use Rattle.pie_cached.specs.inner.News.{kept_of, last_told, opened_at, placed, KeepsIn, KeepsTold, LeavesCache, LeavesNews}

-- ---- the last offer of each path

last_same : (news : List NewOffer) (q : List ℕ) → last_for (map placed news) q ≡ last_told (map as_told news) q
last_same [] q = refl
last_same (n ∷ news) q =
    ap (λ (o : Option Offered). or_else o (cond (same_text q (cache_path n.offer.row.task n.digest)) (Some (offered n.offer)) None)) (last_same news q)

none_last : (fresh : List (List ℕ × Offer)) → All IsNews fresh → last_for fresh gate ≡ None
none_last [] all = refl
none_last (f ∷ fresh) all =
    ap (λ (o : Option Offered). or_else o (cond (same_text gate f.0) (Some (offered f.1)) None)) (none_last fresh (All-tail IsNews f fresh all))
    ∙ ap (λ (b : Bool). cond b (Some (offered f.1)) None) (gate_apart f.0 (All-head IsNews f fresh all).place)

-- ---- keeping

module _ (news : List NewOffer) (fresh : List (List ℕ × Offer)) (are : fresh ≡ map placed news) (all : All IsNews fresh) where
  pub last_is : (q : List ℕ) → last_for fresh q ≡ last_told (map as_told news) q
  last_is q = ap (λ (fs : List (List ℕ × Offer)). last_for fs q) are ∙ last_same news q

  -- nothing is told, and nothing changes
  unchanged : (d : Directory) → is_none fresh ≡ true → KeepsIn (file_at d) (map as_told news) d
  unchanged d none q on = subst (λ (o : Option Offered). Meets (kept o (file_at d q)) (file_at d q) (file_at d q)) (no_last fresh none ∙ last_is q) refl
    where
      no_last : (fs : List (List ℕ × Offer)) → is_none fs ≡ true → None ≡ last_for fs q
      no_last [] n = refl
      no_last (f ∷ fs) n = absurd (false≢true n)

  -- where the gate doesn't stand, what keeping wants of it is what is there
  brought : (d e : Directory) → file_at d gate ≡ None
      → ((q : List ℕ) → Meets (later (at gate Gone q) (kept (last_for fresh q) (file_at d q))) (file_at d q) (file_at e q))
      → KeepsIn (file_at d) (map as_told news) e
  brought d e free brings q on =
      subst (λ (o : Option Offered). Meets (kept o (file_at d q)) (file_at d q) (file_at e q)) (last_is q) (by (same_text q gate) refl (brings q))
    where
      by : (b : Bool) → same_text q gate ≡ b → Meets (later (cond b Gone Same) (kept (last_for fresh q) (file_at d q))) (file_at d q) (file_at e q)
          → Meets (kept (last_for fresh q) (file_at d q)) (file_at d q) (file_at e q)
      by false off meets = meets
      by true on_gate meets =
          let here : q ≡ gate = same_path q gate on_gate in
          subst (λ (o : Option Offered). Meets (kept o (file_at d q)) (file_at d q) (file_at e q))
          (sym (ap (last_for fresh) here ∙ none_last fresh all)) (meets ∙ sym (ap (file_at d) here ∙ free))

  -- what keeping leaves
  pub kept_told : (before after : Option Directory) (result : Result (Unit {0}) FilesError) → (is_none fresh ≡ true → after ≡ before)
      → (is_none fresh ≡ false → OnOk result (HasKept fresh before after)) → OnOk result (KeepsTold (map as_told news) before after)
  kept_told before after (Err e) nothing done = tt
  kept_told before after (Ok u) nothing done = by before (is_none fresh) refl nothing done
    where
      by : (o : Option Directory) (b : Bool) → is_none fresh ≡ b → (is_none fresh ≡ true → after ≡ o) → (is_none fresh ≡ false → HasKept fresh o after)
          → KeepsTold (map as_told news) o after
      by None b e same has = tt
      by (Some d) true e same has = λ free. (d, same e, unchanged d e)
      by (Some d) false e same has = λ free. let h = has e in (h.0, h.1, brought d h.0 free h.2)

-- nothing is kept where nothing changes
pub none_kept : (before after : Option Directory) → after ≡ before → KeepsTold [] before after
none_kept None after same = tt
none_kept (Some d) after same = λ free. (d, same, λ q on. refl)

-- ---- a build before it

-- outside the cache two directories have the same files
abbrev AlikeButCache : Directory → Directory → Type 0
AlikeButCache d e = (q : List ℕ) → is_cached q ≡ false → file_at e q ≡ file_at d q

some_same : (d e : Directory) → Some d ≡ Some e → d ≡ e
some_same d e is = cc

-- a build changes no file of the cache
pub cache_stays : (q : List ℕ) → is_cached q ≡ true → may_change q ≡ false
cache_stays q on = by (rest_below (codes ".pie/cache") q) refl on
  where
    by : (o : Option (List ℕ)) → rest_below (codes ".pie/cache") q ≡ o → is_some o ≡ true → may_change q ≡ false
    by None e some = absurd (false≢true some)
    by (Some rest) e some = ap may_change (below_is (codes ".pie/cache") q rest e)

-- ---- what is told of new offers, where a change of the cache came before or behind

off_cache : (d e : Directory) (q : List ℕ) → AlikeButCache d e → is_cached q ≡ false → bytes_at e q ≡ bytes_at d q
off_cache d e q alike off = ap (option_map (λ (f : List ℕ × ℕ). f.0)) (alike q off)

-- files of the cache changed behind it
news_behind : (d e x : Directory) (before mid after : Option Directory) (v : Verdict) (ran : List Task) (told : List Told) → before ≡ Some d → mid ≡ Some e
    → after ≡ Some x → AlikeButCache e x → AreNews IsClosed before mid v ran told → AreNews IsClosed (Some d) after v ran told
news_behind d e x before mid after v ran told here is then alike n = record {
  funcs = n.funcs;
  digests = λ a same. n.digests a (here ∙ same);
  news = record {
    rows = n.news.rows;
    files = n.news.files;
    tells = n.news.tells;
    stored = λ a same closed. by v (n.news.stored a (here ∙ same) closed);
  };
}
  where
    one : (left : Directory) → mid ≡ Some left → left ≡ e
    one left told_left = some_same left e (sym told_left ∙ is)

    by : (w : Verdict) → LeavesRowsIf w n.funcs n.news.rows mid → LeavesRowsIf w n.funcs n.news.rows after
    by Accepted s = record {
      left = x;
      told = then;
      text = s.text;
      there = off_cache e x store_path alike refl ∙ ap (λ (a : Directory). bytes_at a store_path) (sym (one s.left s.told)) ∙ s.there;
      roots = s.roots;
      says = s.says;
    }
    by (Refused r) s = tt

-- files of the cache changed before it
news_before : (d e : Directory) (after : Option Directory) (v : Verdict) (ran : List Task) (told : List Told) → AlikeButCache d e
    → AreNews IsClosed (Some e) after v ran told → AreNews IsClosed (Some d) after v ran told
news_before d e after v ran told alike n = record {
  funcs = n.funcs;
  digests = λ a same text there.
      n.digests e refl text
      (off_cache d e pipeline_path alike refl ∙ ap (λ (x : Directory). bytes_at x pipeline_path) (some_same d a same) ∙ there);
  news = record {
    rows = n.news.rows;
    files = n.news.files;
    tells = n.news.tells;
    stored = λ a same closed.
        n.news.stored e refl (off_cache d e open_path alike refl ∙ ap (λ (x : Directory). bytes_at x open_path) (some_same d a same) ∙ closed);
  };
}

-- ---- together

module _ (V : Type 0) (E : Type 0) where
  -- what is kept after a build
  pub after_build : (before mid after : Option Directory) (r : Report) (told : List Told) (result : Result (Report × V) E)
      → AreNews IsClosed before mid r.verdict r.ran.items told → KeepsRest before mid → IfOk result (λ x. x.0 ≡ r) → KeepsAllButCache mid after
      → OnOk result (KeepsTold (kept_of r.verdict told) mid after)
      → IfSome before (λ d. file_at d gate ≡ None → IfOk result (λ x. LeavesNews d (file_at d) x.0 after))
  after_build None mid after r told result news rest is others kept_so = tt
  after_build (Some d) mid after r told (Err e) news rest is others kept_so = λ free. tt
  after_build (Some d) mid after r told (Ok x) news rest is others kept_so = λ free.
      let e = rest.kept.0 in
      let same : (q : List ℕ) → is_cached q ≡ true → file_at e q ≡ file_at d q = λ q on. rest.kept.2 q (cache_stays q on) in
      let then : file_at e gate ≡ None → (left : Directory) × (after ≡ Some left) × KeepsIn (file_at e) (kept_of r.verdict told) left =
      subst (KeepsTold_at (kept_of r.verdict told)) rest.kept.1 kept_so in
      let left = then (same gate refl ∙ free) in
      let alike : (a : Directory) × (after ≡ Some a) × AlikeButCache e a = subst (λ (o : Option Directory). KeepsAllButCache o after) rest.kept.1 others in
      subst (λ (y : Report). LeavesNews d (file_at d) y after) (sym is) (record {
        told = told;
        news = news_behind d e alike.0 (Some d) mid after r.verdict r.ran.items told refl rest.kept.1 alike.1 alike.2 news;
        left = left.0;
        is = left.1;
        keeps = λ q on. subst (λ (o : Option (List ℕ × ℕ)). Meets (kept (last_told (kept_of r.verdict told) q) o) o (file_at left.0 q)) (same q on)
            (left.2 q on);
      })
    where
      KeepsTold_at : List Told → Option Directory → Type 0
      KeepsTold_at ts o = KeepsTold ts o after

  -- once the cache was opened
  pub after_open : (before mid after : Option Directory) (result : Result (Report × V) E) → IfSome before (λ d. IsOpened d mid)
      → KeepsAllButCache before mid → IfSome mid (λ d. file_at d gate ≡ None → IfOk result (λ x. LeavesNews d (file_at d) x.0 after))
      → IfSome before (λ d. IfOk result (λ x. LeavesCache d x.0 after))
  after_open None mid after result opened others then = tt
  after_open (Some d) mid after (Err e) opened others then = tt
  after_open (Some d) mid after (Ok x) opened others then = by (is_some (file_at d gate)) refl opened
    where
      through : (e : Directory) → mid ≡ Some e → file_at e gate ≡ None → ((q : List ℕ) → is_cached q ≡ true → file_at e q ≡ opened_at d q)
          → LeavesNews d (opened_at d) x.0 after
      through e is free same =
          let at_mid : file_at e gate ≡ None → LeavesNews e (file_at e) x.0 after =
          subst (λ (o : Option Directory). IfSome o (λ a. file_at a gate ≡ None → LeavesNews a (file_at a) x.0 after)) is then in
          let h = at_mid free in
          let alike : AlikeButCache d e = subst (AlikeButCache d) (some_same others.0 e (sym others.1 ∙ is)) others.2 in
          record {
            told = h.told;
            news = news_before d e after x.0.verdict x.0.ran.items h.told alike h.news;
            left = h.left;
            is = h.is;
            keeps = λ q on. subst (λ (o : Option (List ℕ × ℕ)). Meets (kept (last_told (kept_of x.0.verdict h.told) q) o) o (file_at h.left q)) (same q on)
                (h.keeps q on);
          }

      no_gate : (o : Option (List ℕ × ℕ)) → is_some o ≡ false → o ≡ None
      no_gate None n = refl
      no_gate (Some f) n = absurd (false≢true (sym n))

      by : (b : Bool) → is_some (file_at d gate) ≡ b → IsOpened d mid → LeavesNews d (opened_at d) x.0 after
      by true e o =
          let cleared = subst (λ (b : Bool). cond b (HasCleared mid) (mid ≡ Some d)) e o in
          through cleared.0 cleared.1 (cleared.2 gate refl)
          (λ q on. cleared.2 q on ∙ ap (λ (b : Bool). cond b None (file_at d q)) (sym e))
      by false e o =
          let same = subst (λ (b : Bool). cond b (HasCleared mid) (mid ≡ Some d)) e o in
          through d same (no_gate (file_at d gate) e) (λ q on. ap (λ (b : Bool). cond b None (file_at d q)) (sym e))

-- ---- offers with the paths of their files

-- one more has its path
pub placed_more : (left rest : List NewOffer) (a b all : List (List ℕ × Offer)) (n : NewOffer) → left ≡ n ∷ rest → b ≡ a ++ placed n ∷ []
    → a ++ map placed left ≡ all → b ++ map placed rest ≡ all
placed_more left rest a b all n next more so_far =
    ap (λ (l : List (List ℕ × Offer)). l ++ map placed rest) more ∙ append_assoc a (placed n ∷ []) (map placed rest)
    ∙ ap (λ (ns : List NewOffer). a ++ map placed ns) (sym next) ∙ so_far

-- and then all
pub all_placed : (left : List NewOffer) (a all : List (List ℕ × Offer)) → left ≡ [] → a ++ map placed left ≡ all → a ≡ all
all_placed left a all none so_far = sym (append-nil a) ∙ ap (λ (ns : List NewOffer). a ++ map placed ns) (sym none) ∙ so_far

-- none has its path at first
pub none_placed : (left news : List NewOffer) (a : List (List ℕ × Offer)) → left ≡ news → a ≡ [] → a ++ map placed left ≡ map placed news
none_placed left news a start none = ap (λ (l : List (List ℕ × Offer)). l ++ map placed left) none ∙ ap (map placed) start
