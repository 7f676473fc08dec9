-- A build with the record cache takes from it the entries that stand.
use Rattle.std.proofs.Common.{◌≡◌, ◌∙◌, ℕ, ◌≤◌, true, false, Bool, cond, List, [], length, take, Option, None, Some, Result, Ok, Err, refl, subst, sym, ap, arith}
use Rattle.std.specs.Prelude.{Contains, IfOk, IfSome, Vec, nat_lt}
use Rattle.std.specs.declared.alloc.Global.{Global}
use Rattle.std.proofs.lemmas.List.{take_all}
use Rattle.std.proofs.lemmas.List.Elements.{All-weaker}
use Rattle.pie_cache.proofs.Wholes.{read_again}
use Rattle.pie_cache.specs.declared.cache_fault.CacheFault.{CacheFault}
use Rattle.pie_cache.specs.inner.Changes.{KeepsOutside}
use Rattle.pie_cache.specs.inner.Clearing.{IsOpened}
use Rattle.pie_cache.specs.inner.Places.{gate}
use Rattle.pie_cache.specs.inner.Reading.{cache_says}
use Rattle.pie_cache.specs.inner.Stored.{entries_of, offers_in, or_none}
use Rattle.pie_files.proofs.Reading.{if_always}
use Rattle.pie_files.specs.Directory.{Directory, file_at}
use Rattle.pie_incremental.specs.Earlier.{Earlier}
use Rattle.pie_parser.specs.FunctionTrees.{FunctionTree}
use Rattle.pie_project.specs.declared.fault.BuildError.{BuildError}
use Rattle.pie_report.specs.declared.report.Report.{Report}
use Rattle.pie_topdown_build.specs.Ran.{HasStanding, RanAnew, RanOffered, RunOrReused}
use Rattle.pie_topdown_build.specs.inner.Ran.{OffersRun}
use Rattle.pie_value.specs.declared.task.Task.{Task}
use Rattle.pie_value.specs.declared.verdict.Verdict.{Verdict}
use Rattle.pie_cached.specs.Cached.{is_cached}
use Rattle.pie_cached.specs.Honest.{Entry, IsFileOf}
use Rattle.pie_cached.specs.Kept.{cache_file}
use Rattle.pie_cached.specs.Ran.{CachesRun, HasBytes, HasStandingEntry}
use Rattle.pie_cached.proofs.Entries.{alone_honest, is_text, offers_honest, opened_as}
use Rattle.pie_cached.proofs.Texts.{all_fit, file_read}

-- what a build with the record cache answers
abbrev Answer : Type 0
Answer = Result (Report × Vec Task Global) BuildError

-- ---- what is offered is in the file, and the other way round

short_of : (n m : ℕ) → nat_lt m n ≡ false → n ≤ m
short_of n m e = grind (arith)

long_none : (n m : ℕ) → n ≤ m → nat_lt m n ≡ false
long_none n m l = grind (arith)

module _ (d : Directory) (bytes : HasBytes d) (t : Task) (digest : List ℕ) (entry : Entry) where
  -- an offer is an entry
  record IsIn : Type 0 where
    file : List ℕ × ℕ
    there : file_at d (cache_file t digest) ≡ Some file
    short : length file.0 ≤ 16777216
    entries : List Entry
    is : IsFileOf entries file.0
    among : Contains entries entry

  none_in : {A : Type 0} → Contains [] entry → A
  none_in i = absurd (let l = i.1 in omega (arith, l))

  offered_in : Contains (take 4 (offers_in d t digest)) entry → IsIn
  offered_in i = by (file_at d (cache_file t digest)) refl i
    where
      says : (file : List ℕ × ℕ) → file_at d (cache_file t digest) ≡ Some file → length file.0 ≤ 16777216 → (r : Result (List Entry) CacheFault)
          → cache_says file.0 ≡ r → Contains (take 4 (or_none r)) entry → IsIn
      says file e short (Ok es) read i =
          let is = file_read file.0 es (all_fit file.0 (bytes t digest file e)) read in
          record { file = file; there = e; short = short; entries = es; is = is; among = subst (λ xs. Contains xs entry) (take_all 4 es is.few) i }
      says file e short (Err x) read i = none_in i

      fits : (file : List ℕ × ℕ) → file_at d (cache_file t digest) ≡ Some file → (b : Bool) → nat_lt 16777216 (length file.0) ≡ b
          → Contains (take 4 (cond b [] (or_none (cache_says file.0)))) entry → IsIn
      fits file e true long i = none_in i
      fits file e false long i = says file e (short_of (length file.0) 16777216 long) (cache_says file.0) refl i

      by : (o : Option (List ℕ × ℕ)) → file_at d (cache_file t digest) ≡ o → Contains (take 4 (entries_of o)) entry → IsIn
      by None e i = none_in i
      by (Some file) e i = fits file e (nat_lt 16777216 (length file.0)) refl i

  in_offered : IsIn → Contains (take 4 (offers_in d t digest)) entry
  in_offered x =
      let read : cache_says x.file.0 ≡ Ok x.entries = read_again x.entries x.file.0 (is_text x.entries x.file.0 x.is) in
      let all : offers_in d t digest ≡ x.entries =
      ap entries_of x.there ∙ ap (λ b. cond b [] (or_none (cache_says x.file.0))) (long_none (length x.file.0) 16777216 x.short) ∙ ap or_none read in
      subst (λ xs. Contains xs entry) (sym (ap (take 4) all ∙ take_all 4 x.entries x.is.few)) x.among

-- ---- what stands

stands_in : (d : Directory) → HasBytes d → (fs : List FunctionTree) (funcs : List (List ℕ × List ℕ)) (t : Task) → HasStanding d (offers_in d) fs funcs t
    → HasStandingEntry d fs funcs t
stands_in d bytes fs funcs t h =
    let x = offered_in d bytes t h.digest h.offer h.told_it in
    record {
      digest = h.digest;
      listed = h.listed;
      file = x.file;
      there = x.there;
      short = x.short;
      entries = x.entries;
      is = x.is;
      entry = h.offer;
      among = x.among;
      stands = h.stands;
    }

stands_offered : (d : Directory) → HasBytes d → (fs : List FunctionTree) (funcs : List (List ℕ × List ℕ)) (t : Task) → HasStandingEntry d fs funcs t
    → HasStanding d (offers_in d) fs funcs t
stands_offered d bytes fs funcs t h = record {
  digest = h.digest;
  listed = h.listed;
  offer = h.entry;
  told_it = in_offered d bytes t h.digest h.entry
      (record { file = h.file; there = h.there; short = h.short; entries = h.entries; is = h.is; among = h.among });
  stands = h.stands;
}

run_so : (fs : List FunctionTree) (d : Directory) (funcs : List (List ℕ × List ℕ)) (roots : List Task) (Reason : Task → Type 0) (ran reused : List Task)
    (v : Verdict) → HasBytes d → RunOrReused fs d roots Reason (HasStanding d (offers_in d) fs funcs) ran reused v
    → RunOrReused fs d roots Reason (HasStandingEntry d fs funcs) ran reused v
run_so fs d funcs roots Reason ran reused v bytes r = record {
  once = r.once;
  ascending = r.ascending;
  reasons = r.reasons;
  without = All-weaker (λ t. HasStanding d (offers_in d) fs funcs t → ⊥) (λ t. HasStandingEntry d fs funcs t → ⊥)
      (λ t none h. none (stands_offered d bytes fs funcs t h)) ran r.without;
  standing = All-weaker (HasStanding d (offers_in d) fs funcs) (HasStandingEntry d fs funcs) (stands_in d bytes fs funcs) reused r.standing;
  all = r.all;
}

offered_so : (e : Earlier) (d : Directory) (ran reused : List Task) (v : Verdict) → HasBytes d → RanOffered e d (HasStanding d (offers_in d)) ran reused v
    → RanOffered e d (HasStandingEntry d) ran reused v
offered_so e d ran reused v bytes r = record {
  funcs = r.funcs;
  roots = r.roots;
  found = r.found;
  image = r.image;
  text = r.text;
  is = r.is;
  each = run_so r.found.functions d r.funcs r.roots _ ran reused v bytes r.each;
}

anew_so : (d : Directory) (ran reused : List Task) (v : Verdict) → HasBytes d → RanAnew d (HasStanding d (offers_in d)) ran reused v
    → RanAnew d (HasStandingEntry d) ran reused v
anew_so d ran reused v bytes r = record {
  funcs = r.funcs;
  roots = r.roots;
  found = r.found;
  each = run_so r.found.functions d r.funcs r.roots _ ran reused v bytes r.each;
}

-- ---- a build over an opened cache

pub finished_runs : (made : Report) (reused : Vec Task Global) (result : Answer) (before : Option Directory)
    → IfSome before (λ d. OffersRun offers_in d made reused.items) → IfOk result (λ r. r.0 ≡ made) → IfOk result (λ r. r.1 ≡ reused)
    → IfSome before (λ d. IfOk result (λ r. OffersRun offers_in d r.0 r.1.items))
finished_runs made reused (Err e) before runs is ones = if_always before (tt {0})
finished_runs made reused (Ok r) before runs is ones =
    subst (λ (p : Report). IfSome before (λ d. OffersRun offers_in d p r.1.items)) (sym is)
    (subst (λ (ts : Vec Task Global). IfSome before (λ d. OffersRun offers_in d made ts.items)) (sym ones) runs)

-- the same after opening
pub opened_runs : (result : Answer) (before mid : Option Directory) → IfSome before (λ d. IsOpened d mid) → KeepsOutside before mid
    → IfSome mid (λ d. IfOk result (λ r. OffersRun offers_in d r.0 r.1.items)) → IfSome before (λ d. IfOk result (λ r. CachesRun d r.0 r.1.items))
opened_runs (Err e) before mid opens kept runs = if_always before (tt {0})
opened_runs (Ok r) None mid opens kept runs = tt
opened_runs (Ok r) (Some d) mid opens kept runs = by kept.0 (subst (IsOpened d) kept.1 opens) kept.2 (subst (λ o. IfSome o (λ x. OffersRun offers_in x r.0 r.1.items)) kept.1 runs)
  where
    by : (opened : Directory) → IsOpened d (Some opened) → ((q : List ℕ) → is_cached q ≡ false → file_at opened q ≡ file_at d q)
        → OffersRun offers_in opened r.0 r.1.items → CachesRun d r.0 r.1.items
    by opened opens same runs =
        let left = opened_as d opened (file_at d gate) opens in
        record {
          opened = opened;
          opens = record { whole = left.0; emptied = left.1; same = same };
          goes_on = λ none bytes e from honest.
              offered_so e opened r.0.ran.items r.1.items r.0.verdict bytes (runs.goes_on none e from (offers_honest e from.strings opened honest));
          afresh = λ some bytes apart honest.
              anew_so opened r.0.ran.items r.1.items r.0.verdict bytes (runs.afresh some apart (alone_honest apart.strings opened honest));
        }
