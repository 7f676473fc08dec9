-- What an honest cache offers.
use Rattle.std.proofs.Common.{◌≡◌, ℕ, suc, ◌<◌, ◌++◌, ◌∷◌, [], Bool, true, false, cond, List, length, Option, None, Some}
use Rattle.std.proofs.Common.{Result, Ok, refl, sym, ap, subst, ◌∙◌, inl, inr, arith, lt-ltb}
use Rattle.std.specs.Prelude.{All, Contains, IsSome, is_some, nat_lt}
use Rattle.std.specs.Str.{bytes_eq}
use Rattle.std.proofs.lemmas.Bool.{false≢true}
use Rattle.std.proofs.lemmas.Slice.Eq.{bytes_eq-Decides}
use Rattle.std.proofs.lemmas.List.Elements.{All-nil, All-weaker}
use Rattle.sha2.specs.Sha256.{sha256}
use Rattle.pie_cache.proofs.Wholes.{read_again}
use Rattle.pie_cache.specs.declared.cache_fault.CacheFault.{CacheFault}
use Rattle.pie_cache.specs.inner.Clearing.{HasCleared}
use Rattle.pie_cache.specs.inner.Reading.{cache_says}
use Rattle.pie_cache.specs.inner.Stored.{entries_of, offers_in, or_none}
use Rattle.pie_cache.specs.inner.Texts.{AreContents, IsCacheText, IsEntry}
use Rattle.pie_core_laws.specs.Update.{Update, MetIn}
use Rattle.pie_earlier_laws.specs.Functions.{digest_under}
use Rattle.pie_files.specs.Directory.{Directory, file_at}
use Rattle.pie_incremental.specs.Earlier.{Earlier}
use Rattle.pie_topdown_build.specs.Anew.{IsMetAlone}
use Rattle.pie_topdown_build.specs.inner.Anew.{update_alone, OffersHonestAlone}
use Rattle.pie_topdown_build.specs.inner.Clean.{update_of, OffersHonest}
use Rattle.pie_topdown_result_laws.specs.Builds.{AreHonest, IsHonest, IsHonestTo}
use Rattle.pie_value.specs.declared.task.Task.{Task}
use Rattle.pie_cached.specs.Cached.{is_cached}
use Rattle.pie_cached.specs.Kept.{cache_file}
use Rattle.pie_cached.specs.Honest.{AreHonestIn, Entry, HaveHashes, IsFileOf, IsHonestCache, IsHonestEntry, IsHonestFor, IsMetBy, IsWholeEntry}
use Rattle.pie_cached.proofs.Texts.{none_read, same_body}

-- ---- the text of a file

same_contents : (writes : List (List ℕ × List ℕ)) (contents : List (List ℕ)) → HaveHashes writes contents → AreContents writes contents
same_contents [] [] h = tt
same_contents [] (c ∷ contents) h = absurd h
same_contents (w ∷ writes) [] h = absurd h
same_contents (w ∷ writes) (c ∷ contents) h = (h.0, h.1, same_contents writes contents h.2)

pub is_text : (es : List Entry) (bytes : List ℕ) → IsFileOf es bytes → IsCacheText es bytes
is_text es bytes f = record {
  count = (f.some, f.few);
  each = All-weaker IsWholeEntry IsEntry (λ e w. (w.0, same_contents e.0.writes e.1 w.1)) es f.each;
  bytes = f.is ∙ ap (λ (t : List ℕ). t ++ sha256 t) (same_body es);
}

-- ---- what is offered

-- the digest that rows have for a name is in them
under_contains : (rows : List (List ℕ × List ℕ)) (n d : List ℕ) → digest_under rows n ≡ Some d → Contains rows (n, d)
under_contains [] n d h = absurd (cc)
under_contains (row ∷ rows) n d h = by (bytes_eq n row.0) refl h (under_contains rows n d)
  where
    next : (a b : ℕ) → a < b → suc a < suc b
    next a b h = omega arith

    by : (b : Bool) → bytes_eq n row.0 ≡ b → cond b (Some row.1) (digest_under rows n) ≡ Some d → (digest_under rows n ≡ Some d → Contains rows (n, d))
        → Contains (row ∷ rows) (n, d)
    by true e k f =
        let name : n ≡ row.0 = (bytes_eq-Decides n row.0).0 e in
        let digest : row.1 ≡ d = cc k in
        (0, omega arith, (λ z. (sym name z, digest z)))
    by false e k f = let c = f k in (suc c.0, next c.0 (length rows) c.1, c.2)

pub said : (P : Entry → Type 0) (b : Bool) (r : Result (List Entry) CacheFault) (es : List Entry) → r ≡ Ok es → All P es → All P (cond b [] (or_none r))
said P true r es is all = All-nil P
said P false r es is all = subst (λ (x : Result (List Entry) CacheFault). All P (or_none x)) (sym is) all

pub long : (P : Entry → Type 0) (b : Bool) (es : List Entry) → b ≡ true → All P (cond b [] es)
long P true es is = All-nil P
long P false es is = absurd (cc)

pub too_long : (n m : ℕ) → n < m → nat_lt n m ≡ true
too_long n m lt = lt-ltb n m lt

pub offered : (P Q : Entry → Type 0) (o : Option (List ℕ × ℕ)) → ((e : Entry) → P e → Q e) → AreHonestIn P o → All Q (entries_of o)
offered P Q None f h = All-nil Q
offered P Q (Some file) f (inl over) = long Q (nat_lt 16777216 (length file.0)) (or_none (cache_says file.0)) (too_long 16777216 (length file.0) over)
offered P Q (Some file) f (inr (inl other)) = none_read Q file.0 other
offered P Q (Some file) f (inr (inr x)) =
    said Q (nat_lt 16777216 (length file.0)) (cache_says file.0) x.0 (read_again x.0 file.0 (is_text x.0 file.0 x.1)) (All-weaker P Q f x.0 x.2)

honest_of : (u : Update) (entry : Entry) → IsHonestEntry (MetIn u) u.directory u.functions entry → IsHonest u entry
honest_of u entry h = record {
  before = h.before;
  was = h.was;
  done = h.done;
  meaning = h.meaning;
  polite = h.polite;
  met = h.met;
  apart = h.apart;
  wrote = h.wrote;
}

-- so are all that are offered to a task and are of it, where the files of the cache are honest
all_honest : (u : Update) (funcs : List (List ℕ × List ℕ))
    → ((t : Task) (digest : List ℕ) → Contains funcs (t.func, digest)
    → AreHonestIn (IsHonestFor (MetIn u) u.directory u.functions t) (file_at u.directory (cache_file t digest)))
    → AreHonest u funcs offers_in
all_honest u funcs each t digest has =
    offered (IsHonestFor (MetIn u) u.directory u.functions t) (IsHonestTo u t) (file_at u.directory (cache_file t digest))
    (λ entry honest same. honest_of u entry (honest same)) (each t digest (under_contains funcs t.func digest has))

pub offers_honest : (e : Earlier) (strings : List (List ℕ)) (d : Directory) → IsHonestCache (IsMetBy e strings d) d → OffersHonest e strings d offers_in
offers_honest e strings d cache = record {
  each = λ funcs roots found. all_honest (update_of e strings d found.functions roots) funcs (cache.each funcs roots found);
}

pub alone_honest : (strings : List (List ℕ)) (d : Directory) → IsHonestCache (IsMetAlone strings d) d → OffersHonestAlone strings d offers_in
alone_honest strings d cache = record {
  each = λ funcs roots found. all_honest (update_alone strings d found.functions roots) funcs (cache.each funcs roots found);
}

-- ---- what opening left

pub opened_as : (d opened : Directory) (o : Option (List ℕ × ℕ)) → cond (is_some o) (HasCleared (Some opened)) (Some opened ≡ Some d)
    → (o ≡ None → opened ≡ d) × (IsSome o → (q : List ℕ) → is_cached q ≡ true → file_at opened q ≡ None)
opened_as d opened None h = (λ none. cc h, λ some. absurd (false≢true some))
opened_as d opened (Some f) h = (λ none. absurd (cc none), λ some q in_it. subst (λ (x : Directory). file_at x q ≡ None) (sym (cc (h.1))) (h.2 q in_it))
