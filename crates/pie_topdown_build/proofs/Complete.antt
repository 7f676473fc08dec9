-- Where nothing of a record is missing, it is told if its task ran.
use Rattle.std.proofs.Common.{◌≡◌, ℕ, zero, suc, ◌<◌, ◌^◌, Bool, true, false, ◌&&◌, cond, List, [], ◌∷◌, ◌++◌, length, map, get_or, Vec, Global, refl, sym, ap, subst, ◌∙◌, arith}
use Rattle.std.specs.Prelude.{All, Contains, IsSome, Option, None, Some, bytes_eq, is_some, nat_le}
use Rattle.std.specs.Cmp.Lexicographic.{slice_cmp}
use Rattle.std.specs.List.{AllByRecursion, cons_option, filter}
use Rattle.std.specs.List.Sorted.{IsStrictlySortedBy}
use Rattle.std.specs.Option.{option_and_then, option_or}
use Rattle.std.specs.Ordering.{nat_cmp, ordering_reverse}
use Rattle.std.specs.declared.cmp.Ordering.TheVariants.{Less, Greater}
use Rattle.std.proofs.lemmas.Bool.{false≢true}
use Rattle.std.proofs.lemmas.Cmp.{nat_list_cmp_total}
use Rattle.std.proofs.lemmas.List.Elements.{All-contains, All-head, All-tail, All-weaker, Contains-get_or}
use Rattle.std.proofs.lemmas.Map.Keys.{sorted_head, sorted_tail}
use Rattle.std.proofs.lemmas.Slice.Eq.{bytes_eq-Decides}
use Rattle.sha2.specs.Sha256.{sha256}
use Rattle.pie_base.specs.Path.{same_text}
use Rattle.pie_build.specs.Stored.{IsStoreOf}
use Rattle.pie_check_laws.proofs.Members.{from_map}
use Rattle.pie_checks.specs.declared.built.Built.{Built}
use Rattle.pie_commit.proofs.Standing.{same_itself, same_path}
use Rattle.pie_core_laws.specs.Update.{Update}
use Rattle.pie_files.specs.inner.Held.{is_among}
use Rattle.pie_left_laws.specs.Accepted.{IsAccepted, live_now}
use Rattle.pie_model.specs.Built.{provided_at}
use Rattle.pie_old.specs.inner.Code.{digest_in, kept as first_of}
use Rattle.pie_record.specs.declared.task_record.TaskRecord.{TaskRecord}
use Rattle.pie_results.specs.inner.Files.{contents_in, paths_in, InPathOrder}
use Rattle.pie_store.specs.Canonical.{names_of}
use Rattle.pie_store.specs.Texts.{AreKnown}
use Rattle.pie_topdown.specs.inner.Filed.{HasFile, HasFilesOf}
use Rattle.pie_value.specs.Canonical.{enc_task}
use Rattle.pie_value.specs.declared.task.Task.{Task}
use Rattle.pie_topdown_build.specs.inner.News.{Told, bytes_in, contents_of, news_in, told_with, with_hash, with_more, IsComplete, IsThere}
use Rattle.pie_topdown_build.proofs.Ran.{among_in}

abbrev Pairs : Type 0
Pairs = List (List ℕ × List ℕ)

-- ---- the file at a path, where each path comes once

abbrev paths : Pairs → List (List ℕ)
paths files = map (λ (f : List ℕ × List ℕ). f.0) files

not_less : (p : List ℕ) → slice_cmp nat_cmp p p ≡ Less → ⊥
not_less p less = let turned : Less ≡ Greater = sym less ∙ nat_list_cmp_total.antisymm p p ∙ ap ordering_reverse less in cc

none_behind : (path : List ℕ) (files : Pairs) → AllByRecursion (λ (k : List ℕ). slice_cmp nat_cmp path k ≡ Less) (paths files) → bytes_in files path ≡ None
none_behind path [] above = refl
none_behind path (f ∷ files) above =
    ap (λ (o : Option (List ℕ)). option_or o (cond (same_text path f.0) (Some f.1) None)) (none_behind path files above.1)
    ∙ by (same_text path f.0) refl
  where
    by : (t : Bool) → same_text path f.0 ≡ t → cond t (Some f.1) None ≡ None
    by true e = absurd (not_less path (subst (λ (k : List ℕ). slice_cmp nat_cmp path k ≡ Less) (sym (same_path path f.0 e)) above.0))
    by false e = refl

-- the file that is listed at a path is the one that is there
pub there_once : (files : Pairs) (path bytes : List ℕ) → IsStrictlySortedBy (slice_cmp nat_cmp) (paths files) → Contains files (path, bytes)
    → bytes_in files path ≡ Some bytes
there_once [] path bytes sorted i = absurd (omega (arith, i.1))
there_once (f ∷ files) path bytes sorted (zero, lt, is) =
    let one : path ≡ f.0 = sym (ap (λ (x : List ℕ × List ℕ). x.0) is) in
    let two : f.1 ≡ bytes = ap (λ (x : List ℕ × List ℕ). x.1) is in
    ap (λ (o : Option (List ℕ)). option_or o (cond (same_text path f.0) (Some f.1) None))
    (none_behind path files (subst (λ (p : List ℕ). AllByRecursion (λ (k : List ℕ). slice_cmp nat_cmp p k ≡ Less) (paths files)) (sym one)
    (sorted_head (slice_cmp nat_cmp) f.0 (paths files) sorted)))
    ∙ ap (λ (b : Bool). cond b (Some f.1) None) (ap (λ (p : List ℕ). same_text p f.0) one ∙ same_itself f.0) ∙ ap Some two
there_once (f ∷ files) path bytes sorted (suc i, lt, is) =
    ap (λ (o : Option (List ℕ)). option_or o (cond (same_text path f.0) (Some f.1) None))
    (there_once files path bytes (sorted_tail (slice_cmp nat_cmp) f.0 (paths files) sorted) (i, omega (arith, lt), is))

-- ---- the contents of a record's writes

has_hash : (hash content : List ℕ) → sha256 content ≡ hash → length content < 2 ^ 32 → with_hash hash content ≡ Some content
has_hash hash content is short =
    let few : nat_le (length content) 4294967295 ≡ true = grind (arith, short) in
    ap (λ (b : Bool). cond (b && nat_le (length content) 4294967295) (Some content) None)
    (ap (λ (h : List ℕ). same_text h hash) is ∙ same_itself hash)
    ∙ ap (λ (b : Bool). cond b (Some content) None) few

all_there : (files ws : Pairs) → All (IsThere files) ws → (cs : List (List ℕ)) × (contents_of (bytes_in files) ws ≡ Some cs)
all_there files [] there = ([], refl)
all_there files (w ∷ ws) there =
    let one = All-head (IsThere files) w ws there in
    let more = all_there files ws (All-tail (IsThere files) w ws there) in (
      one.0 ∷ more.0,
      ap (λ (o : Option (List ℕ)). with_more (option_and_then (with_hash w.1) o) (contents_of (bytes_in files) ws)) one.1
          ∙ ap (λ (o : Option (List ℕ)). with_more o (contents_of (bytes_in files) ws)) (has_hash w.1 one.0 one.2 one.3)
          ∙ ap (with_more (Some one.0)) more.1,
    )

-- ---- what is told

-- so many records are told as there are of tasks that ran, in their order
pub none_left_out : (funcs files : Pairs) (rows : List TaskRecord) (ran : List Task)
    → All (λ (row : TaskRecord). is_among (enc_task row.task) (map enc_task ran) ≡ true → IsComplete funcs files row) rows
    → map (λ (t : Told). t.1.0) (news_in funcs rows files ran) ≡ filter (λ (row : TaskRecord). is_among (enc_task row.task) (map enc_task ran)) rows
none_left_out funcs files [] ran all = refl
none_left_out funcs files (row ∷ rows) ran all =
    by (is_among (enc_task row.task) (map enc_task ran))
    (All-head (λ (r : TaskRecord). is_among (enc_task r.task) (map enc_task ran) ≡ true → IsComplete funcs files r) row rows all)
    (none_left_out funcs files rows ran
    (All-tail (λ (r : TaskRecord). is_among (enc_task r.task) (map enc_task ran) ≡ true → IsComplete funcs files r) row rows all))
  where
    row_of : Told → TaskRecord
    row_of t = t.1.0

    told : Option Told
    told = told_with row (digest_in funcs row.task.func) (contents_of (bytes_in files) row.writes)

    kept : List TaskRecord
    kept = filter (λ (r : TaskRecord). is_among (enc_task r.task) (map enc_task ran)) rows

    some : (o : Option (List ℕ)) (p : Option (List (List ℕ))) (cs : List (List ℕ)) → IsSome o → p ≡ Some cs
        → map row_of (cons_option (told_with row o p) (news_in funcs rows files ran)) ≡ row ∷ map row_of (news_in funcs rows files ran)
    some None p cs s is = absurd (false≢true s)
    some (Some digest) p cs s is =
        ap (λ (q : Option (List (List ℕ))). map row_of (cons_option (told_with row (Some digest) q) (news_in funcs rows files ran))) is

    by : (b : Bool) → (b ≡ true → IsComplete funcs files row) → map row_of (news_in funcs rows files ran) ≡ kept
        → map row_of (cons_option (cond b told None) (news_in funcs rows files ran)) ≡ cond b (row ∷ kept) kept
    by false complete rest = rest
    by true complete rest =
        let c = complete refl in
        let cs = all_there files row.writes c.writes in
        some (digest_in funcs row.task.func) (contents_of (bytes_in files) row.writes) cs.0 c.digest cs.1 ∙ ap (λ (rs : List TaskRecord). row ∷ rs) rest

-- ---- the functions of a store

-- a function in the table has a digest
has_digest : (funcs : Pairs) (name : List ℕ) → Contains (names_of funcs) name → IsSome (digest_in funcs name)
has_digest [] name i = absurd (omega (arith, i.1))
has_digest (f ∷ funcs) name (zero, lt, is) =
    let here : bytes_eq name f.0 ≡ true = (bytes_eq-Decides name f.0).1 (sym is) in
    ap (λ (b : Bool). is_some (first_of (cond b (Some f.1) None) (digest_in funcs name))) here
has_digest (f ∷ funcs) name (suc i, lt, is) = by (bytes_eq name f.0) (has_digest funcs name (i, omega (arith, lt), is))
  where
    by : (b : Bool) → IsSome (digest_in funcs name) → IsSome (first_of (cond b (Some f.1) None) (digest_in funcs name))
    by true there = refl
    by false there = there

-- so each record of a store has one
pub all_have_digests : (funcs : Pairs) (roots : List Task) (rows : List TaskRecord) (text : List ℕ) → IsStoreOf funcs roots rows text
    → All (λ (row : TaskRecord). IsSome (digest_in funcs row.task.func)) rows
all_have_digests funcs roots rows text s =
    let known : AreKnown None s.image.funcs s.image.rows =
    subst (λ (o : Option (List ℕ)). AreKnown o s.image.funcs s.image.rows) s.no_digest s.text.store.known in
    All-weaker (λ (row : TaskRecord). Contains (names_of funcs) row.task.func) (λ (row : TaskRecord). IsSome (digest_in funcs row.task.func))
    (λ row i. has_digest funcs row.task.func i) rows
    (subst (λ (rs : List TaskRecord). All (λ (row : TaskRecord). Contains (names_of funcs) row.task.func) rs) s.rows
    (subst (λ (fs : Pairs). All (λ (row : TaskRecord). Contains (names_of fs) row.task.func) s.image.rows) s.funcs known))

-- ---- of an accepted build

same_paths : (files : List (List ℕ × Vec ℕ Global)) → paths (contents_in files) ≡ paths_in files
same_paths [] = refl
same_paths (f ∷ files) = ap (λ ps. f.0 ∷ ps) (same_paths files)

module _ (u : Update) (b : Built) (funcs : Pairs) (rows : List TaskRecord) (first after reused ran : List Task)
    (made : IsAccepted u b.rows.items (contents_in b.files.items)) (filed : HasFilesOf rows first after [] reused b) (gained : after ≡ first ++ ran)
    (order : InPathOrder b.files.items) (known : All (λ (row : TaskRecord). Contains (names_of funcs) row.task.func) b.rows.items)
    (short : (path bytes : List ℕ) → provided_at (live_now u) path ≡ Some bytes → length bytes < 2 ^ 32) where
  abbrev files : Pairs
  files = contents_in b.files.items

  ordered : IsStrictlySortedBy (slice_cmp nat_cmp) (paths files)
  ordered = subst (λ ps. IsStrictlySortedBy (slice_cmp nat_cmp) ps) (sym (same_paths b.files.items)) order.ascending

  there_so : (w : List ℕ × List ℕ) → HasFile files w → IsThere files w
  there_so w f = (f.0, there_once files w.0 f.0 ordered f.1, f.2, short w.0 f.0 (made.only w.0 f.0 f.1))

  -- nothing of a record is missing whose task ran
  complete : (row : TaskRecord) → Contains b.rows.items row → is_among (enc_task row.task) (map enc_task ran) ≡ true → IsComplete funcs files row
  complete row i ran_too =
      let m = from_map enc_task ran (enc_task row.task) (among_in (enc_task row.task) (map enc_task ran) ran_too) in
      record {
        digest = has_digest funcs row.task.func (All-contains (λ (r : TaskRecord). Contains (names_of funcs) r.task.func) b.rows.items row known i);
        writes = All-weaker (HasFile files) (IsThere files) (λ w f. there_so w f) row.writes (filed.ran ran gained row i (m.0, m.1, m.2));
      }

  pub told_whole : map (λ (t : Told). t.1.0) (news_in funcs b.rows.items files ran)
      ≡ filter (λ (row : TaskRecord). is_among (enc_task row.task) (map enc_task ran)) b.rows.items
  told_whole =
      none_left_out funcs files b.rows.items ran
      (λ k d within. complete (get_or b.rows.items k d) (Contains-get_or b.rows.items k d within))
