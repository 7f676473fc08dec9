-- What is told is of tasks that ran, by the digests of their functions.
use Rattle.std.proofs.Common.{◌≡◌, ◌∙◌, ℕ, zero, suc, Bool, true, false, cond, List, [], ◌∷◌, map, refl, sym, ap, subst, arith}
use Rattle.std.specs.Prelude.{◌||◌, Contains, Option, None, Some, bytes_eq}
use Rattle.std.specs.Cmp.{eq_by_cmp_equiv}
use Rattle.std.specs.Cmp.Lexicographic.{slice_cmp}
use Rattle.std.specs.List.{cons_option}
use Rattle.std.specs.Ordering.{eq_by_cmp, is_eq, nat_cmp}
use Rattle.std.specs.declared.cmp.Ordering.{Ordering}
use Rattle.std.specs.declared.cmp.Ordering.TheVariants.{Less, Equal, Greater}
use Rattle.std.proofs.lemmas.Bool.{false≢true}
use Rattle.std.proofs.lemmas.Cmp.{nat_list_cmp_total}
use Rattle.std.proofs.lemmas.Map.Lookups.{exact_bytes}
use Rattle.std.proofs.lemmas.Slice.Eq.{bytes_eq-Decides}
use Rattle.pie_files.specs.inner.Held.{is_among}
use Rattle.pie_old.specs.inner.Code.{digest_in, kept}
use Rattle.pie_record.specs.declared.task_record.TaskRecord.{TaskRecord}
use Rattle.pie_value.specs.Canonical.{enc_task}
use Rattle.pie_value.specs.declared.task.Task.{Task}
use Rattle.pie_topdown_build.specs.inner.News.{Told, bytes_in, contents_of, news_in, told_with}

-- ---- a task among those that ran

same_by : (o : Ordering) → is_eq o ≡ true → o ≡ Equal
same_by Less e = absurd (false≢true e)
same_by Equal e = refl
same_by Greater e = absurd (false≢true e)

-- what is among a list, as far as the order tells, stands in it
pub among_in : (bytes : List ℕ) (all : List (List ℕ)) → is_among bytes all ≡ true → Contains all bytes
among_in bytes [] e = absurd (false≢true e)
among_in bytes (b ∷ all) e = by (λ f. among_in bytes all f) (eq_by_cmp (slice_cmp nat_cmp) bytes b) refl e
  where
    by : (is_among bytes all ≡ true → Contains all bytes) → (t : Bool) → eq_by_cmp (slice_cmp nat_cmp) bytes b ≡ t
        → (t || is_among bytes all) ≡ true → Contains (b ∷ all) bytes
    by more true is f = (0, omega arith, sym (exact_bytes bytes b (same_by (slice_cmp nat_cmp bytes b) is)))
    by more false is f = let r = more f in (suc r.0, omega (arith, r.1), r.2)

-- and what stands in it is among it
pub in_among : (bytes : List ℕ) (all : List (List ℕ)) → Contains all bytes → is_among bytes all ≡ true
in_among bytes [] i = absurd (omega (arith, i.1))
in_among bytes (b ∷ all) (zero, lt, is) =
    ap (λ (t : Bool). t || is_among bytes all)
    (ap (eq_by_cmp (slice_cmp nat_cmp) bytes) is ∙ (eq_by_cmp_equiv nat_list_cmp_total).refl bytes)
in_among bytes (b ∷ all) (suc i, lt, is) =
    by (eq_by_cmp (slice_cmp nat_cmp) bytes b) (in_among bytes all (i, omega (arith, lt), is))
  where
    by : (t : Bool) → is_among bytes all ≡ true → (t || is_among bytes all) ≡ true
    by true e = refl
    by false e = e

-- ---- the digest of a function

-- the digest of a name is that of a row
pub row_of : (funcs : List (List ℕ × List ℕ)) (name digest : List ℕ) → digest_in funcs name ≡ Some digest → Contains funcs (name, digest)
row_of [] name digest e = let f : ⊥ = cc in absurd f
row_of (f ∷ funcs) name digest e = by (λ g. row_of funcs name digest g) (bytes_eq name f.0) refl e
  where
    by : (digest_in funcs name ≡ Some digest → Contains funcs (name, digest)) → (b : Bool) → bytes_eq name f.0 ≡ b
        → kept (cond b (Some f.1) None) (digest_in funcs name) ≡ Some digest → Contains (f ∷ funcs) (name, digest)
    by more true is e =
        let one : name ≡ f.0 = (bytes_eq-Decides name f.0).0 is in
        let two : f.1 ≡ digest = some_same f.1 digest e in
        (0, omega arith, subst (λ (n : List ℕ). f ≡ (n, digest)) (sym one) (ap (λ (d : List ℕ). (f.0, d)) two))
      where
        some_same : (a b : List ℕ) → Some a ≡ Some b → a ≡ b
        some_same a b g = cc
    by more false is e = let r = more e in (suc r.0, omega (arith, r.1), r.2)

-- ---- what is told

-- a task that ran, whose function has this digest, and whose bytes are those of the record's
pub record IsOfRan (funcs : List (List ℕ × List ℕ)) (ran : List Task) (t : Told) : Type 0 where
  pub ran_too : is_among (enc_task t.1.0.task) (map enc_task ran) ≡ true
  pub digest : digest_in funcs t.1.0.task.func ≡ Some t.0

module _ (funcs files : List (List ℕ × List ℕ)) (ran : List Task) where
  told_one : (row : TaskRecord) (o : Option (List ℕ)) (p : Option (List (List ℕ))) (t : Told) → digest_in funcs row.task.func ≡ o
      → is_among (enc_task row.task) (map enc_task ran) ≡ true → told_with row o p ≡ Some t → IsOfRan funcs ran t
  told_one row None p t is among e = let f : ⊥ = cc in absurd f
  told_one row (Some digest) None t is among e = let f : ⊥ = cc in absurd f
  told_one row (Some digest) (Some contents) t is among e =
      subst (IsOfRan funcs ran) (some_told (digest, (row, contents)) t e) (record { ran_too = among; digest = is })
    where
      some_told : (a b : Told) → Some a ≡ Some b → a ≡ b
      some_told a b g = cc

  -- each that is told is of a task that ran
  pub each_ran : (rows : List TaskRecord) (t : Told) → Contains (news_in funcs rows files ran) t → IsOfRan funcs ran t
  each_ran [] t i = absurd (omega (arith, i.1))
  each_ran (row ∷ rows) t i = by (λ c. each_ran rows t c) (is_among (enc_task row.task) (map enc_task ran)) refl i
    where
      found : Option Told
      found = told_with row (digest_in funcs row.task.func) (contents_of (bytes_in files) row.writes)

      Rest : Type 0
      Rest = Contains (news_in funcs rows files ran) t → IsOfRan funcs ran t

      there : Rest → (o : Option Told) → found ≡ o → is_among (enc_task row.task) (map enc_task ran) ≡ true → Contains (cons_option o (news_in funcs rows files ran)) t
          → IsOfRan funcs ran t
      there rest None e among c = rest c
      there rest (Some x) e among (zero, lt, is) =
          told_one row (digest_in funcs row.task.func) (contents_of (bytes_in files) row.writes) t refl among (e ∙ ap Some is)
      there rest (Some x) e among (suc k, lt, is) = rest (k, omega (arith, lt), is)

      by : Rest → (b : Bool) → is_among (enc_task row.task) (map enc_task ran) ≡ b → Contains (cons_option (cond b found None) (news_in funcs rows files ran)) t
          → IsOfRan funcs ran t
      by rest true among c = there rest found refl among c
      by rest false among c = rest c
