-- A text has one table of functions, and a store of the same functions, roots and records has one text.
use Rattle.std.proofs.Common.{◌≡◌, ◌⊎◌, inl, inr, ℕ, ◌==◌, Bool, true, false, List, ◌∷◌, ◌++◌, map, All, Option, refl, sym, subst, ap, ◌∙◌, arith}
use Rattle.std.specs.Prelude.{◌&&◌, ◌||◌, nat_lt, length, IsTrue, IsPermutation}
use Rattle.std.specs.declared.cmp.Ordering.{Ordering}
use Rattle.std.specs.declared.cmp.Ordering.TheVariants.{Less, Equal, Greater}
use Rattle.std.specs.Ordering.{nat_cmp, is_lt, ordering_reverse}
use Rattle.std.specs.Cmp.Lexicographic.{slice_cmp}
use Rattle.std.proofs.lemmas.Bool.{and_parts, ltb-true, eqb-true}
use Rattle.std.proofs.lemmas.Cmp.{nat_list_cmp_total}
use Rattle.std.proofs.lemmas.List.Elements.{All-weaker}
use Rattle.std.proofs.lemmas.List.Sorted.{Contains-permutation, IsPermutation-sym}
use Rattle.sha2.specs.Sha256.{sha256}
use Rattle.pie_lexer.specs.declared.token.Token.{Token}
use Rattle.pie_digest.specs.Digests.{digests_of}
use Rattle.pie_value.specs.Canonical.{enc_task}
use Rattle.pie_value.specs.declared.task.Task.{Task}
use Rattle.pie_record.specs.Canonical.{listed, enc_record}
use Rattle.pie_record.specs.declared.task_record.TaskRecord.{TaskRecord}
use Rattle.pie_store.specs.Canonical.{enc_head, name_before, AreFuncs}
use Rattle.pie_store.specs.Frame.{magic}
use Rattle.pie_store.specs.Texts.{IsFormat}
use Rattle.pie_store.specs.Texts.{IsRow as IsStoredRow}
use Rattle.pie_store.specs.declared.image.StoreImage.{StoreImage}
use Rattle.pie_build.specs.Stored.{IsStoreOf}
use Rattle.pie_model_pipeline.specs.Rows.{record_of}
use Rattle.pie_earlier_laws.specs.Told.{IsRow}
use Rattle.pie_earlier_laws.proofs.Telltale.{stores_told}
use Rattle.pie_clean_laws.proofs.Ascending.{ascending_same}

-- ---- names in order

or_parts : (a b : Bool) → (a || b) ≡ true → (a ≡ true) ⊎ (b ≡ true)
or_parts true b h = inl refl
or_parts false b h = inr h

never_less : (o p : Ordering) → o ≡ ordering_reverse p → is_lt o ≡ true → is_lt p ≡ true → ⊥
never_less Less Less e h k = cc
never_less Less Equal e h k = cc
never_less Less Greater e h k = cc
never_less Equal p e h k = cc
never_less Greater p e h k = cc

never_both : (a b : List ℕ) → IsTrue (name_before a b) → IsTrue (name_before b a) → ⊥
never_both a b h k =
    by (or_parts (nat_lt (length a) (length b)) (length a == length b && is_lt (slice_cmp nat_cmp a b)) h)
    (or_parts (nat_lt (length b) (length a)) (length b == length a && is_lt (slice_cmp nat_cmp b a)) k)
  where
    by : (nat_lt (length a) (length b) ≡ true) ⊎ ((length a == length b && is_lt (slice_cmp nat_cmp a b)) ≡ true)
        → (nat_lt (length b) (length a) ≡ true) ⊎ ((length b == length a && is_lt (slice_cmp nat_cmp b a)) ≡ true) → ⊥
    by (inl x) (inl y) = let l = ltb-true (length a) (length b) x in let m = ltb-true (length b) (length a) y in omega arith
    by (inl x) (inr y) =
        let l = ltb-true (length a) (length b) x in
        let m = eqb-true (length b) (length a) (and_parts (length b == length a) (is_lt (slice_cmp nat_cmp b a)) y).0 in omega arith
    by (inr x) (inl y) =
        let l = eqb-true (length a) (length b) (and_parts (length a == length b) (is_lt (slice_cmp nat_cmp a b)) x).0 in
        let m = ltb-true (length b) (length a) y in omega arith
    by (inr x) (inr y) =
        never_less (slice_cmp nat_cmp a b) (slice_cmp nat_cmp b a) (nat_list_cmp_total.antisymm a b)
        (and_parts (length a == length b) (is_lt (slice_cmp nat_cmp a b)) x).1 (and_parts (length b == length a) (is_lt (slice_cmp nat_cmp b a)) y).1

-- two tables of one text are equal
pub one_table : (text : List ℕ) (ts : List Token) (rows others : List (List ℕ × List ℕ)) → IsPermutation (digests_of text ts) rows
    → IsPermutation (digests_of text ts) others → AreFuncs rows → AreFuncs others → rows ≡ others
one_table text ts rows others p q f g =
    ascending_same (λ (a b : List ℕ × List ℕ). IsTrue (name_before a.0 b.0)) (λ a b. never_both a.0 b.0) rows others f.ascending g.ascending
    (λ a c. Contains-permutation (digests_of text ts) others a q
    (Contains-permutation rows (digests_of text ts) a (IsPermutation-sym (digests_of text ts) rows p) c))
    (λ a c. Contains-permutation (digests_of text ts) rows a p
    (Contains-permutation others (digests_of text ts) a (IsPermutation-sym (digests_of text ts) others q) c))

-- ---- texts of stores

body_of : ℕ → Option (List ℕ) → List (List ℕ × List ℕ) → List Task → List TaskRecord → List ℕ
body_of v p f r w = magic ++ (v ∷ (enc_head p f ++ (listed enc_task r ++ listed enc_record w)))

told_rows : (s : StoreImage) (rows : List TaskRecord) → All IsStoredRow s.rows → s.rows ≡ rows → All IsRow rows
told_rows s rows all is =
    subst (All IsRow) is (All-weaker IsStoredRow IsRow (λ r row. record { storable = row.storable; parts = row.parts }) s.rows all)

pub one_text : (funcs others : List (List ℕ × List ℕ)) (roots : List Task) (rows more : List TaskRecord) (text other : List ℕ) → funcs ≡ others
    → map record_of rows ≡ map record_of more → IsStoreOf funcs roots rows text → IsStoreOf others roots more other → text ≡ other
unfolding body_of
one_text funcs others roots rows more text other table records a b =
    let s = a.image in
    let t = b.image in
    let v : s.version ≡ 2 = subst (λ (o : Option (List ℕ)). IsFormat s.version o s.funcs) a.no_digest a.text.store.format in
    let w : t.version ≡ 2 = subst (λ (o : Option (List ℕ)). IsFormat t.version o t.funcs) b.no_digest b.text.store.format in
    let same : rows ≡ more = stores_told rows more (told_rows s rows a.text.store.rows a.rows) (told_rows t more b.text.store.rows b.rows) records in
    let versions : s.version ≡ t.version = v ∙ sym w in
    let digests : s.pipeline ≡ t.pipeline = a.no_digest ∙ sym b.no_digest in
    let tables : s.funcs ≡ t.funcs = a.funcs ∙ table ∙ sym b.funcs in
    let tasks : s.roots ≡ t.roots = a.roots ∙ sym b.roots in
    let kept : s.rows ≡ t.rows = a.rows ∙ same ∙ sym b.rows in
    let bodies : body_of s.version s.pipeline s.funcs s.roots s.rows ≡ body_of t.version t.pipeline t.funcs t.roots t.rows =
    (λ i. body_of (versions i) (digests i) (tables i) (tasks i) (kept i)) in
    a.text.bytes ∙ ap (λ body. body ++ sha256 body) bodies ∙ sym b.text.bytes
