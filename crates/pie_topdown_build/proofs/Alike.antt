-- Tasks whose functions have one digest in two directories mean the same in both.
use Rattle.std.proofs.Common.{◌≡◌, ◌∙◌, ℕ, zero, suc, ◌<◌, ◌≤◌, ◌^◌, Bool, true, false, cond, List, [], ◌∷◌, length, Some, Ok, refl, sym, ap, subst, arith}
use Rattle.std.specs.Prelude.{Contains, IsPermutation, bytes_eq, slice_index_or}
use Rattle.std.specs.List.{AllByRecursion, IsDistinct}
use Rattle.std.specs.Ordering.{is_lt, ordering_reverse}
use Rattle.std.specs.Cmp.{IsTotalOrder}
use Rattle.std.specs.declared.cmp.Ordering.{Ordering}
use Rattle.std.specs.declared.cmp.Ordering.TheVariants.{Less, Equal, Greater}
use Rattle.std.proofs.lemmas.Bool.{false≢true}
use Rattle.std.proofs.lemmas.Cmp.{nat_cmp_total, nat_list_cmp_total, nat_list_eq_equiv, on_total, then_total}
use Rattle.std.proofs.lemmas.List.Elements.{All-weaker}
use Rattle.std.proofs.lemmas.List.Sorted.{All-permutation, Contains-permutation, IsPermutation-map, IsPermutation-trans, length_permutation}
use Rattle.std.proofs.lemmas.Map.Keys.{IsDistinct-IsPermutation}
use Rattle.sha2.specs.Sha256.{sha256}
use Rattle.pie_build.specs.Left.{IsProjectOf}
use Rattle.pie_digest.specs.Digests.{digests_of, function_names, name_cmp, row_names, HasNames}
use Rattle.pie_earlier_laws.proofs.SameFunctions.{one_next}
use Rattle.pie_earlier_laws.specs.Functions.{digest_under, AreItsDigests, SpellingsSeparate}
use Rattle.pie_files.specs.Directory.{Directory}
use Rattle.pie_incremental.specs.Earlier.{function_spelling}
use Rattle.pie_lexer.specs.Tokens.{Lexes}
use Rattle.pie_lexer.specs.declared.token.Token.{Token}
use Rattle.pie_model_pipeline.specs.World.{next}
use Rattle.pie_parser.specs.FunctionTrees.{FunctionTree}
use Rattle.pie_project.proofs.Ascending.{ascending}
use Rattle.pie_project.proofs.Lengths.{rows_within}
use Rattle.pie_project.proofs.Once.{names_once}
use Rattle.pie_project.specs.Looking.{file_bytes, pipeline_path}
use Rattle.pie_spelling_laws.specs.Spelling.{function_spelling as joined_spelling, tokens_within}
use Rattle.pie_store.specs.Canonical.{AreFuncs}
use Rattle.pie_value.specs.Canonical.{enc_task, IsCanonicalTask}
use Rattle.pie_value.specs.declared.task.Task.{Task}
use Rattle.pie_topdown_build.proofs.Meaning.{project_has, spelled_is, HasPipeline}
use Rattle.pie_topdown_build.proofs.Sorting.{in_order, rises, shuffled, sorted}

-- ---- rows of names and digests

abbrev Row : Type 0
Row = List ℕ × List ℕ

abbrev below : Row → Row → Bool
below a b = is_lt (name_cmp a.0 b.0)

names_total : IsTotalOrder name_cmp
names_total = then_total (on_total length nat_cmp_total) nat_list_cmp_total

turned : (o : Ordering) → is_lt o ≡ true → is_lt (ordering_reverse o) ≡ false
turned Less e = refl
turned Equal e = absurd (false≢true e)
turned Greater e = absurd (false≢true e)

one_way : (a b : Row) → below a b ≡ true → below b a ≡ false
one_way a b e = ap is_lt (names_total.antisymm b.0 a.0) ∙ turned (name_cmp a.0 b.0) e

-- a row that isn't the first has another name than the first
other_name : (rows : List Row) (m n d : List ℕ) (k : ℕ) → AllByRecursion (λ x. bytes_eq m x ≡ false) (row_names rows) → k < length rows
    → slice_index_or rows k (n, d) ≡ (n, d) → bytes_eq m n ≡ false
other_name [] m n d k all low e = absurd (omega (arith, low))
other_name (row ∷ rows) m n d zero all low e = subst (λ (x : List ℕ). bytes_eq m x ≡ false) (ap (λ (x : Row). x.0) e) all.0
other_name (row ∷ rows) m n d (suc k) all low e = other_name rows m n d k all.1 (omega (arith, low)) e

-- where each name stands once, a row's name has its digest
under : (rows : List Row) (n d : List ℕ) (k : ℕ) → IsDistinct bytes_eq (row_names rows) → k < length rows → slice_index_or rows k (n, d) ≡ (n, d)
    → digest_under rows n ≡ Some d
unfolding IsDistinct
under [] n d k once low e = absurd (omega (arith, low))
under (row ∷ rows) n d zero once low e =
    let name : row.0 ≡ n = ap (λ (x : Row). x.0) e in
    let same : bytes_eq n row.0 ≡ true = subst (λ (x : List ℕ). bytes_eq n x ≡ true) (sym name) (nat_list_eq_equiv.refl n) in
    ap (λ (b : Bool). cond b (Some row.1) (digest_under rows n)) same ∙ ap (λ (x : Row). Some x.1) e
under (row ∷ rows) n d (suc k) once low e =
    let other : bytes_eq n row.0 ≡ false = nat_list_eq_equiv.symm n row.0 ∙ other_name rows row.0 n d k once.0 (omega (arith, low)) e in
    ap (λ (b : Bool). cond b (Some row.1) (digest_under rows n)) other ∙ under rows n d k once.1 (omega (arith, low)) e

-- ---- the digests of a project

module _ (d : Directory) (funcs : List Row) (roots : List Task) (found : IsProjectOf d funcs roots) where
  pipeline : HasPipeline d found.functions
  pipeline = project_has d (Ok (found.functions, roots)) found.says

  abbrev rows : List Row
  rows = sorted below funcs

  same_rows : IsPermutation funcs rows
  same_rows = shuffled below funcs

  its : IsPermutation (digests_of pipeline.text pipeline.ts) rows
  its = IsPermutation-trans (digests_of pipeline.text pipeline.ts) funcs rows
      (found.digests pipeline.text pipeline.there pipeline.ts pipeline.is.lexed) same_rows

  names : HasNames found.functions rows
  names = IsPermutation-trans (function_names found.functions) (row_names funcs) (row_names rows) found.names
      (IsPermutation-map (λ (row : Row). row.0) funcs rows same_rows)

  once : IsDistinct bytes_eq (row_names rows)
  once = IsDistinct-IsPermutation bytes_eq nat_list_eq_equiv.symm (function_names found.functions) (row_names rows) names
      (names_once found.functions pipeline.typed)

  table : AreFuncs rows
  table =
      let made = digests_of pipeline.text pipeline.ts in
      let within = rows_within pipeline.text pipeline.ts pipeline.is.lexed in record {
        few = omega (arith, pipeline.small, within.0, length_permutation made rows its);
        short = All-permutation (λ (f : Row). length f.0 < 2 ^ 32) made rows its
            (All-weaker (λ (f : Row). length f.0 ≤ length pipeline.text) (λ (f : Row). length f.0 < 2 ^ 32)
            (λ f l. omega (arith, pipeline.small, l)) made within.1);
        ascending = ascending rows (in_order below rows (rises below one_way funcs)) once;
      }

  itself : AreItsDigests pipeline.text pipeline.ts found.functions rows
  itself = record { digests = its; names = names; funcs = table }

  has_digest : (n digest : List ℕ) → Contains funcs (n, digest) → digest_under rows n ≡ Some digest
  has_digest n digest c =
      let k = Contains-permutation funcs rows (n, digest) same_rows c in under rows n digest k.0 once k.1 k.2

-- ---- one digest is one meaning

-- the spellings of these functions of a directory are met
abbrev pub SpellingsAreMet : (List ℕ → Type 0) → Directory → List FunctionTree → Type 0
SpellingsAreMet Met d fs =
    (text : List ℕ) (ts : List Token) → file_bytes d pipeline_path ≡ Some text → Lexes 0 text (Ok ts) → (f : FunctionTree) → Contains fs f
    → Met (function_spelling text ts f)

module _ (Met : List ℕ → Type 0) (hashes : (a b : List ℕ) → Met a → Met b → sha256 a ≡ sha256 b → a ≡ b) (built d : Directory)
    (others funcs : List Row) (tasks roots : List Task) (was : IsProjectOf built others tasks) (now : IsProjectOf d funcs roots)
    (met_then : SpellingsAreMet Met built was.functions) (met_now : SpellingsAreMet Met d now.functions) where
  abbrev then : HasPipeline built was.functions
  then = pipeline built others tasks was

  abbrev here : HasPipeline d now.functions
  here = pipeline d funcs roots now

  apart : SpellingsSeparate then.text then.ts was.functions here.text here.ts now.functions
  apart f g i j e =
      hashes (joined_spelling then.text then.ts f) (joined_spelling here.text here.ts g)
      (subst Met (spelled_is then.text (tokens_within f.at f.end then.ts)) (met_then then.text then.ts then.there then.is.lexed f i))
      (subst Met (spelled_is here.text (tokens_within g.at g.end here.ts)) (met_now here.text here.ts here.there here.is.lexed g j)) e

  pub one_meaning : (t : Task) (digest : List ℕ) → IsCanonicalTask t (enc_task t) → Contains others (t.func, digest) → Contains funcs (t.func, digest)
      → next was.functions (enc_task t) ≡ next now.functions (enc_task t)
  one_meaning t digest canonical listed found =
      one_next then.text here.text then.ts here.ts was.functions now.functions (rows built others tasks was) (rows d funcs roots now) t then.is here.is
      (itself built others tasks was) (itself d funcs roots now) apart canonical
      (digest, has_digest built others tasks was t.func digest listed, has_digest d funcs roots now t.func digest found)
