-- The digests of a pipeline's functions, from the tokens of its text.
use Rattle.std.proofs.Common.{◌≡◌, ℕ, ◌≤◌, ◌<◌, ◌^◌, List, Option, Some, None, Result, Ok, Err, length, sym, subst, ap, ◌∙◌, arith, Vec, Global}
use Rattle.std.specs.Prelude.{IfSome, IfOk, bytes_eq, IsPermutation}
use Rattle.std.proofs.lemmas.Cmp.{nat_list_eq_equiv}
use Rattle.std.proofs.lemmas.List.Elements.{All-weaker}
use Rattle.std.proofs.lemmas.List.Sorted.{All-permutation, length_permutation}
use Rattle.std.proofs.lemmas.Map.Keys.{IsDistinct-IsPermutation}
use Rattle.pie_digest.specs.Digests.{digests_of, row_names, function_names, HasNames}
use Rattle.pie_files.specs.Directory.{Directory, file_at}
use Rattle.pie_files.specs.inner.Within.{IsWithin}
use Rattle.pie_files.specs.declared.files.Found.{Found}
use Rattle.pie_files.specs.declared.files.Within.{Within}
use Rattle.pie_files.specs.declared.files.Within.TheVariants.{Whole}
use Rattle.pie_lexer.specs.declared.token.Token.{Token}
use Rattle.pie_lexer.specs.Tokens.{Lexes}
use Rattle.pie_parser.specs.FunctionTrees.{FunctionTree}
use Rattle.pie_project.specs.declared.fault.BuildError.{BuildError}
use Rattle.pie_project.specs.declared.pipeline.Digested.{Digested}
use Rattle.pie_project.specs.declared.project.Project.{Project}
use Rattle.pie_project.specs.Digested.{AreDigests, HasDigests, AreRows, IsDigested}
use Rattle.pie_project.specs.Fronts.{most}
use Rattle.pie_project.specs.Looking.{file_bytes, pipeline_path}
use Rattle.pie_project.proofs.Ascending.{ascending}
use Rattle.pie_project.proofs.Finding.{bytes_of}
use Rattle.pie_project.proofs.Lengths.{rows_within}
use Rattle.pie_project.proofs.Once.{names_once}
use Rattle.pie_project.proofs.OneFront.{same_tokens}
use Rattle.pie_store.specs.Canonical.{AreFuncs}

-- the rows of a short text can stand in a store
are_funcs : (text : List ℕ) (ts : List Token) (fs : List FunctionTree) (rows : List (List ℕ × List ℕ)) → length text ≤ most → Lexes 0 text (Ok ts)
    → AreRows text ts fs rows → AreFuncs rows
are_funcs text ts fs rows small lexed h =
    let made = digests_of text ts in
    let within = rows_within text ts lexed in record {
      few = omega (arith, small, within.0, length_permutation made rows h.all);
      short = All-permutation (λ (f : List ℕ × List ℕ). length f.0 < 2 ^ 32) made rows h.all
          (All-weaker (λ (f : List ℕ × List ℕ). length f.0 ≤ length text) (λ (f : List ℕ × List ℕ). length f.0 < 2 ^ 32)
          (λ f l. omega (arith, small, l)) made within.1);
      ascending = ascending rows h.ordered
          (IsDistinct-IsPermutation bytes_eq nat_list_eq_equiv.symm (function_names fs) (row_names rows) h.names (names_once fs h.typed));
    }

digested_rows : (text : List ℕ) (ts : List Token) (fs : List FunctionTree) (rows : List (List ℕ × List ℕ)) → length text ≤ most → Lexes 0 text (Ok ts)
    → AreRows text ts fs rows → IsDigested text fs rows
digested_rows text ts fs rows small lexed h = record {
  digests = λ us x. subst (λ (k : List Token). IsPermutation (digests_of text k) rows) (same_tokens text ts us lexed x) h.all;
  names = h.names;
  funcs = are_funcs text ts fs rows small lexed h;
}

-- a short text that has tokens
pub digested_text : (text : List ℕ) (ts slice : List Token) (result : Result Digested BuildError) → length text ≤ most → Lexes 0 text (Ok ts) → slice ≡ ts
    → IfOk result (λ p. AreRows text slice p.typed p.digests.items) → IfOk result (λ p. IsDigested text p.typed p.digests.items)
digested_text text ts slice (Ok p) small lexed is h =
    digested_rows text ts p.typed p.digests.items small lexed (subst (λ (k : List Token). AreRows text k p.typed p.digests.items) is h)
digested_text text ts slice (Err e) small lexed is h = tt

-- bytes that are a text
pub digested_bytes : (text bytes : List ℕ) (result : Result Digested BuildError) → text ≡ bytes
    → IfOk result (λ p. IsDigested text p.typed p.digests.items) → IfOk result (λ p. IsDigested bytes p.typed p.digests.items)
digested_bytes text bytes result is h = subst (λ (k : List ℕ). IfOk result (λ p. IsDigested k p.typed p.digests.items)) is h

-- the project of a pipeline has its functions and digests
pub digested_project : (bytes : List ℕ) (pipeline : Digested) (result : Result Project BuildError) → IsDigested bytes pipeline.typed pipeline.digests.items
    → IfOk result (λ p. p.typed ≡ pipeline.typed) → IfOk result (λ p. p.digests ≡ pipeline.digests)
    → IfOk result (λ p. IsDigested bytes p.typed p.digests.items)
digested_project bytes pipeline (Ok p) h typed digests =
    subst (λ (fs : List FunctionTree). IsDigested bytes fs p.digests.items) (sym typed)
    (subst (λ (rows : Vec (List ℕ × List ℕ) Global). IsDigested bytes pipeline.typed rows.items) (sym digests) h)
digested_project bytes pipeline (Err e) h typed digests = tt

-- ---- the project of a directory

same_text : (o : Option (List ℕ)) (b c : List ℕ) → o ≡ Some b → o ≡ Some c → b ≡ c
same_text o b c x y = let q = sym x ∙ y in cc

-- where the pipeline's bytes are those of the directory
pub digests_there : (holds : Option Directory) (w : Within) (found : Found) (bytes : List ℕ) (result : Result Project BuildError)
    → IfSome holds (λ d. IsWithin most w (file_at d pipeline_path)) → w ≡ Whole found → bytes ≡ found.bytes.items
    → IfOk result (λ p. IsDigested bytes p.typed p.digests.items)
    → IfSome holds (λ d. IfOk result (λ p. HasDigests d p.digests.items))
digests_there None w found bytes result h e is k = tt
digests_there (Some d) w found bytes (Ok p) h e is k =
    λ text there. subst (λ (b : List ℕ). AreDigests b p.digests.items)
    (same_text (file_bytes d pipeline_path) bytes text (bytes_of w found bytes (file_at d pipeline_path) e is h) there) k.digests
digests_there (Some d) w found bytes (Err x) h e is k = tt

pub names_of_digested : (bytes : List ℕ) (result : Result Project BuildError) → IfOk result (λ p. IsDigested bytes p.typed p.digests.items)
    → IfOk result (λ p. HasNames p.typed p.digests.items)
names_of_digested bytes (Ok p) h = h.names
names_of_digested bytes (Err e) h = tt

pub funcs_of_digested : (bytes : List ℕ) (result : Result Project BuildError) → IfOk result (λ p. IsDigested bytes p.typed p.digests.items)
    → IfOk result (λ p. AreFuncs p.digests.items)
funcs_of_digested bytes (Ok p) h = h.funcs
funcs_of_digested bytes (Err e) h = tt
