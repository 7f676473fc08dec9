-- A task whose function has one digest in the store of an earlier build and now means the same, whatever changed since.
use Rattle.std.proofs.Common.{◌≡◌, ℕ, Bool, true, false, cond, List, [], ◌∷◌, ◌++◌, length, map, ◌≤◌, Option, None, Some, Ok, Err, refl}
use Rattle.std.proofs.Common.{sym, ap, subst, ◌∙◌, codes}
use Rattle.std.specs.Prelude.{IsPermutation}
use Rattle.std.specs.Option.{option_map}
use Rattle.std.proofs.lemmas.List.{append-nil}
use Rattle.std.proofs.lemmas.List.Sorted.{IsPermutation-trans, IsPermutation-sym, IsPermutation-map}
use Rattle.sha2.specs.Sha256.{sha256}
use Rattle.pie_commit.proofs.Standing.{same_path}
use Rattle.pie_diff.specs.Hashes.{hash_in, is_hash}
use Rattle.pie_digest.specs.Digests.{digests_of, function_names, row_names, spelled, HasNames}
use Rattle.pie_earlier_laws.specs.Functions.{digest_under, AreItsDigests, IsPipelineOf, SpellingsAmong, SpellingsSeparate}
use Rattle.pie_earlier_laws.proofs.SameFunctions.{met_spellings, one_next}
use Rattle.pie_files.specs.Directory.{Directory, file_at}
use Rattle.pie_lexer.specs.Tokens.{Lexes}
use Rattle.pie_lexer.specs.declared.token.Token.{Token}
use Rattle.pie_model.specs.Paths.{among}
use Rattle.pie_model.specs.Changes.IsMet.{named}
use Rattle.pie_model.specs.Reasons.{SameCode}
use Rattle.pie_model_pipeline.specs.World.{world, next, project}
use Rattle.pie_parser.specs.FunctionGrammar.{IsPipeline}
use Rattle.pie_parser.specs.FunctionTrees.{FunctionTree}
use Rattle.pie_project.specs.Digested.{HasDigests}
use Rattle.pie_project.specs.Fronts.{Checked, Front, typed_or, TokensSay, tree, expected, too_deep, TextSays, tokens, no_token, BytesSay, pipeline_too_long}
use Rattle.pie_project.specs.Fronts.{most, pipeline_no_text, pipeline_text, RootsSay, roots_found, roots_too_long, roots_no_text, bad_root, TypedSays, no_roots}
use Rattle.pie_project.specs.Fronts.{with_roots, PipelineSays, bad_pipeline, good_pipeline, ProjectSays, no_pipeline, with_pipeline}
use Rattle.pie_project.specs.Looking.{file_bytes, pipeline_path}
use Rattle.pie_project.specs.declared.project.Project.{Project}
use Rattle.pie_project.specs.inner.Projects.{front_of}
use Rattle.pie_spelling_laws.specs.Spelling.{joined, spelling, tokens_within}
use Rattle.pie_store.specs.Canonical.{AreFuncs}
use Rattle.pie_store.specs.Texts.{IsFormat, IsStore}
use Rattle.pie_store.specs.declared.image.StoreImage.{StoreImage}
use Rattle.pie_types.specs.Faults.{TypingResult}
use Rattle.pie_types.specs.Whole.{checked}
use Rattle.pie_types.specs.inner.WholeRules.{IsTyped}
use Rattle.pie_types.proofs.WholeLaw.{checked_sound, checked_complete}
use Rattle.pie_value.specs.Canonical.{enc_task, IsCanonicalTask}
use Rattle.pie_value.specs.declared.task.Task.{Task}
use Rattle.pie_incremental.specs.Earlier.{AreSeparate, Earlier, HasSpellings, TellsFunctions}
use Rattle.pie_incremental.specs.Starts.{IsReadable}
use Rattle.pie_incremental.specs.inner.Digested.{digested, with_digests}
use Rattle.pie_topdown_build.specs.Clean.{HasStoreOf}

-- ---- the pipeline of a project

abbrev IsReadAs : List Token → Checked → Type 0
IsReadAs ts (Ok fs) = IsPipeline ts fs × IsTyped fs
IsReadAs ts (Err e) = Unit {0}

read_if_checked : (ts : List Token) (fs : List FunctionTree) (o : TypingResult (List FunctionTree)) → IsPipeline ts fs → checked fs ≡ o
    → IsReadAs ts (typed_or o)
read_if_checked ts fs (Ok gs) a is =
    let one : ◌≡◌ {A = TypingResult (List FunctionTree)} (Ok fs) (Ok gs) = sym (checked_complete fs (checked_sound fs gs is)) ∙ is in
    let same : fs ≡ gs = cc in subst (λ x. IsPipeline ts x × IsTyped x) same (a, checked_sound fs gs is)
read_if_checked ts fs (Err e) a is = tt

tokens_read : (ts : List Token) (r : Checked) → TokensSay ts r → IsReadAs ts r
tokens_read ts r (tree {fs = fs} a x) = read_if_checked ts fs (checked fs) a refl
tokens_read ts r (expected x) = tt
tokens_read ts r (too_deep x) = tt

abbrev HasTokens : List ℕ → Checked → Type 0
HasTokens text (Ok fs) = (ts : List Token) × IsPipelineOf text ts fs × IsTyped fs
HasTokens text (Err e) = Unit {0}

with_tokens : (text : List ℕ) (ts : List Token) (r : Checked) → Lexes 0 text (Ok ts) → IsReadAs ts r → HasTokens text r
with_tokens text ts (Ok fs) lexed is = (ts, record { lexed = lexed; pipeline = is.0 }, is.1)
with_tokens text ts (Err e) lexed is = tt

text_read : (text : List ℕ) (r : Checked) → TextSays text r → HasTokens text r
text_read text r (tokens {ts = ts} x q) = with_tokens text ts r x (tokens_read ts r q)
text_read text r (no_token x) = tt

abbrev IsText : List ℕ → Checked → Type 0
IsText bytes (Ok fs) = (length bytes ≤ most) × HasTokens bytes (Ok fs)
IsText bytes (Err e) = Unit {0}

with_length : (bytes : List ℕ) (r : Checked) → length bytes ≤ most → HasTokens bytes r → IsText bytes r
with_length bytes (Ok fs) small has = (small, has)
with_length bytes (Err e) small has = tt

bytes_read : (bytes : List ℕ) (r : Checked) → BytesSay bytes r → IsText bytes r
bytes_read bytes r (pipeline_too_long a) = tt
bytes_read bytes r (pipeline_no_text l u) = tt
bytes_read bytes r (pipeline_text l u q) = with_length bytes r l (text_read bytes r q)

-- the text of a directory's pipeline, with its tokens, which are these functions, and typed
pub record HasPipeline (d : Directory) (fs : List FunctionTree) : Type 0 where
  pub text : List ℕ
  pub there : file_bytes d pipeline_path ≡ Some text
  pub small : length text ≤ most
  pub ts : List Token
  pub is : IsPipelineOf text ts fs
  pub typed : IsTyped fs

abbrev pub HasPipelineIn : Directory → Front → Type 0
HasPipelineIn d (Ok p) = HasPipeline d p.0
HasPipelineIn d (Err e) = Unit {0}

roots_has : (d : Directory) (bytes : List ℕ) (fs : List FunctionTree) (rest : List ℕ) (r : Front) → file_bytes d pipeline_path ≡ Some bytes
    → IsText bytes (Ok fs) → RootsSay fs rest r → HasPipelineIn d r
roots_has d bytes fs rest r there h (roots_found x) = record { text = bytes; there = there; small = h.0; ts = h.1.0; is = h.1.1; typed = h.1.2 }
roots_has d bytes fs rest r there h (roots_too_long x) = tt
roots_has d bytes fs rest r there h (roots_no_text x) = tt
roots_has d bytes fs rest r there h (bad_root x) = tt

typed_has : (d : Directory) (bytes : List ℕ) (fs : List FunctionTree) (r : Front) → file_bytes d pipeline_path ≡ Some bytes → IsText bytes (Ok fs)
    → TypedSays d fs r → HasPipelineIn d r
typed_has d bytes fs r there h (no_roots x) = tt
typed_has d bytes fs r there h (with_roots {bytes = rest} x q) = roots_has d bytes fs rest r there h q

pipeline_has : (d : Directory) (bytes : List ℕ) (r : Front) → file_bytes d pipeline_path ≡ Some bytes → PipelineSays d bytes r → HasPipelineIn d r
pipeline_has d bytes r there (bad_pipeline b) = tt
pipeline_has d bytes r there (good_pipeline {fs = fs} b q) = typed_has d bytes fs r there (bytes_read bytes (Ok fs) b) q

pub project_has : (d : Directory) (r : Front) → ProjectSays d r → HasPipelineIn d r
project_has d r (no_pipeline x) = tt
project_has d r (with_pipeline {bytes = bytes} x q) = pipeline_has d bytes r x q

-- ---- spellings and hashes

pub spelled_is : (text : List ℕ) (ts : List Token) → spelled text ts ≡ joined text ts
spelled_is text [] = refl
spelled_is text (t ∷ []) = append-nil (spelling text t)
spelled_is text (t ∷ u ∷ us) = ap (λ bs. spelling text t ++ 32 ∷ bs) (spelled_is text (u ∷ us))

spells : (d : Directory) (fs : List FunctionTree) (strings : List (List ℕ)) (q : HasPipeline d fs) → HasSpellings d fs strings
    → SpellingsAmong q.text q.ts fs strings
spells d fs strings q has f i =
    subst (λ s. among s strings ≡ true) (spelled_is q.text (tokens_within f.at f.end q.ts)) (has.each q.text q.ts q.there q.is.lexed f i)

hash_of : (o : Option (List ℕ × ℕ)) (text : List ℕ) → option_map (λ f. f.0) o ≡ Some text → option_map (λ f. sha256 f.0) o ≡ Some (sha256 text)
hash_of None text is = cc
hash_of (Some f) text is = let same : f.0 ≡ text = cc in ap (λ x. Some (sha256 x)) same

-- ---- one digest is one meaning

module _ (e : Earlier) (d : Directory) (s : StoreImage) (bytes : List ℕ) (p : Project) (from : HasStoreOf e d) (readable : IsReadable d s bytes)
    (says : ProjectSays d (Ok (front_of p))) (has : HasDigests d p.digests.items) (names : HasNames p.typed p.digests.items)
    (funcs : AreFuncs p.digests.items) where
  was : HasPipeline e.built e.found.functions
  was = project_has e.built (Ok (e.found.functions, e.roots)) e.found.says

  now : HasPipeline d p.typed
  now = project_has d (Ok (front_of p)) says

  separate : AreSeparate e from.strings d p.typed p.roots.items
  separate = from.now p.typed p.roots.items says

  store : IsStore s
  store = readable.says.store

  apart : SpellingsSeparate was.text was.ts e.found.functions now.text now.ts p.typed
  apart = met_spellings was.text now.text was.ts now.ts e.found.functions p.typed (project e.found.functions e.built) (project p.typed d)
      (map enc_task e.roots) (map enc_task p.roots.items) from.strings (spells e.built e.found.functions from.strings was from.earlier)
      (spells d p.typed from.strings now separate.spelled) separate.separate

  abbrev Means : List (List ℕ × List ℕ) → Type 0
  Means rows = (t : Task) → IsCanonicalTask t (enc_task t) → SameCode (digest_under rows t.func) (digest_under p.digests.items t.func)
      → next e.found.functions (enc_task t) ≡ next p.typed (enc_task t)

  by_rows : (rows : List (List ℕ × List ℕ)) → AreItsDigests was.text was.ts e.found.functions rows → Means rows
  by_rows rows are t canonical same =
      one_next was.text now.text was.ts now.ts e.found.functions p.typed rows p.digests.items t was.is now.is are
      (record { digests = has now.text now.there now.ts now.is.lexed; names = names; funcs = funcs }) apart canonical same

  -- the store has the digests
  by_table : s.funcs ≡ e.funcs → Means s.funcs
  by_table same = by_rows s.funcs (record {
    digests = subst (IsPermutation (digests_of was.text was.ts)) (sym same) (e.found.digests was.text was.there was.ts was.is.lexed);
    names = subst (HasNames e.found.functions) (sym same) e.found.names;
    funcs = store.table;
  })

  -- the text is that of now
  by_text : was.text ≡ now.text → Means p.digests.items
  by_text same =
      let old : IsPermutation (digests_of was.text was.ts) e.funcs = e.found.digests was.text was.there was.ts was.is.lexed in
      let new : IsPermutation (digests_of was.text was.ts) p.digests.items = has was.text (now.there ∙ ap Some (sym same)) was.ts was.is.lexed in
      by_rows p.digests.items (record {
        digests = new;
        names = IsPermutation-trans (function_names e.found.functions) (row_names e.funcs) (row_names p.digests.items) e.found.names
            (IsPermutation-map (λ (row : List ℕ × List ℕ). row.0) e.funcs p.digests.items
            (IsPermutation-trans e.funcs (digests_of was.text was.ts) p.digests.items (IsPermutation-sym (digests_of was.text was.ts) e.funcs old) new));
        funcs = funcs;
      })

  one_text : sha256 was.text ≡ sha256 now.text → was.text ≡ now.text
  unfolding world
  one_text same =
      separate.separate.hashes was.text now.text (named (from.earlier.text was.text was.there)) (named (separate.spelled.text now.text now.there)) same

  by_hash : (hash : List ℕ) → s.funcs ≡ [] → ((text : List ℕ) → file_bytes e.built pipeline_path ≡ Some text → hash ≡ sha256 text) → (t : Bool)
      → is_hash (hash_in d (codes "pie.pipeline")) hash ≡ t → Means (cond t (record s { funcs = p.digests.items }) s).funcs
  by_hash hash none tells false is t canonical same =
      let nothing : None ≡ Some same.0 = ap (λ rows. digest_under rows t.func) (sym none) ∙ same.1 in absurd (let f : ⊥ = cc in f)
  by_hash hash none tells true is t canonical same =
      let there : hash_in d (codes "pie.pipeline") ≡ Some (sha256 now.text) = hash_of (file_at d pipeline_path) now.text now.there in
      let equal : sha256 now.text ≡ hash = same_path (sha256 now.text) hash (ap (λ o. is_hash o hash) (sym there) ∙ is) in
      by_text (one_text (sym (tells was.text was.there) ∙ sym equal)) t canonical same

  by_store : (o : Option (List ℕ)) → IsFormat s.version o s.funcs → TellsFunctions e s.funcs o
      → Means (with_digests d p.digests.items s o).funcs
  by_store None format tells = by_table tells
  by_store (Some hash) format tells = by_hash hash format.2 tells (is_hash (hash_in d (codes "pie.pipeline")) hash) refl

  pub means_same : Means (digested d p.digests.items s).funcs
  means_same = by_store s.pipeline store.format (from.stored s bytes readable).functions
