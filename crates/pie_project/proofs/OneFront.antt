-- A directory has one project and no other.
use Rattle.std.proofs.Common.{◌≡◌, ◌≤◌, ◌<◌, ℕ, List, length, Option, Some, None, Result, Ok, Err, refl, sym, subst, ap, ◌∙◌, arith}
use Rattle.std.specs.Str.{IsUtf8}
use Rattle.pie_files.specs.Directory.{Directory}
use Rattle.pie_lexer.specs.declared.token.Token.{Token}
use Rattle.pie_lexer.specs.declared.error.LexError.{LexError}
use Rattle.pie_lexer.specs.Tokens.{Lexes}
use Rattle.pie_lexer.proofs.OneAnswer.{one_answer}
use Rattle.pie_parser.specs.declared.error.ParseError.TheVariants as parse
use Rattle.pie_parser.specs.FunctionTrees.{FunctionTree}
use Rattle.pie_parser.specs.FunctionGrammar.{IsPipeline}
use Rattle.pie_grammar_laws.specs.Brackets.{IsShallow}
use Rattle.pie_grammar_laws.specs.Refusals.{StopsAt, NestsTooDeepAt}
use Rattle.pie_grammar_laws.proofs.OneAnswer.{pipeline_never_stops, shallow_not_deep, stops_once, deep_once, stops_not_deep}
use Rattle.pie_types.specs.Whole.{number_from}
use Rattle.pie_value.specs.declared.task.Task.{Task}
use Rattle.pie_roots.specs.Lines.{texts}
use Rattle.pie_roots.specs.RootLists.{Named}
use Rattle.pie_roots.proofs.RootLines.{one_naming}
use Rattle.pie_project.specs.declared.fault.RootsReason.TheVariants as reasons
use Rattle.pie_project.specs.Looking.{file_bytes, pipeline_path, roots_path}
use Rattle.pie_project.specs.Refusals.{Refusal, OfPipeline, OfRoots, Absent, TooLong, NotText, Lex, Parse}
use Rattle.pie_project.specs.Fronts.{most, Checked, Front, tree_says, TokensSay, tree, expected, too_deep, TextSays, tokens, no_token, BytesSay}
use Rattle.pie_project.specs.Fronts.{pipeline_too_long, pipeline_no_text, pipeline_text}
use Rattle.pie_project.specs.Fronts.{RootsSay, roots_found, roots_too_long, roots_no_text, bad_root, TypedSays, no_roots, with_roots}
use Rattle.pie_project.specs.Fronts.{PipelineSays, bad_pipeline, good_pipeline, ProjectSays, no_pipeline, with_pipeline, CheckSays, counts, counts_of}
use Rattle.pie_project.specs.inner.Only.{IsOnly}

-- tokens of a pipeline whose tree is the only one
pub only_tree : (ts : List Token) (fs : List FunctionTree) → IsPipeline ts fs → IsShallow ts → ((gs : List FunctionTree) → IsPipeline ts gs → fs ≡ gs)
    → IsOnly (TokensSay ts) (tree_says fs)
only_tree ts fs p h one = record { holds = tree p h; only = others }
  where
    others : (s : Checked) → TokensSay ts s → s ≡ tree_says fs
    others s (tree {fs = gs} q k) = ap tree_says (sym (one gs q))
    others s (expected {i = i} x) = absurd (pipeline_never_stops ts fs i p x)
    others s (too_deep {i = i} x) = absurd (shallow_not_deep ts i h x)

pub only_expected : (ts : List Token) (i : ℕ) → StopsAt ts i → IsOnly (TokensSay ts) (Err (OfPipeline (Parse (parse.Expected i))))
only_expected ts i h = record { holds = expected h; only = others }
  where
    others : (s : Checked) → TokensSay ts s → s ≡ Err (OfPipeline (Parse (parse.Expected i)))
    others s (tree {fs = fs} q k) = absurd (pipeline_never_stops ts fs i q h)
    others s (expected {i = j} x) = ap (λ k. Err (OfPipeline (Parse (parse.Expected k)))) (stops_once ts j i x h)
    others s (too_deep {i = j} x) = absurd (stops_not_deep ts i j h x)

pub only_too_deep : (ts : List Token) (i : ℕ) → NestsTooDeepAt ts i → IsOnly (TokensSay ts) (Err (OfPipeline (Parse (parse.TooDeep i))))
only_too_deep ts i h = record { holds = too_deep h; only = others }
  where
    others : (s : Checked) → TokensSay ts s → s ≡ Err (OfPipeline (Parse (parse.TooDeep i)))
    others s (tree q k) = absurd (shallow_not_deep ts i k h)
    others s (expected {i = j} x) = absurd (stops_not_deep ts j i x h)
    others s (too_deep {i = j} x) = ap (λ k. Err (OfPipeline (Parse (parse.TooDeep k)))) (deep_once ts j i x h)

pub same_tokens : (text : List ℕ) (ts us : List Token) → Lexes 0 text (Ok ts) → Lexes 0 text (Ok us) → ts ≡ us
same_tokens text ts us x y = let e = one_answer 0 text (Ok ts) (Ok us) x y in cc

not_lexed : (P : Type 0) (text : List ℕ) (ts : List Token) (e : LexError) → Lexes 0 text (Ok ts) → Lexes 0 text (Err e) → P
not_lexed P text ts e x y = let q = one_answer 0 text (Ok ts) (Err e) x y in absurd (cc)

same_fault : (text : List ℕ) (e f : LexError) → Lexes 0 text (Err e) → Lexes 0 text (Err f) → e ≡ f
same_fault text e f x y = let q = one_answer 0 text (Err e) (Err f) x y in cc

-- a text of these tokens
pub only_lexed : (text : List ℕ) (ts : List Token) (r : Checked) → Lexes 0 text (Ok ts) → IsOnly (TokensSay ts) r → IsOnly (TextSays text) r
only_lexed text ts r x h = record { holds = tokens x h.holds; only = others }
  where
    others : (s : Checked) → TextSays text s → s ≡ r
    others s (tokens {ts = us} y q) = h.only s (subst (λ (k : List Token). TokensSay k s) (same_tokens text us ts y x) q)
    others s (no_token {e = e} y) = not_lexed (s ≡ r) text ts e x y

-- a text without tokens
pub only_no_token : (text : List ℕ) (e : LexError) → Lexes 0 text (Err e) → IsOnly (TextSays text) (Err (OfPipeline (Lex e)))
only_no_token text e x = record { holds = no_token x; only = others }
  where
    others : (s : Checked) → TextSays text s → s ≡ Err (OfPipeline (Lex e))
    others s (tokens {ts = ts} y q) = not_lexed (s ≡ Err (OfPipeline (Lex e))) text ts e y x
    others s (no_token {e = f} y) = ap (λ k. Err (OfPipeline (Lex k))) (same_fault text f e y x)

too_many : (P : Type 0) (n : ℕ) → most < n → n ≤ most → P
too_many P n h k = absurd (omega arith)

pub only_too_long : (bytes : List ℕ) → most < length bytes → IsOnly (BytesSay bytes) (Err (OfPipeline TooLong))
only_too_long bytes a = record { holds = pipeline_too_long a; only = others }
  where
    others : (s : Checked) → BytesSay bytes s → s ≡ Err (OfPipeline TooLong)
    others s (pipeline_too_long b) = refl
    others s (pipeline_no_text l u) = too_many (s ≡ Err (OfPipeline TooLong)) (length bytes) a l
    others s (pipeline_text l u q) = too_many (s ≡ Err (OfPipeline TooLong)) (length bytes) a l

pub only_no_text : (bytes : List ℕ) → length bytes ≤ most → ¬ (IsUtf8 bytes) → IsOnly (BytesSay bytes) (Err (OfPipeline NotText))
only_no_text bytes l u = record { holds = pipeline_no_text l u; only = others }
  where
    others : (s : Checked) → BytesSay bytes s → s ≡ Err (OfPipeline NotText)
    others s (pipeline_too_long a) = too_many (s ≡ Err (OfPipeline NotText)) (length bytes) a l
    others s (pipeline_no_text m v) = refl
    others s (pipeline_text m v q) = absurd (u v)

pub only_text : (bytes : List ℕ) (r : Checked) → length bytes ≤ most → IsUtf8 bytes → IsOnly (TextSays bytes) r → IsOnly (BytesSay bytes) r
only_text bytes r l u h = record { holds = pipeline_text l u h.holds; only = others }
  where
    others : (s : Checked) → BytesSay bytes s → s ≡ r
    others s (pipeline_too_long a) = too_many (s ≡ r) (length bytes) a l
    others s (pipeline_no_text m v) = absurd (v u)
    others s (pipeline_text m v q) = h.only s q

named_same : (fs : List FunctionTree) (ts us : List Task) → ◌≡◌ {A = Named} (Ok ts) (Ok us) → ◌≡◌ {A = Front} (Ok (fs, ts)) (Ok (fs, us))
named_same fs ts us e = cc

named_or_bad : (P : Type 0) (ts : List Task) (n : ℕ) → ◌≡◌ {A = Named} (Ok ts) (Err n) → P
named_or_bad P ts n e = absurd (cc)

line_same : (m n : ℕ) → ◌≡◌ {A = Named} (Err m) (Err n) → m ≡ n
line_same m n e = cc

one_roots : (fs : List FunctionTree) (bytes : List ℕ) (r s : Front) → RootsSay fs bytes r → RootsSay fs bytes s → r ≡ s
one_roots fs bytes r s (roots_found {ts = ts} x) (roots_found {ts = us} y) = named_same fs ts us
    (one_naming (number_from 0 fs) 1 (texts bytes) (Ok ts) (Ok us) x.2 y.2)
one_roots fs bytes r s (roots_found x) (roots_too_long y) = too_many (r ≡ s) (length bytes) y x.0
one_roots fs bytes r s (roots_found x) (roots_no_text y) = absurd (y.1 x.1)
one_roots fs bytes r s (roots_found {ts = ts} x) (bad_root {n = n} y) = named_or_bad (r ≡ s) ts n
    (one_naming (number_from 0 fs) 1 (texts bytes) (Ok ts) (Err n) x.2 y.2)
one_roots fs bytes r s (roots_too_long x) (roots_found y) = too_many (r ≡ s) (length bytes) x y.0
one_roots fs bytes r s (roots_too_long x) (roots_too_long y) = refl
one_roots fs bytes r s (roots_too_long x) (roots_no_text y) = too_many (r ≡ s) (length bytes) x y.0
one_roots fs bytes r s (roots_too_long x) (bad_root y) = too_many (r ≡ s) (length bytes) x y.0
one_roots fs bytes r s (roots_no_text x) (roots_found y) = absurd (x.1 y.1)
one_roots fs bytes r s (roots_no_text x) (roots_too_long y) = too_many (r ≡ s) (length bytes) y x.0
one_roots fs bytes r s (roots_no_text x) (roots_no_text y) = refl
one_roots fs bytes r s (roots_no_text x) (bad_root y) = absurd (x.1 y.1)
one_roots fs bytes r s (bad_root {n = n} x) (roots_found {ts = us} y) = named_or_bad (r ≡ s) us n
    (one_naming (number_from 0 fs) 1 (texts bytes) (Ok us) (Err n) y.2 x.2)
one_roots fs bytes r s (bad_root x) (roots_too_long y) = too_many (r ≡ s) (length bytes) y x.0
one_roots fs bytes r s (bad_root x) (roots_no_text y) = absurd (y.1 x.1)
one_roots fs bytes r s (bad_root {n = m} x) (bad_root {n = n} y) =
    ap (λ k. Err (OfRoots (reasons.Line k))) (line_same m n (one_naming (number_from 0 fs) 1 (texts bytes) (Err m) (Err n) x.2 y.2))

there_and_away : (P : Type 0) (o : Option (List ℕ)) (b : List ℕ) → o ≡ Some b → o ≡ None → P
there_and_away P o b x y = let q = sym x ∙ y in absurd (cc)

same_bytes : (o : Option (List ℕ)) (b c : List ℕ) → o ≡ Some b → o ≡ Some c → b ≡ c
same_bytes o b c x y = let q = sym x ∙ y in cc

one_typed : (d : Directory) (fs : List FunctionTree) (r s : Front) → TypedSays d fs r → TypedSays d fs s → r ≡ s
one_typed d fs r s (no_roots x) (no_roots y) = refl
one_typed d fs r s (no_roots x) (with_roots {bytes = b} y q) = there_and_away (r ≡ s) (file_bytes d roots_path) b y x
one_typed d fs r s (with_roots {bytes = b} x p) (no_roots y) = there_and_away (r ≡ s) (file_bytes d roots_path) b x y
one_typed d fs r s (with_roots {bytes = b} x p) (with_roots {bytes = c} y q) =
    one_roots fs b r s p (subst (λ (k : List ℕ). RootsSay fs k s) (same_bytes (file_bytes d roots_path) c b y x) q)

good_and_bad : (P : Type 0) (fs : List FunctionTree) (e : Refusal) → ◌≡◌ {A = Checked} (Ok fs) (Err e) → P
good_and_bad P fs e q = absurd (cc)

same_functions : (fs gs : List FunctionTree) → ◌≡◌ {A = Checked} (Ok fs) (Ok gs) → fs ≡ gs
same_functions fs gs e = cc

same_refusal : (e f : Refusal) → ◌≡◌ {A = Checked} (Err e) (Err f) → ◌≡◌ {A = Front} (Err e) (Err f)
same_refusal e f q = cc

pub only_bad : (d : Directory) (bytes : List ℕ) (e : Refusal) → IsOnly (BytesSay bytes) (Err e) → IsOnly (PipelineSays d bytes) (Err e)
only_bad d bytes e h = record { holds = bad_pipeline h.holds; only = others }
  where
    others : (s : Front) → PipelineSays d bytes s → s ≡ Err e
    others s (bad_pipeline {e = f} y) = same_refusal f e (h.only (Err f) y)
    others s (good_pipeline {fs = gs} y q) = good_and_bad (s ≡ Err e) gs e (h.only (Ok gs) y)

pub only_good : (d : Directory) (bytes : List ℕ) (fs : List FunctionTree) (r : Front) → IsOnly (BytesSay bytes) (Ok fs) → TypedSays d fs r
    → IsOnly (PipelineSays d bytes) r
only_good d bytes fs r h x = record { holds = good_pipeline h.holds x; only = others }
  where
    others : (s : Front) → PipelineSays d bytes s → s ≡ r
    others s (bad_pipeline {e = f} y) = good_and_bad (s ≡ r) fs f (sym (h.only (Err f) y))
    others s (good_pipeline {fs = gs} y q) =
        one_typed d fs s r (subst (λ (k : List FunctionTree). TypedSays d k s) (same_functions gs fs (h.only (Ok gs) y)) q) x

pub only_absent : (d : Directory) → file_bytes d pipeline_path ≡ None → IsOnly (ProjectSays d) (Err (OfPipeline Absent))
only_absent d x = record { holds = no_pipeline x; only = others }
  where
    others : (s : Front) → ProjectSays d s → s ≡ Err (OfPipeline Absent)
    others s (no_pipeline y) = refl
    others s (with_pipeline {bytes = b} y q) = there_and_away (s ≡ Err (OfPipeline Absent)) (file_bytes d pipeline_path) b y x

pub only_there : (d : Directory) (bytes : List ℕ) (r : Front) → file_bytes d pipeline_path ≡ Some bytes → IsOnly (PipelineSays d bytes) r
    → IsOnly (ProjectSays d) r
only_there d bytes r x h = record { holds = with_pipeline x h.holds; only = others }
  where
    others : (s : Front) → ProjectSays d s → s ≡ r
    others s (no_pipeline y) = there_and_away (s ≡ r) (file_bytes d pipeline_path) bytes x y
    others s (with_pipeline {bytes = b} y q) =
        h.only s (subst (λ (k : List ℕ). PipelineSays d k s) (same_bytes (file_bytes d pipeline_path) b bytes y x) q)

pub only_counts : (d : Directory) (f : Front) → IsOnly (ProjectSays d) f → IsOnly (CheckSays d) (counts_of f)
only_counts d f h = record { holds = counts h.holds; only = others }
  where
    others : (s : Result (ℕ × ℕ) Refusal) → CheckSays d s → s ≡ counts_of f
    others s (counts {r = g} y) = ap counts_of (h.only g y)
