-- The project of a demo: its pipeline and its roots.
use Rattle.std.proofs.Common.{◌≡◌, ◌<◌, ℕ, zero, suc, true, List, [], ◌∷◌, codes, Option, None, Some, Ok, refl, subst, ◌∙◌, arith}
use Rattle.std.specs.Prelude.{nat_lt, All}
use Rattle.std.specs.List.{list_all}
use Rattle.std.specs.Str.{IsUtf8}
use Rattle.std.proofs.lemmas.Bool.{and_parts, ltb-true}
use Rattle.std.proofs.lemmas.List.Elements.{All-nil, All-cons}
use Rattle.std.proofs.lemmas.Str.{IsUtf8-from_ascii}
use Rattle.std.proofs.lemmas.Str.Ascii.{IsAscii-from_all}
use Rattle.pie_files.specs.Directory.{Directory}
use Rattle.pie_grammar_laws.proofs.Stops.{shallow_whole}
use Rattle.pie_lexer.specs.Tokens.{Lexes, ended}
use Rattle.pie_lexer.specs.declared.token.Token.{Token}
use Rattle.pie_parser.specs.At.{At}
use Rattle.pie_parser.specs.FunctionReading.{read_all}
use Rattle.pie_parser.specs.FunctionTrees.{FunctionTree}
use Rattle.pie_parser.specs.Places.{Parsed, Got, Miss}
use Rattle.pie_parser.proofs.FunctionsSound.{pipeline_sound}
use Rattle.pie_project.specs.Fronts.{typed_or, tree, tokens, good_pipeline, roots_found, with_pipeline, with_roots, ProjectSays, TokensSay}
use Rattle.pie_project.specs.Fronts as fronts
use Rattle.pie_project.specs.Looking.{file_bytes, pipeline_path, roots_path}
use Rattle.pie_roots.specs.RootLists as lists
use Rattle.pie_roots.specs.Roots.{Names}
use Rattle.pie_types.specs.Whole.{checked, number_from}
use Rattle.pie_value.specs.declared.task.Task.{Task}
use Rattle.pie_demo.specs.Sources.{pipeline_text, roots_text, source_after, HasSources}
use Rattle.pie_demo.proofs.Lexing.{tokens_from, lexes_from}

-- ---- bytes of ASCII

all_small : (bs : List ℕ) → list_all (λ b. nat_lt b 128) bs ≡ true → All (λ b. b < 128) bs
all_small [] h = All-nil (λ b. b < 128)
all_small (b ∷ bs) h =
    let parts = and_parts (nat_lt b 128) (list_all (λ x. nat_lt x 128) bs) h in
    All-cons (λ x. x < 128) b bs (ltb-true b 128 parts.0) (all_small bs parts.1)

is_utf8 : (bs : List ℕ) → list_all (λ b. nat_lt b 128) bs ≡ true → IsUtf8 bs
is_utf8 bs h = IsUtf8-from_ascii bs (IsAscii-from_all bs (all_small bs h))

-- ---- the pipeline

or_none : Option (List Token) → List Token
or_none (Some ts) = ts
or_none None = []

demo_tokens : List Token
demo_tokens = or_none (tokens_from pipeline_text 400 0)

lexed : Lexes 0 pipeline_text (Ok demo_tokens)
unfolding demo_tokens or_none
lexed = lexes_from pipeline_text 400 0 demo_tokens refl

functions_in : Parsed (List FunctionTree) → List FunctionTree
functions_in (Got fs m) = fs
functions_in (Miss f m) = []

place_in : Parsed (List FunctionTree) → At
place_in (Got fs m) = m
place_in (Miss f m) = m

pub demo_functions : List FunctionTree
demo_functions = functions_in (read_all demo_tokens)

read_is : read_all demo_tokens ≡ Got demo_functions (place_in (read_all demo_tokens))
unfolding demo_tokens demo_functions or_none functions_in place_in
read_is = refl

checked_is : checked demo_functions ≡ Ok demo_functions
unfolding demo_tokens demo_functions or_none functions_in
checked_is = refl

tokens_say : TokensSay demo_tokens (Ok demo_functions)
tokens_say =
    subst (λ r. TokensSay demo_tokens (typed_or r)) checked_is
    (tree (pipeline_sound demo_tokens demo_functions (place_in (read_all demo_tokens)) read_is)
    (shallow_whole demo_tokens demo_functions (place_in (read_all demo_tokens), read_is)))

-- ---- the roots

pub demo_root : Task
demo_root = record { func = codes "top"; args = [] }

root_tokens : List Token
root_tokens = or_none (tokens_from (codes "top()") 10 0)

named : Names (codes "top()") demo_root
unfolding demo_root root_tokens or_none
named = (root_tokens, lexes_from (codes "top()") 10 0 root_tokens refl, record { printed = refl; proper = tt; small = refl })

numbered : number_from 0 demo_functions demo_root ≡ Some 2
unfolding demo_root demo_tokens demo_functions or_none functions_in
numbered = refl

roots_say : lists.NameAll (number_from 0 demo_functions) 1 (codes "top()" ∷ [] ∷ []) (Ok (demo_root ∷ []))
roots_say = lists.named named numbered (lists.blank ended lists.ended)

-- ---- the project

pub project_said : (d : Directory) → file_bytes d pipeline_path ≡ Some pipeline_text → file_bytes d roots_path ≡ Some roots_text
    → ProjectSays d (Ok (demo_functions, demo_root ∷ []))
project_said d pipeline roots =
    with_pipeline pipeline (good_pipeline
    (fronts.pipeline_text (omega arith) (is_utf8 pipeline_text refl) (tokens lexed tokens_say))
    (with_roots roots (roots_found (omega arith, is_utf8 roots_text refl, roots_say))))

-- no round changes the two files
pipeline_after : (seed size k : ℕ) → source_after seed size k (codes "pie.pipeline") ≡ Some pipeline_text
pipeline_after seed size zero = refl
pipeline_after seed size (suc k) = pipeline_after seed size k

roots_after : (seed size k : ℕ) → source_after seed size k (codes "pie.roots") ≡ Some roots_text
roots_after seed size zero = refl
roots_after seed size (suc k) = roots_after seed size k

pub has_project : (seed size k : ℕ) (d : Directory) → HasSources seed size k d → ProjectSays d (Ok (demo_functions, demo_root ∷ []))
has_project seed size k d has =
    project_said d (has (codes "pie.pipeline") refl ∙ pipeline_after seed size k) (has (codes "pie.roots") refl ∙ roots_after seed size k)
