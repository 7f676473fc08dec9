-- A directory has one project.
use Rattle.std.proofs.Common.{◌≡◌, ℕ, List, Ok, Err, sym}
use Rattle.pie_files.specs.Directory.{Directory}
use Rattle.pie_lexer.specs.declared.token.Token.{Token}
use Rattle.pie_project.specs.Fronts.{Checked, Front, TokensSay, tree, expected, too_deep, TextSays, tokens, no_token, PipelineSays}
use Rattle.pie_project.specs.Fronts.{BytesSay, pipeline_too_long, pipeline_no_text, pipeline_text}
use Rattle.pie_project.specs.Fronts.{bad_pipeline, good_pipeline, ProjectSays, no_pipeline, with_pipeline}
use Rattle.pie_project.specs.inner.Only.{IsOnly}
use Rattle.pie_project.proofs.OneFront.{only_tree, only_expected, only_too_deep, only_lexed, only_no_token, only_too_long, only_no_text, only_text, only_bad}
use Rattle.pie_project.proofs.OneFront.{only_good, only_absent, only_there}
use Rattle.pie_clean_laws.proofs.OneTree.{one_pipeline}

tokens_only : (ts : List Token) (r : Checked) → TokensSay ts r → IsOnly (TokensSay ts) r
tokens_only ts r (tree {fs = fs} p h) = only_tree ts fs p h (λ gs q. one_pipeline ts fs gs p q)
tokens_only ts r (expected {i = i} x) = only_expected ts i x
tokens_only ts r (too_deep {i = i} x) = only_too_deep ts i x

text_only : (text : List ℕ) (r : Checked) → TextSays text r → IsOnly (TextSays text) r
text_only text r (tokens {ts = ts} x q) = only_lexed text ts r x (tokens_only ts r q)
text_only text r (no_token {e = e} x) = only_no_token text e x

bytes_only : (bytes : List ℕ) (r : Checked) → BytesSay bytes r → IsOnly (BytesSay bytes) r
bytes_only bytes r (pipeline_too_long a) = only_too_long bytes a
bytes_only bytes r (pipeline_no_text l u) = only_no_text bytes l u
bytes_only bytes r (pipeline_text l u q) = only_text bytes r l u (text_only bytes r q)

pipeline_only : (d : Directory) (bytes : List ℕ) (r : Front) → PipelineSays d bytes r → IsOnly (PipelineSays d bytes) r
pipeline_only d bytes r (bad_pipeline {e = e} b) = only_bad d bytes e (bytes_only bytes (Err e) b)
pipeline_only d bytes r (good_pipeline {fs = fs} b t) = only_good d bytes fs r (bytes_only bytes (Ok fs) b) t

project_only : (d : Directory) (r : Front) → ProjectSays d r → IsOnly (ProjectSays d) r
project_only d r (no_pipeline x) = only_absent d x
project_only d r (with_pipeline {bytes = bytes} x q) = only_there d bytes r x (pipeline_only d bytes r q)

pub one_project : (d : Directory) (r s : Front) → ProjectSays d r → ProjectSays d s → r ≡ s
one_project d r s a b = sym ((project_only d r a).only s b)
