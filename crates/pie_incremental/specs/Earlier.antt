-- An earlier accepted build, and a directory that goes on from it.
use Rattle.std.specs.Prelude.{◌≡◌, ℕ, ◌&&◌, true, not, nat_lt, List, ◌++◌, map, Option, Some, None, Ok, Contains}
use Rattle.std.specs.List.{filter}
use Rattle.sha2.specs.Sha256.{sha256}
use Rattle.pie_base.specs.Path.{is_out}
use Rattle.pie_build.specs.Left.{Accepts, IsProjectOf}
use Rattle.pie_digest.specs.Digests.{spelled}
use Rattle.pie_files.specs.Directory.{Directory, file_at}
use Rattle.pie_lexer.specs.Tokens.{Lexes}
use Rattle.pie_lexer.specs.declared.token.Token.{Token}
use Rattle.pie_model.specs.Built.{provided_at, store_rows}
use Rattle.pie_model.specs.Forest.{live_evaluations}
use Rattle.pie_model.specs.Paths.{among, kind_of}
use Rattle.pie_model.specs.Trees.{Node}
use Rattle.pie_model.specs.declared.words.Kind.TheVariants as kinds
use Rattle.pie_model.specs.Changes.{BuildsSeparate, NamesAllChanges}
use Rattle.pie_model_pipeline.specs.Rows.{record_of}
use Rattle.pie_model_pipeline.specs.World.{world, project}
use Rattle.pie_parser.specs.FunctionTrees.{FunctionTree}
use Rattle.pie_project.specs.Fronts.{ProjectSays}
use Rattle.pie_project.specs.Looking.{file_bytes, pipeline_path}
use Rattle.pie_store.specs.declared.image.StoreImage.{StoreImage}
use Rattle.pie_store.specs.Pending.{in_order}
use Rattle.pie_value.specs.Canonical.{enc_task}
use Rattle.pie_value.specs.declared.task.Task.{Task}
use Rattle.pie_incremental.specs.declared.base.Base.{Base}
use Rattle.pie_incremental.specs.Own.{bytes_at}
use Rattle.pie_incremental.specs.Starts.{IsBase}

-- the evaluations of the live tasks of these functions and roots in a directory
abbrev pub live_of : List FunctionTree → Directory → List Task → List Node
live_of fs d roots = live_evaluations world (project fs d) (map enc_task roots)

-- an accepted build: the project of a directory, with its digests, and the directory that it left, which has the sources that it was built of and
-- under `out` exactly what its live tasks provide
pub record Earlier : Type 0 where
  pub built : Directory
  pub funcs : List (List ℕ × List ℕ)
  pub roots : List Task
  pub found : IsProjectOf built funcs roots
  pub accepted : Accepts found.functions roots built
  pub left : Directory
  pub sources : (path : List ℕ) → kind_of path ≡ kinds.Source → file_at left path ≡ file_at built path
  pub provided : (path : List ℕ) → kind_of path ≡ kinds.Out → bytes_at left path ≡ provided_at (live_of found.functions built roots) path

-- a store tells of which functions it is: by their digests, or where it is of version 1 by the SHA-256 of the pipeline
abbrev pub TellsFunctions : Earlier → List (List ℕ × List ℕ) → Option (List ℕ) → Type 0
TellsFunctions e funcs None = funcs ≡ e.funcs
TellsFunctions e funcs (Some hash) = (text : List ℕ) → file_bytes e.built pipeline_path ≡ Some text → hash ≡ sha256 text

-- a store has the records of an earlier build, and tells of which functions it was
pub record IsStoreOfEarlier (e : Earlier) (s : StoreImage) : Type 0 where
  pub rows : map record_of s.rows ≡ store_rows world (project e.found.functions e.built) (map enc_task e.roots)
  pub functions : TellsFunctions e s.funcs s.pipeline

-- the spelling of a function: those of its tokens, from `func` to its last brace, with one space between each and the next
abbrev pub function_spelling : List ℕ → List Token → FunctionTree → List ℕ
function_spelling text ts f = spelled text (filter (λ t. not (nat_lt t.at f.at) && not (nat_lt f.end t.end)) ts)

-- among these strings are the pipeline of a directory, and the spelling of each of its functions
pub record HasSpellings (d : Directory) (fs : List FunctionTree) (strings : List (List ℕ)) : Type 0 where
  pub text : (text : List ℕ) → file_bytes d pipeline_path ≡ Some text → among text strings ≡ true
  pub each : (text : List ℕ) (ts : List Token) → file_bytes d pipeline_path ≡ Some text → Lexes 0 text (Ok ts) → (f : FunctionTree) → Contains fs f
      → among (function_spelling text ts f) strings ≡ true

-- of an earlier build and one of these functions and roots in a directory, no two different byte strings that they meet, these among them, have one hash, and
-- no source has one mark and two contents
pub record AreSeparate (e : Earlier) (strings : List (List ℕ)) (d : Directory) (fs : List FunctionTree) (roots : List Task) : Type 0 where
  pub spelled : HasSpellings d fs strings
  pub separate : BuildsSeparate world (project e.found.functions e.built) (project fs d) (map enc_task e.roots) (map enc_task roots) strings

-- a directory goes on from an earlier build, by a list: its store is that of the build, all that changed since is in the list or pending, and what is met
-- then and now is separate, with both pipelines, the spellings of their functions and the files under `out` among it
pub record GoesOnFrom (e : Earlier) (list : List (List ℕ)) (d : Directory) : Type 0 where
  pub stored : (b : Base) → IsBase d b → IsStoreOfEarlier e b.image
  pub changes : (b : Base) → IsBase d b → NamesAllChanges e.left d (in_order (list ++ b.names.items))
  pub strings : List (List ℕ)
  pub out : (path bytes : List ℕ) → is_out path ≡ true → bytes_at d path ≡ Some bytes → among bytes strings ≡ true
  pub earlier : HasSpellings e.built e.found.functions strings
  pub now : (fs : List FunctionTree) (roots : List Task) → ProjectSays d (Ok (fs, roots)) → AreSeparate e strings d fs roots
