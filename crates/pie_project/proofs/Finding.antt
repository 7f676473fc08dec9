-- What a stage answers, told by the stage behind it.
use Rattle.std.proofs.Common.{◌≡◌, ◌<◌, ◌≤◌, ℕ, List, length, Option, Some, None, Result, Ok, Err, sym, subst, ap, ◌∙◌}
use Rattle.std.specs.Prelude.{IfSome}
use Rattle.std.specs.Option.{option_map}
use Rattle.std.specs.Str.{IsUtf8}
use Rattle.pie_files.specs.Directory.{Directory, file_at}
use Rattle.pie_files.specs.inner.Within.{IsWithin}
use Rattle.pie_files.specs.declared.files.Found.{Found}
use Rattle.pie_files.specs.declared.files.Within.{Within}
use Rattle.pie_files.specs.declared.files.Within.TheVariants.{Long, Whole}
use Rattle.pie_files.specs.declared.files.Within.TheVariants as within
use Rattle.pie_files.specs.declared.files.FilesError.{FilesError}
use Rattle.pie_files.specs.declared.files.FilesError.TheVariants as files
use Rattle.pie_lexer.specs.declared.token.Token.{Token}
use Rattle.pie_lexer.specs.declared.error.LexError.{LexError}
use Rattle.pie_lexer.specs.declared.error.LexError.TheVariants as lexer
use Rattle.pie_lexer.specs.inner.Answers.{IsAnswer}
use Rattle.pie_lexer.specs.Tokens.{Lexes}
use Rattle.pie_parser.specs.declared.error.ParseError.{ParseError}
use Rattle.pie_parser.specs.declared.error.ParseError.TheVariants as parser
use Rattle.pie_parser.specs.FunctionTrees.{FunctionTree}
use Rattle.pie_parser.specs.FunctionGrammar.{IsPipeline}
use Rattle.pie_parser.specs.FunctionReading as parsing
use Rattle.pie_grammar_laws.proofs.Stops.{expected_is, too_deep_is, shallow_whole}
use Rattle.pie_types.specs.Whole.{number_from}
use Rattle.pie_value.specs.declared.task.Task.{Task}
use Rattle.pie_roots.specs.declared.roots_fault.RootsFault.{RootsFault}
use Rattle.pie_roots.specs.declared.roots_fault.RootsFault.TheVariants as roots
use Rattle.pie_roots.specs.RootLists as lists
use Rattle.pie_project.specs.declared.fault.BuildError.{BuildError}
use Rattle.pie_project.specs.declared.fault.BuildError.TheVariants as errors
use Rattle.pie_project.specs.inner.Errors.{files_error, lexer_error, parser_error, reader_error}
use Rattle.pie_project.specs.Refusals.{Refusal, OfPipeline, OfRoots, Absent, TooLong, plain, Says, Only}
use Rattle.pie_project.specs.Fronts.{most, Checked, Front, tree_says, TokensSay, TextSays, BytesSay}
use Rattle.pie_project.specs.Fronts.{RootsSay, roots_too_long, roots_no_text, bad_root, TypedSays, no_roots, with_roots}
use Rattle.pie_project.specs.Fronts.{PipelineSays, ProjectSays, CheckSays, counts_of}
use Rattle.pie_project.specs.inner.Only.{IsOnly}
use Rattle.pie_project.specs.declared.fault.RootsReason.TheVariants as reasons
use Rattle.pie_project.specs.Looking.{pipeline_path, roots_path}
use Rattle.pie_project.proofs.OneFront.{only_tree, only_expected, only_too_deep, only_lexed, only_no_token, only_too_long, only_text, only_bad, only_good}
use Rattle.pie_project.proofs.OneFront.{only_absent, only_there, only_counts}
use Rattle.pie_project.proofs.Told.{told, told_both}

-- what is said of an answer, told by what more is said
pub says_more : {A B : Type 0} (view : A → B) (P Q : Result B Refusal → Type 0) (result : Result A BuildError) → ((r : Result B Refusal) → P r → Q r)
    → Says view P result → Says view Q result
says_more view P Q (Ok a) f h = f (Ok (view a)) h
says_more view P Q (Err (errors.Pipeline x)) f h = f _ h
says_more view P Q (Err (errors.Roots x)) f h = f _ h
says_more view P Q (Err errors.Files) f h = tt
says_more view P Q (Err errors.OutOfMemory) f h = tt

-- what is said of a refusal, of another kind of answer
pub other_view : {A B C : Type 0} (view : A → B) (other : C → B) (P Q : Result B Refusal → Type 0) (e : BuildError) → ((r : Result B Refusal) → P r → Q r)
    → Says {A = A} view P (Err e) → Says {A = C} other Q (Err e)
other_view view other P Q (errors.Pipeline x) f h = f _ h
other_view view other P Q (errors.Roots x) f h = f _ h
other_view view other P Q errors.Files f h = tt
other_view view other P Q errors.OutOfMemory f h = tt

-- what is said of an answer alone is said of it, and is all that can be said
pub holds_of : {A B : Type 0} (view : A → B) (P : Result B Refusal → Type 0) (result : Result A BuildError) → Says view (IsOnly P) result → Says view P result
holds_of view P result h = says_more view (IsOnly P) P result (λ r x. x.holds) h

pub only_of : {A B : Type 0} (view : A → B) (P : Result B Refusal → Type 0) (result : Result A BuildError) → Says view (IsOnly P) result → Only view P result
only_of view P result h = λ r y. says_more view (IsOnly P) (λ s. r ≡ s) result (λ s x. x.only r y) h

pub alone_of : {A B : Type 0} (view : A → B) (P : Result B Refusal → Type 0) (result : Result A BuildError) → Says view P result → Only view P result
    → Says view (IsOnly P) result
alone_of view P (Ok a) h o = record { holds = h; only = o }
alone_of view P (Err (errors.Pipeline x)) h o = record { holds = h; only = o }
alone_of view P (Err (errors.Roots x)) h o = record { holds = h; only = o }
alone_of view P (Err errors.Files) h o = tt
alone_of view P (Err errors.OutOfMemory) h o = tt

-- of a fault of the files nothing is said
pub says_failed : {A B : Type 0} (view : A → B) (P : Result B Refusal → Type 0) (e : FilesError) → Says {A = A} view P (Err (files_error e))
says_failed view P files.Failed = tt
says_failed view P files.OutOfMemory = tt

pub tree_so : (ts : List Token) (fs : List FunctionTree) → IsPipeline ts fs → ((gs : List FunctionTree) → IsPipeline ts gs → fs ≡ gs) → parsing.Reads (Ok fs) ts
    → (r : Checked) → r ≡ tree_says fs → IsOnly (TokensSay ts) r
tree_so ts fs p one q r e = subst (IsOnly (TokensSay ts)) (sym e) (only_tree ts fs p (shallow_whole ts fs q) one)

pub parser_refuses : {A : Type 0} (view : A → List FunctionTree) (ts : List Token) (e : ParseError) → parsing.Reads (Err e) ts
    → Says {A = A} view (IsOnly (TokensSay ts)) (Err (parser_error e))
parser_refuses view ts (parser.Expected i) h = only_expected ts i (expected_is ts i h)
parser_refuses view ts (parser.TooDeep i) h = only_too_deep ts i (too_deep_is ts i h)
parser_refuses view ts parser.OutOfMemory h = tt

pub lexer_refuses : {A V : Type 0} (view : A → List FunctionTree) (seen : V → List Token) (text : List ℕ) (e : LexError) → IsAnswer {A = V} seen (Err e) text
    → Says {A = A} view (IsOnly (TextSays text)) (Err (lexer_error e))
lexer_refuses view seen text (lexer.BadChar i) h = only_no_token text (lexer.BadChar i) h
lexer_refuses view seen text (lexer.OpenText i) h = only_no_token text (lexer.OpenText i) h
lexer_refuses view seen text (lexer.BadEscape i) h = only_no_token text (lexer.BadEscape i) h
lexer_refuses view seen text (lexer.WideInt i) h = only_no_token text (lexer.WideInt i) h
lexer_refuses view seen text lexer.OutOfMemory h = tt

pub reader_refuses : {A V : Type 0} (view : A → List FunctionTree × List Task) (seen : V → List Task) (fs : List FunctionTree) (bytes : List ℕ) (e : RootsFault)
    → lists.Reads {A = V} (number_from 0 fs) seen (Err e) bytes → Says {A = A} view (RootsSay fs bytes) (Err (reader_error e))
reader_refuses view seen fs bytes roots.TooLong h = roots_too_long h
reader_refuses view seen fs bytes roots.NotText h = roots_no_text h
reader_refuses view seen fs bytes (roots.BadRoot n) h = bad_root h
reader_refuses view seen fs bytes roots.OutOfMemory h = tt

-- a refusal of the pipeline is one of the project
pub refuses_all : {A B : Type 0} (view : A → List FunctionTree) (whole : B → List FunctionTree × List Task) (d : Directory) (bytes : List ℕ) (e : BuildError)
    → Says {A = A} view (IsOnly (BytesSay bytes)) (Err e) → Says {A = B} whole (IsOnly (PipelineSays d bytes)) (Err e)
refuses_all view whole d bytes (errors.Pipeline f) h = only_bad d bytes (OfPipeline (plain f)) h
refuses_all view whole d bytes (errors.Roots r) h = only_bad d bytes (OfRoots r) h
refuses_all view whole d bytes errors.Files h = tt
refuses_all view whole d bytes errors.OutOfMemory h = tt

-- a refusal of the project is one of its check
pub refuses_check : {A B : Type 0} (view : A → List FunctionTree × List Task) (whole : B → ℕ × ℕ) (d : Directory) (e : BuildError)
    → Says {A = A} view (IsOnly (ProjectSays d)) (Err e) → Says {A = B} whole (IsOnly (CheckSays d)) (Err e)
refuses_check view whole d (errors.Pipeline f) h = only_counts d (Err (OfPipeline (plain f))) h
refuses_check view whole d (errors.Roots r) h = only_counts d (Err (OfRoots r)) h
refuses_check view whole d errors.Files h = tt
refuses_check view whole d errors.OutOfMemory h = tt

pub counts_so : (d : Directory) (f : Front) → IsOnly (ProjectSays d) f → (r : Result (ℕ × ℕ) Refusal) → r ≡ counts_of f → IsOnly (CheckSays d) r
counts_so d f h r e = subst (IsOnly (CheckSays d)) (sym e) (only_counts d f h)

-- the bytes of a file that is found whole
pub bytes_of : (w : Within) (found : Found) (slice : List ℕ) (file : Option (List ℕ × ℕ)) → w ≡ Whole found → slice ≡ found.bytes.items
    → IsWithin most w file → option_map (λ f. f.0) file ≡ Some slice
bytes_of w found slice file e s h =
    let is : IsWithin most (Whole found) file = subst (λ (k : Within). IsWithin most k file) e h in
    ap (option_map (λ f. f.0)) is.0 ∙ ap (λ b. Some b) (sym s)

no_bytes : (w : Within) (file : Option (List ℕ × ℕ)) → w ≡ within.Absent → IsWithin most w file → option_map (λ f. f.0) file ≡ None
no_bytes w file e h =
    let is : IsWithin most within.Absent file = subst (λ (k : Within). IsWithin most k file) e h in
    ap (option_map (λ f. f.0)) is

-- a file that is too long has bytes, and these are too many
many_bytes : (w : Within) (file : Option (List ℕ × ℕ)) → w ≡ Long → IsWithin most w file
    → (b : List ℕ) × (option_map (λ f. f.0) file ≡ Some b) × (most < length b)
many_bytes w file e h =
    let is : IsWithin most Long file = subst (λ (k : Within). IsWithin most k file) e h in
    (is.0.0, ap (option_map (λ f. f.0)) is.1, is.2)

-- roots that are there
pub roots_there : {A : Type 0} (seen : A → List FunctionTree × List Task) (holds : Option Directory) (w : Within) (found : Found)
    (slice : List ℕ) (fs : List FunctionTree) (result : Result A BuildError)
    → IfSome holds (λ d. IsWithin most w (file_at d roots_path)) → w ≡ Whole found → slice ≡ found.bytes.items → Says seen (RootsSay fs slice) result
    → IfSome holds (λ d. Says seen (TypedSays d fs) result)
roots_there seen holds w found slice fs result h e s q =
    told holds (λ (d : Directory). IsWithin most w (file_at d roots_path)) (λ (d : Directory). Says seen (TypedSays d fs) result)
    (λ d f. says_more seen (RootsSay fs slice) (TypedSays d fs) result
    (λ r x. with_roots (bytes_of w found slice (file_at d roots_path) e s f) x) q) h

-- roots that are too long
pub roots_long : (holds : Option Directory) (w : Within) (fs : List FunctionTree)
    → IfSome holds (λ d. IsWithin most w (file_at d roots_path)) → w ≡ Long → IfSome holds (λ d. TypedSays d fs (Err (OfRoots reasons.TooLong)))
roots_long holds w fs h e =
    told holds (λ (d : Directory). IsWithin most w (file_at d roots_path)) (λ (d : Directory). TypedSays d fs (Err (OfRoots reasons.TooLong)))
    (λ d f. let many = many_bytes w (file_at d roots_path) e f in with_roots many.1 (roots_too_long many.2)) h

-- no roots
pub roots_away : (holds : Option Directory) (w : Within) (fs : List FunctionTree)
    → IfSome holds (λ d. IsWithin most w (file_at d roots_path)) → w ≡ within.Absent → IfSome holds (λ d. TypedSays d fs (Err (OfRoots reasons.Absent)))
roots_away holds w fs h e =
    told holds (λ (d : Directory). IsWithin most w (file_at d roots_path)) (λ (d : Directory). TypedSays d fs (Err (OfRoots reasons.Absent)))
    (λ d f. no_roots (no_bytes w (file_at d roots_path) e f)) h

-- a pipeline that is there
pub pipeline_there : {A : Type 0} (seen : A → List FunctionTree × List Task) (holds after : Option Directory) (w : Within) (found : Found)
    (slice : List ℕ) (result : Result A BuildError) → IfSome holds (λ d. IsWithin most w (file_at d pipeline_path)) → w ≡ Whole found
    → slice ≡ found.bytes.items → after ≡ holds → IfSome after (λ d. Says seen (IsOnly (PipelineSays d slice)) result)
    → IfSome holds (λ d. Says seen (IsOnly (ProjectSays d)) result)
pipeline_there seen holds after w found slice result h e k s q =
    told_both holds (λ (d : Directory). IsWithin most w (file_at d pipeline_path)) (λ (d : Directory). Says seen (IsOnly (PipelineSays d slice)) result)
    (λ (d : Directory). Says seen (IsOnly (ProjectSays d)) result)
    (λ d f x. says_more seen (IsOnly (PipelineSays d slice)) (IsOnly (ProjectSays d)) result
    (λ r y. only_there d slice r (bytes_of w found slice (file_at d pipeline_path) e k f) y) x)
    h (subst (λ (m : Option Directory). IfSome m (λ d. Says seen (IsOnly (PipelineSays d slice)) result)) s q)

-- a pipeline that is too long
pub pipeline_long : (holds : Option Directory) (w : Within) → IfSome holds (λ d. IsWithin most w (file_at d pipeline_path)) → w ≡ Long
    → IfSome holds (λ d. IsOnly (ProjectSays d) (Err (OfPipeline TooLong)))
pipeline_long holds w h e =
    told holds (λ (d : Directory). IsWithin most w (file_at d pipeline_path)) (λ (d : Directory). IsOnly (ProjectSays d) (Err (OfPipeline TooLong)))
    (λ d f. let many = many_bytes w (file_at d pipeline_path) e f in
    only_there d many.0 (Err (OfPipeline TooLong)) many.1 (only_bad d many.0 (OfPipeline TooLong) (only_too_long many.0 many.2))) h

-- no pipeline
pub pipeline_away : (holds : Option Directory) (w : Within) → IfSome holds (λ d. IsWithin most w (file_at d pipeline_path)) → w ≡ within.Absent
    → IfSome holds (λ d. IsOnly (ProjectSays d) (Err (OfPipeline Absent)))
pipeline_away holds w h e =
    told holds (λ (d : Directory). IsWithin most w (file_at d pipeline_path)) (λ (d : Directory). IsOnly (ProjectSays d) (Err (OfPipeline Absent)))
    (λ d f. only_absent d (no_bytes w (file_at d pipeline_path) e f)) h

-- what is told of any directory
pub of_any : (holds : Option Directory) (P : Directory → Type 0) → ((d : Directory) → P d) → IfSome holds P
of_any None P f = tt
of_any (Some d) P f = f d

-- a pipeline that is checked, and what stands behind it
pub pipeline_good : {A : Type 0} (seen : A → List FunctionTree × List Task) (holds : Option Directory) (slice bytes : List ℕ) (fs : List FunctionTree)
    (result : Result A BuildError) → slice ≡ bytes
    → IsOnly (BytesSay slice) (Ok fs) → IfSome holds (λ d. Says seen (TypedSays d fs) result)
    → IfSome holds (λ d. Says seen (IsOnly (PipelineSays d bytes)) result)
pipeline_good seen holds slice bytes fs result s b q =
    told holds (λ (d : Directory). Says seen (TypedSays d fs) result) (λ (d : Directory). Says seen (IsOnly (PipelineSays d bytes)) result)
    (λ d x. says_more seen (TypedSays d fs) (IsOnly (PipelineSays d bytes)) result
    (λ r y. only_good d bytes fs r (subst (λ (k : List ℕ). IsOnly (BytesSay k) (Ok fs)) s b) y) x) q

-- a pipeline that is refused
pub pipeline_bad : (A B : Type 0) (view : A → List FunctionTree) (seen : B → List FunctionTree × List Task) (holds : Option Directory) (slice bytes : List ℕ)
    (e : BuildError) → slice ≡ bytes
    → Says {A = A} view (IsOnly (BytesSay slice)) (Err e) → IfSome holds (λ d. Says {A = B} seen (IsOnly (PipelineSays d bytes)) (Err e))
pipeline_bad A B view seen holds slice bytes e s h =
    of_any holds (λ (d : Directory). Says {A = B} seen (IsOnly (PipelineSays d bytes)) (Err e))
    (λ d. refuses_all view seen d bytes e (subst (λ (k : List ℕ). Says {A = A} view (IsOnly (BytesSay k)) (Err e)) s h))

-- the counts of a project, or its refusal
pub counts_good : {A : Type 0} (seen : A → ℕ × ℕ) (holds : Option Directory) (f : Front) (result : Result A BuildError)
    → IfSome holds (λ d. IsOnly (ProjectSays d) f) → Says seen (λ (r : Result (ℕ × ℕ) Refusal). r ≡ counts_of f) result
    → IfSome holds (λ d. Says seen (IsOnly (CheckSays d)) result)
counts_good seen holds f result h q =
    told holds (λ (d : Directory). IsOnly (ProjectSays d) f) (λ (d : Directory). Says seen (IsOnly (CheckSays d)) result)
    (λ d x. says_more seen (λ (r : Result (ℕ × ℕ) Refusal). r ≡ counts_of f) (IsOnly (CheckSays d)) result (λ r e. counts_so d f x r e) q) h

pub counts_bad : (A B : Type 0) (view : A → List FunctionTree × List Task) (seen : B → ℕ × ℕ) (holds : Option Directory) (e : BuildError)
    → IfSome holds (λ d. Says {A = A} view (IsOnly (ProjectSays d)) (Err e)) → IfSome holds (λ d. Says {A = B} seen (IsOnly (CheckSays d)) (Err e))
counts_bad A B view seen holds e h =
    told holds (λ (d : Directory). Says {A = A} view (IsOnly (ProjectSays d)) (Err e)) (λ (d : Directory). Says {A = B} seen (IsOnly (CheckSays d)) (Err e))
    (λ d x. refuses_check view seen d e x) h

-- bytes that are a text
pub text_so : {A : Type 0} (view : A → List FunctionTree) (bytes text : List ℕ) (result : Result A BuildError) → length bytes ≤ most → text ≡ bytes
    → IsUtf8 bytes → Says view (IsOnly (TextSays text)) result → Says view (IsOnly (BytesSay bytes)) result
text_so view bytes text result l e u h =
    says_more view (IsOnly (TextSays text)) (IsOnly (BytesSay bytes)) result
    (λ r x. only_text bytes r l u (subst (λ (k : List ℕ). IsOnly (TextSays k) r) e x)) h

-- a text that has tokens
pub tokens_so : {A : Type 0} (view : A → List FunctionTree) (text : List ℕ) (ts slice : List Token) (result : Result A BuildError) → Lexes 0 text (Ok ts)
    → slice ≡ ts → Says view (IsOnly (TokensSay slice)) result → Says view (IsOnly (TextSays text)) result
tokens_so view text ts slice result x e h =
    says_more view (IsOnly (TokensSay slice)) (IsOnly (TextSays text)) result
    (λ r y. only_lexed text ts r x (subst (λ (k : List Token). IsOnly (TokensSay k) r) e y)) h

-- ---- the project of a directory, and no other

pub project_holds : {A : Type 0} (view : A → List FunctionTree × List Task) (holds : Option Directory) (result : Result A BuildError)
    → IfSome holds (λ d. Says view (IsOnly (ProjectSays d)) result) → IfSome holds (λ d. Says view (ProjectSays d) result)
project_holds view holds result h =
    told holds (λ (d : Directory). Says view (IsOnly (ProjectSays d)) result) (λ (d : Directory). Says view (ProjectSays d) result)
    (λ d x. holds_of view (ProjectSays d) result x) h

pub only_project : {A : Type 0} (view : A → List FunctionTree × List Task) (holds : Option Directory) (result : Result A BuildError)
    → IfSome holds (λ d. Says view (IsOnly (ProjectSays d)) result) → IfSome holds (λ d. Only view (ProjectSays d) result)
only_project view holds result h =
    told holds (λ (d : Directory). Says view (IsOnly (ProjectSays d)) result) (λ (d : Directory). Only view (ProjectSays d) result)
    (λ d x. only_of view (ProjectSays d) result x) h

pub project_alone : {A : Type 0} (view : A → List FunctionTree × List Task) (holds : Option Directory) (result : Result A BuildError)
    → IfSome holds (λ d. Says view (ProjectSays d) result) → IfSome holds (λ d. Only view (ProjectSays d) result)
    → IfSome holds (λ d. Says view (IsOnly (ProjectSays d)) result)
project_alone view holds result h o =
    told_both holds (λ (d : Directory). Says view (ProjectSays d) result) (λ (d : Directory). Only view (ProjectSays d) result)
    (λ (d : Directory). Says view (IsOnly (ProjectSays d)) result) (λ d x y. alone_of view (ProjectSays d) result x y) h o

pub check_holds : {A : Type 0} (view : A → ℕ × ℕ) (holds : Option Directory) (result : Result A BuildError)
    → IfSome holds (λ d. Says view (IsOnly (CheckSays d)) result) → IfSome holds (λ d. Says view (CheckSays d) result)
check_holds view holds result h =
    told holds (λ (d : Directory). Says view (IsOnly (CheckSays d)) result) (λ (d : Directory). Says view (CheckSays d) result)
    (λ d x. holds_of view (CheckSays d) result x) h

pub only_check : {A : Type 0} (view : A → ℕ × ℕ) (holds : Option Directory) (result : Result A BuildError)
    → IfSome holds (λ d. Says view (IsOnly (CheckSays d)) result) → IfSome holds (λ d. Only view (CheckSays d) result)
only_check view holds result h =
    told holds (λ (d : Directory). Says view (IsOnly (CheckSays d)) result) (λ (d : Directory). Only view (CheckSays d) result)
    (λ d x. only_of view (CheckSays d) result x) h
