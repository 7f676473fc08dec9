-- The files of a demo, one after another, and after each round.
use Rattle.std.proofs.Common.{◌≡◌, ℕ, zero, suc, ◌+◌, ◌-◌, ◌%◌, ◌==◌, ◌++◌, [], ◌∷◌, decimal}
use Rattle.std.proofs.Common.{◌<◌, Bool, true, false, cond, List, refl, sym, ap, ◌∙◌, subst, Option, Some, arith}
use Rattle.std.specs.Prelude.{codes}
use Rattle.std.specs.FinMap as fin
use Rattle.std.specs.Ordering.{nat_cmp}
use Rattle.std.specs.Cmp.Lexicographic.{slice_cmp}
use Rattle.std.specs.Option.{option_map}
use Rattle.pie_base.specs.Path.{same_text}
use Rattle.pie_files.specs.Directory.{Directory}
use Rattle.pie_demo.specs.Draws.{next_state, state_after}
use Rattle.pie_incremental.specs.Own.{bytes_at}
use Rattle.pie_demo.specs.Sources.{item_path, first_text, item_at, pipeline_text, roots_text, changed_path, changed_text, or_nothing}
use Rattle.pie_demo.specs.Sources.{SetsFile, ChangesFile, HasSources, HasFirst}
use Rattle.pie_demo.proofs.Setting.{same_path, bytes_set}

pub next_is : (seed n : ℕ) → next_state (state_after seed n) ≡ state_after seed (n + 1)
next_is seed n = let one : suc n ≡ n + 1 = omega arith in ap (state_after seed) one

-- a directory has the first so many files, and nothing else
abbrev pub HasItems : ℕ → ℕ → Directory → Type 0
HasItems seed i d = (q : List ℕ) → bytes_at d q ≡ item_at seed i q

pub no_items : (seed : ℕ) (d : Directory) → d ≡ fin.empty → HasItems seed 0 d
no_items seed d is q = ap (λ e. bytes_at e q) is ∙ ap (option_map (λ (f : List ℕ × ℕ). f.0)) (fin.get-empty (slice_cmp nat_cmp) q)

pub set_is : (path bytes : List ℕ) (before after : Directory) → SetsFile path bytes before after → (q : List ℕ)
    → bytes_at after q ≡ cond (same_text q path) (Some bytes) (bytes_at before q)
set_is path bytes before after set q = ap (λ d. bytes_at d q) set.1 ∙ bytes_set before path bytes set.0 q

pub item_put : (seed i : ℕ) (before after : Directory) → HasItems seed i before → SetsFile (item_path i) (first_text seed i) before after
    → HasItems seed (i + 1) after
item_put seed i before after has set q =
    let one : suc i ≡ i + 1 = omega arith in
    set_is (item_path i) (first_text seed i) before after set q
    ∙ ap (cond (same_text q (item_path i)) (Some (first_text seed i))) (has q)
    ∙ ap (λ n. item_at seed n q) one

pub all_put : (seed size : ℕ) (d e f : Directory) → HasItems seed size d → SetsFile (codes "pie.pipeline") pipeline_text d e
    → SetsFile (codes "pie.roots") roots_text e f → HasFirst seed size f
all_put seed size d e f has pipeline roots q =
    set_is (codes "pie.roots") roots_text e f roots q
    ∙ ap (cond (same_text q (codes "pie.roots")) (Some roots_text))
    (set_is (codes "pie.pipeline") pipeline_text d e pipeline q
    ∙ ap (cond (same_text q (codes "pie.pipeline")) (Some pipeline_text)) (has q))

-- a round changes its file alone
changed : (k : ℕ) (b : Bool) (q path : List ℕ) (at_q at_path : Option (List ℕ)) → (b ≡ true → at_path ≡ at_q)
    → cond b (Some (changed_text k (or_nothing at_path))) at_q ≡ cond b (Some (changed_text k (or_nothing at_q))) at_q
changed k true q path at_q at_path same = ap (λ file. Some (changed_text k (or_nothing file))) (same refl)
changed k false q path at_q at_path same = refl

after_round : (seed size k : ℕ) (d e : Directory) → HasSources seed size k d → ChangesFile seed size (suc k) d e → HasSources seed size (suc k) e
after_round seed size k d e has change q own =
    let path : List ℕ = changed_path seed size (suc k) in
    set_is path (changed_text (suc k) (or_nothing (bytes_at d path))) d e change q
    ∙ changed (suc k) (same_text q path) q path (bytes_at d q) (bytes_at d path) (λ is. ap (bytes_at d) (sym (same_path q path is)))
    ∙ ap (λ file. cond (same_text q path) (Some (changed_text (suc k) (or_nothing file))) file) (has q own)

pub round_changes : (seed size k : ℕ) (d e : Directory) → 0 < k → HasSources seed size (k - 1) d → ChangesFile seed size k d e → HasSources seed size k e
round_changes seed size zero d e first has change = absurd (omega arith)
round_changes seed size (suc k) d e first has change =
    let less : suc k - 1 ≡ k = omega arith in
    after_round seed size k d e (subst (λ n. HasSources seed size n d) less has) change

pub odd_text : (k : ℕ) (text : List ℕ) → k % 2 ≡ 1 → changed_text k text ≡ codes "r" ++ decimal k
odd_text k text odd = ap (λ n. cond (n == 1) (codes "r" ++ decimal k) (text ++ 32 ∷ [])) odd
