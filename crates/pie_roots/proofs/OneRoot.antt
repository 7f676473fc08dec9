-- A line is one root and no other.
use Rattle.std.proofs.Common.{◌≡◌, ◌≤◌, ℕ, Bool, true, false, List, [], ◌∷◌, Option, Some, None, Ok, Err, Result, refl, sym, subst, ap, ◌∙◌, arith}
use Rattle.std.specs.Prelude.{◌&&◌, ◌==◌, nat_le, length, IfOk}
use Rattle.std.proofs.lemmas.Bool.{leb-true, and_parts}
use Rattle.pie_base.specs.declared.memory.OutOfMemory.{OutOfMemory}
use Rattle.pie_lexer.specs.declared.token.Token.{Token}
use Rattle.pie_lexer.specs.declared.token.TokenKind.{TokenKind}
use Rattle.pie_lexer.specs.declared.error.LexError.{LexError}
use Rattle.pie_lexer.specs.Tokens.{Lexes}
use Rattle.pie_lexer.proofs.OneAnswer.{one_answer}
use Rattle.pie_value.specs.declared.task.Task.{Task}
use Rattle.pie_value.specs.Tree.{items_of}
use Rattle.pie_value.specs.Size.{deepest_of}
use Rattle.pie_value.specs.Limits.{task_size, is_small_task}
use Rattle.pie_roots.specs.declared.fault.RootFault.{RootFault}
use Rattle.pie_roots.specs.declared.fault.RootFault.TheVariants as faults
use Rattle.pie_roots.specs.declared.root.Root.{Root}
use Rattle.pie_roots.specs.declared.root.Root.TheVariants as roots
use Rattle.pie_roots.specs.inner.Agreement.{RootsAgree}
use Rattle.pie_roots.specs.Kinds.{kinds_of}
use Rattle.pie_roots.specs.Written.{task_tokens, Writes}
use Rattle.pie_roots.specs.inner.Reading.{task_of}
use Rattle.pie_roots.specs.Roots.{IsBlank, Names, IsRoot, IsOnlyRoot, IsRootOf, limited}
use Rattle.pie_roots.proofs.Readings.{missed, got}
use Rattle.pie_roots.proofs.Sound.{task_sound}
use Rattle.pie_roots.proofs.Complete.{task_so}

shallow : (t : Task) → is_small_task t ≡ true → deepest_of (items_of t.args) ≤ 64
shallow t h = leb-true (deepest_of (items_of t.args)) 64 (and_parts (nat_le (task_size t) 1048576) (nat_le (deepest_of (items_of t.args)) 64) h).1

-- what writes a task is read as that task
written_so : (ks : List TokenKind) (t : Task) → Writes ks t → task_of ks ≡ Some (t, [])
written_so ks t w = ap task_of w.printed ∙ task_so t (shallow t w.small) w.proper

-- tokens write one task
pub one_task : (ks : List TokenKind) (t u : Task) (rest : List TokenKind) → task_of ks ≡ Some (t, rest) → Writes ks u → t ≡ u
one_task ks t u rest e w =
    let P : Task → List TokenKind → Type 0 = λ v r. t ≡ v in got P (sym e ∙ written_so ks u w) refl

no_tokens : (t : Task) → ¬ (Writes [] t)
no_tokens t w = missed (written_so [] t w)

by_size : (ks : List TokenKind) (t : Task) (rest : List TokenKind) → task_of ks ≡ Some (t, rest) → (ks ≡ [] → ⊥) → (small : Bool) → is_small_task t ≡ small
    → IsRootOf ks (limited t small)
by_size ks t rest e n true s = let i = task_sound ks t rest e in record { printed = i.tokens; proper = i.proper; small = s }
by_size ks t rest e n false s = (n, λ u w. let q = one_task ks t u rest e w in absurd (cc))

pub task_root : (ks : List TokenKind) (t : Task) (rest : List TokenKind) (r : Root) → task_of ks ≡ Some (t, rest) → (ks ≡ [] → ⊥)
    → r ≡ limited t (is_small_task t) → IsRootOf ks r
task_root ks t rest r e n q = subst (λ (x : Root). IsRootOf ks x) (sym q) (by_size ks t rest e n (is_small_task t) refl)

pub bad_root : (ks : List TokenKind) (f : RootFault) → f ≡ faults.Bad → RootsAgree {A = Task} (λ t. t) (Err f) [] (task_of ks) → (ks ≡ [] → ⊥) → IsRootOf ks roots.Bad
bad_root ks f b h n =
    let F : RootFault → Type 0 = λ g. RootsAgree {A = Task} (λ t. t) (Err g) [] (task_of ks) in
    let e : task_of ks ≡ None = subst F b h in (n, λ t w. missed (sym e ∙ written_so ks t w))

no_kinds : (ts : List Token) → kinds_of ts ≡ [] → ts ≡ []
no_kinds [] e = refl
no_kinds (t ∷ ts) e = cc

same_tokens : (line : List ℕ) (ts us : List Token) → Lexes 0 line (Ok ts) → Lexes 0 line (Ok us) → ts ≡ us
same_tokens line ts us x y = let e = one_answer 0 line (Ok ts) (Ok us) x y in cc

pub root_is : (line : List ℕ) (ts : List Token) (r : Root) → Lexes 0 line (Ok ts) → IsRootOf (kinds_of ts) r → IsRoot line r
root_is line ts roots.Nothing x h = subst (λ (us : List Token). Lexes 0 line (Ok us)) (no_kinds ts h) x
root_is line ts (roots.Task t) x h = (ts, x, h)
root_is line ts roots.Bad x h = (
  λ b. h.0 (ap kinds_of (same_tokens line ts [] x b)),
  λ t n. h.1 t (subst (λ (us : List Token). Writes (kinds_of us) t) (sym (same_tokens line ts n.0 x n.1)) n.2),
)

refused : (line : List ℕ) (ts : List Token) (e : LexError) → Lexes 0 line (Err e) → Lexes 0 line (Ok ts) → ⊥
refused line ts e x y = let q = one_answer 0 line (Err e) (Ok ts) x y in absurd (cc)

refused_root : (line : List ℕ) (e : LexError) → Lexes 0 line (Err e) → IsRoot line roots.Bad
refused_root line e x = (λ b. refused line [] e x b, λ t n. refused line n.0 e x n.1)

blank_no_task : (line : List ℕ) (t : Task) → IsBlank line → Names line t → ⊥
blank_no_task line t b n = no_tokens t (subst (λ (us : List Token). Writes (kinds_of us) t) (same_tokens line n.0 [] n.1 b) n.2)

-- a line has one root
pub one_root : (line : List ℕ) (a b : Root) → IsRoot line a → IsRoot line b → a ≡ b
one_root line roots.Nothing roots.Nothing x y = refl
one_root line roots.Nothing (roots.Task u) x y = absurd (blank_no_task line u x y)
one_root line roots.Nothing roots.Bad x y = absurd (y.0 x)
one_root line (roots.Task t) roots.Nothing x y = absurd (blank_no_task line t y x)
one_root line (roots.Task t) (roots.Task u) x y =
    let w = subst (λ (us : List Token). Writes (kinds_of us) u) (same_tokens line y.0 x.0 y.1 x.1) y.2 in
    ap roots.Task (one_task (kinds_of x.0) t u [] (written_so (kinds_of x.0) t x.2) w)
one_root line (roots.Task t) roots.Bad x y = absurd (y.1 t x)
one_root line roots.Bad roots.Nothing x y = absurd (x.0 y)
one_root line roots.Bad (roots.Task u) x y = absurd (x.1 u y)
one_root line roots.Bad roots.Bad x y = refl

pub only_root : (line : List ℕ) (answer : Result Root OutOfMemory) → IfOk answer (IsRoot line) → IfOk answer (IsOnlyRoot line)
only_root line (Ok a) x = λ r y. one_root line r a y x
only_root line (Err e) x = tt

pub some_tokens : (ts : List Token) → (length ts == 0) ≡ false → kinds_of ts ≡ [] → ⊥
some_tokens [] h e = absurd (cc)
some_tokens (t ∷ ts) h e = absurd (cc)
