-- What a crash may leave of files in memory, after one thing more.
use Rattle.std.proofs.Common.{◌≡◌, ◌≤◌, ◌+◌, ℕ, List, [], ◌∷◌, ◌++◌, length, take, refl, sym, ap, subst, ◌∙◌, arith, inl, inr, ⊎_elim}
use Rattle.std.proofs.Common.{◌⊎◌, eq-or-lt_of_le, Vec, Global}
use Rattle.std.specs.Prelude.{Option}
use Rattle.std.proofs.lemmas.List.{take-append-le, take_all, length-append}
use Rattle.pie_files.specs.declared.files.Call.{Call}
use Rattle.pie_files.specs.declared.files.Call.TheVariants.{Read, Names, AllUnder, Write, Remove, Sync}
use Rattle.pie_files.specs.declared.pick.Pick.TheVariants.{All}
use Rattle.pie_files.specs.declared.sure_files.Logged.{Logged}
use Rattle.pie_files.specs.declared.sure_files.Logged.TheVariants.{Put, FailsAt, Asked, Failed, Wrote, Removed, Synced}
use Rattle.pie_files.specs.Directory.{Directory}
use Rattle.pie_files.specs.Images.{Stays, MayWrite, MayRemove, Elapses, Only, Follows, Sets}
use Rattle.pie_files.specs.inner.Story.{picked, after_all, MayTry, LeftAfter, LeftFrom, IsLeft, WasLeft}
use Rattle.pie_files.specs.inner.StoryLaws.{done_left}

-- the directory after one thing more
pub after_more : (d : Directory) (log : List Logged) (x : Logged) → after_all d (log ++ x ∷ []) ≡ picked All (after_all d log) x
after_more d [] x = refl
after_more d (y ∷ log) x = after_more (picked All d y) log x

-- the images after one thing more
pub left_more : (now : Directory) (earlier : Directory → Type 0) (log : List Logged) (x : Logged) (c : Directory)
    → LeftFrom now earlier (log ++ x ∷ []) c → LeftAfter (after_all now log) (LeftFrom now earlier log) x c
left_more now earlier [] x c h = h
left_more now earlier (y ∷ log) x c h = left_more (picked All now y) (LeftAfter now earlier y) log x c h

-- a call that asks for no change
abbrev pub Looks : Call → Type 0
Looks (Read path) = Unit {0}
Looks (Names dir) = Unit {0}
Looks (AllUnder dir) = Unit {0}
Looks (Write path mark) = ⊥
Looks (Remove path) = ⊥
Looks Sync = Unit {0}

looks_stay : (call : Call) (d c : Directory) → Looks call → MayTry call d c → Stays d c
looks_stay (Read path) d c looks h = h
looks_stay (Names dir) d c looks h = h
looks_stay (AllUnder dir) d c looks h = h
looks_stay (Write path mark) d c looks h = elim looks [ ]
looks_stay (Remove path) d c looks h = elim looks [ ]
looks_stay Sync d c looks h = h

-- what was left at an earlier moment or later, or is left now
older : (began : Directory) (log longer : List Logged) (t : ℕ) (c : Directory) → length longer ≡ length log + 1
    → ((k : ℕ) → k ≤ length log → take k longer ≡ take k log) → WasLeft began longer t c → WasLeft began log t c ⊎ IsLeft began longer c
older began log longer t c len front was =
    ⊎_elim
    (λ all. inr (subst (λ l. IsLeft began l c) (take_all was.0 longer (omega (arith, all))) was.3))
    (λ less. let le : was.0 ≤ length log = omega (arith, len, less) in
    inl (was.0, was.1, le, subst (λ l. IsLeft began l c) (front was.0 le) was.3))
    (eq-or-lt_of_le was.2)

-- one thing more, by what it may leave
pub grown : (step : Directory → Directory → Type 0) (began same : Directory) (log longer : List Logged) (x : Logged)
    → same ≡ began → longer ≡ log ++ x ∷ []
    → ((c : Directory) → LeftAfter (after_all began log) (IsLeft began log) x c → (d : Directory) × IsLeft began log d × step d c)
    → Elapses step (length log) (length longer) (WasLeft began log) (WasLeft same longer) (IsLeft began log) (IsLeft same longer)
grown step began same log longer x start is may =
    let len : length longer ≡ length log + 1 = omega (arith, ap length is, length-append log (x ∷ [])) in
    let front : (k : ℕ) → k ≤ length log → take k longer ≡ take k log = λ k le. ap (take k) is ∙ take-append-le k log (x ∷ []) le in
    subst (λ b. Elapses step (length log) (length longer) (WasLeft began log) (WasLeft b longer) (IsLeft began log) (IsLeft b longer)) (sym start) (record {
      follows = λ c left. may c (left_more began (λ d. d ≡ began) log x c (subst (λ l. IsLeft began l c) is left));
      later = omega (arith, len);
      nothing_else = λ t c le was. older began log longer t c len front was;
      keeps = λ t c le was. (was.0, was.1, omega (arith, len, was.2), subst (λ l. IsLeft began l c) (sym (front was.0 was.2)) was.3);
    })

-- a look that was answered
pub looked : (began same : Directory) (log longer : List Logged) (call : Call) → same ≡ began → longer ≡ log ++ Asked call ∷ []
    → Elapses Stays (length log) (length longer) (WasLeft began log) (WasLeft same longer) (IsLeft began log) (IsLeft same longer)
looked began same log longer call start is = grown Stays began same log longer (Asked call) start is (λ c left. left)

-- a look that failed, or a sync
pub look_tried : (began same : Directory) (log longer : List Logged) (call : Call) → same ≡ began → longer ≡ log ++ Failed call ∷ [] → Looks call
    → Elapses Stays (length log) (length longer) (WasLeft began log) (WasLeft same longer) (IsLeft began log) (IsLeft same longer)
look_tried began same log longer call start is looks =
    grown Stays began same log longer (Failed call) start is (λ c left. (left.0, left.1, looks_stay call left.0 c looks left.2))

-- a write that failed
pub write_tried : (began same : Directory) (log longer : List Logged) (path : List ℕ) (mark : Option ℕ) → same ≡ began
    → longer ≡ log ++ Failed (Write path mark) ∷ []
    → Elapses (MayWrite path) (length log) (length longer) (WasLeft began log) (WasLeft same longer) (IsLeft began log) (IsLeft same longer)
write_tried began same log longer path mark start is = grown (MayWrite path) began same log longer (Failed (Write path mark)) start is (λ c left. left)

-- a removal that failed
pub removal_tried : (began same : Directory) (log longer : List Logged) (path : List ℕ) → same ≡ began → longer ≡ log ++ Failed (Remove path) ∷ []
    → Elapses (MayRemove path) (length log) (length longer) (WasLeft began log) (WasLeft same longer) (IsLeft began log) (IsLeft same longer)
removal_tried began same log longer path start is = grown (MayRemove path) began same log longer (Failed (Remove path)) start is (λ c left. left)

-- a write
pub wrote : (began same : Directory) (log longer : List Logged) (path : List ℕ) (bytes : Vec ℕ Global) (mark : ℕ) → same ≡ began
    → longer ≡ log ++ Wrote path bytes mark ∷ []
    → Elapses (MayWrite path) (length log) (length longer) (WasLeft began log) (WasLeft same longer) (IsLeft began log) (IsLeft same longer)
wrote began same log longer path bytes mark start is = grown (MayWrite path) began same log longer (Wrote path bytes mark) start is (λ c left. left)

-- a removal
pub removed : (began same : Directory) (log longer : List Logged) (path : List ℕ) → same ≡ began → longer ≡ log ++ Removed path ∷ []
    → Elapses (MayRemove path) (length log) (length longer) (WasLeft began log) (WasLeft same longer) (IsLeft began log) (IsLeft same longer)
removed began same log longer path start is = grown (MayRemove path) began same log longer (Removed path) start is (λ c left. left)

-- a sync
pub synced_all : (began same : Directory) (log longer : List Logged) → same ≡ began → longer ≡ log ++ Synced ∷ []
    → Elapses Stays (length log) (length longer) (WasLeft began log) (WasLeft same longer) (IsLeft began log) (IsLeft same longer)
synced_all began same log longer start is =
    grown Stays began same log longer Synced start is (λ c left. (after_all began log, done_left began (λ d. d ≡ began) log refl, left))

-- after a sync a crash leaves what reads give
pub only_done : (began : Directory) (log longer : List Logged) → longer ≡ log ++ Synced ∷ [] → Only (after_all began log) (IsLeft began longer)
only_done began log longer is c left = left_more began (λ d. d ≡ began) log Synced c (subst (λ l. IsLeft began l c) is left)

-- what is put is in every image
pub put_left : (began : Directory) (log longer : List Logged) (path : List ℕ) (bytes : Vec ℕ Global) (mark : ℕ) → longer ≡ log ++ Put path bytes mark ∷ []
    → Follows (Sets path bytes.items mark) (IsLeft began log) (IsLeft began longer)
put_left began log longer path bytes mark is c left = left_more began (λ d. d ≡ began) log (Put path bytes mark) c (subst (λ l. IsLeft began l c) is left)

-- nothing happened
unmoved : (step : Directory → Directory → Type 0) → ((d : Directory) → step d d) → (began start : Directory) (log same : List Logged) → start ≡ began
    → same ≡ log
    → Elapses step (length log) (length same) (WasLeft began log) (WasLeft start same) (IsLeft began log) (IsLeft start same)
unmoved step still began start log same begins is = record {
  follows = λ c left. (c, subst (λ b. IsLeft b log c) begins (subst (λ l. IsLeft start l c) is left), still c);
  later = omega (arith, ap length is);
  nothing_else = λ t c le was. inl (subst (λ b. WasLeft b log t c) begins (subst (λ l. WasLeft start l t c) is was));
  keeps = λ t c le was. subst (λ b. WasLeft b same t c) (sym begins) (subst (λ l. WasLeft began l t c) (sym is) was);
}

pub look_unmoved : (began start : Directory) (log same : List Logged) → start ≡ began → same ≡ log
    → Elapses Stays (length log) (length same) (WasLeft began log) (WasLeft start same) (IsLeft began log) (IsLeft start same)
look_unmoved began start log same begins is = unmoved Stays (λ d. refl) began start log same begins is

pub write_unmoved : (path : List ℕ) (began start : Directory) (log same : List Logged) → start ≡ began → same ≡ log
    → Elapses (MayWrite path) (length log) (length same) (WasLeft began log) (WasLeft start same) (IsLeft began log) (IsLeft start same)
write_unmoved path began start log same begins is = unmoved (MayWrite path) (λ d. inl refl) began start log same begins is

pub removal_unmoved : (path : List ℕ) (began start : Directory) (log same : List Logged) → start ≡ began → same ≡ log
    → Elapses (MayRemove path) (length log) (length same) (WasLeft began log) (WasLeft start same) (IsLeft began log) (IsLeft start same)
removal_unmoved path began start log same begins is = unmoved (MayRemove path) (λ d. inl refl) began start log same begins is

-- that calls are to fail changes no image
pub listed_still : (began same : Directory) (log longer : List Logged) (numbers : Vec ℕ Global) → same ≡ began → longer ≡ log ++ FailsAt numbers ∷ []
    → (c : Directory) → IsLeft same longer c → IsLeft began log c
listed_still began same log longer numbers start is c left =
    let found = left_more began (λ d. d ≡ began) log (FailsAt numbers) c (subst (λ l. IsLeft began l c) is (subst (λ b. IsLeft b longer c) start left)) in
    subst (IsLeft began log) (sym found.2) found.1
