-- What files hold a crash may leave; and what it may leave now and what it may have left since now are one.
use Rattle.std.proofs.Common.{◌≡◌, ◌≤◌, ℕ, List, [], ◌∷◌, length, take, refl, sym, subst, inl, inr, le_refl, le_antisymm}
use Rattle.std.specs.Prelude.{Some}
use Rattle.std.proofs.Math.Seq.{take-length}
use Rattle.pie_files.specs.declared.files.Call.{Call}
use Rattle.pie_files.specs.declared.files.Call.TheVariants.{Read, Names, AllUnder, Write, Remove, Sync}
use Rattle.pie_files.specs.declared.pick.Pick.TheVariants.{All}
use Rattle.pie_files.specs.declared.sure_files.Logged.{Logged}
use Rattle.pie_files.specs.declared.sure_files.Logged.TheVariants.{Put, FailsAt, Asked, Failed, Wrote, Removed, Synced}
use Rattle.pie_files.specs.Directory.{Directory}
use Rattle.pie_files.specs.inner.Story.{picked, after_all, MayTry, LeftAfter, LeftFrom, IsLeft, WasLeft}

-- a call that failed may have done nothing
pub tried_not : (call : Call) (d : Directory) → MayTry call d d
tried_not (Read path) d = refl
tried_not (Names dir) d = refl
tried_not (AllUnder dir) d = refl
tried_not (Write path mark) d = inl refl
tried_not (Remove path) d = inl refl
tried_not Sync d = refl

-- one thing that was done is one that may have been done
done_may : (now : Directory) (earlier : Directory → Type 0) (x : Logged) → earlier now → LeftAfter now earlier x (picked All now x)
done_may now earlier (Put path bytes mark) is = (now, is, refl)
done_may now earlier (FailsAt numbers) is = (now, is, refl)
done_may now earlier (Asked call) is = (now, is, refl)
done_may now earlier (Failed call) is = (now, is, tried_not call now)
done_may now earlier (Wrote path bytes mark) is = (now, is, inr (bytes.items, mark, refl))
done_may now earlier (Removed path) is = (now, is, inr refl)
done_may now earlier Synced is = refl

-- a crash may leave all of it done
pub done_left : (now : Directory) (earlier : Directory → Type 0) (log : List Logged) → earlier now → LeftFrom now earlier log (after_all now log)
done_left now earlier [] is = is
done_left now earlier (x ∷ log) is = done_left (picked All now x) (LeftAfter now earlier x) log (done_may now earlier x is)

some_same : (held d : Directory) → Some held ≡ Some d → held ≡ d
some_same held d e = cc

-- what files hold that began so, and to which all of it happened, a crash may leave
pub holds_now : (began held : Directory) (log : List Logged) → held ≡ after_all began log → (d : Directory) → Some held ≡ Some d → IsLeft began log d
holds_now began held log is d same = subst (IsLeft began log) (some_same held d same) (subst (IsLeft began log) (sym is) (done_left began (λ d. d ≡ began) log refl))

-- what a crash may leave now it may have left since each earlier moment
pub counts_now : (began : Directory) (log : List Logged) (t : ℕ) (c : Directory) → t ≤ length log → IsLeft began log c → WasLeft began log t c
counts_now began log t c le now = (length log, le, le_refl (length log), subst (λ l. IsLeft began l c) (sym (take-length log)) now)

-- what it may have left since now it may leave now
pub only_now : (began : Directory) (log : List Logged) (c : Directory) → WasLeft began log (length log) c → IsLeft began log c
only_now began log c left =
    subst (λ l. IsLeft began l c) (take-length log)
    (subst (λ k. IsLeft began (take k log) c) (le_antisymm left.2 left.1) left.3)
