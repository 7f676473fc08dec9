-- What a crash picks is one of its images.
use Rattle.std.proofs.Common.{◌≡◌, ◌≤◌, ◌+◌, ◌/◌, ℕ, suc, List, [], ◌∷◌, ◌++◌, length, take, drop, Bool, true, false, cond, refl, ap, subst, arith}
use Rattle.std.proofs.Common.{inl, inr}
use Rattle.std.specs.Prelude.{◌||◌}
use Rattle.std.proofs.lemmas.List.{take-append-drop}
use Rattle.pie_files.specs.declared.pick.Pick.{Pick}
use Rattle.pie_files.specs.declared.pick.Pick.TheVariants.{All, Nothing, Torn}
use Rattle.pie_files.specs.declared.sure_files.Logged.{Logged}
use Rattle.pie_files.specs.declared.sure_files.Logged.TheVariants.{Put, FailsAt, Asked, Failed, Wrote, Removed, Synced}
use Rattle.pie_files.specs.Directory.{Directory}
use Rattle.pie_files.specs.Images.{MayWrite, MayRemove}
use Rattle.pie_files.specs.inner.Story.{picked, picked_all, picked_write, picked_removal, picked_image, after_all, LeftAfter, LeftFrom, IsLeft}
use Rattle.pie_files.specs.inner.Story.{is_sync, has_sync, synced}
use Rattle.pie_files.specs.inner.StoryLaws.{tried_not, done_left}

-- a picked write is one of those that may have been left
write_picked : (pick : Pick) (d : Directory) (path bytes : List ℕ) (mark : ℕ) → MayWrite path d (picked_write pick d path bytes mark)
write_picked All d path bytes mark = inr (bytes, mark, refl)
write_picked Nothing d path bytes mark = inl refl
write_picked Torn d path bytes mark = inr (take (length bytes / 2) bytes, mark, refl)

removal_picked : (pick : Pick) (d : Directory) (path : List ℕ) → MayRemove path d (picked_removal pick d path)
removal_picked All d path = inr refl
removal_picked Nothing d path = inl refl
removal_picked Torn d path = inr refl

-- so is whatever is picked of a thing that is no sync
one_picked : (pick : Pick) (now d : Directory) (earlier : Directory → Type 0) (x : Logged) → is_sync x ≡ false → earlier d
    → LeftAfter now earlier x (picked pick d x)
one_picked pick now d earlier (Put path bytes mark) isn't is = (d, is, refl)
one_picked pick now d earlier (FailsAt numbers) isn't is = (d, is, refl)
one_picked pick now d earlier (Asked call) isn't is = (d, is, refl)
one_picked pick now d earlier (Failed call) isn't is = (d, is, tried_not call d)
one_picked pick now d earlier (Wrote path bytes mark) isn't is = (d, is, write_picked pick d path bytes.items mark)
one_picked pick now d earlier (Removed path) isn't is = (d, is, removal_picked pick d path)
one_picked pick now d earlier Synced isn't is = absurd (cc)

pub neither : (a b : Bool) → (a || b) ≡ false → (a ≡ false) × (b ≡ false)
neither true b e = absurd (cc)
neither false b e = (refl, e)

all_picked : (pick : Pick) (now d : Directory) (earlier : Directory → Type 0) (log : List Logged) → has_sync log ≡ false → earlier d
    → LeftFrom now earlier log (picked_all pick d log)
all_picked pick now d earlier [] isn't is = is
all_picked pick now d earlier (x ∷ log) isn't is =
    let both = neither (is_sync x) (has_sync log) isn't in
    all_picked pick (picked All now x) (picked pick d x) (LeftAfter now earlier x) log both.1 (one_picked pick now d earlier x both.0 is)

-- the images in two parts
in_parts : (now : Directory) (earlier : Directory → Type 0) (front rest : List Logged) (c : Directory)
    → LeftFrom (after_all now front) (LeftFrom now earlier front) rest c → LeftFrom now earlier (front ++ rest) c
in_parts now earlier [] rest c h = h
in_parts now earlier (x ∷ front) rest c h = in_parts (picked All now x) (LeftAfter now earlier x) front rest c h

-- nothing after the last sync is a sync
after_end : (b : Bool) (x : Logged) (log : List Logged) → has_sync (x ∷ log) ≡ b → has_sync (drop (synced log) log) ≡ false
    → has_sync (drop (cond b (suc (synced log)) 0) (x ∷ log)) ≡ false
after_end true x log e rest = rest
after_end false x log e rest = e

none_after : (log : List Logged) → has_sync (drop (synced log) log) ≡ false
none_after [] = refl
none_after (x ∷ log) = after_end (has_sync (x ∷ log)) x log refl (none_after log)

-- what is picked is one of the images
pub picked_is_left : (pick : Pick) (began : Directory) (log : List Logged) → IsLeft began log (picked_image pick began log)
picked_is_left pick began log =
    subst (λ l. IsLeft began l (picked_image pick began log)) (take-append-drop (synced log) log)
    (in_parts began (λ d. d ≡ began) (take (synced log) log) (drop (synced log) log) (picked_image pick began log)
    (all_picked pick (after_all began (take (synced log) log)) (after_all began (take (synced log) log))
    (LeftFrom began (λ d. d ≡ began) (take (synced log) log)) (drop (synced log) log) (none_after log)
    (done_left began (λ d. d ≡ began) (take (synced log) log) refl)))

-- without a sync nothing happened up to the last one
pub none_synced : (log : List Logged) → has_sync log ≡ false → synced log ≡ 0
none_synced [] isn't = refl
none_synced (x ∷ log) isn't = ap (λ b. cond b (suc (synced log)) 0) isn't

-- where the last sync ends is told by what is left of the log
pub end_at_first : (b : Bool) (log : List Logged) → has_sync log ≡ b → synced log ≡ cond b (0 + synced log) 0
end_at_first true log e = omega arith
end_at_first false log e = none_synced log e

end_goes : (i end : ℕ) (x : Logged) (rest : List Logged) (a b : Bool) → is_sync x ≡ a → has_sync rest ≡ b
    → cond (a || b) (i + cond (a || b) (suc (synced rest)) 0) end ≡ cond b (i + 1 + synced rest) (cond a (i + 1) end)
end_goes i end x rest true true e f = omega arith
end_goes i end x rest true false e f = omega (arith, none_synced rest f)
end_goes i end x rest false true e f = omega arith
end_goes i end x rest false false e f = refl

pub end_goes_on : (i end : ℕ) (x : Logged) (rest : List Logged)
    → cond (has_sync (x ∷ rest)) (i + synced (x ∷ rest)) end ≡ cond (has_sync rest) (i + 1 + synced rest) (cond (is_sync x) (i + 1) end)
end_goes_on i end x rest = end_goes i end x rest (is_sync x) (has_sync rest) refl refl

pub no_later : (i end : ℕ) (b : Bool) → end ≤ i → cond b (i + 1) end ≤ i + 1
no_later i end true le = omega arith
no_later i end false le = omega (arith, le)
