use Rattle.std.proofs.Common.{◌≡◌, ℕ, List, take}
use Rattle.pie_results.specs.inner.Files.{contents_in}
use Rattle.pie_topdown_build.specs.inner.News.{bytes_by, bytes_in}
use Rattle.pie_topdown_build.proofs.news.places_of.Given as goal

-- the bytes by the places so far are those in the files so far
abbrev pub invariant-loop-i : goal.invariant-loop-i
invariant-loop-i l = (q : List ℕ) → bytes_by l.files l.places q ≡ bytes_in (contents_in (take l.i l.files)) q
