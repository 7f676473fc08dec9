-- Two calls that change no file, one after the other.
use Rattle.std.proofs.Common.{◌∙◌, ℕ, subst, arith}
use Rattle.std.specs.Prelude.{Option, Result, Ok, Err}
use Rattle.pie_files.specs.Directory.{Directory}
use Rattle.pie_files.specs.Faults.{Rose}
use Rattle.pie_files.specs.Reading.{ReadsOnly}
use Rattle.pie_files.specs.declared.files.FilesError.{FilesError}
use Rattle.pie_files.proofs.Reading.{both_before}

pub reads_then : {S T U : Type 0} (holds : S → Option Directory) (moment : S → ℕ) (left_since : S → ℕ → Directory → Type 0)
    (images : S → Directory → Type 0) (faults : S → ℕ) (old mid new : S) (u : T) (r : Result U FilesError)
    → ReadsOnly holds moment left_since images faults old mid (Ok u) → ReadsOnly holds moment left_since images faults mid new r
    → ReadsOnly holds moment left_since images faults old new r
reads_then holds moment left_since images faults old mid new u (Ok v) first second = record {
  same = second.same ∙ first.same;
  crash = both_before holds moment left_since images old mid new first.same first.crash second.crash;
  counted = record {
    later = omega (arith, first.counted.later, second.counted.later);
    steady = second.counted.steady ∙ first.counted.steady;
    cause = λ is. subst (λ n. Rose n (faults new)) first.counted.steady (second.counted.cause is);
  };
}
reads_then holds moment left_since images faults old mid new u (Err e) first second = record {
  same = second.same ∙ first.same;
  crash = both_before holds moment left_since images old mid new first.same first.crash second.crash;
  counted = record {
    later = omega (arith, first.counted.later, second.counted.later);
    steady = second.counted.steady;
    cause = λ is. subst (λ n. Rose n (faults new)) first.counted.steady (second.counted.cause is);
  };
}
