-- What of an evaluation its record tells: the paths under `out` that it wrote and that it found absent.
use Rattle.std.specs.Prelude.{◌≡◌, ◌↔◌, true, [], ◌∷◌, ◌++◌, is_some}
use Rattle.pie_base.specs.Path.{is_out, is_below}
use Rattle.pie_model.specs.declared.words.Kind.TheVariants.{Out}
use Rattle.pie_model.specs.declared.words.Seen.TheVariants.{Nothing, Holds, Clashing}
use Rattle.pie_model.specs.Paths.{Path, after_prefix, kind_of}
use Rattle.pie_model.specs.Tasks.{Task}
use Rattle.pie_model.specs.Trees.{Trace, ends, looks, lists, writes, needs, trace_of, outcome_of, is_done}
use Rattle.pie_model.specs.Evaluation.{World, Project, evaluation}

-- the paths under `out` of the model are those of the language
abbrev pub PathsUnderOutAgree : Type 0
PathsUnderOutAgree = (p : Path) → (kind_of p ≡ Out) ↔ (is_out p ≡ true)

-- a path lies below another in the model where it does in the language
abbrev pub PathsBelowAgree : Type 0
PathsBelowAgree = (p q : Path) → is_some (after_prefix (p ++ 47 ∷ []) q) ≡ is_below p q

-- no look of a trace met a clash
abbrev pub HasNoClash : Trace → Type 0
HasNoClash (ends e) = Unit {0}
HasNoClash (looks l p Nothing k) = HasNoClash k
HasNoClash (looks l p (Holds b m) k) = HasNoClash k
HasNoClash (looks l p Clashing k) = ⊥
HasNoClash (lists d es k) = HasNoClash k
HasNoClash (writes p b k) = HasNoClash k
HasNoClash (needs h u n k) = HasNoClash k

-- an evaluation that ends with a value met no clash
abbrev pub ValuesMeetNoClash : Type 0
ValuesMeetNoClash =
    (w : World) (P : Project) (t : Task) → is_done (outcome_of (evaluation w P t)) ≡ true → HasNoClash (trace_of (evaluation w P t))
