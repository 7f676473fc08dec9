-- The signatures of the built-in functions: what their arguments have to be, and what they answer.
use Rattle.std.specs.Prelude.{ℕ, cond, List, [], ◌∷◌, length, slice_get, Option, Some, None}
use Rattle.pie_value.specs.declared.builtin.Builtin.{Builtin}
use Rattle.pie_value.specs.declared.builtin.Builtin.TheVariants as builtins
use Rattle.pie_value.specs.Types.{TyTree}
use Rattle.pie_signature.specs.declared.wanted.Wanted.{Wanted}
use Rattle.pie_signature.specs.declared.wanted.Wanted.TheVariants as wants
use Rattle.pie_signature.specs.Answered.{answer_of, answered}
use Rattle.pie_signature.specs.Wanted.{fits, named}

-- what each argument of a built-in function has to be, in order
abbrev pub wanted_of : Builtin → List Wanted
wanted_of builtins.Path = wants.Text ∷ []
wanted_of builtins.Join = wants.Path ∷ wants.Text ∷ []
wanted_of builtins.Name = wants.Path ∷ []
wanted_of builtins.Parent = wants.Path ∷ []
wanted_of builtins.ToText = wants.Printable ∷ []
wanted_of builtins.ParseInt = wants.Text ∷ []
wanted_of builtins.Len = wants.Measurable ∷ []
wanted_of builtins.Trim = wants.Text ∷ []
wanted_of builtins.Find = wants.Text ∷ wants.Text ∷ []
wanted_of builtins.Contains = wants.Text ∷ wants.Text ∷ []
wanted_of builtins.Starts = wants.Text ∷ wants.Text ∷ []
wanted_of builtins.Ends = wants.Text ∷ wants.Text ∷ []
wanted_of builtins.Replace = wants.Text ∷ wants.Text ∷ wants.Text ∷ []
wanted_of builtins.Split = wants.Text ∷ wants.Text ∷ []
wanted_of builtins.Lines = wants.Text ∷ []
wanted_of builtins.JoinText = wants.Texts ∷ wants.Text ∷ []
wanted_of builtins.Slice = wants.Text ∷ wants.Int ∷ wants.Int ∷ []
wanted_of builtins.Sha256 = wants.Text ∷ []
wanted_of builtins.At = wants.List ∷ wants.Int ∷ []
wanted_of builtins.Range = wants.Int ∷ wants.Int ∷ []
wanted_of builtins.Reverse = wants.List ∷ []
wanted_of builtins.Sort = wants.Sortable ∷ []
wanted_of builtins.Flatten = wants.Lists ∷ []
wanted_of builtins.Some = wants.Present ∷ []
wanted_of builtins.Get = wants.Nullable ∷ []
wanted_of builtins.IsNull = wants.Nullable ∷ []
wanted_of builtins.ToBytes = wants.Text ∷ []
wanted_of builtins.FromBytes = wants.Bytes ∷ []
wanted_of builtins.SliceBytes = wants.Bytes ∷ wants.Int ∷ wants.Int ∷ []

-- how many arguments a built-in function takes
abbrev pub arity_of : Builtin → ℕ
arity_of which = length (wanted_of which)

-- the type that is named where a wish isn't met
abbrev pub misfit_at : Option Wanted → TyTree → Option TyTree
misfit_at None t = None
misfit_at (Some wanted) t = cond (fits wanted t) None (Some (named wanted t))

-- the type that a refusal names as wanted where an argument, counted from 0, has a type that doesn't fit; none where it fits
abbrev pub misfit_of : Builtin → ℕ → TyTree → Option TyTree
misfit_of which i t = misfit_at (slice_get (wanted_of which) i) t

-- the type of the answer, from the type of the first argument
abbrev pub answer_type_of : Builtin → TyTree → TyTree
answer_type_of which t = answered (answer_of which) t
