-- How the logic stores names with their types, and headings.
use Rattle.std.specs.Prelude.{ℕ, List}
use base.Stored.{Coded, coded_ℕ, coded_list, coded×, coded_via}
use Rattle.pie_value.specs.Types.{TyTree}
use Rattle.pie_value.specs.inner.TypeCodes.{coded_ty}
use Rattle.pie_parser.specs.FunctionTrees.{FunctionTree}
use Rattle.pie_parser.specs.inner.FunctionCodes.{coded_function}
use Rattle.pie_types.specs.Scope.{Entry}
use Rattle.pie_types.specs.Headings.{Heading}

-- a name with its type as a pair
abbrev pub entry_parts : Entry → List ℕ × TyTree
entry_parts e = (e.name, e.ty)

abbrev pub coded_entry : Coded Entry
coded_entry = coded_via (coded× (coded_list coded_ℕ) coded_ty) entry_parts (λ x y p i. record { name = (p i).0; ty = (p i).1 })

abbrev pub coded_scope : Coded (List Entry)
coded_scope = coded_list coded_entry

-- a heading as its parts
abbrev pub heading_parts : Heading → List ℕ × (List Entry × TyTree)
heading_parts h = (h.name, (h.params, h.result))

abbrev pub coded_heading : Coded Heading
coded_heading = coded_via (coded× (coded_list coded_ℕ) (coded× coded_scope coded_ty)) heading_parts
    (λ x y p i. record { name = (p i).0; params = (p i).1.0; result = (p i).1.1 })

abbrev pub coded_headings : Coded (List Heading)
coded_headings = coded_list coded_heading

abbrev pub coded_functions : Coded (List FunctionTree)
coded_functions = coded_list coded_function
