-- How the logic stores functions: a map into its own trees that is one to one.
use Rattle.std.specs.Prelude.{ℕ, List}
use base.Stored.{Coded, coded_ℕ, coded_list, coded×, coded_via}
use Rattle.pie_parser.specs.PlainTypes.{TypeTree}
use Rattle.pie_parser.specs.inner.TypeCodes.{coded_type}
use Rattle.pie_parser.specs.Plain.{BlockTree}
use Rattle.pie_parser.specs.inner.Codes.{coded_name, code_block, inj_block}
use Rattle.pie_parser.specs.FunctionTrees.{FunctionTree}
use Rattle.pie_parser.specs.declared.tree.Name.{Name}
use Rattle.pie_parser.specs.declared.tree.Param.{Param}

-- a parameter as its parts
abbrev pub param_parts : Param → ℕ × (ℕ × (Name × TypeTree))
param_parts p = (p.at, (p.end, (p.name, p.kind)))

abbrev pub coded_param : Coded Param
coded_param = coded_via (coded× coded_ℕ (coded× coded_ℕ (coded× coded_name coded_type))) param_parts
    (λ x y p i. record { at = (p i).0; end = (p i).1.0; name = (p i).1.1.0; kind = (p i).1.1.1 })

abbrev pub coded_block : Coded BlockTree
coded_block = record { code = code_block; inj = inj_block }

-- a function as its parts
abbrev pub function_parts : FunctionTree → ℕ × (ℕ × (Name × (List Param × (TypeTree × BlockTree))))
function_parts f = (f.at, (f.end, (f.name, (f.params, (f.result, f.body)))))

abbrev pub coded_function : Coded FunctionTree
coded_function = coded_via
    (coded× coded_ℕ (coded× coded_ℕ (coded× coded_name (coded× (coded_list coded_param) (coded× coded_type coded_block))))) function_parts
    (λ x y p i. record { at = (p i).0; end = (p i).1.0; name = (p i).1.1.0; params = (p i).1.1.1.0; result = (p i).1.1.1.1.0; body = (p i).1.1.1.1.1 })
