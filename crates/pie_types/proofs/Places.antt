-- The tree of an expression stands where the expression does.
use Rattle.std.proofs.Common.{◌≡◌, ℕ, Some, None, refl}
use Rattle.pie_parser.specs.declared.tree.Form.{Form}
use Rattle.pie_parser.specs.declared.tree.Form.TheVariants as forms
use Rattle.pie_parser.specs.TreeView.{tree_of}
use Rattle.pie_types.specs.Spans.{at_of, end_of}

pub at_of_tree : (i j : ℕ) (f : Form) → at_of (tree_of i j f) ≡ i
at_of_tree i j (forms.Literal l) = refl
at_of_tree i j (forms.Name n) = refl
at_of_tree i j (forms.Null t) = refl
at_of_tree i j (forms.Empty t) = refl
at_of_tree i j (forms.Chain a ss) = refl
at_of_tree i j (forms.Compare c a b) = refl
at_of_tree i j (forms.Prefix p a) = refl
at_of_tree i j (forms.Project a ns) = refl
at_of_tree i j (forms.Tuple ts) = refl
at_of_tree i j (forms.List ts) = refl
at_of_tree i j (forms.Each a n b) = refl
at_of_tree i j (forms.If a b None) = refl
at_of_tree i j (forms.If a b (Some o)) = refl
at_of_tree i j (forms.Call k n ts) = refl
at_of_tree i j (forms.Effect k a) = refl
at_of_tree i j (forms.Write a b) = refl
at_of_tree i j (forms.Fail t a) = refl

pub end_of_tree : (i j : ℕ) (f : Form) → end_of (tree_of i j f) ≡ j
end_of_tree i j (forms.Literal l) = refl
end_of_tree i j (forms.Name n) = refl
end_of_tree i j (forms.Null t) = refl
end_of_tree i j (forms.Empty t) = refl
end_of_tree i j (forms.Chain a ss) = refl
end_of_tree i j (forms.Compare c a b) = refl
end_of_tree i j (forms.Prefix p a) = refl
end_of_tree i j (forms.Project a ns) = refl
end_of_tree i j (forms.Tuple ts) = refl
end_of_tree i j (forms.List ts) = refl
end_of_tree i j (forms.Each a n b) = refl
end_of_tree i j (forms.If a b None) = refl
end_of_tree i j (forms.If a b (Some o)) = refl
end_of_tree i j (forms.Call k n ts) = refl
end_of_tree i j (forms.Effect k a) = refl
end_of_tree i j (forms.Write a b) = refl
end_of_tree i j (forms.Fail t a) = refl
