-- Texts and lists among values, read one by one.
use Rattle.std.specs.Prelude.{ℕ, Bool, ◌&&◌, true, List, [], ◌∷◌, ◌++◌, is_some}
use Rattle.pie_value.specs.Tree.{Tree, TText, TList, list_of}
use Rattle.pie_value.specs.BuiltinItems.{as_text, as_list}

-- the bytes of a text, none of another value
abbrev pub text_in : Tree → List ℕ
text_in (TText s) = s
text_in t = []

-- the items of a list, none of another value
abbrev pub items_in : Tree → List Tree
items_in (TList ts) = list_of ts
items_in t = []

-- all of these are texts
abbrev pub all_texts : List Tree → Bool
all_texts [] = true
all_texts (t ∷ ts) = is_some (as_text t) && all_texts ts

-- all of these are lists
abbrev pub all_lists : List Tree → Bool
all_lists [] = true
all_lists (t ∷ ts) = is_some (as_list t) && all_lists ts

-- texts, each with another before it
abbrev pub each_after : List ℕ → List Tree → List ℕ
each_after between [] = []
each_after between (t ∷ ts) = between ++ (text_in t ++ each_after between ts)

-- texts with another between them
abbrev pub texts_between : List ℕ → List Tree → List ℕ
texts_between between [] = []
texts_between between (t ∷ ts) = text_in t ++ each_after between ts

-- the items of lists, one after another
abbrev pub items_among : List Tree → List Tree
items_among [] = []
items_among (t ∷ ts) = items_in t ++ items_among ts
