-- Texts and lists among values, read one by one.
use Rattle.std.proofs.Common.{◌≡◌, ℕ, true, false, List, [], ◌∷◌, ◌++◌, map, refl, ap, sym, ◌∙◌, Err}
use Rattle.std.specs.Prelude.{Some, None}
use Rattle.std.proofs.lemmas.List.{append-nil}
use Rattle.pie_base.specs.declared.fault.FaultKind.TheVariants.{Unknown}
use Rattle.pie_value.specs.Tree.{Tree, Trees, TText, TList, Nil, Cons, items_of, list_of}
use Rattle.pie_value.specs.BuiltinForms.{given, made}
use Rattle.pie_value.specs.BuiltinItems.{all_as, as_text, as_list, joined, all_joined}
use Rattle.pie_value.specs.BuiltinTexts.{with_between}
use Rattle.pie_builtins.specs.Gathered.{text_in, items_in, all_texts, all_lists, each_after, texts_between, items_among}

texts_some : (ts : List Tree) → all_texts ts ≡ true → all_as as_text (items_of ts) ≡ Some (map text_in ts)
texts_some [] h = refl
texts_some (TText s ∷ ts) h = rw (texts_some ts h) refl
texts_some (t ∷ ts) h = cc

texts_none : (ts : List Tree) → all_texts ts ≡ false → all_as as_text (items_of ts) ≡ None
texts_none [] h = cc
texts_none (TText s ∷ ts) h = rw (texts_none ts h) refl
texts_none (t ∷ ts) h = refl

-- a list, and no items of another value
abbrev list_in : Tree → Trees
list_in (TList ts) = ts
list_in t = Nil

lists_some : (ts : List Tree) → all_lists ts ≡ true → all_as as_list (items_of ts) ≡ Some (map list_in ts)
lists_some [] h = refl
lists_some (TList us ∷ ts) h = rw (lists_some ts h) refl
lists_some (t ∷ ts) h = cc

lists_none : (ts : List Tree) → all_lists ts ≡ false → all_as as_list (items_of ts) ≡ None
lists_none [] h = cc
lists_none (TList us ∷ ts) h = rw (lists_none ts h) refl
lists_none (t ∷ ts) h = refl

each_after_is : (s : List ℕ) (t : Tree) (ts : List Tree) → with_between s (map text_in (t ∷ ts)) ≡ text_in t ++ each_after s ts
each_after_is s t [] = sym (append-nil (text_in t))
each_after_is s t (u ∷ us) = ap (λ rest. text_in t ++ (s ++ rest)) (each_after_is s u us)

texts_between_is : (s : List ℕ) (ts : List Tree) → with_between s (map text_in ts) ≡ texts_between s ts
texts_between_is s [] = refl
texts_between_is s (t ∷ ts) = each_after_is s t ts

joined_listed : (ts : Trees) (us : List Tree) → joined ts (items_of us) ≡ items_of (list_of ts ++ us)
joined_listed Nil us = refl
joined_listed (Cons t ts) us = ap (λ rest. Cons t rest) (joined_listed ts us)

list_in_is : (t : Tree) → list_of (list_in t) ≡ items_in t
list_in_is (TList ts) = refl
list_in_is t = refl

items_among_is : (ts : List Tree) → all_joined (map list_in ts) ≡ items_of (items_among ts)
items_among_is [] = refl
items_among_is (t ∷ ts) = ap (joined (list_in t)) (items_among_is ts) ∙ joined_listed (list_in t) (items_among ts)
    ∙ ap (λ items. items_of (items ++ items_among ts)) (list_in_is t)

pub texts_not_all : (ts : List Tree) (s : List ℕ) → all_texts ts ≡ false
    → given (all_as as_text (items_of ts)) (λ texts. made (TText (with_between s texts))) ≡ Err Unknown
texts_not_all ts s h = rw (texts_none ts h) refl

pub texts_all : (ts : List Tree) (s : List ℕ) → all_texts ts ≡ true
    → given (all_as as_text (items_of ts)) (λ texts. made (TText (with_between s texts))) ≡ made (TText (texts_between s ts))
texts_all ts s h = rw (texts_some ts h) (ap (λ text. made (TText text)) (texts_between_is s ts))

pub lists_not_all : (ts : List Tree) → all_lists ts ≡ false
    → given (all_as as_list (items_of ts)) (λ lists. made (TList (all_joined lists))) ≡ Err Unknown
lists_not_all ts h = rw (lists_none ts h) refl

pub lists_all : (ts : List Tree) → all_lists ts ≡ true
    → given (all_as as_list (items_of ts)) (λ lists. made (TList (all_joined lists))) ≡ made (TList (items_of (items_among ts)))
lists_all ts h = rw (lists_some ts h) (ap (λ items. made (TList items)) (items_among_is ts))
