-- What is told of the records of a build, one after another.
use Rattle.std.proofs.Common.{◌≡◌, ℕ, zero, suc, ◌+◌, ◌<◌, ◌≤◌, Bool, true, false, cond, List, [], ◌∷◌, ◌++◌, length, get_or}
use Rattle.std.proofs.Common.{drop, map, Vec, Global, refl, sym, ap, ◌∙◌, arith}
use Rattle.std.proofs.Common.{append_assoc, append-nil}
use Rattle.std.proofs.lemmas.List.{drop_more}
use Rattle.std.specs.Prelude.{Option, None, Some}
use Rattle.std.specs.List.{cons_option, filter_map}
use Rattle.std.specs.Option.{option_and_then, option_map, option_to_list}
use Rattle.pie_record.specs.declared.task_record.TaskRecord.{TaskRecord}
use Rattle.pie_value.specs.Canonical.{enc_task}
use Rattle.pie_topdown_build.specs.inner.News.{Told, contents_of, told_where, told_with, with_hash, with_more}

-- ---- the contents of writes

-- contents in front of others, if these are there
abbrev pub with_all : List (List ℕ) → Option (List (List ℕ)) → Option (List (List ℕ))
with_all cs more = option_map (λ (ds : List (List ℕ)). cs ++ ds) more

abbrev items_in : List (Vec ℕ Global) → List (List ℕ)
items_in cs = map (λ (c : Vec ℕ Global). c.items) cs

none_of_none : {A : Type 0} (i : ℕ) → drop {A = A} i [] ≡ []
none_of_none zero = refl
none_of_none (suc i) = refl

none_left : {A : Type 0} (xs : List A) (i : ℕ) → length xs ≤ i → drop i xs ≡ []
none_left [] i le = none_of_none i
none_left (x ∷ xs) zero le = absurd (omega (arith, le))
none_left (x ∷ xs) (suc i) le = none_left xs i (omega (arith, le))

module _ (at : List ℕ → Option (List ℕ)) (ws : List (List ℕ × List ℕ)) where
  abbrev content : List ℕ × List ℕ → Option (List ℕ)
  content w = option_and_then (with_hash w.1) (at w.0)

  -- the contents so far, with those that are left, are all
  abbrev pub HasToldFirst : ℕ → List (Vec ℕ Global) → Type 0
  HasToldFirst i cs = with_all (items_in cs) (contents_of at (drop i ws)) ≡ contents_of at ws

  pub told_none_yet : HasToldFirst 0 []
  told_none_yet = id_map (contents_of at ws)
    where
      id_map : (o : Option (List (List ℕ))) → with_all [] o ≡ o
      id_map None = refl
      id_map (Some x) = refl

  left : (i : ℕ) (w : List ℕ × List ℕ) → i < length ws → w ≡ get_or ws i w
      → contents_of at (drop i ws) ≡ with_more (content w) (contents_of at (drop (i + 1) ws))
  left i w lt here =
      ap (contents_of at) (drop_more ws i w lt)
      ∙ ap (λ (v : List ℕ × List ℕ). with_more (content v) (contents_of at (drop (i + 1) ws))) (sym here)

  pub told_more : (i : ℕ) (cs ds : List (Vec ℕ Global)) (w : List ℕ × List ℕ) (c : Vec ℕ Global) → i < length ws → w ≡ get_or ws i w
      → Some c.items ≡ content w → ds ≡ cs ++ c ∷ [] → HasToldFirst i cs → HasToldFirst (i + 1) ds
  told_more i cs ds w c lt here is more so_far =
      ap (λ (xs : List (Vec ℕ Global)). with_all (items_in xs) (contents_of at (drop (i + 1) ws))) more
      ∙ ap (λ (xs : List (List ℕ)). with_all xs (contents_of at (drop (i + 1) ws))) (mapped cs)
      ∙ one (contents_of at (drop (i + 1) ws))
      ∙ ap (λ (o : Option (List ℕ)). with_all (items_in cs) (with_more o (contents_of at (drop (i + 1) ws)))) is
      ∙ ap (with_all (items_in cs)) (sym (left i w lt here))
      ∙ so_far
    where
      mapped : (xs : List (Vec ℕ Global)) → items_in (xs ++ c ∷ []) ≡ items_in xs ++ c.items ∷ []
      mapped [] = refl
      mapped (x ∷ xs) = ap (λ (ys : List (List ℕ)). x.items ∷ ys) (mapped xs)

      one : (o : Option (List (List ℕ))) → with_all (items_in cs ++ c.items ∷ []) o ≡ with_all (items_in cs) (with_more (Some c.items) o)
      one None = refl
      one (Some ds) = ap Some (append_assoc (items_in cs) (c.items ∷ []) ds)

  -- a content that isn't there
  pub told_none : (i : ℕ) (cs : List (Vec ℕ Global)) (w : List ℕ × List ℕ) → i < length ws → w ≡ get_or ws i w
      → None ≡ content w → HasToldFirst i cs → None ≡ contents_of at ws
  told_none i cs w lt here is so_far =
      ap (λ (o : Option (List ℕ)). with_all (items_in cs) (with_more o (contents_of at (drop (i + 1) ws)))) is
      ∙ ap (with_all (items_in cs)) (sym (left i w lt here)) ∙ so_far

  pub told_all : (i : ℕ) (cs : List (Vec ℕ Global)) → length ws ≤ i → HasToldFirst i cs → Some (items_in cs) ≡ contents_of at ws
  told_all i cs past so_far =
      ap Some (sym (append-nil (items_in cs)))
      ∙ ap (λ (vs : List (List ℕ × List ℕ)). with_all (items_in cs) (contents_of at vs)) (sym (none_left ws i past)) ∙ so_far

-- ---- the records

module _ (tells : TaskRecord → Option Told) (rows : List TaskRecord) where
  -- what was told so far, with what is told of the records that are left, is all
  abbrev pub ToldFirst : ℕ → List Told → Type 0
  ToldFirst i told = told ++ filter_map tells (drop i rows) ≡ filter_map tells rows

  pub first_told : ToldFirst 0 []
  first_told = refl

  pub more_told : (i : ℕ) (row : TaskRecord) (old new : List Told) → i < length rows → row ≡ get_or rows i row
      → new ≡ old ++ option_to_list (tells row) → ToldFirst i old → ToldFirst (i + 1) new
  more_told i row old new lt here more so_far =
      let rest = filter_map tells (drop (i + 1) rows) in
      ap (λ (l : List Told). l ++ rest) more ∙ append_assoc old (option_to_list (tells row)) rest
      ∙ ap (λ (l : List Told). old ++ l) (one (tells row) rest)
      ∙ ap (λ (r : TaskRecord). old ++ cons_option (tells r) rest) here
      ∙ ap (λ (rs : List TaskRecord). old ++ filter_map tells rs) (sym (drop_more rows i row lt)) ∙ so_far
    where
      one : (o : Option Told) (rest : List Told) → option_to_list o ++ rest ≡ cons_option o rest
      one None rest = refl
      one (Some t) rest = refl

  pub rows_told : (i : ℕ) (told : List Told) → length rows ≤ i → ToldFirst i told → told ≡ filter_map tells rows
  rows_told i told past so_far =
      sym (append-nil told) ∙ ap (λ (rs : List TaskRecord). told ++ filter_map tells rs) (sym (none_left rows i past)) ∙ so_far

-- ---- one record

module _ (has_run : List ℕ → Bool) (digest at : List ℕ → Option (List ℕ)) (row : TaskRecord) (old : List Told) where
  -- nothing is told of a task that didn't run
  pub not_told : has_run (enc_task row.task) ≡ false → old ≡ old ++ option_to_list (told_where has_run digest at row)
  not_told not =
      sym (append-nil old)
      ∙ ap (λ (t : Bool). old ++ option_to_list (cond t (told_with row (digest row.task.func) (contents_of at row.writes)) None)) (sym not)

  -- and of another what there is
  pub is_told : (new : List Told) (o : Option Told) → has_run (enc_task row.task) ≡ true → o ≡ told_with row (digest row.task.func) (contents_of at row.writes)
      → new ≡ old ++ option_to_list o → new ≡ old ++ option_to_list (told_where has_run digest at row)
  is_told new o ran is more =
      more ∙ ap (λ (p : Option Told). old ++ option_to_list p) is
      ∙ ap (λ (t : Bool). old ++ option_to_list (cond t (told_with row (digest row.task.func) (contents_of at row.writes)) None)) (sym ran)

-- a list that gained one
pub one_pushed : {A B : Type 0} (f : A → B) (old new : List A) (x y : A) → x ≡ y → new ≡ old ++ x ∷ [] → map f new ≡ map f old ++ f y ∷ []
one_pushed {A} {B} f old new x y is more = ap (map f) more ∙ pushed old ∙ ap (λ (z : A). map f old ++ f z ∷ []) is
  where
    pushed : (xs : List A) → map f (xs ++ x ∷ []) ≡ map f xs ++ f x ∷ []
    pushed [] = refl
    pushed (z ∷ xs) = ap (λ (l : List B). f z ∷ l) (pushed xs)
