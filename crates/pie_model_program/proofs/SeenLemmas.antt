-- All writes show the same at a path as the first ones.
use Rattle.std.proofs.Common.{ℕ, ◌≡◌, Bool, true, false, cond, Option, Some, List, [], ◌∷◌, ◌++◌, sym, ◌∙◌, ap, subst, refl, append_assoc, bytes_eq}
use Rattle.pie_model.specs.Paths.{Path}
use Rattle.pie_model.specs.declared.words.Kind.{Kind}
use Rattle.pie_model.specs.declared.words.Kind.TheVariants.{Out, Kept, Source}
use Rattle.pie_model.specs.Tasks.{Task}
use Rattle.pie_model.specs.Trees.{Node, node, Trace, ends, looks, lists, writes, needs, writes_of}
use Rattle.pie_model.specs.declared.words.Seen.TheVariants.{Holds, Clashing}
use Rattle.pie_model.specs.Seen.{first_write, writer, writers, writers_below, writers_in, all_by, by_writers, provided, own_first, visible_by}
use Rattle.pie_model.proofs.Basics.{bytes_same}
use Rattle.pie_model_program.specs.Written.{tagged, written_in, written_below, written_in_all, at_path, seen_by}

pub at_path-append : (p : Path) (xs ys : List (Task × Path × List ℕ)) → at_path p (xs ++ ys) ≡ at_path p xs ++ at_path p ys
at_path-append p [] ys = refl
at_path-append p (x ∷ xs) ys = go (bytes_eq p x.1) (at_path-append p xs ys)
  where
    go : (b : Bool) → at_path p (xs ++ ys) ≡ at_path p xs ++ at_path p ys
        → cond b ((x.0, x.2) ∷ at_path p (xs ++ ys)) (at_path p (xs ++ ys)) ≡ cond b ((x.0, x.2) ∷ at_path p xs) (at_path p xs) ++ at_path p ys
    go true e = ap (λ z. (x.0, x.2) ∷ z) e
    go false e = e

-- two lists of writers show the same
record Alike (xs ys : List (Task × List ℕ)) : Type 0 where
  seen : by_writers xs ≡ by_writers ys
  all : (c : Task) → all_by c xs ≡ all_by c ys

alike_itself : (xs : List (Task × List ℕ)) → Alike xs xs
alike_itself xs = record { seen = refl; all = λ c. refl }

-- further writes of one task change nothing for it
same_task_more : (p : Path) (c t : Task) (ws : List (Path × List ℕ)) (rest : List (Task × List ℕ)) → bytes_eq c t ≡ true
    → all_by c (at_path p (tagged t ws) ++ rest) ≡ all_by c rest
same_task_more p c t [] rest e = refl
same_task_more p c t (w ∷ ws) rest e = go (bytes_eq p w.0) (same_task_more p c t ws rest e)
  where
    go : (b : Bool) → all_by c (at_path p (tagged t ws) ++ rest) ≡ all_by c rest
        → all_by c (cond b ((t, w.1) ∷ at_path p (tagged t ws)) (at_path p (tagged t ws)) ++ rest) ≡ all_by c rest
    go true r = ap (λ b. cond b (all_by c (at_path p (tagged t ws) ++ rest)) false) e ∙ r
    go false r = r

front_alike : (p : Path) (t : Task) (ws : List (Path × List ℕ)) (xs ys : List (Task × List ℕ)) → Alike xs ys
    → Alike (at_path p (tagged t ws) ++ xs) (writer t (first_write p ws) ++ ys)
front_alike p t [] xs ys a = a
front_alike p t (w ∷ ws) xs ys a = go (bytes_eq p w.0) (front_alike p t ws xs ys a)
  where
    one : (c : Task) (b : Bool) → bytes_eq c t ≡ b
        → cond b (all_by c (at_path p (tagged t ws) ++ xs)) false ≡ cond b (all_by c ys) false
    one c true e = same_task_more p c t ws xs e ∙ a.all c
    one c false e = refl

    go : (b : Bool) → Alike (at_path p (tagged t ws) ++ xs) (writer t (first_write p ws) ++ ys)
        → Alike (cond b ((t, w.1) ∷ at_path p (tagged t ws)) (at_path p (tagged t ws)) ++ xs) (writer t (cond b (Some w.1) (first_write p ws)) ++ ys)
    go true r = record {
      seen = ap (λ b. cond b (Holds w.1 0) Clashing) (same_task_more p t t ws xs (bytes_same t) ∙ a.all t);
      all = λ c. one c (bytes_eq c t) refl;
    }
    go false r = r

front_append : (xs ys zs : List (Task × List ℕ)) → (xs ++ ys) ++ zs ≡ xs ++ (ys ++ zs)
front_append xs ys zs = append_assoc xs ys zs

mutual
  tree_alike : (p : Path) (n : Node) (xs ys : List (Task × List ℕ)) → Alike xs ys → Alike (at_path p (written_in n) ++ xs) (writers p n ++ ys)
  tree_alike p (node t k) xs ys a =
      subst (λ z. Alike (z ++ xs) (writers p (node t k) ++ ys)) (sym (at_path-append p (tagged t (writes_of k)) (written_below k)))
      (subst (λ z. Alike z (writers p (node t k) ++ ys)) (sym (append_assoc (at_path p (tagged t (writes_of k))) (at_path p (written_below k)) xs))
      (subst (λ z. Alike (at_path p (tagged t (writes_of k)) ++ (at_path p (written_below k) ++ xs)) z)
      (sym (append_assoc (writer t (first_write p (writes_of k))) (writers_below p k) ys))
      (front_alike p t (writes_of k) (at_path p (written_below k) ++ xs) (writers_below p k ++ ys) (below_alike p k xs ys a))))

  below_alike : (p : Path) (k : Trace) (xs ys : List (Task × List ℕ)) → Alike xs ys
      → Alike (at_path p (written_below k) ++ xs) (writers_below p k ++ ys)
  below_alike p (ends e) xs ys a = a
  below_alike p (looks l q s k) xs ys a = below_alike p k xs ys a
  below_alike p (lists d es k) xs ys a = below_alike p k xs ys a
  below_alike p (writes q b k) xs ys a = below_alike p k xs ys a
  below_alike p (needs h u n k) xs ys a =
      subst (λ z. Alike (z ++ xs) ((writers p n ++ writers_below p k) ++ ys)) (sym (at_path-append p (written_in n) (written_below k)))
      (subst (λ z. Alike z ((writers p n ++ writers_below p k) ++ ys))
      (sym (append_assoc (at_path p (written_in n)) (at_path p (written_below k)) xs))
      (subst (λ z. Alike (at_path p (written_in n) ++ (at_path p (written_below k) ++ xs)) z)
      (sym (append_assoc (writers p n) (writers_below p k) ys))
      (tree_alike p n (at_path p (written_below k) ++ xs) (writers_below p k ++ ys) (below_alike p k xs ys a))))

all_alike : (p : Path) (ns : List Node) → Alike (at_path p (written_in_all ns)) (writers_in p ns)
all_alike p [] = alike_itself []
all_alike p (n ∷ ns) =
    subst (λ z. Alike z (writers p n ++ writers_in p ns)) (sym (at_path-append p (written_in n) (written_in_all ns)))
    (tree_alike p n (at_path p (written_in_all ns)) (writers_in p ns) (all_alike p ns))

pub written_provided : (p : Path) (ns : List Node) → by_writers (at_path p (written_in_all ns)) ≡ provided ns p
unfolding provided
written_provided p ns = (all_alike p ns).seen

pub seen_visible : (file : Path → Option (List ℕ × ℕ)) (own : List (Path × List ℕ)) (below : List (Task × Path × List ℕ)) (kids : List Node)
    (p : Path) (k : Kind)
    → below ≡ written_in_all kids → visible_by file own kids p k ≡ seen_by file own below p k
seen_visible file own below kids p Out e = ap (own_first (first_write p own))
    (sym (written_provided p kids) ∙ ap (λ z. by_writers (at_path p z)) (sym e))
seen_visible file own below kids p Kept e = refl
seen_visible file own below kids p Source e = refl
