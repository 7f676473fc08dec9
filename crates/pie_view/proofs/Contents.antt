-- Contents by the look-ups of nested maps.
use Rattle.std.proofs.Common.{◌≡◌, ◌&&◌, ℕ, Bool, true, false, cond, List, [], ◌∷◌, Option, Some, None, map, refl, sym, ap, ◌∙◌}
use Rattle.std.specs.Prelude.{Vec}
use Rattle.std.specs.Option.{option_map}
use Rattle.std.specs.declared.cmp.Ordering.{Ordering}
use Rattle.std.specs.declared.cmp.Ordering.TheVariants.{Less, Equal, Greater}
use Rattle.std.specs.Ordering.{nat_cmp, is_eq}
use Rattle.std.specs.Cmp.Lexicographic.{slice_cmp}
use Rattle.std.specs.Map.{lookup, set_value}
use Rattle.std.specs.BTreeMap.{BTreeMap, get, is_at}
use Rattle.std.proofs.lemmas.Map.Lookups.{exact_unsigned}
use Rattle.pie_view.specs.Content.{file_in, content, is_pair, Puts, Drops}
use Rattle.pie_view.specs.Shown.{files_of, staged_of}

lookup_map : {K X Y : Type 0} (f : X → Y) (test : K → Bool) (es : List (K × X))
    → lookup test (map (λ (e : K × X). (e.0, f e.1)) es) ≡ option_map f (lookup test es)
lookup_map f test [] = refl
lookup_map {K} {X} {Y} f test (e ∷ es) =
    elim (test e.0) as (λ b. cond b (Some (f e.1)) (lookup test (map (λ (g : K × X). (g.0, f g.1)) es)) ≡ option_map f (cond b (Some e.1) (lookup test es)))
    [ true ↦ refl | false ↦ lookup_map f test es ]

-- the content at a path in the files that were found
abbrev pub at_files : {Z : Type 0} → Option (BTreeMap (List ℕ) (Vec ℕ Z)) → List ℕ → Option (List ℕ)
at_files None p = None
at_files {Z} (Some files) p = option_map (λ (v : Vec ℕ Z). v.items) (get (slice_cmp nat_cmp) files p)

in_files : {Z : Type 0} (o : Option (BTreeMap (List ℕ) (Vec ℕ Z))) (p : List ℕ) → file_in (option_map files_of o) p ≡ at_files o p
in_files None p = refl
in_files {Z} (Some files) p = lookup_map (λ (v : Vec ℕ Z). v.items) (λ q. is_eq (slice_cmp nat_cmp p q)) files.entries

pub content_is : {Z : Type 0} (tasks : BTreeMap ℕ (BTreeMap (List ℕ) (Vec ℕ Z))) (n : ℕ) (p : List ℕ)
    → content (staged_of tasks) n p ≡ at_files (get nat_cmp tasks n) p
content_is {Z} tasks n p =
    ap (λ (o : Option (List (List ℕ × List ℕ))). file_in o p) (lookup_map (files_of {Z = Z}) (λ m. is_eq (nat_cmp n m)) tasks.entries)
    ∙ in_files (get nat_cmp tasks n) p

cond_files : {Z : Type 0} (b : Bool) (o : Option (BTreeMap (List ℕ) (Vec ℕ Z))) (p : List ℕ) → at_files (cond b None o) p ≡ cond b None (at_files o p)
cond_files true o p = refl
cond_files false o p = refl

pub drops : {Z : Type 0} (old new : BTreeMap ℕ (BTreeMap (List ℕ) (Vec ℕ Z))) (task : ℕ)
    → ((q : ℕ) → get nat_cmp new q ≡ cond (is_eq (nat_cmp task q)) None (get nat_cmp old q)) → Drops (staged_of old) (staged_of new) task
drops old new task up = λ n p.
    content_is new n p ∙ ap (λ o. at_files o p) (up n) ∙ cond_files (is_eq (nat_cmp task n)) (get nat_cmp old n) p
    ∙ ap (λ c. cond (is_eq (nat_cmp task n)) None c) (sym (content_is old n p))

equal : (o : Ordering) → is_eq o ≡ true → o ≡ Equal
equal Less e = cc
equal Equal e = refl
equal Greater e = cc

chosen : {Z : Type 0} (same tie : Bool) (files : BTreeMap (List ℕ) (Vec ℕ Z)) (old : Option (BTreeMap (List ℕ) (Vec ℕ Z))) (p bytes : List ℕ)
    → (same ≡ true → at_files (Some files) p ≡ cond tie (Some bytes) (at_files old p))
    → at_files (cond same (Some files) old) p ≡ cond (same && tie) (Some bytes) (at_files old p)
chosen true tie files old p bytes h = h refl
chosen false tie files old p bytes h = refl

pub puts : {Z : Type 0} (old new : BTreeMap ℕ (BTreeMap (List ℕ) (Vec ℕ Z))) (task : ℕ) (path bytes : List ℕ) (files : BTreeMap (List ℕ) (Vec ℕ Z))
    → ((q : ℕ) → get nat_cmp new q ≡ cond (is_eq (nat_cmp task q)) (Some files) (get nat_cmp old q))
    → ((p : List ℕ) → at_files (Some files) p ≡ cond (is_eq (slice_cmp nat_cmp path p)) (Some bytes) (at_files (get nat_cmp old task) p))
    → Puts (staged_of old) (staged_of new) task path bytes
puts old new task path bytes files up inner = λ n p.
    content_is new n p ∙ ap (λ o. at_files o p) (up n)
    ∙ chosen (is_eq (nat_cmp task n)) (is_eq (slice_cmp nat_cmp path p)) files (get nat_cmp old n) p bytes
    (λ e. inner p ∙ ap (λ m. cond (is_eq (slice_cmp nat_cmp path p)) (Some bytes) (at_files (get nat_cmp old m) p))
    (exact_unsigned task n (equal (nat_cmp task n) e)))
    ∙ ap (λ c. cond (is_pair task path n p) (Some bytes) c) (sym (content_is old n p))

items_of : {Z : Type 0} (b : Bool) (v : Vec ℕ Z) (o : Option (Vec ℕ Z))
    → option_map (λ (w : Vec ℕ Z). w.items) (cond b (Some v) o) ≡ cond b (Some v.items) (option_map (λ (w : Vec ℕ Z). w.items) o)
items_of true v o = refl
items_of false v o = refl

-- one file goes into the files of a task
pub file_put : {Z : Type 0} (old new : BTreeMap (List ℕ) (Vec ℕ Z)) (path : List ℕ) (bytes : Vec ℕ Z)
    → ((q : List ℕ) → get (slice_cmp nat_cmp) new q ≡ cond (is_eq (slice_cmp nat_cmp path q)) (Some bytes) (get (slice_cmp nat_cmp) old q)) → (p : List ℕ)
    → at_files (Some new) p ≡ cond (is_eq (slice_cmp nat_cmp path p)) (Some bytes.items) (at_files (Some old) p)
file_put {Z} old new path bytes up p = ap (option_map (λ (w : Vec ℕ Z). w.items)) (up p)
    ∙ items_of (is_eq (slice_cmp nat_cmp path p)) bytes (get (slice_cmp nat_cmp) old p)

pub none_found : {Z : Type 0} (files : BTreeMap (List ℕ) (Vec ℕ Z)) (p : List ℕ) → files.entries ≡ [] → at_files (Some files) p ≡ None
none_found {Z} files p e = ap (λ (es : List (List ℕ × Vec ℕ Z)). option_map (λ (w : Vec ℕ Z). w.items) (lookup (λ q. is_eq (slice_cmp nat_cmp p q)) es)) e

write_step : {K X Y : Type 0} (f : X → Y) (test : K → Bool) (e : K × X) (es : List (K × X)) (w x : X) (b : Bool) → f w ≡ f x
    → (lookup test es ≡ Some x → map {B = K × Y} (λ (g : K × X). (g.0, f g.1)) (set_value test es w) ≡ map {B = K × Y} (λ (g : K × X). (g.0, f g.1)) es)
    → cond b (Some e.1) (lookup test es) ≡ Some x → map {B = K × Y} (λ (g : K × X). (g.0, f g.1))
    (cond b ((e.0, w) ∷ es) (e ∷ set_value test es w)) ≡ map {B = K × Y} (λ (g : K × X). (g.0, f g.1)) (e ∷ es)
write_step {K} {X} {Y} f test e es w x true same more found =
    let there : x ≡ e.1 = cc in
    ap (λ (y : Y). (e.0, y) ∷ map {B = K × Y} (λ (g : K × X). (g.0, f g.1)) es) (same ∙ ap f there)
write_step {K} {X} {Y} f test e es w x false same more found = ap (λ l. (e.0, f e.1) ∷ l) (more found)

-- what looks like what was found is written back
write_same : {K X Y : Type 0} (f : X → Y) (test : K → Bool) (es : List (K × X)) (w x : X) → f w ≡ f x → lookup test es ≡ Some x
    → map {B = K × Y} (λ (g : K × X). (g.0, f g.1)) (set_value test es w) ≡ map {B = K × Y} (λ (g : K × X). (g.0, f g.1)) es
write_same f test [] w x same found = refl
write_same f test (e ∷ es) w x same found = write_step f test e es w x (test e.0) same (write_same f test es w x same) found

pub same_staged : {Z : Type 0} (old new : BTreeMap ℕ (BTreeMap (List ℕ) (Vec ℕ Z))) (task : ℕ) (files found : BTreeMap (List ℕ) (Vec ℕ Z))
    → new.entries ≡ set_value (is_at (nat_cmp task)) old.entries files → files.entries ≡ found.entries → get nat_cmp old task ≡ Some found
    → staged_of new ≡ staged_of old
same_staged {Z} old new task files found written same there =
    ap (λ (es : List (ℕ × BTreeMap (List ℕ) (Vec ℕ Z))). map (λ (t : ℕ × BTreeMap (List ℕ) (Vec ℕ Z)). (t.0, files_of t.1)) es) written
    ∙ write_same (files_of {Z = Z}) (is_at (nat_cmp task)) old.entries files found
    (ap (λ (es : List (List ℕ × Vec ℕ Z)). map (λ (f : List ℕ × Vec ℕ Z). (f.0, f.1.items)) es) same) there
