-- The number of a task's function, by the headings.
use Rattle.std.proofs.Common.{◌≡◌, ℕ, ◌+◌, Bool, true, false, cond, List, [], ◌∷◌, ◌++◌, ap, sym, subst, ◌∙◌, refl, append_assoc}
use Rattle.std.specs.Prelude.{Option, Some, None, Ok, bytes_eq}
use Rattle.std.proofs.lemmas.List.{append-nil}
use Rattle.pie_value.specs.declared.task.Task.{Task}
use Rattle.pie_parser.specs.FunctionTrees.{FunctionTree}
use Rattle.pie_types.specs.Faults.{TypingResult, then_on}
use Rattle.pie_types.specs.Written.{written}
use Rattle.pie_types.specs.Headings.{Heading, function_in, place_from, may_be_named, params_from, signature_of, heading_of, headings_from}
use Rattle.pie_types.specs.Whole.{takes, number_from}
use Rattle.pie_types.proofs.Steps.{then_inv}

-- functions with their headings
pub data Headed : List FunctionTree → List Heading → Type 0 where
  none : Headed [] []
  one_more : {f : FunctionTree} {fs : List FunctionTree} {h : Heading} {hs : List Heading} → signature_of f ≡ Ok h → h.name ≡ f.name.text → Headed fs hs
      → Headed (f ∷ fs) (h ∷ hs)

name_of : (f : FunctionTree) (h : Heading) → signature_of f ≡ Ok h → h.name ≡ f.name.text
name_of f h e =
    let p = then_inv (params_from [] f.params) (λ ps. then_on (written f.result) (λ t. Ok (record { name = f.name.text; params = ps; result = t }))) h e in
    let q = then_inv (written f.result) (λ t. Ok (record { name = f.name.text; params = p.0; result = t })) h p.2 in
    let r : record { name = f.name.text; params = p.0; result = q.0 } ≡ h = cc in
    ap (λ (g : Heading). g.name) (sym r)

pub headed_from : (done : List Heading) (fs : List FunctionTree) (hs : List Heading) → headings_from done fs ≡ Ok hs
    → (gs : List Heading) × (hs ≡ done ++ gs) × Headed fs gs
headed_from done [] hs e = ([], (let p : hs ≡ done = cc in p) ∙ sym (append-nil done), none)
headed_from done (f ∷ fs) hs e =
    let p = then_inv (heading_of done f) (λ h. headings_from (done ++ h ∷ []) fs) hs e in
    let s = then_inv (may_be_named f.name done) (λ _. signature_of f) p.0 p.1 in
    let r = headed_from (done ++ p.0 ∷ []) fs hs p.2 in
    (p.0 ∷ r.0, r.1 ∙ append_assoc done (p.0 ∷ []) r.0, one_more s.2 (name_of f p.0 s.2) r.2)

-- a number for a function that takes the task
abbrev pick : Option Heading → Option ℕ → Task → Option ℕ
pick None o t = None
pick (Some h) o t = cond (takes (Ok h) t) o None

pick_by : (b : Bool) (n : ℕ) (h : Heading) (f : Option Heading) (o : Option ℕ) (t : Task)
    → cond b (cond (takes (Ok h) t) (Some n) None) (pick f o t) ≡ pick (cond b (Some h) f) (cond b (Some n) o) t
pick_by true n h f o t = refl
pick_by false n h f o t = refl

picked : (n : ℕ) (fs : List FunctionTree) (hs : List Heading) (t : Task) → Headed fs hs
    → number_from n fs t ≡ pick (function_in t.func hs) (place_from n t.func hs) t
picked n [] [] t none = refl
picked n (f ∷ fs) [] t x = elim x [ ]
picked n [] (h ∷ hs) t x = elim x [ ]
picked n (f ∷ fs) (h ∷ hs) t (one_more s m more) =
    ap (λ (name : List ℕ). cond (bytes_eq t.func name) (cond (takes (signature_of f) t) (Some n) None) (number_from (n + 1) fs t)) (sym m)
    ∙ ap (λ (o : TypingResult Heading). cond (bytes_eq t.func h.name) (cond (takes o t) (Some n) None) (number_from (n + 1) fs t)) s
    ∙ ap (λ (o : Option ℕ). cond (bytes_eq t.func h.name) (cond (takes (Ok h) t) (Some n) None) o) (picked (n + 1) fs hs t more)
    ∙ pick_by (bytes_eq t.func h.name) n h (function_in t.func hs) (place_from (n + 1) t.func hs) t

by_headings : (fs : List FunctionTree) (hs : List Heading) (t : Task) → headings_from [] fs ≡ Ok hs
    → number_from 0 fs t ≡ pick (function_in t.func hs) (place_from 0 t.func hs) t
by_headings fs hs t e = let p = headed_from [] fs hs e in picked 0 fs hs t (subst (Headed fs) (sym p.1) p.2)

pub find_none : (fs gs : List FunctionTree) (hs : List Heading) (t : Task) (n : List ℕ) → fs ≡ gs → n ≡ t.func → headings_from [] fs ≡ Ok hs
    → None ≡ function_in n hs → None ≡ number_from 0 gs t
find_none fs gs hs t n same name e f =
    sym (ap (λ (gs : List FunctionTree). number_from 0 gs t) (sym same) ∙ by_headings fs hs t e
    ∙ ap (λ (o : Option Heading). pick o (place_from 0 t.func hs) t) (ap (λ (m : List ℕ). function_in m hs) (sym name) ∙ sym f))

pub find_other : (fs gs : List FunctionTree) (hs : List Heading) (t : Task) (n : List ℕ) (h : Heading) → fs ≡ gs → n ≡ t.func → headings_from [] fs ≡ Ok hs
    → Some h ≡ function_in n hs → false ≡ takes (Ok h) t → None ≡ number_from 0 gs t
find_other fs gs hs t n h same name e f no_fit =
    sym (ap (λ (gs : List FunctionTree). number_from 0 gs t) (sym same) ∙ by_headings fs hs t e
    ∙ ap (λ (o : Option Heading). pick o (place_from 0 t.func hs) t) (ap (λ (m : List ℕ). function_in m hs) (sym name) ∙ sym f)
    ∙ ap (λ (b : Bool). cond b (place_from 0 t.func hs) None) (sym no_fit))

pub find_same : (fs gs : List FunctionTree) (hs : List Heading) (t : Task) (n : List ℕ) (h : Heading) → fs ≡ gs → n ≡ t.func → headings_from [] fs ≡ Ok hs
    → Some h ≡ function_in n hs → true ≡ takes (Ok h) t → place_from 0 n hs ≡ number_from 0 gs t
find_same fs gs hs t n h same name e f fit =
    ap (λ (m : List ℕ). place_from 0 m hs) name
    ∙ sym (ap (λ (gs : List FunctionTree). number_from 0 gs t) (sym same) ∙ by_headings fs hs t e
    ∙ ap (λ (o : Option Heading). pick o (place_from 0 t.func hs) t) (ap (λ (m : List ℕ). function_in m hs) (sym name) ∙ sym f)
    ∙ ap (λ (b : Bool). cond b (place_from 0 t.func hs) None) (sym fit))
