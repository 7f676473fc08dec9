-- What is asked and left, one call after another.
use Rattle.std.proofs.Common.{◌≡◌, inl, inr, ℕ, suc, List, [], ◌∷◌, ◌++◌, take, Option, Some, None, Result, Ok, Err, refl, sym, subst, ap, ◌∙◌, append_assoc}
use Rattle.std.proofs.Common.{arith}
use Rattle.std.specs.Prelude.{OnOk, IsErrOf}
use Rattle.std.proofs.lemmas.List.{append-nil}
use Rattle.pie_files.specs.declared.files.Call.{Call}
use Rattle.pie_files.specs.declared.files.FilesError.{FilesError}
use Rattle.pie_files.specs.declared.files.FilesError.TheVariants as files
use Rattle.pie_files.specs.Calls.{Called, Notes, NotesUnlessMemory}
use Rattle.pie_files.specs.Directory.{Directory}
use Rattle.pie_files.specs.Faults.{Rose}
use Rattle.pie_project.specs.declared.fault.BuildError.{BuildError}
use Rattle.pie_project.specs.declared.fault.BuildError.TheVariants as errors
use Rattle.pie_project.specs.inner.Errors.{files_error}
use Rattle.pie_project.specs.Looking.{Asks, AsksAll, Looks}
use Rattle.pie_project.specs.Refusals.{IsVerdict}

-- one call is noted
noted : (call : Call) (before after : Option (List Call)) → Notes (λ c. c ≡ call) before after → AsksAll (call ∷ []) before after
noted call None after h = tt
noted call (Some calls) after h = h.2 ∙ ap (λ c. Some (calls ++ c ∷ [])) h.1

-- a prefix of one call more
front_of_all : (call : Call) (more : List Call) (before after : Option (List Call)) → AsksAll (call ∷ []) before after → Asks (call ∷ more) before after
front_of_all call more None after h = tt
front_of_all call more (Some calls) after h = (1, h)

-- none of the calls
front_of_none : (all : List Call) (before after : Option (List Call)) → after ≡ before → Asks all before after
front_of_none all None after h = tt
front_of_none all (Some calls) after h = (0, h ∙ ap (λ c. Some c) (sym (append-nil calls)))

-- one call, and then others
asks_then : (call : Call) (more : List Call) (before between after : Option (List Call)) → AsksAll (call ∷ []) before between → Asks more between after
    → Asks (call ∷ more) before after
asks_then call more None between after h k = tt
asks_then call more (Some calls) between after h k =
    let m = subst (λ o. Asks more o after) h k in
    (suc m.0, m.1 ∙ ap (λ c. Some c) (append_assoc calls (call ∷ []) (take m.0 more)))

all_then : (call : Call) (more : List Call) (before between after : Option (List Call)) → AsksAll (call ∷ []) before between → AsksAll more between after
    → AsksAll (call ∷ more) before after
all_then call more None between after h k = tt
all_then call more (Some calls) between after h k =
    let m = subst (λ o. AsksAll more o after) h k in m ∙ ap (λ c. Some c) (append_assoc calls (call ∷ []) more)

on_ok_then : {T : Type 0} (result : Result T BuildError) (P Q : Type 0) → (P → Q) → OnOk result P → OnOk result Q
on_ok_then (Ok x) P Q f h = f h
on_ok_then (Err e) P Q f h = h

on_ok_so : {T : Type 0} (result : Result T BuildError) (P : Type 0) → P → OnOk result P
on_ok_so (Ok x) P h = h
on_ok_so (Err e) P h = tt

-- no calls are none
pub always_none : {T : Type 0} (result : Result T BuildError) → OnOk result (◌≡◌ {A = List Call} [] [])
always_none result = on_ok_so result (◌≡◌ {A = List Call} [] []) refl

module _ {S : Type 0} (holds : S → Option Directory) (asked : S → Option (List Call)) (faults : S → ℕ) where
  -- a call that failed
  asks_failed : (A : Type 0) (e : FilesError) (call : Call) (more : List Call) (before after : Option (List Call))
      → NotesUnlessMemory {T = A} (Err e) (λ c. c ≡ call) before after → Asks (call ∷ more) before after
  asks_failed A files.Failed call more before after h = front_of_all call more before after (noted call before after h)
  asks_failed A files.OutOfMemory call more before after (inl h) = front_of_none (call ∷ more) before after h
  asks_failed A files.OutOfMemory call more before after (inr h) = front_of_all call more before after (noted call before after h)

  steady_failed : (T : Type 0) (e : FilesError) (P : Type 0) → IsVerdict {A = T} (Err (files_error e)) → P
  steady_failed T files.Failed P h = absurd h
  steady_failed T files.OutOfMemory P h = absurd h

  cause_failed : (A T : Type 0) (e : FilesError) (old new : S) → (IsErrOf {T = A} (Err e) files.Failed → Rose (faults old) (faults new))
      → IsErrOf {T = T} (Err (files_error e)) errors.Files → Rose (faults old) (faults new)
  cause_failed A T files.Failed old new f h = f refl
  cause_failed A T files.OutOfMemory old new f h = absurd (cc)

  pub looks_failed : {A T : Type 0} (e : FilesError) (call : Call) (more : List Call) (old new : S) → holds new ≡ holds old
      → Called {T = A} asked faults (λ c. c ≡ call) old new (Err e)
      → Looks {T = T} holds asked faults (call ∷ more) old new (Err (files_error e))
  looks_failed {A = A} {T = T} e call more old new h c = record {
    same = h;
    asks = asks_failed A e call more (asked old) (asked new) c.noted;
    all = tt;
    later = c.later;
    steady = steady_failed T e (faults new ≡ faults old);
    cause = cause_failed A T e old new c.cause;
  }

  -- a call, and no more
  pub looks_here : {A T : Type 0} (a : A) (result : Result T BuildError) (call : Call) (more : List Call) (old new : S) → holds new ≡ holds old
      → Called asked faults (λ c. c ≡ call) old new (Ok a)
      → OnOk result (more ≡ []) → (IsErrOf result errors.Files → ⊥) → Looks holds asked faults (call ∷ more) old new result
  looks_here a result call more old new h c e n =
      let one = noted call (asked old) (asked new) c.noted in
      record {
        same = h;
        asks = front_of_all call more (asked old) (asked new) one;
        all = on_ok_then result (more ≡ []) (AsksAll (call ∷ more) (asked old) (asked new))
            (λ q. subst (λ m. AsksAll (call ∷ m) (asked old) (asked new)) (sym q) one) e;
        later = c.later;
        steady = λ v. c.steady;
        cause = λ q. absurd (n q);
      }

  -- a call, and then others
  pub looks_then : {A T : Type 0} (a : A) (result : Result T BuildError) (call : Call) (more : List Call) (old between new : S) → holds between ≡ holds old
      → Called asked faults (λ c. c ≡ call) old between (Ok a)
      → Looks holds asked faults more between new result → Looks holds asked faults (call ∷ more) old new result
  looks_then a result call more old between new h c l =
      let one = noted call (asked old) (asked between) c.noted in
      record {
        same = l.same ∙ h;
        asks = asks_then call more (asked old) (asked between) (asked new) one l.asks;
        all = on_ok_then result (AsksAll more (asked between) (asked new)) (AsksAll (call ∷ more) (asked old) (asked new))
            (all_then call more (asked old) (asked between) (asked new) one) l.all;
        later = omega (arith, c.later, l.later);
        steady = λ v. l.steady v ∙ c.steady;
        cause = λ q. subst (λ n. Rose n (faults new)) c.steady (l.cause q);
      }

  -- what was asked stays the same where only the answer changes
  pub looks_as : {A T : Type 0} (a : A) (result : Result T BuildError) (calls : List Call) (old new : S) → Looks holds asked faults calls old new (Ok a)
      → (IsErrOf result errors.Files → ⊥)
      → Looks holds asked faults calls old new result
  looks_as a result calls old new l n = record {
    same = l.same;
    asks = l.asks;
    all = on_ok_so result (AsksAll calls (asked old) (asked new)) l.all;
    later = l.later;
    steady = λ v. l.steady tt;
    cause = λ q. absurd (n q);
  }

  -- no call
  pub looks_none : {T : Type 0} (e : BuildError) (calls : List Call) (old : S) → (IsErrOf {T = T} (Err e) errors.Files → ⊥)
      → Looks {T = T} holds asked faults calls old old (Err e)
  looks_none e calls old n = record {
    same = refl;
    asks = front_of_none calls (asked old) (asked old) refl;
    all = tt;
    later = omega arith;
    steady = λ v. refl;
    cause = λ q. absurd (n q);
  }

  verdict_so : (A B : Type 0) (e : BuildError) → IsVerdict {A = B} (Err e) → IsVerdict {A = A} (Err e)
  verdict_so A B (errors.Pipeline f) v = tt
  verdict_so A B (errors.Roots r) v = tt
  verdict_so A B errors.Files v = v
  verdict_so A B errors.OutOfMemory v = v

  files_so : (A B : Type 0) (e : BuildError) → IsErrOf {T = B} (Err e) errors.Files → IsErrOf {T = A} (Err e) errors.Files
  files_so A B (errors.Pipeline f) q = absurd (cc)
  files_so A B (errors.Roots r) q = absurd (cc)
  files_so A B errors.Files q = refl
  files_so A B errors.OutOfMemory q = absurd (cc)

  -- the same of another kind of answer
  pub looks_err : (A B : Type 0) (e : BuildError) (calls : List Call) (old new : S) → Looks {T = A} holds asked faults calls old new (Err e)
      → Looks {T = B} holds asked faults calls old new (Err e)
  looks_err A B e calls old new l = record {
    same = l.same;
    asks = l.asks;
    all = tt;
    later = l.later;
    steady = λ v. l.steady (verdict_so A B e v);
    cause = λ q. l.cause (files_so A B e q);
  }
