-- No call, one, or several one after another.
use Rattle.std.proofs.Common.{◌≡◌, ◌⊎◌, inl, inr, ℕ, List, [], ◌∷◌, ◌++◌, Option, Some, None, refl, ap, sym, subst, ◌∙◌, append_assoc}
use Rattle.std.specs.Prelude.{IfSome, Result, Ok, Err}
use Rattle.std.proofs.lemmas.List.{append-nil}
use Rattle.std.proofs.lemmas.List.Elements.{All-nil, All-cons, All-append}
use Rattle.pie_files.specs.declared.files.Call.{Call}
use Rattle.pie_files.specs.declared.files.Call.TheVariants.{Read, Names, AllUnder, Write, Remove, Sync}
use Rattle.pie_files.specs.declared.files.FilesError.{FilesError}
use Rattle.pie_files.specs.declared.files.FilesError.TheVariants.{Failed, OutOfMemory}
use Rattle.pie_files.specs.Calls.{Called, Notes, NotesUnlessMemory}
use Rattle.pie_named.specs.declared.stamps.FileStamp.{FileStamp}
use Rattle.pie_named.specs.Asking.{LooksAt, AreFollowed, MakesOnly, AsksOnce}

-- ---- one question

none_is_not_some : {A : Type 0} (o : Option A) (a : A) → o ≡ None → o ≡ Some a → ⊥
none_is_not_some o a none some = cc

-- nothing was asked
pub asks_nothing : (known : Option (Option FileStamp)) (call : Call) (before after : Option (List Call)) → after ≡ before → AsksOnce known call before after
asks_nothing known call before after same = record { not = λ _ _. same; once = inl same }

-- a call was made, as nothing was known
pub asks_now : {S T : Type 0} (asked : S → Option (List Call)) (faults : S → ℕ) (call : Call) (old new : S) (result : Result T FilesError)
    → Called asked faults (λ c. c ≡ call) old new result → AsksOnce None call (asked old) (asked new)
asks_now {S} {T} asked faults call old new result called = record {
  not = λ stamp known. absurd (none_is_not_some None stamp refl known);
  once = by result called.noted;
}
  where
    by : (r : Result T FilesError) → NotesUnlessMemory r (λ c. c ≡ call) (asked old) (asked new)
        → (asked new ≡ asked old) ⊎ Notes (λ c. c ≡ call) (asked old) (asked new)
    by (Ok value) h = inr h
    by (Err Failed) h = inr h
    by (Err OutOfMemory) h = h

pub asks_unknown : (known : Option (Option FileStamp)) (call : Call) (before after : Option (List Call)) → known ≡ None → AsksOnce None call before after
    → AsksOnce known call before after
asks_unknown known call before after none asks = subst (λ o. AsksOnce o call before after) (sym none) asks

-- what the search takes for a function that asks at the most once
pub ruleset asks = (asks_nothing, asks_now, asks_unknown)

-- ---- calls of a kind

pub no_calls : (kind : Call → Type 0) (before after : Option (List Call)) → after ≡ before → MakesOnly kind before after
no_calls kind None after same = record { made = tt }
no_calls kind (Some calls) after same = record { made = record { more = []; are = same ∙ ap Some (sym (append-nil calls)); each = All-nil kind } }

pub one_call : (kind : Call → Type 0) (call : Call) (before after : Option (List Call)) → kind call → Notes (λ c. c ≡ call) before after
    → MakesOnly kind before after
one_call kind call None after is noted = record { made = tt }
one_call kind call (Some calls) after is noted = record {
  made = record { more = noted.0 ∷ []; are = noted.2; each = All-cons kind noted.0 [] (subst kind (sym noted.1) is) (All-nil kind) };
}

pub made_once : (kind : Call → Type 0) (known : Option (Option FileStamp)) (call : Call) (before after : Option (List Call)) → kind call
    → AsksOnce known call before after → MakesOnly kind before after
made_once kind known call before after is asks = by asks.once
  where
    by : (after ≡ before) ⊎ Notes (λ c. c ≡ call) before after → MakesOnly kind before after
    by (inl same) = no_calls kind before after same
    by (inr noted) = one_call kind call before after is noted

pub calls_then : (kind : Call → Type 0) (before mid after : Option (List Call)) → MakesOnly kind before mid → MakesOnly kind mid after
    → MakesOnly kind before after
calls_then kind None mid after first second = record { made = tt }
calls_then kind (Some calls) mid after first second =
    let a = first.made in
    let b : AreFollowed kind (calls ++ a.more) after = subst (λ o. IfSome o (λ cs. AreFollowed kind cs after)) a.are second.made in
    record {
      made = record {
        more = a.more ++ b.more;
        are = b.are ∙ ap Some (append_assoc calls a.more b.more);
        each = All-append kind a.more b.more a.each b.each;
      };
    }

pub calls_as : (kind other : Call → Type 0) (before after : Option (List Call)) → ((c : Call) → kind c → other c) → MakesOnly kind before after
    → MakesOnly other before after
calls_as kind other None after implies made = record { made = tt }
calls_as kind other (Some calls) after implies made = record {
  made = record { more = made.made.more; are = made.made.are; each = λ k d lt. implies _ (made.made.each k d lt) };
}

-- ---- looks at paths

pub looks_as : (P Q : List ℕ → Type 0) → ((p : List ℕ) → P p → Q p) → (c : Call) → LooksAt P c → LooksAt Q c
looks_as P Q implies (Read p) h = implies p h
looks_as P Q implies (Names p) h = implies p h
looks_as P Q implies (AllUnder p) h = h
looks_as P Q implies (Write p m) h = h
looks_as P Q implies (Remove p) h = h
looks_as P Q implies Sync h = h

pub asks_as : (P Q : List ℕ → Type 0) (before after : Option (List Call)) → ((p : List ℕ) → P p → Q p) → MakesOnly (LooksAt P) before after
    → MakesOnly (LooksAt Q) before after
asks_as P Q before after implies made = calls_as (LooksAt P) (LooksAt Q) before after (looks_as P Q implies) made
